use Rattle.std.specs.Prelude.{None}
use Rattle.sat_store.specs.variables.Maps.{SetsTarget}
use Rattle.sat_store.specs.variables.Codes.{targets_of}
use Rattle.sat_store.proofs.lemmas.variables.CodeLemmas.{code_cut_out}
use Rattle.sat_store.proofs.var_map.VarMap.cut.Goals as goal

pub returns-clause-put : goal.returns-clause-put
returns-clause-put c =
    let puts : SetsTarget (targets_of c.truncate.new.self.items) c.remove.new.self c.args.from None = c.remove.ensures.put in
    rw (← c.self.view_is) (code_cut_out _ _ _ _ (rw (← c.truncate.ensures.items) puts))
