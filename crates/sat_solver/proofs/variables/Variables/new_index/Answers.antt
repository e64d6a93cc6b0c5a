use Rattle.std.proofs.Common.{◌<◌, length, sym, ◌∙◌, ap, subst}
use Rattle.sat_base.specs.values.Literals.{var_limit}
use Rattle.sat_solver.proofs.lemmas.variables.NextIndices.{index_left}
use Rattle.sat_solver.proofs.variables.Variables.new_index.Goals as goal

pub from_index-requires : goal.from_index-requires
from_index-requires c = subst (λ k. k < var_limit) (sym (c.watermark.ensures ∙ ap length c.bwd.ensures.map)) (index_left c.args.self.now c.args._global c.requires.tidy c.requires.live c.requires.without c.requires.none)
