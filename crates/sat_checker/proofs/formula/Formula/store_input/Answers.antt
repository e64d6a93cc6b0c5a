use Rattle.std.proofs.Common.{refl}
use Rattle.sat_checker.proofs.lemmas.formula.Storing.{input_stored}
use Rattle.sat_checker.proofs.formula.Formula.store_input.Goals as goal

pub returns-clause-stored : goal.returns-clause-stored
returns-clause-stored c = λ clause e f k.
    input_stored c.take_id_if.result c.args.self.now c.store_clause.new.self c.take_id_if.new.self f clause _ k (c.in_ok-store_clause.ensures.stored clause e f k) refl c.take_id_if.ensures
