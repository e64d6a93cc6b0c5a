use Rattle.std.proofs.Common.{◌∙◌, refl, ap}
use Rattle.sat_checker.specs.Storing.{clause_with}
use Rattle.sat_checker.specs.inner.StoreView.{store_count_in}
use Rattle.sat_checker.proofs.lemmas.sets.Parts.{same_canonical}
use Rattle.sat_checker.proofs.lemmas.state.InRoom.{has_count}
use Rattle.sat_checker.proofs.formula.Formula.marked_has_count.Goals as goal

pub returns-clause-found : goal.returns-clause-found
returns-clause-found c = λ f k.
    has_count _ c.assumed_count.result _ refl
    (c.assumed_count.ensures.found f k.clauses ∙ ap (λ ls. store_count_in c.args.redundant (clause_with ls f.clauses)) (same_canonical c.args.self.now.marks.literals c.args.clause.now c.requires))
