use Rattle.std.proofs.Common.{List, ◌+◌, ap, ◌∙◌, arith}
use Rattle.sat_checker.specs.Stored.{StoredClause}
use Rattle.sat_checker.specs.inner.ModelTests.{are_all_true, irredundant_length}
use Rattle.sat_checker.proofs.lemmas.store.Rehashing.{looks_anew, stored_live}
use Rattle.std.proofs.lemmas.Grind.{common_steps}
use Rattle.sat_checker.proofs.store.Store.are_satisfied.Goals as goal

pub returns-clause-found : goal.returns-clause-found
returns-clause-found c = λ f k. c.are_satisfied.ensures.found ∙ ap (are_all_true c.args.assigned.now.literals) (stored_live c.args.self.now f k)

pub returns-clause-looks : goal.returns-clause-looks
returns-clause-looks c = record {
  rise = grind (arith, common_steps);
  most = looks_anew c.args.self.now c.args.looks.now c.are_satisfied.new.looks c.are_satisfied.ensures.looks.most;
}

pub returns-clause-all : goal.returns-clause-all
returns-clause-all c = λ f k e. c.are_satisfied.ensures.all e ∙ ap (λ (cs : List StoredClause). c.args.looks.now + irredundant_length cs) (stored_live c.args.self.now f k)
