use Rattle.std.proofs.Common.{arith}
use Rattle.std.proofs.lemmas.Grind.{common_steps}
use Rattle.std.proofs.Common.{sym}
use Rattle.sat_checker.specs.Storing.{last_literals}
use Rattle.sat_checker.proofs.lemmas.state.InRoom.{strict_same_set}
use Rattle.sat_checker.proofs.lemmas.state.Units.{match_on}
use Rattle.sat_checker.proofs.formula.Formula.may_delete_marked.Goals as goal

pub returns-then-has_last_marked-clause-exact : goal.returns-then-has_last_marked-clause-exact
returns-then-has_last_marked-clause-exact c = grind (arith, common_steps, strict_same_set, match_on)

pub returns-else-has_last_marked-clause-exact : goal.returns-else-has_last_marked-clause-exact
returns-else-has_last_marked-clause-exact c = λ f k. rw (c.in-Simplified.is, c.if-has_last_marked.false) (λ q. c.if-has_last_marked.ensures.part f k (strict_same_set (last_literals f.last f) c.args.clause.now c.args.self.now.marks.literals (λ l. sym (c.requires l)) q.1))
