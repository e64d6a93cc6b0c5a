use Rattle.std.proofs.Common.{drop}
use Rattle.certify.specs.answers.AnswerForms.{named_literals}
use Rattle.certify.specs.confirm.SpeltLiterals.{AreSpelt}
use Rattle.certify.specs.confirm.Variables.{variable_in}
use Rattle.certify.proofs.confirm.literals.are_spelt.Given as goal

abbrev pub invariant-loop-at : goal.invariant-loop-at
invariant-loop-at l = AreSpelt (variable_in l.variables) (drop l.at (named_literals l.literals)) (drop l.at l.codes) → AreSpelt (variable_in l.variables) (named_literals l.literals) l.codes
