use Rattle.std.proofs.Common.{take}
use Rattle.certify.specs.answers.AnswerForms.{named_literals}
use Rattle.certify.specs.confirm.SpeltLiterals.{AreSpelt}
use Rattle.certify.specs.confirm.Variables.{variable_in}
use Rattle.certify.proofs.confirm.literals.spell.Given as goal

abbrev pub invariant-loop-lit : goal.invariant-loop-lit
invariant-loop-lit l = AreSpelt (variable_in l.variables) (take l.lit-index (named_literals l.literals)) l.spelt.items
