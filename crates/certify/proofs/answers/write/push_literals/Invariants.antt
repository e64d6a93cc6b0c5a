use Rattle.std.proofs.Common.{◌≡◌, ◌++◌, drop}
use Rattle.certify.specs.answers.Answers.{literals_text}
use Rattle.certify.specs.answers.AnswerForms.{named_literals}
use Rattle.certify.proofs.answers.write.push_literals.Given as goal

abbrev pub invariant-loop-lit : goal.invariant-loop-lit
invariant-loop-lit l = l.out.items ++ literals_text (named_literals (drop l.lit-index l.lits)) ≡ l.fn.out.items ++ literals_text (named_literals l.lits)
