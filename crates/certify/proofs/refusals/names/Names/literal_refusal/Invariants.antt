use Rattle.std.proofs.Common.{◌≡◌, ◌++◌, List, drop}
use Rattle.sat_base.specs.script.Script.{Literal, names_of}
use Rattle.sat_base.specs.script.ScriptState.{ScriptState, refusal_of_names}
use Rattle.certify.specs.answers.AnswerForms.{named_literals}
use Rattle.certify.specs.refusals.Names.{NamesHaveState}
use Rattle.certify.proofs.refusals.names.Names.literal_refusal.Given as goal

abbrev pub invariant-loop-lit : goal.invariant-loop-lit
invariant-loop-lit l = (j : ScriptState) (tail : List Literal) → NamesHaveState l.self j
    → refusal_of_names j (names_of (named_literals l.literals ++ tail)) ≡ refusal_of_names j (names_of (named_literals (drop l.lit-index l.literals) ++ tail))
