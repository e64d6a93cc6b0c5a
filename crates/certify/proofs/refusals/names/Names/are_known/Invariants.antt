use Rattle.std.proofs.Common.{◌≡◌, [], drop}
use Rattle.std.specs.List.{AllByRecursion}
use Rattle.sat_base.specs.script.Script.{names_of}
use Rattle.sat_base.specs.script.ScriptState.{ScriptState, new_names}
use Rattle.certify.specs.answers.AnswerForms.{named_literals}
use Rattle.certify.specs.refusals.Names.{NamesHaveState}
use Rattle.certify.proofs.refusals.names.Names.are_known.Given as goal

abbrev pub invariant-loop-lit : goal.invariant-loop-lit
invariant-loop-lit l = (j : ScriptState) → NamesHaveState l.self j
    → AllByRecursion (λ name. new_names name j ≡ []) (names_of (named_literals (drop l.lit-index l.literals))) → AllByRecursion (λ name. new_names name j ≡ []) (names_of (named_literals l.literals))
