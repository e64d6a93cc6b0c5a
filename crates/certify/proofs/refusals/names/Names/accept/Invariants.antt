use Rattle.std.proofs.Common.{◌≡◌, drop}
use Rattle.sat_base.specs.script.Script.{names_of}
use Rattle.sat_base.specs.script.ScriptState.{ScriptState}
use Rattle.certify.specs.answers.AnswerForms.{named_literals}
use Rattle.certify.specs.script.Commands.{kind_of}
use Rattle.certify.specs.refusals.Names.{NamesHaveState}
use Rattle.certify.proofs.lemmas.judge.Taken.{taken_all}
use Rattle.certify.proofs.refusals.names.Names.accept.Given as goal

abbrev pub invariant-loop-lit : goal.invariant-loop-lit
invariant-loop-lit l = (j : ScriptState) → NamesHaveState l.fn.self j
    → (mid : ScriptState) × NamesHaveState l.self mid
    × (taken_all (kind_of l.command.kind) (names_of (named_literals l.command.literals.now)) j ≡ taken_all (kind_of l.command.kind) (names_of (named_literals (drop l.lit-index l.command.literals.now))) mid)
