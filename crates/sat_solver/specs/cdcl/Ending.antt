-- The end of a round, which may begin with a simplification.
use Rattle.std.specs.Prelude.{List, MatchResult, Result}
use Rattle.sat_base.specs.device.Device.{Writer}
use Rattle.sat_base.specs.steps.Steps.{Step}
use Rattle.sat_checker.specs.declared.processing.ProofProcessor.{Ghosts}
use Rattle.sat_solver.specs.proof.ProofView.{EmitsChecked, HasAllowedSteps, steps_of, session_of}
use Rattle.sat_solver.specs.declared.proof.Proof.{Proof}
use Rattle.sat_solver.specs.declared.schedule.RoundOutcome.{RoundOutcome}
use Rattle.sat_solver.specs.declared.schedule.RoundOutcome.TheVariants as outcomes
use Rattle.sat_solver.specs.declared.error.SolverError.{SolverError}
use Rattle.sat_solver.specs.variables.Calls.{KeepsScriptState}
use Rattle.sat_solver.specs.declared.variables.Variables.{Variables}
use Rattle.sat_solver.specs.declared.context.Search.{Search}
use Rattle.sat_solver.specs.cdcl.Rounds.{RoundResult}
use Rattle.sat_solver.specs.variables.Shared.{SharesIndices}
use Rattle.sat_solver.specs.unit_simplify.FreedIndices.{KeepsAsked}
use Rattle.sat_parts.specs.parts.Full.{IsBufferFull}
use Rattle.sat_solver.specs.unit_simplify.Passes.{PassFailsOr}

-- `RoundSharesIndices outcome n c` holds if the names `n` and the search `c` assign the same indices to proof
-- variables, or the outcome is `Unsat`
abbrev pub RoundSharesIndices : RoundOutcome → Variables → Search → Type 0
RoundSharesIndices outcomes.Learned n c = SharesIndices n c
RoundSharesIndices outcomes.Model n c = SharesIndices n c
RoundSharesIndices outcomes.Unsat n c = Unit {0}
RoundSharesIndices outcomes.Failed n c = SharesIndices n c

-- `RoundEnds seen outcome n n' p p' c c'` holds if a round with the outcome `outcome` changed names, proof and search
-- so: it learned an empowering clause, or found a model or a failed core, or recorded unsat; the script state and the
-- assumptions are unchanged
pub record RoundEnds {W L : Type 0} {G : Ghosts L} (seen : W → Writer) (outcome : RoundOutcome) (n n' : Variables) (p p' : Proof W L G) (c c' : Search) : Type 0 where
  pub steps : List Step
  pub adds : EmitsChecked seen steps p p'
  pub keeps : HasAllowedSteps p'
  pub does : KeepsScriptState n n' (steps_of p) (steps_of p')
  pub asked : KeepsAsked n n' (session_of p) (session_of p')
  pub says : RoundResult outcome (steps_of p) steps (session_of p') c c'
  pub shares : RoundSharesIndices outcome n' c'

-- `RoundEndsOrFails seen r n n' p p' c c'` holds if `r` is the result of a round: an outcome and what it changed of
-- names, proof and search, or an error (`StoresError`); `StoreFull` only if the clause buffer is full
abbrev pub RoundEndsOrFails : {W L : Type 0} {G : Ghosts L} → (W → Writer) → Result RoundOutcome SolverError → Variables → Variables → Proof W L G → Proof W L G → Search → Search → Type 0
RoundEndsOrFails seen r n n' p p' c c' = MatchResult r (λ o. RoundEnds seen o n n' p p' c c') (λ e. PassFailsOr (IsBufferFull c'.parts) seen e p p')
