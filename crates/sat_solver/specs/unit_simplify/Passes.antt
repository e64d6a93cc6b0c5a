-- What simplification changes of names, proof and search.
use Rattle.std.specs.Prelude.{ℕ, ◌≡◌, Option, None, Some, List, [], MatchResult, Result, Err}
use Rattle.std.specs.List.{Contains}
use Rattle.sat_base.specs.device.Device.{Writer}
use Rattle.sat_base.specs.steps.Steps.{Step}
use Rattle.sat_checker.specs.declared.processing.ProofProcessor.{Ghosts}
use Rattle.sat_parts.specs.declared.prop.graph.Conflict.{Conflict}
use Rattle.sat_parts.specs.clause.Db.{live_refs}
use Rattle.sat_solver.specs.session.Emitting.{EmitsSomeChecked}
use Rattle.sat_solver.specs.proof.ProofView.{HasAllowedSteps, steps_of, session_of}
use Rattle.sat_solver.specs.declared.proof.Proof.{Proof}
use Rattle.sat_solver.specs.declared.error.SolverError.{SolverError}
use Rattle.sat_solver.specs.variables.Calls.{NamesInvariant, KeepsScriptState}
use Rattle.sat_solver.specs.declared.variables.Variables.{Variables}
use Rattle.sat_solver.specs.session.Quiet.{MakesOnlyQuiet}
use Rattle.sat_parts.specs.parts.Words.{TrailWordExtendsFor}
use Rattle.sat_solver.specs.cdcl.Faults.{StoresError, MissesOnlyByFault}
use Rattle.sat_solver.specs.cdcl.StepEffects.{IsFaultOr, EmitsUpToFault}
use Rattle.sat_solver.specs.cdcl.Joint.{assumed_indices, SearchInvariant, SameVarsAndAssumptions}
use Rattle.sat_solver.specs.cdcl.Iterations.{IsFalsifiedAt, IsPropagated}
use Rattle.sat_solver.specs.declared.context.Search.{Search}
use Rattle.sat_solver.specs.variables.Shared.{SharesIndices}
use Rattle.sat_solver.specs.unit_simplify.EmptyTrail.{HasEmptyTrail}
use Rattle.sat_solver.specs.unit_simplify.FreedIndices.{KeepsAsked, IndicesAreUsed}
use Rattle.sat_solver.specs.unit_simplify.ClauseStatus.{HasNoAssignedLit}

-- `JointInvariant n p c` holds if names, proof and search are each consistent and match each other, with the same
-- indices, and all steps were allowed
pub record JointInvariant {W L : Type 0} {G : Ghosts L} (n : Variables) (p : Proof W L G) (c : Search) : Type 0 where
  pub keeps : HasAllowedSteps p
  pub valid : NamesInvariant n (steps_of p)
  pub search : SearchInvariant (session_of p) c
  pub shares : SharesIndices n c

-- `IsPropagatedAtLevelZero n p c` holds if names, proof and search match each other, and the search is at level 0,
-- where everything is propagated and no clause is falsified
pub record IsPropagatedAtLevelZero {W L : Type 0} {G : Ghosts L} (n : Variables) (p : Proof W L G) (c : Search) : Type 0 where
  pub keeps : HasAllowedSteps p
  pub valid : NamesInvariant n (steps_of p)
  pub shares : SharesIndices n c
  pub propagated : IsPropagated (session_of p) c
  pub bottom : c.parts.trail.starts ≡ []

-- `PassesQuietly seen n n' p p' c c'` holds if names, proof and search still match each other after steps that derive
-- no empowering clause and leave the script state and assumptions unchanged; the word that encodes the trail is
-- unchanged or extended
pub record PassesQuietly {W L : Type 0} {G : Ghosts L} (seen : W → Writer) (n n' : Variables) (p p' : Proof W L G) (c c' : Search) : Type 0 where
  pub together : JointInvariant n' p' c'
  pub took : EmitsSomeChecked seen p p'
  pub quiet : MakesOnlyQuiet (steps_of p) (steps_of p')
  pub does : KeepsScriptState n n' (steps_of p) (steps_of p')
  pub asked : KeepsAsked n n' (session_of p) (session_of p')
  pub moved : SameVarsAndAssumptions c c'
  pub word : TrailWordExtendsFor (assumed_indices c) c.parts c'.parts

-- `PassFailsOr full seen e p p'` holds if a call failed with the error `e` (memory, counters, target, listener) after
-- some steps, and the underlying error is stored; `StoreFull` only if `full` holds
pub record PassFailsOr {W L : Type 0} {G : Ghosts L} (full : Type 0) (seen : W → Writer) (e : SolverError) (p p' : Proof W L G) : Type 0 where
  pub fault : IsFaultOr full e
  pub steps : List Step
  pub went : EmitsUpToFault {A = Unit {0}} seen (Err e) steps p p'
  -- the proof stores the underlying error until it is reported
  pub kept : StoresError e p'
  pub loss : MissesOnlyByFault e p p'

-- `PassFails seen e p p'` holds if a call that stores no clause failed with the error `e` (memory, counters, target,
-- listener) after some steps, and the underlying error is stored
abbrev pub PassFails : {W L : Type 0} {G : Ghosts L} → (W → Writer) → SolverError → Proof W L G → Proof W L G → Type 0
PassFails seen e p p' = PassFailsOr ⊥ seen e p p'

-- `IsSimplifiedPass seen n n' p p' c c'` holds if a simplification left an empty trail and no literal of a long
-- clause assigned, without steps that learn. Every index that a variable has is in a clause, or the variable is
-- assumed.
pub record IsSimplifiedPass {W L : Type 0} {G : Ghosts L} (seen : W → Writer) (n n' : Variables) (p p' : Proof W L G) (c c' : Search) : Type 0 where
  pub passes : PassesQuietly seen n n' p p' c c'
  pub flat : HasEmptyTrail c'.parts
  pub left : (o : ℕ) → Contains (live_refs c'.parts.clauses c'.parts.db.refs) o → HasNoAssignedLit c'.parts o
  pub indices : IndicesAreUsed n' (session_of p') c'.parts

-- `Simplifies seen r n n' p p' c c'` holds if `r` is `Ok` and a simplification left an empty trail, long clauses
-- without assigned literals, and no unused index, or `r` is an error (`StoresError`)
abbrev pub Simplifies : {W L : Type 0} {G : Ghosts L} → (W → Writer) → Result (Unit {0}) SolverError → Variables → Variables → Proof W L G → Proof W L G → Search → Search → Type 0
Simplifies seen r n n' p p' c c' = MatchResult r (λ _. IsSimplifiedPass seen n n' p p' c c') (λ e. PassFails seen e p p')

-- `FindsFalseClause n n' p p' c c' e` holds if the clause `e` is found to be falsified at the beginning of a round; no
-- step was made, and names, variables and assumptions are unchanged
pub record FindsFalseClause {W L : Type 0} {G : Ghosts L} (n n' : Variables) (p p' : Proof W L G) (c c' : Search) (e : Conflict) : Type 0 where
  pub names : n' ≡ n
  pub proof : p' ≡ p
  pub keeps : HasAllowedSteps p'
  pub stopped : IsFalsifiedAt (session_of p') c' e
  pub moved : SameVarsAndAssumptions c c'
  pub word : TrailWordExtendsFor (assumed_indices c) c.parts c'.parts

-- `BeginResult seen conflict n n' p p' c c'` holds if `conflict` is `None` and the round can continue, after steps that
-- derive no empowering clause, or it is a clause that is already falsified, and nothing was written
abbrev pub BeginResult : {W L : Type 0} {G : Ghosts L} → (W → Writer) → Option Conflict → Variables → Variables → Proof W L G → Proof W L G → Search → Search → Type 0
BeginResult seen None n n' p p' c c' = PassesQuietly seen n n' p p' c c'
BeginResult seen (Some e) n n' p p' c c' = FindsFalseClause n n' p p' c c' e

-- `BeginsRound seen r n n' p p' c c'` holds if `r` is the result of beginning a round: `None` if it can continue, a
-- clause that is already falsified, or an error (`StoresError`)
abbrev pub BeginsRound : {W L : Type 0} {G : Ghosts L} → (W → Writer) → Result (Option Conflict) SolverError → Variables → Variables → Proof W L G → Proof W L G → Search → Search → Type 0
BeginsRound seen r n n' p p' c c' = MatchResult r (λ o. BeginResult seen o n n' p p' c c') (λ e. PassFails seen e p p')
