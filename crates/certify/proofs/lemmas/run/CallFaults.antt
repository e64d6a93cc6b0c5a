-- Why the calls of a run's solver fail.
use Rattle.std.proofs.Common.{◌≡◌, ◌∙◌, inl, inr, true, false, Option, None, Some, List, [], ◌∷◌, Err, refl, sym, ap, subst}
use Rattle.std.specs.Prelude.{ℕ, MatchOption}
use Rattle.sat_base.specs.script.Script.{Among}
use Rattle.sat_base.specs.script.ScriptState.{ScriptState, Refusal, refusal_of_names}
use Rattle.sat_checker.specs.contracts.processing.NobodyProofProcessor.TheImpl.{ghosts}
use Rattle.sat_checker.specs.declared.processing.Nobody.{Nobody}
use Rattle.sat_checker.specs.matching.Expected.{Expected}
use Rattle.sat_solver.specs.cdcl.StepEffects.{IsFaultOr}
use Rattle.sat_solver.specs.declared.error.SolverError.{SolverError}
use Rattle.sat_solver.specs.declared.error.SolverError.TheVariants as errors
use Rattle.sat_solver.specs.declared.proof.emitted.CheckFault.{CheckFault}
use Rattle.sat_solver.specs.declared.proof.emitted.CheckFault.TheVariants as checks
use Rattle.sat_solver.specs.proof.EmittedView.{HasListeners}
use Rattle.sat_solver.specs.variables.Refusing.{names_in}
use Rattle.sat_solver.specs.variables.VariableRoom.{user_vars_in}
use Rattle.sat_solver.specs.facade.Adding.{AddsClause, AssumesOrRefuses, HasWitness}
use Rattle.sat_solver.specs.facade.Answers.{Solves}
use Rattle.sat_solver.specs.facade.Calls.{FailsAfterSteps, NameCallFails, HasFullStore}
use Rattle.sat_solver.specs.facade.Checking.{CheckerAfterAsk, CheckerAfterError, CheckerFailed, FailsAfterHearing}
use Rattle.sat_solver.specs.facade.Naming.{ChangesMode, IsAssumedName}
use Rattle.certify.specs.declared.fault.RunFault.{RunFault}
use Rattle.certify.specs.declared.fault.RunFault.TheVariants as fault
use Rattle.certify.specs.run.SolverCalls.{FailsSolver, AreAllowedNames, IsCaused, IsReadySolver, IsSolverFault, RefusedForRoom, fault_for, is_interrupted}
use Rattle.certify.specs.run.RunSolver.{Solver}

apart : true ≡ false → ⊥
apart e = cc

none_some : (r : Refusal) → None ≡ Some r → ⊥
none_some r e = cc

-- the reasons for a fault may be weakened
pub caused_map : (e : RunFault) (full lacks P Q : Type 0) → (full → P) → (lacks → Q) → IsCaused e full lacks → IsCaused e P Q
caused_map fault.StoreFull full lacks P Q f g h = f h
caused_map fault.CounterEnd full lacks P Q f g h = g h
caused_map e full lacks P Q f g h = h

-- a fault of a search, whatever a full store means
fault_so : (full : Type 0) (e : SolverError) → IsFaultOr full e → IsFaultOr (Unit {0}) e
fault_so full errors.StoreFull f = tt
fault_so full e f = f

module _ (a b : Solver) where
  -- what a call that failed has written
  pub call_fails : (e : SolverError) → FailsAfterSteps e a b → FailsSolver (fault_for e) a b
  call_fails (errors.ProofIoError cause) h = record { steps = h.steps; history = h.history; listening = h.listening; target = h.target }
  call_fails e h = record { steps = h.steps; history = h.history; listening = h.listening; target = h.target }

  -- a checker that does not exist reports no fault
  pub none_failed : (k : CheckFault) → b.listeners ≡ None → CheckerFailed ghosts.takes k b → ⊥
  none_failed k none h = subst (λ (o : Option (List Nobody)). MatchOption o ⊥ (λ added. ∥ FailsAfterHearing ghosts.takes added b.steps k ∥₁ × HasListeners k (Some added))) none h

  caused : (full : Type 0) (e : SolverError) → IsFaultOr full e → b.listeners ≡ None → CheckerAfterError ghosts.takes e a b → IsCaused (fault_for e) full ⊥
  caused full errors.OutOfMemory f none w = tt
  caused full errors.StoreFull f none w = f
  caused full (errors.ProofIoError cause) f none w = tt
  caused full (errors.ProofProcessorError cause) f none w = none_failed (checks.Processor cause) none w
  caused full errors.CounterEnd f none w = none_failed checks.CounterEnd none w
  caused full e f none w = absurd f

  caused_at_names : (full lacks : Type 0) (e : SolverError) → NameCallFails full e a b → b.listeners ≡ None → CheckerAfterError ghosts.takes e a b → IsCaused (fault_for e) full lacks
  caused_at_names full lacks e h none w = caused_map (fault_for e) full ⊥ full lacks (λ x. x) (λ x. absurd x) (caused full e h.fails.fault none w)

  module _ (user : List ℕ) (ready : IsReadySolver a) (allowed : AreAllowedNames a user) where
    named : HasWitness a user → ⊥
    named h = none_some _ (sym allowed.3 ∙ ap (λ (i : ScriptState). refusal_of_names i (names_in user)) (sym allowed.2.state) ∙ h.1)

    pub clause_fault : (e : SolverError) → AddsClause (Err e) a b user → IsSolverFault e
    clause_fault errors.WitnessVariable h = absurd (named h.cause.1)
    clause_fault errors.NotInDrat h = absurd (apart (sym h.cause.1.0 ∙ ready.no_lines))
    clause_fault errors.HasFailed h = absurd (apart (sym h.cause ∙ ready.going))
    clause_fault errors.VariableLimit h = inr refl
    clause_fault e h = inl (fault_so (HasFullStore b) e h.2.fails.fault)

    pub assume_fault : (e : SolverError) → AssumesOrRefuses (Err e) a b user → IsSolverFault e
    assume_fault errors.WitnessVariable h = absurd (named h.cause.1)
    assume_fault errors.NotInDrat h = absurd (apart (sym h.cause.1 ∙ ready.no_lines))
    assume_fault errors.HasFailed h = absurd (apart (sym h.cause ∙ ready.going))
    assume_fault errors.VariableLimit h = inr refl
    assume_fault e h = inl (fault_so ⊥ e h.2.fails.fault)

    pub clause_caused : (e : SolverError) → AddsClause (Err e) a b user → FailsAfterSteps e a b → CheckerAfterError ghosts.takes e a b → IsCaused (fault_for e) (HasFullStore b) (RefusedForRoom a b (user_vars_in user))
    clause_caused errors.WitnessVariable h t w = absurd (named h.cause.1)
    clause_caused errors.NotInDrat h t w = absurd (apart (sym h.cause.1.0 ∙ ready.no_lines))
    clause_caused errors.HasFailed h t w = absurd (apart (sym h.cause ∙ ready.going))
    clause_caused errors.VariableLimit h t w = (h.cause.1.2, h.same)
    clause_caused e h t w = caused_at_names (HasFullStore b) (RefusedForRoom a b (user_vars_in user)) e h.2 (t.listening ∙ ready.unchecked) w

    pub assume_caused : (e : SolverError) → AssumesOrRefuses (Err e) a b user → FailsAfterSteps e a b → CheckerAfterError ghosts.takes e a b → IsCaused (fault_for e) ⊥ (RefusedForRoom a b (user_vars_in user))
    assume_caused errors.WitnessVariable h t w = absurd (named h.cause.1)
    assume_caused errors.NotInDrat h t w = absurd (apart (sym h.cause.1 ∙ ready.no_lines))
    assume_caused errors.HasFailed h t w = absurd (apart (sym h.cause ∙ ready.going))
    assume_caused errors.VariableLimit h t w = (h.cause.2, h.same)
    assume_caused e h t w = caused_at_names ⊥ (RefusedForRoom a b (user_vars_in user)) e h.2 (t.listening ∙ ready.unchecked) w

  -- no name is assumed if no literal is
  none_asked : (user : ℕ) → a.assumptions ≡ [] → IsAssumedName a user → ⊥
  none_asked user free h = subst (Among h.0) free h.1

  module _ (user : ℕ) (judge : ScriptState → ScriptState) (ready : IsReadySolver a) (free : a.assumptions ≡ []) where
    pub name_fault : (e : SolverError) → ChangesMode (Err e) a b user judge → IsSolverFault e
    name_fault errors.AssumedVariable h = absurd (none_asked user free h.cause.1)
    name_fault errors.HasFailed h = absurd (apart (sym h.cause ∙ ready.going))
    name_fault errors.VariableLimit h = inr refl
    name_fault e h = inl (fault_so ⊥ e h.2.fails.fault)

    pub name_caused : (e : SolverError) → ChangesMode (Err e) a b user judge → FailsAfterSteps e a b → CheckerAfterError ghosts.takes e a b → IsCaused (fault_for e) ⊥ (RefusedForRoom a b (user ∷ []))
    name_caused errors.AssumedVariable h t w = absurd (none_asked user free h.cause.1)
    name_caused errors.HasFailed h t w = absurd (apart (sym h.cause ∙ ready.going))
    name_caused errors.VariableLimit h t w = (h.cause.2, h.same)
    name_caused e h t w = caused_at_names ⊥ (RefusedForRoom a b (user ∷ [])) e h.2 (t.listening ∙ ready.unchecked) w

  module _ (ready : IsReadySolver a) where
    pub solve_fault : (e : SolverError) → is_interrupted e ≡ false → Solves (Err e) a b → IsSolverFault e
    solve_fault errors.Interrupted q h = absurd (apart q)
    solve_fault errors.HasFailed q h = absurd (apart (sym h.cause ∙ ready.going))
    solve_fault e q h = inl (fault_so (HasFullStore b) e h.fails.fault)

    pub solve_caused : (e : SolverError) → is_interrupted e ≡ false → Solves (Err e) a b → FailsAfterSteps e a b → CheckerAfterAsk ghosts.takes (Err e) a b → IsCaused (fault_for e) (HasFullStore b) ⊥
    solve_caused errors.Interrupted q h t w = absurd (apart q)
    solve_caused errors.HasFailed q h t w = absurd (apart (sym h.cause ∙ ready.going))
    solve_caused e q h t w = caused (HasFullStore b) e h.fails.fault (t.listening ∙ ready.unchecked) w.after
