-- What a call does to the fields, as callers see it.
use Rattle.std.proofs.Common.{ℕ, ◌≡◌, ◌∙◌, refl, sym, ap, subst, Bool, true, false, Option, Some, None, Result, Ok, Err, List, [], ◌++◌}
use Rattle.std.proofs.lemmas.Bool.{true≢false}
use Rattle.sat_base.specs.device.Device.{Writer}
use Rattle.std.specs.Prelude.{OnOk, IfOk, IfErr, MatchOption, is_ok, if◌then◌else◌}
use Rattle.std.specs.Result.{result_ok}
use Rattle.std.specs.Global.{Vec}
use Rattle.sat_solver.specs.variables.NamingSteps.{IsDue}
use Rattle.sat_base.specs.script.ScriptState.{ScriptState, introduce_all}
use Rattle.sat_base.specs.steps.Steps.{Step}
use Rattle.sat_checker.specs.declared.processing.ProofProcessor.{Ghosts}
use Rattle.sat_checker.specs.matching.Bridge.{IsBridge}
use Rattle.sat_checker.specs.matching.Expected.{Expected}
use Rattle.sat_checker.specs.matching.ProofChecking.{checker_rules}
use Rattle.sat_solver.specs.cdcl.StepEffects.{EmitsUpToFault}
use Rattle.sat_solver.specs.session.Emitting.{EmitsSomeSteps}
use Rattle.sat_solver.specs.proof.ProofView.{TargetReceives, FailsCheck, target_of, steps_of, proof_listeners, has_missed_step, has_asked}
use Rattle.sat_solver.specs.declared.error.SolverError.{SolverError}
use Rattle.sat_solver.specs.declared.error.SolverError.TheVariants as errors
use Rattle.sat_solver.specs.declared.proof.Proof.{Proof}
use Rattle.sat_solver.specs.declared.proof.emitted.CheckFault.{CheckFault}
use Rattle.sat_solver.specs.declared.solver.Engine.{Engine}
use Rattle.sat_solver.specs.declared.solver.find.LastAnswers.{LastAnswers}
use Rattle.sat_solver.specs.declared.state.SatState.{SatState}
use Rattle.sat_solver.specs.declared.state.SatState.TheVariants as states
use Rattle.sat_solver.specs.variables.Observing.{Observes}
use Rattle.sat_solver.specs.variables.Refusing.{names_in}
use Rattle.sat_solver.specs.solver.Answers.{EngineHasNoCore, EngineHasNone, EngineIsCore, EngineIsModel, EngineModelFails, engine_core_for}
use Rattle.sat_solver.specs.solver.Adding as adding
use Rattle.sat_solver.specs.solver.Answering.{EngineFlushFails}
use Rattle.sat_solver.specs.solver.Calls as calls
use Rattle.sat_solver.specs.solver.Naming as naming
use Rattle.sat_solver.specs.solver.View as inner
use Rattle.sat_solver.specs.facade.View.{SolverView}
use Rattle.sat_solver.specs.facade.Inner.{Between, MatchesEngine, checking_of, view_of}
use Rattle.sat_solver.specs.facade.Judged.{IsObserved, state_after_name}
use Rattle.sat_solver.proofs.lemmas.facade.Agreeing.{before_them}
use Rattle.sat_solver.specs.solver.Prefixes as prefixes
use Rattle.sat_solver.proofs.lemmas.session.ProofLemmas.{carries_none}
use Rattle.sat_checker.specs.matching.Expected.{Unknown}
use Rattle.sat_solver.specs.facade.Calls.{FailsAfterSteps, Effect, Fails, NameCallFails, HasFullStore, MakesOrdered, MakesSteps, ReachesBySteps, Refuses, TargetAfter, WritesSteps}
use Rattle.sat_solver.specs.facade.Adding.{Added, AddsClause, HasNoWitness, AssumesOrRefuses, HasWitness, LacksRoomForNames, StepsOfAssumptions, StepsOfClause}
use Rattle.sat_solver.specs.facade.Answers.{Answered, CountsRounds, HasNoCore, HasNoModel, IsCore, IsModel, ModelFails, Solves, StepsOfAsk, core_for}
use Rattle.sat_solver.specs.facade.Naming.{ChangesMode, ObserveFails, NewNameResult, Observed, ObservesBetween, OnlyMakes, NameCallEffect, due_for_name, name_value, variable_value}
use Rattle.sat_solver.specs.solver.Naming.{IsKeptOrFalse}
use Rattle.sat_solver.specs.variables.Variables.{global_of}

-- the errors that are not about the target
abbrev IsOther : SolverError → Type 0
IsOther (errors.ProofIoError cause) = ⊥
IsOther e = Unit {0}

-- `i` is the script state before a call, and `k` the one after it
module _ {W L : Type 0} {G : Ghosts L} (seen : W → Writer) (i k : ScriptState) where
  abbrev pub v : Engine W L G → SolverView L
  v s = view_of seen i s

  abbrev pub w : Engine W L G → SolverView L
  w s = view_of seen k s

  -- THE SCRIPT STATE

  -- the ordered steps of a call
  traced : (a b : Engine W L G) (judge : ScriptState → ScriptState) (due : ScriptState → List Expected) → MatchesEngine a i → calls.CallEffect seen a b judge due → MakesOrdered (v a) (w b) (due i)
  traced a b judge due m h = let x = m h.going in (h.does.kept i x.0 x.1).trace

  witness : (a : Engine W L G) (user : List ℕ) → MatchesEngine a i → a.failed ≡ false → adding.EngineHasWitness a user → HasWitness (v a) user
  witness a user m going h = let x = m going in h i x.0 x.1

  sampled : (a : Engine W L G) (user : List ℕ) → MatchesEngine a i → a.failed ≡ false → adding.EngineHasNoWitness a user → HasNoWitness (v a) user
  sampled a user m going h = let x = m going in h i x.0 x.1

  -- STEPS

  pub made : (a b : Engine W L G) → EmitsSomeSteps seen a.context.proof b.context.proof → MakesSteps (v a) (w b)
  made a b t = record { steps = t.0; history = t.1.history; listening = t.1.listening; target = t.1.target }

  pub did : (a b : Engine W L G) (judge : ScriptState → ScriptState) (due : ScriptState → List Expected) → calls.CallEffect seen a b judge due → k ≡ judge i → Effect (v a) (w b) judge
  did a b judge due h e = record {
    going = h.going;
    failed = h.failed;
    used = h.used;
    parameters = h.config;
    state = e;
  }

  pub alike : (a b : Engine W L G) → b ≡ a → k ≡ i → w b ≡ v a
  alike a b h e = ap (λ (s : Engine W L G). view_of seen k s) h ∙ ap (λ (j : ScriptState). view_of seen j a) e

  pub refused : (a b : Engine W L G) (why : Type 0) → k ≡ i → calls.EngineRefuses a b why → Refuses (v a) (w b) why
  refused a b why e h = record { same = alike a b h.same e; cause = h.cause }

  -- THE TARGET AFTER A FAULT

  abbrev pub Broke : SolverError → List Step → Proof W L G → Proof W L G → Type 0
  Broke e steps p q = (steps_of q ≡ steps ++ steps_of p) × (proof_listeners q ≡ proof_listeners p) × TargetAfter e (target_of seen p) steps (target_of seen q)

  checked : {fault : CheckFault} (steps : List Step) (p q : Proof W L G) → FailsCheck seen fault steps p q → (steps_of q ≡ steps ++ steps_of p) × (proof_listeners q ≡ proof_listeners p) × TargetReceives (target_of seen p) steps (target_of seen q)
  checked steps p q h = (h.adds.history, h.adds.listening, h.adds.target)

  pub broke : (e : SolverError) (steps : List Step) (p q : Proof W L G) → EmitsUpToFault {A = Unit {0}} seen (Err e) steps p q → Broke e steps p q
  broke (errors.ProofProcessorError cause) steps p q h = checked steps p q h
  broke (errors.ProofIoError cause) steps p q h = (h.history, h.listening, h.target)
  broke errors.CounterEnd steps p q h = checked steps p q h
  broke e steps p q h = (h.history, h.listening, h.target)

  off : (e : SolverError) (steps : List Step) (a b : Engine W L G) → Broke e steps a.context.proof b.context.proof → FailsAfterSteps e (v a) (w b)
  off e steps a b h = record { steps = steps; history = h.0; listening = h.1; target = h.2 }

  pub names_failed : (full : Type 0) (e : SolverError) (a b : Engine W L G) → adding.EngineNameCallFailsOr full seen e a b → NameCallFails full e (v a) (w b)
  names_failed full e a b h = record {
    fails = record {
      going = h.going;
      failed = h.failed;
      fault = h.fault;
    };
    clock = h.clock;
  }

  call_failed : (e : SolverError) (a b : Engine W L G) → calls.EngineEndsInFailure seen e a b → Fails (HasFullStore (w b)) e (v a) (w b)
  call_failed e a b h = record {
    going = h.going;
    failed = h.failed;
    fault = h.breaks.fault;
  }

  -- WHAT WAS WRITTEN

  calm : (e : SolverError) (a b : Engine W L G) → IsOther e → MakesSteps (v a) (w b) → FailsAfterSteps e (v a) (w b)
  calm (errors.ProofIoError cause) a b n m = absurd n
  calm e a b n m = record { steps = m.steps; history = m.history; listening = m.listening; target = m.target }

  stood : (a b : Engine W L G) → b ≡ a → MakesSteps (v a) (w b)
  stood a b h = subst (λ (s : Engine W L G). MakesSteps (v a) (w s)) (sym h) (record { steps = []; history = refl; listening = refl; target = carries_none (target_of seen a.context.proof) })

  stopped_so : (e : SolverError) (a b : Engine W L G) (steps : List Step) → EmitsUpToFault {A = Unit {0}} seen (Err e) steps a.context.proof b.context.proof → FailsAfterSteps e (v a) (w b)
  stopped_so e a b steps h = off e steps a b (broke e steps a.context.proof b.context.proof h)

  pub clause_wrote : (r : Result (Unit {0}) SolverError) (a b : Engine W L G) (user : List ℕ) → adding.EngineAddsClause seen r a b user → WritesSteps r (v a) (w b)
  clause_wrote (Ok x) a b user h = made a b h.did.took
  clause_wrote (Err errors.WitnessVariable) a b user h = calm errors.WitnessVariable a b tt (stood a b h.same)
  clause_wrote (Err errors.NotInDrat) a b user h = calm errors.NotInDrat a b tt (stood a b h.same)
  clause_wrote (Err errors.VariableLimit) a b user h = calm errors.VariableLimit a b tt (stood a b h.same)
  clause_wrote (Err errors.HasFailed) a b user h = calm errors.HasFailed a b tt (stood a b h.same)
  clause_wrote (Err e) a b user h = stopped_so e a b h.2.breaks.steps h.2.breaks.went

  pub assumptions_wrote : (r : Result (Unit {0}) SolverError) (a b : Engine W L G) (user : List ℕ) → adding.EngineAssumesOrRefuses seen r a b user → WritesSteps r (v a) (w b)
  assumptions_wrote (Ok x) a b user h = made a b (h.did Unknown).took
  assumptions_wrote (Err errors.WitnessVariable) a b user h = calm errors.WitnessVariable a b tt (stood a b h.same)
  assumptions_wrote (Err errors.NotInDrat) a b user h = calm errors.NotInDrat a b tt (stood a b h.same)
  assumptions_wrote (Err errors.VariableLimit) a b user h = calm errors.VariableLimit a b tt (stood a b h.same)
  assumptions_wrote (Err errors.HasFailed) a b user h = calm errors.HasFailed a b tt (stood a b h.same)
  assumptions_wrote (Err e) a b user h = stopped_so e a b h.2.breaks.steps h.2.breaks.went

  pub mode_wrote : (r : Result (Unit {0}) SolverError) (a b : Engine W L G) (user : ℕ) (judge : ScriptState → ScriptState) (due : ScriptState → List Expected) (IsAllowedStep : List Step → Step → Type 0) → naming.EngineChangesMode seen r a b user judge due IsAllowedStep → WritesSteps r (v a) (w b)
  mode_wrote (Ok x) a b user judge due IsAllowedStep h = made a b h.1.did.took
  mode_wrote (Err errors.AssumedVariable) a b user judge due IsAllowedStep h = calm errors.AssumedVariable a b tt (stood a b h.same)
  mode_wrote (Err errors.VariableLimit) a b user judge due IsAllowedStep h = calm errors.VariableLimit a b tt (stood a b h.same)
  mode_wrote (Err errors.HasFailed) a b user judge due IsAllowedStep h = calm errors.HasFailed a b tt (stood a b h.same)
  mode_wrote (Err e) a b user judge due IsAllowedStep h = stopped_so e a b h.2.breaks.steps h.2.breaks.went

  pub new_wrote : (r : Result ℕ SolverError) (a b : Engine W L G) → naming.EngineNewNameResult seen r a b → WritesSteps r (v a) (w b)
  new_wrote (Ok user) a b h = made a b h.1.did.took
  new_wrote (Err errors.VariableLimit) a b h = calm errors.VariableLimit a b tt (stood a b h.same)
  new_wrote (Err errors.HasFailed) a b h = calm errors.HasFailed a b tt (stood a b h.same)
  new_wrote (Err e) a b h = stopped_so e a b h.1.breaks.steps h.1.breaks.went

  pub observing_wrote : (e : SolverError) (a b : Engine W L G) → naming.EngineObserveFails seen e a b → FailsAfterSteps e (v a) (w b)
  observing_wrote errors.VariableLimit a b h = absurd h
  observing_wrote errors.HasFailed a b h = calm errors.HasFailed a b tt (stood a b h.same)
  observing_wrote e a b h = stopped_so e a b h.breaks.steps h.breaks.went

  pub solve_wrote : (r : Result Bool SolverError) (a b : Engine W L G) → calls.EngineSolves seen r a b → WritesSteps r (v a) (w b)
  solve_wrote (Ok sat) a b h = made a b h.0.did.took
  solve_wrote (Err errors.Interrupted) a b h = calm errors.Interrupted a b tt (made a b h.0.did.took)
  solve_wrote (Err errors.HasFailed) a b h = calm errors.HasFailed a b tt (stood a b h.same)
  solve_wrote (Err e) a b h = stopped_so e a b h.breaks.steps h.breaks.went

  pub reached : (a b : Engine W L G) → prefixes.EngineReachesBySteps seen a b → ReachesBySteps (v a) (w b)
  reached a b h = record { steps = h.steps; history = h.history; target = h.target }

  -- CLAUSES AND ASSUMPTIONS

  pub added : (a b : Engine W L G) (user : List ℕ) → MatchesEngine a i → k ≡ adding.with_added user i → adding.EngineAdded seen a b user → Added (v a) (w b) user
  added a b user m e h = record {
    before_drat = h.before_drat;
    sampled = sampled a user m h.did.going h.sampled;
    room = h.room;
    did = did a b _ _ h.did e;
    assumed = ap (λ (t : Vec ℕ). t.items) h.assumed;
    clock = h.clock;
    state = h.state;
  }

  pub clause_steps : (a b : Engine W L G) (user : List ℕ) → MatchesEngine a i → adding.EngineAdded seen a b user → StepsOfClause (v a) (w b) user
  clause_steps a b user m h = record { ordered = traced a b _ (adding.due_for_clause a.state user) m h.did; comes = h.steps.comes; order = h.steps.order; left_out = h.steps.left_out; asked = h.steps.asked }

  lacks_room : (a : Engine W L G) (user : List ℕ) → MatchesEngine a i → adding.EngineLacksRoomForNames a user → LacksRoomForNames (v a) user
  lacks_room a user m h = (h.0, sampled a user m h.0 h.1, h.2)

  pub clause_added : (r : Result (Unit {0}) SolverError) (a b : Engine W L G) (user : List ℕ) → MatchesEngine a i → k ≡ (if is_ok r then adding.with_added user i else i) → adding.EngineAddsClause seen r a b user → AddsClause r (v a) (w b) user
  clause_added (Ok x) a b user m e h = added a b user m e h
  clause_added (Err errors.WitnessVariable) a b user m e h = record { same = alike a b h.same e; cause = (h.cause.0, witness a user m h.cause.0.0 h.cause.1) }
  clause_added (Err errors.NotInDrat) a b user m e h = refused a b _ e h
  clause_added (Err errors.VariableLimit) a b user m e h = record { same = alike a b h.same e; cause = (h.cause.0, lacks_room a user m h.cause.1) }
  clause_added (Err errors.HasFailed) a b user m e h = refused a b _ e h
  clause_added (Err x) a b user m e h = ((h.0.0, sampled a user m h.2.going h.0.1), h.1, names_failed _ x a b h.2)

  pub assumed : (r : Result (Unit {0}) SolverError) (a b : Engine W L G) (user : List ℕ) → MatchesEngine a i → k ≡ (if is_ok r then introduce_all (names_in user) i else i) → adding.EngineAssumesOrRefuses seen r a b user → AssumesOrRefuses r (v a) (w b) user
  assumed (Ok x) a b user m e h = record {
    sampled = sampled a user m (h.did Unknown).going h.sampled;
    room = h.room;
    did = did a b _ _ (h.did Unknown) e;
    assumed = h.assumed;
    clock = h.clock;
    state = h.state;
  }
  assumed (Err errors.WitnessVariable) a b user m e h = record { same = alike a b h.same e; cause = (h.cause.0, witness a user m h.cause.0 h.cause.1) }
  assumed (Err errors.NotInDrat) a b user m e h = refused a b _ e h
  assumed (Err errors.VariableLimit) a b user m e h = record { same = alike a b h.same e; cause = lacks_room a user m h.cause }
  assumed (Err errors.HasFailed) a b user m e h = refused a b _ e h
  assumed (Err x) a b user m e h = (sampled a user m h.2.going h.0, h.1, names_failed _ x a b h.2)

  -- NAMES

  value_seen : (j : ScriptState) (s : Engine W L G) (o : Option ℕ) → naming.engine_variable_value s o ≡ variable_value (view_of seen j s) o
  value_seen j s None = refl
  value_seen j s (Some x) = refl

  values_seen : (a b : Engine W L G) (user : ℕ) → IsKeptOrFalse (naming.engine_name_value a user) (naming.engine_name_value b user) → IsKeptOrFalse (name_value (v a) user) (name_value (w b) user)
  values_seen a b user h =
      subst (λ (o : Option Bool). IsKeptOrFalse o (name_value (w b) user)) (value_seen i a (global_of a.names user))
      (subst (λ (o : Option Bool). IsKeptOrFalse (naming.engine_name_value a user) o) (value_seen k b (global_of b.names user)) h)

  renamed : (a b : Engine W L G) (judge : ScriptState → ScriptState) (due : ScriptState → List Expected) (IsAllowedStep : List Step → Step → Type 0) → k ≡ judge i → naming.EngineNameCallEffect seen a b judge due IsAllowedStep → NameCallEffect (v a) (w b) judge
  renamed a b judge due IsAllowedStep e h = record {
    did = did a b judge due h.did e;
    same = record {
      asked = h.asked;
      assumed = ap (λ (t : Vec ℕ). t.items) h.assumed;
      core = ap (λ (r : LastAnswers). r.failed_core.items) h.reported;
      clock = h.clock;
      answer = h.state;
    };
    values = λ user. values_seen a b user (h.values user);
  }

  pub mode_changed : (r : Result (Unit {0}) SolverError) (a b : Engine W L G) (user : ℕ) (judge : ScriptState → ScriptState) (due : ScriptState → List Expected) (IsAllowedStep : List Step → Step → Type 0) → k ≡ (if is_ok r then judge i else i) → naming.EngineChangesMode seen r a b user judge due IsAllowedStep → ChangesMode r (v a) (w b) user judge
  mode_changed (Ok x) a b user judge due IsAllowedStep e h = (h.0, renamed a b judge due IsAllowedStep e h.1, h.2)
  mode_changed (Err errors.AssumedVariable) a b user judge due IsAllowedStep e h = refused a b _ e h
  mode_changed (Err errors.VariableLimit) a b user judge due IsAllowedStep e h = refused a b _ e h
  mode_changed (Err errors.HasFailed) a b user judge due IsAllowedStep e h = refused a b _ e h
  mode_changed (Err x) a b user judge due IsAllowedStep e h = (h.0, h.1, names_failed _ x a b h.2)

  pub named : (r : Result ℕ SolverError) (a b : Engine W L G) → MatchesEngine a i → k ≡ state_after_name (result_ok r) i → naming.EngineNewNameResult seen r a b → NewNameResult r (v a) (w b)
  named (Ok user) a b m e h = let x = m h.1.did.going in (h.0 i x.0 x.1, renamed a b _ _ _ e h.1)
  named (Err errors.VariableLimit) a b m e h = refused a b _ e h
  named (Err errors.HasFailed) a b m e h = refused a b _ e h
  named (Err x) a b m e h = (h.0, names_failed _ x a b h.1)

  pub unnamed : (x : SolverError) (a b : Engine W L G) → k ≡ i → naming.EngineObserveFails seen x a b → ObserveFails x (v a) (w b)
  unnamed errors.VariableLimit a b e h = absurd h
  unnamed errors.HasFailed a b e h = refused a b _ e h
  unnamed x a b e h = names_failed _ x a b h

  pub observed : (a b : Engine W L G) (users : List ℕ) → naming.EngineObserved seen a b users → Observed (v a) (w b) users
  observed a b users h = record {
    going = h.going;
    failed = h.failed;
    used = h.used;
    parameters = h.same.config;
    all = h.all;
    values = h.values;
    same = record {
      asked = h.same.asked;
      assumed = ap (λ (t : Vec ℕ). t.items) h.same.assumed;
      core = ap (λ (r : LastAnswers). r.failed_core.items) h.same.reported;
      clock = h.same.clock;
      answer = h.same.state;
    };
  }

  pub mode_steps : (r : Result (Unit {0}) SolverError) (a b : Engine W L G) (user : ℕ) (judge : ScriptState → ScriptState) (due : ScriptState → List Expected) (IsAllowedStep : List Step → Step → Type 0) → MatchesEngine a i → naming.EngineChangesMode seen r a b user judge due IsAllowedStep → OnOk r (OnlyMakes IsAllowedStep due (v a) (w b))
  mode_steps (Ok x) a b user judge due IsAllowedStep m h = record { ordered = traced a b judge due m h.1.did; comes = h.1.comes }
  mode_steps (Err e) a b user judge due IsAllowedStep m h = tt

  pub new_steps : (r : Result ℕ SolverError) (a b : Engine W L G) → MatchesEngine a i → naming.EngineNewNameResult seen r a b → IfOk r (λ user. OnlyMakes IsDue (due_for_name user) (v a) (w b))
  new_steps (Ok user) a b m h = record { ordered = traced a b _ (due_for_name user) m h.1.did; comes = h.1.comes }
  new_steps (Err e) a b m h = tt

  pub clauses_steps : (r : Result (Unit {0}) SolverError) (a b : Engine W L G) (user : List ℕ) → MatchesEngine a i → adding.EngineAddsClause seen r a b user → OnOk r (StepsOfClause (v a) (w b) user)
  clauses_steps (Ok x) a b user m h = clause_steps a b user m h
  clauses_steps (Err e) a b user m h = tt

  pub assumed_steps : (r : Result (Unit {0}) SolverError) (a b : Engine W L G) (user : List ℕ) → MatchesEngine a i → adding.EngineAssumesOrRefuses seen r a b user → OnOk r (StepsOfAssumptions (v a) (w b) user)
  assumed_steps (Ok x) a b user m h = record { ordered = λ o. traced a b _ (adding.due_for_assumptions o user) m (h.did o); comes = h.comes; asked = h.asked }
  assumed_steps (Err e) a b user m h = tt

  -- ANSWERS

  counted : (a b : Engine W L G) → MatchesEngine a i → a.failed ≡ false → calls.EngineCountsRounds a b → CountsRounds (v a) (w b)
  counted a b m going h = let x = m going in record { more = h.more; within = h.within; few = h.few i x.0 x.1 }

  -- where only the proof differs
  pub differs : (a b : Engine W L G) → k ≡ i → inner.OnlyProofDiffers a b → w b ≡ record (v a) { steps = steps_of b.context.proof; target = target_of seen b.context.proof; asked = has_asked b.context.proof; listeners = proof_listeners b.context.proof; lost = has_missed_step b.context.proof; checking = checking_of b.context.proof }
  differs a b e h = ap (λ (s : Engine W L G). view_of seen k s) h ∙ ap (λ (j : ScriptState). record (v a) { state = j; steps = steps_of b.context.proof; target = target_of seen b.context.proof; asked = has_asked b.context.proof; listeners = proof_listeners b.context.proof; lost = has_missed_step b.context.proof; checking = checking_of b.context.proof }) e

  answered : (a b : Engine W L G) → MatchesEngine a i → k ≡ i → calls.EngineAnswered seen a b → Answered (v a) (w b)
  answered a b m e h = let x = m h.did.going in record {
    did = did a b _ _ h.did e;
    assumed = ap (λ (t : Vec ℕ). t.items) h.assumed;
    counts = record { on = counted a b m h.did.going h.counts.on; round = h.counts.round; spent = h.counts.spent; answered = h.counts.answered i x.0 x.1 };
    known = λ q. differs (inner.used_now a) b e (h.known q).same ∙ ap (λ (steps : List Step). record (v a) { used = true; steps = steps; target = target_of seen b.context.proof; asked = has_asked b.context.proof; listeners = proof_listeners b.context.proof; lost = has_missed_step b.context.proof; checking = checking_of b.context.proof }) (h.known q).steps;
    flushed = h.flushed;
  }

  -- a call that fails at a known answer makes no step
  flush_steps : (e : SolverError) (p q : Proof W L G) → EngineFlushFails seen e p q → steps_of q ≡ steps_of p
  flush_steps (errors.ProofIoError cause) p q h = h.history
  flush_steps errors.OutOfMemory p q h = h.adds.history
  flush_steps errors.CounterEnd p q h = h.adds.history
  flush_steps (errors.ProofProcessorError cause) p q h = h.adds.history
  flush_steps e p q h = absurd h

  pub solved : (r : Result Bool SolverError) (a b : Engine W L G) → MatchesEngine a i → k ≡ i → calls.EngineSolves seen r a b → Solves r (v a) (w b)
  solved (Ok sat) a b m e h = (answered a b m e h.0, h.1)
  solved (Err errors.Interrupted) a b m e h = (answered a b m e h.0, h.1)
  solved (Err errors.HasFailed) a b m e h = refused a b _ e h
  solved (Err x) a b m e h = record { fails = call_failed x a b h; counts = counted a b m h.going h.counts; known = λ q. flush_steps x a.context.proof b.context.proof (h.known q) }

  ask_steps : (a b : Engine W L G) → MatchesEngine a i → calls.EngineAnswered seen a b → StepsOfAsk (v a) (w b)
  ask_steps a b m h = record { ordered = traced a b _ (λ _. calls.engine_due_for_answer a.state b) m h.did; comes = h.steps.comes; times = h.steps.times; users = h.steps.users; asked = h.steps.asked }

  pub solved_steps : (r : Result Bool SolverError) (a b : Engine W L G) → MatchesEngine a i → calls.EngineSolves seen r a b → a.failed ≡ false → b.failed ≡ false → StepsOfAsk (v a) (w b)
  solved_steps (Ok sat) a b m h p q = ask_steps a b m h.0
  solved_steps (Err errors.Interrupted) a b m h p q = ask_steps a b m h.0
  solved_steps (Err errors.HasFailed) a b m h p q = absurd (true≢false (sym h.cause ∙ p))
  solved_steps (Err e) a b m h p q = absurd (true≢false (sym h.failed ∙ q))

  pub solved_rounds : (r : Result Bool SolverError) (a b : Engine W L G) → calls.EngineSolves seen r a b → a.failed ≡ false → b.failed ≡ false → a.state ≡ states.Unknown → Between G seen (calls.MakesRounds seen) (v a) (w b)
  solved_rounds (Ok sat) a b h p q n = (a, b, refl, refl, h.0.steps.rounds n)
  solved_rounds (Err errors.Interrupted) a b h p q n = (a, b, refl, refl, h.0.steps.rounds n)
  solved_rounds (Err errors.HasFailed) a b h p q n = absurd (true≢false (sym h.cause ∙ p))
  solved_rounds (Err e) a b h p q n = absurd (true≢false (sym h.failed ∙ q))

  pub observed_if : (r : Result (Vec ℕ) SolverError) (a b : Engine W L G) → IfOk r (λ users. naming.EngineObserved seen a b users.items) → IfOk r (λ users. Observed (v a) (w b) users.items)
  observed_if (Ok users) a b h = observed a b users.items h
  observed_if (Err e) a b h = h

  pub unnamed_if : (r : Result (Vec ℕ) SolverError) (a b : Engine W L G) → k ≡ i → IfErr r (λ e. naming.EngineObserveFails seen e a b) → IfErr r (λ e. ObserveFails e (v a) (w b))
  unnamed_if (Ok users) a b e h = h
  unnamed_if (Err x) a b e h = unnamed x a b e h

  pub observing_text : (r : Result (Vec ℕ) SolverError) (a b : Engine W L G) → IfOk r (λ users. naming.EngineObserved seen a b users.items) → IfErr r (λ e. naming.EngineObserveFails seen e a b) → WritesSteps r (v a) (w b)
  observing_text (Ok users) a b h k = made a b h.steps.took
  observing_text (Err e) a b h k = observing_wrote e a b k

  pub observed_between : (a b : Engine W L G) (users : List ℕ) → naming.EngineObserved seen a b users → MatchesEngine a i → IsObserved i k b.names (steps_of b.context.proof) users → ObservesBetween (v a) (w b) users
  observed_between a b users h m seen_so =
      let x = m h.going in
      let before = before_them (h.observes i x.0 x.1).1 in
      record {
        live = seen_so.live;
        before = subst (λ (ss : List Step). IsBridge checker_rules i ss seen_so.live) before seen_so.before;
        observes = subst (λ (ss : List Step). Observes 0 ss i seen_so.live (steps_of b.context.proof) k users) before seen_so.observes;
        agree = seen_so.agree;
      }

  -- MODELS AND CORES

  right_model : (a : Engine W L G) → MatchesEngine a i → (line : List ℕ) → EngineIsModel a line → IsModel (v a) line
  right_model a m line h = let x = m h.going in record { going = h.going; answer = h.answer; line_is = h.line_is; right = h.right i x.0 x.1 }

  pub model_if : (r : Result (Option (Vec ℕ)) SolverError) (a : Engine W L G) → MatchesEngine a i → IfOk r (λ o. MatchOption o (EngineHasNone a) (λ lits. EngineIsModel a lits.items)) → IfOk r (λ o. MatchOption o (HasNoModel (v a)) (λ lits. IsModel (v a) lits.items))
  model_if (Ok None) a m h = h
  model_if (Ok (Some lits)) a m h = right_model a m lits.items h
  model_if (Err e) a m h = h

  model_fails : (e : SolverError) (a : Engine W L G) → EngineModelFails e a → ModelFails e (v a)
  model_fails errors.HasFailed a h = h
  model_fails errors.OutOfMemory a h = h
  model_fails e a h = absurd h

  pub model_fails_if : (r : Result (Option (Vec ℕ)) SolverError) (a : Engine W L G) → IfErr r (λ e. EngineModelFails e a) → IfErr r (λ e. ModelFails e (v a))
  model_fails_if (Ok o) a h = h
  model_fails_if (Err e) a h = model_fails e a h

  core_seen : (a : Engine W L G) (st : SatState) → engine_core_for st a ≡ core_for st (v a)
  core_seen a states.UnsatUnderAssumptions = refl
  core_seen a states.Unknown = refl
  core_seen a states.Sat = refl
  core_seen a states.Unsat = refl

  pub core_is : (a : Engine W L G) → MatchesEngine a i → (core : List ℕ) → EngineIsCore a core → IsCore (v a) core
  core_is a m core h = let x = m h.going in record { going = h.going; unsat = h.unsat; core_is = h.core_is ∙ core_seen a a.state; some = h.some; right = h.right i x.0 x.1 }

  pub core_if : {X : Type 0} (o : Option X) (items : X → List ℕ) (a : Engine W L G) → MatchesEngine a i → MatchOption o (EngineHasNoCore a) (λ core. EngineIsCore a (items core)) → MatchOption o (HasNoCore (v a)) (λ core. IsCore (v a) (items core))
  core_if None items a m h = h
  core_if (Some core) items a m h = core_is a m (items core) h
