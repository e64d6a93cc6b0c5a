-- The script state that callers see still agrees with names and steps after a call.
use Rattle.std.proofs.Common.{ℕ, ◌≡◌, ◌∙◌, refl, sym, ap, subst, Bool, true, false, Option, Some, None, Result, Ok, Err, List, [], ◌∷◌, ◌++◌, append_assoc, length-append, arith}
use Rattle.std.proofs.lemmas.Bool.{true≢false}
use Rattle.std.proofs.Math.Seq.{drop-append_seam}
use Rattle.std.specs.Prelude.{◌+◌, ◌*◌, drop, length, is_ok, if◌then◌else◌}
use Rattle.std.specs.Result.{result_ok}
use Rattle.sat_base.specs.device.Device.{Writer}
use Rattle.sat_base.specs.script.ScriptState.{ScriptState, initial_state, introduce_all}
use Rattle.sat_base.specs.steps.Steps.{Step, UserVarName, ChangeSamplingMode}
use Rattle.sat_checker.specs.declared.processing.ProofProcessor.{Ghosts}
use Rattle.sat_checker.specs.matching.Bridge.{IsBridge, LiveVariables}
use Rattle.sat_checker.specs.matching.Expected.{Expected, Unknown}
use Rattle.sat_checker.specs.matching.ProofChecking.{checker_rules}
use Rattle.sat_solver.specs.declared.error.SolverError.{SolverError}
use Rattle.sat_solver.specs.declared.error.SolverError.TheVariants as errors
use Rattle.sat_solver.specs.declared.solver.Engine.{Engine}
use Rattle.sat_solver.specs.variables.Refusing.{names_in}
use Rattle.sat_solver.specs.variables.Observing.{Observes, all_named, one_more}
use Rattle.sat_solver.specs.solver.Adding as adding
use Rattle.sat_solver.specs.solver.Calls as calls
use Rattle.sat_solver.specs.solver.Configuring as configuring
use Rattle.sat_solver.specs.solver.Naming as naming
use Rattle.sat_solver.specs.solver.Proving as proving
use Rattle.sat_solver.specs.solver.View as inner
use Rattle.sat_solver.specs.solver.Whole.{steps_in}
use Rattle.sat_solver.specs.facade.Inner.{MatchesEngine, view_of}
use Rattle.sat_base.specs.declared.dimacs.error.DimacsError.{DimacsError}
use Rattle.sat_solver.specs.solver.Formulas.{is_solver_out_of_memory, with_failed}
use Rattle.sat_solver.specs.facade.Formulas.{with_fault}
use Rattle.sat_solver.specs.facade.View.{IsInitial}
use Rattle.sat_solver.specs.facade.Judged.{CanBeObserved, IsObserved, state_after_name, steps_before}

-- the script state after a call whose result is `r`
pub when_done : {T E : Type 0} (r : Result T E) (done : Bool) (i j k : ScriptState) → done ≡ is_ok r → k ≡ (if done then j else i) → k ≡ (if is_ok r then j else i)
when_done r done i j k p h = subst (λ (b : Bool). k ≡ (if b then j else i)) p h

-- HIDDEN VARIABLES THAT GET NAMES

-- two steps were made for each name
made_for : {low : ℕ} {s t : List Step} {j k : ScriptState} {live : LiveVariables} {users : List ℕ} → Observes low s j live t k users → (made : List Step) × (t ≡ made ++ s) × (length made ≡ 2 * length users)
made_for all_named = ([], refl, refl)
made_for (one_more {s = s} {users = users} v i user low given nameless next later) =
    let r = made_for later in
    let pair : List Step = UserVarName v (Some user) ∷ ChangeSamplingMode v false ∷ [] in
    let both : (r.0 ++ pair) ++ s ≡ r.0 ++ (pair ++ s) = append_assoc r.0 pair s in
    let sum = length-append r.0 pair in
    let count = r.2 in
    (r.0 ++ pair, r.1 ∙ sym both, omega arith)

pub before_them : {s t : List Step} {j k : ScriptState} {live : LiveVariables} {users : List ℕ} → Observes 0 s j live t k users → steps_before t users ≡ s
before_them {s = s} {t = t} {users = users} h =
    let r = made_for h in
    ap (λ (n : ℕ). drop n t) (sym r.2) ∙ ap (λ (z : List Step). drop (length r.0) z) r.1 ∙ drop-append_seam r.0 s

module _ {W L : Type 0} {G : Ghosts L} (seen : W → Writer) (i k : ScriptState) (a b : Engine W L G) (m : MatchesEngine a i) where
  -- a call that changed nothing, or failed
  stays : b ≡ a → k ≡ i → MatchesEngine b k
  stays p e = subst (λ (s : Engine W L G). MatchesEngine s k) (sym p) (subst (λ (j : ScriptState). MatchesEngine a j) (sym e) m)

  fails : b.failed ≡ true → MatchesEngine b k
  fails p q = absurd (true≢false (sym p ∙ q))

  -- a call that succeeded
  goes : (judge : ScriptState → ScriptState) (due : ScriptState → List Expected) → calls.CallEffect seen a b judge due → k ≡ judge i → MatchesEngine b k
  goes judge due h e going =
      let x = m h.going in
      let r = h.does.kept i x.0 x.1 in
      subst (λ (j : ScriptState). (live : LiveVariables) × inner.EngineIsInState b j live) (sym e) (r.live, r.agree)

  -- a call after which names and steps are the same
  same_parts : inner.known_names b ≡ inner.known_names a → steps_in b ≡ steps_in a → (b.failed ≡ false → a.failed ≡ false) → k ≡ i → MatchesEngine b k
  same_parts names steps going e f = let x = m (going f) in (x.0, rw (names, steps, e) x.1)

  pub clause_matches : (r : Result (Unit {0}) SolverError) (user : List ℕ) → adding.EngineAddsClause seen r a b user → k ≡ (if is_ok r then adding.with_added user i else i) → MatchesEngine b k
  clause_matches (Ok x) user h e = goes _ _ h.did e
  clause_matches (Err errors.WitnessVariable) user h e = stays h.same e
  clause_matches (Err errors.NotInDrat) user h e = stays h.same e
  clause_matches (Err errors.VariableLimit) user h e = stays h.same e
  clause_matches (Err errors.HasFailed) user h e = stays h.same e
  clause_matches (Err x) user h e = fails h.2.failed

  pub assumed_matches : (r : Result (Unit {0}) SolverError) (user : List ℕ) → adding.EngineAssumesOrRefuses seen r a b user → k ≡ (if is_ok r then introduce_all (names_in user) i else i) → MatchesEngine b k
  assumed_matches (Ok x) user h e = goes _ _ (h.did Unknown) e
  assumed_matches (Err errors.WitnessVariable) user h e = stays h.same e
  assumed_matches (Err errors.NotInDrat) user h e = stays h.same e
  assumed_matches (Err errors.VariableLimit) user h e = stays h.same e
  assumed_matches (Err errors.HasFailed) user h e = stays h.same e
  assumed_matches (Err x) user h e = fails h.2.failed

  pub mode_matches : (r : Result (Unit {0}) SolverError) (user : ℕ) (judge : ScriptState → ScriptState) (due : ScriptState → List Expected) (IsAllowedStep : List Step → Step → Type 0) → naming.EngineChangesMode seen r a b user judge due IsAllowedStep → k ≡ (if is_ok r then judge i else i) → MatchesEngine b k
  mode_matches (Ok x) user judge due IsAllowedStep h e = goes judge due h.1.did e
  mode_matches (Err errors.AssumedVariable) user judge due IsAllowedStep h e = stays h.same e
  mode_matches (Err errors.VariableLimit) user judge due IsAllowedStep h e = stays h.same e
  mode_matches (Err errors.HasFailed) user judge due IsAllowedStep h e = stays h.same e
  mode_matches (Err x) user judge due IsAllowedStep h e = fails h.2.failed

  pub new_matches : (r : Result ℕ SolverError) → naming.EngineNewNameResult seen r a b → k ≡ state_after_name (result_ok r) i → MatchesEngine b k
  new_matches (Ok user) h e = goes _ _ h.1.did e
  new_matches (Err errors.VariableLimit) h e = stays h.same e
  new_matches (Err errors.HasFailed) h e = stays h.same e
  new_matches (Err x) h e = fails h.1.failed

  pub unnamed_matches : (x : SolverError) → naming.EngineObserveFails seen x a b → k ≡ i → MatchesEngine b k
  unnamed_matches errors.VariableLimit h e = absurd h
  unnamed_matches errors.HasFailed h e = stays h.same e
  unnamed_matches x h e = fails h.failed

  pub solve_matches : (r : Result Bool SolverError) → calls.EngineSolves seen r a b → k ≡ i → MatchesEngine b k
  solve_matches (Ok sat) h e = goes _ _ h.0.did e
  solve_matches (Err errors.Interrupted) h e = goes _ _ h.0.did e
  solve_matches (Err errors.HasFailed) h e = stays h.same e
  solve_matches (Err x) h e = fails h.failed

  pub config_matches : (r : Result (Unit {0}) SolverError) (u : _) → configuring.EngineConfigures r u a b → k ≡ i → MatchesEngine b k
  config_matches (Ok x) u h e = same_parts h.same.names (ap (λ (p : _). p.made.history.steps) h.same.proof) (λ q. h.going) e
  config_matches (Err errors.HasFailed) u h e = stays h.same e
  config_matches (Err errors.OutOfRange) u h e = stays h.same e
  config_matches (Err x) u h e = absurd h

  -- where only the proof differs, and no step was made
  quiet : inner.OnlyProofDiffers a b → steps_in b ≡ steps_in a → a.failed ≡ false → k ≡ i → MatchesEngine b k
  quiet d s going e = same_parts (ap (λ (z : Engine W L G). z.names) d) s (λ q. going) e

  pub opened_matches : (r : Result (Unit {0}) SolverError) (format : _) (target : W) → proving.EngineOpensProof seen r format target a b → k ≡ i → MatchesEngine b k
  opened_matches (Ok x) format target h e = quiet h.same h.steps h.going e
  opened_matches (Err errors.HasFailed) format target h e = stays h.same e
  opened_matches (Err errors.TooLate) format target h e = stays h.same e
  opened_matches (Err x) format target h e = absurd h

  pub enabled_matches : (r : Result (Unit {0}) SolverError) → proving.EngineEnables seen r a b → k ≡ i → MatchesEngine b k
  enabled_matches (Ok x) h e = quiet h.same h.checks.steps h.going e
  enabled_matches (Err errors.HasFailed) h e = stays h.same e
  enabled_matches (Err errors.TooLate) h e = stays h.same e
  enabled_matches (Err x) h e = absurd h

  pub listened_matches : (r : Result (Unit {0}) SolverError) (processor : L) → proving.EngineAddsProcessor seen r processor a b → k ≡ i → MatchesEngine b k
  listened_matches (Ok x) processor h e = quiet h.same h.steps h.going e
  listened_matches (Err errors.HasFailed) processor h e = stays h.same e
  listened_matches (Err errors.TooLate) processor h e = stays h.same e
  listened_matches (Err errors.OutOfMemory) processor h e = fails h.failed
  listened_matches (Err x) processor h e = absurd h

  pub closed_matches : (r : Result (Option W) SolverError) → proving.EngineClosesProof seen r a b → k ≡ i → MatchesEngine b k
  closed_matches (Ok None) h e = quiet h.same h.closes.history h.going e
  closed_matches (Ok (Some given)) h e = λ q.
      let x = m h.going in
      let r = h.does.kept i x.0 x.1 in
      subst (λ (j : ScriptState). (live : LiveVariables) × inner.EngineIsInState b j live) (sym e) (r.live, r.agree)
  closed_matches (Err errors.HasFailed) h e = stays h.same e
  closed_matches (Err (errors.ProofIoError cause)) h e = fails h.failed
  closed_matches (Err errors.OutOfMemory) h e = fails h.failed
  closed_matches (Err errors.CounterEnd) h e = fails h.failed
  closed_matches (Err (errors.ProofProcessorError cause)) h e = fails h.failed
  closed_matches (Err x) h e = absurd h

  -- hidden variables got names, and there is a script state after that
  pub can_be_observed : (users : List ℕ) → naming.EngineObserved seen a b users → CanBeObserved i (inner.known_names b) (steps_in b) users
  can_be_observed users h =
      let x = m h.going in
      let r = h.observes i x.0 x.1 in
      let before : steps_in a ≡ steps_before (steps_in b) users = sym (before_them r.1) in (
        r.0,
        record {
          live = x.0;
          before = subst (λ (ss : List Step). IsBridge checker_rules i ss x.0) before x.1.bridge;
          observes = subst (λ (ss : List Step). Observes 0 ss i x.0 (steps_in b) r.0 users) before r.1;
          agree = r.2;
        },
      )

  pub observed_matches : (users : List ℕ) → IsObserved i k (inner.known_names b) (steps_in b) users → MatchesEngine b k
  observed_matches users h q = (h.live, h.agree)

-- a solver in its initial state
pub starts : {W L : Type 0} {G : Ghosts L} (seen : W → Writer) (j : ScriptState) (s : Engine W L G) → j ≡ initial_state → IsInitial (view_of seen initial_state s) → IsInitial (view_of seen j s)
starts seen j s e h = subst (λ (i : ScriptState). IsInitial (view_of seen i s)) (sym e) h

-- a solver after an error of a text
pub faulty_seen : {W L : Type 0} {G : Ghosts L} (seen : W → Writer) (j : ScriptState) (a b : Engine W L G) (fault : DimacsError) → b ≡ with_failed (is_solver_out_of_memory fault) a → view_of seen j b ≡ with_fault fault (view_of seen j a)
faulty_seen {W} {L} {G} seen j a b fault h = ap (λ (s : Engine W L G). view_of seen j s) h
