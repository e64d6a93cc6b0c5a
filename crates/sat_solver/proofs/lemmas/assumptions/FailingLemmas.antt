-- One step states a core.
use Rattle.std.proofs.Common.{ℕ, zero, suc, ◌<◌, ◌≤◌, ◌≡◌, ◌∙◌, Ok, Err, List, [], ◌∷◌, length, map, get_or, refl, sym, ap, subst, arith, inl, inr}
use Rattle.std.proofs.lemmas.Bool.{cases_eq}
use Rattle.std.specs.List.{Contains}
use Rattle.sat_base.specs.device.Device.{Writer}
use Rattle.sat_base.specs.values.Literals.{variable, negated}
use Rattle.sat_base.specs.steps.Steps.{FailedAssumptions}
use Rattle.sat_store.specs.clause.Buffer.{IsClause, lits_at}
use Rattle.sat_checker.specs.declared.processing.ProofProcessor.{Ghosts}
use Rattle.sat_parts.specs.declared.prop.graph.Reason.TheVariants.{Long}
use Rattle.sat_parts.specs.clause.Db.{live_refs}
use Rattle.sat_parts.specs.prop.State.{PropagationState, node, lit_at}
use Rattle.sat_parts.proofs.lemmas.clause.ListLemmas.{place_in, at_place}
use Rattle.sat_parts.proofs.lemmas.prop.RoomLemmas.{below_from_value}
use Rattle.sat_solver.specs.session.LiveClauses.{with_var}
use Rattle.sat_solver.specs.proof.ProofView.{EmitsChecked, HasAllowedSteps, EmitResult, session_of}
use Rattle.sat_solver.specs.declared.proof.Proof.{Proof}
use Rattle.sat_solver.specs.declared.proof.ProofError.{ProofError}
use Rattle.sat_solver.specs.declared.proof.ProofError.TheVariants.{Write, OutOfMemory, Check}
use Rattle.sat_solver.proofs.lemmas.session.ProofLemmas.{adds_none, gains_adds}
use Rattle.sat_solver.specs.analyze_conflict.Marks.{CanAnalyze, IsReasoned}
use Rattle.sat_solver.specs.assumptions.FailedAssumptions.{IsDecisionAt, IsFailedAssumption, fails_bottom, fails_signs, fails_clauses}
use Rattle.sat_solver.proofs.lemmas.analyze_conflict.Callers.{can_analyze, stands_by}
use Rattle.sat_parts.specs.declared.parts.SearchState.{SearchState}
use Rattle.sat_parts.specs.parts.Whole.{state, SearchStateInvariant}
use Rattle.sat_parts.specs.parts.Assumed.{DecisionsAreAmong}
use Rattle.sat_solver.proofs.lemmas.fits.AnswerParts.{parts_rests}
use Rattle.sat_solver.specs.declared.error.SolverError.TheVariants as errors
use Rattle.sat_solver.specs.declared.context.Search.{Search}
use Rattle.sat_solver.specs.assumptions.Core.{causes_hashes, IsFailedCoreOf, WritesCoreStep}
use Rattle.sat_solver.specs.cdcl.StepEffects.{error_of_proof}
use Rattle.sat_solver.specs.cdcl.Joint.{global_in, HasClearFlags, SearchInvariant, SameVarsAndAssumptions, assumed_indices}
use Rattle.sat_solver.specs.cdcl.Iterations.{IsFalseAssumption}
use Rattle.sat_solver.proofs.lemmas.cdcl.TurnLemmas.{ready_moved}
use Rattle.sat_parts.proofs.lemmas.parts.WordSteps.{goes_refl}
use Rattle.sat_solver.proofs.lemmas.cdcl.GoingLemmas.{check_loss, complaint_kept, went_checked, fault_checked}

pub parts_can : (p : SearchState) → SearchStateInvariant p → 0 < length p.trail.starts → CanAnalyze p.clauses (state p)
parts_can p h above =
    can_analyze p.clauses (live_refs p.clauses p.db.refs) p.binary.implied (state p) (length p.assignment.current) h.below.propagation.agrees h.below.levelled above h.below.propagation.clauses (λ i first lt. h.below.reasons i (omega arith) lt)

chosen_assumed : (st : PropagationState) (assumed : List ℕ) (l : ℕ) → DecisionsAreAmong assumed st → IsDecisionAt st 0 l → Contains assumed l
chosen_assumed st assumed l decided c = subst (λ m. Contains assumed m) c.there (decided c.place c.within (rw c.there c.above) (rw c.there c.free))

module _ (p : SearchState) (assumed : List ℕ) (failed : ℕ) (holds : SearchStateInvariant p) (failing : IsFalseAssumption assumed p failed) where
  each : (core : List ℕ) → get_or core 0 0 ≡ failed → ((k : ℕ) → 0 < k → k < length core → IsDecisionAt (state p) 0 (get_or core k 0)) → (k : ℕ) → k < length core → Contains assumed (get_or core k 0)
  each core first chosen k lt = elim (cases_eq k 0) [
    | inl z ↦ subst (λ m. Contains assumed m) (sym first ∙ ap (λ i. get_or core i 0) (sym z)) failing.among
    | inr n ↦ chosen_assumed (state p) assumed (get_or core k 0) failing.decided (chosen k (omega arith) lt)
  ]

  only : (k : ℕ) → k < length (failed ∷ []) → Contains assumed (get_or (failed ∷ []) k 0)
  only zero lt = failing.among
  only (suc k) lt = absurd (omega arith)

  both : IsDecisionAt (state p) 0 (negated failed) → (k : ℕ) → k < length (failed ∷ negated failed ∷ []) → Contains assumed (get_or (failed ∷ negated failed ∷ []) k 0)
  both c zero lt = failing.among
  both c (suc zero) lt = chosen_assumed (state p) assumed (negated failed) failing.decided c
  both c (suc (suc k)) lt = absurd (omega arith)

  -- the core consists of assumptions, the failed one first
  pub fails_failed : (core used : List ℕ) → IsFailedAssumption p.clauses (state p) failed core used → IsFailedCoreOf assumed failed core
  fails_failed core used (fails_bottom low one none) = subst (λ ls. IsFailedCoreOf assumed failed ls) (sym one) (record { some = omega arith; first = refl; among = only })
  fails_failed core used (fails_signs chosen two none) = subst (λ ls. IsFailedCoreOf assumed failed ls) (sym two) (record { some = omega arith; first = refl; among = both chosen })
  fails_failed core used (fails_clauses r) = record { some = r.lits.lits.some; first = r.lits.lits.first; among = each core r.lits.lits.first r.lits.lits.chosen }

  valued : (l : ℕ) → Contains assumed l → ((k : ℕ) → k < length assumed → variable (get_or assumed k 0) < length p.assignment.current) → variable l < length p.assignment.current
  valued l c there = subst (λ m. variable m < length p.assignment.current) (at_place assumed l c) (there c.0 c.1)

  pub core_below : (core used : List ℕ) (count : ℕ) → ((k : ℕ) → k < length assumed → variable (get_or assumed k 0) < length p.assignment.current) → length p.assignment.current ≤ count → IsFailedAssumption p.clauses (state p) failed core used →
      (k : ℕ) → k < length core → variable (get_or core k 0) < count
  core_below core used count there le f k lt = (let v : variable (get_or core k 0) < length p.assignment.current = valued (get_or core k 0) ((fails_failed core used f).among k lt) there in omega arith)

  none_used : (used : List ℕ) (A : Type 0) → used ≡ [] → (k : ℕ) → k < length used → A
  none_used used A none k lt = (let z : length used ≡ 0 = ap (λ (xs : List ℕ). length xs) none in absurd (omega arith))

  pub used_reasoned : (core used : List ℕ) → IsFailedAssumption p.clauses (state p) failed core used → (k : ℕ) → k < length used → IsReasoned (state p) 0 (get_or used k 0)
  used_reasoned core used (fails_bottom low one none) k lt = none_used used _ none k lt
  used_reasoned core used (fails_signs chosen two none) k lt = none_used used _ none k lt
  used_reasoned core used (fails_clauses r) k lt = r.derivation.grounds.reasons (get_or used k 0) (place_in used k lt)

  module _ (core used : List ℕ) (f : IsFailedAssumption p.clauses (state p) failed core used) where
    pub cause_there : (k : ℕ) → k < length used → variable (get_or used k 0) < length p.graph
    cause_there k lt =
        let x : IsReasoned (state p) 0 (get_or used k 0) = used_reasoned core used f k lt in
        let v : variable (lit_at (state p) x.place) < length p.assignment.current = below_from_value p.assignment.current (variable (lit_at (state p) x.place)) _ (holds.below.propagation.agrees.holds x.place x.within) in
        subst (λ l. variable l < length p.graph) x.there (omega (arith, holds.below.propagation.agrees.nodes))

    valid : (k o : ℕ) → k < length used → (node (state p) (get_or used k 0)).reason ≡ Long o → IsClause p.clauses o × (0 < length (lits_at p.clauses o))
    valid k o lt r =
        let x : IsReasoned (state p) 0 (get_or used k 0) = used_reasoned core used f k lt in
        stands_by p.clauses (live_refs p.clauses p.db.refs) p.binary.implied (state p) x.place o (node (state p) (lit_at (state p) x.place)).reason (length p.assignment.current) holds.below.propagation.clauses
        (holds.below.reasons x.place (omega arith) x.within) (ap (λ l. (node (state p) l).reason) x.there ∙ r)

    pub cause_clause : (k o : ℕ) → k < length used → (node (state p) (get_or used k 0)).reason ≡ Long o → IsClause p.clauses o
    cause_clause k o lt r = (valid k o lt r).0

    pub cause_some : (k o : ℕ) → k < length used → (node (state p) (get_or used k 0)).reason ≡ Long o → 0 < length (lits_at p.clauses o)
    cause_some k o lt r = (valid k o lt r).1

module _ {W L : Type 0} {G : Ghosts L} (seen : W → Writer) (a b : Proof W L G) (c c' : Search) where
  -- memory ran out before anything was written
  pub reports_starved : HasAllowedSteps a → WritesCoreStep seen (Err errors.OutOfMemory) a a c c'
  reports_starved keeps = record { steps = []; went = adds_none seen a; core = tt; keeps = keeps; kept = tt; loss = inl refl; ends = tt }

  -- writing or checking the step failed
  pub reports_broken : (e : ProofError) (core hashes : List ℕ) → HasAllowedSteps b → EmitResult {T = Unit {0}} seen (Err e) (FailedAssumptions core hashes ∷ []) a b → WritesCoreStep seen (Err (error_of_proof e)) a b c c'
  reports_broken (Write cause) core hashes keeps fails = record { steps = FailedAssumptions core hashes ∷ []; went = fails.0; core = (refl, tt); keeps = keeps; kept = fails.1; loss = tt; ends = tt }
  reports_broken OutOfMemory core hashes keeps gains = record { steps = []; went = gains_adds seen [] a b gains; core = tt; keeps = keeps; kept = tt; loss = inl gains.taking; ends = tt }
  reports_broken (Check fault) core hashes keeps fails = record { steps = FailedAssumptions core hashes ∷ []; went = went_checked seen (Unit {0}) fault (FailedAssumptions core hashes ∷ []) a b fails.0; core = (refl, tt); keeps = keeps; kept = complaint_kept fault b fails.1; loss = check_loss fault a b fails.0.why; ends = fault_checked _ fault }

  -- the step of the core was written
  pub reports_core : HasAllowedSteps b → (core : List ℕ) → core ≡ map (with_var (global_in c)) c'.analysis.core → (hashes : List ℕ) → hashes ≡ causes_hashes c.parts c'.analysis.used → EmitsChecked seen (FailedAssumptions core hashes ∷ []) a b →
      SearchInvariant (session_of a) c → IsFalseAssumption c.assumptions.lits.items c.parts c.failed → IsFailedAssumption c.parts.clauses (state c.parts) c.failed c'.analysis.core c'.analysis.used → HasClearFlags c' →
      c'.parts ≡ c.parts → c'.globals ≡ c.globals → c'.assumptions ≡ c.assumptions → WritesCoreStep seen (Ok tt) a b c c'
  reports_core keeps core core_is hashes hashes_is adds search failing f free parts globals assumptions = record {
    steps = FailedAssumptions core hashes ∷ [];
    went = adds;
    core = (refl, tt);
    keeps = keeps;
    kept = tt;
    loss = tt;
    ends = record {
      is = rw (core_is, hashes_is) refl;
      failed = fails_failed c.parts c.assumptions.lits.items c.failed search.valid.holds failing c'.analysis.core c'.analysis.used f;
      search = record {
        valid = record {
          holds = rw parts search.valid.holds;
          fits = rw (parts, globals, adds.history) (parts_rests c.parts (session_of a) (global_in c) search.valid.fits (FailedAssumptions core hashes) tt);
        };
        ready = ready_moved (session_of a) (session_of b) c c' search.ready (rw adds.history (record { assumed = refl; names = λ v. refl })) moved (rw parts (goes_refl (assumed_indices c) (state c.parts) c.parts.vsids)) (rw (parts, assumptions) search.ready.placed) free;
      };
      moved = moved;
      same = parts;
    };
  }
    where
      moved : SameVarsAndAssumptions c c'
      moved = record { globals = globals; lits = ap (λ a. a.lits) assumptions; size = ap (λ p. length p.assignment.current) parts }
