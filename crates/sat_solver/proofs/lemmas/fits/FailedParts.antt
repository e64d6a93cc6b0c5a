-- The core of a failed assumption may be written, for every kind of failure.
use Rattle.std.proofs.Common.{ℕ, zero, suc, ◌<◌, ◌≡◌, List, [], ◌∷◌, map, length, get_or, sym, ◌∙◌, ap, subst, arith, inl, inr}
use Rattle.std.proofs.lemmas.Bool.{cases_eq}
use Rattle.std.specs.List.{Contains}
use Rattle.sat_base.specs.values.Literals.{negated}
use Rattle.sat_base.specs.values.Hashes.{hash_of}
use Rattle.sat_base.specs.steps.Steps.{FailedAssumptions}
use Rattle.sat_checker.proofs.lemmas.sets.Canonical.{among_from_contains}
use Rattle.sat_parts.specs.prop.Values.{IsFalseLit}
use Rattle.sat_parts.specs.prop.State.{PropagationState}
use Rattle.sat_parts.proofs.lemmas.clause.ListLemmas.{place_in}
use Rattle.sat_solver.specs.session.Session.{Session, IsAllowedStep}
use Rattle.sat_solver.specs.session.LiveClauses.{with_var}
use Rattle.sat_solver.specs.analyze_conflict.Derivation.{clause_of}
use Rattle.sat_solver.specs.assumptions.FailedAssumptions.{IsDecisionAt, IsFailedAssumption, fails_bottom, fails_signs, fails_clauses}
use Rattle.sat_parts.specs.declared.parts.SearchState.{SearchState}
use Rattle.sat_parts.specs.parts.Whole.{state, SearchStateInvariant}
use Rattle.sat_parts.specs.parts.Assumed.{DecisionsAreAmong}
use Rattle.sat_solver.specs.session.Matching.{SessionMatchesParts}
use Rattle.sat_solver.proofs.lemmas.fits.AnswerLemmas.{part_from}
use Rattle.sat_solver.proofs.lemmas.fits.AnswerParts.{parts_core_may, parts_bottom_may}
use Rattle.sat_solver.proofs.lemmas.fits.CoreLemmas.{core_pair_may}

-- if only assumptions were decided, every decision is an assumption
chosen_assumed : (st : PropagationState) (assumed : List ℕ) (at l : ℕ) → DecisionsAreAmong assumed st → IsDecisionAt st at l → Contains assumed l
chosen_assumed st assumed at l decided c = subst (λ m. Contains assumed m) c.there (decided c.place c.within (rw c.there c.above) (rw c.there c.free))

module _ (p : SearchState) (s : Session) (global : ℕ → ℕ) (fits : SessionMatchesParts p s global) (holds : SearchStateInvariant p) (failed : ℕ) (assumed : List ℕ) (its : s.assumed ≡ map (with_var global) assumed) (there : Contains assumed failed) (decided : DecisionsAreAmong assumed (state p)) (fails : IsFalseLit p.assignment.current failed) where
  each : (core : List ℕ) → get_or core 0 0 ≡ failed → ((k : ℕ) → 0 < k → k < length core → IsDecisionAt (state p) 0 (get_or core k 0)) → (k : ℕ) → k < length core → Contains assumed (get_or core k 0)
  each core first chosen k lt = elim (cases_eq k 0) [
    | inl z ↦ subst (λ m. Contains assumed m) (sym first ∙ ap (λ i. get_or core i 0) (sym z)) there
    | inr n ↦ chosen_assumed (state p) assumed 0 (get_or core k 0) decided (chosen k (omega arith) lt)
  ]

  both : IsDecisionAt (state p) 0 (negated failed) → (k : ℕ) → k < length (failed ∷ negated failed ∷ []) → Contains assumed (get_or (failed ∷ negated failed ∷ []) k 0)
  both c zero lt = there
  both c (suc zero) lt = chosen_assumed (state p) assumed 0 (negated failed) decided c
  both c (suc (suc k)) lt = absurd (omega arith)

  pub fails_may : (core used : List ℕ) → IsFailedAssumption p.clauses (state p) failed core used → IsAllowedStep s (FailedAssumptions (map (with_var global) core) (map (λ l. hash_of (clause_of p.clauses (state p) l)) used))
  fails_may core used (fails_bottom low only none) = rw (only, none) (parts_bottom_may p s global fits holds failed assumed [] its (among_from_contains assumed failed there) fails low)
  fails_may core used (fails_signs chosen two none) = rw (two, none) (core_pair_may s global failed assumed [] its (part_from (failed ∷ negated failed ∷ []) assumed (both chosen)))
  fails_may core used (fails_clauses r) =
      parts_core_may p s global fits holds core used assumed its (part_from core assumed (each core r.lits.lits.first r.lits.lits.chosen))
      (λ k lt. r.derivation.grounds.reasons (get_or used k 0) (place_in used k lt)) r.acceptable
