-- No live clause of a session has both signs of a variable.
use Rattle.std.proofs.Common.{ℕ, ◌<◌, ◌≡◌, Bool, true, false, ◌&&◌, List, [], ◌∷◌, map, refl, sym, ◌∙◌, ap, subst, arith, ◌⊎◌, inl, inr, Some, None}
use Rattle.std.proofs.lemmas.Bool.{true≢false, false_from_ne_true}
use Rattle.sat_base.specs.values.Literals.{negated}
use Rattle.sat_base.specs.steps.Steps.{Redundant, Simplified, Satisfied, Step, SolverVarName, UserVarName, AddClause, AtClause, UnitClauses, DeleteClause}
use Rattle.sat_checker.specs.LiteralSets.{is_subset_of, is_tautology, canonical, same_literals}
use Rattle.sat_checker.proofs.lemmas.sets.Canonical.{canonical_tautology, tautology_from, both_signs}
use Rattle.sat_checker.proofs.lemmas.meaning.Clauses.{same}
use Rattle.sat_checker.specs.Contents.{same_flag, plus_one_if, minus_one_if}
use Rattle.sat_solver.specs.session.Session.{Session, with_unit_added, session_after}
use Rattle.sat_solver.proofs.lemmas.session.Changes.{with_facts, with_live, with_sorted, with_live_clause, knowing_literals, without_live, changed, session_if}
use Rattle.sat_solver.proofs.lemmas.session.StepsOfClauses.{fact_stays, facts_stay}
use Rattle.sat_solver.specs.session.Listed.{HasNoTautology}
use Rattle.sat_solver.proofs.lemmas.fits.SetLemmas.{part_has}

-- a part of a clause that is no tautology is none either
pub part_plain : (xs ys : List ℕ) → is_subset_of xs ys ≡ true → is_tautology ys ≡ false → is_tautology xs ≡ false
part_plain xs ys p n = false_from_ne_true (is_tautology xs) (λ t.
    let b = both_signs xs t in
    true≢false (sym (tautology_from ys b.literal (part_has xs ys b.literal p b.within) (part_has xs ys (negated b.literal) p b.negation)) ∙ n))

-- STEPS PRESERVE THIS

more_positive : (b : Bool) (n : ℕ) → 0 < plus_one_if b n → (b ≡ true) ⊎ (0 < n)
more_positive true n h = inl refl
more_positive false n h = inr h

less_positive : (b : Bool) (n : ℕ) → 0 < minus_one_if b n → 0 < n
less_positive true n h = omega arith
less_positive false n h = h

right : (a b : Bool) → (a && b) ≡ true → b ≡ true
right true b h = h
right false b h = absurd (true≢false (sym h))

plain_live : (r : Bool) (set : List ℕ) (s : Session) → is_tautology set ≡ false → HasNoTautology s → HasNoTautology (with_live r set s)
plain_live r set s n h q other c = elim (more_positive (same_flag r q && same_literals set other) (s.live q other) c) [
  | inl t ↦ ap is_tautology (sym (same set other (right (same_flag r q) (same_literals set other) t))) ∙ n
  | inr k ↦ h q other k
]

plain_same : (s t : Session) → t.live ≡ s.live → HasNoTautology s → HasNoTautology t
plain_same s t e h q set c = h q set (subst (λ f. 0 < f q set) e c)

plain_sorted : (r : Bool) (set : List ℕ) (s : Session) → is_tautology set ≡ false → HasNoTautology s → HasNoTautology (with_sorted r set s)
plain_sorted r [] s n h = h
plain_sorted r (l ∷ []) s n h = plain_same s (with_unit_added l s) (fact_stays l s).live h
plain_sorted r (l ∷ m ∷ ls) s n h = plain_live r (l ∷ m ∷ ls) s n h

plain_clause : (r : Bool) (c : List ℕ) (s : Session) → HasNoTautology s → HasNoTautology (with_live_clause r c s)
plain_clause r c s h = go (is_tautology c) refl
  where
    go : (b : Bool) → is_tautology c ≡ b → HasNoTautology (session_if b s (with_sorted r (canonical c) s))
    go true e = h
    go false e = plain_sorted r (canonical c) s (canonical_tautology c ∙ e) h

plain_without : (r : Bool) (set : List ℕ) (s : Session) → HasNoTautology s → HasNoTautology (without_live r set s)
plain_without r set s h q other c = h q other (less_positive (same_flag r q && same_literals set other) (s.live q other) c)

plain_changed : (step : Step) (s : Session) → HasNoTautology s → HasNoTautology (changed step s)
plain_changed (SolverVarName v None) s h = h
plain_changed (UserVarName v (Some name)) s h = h
plain_changed (AddClause clause) s h = go s.unsat
  where
    go : (b : Bool) → HasNoTautology (session_if b s (with_live_clause false clause (knowing_literals clause s)))
    go true = h
    go false = plain_clause false clause (knowing_literals clause s) h
plain_changed (AtClause redundant clause hashes) s h = plain_clause redundant clause (knowing_literals clause s) h
plain_changed (UnitClauses us) s h =
    let ls : List ℕ = map (λ u. u.0) us in
    plain_same s (with_facts ls (knowing_literals ls s)) (facts_stay ls (knowing_literals ls s)).live h
plain_changed (DeleteClause clause Redundant) s h = plain_without true (canonical clause) s h
plain_changed (DeleteClause clause Simplified) s h = plain_without false (canonical clause) s h
plain_changed (DeleteClause clause Satisfied) s h = plain_without false (canonical clause) s h
plain_changed step s h = h

-- this holds after any steps
pub sessions_are_plain : (steps : List Step) → HasNoTautology (session_after steps)
sessions_are_plain [] q set c = absurd (omega arith)
sessions_are_plain (step ∷ earlier) q set c = plain_changed step (session_after earlier) (sessions_are_plain earlier) q set c
