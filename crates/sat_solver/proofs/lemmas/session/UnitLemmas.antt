-- After any steps, a literal and its negation are never both units.
use Rattle.std.proofs.Common.{ℕ, ◌≡◌, ◌≢◌, Bool, true, false, not, ◌&&◌, ◌||◌, eqb, Some, None, List, [], ◌∷◌, map, refl, sym, ◌∙◌, ap, arith, inl, inr}
use Rattle.std.proofs.lemmas.Bool.{or_cases, eqb-true, false_from_ne_true, true≢false}
use Rattle.sat_base.specs.values.Literals.{variable, negated}
use Rattle.sat_base.specs.steps.Steps.{Redundant, Step, SolverVarName, UserVarName, DeleteVar, AddClause, AtClause, UnitClauses, DeleteClause}
use Rattle.sat_checker.specs.LiteralSets.{is_tautology, canonical}
use Rattle.sat_parts.proofs.lemmas.prop.StateLemmas.{negated_twice}
use Rattle.sat_solver.specs.session.Session.{Session, with_unit_added, after, session_after}
use Rattle.sat_solver.proofs.lemmas.session.Changes.{with_facts, with_sorted, with_live_clause, knowing_literals, session_if}
use Rattle.sat_solver.specs.session.Empowering.{AreConsistent}

negated_other : (l : ℕ) → negated l ≢ l
negated_other l e = omega arith

both : (b : Bool) → b ≡ true → b ≡ false → ⊥
both b t f = true≢false (sym t ∙ f)

-- one more unit
more : (units : ℕ → Bool) (l : ℕ) → units l ≡ false → units (negated l) ≡ false → AreConsistent units → AreConsistent (λ m. eqb l m || units m)
more units l new other h m t = false_from_ne_true (eqb l (negated m) || units (negated m)) (λ u. elim (or_cases (eqb l m) (units m) t) [
  | inl e ↦ elim (or_cases (eqb l (negated m)) (units (negated m)) u) [
    | inl f ↦ negated_other m (sym (eqb-true l (negated m) f) ∙ eqb-true l m e)
    | inr x ↦ both (units (negated l)) (ap (λ z. units (negated z)) (eqb-true l m e) ∙ x) other
  ]
  | inr k ↦ elim (or_cases (eqb l (negated m)) (units (negated m)) u) [
    | inl f ↦ both (units (negated l)) (ap (λ z. units (negated z)) (eqb-true l (negated m) f) ∙ ap units (negated_twice m) ∙ k) other
    | inr x ↦ both (units (negated m)) x (h m k)
  ]
])

fact_consistent : (l : ℕ) (s : Session) → AreConsistent s.units → AreConsistent (with_unit_added l s).units
fact_consistent l s h = go (s.units l) (s.units (negated l)) refl refl
  where
    go : (b d : Bool) → s.units l ≡ b → s.units (negated l) ≡ d → AreConsistent (session_if b s (session_if d (record s { unsat = true }) (record s { units = λ m. eqb l m || s.units m }))).units
    go true d e f = h
    go false true e f = h
    go false false e f = more s.units l e f h

facts_consistent : (ls : List ℕ) (s : Session) → AreConsistent s.units → AreConsistent (with_facts ls s).units
facts_consistent [] s h = h
facts_consistent (l ∷ ls) s h = facts_consistent ls (with_unit_added l s) (fact_consistent l s h)

sorted_consistent : (r : Bool) (set : List ℕ) (s : Session) → AreConsistent s.units → AreConsistent (with_sorted r set s).units
sorted_consistent r [] s h = h
sorted_consistent r (l ∷ []) s h = fact_consistent l s h
sorted_consistent r (l ∷ m ∷ ls) s h = h

clause_consistent : (r : Bool) (clause : List ℕ) (s : Session) → AreConsistent s.units → AreConsistent (with_live_clause r clause s).units
clause_consistent r clause s h = go (is_tautology clause)
  where
    go : (b : Bool) → AreConsistent (session_if b s (with_sorted r (canonical clause) s)).units
    go true = h
    go false = sorted_consistent r (canonical clause) s h

-- the units of a variable are removed
without : (units : ℕ → Bool) (gone : ℕ → Bool) → AreConsistent units → AreConsistent (λ l. units l && gone l)
without units gone h l t = go (units l) refl (units (negated l)) refl t
  where
    go : (b : Bool) → units l ≡ b → (d : Bool) → units (negated l) ≡ d → (b && gone l) ≡ true → (d && gone (negated l)) ≡ false
    go true e true f x = absurd (both (units (negated l)) f (h l e))
    go true e false f x = refl
    go false e d f x = absurd (true≢false (sym x))

step_consistent : (step : Step) (s : Session) → AreConsistent s.units → AreConsistent (after step s).units
step_consistent (SolverVarName v None) s h = h
step_consistent (UserVarName v (Some name)) s h = h
step_consistent (DeleteVar v) s h = without s.units (λ l. not (eqb (variable l) v)) h
step_consistent (AddClause clause) s h = go s.unsat
  where
    go : (b : Bool) → AreConsistent (session_if b s (with_live_clause false clause (knowing_literals clause s))).units
    go true = h
    go false = clause_consistent false clause (knowing_literals clause s) h
step_consistent (AtClause r clause hashes) s h = clause_consistent r clause (knowing_literals clause s) h
step_consistent (UnitClauses us) s h = facts_consistent (map (λ u. u.0) us) (knowing_literals (map (λ u. u.0) us) s) h
step_consistent (DeleteClause clause Redundant) s h = h
step_consistent step s h = h

pub units_consistent : (steps : List Step) → AreConsistent (session_after steps).units
units_consistent [] l t = absurd (true≢false (sym t))
units_consistent (step ∷ earlier) l t = step_consistent step (session_after earlier) (units_consistent earlier) l t
