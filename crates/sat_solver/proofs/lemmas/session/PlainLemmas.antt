-- As long as no name is hidden, steps and accepted clauses admit the same valuations.
use Rattle.std.proofs.Common.{ℕ, ◌≡◌, Bool, true, false, ◌||◌, eqb, Some, None, List, [], ◌∷◌, map, refl}
use Rattle.sat_base.specs.values.Literals.{negated}
use Rattle.sat_base.specs.steps.Steps.{Redundant, Step, SolverVarName, UserVarName, AddClause, AtClause, UnitClauses, DeleteClause}
use Rattle.sat_checker.specs.LiteralSets.{is_tautology, canonical}
use Rattle.sat_solver.specs.session.Session.{Session, with_unit_added, after}
use Rattle.sat_solver.proofs.lemmas.session.Changes.{with_facts, with_sorted, with_live_clause, knowing_literals, session_if}

-- RECORDED UNSAT IS NEVER LOST

-- after a unit
fact_unsat : (l : ℕ) (s : Session) → s.unsat ≡ true → (with_unit_added l s).unsat ≡ true
fact_unsat l s u = go (s.units l) (s.units (negated l))
  where
    go : (b d : Bool) → (session_if b s (session_if d (record s { unsat = true }) (record s { units = λ m. eqb l m || s.units m }))).unsat ≡ true
    go true d = u
    go false true = refl
    go false false = u

-- after units
facts_unsat : (ls : List ℕ) (s : Session) → s.unsat ≡ true → (with_facts ls s).unsat ≡ true
facts_unsat [] s u = u
facts_unsat (l ∷ ls) s u = facts_unsat ls (with_unit_added l s) (fact_unsat l s u)

-- after a sorted clause
sorted_unsat : (r : Bool) (set : List ℕ) (s : Session) → s.unsat ≡ true → (with_sorted r set s).unsat ≡ true
sorted_unsat r [] s u = refl
sorted_unsat r (l ∷ []) s u = fact_unsat l s u
sorted_unsat r (l ∷ m ∷ ls) s u = u

-- after a clause
clause_unsat : (r : Bool) (clause : List ℕ) (s : Session) → s.unsat ≡ true → (with_live_clause r clause s).unsat ≡ true
clause_unsat r clause s u = go (is_tautology clause)
  where
    go : (b : Bool) → (session_if b s (with_sorted r (canonical clause) s)).unsat ≡ true
    go true = u
    go false = sorted_unsat r (canonical clause) s u

-- after any step
pub unsat_stays : (step : Step) (s : Session) → s.unsat ≡ true → (after step s).unsat ≡ true
unsat_stays (SolverVarName v None) s u = u
unsat_stays (UserVarName v (Some name)) s u = u
unsat_stays (AddClause clause) s u = go s.unsat
  where
    go : (b : Bool) → (session_if b s (with_live_clause false clause (knowing_literals clause s))).unsat ≡ true
    go true = u
    go false = clause_unsat false clause (knowing_literals clause s) u
unsat_stays (AtClause r clause hashes) s u = clause_unsat r clause (knowing_literals clause s) u
unsat_stays (UnitClauses us) s u = facts_unsat (map (λ u. u.0) us) (knowing_literals (map (λ u. u.0) us) s) u
unsat_stays (DeleteClause clause Redundant) s u = u
unsat_stays step s u = u

-- STEPS
