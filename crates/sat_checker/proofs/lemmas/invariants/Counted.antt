-- After any steps, no set of literals is stored twice, and every stored set has a count.
use Rattle.std.proofs.Common.{ℕ, Bool, true, false, cond, List, [], ◌∷◌, map, Option, None, Some}
use Rattle.sat_base.specs.values.Literals.{negated}
use Rattle.sat_base.specs.steps.Steps.{Redundant, Simplified, Satisfied, Step, SolverVarName, UserVarName, AddClause, AtClause, UnitClauses, DeleteClause}
use Rattle.sat_checker.specs.LiteralSets.{is_tautology, canonical}
use Rattle.sat_checker.specs.Stored.{StoredClause, Stored, is_unit}
use Rattle.sat_checker.specs.Storing.{with_unit, with_units, with_contradiction, with_new_unit, settled_by, with_conflict_settled, with_canonical, with_sorted_set, without_clause, with_stored, with_input, with_literals_known}
use Rattle.sat_checker.specs.Accepts.{effect, stored_after, ready_after}
use Rattle.sat_checker.specs.Invariants.{AreDistinctSets, HaveCounts}
use Rattle.sat_checker.proofs.lemmas.contents.Counts.{once_more, once_less, counted_more, counted_less}

pub record TidyClauses (cs : List StoredClause) : Type 0 where
  pub once : AreDistinctSets cs
  pub counted : HaveCounts cs

tidy_unit : (l : ℕ) (f : Stored) → TidyClauses f.clauses → TidyClauses (with_unit l f).clauses
tidy_unit l f h = go (is_unit f l) (is_unit f (negated l))
  where
    go : (b d : Bool) → TidyClauses (cond b f (cond d (with_contradiction l f) (with_new_unit l f))).clauses
    go true d = h
    go false true = h
    go false false = h

tidy_units : (ls : List ℕ) (f : Stored) → TidyClauses f.clauses → TidyClauses (with_units ls f).clauses
tidy_units [] f h = h
tidy_units (l ∷ ls) f h = tidy_units ls (with_unit l f) (tidy_unit l f h)

tidy_set : (r : Bool) (set : List ℕ) (f : Stored) → TidyClauses f.clauses → TidyClauses (with_sorted_set r set f).clauses
tidy_set r [] f h = h
tidy_set r (l ∷ []) f h = tidy_unit l f h
tidy_set r (l ∷ m ∷ ls) f h = record { once = once_more r f.next_id (l ∷ m ∷ ls) f.clauses h.once; counted = counted_more r f.next_id (l ∷ m ∷ ls) f.clauses h.counted }

tidy_canonical : (r : Bool) (set : List ℕ) (f : Stored) → TidyClauses f.clauses → TidyClauses (with_canonical r set f).clauses
tidy_canonical true set f h = tidy_set true set f h
tidy_canonical false set f h = tidy_set false set f h

tidy_stored : (r : Bool) (clause : List ℕ) (f : Stored) → TidyClauses f.clauses → TidyClauses (with_stored r clause f).clauses
tidy_stored r clause f h = go (is_tautology clause)
  where
    go : (b : Bool) → TidyClauses (cond b f (with_canonical r (canonical clause) f)).clauses
    go true = h
    go false = tidy_canonical r (canonical clause) f h

tidy_less : (r : Bool) (set : List ℕ) (cs : List StoredClause) → TidyClauses cs → TidyClauses (without_clause r set cs)
tidy_less r set cs h = record { once = once_less r set cs h.once; counted = counted_less r set cs h.counted }

-- every step preserves this, accepted or not
pub tidy_effect : (step : Step) (f : Stored) → TidyClauses f.clauses → TidyClauses (effect step f).clauses
tidy_effect (SolverVarName v None) f h = h
tidy_effect (UserVarName v (Some name)) f h = h
tidy_effect (AddClause clause) f h = go f.unsat
  where
    go : (b : Bool) → TidyClauses (cond b f (with_input clause (with_literals_known clause f))).clauses
    go true = h
    go false = tidy_stored false clause (with_literals_known clause f) h
tidy_effect (AtClause r clause hashes) f h = tidy_stored r clause (with_literals_known clause f) h
tidy_effect (UnitClauses us) f h = let ls : List ℕ = map (λ u. u.0) us in tidy_units ls (with_literals_known ls f) h
tidy_effect (DeleteClause clause Redundant) f h = tidy_less true (canonical clause) f.clauses h
tidy_effect (DeleteClause clause Simplified) f h = tidy_less false (canonical clause) f.clauses h
tidy_effect (DeleteClause clause Satisfied) f h = tidy_less false (canonical clause) f.clauses h
tidy_effect step f h = h

pub tidy_settled : (f : Stored) → TidyClauses f.clauses → TidyClauses (with_conflict_settled f).clauses
tidy_settled f h = go f.conflict
  where
    go : (o : Option (ℕ × ℕ)) → TidyClauses (settled_by o f).clauses
    go None = h
    go (Some units) = h

pub tidy_stored_after : (steps : List Step) → TidyClauses (stored_after steps).clauses
tidy_stored_after [] = record { once = tt; counted = tt }
tidy_stored_after (step ∷ earlier) = tidy_effect step (ready_after earlier) (tidy_settled (stored_after earlier) (tidy_stored_after earlier))

pub tidy_clauses : (steps : List Step) → TidyClauses (ready_after steps).clauses
tidy_clauses steps = tidy_settled (stored_after steps) (tidy_stored_after steps)
