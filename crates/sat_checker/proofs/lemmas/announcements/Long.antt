-- After any steps, no clause of one literal is stored among the clauses of two or more literals.
use Rattle.std.proofs.Common.{ℕ, ◌≡◌, ◌≤◌, Bool, true, false, cond, List, [], ◌∷◌, ◌++◌, length, map, refl, ap, arith, Option, None, Some}
use Rattle.std.specs.List.{AllByRecursion}
use Rattle.sat_base.specs.values.Literals.{negated}
use Rattle.sat_base.specs.steps.Steps.{Redundant, Simplified, Satisfied, Step, SolverVarName, UserVarName, AddClause, AtClause, UnitClauses, DeleteClause}
use Rattle.sat_checker.specs.LiteralSets.{is_tautology, canonical, same_literals}
use Rattle.sat_checker.specs.Stored.{StoredClause, Stored, is_unit}
use Rattle.sat_checker.specs.Storing.{with_count, with_stored_clause, clause_with, without_count, unless_removed, without_clause, with_unit, with_contradiction, with_new_unit, with_conflict_settled, settled_by, with_sorted_set, with_canonical, with_stored, with_input, with_units, with_literals_known}
use Rattle.sat_checker.specs.Accepts.{effect, stored_after, ready_after}
use Rattle.sat_checker.specs.listeners.AnnouncingView as announcing
use Rattle.sat_checker.proofs.lemmas.meaning.Clauses.{same}

-- every clause has two or more literals
abbrev EachLong : List StoredClause → Type 0
EachLong = AllByRecursion (λ c. 2 ≤ length c.literals)

long_with : (r : Bool) (n : ℕ) (ls : List ℕ) (cs : List StoredClause) → 2 ≤ length ls → EachLong cs → EachLong (with_stored_clause r n ls cs)
long_with true n ls [] i h = (i, tt)
long_with false n ls [] i h = (i, tt)
long_with r n ls (c ∷ cs) i h = go r (long_with r n ls cs i h.1) (same_literals c.literals ls)
  where
    go : (r : Bool) → EachLong (with_stored_clause r n ls cs) → (b : Bool) → EachLong (cond b (with_count r c ∷ cs) (c ∷ with_stored_clause r n ls cs))
    go true ih true = h
    go false ih true = h
    go r ih false = (h.0, ih)

long_unless : (c : StoredClause) (b : Bool) (cs : List StoredClause) → 2 ≤ length c.literals → EachLong cs → EachLong (cond b [] (c ∷ []) ++ cs)
long_unless c true cs i h = h
long_unless c false cs i h = (i, h)

long_without : (r : Bool) (ls : List ℕ) (cs : List StoredClause) → EachLong cs → EachLong (without_clause r ls cs)
long_without r ls [] h = tt
long_without r ls (c ∷ cs) h = go (long_without r ls cs h.1) (same_literals c.literals ls)
  where
    less : (r : Bool) → 2 ≤ length (without_count r c).literals
    less true = h.0
    less false = h.0

    go : EachLong (without_clause r ls cs) → (b : Bool) → EachLong (cond b (unless_removed (without_count r c) ++ cs) (c ∷ without_clause r ls cs))
    go ih true = long_unless (without_count r c) _ cs (less r) h.1
    go ih false = (h.0, ih)

long_unit : (l : ℕ) (f : Stored) → EachLong f.clauses → EachLong (with_unit l f).clauses
long_unit l f h = go (is_unit f l) (is_unit f (negated l))
  where
    go : (b d : Bool) → EachLong (cond b f (cond d (with_contradiction l f) (with_new_unit l f))).clauses
    go true d = h
    go false true = h
    go false false = h

long_units : (ls : List ℕ) (f : Stored) → EachLong f.clauses → EachLong (with_units ls f).clauses
long_units [] f h = h
long_units (l ∷ ls) f h = long_units ls (with_unit l f) (long_unit l f h)

long_set : (r : Bool) (ls : List ℕ) (f : Stored) → EachLong f.clauses → EachLong (with_sorted_set r ls f).clauses
long_set r [] f h = h
long_set r (l ∷ []) f h = long_unit l f h
long_set r (l ∷ m ∷ ls) f h = long_with r f.next_id (l ∷ m ∷ ls) f.clauses (omega arith) h

long_canonical : (r : Bool) (ls : List ℕ) (f : Stored) → EachLong f.clauses → EachLong (with_canonical r ls f).clauses
long_canonical true ls f h = long_set true ls f h
long_canonical false ls f h = long_set false ls f h

long_stored : (r : Bool) (c : List ℕ) (f : Stored) → EachLong f.clauses → EachLong (with_stored r c f).clauses
long_stored r c f h = go (is_tautology c)
  where
    go : (b : Bool) → EachLong (cond b f (with_canonical r (canonical c) f)).clauses
    go true = h
    go false = long_canonical r (canonical c) f h

long_effect : (step : Step) (f : Stored) → EachLong f.clauses → EachLong (effect step f).clauses
long_effect (SolverVarName v None) f h = h
long_effect (UserVarName v (Some n)) f h = h
long_effect (AddClause c) f h = go f.unsat
  where
    go : (b : Bool) → EachLong (cond b f (with_input c (with_literals_known c f))).clauses
    go true = h
    go false = long_stored false c (with_literals_known c f) h
long_effect (AtClause r c hs) f h = long_stored r c (with_literals_known c f) h
long_effect (UnitClauses us) f h = long_units (map (λ u. u.0) us) (with_literals_known (map (λ u. u.0) us) f) h
long_effect (DeleteClause c Redundant) f h = long_without true (canonical c) f.clauses h
long_effect (DeleteClause c Satisfied) f h = long_without false (canonical c) f.clauses h
long_effect (DeleteClause c Simplified) f h = long_without false (canonical c) f.clauses h
long_effect step f h = h

long_settled : (f : Stored) → EachLong f.clauses → EachLong (with_conflict_settled f).clauses
long_settled f h = go f.conflict
  where
    go : (x : Option (ℕ × ℕ)) → EachLong (settled_by x f).clauses
    go None = h
    go (Some units) = h

long_after : (steps : List Step) → EachLong (stored_after steps).clauses
long_after [] = tt
long_after (step ∷ earlier) = long_effect step (with_conflict_settled (stored_after earlier)) (long_settled (stored_after earlier) (long_after earlier))

no_unit : (l : ℕ) (cs : List StoredClause) → EachLong cs → clause_with (l ∷ []) cs ≡ None
no_unit l [] h = refl
no_unit l (c ∷ cs) h = go (no_unit l cs h.1) (same_literals c.literals (l ∷ [])) refl
  where
    go : clause_with (l ∷ []) cs ≡ None → (b : Bool) → same_literals c.literals (l ∷ []) ≡ b → cond b (Some c) (clause_with (l ∷ []) cs) ≡ None
    go ih true e = absurd (let n : length c.literals ≡ 1 = ap length (same c.literals (l ∷ []) e) in let m : 2 ≤ length c.literals = h.0 in omega arith)
    go ih false e = ih

pub after_any : (steps : List Step) → announcing.HasNoStoredUnitClause (ready_after steps)
after_any steps l = no_unit l (ready_after steps).clauses (long_settled (stored_after steps) (long_after steps))
