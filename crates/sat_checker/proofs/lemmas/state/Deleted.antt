-- A deletion does not make the stored clauses longer.
use Rattle.std.proofs.Common.{ℕ, ◌+◌, ◌≤◌, ◌≡◌, refl, Bool, true, false, ◌&&◌, cond, eqb, List, [], ◌∷◌, ◌++◌, length, map, arith}
use Rattle.sat_base.specs.steps.Steps.{Deletion, Redundant, Satisfied, Simplified, DeleteClause}
use Rattle.sat_checker.specs.LiteralSets.{canonical, same_literals}
use Rattle.sat_checker.specs.Stored.{Stored, StoredClause}
use Rattle.sat_checker.specs.Storing.{without_clause, without_count, unless_removed}
use Rattle.sat_checker.specs.Accepts.{effect}
use Rattle.sat_checker.specs.Looks.{total_length, stored_literal_count}

abbrev length_of : List StoredClause → ℕ
length_of cs = total_length (map (λ c. c.literals) cs)

length_without : (r : Bool) (ls : List ℕ) (cs : List StoredClause) → length_of (without_clause r ls cs) ≤ length_of cs
length_without r ls [] = omega arith
length_without r ls (c ∷ cs) = go (same_literals c.literals ls) (length_without r ls cs)
  where
    left : (d : StoredClause) → length d.literals ≤ length c.literals → length_of (unless_removed d ++ cs) ≤ length c.literals + length_of cs
    left d e = pick (eqb d.irredundant 0 && eqb d.redundant 0)
      where
        pick : (b : Bool) → length_of (cond b [] (d ∷ []) ++ cs) ≤ length c.literals + length_of cs
        pick true = omega arith
        pick false = omega (arith, e)

    taken : (r : Bool) → length (without_count r c).literals ≤ length c.literals
    taken true = omega arith
    taken false = omega arith

    go : (b : Bool) → length_of (without_clause r ls cs) ≤ length_of cs → length_of (cond b (unless_removed (without_count r c) ++ cs) (c ∷ without_clause r ls cs)) ≤ length c.literals + length_of cs
    go true ih = left (without_count r c) (taken r)
    go false ih = omega (arith, ih)

pub count_deleted : (f : Stored) (c : List ℕ) (p : Deletion) → stored_literal_count (effect (DeleteClause c p) f) ≤ stored_literal_count f
count_deleted f c Redundant = length_without true (canonical c) f.clauses
count_deleted f c Satisfied = length_without false (canonical c) f.clauses
count_deleted f c Simplified = length_without false (canonical c) f.clauses

-- if only one of two passes takes looks, they take at most those of one pass
pub one_pass : (heard : Bool) (a b d n : ℕ) → (heard ≡ true → b ≡ a) → b ≤ a + n → (heard ≡ false → d ≡ b) → d ≤ b + n → d ≤ a + n
one_pass true a b d n first l second m = let e : b ≡ a = first refl in omega (arith, e, m)
one_pass false a b d n first l second m = let e : d ≡ b = second refl in omega (arith, e, l)
