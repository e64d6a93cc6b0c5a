-- What holds for every stored clause or unit still holds as clauses and units are added and removed.
use Rattle.std.proofs.Common.{ℕ, ◌≤◌, ◌≡◌, Bool, true, false, ◌&&◌, cond, eqb, List, [], ◌∷◌, ◌++◌, map, length, refl, arith}
use Rattle.std.specs.List.{AllByRecursion}
use Rattle.sat_base.specs.values.Literals.{negated}
use Rattle.sat_checker.specs.LiteralSets.{is_tautology, canonical, same_literals}
use Rattle.sat_checker.specs.Stored.{StoredClause, StoredUnit, Stored, is_unit, unit_literals, long_clauses}
use Rattle.sat_checker.specs.Storing.{with_count, with_stored_clause, without_count, unless_removed, without_clause, with_unit, with_contradiction, with_new_unit, with_units, with_sorted_set, with_canonical, with_stored}
use Rattle.sat_checker.proofs.lemmas.meaning.Clauses.{literals_of}

module _ (P : List ℕ → Type 0) where
  each_with : (r : Bool) (id : ℕ) (ls : List ℕ) (cs : List StoredClause) → AllByRecursion P (literals_of cs) → P ls → AllByRecursion P (literals_of (with_stored_clause r id ls cs))
  each_with true id ls [] h p = (p, tt)
  each_with false id ls [] h p = (p, tt)
  each_with r id ls (c ∷ cs) h p = go r (each_with r id ls cs h.1 p) (same_literals c.literals ls)
    where
      go : (r : Bool) → AllByRecursion P (literals_of (with_stored_clause r id ls cs)) → (b : Bool) → AllByRecursion P (literals_of (cond b (with_count r c ∷ cs) (c ∷ with_stored_clause r id ls cs)))
      go true ih true = (h.0, h.1)
      go false ih true = (h.0, h.1)
      go r ih false = (h.0, ih)

  pub each_without : (r : Bool) (ls : List ℕ) (cs : List StoredClause) → AllByRecursion P (literals_of cs) → AllByRecursion P (literals_of (without_clause r ls cs))
  each_without r ls [] h = tt
  each_without r ls (c ∷ cs) h = go r (each_without r ls cs h.1) (same_literals c.literals ls)
    where
      left_over : (r b : Bool) → AllByRecursion P (literals_of (cond b [] (without_count r c ∷ []) ++ cs))
      left_over r true = h.1
      left_over true false = (h.0, h.1)
      left_over false false = (h.0, h.1)

      go : (r : Bool) → AllByRecursion P (literals_of (without_clause r ls cs)) → (b : Bool) → AllByRecursion P (literals_of (cond b (unless_removed (without_count r c) ++ cs) (c ∷ without_clause r ls cs)))
      go r ih true = left_over r (eqb (without_count r c).irredundant 0 && eqb (without_count r c).redundant 0)
      go r ih false = (h.0, ih)

  pub each_unit : (l : ℕ) (f : Stored) → AllByRecursion P (long_clauses f) → AllByRecursion P (long_clauses (with_unit l f))
  each_unit l f h = go (is_unit f l) (is_unit f (negated l))
    where
      go : (b d : Bool) → AllByRecursion P (long_clauses (cond b f (cond d (with_contradiction l f) (with_new_unit l f))))
      go true d = h
      go false true = h
      go false false = h

  pub each_units : (ls : List ℕ) (f : Stored) → AllByRecursion P (long_clauses f) → AllByRecursion P (long_clauses (with_units ls f))
  each_units [] f h = h
  each_units (l ∷ ls) f h = each_units ls (with_unit l f) (each_unit l f h)

  each_set : (r : Bool) (set : List ℕ) (f : Stored) → AllByRecursion P (long_clauses f) → (2 ≤ length set → P set) → AllByRecursion P (long_clauses (with_sorted_set r set f))
  each_set r [] f h p = h
  each_set r (l ∷ []) f h p = each_unit l f h
  each_set r (l ∷ m ∷ ls) f h p = each_with r f.next_id (l ∷ m ∷ ls) f.clauses h (p (omega arith))

  pub each_stored : (r : Bool) (clause : List ℕ) (f : Stored) → AllByRecursion P (long_clauses f) → (is_tautology clause ≡ false → 2 ≤ length (canonical clause) → P (canonical clause)) → AllByRecursion P (long_clauses (with_stored r clause f))
  each_stored r clause f h p = go (is_tautology clause) refl
    where
      put : (r : Bool) → is_tautology clause ≡ false → AllByRecursion P (long_clauses (with_canonical r (canonical clause) f))
      put true e = each_set true (canonical clause) f h (p e)
      put false e = each_set false (canonical clause) f h (p e)

      go : (b : Bool) → is_tautology clause ≡ b → AllByRecursion P (long_clauses (cond b f (with_canonical r (canonical clause) f)))
      go true e = h
      go false e = put r e

module _ (K : ℕ → Type 0) where
  units_pushed : (us : List StoredUnit) (id l : ℕ) → AllByRecursion K (map (λ u. u.literal) us) → K l → AllByRecursion K (map (λ u. u.literal) (us ++ (record { id = id; literal = l }) ∷ []))
  units_pushed [] id l h k = (k, tt)
  units_pushed (u ∷ us) id l h k = (h.0, units_pushed us id l h.1 k)

  units_unit : (l : ℕ) (f : Stored) → AllByRecursion K (unit_literals f) → K l → AllByRecursion K (unit_literals (with_unit l f))
  units_unit l f h k = go (is_unit f l) (is_unit f (negated l))
    where
      go : (b d : Bool) → AllByRecursion K (unit_literals (cond b f (cond d (with_contradiction l f) (with_new_unit l f))))
      go true d = h
      go false true = h
      go false false = units_pushed f.units f.next_id l h k

  pub units_units : (ls : List ℕ) (f : Stored) → AllByRecursion K (unit_literals f) → AllByRecursion K ls → AllByRecursion K (unit_literals (with_units ls f))
  units_units [] f h k = h
  units_units (l ∷ ls) f h k = units_units ls (with_unit l f) (units_unit l f h k.0) k.1

  units_set : (r : Bool) (set : List ℕ) (f : Stored) → AllByRecursion K (unit_literals f) → AllByRecursion K set → AllByRecursion K (unit_literals (with_sorted_set r set f))
  units_set r [] f h k = h
  units_set r (l ∷ []) f h k = units_unit l f h k.0
  units_set r (l ∷ m ∷ ls) f h k = h

  pub units_stored : (r : Bool) (clause : List ℕ) (f : Stored) → AllByRecursion K (unit_literals f) → AllByRecursion K (canonical clause) → AllByRecursion K (unit_literals (with_stored r clause f))
  units_stored r clause f h k = go (is_tautology clause)
    where
      put : (r : Bool) → AllByRecursion K (unit_literals (with_canonical r (canonical clause) f))
      put true = units_set true (canonical clause) f h k
      put false = units_set false (canonical clause) f h k

      go : (b : Bool) → AllByRecursion K (unit_literals (cond b f (with_canonical r (canonical clause) f)))
      go true = h
      go false = put r
