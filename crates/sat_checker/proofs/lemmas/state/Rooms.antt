-- The room of stored clauses, as clauses are added and removed.
use Rattle.std.proofs.Common.{ℕ, ◌+◌, Bool, true, false, cond, ◌&&◌, ◌||◌, refl, eqb, List, [], ◌∷◌, ◌++◌, zero, suc, ◌<◌, length, get_or, sym, subst, arith, ◌≡◌}
use Rattle.std.proofs.lemmas.Bool.{true≢false}
use Rattle.std.specs.List.{list_any}
use Rattle.sat_base.specs.values.Literals.{negated}
use Rattle.sat_checker.specs.LiteralSets.{is_among, same_literals}
use Rattle.sat_checker.specs.Stored.{StoredClause}
use Rattle.sat_checker.specs.Storing.{with_stored_clause, without_clause, without_count, unless_removed}
use Rattle.sat_checker.proofs.lemmas.sets.Members.{each_at}
use Rattle.sat_checker.specs.inner.AssumedRoom.{RoomIsKept, HasClauseRoom, HasStoredRoom}

pub clause_stays : (old new ls : List ℕ) → RoomIsKept old new → HasClauseRoom old ls → HasClauseRoom new ls
clause_stays old new [] s h = tt
clause_stays old new (l ∷ ls) s h = ((s l h.0.0, s _ h.0.1), clause_stays old new ls s h.1)

pub stored_stays : (old new : List ℕ) (cs : List StoredClause) → RoomIsKept old new → HasStoredRoom old cs → HasStoredRoom new cs
stored_stays old new [] s h = tt
stored_stays old new (c ∷ cs) s h = (clause_stays old new c.literals s h.0, stored_stays old new cs s h.1)

-- after a clause is added
pub stored_with : (room : List ℕ) (r : Bool) (n : ℕ) (ls : List ℕ) (cs : List StoredClause) → HasClauseRoom room ls → HasStoredRoom room cs → HasStoredRoom room (with_stored_clause r n ls cs)
stored_with room true n ls [] l h = (l, tt)
stored_with room false n ls [] l h = (l, tt)
stored_with room r n ls (c ∷ cs) l h = go r (same_literals c.literals ls) (stored_with room r n ls cs l h.1)
  where
    go : (r b : Bool) → HasStoredRoom room (with_stored_clause r n ls cs)
        → HasStoredRoom room (cond b (cond r (record c { redundant = c.redundant + 1 }) (record c { irredundant = c.irredundant + 1 }) ∷ cs) (c ∷ with_stored_clause r n ls cs))
    go true true ih = (h.0, h.1)
    go false true ih = (h.0, h.1)
    go r false ih = (h.0, ih)

-- after a count is removed
pub stored_without : (room : List ℕ) (r : Bool) (ls : List ℕ) (cs : List StoredClause) → HasStoredRoom room cs → HasStoredRoom room (without_clause r ls cs)
stored_without room r ls [] h = tt
stored_without room r ls (c ∷ cs) h = go (same_literals c.literals ls) (stored_without room r ls cs h.1)
  where
    left : (d : StoredClause) → HasClauseRoom room d.literals → HasStoredRoom room (unless_removed d ++ cs)
    left d k = pick (eqb d.irredundant 0 && eqb d.redundant 0)
      where
        pick : (b : Bool) → HasStoredRoom room (cond b [] (d ∷ []) ++ cs)
        pick true = h.1
        pick false = (k, h.1)

    taken : (r : Bool) → HasClauseRoom room (without_count r c).literals
    taken true = h.0
    taken false = h.0

    go : (b : Bool) → HasStoredRoom room (without_clause r ls cs) → HasStoredRoom room (cond b (unless_removed (without_count r c) ++ cs) (c ∷ without_clause r ls cs))
    go true ih = left (without_count r c) (taken r)
    go false ih = (h.0, ih)

-- a literal of a stored clause has room, and so has its negation
pub stored_literal : (room : List ℕ) (l : ℕ) (cs : List StoredClause) → HasStoredRoom room cs → list_any (λ c. is_among c.literals l) cs ≡ true → (is_among room l ≡ true) × (is_among room (negated l) ≡ true)
stored_literal room l [] h e = absurd (true≢false (sym e))
stored_literal room l (c ∷ cs) h e = go (is_among c.literals l) refl e (stored_literal room l cs h.1)
  where
    go : (b : Bool) → is_among c.literals l ≡ b → (b || list_any (λ d. is_among d.literals l) cs) ≡ true → (list_any (λ d. is_among d.literals l) cs ≡ true → (is_among room l ≡ true) × (is_among room (negated l) ≡ true))
        → (is_among room l ≡ true) × (is_among room (negated l) ≡ true)
    go true m k ih = each_at (λ m. (is_among room m ≡ true) × (is_among room (negated m) ≡ true)) c.literals l h.0 m
    go false m k ih = ih k

-- every literal of a clause that has room has room
pub roomy_item : (room ls : List ℕ) (i x : ℕ) → i < length ls → x ≡ get_or ls i x → HasClauseRoom room ls → is_among room x ≡ true
roomy_item room [] i x h e r = absurd (omega arith)
roomy_item room (l ∷ ls) zero x h e r = subst (λ k. is_among room k ≡ true) (sym e) r.0.0
roomy_item room (l ∷ ls) (suc i) x h e r = roomy_item room ls i x (omega arith) e r.1
