-- Ids by place, as clauses are added and removed, and the clause with an id.
use Rattle.std.proofs.Common.{ℕ, zero, suc, ◌<◌, ◌≤◌, ◌≡◌, Bool, true, false, cond, eqb, List, [], ◌∷◌, ◌++◌, length, get_or, map, Option, Some, None, refl, sym, ◌∙◌, ap, subst, arith, slice_set}
use Rattle.std.proofs.lemmas.Bool.{eq-eqb, ne_eqb, or_parts}
use Rattle.std.proofs.lemmas.List.{length-map, map-append}
use Rattle.std.specs.List.{AllByRecursion}
use Rattle.sat_checker.specs.LiteralSets.{is_among}
use Rattle.sat_checker.specs.inner.Marks.{IsIncreasing}
use Rattle.sat_checker.specs.Stored.{StoredClause, clause_hash_by}
use Rattle.sat_checker.specs.Storing.{with_count, without_count, clause_with_id}
use Rattle.sat_checker.specs.Looks.{total_length}
use Rattle.sat_checker.specs.inner.SlotView.{Slot, slot_at, literals_at, slot_ids, is_removed, IsPresentAt, live_clauses, live_literal_count, stored_slot, with_count_at, without_count_at, all_hashed_by}
use Rattle.sat_checker.specs.inner.StoreView.{AppendsNewId}

-- ids stay the same if counts or hashes change
ids_set : (ss : List Slot) (i : ℕ) (t : Slot) → t.clause.id ≡ (slot_at ss i).clause.id → slot_ids (slice_set ss i t) ≡ slot_ids ss
ids_set [] i t e = refl
ids_set (s ∷ ss) zero t e = ap (λ x. x ∷ slot_ids ss) e
ids_set (s ∷ ss) (suc i) t e = ap (λ is. s.clause.id ∷ is) (ids_set ss i t e)

pub ids_counted : (r : Bool) (i : ℕ) (ss : List Slot) → slot_ids (with_count_at r i ss) ≡ slot_ids ss
ids_counted r i ss = ids_set ss i (record (slot_at ss i) { clause = with_count r (slot_at ss i).clause }) (same r (slot_at ss i).clause)
  where
    same : (r : Bool) (c : StoredClause) → (with_count r c).id ≡ c.id
    same true c = refl
    same false c = refl

pub ids_taken : (r : Bool) (i : ℕ) (ss : List Slot) → slot_ids (without_count_at r i ss) ≡ slot_ids ss
ids_taken r i ss = ids_set ss i (record (slot_at ss i) { clause = without_count r (slot_at ss i).clause }) (same r (slot_at ss i).clause)
  where
    same : (r : Bool) (c : StoredClause) → (without_count r c).id ≡ c.id
    same true c = refl
    same false c = refl

pub ids_hashed : (names : ℕ → Option ℕ) (width : ℕ) (ss : List Slot) → slot_ids (all_hashed_by names width ss) ≡ slot_ids ss
ids_hashed names width [] = refl
ids_hashed names width (s ∷ ss) = ap (λ x. x ∷ slot_ids (all_hashed_by names width ss)) (same (is_removed s)) ∙ ap (λ is. s.clause.id ∷ is) (ids_hashed names width ss)
  where
    same : (b : Bool) → (cond b s (record s { hash = clause_hash_by names width s.clause.literals })).clause.id ≡ s.clause.id
    same true = refl
    same false = refl

-- the id of a new clause is the last one
pub ids_pushed : (r : Bool) (n hash : ℕ) (ls : List ℕ) (ss : List Slot) → slot_ids (ss ++ stored_slot r n hash ls ∷ []) ≡ slot_ids ss ++ n ∷ []
ids_pushed r n hash ls ss = map-append (λ (s : Slot). s.clause.id) ss (stored_slot r n hash ls ∷ []) ∙ ap (λ x. slot_ids ss ++ x ∷ []) (same r)
  where
    same : (r : Bool) → (stored_slot r n hash ls).clause.id ≡ n
    same true = refl
    same false = refl

slot_id_at : (ss : List Slot) (i : ℕ) → i < length ss → get_or (slot_ids ss) i 0 ≡ (slot_at ss i).clause.id
slot_id_at [] i l = absurd (omega arith)
slot_id_at (s ∷ ss) zero l = refl
slot_id_at (s ∷ ss) (suc i) l = slot_id_at ss i (omega arith)

ids_length : (ss : List Slot) → length (slot_ids ss) ≡ length ss
ids_length ss = length-map ss (λ (s : Slot). s.clause.id)

-- a clause is appended, or counted once more
pub placed_new : (old new : List Slot) (r : Bool) (id hash : ℕ) (ls : List ℕ) → new ≡ old ++ stored_slot r id hash ls ∷ [] → AppendsNewId old new id true
placed_new old new r id hash ls n = ap slot_ids n ∙ ids_pushed r id hash ls old

pub placed_again : (old new : List Slot) (r : Bool) (p next_id : ℕ) → new ≡ with_count_at r p old → AppendsNewId old new next_id false
placed_again old new r p next_id n = ap slot_ids n ∙ ids_counted r p old

-- an id is that of the clause at its place, unless the clause is removed
numbered_past : (id : ℕ) (ss : List Slot) → AllByRecursion (λ i. id < i) (slot_ids ss) → clause_with_id id (live_clauses ss) ≡ None
numbered_past id [] h = refl
numbered_past id (s ∷ ss) h = go (is_removed s) (numbered_past id ss h.1)
  where
    go : (g : Bool) → clause_with_id id (live_clauses ss) ≡ None → clause_with_id id (cond g [] (s.clause ∷ []) ++ live_clauses ss) ≡ None
    go true ih = ih
    go false ih = ap (λ b. cond b (Some s.clause.literals) (clause_with_id id (live_clauses ss))) (ne_eqb s.clause.id id (λ e. let l : id < s.clause.id = h.0 in omega arith)) ∙ ih

above : (b : ℕ) (is : List ℕ) (i : ℕ) → AllByRecursion (λ m. b < m) is → i < length is → b < get_or is i 0
above b [] i h l = absurd (omega arith)
above b (x ∷ xs) zero h l = h.0
above b (x ∷ xs) (suc i) h l = above b xs i h.1 (omega arith)

pub numbered_at : (ss : List Slot) (id i : ℕ) → IsIncreasing (slot_ids ss) → i < length ss → (slot_at ss i).clause.id ≡ id → clause_with_id id (live_clauses ss) ≡ cond (is_removed (slot_at ss i)) None (Some (literals_at ss i))
numbered_at [] id i h l e = absurd (omega arith)
numbered_at (s ∷ ss) id zero h l e = go (is_removed s)
  where
    go : (g : Bool) → clause_with_id id (cond g [] (s.clause ∷ []) ++ live_clauses ss) ≡ cond g None (Some s.clause.literals)
    go true = numbered_past id ss (subst (λ x. AllByRecursion (λ i. x < i) (slot_ids ss)) e h.0)
    go false = ap (λ b. cond b (Some s.clause.literals) (clause_with_id id (live_clauses ss))) (eq-eqb s.clause.id id e)
numbered_at (s ∷ ss) id (suc i) h l e = first (is_removed s) ∙ numbered_at ss id i h.1 inside e
  where
    inside : i < length ss
    inside = omega (arith, l)

    below : s.clause.id < id
    below = let n = ids_length ss in let a : s.clause.id < get_or (slot_ids ss) i 0 = above s.clause.id (slot_ids ss) i h.0 (omega (arith, n, inside)) in let b = slot_id_at ss i inside in omega (arith, a, b, e)

    first : (g : Bool) → clause_with_id id (cond g [] (s.clause ∷ []) ++ live_clauses ss) ≡ clause_with_id id (live_clauses ss)
    first true = refl
    first false = ap (λ b. cond b (Some s.clause.literals) (clause_with_id id (live_clauses ss))) (ne_eqb s.clause.id id (λ q. omega (arith, below, q)))

pub numbered_standing : (ss : List Slot) (id i : ℕ) → IsIncreasing (slot_ids ss) → IsPresentAt ss id i → clause_with_id id (live_clauses ss) ≡ Some (literals_at ss i)
numbered_standing ss id i h s = numbered_at ss id i h s.inside s.id_is ∙ ap (λ b. cond b None (Some (literals_at ss i))) s.there

pub numbered_gone : (ss : List Slot) (id i : ℕ) → IsIncreasing (slot_ids ss) → i < length ss → (slot_at ss i).clause.id ≡ id → is_removed (slot_at ss i) ≡ true → clause_with_id id (live_clauses ss) ≡ None
numbered_gone ss id i h l e g = numbered_at ss id i h l e ∙ ap (λ b. cond b None (Some (literals_at ss i))) g

pub numbered_absent : (ss : List Slot) (id : ℕ) → is_among (slot_ids ss) id ≡ false → clause_with_id id (live_clauses ss) ≡ None
numbered_absent [] id e = refl
numbered_absent (s ∷ ss) id e = let p = or_parts (eqb s.clause.id id) (is_among (slot_ids ss) id) e in go (is_removed s) p.0 (numbered_absent ss id p.1)
  where
    go : (g : Bool) → eqb s.clause.id id ≡ false → clause_with_id id (live_clauses ss) ≡ None → clause_with_id id (cond g [] (s.clause ∷ []) ++ live_clauses ss) ≡ None
    go true n ih = ih
    go false n ih = ap (λ b. cond b (Some s.clause.literals) (clause_with_id id (live_clauses ss))) n ∙ ih

pub standing_length : (ss : List Slot) (i : ℕ) → i < length ss → is_removed (slot_at ss i) ≡ false → length (literals_at ss i) ≤ live_literal_count ss
standing_length [] i l g = absurd (omega arith)
standing_length (s ∷ ss) zero l g =
    subst (λ b. length s.clause.literals ≤ total_length (map (λ c. c.literals) (cond b [] (s.clause ∷ []) ++ live_clauses ss))) (sym g) (omega arith)
standing_length (s ∷ ss) (suc i) l g = go (is_removed s) (standing_length ss i (omega arith) g)
  where
    go : (b : Bool) → length (literals_at ss i) ≤ live_literal_count ss → length (literals_at ss i) ≤ total_length (map (λ c. c.literals) (cond b [] (s.clause ∷ []) ++ live_clauses ss))
    go true ih = ih
    go false ih = omega (arith, ih)
