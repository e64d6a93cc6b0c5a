-- Filing all clauses again, by new hashes.
use Rattle.std.proofs.Common.{ℕ, zero, suc, ◌+◌, ◌<◌, ◌≤◌, ◌≡◌, Bool, true, false, ◌&&◌, cond, eqb, List, [], ◌∷◌, ◌++◌, length, take, drop, map, Option, refl, sym, ◌∙◌, ap, arith, slice_set, ◌||◌}
use Rattle.std.proofs.lemmas.Bool.{true≢false}
use Rattle.std.specs.List.{list_any}
use Rattle.std.proofs.lemmas.List.{drop_more, drop_all}
use Rattle.sat_checker.specs.inner.ModelTests.{are_all_true, irredundant_length}
use Rattle.sat_checker.specs.LiteralSets.{is_among}
use Rattle.sat_checker.specs.Stored.{Stored, clause_hash_by}
use Rattle.sat_checker.specs.Storing.{unless_removed}
use Rattle.sat_checker.specs.Looks.{total_length, stored_literal_count}
use Rattle.sat_checker.specs.HasherView.{solver_name_of, width_of}
use Rattle.sat_checker.specs.inner.StoreView.{AreHashed, RepresentsClauses, rehashed}
use Rattle.sat_checker.specs.declared.hash.ClauseHasher.{ClauseHasher}
use Rattle.sat_checker.specs.declared.store.Store.{Store}
use Rattle.sat_checker.proofs.lemmas.store.Ids.{ids_hashed}
use Rattle.sat_checker.specs.inner.SlotView.{Slot, slot_at, slot_ids, literals_at, is_removed, live_clauses, live_literal_count, with_hash_at, hashed_by, all_hashed_by, rehashed_slots, removed_slot}
use Rattle.sat_checker.specs.inner.IndexView.{slot_pairs_from}
use Rattle.sat_checker.specs.inner.PairView.{mixed}
use Rattle.sat_checker.specs.declared.store.links.Pair.{Pair}

module _ (names : ℕ → Option ℕ) (width : ℕ) where
  -- the slots from a place on have new hashes, the earlier ones do not yet
  abbrev pub hashed_from : ℕ → List Slot → List Slot
  hashed_from i ss = take i ss ++ all_hashed_by names width (drop i ss)

  pub hashed_none : (ss : List Slot) → hashed_from (length ss) ss ≡ ss
  hashed_none [] = refl
  hashed_none (s ∷ ss) = ap (λ ts. s ∷ ts) (hashed_none ss)

  slot_left : (ss : List Slot) (i : ℕ) → i < length ss → slot_at (hashed_from (suc i) ss) i ≡ slot_at ss i
  slot_left [] i l = absurd (omega arith)
  slot_left (s ∷ ss) zero l = refl
  slot_left (s ∷ ss) (suc i) l = slot_left ss i (omega arith)

  pub length_left : (ss : List Slot) (i : ℕ) → length (hashed_from i ss) ≡ length ss
  length_left [] zero = refl
  length_left [] (suc i) = refl
  length_left (s ∷ ss) zero = ap suc (length_left ss zero)
  length_left (s ∷ ss) (suc i) = ap suc (length_left ss i)

  set_next : (ss : List Slot) (i : ℕ) → i < length ss → slice_set (hashed_from (suc i) ss) i (hashed_by names width (slot_at ss i)) ≡ hashed_from i ss
  set_next [] i l = absurd (omega arith)
  set_next (s ∷ ss) zero l = refl
  set_next (s ∷ ss) (suc i) l = ap (λ ts. s ∷ ts) (set_next ss i (omega arith))

  hashed_there : (s : Slot) → is_removed s ≡ false → hashed_by names width s ≡ record s { hash = clause_hash_by names width s.clause.literals }
  hashed_there s g = ap (λ b. cond b s (record s { hash = clause_hash_by names width s.clause.literals })) g

  hashed_gone : (s : Slot) → is_removed s ≡ true → hashed_by names width s ≡ s
  hashed_gone s g = ap (λ b. cond b s (record s { hash = clause_hash_by names width s.clause.literals })) g

  skip_next : (ss : List Slot) (i : ℕ) → i < length ss → is_removed (slot_at ss i) ≡ true → hashed_from (suc i) ss ≡ hashed_from i ss
  skip_next [] i l g = absurd (omega arith)
  skip_next (s ∷ ss) zero l g = ap (λ t. t ∷ all_hashed_by names width ss) (sym (hashed_gone s g))
  skip_next (s ∷ ss) (suc i) l g = ap (λ ts. s ∷ ts) (skip_next ss i (omega arith) g)

  module _ (ss now : List Slot) (n i : ℕ) (l : i < length ss) (to : n ≡ suc i) (e : now ≡ hashed_from n ss) where
    pub slot_same : slot_at now i ≡ slot_at ss i
    slot_same = ap (λ x. slot_at x i) (e ∙ ap (λ k. hashed_from k ss) to) ∙ slot_left ss i l

    pub hashed_skip : is_removed (slot_at now i) ≡ true → now ≡ hashed_from i ss
    hashed_skip g = e ∙ ap (λ k. hashed_from k ss) to ∙ skip_next ss i l (ap is_removed (sym slot_same) ∙ g)

    pub hashed_next : (next : List Slot) (hash : ℕ) → is_removed (slot_at now i) ≡ false → hash ≡ clause_hash_by names width (literals_at now i) → next ≡ with_hash_at hash i now → next ≡ hashed_from i ss
    hashed_next next hash g h w =
        w ∙ ap (λ k. with_hash_at k i now) (h ∙ ap (λ (x : Slot). clause_hash_by names width x.clause.literals) slot_same)
        ∙ ap (λ (x : Slot). slice_set now i (record x { hash = clause_hash_by names width (slot_at ss i).clause.literals })) slot_same
        ∙ ap (λ x. slice_set x i (record (slot_at ss i) { hash = clause_hash_by names width (slot_at ss i).clause.literals })) (e ∙ ap (λ k. hashed_from k ss) to)
        ∙ ap (λ t. slice_set (hashed_from (suc i) ss) i t) (sym (hashed_there (slot_at ss i) (ap is_removed (sym slot_same) ∙ g))) ∙ set_next ss i l

  -- the pairs of the slots from a place on, by new hashes
  abbrev pub filed_from : ℕ → List Slot → List Pair
  filed_from i ss = slot_pairs_from i (all_hashed_by names width (drop i ss))

  pub filed_none : (ss : List Slot) → filed_from (length ss) ss ≡ []
  filed_none ss = ap (λ xs. slot_pairs_from (length ss) (all_hashed_by names width xs)) (drop_all (length ss) ss (omega arith))

  drop_on : (ss : List Slot) (i : ℕ) → i < length ss → drop i ss ≡ slot_at ss i ∷ drop (i + 1) ss
  drop_on ss i l = drop_more ss i (removed_slot 0 0 []) l

  pub filed_skip : (ss : List Slot) (i : ℕ) → i < length ss → is_removed (slot_at ss i) ≡ true → filed_from (i + 1) ss ≡ filed_from i ss
  filed_skip ss i l g =
      sym (ap (λ xs. slot_pairs_from i (all_hashed_by names width xs)) (drop_on ss i l)
      ∙ ap (λ (s : Slot). slot_pairs_from i (s ∷ all_hashed_by names width (drop (i + 1) ss))) (hashed_gone (slot_at ss i) g)
      ∙ ap (λ b. cond b (slot_pairs_from (i + 1) (all_hashed_by names width (drop (i + 1) ss))) ((record { hash = mixed (slot_at ss i).hash; place = i }) ∷ slot_pairs_from (i + 1) (all_hashed_by names width (drop (i + 1) ss)))) g)

  pub filed_next : (ss : List Slot) (i hash : ℕ) → i < length ss → is_removed (slot_at ss i) ≡ false → hash ≡ mixed (clause_hash_by names width (slot_at ss i).clause.literals)
      → (record { hash = hash; place = i }) ∷ filed_from (i + 1) ss ≡ filed_from i ss
  filed_next ss i hash l g h =
      ap (λ k. (record { hash = k; place = i }) ∷ filed_from (i + 1) ss) h
      ∙ sym (ap (λ xs. slot_pairs_from i (all_hashed_by names width xs)) (drop_on ss i l)
      ∙ ap (λ (s : Slot). slot_pairs_from i (s ∷ all_hashed_by names width (drop (i + 1) ss))) (hashed_there (slot_at ss i) g)
      ∙ ap (λ b. cond b (slot_pairs_from (i + 1) (all_hashed_by names width (drop (i + 1) ss))) ((record { hash = mixed (clause_hash_by names width (slot_at ss i).clause.literals); place = i }) ∷ slot_pairs_from (i + 1) (all_hashed_by names width (drop (i + 1) ss)))) g)

-- the number of literals from a place on
left_at : (ss : List Slot) (i : ℕ) → i < length ss → live_literal_count (drop i ss) ≡ cond (is_removed (slot_at ss i)) 0 (length (literals_at ss i)) + live_literal_count (drop (suc i) ss)
left_at [] j k = absurd (omega arith)
left_at (t ∷ ts) zero k = go (is_removed t)
  where
    go : (b : Bool) → total_length (map (λ c. c.literals) (cond b [] (t.clause ∷ []) ++ live_clauses ts)) ≡ cond b 0 (length t.clause.literals) + live_literal_count ts
    go true = omega arith
    go false = refl
left_at (t ∷ ts) (suc j) k = left_at ts j (omega arith)

pub left_gone : (ss : List Slot) (i : ℕ) → i < length ss → is_removed (slot_at ss i) ≡ true → live_literal_count (drop i ss) ≡ live_literal_count (drop (i + 1) ss)
left_gone ss i l g =
    let m : i + 1 ≡ suc i = omega arith in
    let z : 0 + live_literal_count (drop (suc i) ss) ≡ live_literal_count (drop (suc i) ss) = omega arith in
    left_at ss i l ∙ ap (λ b. cond b 0 (length (literals_at ss i)) + live_literal_count (drop (suc i) ss)) g ∙ z ∙ ap (λ k. live_literal_count (drop k ss)) (sym m)

pub left_there : (ss : List Slot) (i : ℕ) → i < length ss → is_removed (slot_at ss i) ≡ false → live_literal_count (drop i ss) ≡ length (literals_at ss i) + live_literal_count (drop (i + 1) ss)
left_there ss i l g =
    let m : i + 1 ≡ suc i = omega arith in
    left_at ss i l ∙ ap (λ b. cond b 0 (length (literals_at ss i)) + live_literal_count (drop (suc i) ss)) g ∙ ap (λ k. length (literals_at ss i) + live_literal_count (drop k ss)) (sym m)

-- whether all irredundant clauses from a place on are true; other clauses do not matter
pub all_skip : (ls : List ℕ) (ss : List Slot) (i : ℕ) → i < length ss → (slot_at ss i).clause.irredundant ≡ 0 → are_all_true ls (live_clauses (drop i ss)) ≡ are_all_true ls (live_clauses (drop (i + 1) ss))
all_skip ls ss i l z = ap (λ xs. are_all_true ls (live_clauses xs)) (drop_more ss i (removed_slot 0 0 []) l) ∙ go (is_removed (slot_at ss i))
  where
    go : (b : Bool) → are_all_true ls (cond b [] ((slot_at ss i).clause ∷ []) ++ live_clauses (drop (i + 1) ss)) ≡ are_all_true ls (live_clauses (drop (i + 1) ss))
    go true = refl
    go false = ap (λ n. (eqb n 0 || list_any (is_among ls) (literals_at ss i)) && are_all_true ls (live_clauses (drop (i + 1) ss))) z

all_there : (ls : List ℕ) (ss : List Slot) (i : ℕ) → i < length ss → eqb (slot_at ss i).clause.irredundant 0 ≡ false → are_all_true ls (live_clauses (drop i ss)) ≡ (list_any (is_among ls) (literals_at ss i) && are_all_true ls (live_clauses (drop (i + 1) ss)))
all_there ls ss i l n =
    ap (λ xs. are_all_true ls (live_clauses xs)) (drop_more ss i (removed_slot 0 0 []) l)
    ∙ ap (λ b. are_all_true ls (cond (b && eqb (slot_at ss i).clause.redundant 0) [] ((slot_at ss i).clause ∷ []) ++ live_clauses (drop (i + 1) ss))) n
    ∙ ap (λ b. (b || list_any (is_among ls) (literals_at ss i)) && are_all_true ls (live_clauses (drop (i + 1) ss))) n

pub all_reached : (ls : List ℕ) (ss : List Slot) (i : ℕ) → i < length ss → eqb (slot_at ss i).clause.irredundant 0 ≡ false → list_any (is_among ls) (literals_at ss i) ≡ true → are_all_true ls (live_clauses (drop i ss)) ≡ are_all_true ls (live_clauses (drop (i + 1) ss))
all_reached ls ss i l n t = all_there ls ss i l n ∙ ap (λ b. b && are_all_true ls (live_clauses (drop (i + 1) ss))) t

pub all_failed : (ls : List ℕ) (ss : List Slot) (i : ℕ) → i < length ss → eqb (slot_at ss i).clause.irredundant 0 ≡ false → list_any (is_among ls) (literals_at ss i) ≡ false → are_all_true ls (live_clauses (drop i ss)) ≡ false
all_failed ls ss i l n f = all_there ls ss i l n ∙ ap (λ b. b && are_all_true ls (live_clauses (drop (i + 1) ss))) f

-- the number of literals of the irredundant clauses from a place on
pub lengths_skip : (ss : List Slot) (i : ℕ) → i < length ss → (slot_at ss i).clause.irredundant ≡ 0 → irredundant_length (live_clauses (drop i ss)) ≡ irredundant_length (live_clauses (drop (i + 1) ss))
lengths_skip ss i l z = ap (λ xs. irredundant_length (live_clauses xs)) (drop_more ss i (removed_slot 0 0 []) l) ∙ go (is_removed (slot_at ss i))
  where
    nothing : (n : ℕ) → 0 + n ≡ n
    nothing n = omega arith

    go : (b : Bool) → irredundant_length (cond b [] ((slot_at ss i).clause ∷ []) ++ live_clauses (drop (i + 1) ss)) ≡ irredundant_length (live_clauses (drop (i + 1) ss))
    go true = refl
    go false = ap (λ n. cond (eqb n 0) 0 (length (literals_at ss i)) + irredundant_length (live_clauses (drop (i + 1) ss))) z ∙ nothing (irredundant_length (live_clauses (drop (i + 1) ss)))

pub lengths_there : (ss : List Slot) (i : ℕ) → i < length ss → eqb (slot_at ss i).clause.irredundant 0 ≡ false → irredundant_length (live_clauses (drop i ss)) ≡ length (literals_at ss i) + irredundant_length (live_clauses (drop (i + 1) ss))
lengths_there ss i l n =
    ap (λ xs. irredundant_length (live_clauses xs)) (drop_more ss i (removed_slot 0 0 []) l)
    ∙ ap (λ b. irredundant_length (cond (b && eqb (slot_at ss i).clause.redundant 0) [] ((slot_at ss i).clause ∷ []) ++ live_clauses (drop (i + 1) ss))) n
    ∙ ap (λ b. cond b 0 (length (literals_at ss i)) + irredundant_length (live_clauses (drop (i + 1) ss))) n

pub left_fewer : (ss : List Slot) (i : ℕ) → i < length ss → live_literal_count (drop (i + 1) ss) ≤ live_literal_count (drop i ss)
left_fewer ss i l =
    let m : i + 1 ≡ suc i = omega arith in
    let e : live_literal_count (drop i ss) ≡ cond (is_removed (slot_at ss i)) 0 (length (literals_at ss i)) + live_literal_count (drop (suc i) ss) = left_at ss i l in
    let k : live_literal_count (drop (i + 1) ss) ≡ live_literal_count (drop (suc i) ss) = ap (λ n. live_literal_count (drop n ss)) m in
    omega arith

pub not_gone : (s : Slot) → eqb s.clause.irredundant 0 ≡ false → is_removed s ≡ false
not_gone s n = ap (λ b. b && eqb s.clause.redundant 0) n

-- the stored clauses after all are filed again
live_hashed : (names : ℕ → Option ℕ) (width : ℕ) (ss : List Slot) → live_clauses (all_hashed_by names width ss) ≡ live_clauses ss
live_hashed names width [] = refl
live_hashed names width (s ∷ ss) = go (is_removed s) refl (live_hashed names width ss)
  where
    go : (b : Bool) → is_removed s ≡ b → live_clauses (all_hashed_by names width ss) ≡ live_clauses ss → unless_removed (cond b s (record s { hash = clause_hash_by names width s.clause.literals })).clause ++ live_clauses (all_hashed_by names width ss) ≡ unless_removed s.clause ++ live_clauses ss
    go true g ih = ap (λ cs. unless_removed s.clause ++ cs) ih
    go false g ih = ap (λ cs. unless_removed s.clause ++ cs) ih

pub all_hashed : (h : ClauseHasher) (ss : List Slot) → AreHashed h (all_hashed_by (solver_name_of h) (width_of h) ss)
all_hashed h [] = tt
all_hashed h (s ∷ ss) = (go (is_removed s) refl, all_hashed h ss)
  where
    go : (b : Bool) → is_removed s ≡ b → is_removed (cond b s (record s { hash = clause_hash_by (solver_name_of h) (width_of h) s.clause.literals })) ≡ false
        → (cond b s (record s { hash = clause_hash_by (solver_name_of h) (width_of h) s.clause.literals })).hash ≡ clause_hash_by (solver_name_of h) (width_of h) (cond b s (record s { hash = clause_hash_by (solver_name_of h) (width_of h) s.clause.literals })).clause.literals
    go true g n = absurd (true≢false (sym g ∙ n))
    go false g n = refl

-- the stored clauses stay the same while they are not yet filed again
pub refiled_live : (store : Store) → live_clauses (rehashed store).clauses ≡ live_clauses store.clauses
refiled_live store = go store.stale
  where
    go : (b : Bool) → live_clauses (cond b (rehashed_slots store.hasher store.clauses) store.clauses) ≡ live_clauses store.clauses
    go true = live_hashed (solver_name_of store.hasher) (width_of store.hasher) store.clauses
    go false = refl

pub stored_live : (store : Store) (f : Stored) → RepresentsClauses (rehashed store) f → live_clauses store.clauses ≡ f.clauses
stored_live store f k = sym (refiled_live store) ∙ k.clauses

pub refiled_ids : (store : Store) → slot_ids (rehashed store).clauses ≡ slot_ids store.clauses
refiled_ids store = go store.stale
  where
    go : (b : Bool) → slot_ids (cond b (rehashed_slots store.hasher store.clauses) store.clauses) ≡ slot_ids store.clauses
    go true = ids_hashed (solver_name_of store.hasher) (width_of store.hasher) store.clauses
    go false = refl

-- refiling does nothing to clauses that already have their current hashes
filed_already : (h : ClauseHasher) (ss : List Slot) (b : Bool) → AreHashed h ss → AreHashed h (cond b (rehashed_slots h ss) ss)
filed_already h ss true k = all_hashed h ss
filed_already h ss false k = k

pub refiled_kept : (store : Store) (f : Stored) → RepresentsClauses store f → RepresentsClauses (rehashed store) f
refiled_kept store f k = record {
  clauses = refiled_live store ∙ k.clauses;
  hashed = filed_already store.hasher store.clauses store.stale k.hashed;
  names = k.names;
  width = k.width;
}

-- after the names or the width change, all clauses must be filed again
pub hashes_changed : (store : Store) (f : Stored) (h : ClauseHasher) (names : ℕ → Option ℕ) (width : ℕ) → RepresentsClauses (rehashed store) f → ((v : ℕ) → solver_name_of h v ≡ names v) → width_of h ≡ width
    → RepresentsClauses (rehashed (record store { hasher = h; stale = true })) (record f { solver_names = names; width = width })
hashes_changed store f h names width k e w = record {
  clauses = live_hashed (solver_name_of h) (width_of h) store.clauses ∙ stored_live store f k;
  hashed = all_hashed h store.clauses;
  names = e;
  width = w;
}

-- a store that is not stale is already filed
pub filed_still : (store : Store) → store.stale ≡ false → store ≡ rehashed store
filed_still store e = ap (λ b. record store { stale = b }) e ∙ ap (λ b. record store { clauses = cond b (rehashed_slots store.hasher store.clauses) store.clauses; stale = false }) (sym e)

pub filed_anew : (store : Store) (new : List Slot) → store.stale ≡ true → new ≡ rehashed_slots store.hasher store.clauses → record store { clauses = new; stale = false } ≡ rehashed store
filed_anew store new e n = ap (λ ss. record store { clauses = ss; stale = false }) n ∙ ap (λ b. record store { clauses = cond b (rehashed_slots store.hasher store.clauses) store.clauses; stale = false }) (sym e)

pub looks_anew : (store : Store) (old new : ℕ) → new ≤ old + live_literal_count store.clauses → (f : Stored) → RepresentsClauses (rehashed store) f → new ≤ old + stored_literal_count f
looks_anew store old new h f k =
    let b : live_literal_count store.clauses ≡ stored_literal_count f = ap (λ cs. total_length (map (λ c. c.literals) cs)) (stored_live store f k) in
    omega arith
