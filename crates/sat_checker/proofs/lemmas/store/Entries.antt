-- Entries of the store, and the slots that they represent.
use Rattle.std.proofs.Common.{ℕ, zero, suc, ◌+◌, ◌-◌, ◌<◌, ◌≤◌, ◌≡◌, Bool, true, false, cond, leb, List, [], ◌∷◌, ◌++◌, length, take, drop, get_or, map, refl, sym, ◌∙◌, ap, subst, arith, length-append, length-drop, slice_range, slice_set, Result, Ok, Err, OnErr}
use Rattle.std.proofs.lemmas.List.{get_or-map, length-map, take-append-le, drop-append-le, map-set, map-append}
use Rattle.std.proofs.lemmas.List.Elements.{All-push}
use Rattle.std.proofs.lemmas.Bool.Decides.{nat_tests}
use Rattle.std.specs.List.{All, AllByRecursion}
use Rattle.sat_checker.specs.Storing.{with_count, without_count}
use Rattle.sat_checker.specs.inner.Marks.{IsIncreasing}
use Rattle.sat_checker.specs.inner.SlotView.{lits_in, LitsWithin, Slot, slot_at, all_lits, slot_ids, removed_slot, with_count_at, without_count_at, with_hash_at}
use Rattle.sat_checker.specs.inner.EntryView.{slot_of, IsEntry}
use Rattle.sat_checker.specs.declared.store.filed_hash.FiledHash.{FiledHash}
use Rattle.sat_checker.specs.declared.store.slots.Entry.{Entry}
use Rattle.sat_checker.specs.declared.store.slots.ClauseLits.{ClauseLits}

-- an entry represents the slot at its place
module _ (buffer : List ℕ) (es : List Entry) (value : List Slot) (i : ℕ) (x : Entry) (is : map (slot_of buffer) es ≡ value) (inside : i < length value) (read : x ≡ get_or es i x) where
  there : i < length (map (slot_of buffer) es)
  there = subst (λ v. i < length v) (sym is) inside

  pub here : i < length es
  here = let k = there in omega (arith, length-map es (slot_of buffer))

  pub slot_read : slot_of buffer x ≡ slot_at value i
  slot_read =
      subst (λ v. slot_of buffer x ≡ slot_at v i) is
      (ap (slot_of buffer) read ∙ sym (get_or-map (slot_of buffer) es i x (removed_slot 0 0 []) here))

-- the ids of entries are the ids of their slots
pub entry_ids : (buffer : List ℕ) (es : List Entry) (value : List Slot) → map (slot_of buffer) es ≡ value → map (λ (e : Entry). e.id) es ≡ slot_ids value
entry_ids buffer es value is = go es ∙ ap slot_ids is
  where
    go : (xs : List Entry) → map (λ (e : Entry). e.id) xs ≡ slot_ids (map (slot_of buffer) xs)
    go [] = refl
    go (x ∷ xs) = ap (λ ids. x.id ∷ ids) (go xs)

pub id_at : (ss : List Slot) (i k : ℕ) → i < length ss → get_or (slot_ids ss) i 0 ≡ k → (slot_at ss i).clause.id ≡ k
id_at [] i k l e = absurd (omega arith)
id_at (s ∷ ss) zero k l e = e
id_at (s ∷ ss) (suc i) k l e = id_at ss i k (omega arith) e

-- the literals of every slot are increasing
pub each_increasing : (buffer : List ℕ) (es : List Entry) (value : List Slot) → map (slot_of buffer) es ≡ value → All (IsEntry buffer) es → AllByRecursion IsIncreasing (all_lits value)
each_increasing buffer es value is right = subst (λ v. AllByRecursion IsIncreasing (all_lits v)) is (go es (λ k d. right k d))
  where
    go : (xs : List Entry) → ((k : ℕ) (d : Entry) → k < length xs → IsEntry buffer (get_or xs k d)) → AllByRecursion IsIncreasing (all_lits (map (slot_of buffer) xs))
    go [] h = tt
    go (x ∷ xs) h = ((h 0 x (omega arith)).increasing, go xs (λ k d l. h (suc k) d (omega arith)))

-- what is in the buffer stays the same after literals are appended
range_more : (buffer more : List ℕ) (a b : ℕ) → a ≤ b → b ≤ length buffer → slice_range (buffer ++ more) a b ≡ slice_range buffer a b
range_more buffer more a b h k =
    ap (take (b - a)) (drop-append-le a buffer more (omega arith)) ∙ take-append-le (b - a) (drop a buffer) more (omega (arith, length-drop a buffer))

leb-false : (a b : ℕ) → leb a b ≡ false → b < a
leb-false a b e = grind (arith, nat_tests)

pub lits_more : (buffer more : List ℕ) (c : ClauseLits) → LitsWithin buffer c → lits_in (buffer ++ more) c ≡ lits_in buffer c
lits_more buffer more c h = go (leb c.len 4) refl
  where
    go : (b : Bool) → leb c.len 4 ≡ b → cond b (take c.len c.inline) (slice_range (buffer ++ more) c.start (c.start + c.len)) ≡ cond b (take c.len c.inline) (slice_range buffer c.start (c.start + c.len))
    go true e = refl
    go false e = range_more buffer more c.start (c.start + c.len) (omega arith) (h (leb-false c.len 4 e))

pub entries_more : (buffer more : List ℕ) (es : List Entry) → All (IsEntry buffer) es → All (IsEntry (buffer ++ more)) es
entries_more buffer more es right = λ k d l. go (get_or es k d) (right k d l)
  where
    go : (e : Entry) → IsEntry buffer e → IsEntry (buffer ++ more) e
    go e h = record {
      within = λ k. let w : e.lits.start + e.lits.len ≤ length buffer = h.within k in omega (arith, length-append buffer more);
      increasing = subst IsIncreasing (sym (lits_more buffer more e.lits h.within)) h.increasing;
    }

pub slots_more : (buffer more : List ℕ) (es : List Entry) → All (IsEntry buffer) es → map (slot_of (buffer ++ more)) es ≡ map (slot_of buffer) es
slots_more buffer more [] right = refl
slots_more buffer more (e ∷ es) right =
    let h : IsEntry buffer e = right 0 e (omega arith) in
    let same : slot_of (buffer ++ more) e ≡ slot_of buffer e = ap (λ r. record { clause = record { id = e.id; literals = r; irredundant = e.irredundant; redundant = e.redundant }; hash = e.hash.hash }) (lits_more buffer more e.lits h.within) in
    let rest : map (slot_of (buffer ++ more)) es ≡ map (slot_of buffer) es = slots_more buffer more es (λ k d l. right (suc k) d (omega arith)) in
    ap (λ x. x ∷ map (slot_of (buffer ++ more)) es) same ∙ ap (λ xs. slot_of buffer e ∷ xs) rest

-- the same for a buffer that extends the old one
pub entries_over : (buffer all : List ℕ) (es : List Entry) → (more : List ℕ) × (all ≡ buffer ++ more) → All (IsEntry buffer) es → All (IsEntry all) es
entries_over buffer all es p right = subst (λ b. All (IsEntry b) es) (sym p.1) (entries_more buffer p.0 es right)

pub slots_over : (buffer all : List ℕ) (es : List Entry) (value : List Slot) → (more : List ℕ) × (all ≡ buffer ++ more) → All (IsEntry buffer) es → map (slot_of buffer) es ≡ value → map (slot_of all) es ≡ value
slots_over buffer all es value p right is = ap (λ b. map (slot_of b) es) p.1 ∙ slots_more buffer p.0 es right ∙ is

-- one entry is appended
pub entries_pushed : (buffer : List ℕ) (es new : List Entry) (e : Entry) (ok : Bool) → All (IsEntry buffer) es → IsEntry buffer e → new ≡ cond ok (es ++ e ∷ []) es → All (IsEntry buffer) new
entries_pushed buffer es new e ok right one n = subst (All (IsEntry buffer)) (sym n) (go ok)
  where
    go : (b : Bool) → All (IsEntry buffer) (cond b (es ++ e ∷ []) es)
    go true = All-push (IsEntry buffer) es e right one
    go false = right

pub slots_pushed : (buffer : List ℕ) (es : List Entry) (value : List Slot) (e : Entry) (s : Slot) → map (slot_of buffer) es ≡ value → slot_of buffer e ≡ s → map (slot_of buffer) (es ++ e ∷ []) ≡ value ++ s ∷ []
slots_pushed buffer es value e s is same = map-append (slot_of buffer) es (e ∷ []) ∙ ap (λ xs. xs ++ slot_of buffer e ∷ []) is ∙ ap (λ x. value ++ x ∷ []) same

-- an entry is replaced
pub slots_set : (buffer : List ℕ) (es : List Entry) (value : List Slot) (i : ℕ) (e : Entry) (s : Slot) → map (slot_of buffer) es ≡ value → slot_of buffer e ≡ s → map (slot_of buffer) (slice_set es i e) ≡ slice_set value i s
slots_set buffer es value i e s is same = map-set (slot_of buffer) es i e ∙ ap (λ v. slice_set v i (slot_of buffer e)) is ∙ ap (λ x. slice_set value i x) same

-- an entry after one of its fields is set
module _ (buffer : List ℕ) (es : List Entry) (value : List Slot) (i : ℕ) (x : Entry) (is : map (slot_of buffer) es ≡ value) (inside : i < length value) (read : x ≡ get_or es i x) where
  pub the_slot : slot_of buffer x ≡ slot_at value i
  the_slot = slot_read buffer es value i x is inside read

  pub counted_true : map (slot_of buffer) (slice_set es i (record x { redundant = x.redundant + 1 })) ≡ with_count_at true i value
  counted_true = slots_set buffer es value i (record x { redundant = x.redundant + 1 }) (record (slot_at value i) { clause = with_count true (slot_at value i).clause }) is (ap {A = Slot} (λ s. record s { clause = with_count true s.clause }) the_slot)

  pub counted_false : map (slot_of buffer) (slice_set es i (record x { irredundant = x.irredundant + 1 })) ≡ with_count_at false i value
  counted_false = slots_set buffer es value i (record x { irredundant = x.irredundant + 1 }) (record (slot_at value i) { clause = with_count false (slot_at value i).clause }) is (ap {A = Slot} (λ s. record s { clause = with_count false s.clause }) the_slot)

  pub discounted_true : map (slot_of buffer) (slice_set es i (record x { redundant = x.redundant - 1 })) ≡ without_count_at true i value
  discounted_true = slots_set buffer es value i (record x { redundant = x.redundant - 1 }) (record (slot_at value i) { clause = without_count true (slot_at value i).clause }) is (ap {A = Slot} (λ s. record s { clause = without_count true s.clause }) the_slot)

  pub discounted_false : map (slot_of buffer) (slice_set es i (record x { irredundant = x.irredundant - 1 })) ≡ without_count_at false i value
  discounted_false = slots_set buffer es value i (record x { irredundant = x.irredundant - 1 }) (record (slot_at value i) { clause = without_count false (slot_at value i).clause }) is (ap {A = Slot} (λ s. record s { clause = without_count false s.clause }) the_slot)

  pub rehashed : (hash : FiledHash) → map (slot_of buffer) (slice_set es i (record x { hash = hash })) ≡ with_hash_at hash.hash i value
  rehashed hash = slots_set buffer es value i (record x { hash = hash }) (record (slot_at value i) { hash = hash.hash }) is (ap {A = Slot} (λ s. record s { hash = hash.hash }) the_slot)

pub on_err : {T E : Type 0} (r : Result T E) (P : Type 0) → P → OnErr r P
on_err (Ok x) P p = tt
on_err (Err e) P p = p
