-- The places of hashes, as clauses are added and removed.
use Rattle.std.proofs.Common.{ℕ, zero, suc, ◌+◌, ◌<◌, ◌≤◌, ◌≡◌, Bool, true, false, not, ◌&&◌, cond, eqb, List, [], ◌∷◌, ◌++◌, length, get_or, refl, sym, ◌∙◌, ap, arith, slice_set}
use Rattle.std.proofs.lemmas.Bool.{eqb-true, eqb-false, eq-eqb, ne_eqb}
use Rattle.std.specs.List.{AllByRecursion}
use Rattle.sat_checker.specs.Stored.{StoredClause}
use Rattle.sat_checker.specs.Storing.{with_count, without_count}
use Rattle.sat_checker.specs.inner.IndexView.{without_place}
use Rattle.sat_checker.specs.inner.SlotView.{Slot, removed_slot, stored_slot, slot_at, slot_count, with_count_at, without_count_at, is_removed, is_filed, places_from, places_of}

pub eqb_comm : (x y : ℕ) → eqb x y ≡ eqb y x
eqb_comm x y = go (eqb x y) refl (eqb y x) refl
  where
    go : (b : Bool) → eqb x y ≡ b → (d : Bool) → eqb y x ≡ d → b ≡ d
    go true e true f = refl
    go false e false f = refl
    go true e false f = absurd (eqb-false y x f (sym (eqb-true x y e)))
    go false e true f = absurd (eqb-false x y e (sym (eqb-true y x f)))

-- after a slot is appended
pub places_push : (k hash : ℕ) (ss : List Slot) (s : Slot) → places_from k hash (ss ++ s ∷ []) ≡ places_from k hash ss ++ cond (is_filed hash s) ((k + length ss) ∷ []) []
places_push k hash [] s = let e : k + 0 ≡ k = omega arith in rw e (go (is_filed hash s))
  where
    go : (b : Bool) → cond b (k ∷ []) [] ≡ cond b (k ∷ []) []
    go b = refl
places_push k hash (t ∷ ss) s =
    let e : (k + 1) + length ss ≡ k + length (t ∷ ss) = omega arith in
    go (is_filed hash t) (places_push (k + 1) hash ss s ∙ ap (λ n. places_from (k + 1) hash ss ++ cond (is_filed hash s) (n ∷ []) []) e)
  where
    go : (b : Bool) → places_from (k + 1) hash (ss ++ s ∷ []) ≡ places_from (k + 1) hash ss ++ cond (is_filed hash s) ((k + length (t ∷ ss)) ∷ []) []
        → cond b (k ∷ places_from (k + 1) hash (ss ++ s ∷ [])) (places_from (k + 1) hash (ss ++ s ∷ [])) ≡ cond b (k ∷ places_from (k + 1) hash ss) (places_from (k + 1) hash ss) ++ cond (is_filed hash s) ((k + length (t ∷ ss)) ∷ []) []
    go true h = ap (λ ps. k ∷ ps) h
    go false h = h

pub append_none : (ps : List ℕ) → ps ++ [] ≡ ps
append_none [] = refl
append_none (p ∷ ps) = ap (λ qs. p ∷ qs) (append_none ps)

set_last : (ss : List Slot) (s t : Slot) → slice_set (ss ++ s ∷ []) (length ss) t ≡ ss ++ t ∷ []
set_last [] s t = refl
set_last (x ∷ ss) s t = ap (λ xs. x ∷ xs) (set_last ss s t)

pub get_last : (ss : List Slot) (s d : Slot) → get_or (ss ++ s ∷ []) (length ss) d ≡ s
get_last [] s d = refl
get_last (x ∷ ss) s d = get_last ss s d

-- after an appended clause gets its first count
pub counted_last : (redundant : Bool) (id hash : ℕ) (literals : List ℕ) (ss : List Slot) → with_count_at redundant (length ss) (ss ++ removed_slot id hash literals ∷ []) ≡ ss ++ stored_slot redundant id hash literals ∷ []
counted_last redundant id hash literals ss =
    ap (λ (s : Slot). slice_set (ss ++ removed_slot id hash literals ∷ []) (length ss) (record s { clause = with_count redundant s.clause })) (get_last ss (removed_slot id hash literals) (removed_slot 0 0 []))
    ∙ set_last ss (removed_slot id hash literals) (stored_slot redundant id hash literals)

filed_new : (redundant : Bool) (q id hash : ℕ) (literals : List ℕ) → is_filed q (stored_slot redundant id hash literals) ≡ eqb q hash
filed_new true q id hash literals = eqb_comm hash q
filed_new false q id hash literals = eqb_comm hash q

pub places_stored : (redundant : Bool) (q id hash : ℕ) (literals : List ℕ) (ss : List Slot) → places_of q (ss ++ stored_slot redundant id hash literals ∷ []) ≡ cond (eqb q hash) (places_of q ss ++ length ss ∷ []) (places_of q ss)
places_stored redundant q id hash literals ss =
    let n : 0 + length ss ≡ length ss = omega arith in
    places_push 0 q ss (stored_slot redundant id hash literals) ∙ ap (λ k. places_of q ss ++ cond (is_filed q (stored_slot redundant id hash literals)) (k ∷ []) []) n
    ∙ ap (λ b. places_of q ss ++ cond b (length ss ∷ []) []) (filed_new redundant q id hash literals) ∙ go (eqb q hash)
  where
    go : (b : Bool) → places_of q ss ++ cond b (length ss ∷ []) [] ≡ cond b (places_of q ss ++ length ss ∷ []) (places_of q ss)
    go true = refl
    go false = append_none (places_of q ss)

-- after a slot is replaced, if it is filed under the same hashes
places_same : (k q : ℕ) (ss : List Slot) (i : ℕ) (t : Slot) → i < length ss → is_filed q t ≡ is_filed q (slot_at ss i) → places_from k q (slice_set ss i t) ≡ places_from k q ss
places_same k q [] i t l e = absurd (omega arith)
places_same k q (s ∷ ss) zero t l e = ap (λ b. cond b (k ∷ places_from (k + 1) q ss) (places_from (k + 1) q ss)) e
places_same k q (s ∷ ss) (suc i) t l e = let ih : places_from (k + 1) q (slice_set ss i t) ≡ places_from (k + 1) q ss = places_same (k + 1) q ss i t (omega arith) e in ap (λ ps. cond (is_filed q s) (k ∷ ps) ps) ih

-- all places are at or after the first one
pub places_above : (b k q : ℕ) (ss : List Slot) → b < k → AllByRecursion (λ p. b < p) (places_from k q ss)
places_above b k q [] l = tt
places_above b k q (s ∷ ss) l = go (is_filed q s) (places_above b (k + 1) q ss (omega arith))
  where
    go : (d : Bool) → AllByRecursion (λ p. b < p) (places_from (k + 1) q ss) → AllByRecursion (λ p. b < p) (cond d (k ∷ places_from (k + 1) q ss) (places_from (k + 1) q ss))
    go true ih = (l, ih)
    go false ih = ih

pub places_below : (k n q : ℕ) (ss : List Slot) → k + length ss ≤ n → AllByRecursion (λ p. p < n) (places_from k q ss)
places_below k n q [] l = tt
places_below k n q (s ∷ ss) l = go (is_filed q s) (places_below (k + 1) n q ss (omega arith))
  where
    go : (d : Bool) → AllByRecursion (λ p. p < n) (places_from (k + 1) q ss) → AllByRecursion (λ p. p < n) (cond d (k ∷ places_from (k + 1) q ss) (places_from (k + 1) q ss))
    go true ih = (omega arith, ih)
    go false ih = ih

without_lower : (p : ℕ) (ps : List ℕ) → AllByRecursion (λ x. p < x) ps → without_place p ps ≡ ps
without_lower p [] h = refl
without_lower p (x ∷ xs) h =
    let e : eqb x p ≡ false = ne_eqb x p (λ s. let l : p < x = h.0 in omega arith) in
    ap (λ b. cond (not b) (x ∷ without_place p xs) (without_place p xs)) e ∙ ap (λ ys. x ∷ ys) (without_lower p xs h.1)

-- a slot with another hash has no place under this hash
without_absent : (k q : ℕ) (ss : List Slot) (i : ℕ) → i < length ss → eqb q (slot_at ss i).hash ≡ false → (n : ℕ) → k + i ≡ n → without_place n (places_from k q ss) ≡ places_from k q ss
without_absent k q [] i l d n e = absurd (omega arith)
without_absent k q (s ∷ ss) zero l d n e =
    ap (λ b. without_place n (cond (not (is_removed s) && b) (k ∷ places_from (k + 1) q ss) (places_from (k + 1) q ss))) (eqb_comm s.hash q ∙ d) ∙ go (is_removed s)
    ∙ sym (ap (λ b. cond (not (is_removed s) && b) (k ∷ places_from (k + 1) q ss) (places_from (k + 1) q ss)) (eqb_comm s.hash q ∙ d))
  where
    rest : without_place n (places_from (k + 1) q ss) ≡ places_from (k + 1) q ss
    rest = without_lower n (places_from (k + 1) q ss) (places_above n (k + 1) q ss (omega arith))

    go : (g : Bool) → without_place n (cond (not g && false) (k ∷ places_from (k + 1) q ss) (places_from (k + 1) q ss)) ≡ cond (not g && false) (k ∷ places_from (k + 1) q ss) (places_from (k + 1) q ss)
    go true = rest
    go false = rest
without_absent k q (s ∷ ss) (suc i) l d n e = go (is_filed q s) (without_absent (k + 1) q ss i (omega arith) d n (let z : k + 1 + i ≡ n = omega arith in z))
  where
    other : eqb k n ≡ false
    other = ne_eqb k n (λ z. omega arith)

    go : (b : Bool) → without_place n (places_from (k + 1) q ss) ≡ places_from (k + 1) q ss → without_place n (cond b (k ∷ places_from (k + 1) q ss) (places_from (k + 1) q ss)) ≡ cond b (k ∷ places_from (k + 1) q ss) (places_from (k + 1) q ss)
    go true ih = ap (λ b. cond (not b) (k ∷ without_place n (places_from (k + 1) q ss)) (without_place n (places_from (k + 1) q ss))) other ∙ ap (λ ps. k ∷ ps) ih
    go false ih = ih

-- a clause that is removed loses its place
places_gone : (k q : ℕ) (ss : List Slot) (i : ℕ) (t : Slot) → i < length ss → is_removed t ≡ true → is_removed (slot_at ss i) ≡ false → places_from k q (slice_set ss i t) ≡ cond (eqb q (slot_at ss i).hash) (without_place (k + i) (places_from k q ss)) (places_from k q ss)
places_gone k q [] i t l g n = absurd (omega arith)
places_gone k q (s ∷ ss) zero t l g n =
    ap (λ b. cond (not b && eqb t.hash q) (k ∷ places_from (k + 1) q ss) (places_from (k + 1) q ss)) g
    ∙ go (eqb q s.hash) refl ∙ sym (ap (λ b. cond (eqb q s.hash) (without_place (k + 0) (cond (not b && eqb s.hash q) (k ∷ places_from (k + 1) q ss) (places_from (k + 1) q ss))) (cond (not b && eqb s.hash q) (k ∷ places_from (k + 1) q ss) (places_from (k + 1) q ss))) n)
  where
    rest : List ℕ
    rest = places_from (k + 1) q ss

    here : without_place (k + 0) (k ∷ places_from (k + 1) q ss) ≡ places_from (k + 1) q ss
    here =
        let e : eqb k (k + 0) ≡ true = eq-eqb k (k + 0) (omega arith) in
        let z : k + 0 ≡ k = omega arith in
        ap (λ b. cond (not b) (k ∷ without_place (k + 0) (places_from (k + 1) q ss)) (without_place (k + 0) (places_from (k + 1) q ss))) e
        ∙ ap (λ p. without_place p (places_from (k + 1) q ss)) z ∙ without_lower k (places_from (k + 1) q ss) (places_above k (k + 1) q ss (omega arith))

    go : (b : Bool) → eqb q s.hash ≡ b → places_from (k + 1) q ss ≡ cond b (without_place (k + 0) (cond (eqb s.hash q) (k ∷ places_from (k + 1) q ss) (places_from (k + 1) q ss))) (cond (eqb s.hash q) (k ∷ places_from (k + 1) q ss) (places_from (k + 1) q ss))
    go true e = sym (ap (λ b. without_place (k + 0) (cond b (k ∷ places_from (k + 1) q ss) (places_from (k + 1) q ss))) (eqb_comm s.hash q ∙ e) ∙ here)
    go false e = sym (ap (λ b. cond b (k ∷ places_from (k + 1) q ss) (places_from (k + 1) q ss)) (eqb_comm s.hash q ∙ e))
places_gone k q (s ∷ ss) (suc i) t l g n =
    let ih : places_from (k + 1) q (slice_set ss i t) ≡ cond (eqb q (slot_at ss i).hash) (without_place (k + 1 + i) (places_from (k + 1) q ss)) (places_from (k + 1) q ss) = places_gone (k + 1) q ss i t (omega arith) g n in
    let z : k + 1 + i ≡ k + suc i = omega arith in
    let ih2 = ih ∙ ap (λ p. cond (eqb q (slot_at ss i).hash) (without_place p (places_from (k + 1) q ss)) (places_from (k + 1) q ss)) z in
    ap (λ ps. cond (is_filed q s) (k ∷ ps) ps) ih2 ∙ go (is_filed q s) (eqb q (slot_at ss i).hash)
  where
    other : eqb k (k + suc i) ≡ false
    other = ne_eqb k (k + suc i) (λ e. omega arith)

    go : (b d : Bool) → cond b (k ∷ cond d (without_place (k + suc i) (places_from (k + 1) q ss)) (places_from (k + 1) q ss)) (cond d (without_place (k + suc i) (places_from (k + 1) q ss)) (places_from (k + 1) q ss))
        ≡ cond d (without_place (k + suc i) (cond b (k ∷ places_from (k + 1) q ss) (places_from (k + 1) q ss))) (cond b (k ∷ places_from (k + 1) q ss) (places_from (k + 1) q ss))
    go true true = sym (ap (λ b. cond (not b) (k ∷ without_place (k + suc i) (places_from (k + 1) q ss)) (without_place (k + suc i) (places_from (k + 1) q ss))) other)
    go true false = refl
    go false true = refl
    go false false = refl

-- a clause with a count is not removed
pub gone_not : (s : Slot) (r : Bool) → 0 < slot_count r s → is_removed s ≡ false
gone_not s true h = let e : eqb s.clause.redundant 0 ≡ false = ne_eqb s.clause.redundant 0 (λ z. let k : 0 < s.clause.redundant = h in omega arith) in ap (λ b. eqb s.clause.irredundant 0 && b) e ∙ and_false (eqb s.clause.irredundant 0)
  where
    and_false : (b : Bool) → (b && false) ≡ false
    and_false true = refl
    and_false false = refl
gone_not s false h = let e : eqb s.clause.irredundant 0 ≡ false = ne_eqb s.clause.irredundant 0 (λ z. let k : 0 < s.clause.irredundant = h in omega arith) in ap (λ b. b && eqb s.clause.redundant 0) e

pub gone_more : (c : StoredClause) (h : ℕ) (r : Bool) → is_removed (record { clause = with_count r c; hash = h }) ≡ false
gone_more c h true = gone_not (record { clause = with_count true c; hash = h }) true (omega arith)
gone_more c h false = gone_not (record { clause = with_count false c; hash = h }) false (omega arith)

-- after a count is added to a clause that is not removed
pub places_counted : (q : ℕ) (r : Bool) (i : ℕ) (ss : List Slot) → i < length ss → is_removed (slot_at ss i) ≡ false → places_of q (with_count_at r i ss) ≡ places_of q ss
places_counted q r i ss l n =
    places_same 0 q ss i (record { clause = with_count r (slot_at ss i).clause; hash = (slot_at ss i).hash }) l
    (ap (λ b. not b && eqb (slot_at ss i).hash q) (gone_more (slot_at ss i).clause (slot_at ss i).hash r ∙ sym n))

-- after a count is removed from a clause, which may remove the clause

pub places_left : (q : ℕ) (r : Bool) (i : ℕ) (ss : List Slot) → i < length ss → 0 < slot_count r (slot_at ss i) → is_removed (record { clause = without_count r (slot_at ss i).clause; hash = (slot_at ss i).hash }) ≡ false → places_of q (without_count_at r i ss) ≡ places_of q ss
places_left q r i ss l c n =
    places_same 0 q ss i (record { clause = without_count r (slot_at ss i).clause; hash = (slot_at ss i).hash }) l
    (ap (λ b. not b && eqb (slot_at ss i).hash q) (n ∙ sym (gone_not (slot_at ss i) r c)))

pub places_removed : (q : ℕ) (r : Bool) (i : ℕ) (ss : List Slot) → i < length ss → 0 < slot_count r (slot_at ss i) → is_removed (record { clause = without_count r (slot_at ss i).clause; hash = (slot_at ss i).hash }) ≡ true → places_of q (without_count_at r i ss) ≡ cond (eqb q (slot_at ss i).hash) (without_place i (places_of q ss)) (places_of q ss)
places_removed q r i ss l c g =
    let z : 0 + i ≡ i = omega arith in
    places_gone 0 q ss i (record { clause = without_count r (slot_at ss i).clause; hash = (slot_at ss i).hash }) l g (gone_not (slot_at ss i) r c)
    ∙ ap (λ p. cond (eqb q (slot_at ss i).hash) (without_place p (places_of q ss)) (places_of q ss)) z

pub set_at : (ss : List Slot) (i : ℕ) (t : Slot) → i < length ss → slot_at (slice_set ss i t) i ≡ t
set_at [] i t l = absurd (omega arith)
set_at (s ∷ ss) zero t l = refl
set_at (s ∷ ss) (suc i) t l = set_at ss i t (omega arith)

-- the index has exactly the places of the slots
abbrev Agrees : (ℕ → List ℕ) → List Slot → Type 0
Agrees f ss = (q : ℕ) → f q ≡ places_of q ss

pub agrees_counted : (f : ℕ → List ℕ) (r : Bool) (i : ℕ) (old ss new : List Slot) → old ≡ ss → i < length ss → is_removed (slot_at ss i) ≡ false → Agrees f old → new ≡ with_count_at r i old → Agrees f new
agrees_counted f r i old ss new is l n a e = λ q.
    a q ∙ ap (places_of q) is ∙ sym (places_counted q r i ss l n) ∙ ap (λ x. places_of q (with_count_at r i x)) (sym is) ∙ ap (places_of q) (sym e)

pub stored_last : (r : Bool) (id hash place : ℕ) (literals : List ℕ) (old new all : List Slot) → place ≡ length old → new ≡ old ++ removed_slot id hash literals ∷ [] → all ≡ with_count_at r place new → all ≡ old ++ stored_slot r id hash literals ∷ []
stored_last r id hash place literals old new all p e s =
    s ∙ ap (λ n. with_count_at r n new) p ∙ ap (with_count_at r (length old)) e ∙ counted_last r id hash literals old

pub agrees_stored : (f g : ℕ → List ℕ) (r : Bool) (id hash place : ℕ) (literals : List ℕ) (old new all : List Slot) → Agrees f old → place ≡ length old → ((q : ℕ) → g q ≡ cond (eqb q hash) (f q ++ place ∷ []) (f q)) → new ≡ old ++ removed_slot id hash literals ∷ [] → all ≡ with_count_at r place new → Agrees g all
agrees_stored f g r id hash place literals old new all a p h e s = λ q.
    h q ∙ ap (λ n. cond (eqb q hash) (f q ++ n ∷ []) (f q)) p ∙ ap (λ ps. cond (eqb q hash) (ps ++ length old ∷ []) ps) (a q)
    ∙ sym (places_stored r q id hash literals old) ∙ ap (places_of q) (sym (stored_last r id hash place literals old new all p e s))

module _ (f : ℕ → List ℕ) (r : Bool) (i : ℕ) (old ss new : List Slot) (is : old ≡ ss) (l : i < length ss) (c : 0 < slot_count r (slot_at ss i)) (a : Agrees f old) (e : new ≡ without_count_at r i old) where
  pub after : new ≡ without_count_at r i ss
  after = e ∙ ap (without_count_at r i) is

  pub gone_there : is_removed (slot_at new i) ≡ is_removed (record { clause = without_count r (slot_at ss i).clause; hash = (slot_at ss i).hash })
  gone_there = ap (λ x. is_removed (slot_at x i)) after ∙ ap is_removed (set_at ss i (record { clause = without_count r (slot_at ss i).clause; hash = (slot_at ss i).hash }) l)

  pub agrees_left : is_removed (slot_at new i) ≡ false → Agrees f new
  agrees_left n = λ q. a q ∙ ap (places_of q) is ∙ sym (places_left q r i ss l c (sym gone_there ∙ n)) ∙ ap (places_of q) (sym after)

  pub agrees_removed : (g : ℕ → List ℕ) → ((q : ℕ) → g q ≡ without_place i (f q)) → is_removed (slot_at new i) ≡ true → Agrees g new
  agrees_removed g w n = λ q. w q ∙ ap (without_place i) (a q ∙ ap (places_of q) is) ∙ go q (eqb q (slot_at ss i).hash) refl ∙ sym (places_removed q r i ss l c (sym gone_there ∙ n)) ∙ ap (places_of q) (sym after)
    where
      go : (q : ℕ) (b : Bool) → eqb q (slot_at ss i).hash ≡ b → without_place i (places_of q ss) ≡ cond (eqb q (slot_at ss i).hash) (without_place i (places_of q ss)) (places_of q ss)
      go q true d = sym (ap (λ b. cond b (without_place i (places_of q ss)) (places_of q ss)) d)
      go q false d = without_absent 0 q ss i l d i (let z : 0 + i ≡ i = omega arith in z) ∙ sym (ap (λ b. cond b (without_place i (places_of q ss)) (places_of q ss)) d)
