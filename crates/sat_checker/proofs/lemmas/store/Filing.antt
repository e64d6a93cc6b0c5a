-- The places of a hash, in an index of pairs and in a list of slots.
use Rattle.std.proofs.Common.{ℕ, ◌+◌, ◌<◌, ◌≤◌, ◌≡◌, Bool, true, false, not, ◌||◌, ◌&&◌, cond, eqb, ltb, leb, List, [], ◌∷◌, length, map, filter, Option, None, Some, refl, sym, ◌∙◌, ap, subst, arith}
use Rattle.std.proofs.lemmas.Bool.{eqb-true, eq-eqb, true≢false}
use Rattle.std.proofs.lemmas.Bool.Decides.{nat_tests}
use Rattle.std.specs.List.{AllByRecursion}
use Rattle.std.specs.Option.{IfSome}
use Rattle.sat_checker.specs.LiteralSets.{is_among}
use Rattle.sat_checker.specs.inner.Marks.{IsIncreasing}
use Rattle.sat_checker.specs.inner.IndexView.{without_place, slot_pairs_from, slot_pairs, IndexesSlots}
use Rattle.sat_checker.specs.inner.PairView.{Indexed, AreInOrder, without_pair, places_in, first_of, places_after, places_at_or_after, mixed}
use Rattle.sat_checker.specs.inner.SlotView.{Slot, is_removed, is_filed, places_from, places_of}
use Rattle.sat_checker.specs.declared.store.links.Pair.{Pair}
use Rattle.sat_checker.proofs.lemmas.pairs.Mixing.{mixed_same}
use Rattle.sat_checker.proofs.lemmas.store.Places.{places_above}

-- the pairs of slots have the places of every hash
pub pairs_places : (q k : ℕ) (ss : List Slot) → places_in (mixed q) (slot_pairs_from k ss) ≡ places_from k q ss
pairs_places q k [] = refl
pairs_places q k (s ∷ ss) = go (is_removed s) (pairs_places q (k + 1) ss)
  where
    pick : (d : Bool) → places_in (mixed q) (slot_pairs_from (k + 1) ss) ≡ places_from (k + 1) q ss
        → map (λ (p : Pair). p.place) (cond d ((record { hash = mixed s.hash; place = k }) ∷ filter (λ p. eqb p.hash (mixed q)) (slot_pairs_from (k + 1) ss)) (filter (λ p. eqb p.hash (mixed q)) (slot_pairs_from (k + 1) ss))) ≡ cond d (k ∷ places_from (k + 1) q ss) (places_from (k + 1) q ss)
    pick true ih = ap (λ ps. k ∷ ps) ih
    pick false ih = ih

    go : (g : Bool) → places_in (mixed q) (slot_pairs_from (k + 1) ss) ≡ places_from (k + 1) q ss → places_in (mixed q) (cond g (slot_pairs_from (k + 1) ss) ((record { hash = mixed s.hash; place = k }) ∷ slot_pairs_from (k + 1) ss)) ≡ cond (not g && eqb s.hash q) (k ∷ places_from (k + 1) q ss) (places_from (k + 1) q ss)
    go true ih = ih
    go false ih = pick (eqb (mixed s.hash) (mixed q)) ih ∙ ap (λ d. cond d (k ∷ places_from (k + 1) q ss) (places_from (k + 1) q ss)) (mixed_same s.hash q)

-- the pairs of slots from place `k` on are at places above `b`
pub pairs_above : (b k : ℕ) (ss : List Slot) → b < k → AllByRecursion (λ (p : Pair). b < p.place) (slot_pairs_from k ss)
pairs_above b k [] l = tt
pairs_above b k (s ∷ ss) l = go (is_removed s) (pairs_above b (k + 1) ss (omega arith))
  where
    go : (g : Bool) → AllByRecursion (λ (p : Pair). b < p.place) (slot_pairs_from (k + 1) ss) → AllByRecursion (λ (p : Pair). b < p.place) (cond g (slot_pairs_from (k + 1) ss) ((record { hash = mixed s.hash; place = k }) ∷ slot_pairs_from (k + 1) ss))
    go true ih = ih
    go false ih = (l, ih)

pairs_below : (k n : ℕ) (ss : List Slot) → k + length ss ≤ n → AllByRecursion (λ (p : Pair). p.place < n) (slot_pairs_from k ss)
pairs_below k n [] l = tt
pairs_below k n (s ∷ ss) l = go (is_removed s) (pairs_below (k + 1) n ss (omega arith))
  where
    go : (g : Bool) → AllByRecursion (λ (p : Pair). p.place < n) (slot_pairs_from (k + 1) ss) → AllByRecursion (λ (p : Pair). p.place < n) (cond g (slot_pairs_from (k + 1) ss) ((record { hash = mixed s.hash; place = k }) ∷ slot_pairs_from (k + 1) ss))
    go true ih = ih
    go false ih = (omega arith, ih)

-- the places of a hash are increasing
pub increasing_places : (k q : ℕ) (ss : List Slot) → IsIncreasing (places_from k q ss)
increasing_places k q [] = tt
increasing_places k q (s ∷ ss) = go (is_filed q s) (increasing_places (k + 1) q ss)
  where
    go : (b : Bool) → IsIncreasing (places_from (k + 1) q ss) → IsIncreasing (cond b (k ∷ places_from (k + 1) q ss) (places_from (k + 1) q ss))
    go true ih = (places_above k (k + 1) q ss (omega arith), ih)
    go false ih = ih

pub pairs_in_order : (k : ℕ) (ss : List Slot) → AreInOrder (slot_pairs_from k ss)
pairs_in_order k [] = tt
pairs_in_order k (s ∷ ss) = go (is_removed s) (pairs_in_order (k + 1) ss)
  where
    go : (g : Bool) → AreInOrder (slot_pairs_from (k + 1) ss) → AreInOrder (cond g (slot_pairs_from (k + 1) ss) ((record { hash = mixed s.hash; place = k }) ∷ slot_pairs_from (k + 1) ss))
    go true ih = ih
    go false ih = (pairs_above k (k + 1) ss (omega arith), ih)

-- an index of the pairs of all slots
pub files_all : (ss : List Slot) (index : Indexed) → index ≡ record { pairs = slot_pairs ss; places = length ss } → IndexesSlots index ss
files_all ss index e = subst (λ x. IndexesSlots x ss) (sym e) (record {
  filed = λ q. pairs_places q 0 ss;
  places = refl;
  in_order = pairs_in_order 0 ss;
  below = pairs_below 0 (length ss) ss (omega arith);
})

-- removing a pair removes its place from those of its hash
pub places_without : (q i : ℕ) (ps : List Pair) → places_in q (without_pair i ps) ≡ without_place i (places_in q ps)
places_without q i [] = refl
places_without q i (p ∷ ps) = go (eqb p.place i) refl (places_without q i ps)
  where
    kept : eqb p.place i ≡ false → (d : Bool) → places_in q (without_pair i ps) ≡ without_place i (places_in q ps)
        → map (λ (r : Pair). r.place) (cond d (p ∷ filter (λ r. eqb r.hash q) (without_pair i ps)) (filter (λ r. eqb r.hash q) (without_pair i ps))) ≡ without_place i (map (λ (r : Pair). r.place) (cond d (p ∷ filter (λ r. eqb r.hash q) ps) (filter (λ r. eqb r.hash q) ps)))
    kept b true ih = ap (λ xs. p.place ∷ xs) ih ∙ sym (ap (λ c. cond (not c) (p.place ∷ without_place i (places_in q ps)) (without_place i (places_in q ps))) b)
    kept b false ih = ih

    gone : eqb p.place i ≡ true → (d : Bool) → places_in q (without_pair i ps) ≡ without_place i (places_in q ps)
        → places_in q (without_pair i ps) ≡ without_place i (map (λ (r : Pair). r.place) (cond d (p ∷ filter (λ r. eqb r.hash q) ps) (filter (λ r. eqb r.hash q) ps)))
    gone b true ih = ih ∙ sym (ap (λ c. cond (not c) (p.place ∷ without_place i (places_in q ps)) (without_place i (places_in q ps))) b)
    gone b false ih = ih

    go : (b : Bool) → eqb p.place i ≡ b → places_in q (without_pair i ps) ≡ without_place i (places_in q ps)
        → places_in q (cond (not b) (p ∷ without_pair i ps) (without_pair i ps)) ≡ without_place i (places_in q (p ∷ ps))
    go true b ih = gone b (eqb p.hash q) ih
    go false b ih = kept b (eqb p.hash q) ih

-- the places after a place, and from it on
module _ (x : ℕ) where
  less : (y : ℕ) → x < y → ltb x y ≡ true
  less y l = grind (arith, nat_tests)

  at_most : (y : ℕ) → x < y → leb x y ≡ true
  at_most y l = grind (arith, nat_tests)

  pub whole_after : (ys : List ℕ) → AllByRecursion (λ y. x < y) ys → places_after x ys ≡ ys
  whole_after [] h = refl
  whole_after (y ∷ ys) h = ap (λ b. cond b (y ∷ places_after x ys) (places_after x ys)) (less y h.0) ∙ ap (λ zs. y ∷ zs) (whole_after ys h.1)

  pub whole_on : (ys : List ℕ) → AllByRecursion (λ y. x < y) ys → places_at_or_after (Some x) ys ≡ ys
  whole_on [] h = refl
  whole_on (y ∷ ys) h = ap (λ b. cond b (y ∷ places_at_or_after (Some x) ys) (places_at_or_after (Some x) ys)) (at_most y h.0) ∙ ap (λ zs. y ∷ zs) (whole_on ys h.1)

itself : (x : ℕ) → leb x x ≡ true
itself x = grind (arith, nat_tests)

not_itself : (x : ℕ) → ltb x x ≡ false
not_itself x = grind (arith, nat_tests)

passed_on : (x y : ℕ) → y < x → leb x y ≡ false
passed_on x y l = grind (arith, nat_tests)

passed_after : (x y : ℕ) → y < x → ltb x y ≡ false
passed_after x y l = grind (arith, nat_tests)

pub from_first : (ps : List ℕ) → IsIncreasing ps → (o : Option ℕ) → o ≡ first_of ps → places_at_or_after o ps ≡ ps
from_first ps i o e = ap (λ x. places_at_or_after x ps) e ∙ go ps i
  where
    go : (qs : List ℕ) → IsIncreasing qs → places_at_or_after (first_of qs) qs ≡ qs
    go [] j = refl
    go (q ∷ qs) j = ap (λ b. cond b (q ∷ places_at_or_after (Some q) qs) (places_at_or_after (Some q) qs)) (itself q) ∙ ap (λ rs. q ∷ rs) (whole_on q qs j.0)

member_above : (x y : ℕ) (ys : List ℕ) → AllByRecursion (λ z. y < z) ys → is_among ys x ≡ true → y < x
member_above x y [] k e = absurd (true≢false (sym e))
member_above x y (z ∷ zs) k e = pick (eqb z x) refl e (λ k'. member_above x y zs k.1 k')
  where
    pick : (d : Bool) → eqb z x ≡ d → (d || is_among zs x) ≡ true → (is_among zs x ≡ true → y < x) → y < x
    pick true d e' ih = subst (λ w. y < w) (eqb-true z x d) k.0
    pick false d e' ih = ih e'

-- the first place, and the first one after a place, are members
pub first_among : (ps : List ℕ) (p : ℕ) → Some p ≡ first_of ps → is_among ps p ≡ true
first_among [] p e = absurd cc
first_among (q ∷ qs) p e = let s : p ≡ q = cc in ap (λ b. b || is_among qs p) (eq-eqb q p (sym s))

pub after_among : (x : ℕ) (ps : List ℕ) (p : ℕ) → is_among (places_after x ps) p ≡ true → is_among ps p ≡ true
after_among x [] p e = e
after_among x (q ∷ qs) p e = go (ltb x q) e (λ k. after_among x qs p k)
  where
    or_true : (b : Bool) → (b || true) ≡ true
    or_true true = refl
    or_true false = refl

    here : (b : Bool) → (b || is_among (places_after x qs) p) ≡ true → (is_among (places_after x qs) p ≡ true → is_among qs p ≡ true) → (b || is_among qs p) ≡ true
    here true k ih = refl
    here false k ih = ih k

    go : (d : Bool) → is_among (cond d (q ∷ places_after x qs) (places_after x qs)) p ≡ true → (is_among (places_after x qs) p ≡ true → is_among qs p ≡ true) → (eqb q p || is_among qs p) ≡ true
    go true k ih = here (eqb q p) k ih
    go false k ih = ap (λ b. eqb q p || b) (ih k) ∙ or_true (eqb q p)

pub next_among : (x : ℕ) (ps : List ℕ) (o : Option ℕ) → o ≡ first_of (places_after x ps) → IfSome o (λ p. is_among ps p ≡ true)
next_among x ps None e = tt
next_among x ps (Some p) e = after_among x ps p (first_among (places_after x ps) p e)

-- the first place after `x` is above `x`
first_above : (x : ℕ) (ps : List ℕ) (p : ℕ) → Some p ≡ first_of (places_after x ps) → x < p
first_above x [] p e = absurd cc
first_above x (q ∷ qs) p e = go (ltb x q) refl e (λ k. first_above x qs p k)
  where
    above : (y : ℕ) → ltb x y ≡ true → x < y
    above y k = grind (arith, nat_tests)

    go : (b : Bool) → ltb x q ≡ b → Some p ≡ first_of (cond b (q ∷ places_after x qs) (places_after x qs)) → (Some p ≡ first_of (places_after x qs) → x < p) → x < p
    go true b k ih = let s : p ≡ q = cc in subst (λ y. x < y) (sym s) (above q b)
    go false b k ih = ih k

on_tail : (x : ℕ) (xs : List ℕ) (o : Option ℕ) → ((p : ℕ) → o ≡ Some p → x < p) → places_at_or_after o (x ∷ xs) ≡ places_at_or_after o xs
on_tail x xs None h = refl
on_tail x xs (Some p) h = ap (λ b. cond b (x ∷ places_at_or_after (Some p) xs) (places_at_or_after (Some p) xs)) (passed_on p x (h p refl))

-- the places from `x` on are `x` and the places from the next one on
pub from_step : (ps : List ℕ) → IsIncreasing ps → (x : ℕ) → is_among ps x ≡ true → (o : Option ℕ) → o ≡ first_of (places_after x ps) → places_at_or_after (Some x) ps ≡ x ∷ places_at_or_after o ps
from_step [] i x m o e = absurd (true≢false (sym m))
from_step (p ∷ ps) i x m o e = go (eqb p x) refl m (λ k o' e'. from_step ps i.1 x k o' e')
  where
    go : (b : Bool) → eqb p x ≡ b → (b || is_among ps x) ≡ true → (is_among ps x ≡ true → (o' : Option ℕ) → o' ≡ first_of (places_after x ps) → places_at_or_after (Some x) ps ≡ x ∷ places_at_or_after o' ps) → places_at_or_after (Some x) (p ∷ ps) ≡ x ∷ places_at_or_after o (p ∷ ps)
    go true b k ih =
        let s : p ≡ x = eqb-true p x b in
        let all : AllByRecursion (λ y. x < y) ps = subst (λ z. AllByRecursion (λ y. z < y) ps) s i.0 in
        let rest : places_after x (p ∷ ps) ≡ ps = ap (λ z. cond (ltb x z) (z ∷ places_after x ps) (places_after x ps)) s ∙ ap (λ d. cond d (x ∷ places_after x ps) (places_after x ps)) (not_itself x) ∙ whole_after x ps all in
        let next : o ≡ first_of ps = e ∙ ap first_of rest in
        let left : places_at_or_after o (p ∷ ps) ≡ ps = on_tail p ps o (λ q z. subst (λ y. y < q) (sym s) (first_above x (p ∷ ps) q (sym z ∙ e))) ∙ from_first ps i.1 o next in
        ap (λ z. cond (leb x z) (z ∷ places_at_or_after (Some x) ps) (places_at_or_after (Some x) ps)) s ∙ ap (λ d. cond d (x ∷ places_at_or_after (Some x) ps) (places_at_or_after (Some x) ps)) (itself x) ∙ ap (λ zs. x ∷ zs) (whole_on x ps all) ∙ ap (λ zs. x ∷ zs) (sym left)
    go false b k ih =
        let l : p < x = member_above x p ps i.0 k in
        let rest : places_after x (p ∷ ps) ≡ places_after x ps = ap (λ d. cond d (p ∷ places_after x ps) (places_after x ps)) (passed_after x p l) in
        ap (λ d. cond d (p ∷ places_at_or_after (Some x) ps) (places_at_or_after (Some x) ps)) (passed_on x p l) ∙ ih k o (e ∙ ap first_of rest)
        ∙ ap (λ zs. x ∷ zs) (sym (on_tail p ps o (λ q z. let j : x < q = first_above x (p ∷ ps) q (sym z ∙ e) in omega arith)))

pub first_ok : (ps : List ℕ) (o : Option ℕ) → o ≡ first_of ps → IfSome o (λ p. is_among ps p ≡ true)
first_ok ps None e = tt
first_ok ps (Some p) e = first_among ps p e

-- the remaining places of the hash are the current place and those from the next one on
pub left_step : (h : ℕ) (ss : List Slot) (now : Option ℕ) (x : ℕ) → now ≡ Some x → IfSome now (λ p. is_among (places_of h ss) p ≡ true) → (next : Option ℕ) → next ≡ first_of (places_after x (places_of h ss))
    → places_at_or_after now (places_of h ss) ≡ x ∷ places_at_or_after next (places_of h ss)
left_step h ss now x e m next n = ap (λ o. places_at_or_after o (places_of h ss)) e ∙ from_step (places_of h ss) (increasing_places 0 h ss) x (subst (λ o. IfSome o (λ p. is_among (places_of h ss) p ≡ true)) e m) next n
