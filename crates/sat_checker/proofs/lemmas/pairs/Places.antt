-- The pairs of a list of links, in order of their places.
use Rattle.std.proofs.Common.{ℕ, zero, suc, ◌+◌, ◌<◌, ◌≤◌, ◌≡◌, ◌≢◌, Bool, true, false, cond, eqb, List, [], ◌∷◌, ◌++◌, drop, length, refl, sym, ◌∙◌, ap, arith, slice_set}
use Rattle.std.proofs.lemmas.Bool.{eq-eqb, ne_eqb, eqb-false}
use Rattle.std.proofs.lemmas.List.{drop_more, length-set, get_or-set_same}
use Rattle.std.specs.List.{AllByRecursion}
use Rattle.sat_checker.specs.inner.PairView.{AreInOrder, without_pair}
use Rattle.sat_checker.specs.inner.LinkView.{no_pair, link_at, link_pairs_from, link_pairs_at, listed_pairs}
use Rattle.sat_checker.specs.declared.store.links.Pair.{Pair}
use Rattle.sat_checker.specs.declared.store.links.Link.{Link}
use Rattle.sat_checker.proofs.lemmas.pairs.Order.{all_weaker, without_none, without_head, without_tail}
use Rattle.sat_checker.proofs.lemmas.pairs.Walks.{IsThere}

-- the pairs, given whether the first place has one
abbrev pub first_kept : Bool → ℕ → Link → List Link → List Pair
first_kept b k l ls = cond b (link_pairs_from (k + 1) ls) ((record { hash = l.hash; place = k }) ∷ link_pairs_from (k + 1) ls)

pub pairs_skip : (k : ℕ) (l : Link) (ls : List Link) → l.next ≡ no_pair → link_pairs_from k (l ∷ ls) ≡ link_pairs_from (k + 1) ls
pairs_skip k l ls e = ap (λ b. first_kept b k l ls) (eq-eqb l.next no_pair e)

pub pairs_keep : (k : ℕ) (l : Link) (ls : List Link) → l.next ≢ no_pair → link_pairs_from k (l ∷ ls) ≡ (record { hash = l.hash; place = k }) ∷ link_pairs_from (k + 1) ls
pairs_keep k l ls e = ap (λ b. first_kept b k l ls) (ne_eqb l.next no_pair e)

-- the pairs are at places from the first one on
pub pairs_above : (b k : ℕ) (ls : List Link) → b < k → AllByRecursion (λ (p : Pair). b < p.place) (link_pairs_from k ls)
pairs_above b k [] l = tt
pairs_above b k (x ∷ ls) l = go (eqb x.next no_pair) (pairs_above b (k + 1) ls (omega arith))
  where
    go : (d : Bool) → AllByRecursion (λ (p : Pair). b < p.place) (link_pairs_from (k + 1) ls) → AllByRecursion (λ (p : Pair). b < p.place) (first_kept d k x ls)
    go true ih = ih
    go false ih = (l, ih)

pub pairs_order : (k : ℕ) (ls : List Link) → AreInOrder (link_pairs_from k ls)
pairs_order k [] = tt
pairs_order k (x ∷ ls) = go (eqb x.next no_pair) (pairs_order (k + 1) ls)
  where
    go : (d : Bool) → AreInOrder (link_pairs_from (k + 1) ls) → AreInOrder (first_kept d k x ls)
    go true ih = ih
    go false ih = (pairs_above k (k + 1) ls (omega arith), ih)

pub length_pairs : (k : ℕ) (ls : List Link) → length (link_pairs_from k ls) ≤ length ls
length_pairs k [] = omega arith
length_pairs k (x ∷ ls) = go (eqb x.next no_pair) (length_pairs (k + 1) ls)
  where
    go : (d : Bool) → length (link_pairs_from (k + 1) ls) ≤ length ls → length (first_kept d k x ls) ≤ suc (length ls)
    go true ih = omega (arith, ih)
    go false ih = omega (arith, ih)

-- every pair has the hash of its link
there_from : (all ls : List Link) (k : ℕ) → k + length ls ≤ length all → ((j : ℕ) → link_at all (k + j) ≡ link_at ls j) → AllByRecursion (IsThere all) (link_pairs_from k ls)
there_from all [] k l same = tt
there_from all (x ∷ ls) k l same = go (eqb x.next no_pair) refl (there_from all ls (k + 1) (omega (arith, l)) (λ j. let e : k + 1 + j ≡ k + suc j = omega arith in ap (link_at all) e ∙ same (suc j)))
  where
    here : link_at all k ≡ x
    here = let e : k ≡ k + 0 = omega arith in ap (link_at all) e ∙ same 0

    go : (d : Bool) → eqb x.next no_pair ≡ d → AllByRecursion (IsThere all) (link_pairs_from (k + 1) ls) → AllByRecursion (IsThere all) (first_kept d k x ls)
    go true e ih = ih
    go false e ih = (record { inside = omega (arith, l); hash = ap (λ (y : Link). y.hash) (sym here); present = λ g. eqb-false x.next no_pair e (ap (λ (y : Link). y.next) (sym here) ∙ g) }, ih)

pub all_there : (links : List Link) → AllByRecursion (IsThere links) (listed_pairs links)
all_there links = there_from links links 0 (omega arith) (λ j. let z : 0 + j ≡ j = omega arith in ap (link_at links) z)

-- after a link is appended
pub pairs_push : (k : ℕ) (ls : List Link) (l : Link) → l.next ≢ no_pair → link_pairs_from k (ls ++ l ∷ []) ≡ link_pairs_from k ls ++ (record { hash = l.hash; place = k + length ls }) ∷ []
pairs_push k [] l n = pairs_keep k l [] n ∙ ap (λ x. (record { hash = l.hash; place = x }) ∷ []) (let z : k ≡ k + 0 = omega arith in z)
pairs_push k (x ∷ ls) l n = go (eqb x.next no_pair) (pairs_push (k + 1) ls l n)
  where
    same : k + 1 + length ls ≡ k + suc (length ls)
    same = omega arith

    go : (d : Bool) → link_pairs_from (k + 1) (ls ++ l ∷ []) ≡ link_pairs_from (k + 1) ls ++ (record { hash = l.hash; place = k + 1 + length ls }) ∷ []
        → first_kept d k x (ls ++ l ∷ []) ≡ first_kept d k x ls ++ (record { hash = l.hash; place = k + suc (length ls) }) ∷ []
    go true ih = ih ∙ ap (λ y. link_pairs_from (k + 1) ls ++ (record { hash = l.hash; place = y }) ∷ []) same
    go false ih = ap (λ ps. (record { hash = x.hash; place = k }) ∷ ps) (ih ∙ ap (λ y. link_pairs_from (k + 1) ls ++ (record { hash = l.hash; place = y }) ∷ []) same)

-- after a link leads elsewhere
pub pairs_relinked : (k : ℕ) (ls : List Link) (i n : ℕ) → i < length ls → (link_at ls i).next ≢ no_pair → n ≢ no_pair → link_pairs_from k (slice_set ls i (record { hash = (link_at ls i).hash; next = n })) ≡ link_pairs_from k ls
pairs_relinked k [] i n l was now = absurd (omega arith)
pairs_relinked k (x ∷ ls) zero n l was now = pairs_keep k (record { hash = x.hash; next = n }) ls now ∙ sym (pairs_keep k x ls was)
pairs_relinked k (x ∷ ls) (suc i) n l was now = ap (λ ps. cond (eqb x.next no_pair) ps ((record { hash = x.hash; place = k }) ∷ ps)) (pairs_relinked (k + 1) ls i n (omega arith) was now)

-- after a link is removed
pub pairs_removed : (k : ℕ) (ls : List Link) (i h : ℕ) → i < length ls → link_pairs_from k (slice_set ls i (record { hash = h; next = no_pair })) ≡ without_pair (k + i) (link_pairs_from k ls)
pairs_removed k [] i h l = absurd (omega arith)
pairs_removed k (x ∷ ls) zero h l = go (eqb x.next no_pair)
  where
    at_k : k ≡ k + 0
    at_k = omega arith

    others : AllByRecursion (λ (q : Pair). q.place ≢ k + 0) (link_pairs_from (k + 1) ls)
    others = all_weaker (λ q. k < q.place) (λ q. q.place ≢ k + 0) (λ q m e. omega (arith, m, e)) (link_pairs_from (k + 1) ls) (pairs_above k (k + 1) ls (omega arith))

    go : (d : Bool) → link_pairs_from (k + 1) ls ≡ without_pair (k + 0) (first_kept d k x ls)
    go true = sym (without_none (k + 0) (link_pairs_from (k + 1) ls) others)
    go false = sym (without_head (k + 0) (record { hash = x.hash; place = k }) (link_pairs_from (k + 1) ls) at_k others)
pairs_removed k (x ∷ ls) (suc i) h l = go (eqb x.next no_pair) (pairs_removed (k + 1) ls i h (omega arith) ∙ ap (λ y. without_pair y (link_pairs_from (k + 1) ls)) (let z : k + 1 + i ≡ k + suc i = omega arith in z))
  where
    go : (d : Bool) → link_pairs_from (k + 1) (slice_set ls i (record { hash = h; next = no_pair })) ≡ without_pair (k + suc i) (link_pairs_from (k + 1) ls)
        → first_kept d k x (slice_set ls i (record { hash = h; next = no_pair })) ≡ without_pair (k + suc i) (first_kept d k x ls)
    go true ih = ih
    go false ih = ap (λ ps. (record { hash = x.hash; place = k }) ∷ ps) ih ∙ sym (without_tail (k + suc i) (record { hash = x.hash; place = k }) (link_pairs_from (k + 1) ls) (λ e. let z : k ≡ k + suc i = e in omega (arith, z)))

-- if no link has a pair
pub pairs_none : (k : ℕ) (ls : List Link) → ((i : ℕ) → i < length ls → (link_at ls i).next ≡ no_pair) → link_pairs_from k ls ≡ []
pairs_none k [] h = refl
pairs_none k (x ∷ ls) h = pairs_skip k x ls (h 0 (omega arith)) ∙ pairs_none (k + 1) ls (λ i l. h (suc i) (omega arith))

-- the pairs from a place on
pub on_keep : (links : List Link) (k : ℕ) → k < length links → (link_at links k).next ≢ no_pair → link_pairs_at k links ≡ (record { hash = (link_at links k).hash; place = k }) ∷ link_pairs_at (k + 1) links
on_keep links k l e = ap (link_pairs_from k) (drop_more links k (record { hash = 0; next = 0 }) l) ∙ pairs_keep k (link_at links k) (drop (k + 1) links) e

drop_set : (links : List Link) (k : ℕ) (x : Link) → drop (k + 1) (slice_set links k x) ≡ drop (k + 1) links
drop_set links k x = ap (λ n. drop n (slice_set links k x)) (let z : k + 1 ≡ suc k = omega arith in z) ∙ go links k ∙ ap (λ n. drop n links) (let z : suc k ≡ k + 1 = omega arith in z)
  where
    go : (ls : List Link) (i : ℕ) → drop (suc i) (slice_set ls i x) ≡ drop (suc i) ls
    go [] zero = refl
    go [] (suc i) = refl
    go (y ∷ ls) zero = refl
    go (y ∷ ls) (suc i) = go ls i

pub on_set : (links : List Link) (k : ℕ) (x : Link) → link_pairs_at (k + 1) (slice_set links k x) ≡ link_pairs_at (k + 1) links
on_set links k x = ap (link_pairs_from (k + 1)) (drop_set links k x)

-- after a pair is put at a place
pub on_set_here : (links : List Link) (k : ℕ) (x : Link) → k < length links → x.next ≢ no_pair → link_pairs_at k (slice_set links k x) ≡ (record { hash = x.hash; place = k }) ∷ link_pairs_at (k + 1) links
on_set_here links k x l n =
    let here : link_at (slice_set links k x) k ≡ x = get_or-set_same links k x (record { hash = 0; next = 0 }) l in
    on_keep (slice_set links k x) k (omega (arith, length-set links k x, l)) (λ e. n (sym (ap (λ (y : Link). y.next) here) ∙ e))
    ∙ ap (λ (y : Link). (record { hash = y.hash; place = k }) ∷ link_pairs_at (k + 1) (slice_set links k x)) here ∙ ap (λ ps. (record { hash = x.hash; place = k }) ∷ ps) (on_set links k x)

-- if all pairs are after a place, they are those from the next place on, and one put at the place is the first
module _ (links : List Link) (k : ℕ) (h : AllByRecursion (λ (p : Pair). k < p.place) (listed_pairs links)) where
  pub only_after : link_pairs_at (k + 1) links ≡ listed_pairs links
  only_after = sym (go links 0 k h (omega arith) ∙ ap (λ n. link_pairs_from (k + 1) (drop n links)) (let z : suc k ≡ k + 1 = omega arith in z))
    where
      go : (ls : List Link) (j i : ℕ) → AllByRecursion (λ (p : Pair). k < p.place) (link_pairs_from j ls) → j + i ≡ k → link_pairs_from j ls ≡ link_pairs_from (k + 1) (drop (suc i) ls)
      go [] j i a e = refl
      go (x ∷ ls) j zero a e = pick (eqb x.next no_pair) a
        where
          next : link_pairs_from (j + 1) ls ≡ link_pairs_from (k + 1) ls
          next = ap (λ n. link_pairs_from n ls) (let z : j + 1 ≡ k + 1 = omega (arith, e) in z)

          pick : (d : Bool) → AllByRecursion (λ (p : Pair). k < p.place) (first_kept d j x ls) → first_kept d j x ls ≡ link_pairs_from (k + 1) ls
          pick true b = next
          pick false b = let z : k < j = b.0 in absurd (omega (arith, z, e))
      go (x ∷ ls) j (suc i) a e = pick (eqb x.next no_pair) a (λ b. go ls (j + 1) i b (omega (arith, e)))
        where
          pick : (d : Bool) → AllByRecursion (λ (p : Pair). k < p.place) (first_kept d j x ls) → (AllByRecursion (λ (p : Pair). k < p.place) (link_pairs_from (j + 1) ls) → link_pairs_from (j + 1) ls ≡ link_pairs_from (k + 1) (drop (suc i) ls))
              → first_kept d j x ls ≡ link_pairs_from (k + 1) (drop (suc i) ls)
          pick true b ih = ih b
          pick false b ih = let z : k < j = b.0 in absurd (omega (arith, z, e))

  pub only_front : (y : Link) → k < length links → y.next ≢ no_pair → listed_pairs (slice_set links k y) ≡ (record { hash = y.hash; place = k }) ∷ listed_pairs links
  only_front y l n = go links 0 k h (omega arith) l ∙ ap (λ ps. (record { hash = y.hash; place = k }) ∷ ps) (ap (λ n. link_pairs_from (k + 1) (drop n links)) (let z : suc k ≡ k + 1 = omega arith in z) ∙ only_after)
    where
      go : (ls : List Link) (j i : ℕ) → AllByRecursion (λ (p : Pair). k < p.place) (link_pairs_from j ls) → j + i ≡ k → i < length ls → link_pairs_from j (slice_set ls i y) ≡ (record { hash = y.hash; place = k }) ∷ link_pairs_from (k + 1) (drop (suc i) ls)
      go [] j i a e m = absurd (omega arith)
      go (x ∷ ls) j zero a e m = let z : j ≡ k = omega (arith, e) in pairs_keep j y ls n ∙ ap (λ q. (record { hash = y.hash; place = q }) ∷ link_pairs_from (q + 1) ls) z
      go (x ∷ ls) j (suc i) a e m = pick (eqb x.next no_pair) a (λ b. go ls (j + 1) i b (omega (arith, e)) (omega arith))
        where
          pick : (d : Bool) → AllByRecursion (λ (p : Pair). k < p.place) (first_kept d j x ls) → (AllByRecursion (λ (p : Pair). k < p.place) (link_pairs_from (j + 1) ls) → link_pairs_from (j + 1) (slice_set ls i y) ≡ (record { hash = y.hash; place = k }) ∷ link_pairs_from (k + 1) (drop (suc i) ls))
              → first_kept d j x (slice_set ls i y) ≡ (record { hash = y.hash; place = k }) ∷ link_pairs_from (k + 1) (drop (suc i) ls)
          pick true b ih = ih b
          pick false b ih = let z : k < j = b.0 in absurd (omega (arith, z, e))
