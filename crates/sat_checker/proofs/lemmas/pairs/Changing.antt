-- What heads and links list after a pair is added or removed.
use Rattle.std.proofs.Common.{ℕ, zero, suc, drop, ◌+◌, ◌<◌, ◌≤◌, ◌≡◌, ◌≢◌, Bool, true, false, not, cond, eqb, List, [], ◌∷◌, ◌++◌, length, take, refl, sym, ◌∙◌, ap, subst, arith, None, Some, slice_set, length-append}
use Rattle.std.proofs.lemmas.Bool.{eq-eqb, ne_eqb, eqb-true, eqb-false}
use Rattle.std.proofs.lemmas.List.{get_or-set_same, get_or-set_other, get_or_push, get_or_append_left, length-set, append-nil}
use Rattle.std.specs.List.{All, AllByRecursion}
use Rattle.sat_checker.specs.inner.PairView.{without_pair}
use Rattle.sat_checker.specs.inner.LinkView.{no_place, no_pair, link_at, LinksPairs, link_pairs_at, listed_pairs, linked_from, top_of, with_top, head_at, AreLinkedFrom, AreLinked, PairListsInvariant, LinksListPairs, SetsLink, last_place_or, place_before}
use Rattle.sat_checker.specs.declared.store.links.Pair.{Pair}
use Rattle.sat_checker.specs.declared.store.links.Link.{Link}
use Rattle.sat_checker.proofs.lemmas.pairs.Order.{all_weaker, all_both, all_filter, all_pass, filter_two, filter_swap, without_none, without_apart}
use Rattle.sat_checker.proofs.lemmas.pairs.Walks.{IsThere}
use Rattle.sat_checker.proofs.lemmas.pairs.Places.{all_there, pairs_above, pairs_push, pairs_relinked, pairs_removed, pairs_none, on_set_here, only_after, only_front}
use Rattle.sat_checker.proofs.lemmas.pairs.Links.{leads_same, leads_present, leads_further, last_member, none_last, before_member, after_member, part_is, part_order, part_there, unlinked, unlinked_first, unlinked_none, IsUnlinked}

-- the pairs of one top, after a pair
top_here : (shift count top : ℕ) (p : Pair) (ps : List Pair) → top_of shift count p.hash ≡ top → with_top shift count top (p ∷ ps) ≡ p ∷ with_top shift count top ps
top_here shift count top p ps e = ap (λ b. cond b (p ∷ with_top shift count top ps) (with_top shift count top ps)) (eq-eqb (top_of shift count p.hash) top e)

top_other : (shift count top : ℕ) (p : Pair) (ps : List Pair) → top_of shift count p.hash ≢ top → with_top shift count top (p ∷ ps) ≡ with_top shift count top ps
top_other shift count top p ps e = ap (λ b. cond b (p ∷ with_top shift count top ps) (with_top shift count top ps)) (ne_eqb (top_of shift count p.hash) top e)

-- a pair is linked before all others
module _ (heads : List ℕ) (links : List Link) (shift hash place top : ℕ) (a : AreLinkedFrom (place + 1) heads links shift) (l : place < length links) (inside : top < length heads) (t : top_of shift (length heads) hash ≡ top) where
  abbrev front : Link
  front = record { hash = hash; next = head_at heads top }

  pub front_present : head_at heads top ≢ no_pair
  front_present = leads_present links (head_at heads top) (with_top shift (length heads) top (link_pairs_at (place + 1) links)) a.few (a.parts top inside)

  here : link_at (slice_set links place front) place ≡ front
  here = get_or-set_same links place front (record { hash = 0; next = 0 }) l

  pairs_here : link_pairs_at place (slice_set links place front) ≡ (record { hash = hash; place = place }) ∷ link_pairs_at (place + 1) links
  pairs_here = on_set_here links place front l front_present

  part_left : (s : ℕ) → s < length heads → LinksPairs (slice_set links place front) (head_at heads s) (with_top shift (length heads) s (link_pairs_at (place + 1) links))
  part_left s i =
      leads_same links (slice_set links place front) (head_at heads s) (with_top shift (length heads) s (link_pairs_at (place + 1) links)) (a.parts s i) (omega (arith, length-set links place front))
      (all_weaker (λ q. place < q.place) (λ q. link_at (slice_set links place front) q.place ≡ link_at links q.place) (λ q m. get_or-set_other links place q.place front (record { hash = 0; next = 0 }) (λ e. omega (arith, m, e)))
      (with_top shift (length heads) s (link_pairs_at (place + 1) links)) (all_filter (λ q. place < q.place) (λ p. eqb (top_of shift (length heads) p.hash) s) (link_pairs_at (place + 1) links) (pairs_above place (place + 1) (drop (place + 1) links) (omega arith))))

  part_front : (s : ℕ) → s < length heads → LinksPairs (slice_set links place front) (head_at (slice_set heads top place) s) (with_top shift (length heads) s (link_pairs_at place (slice_set links place front)))
  part_front s i = subst (λ ps. LinksPairs (slice_set links place front) (head_at (slice_set heads top place) s) (with_top shift (length heads) s ps)) (sym pairs_here) (go (eqb s top) refl)
    where
      go : (b : Bool) → eqb s top ≡ b → LinksPairs (slice_set links place front) (head_at (slice_set heads top place) s) (with_top shift (length heads) s ((record { hash = hash; place = place }) ∷ link_pairs_at (place + 1) links))
      go true e =
          let is : s ≡ top = eqb-true s top e in
          subst (λ x. LinksPairs (slice_set links place front) (head_at (slice_set heads top place) x) (with_top shift (length heads) x ((record { hash = hash; place = place }) ∷ link_pairs_at (place + 1) links))) (sym is)
          (subst (LinksPairs (slice_set links place front) (head_at (slice_set heads top place) top)) (sym (top_here shift (length heads) top (record { hash = hash; place = place }) (link_pairs_at (place + 1) links) t))
          (subst (λ x. LinksPairs (slice_set links place front) x ((record { hash = hash; place = place }) ∷ with_top shift (length heads) top (link_pairs_at (place + 1) links))) (sym (get_or-set_same heads top place 0 inside)) (
            record { inside = omega (arith, length-set links place front, l); is = ap (λ (k : Link). record { hash = k.hash; place = place }) (sym here) },
            subst (λ (k : Link). LinksPairs (slice_set links place front) k.next (with_top shift (length heads) top (link_pairs_at (place + 1) links))) (sym here) (part_left top inside),
          )))
      go false e =
          let isnt : s ≢ top = eqb-false s top e in
          subst (LinksPairs (slice_set links place front) (head_at (slice_set heads top place) s)) (sym (top_other shift (length heads) s (record { hash = hash; place = place }) (link_pairs_at (place + 1) links) (λ d. isnt (sym d ∙ t))))
          (subst (λ x. LinksPairs (slice_set links place front) x (with_top shift (length heads) s (link_pairs_at (place + 1) links))) (sym (get_or-set_other heads top s place 0 isnt)) (part_left s i))

  pub linked_front : AreLinkedFrom place (slice_set heads top place) (slice_set links place front) shift
  linked_front = record {
    few = omega (arith, length-set links place front, a.few);
    parts = λ s i. subst (λ n. LinksPairs (slice_set links place front) (head_at (slice_set heads top place) s) (with_top shift n s (link_pairs_at place (slice_set links place front)))) (sym (length-set heads top place)) (part_front s (omega (arith, i, length-set heads top place)));
  }

-- a place where the same pairs are, from there on
pub linked_same : (heads : List ℕ) (links : List Link) (shift from to : ℕ) → AreLinkedFrom from heads links shift → link_pairs_at from links ≡ link_pairs_at to links → AreLinkedFrom to heads links shift
linked_same heads links shift from to a e = record { few = a.few; parts = λ s i. subst (λ ps. LinksPairs links (head_at heads s) (with_top shift (length heads) s ps)) e (a.parts s i) }

-- a pair was linked before all others
pub filed_before : (heads : List ℕ) (links new : List Link) (shift place hash : ℕ) → AreLinkedFrom place heads new shift → SetsLink place hash links new → place < length links → AllByRecursion (λ (p : Pair). place < p.place) (listed_pairs links)
    → LinksListPairs heads new shift ((record { hash = hash; place = place }) ∷ listed_pairs links)
filed_before heads links new shift place hash a s l h =
    let whole : listed_pairs new ≡ (record { hash = hash; place = place }) ∷ listed_pairs links = ap listed_pairs s.is ∙ only_front links place h (record { hash = hash; next = s.next }) l s.present in
    let here : link_pairs_at place new ≡ (record { hash = hash; place = place }) ∷ listed_pairs links = ap (link_pairs_at place) s.is ∙ on_set_here links place (record { hash = hash; next = s.next }) l s.present ∙ ap (λ ps. (record { hash = hash; place = place }) ∷ ps) (only_after links place h) in
    record { linked = linked_same heads new shift place 0 a (here ∙ sym whole); is = whole }

pub kept_before : (heads now : List ℕ) (links new : List Link) (shift place hash : ℕ) → PairListsInvariant heads links shift → AreLinkedFrom place now new shift → SetsLink place hash links new → length now ≡ length heads → place < length links
    → AllByRecursion (λ (p : Pair). place < p.place) (listed_pairs links) → PairListsInvariant now new shift
kept_before heads now links new shift place hash k a s count l h = record {
  linked = (filed_before now links new shift place hash a s l h).linked;
  some = λ m. let some : 0 < length heads = k.some (omega (arith, l)) in omega (arith, some, count);
  few = k.few;
  below = k.below;
}

-- nothing is linked yet: all heads are `no_place`
pub linked_none : (heads : List ℕ) (links : List Link) (shift place : ℕ) → length links ≤ no_pair → All (λ h. h ≡ no_place) heads → link_pairs_at place links ≡ [] → AreLinkedFrom place heads links shift
linked_none heads links shift place few none e = record { few = few; parts = λ s i. subst (λ ps. LinksPairs links (head_at heads s) (with_top shift (length heads) s ps)) (sym e) (none s 0 i) }

module _ (heads : List ℕ) (links : List Link) (shift : ℕ) (a : AreLinked heads links shift) (top : ℕ) (inside : top < length heads) where
  -- a place whose hash has one top is not in the list of another top
  not_in : (x : ℕ) → top_of shift (length heads) (link_at links x).hash ≡ top → (s : ℕ) → s ≢ top → AllByRecursion (λ q. q.place ≢ x) (with_top shift (length heads) s (listed_pairs links))
  not_in x t s n =
      all_weaker (λ q. IsThere links q × (eqb (top_of shift (length heads) q.hash) s ≡ true)) (λ q. q.place ≢ x)
      (λ q k e. n (sym (eqb-true (top_of shift (length heads) q.hash) s k.1) ∙ ap (top_of shift (length heads)) (k.0.hash ∙ ap (λ y. (link_at links y).hash) e) ∙ t)) (with_top shift (length heads) s (listed_pairs links))
      (all_both (IsThere links) (λ q. eqb (top_of shift (length heads) q.hash) s ≡ true) (with_top shift (length heads) s (listed_pairs links)) (part_there heads links shift a s) (all_pass (λ p. eqb (top_of shift (length heads) p.hash) s) (listed_pairs links)))

  -- a linked place exists, has a pair, and its hash has this top
  pub record IsLinkedPlace (x : ℕ) : Type 0 where
    pub exists : x < length links
    pub top_is : top_of shift (length heads) (link_at links x).hash ≡ top
    pub present : (link_at links x).next ≢ no_pair

  each_linked : AllByRecursion (λ q. IsLinkedPlace q.place) (with_top shift (length heads) top (listed_pairs links))
  each_linked =
      all_weaker (λ q. IsThere links q × (eqb (top_of shift (length heads) q.hash) top ≡ true)) (λ q. IsLinkedPlace q.place)
      (λ q k. record { exists = k.0.inside; top_is = ap (top_of shift (length heads)) (sym k.0.hash) ∙ eqb-true (top_of shift (length heads) q.hash) top k.1; present = k.0.present }) (with_top shift (length heads) top (listed_pairs links))
      (all_both (IsThere links) (λ q. eqb (top_of shift (length heads) q.hash) top ≡ true) (with_top shift (length heads) top (listed_pairs links)) (part_there heads links shift a top) (all_pass (λ p. eqb (top_of shift (length heads) p.hash) top) (listed_pairs links)))

  pub last_linked : (b : ℕ) → Some b ≡ last_place_or None (linked_from links (head_at heads top)) → IsLinkedPlace b
  last_linked b e = last_member IsLinkedPlace None (with_top shift (length heads) top (listed_pairs links)) b (ap (last_place_or None) (sym (part_is heads links shift a top inside)) ∙ sym e) (λ s. absurd cc) each_linked

  pub before_linked : (x b : ℕ) → Some b ≡ place_before x (linked_from links (head_at heads top)) → IsLinkedPlace b
  before_linked x b e = before_member IsLinkedPlace x b (with_top shift (length heads) top (listed_pairs links)) (ap (place_before x) (sym (part_is heads links shift a top inside)) ∙ sym e) each_linked

  pub after_linked : (x b : ℕ) → Some b ≡ place_before x (linked_from links (head_at heads top)) → IsLinkedPlace x
  after_linked x b e = after_member IsLinkedPlace x b (with_top shift (length heads) top (listed_pairs links)) (ap (place_before x) (sym (part_is heads links shift a top inside)) ∙ sym e) each_linked

  -- links may change at a place of this top
  others_same : (new : List Link) (x : ℕ) → top_of shift (length heads) (link_at links x).hash ≡ top → length links ≤ length new → ((y : ℕ) → y < length links → y ≢ x → link_at new y ≡ link_at links y)
      → (s : ℕ) → s < length heads → s ≢ top → LinksPairs new (head_at heads s) (with_top shift (length heads) s (listed_pairs links))
  others_same new x t more same s i n =
      leads_same links new (head_at heads s) (with_top shift (length heads) s (listed_pairs links)) (a.parts s i) more
      (all_weaker (λ q. IsThere links q × (q.place ≢ x)) (λ q. link_at new q.place ≡ link_at links q.place) (λ q k. same q.place k.0.inside k.1) (with_top shift (length heads) s (listed_pairs links))
      (all_both (IsThere links) (λ q. q.place ≢ x) (with_top shift (length heads) s (listed_pairs links)) (part_there heads links shift a s) (not_in x t s n)))

  -- one more pair at the end
  module _ (hash : ℕ) (t : top_of shift (length heads) hash ≡ top) (few : length links < no_pair) where
    abbrev p : Pair
    p = record { hash = hash; place = length links }

    abbrev more_links : List Link
    more_links = links ++ (record { hash = hash; next = no_place }) ∷ []

    longer : length more_links ≡ length links + 1
    longer = length-append links ((record { hash = hash; next = no_place }) ∷ [])

    pushed : listed_pairs more_links ≡ listed_pairs links ++ p ∷ []
    pushed = pairs_push 0 links (record { hash = hash; next = no_place }) (λ e. omega (arith, e)) ∙ ap (λ n. listed_pairs links ++ (record { hash = hash; place = n }) ∷ []) (let z : 0 + length links ≡ length links = omega arith in z)

    part_top : with_top shift (length heads) top (listed_pairs links ++ p ∷ []) ≡ with_top shift (length heads) top (listed_pairs links) ++ p ∷ []
    part_top = filter_two (λ q. eqb (top_of shift (length heads) q.hash) top) (listed_pairs links) (p ∷ []) ∙ ap (λ ps. with_top shift (length heads) top (listed_pairs links) ++ ps) (top_here shift (length heads) top p [] t)

    part_other : (s : ℕ) → s ≢ top → with_top shift (length heads) s (listed_pairs links ++ p ∷ []) ≡ with_top shift (length heads) s (listed_pairs links)
    part_other s n =
        filter_two (λ q. eqb (top_of shift (length heads) q.hash) s) (listed_pairs links) (p ∷ []) ∙ ap (λ ps. with_top shift (length heads) s (listed_pairs links) ++ ps) (top_other shift (length heads) s p [] (λ e. n (sym e ∙ t))) ∙ append-nil (with_top shift (length heads) s (listed_pairs links))

    pub has_pushed : (now : List ℕ) (new : List Link) → length now ≡ length heads → length new ≡ length links + 1 → listed_pairs new ≡ listed_pairs links ++ p ∷ []
        → LinksPairs new (head_at now top) (with_top shift (length heads) top (listed_pairs links) ++ p ∷ []) → ((s : ℕ) → s < length heads → s ≢ top → LinksPairs new (head_at now s) (with_top shift (length heads) s (listed_pairs links)))
        → LinksListPairs now new shift (listed_pairs links ++ p ∷ [])
    has_pushed now new counts count is here others = record {
      linked = record {
        few = omega (arith, count, few);
        parts = λ s i. subst (λ n. LinksPairs new (head_at now s) (with_top shift n s (listed_pairs new))) (sym counts) (subst (λ ps. LinksPairs new (head_at now s) (with_top shift (length heads) s ps)) (sym is) (go s (omega (arith, i, counts)) (eqb s top) refl));
      };
      is = is;
    }
      where
        go : (s : ℕ) → s < length heads → (b : Bool) → eqb s top ≡ b → LinksPairs new (head_at now s) (with_top shift (length heads) s (listed_pairs links ++ p ∷ []))
        go s i true e = subst (λ x. LinksPairs new (head_at now x) (with_top shift (length heads) x (listed_pairs links ++ p ∷ []))) (sym (eqb-true s top e)) (subst (LinksPairs new (head_at now top)) (sym part_top) here)
        go s i false e = let n = eqb-false s top e in subst (LinksPairs new (head_at now s)) (sym (part_other s n)) (others s i n)

    end_link : (new : List Link) → link_at new (length links) ≡ record { hash = hash; next = no_place } → length new ≡ length links + 1 → LinksPairs new (length links) (p ∷ [])
    end_link new e count = (record { inside = omega (arith, count); is = ap (λ (k : Link). record { hash = k.hash; place = length links }) (sym e) }, ap (λ (k : Link). k.next) e)

    pub put_first : (now : List ℕ) (new : List Link) → None ≡ last_place_or None (linked_from links (head_at heads top)) → new ≡ more_links → now ≡ slice_set heads top (length links) → LinksListPairs now new shift (listed_pairs links ++ p ∷ [])
    put_first now new e n m =
        let none : with_top shift (length heads) top (listed_pairs links) ≡ [] = none_last (with_top shift (length heads) top (listed_pairs links)) (ap (last_place_or None) (sym (part_is heads links shift a top inside)) ∙ sym e) in
        let count : length new ≡ length links + 1 = ap length n ∙ longer in
        let last : link_at new (length links) ≡ record { hash = hash; next = no_place } = ap (λ xs. link_at xs (length links)) n ∙ get_or_push links (record { hash = hash; next = no_place }) (record { hash = 0; next = 0 }) (length links) refl in
        has_pushed now new (ap length m ∙ length-set heads top (length links)) count (ap listed_pairs n ∙ pushed)
        (subst (λ ps. LinksPairs new (head_at now top) (ps ++ p ∷ [])) (sym none) (subst (λ y. LinksPairs new y (p ∷ [])) (sym (ap (λ xs. head_at xs top) m ∙ get_or-set_same heads top (length links) 0 inside)) (end_link new last count)))
        (λ s i d. subst (λ y. LinksPairs new y (with_top shift (length heads) s (listed_pairs links))) (sym (ap (λ xs. head_at xs s) m ∙ get_or-set_other heads top s (length links) 0 d))
        (leads_same links new (head_at heads s) (with_top shift (length heads) s (listed_pairs links)) (a.parts s i) (omega (arith, count))
        (all_weaker (IsThere links) (λ q. link_at new q.place ≡ link_at links q.place) (λ q k. ap (λ xs. link_at xs q.place) n ∙ get_or_append_left links ((record { hash = hash; next = no_place }) ∷ []) (record { hash = 0; next = 0 }) q.place k.inside) (with_top shift (length heads) s (listed_pairs links)) (part_there heads links shift a s))))

    pub put_last : (new : List Link) (b : ℕ) → Some b ≡ last_place_or None (linked_from links (head_at heads top)) → new ≡ slice_set more_links b (record { hash = (link_at links b).hash; next = length links }) → LinksListPairs heads new shift (listed_pairs links ++ p ∷ [])
    put_last new b e n =
        has_pushed heads new refl count
        (ap listed_pairs n ∙ ap (λ h. listed_pairs (slice_set more_links b (record { hash = h; next = length links }))) (sym (ap (λ (k : Link). k.hash) (was b there.exists)))
        ∙ pairs_relinked 0 more_links b (length links) (omega (arith, there.exists, longer)) (λ g. there.present (ap (λ (k : Link). k.next) (sym (was b there.exists)) ∙ g)) (λ g. omega (arith, few, g)) ∙ pushed)
        (leads_further links new (head_at heads top) b (length links) (with_top shift (length heads) top (listed_pairs links)) (p ∷ []) (a.parts top inside) (part_order heads links shift a top) (ap (last_place_or None) (sym (part_is heads links shift a top inside)) ∙ sym e)
        (omega (arith, count)) (part_there heads links shift a top) same (ap (λ xs. link_at xs b) n ∙ get_or-set_same more_links b (record { hash = (link_at links b).hash; next = length links }) (record { hash = 0; next = 0 }) (omega (arith, there.exists, longer)))
        (end_link new end count))
        (others_same new b there.top_is (omega (arith, count)) same)
      where
        there : IsLinkedPlace b
        there = last_linked b e

        count : length new ≡ length links + 1
        count = ap length n ∙ length-set more_links b (record { hash = (link_at links b).hash; next = length links }) ∙ longer

        was : (x : ℕ) → x < length links → link_at more_links x ≡ link_at links x
        was x l = get_or_append_left links ((record { hash = hash; next = no_place }) ∷ []) (record { hash = 0; next = 0 }) x l

        same : (x : ℕ) → x < length links → x ≢ b → link_at new x ≡ link_at links x
        same x l d = ap (λ xs. link_at xs x) n ∙ get_or-set_other more_links b x (record { hash = (link_at links b).hash; next = length links }) (record { hash = 0; next = 0 }) d ∙ was x l

        end : link_at new (length links) ≡ record { hash = hash; next = no_place }
        end = ap (λ xs. link_at xs (length links)) n ∙ get_or-set_other more_links b (length links) (record { hash = (link_at links b).hash; next = length links }) (record { hash = 0; next = 0 }) (λ s. let i : b < length links = there.exists in omega (arith, s, i))
            ∙ get_or_push links (record { hash = hash; next = no_place }) (record { hash = 0; next = 0 }) (length links) refl

  -- the pair at a place is removed
  module _ (x : ℕ) (i : x < length links) (t : top_of shift (length heads) (link_at links x).hash ≡ top) where
    abbrev removed : Link
    removed = record { hash = (link_at links x).hash; next = no_pair }

    part_less : (s : ℕ) → with_top shift (length heads) s (without_pair x (listed_pairs links)) ≡ without_pair x (with_top shift (length heads) s (listed_pairs links))
    part_less s = filter_swap (λ q. eqb (top_of shift (length heads) q.hash) s) (λ q. not (eqb q.place x)) (listed_pairs links)

    has_removed : (now : List ℕ) (new : List Link) → length now ≡ length heads → length new ≡ length links → listed_pairs new ≡ without_pair x (listed_pairs links)
        → LinksPairs new (head_at now top) (without_pair x (with_top shift (length heads) top (listed_pairs links))) → ((s : ℕ) → s < length heads → s ≢ top → LinksPairs new (head_at now s) (with_top shift (length heads) s (listed_pairs links)))
        → LinksListPairs now new shift (without_pair x (listed_pairs links))
    has_removed now new counts count is here others = record {
      linked = record {
        few = omega (arith, count, a.few);
        parts = λ s j. subst (λ n. LinksPairs new (head_at now s) (with_top shift n s (listed_pairs new))) (sym counts) (subst (λ ps. LinksPairs new (head_at now s) (with_top shift (length heads) s ps)) (sym is) (subst (LinksPairs new (head_at now s)) (sym (part_less s)) (go s (omega (arith, j, counts)) (eqb s top) refl)));
      };
      is = is;
    }
      where
        go : (s : ℕ) → s < length heads → (b : Bool) → eqb s top ≡ b → LinksPairs new (head_at now s) (without_pair x (with_top shift (length heads) s (listed_pairs links)))
        go s j true e = subst (λ y. LinksPairs new (head_at now y) (without_pair x (with_top shift (length heads) y (listed_pairs links)))) (sym (eqb-true s top e)) here
        go s j false e = let n = eqb-false s top e in subst (LinksPairs new (head_at now s)) (sym (without_none x (with_top shift (length heads) s (listed_pairs links)) (not_in x t s n))) (others s j n)

    -- the links of the other pairs are unchanged when the link at the place is removed
    apart_same : (old : List Link) (at : ℕ) (ps : List Pair) → LinksPairs old at (without_pair x ps) → LinksPairs (slice_set old x removed) at (without_pair x ps)
    apart_same old at ps h =
        leads_same old (slice_set old x removed) at (without_pair x ps) h (omega (arith, length-set old x removed))
        (all_weaker (λ q. q.place ≢ x) (λ q. link_at (slice_set old x removed) q.place ≡ link_at old q.place) (λ q n. get_or-set_other old x q.place removed (record { hash = 0; next = 0 }) n) (without_pair x ps) (without_apart x ps))

    less : (old : List Link) → length old ≡ length links → listed_pairs (slice_set old x removed) ≡ without_pair x (listed_pairs old)
    less old count = pairs_removed 0 old x (link_at links x).hash (omega (arith, count, i)) ∙ ap (λ y. without_pair y (listed_pairs old)) (let z : 0 + x ≡ x = omega arith in z)

    pub take_first : (now : List ℕ) (new : List Link) → head_at heads top ≡ x → now ≡ slice_set heads top (link_at links x).next → new ≡ slice_set links x removed → LinksListPairs now new shift (without_pair x (listed_pairs links))
    take_first now new h m n =
        has_removed now new (ap length m ∙ length-set heads top (link_at links x).next) (ap length n ∙ length-set links x removed) (ap listed_pairs n ∙ less links refl)
        (subst (λ y. LinksPairs new y (without_pair x (with_top shift (length heads) top (listed_pairs links)))) (sym (ap (λ xs. head_at xs top) m ∙ get_or-set_same heads top (link_at links x).next 0 inside))
        (subst (λ ls. LinksPairs ls (link_at links x).next (without_pair x (with_top shift (length heads) top (listed_pairs links)))) (sym n)
        (apart_same links (link_at links x).next (with_top shift (length heads) top (listed_pairs links))
        (unlinked_first links x (with_top shift (length heads) top (listed_pairs links)) a.few i (subst (λ y. LinksPairs links y (with_top shift (length heads) top (listed_pairs links))) h (a.parts top inside)) (part_order heads links shift a top)))))
        (λ s j d. subst (λ y. LinksPairs new y (with_top shift (length heads) s (listed_pairs links))) (sym (ap (λ xs. head_at xs s) m ∙ get_or-set_other heads top s (link_at links x).next 0 d))
        (others_same new x t (omega (arith, ap length n, length-set links x removed)) (λ y l e. ap (λ xs. link_at xs y) n ∙ get_or-set_other links x y removed (record { hash = 0; next = 0 }) e) s j d))

    pub take_after : (new : List Link) (b : ℕ) → Some b ≡ place_before x (linked_from links (head_at heads top)) → new ≡ slice_set (slice_set links b (record { hash = (link_at links b).hash; next = (link_at links x).next })) x removed → LinksListPairs heads new shift (without_pair x (listed_pairs links))
    take_after new b e n =
        has_removed heads new refl (ap length n ∙ length-set mid x removed ∙ count)
        (ap listed_pairs n ∙ less mid count ∙ ap (without_pair x) (pairs_relinked 0 links b (link_at links x).next there.exists there.present (after_linked x b e).present))
        (subst (λ ls. LinksPairs ls (head_at heads top) (without_pair x (with_top shift (length heads) top (listed_pairs links)))) (sym n)
        (apart_same mid (head_at heads top) (with_top shift (length heads) top (listed_pairs links))
        (unlinked links mid (head_at heads top) x b (with_top shift (length heads) top (listed_pairs links)) (a.parts top inside) (part_order heads links shift a top) (ap (place_before x) (sym (part_is heads links shift a top inside)) ∙ sym e) relinked)))
        (λ s j d. subst (LinksPairs new (head_at heads s)) (without_none x (with_top shift (length heads) s (listed_pairs links)) (not_in x t s d))
        (subst (λ ls. LinksPairs ls (head_at heads s) (without_pair x (with_top shift (length heads) s (listed_pairs links)))) (sym n)
        (apart_same mid (head_at heads s) (with_top shift (length heads) s (listed_pairs links))
        (subst (LinksPairs mid (head_at heads s)) (sym (without_none x (with_top shift (length heads) s (listed_pairs links)) (not_in x t s d))) (others_same mid b there.top_is (omega (arith, count)) (λ y l f. same y f) s j d)))))
      where
        there : IsLinkedPlace b
        there = before_linked x b e

        mid : List Link
        mid = slice_set links b (record { hash = (link_at links b).hash; next = (link_at links x).next })

        count : length (slice_set links b (record { hash = (link_at links b).hash; next = (link_at links x).next })) ≡ length links
        count = length-set links b (record { hash = (link_at links b).hash; next = (link_at links x).next })

        same : (y : ℕ) → y ≢ b → link_at (slice_set links b (record { hash = (link_at links b).hash; next = (link_at links x).next })) y ≡ link_at links y
        same y d = get_or-set_other links b y (record { hash = (link_at links b).hash; next = (link_at links x).next }) (record { hash = 0; next = 0 }) d

        relinked : IsUnlinked links (slice_set links b (record { hash = (link_at links b).hash; next = (link_at links x).next })) x b
        relinked = record { count = count; same = same; there = get_or-set_same links b (record { hash = (link_at links b).hash; next = (link_at links x).next }) (record { hash = 0; next = 0 }) there.exists }

    -- if no pair of this top is at the place, none is
    none_there : (ps : List Pair) → AllByRecursion (IsThere links) ps → AllByRecursion (λ q. q.place ≢ x) (with_top shift (length heads) top ps) → AllByRecursion (λ q. q.place ≢ x) ps
    none_there [] h k = tt
    none_there (q ∷ qs) h k = go (eqb (top_of shift (length heads) q.hash) top) refl k (none_there qs h.1)
      where
        go : (b : Bool) → eqb (top_of shift (length heads) q.hash) top ≡ b → AllByRecursion (λ r. r.place ≢ x) (cond b (q ∷ with_top shift (length heads) top qs) (with_top shift (length heads) top qs))
            → (AllByRecursion (λ r. r.place ≢ x) (with_top shift (length heads) top qs) → AllByRecursion (λ r. r.place ≢ x) qs) → AllByRecursion (λ r. r.place ≢ x) (q ∷ qs)
        go true e m ih = (m.0, ih m.1)
        go false e m ih = ((λ s. eqb-false (top_of shift (length heads) q.hash) top e (ap (top_of shift (length heads)) (h.0.hash ∙ ap (λ y. (link_at links y).hash) s) ∙ t)), ih m)

    pub take_none : head_at heads top ≢ x → None ≡ place_before x (linked_from links (head_at heads top)) → LinksListPairs heads links shift (without_pair x (listed_pairs links))
    take_none n e = record {
      linked = a;
      is = sym (without_none x (listed_pairs links) (none_there (listed_pairs links) (all_there links)
          (unlinked_none links (head_at heads top) x (with_top shift (length heads) top (listed_pairs links)) (a.parts top inside) n (ap (place_before x) (sym (part_is heads links shift a top inside)) ∙ sym e))));
    }

-- a list whose items were all overwritten has exactly the new items
pub written : {A : Type 0} → (n : ℕ) (xs ys : List A) → length xs ≡ n → take n (xs ++ ys) ≡ xs
written zero [] ys e = refl
written zero (x ∷ xs) ys e = absurd (omega (arith, e))
written (suc n) [] ys e = absurd (omega (arith, e))
written (suc n) (x ∷ xs) ys e = ap (λ zs. x ∷ zs) (written n xs ys (omega (arith, e)))

-- heads and links without pairs
module _ (heads : List ℕ) (links : List Link) (shift : ℕ) (few : length links ≤ no_pair) (none : All (λ h. h ≡ no_place) heads) (empty : All (λ (l : Link). l.next ≡ no_pair) links) where
  pub lists_none : LinksListPairs heads links shift []
  lists_none = let e = pairs_none 0 links (λ i l. empty i (record { hash = 0; next = 0 }) l) in record { linked = linked_none heads links shift 0 few none e; is = e }

  pub kept_none : (0 < length links → 0 < length heads) → 33 ≤ shift → shift < 64 → PairListsInvariant heads links shift
  kept_none some least below = record { linked = lists_none.linked; some = some; few = least; below = below }
