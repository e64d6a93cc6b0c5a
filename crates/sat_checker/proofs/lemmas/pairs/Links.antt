-- What links lead to after some of them change.
use Rattle.std.proofs.Common.{ltb, ◌||◌, ℕ, ◌<◌, ◌≤◌, ◌≡◌, ◌≢◌, Bool, true, false, cond, eqb, List, [], ◌∷◌, ◌++◌, length, filter, map, refl, sym, ◌∙◌, ap, subst, arith, Option, None, Some}
use Rattle.std.proofs.lemmas.Bool.{ne_eqb, eqb-true, eqb-false, true≢false}
use Rattle.std.proofs.lemmas.Bool.Decides.{nat_tests}
use Rattle.std.specs.List.{AllByRecursion}
use Rattle.sat_checker.specs.LiteralSets.{is_among}
use Rattle.sat_checker.specs.inner.PairView.{AreInOrder, without_pair, places_in, places_after}
use Rattle.sat_checker.specs.inner.LinkView.{no_pair, link_at, linked_from, LinksPairs, listed_pairs, top_of, with_top, head_at, LinksEnd, AreLinked, PairListsInvariant, last_place_or, place_before}
use Rattle.sat_checker.specs.declared.store.links.Pair.{Pair}
use Rattle.sat_checker.specs.declared.store.links.Link.{Link}
use Rattle.sat_checker.proofs.lemmas.pairs.Order.{all_weaker, all_filter, order_filter, length_filter, places_top, without_head, without_tail, apart_after}
use Rattle.sat_checker.proofs.lemmas.pairs.Places.{all_there, pairs_order, length_pairs}
use Rattle.sat_checker.proofs.lemmas.pairs.Walks.{IsThere, chain_is}

-- links may change at places where no pair is
pub leads_same : (links new : List Link) (at : ℕ) (ps : List Pair) → LinksPairs links at ps → length links ≤ length new → AllByRecursion (λ p. link_at new p.place ≡ link_at links p.place) ps → LinksPairs new at ps
leads_same links new at [] h l s = h
leads_same links new at (p ∷ ps) h l s = (
  record { inside = let i : at < length links = h.0.inside in omega arith; is = h.0.is ∙ ap (λ (k : Link). record { hash = k.hash; place = at }) (sym here) },
  subst (λ (k : Link). LinksPairs new k.next ps) (sym here) (leads_same links new (link_at links at).next ps h.1 l s.1),
)
  where
    here : link_at new at ≡ link_at links at
    here = let e : p.place ≡ at = ap (λ (q : Pair). q.place) h.0.is in ap (link_at new) (sym e) ∙ s.0 ∙ ap (link_at links) e

-- a place that links lead from is not `no_pair`
pub leads_present : (links : List Link) (at : ℕ) (ps : List Pair) → length links ≤ no_pair → LinksPairs links at ps → at ≢ no_pair
leads_present links at [] few h e = omega (arith, h, e)
leads_present links at (p ∷ ps) few h e = let i : at < length links = h.0.inside in omega (arith, i, e)

-- what holds for all places holds for the last one
pub last_member : (P : ℕ → Type 0) (o : Option ℕ) (u : List Pair) (b : ℕ) → last_place_or o u ≡ Some b → (o ≡ Some b → P b) → AllByRecursion (λ (p : Pair). P p.place) u → P b
last_member P o [] b e h k = h e
last_member P o (p ∷ ps) b e h k = last_member P (Some p.place) ps b e (λ s. let q : p.place ≡ b = cc in subst P q k.0) k.1

-- there is no last place only if there is no pair
pub none_last : (ps : List Pair) → last_place_or None ps ≡ None → ps ≡ []
none_last [] e = refl
none_last (p ∷ ps) e = absurd (some p ps e)
  where
    some : (q : Pair) (qs : List Pair) → last_place_or (Some q.place) qs ≢ None
    some q [] k = absurd cc
    some q (r ∷ rs) k = some r rs k

-- the last pair now leads to another one
pub leads_further : (links new : List Link) (at b to : ℕ) (ps qs : List Pair) → LinksPairs links at ps → AreInOrder ps → last_place_or None ps ≡ Some b → length links ≤ length new → AllByRecursion (IsThere links) ps
    → ((x : ℕ) → x < length links → x ≢ b → link_at new x ≡ link_at links x) → link_at new b ≡ record { hash = (link_at links b).hash; next = to } → LinksPairs new to qs → LinksPairs new at (ps ++ qs)
leads_further links new at b to [] qs l o e more there same set further = absurd cc
leads_further links new at b to (p ∷ []) qs l o e more there same set further =
    let is : b ≡ at = (let s : p.place ≡ b = cc in sym s) ∙ ap (λ (q : Pair). q.place) l.0.is in
    let here : link_at new at ≡ record { hash = (link_at links at).hash; next = to } = ap (link_at new) (sym is) ∙ set ∙ ap (λ x. record { hash = (link_at links x).hash; next = to }) is in (
      record { inside = let i : at < length links = l.0.inside in omega (arith, i, more); is = l.0.is ∙ ap (λ (k : Link). record { hash = k.hash; place = at }) (sym here) },
      subst (λ (k : Link). LinksPairs new k.next qs) (sym here) further,
    )
leads_further links new at b to (p ∷ r ∷ rs) qs l o e more there same set further =
    let place : p.place ≡ at = ap (λ (q : Pair). q.place) l.0.is in
    let other : b ≢ p.place = last_member (λ x. x ≢ p.place) None (r ∷ rs) b e (λ s. absurd cc) (apart_after p (r ∷ rs) o) in
    let here : link_at new at ≡ link_at links at = same at l.0.inside (λ s. other (sym s ∙ sym place)) in (
      record { inside = let i : at < length links = l.0.inside in omega (arith, i, more); is = l.0.is ∙ ap (λ (k : Link). record { hash = k.hash; place = at }) (sym here) },
      subst (λ (k : Link). LinksPairs new k.next ((r ∷ rs) ++ qs)) (sym here) (leads_further links new (link_at links at).next b to (r ∷ rs) qs l.1 o.1 e more there.1 same set further),
    )

-- what holds for all places holds for the place before another one
pub before_member : (P : ℕ → Type 0) (x b : ℕ) (ps : List Pair) → place_before x ps ≡ Some b → AllByRecursion (λ (p : Pair). P p.place) ps → P b
before_member P x b [] e h = absurd cc
before_member P x b (p ∷ []) e h = absurd cc
before_member P x b (p ∷ q ∷ qs) e h = go (eqb q.place x) e (λ k. before_member P x b (q ∷ qs) k h.1)
  where
    go : (d : Bool) → cond d (Some p.place) (place_before x (q ∷ qs)) ≡ Some b → (place_before x (q ∷ qs) ≡ Some b → P b) → P b
    go true k ih = let s : p.place ≡ b = cc in subst P s h.0
    go false k ih = ih k

-- what holds for all places holds for one after another
pub after_member : (P : ℕ → Type 0) (x b : ℕ) (ps : List Pair) → place_before x ps ≡ Some b → AllByRecursion (λ (p : Pair). P p.place) ps → P x
after_member P x b [] e h = absurd cc
after_member P x b (p ∷ []) e h = absurd cc
after_member P x b (p ∷ q ∷ qs) e h = go (eqb q.place x) refl e (λ k. after_member P x b (q ∷ qs) k h.1)
  where
    go : (d : Bool) → eqb q.place x ≡ d → cond d (Some p.place) (place_before x (q ∷ qs)) ≡ Some b → (place_before x (q ∷ qs) ≡ Some b → P x) → P x
    go true d k ih = subst P (eqb-true q.place x d) h.1.0
    go false d k ih = ih k

before_none : (x : ℕ) (p : Pair) (ps : List Pair) → AllByRecursion (λ q. q.place ≢ x) ps → place_before x (p ∷ ps) ≡ None
before_none x p [] h = refl
before_none x p (q ∷ qs) h = ap (λ b. cond b (Some p.place) (place_before x (q ∷ qs))) (ne_eqb q.place x h.0) ∙ before_none x q qs h.1

-- if no pair is before a place, only the first pair can be at it
pub never_before : (x : ℕ) (p : Pair) (ps : List Pair) → place_before x (p ∷ ps) ≡ None → AllByRecursion (λ q. q.place ≢ x) ps
never_before x p [] e = tt
never_before x p (q ∷ qs) e = go (eqb q.place x) refl e (λ k. never_before x q qs k)
  where
    go : (d : Bool) → eqb q.place x ≡ d → cond d (Some p.place) (place_before x (q ∷ qs)) ≡ None → (place_before x (q ∷ qs) ≡ None → AllByRecursion (λ r. r.place ≢ x) qs) → AllByRecursion (λ r. r.place ≢ x) (q ∷ qs)
    go true d k ih = absurd cc
    go false d k ih = (eqb-false q.place x d, ih k)

-- the place `before` now links to the place after the removed one
pub record IsUnlinked (links new : List Link) (place before : ℕ) : Type 0 where
  pub count : length new ≡ length links
  pub same : (x : ℕ) → x ≢ before → link_at new x ≡ link_at links x
  pub there : link_at new before ≡ record { hash = (link_at links before).hash; next = (link_at links place).next }

pub unlinked : (links new : List Link) (at x b : ℕ) (ps : List Pair) → LinksPairs links at ps → AreInOrder ps → place_before x ps ≡ Some b → IsUnlinked links new x b → LinksPairs new at (without_pair x ps)
unlinked links new at x b [] l o e r = absurd cc
unlinked links new at x b (p ∷ []) l o e r = absurd cc
unlinked links new at x b (p ∷ q ∷ qs) l o e r = go (eqb q.place x) refl e (λ k. unlinked links new (link_at links at).next x b (q ∷ qs) l.1 o.1 k r)
  where
    place : p.place ≡ at
    place = ap (λ (y : Pair). y.place) l.0.is

    apart : AllByRecursion (λ y. y.place ≢ p.place) (q ∷ qs)
    apart = apart_after p (q ∷ qs) o

    apart_next : AllByRecursion (λ y. y.place ≢ q.place) qs
    apart_next = apart_after q qs o.1

    more : length links ≤ length new
    more = let k : length new ≡ length links = r.count in omega arith

    inside : at < length new
    inside = let i : at < length links = l.0.inside in let k : length new ≡ length links = r.count in omega arith

    go : (d : Bool) → eqb q.place x ≡ d → cond d (Some p.place) (place_before x (q ∷ qs)) ≡ Some b → (place_before x (q ∷ qs) ≡ Some b → LinksPairs new (link_at links at).next (without_pair x (q ∷ qs))) → LinksPairs new at (without_pair x (p ∷ q ∷ qs))
    go true d k ih =
        let is : b ≡ at = let s : p.place ≡ b = cc in sym s ∙ place in
        let qx : q.place ≡ x = eqb-true q.place x d in
        let px : p.place ≢ x = λ s. apart.0 (qx ∙ sym s) in
        let next : (link_at links at).next ≡ x = sym (ap (λ (y : Pair). y.place) l.1.0.is) ∙ qx in
        let left : without_pair x (q ∷ qs) ≡ qs = without_head x q qs qx (subst (λ y. AllByRecursion (λ z. z.place ≢ y) qs) qx apart_next) in
        let here : link_at new at ≡ record { hash = (link_at links at).hash; next = (link_at links x).next } = ap (link_at new) (sym is) ∙ r.there ∙ ap (λ y. record { hash = (link_at links y).hash; next = (link_at links x).next }) is in
        let tail : LinksPairs new (link_at links x).next qs = leads_same links new (link_at links x).next qs (subst (λ y. LinksPairs links (link_at links y).next qs) next l.1.1) more
        (all_weaker (λ y. y.place ≢ p.place) (λ y. link_at new y.place ≡ link_at links y.place) (λ y n. r.same y.place (λ s. n (s ∙ is ∙ sym place))) qs apart.1) in
        subst (LinksPairs new at) (sym (without_tail x p (q ∷ qs) px ∙ ap (λ ys. p ∷ ys) left))
        (record { inside = inside; is = l.0.is ∙ ap (λ (y : Link). record { hash = y.hash; place = at }) (sym here) }, subst (λ (y : Link). LinksPairs new y.next qs) (sym here) tail)
    go false d k ih =
        let other : b ≢ p.place = before_member (λ y. y ≢ p.place) x b (q ∷ qs) k apart in
        let here : link_at new at ≡ link_at links at = r.same at (λ s. other (sym s ∙ sym place)) in
        let px : p.place ≢ x = λ s. let n : place_before x (p ∷ q ∷ qs) ≡ None = before_none x p (q ∷ qs) (subst (λ y. AllByRecursion (λ z. z.place ≢ y) (q ∷ qs)) s apart) in absurd cc in
        subst (LinksPairs new at) (sym (without_tail x p (q ∷ qs) px))
        (record { inside = inside; is = l.0.is ∙ ap (λ (y : Link). record { hash = y.hash; place = at }) (sym here) }, subst (λ (y : Link). LinksPairs new y.next (without_pair x (q ∷ qs))) (sym here) (ih k))

-- the first pair is removed
pub unlinked_first : (links : List Link) (x : ℕ) (ps : List Pair) → length links ≤ no_pair → x < length links → LinksPairs links x ps → AreInOrder ps → LinksPairs links (link_at links x).next (without_pair x ps)
unlinked_first links x [] f i l o = absurd (omega (arith, l))
unlinked_first links x (p ∷ ps) f i l o =
    let place : p.place ≡ x = ap (λ (y : Pair). y.place) l.0.is in
    subst (LinksPairs links (link_at links x).next) (sym (without_head x p ps place (subst (λ y. AllByRecursion (λ z. z.place ≢ y) ps) place (apart_after p ps o)))) l.1

-- no pair is at the place
pub unlinked_none : (links : List Link) (at x : ℕ) (ps : List Pair) → LinksPairs links at ps → at ≢ x → place_before x ps ≡ None → AllByRecursion (λ q. q.place ≢ x) ps
unlinked_none links at x [] l n e = tt
unlinked_none links at x (p ∷ ps) l n e = ((λ s. n (sym (ap (λ (y : Pair). y.place) l.0.is) ∙ s)), never_before x p ps e)

later_places : (h : ℕ) (p : Pair) (ts : List Pair) → AllByRecursion (λ q. p.place < q.place) ts → AllByRecursion (λ y. p.place < y) (places_in h ts)
later_places h p [] b = tt
later_places h p (t ∷ ts) b = pick (eqb t.hash h) (later_places h p ts b.1)
  where
    pick : (d : Bool) → AllByRecursion (λ y. p.place < y) (places_in h ts) → AllByRecursion (λ y. p.place < y) (map (λ (q : Pair). q.place) (cond d (t ∷ filter (λ q. eqb q.hash h) ts) (filter (λ q. eqb q.hash h) ts)))
    pick true ih = (b.0, ih)
    pick false ih = ih

after_whole : (y : ℕ) (ys : List ℕ) → AllByRecursion (λ z. y < z) ys → places_after y ys ≡ ys
after_whole y [] k = refl
after_whole y (z ∷ zs) k = ap (λ b. cond b (z ∷ places_after y zs) (places_after y zs)) (less y z k.0) ∙ ap (λ qs. z ∷ qs) (after_whole y zs k.1)
  where
    less : (a b : ℕ) → a < b → ltb a b ≡ true
    less a b j = grind (arith, nat_tests)

member_above : (x y : ℕ) (ys : List ℕ) → AllByRecursion (λ z. y < z) ys → is_among ys x ≡ true → y < x
member_above x y [] k e = absurd (true≢false (sym e))
member_above x y (z ∷ zs) k e = pick (eqb z x) refl e (λ k'. member_above x y zs k.1 k')
  where
    pick : (d : Bool) → eqb z x ≡ d → (d || is_among zs x) ≡ true → (is_among zs x ≡ true → y < x) → y < x
    pick true d e' ih = subst (λ w. y < w) (eqb-true z x d) k.0
    pick false d e' ih = ih e'

-- the links after a place list the later places of its hash
walk_after : (links : List Link) (at h x : ℕ) (ps : List Pair) → length links ≤ no_pair → length ps ≤ length links → LinksPairs links at ps → AreInOrder ps → is_among (places_in h ps) x ≡ true
    → LinksEnd links (link_at links x).next × (places_after x (places_in h ps) ≡ places_in h (linked_from links (link_at links x).next))
walk_after links at h x [] f s l o m = absurd (true≢false (sym m))
walk_after links at h x (p ∷ ps) f s l o m = go (eqb p.hash h) refl m (λ k. walk_after links (link_at links at).next h x ps f (omega arith) l.1 o.1 k)
  where
    place : p.place ≡ at
    place = ap (λ (q : Pair). q.place) l.0.is

    then : linked_from links (link_at links at).next ≡ ps
    then = chain_is links f (length links) (link_at links at).next ps l.1 (omega arith)

    not_less : (a b : ℕ) → b ≤ a → ltb a b ≡ false
    not_less a b j = grind (arith, nat_tests)

    skip : (y : ℕ) (ys : List ℕ) → y ≤ x → places_after x (y ∷ ys) ≡ places_after x ys
    skip y ys j = ap (λ b. cond b (y ∷ places_after x ys) (places_after x ys)) (not_less x y j)

    go : (d : Bool) → eqb p.hash h ≡ d → is_among (map (λ (q : Pair). q.place) (cond d (p ∷ filter (λ q. eqb q.hash h) ps) (filter (λ q. eqb q.hash h) ps))) x ≡ true
        → (is_among (places_in h ps) x ≡ true → LinksEnd links (link_at links x).next × (places_after x (places_in h ps) ≡ places_in h (linked_from links (link_at links x).next)))
        → LinksEnd links (link_at links x).next × (places_after x (map (λ (q : Pair). q.place) (cond d (p ∷ filter (λ q. eqb q.hash h) ps) (filter (λ q. eqb q.hash h) ps))) ≡ places_in h (linked_from links (link_at links x).next))
    go false d k ih = ih k
    go true d k ih = here (eqb p.place x) refl k
      where
        here : (b : Bool) → eqb p.place x ≡ b → (b || is_among (places_in h ps) x) ≡ true → LinksEnd links (link_at links x).next × (places_after x (p.place ∷ places_in h ps) ≡ places_in h (linked_from links (link_at links x).next))
        here true b k' =
            let is : at ≡ x = sym place ∙ eqb-true p.place x b in
            let px : p.place ≡ x = eqb-true p.place x b in (
              subst (λ y. LinksEnd links (link_at links y).next) is (record { few = f; leads = subst (LinksPairs links (link_at links at).next) (sym then) l.1 }),
              skip p.place (places_in h ps) (omega (arith, px)) ∙ ap (λ y. places_after y (places_in h ps)) (sym px) ∙ after_whole p.place (places_in h ps) (later_places h p ps o.0) ∙ ap (places_in h) (sym then) ∙ ap (λ y. places_in h (linked_from links (link_at links y).next)) is,
            )
        here false b k' =
            let r = ih k' in
            let less : p.place < x = member_above x p.place (places_in h ps) (later_places h p ps o.0) k' in
            (r.0, skip p.place (places_in h ps) (omega arith) ∙ r.1)

place_inside : (links : List Link) (h x : ℕ) (ps : List Pair) → AllByRecursion (IsThere links) ps → is_among (places_in h ps) x ≡ true → x < length links
place_inside links h x [] t e = absurd (true≢false (sym e))
place_inside links h x (p ∷ ps) t e = go (eqb p.hash h) e (λ k. place_inside links h x ps t.1 k)
  where
    here : (d : Bool) → eqb p.place x ≡ d → (d || is_among (places_in h ps) x) ≡ true → (is_among (places_in h ps) x ≡ true → x < length links) → x < length links
    here true d k ih = subst (λ y. y < length links) (eqb-true p.place x d) (t.0).inside
    here false d k ih = ih k

    go : (d : Bool) → is_among (map (λ (q : Pair). q.place) (cond d (p ∷ filter (λ q. eqb q.hash h) ps) (filter (λ q. eqb q.hash h) ps))) x ≡ true → (is_among (places_in h ps) x ≡ true → x < length links) → x < length links
    go true k ih = here (eqb p.place x) refl k ih
    go false k ih = ih k

module _ (heads : List ℕ) (links : List Link) (shift : ℕ) (a : AreLinked heads links shift) where
  pub part_order : (top : ℕ) → AreInOrder (with_top shift (length heads) top (listed_pairs links))
  part_order top = order_filter (λ p. eqb (top_of shift (length heads) p.hash) top) (listed_pairs links) (pairs_order 0 links)

  pub part_there : (top : ℕ) → AllByRecursion (IsThere links) (with_top shift (length heads) top (listed_pairs links))
  part_there top = all_filter (IsThere links) (λ p. eqb (top_of shift (length heads) p.hash) top) (listed_pairs links) (all_there links)

  part_short : (top : ℕ) → length (with_top shift (length heads) top (listed_pairs links)) ≤ length links
  part_short top = let b : length (with_top shift (length heads) top (listed_pairs links)) ≤ length (listed_pairs links) = length_filter (λ p. eqb (top_of shift (length heads) p.hash) top) (listed_pairs links) in let d : length (listed_pairs links) ≤ length links = length_pairs 0 links in omega (arith, b, d)

  -- the list of a head
  pub part_is : (top : ℕ) → top < length heads → linked_from links (head_at heads top) ≡ with_top shift (length heads) top (listed_pairs links)
  part_is top l = chain_is links a.few (length links) (head_at heads top) (with_top shift (length heads) top (listed_pairs links)) (a.parts top l) (part_short top)

  pub part_walk : (top : ℕ) → top < length heads → LinksEnd links (head_at heads top)
  part_walk top l = record { few = a.few; leads = subst (LinksPairs links (head_at heads top)) (sym (part_is top l)) (a.parts top l) }

  module _ (h : ℕ) where
    -- the places of a hash are in the list of its top
    pub places_part : (top : ℕ) → top < length heads → top_of shift (length heads) h ≡ top → places_in h (listed_pairs links) ≡ places_in h (linked_from links (head_at heads top))
    places_part top l t = places_top shift (length heads) h (listed_pairs links) ∙ ap (λ s. places_in h (with_top shift (length heads) s (listed_pairs links))) t ∙ ap (places_in h) (sym (part_is top l))

    -- the place exists, and the links after it list the later places of its hash
    next_of : 0 < length heads → (x : ℕ) → is_among (places_in h (listed_pairs links)) x ≡ true → (x < length links) × LinksEnd links (link_at links x).next × (places_after x (places_in h (listed_pairs links)) ≡ places_in h (linked_from links (link_at links x).next))
    next_of some x m =
        let top = top_of shift (length heads) h in
        let l : top_of shift (length heads) h < length heads = omega (arith, some) in
        let same = places_top shift (length heads) h (listed_pairs links) in
        let w = walk_after links (head_at heads top) h x (with_top shift (length heads) (top_of shift (length heads) h) (listed_pairs links)) a.few (part_short top) (a.parts top l) (part_order top) (ap (λ ps. is_among ps x) (sym same) ∙ m) in
        (place_inside links h x (listed_pairs links) (all_there links) m, w.0, ap (places_after x) same ∙ w.1)

-- the same, by the invariant of heads and links
pub next_kept : (heads : List ℕ) (links : List Link) (shift : ℕ) → PairListsInvariant heads links shift → (h x : ℕ) → is_among (places_in h (listed_pairs links)) x ≡ true
    → (x < length links) × LinksEnd links (link_at links x).next × (places_after x (places_in h (listed_pairs links)) ≡ places_in h (linked_from links (link_at links x).next))
next_kept heads links shift k h x m =
    let l : x < length links = place_inside links h x (listed_pairs links) (all_there links) m in
    next_of heads links shift k.linked h (k.some (omega (arith, l))) x m
