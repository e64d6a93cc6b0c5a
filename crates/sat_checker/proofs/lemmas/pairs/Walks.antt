-- Walks over pairs linked by their places.
use Rattle.std.proofs.Common.{ℕ, zero, suc, ◌<◌, ◌≤◌, ◌≡◌, ◌≢◌, Bool, true, false, cond, eqb, List, [], ◌∷◌, length, filter, map, refl, sym, ◌∙◌, ap, subst, arith, Option, Some, inl, inr}
use Rattle.std.proofs.lemmas.Bool.{eq-eqb, ne_eqb, eqb-true, or_cases, true≢false}
use Rattle.std.specs.List.{AllByRecursion}
use Rattle.sat_checker.specs.LiteralSets.{is_among}
use Rattle.sat_checker.specs.inner.PairView.{places_in, first_of}
use Rattle.sat_checker.specs.inner.LinkView.{no_place, no_pair, link_at, pair_at, linked_pairs, linked_from, LinksPairs, LinksEnd, last_place_or, place_before}
use Rattle.sat_checker.specs.declared.store.links.Pair.{Pair}
use Rattle.sat_checker.specs.declared.store.links.Link.{Link}

-- the link at the pair's place has the pair's hash, and is that of a pair
pub record IsThere (links : List Link) (p : Pair) : Type 0 where
  pub inside : p.place < length links
  pub hash : p.hash ≡ (link_at links p.place).hash
  pub present : (link_at links p.place).next ≢ no_pair

pub hash_of_pair : (links : List Link) (ps : List Pair) (place h : ℕ) → AllByRecursion (IsThere links) ps → is_among (places_in h ps) place ≡ true → (link_at links place).hash ≡ h
hash_of_pair links [] place h t m = absurd (true≢false (sym m))
hash_of_pair links (p ∷ ps) place h t m = go (eqb p.hash h) refl m (hash_of_pair links ps place h t.1)
  where
    here : p.hash ≡ h → p.place ≡ place → (link_at links place).hash ≡ h
    here e s = ap (λ x. (link_at links x).hash) (sym s) ∙ sym t.0.hash ∙ e

    go : (b : Bool) → eqb p.hash h ≡ b → is_among (map (λ (q : Pair). q.place) (cond b (p ∷ filter (λ q. eqb q.hash h) ps) (filter (λ q. eqb q.hash h) ps))) place ≡ true → (is_among (places_in h ps) place ≡ true → (link_at links place).hash ≡ h) → (link_at links place).hash ≡ h
    go true e m ih = elim (or_cases (eqb p.place place) (is_among (places_in h ps) place) m) [ inl s ↦ here (eqb-true p.hash h e) (eqb-true p.place place s) | inr r ↦ ih r ]
    go false e m ih = ih m

chain_end : (links : List Link) (n at : ℕ) → at ≡ no_place → linked_pairs links n at ≡ []
chain_end links zero at e = refl
chain_end links (suc n) at e = ap (λ b. cond b [] (pair_at links at ∷ linked_pairs links n (link_at links at).next)) (eq-eqb at no_place e)

length_chain : (links : List Link) (n at : ℕ) → length (linked_pairs links n at) ≤ n
length_chain links zero at = omega arith
length_chain links (suc n) at = go (eqb at no_place) (length_chain links n (link_at links at).next)
  where
    go : (b : Bool) → length (linked_pairs links n (link_at links at).next) ≤ n → length (cond b [] (pair_at links at ∷ linked_pairs links n (link_at links at).next)) ≤ suc n
    go true ih = omega arith
    go false ih = omega arith

-- the chain lists exactly the pairs that are linked
pub chain_is : (links : List Link) → length links ≤ no_pair → (n at : ℕ) (ps : List Pair) → LinksPairs links at ps → length ps ≤ n → linked_pairs links n at ≡ ps
chain_is links few n at [] h l = chain_end links n at h
chain_is links few zero at (p ∷ ps) h l = absurd (omega arith)
chain_is links few (suc n) at (p ∷ ps) h l =
    ap (λ b. cond b [] (pair_at links at ∷ linked_pairs links n (link_at links at).next)) (ne_eqb at no_place (λ e. let i : at < length links = h.0.inside in omega arith))
    ∙ ap (λ qs. pair_at links at ∷ qs) (chain_is links few n (link_at links at).next ps h.1 (omega arith)) ∙ ap (λ q. q ∷ ps) (sym h.0.is)

-- one step of a walk: the pair at this place, and the pairs after it
record IsStep (links : List Link) (at : ℕ) : Type 0 where
  inside : at < length links
  head : linked_from links at ≡ pair_at links at ∷ linked_from links (link_at links at).next
  next : LinksEnd links (link_at links at).next
  shorter : length (linked_from links (link_at links at).next) < length (linked_from links at)

step_on : (links : List Link) (at : ℕ) → LinksEnd links at → at ≢ no_place → IsStep links at
step_on links at w n = go (linked_from links at) refl w.leads
  where
    go : (ps : List Pair) → linked_from links at ≡ ps → LinksPairs links at ps → IsStep links at
    go [] e h = absurd (n h)
    go (p ∷ ps) e h =
        let short : length (linked_from links at) ≤ length links = length_chain links (length links) at in
        let count : length (linked_from links at) ≡ suc (length ps) = ap length e in
        let then : linked_from links (link_at links at).next ≡ ps = chain_is links w.few (length links) (link_at links at).next ps h.1 (omega arith) in
        let count' : length (linked_from links (link_at links at).next) ≡ length ps = ap length then in
        record {
          inside = h.0.inside;
          head = e ∙ ap (λ q. q ∷ ps) h.0.is ∙ ap (λ qs. pair_at links at ∷ qs) (sym then);
          next = record { few = w.few; leads = subst (LinksPairs links (link_at links at).next) (sym then) h.1 };
          shorter = omega arith;
        }

module _ (links : List Link) (at : ℕ) (link : Link) (w : LinksEnd links at) (n : at ≢ no_place) (read : link ≡ link_at links at) where
  step : IsStep links at
  step = step_on links at w n

  next_is : (link_at links at).next ≡ link.next
  next_is = ap (λ (l : Link). l.next) (sym read)

  pub walk_next : LinksEnd links link.next
  walk_next = subst (LinksEnd links) next_is step.next

  pub walk_shorter : length (linked_from links link.next) < length (linked_from links at)
  walk_shorter = subst (λ x. length (linked_from links x) < length (linked_from links at)) next_is step.shorter

  after : linked_from links at ≡ record { hash = link.hash; place = at } ∷ linked_from links link.next
  after = step.head ∙ ap (λ x. pair_at links at ∷ linked_from links x) next_is ∙ ap (λ (l : Link). record { hash = l.hash; place = at } ∷ linked_from links link.next) (sym read)

  by_hash : (h : ℕ) (b : Bool) → eqb link.hash h ≡ b
      → first_of (places_in h (linked_from links at)) ≡ first_of (map (λ (p : Pair). p.place) (cond b (record { hash = link.hash; place = at } ∷ filter (λ p. eqb p.hash h) (linked_from links link.next)) (filter (λ p. eqb p.hash h) (linked_from links link.next))))
  by_hash h b e = ap (λ ps. first_of (places_in h ps)) after ∙ ap (λ d. first_of (map (λ (p : Pair). p.place) (cond d (record { hash = link.hash; place = at } ∷ filter (λ p. eqb p.hash h) (linked_from links link.next)) (filter (λ p. eqb p.hash h) (linked_from links link.next))))) e

  pub first_here : (h : ℕ) → link.hash ≡ h → Some at ≡ first_of (places_in h (linked_from links at))
  first_here h e = sym (by_hash h true (eq-eqb link.hash h e))

  pub first_on : (h : ℕ) → link.hash ≢ h → first_of (places_in h (linked_from links at)) ≡ first_of (places_in h (linked_from links link.next))
  first_on h e = by_hash h false (ne_eqb link.hash h e)

  pub last_on : (o : Option ℕ) → last_place_or o (linked_from links at) ≡ last_place_or (Some at) (linked_from links link.next)
  last_on o = ap (last_place_or o) after

  pub before_on : (place : ℕ) → link.next ≢ place → place_before place (linked_from links at) ≡ place_before place (linked_from links link.next)
  before_on place d = ap (place_before place) after ∙ go (linked_from links link.next) walk_next.leads
    where
      go : (ps : List Pair) → LinksPairs links link.next ps → place_before place (record { hash = link.hash; place = at } ∷ ps) ≡ place_before place ps
      go [] h = refl
      go (q ∷ qs) h = ap (λ b. cond b (Some at) (place_before place (q ∷ qs))) (ne_eqb q.place place (λ e. d (sym (ap (λ (p : Pair). p.place) h.0.is) ∙ e)))

-- a walk that has ended has no more pairs
pub walk_ended : (links : List Link) (at : ℕ) → at ≡ no_place → linked_from links at ≡ []
walk_ended links at e = chain_end links (length links) at e
