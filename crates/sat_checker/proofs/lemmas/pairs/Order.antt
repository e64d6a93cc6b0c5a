-- Lists of pairs, and their filters.
use Rattle.std.proofs.Common.{ℕ, ◌<◌, ◌≤◌, ◌≡◌, ◌≢◌, Bool, true, false, not, cond, eqb, List, [], ◌∷◌, ◌++◌, map, filter, length, refl, sym, ◌∙◌, ap, arith}
use Rattle.std.proofs.lemmas.Bool.{ne_eqb, eq-eqb, eqb-true, true≢false}
use Rattle.std.proofs.lemmas.Bool.Decides.{nat_tests}
use Rattle.std.proofs.lemmas.List.{append-nil, map-append}
use Rattle.std.specs.List.{AllByRecursion}
use Rattle.sat_checker.specs.inner.PairView.{AreInOrder, without_pair, places_in}
use Rattle.sat_checker.specs.inner.LinkView.{top_of, with_top}
use Rattle.sat_checker.specs.declared.store.links.Pair.{Pair}

pub all_weaker : (P Q : Pair → Type 0) → ((p : Pair) → P p → Q p) → (ps : List Pair) → AllByRecursion P ps → AllByRecursion Q ps
all_weaker P Q w [] h = tt
all_weaker P Q w (p ∷ ps) h = (w p h.0, all_weaker P Q w ps h.1)

pub all_both : (P Q : Pair → Type 0) (ps : List Pair) → AllByRecursion P ps → AllByRecursion Q ps → AllByRecursion (λ p. P p × Q p) ps
all_both P Q [] h k = tt
all_both P Q (p ∷ ps) h k = ((h.0, k.0), all_both P Q ps h.1 k.1)

pub all_filter : (P : Pair → Type 0) (t : Pair → Bool) (ps : List Pair) → AllByRecursion P ps → AllByRecursion P (filter t ps)
all_filter P t [] h = tt
all_filter P t (p ∷ ps) h = go (t p) (all_filter P t ps h.1)
  where
    go : (b : Bool) → AllByRecursion P (filter t ps) → AllByRecursion P (cond b (p ∷ filter t ps) (filter t ps))
    go true ih = (h.0, ih)
    go false ih = ih

-- what a filter keeps passes its test
pub all_pass : (t : Pair → Bool) (ps : List Pair) → AllByRecursion (λ p. t p ≡ true) (filter t ps)
all_pass t [] = tt
all_pass t (p ∷ ps) = go (t p) refl (all_pass t ps)
  where
    go : (b : Bool) → t p ≡ b → AllByRecursion (λ q. t q ≡ true) (filter t ps) → AllByRecursion (λ q. t q ≡ true) (cond b (p ∷ filter t ps) (filter t ps))
    go true e ih = (e, ih)
    go false e ih = ih

pub filter_whole : (t : Pair → Bool) (ps : List Pair) → AllByRecursion (λ p. t p ≡ true) ps → filter t ps ≡ ps
filter_whole t [] h = refl
filter_whole t (p ∷ ps) h = ap (λ b. cond b (p ∷ filter t ps) (filter t ps)) h.0 ∙ ap (λ qs. p ∷ qs) (filter_whole t ps h.1)

pub filter_two : (t : Pair → Bool) (xs ys : List Pair) → filter t (xs ++ ys) ≡ filter t xs ++ filter t ys
filter_two t [] ys = refl
filter_two t (x ∷ xs) ys = go (t x) (filter_two t xs ys)
  where
    go : (b : Bool) → filter t (xs ++ ys) ≡ filter t xs ++ filter t ys → cond b (x ∷ filter t (xs ++ ys)) (filter t (xs ++ ys)) ≡ cond b (x ∷ filter t xs) (filter t xs) ++ filter t ys
    go true ih = ap (λ zs. x ∷ zs) ih
    go false ih = ih

-- two filters may be exchanged
pub filter_swap : (t u : Pair → Bool) (ps : List Pair) → filter t (filter u ps) ≡ filter u (filter t ps)
filter_swap t u [] = refl
filter_swap t u (p ∷ ps) = go (t p) refl (u p) refl (filter_swap t u ps)
  where
    go : (b : Bool) → t p ≡ b → (d : Bool) → u p ≡ d → filter t (filter u ps) ≡ filter u (filter t ps)
        → filter t (cond d (p ∷ filter u ps) (filter u ps)) ≡ filter u (cond b (p ∷ filter t ps) (filter t ps))
    go true e true f ih = ap (λ x. cond x (p ∷ filter t (filter u ps)) (filter t (filter u ps))) e ∙ ap (λ qs. p ∷ qs) ih ∙ sym (ap (λ x. cond x (p ∷ filter u (filter t ps)) (filter u (filter t ps))) f)
    go true e false f ih = ih ∙ sym (ap (λ x. cond x (p ∷ filter u (filter t ps)) (filter u (filter t ps))) f)
    go false e true f ih = ap (λ x. cond x (p ∷ filter t (filter u ps)) (filter t (filter u ps))) e ∙ ih
    go false e false f ih = ih

pub length_filter : (t : Pair → Bool) (ps : List Pair) → length (filter t ps) ≤ length ps
length_filter t [] = omega arith
length_filter t (p ∷ ps) = go (t p) (length_filter t ps)
  where
    go : (b : Bool) → length (filter t ps) ≤ length ps → length (cond b (p ∷ filter t ps) (filter t ps)) ≤ length (p ∷ ps)
    go true ih = omega arith
    go false ih = omega arith

pub order_filter : (t : Pair → Bool) (ps : List Pair) → AreInOrder ps → AreInOrder (filter t ps)
order_filter t [] o = tt
order_filter t (p ∷ ps) o = go (t p) (order_filter t ps o.1)
  where
    go : (b : Bool) → AreInOrder (filter t ps) → AreInOrder (cond b (p ∷ filter t ps) (filter t ps))
    go true ih = (all_filter (λ q. p.place < q.place) t ps o.0, ih)
    go false ih = ih

pub all_push : (P : Pair → Type 0) (p : Pair) (ps : List Pair) → P p → AllByRecursion P ps → AllByRecursion P (ps ++ p ∷ [])
all_push P p [] h k = (h, tt)
all_push P p (q ∷ qs) h k = (k.0, all_push P p qs h k.1)

-- a pair at a later place is appended
pub order_push : (p : Pair) (ps : List Pair) → AllByRecursion (λ q. q.place < p.place) ps → AreInOrder ps → AreInOrder (ps ++ p ∷ [])
order_push p [] l o = (tt, tt)
order_push p (q ∷ qs) l o = (all_push (λ r. q.place < r.place) p qs l.0 o.0, order_push p qs l.1 o.1)

pub places_push : (h : ℕ) (p : Pair) (ps : List Pair) → places_in h (ps ++ p ∷ []) ≡ cond (eqb h p.hash) (places_in h ps ++ p.place ∷ []) (places_in h ps)
places_push h p ps = ap (map (λ (q : Pair). q.place)) (filter_two (λ q. eqb q.hash h) ps (p ∷ [])) ∙ ap (λ b. map (λ (q : Pair). q.place) (filter (λ q. eqb q.hash h) ps ++ cond b (p ∷ []) [])) (flip p.hash h) ∙ go (eqb h p.hash)
  where
    flip : (x y : ℕ) → eqb x y ≡ eqb y x
    flip x y = grind (arith, nat_tests)

    go : (b : Bool) → map (λ (q : Pair). q.place) (filter (λ q. eqb q.hash h) ps ++ cond b (p ∷ []) []) ≡ cond b (places_in h ps ++ p.place ∷ []) (places_in h ps)
    go true = map-append (λ (q : Pair). q.place) (filter (λ q. eqb q.hash h) ps) (p ∷ [])
    go false = ap (map (λ (q : Pair). q.place)) (append-nil (filter (λ q. eqb q.hash h) ps))

-- the pairs of a hash are among those of its top
pub places_top : (shift count h : ℕ) (ps : List Pair) → places_in h ps ≡ places_in h (with_top shift count (top_of shift count h) ps)
places_top shift count h ps = ap (map (λ (p : Pair). p.place)) (go ps)
  where
    go : (qs : List Pair) → filter (λ p. eqb p.hash h) qs ≡ filter (λ p. eqb p.hash h) (with_top shift count (top_of shift count h) qs)
    go [] = refl
    go (q ∷ qs) = pick (eqb q.hash h) refl (go qs)
      where
        pick : (b : Bool) → eqb q.hash h ≡ b → filter (λ p. eqb p.hash h) qs ≡ filter (λ p. eqb p.hash h) (with_top shift count (top_of shift count h) qs)
            → cond b (q ∷ filter (λ p. eqb p.hash h) qs) (filter (λ p. eqb p.hash h) qs) ≡ filter (λ p. eqb p.hash h) (with_top shift count (top_of shift count h) (q ∷ qs))
        pick true e ih =
            let t = eq-eqb (top_of shift count q.hash) (top_of shift count h) (ap (top_of shift count) (eqb-true q.hash h e)) in
            sym (ap (λ x. filter (λ p. eqb p.hash h) (cond x (q ∷ with_top shift count (top_of shift count h) qs) (with_top shift count (top_of shift count h) qs))) t
            ∙ ap (λ x. cond x (q ∷ filter (λ p. eqb p.hash h) (with_top shift count (top_of shift count h) qs)) (filter (λ p. eqb p.hash h) (with_top shift count (top_of shift count h) qs))) e ∙ ap (λ xs. q ∷ xs) (sym ih))
        pick false e ih = ih ∙ other (eqb (top_of shift count q.hash) (top_of shift count h))
          where
            other : (x : Bool) → filter (λ p. eqb p.hash h) (with_top shift count (top_of shift count h) qs) ≡ filter (λ p. eqb p.hash h) (cond x (q ∷ with_top shift count (top_of shift count h) qs) (with_top shift count (top_of shift count h) qs))
            other true = sym (ap (λ y. cond y (q ∷ filter (λ p. eqb p.hash h) (with_top shift count (top_of shift count h) qs)) (filter (λ p. eqb p.hash h) (with_top shift count (top_of shift count h) qs))) e)
            other false = refl

pub without_none : (x : ℕ) (ps : List Pair) → AllByRecursion (λ q. q.place ≢ x) ps → without_pair x ps ≡ ps
without_none x ps h = filter_whole (λ p. not (eqb p.place x)) ps (all_weaker (λ q. q.place ≢ x) (λ q. not (eqb q.place x) ≡ true) (λ q n. ap not (ne_eqb q.place x n)) ps h)

-- no pair that is kept has the place
pub without_apart : (x : ℕ) (ps : List Pair) → AllByRecursion (λ q. q.place ≢ x) (without_pair x ps)
without_apart x ps = all_weaker (λ q. not (eqb q.place x) ≡ true) (λ q. q.place ≢ x) (λ q n e. true≢false (sym n ∙ ap not (eq-eqb q.place x e))) (without_pair x ps) (all_pass (λ q. not (eqb q.place x)) ps)

pub without_head : (x : ℕ) (p : Pair) (ps : List Pair) → p.place ≡ x → AllByRecursion (λ q. q.place ≢ x) ps → without_pair x (p ∷ ps) ≡ ps
without_head x p ps e h = ap (λ b. cond (not b) (p ∷ without_pair x ps) (without_pair x ps)) (eq-eqb p.place x e) ∙ without_none x ps h

pub without_tail : (x : ℕ) (p : Pair) (ps : List Pair) → p.place ≢ x → without_pair x (p ∷ ps) ≡ p ∷ without_pair x ps
without_tail x p ps n = ap (λ b. cond (not b) (p ∷ without_pair x ps) (without_pair x ps)) (ne_eqb p.place x n)

-- later pairs are at other places
pub apart_after : (p : Pair) (ps : List Pair) → AreInOrder (p ∷ ps) → AllByRecursion (λ q. q.place ≢ p.place) ps
apart_after p ps o = all_weaker (λ q. p.place < q.place) (λ q. q.place ≢ p.place) (λ q l e. omega (arith, l, e)) ps o.0
