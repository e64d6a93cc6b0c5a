-- Clauses under increasing ids.
use Rattle.std.proofs.Common.{ℕ, zero, suc, ◌+◌, ◌<◌, ◌≤◌, ◌≡◌, Bool, true, false, cond, eqb, List, [], ◌∷◌, ◌++◌, length, take, get_or, set, None, Some, Ok, Err, refl, sym, ◌∙◌, ap, subst, arith, inl, inr}
use Rattle.std.proofs.lemmas.Bool.{eqb-true, eq-eqb, cases_eq, cases_lt}
use Rattle.std.proofs.lemmas.List.{get_or-take, length-set, length-take-le, take_more, take_all}
use Rattle.sat_hints.specs.declared.present.Present.{Present}
use Rattle.std.proofs.lemmas.List.Sorted.{searched}
use Rattle.std.specs.List.Sorted.{IsBinarySearchResult}
use Rattle.std.specs.Ordering.{nat_cmp}
use Rattle.sat_checker.specs.SortedSets.{IsIncreasing}
use Rattle.sat_hints.specs.inner.Clauses.{FindsPresentClause, listed_clause, clause_in, present_clause_at, count_in_long, count_in_kept, occurrences_of, IdsBelow, PresentInvariant, AddsPresentClause, RemovesPresentClause, SamePresentClauses}
use Rattle.sat_hints.proofs.lemmas.Counting.{times-snoc, times-removed, times-more, times_whole, set_at, sets-snoc}

-- different numbers
pub apart : (x y : ℕ) → (x ≡ y → ⊥) → eqb x y ≡ false
apart x y never = go (eqb x y) refl
  where
    go : (b : Bool) → eqb x y ≡ b → b ≡ false
    go true e = absurd (never (eqb-true x y e))
    go false e = refl

below_tail : (x : ℕ) (xs : List ℕ) (k : ℕ) → IdsBelow (x ∷ xs) k → IdsBelow xs k
below_tail x xs k h = λ i l. h (suc i) (omega arith)

-- one more id, clause and flag at the end
pub listed-snoc : (id i : ℕ) (c : List ℕ) (g : Bool) (ids : List ℕ) (cs : List (List ℕ)) (gs : List Bool) → length cs ≡ length ids → length gs ≡ length ids → IdsBelow ids i
    → listed_clause id (ids ++ (i ∷ [])) (cs ++ (c ∷ [])) (gs ++ (g ∷ [])) ≡ cond (eqb id i) (cond g None (Some c)) (listed_clause id ids cs gs)
listed-snoc id i c g [] [] [] p q h = refl
listed-snoc id i c g [] [] (b ∷ gs) p q h = absurd (omega arith)
listed-snoc id i c g [] (d ∷ cs) gs p q h = absurd (omega arith)
listed-snoc id i c g (x ∷ ids) [] gs p q h = absurd (omega arith)
listed-snoc id i c g (x ∷ ids) (d ∷ cs) [] p q h = absurd (omega arith)
listed-snoc id i c g (x ∷ ids) (d ∷ cs) (b ∷ gs) p q h = go (eqb id x) refl (listed-snoc id i c g ids cs gs (omega arith) (omega arith) (below_tail x ids i h))
  where
    go : (t : Bool) → eqb id x ≡ t → listed_clause id (ids ++ (i ∷ [])) (cs ++ (c ∷ [])) (gs ++ (g ∷ [])) ≡ cond (eqb id i) (cond g None (Some c)) (listed_clause id ids cs gs)
        → cond t (cond b None (Some d)) (listed_clause id (ids ++ (i ∷ [])) (cs ++ (c ∷ [])) (gs ++ (g ∷ []))) ≡ cond (eqb id i) (cond g None (Some c)) (cond t (cond b None (Some d)) (listed_clause id ids cs gs))
    go true e ih =
        let same = eqb-true id x e in
        let l : x < i = h 0 (omega arith) in
        let n : eqb id i ≡ false = apart id i (λ f. omega arith) in
        rw n refl
    go false e ih = ih

-- an id that is not in the list
pub listed-none : (id : ℕ) (ids : List ℕ) (cs : List (List ℕ)) (gs : List Bool) → ((i : ℕ) → i < length ids → get_or ids i 0 ≡ id → ⊥) → listed_clause id ids cs gs ≡ None
listed-none id [] cs gs h = refl
listed-none id (x ∷ ids) [] gs h = refl
listed-none id (x ∷ ids) (c ∷ cs) [] h = refl
listed-none id (x ∷ ids) (c ∷ cs) (g ∷ gs) h =
    let n : eqb id x ≡ false = apart id x (λ e. h 0 (omega arith) (sym e)) in
    rw n (listed-none id ids cs gs (λ i l e. h (suc i) (omega arith) e))

-- `Rises ids` holds if the ids increase.
abbrev pub Rises : List ℕ → Type 0
Rises ids = (i j : ℕ) → i < j → j < length ids → get_or ids i 0 < get_or ids j 0

rises_tail : (x : ℕ) (xs : List ℕ) → Rises (x ∷ xs) → Rises xs
rises_tail x xs h = λ i j l m. h (suc i) (suc j) (omega arith) (omega arith)

-- the clause under the id at an index
pub listed-at : (place : ℕ) (ids : List ℕ) (cs : List (List ℕ)) (gs : List Bool) → length cs ≡ length ids → length gs ≡ length ids → Rises ids → place < length ids
    → listed_clause (get_or ids place 0) ids cs gs ≡ cond (get_or gs place false) None (Some (get_or cs place []))
listed-at place [] cs gs p q r l = absurd (omega arith)
listed-at place (x ∷ ids) [] gs p q r l = absurd (omega arith)
listed-at place (x ∷ ids) (c ∷ cs) [] p q r l = absurd (omega arith)
listed-at zero (x ∷ ids) (c ∷ cs) (g ∷ gs) p q r l = let e : eqb x x ≡ true = eq-eqb x x refl in rw e refl
listed-at (suc n) (x ∷ ids) (c ∷ cs) (g ∷ gs) p q r l =
    let k : x < get_or ids n 0 = r 0 (suc n) (omega arith) l in
    let e : eqb (get_or ids n 0) x ≡ false = apart (get_or ids n 0) x (λ f. omega arith) in
    rw e (listed-at n ids cs gs (omega arith) (omega arith) (rises_tail x ids r) (omega arith))

-- the clause at an index is removed
pub listed-removed : (id place : ℕ) (ids : List ℕ) (cs : List (List ℕ)) (gs : List Bool) → length cs ≡ length ids → length gs ≡ length ids → Rises ids → place < length ids
    → listed_clause id ids cs (set gs place true) ≡ cond (eqb id (get_or ids place 0)) None (listed_clause id ids cs gs)
listed-removed id place [] cs gs p q r l = absurd (omega arith)
listed-removed id place (x ∷ ids) [] gs p q r l = absurd (omega arith)
listed-removed id place (x ∷ ids) (c ∷ cs) [] p q r l = absurd (omega arith)
listed-removed id zero (x ∷ ids) (c ∷ cs) (g ∷ gs) p q r l = go (eqb id x)
  where
    go : (t : Bool) → cond t None (listed_clause id ids cs gs) ≡ cond t None (cond t (cond g None (Some c)) (listed_clause id ids cs gs))
    go true = refl
    go false = refl
listed-removed id (suc n) (x ∷ ids) (c ∷ cs) (g ∷ gs) p q r l = go (eqb id x) refl (listed-removed id n ids cs gs (omega arith) (omega arith) (rises_tail x ids r) (omega arith))
  where
    go : (t : Bool) → eqb id x ≡ t → listed_clause id ids cs (set gs n true) ≡ cond (eqb id (get_or ids n 0)) None (listed_clause id ids cs gs)
        → cond t (cond g None (Some c)) (listed_clause id ids cs (set gs n true)) ≡ cond (eqb id (get_or ids n 0)) None (cond t (cond g None (Some c)) (listed_clause id ids cs gs))
    go true e ih =
        let same = eqb-true id x e in
        let k : x < get_or ids n 0 = r 0 (suc n) (omega arith) l in
        let f : eqb id (get_or ids n 0) ≡ false = apart id (get_or ids n 0) (λ h. omega arith) in
        rw f refl
    go false e ih = ih

-- increasing ids, and one above all of them
below-snoc : (xs : List ℕ) (x k : ℕ) → IdsBelow xs x → x < k → IdsBelow (xs ++ (x ∷ [])) k
below-snoc [] x k h l = λ i m. elim i as (λ i. i < 1 → get_or (x ∷ []) i 0 < k) [ zero ↦ λ _. l | suc j ↦ λ n. absurd (omega arith) ] m
below-snoc (y ∷ ys) x k h l =
    let first : y < k = (let n : y < x = h 0 (omega arith) in omega arith) in
    let more = below-snoc ys x k (below_tail y ys x h) l in
    λ i m. elim i as (λ i. i < suc (length (ys ++ (x ∷ []))) → get_or (y ∷ (ys ++ (x ∷ []))) i 0 < k) [ zero ↦ λ _. first | suc j ↦ λ n. more j (omega arith) ] m

rises-cons : (x : ℕ) (xs : List ℕ) → ((i : ℕ) → i < length xs → x < get_or xs i 0) → Rises xs → Rises (x ∷ xs)
rises-cons x xs above r = λ i j l m. go i j l m
  where
    go : (i j : ℕ) → i < j → j < suc (length xs) → get_or (x ∷ xs) i 0 < get_or (x ∷ xs) j 0
    go i zero l m = absurd (omega arith)
    go zero (suc j) l m = above j (omega arith)
    go (suc i) (suc j) l m = r i j (omega arith) (omega arith)

rises-snoc : (xs : List ℕ) (x : ℕ) → Rises xs → IdsBelow xs x → Rises (xs ++ (x ∷ []))
rises-snoc [] x r h = λ i j l m. absurd (omega arith)
rises-snoc (y ∷ ys) x r h = rises-cons y (ys ++ (x ∷ [])) (above ys (λ i l. r 0 (suc i) (omega arith) (omega arith)) (h 0 (omega arith))) (rises-snoc ys x (rises_tail y ys r) (below_tail y ys x h))
  where
    above : (zs : List ℕ) → ((i : ℕ) → i < length zs → y < get_or zs i 0) → y < x → (i : ℕ) → i < length (zs ++ (x ∷ [])) → y < get_or (zs ++ (x ∷ [])) i 0
    above [] k l zero m = l
    above [] k l (suc i) m = absurd (omega arith)
    above (z ∷ zs) k l zero m = k 0 (omega arith)
    above (z ∷ zs) k l (suc i) m = above zs (λ j n. k (suc j) (omega arith)) l i (omega arith)

length-snoc : {A : Type 0} (xs : List A) (x : A) → length (xs ++ (x ∷ [])) ≡ length xs + 1
length-snoc [] x = refl
length-snoc (y ∷ ys) x = let e = length-snoc ys x in omega arith

-- a clause is added
pub adds : (old new : Present) (id : ℕ) (clause : List ℕ) → PresentInvariant old → IdsBelow old.ids.items id → IsIncreasing clause → new.ids.items ≡ old.ids.items ++ (id ∷ []) → new.removed.items ≡ old.removed.items ++ (false ∷ []) → new.clauses ≡ old.clauses ++ (clause ∷ []) → AddsPresentClause old new id clause
adds old new id clause s h k i g c = record {
  store = record {
    clauses = rw (c, i) (length-snoc old.clauses clause ∙ ap (λ n. n + 1) s.clauses ∙ sym (length-snoc old.ids.items id));
    removed = rw (g, i) (length-snoc old.removed.items false ∙ ap (λ n. n + 1) s.removed ∙ sym (length-snoc old.ids.items id));
    rises = rw i (rises-snoc old.ids.items id s.rises h);
    sets = rw c (sets-snoc old.clauses clause s.sets k);
  };
  below = rw i (λ k l. below-snoc old.ids.items id k h l);
  clauses = rw (i, g, c) (λ j. listed-snoc j id clause false old.ids.items old.clauses old.removed.items s.clauses s.removed h);
  times = rw (g, c) (λ l. times-snoc l old.clauses old.removed.items clause false (s.removed ∙ sym s.clauses));
  longer = rw i (length-snoc old.ids.items id);
}

-- the result of a search for an id
pub in_order : (xs : List ℕ) → Rises xs → (i j : ℕ) → i ≤ j → j < length xs → get_or xs i 0 ≤ get_or xs j 0
in_order xs r i j h l = elim (cases_eq i j) [
  | inl e ↦ rw e (omega arith)
  | inr n ↦ let k : i < j = omega arith in let m = r i j k l in omega arith
]

-- within the list, the default does not matter
pub same_default : {A : Type 0} (xs : List A) (i : ℕ) (d e : A) → i < length xs → get_or xs i d ≡ get_or xs i e
same_default [] i d e h = absurd (omega arith)
same_default (x ∷ xs) zero d e h = refl
same_default (x ∷ xs) (suc i) d e h = same_default xs i d e (omega arith)

module _ (p : Present) (s : PresentInvariant p) (id : ℕ) (xs : List ℕ) (is : xs ≡ p.ids.items) where
  at_place : (place : ℕ) → IsBinarySearchResult (λ y. nat_cmp y id) xs (Ok place) → (place < length p.ids.items) × (get_or p.ids.items place 0 ≡ id)
  at_place place h = subst (λ ys. (place < length ys) × (get_or ys place 0 ≡ id)) is (searched xs id (Ok place) h (subst (λ ys. (i j : ℕ) → i ≤ j → j < length ys → get_or ys i 0 ≤ get_or ys j 0) (sym is) (in_order p.ids.items s.rises)))

  mark_at : (place : ℕ) (b : Bool) → place < length p.ids.items → b ≡ get_or p.removed.items place b → get_or p.removed.items place false ≡ b
  mark_at place b l e = same_default p.removed.items place false b (subst (λ n. place < n) (sym s.removed) l) ∙ sym e

  listed_as : (place : ℕ) (b : Bool) → (place < length p.ids.items) × (get_or p.ids.items place 0 ≡ id) → get_or p.removed.items place false ≡ b → clause_in p id ≡ cond b None (Some (present_clause_at p place))
  listed_as place b a g = subst (λ i. clause_in p i ≡ cond b None (Some (present_clause_at p place))) a.1 (listed-at place p.ids.items p.clauses p.removed.items s.clauses s.removed s.rises a.0 ∙ ap (λ b. cond b None (Some (present_clause_at p place))) g)

  -- a clause that the search finds, and that is not removed, is in the store
  pub found_at : (place : ℕ) (b : Bool) → IsBinarySearchResult (λ y. nat_cmp y id) xs (Ok place) → b ≡ get_or p.removed.items place b → b ≡ false → FindsPresentClause p id place
  found_at place b h e f =
      let a = at_place place h in
      record { within = subst (λ n. place < n) (sym s.clauses) a.0; named = a.1; clause = listed_as place false a (mark_at place b a.0 e ∙ f) }

  -- a clause that the search finds, but that is removed, is not in the store
  pub gone_at : (place : ℕ) (b : Bool) → IsBinarySearchResult (λ y. nat_cmp y id) xs (Ok place) → b ≡ get_or p.removed.items place b → b ≡ true → clause_in p id ≡ None
  gone_at place b h e f = let a = at_place place h in listed_as place true a (mark_at place b a.0 e ∙ f)

  -- an id that the search does not find has no clause
  pub none_at : (at : ℕ) → IsBinarySearchResult (λ y. nat_cmp y id) xs (Err at) → clause_in p id ≡ None
  none_at at h =
      let a = searched xs id (Err at) h (subst (λ ys. (i j : ℕ) → i ≤ j → j < length ys → get_or ys i 0 ≤ get_or ys j 0) (sym is) (in_order p.ids.items s.rises)) in
      let low : (k : ℕ) → k < at → get_or p.ids.items k 0 < id = subst (λ ys. (k : ℕ) → k < at → get_or ys k 0 < id) is a.1 in
      let high : (k : ℕ) → at ≤ k → k < length p.ids.items → id < get_or p.ids.items k 0 = subst (λ ys. (k : ℕ) → at ≤ k → k < length ys → id < get_or ys k 0) is a.2 in
      listed-none id p.ids.items p.clauses p.removed.items (λ i l e. elim (cases_lt i at) [
        | inl b ↦ let k = low i b in omega arith
        | inr b ↦ let k = high i b l in omega arith
      ])

-- a clause is removed
pub loses : (old new : Present) (place : ℕ) → PresentInvariant old → place < length old.clauses → new.ids.items ≡ old.ids.items → new.removed.items ≡ set old.removed.items place true → new.clauses ≡ old.clauses → RemovesPresentClause old new (get_or old.ids.items place 0)
loses old new place s l i g c =
    let within : place < length old.ids.items = subst (λ n. place < n) s.clauses l in
    record {
      store = record {
        clauses = rw (c, i) s.clauses;
        removed = rw (g, i) (simp length-set s.removed);
        rises = rw i s.rises;
        sets = rw c s.sets;
      };
      below = rw i (λ k h. h);
      clauses = rw (i, g, c) (λ j. listed-removed j place old.ids.items old.clauses old.removed.items s.clauses s.removed s.rises within);
      times = rw (g, c) (λ d e. there d (get_or old.removed.items place false) refl (sym (listed-at place old.ids.items old.clauses old.removed.items s.clauses s.removed s.rises within) ∙ e));
    }
  where
    there : (d : List ℕ) (b : Bool) → get_or old.removed.items place false ≡ b → cond b None (Some (get_or old.clauses place [])) ≡ Some d → (m : ℕ) → count_in_kept m old.clauses (set old.removed.items place true) + count_in_long m d ≡ count_in_kept m old.clauses old.removed.items
    there d true f e = absurd cc
    there d false f e = λ m.
        let is : get_or old.clauses place [] ≡ d = cc in
        subst (λ x. count_in_kept m old.clauses (set old.removed.items place true) + count_in_long m x ≡ count_in_kept m old.clauses old.removed.items) is (times-removed m old.clauses old.removed.items place (s.removed ∙ sym s.clauses) l f)

pub loses_further : (old mid new : Present) (id : ℕ) → RemovesPresentClause old mid id → SamePresentClauses mid new → RemovesPresentClause old new id
loses_further old mid new id l k = record { store = k.store; below = λ b h. k.below b (l.below b h); clauses = λ j. k.clauses j ∙ l.clauses j; times = λ c e m. ap (λ n. n + count_in_long m c) (k.times m) ∙ l.times c e m }

-- `KeepsFirst p count kept` holds if `kept` has the first `count` clauses, except for removed ones.
pub record KeepsFirst (p : Present) (count : ℕ) (kept : Present) : Type 0 where
  pub store : PresentInvariant kept
  pub below : (k : ℕ) → IdsBelow (take count p.ids.items) k → IdsBelow kept.ids.items k
  pub clauses : (id : ℕ) → clause_in kept id ≡ listed_clause id (take count p.ids.items) (take count p.clauses) (take count p.removed.items)
  pub times : (l : ℕ) → occurrences_of kept l ≡ count_in_kept l (take count p.clauses) (take count p.removed.items)

pub keeps_none : (p kept : Present) → PresentInvariant kept → kept.ids.items ≡ [] → ((id : ℕ) → clause_in kept id ≡ None) → ((l : ℕ) → occurrences_of kept l ≡ 0) → KeepsFirst p 0 kept
keeps_none p kept s e n t = record { store = s; below = λ k h. rw e (λ i l. absurd (omega arith)); clauses = λ id. n id; times = λ l. t l }

module _ (p : Present) (s : PresentInvariant p) (i : ℕ) (inside : i < length p.ids.items) where
  first_below : IdsBelow (take i p.ids.items) (get_or p.ids.items i 0)
  first_below = λ k l.
      let e : length (take i p.ids.items) ≡ i = length-take-le i p.ids.items (omega arith) in
      let m : k < i = omega arith in
      subst (λ x. x < get_or p.ids.items i 0) (sym (get_or-take i p.ids.items k 0 m)) (s.rises k i m inside)

  -- the ids of the clauses kept so far are below the next id
  pub next_below : (kept : Present) → KeepsFirst p i kept → IdsBelow kept.ids.items (get_or p.ids.items i 0)
  next_below kept k = k.below (get_or p.ids.items i 0) first_below

  lengths : (A : Type 0) (xs : List A) → length xs ≡ length p.ids.items → length (take i xs) ≡ length (take i p.ids.items)
  lengths A xs e = length-take-le i xs (omega arith) ∙ sym (length-take-le i p.ids.items (omega arith))

  -- the clauses with one more
  listed_more : (id : ℕ) → listed_clause id (take (i + 1) p.ids.items) (take (i + 1) p.clauses) (take (i + 1) p.removed.items)
      ≡ cond (eqb id (get_or p.ids.items i 0)) (cond (get_or p.removed.items i false) None (Some (get_or p.clauses i []))) (listed_clause id (take i p.ids.items) (take i p.clauses) (take i p.removed.items))
  listed_more id =
      let a = take_more p.ids.items i 0 inside in
      let b = take_more p.clauses i [] (subst (λ n. i < n) (sym s.clauses) inside) in
      let c = take_more p.removed.items i false (subst (λ n. i < n) (sym s.removed) inside) in
      rw (a, b, c) (listed-snoc id (get_or p.ids.items i 0) (get_or p.clauses i []) (get_or p.removed.items i false) (take i p.ids.items) (take i p.clauses) (take i p.removed.items) (lengths (List ℕ) p.clauses s.clauses) (lengths Bool p.removed.items s.removed) first_below)

  below_fewer : (k : ℕ) → IdsBelow (take (i + 1) p.ids.items) k → (get_or p.ids.items i 0 < k) × IdsBelow (take i p.ids.items) k
  below_fewer k h =
      let e : length (take (i + 1) p.ids.items) ≡ i + 1 = length-take-le (i + 1) p.ids.items (omega arith) in
      let f : length (take i p.ids.items) ≡ i = length-take-le i p.ids.items (omega arith) in (
        subst (λ x. x < k) (get_or-take (i + 1) p.ids.items i 0 (omega arith)) (h i (omega arith)),
        λ j l. let m : j < i = omega arith in subst (λ x. x < k) (get_or-take (i + 1) p.ids.items j 0 (omega arith) ∙ sym (get_or-take i p.ids.items j 0 m)) (h j (omega arith)),
      )

  within : i < length p.clauses
  within = subst (λ n. i < n) (sym s.clauses) inside

  pub next_set : (clause : List ℕ) → clause ≡ get_or p.clauses i [] → IsIncreasing clause
  next_set clause e = subst IsIncreasing (sym e) (set_at p.clauses i s.sets within)

  counted_more : (l : ℕ) → count_in_kept l (take (i + 1) p.clauses) (take (i + 1) p.removed.items) ≡ count_in_kept l (take i p.clauses) (take i p.removed.items) + cond (get_or p.removed.items i false) 0 (count_in_long l (get_or p.clauses i []))
  counted_more l = times-more l p.clauses p.removed.items i (s.removed ∙ sym s.clauses) within

  mark : {b : Bool} → b ≡ get_or p.removed.items i b → get_or p.removed.items i false ≡ b
  mark {b} m = same_default p.removed.items i false b (subst (λ n. i < n) (sym s.removed) inside) ∙ sym m

  -- a clause that is not removed is kept
  pub keeps_one : (kept new : Present) (id : ℕ) (clause : List ℕ) (b : Bool) → KeepsFirst p i kept → AddsPresentClause kept new id clause → b ≡ get_or p.removed.items i b → b ≡ false → id ≡ get_or p.ids.items i 0 → clause ≡ get_or p.clauses i [] → KeepsFirst p (i + 1) new
  keeps_one kept new id clause t k a m f d c = let g = mark m ∙ f in record {
    store = a.store;
    below = λ b h. let f = below_fewer b h in a.below b (subst (λ x. x < b) (sym d) f.0);
    clauses = λ j. a.clauses j ∙ (rw (d, c) (ap (λ o. cond (eqb j (get_or p.ids.items i 0)) (Some (get_or p.clauses i [])) o) (k.clauses j)) ∙ ap (λ b. cond (eqb j (get_or p.ids.items i 0)) (cond b None (Some (get_or p.clauses i []))) (listed_clause j (take i p.ids.items) (take i p.clauses) (take i p.removed.items))) (sym g)) ∙ sym (listed_more j);
    times = λ m. a.times m ∙ ap (λ n. n + count_in_long m clause) (k.times m) ∙ ap (λ x. count_in_kept m (take i p.clauses) (take i p.removed.items) + count_in_long m x) c
        ∙ ap (λ b. count_in_kept m (take i p.clauses) (take i p.removed.items) + cond b 0 (count_in_long m (get_or p.clauses i []))) (sym g) ∙ sym (counted_more m);
  }

  -- a removed clause is not kept
  pub keeps_not : (kept : Present) (b : Bool) → KeepsFirst p i kept → b ≡ get_or p.removed.items i b → b ≡ true → KeepsFirst p (i + 1) kept
  keeps_not kept t k m f = let g = mark m ∙ f in record {
    store = k.store;
    below = λ b h. k.below b (below_fewer b h).1;
    clauses = λ j. k.clauses j ∙ removed j (eqb j (get_or p.ids.items i 0)) refl ∙ ap (λ b. cond (eqb j (get_or p.ids.items i 0)) (cond b None (Some (get_or p.clauses i []))) (listed_clause j (take i p.ids.items) (take i p.clauses) (take i p.removed.items))) (sym g) ∙ sym (listed_more j);
    times = λ m. k.times m ∙ (let z : count_in_kept m (take i p.clauses) (take i p.removed.items) ≡ count_in_kept m (take i p.clauses) (take i p.removed.items) + 0 = omega arith in z)
        ∙ ap (λ b. count_in_kept m (take i p.clauses) (take i p.removed.items) + cond b 0 (count_in_long m (get_or p.clauses i []))) (sym g) ∙ sym (counted_more m);
  }
    where
      removed : (j : ℕ) (b : Bool) → eqb j (get_or p.ids.items i 0) ≡ b → listed_clause j (take i p.ids.items) (take i p.clauses) (take i p.removed.items) ≡ cond (eqb j (get_or p.ids.items i 0)) None (listed_clause j (take i p.ids.items) (take i p.clauses) (take i p.removed.items))
      removed j true e =
          let same = eqb-true j (get_or p.ids.items i 0) e in
          let none : listed_clause j (take i p.ids.items) (take i p.clauses) (take i p.removed.items) ≡ None = listed-none j (take i p.ids.items) (take i p.clauses) (take i p.removed.items) (λ n l f. let b = first_below n l in omega arith) in
          none ∙ sym (ap (λ b. cond b None (listed_clause j (take i p.ids.items) (take i p.clauses) (take i p.removed.items))) e)
      removed j false e = sym (ap (λ b. cond b None (listed_clause j (take i p.ids.items) (take i p.clauses) (take i p.removed.items))) e)

-- once all clauses were seen, the kept clauses are those present
pub keeps_all : (p kept : Present) (i : ℕ) → PresentInvariant p → length p.ids.items ≤ i → KeepsFirst p i kept → SamePresentClauses p kept
keeps_all p kept i s h k =
    let a : take i p.ids.items ≡ p.ids.items = take_all i p.ids.items h in
    let b : take i p.clauses ≡ p.clauses = take_all i p.clauses (subst (λ n. n ≤ i) (sym s.clauses) h) in
    let c : take i p.removed.items ≡ p.removed.items = take_all i p.removed.items (subst (λ n. n ≤ i) (sym s.removed) h) in
    record { store = k.store; below = subst (λ xs. (b : ℕ) → IdsBelow xs b → IdsBelow kept.ids.items b) a k.below; clauses = λ id. k.clauses id ∙ rw (a, b, c) refl; times = λ l. k.times l ∙ times_whole l p.clauses p.removed.items i (s.removed ∙ sym s.clauses) (subst (λ n. n ≤ i) (sym s.clauses) h) }

-- `IsStoredAt id c ids cs gs` holds if the clause `c` is stored under `id`, at some index.
pub record IsStoredAt (id : ℕ) (c : List ℕ) (ids : List ℕ) (cs : List (List ℕ)) (gs : List Bool) : Type 0 where
  pub place : ℕ
  pub within : place < length cs
  pub named : get_or ids place 0 ≡ id
  pub there : get_or gs place false ≡ false
  pub clause : get_or cs place [] ≡ c

-- a clause that is found is at some index
pub stands_at : (id : ℕ) (c : List ℕ) (ids : List ℕ) (cs : List (List ℕ)) (gs : List Bool) → listed_clause id ids cs gs ≡ Some c → IsStoredAt id c ids cs gs
stands_at id c [] cs gs e = absurd cc
stands_at id c (i ∷ ids) [] gs e = absurd cc
stands_at id c (i ∷ ids) (d ∷ cs) [] e = absurd cc
stands_at id c (i ∷ ids) (d ∷ cs) (g ∷ gs) e = go (eqb id i) refl g (λ f. stands_at id c ids cs gs f) e
  where
    go : (t : Bool) → eqb id i ≡ t → (b : Bool) → (listed_clause id ids cs gs ≡ Some c → IsStoredAt id c ids cs gs) → cond t (cond b None (Some d)) (listed_clause id ids cs gs) ≡ Some c → IsStoredAt id c (i ∷ ids) (d ∷ cs) (b ∷ gs)
    go true n true ih f = absurd cc
    go true n false ih f = record { place = 0; within = omega arith; named = sym (eqb-true id i n); there = refl; clause = (let k : d ≡ c = cc in k) }
    go false n b ih f = let s = ih f in record { place = suc s.place; within = (let w = s.within in omega (arith, w)); named = s.named; there = s.there; clause = s.clause }
