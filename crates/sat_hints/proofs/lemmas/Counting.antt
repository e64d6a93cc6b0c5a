-- How often literals occur in clauses of two or more literals, as such clauses are added and removed.
use Rattle.std.proofs.Common.{ℕ, zero, suc, ◌+◌, ◌*◌, ◌<◌, ◌≤◌, ◌^◌, ◌≡◌, Bool, true, false, cond, List, [], ◌∷◌, ◌++◌, length, take, get_or, set, refl, sym, ◌∙◌, ap, subst, arith, MatchBool}
use Rattle.std.proofs.lemmas.List.{length-take-le, take_more, take_all}
use Rattle.std.specs.List.{AllByRecursion}
use Rattle.sat_checker.specs.LiteralSets.{mentions}
use Rattle.sat_checker.specs.SortedSets.{IsIncreasing}
use Rattle.sat_checker.specs.inner.OccurrenceView.{times_in}
use Rattle.sat_checker.proofs.lemmas.store.Counting.{times_once}
use Rattle.sat_checker.proofs.lemmas.store.Mentions.{times_some, times_none}
use Rattle.sat_hints.specs.Hints.{is_long}
use Rattle.sat_hints.specs.inner.Clauses.{count_in_long, count_in_kept}

-- a literal occurs at most once in a sorted set
pub times_one : (l : ℕ) (c : List ℕ) → IsIncreasing c → count_in_long l c ≤ 1
times_one l [] h = omega arith
times_one l (x ∷ []) h = omega arith
times_one l (x ∷ y ∷ ys) h = times_once l (x ∷ y ∷ ys) h

module _ (l : ℕ) where
  -- the counts with a clause appended at the end
  pub times-snoc : (cs : List (List ℕ)) (gs : List Bool) (c : List ℕ) (g : Bool) → length gs ≡ length cs → count_in_kept l (cs ++ (c ∷ [])) (gs ++ (g ∷ [])) ≡ count_in_kept l cs gs + cond g 0 (count_in_long l c)
  times-snoc [] [] c g e = omega arith
  times-snoc [] (h ∷ gs) c g e = absurd (omega arith)
  times-snoc (d ∷ cs) [] c g e = absurd (omega arith)
  times-snoc (d ∷ cs) (h ∷ gs) c g e =
      let ih : count_in_kept l (cs ++ (c ∷ [])) (gs ++ (g ∷ [])) ≡ count_in_kept l cs gs + cond g 0 (count_in_long l c) = times-snoc cs gs c g (omega arith) in
      omega (arith, ih)

  -- a clause that is removed takes its literals from the counts
  pub times-removed : (cs : List (List ℕ)) (gs : List Bool) (place : ℕ) → length gs ≡ length cs → place < length cs → get_or gs place false ≡ false → count_in_kept l cs (set gs place true) + count_in_long l (get_or cs place []) ≡ count_in_kept l cs gs
  times-removed [] gs place e h g = absurd (omega arith)
  times-removed (c ∷ cs) [] place e h g = absurd (omega arith)
  times-removed (c ∷ cs) (b ∷ gs) zero e h g =
      let one : cond b 0 (count_in_long l c) ≡ count_in_long l c = ap (λ x. cond x 0 (count_in_long l c)) g in
      omega (arith, one)
  times-removed (c ∷ cs) (b ∷ gs) (suc n) e h g =
      let ih : count_in_kept l cs (set gs n true) + count_in_long l (get_or cs n []) ≡ count_in_kept l cs gs = times-removed cs gs n (omega arith) (omega arith) g in
      omega (arith, ih)

  -- a literal occurs at most once in each clause
  pub times-few : (cs : List (List ℕ)) (gs : List Bool) → AllByRecursion IsIncreasing cs → count_in_kept l cs gs ≤ length cs
  times-few [] gs h = omega arith
  times-few (c ∷ cs) [] h = omega arith
  times-few (c ∷ cs) (g ∷ gs) h = go g (times-few cs gs h.1) (times_one l c h.0)
    where
      go : (b : Bool) → count_in_kept l cs gs ≤ length cs → count_in_long l c ≤ 1 → cond b 0 (count_in_long l c) + count_in_kept l cs gs ≤ length (c ∷ cs)
      go true ih k = omega (arith, ih)
      go false ih k = omega (arith, ih, k)

  -- a clause that is not removed is counted
  pub times-there : (cs : List (List ℕ)) (gs : List Bool) (place : ℕ) → length gs ≡ length cs → place < length cs → get_or gs place false ≡ false → count_in_long l (get_or cs place []) ≤ count_in_kept l cs gs
  times-there cs gs place e h g = let k : count_in_kept l cs (set gs place true) + count_in_long l (get_or cs place []) ≡ count_in_kept l cs gs = times-removed cs gs place e h g in omega (arith, k)

-- `IsThere P cs gs` holds if `P` holds of a clause that is not removed.
pub record IsThere (P : List ℕ → Type 0) (cs : List (List ℕ)) (gs : List Bool) : Type 0 where
  pub place : ℕ
  pub within : place < length cs
  pub there : get_or gs place false ≡ false
  pub holds : P (get_or cs place [])

-- a literal with a count above 0 occurs in some clause
later : (l : ℕ) (c : List ℕ) (cs : List (List ℕ)) (b : Bool) (gs : List Bool) → IsThere (λ d. 0 < count_in_long l d) cs gs → IsThere (λ d. 0 < count_in_long l d) (c ∷ cs) (b ∷ gs)
later l c cs b gs t = record { place = suc t.place; within = (let w = t.within in omega (arith, w)); there = t.there; holds = t.holds }

pub times-some : (l : ℕ) (cs : List (List ℕ)) (gs : List Bool) → 0 < count_in_kept l cs gs → IsThere (λ c. 0 < count_in_long l c) cs gs
times-some l [] gs h = absurd (omega arith)
times-some l (c ∷ cs) [] h = absurd (omega arith)
times-some l (c ∷ cs) (g ∷ gs) h = go g (times-some l cs gs) (count_in_kept l cs gs) refl h
  where
    here : (n : ℕ) → count_in_kept l cs gs ≡ n → (0 < count_in_kept l cs gs → IsThere (λ d. 0 < count_in_long l d) cs gs) → 0 < count_in_long l c + n → IsThere (λ d. 0 < count_in_long l d) (c ∷ cs) (false ∷ gs)
    here zero e ih k = record { place = 0; within = omega arith; there = refl; holds = omega (arith, k) }
    here (suc n) e ih k = later l c cs false gs (ih (omega (arith, e)))

    go : (b : Bool) → (0 < count_in_kept l cs gs → IsThere (λ d. 0 < count_in_long l d) cs gs) → (n : ℕ) → count_in_kept l cs gs ≡ n → 0 < cond b 0 (count_in_long l c) + count_in_kept l cs gs → IsThere (λ d. 0 < count_in_long l d) (c ∷ cs) (b ∷ gs)
    go true ih n e k = later l c cs true gs (ih (omega (arith, k)))
    go false ih n e k = here n e ih (omega (arith, e, k))

-- A VARIABLE
-- its literals are counted in a clause of two or more literals exactly if that has it
pub counted_long : (v l : ℕ) (c : List ℕ) → 0 < count_in_long l c → is_long c ≡ true
counted_long v l [] h = absurd (omega arith)
counted_long v l (x ∷ []) h = absurd (omega arith)
counted_long v l (x ∷ y ∷ ys) h = refl

-- in a clause of two or more literals, all literals are counted
pub long_as : (l : ℕ) (c : List ℕ) → is_long c ≡ true → count_in_long l c ≡ times_in l c
long_as l [] e = absurd cc
long_as l (x ∷ []) e = absurd cc
long_as l (x ∷ y ∷ ys) e = refl

-- a variable whose literals are counted in a clause is in it
pub counted_mentions : (v : ℕ) (c : List ℕ) → is_long c ≡ true → 0 < count_in_long (2 * v) c + count_in_long (2 * v + 1) c → mentions c v ≡ true
counted_mentions v c e h = go (mentions c v) refl
  where
    go : (b : Bool) → mentions c v ≡ b → b ≡ true
    go true f = refl
    go false f =
        let a = long_as (2 * v) c e in
        let b = long_as (2 * v + 1) c e in
        let n : times_in (2 * v) c + times_in (2 * v + 1) c ≡ zero = times_none v c f in
        absurd (omega (arith, a, b, n, h))

-- the literals of a variable in a clause of two or more literals are counted
pub mentions_counted : (v : ℕ) (c : List ℕ) → is_long c ≡ true → mentions c v ≡ true → 0 < count_in_long (2 * v) c + count_in_long (2 * v + 1) c
mentions_counted v c e m =
    let a = long_as (2 * v) c e in
    let b = long_as (2 * v + 1) c e in
    let n : 0 < times_in (2 * v) c + times_in (2 * v + 1) c = times_some v c m in
    omega (arith, a, b, n)

-- a literal is not counted in a clause of fewer than two literals
pub not_long : (l : ℕ) (c : List ℕ) → length c < 2 → count_in_long l c ≡ 0
not_long l [] h = refl
not_long l (x ∷ []) h = refl
not_long l (x ∷ y ∷ ys) h = absurd (omega arith)

long_length : (c : List ℕ) → 2 ≤ length c → is_long c ≡ true
long_length [] h = absurd (omega arith)
long_length (x ∷ []) h = absurd (omega arith)
long_length (x ∷ y ∷ ys) h = refl

-- in a clause of two or more literals, exactly the variables in it are counted
pub counted_where : (v : ℕ) (c : List ℕ) (r : Bool) → 2 ≤ length c → r ≡ mentions c v → MatchBool r (0 < count_in_long (2 * v) c + count_in_long (2 * v + 1) c) (count_in_long (2 * v) c + count_in_long (2 * v + 1) c ≡ 0)
counted_where v c true h e = mentions_counted v c (long_length c h) (sym e)
counted_where v c false h e =
    let a = long_as (2 * v) c (long_length c h) in
    let b = long_as (2 * v + 1) c (long_length c h) in
    let n : times_in (2 * v) c + times_in (2 * v + 1) c ≡ zero = times_none v c (sym e) in
    omega (arith, a, b, n)

pub counted_same : (r : Bool) (a b c d : ℕ) → a ≡ c → b ≡ d → MatchBool r (0 < a + b) (a + b ≡ 0) → MatchBool r (0 < c + d) (c + d ≡ 0)
counted_same true a b c d e f h = omega (arith, e, f, h)
counted_same false a b c d e f h = omega (arith, e, f, h)

-- the counts up to one more clause
pub times-more : (l : ℕ) (cs : List (List ℕ)) (gs : List Bool) (i : ℕ) → length gs ≡ length cs → i < length cs
    → count_in_kept l (take (i + 1) cs) (take (i + 1) gs) ≡ count_in_kept l (take i cs) (take i gs) + cond (get_or gs i false) 0 (count_in_long l (get_or cs i []))
times-more l cs gs i e h =
    let a = take_more cs i [] h in
    let b = take_more gs i false (subst (λ n. i < n) (sym e) h) in
    let c : length (take i gs) ≡ length (take i cs) = length-take-le i gs (omega arith) ∙ sym (length-take-le i cs (omega arith)) in
    rw (a, b) (times-snoc l (take i cs) (take i gs) (get_or cs i []) (get_or gs i false) c)

-- the counts up to the last clause are those of all clauses
pub times_whole : (l : ℕ) (cs : List (List ℕ)) (gs : List Bool) (i : ℕ) → length gs ≡ length cs → length cs ≤ i → count_in_kept l (take i cs) (take i gs) ≡ count_in_kept l cs gs
times_whole l cs gs i e h =
    let a = take_all i cs h in
    let b = take_all i gs (subst (λ n. n ≤ i) (sym e) h) in
    rw (a, b) refl

-- a clause of the list is a sorted set
pub set_at : (cs : List (List ℕ)) (i : ℕ) → AllByRecursion IsIncreasing cs → i < length cs → IsIncreasing (get_or cs i [])
set_at [] i h l = absurd (omega arith)
set_at (c ∷ cs) zero h l = h.0
set_at (c ∷ cs) (suc i) h l = set_at cs i h.1 (omega arith)

pub sets-snoc : (cs : List (List ℕ)) (c : List ℕ) → AllByRecursion IsIncreasing cs → IsIncreasing c → AllByRecursion IsIncreasing (cs ++ (c ∷ []))
sets-snoc [] c h k = (k, tt)
sets-snoc (d ∷ cs) c h k = (h.0, sets-snoc cs c h.1 k)

pub sets_first : (cs : List (List ℕ)) (i : ℕ) → AllByRecursion IsIncreasing cs → AllByRecursion IsIncreasing (take i cs)
sets_first cs zero h = tt
sets_first [] (suc i) h = tt
sets_first (c ∷ cs) (suc i) h = (h.0, sets_first cs i h.1)

-- one more clause, removed or counted
pub kept_gone : (l : ℕ) (cs : List (List ℕ)) (gs : List Bool) (i n : ℕ) → length gs ≡ n → length cs ≡ n → i < n → get_or gs i false ≡ true → count_in_kept l (take i cs) (take i gs) ≡ count_in_kept l (take (i + 1) cs) (take (i + 1) gs)
kept_gone l cs gs i n g c h e =
    let m = times-more l cs gs i (g ∙ sym c) (subst (λ k. i < k) (sym c) h) in
    let z : cond (get_or gs i false) 0 (count_in_long l (get_or cs i [])) ≡ 0 = ap (λ b. cond b 0 (count_in_long l (get_or cs i []))) e in
    omega (arith, m, z)

-- the counts up to one more clause, which is not removed
pub kept_more : (l : ℕ) (cs : List (List ℕ)) (gs : List Bool) (i n before after : ℕ) (clause : List ℕ) → length gs ≡ n → length cs ≡ n → i < n → get_or gs i false ≡ false → clause ≡ get_or cs i [] → before ≡ count_in_kept l (take i cs) (take i gs) → after ≡ before + count_in_long l clause
    → after ≡ count_in_kept l (take (i + 1) cs) (take (i + 1) gs)
kept_more l cs gs i n before after clause g c h e is b a =
    let m = times-more l cs gs i (g ∙ sym c) (subst (λ k. i < k) (sym c) h) in
    let z : cond (get_or gs i false) 0 (count_in_long l (get_or cs i [])) ≡ count_in_long l clause = ap (λ b. cond b 0 (count_in_long l (get_or cs i []))) e ∙ ap (count_in_long l) (sym is) in
    omega (arith, m, z, b, a)

-- a variable that is not counted so far, nor in the next clause, is not counted with it
pub kept_none : (v : ℕ) (cs : List (List ℕ)) (gs : List Bool) (i n : ℕ) (clause : List ℕ) → length gs ≡ n → length cs ≡ n → i < n → clause ≡ get_or cs i [] → count_in_long (2 * v) clause + count_in_long (2 * v + 1) clause ≡ 0
    → count_in_kept (2 * v) (take i cs) (take i gs) + count_in_kept (2 * v + 1) (take i cs) (take i gs) ≡ 0 → count_in_kept (2 * v) (take (i + 1) cs) (take (i + 1) gs) + count_in_kept (2 * v + 1) (take (i + 1) cs) (take (i + 1) gs) ≡ 0
kept_none v cs gs i n clause g c h is z before =
    let one : (l : ℕ) → count_in_long l clause ≡ 0 → count_in_kept l (take (i + 1) cs) (take (i + 1) gs) ≡ count_in_kept l (take i cs) (take i gs) = λ l e.
    let m = times-more l cs gs i (g ∙ sym c) (subst (λ k. i < k) (sym c) h) in
    let k = either (get_or gs i false) (count_in_long l (get_or cs i [])) (ap (count_in_long l) (sym is) ∙ e) in
    omega (arith, m, k) in
    let a = one (2 * v) (omega (arith, z)) in
    let b = one (2 * v + 1) (omega (arith, z)) in
    omega (arith, a, b, before)
  where
    either : (b : Bool) (n : ℕ) → n ≡ 0 → cond b 0 n ≡ 0
    either true n e = refl
    either false n e = e

-- a variable that is in a clause that is not removed is counted
pub kept_some : (v : ℕ) (cs : List (List ℕ)) (gs : List Bool) (i n : ℕ) (clause : List ℕ) → length gs ≡ n → length cs ≡ n → i < n → get_or gs i false ≡ false → clause ≡ get_or cs i [] → 0 < count_in_long (2 * v) clause + count_in_long (2 * v + 1) clause → 0 < count_in_kept (2 * v) cs gs + count_in_kept (2 * v + 1) cs gs
kept_some v cs gs i n clause g c h e is z =
    let one : (l : ℕ) → count_in_long l clause ≤ count_in_kept l cs gs = λ l. subst (λ d. count_in_long l d ≤ count_in_kept l cs gs) (sym is) (times-there l cs gs i (g ∙ sym c) (subst (λ k. i < k) (sym c) h) e) in
    let a = one (2 * v) in
    let b = one (2 * v + 1) in
    omega (arith, a, b, z)

-- one more clause can be counted without overflow
pub kept_few : (l : ℕ) (cs : List (List ℕ)) (gs : List Bool) (i n before : ℕ) (clause : List ℕ) → AllByRecursion IsIncreasing cs → length cs ≡ n → i < n → n < 2 ^ 32 → clause ≡ get_or cs i [] → before ≡ count_in_kept l (take i cs) (take i gs) → before + count_in_long l clause < 2 ^ 32
kept_few l cs gs i n before clause sets c h f is b =
    let few = times-few l (take i cs) (take i gs) (sets_first cs i sets) in
    let len : length (take i cs) ≡ i = length-take-le i cs (omega (arith, c, h)) in
    let one = times_one l clause (subst IsIncreasing (sym is) (set_at cs i sets (omega (arith, c, h)))) in
    omega (arith, few, len, one, b, h, f)
