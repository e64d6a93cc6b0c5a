-- Literals, or their negations, that are assumed one after another.
use Rattle.std.proofs.Common.{ℕ, zero, suc, ◌+◌, ◌<◌, ◌≤◌, ◌≡◌, ◌≢◌, Bool, true, false, ◌||◌, eqb, List, [], ◌∷◌, length, take, drop, get_or, refl, sym, ◌∙◌, ap, subst, arith, ◌⊎◌, inl, inr}
use Rattle.std.proofs.lemmas.Bool.{or_cases, or_left, or_right, both_ways, eqb-true, eq-eqb, true≢false}
use Rattle.std.proofs.lemmas.List.{take_more, take_all, take-append-drop, get_or-map, length-map}
use Rattle.sat_base.specs.values.Literals.{negated, negated_if}
use Rattle.sat_checker.specs.LiteralSets.{is_among, is_tautology}
use Rattle.sat_checker.specs.inner.AssumedRoom.{AgreeWithinRoom, signed}
use Rattle.sat_checker.proofs.lemmas.sets.Canonical.{tautology_from, both_signs}
use Rattle.sat_checker.proofs.lemmas.sets.Order.{among-append}
use Rattle.sat_hints.specs.inner.Refutation.{AreExactlyAssumed}

-- `OneSign ls` holds if no literal is in the list together with its negation.
abbrev pub OneSign : List ℕ → Type 0
OneSign ls = (l : ℕ) → is_among ls l ≡ true → is_among ls (negated l) ≡ true → ⊥

-- `AssumesFirst ls count assumed` holds if the first `count` literals are assumed, none together with its negation.
pub record AssumesFirst (ls : List ℕ) (count : ℕ) (assumed : List ℕ) : Type 0 where
  pub are : AreExactlyAssumed (take count ls) assumed
  pub one_sign : OneSign (take count ls)

pub assumes_none : (ls assumed : List ℕ) → assumed ≡ [] → AssumesFirst ls 0 assumed
assumes_none ls assumed e = rw e (record { are = λ l. refl; one_sign = λ l a b. true≢false (sym a) })

negated-negated : (l : ℕ) → negated (negated l) ≡ l
negated-negated l = omega arith

negated_other : (l : ℕ) → negated l ≢ l
negated_other l e = omega arith

pub signed-at : (negate : Bool) (ls : List ℕ) (i : ℕ) → i < length ls → get_or (signed negate ls) i 0 ≡ negated_if negate (get_or ls i 0)
signed-at true ls i h = get_or-map negated ls i 0 0 h
signed-at false ls i h = refl

pub length-signed : (negate : Bool) (ls : List ℕ) → length (signed negate ls) ≡ length ls
length-signed true ls = length-map ls negated
length-signed false ls = refl

among_take : (ls : List ℕ) (i m : ℕ) → is_among (take i ls) m ≡ true → is_among ls m ≡ true
among_take ls i m h = ap (λ xs. is_among xs m) (sym (take-append-drop i ls)) ∙ among-append (take i ls) (drop i ls) m ∙ or_left (is_among (take i ls) m) (is_among (drop i ls) m) h

or_false : (b : Bool) → (b || (false || false)) ≡ b
or_false true = refl
or_false false = refl

-- within the list, the default does not matter
pub same_default : {A : Type 0} (xs : List A) (i : ℕ) (d e : A) → i < length xs → get_or xs i d ≡ get_or xs i e
same_default [] i d e h = absurd (omega arith)
same_default (x ∷ xs) zero d e h = refl
same_default (x ∷ xs) (suc i) d e h = same_default xs i d e (omega arith)

-- the literal at an index, or its negation
pub lit_at : (negate : Bool) (ls : List ℕ) (i item lit : ℕ) → i < length ls → item ≡ get_or ls i item → lit ≡ negated_if negate item → lit ≡ get_or (signed negate ls) i 0
lit_at negate ls i item lit h is e = e ∙ ap (negated_if negate) (is ∙ same_default ls i item 0 h) ∙ sym (signed-at negate ls i h)

-- membership in the first i literals, and in one more
module _ (ls : List ℕ) (i : ℕ) (inside : i < length ls) where
  among_more : (m : ℕ) → is_among (take (i + 1) ls) m ≡ (is_among (take i ls) m || (eqb (get_or ls i 0) m || false))
  among_more m = ap (λ xs. is_among xs m) (take_more ls i 0 inside) ∙ among-append (take i ls) (get_or ls i 0 ∷ []) m

  or_none : (b : Bool) → (b || false) ≡ true → b ≡ true
  or_none true e = refl
  or_none false e = e

  among_split : (m : ℕ) → is_among (take (i + 1) ls) m ≡ true → (is_among (take i ls) m ≡ true) ⊎ (get_or ls i 0 ≡ m)
  among_split m h = elim (or_cases (is_among (take i ls) m) (eqb (get_or ls i 0) m || false) (sym (among_more m) ∙ h)) [
    | inl a ↦ inl a
    | inr b ↦ inr (eqb-true (get_or ls i 0) m (or_none (eqb (get_or ls i 0) m) b))
  ]

  among_at : is_among ls (get_or ls i 0) ≡ true
  among_at = among_take ls (i + 1) (get_or ls i 0) (among_more (get_or ls i 0) ∙ or_right (is_among (take i ls) (get_or ls i 0)) (eqb (get_or ls i 0) (get_or ls i 0) || false) (or_left (eqb (get_or ls i 0) (get_or ls i 0)) false (eq-eqb (get_or ls i 0) (get_or ls i 0) refl)))

  -- its negation is before it
  pub both_stand : is_among (take i ls) (negated (get_or ls i 0)) ≡ true → is_tautology ls ≡ true
  both_stand h = tautology_from ls (get_or ls i 0) among_at (among_take ls i (negated (get_or ls i 0)) h)

  one_sign_more : OneSign (take i ls) → is_among (take i ls) (negated (get_or ls i 0)) ≡ false → OneSign (take (i + 1) ls)
  one_sign_more so_far fresh m a b = elim (among_split m a) [
    | inl c ↦ elim (among_split (negated m) b) [
      | inl d ↦ so_far m c d
      | inr e ↦ let f : m ≡ negated (get_or ls i 0) = sym (negated-negated m) ∙ ap negated (sym e) in
          both_ways (is_among (take i ls) (negated (get_or ls i 0))) fresh (subst (λ x. is_among (take i ls) x ≡ true) f c)
    ]
    | inr e ↦ elim (among_split (negated m) b) [
      | inl d ↦ both_ways (is_among (take i ls) (negated (get_or ls i 0))) fresh (subst (λ x. is_among (take i ls) x ≡ true) (ap negated (sym e)) d)
      | inr f ↦ negated_other m (sym f ∙ e)
    ]
  ]

  among_last : (m : ℕ) → (eqb (get_or ls i 0) m || is_among (take i ls) m) ≡ is_among (take (i + 1) ls) m
  among_last m = turn (eqb (get_or ls i 0) m) (is_among (take i ls) m) ∙ sym (among_more m)
    where
      turn : (a b : Bool) → (a || b) ≡ (b || (a || false))
      turn true true = refl
      turn true false = refl
      turn false true = refl
      turn false false = refl

module _ (ls assumed : List ℕ) (i : ℕ) (inside : i < length ls) (so_far : AssumesFirst ls i assumed) where
  -- its negation is assumed
  pub both_met : is_among assumed (negated (get_or ls i 0)) ≡ true → is_tautology ls ≡ true
  both_met h = both_stand ls i inside (sym (so_far.are (negated (get_or ls i 0))) ∙ h)

  one_sign_still : is_among assumed (negated (get_or ls i 0)) ≡ false → OneSign (take (i + 1) ls)
  one_sign_still fresh = one_sign_more ls i inside so_far.one_sign (sym (so_far.are (negated (get_or ls i 0))) ∙ fresh)

  -- it is already assumed
  pub assumes_same : is_among assumed (negated (get_or ls i 0)) ≡ false → is_among assumed (get_or ls i 0) ≡ true → AssumesFirst ls (i + 1) assumed
  assumes_same fresh had = record { are = λ m. so_far.are m ∙ go m (eqb (get_or ls i 0) m) refl ∙ sym (among_more ls i inside m); one_sign = one_sign_still fresh }
    where
      go : (m : ℕ) (b : Bool) → eqb (get_or ls i 0) m ≡ b → is_among (take i ls) m ≡ (is_among (take i ls) m || (eqb (get_or ls i 0) m || false))
      go m true e =
          let k : is_among (take i ls) m ≡ true = subst (λ x. is_among (take i ls) x ≡ true) (eqb-true (get_or ls i 0) m e) (sym (so_far.are (get_or ls i 0)) ∙ had) in
          k ∙ sym (or_left (is_among (take i ls) m) (eqb (get_or ls i 0) m || false) k)
      go m false e = sym (ap (λ b. is_among (take i ls) m || (b || false)) e ∙ or_false (is_among (take i ls) m))

  -- it becomes assumed
  pub assumes_more : (new : List ℕ) → new ≡ get_or ls i 0 ∷ assumed → is_among assumed (negated (get_or ls i 0)) ≡ false → AssumesFirst ls (i + 1) new
  assumes_more new is fresh = rw is (record { are = λ m. ap (λ b. eqb (get_or ls i 0) m || b) (so_far.are m) ∙ among_last ls i inside m; one_sign = one_sign_still fresh })

no_both : (ls : List ℕ) → OneSign ls → is_tautology ls ≡ false
no_both ls one = go (is_tautology ls) refl
  where
    go : (b : Bool) → is_tautology ls ≡ b → b ≡ false
    go true t = let s = both_signs ls t in absurd (one s.literal s.within s.negation)
    go false t = refl

-- `AssumesAll ls assumed` holds if all literals are assumed, and none is together with its negation.
pub record AssumesAll (ls assumed : List ℕ) : Type 0 where
  pub consistent : is_tautology ls ≡ false
  pub are : AreExactlyAssumed ls assumed

pub assumes_all : (ls assumed : List ℕ) (i : ℕ) → length ls ≤ i → AssumesFirst ls i assumed → AssumesAll ls assumed
assumes_all ls assumed i h so_far =
    let e : take i ls ≡ ls = take_all i ls h in
    record { consistent = no_both ls (subst OneSign e so_far.one_sign); are = subst (λ xs. AreExactlyAssumed xs assumed) e so_far.are }

-- AS FAR AS THERE IS ROOM
-- one more literal is assumed, if there is room for it
pub agrees_more : (negate : Bool) (ls : List ℕ) (i item next : ℕ) (room assumed new : List ℕ) → i < length ls → item ≡ get_or ls i item → next ≡ negated_if negate item → AgreeWithinRoom room assumed (take i (signed negate ls))
    → AgreeWithinRoom room new (next ∷ assumed) → AgreeWithinRoom room new (take (i + 1) (signed negate ls))
agrees_more negate ls i item next room assumed new inside is x so_far a =
    let inner : i < length (signed negate ls) = subst (λ n. i < n) (sym (length-signed negate ls)) inside in
    λ m r. a m r ∙ ap (λ b. eqb next m || b) (so_far m r) ∙ ap (λ y. eqb y m || is_among (take i (signed negate ls)) m) (lit_at negate ls i item next inside is x) ∙ among_last (signed negate ls) i inner m

-- once all literals were seen, those assumed agree with them, as far as there is room
pub agrees_all : (negate : Bool) (ls : List ℕ) (i : ℕ) (room assumed : List ℕ) → length ls ≤ i → AgreeWithinRoom room assumed (take i (signed negate ls)) → AgreeWithinRoom room assumed (signed negate ls)
agrees_all negate ls i room assumed h so_far =
    subst (λ xs. AgreeWithinRoom room assumed xs) (take_all i (signed negate ls) (subst (λ n. n ≤ i) (sym (length-signed negate ls)) h)) so_far
