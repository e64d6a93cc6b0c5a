-- What accepted models and failed cores mean.
use Rattle.std.proofs.Common.{ℕ, ◌*◌, ◌/◌, ◌%◌, ◌≡◌, Bool, true, false, not, ◌||◌, cond, eqb, List, [], ◌∷◌, map, refl, sym, ◌∙◌, ap, subst, arith, ◌⊎◌, inl, inr}
use Rattle.std.proofs.lemmas.Bool.{or_cases, or_left, or_right, or_parts, both_ways, true≢false, false_from_ne_true, eqb-true, eqb-false, eq-eqb}
use Rattle.std.specs.List.{AllByRecursion, list_any}
use Rattle.sat_base.specs.values.Literals.{variable, negated}
use Rattle.sat_base.specs.values.Clauses.{Valuation, literal_true, clause_true, AllLitsTrue}
use Rattle.sat_checker.specs.LiteralSets.{is_among, mentions}
use Rattle.sat_checker.specs.Stored.{Stored, StoredClause, Satisfies, unit_literals}
use Rattle.sat_checker.specs.Accepts.{VariablesDistinct, FitsModel, ready_after}
use Rattle.sat_checker.specs.Laws.{FormulaMatchesSteps, UnsatMeansNoModel, ModelsExtend, CoresHaveNoModel, CoresAreAssumed}
use Rattle.sat_checker.proofs.lemmas.sets.Subsets.{each_true, some_of}
use Rattle.sat_checker.proofs.lemmas.propagation.Soundness.{negated_value, negated-negated, derived_hold, member_true}
use Rattle.sat_checker.proofs.lemmas.meaning.Clauses.{Kept}
use Rattle.sat_checker.proofs.lemmas.meaning.Meaning.{means_ready}

pub formula_is_fold : FormulaMatchesSteps
formula_is_fold steps a ok = let m = means_ready steps ok in (m.back a, m.to a)

pub unsat_means_none : UnsatMeansNoModel
unsat_means_none steps a ok e h = both_ways (ready_after steps).unsat ((means_ready steps ok).to a h).consistent e

among_true : (a : Valuation) (ls : List ℕ) (l : ℕ) → AllLitsTrue a ls → is_among ls l ≡ true → literal_true a l ≡ true
among_true a [] l h e = absurd (true≢false (sym e))
among_true a (x ∷ xs) l h e = elim (or_cases (eqb x l) (is_among xs l) e) [ inl s ↦ subst (λ y. literal_true a y ≡ true) (eqb-true x l s) h.0 | inr k ↦ among_true a xs l h.1 k ]

-- a clause with a listed literal is true where the listed ones are
listed_true : (a : Valuation) (ls c : List ℕ) → AllLitsTrue a ls → list_any (is_among ls) c ≡ true → clause_true a c ≡ true
listed_true a ls c h e = let s = some_of (is_among ls) c e in member_true a c s.literal s.within (among_true a ls s.literal h s.passes)

kept_by : (a : Valuation) (ls : List ℕ) (cs : List StoredClause) → AllLitsTrue a ls → AllByRecursion (λ c. (c.irredundant ≡ 0) ⊎ (list_any (is_among ls) c.literals ≡ true)) cs → Kept a cs
kept_by a ls [] h k = tt
kept_by a ls (c ∷ cs) h k = (elim k.0 [ inl z ↦ inl z | inr t ↦ inr (listed_true a ls c.literals h t) ], kept_by a ls cs h k.1)

fits_satisfies : (f : Stored) (ls : List ℕ) (a : Valuation) → FitsModel f ls → AllLitsTrue a ls → AllLitsTrue a (unit_literals f) → Satisfies f a
fits_satisfies f ls a m h u = record { consistent = m.consistent; kept = kept_by a ls f.clauses h m.clauses; units = u }

-- no literal and its negation are there where variables are apart
other_variable : (xs : List ℕ) (v l : ℕ) → mentions xs v ≡ false → is_among xs l ≡ true → variable l ≡ v → ⊥
other_variable [] v l n e s = true≢false (sym e)
other_variable (x ∷ xs) v l n e s =
    let parts = or_parts (eqb (variable x) v) (mentions xs v) n in
    elim (or_cases (eqb x l) (is_among xs l) e) [
      | inl k ↦ both_ways (eqb (variable x) v) parts.0 (eq-eqb (variable x) v (ap variable (eqb-true x l k) ∙ s))
      | inr k ↦ other_variable xs v l parts.1 k s
    ]

no_two : (xs : List ℕ) (l : ℕ) → VariablesDistinct xs → is_among xs l ≡ true → is_among xs (negated l) ≡ true → ⊥
no_two [] l p e f = true≢false (sym e)
no_two (x ∷ xs) l p e f =
    elim (or_cases (eqb x l) (is_among xs l) e) [
      | inl s ↦ elim (or_cases (eqb x (negated l)) (is_among xs (negated l)) f) [
        | inl t ↦ differ l (sym (eqb-true x l s) ∙ eqb-true x (negated l) t)
        | inr t ↦ other_variable xs (variable x) (negated l) p.0 t (half l ∙ ap variable (sym (eqb-true x l s)))
      ]
      | inr s ↦ elim (or_cases (eqb x (negated l)) (is_among xs (negated l)) f) [
        | inl t ↦ other_variable xs (variable x) l p.0 s (sym (half l) ∙ ap variable (sym (eqb-true x (negated l) t)))
        | inr t ↦ no_two xs l p.1 s t
      ]
    ]
  where
    differ : (l : ℕ) → l ≡ negated l → ⊥
    differ l e = omega arith

    half : (l : ℕ) → variable (negated l) ≡ variable l
    half l = omega arith

neither : (x y : Bool) → x ≡ false → y ≡ false → not (x || y) ≡ true
neither true y e f = sym e
neither false true e f = sym f
neither false false e f = refl

-- a literal that one of the lists has, and whose negation neither has, is true
made_true : (ls us : List ℕ) (l : ℕ) → (is_among ls l || is_among us l) ≡ true → is_among ls (negated l) ≡ false → is_among us (negated l) ≡ false → literal_true (λ x. is_among ls (2 * x) || is_among us (2 * x)) l ≡ true
made_true ls us l h n m = go (eqb (l % 2) 0) refl
  where
    go : (b : Bool) → eqb (l % 2) 0 ≡ b → cond b (is_among ls (2 * (l / 2)) || is_among us (2 * (l / 2))) (not (is_among ls (2 * (l / 2)) || is_among us (2 * (l / 2)))) ≡ true
    go true e =
        let z = eqb-true (l % 2) 0 e in
        let same : 2 * (l / 2) ≡ l = omega arith in
        ap (λ x. is_among ls x || is_among us x) same ∙ h
    go false e =
        let z = eqb-false (l % 2) 0 e in
        let same : 2 * (l / 2) ≡ negated l = omega arith in
        neither (is_among ls (2 * (l / 2))) (is_among us (2 * (l / 2))) (ap (is_among ls) same ∙ n) (ap (is_among us) same ∙ m)

each_among : (xs : List ℕ) → (Q : ℕ → Type 0) → ((x : ℕ) → is_among xs x ≡ true → Q x) → AllByRecursion Q xs
each_among [] Q f = tt
each_among (x ∷ xs) Q f = (f x (or_left (eqb x x) (is_among xs x) (eq-eqb x x refl)), each_among xs Q (λ y e. f y (or_right (eqb x y) (is_among xs y) e)))

among_all : (P : ℕ → Type 0) (xs : List ℕ) (x : ℕ) → AllByRecursion P xs → is_among xs x ≡ true → P x
among_all P [] x h e = absurd (true≢false (sym e))
among_all P (y ∷ ys) x h e = elim (or_cases (eqb y x) (is_among ys x) e) [ inl s ↦ subst P (eqb-true y x s) h.0 | inr m ↦ among_all P ys x h.1 m ]

module _ (ls us : List ℕ) (apart : VariablesDistinct ls) (units_apart : VariablesDistinct us) (agree : AllByRecursion (λ u. is_among ls (negated u) ≡ false) us) where
  listed : (l : ℕ) → is_among ls l ≡ true → literal_true (λ x. is_among ls (2 * x) || is_among us (2 * x)) l ≡ true
  listed l e =
      made_true ls us l (or_left (is_among ls l) (is_among us l) e) (false_from_ne_true (is_among ls (negated l)) (λ t. no_two ls l apart e t))
      (false_from_ne_true (is_among us (negated l)) (λ t. both_ways (is_among ls l) (ap (is_among ls) (sym (negated-negated l)) ∙ among_all (λ u. is_among ls (negated u) ≡ false) us (negated l) agree t) e))

  unit : (l : ℕ) → is_among us l ≡ true → literal_true (λ x. is_among ls (2 * x) || is_among us (2 * x)) l ≡ true
  unit l e =
      made_true ls us l (or_right (is_among ls l) (is_among us l) e) (among_all (λ u. is_among ls (negated u) ≡ false) us l agree e)
      (false_from_ne_true (is_among us (negated l)) (λ t. no_two us l units_apart e t))

  some_valuation : (a : Valuation) × AllLitsTrue a ls × AllLitsTrue a us
  some_valuation =
      let a : Valuation = λ x. is_among ls (2 * x) || is_among us (2 * x) in
      (a, each_among ls (λ l. literal_true (λ x. is_among ls (2 * x) || is_among us (2 * x)) l ≡ true) listed, each_among us (λ l. literal_true (λ x. is_among ls (2 * x) || is_among us (2 * x)) l ≡ true) unit)

pub models_extend : ModelsExtend
models_extend steps ls ok fits =
    let m = means_ready steps ok in
    ((λ a h u. m.back a (fits_satisfies (ready_after steps) ls a fits h u)), some_valuation ls (unit_literals (ready_after steps)) fits.apart m.coherent.apart fits.units)

all_negated : (a : Valuation) (ls : List ℕ) → AllLitsTrue a ls → clause_true a (map negated ls) ≡ true → ⊥
all_negated a [] h t = true≢false (sym t)
all_negated a (l ∷ ls) h t = elim (or_cases (literal_true a (negated l)) (clause_true a (map negated ls)) t) [
  | inl s ↦ flip (literal_true a l) h.0 (sym (negated_value a l) ∙ s)
  | inr s ↦ all_negated a ls h.1 s
]
  where
    flip : (b : Bool) → b ≡ true → not b ≡ true → ⊥
    flip true e f = true≢false (sym f)
    flip false e f = true≢false (sym e)

pub cores_fail : CoresHaveNoModel
cores_fail steps core hashes a ok k h t =
    let m = means_ready steps ok in
    let s : Satisfies (ready_after steps) a = m.to a h in
    all_negated a core t (derived_hold (ready_after steps) (map negated core) hashes a k.1 s.units (m.coherent.follows a s))

pub cores_assumed : CoresAreAssumed
cores_assumed f core hashes k = each_true (is_among f.assumed) core k.0
