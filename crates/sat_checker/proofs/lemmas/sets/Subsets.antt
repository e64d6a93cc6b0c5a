-- Parts of lists of literals.
use Rattle.std.proofs.Common.{ℕ, ◌≡◌, Bool, true, eqb, List, [], ◌∷◌, refl, sym, ◌∙◌, subst, inl, inr}
use Rattle.std.proofs.lemmas.Bool.{or_cases, or_left, or_right, and_parts, true≢false, eqb-true, eq-eqb}
use Rattle.std.specs.List.{AllByRecursion, list_any, list_all}
use Rattle.sat_base.specs.values.Clauses.{Valuation, literal_true, clause_true}
use Rattle.sat_checker.specs.LiteralSets.{is_among, is_subset_of, canonical}
use Rattle.sat_checker.proofs.lemmas.sets.Canonical.{canonical_among}

pub all_true : (test : ℕ → Bool) (ls : List ℕ) → ((l : ℕ) → is_among ls l ≡ true → test l ≡ true) → list_all test ls ≡ true
all_true test [] h = refl
all_true test (l ∷ ls) h =
    let first : test l ≡ true = h l (or_left (eqb l l) (is_among ls l) (eq-eqb l l refl)) in
    let rest : list_all test ls ≡ true = all_true test ls (λ m k. h m (or_right (eqb l m) (is_among ls m) k)) in
    rw (first, rest) refl

pub each_true : (test : ℕ → Bool) (ls : List ℕ) → list_all test ls ≡ true → AllByRecursion (λ l. test l ≡ true) ls
each_true test [] h = tt
each_true test (l ∷ ls) h = let p = and_parts (test l) (list_all test ls) h in (p.0, each_true test ls p.1)

-- a clause is a part of its canonical form
pub subset_canonical : (ls : List ℕ) → is_subset_of ls (canonical ls) ≡ true
subset_canonical ls = all_true (is_among (canonical ls)) ls (λ l h. canonical_among ls l ∙ h)

-- `list_any` is true if a member passes the test
pub any_true : (test : ℕ → Bool) (ls : List ℕ) (l : ℕ) → is_among ls l ≡ true → test l ≡ true → list_any test ls ≡ true
any_true test [] l m t = absurd (true≢false (sym m))
any_true test (x ∷ xs) l m t =
    elim (or_cases (eqb x l) (is_among xs l) m) [ inl e ↦ or_left (test x) (list_any test xs) (subst (λ y. test y ≡ true) (sym (eqb-true x l e)) t) | inr k ↦ or_right (test x) (list_any test xs) (any_true test xs l k t) ]

pub record SomeOf (test : ℕ → Bool) (ls : List ℕ) : Type 0 where
  pub literal : ℕ
  pub within : is_among ls literal ≡ true
  pub passes : test literal ≡ true

pub some_of : (test : ℕ → Bool) (ls : List ℕ) → list_any test ls ≡ true → SomeOf test ls
some_of test [] h = absurd (true≢false (sym h))
some_of test (x ∷ xs) h =
    elim (or_cases (test x) (list_any test xs) h) [
      | inl t ↦ record { literal = x; within = or_left (eqb x x) (is_among xs x) (eq-eqb x x refl); passes = t }
      | inr k ↦ let r = some_of test xs k in record { literal = r.literal; within = or_right (eqb x r.literal) (is_among xs r.literal) r.within; passes = r.passes }
    ]

pub any_canonical : (test : ℕ → Bool) (ls : List ℕ) → list_any test ls ≡ true → list_any test (canonical ls) ≡ true
any_canonical test ls h = let s = some_of test ls h in any_true test (canonical ls) s.literal (canonical_among ls s.literal ∙ s.within) s.passes

-- a clause is true if a part of it is
pub superset_true : (a : Valuation) (part ls : List ℕ) → is_subset_of part ls ≡ true → clause_true a part ≡ true → clause_true a ls ≡ true
superset_true a [] ls s t = absurd (true≢false (sym t))
superset_true a (x ∷ xs) ls s t =
    let p = and_parts (is_among ls x) (is_subset_of xs ls) s in
    elim (or_cases (literal_true a x) (clause_true a xs) t) [ inl k ↦ member_true ls x p.0 k | inr k ↦ superset_true a xs ls p.1 k ]
  where
    member_true : (ms : List ℕ) (l : ℕ) → is_among ms l ≡ true → literal_true a l ≡ true → clause_true a ms ≡ true
    member_true [] l m k = absurd (true≢false (sym m))
    member_true (y ∷ ys) l m k =
        elim (or_cases (eqb y l) (is_among ys l) m) [
          | inl e ↦ or_left (literal_true a y) (clause_true a ys) (subst (λ z. literal_true a z ≡ true) (sym (eqb-true y l e)) k)
          | inr n ↦ or_right (literal_true a y) (clause_true a ys) (member_true ys l n k)
        ]
