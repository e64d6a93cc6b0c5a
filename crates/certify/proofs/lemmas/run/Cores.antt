-- A core whose literals are sorted.
use Rattle.std.proofs.Common.{ℕ, ◌+◌, ◌*◌, ◌/◌, ◌%◌, ◌≡◌, ◌∙◌, ◌<◌, Bool, true, false, cond, eqb, Option, List, [], ◌∷◌, map, refl, sym, ap, subst, arith, inl, inr}
use Rattle.std.proofs.lemmas.Bool.Decides.{nat_tests}
use Rattle.std.specs.List.{AllByRecursion}
use Rattle.sat_base.specs.values.Clauses.{Valuation, AllLitsTrue, AllClausesTrue, literal_true}
use Rattle.sat_base.specs.script.Script.{Literal, Among, AreSortedLiterals, sort_key}
use Rattle.sat_base.specs.script.ScriptState.{ScriptState, IsRightCore, identity_lit}
use Rattle.sat_checker.specs.LiteralSets.{canonical}
use Rattle.sat_checker.specs.SortedSets.{IsIncreasing}
use Rattle.sat_checker.specs.matching.Expected.{IsSameLiteralSet, IsLiteralOf}
use Rattle.sat_checker.proofs.lemmas.sets.Canonical.{canonical_among, canonical_increasing}
use Rattle.sat_base.proofs.lemmas.script.LiteralValues.{all_at, all_from, all_map, true_mapped, mapped_true}
use Rattle.certify.specs.answers.AnswerForms.{named_literal, named_literals}
use Rattle.certify.proofs.lemmas.confirm.LiteralSets.{among_is, is_from_among}

-- a sorted list contains the same literals, without repeats
pub in_canonical : (xs : List ℕ) (x : ℕ) → Among x xs → Among x (canonical xs)
in_canonical xs x m = among_is (canonical xs) x (canonical_among xs x ∙ is_from_among xs x m)

pub from_canonical : (xs : List ℕ) (x : ℕ) → Among x (canonical xs) → Among x xs
from_canonical xs x m = among_is xs x (sym (canonical_among xs x) ∙ is_from_among (canonical xs) x m)

named_in : (xs : List ℕ) (x : ℕ) → Among x xs → Among (named_literal x) (named_literals xs)
named_in [] x m = absurd m
named_in (y ∷ ys) x m = elim m [ inl e ↦ inl (ap named_literal e) | inr l ↦ inr (named_in ys x l) ]

named_from : (xs : List ℕ) (l : Literal) → Among l (named_literals xs) → (x : ℕ) × Among x xs × (l ≡ named_literal x)
named_from [] l m = absurd m
named_from (y ∷ ys) l m = elim m [ inl e ↦ (y, inl refl, e) | inr k ↦ let r = named_from ys l k in (r.0, inr r.1, r.2) ]

pub named_canonical : (xs : List ℕ) (l : Literal) → Among l (named_literals xs) → Among l (named_literals (canonical xs))
named_canonical xs l m = let r = named_from xs l m in subst (λ k. Among k (named_literals (canonical xs))) (sym r.2) (named_in (canonical xs) r.0 (in_canonical xs r.0 r.1))

pub canonical_named : (xs : List ℕ) (l : Literal) → Among l (named_literals (canonical xs)) → Among l (named_literals xs)
canonical_named xs l m = let r = named_from (canonical xs) l m in subst (λ k. Among k (named_literals xs)) (sym r.2) (named_in xs r.0 (from_canonical xs r.0 r.1))

-- literals are in order exactly if their codes are
place_of : (x : ℕ) → sort_key (named_literal x) ≡ x + 2
place_of x = go (eqb (x % 2) 0) refl
  where
    go : (b : Bool) → eqb (x % 2) 0 ≡ b → 2 * (x / 2 + 1) + cond b 0 1 ≡ x + 2
    go true e = let z : x % 2 ≡ 0 = grind (arith, nat_tests) in omega arith
    go false e = let z : 0 < x % 2 = grind (arith, nat_tests) in omega arith

in_order : (xs : List ℕ) → IsIncreasing xs → AreSortedLiterals (named_literals xs)
in_order [] h = tt
in_order (x ∷ []) h = tt
in_order (x ∷ y ∷ ys) h = ((let a = place_of x in let b = place_of y in let lt = h.0 in omega arith), in_order (y ∷ ys) h.1)

-- a core in any order is correct once its literals are sorted
pub right_in_order : (j : ScriptState) (ask : List Literal) (core : List ℕ) → AllByRecursion (λ l. Among l ask) (named_literals core)
    → ((a : Valuation) → AllLitsTrue a (map (identity_lit j) (named_literals core)) → AllClausesTrue a j.clauses → ⊥) → IsRightCore j ask (named_literals (canonical core))
right_in_order j ask core among none = record {
  order = in_order (canonical core) (canonical_increasing core);
  among = all_from (λ l. Among l ask) (named_literals (canonical core)) (λ l m. all_at (λ l. Among l ask) l (named_literals core) among (canonical_named core l m));
  none = λ a h k. none a
      (true_mapped a (identity_lit j) (named_literals core)
      (all_from (λ l. literal_true a (identity_lit j l) ≡ true) (named_literals core) (λ l m. all_at (λ l. literal_true a (identity_lit j l) ≡ true) l (named_literals (canonical core)) (mapped_true a (identity_lit j) (named_literals (canonical core)) h) (named_canonical core l m)))) k;
}

pub spelt_in_order : (names : ℕ → Option ℕ) (core codes : List ℕ) → IsSameLiteralSet names (named_literals core) codes → IsSameLiteralSet names (named_literals (canonical core)) codes
spelt_in_order names core codes h = (
  all_from (λ l. (code : ℕ) × IsLiteralOf names l code × Among code codes) (named_literals (canonical core)) (λ l m. all_at (λ l. (code : ℕ) × IsLiteralOf names l code × Among code codes) l (named_literals core) h.0 (canonical_named core l m)),
  all_map (λ code. (l : Literal) × IsLiteralOf names l code × Among l (named_literals core)) (λ code. (l : Literal) × IsLiteralOf names l code × Among l (named_literals (canonical core))) codes (λ code x. (x.0, x.1, named_canonical core x.0 x.2)) h.1,
)
