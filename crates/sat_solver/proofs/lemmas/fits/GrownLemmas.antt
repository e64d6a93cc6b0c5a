-- Adding variables changes no binary clause.
use Rattle.std.proofs.Common.{ℕ, zero, suc, ◌+◌, ◌-◌, ◌≤◌, ◌≡◌, List, [], ◌∷◌, ◌++◌, take, replicate, length, get_or, refl, sym, ◌∙◌, ap, subst, arith, inl, inr}
use Rattle.std.proofs.lemmas.Bool.{cases_lt}
use Rattle.std.proofs.lemmas.List.{get_or-replicate, length-replicate, get_or_past, take_all}
use Rattle.std.specs.List.{Contains}
use Rattle.sat_base.specs.values.Literals.{negated}
use Rattle.sat_parts.specs.prop.Binaries.{Binaries, implied_by, with_binary_lists}
use Rattle.sat_solver.specs.session.SolverClauses.{binaries_of, binaries_from, binaries}
use Rattle.sat_solver.specs.session.Matching.{ArePaired}

-- A LIST EXTENDED BY DEFAULT VALUES

same_everywhere : {X : Type 0} → (m i : ℕ) (x : X) → get_or (replicate m x) i x ≡ x
same_everywhere m i x = elim (cases_lt i m) [
  | inl lt ↦ get_or-replicate m i x x lt
  | inr past ↦ (let n : length (replicate m x) ≡ m = length-replicate m x in get_or_past (replicate m x) i x (omega arith))
]

appended_reads : {X : Type 0} → (xs : List X) (m : ℕ) (x : X) (i : ℕ) → get_or (xs ++ replicate m x) i x ≡ get_or xs i x
appended_reads [] m x i = same_everywhere m i x
appended_reads (y ∷ ys) m x zero = refl
appended_reads (y ∷ ys) m x (suc i) = appended_reads ys m x i

grown_reads : {X : Type 0} → (xs : List X) (x : X) (n i : ℕ) → length xs ≤ n → get_or (take n xs ++ replicate (n - length xs) x) i x ≡ get_or xs i x
grown_reads xs x n i le = ap (λ ys. get_or (ys ++ replicate (n - length xs) x) i x) (take_all n xs le) ∙ appended_reads xs (n - length xs) x i

-- new literals have no binary clauses
none_from : (l m : ℕ) → binaries_from l (replicate m []) ≡ []
none_from l zero = refl
none_from l (suc m) = none_from (l + 1) m

pairs_appended : (l : ℕ) (implied : List (List ℕ)) (m : ℕ) → binaries_from l (implied ++ replicate m []) ≡ binaries_from l implied
pairs_appended l [] m = none_from l m
pairs_appended l (ms ∷ rest) m = ap (λ cs. binaries_of (negated l) ms ++ cs) (pairs_appended (l + 1) rest m)

pub binaries_grown : (n : ℕ) (x : Binaries) → length x.implied ≤ n → binaries (with_binary_lists n x).implied ≡ binaries x.implied
binaries_grown n x le = ap (λ ls. binaries (ls ++ replicate (n - length x.implied) [])) (take_all n x.implied le) ∙ pairs_appended 0 x.implied (n - length x.implied)

pub paired_grown : (n : ℕ) (x : Binaries) → length x.implied ≤ n → ArePaired x.implied → ArePaired (with_binary_lists n x).implied
paired_grown n x le h =
    let same : (l : ℕ) → implied_by (with_binary_lists n x).implied l ≡ implied_by x.implied l = λ l. grown_reads x.implied [] n l le in
    record {
      back = λ a b c. subst (λ (ls : List ℕ). Contains ls a) (sym (same (negated b))) (h.back a b (subst (λ (ls : List ℕ). Contains ls b) (same (negated a)) c));
      apart = λ a b c. h.apart a b (subst (λ (ls : List ℕ). Contains ls b) (same (negated a)) c);
    }
