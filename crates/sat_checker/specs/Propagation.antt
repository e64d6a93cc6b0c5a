-- When clauses are unit in turn, and when a clause passes the propagation check.
use Rattle.std.specs.Prelude.{ℕ, ◌≡◌, ◌≢◌, ◌⊎◌, true, false, List, [], ◌∷◌, ◌++◌, map}
use Rattle.std.specs.List.{AllByRecursion, list_any}
use Rattle.sat_base.specs.values.Literals.{negated}
use Rattle.sat_checker.specs.LiteralSets.{is_among, is_tautology}

-- `IsFalsified assumed clause` holds if every literal of the clause is false when the assumed literals are true.
abbrev pub IsFalsified : List ℕ → List ℕ → Type 0
IsFalsified assumed clause = AllByRecursion (λ l. is_among assumed (negated l) ≡ true) clause

-- `IsUnit assumed clause open_literal` holds if the literal is in the clause and has no value, and every other literal
-- of the clause is false.
pub record IsUnit (assumed clause : List ℕ) (open_literal : ℕ) : Type 0 where
  pub within : is_among clause open_literal ≡ true
  pub not_true : is_among assumed open_literal ≡ false
  pub not_false : is_among assumed (negated open_literal) ≡ false
  pub others : AllByRecursion (λ l. (l ≡ open_literal) ⊎ (is_among assumed (negated l) ≡ true)) clause

-- `UnitInTurn assumed clauses` holds if every clause but the last is unit once the open literals of earlier clauses are
-- assumed as well, and the last clause is then falsified. There is at least one clause.
abbrev pub UnitInTurn : List ℕ → List (List ℕ) → Type 0
UnitInTurn assumed [] = ⊥
UnitInTurn assumed (clause ∷ []) = IsFalsified assumed clause
UnitInTurn assumed (clause ∷ next ∷ rest) =
    (open_literal : ℕ) × IsUnit assumed clause open_literal × UnitInTurn (open_literal ∷ assumed) (next ∷ rest)

-- `IsSubsequence xs ys` holds if `xs` is `ys` with some elements left out.
abbrev pub IsSubsequence : List (List ℕ) → List (List ℕ) → Type 0
IsSubsequence [] ys = Unit {0}
IsSubsequence (x ∷ xs) [] = ⊥
IsSubsequence (x ∷ xs) (y ∷ ys) = ((x ≡ y) × IsSubsequence xs ys) ⊎ IsSubsequence (x ∷ xs) ys

-- The clauses of the buckets, one bucket after another.
abbrev pub clauses_in : List (List (List ℕ)) → List (List ℕ)
clauses_in [] = []
clauses_in (b ∷ bs) = b ++ clauses_in bs

-- `BucketsConflict assumed buckets` holds if some clauses of the first buckets are unit in turn, in the order given,
-- and the last of them is falsified. None of these first buckets is empty; later buckets do not matter.
pub record BucketsConflict (assumed : List ℕ) (buckets : List (List (List ℕ))) : Type 0 where
  pub first : List (List (List ℕ))
  pub rest : List (List (List ℕ))
  pub picked : List (List ℕ)
  pub split : buckets ≡ first ++ rest
  pub none_empty : AllByRecursion (λ b. b ≢ []) first
  pub chosen : IsSubsequence picked (clauses_in first)
  pub conflict : UnitInTurn assumed picked

-- `PassesCheck units clause buckets` holds if the clause has both signs of a variable, or one of its literals is a
-- unit, or the negated clause and the units lead to a conflict with clauses of the buckets, visited in order.
pub data PassesCheck (units clause : List ℕ) (buckets : List (List (List ℕ))) : Type 0 where
  tautology : is_tautology clause ≡ true → PassesCheck units clause buckets
  unit_true : list_any (is_among units) clause ≡ true → PassesCheck units clause buckets
  conflict : BucketsConflict (map negated clause ++ units) buckets → PassesCheck units clause buckets
