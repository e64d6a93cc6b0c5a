-- When a valuation satisfies clauses.
use Rattle.std.specs.Prelude.{ℕ, ◌==◌, ◌≡◌, Bool, true, false, not, ◌||◌, List, [], ◌∷◌, if◌then◌else◌}
use Rattle.std.specs.List.{AllByRecursion}
use Rattle.sat_base.specs.values.Literals.{is_positive, variable}

-- a truth value for each variable
abbrev pub Valuation : Type 0
Valuation = ℕ → Bool

-- `literal_true a l` is true if the literal `l` is true in the valuation `a`.
abbrev pub literal_true : Valuation → ℕ → Bool
literal_true a l = if is_positive l then a (variable l) else not (a (variable l))

-- `clause_true a ls` is true if at least one literal of the clause `ls` is true in the valuation `a`.
abbrev pub clause_true : Valuation → List ℕ → Bool
clause_true a [] = false
clause_true a (l ∷ ls) = literal_true a l || clause_true a ls

-- the valuation `a` with the value of the variable `v` flipped
abbrev pub flipped : ℕ → Valuation → Valuation
flipped v a = λ x. if x == v then not (a x) else a x

-- `AllLitsTrue a ls` holds if all literals of `ls` are true in the valuation `a`.
abbrev pub AllLitsTrue : Valuation → List ℕ → Type 0
AllLitsTrue a = AllByRecursion (λ l. literal_true a l ≡ true)

-- `AllClausesTrue a cs` holds if the valuation `a` satisfies all clauses of `cs`.
abbrev pub AllClausesTrue : Valuation → List (List ℕ) → Type 0
AllClausesTrue a = AllByRecursion (λ c. clause_true a c ≡ true)
