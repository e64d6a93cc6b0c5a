-- Literals of names as literals of their variables.
use Rattle.std.specs.Prelude.{ℕ, Bool, Option, List, [], ◌∷◌}
use Rattle.std.specs.Bool.{MatchBool}
use Rattle.std.specs.List.{AllByRecursion}
use Rattle.sat_base.specs.script.Script.{Literal, Among}
use Rattle.sat_checker.specs.matching.Expected.{IsLiteralOf, EachHasItsLiteral}

-- `AllAmong ls others` holds if every literal code of `ls` is in `others`.
abbrev pub AllAmong : List ℕ → List ℕ → Type 0
AllAmong ls others = AllByRecursion (λ l. Among l others) ls

-- `AreSpelt names ls codes` holds if `codes` are the proof literals of the literals `ls`, one for each, in order.
-- `names` gives the proof variable of every name.
abbrev pub AreSpelt : (ℕ → Option ℕ) → List Literal → List ℕ → Type 0
AreSpelt names [] [] = Unit {0}
AreSpelt names [] (c ∷ cs) = ⊥
AreSpelt names (l ∷ ls) [] = ⊥
AreSpelt names (l ∷ ls) (c ∷ cs) = IsLiteralOf names l c × AreSpelt names ls cs

-- `Decides answer IsSo` holds if `answer` is true and `IsSo` holds, or it is false and `IsSo` does not hold.
abbrev pub Decides : Bool → Type 0 → Type 0
Decides answer IsSo = MatchBool answer IsSo (IsSo → ⊥)

-- `ContainsEach line ask` holds if every literal of `ask` is in `line`.
abbrev pub ContainsEach : List Literal → List Literal → Type 0
ContainsEach line ask = AllByRecursion (λ l. Among l line) ask

-- `DecidesSpelling answer names ls spelt` holds if `spelt` are the proof literals of `ls`, one for each, in order; or
-- if `answer` is false, and some literal of `ls` has none, because its name has no proof variable in `names`.
abbrev pub DecidesSpelling : Bool → (ℕ → Option ℕ) → List Literal → List ℕ → Type 0
DecidesSpelling answer names ls spelt = MatchBool answer (AreSpelt names ls spelt) ((codes : List ℕ) → EachHasItsLiteral names ls codes → ⊥)
