-- Lists of literals without repeats, and sorted lists.
use Rattle.std.specs.Prelude.{ℕ, ◌≡◌, ◌<◌, false, List, [], ◌∷◌}
use Rattle.std.specs.List.{AllByRecursion}
use Rattle.sat_checker.specs.LiteralSets.{is_among}

-- `NoRepeats literals` holds if no literal occurs twice.
abbrev pub NoRepeats : List ℕ → Type 0
NoRepeats [] = Unit {0}
NoRepeats (l ∷ ls) = (is_among ls l ≡ false) × NoRepeats ls

-- `IsIncreasing ls` holds if every number is less than all later ones.
abbrev pub IsIncreasing : List ℕ → Type 0
IsIncreasing [] = Unit {0}
IsIncreasing (l ∷ ls) = AllByRecursion (λ m. l < m) ls × IsIncreasing ls
