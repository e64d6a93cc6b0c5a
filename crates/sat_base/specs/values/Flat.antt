-- Lists in one buffer: their items one after another, and the end of every list.
use Rattle.std.specs.Prelude.{ℕ, ◌≡◌, ◌≤◌, List, [], ◌∷◌, length, slice_range}

-- the list `xs` cut into parts: the first begins at position `from`, each ends before its position in `ends`, and the
-- next begins there
abbrev pub pieces : {A : Type 0} → ℕ → List ℕ → List A → List (List A)
pieces from [] xs = []
pieces from (end ∷ ends) xs = slice_range xs from end ∷ pieces end ends xs

-- `AreEndsOfPieces from ends xs` holds if the places `ends` ascend from `from` on (equal ones are allowed), and the
-- last is the length of the list `xs`.
abbrev pub AreEndsOfPieces : {A : Type 0} → ℕ → List ℕ → List A → Type 0
AreEndsOfPieces from [] xs = length xs ≡ from
AreEndsOfPieces from (end ∷ ends) xs = (from ≤ end) × AreEndsOfPieces end ends xs
