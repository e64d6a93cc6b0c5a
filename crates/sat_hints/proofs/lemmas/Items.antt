-- Items that are written one after another.
use Rattle.std.proofs.Common.{ℕ, ◌≤◌, ◌≡◌, List, [], ◌∷◌, ◌++◌, length, drop, decimal, refl, sym, ◌∙◌, ap, append_assoc, append-nil}
use Rattle.std.specs.Fmt.{digits}
use Rattle.sat_hints.specs.Lines.{spaced_words}
use Rattle.sat_hints.proofs.lemmas.Putting.{no_word}

-- one more item was written
pub item_more : (left part more front now whole : List ℕ) → left ≡ part ++ more → front ++ left ≡ whole → now ≡ front ++ part → now ++ more ≡ whole
item_more left part more front now whole l e n = ap (λ t. t ++ more) n ∙ append_assoc front part more ∙ ap (λ t. front ++ t) (sym l) ∙ e

-- all items were written
pub items_all : (word : ℕ → List ℕ) (xs : List ℕ) (i : ℕ) (front whole : List ℕ) → length xs ≤ i → front ++ spaced_words word (drop i xs) ≡ whole → front ≡ whole
items_all word xs i front whole h e = sym (append-nil front) ∙ ap (λ t. front ++ t) (sym (no_word word xs i h)) ∙ e

pub largest_text : decimal 1844674407370955161 ++ (54 ∷ []) ≡ decimal 18446744073709551616
unfolding digits
largest_text = refl
