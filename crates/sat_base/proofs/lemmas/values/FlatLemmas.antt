-- Lists in one buffer: appending a list, and the list at an index.
use Rattle.std.proofs.Common.{ℕ, zero, suc, max, ◌≡◌, ◌+◌, ◌-◌, ◌<◌, ◌≤◌, List, [], ◌∷◌, ◌++◌, length, get_or, take, drop, refl, sym, ◌∙◌, ap, arith}
use Rattle.std.specs.List.{between}
use Rattle.std.proofs.lemmas.List.{drop_at, take_all, take-append-le, length-append}
use Rattle.std.proofs.lemmas.Slice.{between_is}
use Rattle.std.proofs.Math.Seq.{drop-cons}
use Rattle.std.proofs.iter.runs.Sources.{from_front}
use Rattle.std.specs.Map.Iter.{TakesFirst, ShowsInOrder, deref}
use Rattle.sat_base.specs.values.Literals.{variable}
use Rattle.sat_base.specs.values.Formulas.{clause_var_count, clauses_var_count}
use Rattle.sat_base.specs.values.Flat.{pieces, AreEndsOfPieces}

pub length-pieces : {A : Type 0} (from : ℕ) (ends : List ℕ) (xs : List A) → length (pieces from ends xs) ≡ length ends
length-pieces from [] xs = refl
length-pieces from (e ∷ es) xs = ap suc (length-pieces e es xs)

pub AreEnds-le : {A : Type 0} (from : ℕ) (ends : List ℕ) (xs : List A) → AreEndsOfPieces from ends xs → from ≤ length xs
AreEnds-le from [] xs h = omega arith
AreEnds-le from (e ∷ es) xs h = let more : e ≤ length xs = AreEnds-le e es xs h.1 in omega (arith, h.0)

pub start_below : {A : Type 0} (from : ℕ) (ends : List ℕ) (xs : List A) (i : ℕ) → AreEndsOfPieces from ends xs → i < length ends → get_or (from ∷ ends) i 0 ≤ get_or ends i 0
start_below from [] xs i h inside = absurd (omega arith)
start_below from (e ∷ es) xs zero h inside = h.0
start_below from (e ∷ es) xs (suc i) h inside = start_below e es xs i h.1 (omega arith)

pub end_below : {A : Type 0} (from : ℕ) (ends : List ℕ) (xs : List A) (i : ℕ) → AreEndsOfPieces from ends xs → i < length ends → get_or ends i 0 ≤ length xs
end_below from [] xs i h inside = absurd (omega arith)
end_below from (e ∷ es) xs zero h inside = AreEnds-le e es xs h.1
end_below from (e ∷ es) xs (suc i) h inside = end_below e es xs i h.1 (omega arith)

pub piece_at : {A : Type 0} (from : ℕ) (ends : List ℕ) (xs : List A) (i : ℕ) → i < length ends → get_or (pieces from ends xs) i [] ≡ between (get_or (from ∷ ends) i 0) (get_or ends i 0) xs
piece_at from [] xs i inside = absurd (omega arith)
piece_at from (e ∷ es) xs zero inside = refl
piece_at from (e ∷ es) xs (suc i) inside = piece_at e es xs i (omega arith)

-- the index of a list is the index of its end
pub place_inside : {A : Type 0} (ends ds : List ℕ) (xs : List A) (lists : List (List A)) (i : ℕ) → ds ≡ ends → pieces 0 ends xs ≡ lists → i < length lists → (i < length ends) × (i ≤ length ds)
place_inside ends ds xs lists i e v h = let k = ap length e in let l = ap length v in let n = length-pieces 0 ends xs in (omega arith, omega arith)

last_piece : {A : Type 0} (xs c : List A) (from : ℕ) → length xs ≡ from → between from (length (xs ++ c)) (xs ++ c) ≡ c
last_piece xs c from e =
    let k : length c ≤ length (xs ++ c) - from = omega (arith, length-append xs c) in
    ap (take (length (xs ++ c) - from)) (drop_at xs c from e) ∙ take_all (length (xs ++ c) - from) c k

same_piece : {A : Type 0} (xs c : List A) (from end : ℕ) → end ≤ length xs → between from end (xs ++ c) ≡ between from end xs
same_piece xs c from end h = between_is (xs ++ c) from end ∙ ap (drop from) (take-append-le end xs c h) ∙ sym (between_is xs from end)

pub pieces-push : {A : Type 0} (from : ℕ) (ends : List ℕ) (xs c : List A) → AreEndsOfPieces from ends xs → pieces from (ends ++ length (xs ++ c) ∷ []) (xs ++ c) ≡ pieces from ends xs ++ c ∷ []
pieces-push from [] xs c h = ap (λ p. p ∷ []) (last_piece xs c from h)
pieces-push from (e ∷ es) xs c h =
    ap (λ p. p ∷ pieces e (es ++ length (xs ++ c) ∷ []) (xs ++ c)) (same_piece xs c from e (AreEnds-le e es xs h.1))
    ∙ ap (λ ps. between from e xs ∷ ps) (pieces-push e es xs c h.1)

pub AreEnds-push : {A : Type 0} (from : ℕ) (ends : List ℕ) (xs c : List A) → AreEndsOfPieces from ends xs → AreEndsOfPieces from (ends ++ length (xs ++ c) ∷ []) (xs ++ c)
AreEnds-push from [] xs c h = (omega (arith, length-append xs c), refl)
AreEnds-push from (e ∷ es) xs c h = (h.0, AreEnds-push e es xs c h.1)

pub ruleset flat = (length-pieces, start_below, end_below, piece_at, pieces-push, AreEnds-push)

-- counting the variable of the next literal
pub vars_next : (ls : List ℕ) (i count : ℕ) → i < length ls → max count (clause_var_count (drop i ls)) ≡ max (max count (variable (get_or ls i 0) + 1)) (clause_var_count (drop (i + 1) ls))
vars_next ls i count h = let e : i + 1 ≡ suc i = omega arith in rw (e, drop-cons ls i 0) (omega arith)

-- one more clause
pub vars_of_more : (cs : List (List ℕ)) (c : List ℕ) → clauses_var_count (cs ++ c ∷ []) ≡ max (clauses_var_count cs) (clause_var_count c)
vars_of_more [] c = omega arith
vars_of_more (d ∷ ds) c = let h = vars_of_more ds c in omega arith

-- a loop sees the lists in order
pub lists_in_order : {X : Type 0} → ShowsInOrder (deref {X = X})
lists_in_order = from_front (TakesFirst deref) deref (λ s. s) (λ s t h. ap length h.0) (λ s x t h. h)
