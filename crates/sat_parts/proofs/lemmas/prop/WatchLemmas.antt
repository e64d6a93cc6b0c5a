-- Lists of watches that a walk compacts.
use Rattle.std.proofs.Common.{ℕ, ◌≡◌, ◌+◌, ◌-◌, ◌<◌, ◌≤◌, List, [], ◌∷◌, ◌++◌, length, get_or, set, take, drop, sym, ap, ◌∙◌, arith, length-drop, append_assoc, get_or-set_same}
use Rattle.std.proofs.lemmas.List.{take_more_set, take_more, get_or-drop, get_or_read, set-set, set-get_or, take_at, length_push}
use Rattle.sat_parts.specs.declared.prop.watch.Watch.{Watch}
use Rattle.sat_parts.specs.prop.WatchLists.{no_watch}

-- one more watch moves down
pub cut_more : (items old : List Watch) (w : Watch) (kept at to from : ℕ) →
    to + at ≡ kept + from → at ≤ from → kept ≤ at → from < length items → length items ≡ length old →
    w ≡ get_or items from w → get_or items from no_watch ≡ get_or old from no_watch →
    take to items ≡ take kept old ++ take (from - at) (drop at old) →
    take (to + 1) (set items to w) ≡ take kept old ++ take (from + 1 - at) (drop at old)
cut_more items old w kept at to from place following order lt size read rest moved =
    let n : from + 1 - at ≡ (from - at) + 1 = omega arith in
    let len : length (drop at old) ≡ length old - at = length-drop at old in
    let same : w ≡ get_or (drop at old) (from - at) no_watch =
    get_or_read items from w lt read no_watch ∙ rest
    ∙ ap (λ k. get_or old k no_watch) (omega arith) ∙ sym (get_or-drop at old (from - at) no_watch) in
    take_more_set items to w (omega arith)
    ∙ ap (λ (xs : List Watch). xs ++ w ∷ []) moved
    ∙ append_assoc (take kept old) (take (from - at) (drop at old)) (w ∷ [])
    ∙ ap (λ (xs : List Watch). take kept old ++ xs)
    (ap (λ (x : Watch). take (from - at) (drop at old) ++ x ∷ []) same
    ∙ sym (take_more (drop at old) (from - at) no_watch (omega arith))
    ∙ ap (λ k. take k (drop at old)) (sym n))

-- removing the item that was just appended restores the lists
pub pushed_back : {A : Type 0} (lists : List (List A)) (l : ℕ) (x : A) → l < length lists →
    set (set lists l (get_or lists l [] ++ x ∷ [])) l (take (length (get_or (set lists l (get_or lists l [] ++ x ∷ [])) l []) - 1) (get_or (set lists l (get_or lists l [] ++ x ∷ [])) l [])) ≡ lists
pushed_back {A} lists l x lt =
    let xs : List A = get_or lists l [] in
    let e : get_or (set lists l (get_or lists l [] ++ x ∷ [])) l [] ≡ get_or lists l [] ++ x ∷ [] = get_or-set_same lists l (get_or lists l [] ++ x ∷ []) [] lt in
    let n : length (get_or lists l [] ++ x ∷ []) ≡ length (get_or lists l []) + 1 = length_push (get_or lists l []) x in
    let t : take (length (get_or lists l [] ++ x ∷ []) - 1) (get_or lists l [] ++ x ∷ []) ≡ get_or lists l [] = take_at (get_or lists l []) (x ∷ []) (length (get_or lists l [] ++ x ∷ []) - 1) (omega arith) in
    set-set lists l (get_or lists l [] ++ x ∷ []) (take (length (get_or (set lists l (get_or lists l [] ++ x ∷ [])) l []) - 1) (get_or (set lists l (get_or lists l [] ++ x ∷ [])) l []))
    ∙ ap (λ (ys : List A). set lists l (take (length ys - 1) ys)) e
    ∙ ap (λ (ys : List A). set lists l ys) t
    ∙ set-get_or lists l []
