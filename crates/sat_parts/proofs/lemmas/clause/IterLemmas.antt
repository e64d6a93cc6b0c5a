-- The first live clause of a list.
use Rattle.std.proofs.Common.{ℕ, ◌≡◌, ◌+◌, ◌-◌, ◌<◌, true, List, [], ◌∷◌, ◌++◌, length, get_or, take, drop, sym, ap, ◌∙◌, arith, length-drop}
use Rattle.std.proofs.lemmas.Bool.{cond-true}
use Rattle.std.proofs.lemmas.List.{drop_more, take_all, take-append-drop}
use Rattle.std.proofs.lemmas.List.Elements.{filter-append}
use Rattle.sat_parts.specs.clause.Db.{is_live, live_refs}

-- the first live clause, given that no clause before it is live, and the clauses after it
pub live_rest : (words refs : List ℕ) (at x : ℕ) → live_refs words (take at refs) ≡ [] → at < length refs → is_live words (get_or refs at 0) ≡ true → x ≡ get_or refs at 0 →
    live_refs words refs ≡ x ∷ live_refs words (take (length refs - (at + 1)) (drop (at + 1) refs))
live_rest words refs at x none lt live is =
    let n : length (drop (at + 1) refs) ≡ length refs - (at + 1) = length-drop (at + 1) refs in
    let rest : take (length refs - (at + 1)) (drop (at + 1) refs) ≡ drop (at + 1) refs = take_all (length refs - (at + 1)) (drop (at + 1) refs) (omega arith) in
    let whole : live_refs words refs ≡ live_refs words (take at refs) ++ live_refs words (drop at refs) =
    sym (ap (λ (xs : List ℕ). live_refs words xs) (take-append-drop at refs)) ∙ filter-append (is_live words) (take at refs) (drop at refs) in
    let head : live_refs words (drop at refs) ≡ get_or refs at 0 ∷ live_refs words (drop (at + 1) refs) =
    ap (λ (xs : List ℕ). live_refs words xs) (drop_more refs at 0 lt)
    ∙ cond-true (is_live words (get_or refs at 0)) (get_or refs at 0 ∷ live_refs words (drop (at + 1) refs)) (live_refs words (drop (at + 1) refs)) live in
    whole
    ∙ ap (λ (xs : List ℕ). xs ++ live_refs words (drop at refs)) none
    ∙ head
    ∙ ap (λ (y : ℕ). y ∷ live_refs words (drop (at + 1) refs)) (sym is)
    ∙ ap (λ (xs : List ℕ). x ∷ live_refs words xs) (sym rest)
