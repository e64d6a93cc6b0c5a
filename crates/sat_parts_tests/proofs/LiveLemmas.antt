-- A clause of the list is live if it is not deleted.
use Rattle.std.proofs.Common.{ℕ, ◌≡◌, ◌<◌, true, false, not, List, length, get_or, take, sym, ap, ◌∙◌, subst}
use Rattle.std.specs.List.{Contains}
use Rattle.sat_store.specs.clause.Buffer.{header_at}
use Rattle.sat_parts.specs.clause.Db.{is_live, live_refs}
use Rattle.sat_parts.proofs.lemmas.clause.GcLemmas.{live_nth}
use Rattle.sat_parts.proofs.lemmas.clause.ListLemmas.{place_in}

-- a clause of the list that is not deleted is live
pub live_there : (words refs : List ℕ) (i p o : ℕ) → i < length refs → p ≡ get_or refs i 0 → p ≡ o → (header_at words p).deleted ≡ false → Contains (live_refs words refs) o
live_there words refs i p o lt at same kept =
    let live : is_live words (get_or refs i 0) ≡ true = ap (λ z. is_live words z) (sym at) ∙ ap (λ b. not b) kept in
    let nth = live_nth words refs i lt live in
    subst (λ z. Contains (live_refs words refs) z) (nth.0 ∙ sym at ∙ same) (place_in (live_refs words refs) (length (live_refs words (take i refs))) nth.1)
