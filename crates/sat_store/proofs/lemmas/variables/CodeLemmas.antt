-- Targets and their codes.
use Rattle.std.proofs.Common.{◌≡◌, ◌≢◌, ◌+◌, ◌<◌, ℕ, Option, Some, None, List, length, get_or, take, set, true, false, if◌then◌else◌, inl, inr, ap, ◌∙◌, sym, get_or-set_same, get_or-set_other, arith}
use Rattle.std.proofs.Math.ListN.{get_or-map}
use Rattle.std.proofs.lemmas.List.{get_or-take}
use Rattle.std.proofs.lemmas.Bool.{cases_eq}
use Rattle.std.proofs.lemmas.Bool.Decides.{nat_tests}
use Rattle.std.specs.Bool.{◌==◌}
use Rattle.sat_store.specs.variables.Maps.{target, SetsTarget}
use Rattle.sat_store.specs.variables.Codes.{decoded_target, targets_of}

pub target_decoded : (xs : List ℕ) (v : ℕ) → target (targets_of xs) v ≡ decoded_target (get_or xs v 0)
target_decoded xs v = get_or-map decoded_target xs v 0

same_test : (a b : ℕ) → a ≡ b → (a == b) ≡ true
same_test a b e = grind (arith, nat_tests)

other_test : (a b : ℕ) → a ≢ b → (a == b) ≡ false
other_test a b d = grind (arith, nat_tests)

pub decoded_more : (n : ℕ) → decoded_target (n + 1) ≡ Some n
decoded_more n = grind (arith, nat_tests)

-- one code is overwritten, and the others stay
pub code_put : (xs ys : List ℕ) (from code : ℕ) (into : Option ℕ) → decoded_target code ≡ into → ((v : ℕ) → get_or ys v 0 ≡ get_or xs v 0) → from < length ys → SetsTarget (targets_of xs) (targets_of (set ys from code)) from into
code_put xs ys from code into valid kept within v = target_decoded (set ys from code) v ∙ elim (cases_eq v from) [
  | inl same ↦ rw (same_test v from same) (ap (λ (u : ℕ). decoded_target (get_or (set ys from code) u 0)) same ∙ ap decoded_target (get_or-set_same ys from code 0 within) ∙ valid)
  | inr differ ↦
      rw (other_test v from differ)
      (ap decoded_target (get_or-set_other ys from v code 0 differ ∙ kept v) ∙ sym (target_decoded xs v))
]

-- the targets below the cut stay
pub code_cut : (xs : List ℕ) (count v : ℕ) → v < count → target (targets_of (take count xs)) v ≡ target (targets_of xs) v
code_cut xs count v below = target_decoded (take count xs) v ∙ ap decoded_target (get_or-take count xs v 0 below) ∙ sym (target_decoded xs v)

-- the targets below the cut stay, except for one that was removed
pub code_cut_out : (xs : List ℕ) (new : List (Option ℕ)) (count from : ℕ) → SetsTarget (targets_of (take count xs)) new from None → (v : ℕ) → v < count → target new v ≡ (if v == from then None else target (targets_of xs) v)
code_cut_out xs new count from puts v below = puts v ∙ ap (λ (o : Option ℕ). if v == from then None else o) (code_cut xs count v below)
