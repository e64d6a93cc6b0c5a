-- A map of variables after a change.
use Rattle.std.proofs.Common.{◌≡◌, ◌≢◌, ℕ, ◌<◌, Option, None, List, length, true, false, if◌then◌else◌, inl, inr, refl, ap, ◌∙◌, sym, arith}
use Rattle.std.proofs.lemmas.List.{ext_get_or}
use Rattle.std.proofs.lemmas.Bool.{cases_eq}
use Rattle.std.proofs.lemmas.Bool.Decides.{nat_tests}
use Rattle.std.specs.Bool.{◌==◌}
use Rattle.sat_store.specs.variables.Maps.{target, SetsTarget}

same_test : (a b : ℕ) → a ≡ b → (a == b) ≡ true
same_test a b e = grind (arith, nat_tests)

other_test : (a b : ℕ) → a ≢ b → (a == b) ≡ false
other_test a b d = grind (arith, nat_tests)

-- adding a target and removing it again restores the map
pub cut_back : (a b c : List (Option ℕ)) (from : ℕ) (into : Option ℕ) → target a from ≡ None → SetsTarget a b from into → length c ≡ length a → ((v : ℕ) → v < length a → target c v ≡ (if v == from then None else target b v)) → c ≡ a
cut_back a b c from into free puts count cuts = ext_get_or None c a count (λ v within. elim (cases_eq v from) [
  | inl same ↦ cuts v (omega arith) ∙ rw (same_test v from same) (sym free ∙ ap (λ (x : ℕ). target a x) (sym same))
  | inr differ ↦ cuts v (omega arith) ∙ rw (other_test v from differ) (puts v ∙ rw (other_test v from differ) refl)
])
