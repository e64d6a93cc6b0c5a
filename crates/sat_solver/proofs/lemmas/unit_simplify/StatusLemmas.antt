-- An assigned literal that is not true is false.
use Rattle.std.proofs.Common.{ℕ, ◌≡◌, Bool, true, false, not, Option, Some, None, List, refl}
use Rattle.sat_base.specs.values.Literals.{variable, is_positive}
use Rattle.sat_parts.specs.prop.Values.{value_of, IsTrueLit, IsFalseLit, IsUnassignedLit}

pub false_from_assigned : (values : List (Option Bool)) (l : ℕ) → (IsUnassignedLit values l → ⊥) → (IsTrueLit values l → ⊥) → IsFalseLit values l
false_from_assigned values l u t = go (value_of values (variable l)) (is_positive l) u t
  where
    go : (v : Option Bool) (b : Bool) → (v ≡ None → ⊥) → (v ≡ Some b → ⊥) → v ≡ Some (not b)
    go None b u t = absurd (u refl)
    go (Some true) true u t = absurd (t refl)
    go (Some true) false u t = refl
    go (Some false) true u t = refl
    go (Some false) false u t = absurd (t refl)
