-- The values indexed by literal after a variable's value changed.
use Rattle.std.proofs.Common.{ℕ, ◌≡◌, ◌+◌, ◌*◌, ◌<◌, inl, inr, Bool, true, false, Option, None, List, length, get_or, set, sym, ap, ◌∙◌, arith, length-set, get_or-set_same, get_or-set_other}
use Rattle.std.proofs.lemmas.Bool.{cases_eq, cases_Bool}
use Rattle.std.proofs.lemmas.Bool.Decides.{nat_tests}
use Rattle.sat_base.specs.values.Literals.{variable, is_positive}
use Rattle.sat_parts.specs.declared.prop.lit_values.LitValue.{LitValue}
use Rattle.sat_parts.specs.declared.prop.lit_values.LitValue.TheVariants.{Open}
use Rattle.sat_parts.specs.prop.Values.{value_of}
use Rattle.sat_parts.specs.prop.LitValues.{MirrorsValues, signed_value, with_lit_value}

pub mirrors_set : (values : List (Option Bool)) (codes : List LitValue) (v : ℕ) (value : Option Bool) → MirrorsValues values codes → v < length values →
    MirrorsValues (set values v value) (with_lit_value v value codes)
mirrors_set values codes v value h lt =
    let a : LitValue = signed_value value true in
    let b : LitValue = signed_value value false in
    let one : length (set codes (2 * v) (signed_value value true)) ≡ length codes = length-set codes (2 * v) (signed_value value true) in
    let size : length (set values v value) ≡ length values = length-set values v value in
    let count : length codes ≡ 2 * length values = h.count in
    record {
      count = omega (arith, length-set (set codes (2 * v) (signed_value value true)) (2 * v + 1) (signed_value value false));
      each = λ l below. elim (cases_eq (variable l) v) [
        | inl e ↦
            let now : value_of (set values v value) (variable l) ≡ value = ap (λ (u : ℕ). value_of (set values v value) u) e ∙ get_or-set_same values v value None lt in
            elim (cases_Bool (is_positive l)) [
              | inl p ↦
                  let at : l ≡ 2 * v = grind (arith, nat_tests) in
                  rw (now, p) (ap (λ (k : ℕ). get_or (with_lit_value v value codes) k Open) at
                  ∙ get_or-set_other (set codes (2 * v) a) (2 * v + 1) (2 * v) b Open (omega arith) ∙ get_or-set_same codes (2 * v) a Open (omega arith))
              | inr p ↦
                  let at : l ≡ 2 * v + 1 = grind (arith, nat_tests) in
                  rw (now, p) (ap (λ (k : ℕ). get_or (with_lit_value v value codes) k Open) at
                  ∙ get_or-set_same (set codes (2 * v) a) (2 * v + 1) b Open (omega arith))
            ]
        | inr n ↦
            let same : value_of (set values v value) (variable l) ≡ value_of values (variable l) = get_or-set_other values v (variable l) value None n in
            get_or-set_other (set codes (2 * v) a) (2 * v + 1) l b Open (omega arith) ∙ get_or-set_other codes (2 * v) l a Open (omega arith)
            ∙ h.each l (omega arith) ∙ ap (λ (x : Option Bool). signed_value x (is_positive l)) (sym same)
      ];
    }
