use Rattle.std.proofs.Common.{◌≡◌, ◌+◌, ◌*◌, ℕ, inl, inr, List, set, ap, ◌∙◌, arith, Some}
use Rattle.std.proofs.lemmas.Bool.{cases_Bool}
use Rattle.std.proofs.lemmas.Bool.Decides.{nat_tests}
use Rattle.std.proofs.lemmas.List.{set_comm}
use Rattle.sat_base.specs.values.Literals.{variable, is_positive, negated}
use Rattle.sat_parts.specs.declared.prop.lit_values.LitValue.{LitValue}
use Rattle.sat_parts.specs.declared.prop.lit_values.LitValue.TheVariants.{True, False}
use Rattle.sat_parts.specs.prop.LitValues.{with_lit_value}
use Rattle.sat_parts.proofs.prop.lit_values.LitValues.make_true.Goals as goal

-- a literal is written as true, and its negation as false
true_written : (codes : List LitValue) (l n : ℕ) → n ≡ negated l → set (set codes l True) n False ≡ with_lit_value (variable l) (Some (is_positive l)) codes
true_written codes l n e = elim (cases_Bool (is_positive l)) [
  | inl p ↦
      let a : l ≡ 2 * variable l = grind (arith, nat_tests) in
      let b : n ≡ 2 * variable l + 1 = grind (arith, nat_tests) in
      rw p (ap (λ (x : ℕ). set (set codes x True) n False) a ∙ ap (λ (x : ℕ). set (set codes (2 * variable l) True) x False) b)
  | inr p ↦
      let a : l ≡ 2 * variable l + 1 = grind (arith, nat_tests) in
      let b : n ≡ 2 * variable l = grind (arith, nat_tests) in
      rw p (ap (λ (x : ℕ). set (set codes x True) n False) a ∙ ap (λ (x : ℕ). set (set codes (2 * variable l + 1) True) x False) b
      ∙ set_comm codes (2 * variable l + 1) (2 * variable l) True False (omega arith))
]

pub returns : goal.returns
returns c = rw c.code.ensures.value (true_written c.args.self.now.codes.items c.args.lit c.code-2.result (c.code-2.ensures.value ∙ c.not.ensures))
