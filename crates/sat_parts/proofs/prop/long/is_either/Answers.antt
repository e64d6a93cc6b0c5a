use Rattle.std.proofs.Common.{◌≡◌, ℕ, ◌*◌, ◌^◌, ◌<◌, ◌⊎◌, inl, inr, IsTrue, nat_eq, arith}
use Rattle.std.proofs.Math.Nat.{mul-pos, mul-zero, zero-mul}
use Rattle.std.proofs.lemmas.Bool.{cases_eq}
use Rattle.std.proofs.lemmas.Bool.Decides.{nat_tests}
use Rattle.std.proofs.lemmas.Nat.{mul-lt}
use Rattle.sat_parts.proofs.prop.long.is_either.Goals as goal

factor_zero : (p q : ℕ) → p * q ≡ 0 → (p ≡ 0) ⊎ (q ≡ 0)
factor_zero p q e = elim (cases_eq p 0) [
  | inl z ↦ inl z
  | inr n ↦ elim (cases_eq q 0) [
    | inl z ↦ inr z
    | inr m ↦ let some : 0 < p * q = mul-pos (omega arith) (omega arith) in absurd (omega arith)
  ]
]

product_zero : (p q : ℕ) → (p ≡ 0) ⊎ (q ≡ 0) → p * q ≡ 0
product_zero p q h = elim h [ inl z ↦ rw z (zero-mul q) | inr z ↦ rw z (mul-zero p) ]

zero_if_true : (n : ℕ) → IsTrue (nat_eq n 0) → n ≡ 0
zero_if_true n h = grind (arith, nat_tests)

true_if_zero : (n : ℕ) → n ≡ 0 → IsTrue (nat_eq n 0)
true_if_zero n h = grind (arith, nat_tests)

pub overflow_mul-result : goal.overflow_mul-result
overflow_mul-result c = omega (arith, mul-lt c.from.result c.from-2.result (2 ^ 32) (2 ^ 32) (omega arith) (omega arith))

pub returns : goal.returns
returns c = (
  λ t. elim (factor_zero c.from.result c.from-2.result (zero_if_true _ t)) [ inl z ↦ inl (omega arith) | inr z ↦ inr (omega arith) ],
  λ h. true_if_zero _ (product_zero c.from.result c.from-2.result (elim h [ inl e ↦ inl (omega arith) | inr e ↦ inr (omega arith) ])),
)
