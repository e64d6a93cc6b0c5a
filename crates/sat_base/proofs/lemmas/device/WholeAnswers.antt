-- Results of reading a reader to its end, which exclude each other.
use Rattle.std.proofs.Common.{◌≡◌, ◌+◌, ◌<◌, ◌≤◌, ℕ, List, ◌++◌, length, length-append, Result, Ok, Err, ap, sym, subst, arith}
use Rattle.std.specs.Prelude.{IfOk}
use Rattle.sat_base.specs.declared.device.whole.ReadError.{ReadError}
use Rattle.sat_base.specs.declared.device.whole.ReadError.TheVariants as whole

pub if_err : {T E : Type 0} (r : Result T E) (e : E) (P : T → Type 0) → r ≡ Err e → IfOk r P
if_err r e P h = subst (λ z. IfOk z P) (sym h) tt

pub ok_is_no_err : {T E X : Type 0} (x : T) (e : E) → ◌≡◌ {A = Result T E} (Ok x) (Err e) → X
ok_is_no_err x e h = absurd cc

pub memory_is_no_failure : {T X : Type 0} (r : Result T ReadError) (d : ReadError) → r ≡ Err d → d ≡ whole.OutOfMemory → r ≡ Err whole.Failed → X
memory_is_no_failure r d h k e = absurd cc

pub failure_is_not_memory : {T X : Type 0} → ◌≡◌ {A = Result T ReadError} (Err whole.Failed) (Err whole.OutOfMemory) → X
failure_is_not_memory h = absurd cc

pub failed_is_not_memory : {T X : Type 0} (e : ReadError) → e ≡ whole.Failed → ◌≡◌ {A = Result T ReadError} (Err e) (Err whole.OutOfMemory) → X
failed_is_not_memory e h k = absurd cc

-- a nonempty piece adds at least one byte
pub one_more : (xs piece ys : List ℕ) (n : ℕ) → ys ≡ xs ++ piece → n ≤ length xs → 0 < length piece → n + 1 ≤ length ys
one_more xs piece ys n e h k = let l = ap length e in let a = length-append xs piece in omega arith
