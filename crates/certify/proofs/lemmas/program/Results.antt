-- Results of calls.
use Rattle.std.proofs.Common.{◌≡◌, ◌⊎◌, ◌∙◌, Result, Ok, Err, inl, inr, sym}
use Rattle.std.specs.Prelude.{IsErrOf, OnErr}

-- what holds of every call holds of one that fails
pub on_err : {A E : Type 0} (r : Result A E) (P : Type 0) → P → OnErr r P
on_err (Ok a) P p = tt
on_err (Err e) P p = p

-- what holds unless a call returned one error holds if it returned no error
pub unless_err : {A E : Type 0} (r : Result A E) (a : A) (e : E) (P : Type 0) → r ≡ Ok a → IsErrOf r e ⊎ P → P
unless_err r a e P is (inl h) = absurd (let k : ◌≡◌ {A = Result _ _} (Ok a) (Err e) = sym is ∙ h in cc)
unless_err r a e P is (inr p) = p
