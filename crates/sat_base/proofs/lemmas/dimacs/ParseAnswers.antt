-- Errors that parsing does not return: `Read`, and `HasFailed` if the parser had not stopped.
use Rattle.std.proofs.Common.{◌≡◌, ℕ, List, Bool, true, false, Result, Err, sym, subst, ◌∙◌}
use Rattle.sat_base.specs.declared.dimacs.error.DimacsError.{DimacsError}
use Rattle.sat_base.specs.declared.dimacs.error.DimacsError.TheVariants as errors
use Rattle.sat_base.specs.dimacs.Parsing.{Progress, FinishEffect, RefusesPiece}

same_error : {T : Type 0} (r : Result T DimacsError) (d e f : DimacsError) → r ≡ Err d → d ≡ e → r ≡ Err f → e ≡ f
same_error r d e f h k l = cc

both_ways : {X : Type 0} (b : Bool) → b ≡ false → b ≡ true → X
both_ways b h k = absurd (let g : ◌≡◌ {A = Bool} true false = sym k ∙ h in cc)

pub finish_no_read : {T X : Type 0} (r : Result T DimacsError) (d e : DimacsError) (p q : Progress) → r ≡ Err d → d ≡ e → FinishEffect (Err e) p q → r ≡ Err errors.Read → X
finish_no_read r d e p q h k f l = absurd (subst (λ (z : DimacsError). FinishEffect (Err z) p q) (same_error r d e errors.Read h k l) f)

pub finish_no_stop : {T X : Type 0} (r : Result T DimacsError) (d e : DimacsError) (p q : Progress) → r ≡ Err d → d ≡ e → p.stopped ≡ false → FinishEffect (Err e) p q → r ≡ Err errors.HasFailed → X
finish_no_stop r d e p q h k s f l = both_ways p.stopped s (subst (λ (z : DimacsError). FinishEffect (Err z) p q) (same_error r d e errors.HasFailed h k l) f).0

pub refused_no_read : {T X : Type 0} (r : Result T DimacsError) (d e : DimacsError) (piece : List ℕ) (p : Progress) → r ≡ Err d → d ≡ e → RefusesPiece e piece p → r ≡ Err errors.Read → X
refused_no_read r d e piece p h k f l = absurd (subst (λ (z : DimacsError). RefusesPiece z piece p) (same_error r d e errors.Read h k l) f)

pub refused_no_stop : {T X : Type 0} (r : Result T DimacsError) (d e : DimacsError) (piece : List ℕ) (p : Progress) → r ≡ Err d → d ≡ e → p.stopped ≡ false → RefusesPiece e piece p → r ≡ Err errors.HasFailed → X
refused_no_stop r d e piece p h k s f l = both_ways p.stopped s (subst (λ (z : DimacsError). RefusesPiece z piece p) (same_error r d e errors.HasFailed h k l) f)

pub read_is_no_stop : {T X : Type 0} → ◌≡◌ {A = Result T DimacsError} (Err errors.Read) (Err errors.HasFailed) → X
read_is_no_stop h = absurd cc
