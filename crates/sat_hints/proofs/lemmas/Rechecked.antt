-- The result of checking a text that is proved.
use Rattle.std.proofs.Common.{ℕ, ◌≡◌, List, ◌++◌, Option, None, Some, Ok, Err, refl, sym, subst}
use Rattle.std.specs.Io.KnownBytes.{Consumes, IsAtEnd}
use Rattle.sat_hints.specs.Checks.{VerdictHolds}
use Rattle.sat_hints.specs.Laws.{ProofIsProved}
use Rattle.sat_hints.specs.declared.answer.HintVerdict.TheVariants.{Proved}
use Rattle.sat_hints.proofs.lemmas.OneFault.{one_verdict}

-- the bytes still to come are the rest of the known ones
pub reported_left : (xs : List ℕ) (was now : Option (List ℕ)) (bytes : List ℕ) → was ≡ Some xs → Consumes was now bytes → (ys : List ℕ) × (now ≡ Some ys) × (xs ≡ bytes ++ ys)
reported_left xs was now bytes e c = go now (subst (λ o. Consumes o now bytes) e c)
  where
    go : (now : Option (List ℕ)) → Consumes (Some xs) now bytes → (ys : List ℕ) × (now ≡ Some ys) × (xs ≡ bytes ++ ys)
    go None c = absurd c
    go (Some ys) c = (ys, refl, c)

pub proof_is_proved : ProofIsProved
proof_is_proved text empty cores lines (Err fault) from to p text_is g = tt
proof_is_proved text empty cores lines (Ok verdict) from to p text_is g =
    let t = reported_left text from.to_come to.to_come g.text text_is g.front.known_bytes in
    let on_error : VerdictHolds verdict (g.text ++ t.0) = g.holds t.0 (λ called ended. subst IsAtEnd t.1 (g.over called ended)) in
    one_verdict text verdict (Proved empty cores lines) (subst (VerdictHolds verdict) (sym t.2) on_error) p
