-- What is written for allowed steps is allowed.
use Rattle.std.proofs.Common.{ℕ, ◌≡◌, Bool, true, false, cond, eqb, List, [], ◌∷◌, ◌++◌, refl, sym, subst}
use Rattle.std.proofs.lemmas.Bool.{eqb-true}
use Rattle.sat_base.specs.steps.Steps.{Step, ChangeHashBits}
use Rattle.sat_solver.specs.proof.Counting.{nothing_counted, width_change, counting_after, TruncatesHashes, none_made, ask_begun, one_made}
use Rattle.sat_solver.specs.proof.ProofTexts.{TruncationsAreAllowed}
use Rattle.sat_solver.specs.proof.Widths.{IsNarrowedTo, none_yet, width_changes, one_more}
use Rattle.sat_solver.specs.declared.proof.hash_bits.Counting.{Counting}
use Rattle.sat_solver.proofs.lemmas.session.Narrowing.{widths_are_free}

-- a change of the width was written
pub width_changed : {made written : List Step} (before now : ℕ) → IsNarrowedTo made written before → IsNarrowedTo made (width_change before now ++ written) now
width_changed {made} {written} before now w = go (eqb before now) refl
  where
    go : (b : Bool) → eqb before now ≡ b → IsNarrowedTo made (cond b [] (ChangeHashBits now ∷ []) ++ written) now
    go true e = subst (IsNarrowedTo made written) (eqb-true before now e) w
    go false e = width_changes now w

-- the steps were written, starting with complete hashes
pub is_written : {c d : Counting} {made written : List Step} → c ≡ nothing_counted → TruncatesHashes c made written d → IsNarrowedTo made written d.bits
is_written e none_made = subst (λ (x : Counting). IsNarrowedTo [] [] x.bits) (sym e) none_yet
is_written e (ask_begun p) = is_written e p
is_written e (one_made {d = d} step k p) = one_more step k (width_changed d.bits (counting_after step d).bits (is_written e p))

pub cuts_are_free : TruncationsAreAllowed
cuts_are_free made written c p m = widths_are_free made written c.bits (is_written refl p) m
