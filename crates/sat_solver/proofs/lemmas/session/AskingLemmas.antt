-- The target still records that an ask has begun while steps are written.
use Rattle.std.proofs.Common.{◌≡◌, Bool, true, false, Option, None, Some, List, [], refl, sym, subst}
use Rattle.std.proofs.lemmas.Bool.{true≢false}
use Rattle.sat_base.specs.device.Device.{Writer}
use Rattle.sat_base.specs.steps.Steps.{Step}
use Rattle.sat_checker.specs.declared.processing.ProofProcessor.{Ghosts}
use Rattle.sat_solver.specs.proof.Counting.{TruncatesHashes, none_made, ask_begun, one_made}
use Rattle.sat_solver.specs.proof.ProofView.{Target, Closed, Open, Broken, target_of_output, target_of, is_open, has_asked, EmitsExactly, TargetReceives, FlushesAndNotifies}
use Rattle.sat_solver.specs.declared.proof.hash_bits.Counting.{Counting}
use Rattle.sat_solver.specs.declared.proof.output.ProofOutput.{ProofOutput}
use Rattle.sat_solver.specs.declared.proof.Proof.{Proof}
use Rattle.sat_solver.proofs.lemmas.session.ProofLemmas.{flushed_carries}

-- if the target is open, its counts record that an ask has begun
abbrev IsNoted : Target → Type 0
IsNoted (Closed c) = Unit {0}
IsNoted (Open f c s) = c.solving ≡ true
IsNoted (Broken w) = Unit {0}

cuts_noted : {c d : Counting} {made written : List Step} → TruncatesHashes c made written d → c.solving ≡ true → d.solving ≡ true
cuts_noted none_made e = e
cuts_noted (ask_begun k) e = refl
cuts_noted (one_made step w k) e = cuts_noted k e

carries_noted : (a b : Target) (steps : List Step) → TargetReceives a steps b → IsNoted a → IsNoted b
carries_noted (Closed c) b steps k n = subst IsNoted (sym k.1) tt
carries_noted (Open f c s) b steps k n = subst IsNoted (sym k.2) (cuts_noted k.3.cuts n)
carries_noted (Broken w) b steps k n = subst IsNoted (sym k) tt

module _ {W L : Type 0} {G : Ghosts L} (seen : W → Writer) where
  noted : (p : Proof W L G) → has_asked p ≡ true → IsNoted (target_of seen p)
  noted p e = go p.output p.broken
    where
      go : (o : Option (ProofOutput W)) (b : Bool) → IsNoted (target_of_output seen o b p.counting)
      go None b = tt
      go (Some o) false = e
      go (Some o) true = tt

  asked : (p : Proof W L G) → IsNoted (target_of seen p) → is_open (target_of seen p) ≡ true → has_asked p ≡ true
  asked p = go p.output p.broken
    where
      go : (o : Option (ProofOutput W)) (b : Bool) → IsNoted (target_of_output seen o b p.counting) → is_open (target_of_output seen o b p.counting) ≡ true → has_asked p ≡ true
      go None b n e = absurd (true≢false (sym e))
      go (Some o) false n e = n
      go (Some o) true n e = absurd (true≢false (sym e))

  -- steps, and then a flush
  pub asked_flushed : (steps : List Step) (p q r : Proof W L G) → has_asked p ≡ true → EmitsExactly seen steps p q → FlushesAndNotifies seen q r → is_open (target_of seen r) ≡ true → has_asked r ≡ true
  asked_flushed steps p q r e adds f =
      asked r (carries_noted (target_of seen q) (target_of seen r) [] (flushed_carries (target_of seen q) (target_of seen r) f.target)
      (carries_noted (target_of seen p) (target_of seen q) steps adds.target (noted p e)))
