-- The result of a proof that a caller wrote.
use Rattle.std.proofs.Common.{ℕ, ◌≡◌, ◌∙◌, false, List, [], ◌∷◌, ◌++◌, Option, None, Some, Result, Ok, Err, refl, sym, ap, subst}
use Rattle.std.proofs.lemmas.Bool.{true≢false}
use Rattle.std.specs.Prelude.{is_some}
use Rattle.sat_base.specs.device.Device.{Writer, WriterFails, lent_writer}
use Rattle.sat_base.specs.device.Sink.{empty_sink}
use Rattle.sat_base.specs.steps.Steps.{Step, Assumptions, End}
use Rattle.sat_base.proofs.lemmas.device.Writes.{breaks_within, lent_puts}
use Rattle.sat_checker.specs.declared.processing.ProofProcessor.{Ghosts}
use Rattle.sat_solver.specs.proof.Counting.{nothing_counted, counting_after, one_made, written_for}
use Rattle.sat_solver.specs.proof.OutputView.{text_in}
use Rattle.sat_solver.specs.proof.ProofTexts.{ReceivedTextPrefix}
use Rattle.sat_solver.specs.proof.ProofView.{Target, Open, TargetReceives, TargetFails, ReturnsWriter, returned_writer, is_open, target_of, is_checked, has_missed_step, EmitsChecked, EmitResult, ClosesTarget, ReturnsTarget}
use Rattle.sat_solver.specs.declared.proof.format.ProofFormat.TheVariants.{Varisat}
use Rattle.sat_solver.specs.declared.proof.Proof.{Proof}
use Rattle.sat_solver.specs.declared.proof.ProofError.{ProofError}
use Rattle.sat_solver.specs.declared.proof.ProofError.TheVariants.{Write, OutOfMemory, Check}
use Rattle.sat_solver.proofs.lemmas.session.ProofLemmas.{text_append, carries_more, complains_checked, complains_now, stops_later, closed_is_text, broken_is_front}
use Rattle.sat_solver_tests.specs.Calling.{made, PutsMade, CallAnswers, PutsOwned}

abbrev opened_as : Writer → Target
opened_as from = Open Varisat nothing_counted (empty_sink from)

-- the target failed to write the text of steps, and its writer is returned
faulty : {W : Type 0} (seen : W → Writer) (from : Writer) (steps : List Step) (t : Target) (given : Option W) → TargetFails (opened_as from) steps t → ReturnsWriter t (returned_writer seen given) → (w : W) × (given ≡ Some w) × ReceivedTextPrefix Varisat from (seen w) steps
faulty seen from steps t None p g = let q = subst (λ z. ReturnsWriter z None) p.1 g in absurd (let e = q in cc)
faulty seen from steps t (Some w) p g = (w, refl, broken_is_front Varisat from (seen w) steps t p g)

-- the target is still open, and its writer is returned
still : {W : Type 0} (seen : W → Writer) (from : Writer) (steps : List Step) (t : Target) (given : Option W) → TargetReceives (opened_as from) steps t → ReturnsWriter t (returned_writer seen given) → (w : W) × (given ≡ Some w)
still seen from steps t None p g = let q = subst (λ z. ReturnsWriter z None) p.2 g in absurd (let e = q in cc)
still seen from steps t (Some w) p g = (w, refl)

-- a fault while the first step is written is a fault while all steps are
all_broke : (e : _) (from given : Writer) → ReceivedTextPrefix Varisat from given (Assumptions [] ∷ []) → PutsMade (Err (Write e)) from given
all_broke e from given b = record {
  written = written_for b.counting.bits (counting_after End b.counting).bits End ++ b.written;
  counting = counting_after End b.counting;
  cuts = one_made End tt b.cuts;
  puts = subst (WriterFails from given) (sym (text_append Varisat (written_for b.counting.bits (counting_after End b.counting).bits End) b.written))
      (breaks_within from given (text_in Varisat b.written) (text_in Varisat (written_for b.counting.bits (counting_after End b.counting).bits End)) b.breaks);
}

module _ {W L : Type 0} {G : Ghosts L} (seen : W → Writer) (w : W) (p q : Proof W L G) (opened : target_of seen p ≡ opened_as (seen w)) (unchecked : is_checked p ≡ false) where
  -- the first step failed
  pub step_failed : (e : ProofError) (r : Proof W L G) (given : Option W) → EmitResult {T = Unit {0}} seen (Err e) (Assumptions [] ∷ []) p q → ReturnsTarget seen given q r → PutsOwned seen (Err e) w given
  step_failed (Write e) r given f h =
      let x = faulty seen (seen w) (Assumptions [] ∷ []) (target_of seen q) given (subst (λ z. TargetFails z (Assumptions [] ∷ []) (target_of seen q)) opened f.0.target) h.gives in
      subst (PutsOwned seen (Err (Write e)) w) (sym x.1) (all_broke e (seen w) (seen x.0) x.2)
  step_failed OutOfMemory r given a h =
      let x = still seen (seen w) [] (target_of seen q) given (subst (λ z. TargetReceives z [] (target_of seen q)) opened a.target) h.gives in
      subst (PutsOwned seen (Err OutOfMemory) w) (sym x.1) tt
  step_failed (Check fault) r given f h = absurd (true≢false (sym (complains_checked fault q f.0.why) ∙ ap (λ o. is_some o) f.0.adds.listening ∙ unchecked))

  module _ (a : EmitsChecked seen (Assumptions [] ∷ []) p q) where
    carried : TargetReceives (opened_as (seen w)) (Assumptions [] ∷ []) (target_of seen q)
    carried = subst (λ z. TargetReceives z (Assumptions [] ∷ []) (target_of seen q)) opened a.target

    -- closing failed
    pub close_failed : has_missed_step p ≡ false → (e : ProofError) (r s : Proof W L G) (given : Option W) → ClosesTarget seen (Err e) q r → ReturnsTarget seen given r s → PutsOwned seen (Err e) w given
    close_failed taking (Write e) r s given c h =
        let x = faulty seen (seen w) made (target_of seen r) given (stops_later (opened_as (seen w)) (target_of seen q) (target_of seen r) (Assumptions [] ∷ []) (End ∷ []) carried c.0.target) h.gives in
        subst (PutsOwned seen (Err (Write e)) w) (sym x.1) (record { written = x.2.written; counting = x.2.counting; cuts = x.2.cuts; puts = x.2.breaks })
    close_failed taking OutOfMemory r s given c h =
        let x = still seen (seen w) (Assumptions [] ∷ []) (target_of seen r) given (carries_more (opened_as (seen w)) (target_of seen q) (target_of seen r) (Assumptions [] ∷ []) [] carried c.target) h.gives in
        subst (PutsOwned seen (Err OutOfMemory) w) (sym x.1) tt
    close_failed taking (Check fault) r s given c h =
        let k = complains_now fault r (has_missed_step q) (a.taking ∙ taking) c.1 in
        absurd (true≢false (sym (complains_checked fault r k.0) ∙ ap (λ o. is_some o) (c.0.listening ∙ a.listening) ∙ unchecked))

    -- it was closed
    pub closed : (o : Option W) (r : Proof W L G) → ClosesTarget seen (Ok o) q r → PutsOwned seen (Ok tt) w o
    closed None r c = absurd (true≢false (sym (ap is_open carried.2) ∙ c.shut))
    closed (Some given) r c =
        let t = closed_is_text Varisat (seen w) (seen given) (Assumptions [] ∷ []) End (target_of seen q) carried c.takes in
        record { written = t.written; counting = t.counting; cuts = t.cuts; puts = t.takes }

-- what a lent target received
pub lent_calls : {W : Type 0} (seen : W → Writer) (a z v : W) (given back : ℕ) (r : Result (Unit {0}) ProofError) → (given ≡ back → z ≡ v) → CallAnswers r (lent_writer given (seen a)) (lent_writer back (seen v)) → CallAnswers r (seen a) (seen z)
lent_calls seen a z v given back (Ok x) h c = record { written = c.written; counting = c.counting; cuts = c.cuts; puts = lent_puts {E = ProofError} seen a z v given back (text_in Varisat c.written) (Ok x) h c.puts }
lent_calls seen a z v given back (Err (Write e)) h c = record { written = c.written; counting = c.counting; cuts = c.cuts; puts = lent_puts {E = ProofError} seen a z v given back (text_in Varisat c.written) (Err (Write e)) h c.puts }
lent_calls seen a z v given back (Err OutOfMemory) h c = tt
lent_calls seen a z v given back (Err (Check fault)) h c = c
