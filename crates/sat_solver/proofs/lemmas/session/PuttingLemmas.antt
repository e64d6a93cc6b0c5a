-- Steps are written to a target, each at its width.
use Rattle.std.proofs.Common.{ℕ, Bool, ◌≡◌, ◌∙◌, true, false, Option, None, Some, Err, List, [], ◌∷◌, ◌++◌, append_assoc, refl, sym, ap, subst}
use Rattle.sat_base.specs.device.Device.{Writer, WriterFails}
use Rattle.sat_base.specs.device.Sink.{Sink, AddsToSink}
use Rattle.std.proofs.lemmas.Bool.{true≢false, eq-eqb}
use Rattle.std.specs.Prelude.{cond}
use Rattle.sat_base.specs.steps.Steps.{Step, ChangeHashBits}
use Rattle.sat_base.specs.steps.StepBytes.{step_bytes}
use Rattle.sat_base.specs.steps.StepText.{SpellsStep}
use Rattle.sat_solver.specs.declared.proof.format.ProofFormat.TheVariants.{Varisat}
use Rattle.sat_base.proofs.lemmas.device.Writes.{breaks_within}
use Rattle.sat_checker.specs.declared.processing.ProofProcessor.{Ghosts}
use Rattle.sat_solver.specs.proof.Counting.{width_change, written_for, counting_after, CountsSteps}
use Rattle.sat_solver.specs.proof.OutputView.{step_text, SpellsIn, text_in, SinkReceivesSteps, WritesToSink, output_format, output_sink}
use Rattle.sat_solver.specs.proof.ProofView.{TargetReceives, TargetFails, Closed, Open, Broken as Faulty, TargetIsRemoved, is_open, open_or_broken, target_of_output, target_of, EmitsExactly, FailsToEmit}
use Rattle.sat_solver.specs.proof.Widths.{narrowed, KeepsWidth}
use Rattle.sat_solver.specs.declared.proof.hash_bits.Counting.{Counting}
use Rattle.sat_solver.specs.declared.proof.output.ProofOutput.{ProofOutput}
use Rattle.sat_solver.specs.declared.proof.format.ProofFormat.{ProofFormat}
use Rattle.sat_solver.specs.proof.Counting.{none_made, ask_begun}
use Rattle.sat_solver.specs.declared.proof.Proof.{Proof}
use Rattle.sat_solver.specs.declared.proof.output.OutputError.{OutputError}
use Rattle.sat_solver.specs.declared.proof.output.OutputError.TheVariants.{Write, OutOfMemory}
use Rattle.sat_solver.proofs.lemmas.session.ProofLemmas.{wrote_none, breaks_after, cuts_one, carries_none}

-- one step was written
pub wrote_one : (f : ProofFormat) (step : Step) (s t : Sink) → AddsToSink s t (step_text f step) → SpellsIn f step → SinkReceivesSteps f (step ∷ []) s t
wrote_one f step s t h k = record { spelt = (k, tt); sent = h }

-- one step at an unchanged width was buffered
pub waits_at : (step : Step) (before now : ℕ) (s t : Sink) → before ≡ now → AddsToSink s t (step_bytes step) → SpellsStep step (step_bytes step) → SinkReceivesSteps Varisat (step ∷ width_change before now) s t
waits_at step before now s t e sent spells = subst (λ xs. SinkReceivesSteps Varisat (step ∷ xs) s t) (sym (ap (λ b. cond b [] (ChangeHashBits now ∷ [])) (eq-eqb before now e))) (wrote_one Varisat step s t sent spells)

-- steps were written, and a call failed at one more step
pub puts_after : (f : ProofFormat) (step : Step) (xs : List Step) (s t u : Sink) → SinkReceivesSteps f xs s t → WriterFails t.writer u.writer (t.waiting ++ step_text f step) → WriterFails s.writer u.writer (s.waiting ++ text_in f (step ∷ xs))
puts_after f step xs s t u p q = breaks_after f s t u.writer xs (step ∷ []) p q

-- a fault while steps are written is also one for a longer list
pub puts_short : (f : ProofFormat) (e : OutputError) (step : Step) (xs : List Step) (s t : Sink) → WritesToSink f (Err e) xs s t → WritesToSink f (Err e) (step ∷ xs) s t
puts_short f (Write e) step xs s t h =
    subst (WriterFails s.writer t.writer) (append_assoc s.waiting (text_in f xs) (step_text f step)) (breaks_within s.writer t.writer (s.waiting ++ text_in f xs) (step_text f step) h)
puts_short f OutOfMemory step xs s t h = h

-- a step was written
pub carries_step : (f : ProofFormat) (c : Counting) (s t : Sink) (step : Step) → KeepsWidth step → SinkReceivesSteps f (written_for c.bits (counting_after step c).bits step) s t → TargetReceives (Open f c s) (step ∷ []) (Open f (counting_after step c) t)
carries_step f c s t step k w = (counting_after step c, t, refl, record { written = written_for c.bits (counting_after step c).bits step; cuts = cuts_one c step k; wrote = w })

-- a call failed while its text was written
pub stops_step : (f : ProofFormat) (c : Counting) (s t : Sink) (step : Step) → KeepsWidth step → WriterFails s.writer t.writer (s.waiting ++ text_in f (written_for c.bits (counting_after step c).bits step)) → TargetFails (Open f c s) (step ∷ []) (Faulty t.writer)
stops_step f c s t step k b = (t.writer, refl, record { written = written_for c.bits (counting_after step c).bits step; counting = counting_after step c; cuts = cuts_one c step k; breaks = b })

-- a step was counted, and nothing was written
pub counts_one : {W : Type 0} (seen : W → Writer) (o : Option (ProofOutput W)) (b : Bool) (c d : Counting) (step : Step) → is_open (target_of_output seen o b c) ≡ false → KeepsWidth step → d ≡ counting_after step c → TargetReceives (target_of_output seen o b c) (step ∷ []) (target_of_output seen o b d)
counts_one seen None b c d step e k is = (d, refl, subst (CountsSteps c (step ∷ [])) (sym is) (record { written = written_for c.bits (counting_after step c).bits step; cuts = cuts_one c step k }))
counts_one seen (Some o) false c d step e k is = absurd (true≢false e)
counts_one seen (Some o) true c d step e k is = refl

-- nothing is open without an output, or after a fault
pub shut_none : {W : Type 0} (seen : W → Writer) (o : Option (ProofOutput W)) (b : Bool) (c : Counting) → o ≡ None → is_open (target_of_output seen o b c) ≡ false
shut_none seen o b c e = ap (λ x. is_open (target_of_output seen x b c)) e

pub shut_broken : {W : Type 0} (seen : W → Writer) (o : Option (ProofOutput W)) (b : Bool) (c : Counting) → b ≡ true → is_open (target_of_output seen o b c) ≡ false
shut_broken seen None b c e = refl
shut_broken seen (Some o) b c e = ap (λ x. is_open (open_or_broken x (output_format o) c (output_sink seen o))) e

-- the output was taken, and the counts are unchanged
pub taken_from : {W : Type 0} (seen : W → Writer) (o : Option (ProofOutput W)) (b : Bool) (c : Counting) → TargetIsRemoved (target_of_output seen o b c) (Closed c)
taken_from seen None b c = refl
taken_from seen (Some o) false c = refl
taken_from seen (Some o) true c = (c, refl)

module _ {W L : Type 0} {G : Ghosts L} (seen : W → Writer) (p : Proof W L G) where
  abbrev pub begun : Proof W L G
  begun = record p { counting = record p.counting { solving = true } }

  -- an ask begins without a step
  pub adds_begun : EmitsExactly seen [] p begun
  adds_begun = record { history = refl; listening = refl; target = go p.output p.broken }
    where
      go : (o : Option (ProofOutput W)) (b : Bool) → TargetReceives (target_of_output seen o b p.counting) [] (target_of_output seen o b (record p.counting { solving = true }))
      go None b = (record p.counting { solving = true }, refl, record { written = []; cuts = ask_begun none_made })
      go (Some o) false = (record p.counting { solving = true }, output_sink seen o, refl, record { written = []; cuts = ask_begun none_made; wrote = wrote_none (output_format o) (output_sink seen o) })
      go (Some o) true = refl

  module _ (o u : ProofOutput W) (is : p.output ≡ Some o) (well : p.broken ≡ false) where
    was_open : Open (output_format o) p.counting (output_sink seen o) ≡ target_of seen p
    was_open = sym (ap (λ x. target_of_output seen x p.broken p.counting) is ∙ ap (λ b. open_or_broken b (output_format o) p.counting (output_sink seen o)) well)

    -- an unchanged output
    pub same_output : u ≡ o → record p { output = Some u } ≡ p
    same_output e = ap (λ x. record p { output = Some x }) e ∙ ap (λ x. record p { output = x }) (sym is)

    -- a flush failed
    pub fails_flush : (cause : _) → WriterFails (output_sink seen o).writer (output_sink seen u).writer ((output_sink seen o).waiting ++ []) → FailsToEmit seen [] p (record p { output = Some u; broken = true; cause = Some cause })
    fails_flush cause b = record {
      history = refl;
      listening = refl;
      target = subst (λ t. TargetFails t [] (Faulty (output_sink seen u).writer)) was_open ((output_sink seen u).writer, refl, record { written = []; counting = p.counting; cuts = none_made; breaks = b });
    }

    module _ (step cut : Step) (keeps : KeepsWidth step) (d : Counting) (e : d ≡ counting_after step p.counting) (is_cut : cut ≡ narrowed d.bits step) where
      -- a step was written
      pub carries_put : output_format u ≡ output_format o → SinkReceivesSteps (output_format o) (cut ∷ width_change p.counting.bits d.bits) (output_sink seen o) (output_sink seen u) →
          TargetReceives (target_of seen p) (step ∷ []) (target_of_output seen (Some u) p.broken d)
      carries_put same wrote = subst (λ b. TargetReceives (target_of seen p) (step ∷ []) (open_or_broken b (output_format u) d (output_sink seen u))) (sym well) carried
        where
          carried : TargetReceives (target_of seen p) (step ∷ []) (Open (output_format u) d (output_sink seen u))
          carried = subst (λ f. TargetReceives (target_of seen p) (step ∷ []) (Open f d (output_sink seen u))) (sym same)
              (subst (λ t. TargetReceives t (step ∷ []) (Open (output_format o) d (output_sink seen u))) was_open
              (subst (λ x. TargetReceives (Open (output_format o) p.counting (output_sink seen o)) (step ∷ []) (Open (output_format o) x (output_sink seen u))) (sym e)
              (carries_step (output_format o) p.counting (output_sink seen o) (output_sink seen u) step keeps (subst (λ x. SinkReceivesSteps (output_format o) (written_for p.counting.bits x.bits step) (output_sink seen o) (output_sink seen u)) e
              (subst (λ x. SinkReceivesSteps (output_format o) (x ∷ width_change p.counting.bits d.bits) (output_sink seen o) (output_sink seen u)) is_cut wrote)))))

      -- a call failed while its text was written
      pub stops_put : WriterFails (output_sink seen o).writer (output_sink seen u).writer ((output_sink seen o).waiting ++ text_in (output_format o) (cut ∷ width_change p.counting.bits d.bits)) →
          TargetFails (target_of seen p) (step ∷ []) (Faulty (output_sink seen u).writer)
      stops_put b = subst (λ t. TargetFails t (step ∷ []) (Faulty (output_sink seen u).writer)) was_open
          (stops_step (output_format o) p.counting (output_sink seen o) (output_sink seen u) step keeps
          (subst (λ x. WriterFails (output_sink seen o).writer (output_sink seen u).writer ((output_sink seen o).waiting ++ text_in (output_format o) (written_for p.counting.bits x.bits step))) e
          (subst (λ x. WriterFails (output_sink seen o).writer (output_sink seen u).writer ((output_sink seen o).waiting ++ text_in (output_format o) (x ∷ width_change p.counting.bits d.bits))) is_cut b)))

    -- memory ran out before anything was written
    pub carries_starved : output_format u ≡ output_format o → output_sink seen u ≡ output_sink seen o → TargetReceives (target_of seen p) [] (target_of_output seen (Some u) p.broken p.counting)
    carries_starved same sent = subst (λ t. TargetReceives (target_of seen p) [] t) unchanged (carries_none (target_of seen p))
      where
        unchanged : target_of seen p ≡ target_of_output seen (Some u) p.broken p.counting
        unchanged = ap (λ x. target_of_output seen x p.broken p.counting) is ∙ ap (λ f. open_or_broken p.broken f p.counting (output_sink seen o)) (sym same) ∙ ap (λ s. open_or_broken p.broken (output_format u) p.counting s) (sym sent)
