-- A solver's own checker accepts every step that may be made.
use Rattle.std.proofs.Common.{ℕ, ◌≡◌, ◌∙◌, ◌⊎◌, inl, inr, Bool, true, false, cond, eqb, not, ◌||◌, Option, None, Some, List, [], ◌∷◌, ◌++◌, Result, Ok, Err, refl, sym, ap, subst}
use Rattle.std.proofs.lemmas.Bool.{true≢false, eq-eqb, eqb-true}
use Rattle.sat_solver.specs.proof.Counting.{width_change}
use Rattle.sat_solver.proofs.lemmas.session.CutsLemmas.{width_changed}
use Rattle.std.proofs.Math.Bool.{Bool-set}
use Rattle.std.proofs.Math.Logic.{∥∥₁_elim, ∥∥₁_prop}
use Rattle.anyhow.specs.declared.error.Error.{Error}
use Rattle.sat_base.specs.steps.Steps.{Step, ChangeHashBits}
use Rattle.sat_checker.specs.Accepts.{Accepts, effect, ready_after}
use Rattle.sat_checker.specs.CheckerView.{HasAccepted, SettlingResult, AddListenerResult, kernel_of, view_of}
use Rattle.sat_checker.specs.Counters.{CountersExhausted}
use Rattle.sat_checker.specs.Stored.{Stored}
use Rattle.sat_checker.specs.KernelView.{KernelHasNoPendingConflict, kernel_has_failed}
use Rattle.sat_checker.specs.KernelView as kernels
use Rattle.sat_checker.specs.announcements.Announcements.{Notice}
use Rattle.sat_checker.specs.listeners.Receiving.{ReceivesSince, ReceivesAll, notices_made}
use Rattle.sat_checker.specs.listeners.Notifying.{Listeners}
use Rattle.sat_checker.specs.declared.kernel.Kernel.{Kernel}
use Rattle.sat_checker.specs.listeners.ProcessingView.{listeners_of}
use Rattle.sat_checker.specs.declared.error.CheckerError.{CheckerError}
use Rattle.sat_checker.specs.declared.error.CheckerError.TheVariants as errors
use Rattle.sat_checker.specs.declared.processing.Nobody.{Nobody}
use Rattle.sat_checker.specs.declared.processing.Processing.{Processing}
use Rattle.sat_checker.specs.declared.processing.ProcessingError.TheVariants as faults
use Rattle.sat_checker.proofs.lemmas.listeners.Heard.{nobody_fails}
use Rattle.sat_checker.specs.declared.processing.ProofProcessor.{Ghosts}
use Rattle.sat_solver.specs.declared.proof.emitted.CheckFault.{CheckFault}
use Rattle.sat_solver.specs.declared.proof.emitted.CheckFault.TheVariants as checks
use Rattle.sat_solver.specs.proof.Checked.{is_end, unended, has_begun, listeners_of_checked, CheckerReceives, none_given, one_given, end_given, CheckerReceivesWidth, oldest_at_width, FedUnless, IsFed, IsFedBy, ProcessorsHeard, ProcessorsHeardAll, FailsWhileHeard, IsCheckerFailure, fault_of_failure, OkOrCheckerFailure, AcceptsStepOrFails, ReceivesWidthOrFails, SettlesOrFails, FeedsOwnChecker, AddsOwnListener, CheckerRestarts}
use Rattle.sat_solver.specs.session.OrderedSteps.{prepend_if}
use Rattle.sat_solver.specs.proof.Listening.{AreJustListeners, Receives, CheckerFailedBecause, AcceptsEverything}
use Rattle.sat_solver.specs.proof.EmittedView.{emitted_listeners, listed_in, EmittedReturnsListeners, ReturnsIfChecked, EmittedReturnsNotifiedListeners, ReturnsNotifiedIfChecked, HasListeners, AddedAfterHearing, AddedAfterHearingAll, EmittedListenersAtRestart, emitted_without_listener_error}
use Rattle.sat_solver.specs.declared.proof.emitted.EmittedSteps.{EmittedSteps}
use Rattle.sat_solver.specs.session.Session.{AreAllowedSteps}
use Rattle.sat_solver.specs.proof.Widths.{KeepsWidth, narrowed, IsNarrowedTo, none_yet, width_changes, one_more}
use Rattle.sat_solver.specs.declared.proof.checker.Checked.{Checked}
use Rattle.sat_solver.proofs.lemmas.session.EndedLemmas.{unended_may}
use Rattle.sat_solver.proofs.lemmas.session.HearingLemmas.{answered_delayed, has_heard, heard_all, none_reported, widths_quiet}
use Rattle.sat_solver.proofs.lemmas.session.Narrowing.{widths_are_free}

-- the checker received what is written for the steps, except for ends of proofs
given_narrowed : {steps given : List Step} {width : ℕ} → CheckerReceives steps given width → IsNarrowedTo (unended steps) given width
given_narrowed none_given = none_yet
given_narrowed (one_given {steps} {given} {before} step now e k g) =
    subst (λ x. IsNarrowedTo x (narrowed now step ∷ (width_change before now ++ given)) now) (sym (ap (λ b. prepend_if (not b) step (unended steps)) e)) (one_more step k (width_changed before now (given_narrowed g)))
given_narrowed (end_given {steps} {given} {before} step now e g) =
    subst (λ x. IsNarrowedTo x (width_change before now ++ given) now) (sym (ap (λ b. prepend_if (not b) step (unended steps)) e)) (width_changed before now (given_narrowed g))

then_narrowed : {steps given : List Step} {now : ℕ} → CheckerReceivesWidth steps given now → IsNarrowedTo (unended steps) given now
then_narrowed {steps} {given} {now} t = subst (λ x. IsNarrowedTo (unended steps) x now) (sym t.given_is) (width_changed t.before now (given_narrowed t.cut))

-- an unchanged width needs no step
width_same : (bits : ℕ) (written : List Step) → written ≡ width_change bits bits ++ written
width_same bits written = ap (λ b. cond b [] (ChangeHashBits bits ∷ []) ++ written) (sym (eq-eqb bits bits refl))

-- a changed width needs one
width_other : (before now : ℕ) → (before ≡ now → ⊥) → ChangeHashBits now ∷ [] ≡ width_change before now
width_other before now n = go (eqb before now) refl
  where
    go : (b : Bool) → eqb before now ≡ b → ChangeHashBits now ∷ [] ≡ cond b [] (ChangeHashBits now ∷ [])
    go true e = absurd (n (eqb-true before now e))
    go false e = refl

-- weakens both statements about an answer of the checker
pub cause_map : (r : Result (Unit {0}) CheckerError) (F G : Type 0) (P Q : CheckFault → Type 0) → (F → G) → ((fault : CheckFault) → P fault → Q fault) → OkOrCheckerFailure r F P → OkOrCheckerFailure r G Q
cause_map (Ok x) F G P Q f g h = f h
cause_map (Err e) F G P Q f g h = (h.0, g (fault_of_failure e) h.1)

ended_next : (step : Step) (steps : List Step) → (has_begun steps ≡ false → unended steps ≡ []) → has_begun (step ∷ steps) ≡ false → unended (step ∷ steps) ≡ []
ended_next step steps rest e = go (is_end step) refl
  where
    go : (b : Bool) → is_end step ≡ b → unended (step ∷ steps) ≡ []
    go true w = ap (λ x. prepend_if (not x) step (unended steps)) w ∙ rest (sym (ap (λ x. not x || has_begun steps) w) ∙ e)
    go false w = absurd (true≢false (sym (ap (λ x. not x || has_begun steps) w) ∙ e))

-- if all steps are ends of proofs, none is left without them
unended_none : (steps : List Step) → has_begun steps ≡ false → unended steps ≡ []
unended_none [] e = refl
unended_none (step ∷ steps) e = ended_next step steps (unended_none steps) e

-- an end of a proof before the first step adds nothing to what the checker receives
given_end : (step : Step) (steps written : List Step) (bits : ℕ) → (has_begun steps ≡ false → CheckerReceives steps written bits) → has_begun (step ∷ steps) ≡ false → CheckerReceives (step ∷ steps) written bits
given_end step steps written bits rest e = go (is_end step) refl
  where
    go : (b : Bool) → is_end step ≡ b → CheckerReceives (step ∷ steps) written bits
    go true w = subst (λ x. CheckerReceives (step ∷ steps) x bits) (sym (width_same bits written)) (end_given step bits w (rest (sym (ap (λ x. not x || has_begun steps) w) ∙ e)))
    go false w = absurd (true≢false (sym (ap (λ x. not x || has_begun steps) w) ∙ e))

given_ended : (steps written : List Step) (bits : ℕ) → CheckerReceives [] written bits → has_begun steps ≡ false → CheckerReceives steps written bits
given_ended [] written bits g e = g
given_ended (step ∷ steps) written bits g e = given_end step steps written bits (given_ended steps written bits g) e

-- a new width changes no count and no id
width_exhausts : (bits : ℕ) (f : Stored) → CountersExhausted f ⊎ (Accepts f (ChangeHashBits bits) × CountersExhausted (effect (ChangeHashBits bits) f)) → CountersExhausted f
width_exhausts bits f (inl h) = h
width_exhausts bits f (inr (a, inl h)) = inl h
width_exhausts bits f (inr (a, inr h)) = inr (record { literals = h.literals; past = h.past })

module _ {L : Type 0} (takes : L → Notice → Result Unit Error → L → Type 0) where
  -- a new checker with these listeners has received no steps
  pub fed_first : (own : Checked L) (added : List L) → own.bits ≡ 64 → kernels.KernelHasAccepted (kernel_of own.checker) [] → kernel_has_failed (kernel_of own.checker) ≡ false → kernels.KernelHasNoPendingConflict (kernel_of own.checker) → AreJustListeners added (listeners_of_checked own) → IsFed takes own added []
  fed_first own added e s g settled listed = record {
    written = [];
    cut = subst (CheckerReceives [] []) (sym e) none_given;
    begun = listeners_of_checked own;
    were = listed;
    valid = record { kernel = s; heard = λ f. rw settled ([], refl, refl) };
    going = g;
  }

  -- the same after ends of proofs
  pub fed_ended : (own : Checked L) (added : List L) (steps : List Step) → has_begun steps ≡ false → IsFed takes own added [] → IsFed takes own added steps
  fed_ended own added steps e fed = record { written = fed.written; cut = given_ended steps fed.written own.bits fed.cut e; begun = fed.begun; were = fed.were; valid = fed.valid; going = fed.going }

  -- the listeners have heard what the checker announced
  pub fed_heard : (own : Checked L) (added : List L) (steps : List Step) → IsFed takes own added steps → ProcessorsHeard takes added (listeners_of (listeners_of_checked own)) steps
  fed_heard own added steps fed = record {
    later = [];
    taken = steps;
    all = refl;
    written = fed.written;
    bits = own.bits;
    cut = given_narrowed fed.cut;
    begun = fed.begun;
    were = fed.were;
    heard = (listeners_of_checked own, refl, inl (heard_all takes fed.begun (listeners_of_checked own) fed.written own.checker.kernel.state.formula.status.conflict (fed.valid.heard fed.going)));
  }

  -- the listeners have heard all that the checker announced
  pub fed_whole : (own : Checked L) (added : List L) (steps : List Step) → IsFed takes own added steps → ProcessorsHeardAll takes added (listeners_of (listeners_of_checked own)) steps
  fed_whole own added steps fed = (
    record {
      later = [];
      taken = steps;
      all = refl;
      written = fed.written;
      bits = own.bits;
      cut = given_narrowed fed.cut;
      begun = fed.begun;
      were = fed.were;
      heard = (listeners_of_checked own, refl, heard_all takes fed.begun (listeners_of_checked own) fed.written own.checker.kernel.state.formula.status.conflict (fed.valid.heard fed.going));
    },
    refl,
  )

  -- the listeners have heard what was announced before the checker failed
  pub failed_heard : (added : List L) (now : Listeners L Nobody) (steps : List Step) (fault : CheckFault) → FailsWhileHeard takes added now steps fault → ProcessorsHeard takes added now steps
  failed_heard added now steps fault f = record { later = f.later; taken = f.taken; all = f.all; written = f.written; bits = f.bits; cut = f.cut; begun = f.begun; were = f.were; heard = (f.heard.0, f.heard.1, has_heard takes f.begun f.heard.0 f.written (oldest_at_width f.bits f.later) fault f.heard.2) }

  -- one more step that the checker did not receive
  pub heard_later : (added : List L) (now : Listeners L Nobody) (step : Step) (steps : List Step) → ProcessorsHeard takes added now steps → ProcessorsHeard takes added now (step ∷ steps)
  heard_later added now step steps h = record { later = step ∷ h.later; taken = h.taken; all = ap (λ xs. step ∷ xs) h.all; written = h.written; bits = h.bits; cut = h.cut; begun = h.begun; were = h.were; heard = h.heard }

  -- if a pending unit conflict exhausts the ids, so does the next step
  in_hand_later : (begun now : Processing L Nobody) (written : List Step) (bits : ℕ) (step : Step) (later : List Step) (fault : CheckFault) → CheckerFailedBecause takes begun now written (oldest_at_width bits later) fault → CheckerFailedBecause takes begun now written (oldest_at_width bits (step ∷ later)) fault
  in_hand_later begun now written bits step later checks.OutOfMemory h = h
  in_hand_later begun now written bits step [] checks.CounterEnd h = (inl h.0, h.1)
  in_hand_later begun now written bits step (before ∷ earlier) checks.CounterEnd h = h
  in_hand_later begun now written bits step later (checks.Processor cause) h = h

  -- a new width exhausts no counter that was not exhausted before
  width_in_hand : (begun now : Processing L Nobody) (written : List Step) (bits : ℕ) (fault : CheckFault) → CheckerFailedBecause takes begun now written (Some (ChangeHashBits bits)) fault → CheckerFailedBecause takes begun now written None fault
  width_in_hand begun now written bits checks.OutOfMemory h = h
  width_in_hand begun now written bits checks.CounterEnd h = (width_exhausts bits (ready_after written) h.0, h.1)
  width_in_hand begun now written bits (checks.Processor cause) h = h

  failed_later : (added : List L) (now : Listeners L Nobody) (step : Step) (steps : List Step) (fault : CheckFault) → FailsWhileHeard takes added now steps fault → FailsWhileHeard takes added now (step ∷ steps) fault
  failed_later added now step steps fault h = record { later = step ∷ h.later; taken = h.taken; all = ap (λ xs. step ∷ xs) h.all; written = h.written; bits = h.bits; cut = h.cut; begun = h.begun; were = h.were; heard = (h.heard.0, h.heard.1, in_hand_later h.begun h.heard.0 h.written h.bits step h.later fault h.heard.2) }

  -- the width is unchanged
  pub width_kept : (old : Checked L) (bits : ℕ) → old.bits ≡ bits → ReceivesWidthOrFails takes (Ok tt) old old
  width_kept old bits e added steps may fed = record { written = fed.written; cut = record { before = old.bits; earlier = fed.written; cut = fed.cut; given_is = width_same old.bits fed.written }; begun = fed.begun; were = fed.were; valid = fed.valid; going = fed.going }

  module _ (r : Result (Unit {0}) CheckerError) (old new : Checked L) where
    -- the checker received a new width
    pub width_fed : (bits : ℕ) → (old.bits ≡ bits → ⊥) → new.bits ≡ bits → FeedsOwnChecker takes r (view_of old.checker) (ChangeHashBits bits) (view_of new.checker) → ReceivesWidthOrFails takes r old new
    width_fed bits other e feeds added steps may fed =
        cause_map r _ (IsFedBy takes (CheckerReceivesWidth steps) new added) _ (FailsWhileHeard takes added (listeners_of (listeners_of_checked new)) steps)
        (λ s. record { written = ChangeHashBits bits ∷ fed.written; cut = subst (CheckerReceivesWidth steps (ChangeHashBits bits ∷ fed.written)) (sym e) (record { before = old.bits; earlier = fed.written; cut = fed.cut; given_is = ap (λ ws. ws ++ fed.written) (width_other old.bits bits other) }); begun = fed.begun; were = fed.were; valid = s.0; going = s.1 })
        failed
        (feeds fed.begun fed.written fed.valid fed.going ((widths_are_free (unended steps) fed.written old.bits (given_narrowed fed.cut) (unended_may steps may)).may, tt))
      where
        changed : IsNarrowedTo (unended steps) (ChangeHashBits bits ∷ fed.written) bits
        changed = width_changes bits (given_narrowed fed.cut)

        failed : (fault : CheckFault) → CheckerFailedBecause takes fed.begun (listeners_of_checked new) fed.written (Some (ChangeHashBits bits)) fault ⊎ CheckerFailedBecause takes fed.begun (listeners_of_checked new) (ChangeHashBits bits ∷ fed.written) None fault → FailsWhileHeard takes added (listeners_of (listeners_of_checked new)) steps fault
        failed fault (inl h) = record { later = []; taken = steps; all = refl; written = fed.written; bits = old.bits; cut = given_narrowed fed.cut; begun = fed.begun; were = fed.were; heard = (listeners_of_checked new, refl, width_in_hand fed.begun (listeners_of_checked new) fed.written bits fault h) }
        failed fault (inr h) = record { later = []; taken = steps; all = refl; written = ChangeHashBits bits ∷ fed.written; bits = bits; cut = changed; begun = fed.begun; were = fed.were; heard = (listeners_of_checked new, refl, h) }

    -- the pending unit conflict was reported
    pub delayed_fed : new.bits ≡ old.bits → SettlingResult (Receives takes) r (view_of old.checker) (view_of new.checker) → SettlesOrFails takes r old new
    delayed_fed e checks_delayed added steps fed =
        cause_map r _ _ _ _
        (λ s. (record { written = fed.written; cut = subst (CheckerReceives steps fed.written) (sym e) fed.cut; begun = fed.begun; were = fed.were; valid = s.0; going = s.1 }, s.2))
        (λ fault h. record { later = []; taken = steps; all = refl; written = fed.written; bits = old.bits; cut = given_narrowed fed.cut; begun = fed.begun; were = fed.were; heard = (listeners_of_checked new, refl, h) })
        (answered_delayed takes fed.begun (view_of old.checker) (view_of new.checker) fed.written fed.going r (checks_delayed [] fed.begun fed.written fed.valid))

  module _ (old : Checked L) (step : Step) where
    -- the checker received a step at its width
    pub step_fed : (r : Result (Unit {0}) CheckerError) (mid new : Checked L) (cut_step : Step) → is_end step ≡ false → KeepsWidth step → ReceivesWidthOrFails takes (Ok tt) old mid → new.bits ≡ mid.bits → cut_step ≡ narrowed mid.bits step
        → FeedsOwnChecker takes r (view_of mid.checker) cut_step (view_of new.checker) → AcceptsStepOrFails takes r old step new
    step_fed r mid new cut_step e k takes_width same is feeds added steps may fed =
        cause_map r Fed (IsFed takes new added (step ∷ steps)) _ (FailsWhileHeard takes added (listeners_of (listeners_of_checked new)) (step ∷ steps)) by failed
        (subst (λ x. FeedsOwnChecker takes r (view_of mid.checker) x (view_of new.checker)) is feeds f.begun f.written f.valid f.going (widths_are_free (step ∷ unended steps) (narrowed mid.bits step ∷ f.written) mid.bits cut allowed).may)
      where
        f : IsFedBy takes (CheckerReceivesWidth steps) mid added
        f = takes_width added steps may.0 fed

        kept : unended (step ∷ steps) ≡ step ∷ unended steps
        kept = ap (λ b. prepend_if (not b) step (unended steps)) e

        cut : IsNarrowedTo (step ∷ unended steps) (narrowed mid.bits step ∷ f.written) mid.bits
        cut = one_more step k (then_narrowed f.cut)

        cut_all : IsNarrowedTo (unended (step ∷ steps)) (narrowed mid.bits step ∷ f.written) mid.bits
        cut_all = subst (λ x. IsNarrowedTo x (narrowed mid.bits step ∷ f.written) mid.bits) (sym kept) cut

        allowed : AreAllowedSteps (step ∷ unended steps)
        allowed = subst AreAllowedSteps kept (unended_may (step ∷ steps) may)

        Fed : Type 0
        Fed = HasAccepted (Receives takes) [] f.begun (view_of new.checker) (narrowed mid.bits step ∷ f.written) × (kernel_has_failed (kernel_of new.checker) ≡ false)

        by : Fed → IsFed takes new added (step ∷ steps)
        by h = record {
          written = narrowed mid.bits step ∷ f.written;
          cut = subst (CheckerReceives (step ∷ steps) (narrowed mid.bits step ∷ f.written)) (sym same)
              (subst (λ x. CheckerReceives (step ∷ steps) (narrowed mid.bits step ∷ x) mid.bits) (sym f.cut.given_is) (one_given step mid.bits e k f.cut.cut));
          begun = f.begun;
          were = f.were;
          valid = h.0;
          going = h.1;
        }

        failed : (fault : CheckFault) → CheckerFailedBecause takes f.begun (listeners_of_checked new) f.written (Some (narrowed mid.bits step)) fault ⊎ CheckerFailedBecause takes f.begun (listeners_of_checked new) (narrowed mid.bits step ∷ f.written) None fault → FailsWhileHeard takes added (listeners_of (listeners_of_checked new)) (step ∷ steps) fault
        failed fault (inl h) = record { later = step ∷ []; taken = steps; all = refl; written = f.written; bits = mid.bits; cut = then_narrowed f.cut; begun = f.begun; were = f.were; heard = (listeners_of_checked new, refl, h) }
        failed fault (inr h) = record { later = []; taken = step ∷ steps; all = refl; written = narrowed mid.bits step ∷ f.written; bits = mid.bits; cut = cut_all; begun = f.begun; were = f.were; heard = (listeners_of_checked new, refl, h) }

    -- at the end of a proof, the checker received only the width
    pub width_taken : (r : Result (Unit {0}) CheckerError) (new : Checked L) → is_end step ≡ true → ReceivesWidthOrFails takes r old new → AcceptsStepOrFails takes r old step new
    width_taken r new e takes_width added steps may fed =
        cause_map r _ _ _ _ (λ (f : IsFedBy takes (CheckerReceivesWidth steps) new added). record { written = f.written; cut = subst (λ x. CheckerReceives (step ∷ steps) x new.bits) (sym f.cut.given_is) (end_given step new.bits e f.cut.cut); begun = f.begun; were = f.were; valid = f.valid; going = f.going })
        (failed_later added (listeners_of (listeners_of_checked new)) step steps) (takes_width added steps may.0 fed)

    -- receiving the width failed
    pub width_untaken : (er : CheckerError) (new : Checked L) → ReceivesWidthOrFails takes (Err er) old new → AcceptsStepOrFails takes (Err er) old step new
    width_untaken er new takes_width added steps may fed = (let h = takes_width added steps may.0 fed in (h.0, failed_later added (listeners_of (listeners_of_checked new)) step steps (fault_of_failure er) h.1))

-- LISTENERS

listed_more : {L : Type 0} (added : List L) (one : L) (old new : Processing L Nobody) → AreJustListeners added old → listeners_of new ≡ record (listeners_of old) { processors = (listeners_of old).processors ++ one ∷ [] } → AreJustListeners (added ++ one ∷ []) new
listed_more added one old new e f = f ∙ ap (λ (z : Listeners _ Nobody). record z { processors = z.processors ++ one ∷ [] }) e

module _ {L : Type 0} (takes : L → Notice → Result Unit Error → L → Type 0) where
  heard_none : (notices : List Notice) (begun now : Processing L Nobody) → notices ≡ [] → ReceivesSince (Receives takes) [] notices begun now → now ≡ begun
  heard_none notices begun now e h = go h.0 (sym h.1 ∙ e) h.2
    where
      go : (since : List Notice) → since ≡ [] → ReceivesAll (Receives takes) since begun now → now ≡ begun
      go [] e k = k
      go (t ∷ ts) e k = cc

  -- before the first step, a listener was added
  listens_more : (old new : Checked L) (one : L) (added : List L) (steps : List Step) → has_begun steps ≡ false → IsFed takes old added steps → new.bits ≡ old.bits → kernel_of new.checker ≡ kernel_of old.checker
      → listeners_of (listeners_of_checked new) ≡ record (listeners_of (listeners_of_checked old)) { processors = (listeners_of (listeners_of_checked old)).processors ++ one ∷ [] } → IsFed takes new (added ++ one ∷ []) steps
  listens_more old new one added steps unbegun fed bits kernel listed = record {
    written = fed.written;
    cut = subst (CheckerReceives steps fed.written) (sym bits) fed.cut;
    begun = listeners_of_checked new;
    were = listed_more added one (listeners_of_checked old) (listeners_of_checked new) (ap listeners_of (heard_none (notices_made conflict fed.written) fed.begun (listeners_of_checked old) silent (fed.valid.heard fed.going)) ∙ fed.were) listed;
    valid = record {
      kernel = subst (λ k. kernels.KernelHasAccepted k fed.written) (sym kernel) fed.valid.kernel;
      heard = λ f. ([], subst (λ (k : Kernel). notices_made k.state.formula.status.conflict fed.written ≡ []) (sym kernel) silent, refl);
    };
    going = ap kernel_has_failed kernel ∙ fed.going;
  }
    where
      conflict : Option (ℕ × ℕ)
      conflict = old.checker.kernel.state.formula.status.conflict

      silent : notices_made conflict fed.written ≡ []
      silent = none_reported fed.written (widths_quiet (unended steps) (unended_none steps unbegun) (given_narrowed fed.cut)) conflict

  -- a listener was added, or memory ran out
  pub taken_in : (r : Result (Unit {0}) CheckerError) (old new : Checked L) (one : L) → new.bits ≡ old.bits
      → AddListenerResult r (kernel_of old.checker) (kernel_of new.checker) (listeners_of (listeners_of_checked old)) (listeners_of (listeners_of_checked new)) (record (listeners_of (listeners_of_checked old)) { processors = (listeners_of (listeners_of_checked old)).processors ++ one ∷ [] })
      → AddsOwnListener takes r old one new
  taken_in (Ok x) old new one bits a added steps unbegun fed = listens_more old new one added steps unbegun fed bits a.1 a.2
  taken_in (Err errors.OutOfMemory) old new one bits a added steps unbegun fed = (tt, (refl, subst (λ (z : Listeners _ Nobody). ProcessorsHeard takes added z steps) (sym a.2) (fed_heard takes old added steps fed)))
  taken_in (Err errors.HasFailed) old new one bits a added steps unbegun fed = absurd (true≢false (sym a.0 ∙ fed.going))
  taken_in (Err e) old new one bits a added steps unbegun fed = absurd a

-- ALL STEPS SO FAR

none_stable : (o : Option (ℕ × ℕ)) → ((o ≡ None → ⊥) → ⊥) → o ≡ None
none_stable None h = refl
none_stable (Some x) h = absurd (h (λ e. cc))

cause_prop : (e : CheckerError) → IsProp (IsCheckerFailure e)
cause_prop errors.OutOfMemory = λ x y. refl
cause_prop errors.CounterEnd = λ x y. refl
cause_prop (errors.ProofProcessorError cause) = λ x y. refl
cause_prop e = λ x y. absurd x

starved_stable : (e : CheckerError) → ∥ fault_of_failure e ≡ checks.OutOfMemory ∥₁ → fault_of_failure e ≡ checks.OutOfMemory
starved_stable errors.CounterEnd h = absurd (∥∥₁_elim h (λ a b. absurd a) (λ q. cc))
starved_stable (errors.ProofProcessorError cause) h = absurd (∥∥₁_elim h (λ a b. absurd a) (λ q. cc))
starved_stable e h = refl

-- without added processors, no processor returns a fault
module _ {L : Type 0} (takes : L → Notice → Result Unit Error → L → Type 0) where
  nobody_failed : (now : Listeners L Nobody) (steps : List Step) (cause : Error) → FailsWhileHeard takes [] now steps (checks.Processor cause) → ⊥
  nobody_failed now steps cause f = elim f.heard.2 [
    | inl h ↦ nobody_fails takes AcceptsEverything (faults.ProofProcessorError cause) h.0 f.begun f.heard.0 f.were h.2
    | inr h ↦ nobody_fails takes AcceptsEverything (faults.ProofProcessorError cause) h.0 f.begun f.heard.0 f.were h.2
  ]

  same_added : (xs : List L) → Some xs ≡ Some [] → xs ≡ []
  same_added xs e = cc

  with_listeners : (fault : CheckFault) (added : List L) (now : Listeners L Nobody) (steps : List Step) → ∥ FailsWhileHeard takes added now steps fault ∥₁ → ∥ FailsWhileHeard takes added now steps fault ∥₁ × HasListeners fault (Some added)
  with_listeners checks.OutOfMemory added now steps h = (h, tt)
  with_listeners checks.CounterEnd added now steps h = (h, tt)
  with_listeners (checks.Processor cause) added now steps h =
      (h, λ e. ∥∥₁_elim h (λ a b. absurd a) (λ f. nobody_failed now steps cause (subst (λ xs. FailsWhileHeard takes xs now steps (checks.Processor cause)) (same_added added e) f)))

module _ {L : Type 0} (takes : L → Notice → Result Unit Error → L → Type 0) (lost : Bool) (own : Option (Checked L)) (added : List L) (steps : List Step) (fed : ∥ FedUnless takes lost own added steps ∥₁) where
  -- one more step, which the checker does not receive
  pub skipped_fed : (step : Step) (now : List Step) → now ≡ step ∷ steps → ∥ FedUnless takes true own added now ∥₁
  skipped_fed step now e = subst (λ x. ∥ FedUnless takes true own added x ∥₁) (sym e) (∥∥₁_elim fed ∥∥₁_prop (go own))
    where
      go : (o : Option (Checked L)) → FedUnless takes lost o added steps → ∥ FedUnless takes true o added (step ∷ steps) ∥₁
      go None f = ∣ f ∣₁
      go (Some c) f = ∣ ((λ l. absurd (true≢false l)), heard_later takes added (listeners_of (listeners_of_checked c)) step steps f.1) ∣₁

  -- without a checker, no processor was added
  pub none_added : own ≡ None → ∥ added ≡ [] ∥₁
  none_added is = ∥∥₁_elim (subst (λ o. ∥ FedUnless takes lost o added steps ∥₁) is fed) ∥∥₁_prop (λ f. ∣ f ∣₁)

  module _ (old : Checked L) (is : own ≡ Some old) where
    was : ∥ FedUnless takes lost (Some old) added steps ∥₁
    was = subst (λ o. ∥ FedUnless takes lost o added steps ∥₁) is fed

    -- the listeners are returned
    pub returned : (given : List L) → given ≡ (listeners_of (listeners_of_checked old)).processors → ∥ AddedAfterHearing takes added given steps ∥₁
    returned given e = ∥∥₁_elim was ∥∥₁_prop (λ f. ∣ record { now = listeners_of (listeners_of_checked old); are = sym e; heard = f.1 } ∣₁)

    -- if no step was lost, the listeners are returned after they heard everything
    pub returned_notified : (given : List L) → given ≡ (listeners_of (listeners_of_checked old)).processors → lost ≡ false → ∥ AddedAfterHearingAll takes added given steps ∥₁
    returned_notified given e l = ∥∥₁_elim was ∥∥₁_prop (λ f. ∣ record { now = listeners_of (listeners_of_checked old); are = sym e; heard = fed_whole takes old added steps (f.0 l) } ∣₁)

    module _ (new : Checked L) where
      -- the checker accepted a step
      pub taken_fed : (step : Step) (now : List Step) → now ≡ step ∷ steps → lost ≡ false → AreAllowedSteps (step ∷ steps) → AcceptsStepOrFails takes (Ok tt) old step new → ∥ FedUnless takes lost (Some new) added now ∥₁
      taken_fed step now e l may takes_step = subst (λ x. ∥ FedUnless takes lost (Some new) added x ∥₁) (sym e)
          (∥∥₁_elim was ∥∥₁_prop (λ f. let k = takes_step added steps may (f.0 l) in ∣ ((λ _. k), fed_heard takes new added (step ∷ steps) k) ∣₁))

      -- the checker failed at a step
      pub failed_fed : (e : CheckerError) (step : Step) (now : List Step) → now ≡ step ∷ steps → lost ≡ false → AreAllowedSteps (step ∷ steps) → AcceptsStepOrFails takes (Err e) old step new → ∥ FedUnless takes true (Some new) added now ∥₁
      failed_fed e step now q l may takes_step = subst (λ x. ∥ FedUnless takes true (Some new) added x ∥₁) (sym q)
          (∥∥₁_elim was ∥∥₁_prop (λ f. ∣ ((λ t. absurd (true≢false t)), failed_heard takes added (listeners_of (listeners_of_checked new)) (step ∷ steps) (fault_of_failure e) (takes_step added steps may (f.0 l)).1) ∣₁))

      -- the error is one that the checker may have at an allowed step
      pub taken_cause : (e : CheckerError) (step : Step) → lost ≡ false → AreAllowedSteps (step ∷ steps) → AcceptsStepOrFails takes (Err e) old step new → IsCheckerFailure e
      taken_cause e step l may takes_step = ∥∥₁_elim was (cause_prop e) (λ f. (takes_step added steps may (f.0 l)).0)

      pub taken_why : (e : CheckerError) (step : Step) (now : List Step) → now ≡ step ∷ steps → lost ≡ false → AreAllowedSteps (step ∷ steps) → AcceptsStepOrFails takes (Err e) old step new → ∥ FailsWhileHeard takes added (listeners_of (listeners_of_checked new)) now (fault_of_failure e) ∥₁ × HasListeners (fault_of_failure e) (Some added)
      taken_why e step now q l may takes_step =
          with_listeners takes (fault_of_failure e) added (listeners_of (listeners_of_checked new)) now (subst (λ x. ∥ FailsWhileHeard takes added (listeners_of (listeners_of_checked new)) x (fault_of_failure e) ∥₁) (sym q) (∥∥₁_elim was ∥∥₁_prop (λ f. ∣ (takes_step added steps may (f.0 l)).1 ∣₁)))

      -- the pending unit conflict was reported
      pub reported_fed : lost ≡ false → SettlesOrFails takes (Ok tt) old new → ∥ FedUnless takes lost (Some new) added steps ∥₁
      reported_fed l takes_delayed = ∥∥₁_elim was ∥∥₁_prop (λ f. let k = takes_delayed added steps (f.0 l) in ∣ ((λ _. k.0), fed_heard takes new added steps k.0) ∣₁)

      -- no unit conflict is pending then
      pub reported_settled : lost ≡ false → SettlesOrFails takes (Ok tt) old new → KernelHasNoPendingConflict (kernel_of new.checker)
      reported_settled l takes_delayed = none_stable new.checker.kernel.state.formula.status.conflict (λ n. ∥∥₁_elim was (λ x y. absurd x) (λ f. n (takes_delayed added steps (f.0 l)).1))

      -- reporting the unit conflict failed
      pub unreported_fed : (e : CheckerError) → lost ≡ false → SettlesOrFails takes (Err e) old new → ∥ FedUnless takes true (Some new) added steps ∥₁
      unreported_fed e l takes_delayed = ∥∥₁_elim was ∥∥₁_prop (λ f. ∣ ((λ t. absurd (true≢false t)), failed_heard takes added (listeners_of (listeners_of_checked new)) steps (fault_of_failure e) (takes_delayed added steps (f.0 l)).1) ∣₁)

      pub unreported_cause : (e : CheckerError) → lost ≡ false → SettlesOrFails takes (Err e) old new → IsCheckerFailure e
      unreported_cause e l takes_delayed = ∥∥₁_elim was (cause_prop e) (λ f. (takes_delayed added steps (f.0 l)).0)

      pub unreported_why : (e : CheckerError) → lost ≡ false → SettlesOrFails takes (Err e) old new → ∥ FailsWhileHeard takes added (listeners_of (listeners_of_checked new)) steps (fault_of_failure e) ∥₁ × HasListeners (fault_of_failure e) (Some added)
      unreported_why e l takes_delayed = with_listeners takes (fault_of_failure e) added (listeners_of (listeners_of_checked new)) steps (∥∥₁_elim was ∥∥₁_prop (λ f. ∣ (takes_delayed added steps (f.0 l)).1 ∣₁))

      -- a listener was added
      pub listens_fed : (one : L) (more : List L) → more ≡ added ++ one ∷ [] → has_begun steps ≡ false → lost ≡ false → AddsOwnListener takes (Ok tt) old one new → ∥ FedUnless takes lost (Some new) more steps ∥₁
      listens_fed one more e u l takes_in = subst (λ x. ∥ FedUnless takes lost (Some new) x steps ∥₁) (sym e)
          (∥∥₁_elim was ∥∥₁_prop (λ f. let k = takes_in added steps u (f.0 l) in ∣ ((λ _. k), fed_heard takes new (added ++ one ∷ []) steps k) ∣₁))

      -- memory ran out while a listener was added
      pub unlistened_fed : (e : CheckerError) (one : L) → has_begun steps ≡ false → lost ≡ false → AddsOwnListener takes (Err e) old one new → ∥ FedUnless takes true (Some new) added steps ∥₁
      unlistened_fed e one u l takes_in = ∥∥₁_elim was ∥∥₁_prop (λ f. ∣ ((λ t. absurd (true≢false t)), (takes_in added steps u (f.0 l)).1.1) ∣₁)

      pub unlistened_cause : (e : CheckerError) (one : L) → has_begun steps ≡ false → lost ≡ false → AddsOwnListener takes (Err e) old one new → IsCheckerFailure e
      unlistened_cause e one u l takes_in = ∥∥₁_elim was (cause_prop e) (λ f. (takes_in added steps u (f.0 l)).0)

      pub unlistened_why : (e : CheckerError) (one : L) → has_begun steps ≡ false → lost ≡ false → AddsOwnListener takes (Err e) old one new → fault_of_failure e ≡ checks.OutOfMemory
      unlistened_why e one u l takes_in = starved_stable e (∥∥₁_elim was ∥∥₁_prop (λ f. ∣ (takes_in added steps u (f.0 l)).1.0 ∣₁))

module _ {L : Type 0} (takes : L → Notice → Result Unit Error → L → Type 0) where
  -- a lost step is still lost after more steps
  pub lost_fed : (lost : Bool) (own : Option (Checked L)) (added : List L) (steps : List Step) → ∥ FedUnless takes lost own added steps ∥₁ → lost ≡ true → (step : Step) (now : List Step) → now ≡ step ∷ steps → ∥ FedUnless takes lost own added now ∥₁
  lost_fed lost own added steps fed l step now e = subst (λ b. ∥ FedUnless takes b own added now ∥₁) (sym l) (skipped_fed takes lost own added steps fed step now e)

  -- checking begins
  pub begun_fed : (own : Option (Checked L)) (new : Checked L) (lost : Bool) (added : List L) (steps : List Step) → ∥ FedUnless takes lost own added steps ∥₁ → own ≡ None → has_begun steps ≡ false → IsFed takes new [] [] → ∥ FedUnless takes false (Some new) added steps ∥₁
  begun_fed own new lost added steps fed is u f = ∥∥₁_elim (none_added takes lost own added steps fed is) ∥∥₁_prop (λ e.
      let k = fed_ended takes new added steps u (subst (λ x. IsFed takes new x []) (sym e) f) in ∣ ((λ _. k), fed_heard takes new added steps k) ∣₁)

  -- checking restarts, even if a step was lost
  pub anew_fed : (new : Checked L) (added : List L) (steps : List Step) → has_begun steps ≡ false → IsFed takes new added [] → ∥ FedUnless takes false (Some new) added steps ∥₁
  anew_fed new added steps u f = (let k = fed_ended takes new added steps u f in ∣ ((λ _. k), fed_heard takes new added steps k) ∣₁)

  -- the checker was restarted
  pub anew : (old new : Checked L) (added given : List L) → added ≡ given → given ≡ (listeners_of (listeners_of_checked old)).processors → new.bits ≡ 64 → kernels.KernelHasAccepted (kernel_of new.checker) [] → kernel_has_failed (kernel_of new.checker) ≡ false
      → kernels.KernelHasNoPendingConflict (kernel_of new.checker) → listeners_of (listeners_of_checked new) ≡ record { processors = given; transcripts = [] } → CheckerRestarts takes old new added
  anew old new added given e f bits valid going settled listed = record {
    listed = e ∙ f;
    fed = fed_first takes new added bits valid going settled (listed ∙ ap (λ (xs : List L). record { processors = xs; transcripts = [] }) (sym e));
  }

  nil_stable : (xs : List L) → ∥ xs ≡ [] ∥₁ → xs ≡ []
  nil_stable [] h = refl
  nil_stable (x ∷ xs) h = absurd (∥∥₁_elim h (λ a b. absurd a) (λ e. cc))

  -- without a checker there are no listeners
  pub none_listed : (lost : Bool) (own : Option (Checked L)) (added : List L) (steps : List Step) → ∥ FedUnless takes lost own added steps ∥₁ → own ≡ None → added ≡ []
  none_listed lost own added steps fed is = nil_stable added (none_added takes lost own added steps fed is)

-- THE RECORD OF STEPS

module _ {L : Type 0} {G : Ghosts L} (m : EmittedSteps L G) where
  -- the listeners are returned
  pub made_returned : (own : Checked L) (given : List L) → m.own ≡ Some own → given ≡ (listeners_of (listeners_of_checked own)).processors → EmittedReturnsListeners m given
  made_returned own given is e = subst (λ o. ReturnsIfChecked G.takes (listed_in o m.roll.items) given m.history.steps) (sym is) (returned G.takes m.lost m.own m.roll.items m.history.steps m.fed own is given e)

  pub made_returned_notified : (own : Checked L) (given : List L) → m.own ≡ Some own → given ≡ (listeners_of (listeners_of_checked own)).processors → EmittedReturnsNotifiedListeners m given
  made_returned_notified own given is e l = subst (λ o. ReturnsNotifiedIfChecked G.takes (listed_in o m.roll.items) given m.history.steps) (sym is) (returned_notified G.takes m.lost m.own m.roll.items m.history.steps m.fed own is given e l)

  -- the listeners when checking begins
  pub listed_first : m.own ≡ None → EmittedListenersAtRestart m.lost m (emitted_listeners m) m.roll.items
  listed_first is = subst (λ o. EmittedListenersAtRestart m.lost m (listed_in o m.roll.items) m.roll.items) (sym is) (none_listed G.takes m.lost m.own m.roll.items m.history.steps m.fed is)

  pub listed_again : (own : Checked L) (given : List L) → m.own ≡ Some own → m.lost ≡ true → given ≡ (listeners_of (listeners_of_checked own)).processors → EmittedListenersAtRestart m.lost m (emitted_listeners m) given
  listed_again own given is l e = subst (λ o. EmittedListenersAtRestart m.lost m (listed_in o m.roll.items) given) (sym is) (subst (λ b. EmittedListenersAtRestart b m (Some m.roll.items) given) (sym l) (made_returned own given is e))

-- the stored error was reported, and nothing else has changed
pub complaint_reported : {L : Type 0} {G : Ghosts L} (m : EmittedSteps L G) (complaint : Option Error) (counted : m.begun ≡ has_begun m.history.steps) (may : ∥ AreAllowedSteps m.history.steps ∥₁) (fed : ∥ FedUnless G.takes m.lost m.own m.roll.items m.history.steps ∥₁) → complaint ≡ None
    → record { history = m.history; own = m.own; roll = m.roll; begun = m.begun; lost = m.lost; complaint = complaint; counted = counted; may = may; fed = fed } ≡ emitted_without_listener_error m
complaint_reported m complaint counted may fed none = λ i. record m {
  complaint = none i;
  counted = Bool-set m.begun (has_begun m.history.steps) counted m.counted i;
  may = ∥∥₁_prop may m.may i;
  fed = ∥∥₁_prop fed m.fed i;
}

-- one more step is allowed
pub may_more : (steps now : List Step) (step : Step) → now ≡ step ∷ steps → AreAllowedSteps (step ∷ steps) → ∥ AreAllowedSteps now ∥₁
may_more steps now step e may = ∣ subst AreAllowedSteps (sym e) may ∣₁
