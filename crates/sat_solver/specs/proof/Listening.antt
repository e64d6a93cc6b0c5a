-- What the listeners of a solver's own checker hear. Lists of steps have the newest first.
use Rattle.std.specs.Prelude.{◌≡◌, ◌⊎◌, Option, None, Some, List, [], Result, Ok}
use Rattle.anyhow.specs.declared.error.Error.{Error}
use Rattle.sat_base.specs.steps.Steps.{Step}
use Rattle.sat_checker.specs.Accepts.{stored_after, ready_after}
use Rattle.sat_checker.specs.Counters.{CountersExhausted, ExhaustsCounters}
use Rattle.sat_checker.specs.announcements.Announcements.{Notice, notices_after, all_notices_after}
use Rattle.sat_checker.specs.announcements.Transcripts.{Transcribed}
use Rattle.sat_checker.specs.listeners.Receiving.{ReceivesSince, ReceivesSinceUpToFault}
use Rattle.sat_checker.specs.listeners.ProcessingView.{EachListenerReceives, listeners_of}
use Rattle.sat_checker.specs.declared.processing.Nobody.{Nobody}
use Rattle.sat_checker.specs.declared.processing.Processing.{Processing}
use Rattle.sat_checker.specs.declared.processing.ProcessingError.{ProcessingError}
use Rattle.sat_checker.specs.declared.processing.ProcessingError.TheVariants as faults
use Rattle.sat_solver.specs.declared.proof.emitted.CheckFault.{CheckFault}
use Rattle.sat_solver.specs.declared.proof.emitted.CheckFault.TheVariants as checks

-- `AcceptsEverything old said result new` holds if a transcript of the empty type `Nobody` accepts what is said, and is
-- unchanged; since there is no such transcript, nothing is ever demanded
abbrev pub AcceptsEverything : Nobody → Transcribed → Result Unit Error → Nobody → Type 0
AcceptsEverything old said result new = (result ≡ Ok tt) × (new ≡ old)

-- `AreJustListeners listed who` holds if the processors of `who` are exactly `listed`, in order, and it has no
-- transcripts
abbrev pub AreJustListeners : {L : Type 0} → List L → Processing L Nobody → Type 0
AreJustListeners listed who = listeners_of who ≡ record { processors = listed; transcripts = [] }

-- `ExhaustedBy in_hand written` holds if ids or a counter are exhausted by the step in hand, which comes after the
-- steps `written`; without a step in hand, by the empty clause of a pending unit conflict.
abbrev pub ExhaustedBy : (in_hand : Option Step) → List Step → Type 0
ExhaustedBy None written = CountersExhausted (ready_after written)
ExhaustedBy (Some step) written = ExhaustsCounters step (stored_after written)

module _ {L : Type 0} (takes : L → Notice → Result Unit Error → L → Type 0) where
  -- `Receives` relates listeners before and after an announcement: every processor hears it, as its relation `takes`
  -- says
  abbrev pub Receives : Processing L Nobody → Notice → Result Unit ProcessingError → Processing L Nobody → Type 0
  Receives = EachListenerReceives takes AcceptsEverything

  module _ (begun now : Processing L Nobody) (written : List Step) where
    -- `HeardAll takes begun now written` holds if the listeners, from the state `begun` to `now`, heard every
    -- announcement of the steps `written` once, in order; that of the empty clause of a pending unit conflict may still
    -- be missing
    abbrev pub HeardAll : Type 0
    HeardAll = ReceivesSince Receives [] (notices_after written) begun now ⊎ ReceivesSince Receives [] (all_notices_after written) begun now

    -- `HeardUpTo takes begun now written e` holds if the listeners, from the state `begun` to `now`, heard the
    -- announcements of the steps `written` once, in order, up to the fault `e`, which a listener returned
    abbrev pub HeardUpTo : ProcessingError → Type 0
    HeardUpTo e = ReceivesSinceUpToFault Receives e [] (notices_after written) begun now ⊎ ReceivesSinceUpToFault Receives e [] (all_notices_after written) begun now

    -- `HasHeard takes begun now written` holds if the listeners, from the state `begun` to `now`, heard every
    -- announcement of the steps `written` once, in order, or all those up to some listener's fault
    abbrev pub HasHeard : Type 0
    HasHeard = HeardAll ⊎ ((e : ProcessingError) × HeardUpTo e)

    -- `CheckerFailedBecause in_hand fault` holds if the checker, after the steps `written`, failed with `fault`, at the
    -- step `in_hand` if there is one. `OutOfMemory`: in the checker or returned by a listener. `CounterEnd`: the step,
    -- or a pending empty clause, exhausts ids or a counter. `Processor`: returned by a listener.
    abbrev pub CheckerFailedBecause : (in_hand : Option Step) → CheckFault → Type 0
    CheckerFailedBecause in_hand checks.OutOfMemory = HeardAll ⊎ HeardUpTo faults.OutOfMemory
    CheckerFailedBecause in_hand checks.CounterEnd = ExhaustedBy in_hand written × HeardAll
    CheckerFailedBecause in_hand (checks.Processor cause) = HeardUpTo (faults.ProofProcessorError cause)
