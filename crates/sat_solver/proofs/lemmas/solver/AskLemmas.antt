-- An ask begins, searches for an answer, and flushes the target.
use Rattle.std.proofs.Common.{◌≡◌, true, false, Err, [], ap, subst}
use Rattle.sat_base.specs.device.Device.{Writer}
use Rattle.sat_checker.specs.declared.processing.ProofProcessor.{Ghosts}
use Rattle.sat_solver.specs.cdcl.StepEffects.{error_of_proof}
use Rattle.sat_solver.specs.proof.ProofView.{EmitsExactly, FlushesAndNotifies, FlushesOrFails, with_ask_begun as asking_proof, has_asked, has_missed_step}
use Rattle.sat_solver.specs.declared.error.SolverError.{SolverError}
use Rattle.sat_solver.specs.declared.proof.Proof.{Proof}
use Rattle.sat_solver.specs.declared.proof.ProofError.{ProofError}
use Rattle.sat_solver.specs.declared.solver.Engine.{Engine}
use Rattle.sat_solver.specs.solver.Calls.{EngineAnswered, EngineSolves}
use Rattle.sat_solver.specs.declared.state.SatState.TheVariants as states
use Rattle.sat_solver.specs.solver.FailedEngine.{failed_with}
use Rattle.sat_solver.specs.solver.Found.{SearchedBy}
use Rattle.sat_solver.specs.solver.SearchingForAnswer.{SearchedForAnswer, AnswersOrBreaks}
use Rattle.sat_solver.specs.solver.Whole.{EngineInvariant}
use Rattle.sat_solver.proofs.lemmas.session.AskingLemmas.{asked_flushed}
use Rattle.sat_solver.proofs.lemmas.solver.BegunLemmas.{begun, settled_begun, rounds_begun, breaks_begun, flush_begun}
use Rattle.sat_solver.proofs.lemmas.solver.SettlingLemmas.{answered, settled_flushed, settled_broken, flushed_by}
use Rattle.sat_solver.proofs.lemmas.solver.ReportedLemmas.{solve_ends}

module _ {W L : Type 0} {G : Ghosts L} (seen : W → Writer) (s : Engine W L G) (going : s.failed ≡ false) (p : Proof W L G) (adds : EmitsExactly seen [] s.context.proof p) (taking : has_missed_step p ≡ has_missed_step s.context.proof) (mid : Engine W L G) where
  abbrev pub used : Engine W L G
  used = record s { used = true }

  abbrev pub asking : Engine W L G
  asking = begun seen used p adds taking

  -- the search for an answer failed
  pub ask_ends : (e : SolverError) → AnswersOrBreaks seen (Err e) asking mid → EngineSolves seen (Err e) s (failed_with mid)
  ask_ends e h =
      solve_ends seen s mid going e
      (breaks_begun seen used p adds taking e mid.context h.0, rounds_begun seen used p adds taking mid.clock.rounds h.1, λ n. flush_begun seen used p adds taking e mid.context.proof (h.2 n))

  module _ (settled : SearchedForAnswer seen asking mid) (q : Proof W L G) where
    abbrev pub flushed : Engine W L G
    flushed = record mid { context = record mid.context { proof = q } }

    following : SearchedForAnswer seen used mid
    following = settled_begun seen used p adds taking mid settled

    -- a flush failed
    pub ask_breaks : (e : ProofError) → FlushesOrFails seen (Err e) mid.context.proof q → AnswersOrBreaks seen (Err (error_of_proof e)) used flushed
    ask_breaks e f = settled_broken seen used mid following q e f

    pub ask_broken : (e : ProofError) → FlushesOrFails seen (Err e) mid.context.proof q → EngineSolves seen (Err (error_of_proof e)) s (failed_with flushed)
    ask_broken e f = solve_ends seen s flushed going (error_of_proof e) (ask_breaks e f)

    -- the flush succeeded
    pub ask_whole : FlushesAndNotifies seen mid.context.proof q → EngineInvariant flushed
    ask_whole f _ = (settled_flushed seen used mid following q f).whole

    pub ask_answered : p ≡ asking_proof s.context.proof → (s.state ≡ states.Unknown → SearchedBy seen mid.state s.clock mid.clock s.names mid.names asking.context mid.context mid.reported.failed_core.items) → FlushesAndNotifies seen mid.context.proof q → EngineAnswered seen s flushed
    ask_answered same searched f =
        answered seen s flushed (settled_flushed seen used mid following q f) going (flushed_by seen mid.context.proof q f) f.reported
        (asked_flushed seen settled.took.0 p mid.context.proof q (ap (λ (x : Proof W L G). has_asked x) same) settled.took.1 f)
        (λ u. record {
          following = mid.context.proof;
          searched = subst (λ x. SearchedBy seen mid.state s.clock mid.clock s.names mid.names (record s.context { proof = x }) mid.context mid.reported.failed_core.items) same (searched u);
          flushes = f;
        })
