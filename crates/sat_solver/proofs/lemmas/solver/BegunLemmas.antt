-- An ask begins without a step. From then on hashes may be shortened.
use Rattle.std.proofs.Common.{ℕ, ◌+◌, ◌-◌, ◌*◌, ◌^◌, ◌≤◌, ◌≡◌, ◌∙◌, [], subst}
use Rattle.sat_base.specs.device.Device.{Writer}
use Rattle.sat_checker.specs.declared.processing.ProofProcessor.{Ghosts}
use Rattle.sat_solver.specs.declared.error.SolverError.{SolverError}
use Rattle.sat_solver.specs.declared.error.SolverError.TheVariants as errors
use Rattle.sat_solver.specs.declared.context.Context.{Context}
use Rattle.sat_solver.specs.declared.proof.Proof.{Proof}
use Rattle.sat_solver.specs.declared.solver.Engine.{Engine}
use Rattle.sat_base.specs.script.ScriptState.{ScriptState}
use Rattle.sat_solver.specs.variables.Calls.{NamesAgree, ChangesScriptState}
use Rattle.sat_checker.specs.matching.Bridge.{LiveVariables}
use Rattle.sat_solver.specs.schedule.Solving.{CountsEmpoweringIn}
use Rattle.sat_solver.specs.session.AllowedSteps.{OnlyAllowedSteps, OnlyWidthAfterUnsat}
use Rattle.sat_solver.specs.proof.ProofView.{EmitsExactly, has_missed_step}
use Rattle.sat_solver.specs.solver.Answering.{CallFailsWithStoredError, EngineFlushFails}
use Rattle.sat_solver.specs.declared.state.SatState.TheVariants as states
use Rattle.sat_solver.specs.solver.Calls.{RoundsWithinBudget, learned_of, engine_rounds_left, engine_due_for_answer}
use Rattle.sat_solver.specs.solver.SearchingForAnswer.{SearchedForAnswer}
use Rattle.sat_solver.specs.solver.Whole.{SolverInvariant, steps_in}
use Rattle.sat_solver.proofs.lemmas.cdcl.GoingLemmas.{loss_later, went_after}
use Rattle.sat_solver.proofs.lemmas.session.ProofLemmas.{adds_more, fails_later, check_later}
use Rattle.sat_solver.proofs.lemmas.solver.SettlingLemmas.{whole_over}

module _ {W L : Type 0} {G : Ghosts L} (seen : W → Writer) (old : Engine W L G) (p : Proof W L G) (adds : EmitsExactly seen [] old.context.proof p) (taking : has_missed_step p ≡ has_missed_step old.context.proof) where
  abbrev pub begun : Engine W L G
  begun = record old { context = record old.context { proof = p } }

  pub whole_begun : SolverInvariant old → SolverInvariant begun
  whole_begun whole = whole_over old.context old.names old.asked old.assumed.items old.reported.failed_core.items old.clock.restarts.scale old.state p whole adds.history taking

  pub rounds_begun : (now : ℕ) → RoundsWithinBudget old.names (steps_in begun) old.context.config.max_steps old.clock.rounds now → RoundsWithinBudget old.names (steps_in old) old.context.config.max_steps old.clock.rounds now
  rounds_begun now h = subst (λ ss. RoundsWithinBudget old.names ss old.context.config.max_steps old.clock.rounds now) adds.history h

  -- the result of an ask, seen from before it began
  pub settled_begun : (new : Engine W L G) → SearchedForAnswer seen begun new → SearchedForAnswer seen old new
  settled_begun new s = record {
    whole = s.whole;
    comes = subst (λ ss. OnlyAllowedSteps OnlyWidthAfterUnsat ss (steps_in new)) adds.history s.comes;
    config = s.config;
    times = subst (λ ss. CountsEmpoweringIn ss (steps_in new) (learned_of new.state (new.clock.rounds - old.clock.rounds))) adds.history s.times;
    does = subst (λ ss. ChangesScriptState old.names new.names ss (steps_in new) (λ j. j) (λ j. engine_due_for_answer old.state new)) adds.history s.does;
    took = (_, adds_more seen [] s.took.0 old.context.proof p new.context.proof adds s.took.1);
    width = λ n. s.width (λ e. n (e ∙ adds.history));
    same = s.same;
    users = s.users;
    counts = record { on = rounds_begun new.clock.rounds s.counts.on; round = s.counts.round; spent = s.counts.spent; answered = subst (λ ss. (j : ScriptState) (live : LiveVariables) → NamesAgree old.names ss j live → 2 ^ (2 * j.identity_count + 3) ≤ engine_rounds_left old → new.state ≡ states.Unknown → ⊥) adds.history s.counts.answered };
    known = λ k. (let h = s.known k in (adds_more seen [] [] old.context.proof p new.context.proof adds h.0, h.1));
  }

  pub flush_begun : (e : SolverError) (q : Proof W L G) → EngineFlushFails seen e p q → EngineFlushFails seen e old.context.proof q
  flush_begun (errors.ProofIoError cause) q h = fails_later seen [] [] old.context.proof p q adds h
  flush_begun errors.OutOfMemory q h = check_later seen [] [] old.context.proof p q adds h
  flush_begun errors.CounterEnd q h = check_later seen [] [] old.context.proof p q adds h
  flush_begun (errors.ProofProcessorError cause) q h = check_later seen [] [] old.context.proof p q adds h
  flush_begun e q h = absurd h

  -- a failure of an ask, seen from before it began
  pub breaks_begun : (e : SolverError) (core : Context W L G) → CallFailsWithStoredError seen e begun.context core → CallFailsWithStoredError seen e old.context core
  breaks_begun e core b = (record { fault = b.0.fault; steps = _; went = went_after seen (Unit {0}) e [] b.0.steps old.context.proof p core.proof adds b.0.went; loss = loss_later e old.context.proof p core.proof taking b.0.loss }, b.1)
