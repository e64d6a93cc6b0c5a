-- Laws about solvers, in terms of what callers see.
use Rattle.std.proofs.Common.{ℕ, ◌≡◌, ◌∙◌, true, inl, inr, refl, sym, ap, subst, append-nil, Some, Result, Ok, Err, List, [], ◌++◌}
use Rattle.std.specs.Prelude.{MatchResult, reverse}
use Rattle.anyhow.specs.declared.error.Error.{Error}
use Rattle.sat_base.specs.device.Device.{Writer, WriterAccepts}
use Rattle.sat_base.specs.steps.Steps.{Step}
use Rattle.sat_base.specs.steps.StepText.{SpellsSteps}
use Rattle.sat_checker.specs.announcements.Announcements.{Notice}
use Rattle.sat_solver.specs.declared.config.SolverConfigUpdate.{SolverConfigUpdate}
use Rattle.sat_solver.specs.declared.error.SolverError.{SolverError}
use Rattle.sat_solver.specs.declared.error.SolverError.TheVariants as errors
use Rattle.sat_solver.specs.declared.proof.format.ProofFormat.{ProofFormat}
use Rattle.sat_solver.specs.proof.OutputView.{text_in, AreSpeltInFormat}
use Rattle.sat_solver.specs.proof.Prefixes.{TargetReceivesPrefix}
use Rattle.sat_solver.specs.proof.ProofView.{Target, ReturnsWriter}
use Rattle.sat_solver.specs.solver.Calls.{IsFlushed}
use Rattle.sat_solver.specs.facade.View.{SolverView}
use Rattle.sat_solver.specs.facade.Calls.{FailsAfterSteps, ReachesBySteps, TargetAfter}
use Rattle.sat_solver.specs.facade.Configuring.{Configures}
use Rattle.sat_solver.specs.facade.Extending.{CallsAddClause, CallsNewVar}
use Rattle.sat_solver.specs.facade.Laws.{CallsReachBySteps, FlushedIsText}
use Rattle.sat_solver.specs.facade.Proving.{AddsProcessor, EnablesChecking}
use Rattle.sat_solver.proofs.lemmas.session.ProofLemmas.{carries_none, text_spells}

after : (e : SolverError) (old : Target) (steps : List Step) (new : Target) → TargetAfter e old steps new → TargetReceivesPrefix old steps new
after (errors.ProofIoError cause) old steps new h = inr ([], steps, refl, h)
after e old steps new h = inl h

module _ {L : Type 0} (old : SolverView L) where
  still : ReachesBySteps old old
  still = record { steps = []; history = refl; target = inl (carries_none old.target) }

  stays : (new : SolverView L) → new ≡ old → ReachesBySteps old new
  stays new h = subst (λ (w : SolverView L). ReachesBySteps old w) (sym h) still

  breaks : (e : SolverError) (new : SolverView L) → FailsAfterSteps e old new → ReachesBySteps old new
  breaks e new h = record { steps = h.steps; history = h.history; target = after e old.target h.steps new.target h.target }

  alike : (new w : SolverView L) → w.steps ≡ old.steps → w.target ≡ old.target → new ≡ w → ReachesBySteps old new
  alike new w steps target h = subst (λ (u : SolverView L). ReachesBySteps old u) (sym h) (record {
    steps = [];
    history = steps;
    target = subst (λ (t : Target). TargetReceivesPrefix old.target [] t) (sym target) (inl (carries_none old.target));
  })

  configures : (r : Result (Unit {0}) SolverError) (u : SolverConfigUpdate) (new : SolverView L) → Configures r u old new → ReachesBySteps old new
  configures (Ok x) u new h = alike new _ refl refl h.same
  configures (Err errors.HasFailed) u new h = stays new h.same
  configures (Err errors.OutOfRange) u new h = stays new h.same
  configures (Err e) u new h = absurd h

  enables : (r : Result (Unit {0}) SolverError) (new : SolverView L) → EnablesChecking r old new → ReachesBySteps old new
  enables (Ok x) new h = alike new _ refl refl h.same
  enables (Err errors.HasFailed) new h = stays new h.same
  enables (Err errors.TooLate) new h = stays new h.same
  enables (Err e) new h = absurd h

  listens : (r : Result (Unit {0}) SolverError) (processor : L) (new : SolverView L) → AddsProcessor r processor old new → ReachesBySteps old new
  listens (Ok x) processor new h = alike new _ refl refl h.same
  listens (Err errors.HasFailed) processor new h = stays new h.same
  listens (Err errors.TooLate) processor new h = stays new h.same
  listens (Err errors.OutOfMemory) processor new h = record {
    steps = [];
    history = h.steps;
    target = subst (λ (t : Target). TargetReceivesPrefix old.target [] t) (sym h.target) (inl (carries_none old.target));
  }
  listens (Err e) processor new h = absurd h

  pub calls_go_on : (new : SolverView L) → CallsReachBySteps old new
  calls_go_on new = record {
    makes = λ h. record { steps = h.steps; history = h.history; target = inl h.target };
    breaks = λ e. breaks e new;
    stays = stays new;
    configures = λ r u. configures r u new;
    enables = λ r. enables r new;
    listens = λ r processor. listens r processor new;
    closes_none = λ h. alike new _ refl refl h.same;
    closing_fails = λ e h. breaks e new h.breaks;
  }

-- the contract of a call, by cases of its result
pub clause_extended : {L : Type 0} {takes : L → Notice → Result Unit Error → L → Type 0} (r : Result (Unit {0}) SolverError) (old new : SolverView L) (clause : List ℕ) → CallsAddClause takes r old new clause → MatchResult r (λ _. CallsAddClause takes (Ok tt) old new clause) (λ e. CallsAddClause takes (Err e) old new clause)
clause_extended (Ok x) old new clause h = h
clause_extended (Err e) old new clause h = h

pub name_extended : {L : Type 0} {takes : L → Notice → Result Unit Error → L → Type 0} (r : Result ℕ SolverError) (old new : SolverView L) → CallsNewVar takes r old new → MatchResult r (λ user. CallsNewVar takes (Ok user) old new) (λ e. CallsNewVar takes (Err e) old new)
name_extended (Ok user) old new h = h
name_extended (Err e) old new h = h

pub flushed_is_text : FlushedIsText
flushed_is_text f from given steps now h flushed g =
    let k = subst (λ (z : Target). IsFlushed z) h.2 flushed in
    let q : Some given ≡ Some h.1.writer = subst (λ (z : Target). ReturnsWriter z (Some given)) h.2 g in
    let same : h.1.writer ≡ given = cc in
    let sent = h.3.wrote.sent in
    let all : sent.fresh ≡ text_in f h.3.written = sym (append-nil sent.fresh) ∙ ap (λ (z : List ℕ). sent.fresh ++ z) (sym k.0) ∙ sym sent.flows in
    record {
      written = h.3.written;
      counting = h.0;
      cuts = h.3.cuts;
      spells = λ e. subst (λ (z : ProofFormat). SpellsSteps (reverse h.3.written) (text_in z h.3.written)) (sym e) (text_spells h.3.written (subst (λ z. AreSpeltInFormat z h.3.written) e h.3.wrote.spelt));
      takes = subst (λ (z : Writer). WriterAccepts from z (text_in f h.3.written)) same (subst (WriterAccepts from h.1.writer) all sent.takes);
      flushed = subst (λ (z : Writer). z.flushed ≡ true) same k.1;
    }
