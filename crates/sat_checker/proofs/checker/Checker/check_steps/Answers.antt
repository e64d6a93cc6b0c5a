use Rattle.std.proofs.Common.{[], ◌∷◌, ◌++◌, refl, ◌∙◌, arith}
use Rattle.std.proofs.lemmas.Result.{err_from_is_err_and}
use Rattle.sat_base.specs.steps.StepReading.{reader_source}
use Rattle.sat_checker.specs.CheckerView.{view_with}
use Rattle.sat_checker.specs.listeners.Receiving.{OwnReceivesFirst}
use Rattle.sat_checker.specs.listeners.ProcessingView.{EachListenerReceives}
use Rattle.sat_checker.specs.inner.ProofSteps.{at_source}
use Rattle.sat_checker.specs.ProofView.{steps_after}
use Rattle.sat_checker.proofs.lemmas.checker.Proofs.{passed_none, passed_one, stops, finishes, none_read, fresh_counts, fresh_unended, counts_more, ended, not_ended}
use Rattle.sat_checker.proofs.checker.Checker.check_steps.Goals as goal

pub loop-init : goal.loop-init
loop-init g c =
    let S = g.R.CountedRead.seen in
    record {
      well = c.requires.well;
      open_yet = c.requires.open_yet;
      same = refl;
      bound = none_read (reader_source S c.args.steps.now) c.requires.fresh;
      calls = fresh_counts (reader_source S c.args.steps.now);
      unended = fresh_unended (reader_source S c.args.steps.now) c.requires.fresh;
      rise = omega arith;
      passed = λ before begun earlier valid. ([], passed_none (OwnReceivesFirst g.O.ProofProcessor.takes (EachListenerReceives g.P.ProofProcessor.takes g.T.ProofTranscriptProcessor.reads)) before begun (at_source (view_with c.args.own.now c.args.self.now) (reader_source S c.args.steps.now)) earlier c.requires.well valid);
    }

pub returns-in_err-check_next-clause-proof : goal.returns-in_err-check_next-clause-proof
returns-in_err-check_next-clause-proof g c = λ before begun earlier valid.
    let S = g.R.CountedRead.seen in
    let p = err_from_is_err_and c.from_residual.result c.from_residual.ensures.1 in
    let passed = c.loop.invariant.passed before begun earlier valid in
    rw (p.1, p.2) (stops (OwnReceivesFirst g.O.ProofProcessor.takes (EachListenerReceives g.P.ProofProcessor.takes g.T.ProofTranscriptProcessor.reads)) before begun (at_source (view_with c.args.own.now c.args.self.now) (reader_source S c.args.steps.now)) (at_source (view_with c.loop.own c.loop.self) (reader_source S c.loop.steps)) (at_source (view_with c.check_next.new.own c.check_next.new.self) (reader_source S c.check_next.new.steps))
    c.in_err-check_next.field-0.0 earlier passed.0 c.requires.fresh c.requires.well c.check_next.ensures.bound passed.1
    (c.in_err-check_next.ensures.steps_on before begun (steps_after passed.0 earlier) passed.1.goes_on.0))

pub returns-then-branch-clause-proof : goal.returns-then-branch-clause-proof
returns-then-branch-clause-proof g c = λ before begun earlier valid.
    let S = g.R.CountedRead.seen in
    let passed = c.loop.invariant.passed before begun earlier valid in
    let on = c.in_ok-check_next.ensures.steps_on before begun (steps_after passed.0 earlier) passed.1.goes_on.0 in
    finishes (OwnReceivesFirst g.O.ProofProcessor.takes (EachListenerReceives g.P.ProofProcessor.takes g.T.ProofTranscriptProcessor.reads)) before begun (at_source (view_with c.args.own.now c.args.self.now) (reader_source S c.args.steps.now)) (at_source (view_with c.loop.own c.loop.self) (reader_source S c.loop.steps)) (at_source (view_with c.check_next.new.own c.check_next.new.self) (reader_source S c.check_next.new.steps))
    earlier passed.0 on.0 c.requires.fresh c.requires.well c.check_next.ensures.bound passed.1 on.1 (ended _ _ c.if-branch.true on.2) on.3

pub loop-preserved : goal.loop-preserved
loop-preserved g c =
    let S = g.R.CountedRead.seen in
    let goes = c.in_ok-check_next.ensures.goes_on in
    record {
      well = goes.0;
      open_yet = goes.1;
      same = c.check_next.ensures.same ∙ c.loop.invariant.same;
      bound = c.check_next.ensures.bound;
      calls = counts_more (reader_source S c.args.steps.now) (reader_source S c.loop.steps) (reader_source S c.check_next.new.steps) c.loop.invariant.calls c.check_next.ensures.calls;
      unended = λ h. c.loop.invariant.unended (c.in_ok-check_next.ensures.unended h);
      rise = omega (arith, c.loop.invariant.rise, c.check_next.ensures.rise);
      passed = λ before begun earlier valid.
          let passed = c.loop.invariant.passed before begun earlier valid in
          let on = c.in_ok-check_next.ensures.steps_on before begun (steps_after passed.0 earlier) passed.1.goes_on.0 in (
            passed.0 ++ on.0 ∷ [],
            passed_one (OwnReceivesFirst g.O.ProofProcessor.takes (EachListenerReceives g.P.ProofProcessor.takes g.T.ProofTranscriptProcessor.reads)) before begun (at_source (view_with c.args.own.now c.args.self.now) (reader_source S c.args.steps.now)) (at_source (view_with c.loop.own c.loop.self) (reader_source S c.loop.steps)) (at_source (view_with c.check_next.new.own c.check_next.new.self) (reader_source S c.check_next.new.steps))
                earlier passed.0 on.0 passed.1 on.1 (not_ended _ _ c.if-branch.false on.2) on.3,
          );
    }
