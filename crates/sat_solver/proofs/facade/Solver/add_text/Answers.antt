use Rattle.std.proofs.lemmas.Grind.{common_steps}
use Rattle.std.proofs.Common.{◌≡◌, ◌+◌, ℕ, List, [], ◌++◌, false, inl, refl, ap, sym, subst, ◌∙◌, take, length-append, rules, arith}
use Rattle.std.proofs.lemmas.Result.{err_from_is_err_and}
use Rattle.sat_base.specs.device.Device.{GavePrefix}
use Rattle.sat_base.specs.text.Text.{HasEnded}
use Rattle.sat_base.specs.dimacs.Parsing.{Progress, HasNoFaultSoFar, EndsInLastPiece, LastReadGaveBytes}
use Rattle.sat_base.proofs.lemmas.device.Given.{gave_none, gave_more, gave_still, not_ended, few_front, calls_within, calls_upto}
use Rattle.sat_base.proofs.lemmas.dimacs.Parsed.{stands_of, piece_given, sound_none}
use Rattle.sat_base.proofs.lemmas.dimacs.ReadToEnd.{ReadToEnd, some_read, last_gave, last_at_end, next_kept, next_within, read_to_end, read_front, stops_none, stops_after, short_piece}
use Rattle.sat_checker.proofs.lemmas.checker.Texts.{fed_of, goes_fed, no_clauses, sound_after}
use Rattle.sat_solver.specs.facade.Formulas.{AddsAll}
use Rattle.sat_solver.proofs.lemmas.facade.FormulaLemmas.{adds_going, piece_added, piece_answers, end_answers, read_answers}
use Rattle.sat_solver.proofs.lemmas.solver.StoppingLemmas.{read_before}
use Rattle.sat_solver.proofs.facade.Solver.add_text.Given.{Over}
use Rattle.sat_solver.proofs.facade.Solver.add_text.Goals as goal
use Rattle.sat_solver.proofs.facade.Solver.add_text.Goals.{In-Ok, In-Ok-eq0, In-Err}

-- the end was read
module _ (g : Over) (c : In-Ok-eq0 g) where
  all_read : ReadToEnd (g.R.CountedRead.seen c.args.reader.now) (g.R.CountedRead.seen c.read_next.new.reader) c.loop.invariant.bytes.0 c.loop.invariant.bytes.0
  all_read =
      let b = c.loop.invariant.bytes in
      let fed = fed_of b.0 c.loop.parser b.1 in
      subst (ReadToEnd _ _ b.0) fed
      (read_to_end _ (g.R.CountedRead.seen c.loop.reader) _ b.0 c.loop.parser.fed c.in-Ok-eq0.field-0 c.loop.counter c.read_next.new.room b.2 c.in-Ok-eq0.ensures.reads (search rules) (search rules) c.loop.invariant.calls b.3
      (λ h. read_before b.0 c.loop.counter _ b.5 c.loop.invariant.open_yet (subst HasEnded fed h)))

  none_failed : (g.R.CountedRead.seen c.read_next.new.reader).failures ≡ (g.R.CountedRead.seen c.args.reader.now).failures
  none_failed = next_kept c.in-Ok-eq0.field-0 c.read_next.new.room c.loop.parser.fed _ _ c.in-Ok-eq0.ensures.reads ∙ c.loop.invariant.failures

  gave_before_end : HasEnded c.loop.invariant.bytes.0 → LastReadGaveBytes (g.R.CountedRead.seen c.args.reader.now) (g.R.CountedRead.seen c.read_next.new.reader)
  gave_before_end = last_at_end c.in-Ok-eq0.field-0 c.read_next.new.room c.loop.parser.fed c.loop.invariant.bytes.0 (g.R.CountedRead.seen c.args.reader.now) (g.R.CountedRead.seen c.loop.reader) (g.R.CountedRead.seen c.read_next.new.reader) c.in-Ok-eq0.ensures.reads (λ called. goes_fed _ c.loop.parser c.loop.invariant.bytes.1 (c.in-Ok-eq0.ensures.goes_on called)) c.loop.invariant.gave

-- a piece was read
module _ (g : Over) (c : In-Ok g) where
  abbrev piece : List ℕ
  piece = take c.in-Ok.count c.read_next.new.room

  more_read : GavePrefix (g.R.CountedRead.seen c.args.reader.now) (g.R.CountedRead.seen c.read_next.new.reader) (c.loop.invariant.bytes.0 ++ piece)
  more_read = gave_more _ (g.R.CountedRead.seen c.loop.reader) _ _ c.in-Ok.count c.read_next.new.room c.loop.invariant.bytes.2 (some_read _ _ c.loop.parser.fed _ _ (search rules) c.in-Ok.ensures.reads)

  unended : (g.R.CountedRead.seen c.read_next.new.reader).ended ≡ false
  unended = not_ended (g.R.CountedRead.seen c.loop.reader) _ c.in-Ok.count c.read_next.new.room (some_read _ _ c.loop.parser.fed _ _ (search rules) c.in-Ok.ensures.reads) (search rules)

  once_more : (g.R.CountedRead.seen c.read_next.new.reader).calls ≡ (g.R.CountedRead.seen c.loop.reader).calls + 1
  once_more = (some_read c.in-Ok.count c.read_next.new.room c.loop.parser.fed _ _ (search rules) c.in-Ok.ensures.reads).calls

  none_failed_yet : (g.R.CountedRead.seen c.read_next.new.reader).failures ≡ (g.R.CountedRead.seen c.args.reader.now).failures
  none_failed_yet = next_kept c.in-Ok.count c.read_next.new.room c.loop.parser.fed _ _ c.in-Ok.ensures.reads ∙ c.loop.invariant.failures

  gave : LastReadGaveBytes (g.R.CountedRead.seen c.args.reader.now) (g.R.CountedRead.seen c.read_next.new.reader)
  gave = last_gave c.in-Ok.count c.read_next.new.room c.loop.parser.fed (g.R.CountedRead.seen c.args.reader.now) (g.R.CountedRead.seen c.loop.reader) (g.R.CountedRead.seen c.read_next.new.reader) (search rules) c.in-Ok.ensures.reads

  stops : EndsInLastPiece (c.loop.invariant.bytes.0 ++ piece)
  stops = stops_after _ piece (goes_fed _ c.loop.parser c.loop.invariant.bytes.1 (c.in-Ok.ensures.goes_on (omega (arith, once_more)))) (short_piece c.in-Ok.count c.read_next.new.room (search rules) (search rules))

-- a read failed
module _ (g : Over) (c : In-Err g) where
  still_read : GavePrefix (g.R.CountedRead.seen c.args.reader.now) (g.R.CountedRead.seen c.read_next.new.reader) c.loop.invariant.bytes.0
  still_read = gave_still _ _ (g.R.CountedRead.seen c.loop.reader) _ _ c.read_next.new.room c.loop.invariant.bytes.2 c.in-Err.ensures.reads

  gave_before_fault : HasEnded c.loop.invariant.bytes.0 → LastReadGaveBytes (g.R.CountedRead.seen c.args.reader.now) (g.R.CountedRead.seen c.read_next.new.reader)
  gave_before_fault ended = absurd (goes_fed _ c.loop.parser c.loop.invariant.bytes.1 (c.in-Err.ensures.goes_on (omega (arith, c.in-Err.ensures.reads.calls))) ended)

pub loop-init : goal.loop-init
loop-init g c = record {
  was = c.requires.going;
  going = c.requires.going;
  bytes = ([], stands_of [] c.args.parser.now c.requires.fresh, gave_none _, omega arith, ap (λ (z : Progress). z.taken) c.requires.fresh ∙ sym no_clauses, λ e. refl, stops_none);
  sound = subst HasNoFaultSoFar (sym c.requires.fresh) sound_none;
  open_yet = λ h. absurd (omega arith);
  gave = λ h. absurd (omega arith);
  failures = refl;
  calls = omega arith;
  added = subst (λ cs. AddsAll g.P.ProofProcessor.takes c.args.self.now cs c.args.self.now) (sym (ap (λ (z : Progress). z.taken) c.requires.fresh)) refl;
}

pub loop-preserved : goal.loop-preserved
loop-preserved g c =
    let r = (goal.at.loop-preserved g c).In-Ok in
    let b = c.loop.invariant.bytes in
    let a = c.in_ok-add_read-in-Ok.ensures.adds in
    let more = piece_added g.P.ProofProcessor.takes c.args.self.now c.loop.self c.add_read-in-Ok.new.self b.0 (piece g r) c.loop.parser c.feed-answer.new.self c.add_read-in-Ok.new.parser c.feed-answer.result b.1 c.feed-answer.ensures.answer c.in_ok-add_read-in-Ok.ensures.taken a c.loop.invariant.added in
    record {
      was = c.loop.invariant.was;
      going = adds_going g.P.ProofProcessor.takes c.args.self.now c.add_read-in-Ok.new.self c.add_read-in-Ok.new.parser.taken c.loop.invariant.was more.2;
      bytes = (b.0 ++ piece g r, more.0, more_read g r, omega (arith, b.3, length-append b.0 (piece g r), piece_given c.in-Ok.count c.read_next.new.room (search rules) (search rules)), more.1, λ e. absurd (omega arith), stops g r);
      sound = sound_after c.feed-answer.result c.feed-answer.new.self c.add_read-in-Ok.new.parser a.2.0 c.feed-answer.ensures.sound c.in_ok-add_read-in-Ok.ensures.taken;
      open_yet = λ h. unended g r;
      gave = gave g r;
      failures = none_failed_yet g r;
      calls = omega (arith, once_more g r, c.loop.invariant.calls);
      added = more.2;
    }

pub returns-in-Ok-eq0-clause-adds : goal.returns-in-Ok-eq0-clause-adds
returns-in-Ok-eq0-clause-adds g c =
    let r = (goal.at.returns-in-Ok-eq0-clause-adds g c).In-Ok-eq0 in
    let b = c.loop.invariant.bytes in
    end_answers g.P.ProofProcessor.takes c.add_read.result c.finish-answer.result c.args.self.now c.loop.self c.add_read.new.self _ _ b.0 c.loop.parser c.finish-answer.new.self c.loop.invariant.was b.1 c.finish-answer.ensures
    (none_failed g r) (all_read g r) c.loop.invariant.added c.add_read.ensures.adds

pub returns-in_err-add_read-in-Ok-clause-adds : goal.returns-in_err-add_read-in-Ok-clause-adds
returns-in_err-add_read-in-Ok-clause-adds g c =
    let p = err_from_is_err_and c.from_residual.result c.from_residual.ensures.1 in
    let r = (goal.at.returns-in_err-add_read-in-Ok-clause-adds g c).In-Ok in
    let b = c.loop.invariant.bytes in
    rw (p.1, p.2) (piece_answers g.P.ProofProcessor.takes c.in_err-add_read-in-Ok.field-0.0 c.feed-answer.result c.args.self.now c.loop.self c.add_read-in-Ok.new.self _ _ b.0 (piece g r) c.loop.parser c.feed-answer.new.self c.loop.invariant.was b.1 c.feed-answer.ensures.answer
    (none_failed_yet g r)
    (more_read g r)
    (unended g r)
    (omega (arith, once_more g r, c.loop.invariant.calls, b.3, length-append b.0 (piece g r)))
    c.loop.invariant.added c.in_err-add_read-in-Ok.ensures.adds)

pub returns-in-Err-clause-adds : goal.returns-in-Err-clause-adds
returns-in-Err-clause-adds g c =
    let b = c.loop.invariant.bytes in
    let failed = c.in-Err.ensures.reads in
    let front = still_read g (goal.at.returns-in-Err-clause-adds g c).In-Err in
    read_answers g.P.ProofProcessor.takes c.args.self.now c.loop.self _ _ b.0 c.loop.parser c.loop.invariant.was b.1
    (inl (failed.failures.0 ∙ ap (λ (n : ℕ). n + 1) c.loop.invariant.failures, failed.failures.1), few_front _ _ b.0 front (omega (arith, failed.calls, c.loop.invariant.calls, b.3)))
    front c.loop.invariant.sound b.4 c.loop.invariant.added

pub returns-clause-adds : goal.returns-clause-adds
returns-clause-adds g c = grind (arith, common_steps, few_front, read_answers)

-- WHERE IT STOPPED

pub returns-in-Ok-eq0-clause-stops : goal.returns-in-Ok-eq0-clause-stops
returns-in-Ok-eq0-clause-stops g c = (_, read_front _ _ _ _ (all_read g (goal.at.returns-in-Ok-eq0-clause-stops g c).In-Ok-eq0), c.loop.invariant.bytes.6, gave_before_end g (goal.at.returns-in-Ok-eq0-clause-stops g c).In-Ok-eq0)

pub returns-in_err-add_read-in-Ok-clause-stops : goal.returns-in_err-add_read-in-Ok-clause-stops
returns-in_err-add_read-in-Ok-clause-stops g c = let r = (goal.at.returns-in_err-add_read-in-Ok-clause-stops g c).In-Ok in (_, more_read g r, stops g r, λ ended. gave g r)

pub returns-in-Err-clause-stops : goal.returns-in-Err-clause-stops
returns-in-Err-clause-stops g c = (c.loop.invariant.bytes.0, still_read g (goal.at.returns-in-Err-clause-stops g c).In-Err, c.loop.invariant.bytes.6, gave_before_fault g (goal.at.returns-in-Err-clause-stops g c).In-Err)

pub returns-clause-stops : goal.returns-clause-stops
returns-clause-stops g c = let b = c.loop.invariant.bytes in (b.0, b.2, b.6, λ ended. c.loop.invariant.gave)

-- HOW OFTEN IT WAS READ

pub returns-in-Ok-eq0-clause-reads : goal.returns-in-Ok-eq0-clause-reads
returns-in-Ok-eq0-clause-reads g c = next_within c.in-Ok-eq0.field-0 c.read_next.new.room c.loop.parser.fed (g.R.CountedRead.seen c.args.reader.now) _ _ c.loop.counter c.in-Ok-eq0.ensures.reads c.loop.invariant.calls c.loop-test.true

pub returns-in_err-add_read-in-Ok-clause-reads : goal.returns-in_err-add_read-in-Ok-clause-reads
returns-in_err-add_read-in-Ok-clause-reads g c = calls_within _ _ _ c.loop.counter (once_more g (goal.at.returns-in_err-add_read-in-Ok-clause-reads g c).In-Ok) c.loop.invariant.calls c.loop-test.true

pub returns-in-Err-clause-reads : goal.returns-in-Err-clause-reads
returns-in-Err-clause-reads g c = calls_within _ _ _ c.loop.counter c.in-Err.ensures.reads.calls c.loop.invariant.calls c.loop-test.true

pub returns-clause-reads : goal.returns-clause-reads
returns-clause-reads g c = calls_upto _ _ c.loop.counter c.loop.invariant.calls c.loop.auto.counter-end
