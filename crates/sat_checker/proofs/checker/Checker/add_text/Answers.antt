use Rattle.std.proofs.Common.{◌+◌, ◌≡◌, ℕ, List, [], ◌++◌, false, inl, inr, refl, ap, subst, sym, ◌∙◌, take, length-append, rules, arith}
use Rattle.std.proofs.lemmas.Result.{err_from_is_err_and}
use Rattle.sat_base.specs.device.Device.{GavePrefix}
use Rattle.sat_base.specs.text.Text.{HasEnded}
use Rattle.sat_base.specs.dimacs.Parsing.{Progress, HasNoFaultSoFar, EndsInLastPiece, LastReadGaveBytes}
use Rattle.sat_base.proofs.lemmas.device.Given.{gave_none, gave_more, gave_still, not_ended, few_front}
use Rattle.sat_base.proofs.lemmas.dimacs.Parsed.{stands_of, piece_given, sound_none}
use Rattle.sat_base.proofs.lemmas.dimacs.ReadToEnd.{ReadToEnd, some_read, last_gave, last_at_end, next_kept, next_within, read_to_end, read_front, stops_none, stops_after, short_piece}
use Rattle.sat_checker.specs.CheckerView.{view_of}
use Rattle.sat_checker.specs.listeners.ProcessingView.{EachListenerReceives}
use Rattle.sat_checker.proofs.lemmas.checker.Texts.{start, no_clauses, fed_of, goes_fed, read_before, piece_added, sound_after, piece_answers, end_answers, read_answers}
use Rattle.sat_checker.proofs.checker.Checker.add_text.Given.{Over}
use Rattle.sat_checker.proofs.checker.Checker.add_text.Goals as goal
use Rattle.sat_checker.proofs.checker.Checker.add_text.Goals.{In-Ok, In-Ok-eq0, In-Err}

-- the end was read
module _ (g : Over) (c : In-Ok-eq0 g) where
  all_read : ReadToEnd (g.R.CountedRead.seen c.args.reader.now) (g.R.CountedRead.seen c.read_next.new.reader) c.loop.invariant.bytes.0 c.loop.invariant.bytes.0
  all_read =
      let b = c.loop.invariant.bytes in
      subst (ReadToEnd _ _ b.0) (fed_of b.0 c.loop.parser b.1)
      (read_to_end _ (g.R.CountedRead.seen c.loop.reader) _ b.0 c.loop.parser.fed c.in-Ok-eq0.field-0 c.loop.counter c.read_next.new.room b.2 c.in-Ok-eq0.ensures.reads (search rules) (search rules) c.loop.invariant.calls b.3
      (read_before b.0 c.loop.parser c.loop.counter _ b.1 b.5 c.loop.invariant.open_yet))

  gave_before_end : HasEnded c.loop.invariant.bytes.0 → LastReadGaveBytes (g.R.CountedRead.seen c.args.reader.now) (g.R.CountedRead.seen c.read_next.new.reader)
  gave_before_end = last_at_end c.in-Ok-eq0.field-0 c.read_next.new.room c.loop.parser.fed c.loop.invariant.bytes.0 (g.R.CountedRead.seen c.args.reader.now) (g.R.CountedRead.seen c.loop.reader) (g.R.CountedRead.seen c.read_next.new.reader) c.in-Ok-eq0.ensures.reads (λ called. goes_fed c.loop.invariant.bytes.0 c.loop.parser c.loop.invariant.bytes.1 (c.in-Ok-eq0.ensures.goes_on called)) c.loop.invariant.gave

-- a piece was read
module _ (g : Over) (c : In-Ok g) where
  abbrev piece : List ℕ
  piece = take c.in-Ok.count c.read_next.new.room

  more_read : GavePrefix (g.R.CountedRead.seen c.args.reader.now) (g.R.CountedRead.seen c.read_next.new.reader) (c.loop.invariant.bytes.0 ++ piece)
  more_read = gave_more _ (g.R.CountedRead.seen c.loop.reader) _ _ c.in-Ok.count c.read_next.new.room c.loop.invariant.bytes.2 (some_read _ _ c.loop.parser.fed _ _ (search rules) c.in-Ok.ensures.reads)

  unended : (g.R.CountedRead.seen c.read_next.new.reader).ended ≡ false
  unended = not_ended (g.R.CountedRead.seen c.loop.reader) _ c.in-Ok.count c.read_next.new.room (some_read _ _ c.loop.parser.fed _ _ (search rules) c.in-Ok.ensures.reads) (search rules)

  once_more : (g.R.CountedRead.seen c.read_next.new.reader).calls ≡ (g.R.CountedRead.seen c.loop.reader).calls + 1
  once_more = (some_read c.in-Ok.count c.read_next.new.room c.loop.parser.fed _ _ (search rules) c.in-Ok.ensures.reads).calls

  gave : LastReadGaveBytes (g.R.CountedRead.seen c.args.reader.now) (g.R.CountedRead.seen c.read_next.new.reader)
  gave = last_gave c.in-Ok.count c.read_next.new.room c.loop.parser.fed (g.R.CountedRead.seen c.args.reader.now) (g.R.CountedRead.seen c.loop.reader) (g.R.CountedRead.seen c.read_next.new.reader) (search rules) c.in-Ok.ensures.reads

  stops : EndsInLastPiece (c.loop.invariant.bytes.0 ++ piece)
  stops = stops_after _ piece (goes_fed c.loop.invariant.bytes.0 c.loop.parser c.loop.invariant.bytes.1 (c.in-Ok.ensures.goes_on (omega (arith, once_more)))) (short_piece c.in-Ok.count c.read_next.new.room (search rules) (search rules))

-- a read failed
module _ (g : Over) (c : In-Err g) where
  still_read : GavePrefix (g.R.CountedRead.seen c.args.reader.now) (g.R.CountedRead.seen c.read_next.new.reader) c.loop.invariant.bytes.0
  still_read = gave_still _ _ (g.R.CountedRead.seen c.loop.reader) _ _ c.read_next.new.room c.loop.invariant.bytes.2 c.in-Err.ensures.reads

  gave_before_fault : HasEnded c.loop.invariant.bytes.0 → LastReadGaveBytes (g.R.CountedRead.seen c.args.reader.now) (g.R.CountedRead.seen c.read_next.new.reader)
  gave_before_fault ended = absurd (goes_fed c.loop.invariant.bytes.0 c.loop.parser c.loop.invariant.bytes.1 (c.in-Err.ensures.goes_on (omega (arith, c.in-Err.ensures.reads.calls))) ended)

pub loop-init : goal.loop-init
loop-init g c = record {
  well = c.requires.well;
  bytes = ([], stands_of [] c.args.parser.now c.requires.fresh, gave_none _, omega arith, ap (λ (p : Progress). p.taken) c.requires.fresh ∙ sym no_clauses, λ e. refl, stops_none);
  sound = subst HasNoFaultSoFar (sym c.requires.fresh) sound_none;
  open_yet = λ h. absurd (omega arith);
  gave = λ h. absurd (omega arith);
  failures = refl;
  calls = omega arith;
  rise = omega arith;
  added = start (EachListenerReceives g.P.ProofProcessor.takes g.T.ProofTranscriptProcessor.reads) (view_of c.args.self.now) c.args.parser.now c.requires.well c.requires.fresh;
}

pub loop-preserved : goal.loop-preserved
loop-preserved g c =
    let r = (goal.at.loop-preserved g c).In-Ok in
    let b = c.loop.invariant.bytes in
    let a = c.in_ok-add_read-in-Ok.ensures.adds in
    let more = piece_added (EachListenerReceives g.P.ProofProcessor.takes g.T.ProofTranscriptProcessor.reads) (view_of c.args.self.now) (view_of c.loop.self) (view_of c.add_read-in-Ok.new.self) b.0 (piece g r) c.loop.parser c.feed-answer.new.self c.add_read-in-Ok.new.parser c.feed-answer.result b.1 c.feed-answer.ensures.answer c.in_ok-add_read-in-Ok.ensures.taken a c.loop.invariant.added in
    record {
      well = c.loop.invariant.well;
      bytes = (b.0 ++ piece g r, more.0, more_read g r, omega (arith, b.3, length-append b.0 (piece g r), piece_given c.in-Ok.count c.read_next.new.room (search rules) (search rules)), more.1, λ e. absurd (omega arith), stops g r);
      sound = sound_after c.feed-answer.result c.feed-answer.new.self c.add_read-in-Ok.new.parser a.2.0 c.feed-answer.ensures.sound c.in_ok-add_read-in-Ok.ensures.taken;
      open_yet = λ h. unended g r;
      gave = gave g r;
      failures = next_kept c.in-Ok.count c.read_next.new.room c.loop.parser.fed _ _ c.in-Ok.ensures.reads ∙ c.loop.invariant.failures;
      calls = omega (arith, once_more g r, c.loop.invariant.calls);
      rise = omega (arith, c.loop.invariant.rise, c.in_ok-add_read-in-Ok.ensures.rise);
      added = more.2;
    }

-- AT THE END

pub returns-in-Ok-eq0-clause-adds : goal.returns-in-Ok-eq0-clause-adds
returns-in-Ok-eq0-clause-adds g c =
    let r = (goal.at.returns-in-Ok-eq0-clause-adds g c).In-Ok-eq0 in
    let b = c.loop.invariant.bytes in
    end_answers (EachListenerReceives g.P.ProofProcessor.takes g.T.ProofTranscriptProcessor.reads) c.add_read.result c.finish-answer.result (view_of c.args.self.now) (view_of c.loop.self) (view_of c.add_read.new.self) _ _ b.0 c.loop.parser c.finish-answer.new.self b.1 c.finish-answer.ensures
    (next_kept c.in-Ok-eq0.field-0 c.read_next.new.room c.loop.parser.fed _ _ c.in-Ok-eq0.ensures.reads ∙ c.loop.invariant.failures) (all_read g r) c.loop.invariant.added c.add_read.ensures.adds

pub returns-in-Ok-eq0-clause-stops : goal.returns-in-Ok-eq0-clause-stops
returns-in-Ok-eq0-clause-stops g c =
    let b = c.loop.invariant.bytes in
    (b.0, read_front _ _ b.0 b.0 (all_read g (goal.at.returns-in-Ok-eq0-clause-stops g c).In-Ok-eq0), b.6, gave_before_end g (goal.at.returns-in-Ok-eq0-clause-stops g c).In-Ok-eq0)

pub returns-in-Ok-eq0-clause-reads : goal.returns-in-Ok-eq0-clause-reads
returns-in-Ok-eq0-clause-reads g c =
    let S = g.R.CountedRead.seen in next_within c.in-Ok-eq0.field-0 c.read_next.new.room c.loop.parser.fed (S c.args.reader.now) (S c.loop.reader) (S c.read_next.new.reader) c.loop.counter c.in-Ok-eq0.ensures.reads c.loop.invariant.calls c.loop-test.true

-- AT A PIECE

pub returns-in_err-add_read-in-Ok-clause-adds : goal.returns-in_err-add_read-in-Ok-clause-adds
returns-in_err-add_read-in-Ok-clause-adds g c =
    let r = (goal.at.returns-in_err-add_read-in-Ok-clause-adds g c).In-Ok in
    let p = err_from_is_err_and c.from_residual.result c.from_residual.ensures.1 in
    let b = c.loop.invariant.bytes in
    rw (p.1, p.2) (piece_answers (EachListenerReceives g.P.ProofProcessor.takes g.T.ProofTranscriptProcessor.reads) c.in_err-add_read-in-Ok.field-0.0 c.feed-answer.result (view_of c.args.self.now) (view_of c.loop.self) (view_of c.add_read-in-Ok.new.self) _ _ b.0 (piece g r) c.loop.parser c.feed-answer.new.self b.1 c.feed-answer.ensures.answer
    (next_kept c.in-Ok.count c.read_next.new.room c.loop.parser.fed _ _ c.in-Ok.ensures.reads ∙ c.loop.invariant.failures)
    (more_read g r)
    (unended g r)
    (omega (arith, once_more g r, c.loop.invariant.calls, b.3, length-append b.0 (piece g r)))
    c.loop.invariant.added c.in_err-add_read-in-Ok.ensures.adds)

pub returns-in_err-add_read-in-Ok-clause-stops : goal.returns-in_err-add_read-in-Ok-clause-stops
returns-in_err-add_read-in-Ok-clause-stops g c =
    let r = (goal.at.returns-in_err-add_read-in-Ok-clause-stops g c).In-Ok in
    (c.loop.invariant.bytes.0 ++ piece g r, more_read g r, stops g r, λ ended. gave g r)

pub returns-in_err-add_read-in-Ok-clause-reads : goal.returns-in_err-add_read-in-Ok-clause-reads
returns-in_err-add_read-in-Ok-clause-reads g c =
    let S = g.R.CountedRead.seen in next_within c.in-Ok.count c.read_next.new.room c.loop.parser.fed (S c.args.reader.now) (S c.loop.reader) (S c.read_next.new.reader) c.loop.counter c.in-Ok.ensures.reads c.loop.invariant.calls c.loop-test.true

-- WHERE READING FAILS

pub returns-in-Err-clause-adds : goal.returns-in-Err-clause-adds
returns-in-Err-clause-adds g c =
    let b = c.loop.invariant.bytes in
    let once = c.in-Err.ensures.reads in
    let front = still_read g (goal.at.returns-in-Err-clause-adds g c).In-Err in
    read_answers (EachListenerReceives g.P.ProofProcessor.takes g.T.ProofTranscriptProcessor.reads) (view_of c.args.self.now) (view_of c.loop.self) _ _ b.0 c.loop.parser b.1
    (inl (once.failures.0 ∙ ap (λ (n : ℕ). n + 1) c.loop.invariant.failures, once.failures.1), few_front _ _ b.0 front (omega (arith, once.calls, c.loop.invariant.calls, b.3)))
    front c.loop.invariant.sound b.4 c.loop.invariant.added

pub returns-in-Err-clause-stops : goal.returns-in-Err-clause-stops
returns-in-Err-clause-stops g c = let b = c.loop.invariant.bytes in (b.0, still_read g (goal.at.returns-in-Err-clause-stops g c).In-Err, b.6, gave_before_fault g (goal.at.returns-in-Err-clause-stops g c).In-Err)

pub returns-clause-adds : goal.returns-clause-adds
returns-clause-adds g c =
    let b = c.loop.invariant.bytes in
    read_answers (EachListenerReceives g.P.ProofProcessor.takes g.T.ProofTranscriptProcessor.reads) (view_of c.args.self.now) (view_of c.loop.self) _ _ b.0 c.loop.parser b.1
    (inr (c.loop.invariant.failures, omega (arith, c.loop.invariant.calls)), few_front _ _ b.0 b.2 (omega (arith, c.loop.invariant.calls, b.3)))
    b.2 c.loop.invariant.sound b.4 c.loop.invariant.added

pub returns-clause-stops : goal.returns-clause-stops
returns-clause-stops g c = let b = c.loop.invariant.bytes in (b.0, b.2, b.6, λ ended. c.loop.invariant.gave)
