use Rattle.std.proofs.Common.{◌≡◌, ◌+◌, ◌<◌, ℕ, zero, suc, List, [], ◌++◌, false, inl, inr, Ok, Err, refl, ap, sym, subst, ◌∙◌, take, length-append, rules, arith}
use Rattle.std.proofs.lemmas.Result.{err_from_is_err_and}
use Rattle.sat_base.specs.device.Device.{GavePrefix}
use Rattle.sat_base.specs.text.Text.{HasEnded}
use Rattle.sat_base.specs.dimacs.Parsing.{Progress, Parses, no_progress, with_fed, HasNoFaultSoFar, TextHasNoFault, EndsInLastPiece, LastReadGaveBytes}
use Rattle.sat_base.proofs.lemmas.device.Given.{gave_none, gave_more, gave_still, not_ended, enough_front, few_front, calls_within, calls_upto, still_open}
use Rattle.sat_base.proofs.lemmas.dimacs.Parsed.{ends_by, stands_of, piece_given, sound_none}
use Rattle.sat_base.proofs.lemmas.dimacs.ParseAnswers.{finish_no_read, finish_no_stop, refused_no_read, refused_no_stop, read_is_no_stop}
use Rattle.sat_base.proofs.lemmas.dimacs.ReadToEnd.{ReadToEnd, some_read, last_gave, last_at_end, next_kept, next_within, read_to_end, none_has_ended, read_front, enough_read, refused_on, sound_end, sound_piece, stops_none, stops_after, short_piece, going_on}
use Rattle.sat_base.proofs.lemmas.device.WholeAnswers.{ok_is_no_err}
use Rattle.sat_base.proofs.dimacs.DimacsParser.read_formula.Given.{Over}
use Rattle.sat_base.proofs.dimacs.DimacsParser.read_formula.Goals as goal
use Rattle.sat_base.proofs.dimacs.DimacsParser.read_formula.Goals.{In-Ok, In-Ok-eq0, In-Err}

fed_of : (p : Progress) (text : List ℕ) → p ≡ with_fed text no_progress → p.fed ≡ text
fed_of p text e = ap (λ (k : Progress). k.fed) e

sound_of : (p : Progress) (text : List ℕ) → p ≡ with_fed text no_progress → HasNoFaultSoFar p → TextHasNoFault text
sound_of p text e s = subst TextHasNoFault (ap (λ (k : Progress). k.fed) e) s

-- where the text has ended, it was read
read_before : (p : Progress) (text : List ℕ) (n : ℕ) (T : Type 0) → p ≡ with_fed text no_progress → (n ≡ 0 → text ≡ []) → (0 < n → T) → HasEnded p.fed → T
read_before p text zero T e none then h = absurd (none_has_ended (subst HasEnded (fed_of p text e ∙ none refl) h))
read_before p text (suc n) T e none then h = then (omega arith)

-- the end was read
module _ (g : Over) (c : In-Ok-eq0 g) where
  at_end : ReadToEnd (g.R.CountedRead.seen c.args.reader.now) (g.R.CountedRead.seen c.read_next.new.reader) c.loop.invariant.bytes.0 c.loop.self.fed
  at_end =
      let b = c.loop.invariant.bytes in
      read_to_end _ (g.R.CountedRead.seen c.loop.reader) _ b.0 c.loop.self.fed c.in-Ok-eq0.field-0 c.loop.counter c.read_next.new.room b.2 c.in-Ok-eq0.ensures.reads (search rules) (search rules) c.loop.invariant.calls b.3 (read_before c.loop.self b.0 c.loop.counter _ b.1 b.4 c.loop.invariant.open_yet)

  all_read : ReadToEnd (g.R.CountedRead.seen c.args.reader.now) (g.R.CountedRead.seen c.read_next.new.reader) c.loop.invariant.bytes.0 c.loop.invariant.bytes.0
  all_read = subst (ReadToEnd _ _ _) (fed_of c.loop.self _ c.loop.invariant.bytes.1) at_end

  gave_before_end : HasEnded c.loop.invariant.bytes.0 → LastReadGaveBytes (g.R.CountedRead.seen c.args.reader.now) (g.R.CountedRead.seen c.read_next.new.reader)
  gave_before_end = last_at_end c.in-Ok-eq0.field-0 c.read_next.new.room c.loop.self.fed c.loop.invariant.bytes.0 (g.R.CountedRead.seen c.args.reader.now) (g.R.CountedRead.seen c.loop.reader) (g.R.CountedRead.seen c.read_next.new.reader) c.in-Ok-eq0.ensures.reads (λ called. going_on c.loop.self _ c.loop.invariant.bytes.1 (c.in-Ok-eq0.ensures.goes_on called)) c.loop.invariant.gave

-- a piece was read
module _ (g : Over) (c : In-Ok g) where
  abbrev piece : List ℕ
  piece = take c.in-Ok.count c.read_next.new.room

  more_read : GavePrefix (g.R.CountedRead.seen c.args.reader.now) (g.R.CountedRead.seen c.read_next.new.reader) (c.loop.invariant.bytes.0 ++ piece)
  more_read = gave_more _ (g.R.CountedRead.seen c.loop.reader) _ _ c.in-Ok.count c.read_next.new.room c.loop.invariant.bytes.2 (some_read _ _ c.loop.self.fed _ _ (search rules) c.in-Ok.ensures.reads)

  unended : (g.R.CountedRead.seen c.read_next.new.reader).ended ≡ false
  unended = not_ended (g.R.CountedRead.seen c.loop.reader) _ c.in-Ok.count c.read_next.new.room (some_read _ _ c.loop.self.fed _ _ (search rules) c.in-Ok.ensures.reads) (search rules)

  once_more : (g.R.CountedRead.seen c.read_next.new.reader).calls ≡ (g.R.CountedRead.seen c.loop.reader).calls + 1
  once_more = (some_read c.in-Ok.count c.read_next.new.room c.loop.self.fed _ _ (search rules) c.in-Ok.ensures.reads).calls

  gave : LastReadGaveBytes (g.R.CountedRead.seen c.args.reader.now) (g.R.CountedRead.seen c.read_next.new.reader)
  gave = last_gave c.in-Ok.count c.read_next.new.room c.loop.self.fed (g.R.CountedRead.seen c.args.reader.now) (g.R.CountedRead.seen c.loop.reader) (g.R.CountedRead.seen c.read_next.new.reader) (search rules) c.in-Ok.ensures.reads

  stops : EndsInLastPiece (c.loop.invariant.bytes.0 ++ piece)
  stops = stops_after _ piece (going_on c.loop.self _ c.loop.invariant.bytes.1 (c.in-Ok.ensures.goes_on (omega (arith, once_more)))) (short_piece c.in-Ok.count c.read_next.new.room (search rules) (search rules))

-- a read failed
module _ (g : Over) (c : In-Err g) where
  still_read : GavePrefix (g.R.CountedRead.seen c.args.reader.now) (g.R.CountedRead.seen c.read_next.new.reader) c.loop.invariant.bytes.0
  still_read = gave_still _ _ (g.R.CountedRead.seen c.loop.reader) _ _ c.read_next.new.room c.loop.invariant.bytes.2 c.in-Err.ensures.reads

  gave_before_fault : HasEnded c.loop.invariant.bytes.0 → LastReadGaveBytes (g.R.CountedRead.seen c.args.reader.now) (g.R.CountedRead.seen c.read_next.new.reader)
  gave_before_fault ended = absurd (going_on c.loop.self _ c.loop.invariant.bytes.1 (c.in-Err.ensures.goes_on (omega (arith, c.in-Err.ensures.reads.calls))) ended)

pub loop-init : goal.loop-init
loop-init g c = record { bytes = ([], c.requires, gave_none _, omega arith, λ e. refl, stops_none); sound = subst HasNoFaultSoFar (sym c.requires) sound_none; open_yet = λ h. absurd (omega arith); gave = λ h. absurd (omega arith); failures = refl; calls = omega arith }

pub loop-preserved : goal.loop-preserved
loop-preserved g c =
    let r = (goal.at.loop-preserved g c).In-Ok in
    let b = c.loop.invariant.bytes in
    record {
      bytes = (b.0 ++ piece g r, c.in_ok-feed_or_find_fault-in-Ok.ensures.fed.1 ∙ ap (λ (k : Progress). with_fed (piece g r) k) b.1, more_read g r, omega (arith, b.3, length-append b.0 (piece g r), piece_given c.in-Ok.count c.read_next.new.room (search rules) (search rules)), λ e. absurd (omega arith), stops g r);
      sound = c.in_ok-feed_or_find_fault-in-Ok.ensures.sound;
      open_yet = λ h. unended g r;
      gave = gave g r;
      failures = next_kept c.in-Ok.count c.read_next.new.room c.loop.self.fed _ _ c.in-Ok.ensures.reads ∙ c.loop.invariant.failures;
      calls = omega (arith, once_more g r, c.loop.invariant.calls);
    }

-- AT THE END

pub returns-in-Ok-eq0-clause-given : goal.returns-in-Ok-eq0-clause-given
returns-in-Ok-eq0-clause-given g c = enough_read (Ok c.take_formula.result) _ _ _ (all_read g (goal.at.returns-in-Ok-eq0-clause-given g c).In-Ok-eq0) (search rules)

pub returns-in_err-finish-in-Ok-eq0-clause-given : goal.returns-in_err-finish-in-Ok-eq0-clause-given
returns-in_err-finish-in-Ok-eq0-clause-given g c =
    let p = err_from_is_err_and c.from_residual.result c.from_residual.ensures.1 in
    let b = c.loop.invariant.bytes in
    rw (p.1, p.2) (enough_read (Err c.in_err-finish-in-Ok-eq0.field-0.0) _ _ b.0 (all_read g (goal.at.returns-in_err-finish-in-Ok-eq0-clause-given g c).In-Ok-eq0)
    (ends_by c.in_err-finish-in-Ok-eq0.field-0.0 b.0 c.loop.self c.finish.new.self (stands_of b.0 c.loop.self b.1) c.in_err-finish-in-Ok-eq0.ensures))

pub returns-in_err-finish-in-Ok-eq0-clause-sound : goal.returns-in_err-finish-in-Ok-eq0-clause-sound
returns-in_err-finish-in-Ok-eq0-clause-sound g c =
    let p = err_from_is_err_and c.from_residual.result c.from_residual.ensures.1 in
    let b = c.loop.invariant.bytes in
    λ h. elim h [
      | inl read ↦ finish_no_read _ _ _ _ _ p.1 p.2 c.in_err-finish-in-Ok-eq0.ensures read
      | inr want ↦ sound_end _ c.in_err-finish-in-Ok-eq0.field-0.0 _ _ b.0 c.loop.self c.finish.new.self (p.1 ∙ ap Err p.2) (fed_of c.loop.self b.0 b.1) c.in_err-finish-in-Ok-eq0.ensures
          (read_front _ _ b.0 _ (all_read g (goal.at.returns-in_err-finish-in-Ok-eq0-clause-sound g c).In-Ok-eq0)) (sound_of c.loop.self b.0 b.1 c.loop.invariant.sound) want
    ]

-- WHERE A PIECE IS REFUSED

pub returns-in_err-feed_or_find_fault-in-Ok-clause-given : goal.returns-in_err-feed_or_find_fault-in-Ok-clause-given
returns-in_err-feed_or_find_fault-in-Ok-clause-given g c =
    let r = (goal.at.returns-in_err-feed_or_find_fault-in-Ok-clause-given g c).In-Ok in
    let p = err_from_is_err_and c.from_residual-in_err-feed_or_find_fault-in-Ok.result c.from_residual-in_err-feed_or_find_fault-in-Ok.ensures.1 in
    let b = c.loop.invariant.bytes in
    rw (p.1, p.2) (enough_front _ _ (Parses (Err c.in_err-feed_or_find_fault-in-Ok.field-0.0)) _ (more_read g r) (unended g r)
    (omega (arith, once_more g r, c.loop.invariant.calls, b.3, length-append b.0 (piece g r)))
    (λ rest. refused_on c.in_err-feed_or_find_fault-in-Ok.field-0.0 b.0 (piece g r) c.loop.self (fed_of c.loop.self b.0 b.1) (ap (λ (k : Progress). k.stopped) b.1) c.in_err-feed_or_find_fault-in-Ok.ensures.refused rest))

pub returns-in_err-feed_or_find_fault-in-Ok-clause-sound : goal.returns-in_err-feed_or_find_fault-in-Ok-clause-sound
returns-in_err-feed_or_find_fault-in-Ok-clause-sound g c =
    let r = (goal.at.returns-in_err-feed_or_find_fault-in-Ok-clause-sound g c).In-Ok in
    let p = err_from_is_err_and c.from_residual-in_err-feed_or_find_fault-in-Ok.result c.from_residual-in_err-feed_or_find_fault-in-Ok.ensures.1 in
    let b = c.loop.invariant.bytes in
    let refused = c.in_err-feed_or_find_fault-in-Ok.ensures.refused in
    λ h. elim h [
      | inl read ↦ refused_no_read _ _ _ (piece g r) c.loop.self p.1 p.2 refused read
      | inr want ↦ sound_piece _ c.in_err-feed_or_find_fault-in-Ok.field-0.0 _ _ b.0 (piece g r) c.loop.self (p.1 ∙ ap Err p.2) (fed_of c.loop.self b.0 b.1) refused (more_read g r) (unended g r) want
    ]

-- WHERE READING FAILS

pub returns-in-Err-clause-given : goal.returns-in-Err-clause-given
returns-in-Err-clause-given g c =
    let once = c.in-Err.ensures.reads in
    enough_front _ _ _ _ (still_read g (goal.at.returns-in-Err-clause-given g c).In-Err) once.ended (omega (arith, once.calls, c.loop.invariant.calls, c.loop.invariant.bytes.3)) (λ rest. tt)

pub returns-clause-given : goal.returns-clause-given
returns-clause-given g c = let b = c.loop.invariant.bytes in enough_front _ _ _ b.0 b.2 (c.loop.invariant.open_yet (omega arith)) (omega (arith, c.loop.invariant.calls, b.3)) (λ rest. tt)

-- WHAT WAS GIVEN BEFORE A READ FAILED

pub returns-in-Err-clause-sound : goal.returns-in-Err-clause-sound
returns-in-Err-clause-sound g c = λ _.
    let b = c.loop.invariant.bytes in
    (b.0, still_read g (goal.at.returns-in-Err-clause-sound g c).In-Err, sound_of c.loop.self b.0 b.1 c.loop.invariant.sound, λ called ends. still_open (g.R.CountedRead.seen c.read_next.new.reader) _ c.in-Err.ensures.reads.ended ends)

pub returns-clause-sound : goal.returns-clause-sound
returns-clause-sound g c = λ _.
    let b = c.loop.invariant.bytes in
    (b.0, b.2, sound_of c.loop.self b.0 b.1 c.loop.invariant.sound, λ called ends. still_open (g.R.CountedRead.seen c.loop.reader) _ (c.loop.invariant.open_yet (omega arith)) ends)

pub returns-in-Err-clause-read : goal.returns-in-Err-clause-read
returns-in-Err-clause-read g c = λ _.
    let once = c.in-Err.ensures.reads in
    (inl (once.failures.0 ∙ ap (λ (n : ℕ). n + 1) c.loop.invariant.failures, once.failures.1), few_front _ _ _ (still_read g (goal.at.returns-in-Err-clause-read g c).In-Err) (omega (arith, once.calls, c.loop.invariant.calls, c.loop.invariant.bytes.3)))

pub returns-clause-read : goal.returns-clause-read
returns-clause-read g c = λ _.
    let b = c.loop.invariant.bytes in
    (inr (c.loop.invariant.failures, omega (arith, c.loop.invariant.calls)), few_front _ _ b.0 b.2 (omega (arith, c.loop.invariant.calls, b.3)))

-- WHERE THE ANSWER IS NO FAILED READ

pub returns-in-Ok-eq0-clause-kept : goal.returns-in-Ok-eq0-clause-kept
returns-in-Ok-eq0-clause-kept g c = inr (next_kept c.in-Ok-eq0.field-0 c.read_next.new.room c.loop.self.fed _ _ c.in-Ok-eq0.ensures.reads ∙ c.loop.invariant.failures)

pub returns-in_err-finish-in-Ok-eq0-clause-kept : goal.returns-in_err-finish-in-Ok-eq0-clause-kept
returns-in_err-finish-in-Ok-eq0-clause-kept g c = inr (next_kept c.in-Ok-eq0.field-0 c.read_next.new.room c.loop.self.fed _ _ c.in-Ok-eq0.ensures.reads ∙ c.loop.invariant.failures)

pub returns-in_err-feed_or_find_fault-in-Ok-clause-kept : goal.returns-in_err-feed_or_find_fault-in-Ok-clause-kept
returns-in_err-feed_or_find_fault-in-Ok-clause-kept g c = inr (next_kept c.in-Ok.count c.read_next.new.room c.loop.self.fed _ _ c.in-Ok.ensures.reads ∙ c.loop.invariant.failures)

pub returns-in-Err-clause-kept : goal.returns-in-Err-clause-kept
returns-in-Err-clause-kept g c = inl refl

pub returns-clause-kept : goal.returns-clause-kept
returns-clause-kept g c = inl refl

pub returns-in-Ok-eq0-clause-read : goal.returns-in-Ok-eq0-clause-read
returns-in-Ok-eq0-clause-read g c = λ h. ok_is_no_err _ _ h

pub returns-in-Ok-eq0-clause-sound : goal.returns-in-Ok-eq0-clause-sound
returns-in-Ok-eq0-clause-sound g c = λ h. elim h [ inl read ↦ ok_is_no_err _ _ read | inr want ↦ ok_is_no_err _ _ want ]

pub returns-in_err-finish-in-Ok-eq0-clause-read : goal.returns-in_err-finish-in-Ok-eq0-clause-read
returns-in_err-finish-in-Ok-eq0-clause-read g c =
    let p = err_from_is_err_and c.from_residual.result c.from_residual.ensures.1 in
    λ h. finish_no_read _ _ _ _ _ p.1 p.2 c.in_err-finish-in-Ok-eq0.ensures h

pub returns-in_err-feed_or_find_fault-in-Ok-clause-read : goal.returns-in_err-feed_or_find_fault-in-Ok-clause-read
returns-in_err-feed_or_find_fault-in-Ok-clause-read g c =
    let p = err_from_is_err_and c.from_residual-in_err-feed_or_find_fault-in-Ok.result c.from_residual-in_err-feed_or_find_fault-in-Ok.ensures.1 in
    λ h. refused_no_read _ _ _ _ c.loop.self p.1 p.2 c.in_err-feed_or_find_fault-in-Ok.ensures.refused h

-- WHERE THE PARSER HAD NOT STOPPED

pub returns-in-Ok-eq0-clause-fresh : goal.returns-in-Ok-eq0-clause-fresh
returns-in-Ok-eq0-clause-fresh g c = λ h. ok_is_no_err _ _ h

pub returns-in_err-finish-in-Ok-eq0-clause-fresh : goal.returns-in_err-finish-in-Ok-eq0-clause-fresh
returns-in_err-finish-in-Ok-eq0-clause-fresh g c =
    let p = err_from_is_err_and c.from_residual.result c.from_residual.ensures.1 in
    λ h. finish_no_stop _ _ _ _ _ p.1 p.2 (ap (λ (k : Progress). k.stopped) c.loop.invariant.bytes.1) c.in_err-finish-in-Ok-eq0.ensures h

pub returns-in_err-feed_or_find_fault-in-Ok-clause-fresh : goal.returns-in_err-feed_or_find_fault-in-Ok-clause-fresh
returns-in_err-feed_or_find_fault-in-Ok-clause-fresh g c =
    let p = err_from_is_err_and c.from_residual-in_err-feed_or_find_fault-in-Ok.result c.from_residual-in_err-feed_or_find_fault-in-Ok.ensures.1 in
    λ h. refused_no_stop _ _ _ _ c.loop.self p.1 p.2 (ap (λ (k : Progress). k.stopped) c.loop.invariant.bytes.1) c.in_err-feed_or_find_fault-in-Ok.ensures.refused h

pub returns-in-Err-clause-fresh : goal.returns-in-Err-clause-fresh
returns-in-Err-clause-fresh g c = λ h. read_is_no_stop h

pub returns-clause-fresh : goal.returns-clause-fresh
returns-clause-fresh g c = λ h. read_is_no_stop h

-- HOW OFTEN IT WAS READ

pub returns-in-Ok-eq0-clause-reads : goal.returns-in-Ok-eq0-clause-reads
returns-in-Ok-eq0-clause-reads g c = next_within c.in-Ok-eq0.field-0 c.read_next.new.room c.loop.self.fed (g.R.CountedRead.seen c.args.reader.now) _ _ c.loop.counter c.in-Ok-eq0.ensures.reads c.loop.invariant.calls c.loop-test.true

pub returns-in_err-finish-in-Ok-eq0-clause-reads : goal.returns-in_err-finish-in-Ok-eq0-clause-reads
returns-in_err-finish-in-Ok-eq0-clause-reads g c = next_within c.in-Ok-eq0.field-0 c.read_next.new.room c.loop.self.fed (g.R.CountedRead.seen c.args.reader.now) _ _ c.loop.counter c.in-Ok-eq0.ensures.reads c.loop.invariant.calls c.loop-test.true

pub returns-in_err-feed_or_find_fault-in-Ok-clause-reads : goal.returns-in_err-feed_or_find_fault-in-Ok-clause-reads
returns-in_err-feed_or_find_fault-in-Ok-clause-reads g c = calls_within _ _ _ c.loop.counter (once_more g (goal.at.returns-in_err-feed_or_find_fault-in-Ok-clause-reads g c).In-Ok) c.loop.invariant.calls c.loop-test.true

pub returns-in-Err-clause-reads : goal.returns-in-Err-clause-reads
returns-in-Err-clause-reads g c = calls_within _ _ _ c.loop.counter c.in-Err.ensures.reads.calls c.loop.invariant.calls c.loop-test.true

pub returns-clause-reads : goal.returns-clause-reads
returns-clause-reads g c = calls_upto _ _ c.loop.counter c.loop.invariant.calls c.loop.auto.counter-end

-- WHERE IT STOPPED

pub returns-in-Ok-eq0-clause-stops : goal.returns-in-Ok-eq0-clause-stops
returns-in-Ok-eq0-clause-stops g c = (_, read_front _ _ _ _ (at_end g (goal.at.returns-in-Ok-eq0-clause-stops g c).In-Ok-eq0), c.loop.invariant.bytes.5, gave_before_end g (goal.at.returns-in-Ok-eq0-clause-stops g c).In-Ok-eq0)

pub returns-in_err-finish-in-Ok-eq0-clause-stops : goal.returns-in_err-finish-in-Ok-eq0-clause-stops
returns-in_err-finish-in-Ok-eq0-clause-stops g c = (_, read_front _ _ _ _ (at_end g (goal.at.returns-in_err-finish-in-Ok-eq0-clause-stops g c).In-Ok-eq0), c.loop.invariant.bytes.5, gave_before_end g (goal.at.returns-in_err-finish-in-Ok-eq0-clause-stops g c).In-Ok-eq0)

pub returns-in_err-feed_or_find_fault-in-Ok-clause-stops : goal.returns-in_err-feed_or_find_fault-in-Ok-clause-stops
returns-in_err-feed_or_find_fault-in-Ok-clause-stops g c = let r = (goal.at.returns-in_err-feed_or_find_fault-in-Ok-clause-stops g c).In-Ok in (_, more_read g r, stops g r, λ ended. gave g r)

pub returns-in-Err-clause-stops : goal.returns-in-Err-clause-stops
returns-in-Err-clause-stops g c = (c.loop.invariant.bytes.0, still_read g (goal.at.returns-in-Err-clause-stops g c).In-Err, c.loop.invariant.bytes.5, gave_before_fault g (goal.at.returns-in-Err-clause-stops g c).In-Err)

pub returns-clause-stops : goal.returns-clause-stops
returns-clause-stops g c = let b = c.loop.invariant.bytes in (b.0, b.2, b.5, λ ended. c.loop.invariant.gave)
