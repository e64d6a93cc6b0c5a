use Rattle.std.proofs.Common.{◌≡◌, ◌+◌, ℕ, [], ◌∷◌, ◌++◌, Err, inl, inr, refl, sym, ap, ◌∙◌, take, length-append, rules, of_calls, arith}
use Rattle.std.specs.List.{concat}
use Rattle.sat_base.specs.dimacs.Parsing.{Progress, ClosureCalls, FeedsAndCallsClosure}
use Rattle.sat_base.proofs.lemmas.device.Given.{gave_none, gave_more, gave_still, not_ended, still_open, enough_front, few_front, calls_after, calls_few, calls_few_yet, calls_upto, calls_within, least_calls, most_calls, no_less}
use Rattle.sat_base.proofs.lemmas.dimacs.Parsed.{folds_more, keeps_next, front_joined, front_alone, stands_of, piece_given, piece_more, fed_and_kept}
use Rattle.sat_base.proofs.lemmas.dimacs.Parts.{refusal_is, last_at_end, parsed_at_end, no_read_at_end, last_at_piece, parsed_at_piece, no_read_at_piece, seen_piece}
use Rattle.sat_base.proofs.lemmas.dimacs.ReadToEnd.{some_read, next_kept, next_within, next_least, next_most, read_to_end, read_pieces, read_over, read_whole, parts_going}
use Rattle.std.proofs.lemmas.Result.{err_from_is_err_and}
use Rattle.sat_base.proofs.dimacs.DimacsParser.read_parts.Given as given
use Rattle.sat_base.proofs.dimacs.DimacsParser.read_parts.Goals as goal

abbrev calls_of : (g : given.Over) → ClosureCalls g.row.F.Denot g.row.E.Denot
calls_of g = λ f p r q h. goal.F-step g f p r q h

pub loop-init : goal.loop-init
loop-init g c = record {
  always = c.requires.callable;
  visited = ([], ap (λ (z : Progress). (c.args.closure, z)) (sym c.requires.fresh), gave_none _, (λ k. (k, stands_of [] c.args.self.now c.requires.fresh)), refl, omega arith);
  open_yet = λ h. absurd (omega arith);
  failures = refl;
  calls = omega arith;
}

pub loop-preserved : goal.loop-preserved
loop-preserved g c =
    let S = g.R.CountedRead.seen in
    let v = c.loop.invariant.visited in
    let piece = take c.in-Ok.count c.read_next.new.room in
    let once = some_read c.in-Ok.count c.read_next.new.room c.loop.self.fed (S c.loop.reader) (S c.read_next.new.reader) (search rules) c.in-Ok.ensures.reads in
    let ends = c.refusal_or-in-Ok.ensures in
    let is = refusal_is c.closure-in-Ok.result c.feed-answer.result c.refusal_or-in-Ok.result ends.refused ends.fault ends.well in
    let some = piece_given c.in-Ok.count c.read_next.new.room c.in-Ok.ensures.bound.0 (search rules) in
    let went = seen_piece (calls_of g) c.closure-in-Ok.result c.feed-answer.result c.refusal_or-in-Ok.result _ piece c.loop.closure _ c.loop.self c.feed-answer.new.self c.closure-in-Ok.new.arg2 is c.in_ok-refusal_or-in-Ok.was c.feed-answer.ensures.answer
    c.feed-answer.ensures.sound (_, _, refl, refl, c.closure-in-Ok.ensures) in
    record {
      always = let may = c.loop.invariant.always in search of_calls;
      visited = (
        v.0 ++ (piece ∷ []),
        folds_more (FeedsAndCallsClosure (calls_of g)) _ _ _ v.0 piece v.1 (some, c.feed-answer.new.self, went.0, went.1, went.2),
        front_joined (S c.args.reader.now) (S c.read_next.new.reader) v.0 piece (gave_more (S c.args.reader.now) (S c.loop.reader) (S c.read_next.new.reader) (concat v.0) c.in-Ok.count c.read_next.new.room v.2 once),
        (λ k. let n = keeps_next (calls_of g) _ _ _ _ _ (v.3 k).0 c.closure-in-Ok.ensures in (n.0, fed_and_kept v.0 piece c.loop.self c.feed-answer.new.self c.closure-in-Ok.new.arg2 (v.3 k).1 went.0.1 n.1)),
        (length-append v.0 (piece ∷ []) ∙ ap (λ (n : ℕ). n + 1) v.4),
        piece_more v.0 piece c.loop.counter v.5 some,
      );
      open_yet = λ h. not_ended (S c.loop.reader) (S c.read_next.new.reader) c.in-Ok.count c.read_next.new.room once (search rules);
      failures = once.failures.0 ∙ c.loop.invariant.failures;
      calls = calls_after _ _ _ c.loop.counter once.calls c.loop.invariant.calls;
    }

-- AT THE END

pub returns-in-Ok-eq0-clause-visited : goal.returns-in-Ok-eq0-clause-visited
returns-in-Ok-eq0-clause-visited g c =
    let S = g.R.CountedRead.seen in
    let v = c.loop.invariant.visited in
    let all = read_to_end (S c.args.reader.now) (S c.loop.reader) (S c.read_next.new.reader) (concat v.0) c.loop.self.fed c.in-Ok-eq0.field-0 c.loop.counter c.read_next.new.room v.2 c.in-Ok-eq0.ensures.reads c.in-Ok-eq0.field-0-test (search rules) c.loop.invariant.calls v.5
    (parts_going (calls_of g) _ _ c.loop.self v.0 c.loop.counter _ v.1 v.4 c.loop.invariant.open_yet) in
    let ends = c.refusal_or.ensures in
    let is = refusal_is c.closure.result c.finish-answer.result c.refusal_or.result ends.refused ends.fault ends.well in
    record {
      pieces = v.0;
      last = [];
      seen = _;
      folds = v.1;
      visit = last_at_end (calls_of g) c.closure.result c.finish-answer.result c.refusal_or.result (S c.args.reader.now, S c.read_next.new.reader) c.loop.closure _ c.loop.self c.finish-answer.new.self c.closure.new.arg2 is
          (read_whole (S c.args.reader.now) (S c.read_next.new.reader) (concat v.0) c.loop.self.fed all) c.finish-answer.ensures (_, _, refl, refl, c.closure.ensures);
      front = read_pieces _ _ v.0 c.loop.self.fed all;
      over = read_over _ _ _ c.loop.self.fed all;
      least = next_least c.in-Ok-eq0.field-0 c.read_next.new.room c.loop.self.fed (S c.args.reader.now) (S c.loop.reader) (S c.read_next.new.reader) c.loop.counter _ c.in-Ok-eq0.ensures.reads c.loop.invariant.calls v.4;
      most = next_most c.in-Ok-eq0.field-0 c.read_next.new.room c.loop.self.fed (S c.args.reader.now) (S c.loop.reader) (S c.read_next.new.reader) c.loop.counter _ c.in-Ok-eq0.ensures.reads c.loop.invariant.calls v.4;
    }

pub returns-in-Ok-eq0-clause-given : goal.returns-in-Ok-eq0-clause-given
returns-in-Ok-eq0-clause-given g c k =
    let S = g.R.CountedRead.seen in
    let v = c.loop.invariant.visited in
    let all = read_to_end (S c.args.reader.now) (S c.loop.reader) (S c.read_next.new.reader) (concat v.0) c.loop.self.fed c.in-Ok-eq0.field-0 c.loop.counter c.read_next.new.room v.2 c.in-Ok-eq0.ensures.reads c.in-Ok-eq0.field-0-test (search rules) c.loop.invariant.calls v.5
    (parts_going (calls_of g) _ _ c.loop.self v.0 c.loop.counter _ v.1 v.4 c.loop.invariant.open_yet) in
    let n = keeps_next (calls_of g) _ _ _ _ _ (v.3 k).0 c.closure.ensures in
    let ends = c.refusal_or.ensures in
    let is = refusal_is c.closure.result c.finish-answer.result c.refusal_or.result ends.refused ends.fault ends.well in
    parsed_at_end c.closure.result c.finish-answer.result c.refusal_or.result (S c.args.reader.now) (S c.read_next.new.reader) (concat v.0) c.loop.self c.finish-answer.new.self c.closure.new.arg2 is all (v.3 k).1 n.1 c.finish-answer.ensures

pub returns-in-Ok-eq0-clause-kept : goal.returns-in-Ok-eq0-clause-kept
returns-in-Ok-eq0-clause-kept g c = let S = g.R.CountedRead.seen in inr (next_kept c.in-Ok-eq0.field-0 c.read_next.new.room c.loop.self.fed (S c.loop.reader) (S c.read_next.new.reader) c.in-Ok-eq0.ensures.reads ∙ c.loop.invariant.failures)

pub returns-in-Ok-eq0-clause-read : goal.returns-in-Ok-eq0-clause-read
returns-in-Ok-eq0-clause-read g c =
    let ends = c.refusal_or.ensures in
    let is = refusal_is c.closure.result c.finish-answer.result c.refusal_or.result ends.refused ends.fault ends.well in
    λ h. no_read_at_end c.closure.result c.finish-answer.result c.refusal_or.result c.loop.self c.finish-answer.new.self c.closure.new.arg2 is c.finish-answer.ensures h

-- AT A PIECE

pub returns-in_err-refusal_or-in-Ok-clause-visited : goal.returns-in_err-refusal_or-in-Ok-clause-visited
returns-in_err-refusal_or-in-Ok-clause-visited g c =
    let S = g.R.CountedRead.seen in
    let v = c.loop.invariant.visited in
    let once = some_read c.in-Ok.count c.read_next.new.room c.loop.self.fed (S c.loop.reader) (S c.read_next.new.reader) (search rules) c.in-Ok.ensures.reads in
    let piece = take c.in-Ok.count c.read_next.new.room in
    let ends = c.refusal_or-in-Ok.ensures in
    let p = err_from_is_err_and c.from_residual.result c.from_residual.ensures.1 in
    let same : c.from_residual.result ≡ c.refusal_or-in-Ok.result = p.1 ∙ ap Err p.2 ∙ sym c.in_err-refusal_or-in-Ok.was in
    let is = same ∙ refusal_is c.closure-in-Ok.result c.feed-answer.result c.refusal_or-in-Ok.result ends.refused ends.fault ends.well in
    record {
      pieces = v.0;
      last = piece;
      seen = _;
      folds = v.1;
      visit = last_at_piece (calls_of g) c.closure-in-Ok.result c.feed-answer.result c.from_residual.result _ (S c.args.reader.now, S c.read_next.new.reader) piece c.loop.closure _ c.loop.self c.feed-answer.new.self c.closure-in-Ok.new.arg2 is p.1
          (piece_given c.in-Ok.count c.read_next.new.room c.in-Ok.ensures.bound.0 (search rules)) c.feed-answer.ensures.answer (_, _, refl, refl, c.closure-in-Ok.ensures);
      front = gave_more (S c.args.reader.now) (S c.loop.reader) (S c.read_next.new.reader) (concat v.0) c.in-Ok.count c.read_next.new.room v.2 once;
      over = still_open (S c.read_next.new.reader) _ (not_ended (S c.loop.reader) (S c.read_next.new.reader) c.in-Ok.count c.read_next.new.room once (search rules));
      least = least_calls _ _ _ c.loop.counter _ once.calls c.loop.invariant.calls v.4;
      most = most_calls _ _ _ c.loop.counter _ once.calls c.loop.invariant.calls v.4;
    }

pub returns-in_err-refusal_or-in-Ok-clause-given : goal.returns-in_err-refusal_or-in-Ok-clause-given
returns-in_err-refusal_or-in-Ok-clause-given g c k =
    let S = g.R.CountedRead.seen in
    let v = c.loop.invariant.visited in
    let once = some_read c.in-Ok.count c.read_next.new.room c.loop.self.fed (S c.loop.reader) (S c.read_next.new.reader) (search rules) c.in-Ok.ensures.reads in
    let piece = take c.in-Ok.count c.read_next.new.room in
    let ends = c.refusal_or-in-Ok.ensures in
    let p = err_from_is_err_and c.from_residual.result c.from_residual.ensures.1 in
    let same : c.from_residual.result ≡ c.refusal_or-in-Ok.result = p.1 ∙ ap Err p.2 ∙ sym c.in_err-refusal_or-in-Ok.was in
    let is = same ∙ refusal_is c.closure-in-Ok.result c.feed-answer.result c.refusal_or-in-Ok.result ends.refused ends.fault ends.well in
    parsed_at_piece c.closure-in-Ok.result c.feed-answer.result c.from_residual.result _ (S c.args.reader.now) (S c.read_next.new.reader) (concat v.0) piece c.loop.self c.feed-answer.new.self c.closure-in-Ok.new.arg2 is p.1
    (gave_more (S c.args.reader.now) (S c.loop.reader) (S c.read_next.new.reader) (concat v.0) c.in-Ok.count c.read_next.new.room v.2 once)
    (not_ended (S c.loop.reader) (S c.read_next.new.reader) c.in-Ok.count c.read_next.new.room once (search rules))
    (calls_few _ _ _ c.loop.counter _ once.calls c.loop.invariant.calls (no_less (concat v.0) piece c.loop.counter v.5)) (v.3 k).1 c.feed-answer.ensures.answer

pub returns-in_err-refusal_or-in-Ok-clause-kept : goal.returns-in_err-refusal_or-in-Ok-clause-kept
returns-in_err-refusal_or-in-Ok-clause-kept g c = let S = g.R.CountedRead.seen in inr (next_kept c.in-Ok.count c.read_next.new.room c.loop.self.fed (S c.loop.reader) (S c.read_next.new.reader) c.in-Ok.ensures.reads ∙ c.loop.invariant.failures)

pub returns-in_err-refusal_or-in-Ok-clause-read : goal.returns-in_err-refusal_or-in-Ok-clause-read
returns-in_err-refusal_or-in-Ok-clause-read g c =
    let ends = c.refusal_or-in-Ok.ensures in
    let p = err_from_is_err_and c.from_residual.result c.from_residual.ensures.1 in
    let same : c.from_residual.result ≡ c.refusal_or-in-Ok.result = p.1 ∙ ap Err p.2 ∙ sym c.in_err-refusal_or-in-Ok.was in
    let is = same ∙ refusal_is c.closure-in-Ok.result c.feed-answer.result c.refusal_or-in-Ok.result ends.refused ends.fault ends.well in
    λ h. no_read_at_piece c.closure-in-Ok.result c.feed-answer.result c.from_residual.result (take c.in-Ok.count c.read_next.new.room) c.loop.self c.feed-answer.new.self c.closure-in-Ok.new.arg2 is c.feed-answer.ensures.answer h

-- WHERE READING FAILS

pub returns-in-Err-clause-visited : goal.returns-in-Err-clause-visited
returns-in-Err-clause-visited g c =
    let S = g.R.CountedRead.seen in
    let v = c.loop.invariant.visited in
    record {
      pieces = v.0;
      last = [];
      seen = _;
      folds = v.1;
      visit = inl (refl, refl);
      front = front_alone _ _ v.0 (gave_still _ (S c.args.reader.now) (S c.loop.reader) (S c.read_next.new.reader) (concat v.0) c.read_next.new.room v.2 c.in-Err.ensures.reads);
      over = still_open (S c.read_next.new.reader) _ c.in-Err.ensures.reads.ended;
      least = least_calls _ _ _ c.loop.counter _ c.in-Err.ensures.reads.calls c.loop.invariant.calls v.4;
      most = most_calls _ _ _ c.loop.counter _ c.in-Err.ensures.reads.calls c.loop.invariant.calls v.4;
    }

pub returns-clause-visited : goal.returns-clause-visited
returns-clause-visited g c =
    let S = g.R.CountedRead.seen in
    let v = c.loop.invariant.visited in
    record {
      pieces = v.0;
      last = [];
      seen = _;
      folds = v.1;
      visit = inl (refl, refl);
      front = front_alone _ _ v.0 v.2;
      over = still_open (S c.loop.reader) _ (c.loop.invariant.open_yet (omega arith));
      least = omega (arith, c.loop.invariant.calls, v.4);
      most = omega (arith, c.loop.invariant.calls, v.4);
    }

pub returns-in-Err-clause-given : goal.returns-in-Err-clause-given
returns-in-Err-clause-given g c k =
    let S = g.R.CountedRead.seen in
    let v = c.loop.invariant.visited in
    enough_front _ _ _ (concat v.0) (gave_still _ (S c.args.reader.now) (S c.loop.reader) (S c.read_next.new.reader) (concat v.0) c.read_next.new.room v.2 c.in-Err.ensures.reads) c.in-Err.ensures.reads.ended (calls_few _ _ _ c.loop.counter _ c.in-Err.ensures.reads.calls c.loop.invariant.calls v.5) (λ rest. tt)

pub returns-clause-given : goal.returns-clause-given
returns-clause-given g c k = let v = c.loop.invariant.visited in enough_front _ _ _ (concat v.0) v.2 (c.loop.invariant.open_yet (omega arith)) (calls_few_yet _ _ c.loop.counter _ c.loop.invariant.calls v.5) (λ rest. tt)

pub returns-in-Err-clause-read : goal.returns-in-Err-clause-read
returns-in-Err-clause-read g c =
    let S = g.R.CountedRead.seen in
    let v = c.loop.invariant.visited in
    let once = c.in-Err.ensures.reads in
    let front = gave_still _ (S c.args.reader.now) (S c.loop.reader) (S c.read_next.new.reader) (concat v.0) c.read_next.new.room v.2 once in
    λ _. (inl (once.failures.0 ∙ ap (λ (n : ℕ). n + 1) c.loop.invariant.failures, once.failures.1), few_front _ _ (concat v.0) front (calls_few _ _ _ c.loop.counter _ once.calls c.loop.invariant.calls v.5))

pub returns-clause-read : goal.returns-clause-read
returns-clause-read g c =
    let v = c.loop.invariant.visited in
    λ _. (inr (c.loop.invariant.failures, omega (arith, c.loop.invariant.calls)), few_front _ _ (concat v.0) v.2 (calls_few_yet _ _ c.loop.counter _ c.loop.invariant.calls v.5))

pub returns-in-Err-clause-kept : goal.returns-in-Err-clause-kept
returns-in-Err-clause-kept g c = inl refl

pub returns-clause-kept : goal.returns-clause-kept
returns-clause-kept g c = inl refl

-- HOW OFTEN IT WAS READ

pub returns-in-Ok-eq0-clause-reads : goal.returns-in-Ok-eq0-clause-reads
returns-in-Ok-eq0-clause-reads g c = let S = g.R.CountedRead.seen in next_within c.in-Ok-eq0.field-0 c.read_next.new.room c.loop.self.fed (S c.args.reader.now) (S c.loop.reader) (S c.read_next.new.reader) c.loop.counter c.in-Ok-eq0.ensures.reads c.loop.invariant.calls c.loop-test.true

pub returns-in_err-refusal_or-in-Ok-clause-reads : goal.returns-in_err-refusal_or-in-Ok-clause-reads
returns-in_err-refusal_or-in-Ok-clause-reads g c = let S = g.R.CountedRead.seen in next_within c.in-Ok.count c.read_next.new.room c.loop.self.fed (S c.args.reader.now) (S c.loop.reader) (S c.read_next.new.reader) c.loop.counter c.in-Ok.ensures.reads c.loop.invariant.calls c.loop-test.true

pub returns-in-Err-clause-reads : goal.returns-in-Err-clause-reads
returns-in-Err-clause-reads g c = calls_within _ _ _ c.loop.counter c.in-Err.ensures.reads.calls c.loop.invariant.calls c.loop-test.true

pub returns-clause-reads : goal.returns-clause-reads
returns-clause-reads g c = calls_upto _ _ c.loop.counter c.loop.invariant.calls c.loop.auto.counter-end

pub closure-requires : goal.closure-requires
closure-requires g c = let may = c.loop.invariant.always in search of_calls

pub closure-requires-in-Ok : goal.closure-requires-in-Ok
closure-requires-in-Ok g c = let may = c.loop.invariant.always in search of_calls
