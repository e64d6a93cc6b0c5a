use Rattle.std.proofs.Common.{ℕ, ◌+◌, ◌++◌, inl, inr, ap, refl, ◌∙◌, take, rules, arith}
use Rattle.std.proofs.lemmas.Result.{err_from_is_err_and}
use Rattle.sat_base.proofs.lemmas.device.Given.{gave_more, end_after, few_after, few_before, some_given, no_less, gave_still, calls_after, calls_within, calls_upto}
use Rattle.sat_base.proofs.lemmas.device.WholeAnswers.{one_more, if_err, ok_is_no_err, memory_is_no_failure, failed_is_not_memory, failure_is_not_memory}
use Rattle.sat_base.proofs.lemmas.dimacs.Parsed.{piece_given}
use Rattle.sat_base.proofs.device.whole.read_into.Goals as goal

-- AT THE END

pub returns-in-Ok-eq0-clause-gave : goal.returns-in-Ok-eq0-clause-gave
returns-in-Ok-eq0-clause-gave g c =
    let S = g.R.CountedRead.seen in
    let l = c.loop in
    (l.invariant.text, end_after (S c.args.reader.now) (S l.reader) (S c.read_piece.new.reader) l.invariant.text c.in-Ok-eq0.field-0 l.counter c.read_piece.new.room l.invariant.front c.in-Ok-eq0.ensures.once c.in-Ok-eq0.field-0-test (search rules) l.invariant.calls l.invariant.some, l.invariant.fed)

pub returns-in-Ok-eq0-clause-front : goal.returns-in-Ok-eq0-clause-front
returns-in-Ok-eq0-clause-front g c =
    let gave = returns-in-Ok-eq0-clause-gave g c in
    let all = gave.1 in
    (gave.0, record { gave = all.gave; known_bytes = all.known_bytes; loans = all.loans }, all.few)

pub returns-in-Ok-eq0-clause-kept : goal.returns-in-Ok-eq0-clause-kept
returns-in-Ok-eq0-clause-kept g c = c.in-Ok-eq0.ensures.once.failures.0 ∙ c.loop.invariant.failures

pub returns-in-Ok-eq0-clause-failed : goal.returns-in-Ok-eq0-clause-failed
returns-in-Ok-eq0-clause-failed g c = λ h. ok_is_no_err _ _ h

pub returns-in-Ok-eq0-clause-memory : goal.returns-in-Ok-eq0-clause-memory
returns-in-Ok-eq0-clause-memory g c = λ h. ok_is_no_err _ _ h

pub returns-in-Ok-eq0-clause-some : goal.returns-in-Ok-eq0-clause-some
returns-in-Ok-eq0-clause-some g c = λ h. ok_is_no_err _ _ h

pub returns-in-Ok-eq0-clause-reads : goal.returns-in-Ok-eq0-clause-reads
returns-in-Ok-eq0-clause-reads g c = calls_within _ _ _ c.loop.counter c.in-Ok-eq0.ensures.once.calls c.loop.invariant.calls c.loop-test.true

-- WHERE THERE IS NO MEMORY

pub returns-in_err-feed-in-Ok-clause-gave : goal.returns-in_err-feed-in-Ok-clause-gave
returns-in_err-feed-in-Ok-clause-gave g c = let p = err_from_is_err_and c.from_residual.result c.from_residual.ensures.1 in if_err _ p.0 _ p.1

pub returns-in_err-feed-in-Ok-clause-kept : goal.returns-in_err-feed-in-Ok-clause-kept
returns-in_err-feed-in-Ok-clause-kept g c = let p = err_from_is_err_and c.from_residual.result c.from_residual.ensures.1 in if_err _ p.0 _ p.1

pub returns-in_err-feed-in-Ok-clause-failed : goal.returns-in_err-feed-in-Ok-clause-failed
returns-in_err-feed-in-Ok-clause-failed g c = let p = err_from_is_err_and c.from_residual.result c.from_residual.ensures.1 in λ h. memory_is_no_failure _ _ p.1 p.2 h

pub returns-in_err-feed-in-Ok-clause-reads : goal.returns-in_err-feed-in-Ok-clause-reads
returns-in_err-feed-in-Ok-clause-reads g c = calls_within _ _ _ c.loop.counter c.in-Ok.ensures.once.calls c.loop.invariant.calls c.loop-test.true

pub returns-in_err-feed-in-Ok-clause-front : goal.returns-in_err-feed-in-Ok-clause-front
returns-in_err-feed-in-Ok-clause-front g c =
    let S = g.R.CountedRead.seen in
    let l = c.loop in
    let room = c.read_piece.new.room in
    let once = c.in-Ok.ensures.once in
    let piece = take c.in-Ok.count room in
    let front = gave_more (S c.args.reader.now) (S l.reader) (S c.read_piece.new.reader) l.invariant.text c.in-Ok.count room l.invariant.front once in
    (l.invariant.text ++ piece, front, few_after _ (S l.reader) _ _ l.counter front once.calls l.invariant.calls (no_less l.invariant.text piece l.counter l.invariant.some))

pub returns-in_err-feed-in-Ok-clause-memory : goal.returns-in_err-feed-in-Ok-clause-memory
returns-in_err-feed-in-Ok-clause-memory g c = λ _. c.in-Ok.ensures.once.failures.0 ∙ c.loop.invariant.failures

pub returns-in_err-feed-in-Ok-clause-some : goal.returns-in_err-feed-in-Ok-clause-some
returns-in_err-feed-in-Ok-clause-some g c =
    let S = g.R.CountedRead.seen in
    let l = c.loop in
    let room = c.read_piece.new.room in
    let front = gave_more (S c.args.reader.now) (S l.reader) (S c.read_piece.new.reader) l.invariant.text c.in-Ok.count room l.invariant.front c.in-Ok.ensures.once in
    λ _. some_given _ _ l.invariant.text (take c.in-Ok.count room) front (piece_given c.in-Ok.count room (search rules) (search rules))

-- WHERE READING FAILS

pub returns-clause-front : goal.returns-clause-front
returns-clause-front g c = let l = c.loop in (l.invariant.text, l.invariant.front, few_before _ _ _ l.counter l.invariant.front l.invariant.calls l.invariant.some)

pub returns-clause-failed : goal.returns-clause-failed
returns-clause-failed g c = let l = c.loop in λ _. (inr (l.invariant.failures, omega (arith, l.invariant.calls)), (returns-clause-front g c).2)

pub returns-clause-gave : goal.returns-clause-gave
returns-clause-gave g c = tt

pub returns-clause-kept : goal.returns-clause-kept
returns-clause-kept g c = tt

pub returns-clause-memory : goal.returns-clause-memory
returns-clause-memory g c = λ h. failure_is_not_memory h

pub returns-clause-some : goal.returns-clause-some
returns-clause-some g c = λ h. failure_is_not_memory h

pub returns-clause-reads : goal.returns-clause-reads
returns-clause-reads g c = calls_upto _ _ c.loop.counter c.loop.invariant.calls c.loop.auto.counter-end

-- WHERE A READ FAILS

pub returns-in-Err-clause-gave : goal.returns-in-Err-clause-gave
returns-in-Err-clause-gave g c = tt

pub returns-in-Err-clause-kept : goal.returns-in-Err-clause-kept
returns-in-Err-clause-kept g c = tt

pub returns-in-Err-clause-memory : goal.returns-in-Err-clause-memory
returns-in-Err-clause-memory g c = λ h. failed_is_not_memory _ c.in-Err.ensures.failed h

pub returns-in-Err-clause-some : goal.returns-in-Err-clause-some
returns-in-Err-clause-some g c = λ h. failed_is_not_memory _ c.in-Err.ensures.failed h

pub returns-in-Err-clause-front : goal.returns-in-Err-clause-front
returns-in-Err-clause-front g c =
    let S = g.R.CountedRead.seen in
    let l = c.loop in
    let once = c.in-Err.ensures.once in
    let front = gave_still _ (S c.args.reader.now) (S l.reader) (S c.read_piece.new.reader) l.invariant.text c.read_piece.new.room l.invariant.front once in
    (l.invariant.text, front, few_after _ (S l.reader) _ _ l.counter front once.calls l.invariant.calls l.invariant.some)

pub returns-in-Err-clause-failed : goal.returns-in-Err-clause-failed
returns-in-Err-clause-failed g c =
    let once = c.in-Err.ensures.once in
    λ _. (inl (once.failures.0 ∙ ap (λ (n : ℕ). n + 1) c.loop.invariant.failures, once.failures.1), (returns-in-Err-clause-front g c).2)

pub returns-in-Err-clause-reads : goal.returns-in-Err-clause-reads
returns-in-Err-clause-reads g c = calls_within _ _ _ c.loop.counter c.in-Err.ensures.once.calls c.loop.invariant.calls c.loop-test.true

-- ANOTHER PIECE

pub feed-requires : goal.feed-requires
feed-requires g c = (c.loop.invariant.text, c.loop.invariant.fed)

pub loop-preserved : goal.loop-preserved
loop-preserved g c =
    let S = g.R.CountedRead.seen in
    let l = c.loop in
    let room = c.read_piece.new.room in
    let once = c.in-Ok.ensures.once in
    let piece = take c.in-Ok.count room in
    record {
      text = l.invariant.text ++ piece;
      front = gave_more (S c.args.reader.now) (S l.reader) (S c.read_piece.new.reader) l.invariant.text c.in-Ok.count room l.invariant.front once;
      fed = c.in_ok-feed-in-Ok.ensures l.invariant.text l.invariant.fed;
      some = one_more l.invariant.text piece _ l.counter refl l.invariant.some (piece_given c.in-Ok.count room (search rules) (search rules));
      failures = once.failures.0 ∙ l.invariant.failures;
      calls = calls_after _ _ _ l.counter once.calls l.invariant.calls;
    }
