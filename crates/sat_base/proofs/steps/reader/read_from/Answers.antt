use Rattle.std.proofs.Common.{◌∙◌, arith}
use Rattle.sat_base.proofs.lemmas.steps.LentInput.{lent_answers}
use Rattle.sat_base.proofs.steps.reader.read_from.Goals as goal

pub returns-clause-reads : goal.returns-clause-reads
returns-clause-reads g c =
    let i = c.new-input.ensures in
    lent_answers g.R.CountedRead.seen c.args.reader.now _ c.args.ahead.now _ c.new-input.result c.read_step.new.self _ _ _ i.reader i.ahead i.reads i.waits
    (λ e. c.reader-1.given.1 e ∙ c.drop-input.ensures.reader) (λ e. c.ahead-1.given.1 e ∙ c.drop-input.ensures.ahead) c.read_step.ensures.reads

pub read_step-requires-clause-room : goal.read_step-requires-clause-room
read_step-requires-clause-room g c =
    let r = c.room.ensures.unread in
    let e = c.unread-unread.ensures in
    let i = c.new-input.ensures in
    record { some = omega (arith, r, i.room); fits = rw i.waits (omega (arith, r, e, i.room)) }
