use Rattle.certify.proofs.lemmas.program.PrintedVerdicts.{cut_lent, prints_lent, reads_lent, stop_lent}
use Rattle.certify.proofs.program.standard.answer.Goals as goal

pub returns-clause-printed : goal.returns-clause-printed
returns-clause-printed g c =
    let lent = c.answer_and_return-lent.result.0 in
    prints_lent g.I.CountedRead.seen c.args.input.now _ lent.now _ lent.ghost_name c.input-1.given.1 c.answer_and_return-lent.ensures.stops _ _ c.answer_and_return-lent.result.1 c.answer_and_return-lent.ensures.printed

pub returns-clause-cut : goal.returns-clause-cut
returns-clause-cut g c =
    let lent = c.answer_and_return-lent.result.0 in
    cut_lent g.I.CountedRead.seen c.args.input.now _ lent.now _ lent.ghost_name c.input-1.given.1 c.answer_and_return-lent.ensures.stops _ _ c.answer_and_return-lent.result.1 c.answer_and_return-lent.ensures.cut

pub returns-clause-reads : goal.returns-clause-reads
returns-clause-reads g c =
    let lent = c.answer_and_return-lent.result.0 in
    reads_lent g.I.CountedRead.seen c.args.input.now _ lent.now _ lent.ghost_name c.input-1.given.1 c.answer_and_return-lent.ensures.stops c.answer_and_return-lent.ensures.reads

pub returns-clause-stops : goal.returns-clause-stops
returns-clause-stops g c =
    let lent = c.answer_and_return-lent.result.0 in
    stop_lent g.I.CountedRead.seen c.args.input.now _ lent.now _ lent.ghost_name c.input-1.given.1 c.answer_and_return-lent.ensures.stops
