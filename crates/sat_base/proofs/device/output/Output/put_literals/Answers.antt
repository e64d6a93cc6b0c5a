use Rattle.std.proofs.lemmas.Grind.{common_steps}
use Rattle.std.proofs.Common.{arith, ◌+◌, drop, length, ◌∙◌}
use Rattle.std.proofs.lemmas.List.{get_or_read}
use Rattle.std.proofs.lemmas.Result.{err_from_is_err_and}
use Rattle.sat_base.specs.device.Sink.{sink_of}
use Rattle.sat_base.specs.steps.StepBytes.{number_bytes, list_bytes, numbers_bytes}
use Rattle.sat_base.proofs.lemmas.device.Sending.{of_more, of_same, of_break, of_all, sends_stops}
use Rattle.sat_base.proofs.lemmas.steps.ListBytes.{spells_list, next_number, last_number}
use Rattle.sat_base.proofs.device.output.Output.put_literals.Goals as goal

pub returns-in_err-put_number : goal.returns-in_err-put_number
returns-in_err-put_number g c =
    let S = g.W.CountedWrite.seen in
    let p = err_from_is_err_and c.from_residual.result c.from_residual.ensures.1 in
    rw p.1 (sends_stops (sink_of S g.P.Room.waiting c.args.self.now) (sink_of S g.P.Room.waiting c.put_number.new.self) (number_bytes (length c.args.lits.now)) (numbers_bytes c.args.lits.now) c.in_err-put_number.ensures)

pub loop-lit-preserved : goal.loop-lit-preserved
loop-lit-preserved g c = grind (arith, common_steps, get_or_read, of_more, of_same, next_number)

pub returns-in_err-put_number-2 : goal.returns-in_err-put_number-2
returns-in_err-put_number-2 g c =
    let S = g.W.CountedWrite.seen in
    let p = err_from_is_err_and c.from_residual-in_err-put_number-2.result c.from_residual-in_err-put_number-2.ensures.1 in
    let xs = c.args.lits.now in
    let x = c.code.result in
    let old = sink_of S g.P.Room.waiting c.args.self.now in
    let mid = sink_of S g.P.Room.waiting c.loop-lit.self in
    rw p.1 (of_break (list_bytes xs) (number_bytes x) (numbers_bytes (drop (c.loop-lit.lit-index + 1) xs)) old mid (sink_of S g.P.Room.waiting c.put_number-in-loop-lit.new.self)
    (of_same (list_bytes xs) _ _ old mid (next_number xs c.loop-lit.lit-index x c.lit-item.result c.loop-lit-test.true (c.code.ensures.value ∙ c.lit-item.is)) c.loop-lit.invariant.sent) c.in_err-put_number-2.ensures)

pub returns : goal.returns
returns g c = grind (arith, common_steps, of_all, spells_list, last_number)
