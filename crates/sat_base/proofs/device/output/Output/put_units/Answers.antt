use Rattle.std.proofs.lemmas.Grind.{common_steps}
use Rattle.std.proofs.Common.{arith, ◌+◌, ◌++◌, drop, length}
use Rattle.std.proofs.lemmas.List.{get_or_read}
use Rattle.std.proofs.lemmas.Result.{err_from_is_err_and}
use Rattle.sat_base.specs.device.Sink.{sink_of}
use Rattle.sat_base.specs.steps.StepBytes.{number_bytes, units_bytes, pairs_bytes}
use Rattle.sat_base.proofs.lemmas.device.Sending.{of_more, of_same, of_break, of_all, sends_stops}
use Rattle.sat_base.proofs.lemmas.steps.ListBytes.{spells_units, next_pair, last_pair}
use Rattle.sat_base.proofs.device.output.Output.put_units.Goals as goal

pub returns-in_err-put_number : goal.returns-in_err-put_number
returns-in_err-put_number g c =
    let S = g.W.CountedWrite.seen in
    let p = err_from_is_err_and c.from_residual.result c.from_residual.ensures.1 in
    rw p.1 (sends_stops (sink_of S g.P.Room.waiting c.args.self.now) (sink_of S g.P.Room.waiting c.put_number.new.self) (number_bytes (length c.args.units.now)) (pairs_bytes c.args.units.now) c.in_err-put_number.ensures)

pub loop-unit-preserved : goal.loop-unit-preserved
loop-unit-preserved g c = grind (arith, common_steps, get_or_read, of_more, of_same, next_pair)

pub returns-in_err-put_unit : goal.returns-in_err-put_unit
returns-in_err-put_unit g c =
    let S = g.W.CountedWrite.seen in
    let p = err_from_is_err_and c.from_residual-in_err-put_unit.result c.from_residual-in_err-put_unit.ensures.1 in
    let xs = c.args.units.now in
    let x = c.unit-item.result in
    let old = sink_of S g.P.Room.waiting c.args.self.now in
    let mid = sink_of S g.P.Room.waiting c.loop-unit.self in
    rw p.1 (of_break (units_bytes xs) (number_bytes x.0 ++ number_bytes x.1) (pairs_bytes (drop (c.loop-unit.unit-index + 1) xs)) old mid (sink_of S g.P.Room.waiting c.put_unit.new.self)
    (of_same (units_bytes xs) _ _ old mid (next_pair xs c.loop-unit.unit-index x x c.loop-unit-test.true c.unit-item.is) c.loop-unit.invariant.sent) c.in_err-put_unit.ensures)

pub returns : goal.returns
returns g c = grind (arith, common_steps, of_all, spells_units, last_pair)
