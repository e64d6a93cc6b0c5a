use Rattle.std.proofs.lemmas.Grind.{common_steps}
use Rattle.std.proofs.Common.{arith, ◌+◌, drop, length, get_or, refl}
use Rattle.std.proofs.lemmas.Result.{err_from_is_err_and}
use Rattle.sat_base.specs.device.Sink.{sink_of}
use Rattle.sat_base.specs.steps.StepBytes.{number_bytes, list_bytes, numbers_bytes}
use Rattle.sat_base.proofs.lemmas.device.Sending.{of_more, of_same, of_break, of_all, sends_stops}
use Rattle.sat_base.proofs.lemmas.steps.ListBytes.{spells_list, next_number, last_number}
use Rattle.sat_base.proofs.device.output.Output.put_hashes.Goals as goal

pub returns-in_err-put_number : goal.returns-in_err-put_number
returns-in_err-put_number g c =
    let S = g.W.CountedWrite.seen in
    let p = err_from_is_err_and c.from_residual.result c.from_residual.ensures.1 in
    rw p.1 (sends_stops (sink_of S g.P.Room.waiting c.args.self.now) (sink_of S g.P.Room.waiting c.put_number.new.self) (number_bytes (length c.args.hashes.now)) (numbers_bytes c.args.hashes.now) c.in_err-put_number.ensures)

pub loop-hash-preserved : goal.loop-hash-preserved
loop-hash-preserved g c = grind (arith, common_steps, of_more, of_same, next_number)

pub returns-in_err-put_hash : goal.returns-in_err-put_hash
returns-in_err-put_hash g c =
    let S = g.W.CountedWrite.seen in
    let p = err_from_is_err_and c.from_residual-in_err-put_hash.result c.from_residual-in_err-put_hash.ensures.1 in
    let xs = c.args.hashes.now in
    let x = get_or xs c.loop-hash.hash-index 0 in
    let old = sink_of S g.P.Room.waiting c.args.self.now in
    let mid = sink_of S g.P.Room.waiting c.loop-hash.self in
    rw p.1 (of_break (list_bytes xs) (number_bytes x) (numbers_bytes (drop (c.loop-hash.hash-index + 1) xs)) old mid (sink_of S g.P.Room.waiting c.put_hash.new.self)
    (of_same (list_bytes xs) _ _ old mid (next_number xs c.loop-hash.hash-index x 0 c.loop-hash-test.true refl) c.loop-hash.invariant) c.in_err-put_hash.ensures)

pub returns : goal.returns
returns g c = grind (arith, common_steps, of_all, spells_list, last_number)
