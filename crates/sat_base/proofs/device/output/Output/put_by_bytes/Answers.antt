use Rattle.std.proofs.lemmas.Grind.{common_steps}
use Rattle.std.proofs.Common.{◌%◌, ◌+◌, refl, arith}
use Rattle.std.proofs.lemmas.Result.{err_from_is_err_and}
use Rattle.sat_base.specs.device.Sink.{sink_of}
use Rattle.sat_base.proofs.lemmas.steps.NumberBytes.{groups_none, groups_more, groups_break, groups_end}
use Rattle.sat_base.proofs.device.output.Output.put_by_bytes.Goals as goal

pub loop-rest-init : goal.loop-rest-init
loop-rest-init g c = groups_none c.args.number _ (omega arith)

pub loop-rest-preserved : goal.loop-rest-preserved
loop-rest-preserved g c = grind (arith, common_steps, groups_more)

pub returns-in_err-put : goal.returns-in_err-put
returns-in_err-put g c =
    let S = g.W.CountedWrite.seen in
    let p = err_from_is_err_and c.from_residual.result c.from_residual.ensures.1 in
    rw p.1 (groups_break c.args.number c.loop-rest.rest (c.loop-rest.rest % 128 + 128) (sink_of S g.P.Room.waiting c.args.self.now) (sink_of S g.P.Room.waiting c.loop-rest.self) (sink_of S g.P.Room.waiting c.put.new.self) c.loop-rest-test.true refl c.loop-rest.invariant c.in_err-put.ensures)

pub returns : goal.returns
returns g c =
    let S = g.W.CountedWrite.seen in
    groups_end c.args.number c.loop-rest.rest (sink_of S g.P.Room.waiting c.args.self.now) (sink_of S g.P.Room.waiting c.loop-rest.self) (sink_of S g.P.Room.waiting c.put-2.new.self) c.put-2.result c.loop-rest-test.false c.loop-rest.invariant c.put-2.ensures
