use Rattle.std.proofs.Common.{◌++◌}
use Rattle.std.proofs.lemmas.Result.{err_from_is_err_and}
use Rattle.sat_base.specs.device.Sink.{sink_of}
use Rattle.sat_base.specs.steps.StepBytes.{list_bytes, flag_bytes}
use Rattle.sat_base.specs.steps.Formats.{Both}
use Rattle.sat_base.specs.steps.StepText.{SpellsFlag, SpellsLiterals, SpellsHashes}
use Rattle.sat_base.proofs.lemmas.steps.NumberBytes.{both_written}
use Rattle.sat_base.proofs.lemmas.device.Sending.{sends_stops}
use Rattle.sat_base.proofs.device.output.Output.put_derived.Goals as goal

pub returns-in_err-put_flag : goal.returns-in_err-put_flag
returns-in_err-put_flag g c =
    let S = g.W.CountedWrite.seen in
    let p = err_from_is_err_and c.from_residual.result c.from_residual.ensures.1 in
    rw p.1 (sends_stops (sink_of S g.P.Room.waiting c.args.self.now) (sink_of S g.P.Room.waiting c.put_flag.new.self) (flag_bytes c.args.redundant) (list_bytes c.args.clause.now ++ list_bytes c.args.hashes.now) c.in_err-put_flag.ensures)

pub returns : goal.returns
returns g c =
    let S = g.W.CountedWrite.seen in
    let p = c.in_ok-put_flag.ensures in
    both_written SpellsFlag (Both SpellsLiterals SpellsHashes) c.args.redundant (c.args.clause.now, c.args.hashes.now) (flag_bytes c.args.redundant) (list_bytes c.args.clause.now ++ list_bytes c.args.hashes.now) (sink_of S g.P.Room.waiting c.args.self.now) (sink_of S g.P.Room.waiting c.put_flag.new.self) (sink_of S g.P.Room.waiting c.put_both_lists.new.self) c.put_both_lists.result p.0 p.1 c.put_both_lists.ensures
