use Rattle.std.proofs.Common.{arith}
use Rattle.std.proofs.lemmas.Grind.{common_steps}
use Rattle.std.proofs.lemmas.Result.{err_from_is_err_and}
use Rattle.sat_base.proofs.lemmas.device.Known.{within_next}
use Rattle.sat_base.proofs.lemmas.device.Writes.{took_next, breaks_next, wrote_none, write_fails, rest_some}
use Rattle.sat_base.proofs.device.CountedWrite.write_all_counted.Goals as goal

pub returns-in_err-count : goal.returns-in_err-count
returns-in_err-count g c =
    let S = g.Self.CountedWrite.seen in
    let p = err_from_is_err_and c.from_residual.result c.from_residual.ensures.1 in
    rw p.1 (breaks_next (S c.args.self.now) (S c.loop-written.self) (S c.write_counted.new.self) c.args.piece.now c.loop-written.written c.loop-written.invariant.takes (write_fails c.in_err-count.field-0.0 _ _ _ c.in_err-count.ensures.once))

pub returns-then-count-eq0 : goal.returns-then-count-eq0
returns-then-count-eq0 g c = grind (arith, common_steps, breaks_next, wrote_none, rest_some)

pub loop-written-preserved : goal.loop-written-preserved
loop-written-preserved g c =
    let S = g.Self.CountedWrite.seen in
    record {
      within = within_next c.args.piece.now c.loop-written.written c.in_ok-count.count c.loop-written.invariant.within c.in_ok-count.ensures.bound;
      takes = took_next (S c.args.self.now) (S c.loop-written.self) (S c.write_counted.new.self) c.args.piece.now c.loop-written.written c.in_ok-count.count c.loop-written.invariant.takes c.in_ok-count.ensures.once c.in_ok-count.ensures.bound c.if-count-eq0.false;
    }
