use Rattle.std.proofs.Common.{◌+◌, ◌∙◌, refl, arith}
use Rattle.std.proofs.lemmas.Result.{err_from_is_err_and}
use Rattle.sat_base.proofs.lemmas.device.ReadLemmas.{groups_none, groups_stop, groups_zero, groups_zero_bad, groups_last, groups_past, groups_more, room_start, in_room, room_low, room_high, room_small}
use Rattle.sat_base.proofs.lemmas.device.RoomLemmas.{within_later}
use Rattle.sat_base.proofs.device.input.Input.number_by_bytes.Goals as goal

pub loop-byte-init : goal.loop-byte-init
loop-byte-init g c = let r = room_start c.args.largest in record { groups = groups_none (c.args.largest + 1) _ (omega (arith, c.requires.some)); low = r.0; high = r.1; read = c.requires.room; same = refl }

pub returns-in_err-byte-clause-reads : goal.returns-in_err-byte-clause-reads
returns-in_err-byte-clause-reads g c =
    let p = err_from_is_err_and c.from_residual.result c.from_residual.ensures.1 in
    rw (p.1, p.2) (groups_stop (c.args.largest + 1) c.loop-byte.value c.loop-byte.place _ _ _ c.in_err-byte.field-0.0 c.loop-byte.invariant.groups c.in_err-byte.ensures.reads)

pub returns-then-place-eq1-clause-reads : goal.returns-then-place-eq1-clause-reads
returns-then-place-eq1-clause-reads g c =
    groups_zero (c.args.largest + 1) c.loop-byte.value c.loop-byte.place c.in_ok-byte.byte _ _ _ c.loop-byte.invariant.groups c.in_ok-byte.ensures.reads c.if-byte-eq0.true c.if-place-eq1.true (omega (arith, c.requires.some))

pub returns-else-place-eq1-clause-reads : goal.returns-else-place-eq1-clause-reads
returns-else-place-eq1-clause-reads g c = groups_zero_bad (c.args.largest + 1) c.loop-byte.value c.loop-byte.place c.in_ok-byte.byte _ _ _ c.loop-byte.invariant.groups c.in_ok-byte.ensures.reads c.if-byte-eq0.true c.if-place-eq1.false

pub returns-then-byte-room-clause-reads : goal.returns-then-byte-room-clause-reads
returns-then-byte-room-clause-reads g c = groups_past c.args.largest c.loop-byte.value c.loop-byte.place c.loop-byte.room c.in_ok-byte.byte _ _ _ c.loop-byte.invariant.groups c.in_ok-byte.ensures.reads c.loop-byte.invariant.high c.if-byte-room.true

pub returns-then-byte-lt128-clause-reads : goal.returns-then-byte-lt128-clause-reads
returns-then-byte-lt128-clause-reads g c =
    let small = in_room c.args.largest c.loop-byte.value c.loop-byte.place c.loop-byte.room c.in_ok-byte.byte c.loop-byte.invariant.low (omega arith) in
    groups_last (c.args.largest + 1) c.loop-byte.value c.loop-byte.place c.in_ok-byte.byte _ _ _ c.loop-byte.invariant.groups c.in_ok-byte.ensures.reads c.if-byte-eq0.false c.if-byte-lt128.true small

pub loop-byte-preserved : goal.loop-byte-preserved
loop-byte-preserved g c =
    let n = c.args.largest in
    let v = c.loop-byte.value in
    let p = c.loop-byte.place in
    let r = c.loop-byte.room in
    let b = c.in_ok-byte.byte in
    let i = c.loop-byte.invariant in
    record {
      groups = groups_more (n + 1) v p b _ _ _ i.groups c.in_ok-byte.ensures.reads c.if-byte-lt128.false (omega arith) (room_small n v p r b i.low c.if-byte-lt128.false (omega arith));
      low = room_low n v p r b i.low c.if-byte-lt128.false (omega arith);
      high = room_high n v p r b i.high c.if-byte-lt128.false (omega arith);
      read = let w = c.in_ok-byte.ensures.within in record { some = omega (arith, i.read.some, w.room); fits = omega (arith, w.left, w.room) };
      same = c.in_ok-byte.ensures.within.room ∙ i.same;
    }

pub byte_within-requires : goal.byte_within-requires
byte_within-requires g c = c.loop-byte.invariant.read

pub returns-in_err-byte-clause-within : goal.returns-in_err-byte-clause-within
returns-in_err-byte-clause-within g c = within_later c.args.self.now c.loop-byte.self c.byte_within.new.self c.loop-byte.invariant.same c.in_err-byte.ensures.within

pub returns-then-place-eq1-clause-within : goal.returns-then-place-eq1-clause-within
returns-then-place-eq1-clause-within g c = within_later c.args.self.now c.loop-byte.self c.byte_within.new.self c.loop-byte.invariant.same c.in_ok-byte.ensures.within

pub returns-else-place-eq1-clause-within : goal.returns-else-place-eq1-clause-within
returns-else-place-eq1-clause-within g c = within_later c.args.self.now c.loop-byte.self c.byte_within.new.self c.loop-byte.invariant.same c.in_ok-byte.ensures.within

pub returns-then-byte-room-clause-within : goal.returns-then-byte-room-clause-within
returns-then-byte-room-clause-within g c = within_later c.args.self.now c.loop-byte.self c.byte_within.new.self c.loop-byte.invariant.same c.in_ok-byte.ensures.within

pub returns-then-byte-lt128-clause-within : goal.returns-then-byte-lt128-clause-within
returns-then-byte-lt128-clause-within g c = within_later c.args.self.now c.loop-byte.self c.byte_within.new.self c.loop-byte.invariant.same c.in_ok-byte.ensures.within
