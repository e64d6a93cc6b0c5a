use Rattle.std.proofs.Common.{◌+◌, ◌*◌, ◌-◌, ◌^◌, inl, inr, arith}
use Rattle.sat_base.specs.device.ConsumedAhead.{buffered_from}
use Rattle.sat_base.proofs.lemmas.steps.NumbersAhead.{looked_at_none, looked_on, stands_last, positive_from}
use Rattle.sat_base.proofs.device.ahead.Ahead.short_number_at.Goals as goal

pub returns-then-first-lt128 : goal.returns-then-first-lt128
returns-then-first-lt128 c = λ h.
    let a = c.args.self.now in
    let i = c.args.from in
    let x = c.byte_at-first.result in
    stands_last (2 ^ 28) 0 1 x x i (i + 1) (i + 1) a (buffered_from i a) (looked_at_none _) c.byte_at-first.ensures c.if-first-lt128.true (inr (omega arith)) (omega arith) (omega (arith, c.if-first-lt128.true)) (omega arith)

pub returns-then-second-lt128 : goal.returns-then-second-lt128
returns-then-second-lt128 c = λ h.
    let a = c.args.self.now in
    let i = c.args.from in
    let x = c.byte_at-first.result in
    let y = c.byte_at-second.result in
    let l = looked_on 0 1 x i (i + 1) (i + 1) a _ (looked_at_none (buffered_from i a)) c.byte_at-first.ensures (omega (arith, c.if-first-lt128.false)) c.byte_at-first.type_inv (omega arith) in
    stands_last (2 ^ 28) (0 + 1 * (x - 128)) (1 * 128) y (x - 128 + 128 * y) i (i + 1 + 1) (i + 2) a (buffered_from (i + 1) a) l c.byte_at-second.ensures c.if-second-lt128.true (inl (positive_from y c.if-second-eq0.false)) (omega arith)
    (omega (arith, c.byte_at-first.type_inv, c.if-second-lt128.true)) (omega arith)

pub returns-then-third-lt128 : goal.returns-then-third-lt128
returns-then-third-lt128 c = λ h.
    let a = c.args.self.now in
    let i = c.args.from in
    let x = c.byte_at-first.result in
    let y = c.byte_at-second.result in
    let z = c.byte_at-third.result in
    let l = looked_on 0 1 x i (i + 1) (i + 1) a _ (looked_at_none (buffered_from i a)) c.byte_at-first.ensures (omega (arith, c.if-first-lt128.false)) c.byte_at-first.type_inv (omega arith) in
    let m = looked_on (0 + 1 * (x - 128)) (1 * 128) y i (i + 1 + 1) (i + 2) a _ l c.byte_at-second.ensures (omega (arith, c.if-second-lt128.false)) c.byte_at-second.type_inv (omega arith) in
    stands_last (2 ^ 28) (0 + 1 * (x - 128) + 1 * 128 * (y - 128)) (1 * 128 * 128) z (x - 128 + 128 * (y - 128) + 16384 * z) i (i + 2 + 1) (i + 3) a (buffered_from (i + 2) a) m c.byte_at-third.ensures c.if-third-lt128.true (inl (positive_from z c.if-third-eq0.false)) (omega arith)
    (omega (arith, c.byte_at-first.type_inv, c.byte_at-second.type_inv, c.if-third-lt128.true)) (omega arith)

pub returns-then-fourth-gt0 : goal.returns-then-fourth-gt0
returns-then-fourth-gt0 c = λ h.
    let a = c.args.self.now in
    let i = c.args.from in
    let x = c.byte_at-first.result in
    let y = c.byte_at-second.result in
    let z = c.byte_at-third.result in
    let w = c.byte_at-fourth.result in
    let l = looked_on 0 1 x i (i + 1) (i + 1) a _ (looked_at_none (buffered_from i a)) c.byte_at-first.ensures (omega (arith, c.if-first-lt128.false)) c.byte_at-first.type_inv (omega arith) in
    let m = looked_on (0 + 1 * (x - 128)) (1 * 128) y i (i + 1 + 1) (i + 2) a _ l c.byte_at-second.ensures (omega (arith, c.if-second-lt128.false)) c.byte_at-second.type_inv (omega arith) in
    let n = looked_on (0 + 1 * (x - 128) + 1 * 128 * (y - 128)) (1 * 128 * 128) z i (i + 2 + 1) (i + 3) a _ m c.byte_at-third.ensures (omega (arith, c.if-third-lt128.false)) c.byte_at-third.type_inv (omega arith) in
    stands_last (2 ^ 28) (0 + 1 * (x - 128) + 1 * 128 * (y - 128) + 1 * 128 * 128 * (z - 128)) (1 * 128 * 128 * 128) w (x - 128 + 128 * (y - 128) + 16384 * (z - 128) + 2097152 * w) i (i + 3 + 1) (i + 4) a (buffered_from (i + 3) a) n c.byte_at-fourth.ensures c.if-fourth-lt128.true (inl c.if-fourth-gt0.true)
    (omega arith) (omega (arith, c.byte_at-first.type_inv, c.byte_at-second.type_inv, c.byte_at-third.type_inv, c.if-fourth-lt128.true)) (omega arith)
