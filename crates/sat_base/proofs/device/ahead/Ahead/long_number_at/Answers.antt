use Rattle.std.proofs.Common.{◌+◌, ◌*◌, inl, inr, arith}
use Rattle.sat_base.proofs.lemmas.steps.NumbersAhead.{stands_between, looked_at_more, looked_at_last, positive_from}
use Rattle.sat_base.proofs.device.ahead.Ahead.long_number_at.Goals as goal

pub returns-then-byte-lt128 : goal.returns-then-byte-lt128
returns-then-byte-lt128 c = λ number following e.
    stands_between (c.args.largest + 1) (c.loop-at.value + c.loop-at.place * c.byte_at-byte.result) number c.args.from (c.loop-at.at + 1) following c.args.self.now e
    (looked_at_last (c.args.largest + 1) c.loop-at.value c.loop-at.place c.byte_at-byte.result _ _ _ c.loop-at.invariant c.byte_at-byte.ensures c.if-byte-lt128.true (elim c.if-place-gt1.either [ inl h ↦ inr h.1 | inr h ↦ inl (positive_from c.byte_at-byte.result h) ]) (omega (arith, c.if-number-largest.false)))

pub loop-at-preserved : goal.loop-at-preserved
loop-at-preserved c = looked_at_more c.loop-at.value c.loop-at.place c.byte_at-byte.result _ _ _ c.loop-at.invariant c.byte_at-byte.ensures (omega (arith, c.if-byte-lt128.false)) c.byte_at-byte.type_inv
