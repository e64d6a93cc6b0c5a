use Rattle.std.proofs.Common.{◌+◌, ◌*◌, ◌-◌, ◌/◌, ◌<◌, inl, inr, arith}
use Rattle.std.proofs.lemmas.Bool.{cases_lt}
use Rattle.std.proofs.lemmas.Grind.{common_steps}
use Rattle.sat_base.specs.device.ConsumedAhead.{buffered_from}
use Rattle.sat_base.proofs.lemmas.steps.NumbersAhead.{looked_at_none, looked_on, stands_last, stands_between}
use Rattle.sat_base.proofs.device.ahead.Ahead.code_at.Goals as goal

pub returns-then-not-first-other : goal.returns-then-not-first-other
returns-then-not-first-other c = λ number following e.
    let a = c.args.self.now in
    let i = c.args.from in
    let x = c.byte_at-first.result in
    let y = c.byte_at-second.result in
    let n = c.one_or_two-number.result in
    let after = i + 1 + x / 128 in
    stands_between (c.args.largest + 1) n number i after following a e (elim (cases_lt x 128) [
      | inl h ↦ stands_last (c.args.largest + 1) 0 1 x n i (i + 1) after a (buffered_from i a) (looked_at_none _) c.byte_at-first.ensures h (inr (omega arith)) (omega (arith, c.one_or_two-number.ensures.one h)) (omega (arith, c.if-number-largest.false)) (omega (arith, h))
      | inr h ↦
          let l = looked_on 0 1 x i (i + 1) (i + 1) a _ (looked_at_none (buffered_from i a)) c.byte_at-first.ensures h c.byte_at-first.type_inv (omega arith) in
          let s : (0 < y) × (y < 128) = (grind (arith, common_steps, c.if-not-first-other.true, h), grind (arith, common_steps, c.if-not-first-other.true, h)) in
          stands_last (c.args.largest + 1) (0 + 1 * (x - 128)) (1 * 128) y n i (i + 1 + 1) after a (buffered_from (i + 1) a) l c.byte_at-second.ensures s.1 (inl s.0) (omega (arith, h, c.one_or_two-number.ensures.two h)) (omega (arith, c.if-number-largest.false)) (omega (arith, h, c.byte_at-first.type_inv))
    ])
