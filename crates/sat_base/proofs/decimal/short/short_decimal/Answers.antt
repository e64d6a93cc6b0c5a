use Rattle.std.proofs.Common.{arith}
use Rattle.sat_base.proofs.lemmas.text.EightBytes.{short_value}
use Rattle.sat_base.proofs.decimal.short.short_decimal.Goals as goal

pub returns : goal.returns
returns c =
    let bytes = c.args.bytes.now in
    let count = c.digit_run-count.result in
    record {
      some = omega arith;
      few = omega arith;
      within = omega arith;
      spelt = short_value bytes count c.from_le_bytes-eight.result c.eight_digits.result (omega arith) (omega arith) (omega arith) (λ k h. c.digit_run-count.ensures.digits k (omega arith) h) c.from_le_bytes-eight.ensures c.eight_digits.ensures;
      small = omega arith;
      ends = c.digit_run-count.ensures.ends (omega arith);
    }
