use Rattle.std.proofs.Common.{◌<◌, ◌≤◌, inl, inr, ◌⊎◌, ℕ, arith}
use Rattle.sat_base.proofs.lemmas.text.NumberWords.{no_digit, no_zero, next_digit, past_limit}
use Rattle.sat_base.proofs.decimal.reading.append_digit.Goals as goal

outside : (b : ℕ) → (b < 48) ⊎ ((48 ≤ b) × (57 < b)) → (48 ≤ b) × (b ≤ 57) → ⊥
outside b (inl h) p = omega arith
outside b (inr h) p = omega arith

pub returns-then-byte-lt48 : goal.returns-then-byte-lt48
returns-then-byte-lt48 c = no_digit c.args.limit (omega arith) c.args.number c.args.byte (outside c.args.byte c.then-byte-lt48.either)

pub returns-then-number-limit : goal.returns-then-number-limit
returns-then-number-limit c = past_limit c.args.limit (omega arith) c.args.number c.args.byte (omega arith) c.if-byte-lt48.false c.if-byte-gt57.false (omega arith)

pub returns-then-more-eq0 : goal.returns-then-more-eq0
returns-then-more-eq0 c = no_zero c.args.limit (omega arith) c.args.number c.args.byte c.if-byte-lt48.false (omega arith)

pub returns : goal.returns
returns c = let d = next_digit c.args.limit (omega arith) c.args.number c.args.byte c.if-byte-lt48.false c.if-byte-gt57.false (omega arith) (omega arith) in ((omega arith, omega arith), d)
