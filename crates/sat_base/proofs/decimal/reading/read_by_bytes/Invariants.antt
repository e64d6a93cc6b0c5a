use Rattle.std.proofs.Common.{◌≡◌, ◌≤◌, ◌++◌, drop}
use Rattle.sat_base.specs.text.NumberWords.{digits_so_far}
use Rattle.sat_base.proofs.decimal.reading.read_by_bytes.Given as goal

-- the bytes read so far are the digits of `number`, the first of which is not 0
abbrev pub invariant-loop-i : goal.invariant-loop-i
invariant-loop-i l = record { more : l.i ≤ l.number; digits : l.bytes ≡ digits_so_far l.number ++ drop l.i l.bytes }
