use Rattle.std.proofs.Common.{◌≡◌, ◌≤◌, ◌++◌, drop}
use Rattle.sat_base.specs.text.NumberWords.{digits_so_far}
use Rattle.sat_base.proofs.decimal.reading.read_long.Given as goal

-- the bytes read so far are the digits of `number`
abbrev pub invariant-loop-i : goal.invariant-loop-i
invariant-loop-i l = record { within : l.number ≤ l.limit; digits : l.bytes ≡ digits_so_far l.number ++ drop l.i l.bytes }
