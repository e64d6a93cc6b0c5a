use Rattle.std.proofs.Common.{◌≡◌, ◌≤◌, ◌++◌, drop}
use Rattle.sat_base.specs.values.Literals.{var_limit}
use Rattle.sat_base.specs.text.NumberWords.{digits_so_far}
use Rattle.certify.proofs.answers.read.begins_name.Given as goal

-- the bytes read so far are the digits of the name
abbrev pub invariant-loop-i : goal.invariant-loop-i
invariant-loop-i l = (l.name ≤ var_limit) × (l.bytes ≡ digits_so_far l.name ++ drop l.i l.bytes)
