use Rattle.std.proofs.Common.{Bool, take}
use Rattle.sat_base.specs.declared.text.Place.TheVariants as at
use Rattle.sat_base.specs.text.Tokenizing.{MovesPlaceByBytes}
use Rattle.sat_base.proofs.text.digits_in.Given as goal

abbrev pub invariant-loop-count : goal.invariant-loop-count
invariant-loop-count l = (negative : Bool) → MovesPlaceByBytes (at.Digits negative l.fn.value) (take l.count l.bytes) (at.Digits negative l.value)
