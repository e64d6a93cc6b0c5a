use Rattle.std.proofs.Common.{◌%◌, refl}
use Rattle.sat_store.specs.levels.Levels.{level_passes}
use Rattle.std.proofs.lemmas.Nat.Bits.{bit_at-zero}
use Rattle.sat_store.proofs.level_abstraction.LevelAbstractionDefault.default.Goals as goal

pub returns : goal.returns
unfolding level_passes
returns c level = rw (bit_at-zero (level % 64)) refl
