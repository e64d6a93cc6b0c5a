use Rattle.std.proofs.Common.{ℕ, ◌%◌, true, if◌then◌else◌, ap, ◌∙◌}
use Rattle.std.specs.Bool.{◌==◌}
use Rattle.sat_store.specs.levels.Levels.{level_passes}
use Rattle.sat_store.proofs.lemmas.levels.LevelLemmas.{added}
use Rattle.sat_store.proofs.level_abstraction.LevelAbstraction.add.Goals as goal

pub returns : goal.returns
returns c other = added c.self.inside.bits c.args.level other ∙ ap (λ (n : ℕ). if other % 64 == c.args.level % 64 then true else level_passes n other) c.self.view_is
