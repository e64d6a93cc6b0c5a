use Rattle.std.proofs.Common.{ℕ, ap, ◌∙◌}
use Rattle.sat_store.specs.levels.Levels.{level_passes}
use Rattle.sat_store.proofs.lemmas.levels.LevelLemmas.{tested}
use Rattle.sat_store.proofs.level_abstraction.LevelAbstraction.test.Goals as goal

pub returns : goal.returns
returns c = tested c.self.inside.bits c.args.level ∙ ap (λ (n : ℕ). level_passes n c.args.level) c.self.view_is
