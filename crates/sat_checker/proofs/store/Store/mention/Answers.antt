use Rattle.std.proofs.Common.{ap, ◌∙◌}
use Rattle.std.specs.List.{list_any}
use Rattle.sat_checker.specs.LiteralSets.{mentions}
use Rattle.sat_checker.proofs.lemmas.store.Rehashing.{stored_live}
use Rattle.sat_checker.proofs.store.Store.mention.Goals as goal

pub returns : goal.returns
returns c = λ f k. c.mention.ensures ∙ ap (list_any (λ x. mentions x.literals c.args.var)) (stored_live c.args.self.now f k)
