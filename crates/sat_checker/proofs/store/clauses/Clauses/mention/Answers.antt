use Rattle.std.proofs.Common.{◌∙◌, ◌*◌, ◌+◌, ap}
use Rattle.std.specs.List.{list_any}
use Rattle.sat_checker.specs.LiteralSets.{mentions}
use Rattle.sat_checker.specs.inner.SlotView.{live_clauses}
use Rattle.sat_checker.proofs.lemmas.store.Mentions.{mention_is}
use Rattle.sat_checker.proofs.store.clauses.Clauses.mention.Goals as goal

pub returns : goal.returns
returns c =
    mention_is c.args.var c.has.result _ _ c.self.inside.slots (c.self.invariant.0.counted (2 * c.args.var)) (c.self.invariant.0.counted (2 * c.args.var + 1)) c.has.ensures
    ∙ ap (λ ss. list_any (λ x. mentions x.literals c.args.var) (live_clauses ss)) c.self.view_is
