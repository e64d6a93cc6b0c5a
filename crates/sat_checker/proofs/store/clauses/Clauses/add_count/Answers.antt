use Rattle.std.proofs.Common.{◌∙◌, sym}
use Rattle.sat_checker.proofs.lemmas.store.Dropping.{gone_counted}
use Rattle.sat_checker.proofs.lemmas.store.Kept.{kept_counted}
use Rattle.sat_checker.proofs.store.clauses.Clauses.add_count.Goals as goal

pub invariant_of-self : goal.invariant_of-self
invariant_of-self c =
    let kept = kept_counted c.self.inside.slots c.args.self.now c.add_count.new.self c.self.inside.index c.self.inside.occurrences c.args.redundant c.args.place c.self.view_is c.requires.inside c.requires.there c.self.invariant.0 c.add_count.ensures in (
      kept,
      c.self.invariant.1 ∙ sym (gone_counted c.args.redundant c.args.place c.self.inside.slots c.args.self.now c.add_count.new.self c.self.view_is c.requires.inside c.requires.there c.add_count.ensures),
    )
