use Rattle.std.proofs.lemmas.Grind.{common_steps}
use Rattle.std.proofs.Common.{◌∙◌, ap, sym, arith}
use Rattle.sat_checker.specs.inner.SlotView.{removed_count}
use Rattle.sat_checker.proofs.lemmas.store.Dropping.{kept_standing, none_gone}
use Rattle.sat_checker.proofs.store.clauses.Clauses.compact.Goals as goal

pub invariant_of-self-2 : goal.invariant_of-self-2
invariant_of-self-2 c = (
  kept_standing c.self.inside.slots c.drop_removed.new.slots c.self.inside.index c.drop_removed.new.index c.self.inside.occurrences c.self.invariant.0 c.in_ok-drop_removed.ensures.left c.in_ok-drop_removed.ensures.filed,
  sym (ap removed_count c.in_ok-drop_removed.ensures.left ∙ none_gone c.self.inside.slots),
)

pub returns-clause-few : goal.returns-clause-few
returns-clause-few c = grind (arith, common_steps, none_gone)
