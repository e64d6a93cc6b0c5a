use Rattle.std.proofs.Common.{◌<◌, ◌*◌}
use Rattle.std.proofs.lemmas.List.Elements.{All-rest}
use Rattle.sat_base.specs.values.Literals.{var_limit}
use Rattle.sat_store.proofs.clause.view.LitsIterIterator.next.Goals as goal

pub invariant_of-self : goal.invariant_of-self
invariant_of-self c = All-rest (λ x. x < 2 * var_limit) _ _ _ c.in_ok-first.ensures.cases.0 c.self.invariant
