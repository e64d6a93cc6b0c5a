use Rattle.std.proofs.Common.{◌∙◌, ap, sym}
use Rattle.sat_store.specs.variables.Maps.{target}
use Rattle.sat_solver.proofs.lemmas.variables.ModeChanges.{named_within}
use Rattle.sat_solver.proofs.model.push_named.Goals as goal

pub value_of-value-requires : goal.value_of-value-requires
value_of-value-requires c = record { within = named_within c.args.variables.now c.args.user c.in-Some.global c.requires.tidy (sym (c.get.ensures ∙ ap (λ m. target m c.args.user) c.fwd.ensures.map) ∙ c.in-Some.is) }
