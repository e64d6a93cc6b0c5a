use Rattle.std.proofs.Common.{sym, ◌∙◌, ap}
use Rattle.sat_store.specs.variables.Maps.{target}
use Rattle.sat_solver.proofs.lemmas.variables.ModeChanges.{named_within}
use Rattle.sat_solver.proofs.variables.refuse.is_assumed.Goals as goal

pub is_marked-requires : goal.is_marked-requires
is_marked-requires c = record { within = named_within c.args.variables.now c.args.user c.in-Some.global c.requires (sym (c.in-Some.ensures ∙ ap (λ m. target m c.args.user) c.fwd.ensures.map)) }
