use Rattle.std.proofs.Common.{ap}
use Rattle.sat_checker.specs.inner.UnitView.{UnitsAndRoom}
use Rattle.sat_checker.proofs.lemmas.state.InTurn.{short_units}
use Rattle.sat_checker.proofs.units.Units.pass_in_turn.Goals as goal

pub returns-clause-short : goal.returns-clause-short
returns-clause-short c = short_units c.pass_in_turn-answer.result c.args.store.now c.self.inside.assigned.room c.args.self.now.room (ap (λ (w : UnitsAndRoom). w.room) c.self.view_is) c.pass_in_turn-answer.ensures.short
