use Rattle.std.proofs.Common.{sym, ◌∙◌}
use Rattle.sat_checker.proofs.lemmas.state.InTurn.{firsts, unit_exact}
use Rattle.sat_checker.proofs.rup.in_turn.passes.Goals as goal

pub returns-clause-exact : goal.returns-clause-exact
returns-clause-exact c =
    unit_exact c.args.store.now c.args.assigned.now (firsts c.args.before.now) c.args.unit.0 c.args.unit.1 (sym c.is_unit_before.ensures ∙ c.if-is_unit_before.false) c.check_in_room-answer.result c.are_in_room.ensures.stand c.check_in_room-answer.ensures.exact
