use Rattle.std.proofs.Common.{arith}
use Rattle.std.proofs.lemmas.Grind.{common_steps}
use Rattle.std.proofs.Common.{◌∙◌, true, refl, sym, ap}
use Rattle.sat_checker.specs.inner.FormulaView.{StoredStatus}
use Rattle.sat_checker.proofs.lemmas.state.InRoom.{refiled_beside}
use Rattle.sat_checker.proofs.lemmas.state.Models.{reached_fits}
use Rattle.sat_checker.proofs.formula.Formula.fail_if_model.Goals as goal

pub returns-then-is_model-clause-on_error : goal.returns-then-is_model-clause-on_error
returns-then-is_model-clause-on_error c = λ f k.
    (reached_fits true f c.args.literals.now (sym (ap (λ (s : StoredStatus). s.unsat) k.status) ∙ c.requires) c.if-not-are_apart.ensures
    (c.if-is_model.ensures.reached f (refiled_beside c.args.self.now c.mark_in_room.new.self f c.mark_in_room.ensures.rest k))).0 refl

pub returns-then-is_model-clause-looks : goal.returns-then-is_model-clause-looks
returns-then-is_model-clause-looks c = record { rise = c.is_model.ensures.looks.rise; most = λ f k. c.is_model.ensures.looks.most f (refiled_beside c.args.self.now c.mark_in_room.new.self f c.mark_in_room.ensures.rest k) }

pub returns-clause-exact : goal.returns-clause-exact
returns-clause-exact c = grind (arith, common_steps, refiled_beside, reached_fits)

pub returns-clause-looks : goal.returns-clause-looks
returns-clause-looks c = record { rise = c.is_model.ensures.looks.rise; most = λ f k. c.is_model.ensures.looks.most f (refiled_beside c.args.self.now c.mark_in_room.new.self f c.mark_in_room.ensures.rest k) }
