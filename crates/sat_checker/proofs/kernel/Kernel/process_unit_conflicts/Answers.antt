use Rattle.std.proofs.Common.{refl}
use Rattle.sat_checker.proofs.lemmas.listeners.Settling.{is_none_none}
use Rattle.sat_checker.proofs.kernel.Kernel.process_unit_conflicts.Goals as goal

pub returns-then-is_none-clause-correct : goal.returns-then-is_none-clause-correct
returns-then-is_none-clause-correct g c = λ steps s. (c.requires, refl, s, c.requires, is_none_none c.args.self.now.state.formula.status.conflict c.if-is_none.ensures)

pub returns-then-is_none-clause-goes_on : goal.returns-then-is_none-clause-goes_on
returns-then-is_none-clause-goes_on g c = (c.requires, is_none_none c.args.self.now.state.formula.status.conflict c.if-is_none.ensures)

pub returns-then-is_none-clause-looks : goal.returns-then-is_none-clause-looks
returns-then-is_none-clause-looks g c = refl

pub returns-then-is_none-clause-notifies : goal.returns-then-is_none-clause-notifies
returns-then-is_none-clause-notifies g c = λ before begun steps s. (c.requires, refl, s, c.requires, is_none_none c.args.self.now.state.formula.status.conflict c.if-is_none.ensures)

pub returns-clause-correct : goal.returns-clause-correct
returns-clause-correct g c = c.settle_conflict.ensures.correct

pub returns-clause-goes_on : goal.returns-clause-goes_on
returns-clause-goes_on g c = c.settle_conflict.ensures.goes_on

pub returns-clause-looks : goal.returns-clause-looks
returns-clause-looks g c = c.settle_conflict.ensures.looks

pub returns-clause-notifies : goal.returns-clause-notifies
returns-clause-notifies g c = c.settle_conflict.ensures.notifies
