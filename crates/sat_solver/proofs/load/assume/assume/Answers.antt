use Rattle.std.proofs.Common.{ℕ, ◌≡◌, ◌∷◌, List, ◌∙◌, ap}
use Rattle.sat_base.specs.steps.Steps.{Assumptions}
use Rattle.sat_solver.proofs.lemmas.variables.Assumed.{assumptions_written}
use Rattle.sat_solver.proofs.lemmas.variables.Added.{assumed_literals, assumptions_added}
use Rattle.sat_solver.proofs.load.assume.assume.Goals as goal

pub returns-clause-assumes : goal.returns-clause-assumes
returns-clause-assumes g c =
    let takes = c.in_ok-solver_from_user_lits.ensures.takes in
    let written : g.W.StepLog.steps c.step.new.self ≡ Assumptions c.change_marks.new.asked.globals.items ∷ g.W.StepLog.steps c.solver_from_user_lits.new.writer =
    c.in_ok-step.ensures.steps ∙ ap (λ (ls : List ℕ). Assumptions ls ∷ g.W.StepLog.steps c.solver_from_user_lits.new.writer) c.deref.ensures.value in
    assumptions_added c.args.variables.now c.solver_from_user_lits.new.variables c.change_marks.new.variables (g.W.StepLog.steps c.args.writer.now) (g.W.StepLog.steps c.solver_from_user_lits.new.writer) (g.W.StepLog.steps c.step.new.self) c.args.lits.now c.solver_from_user_lits.new.taken c.change_marks.new.asked
    takes c.in_ok-change_marks.ensures.puts c.in_ok-change_marks.ensures.globals c.in_ok-change_marks.ensures.order c.in_ok-change_marks.ensures.given
    (assumptions_written c.solver_from_user_lits.new.variables c.change_marks.new.variables (g.W.StepLog.steps c.solver_from_user_lits.new.writer) (g.W.StepLog.steps c.step.new.self) c.args.lits.now c.change_marks.new.asked.globals.items takes.does.valid
    (assumed_literals c.args.variables.now c.solver_from_user_lits.new.variables c.args.lits.now c.solver_from_user_lits.new.taken c.change_marks.new.asked takes.does.valid.tidy takes.extends
    c.requires.sampled takes.images c.in_ok-change_marks.ensures.globals)
    c.in_ok-change_marks.ensures.puts written)
    written
