use Rattle.std.proofs.Common.{ℕ, ◌∷◌, List, sym, ◌∙◌, ap, subst}
use Rattle.sat_base.specs.steps.Steps.{AddClause}
use Rattle.sat_solver.specs.load.Literals.{SameLiterals}
use Rattle.sat_solver.proofs.lemmas.variables.Added.{clause_literals, clause_added}
use Rattle.sat_solver.proofs.load.clause.add_clause.Goals as goal

pub write_clause-requires-clause-literals : goal.write_clause-requires-clause-literals
write_clause-requires-clause-literals g c = subst (SameLiterals c.solver_from_user_lits.new.variables c.args.lits.now) (sym c.deref.ensures.value)
    (clause_literals c.args.variables.now c.solver_from_user_lits.new.variables c.args.lits.now c.solver_from_user_lits.new.taken c.map_clause.new.taken c.in_ok-solver_from_user_lits.ensures.takes.does.valid.tidy c.in_ok-solver_from_user_lits.ensures.takes.extends
    c.requires.sampled
    c.in_ok-solver_from_user_lits.ensures.takes.images c.in_ok-both_signs.ensures.maps c.in_ok-both_signs.ensures.order)

pub returns-clause-adds : goal.returns-clause-adds
returns-clause-adds g c = clause_added c.args.variables.now c.solver_from_user_lits.new.variables (g.W.StepLog.steps c.args.writer.now) (g.W.StepLog.steps c.solver_from_user_lits.new.writer) (g.W.StepLog.steps c.write_clause.new.writer) c.args.lits.now c.solver_from_user_lits.new.taken c.map_clause.new.taken c.in_ok-both_signs.both_signs
    c.in_ok-solver_from_user_lits.ensures.takes c.in_ok-both_signs.ensures.maps c.in_ok-both_signs.ensures.signs c.in_ok-both_signs.ensures.order c.in_ok-both_signs.ensures.given
    c.in_ok-write_clause.ensures.does (c.in_ok-write_clause.ensures.step ∙ ap (λ (ls : List ℕ). AddClause ls ∷ g.W.StepLog.steps c.solver_from_user_lits.new.writer) c.deref.ensures.value)
