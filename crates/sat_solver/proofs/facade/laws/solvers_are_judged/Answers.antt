use Rattle.sat_solver.proofs.facade.laws.solvers_are_judged.Goals as goal

pub returns-clause-judged : goal.returns-clause-judged
returns-clause-judged g c = rw (← c.solver.view_is) c.solver.invariant.matches

pub returns-clause-checked : goal.returns-clause-checked
returns-clause-checked g c = rw (← c.solver.view_is) (λ going. (c.solver.invariant.solver going).taking)
