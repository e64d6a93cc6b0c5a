use Rattle.std.proofs.Common.{refl}
use Rattle.sat_solver.proofs.lemmas.facade.Agreeing.{solve_matches}
use Rattle.sat_solver.proofs.lemmas.facade.Seen.{solve_wrote, solved, solved_rounds, solved_steps}
use Rattle.sat_solver.proofs.lemmas.facade.SeenChecker.{ask_checked}
use Rattle.sat_solver.proofs.facade.Solver.solve.Goals as goal

pub returns-clause-solves : goal.returns-clause-solves
returns-clause-solves g c = rw (← c.self.view_is) (solved g.W.CountedWrite.seen c.self.inside.judge.state c.self.inside.judge.state c.solve.result c.self.inside.inner c.solve.new.self c.self.invariant.matches refl c.solve.ensures.solves)

pub returns-clause-steps : goal.returns-clause-steps
returns-clause-steps g c = rw (← c.self.view_is) (solved_steps g.W.CountedWrite.seen c.self.inside.judge.state c.self.inside.judge.state c.solve.result c.self.inside.inner c.solve.new.self c.self.invariant.matches c.solve.ensures.solves)

pub returns-clause-text : goal.returns-clause-text
returns-clause-text g c = rw (← c.self.view_is) (solve_wrote g.W.CountedWrite.seen c.self.inside.judge.state c.self.inside.judge.state c.solve.result c.self.inside.inner c.solve.new.self c.solve.ensures.solves)

pub returns-clause-rounds : goal.returns-clause-rounds
returns-clause-rounds g c = rw (← c.self.view_is) (solved_rounds g.W.CountedWrite.seen c.self.inside.judge.state c.self.inside.judge.state c.solve.result c.self.inside.inner c.solve.new.self c.solve.ensures.solves)

pub returns-clause-checker : goal.returns-clause-checker
returns-clause-checker g c = rw (← c.self.view_is) (ask_checked g.W.CountedWrite.seen c.self.inside.judge.state c.self.inside.judge.state c.solve.result c.self.inside.inner c.solve.new.self c.solve.ensures.solves)

pub invariant_of-self : goal.invariant_of-self
invariant_of-self g c = record { solver = c.solve.ensures.solver; matches = solve_matches g.W.CountedWrite.seen c.self.inside.judge.state c.self.inside.judge.state c.self.inside.inner c.solve.new.self c.self.invariant.matches c.solve.result c.solve.ensures.solves refl }
