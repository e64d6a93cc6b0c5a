use Rattle.sat_solver.proofs.lemmas.facade.Agreeing.{clause_matches, when_done}
use Rattle.sat_solver.proofs.lemmas.facade.Seen.{clause_added, clause_wrote, clauses_steps}
use Rattle.sat_solver.proofs.lemmas.facade.SeenChecker.{clause_checked}
use Rattle.sat_solver.proofs.facade.Solver.add_clause.Goals as goal

pub returns-clause-adds : goal.returns-clause-adds
returns-clause-adds g c = rw (← c.self.view_is) (clause_added g.W.CountedWrite.seen c.self.inside.judge.state c.after-self-inside.result.state c.add_clause-result.result c.self.inside.inner c.add_clause-result.new.self c.args.lits.now c.self.invariant.matches (when_done c.add_clause-result.result c.is_ok-done.result _ _ _ c.is_ok-done.ensures.value c.after-self-inside.ensures) c.add_clause-result.ensures.adds)

pub returns-clause-drat : goal.returns-clause-drat
returns-clause-drat g c = rw (← c.self.view_is) c.add_clause-result.ensures.drat

pub returns-clause-steps : goal.returns-clause-steps
returns-clause-steps g c = rw (← c.self.view_is) (clauses_steps g.W.CountedWrite.seen c.self.inside.judge.state c.after-self-inside.result.state c.add_clause-result.result c.self.inside.inner c.add_clause-result.new.self c.args.lits.now c.self.invariant.matches c.add_clause-result.ensures.adds)

pub returns-clause-text : goal.returns-clause-text
returns-clause-text g c = rw (← c.self.view_is) (clause_wrote g.W.CountedWrite.seen c.self.inside.judge.state c.after-self-inside.result.state c.add_clause-result.result c.self.inside.inner c.add_clause-result.new.self c.args.lits.now c.add_clause-result.ensures.adds)

pub returns-clause-checker : goal.returns-clause-checker
returns-clause-checker g c = rw (← c.self.view_is) (clause_checked g.W.CountedWrite.seen c.self.inside.judge.state c.after-self-inside.result.state c.add_clause-result.result c.self.inside.inner c.add_clause-result.new.self c.args.lits.now c.add_clause-result.ensures.adds)

pub invariant_of-self : goal.invariant_of-self
invariant_of-self g c = record { solver = c.add_clause-result.ensures.solver; matches = clause_matches g.W.CountedWrite.seen c.self.inside.judge.state c.after-self-inside.result.state c.self.inside.inner c.add_clause-result.new.self c.self.invariant.matches c.add_clause-result.result c.args.lits.now c.add_clause-result.ensures.adds (when_done c.add_clause-result.result c.is_ok-done.result _ _ _ c.is_ok-done.ensures.value c.after-self-inside.ensures) }
