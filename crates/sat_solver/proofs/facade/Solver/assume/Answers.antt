use Rattle.sat_solver.proofs.lemmas.facade.Agreeing.{assumed_matches, when_done}
use Rattle.sat_solver.proofs.lemmas.facade.Seen.{assumed, assumed_steps, assumptions_wrote}
use Rattle.sat_solver.proofs.lemmas.facade.SeenChecker.{assumptions_checked}
use Rattle.sat_solver.proofs.facade.Solver.assume.Goals as goal

pub returns-clause-assumes : goal.returns-clause-assumes
returns-clause-assumes g c = rw (← c.self.view_is) (assumed g.W.CountedWrite.seen c.self.inside.judge.state c.after-self-inside.result.state c.assume-result.result c.self.inside.inner c.assume-result.new.self c.args.lits.now c.self.invariant.matches (when_done c.assume-result.result c.is_ok-done.result _ _ _ c.is_ok-done.ensures.value c.after-self-inside.ensures) c.assume-result.ensures.assumes)

pub returns-clause-drat : goal.returns-clause-drat
returns-clause-drat g c = rw (← c.self.view_is) c.assume-result.ensures.drat

pub returns-clause-steps : goal.returns-clause-steps
returns-clause-steps g c = rw (← c.self.view_is) (assumed_steps g.W.CountedWrite.seen c.self.inside.judge.state c.after-self-inside.result.state c.assume-result.result c.self.inside.inner c.assume-result.new.self c.args.lits.now c.self.invariant.matches c.assume-result.ensures.assumes)

pub returns-clause-text : goal.returns-clause-text
returns-clause-text g c = rw (← c.self.view_is) (assumptions_wrote g.W.CountedWrite.seen c.self.inside.judge.state c.after-self-inside.result.state c.assume-result.result c.self.inside.inner c.assume-result.new.self c.args.lits.now c.assume-result.ensures.assumes)

pub returns-clause-checker : goal.returns-clause-checker
returns-clause-checker g c = rw (← c.self.view_is) (assumptions_checked g.W.CountedWrite.seen c.self.inside.judge.state c.after-self-inside.result.state c.assume-result.result c.self.inside.inner c.assume-result.new.self c.args.lits.now c.assume-result.ensures.assumes)

pub invariant_of-self : goal.invariant_of-self
invariant_of-self g c = record { solver = c.assume-result.ensures.solver; matches = assumed_matches g.W.CountedWrite.seen c.self.inside.judge.state c.after-self-inside.result.state c.self.inside.inner c.assume-result.new.self c.self.invariant.matches c.assume-result.result c.args.lits.now c.assume-result.ensures.assumes (when_done c.assume-result.result c.is_ok-done.result _ _ _ c.is_ok-done.ensures.value c.after-self-inside.ensures) }
