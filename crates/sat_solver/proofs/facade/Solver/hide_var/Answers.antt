use Rattle.sat_solver.proofs.lemmas.facade.Agreeing.{mode_matches, when_done}
use Rattle.sat_solver.proofs.lemmas.facade.Seen.{mode_changed, mode_steps, mode_wrote}
use Rattle.sat_solver.proofs.lemmas.facade.SeenChecker.{mode_checked}
use Rattle.sat_solver.proofs.facade.Solver.hide_var.Goals as goal

pub returns-clause-hides : goal.returns-clause-hides
returns-clause-hides g c = rw (← c.self.view_is) (mode_changed g.W.CountedWrite.seen c.self.inside.judge.state c.after-self-inside.result.state c.hide_var-result.result c.self.inside.inner c.hide_var-result.new.self c.args.user _ _ _ (when_done c.hide_var-result.result c.is_ok-done.result _ _ _ c.is_ok-done.ensures.value c.after-self-inside.ensures) c.hide_var-result.ensures.hides)

pub returns-clause-steps : goal.returns-clause-steps
returns-clause-steps g c = rw (← c.self.view_is) (mode_steps g.W.CountedWrite.seen c.self.inside.judge.state c.after-self-inside.result.state c.hide_var-result.result c.self.inside.inner c.hide_var-result.new.self c.args.user _ _ _ c.self.invariant.matches c.hide_var-result.ensures.hides)

pub returns-clause-text : goal.returns-clause-text
returns-clause-text g c = rw (← c.self.view_is) (mode_wrote g.W.CountedWrite.seen c.self.inside.judge.state c.after-self-inside.result.state c.hide_var-result.result c.self.inside.inner c.hide_var-result.new.self c.args.user _ _ _ c.hide_var-result.ensures.hides)

pub returns-clause-checker : goal.returns-clause-checker
returns-clause-checker g c = rw (← c.self.view_is) (mode_checked g.W.CountedWrite.seen c.self.inside.judge.state c.after-self-inside.result.state c.hide_var-result.result c.self.inside.inner c.hide_var-result.new.self c.args.user _ _ _ c.hide_var-result.ensures.hides)

pub invariant_of-self : goal.invariant_of-self
invariant_of-self g c = record { solver = c.hide_var-result.ensures.solver; matches = mode_matches g.W.CountedWrite.seen c.self.inside.judge.state c.after-self-inside.result.state c.self.inside.inner c.hide_var-result.new.self c.self.invariant.matches c.hide_var-result.result c.args.user _ _ _ c.hide_var-result.ensures.hides (when_done c.hide_var-result.result c.is_ok-done.result _ _ _ c.is_ok-done.ensures.value c.after-self-inside.ensures) }
