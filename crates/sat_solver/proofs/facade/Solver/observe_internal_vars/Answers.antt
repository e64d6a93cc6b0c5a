use Rattle.std.proofs.Common.{refl}
use Rattle.std.proofs.lemmas.Result.{err_from_is_err_and}
use Rattle.sat_solver.proofs.lemmas.facade.Agreeing.{can_be_observed}
use Rattle.sat_solver.proofs.lemmas.facade.Seen.{made, observed, observed_between, observing_wrote, unnamed}
use Rattle.sat_solver.proofs.lemmas.facade.SeenChecker.{keeps_width, unnamed_checked}
use Rattle.sat_solver.proofs.facade.Solver.observe_internal_vars.Goals as goal

-- WHERE IT FAILED

pub returns-in_err-users-clause-fails : goal.returns-in_err-users-clause-fails
returns-in_err-users-clause-fails g c = let q = err_from_is_err_and c.from_residual.result c.from_residual.ensures.1 in rw (q.1, q.2) (rw (← c.self.view_is) (unnamed g.W.CountedWrite.seen c.self.inside.judge.state c.self.inside.judge.state c.in_err-users.field-0.0 c.self.inside.inner c.observe_internal_vars.new.self refl c.in_err-users.ensures.fails))

pub returns-in_err-users-clause-text : goal.returns-in_err-users-clause-text
returns-in_err-users-clause-text g c = let q = err_from_is_err_and c.from_residual.result c.from_residual.ensures.1 in rw (q.1, q.2) (rw (← c.self.view_is) (observing_wrote g.W.CountedWrite.seen c.self.inside.judge.state c.self.inside.judge.state c.in_err-users.field-0.0 c.self.inside.inner c.observe_internal_vars.new.self c.in_err-users.ensures.fails))

pub returns-in_err-users-clause-checker : goal.returns-in_err-users-clause-checker
returns-in_err-users-clause-checker g c = let q = err_from_is_err_and c.from_residual.result c.from_residual.ensures.1 in rw (q.1, q.2) (rw (← c.self.view_is) (unnamed_checked g.W.CountedWrite.seen c.self.inside.judge.state c.self.inside.judge.state c.in_err-users.field-0.0 c.self.inside.inner c.observe_internal_vars.new.self c.in_err-users.ensures.fails))

-- WHERE NAMES WERE GIVEN

pub judge_observed-self-inside-requires : goal.judge_observed-self-inside-requires
judge_observed-self-inside-requires g c = rw c.deref.ensures.value (can_be_observed g.W.CountedWrite.seen c.self.inside.judge.state c.self.inside.judge.state c.self.inside.inner c.observe_internal_vars.new.self c.self.invariant.matches c.in_ok-users.users.items c.in_ok-users.ensures.observes)

pub returns-clause-observes : goal.returns-clause-observes
returns-clause-observes g c = rw (← c.self.view_is) (observed g.W.CountedWrite.seen c.self.inside.judge.state c.judge_observed-self-inside.result.state c.self.inside.inner c.observe_internal_vars.new.self c.in_ok-users.users.items c.in_ok-users.ensures.observes)

pub returns-clause-steps : goal.returns-clause-steps
returns-clause-steps g c = rw (← c.self.view_is) (observed_between g.W.CountedWrite.seen c.self.inside.judge.state c.judge_observed-self-inside.result.state c.self.inside.inner c.observe_internal_vars.new.self c.in_ok-users.users.items c.in_ok-users.ensures.observes c.self.invariant.matches (rw c.deref.ensures.value at c.judge_observed-self-inside.ensures))

pub returns-clause-text : goal.returns-clause-text
returns-clause-text g c = rw (← c.self.view_is) (made g.W.CountedWrite.seen c.self.inside.judge.state c.judge_observed-self-inside.result.state c.self.inside.inner c.observe_internal_vars.new.self c.in_ok-users.ensures.observes.steps.took)

pub returns-clause-checker : goal.returns-clause-checker
returns-clause-checker g c = rw (← c.self.view_is) (keeps_width g.W.CountedWrite.seen c.self.inside.judge.state c.judge_observed-self-inside.result.state c.self.inside.inner c.observe_internal_vars.new.self c.in_ok-users.ensures.observes.steps.width)
