use Rattle.std.proofs.Common.{[], ◌∷◌, refl}
use Rattle.sat_base.specs.script.Language.{prepend_commands}
use Rattle.certify.specs.run.BetweenCommands.{run_place}
use Rattle.sat_solver.proofs.lemmas.facade.Steps.{makes_none}
use Rattle.certify.proofs.lemmas.run.Stopping.{stops_none}
use Rattle.certify.proofs.run.serve.serve_next.Goals as goal

pub returns-then-session-clause-written : goal.returns-then-session-clause-written
returns-then-session-clause-written g c = ((refl, refl), makes_none c.args.session.now.solver)

pub returns-then-session-clause-stops : goal.returns-then-session-clause-stops
returns-then-session-clause-stops g c = λ x is left j at. stops_none c.args.session.now.budget (run_place c.args.session.now j) c.args.session.now.solver.steps [] refl (prepend_commands (x ∷ []) left) (g.A.CountedWrite.seen c.args.answers.now)
