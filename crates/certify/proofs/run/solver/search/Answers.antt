use Rattle.certify.proofs.lemmas.run.SolverCalls.{searched}
use Rattle.certify.proofs.run.solver.search.Goals as goal

pub returns-clause-searched : goal.returns-clause-searched
returns-clause-searched g c =
    searched c.args.budget c.in_ok-answer.answer c.args.solver.now c.limit_rounds.new.solver c.solve.new.solver c.steps-before.result c.steps.result c.limit_rounds.ensures c.steps-before.ensures c.steps.ensures c.in_ok-answer.ensures.solved
