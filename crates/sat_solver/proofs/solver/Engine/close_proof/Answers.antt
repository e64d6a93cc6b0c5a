use Rattle.sat_solver.proofs.lemmas.solver.EndingLemmas.{closed_whole, closed_by}
use Rattle.sat_solver.proofs.solver.Engine.close_proof.Goals as goal

pub returns-in-Ok-clause-solver : goal.returns-in-Ok-clause-solver
returns-in-Ok-clause-solver g c = λ e. closed_whole g.W.CountedWrite.seen c.args.self.now (c.requires c.if-self.false) c.if-self.false c.close_proof.new.self c.in-Ok.ensures.keeps c.in-Ok.target c.in-Ok.ensures.closes

pub returns-in-Ok-clause-closes : goal.returns-in-Ok-clause-closes
returns-in-Ok-clause-closes g c = closed_by g.W.CountedWrite.seen c.args.self.now (c.requires c.if-self.false) c.if-self.false c.close_proof.new.self c.in-Ok.ensures.keeps c.in-Ok.target c.in-Ok.ensures.closes
