use Rattle.sat_base.specs.steps.StepViews.{step_of}
use Rattle.sat_solver.proofs.lemmas.session.PuttingLemmas.{carries_put, counts_one, shut_none, shut_broken}
use Rattle.sat_solver.proofs.proof.Proof.try_put.Goals as goal

pub returns-then-try_write-clause-puts : goal.returns-then-try_write-clause-puts
returns-then-try_write-clause-puts g c = λ _.
    carries_put g.W.CountedWrite.seen c.args.self.now c.in-Some.output c.try_write.new.self c.in-Some.is c.if-self.false (step_of c.args._step.now) (step_of c.args.cut.now) c.requires.width c.args.counting.now c.requires.counted c.requires.cut c.try_write.ensures.format
    (c.try_write.ensures.sends c.if-try_write.true)

pub returns-then-self-clause-puts : goal.returns-then-self-clause-puts
returns-then-self-clause-puts g c = λ _.
    let p = c.args.self.now in
    counts_one g.W.CountedWrite.seen p.output p.broken p.counting c.args.counting.now (step_of c.args._step.now) (shut_broken g.W.CountedWrite.seen p.output p.broken p.counting c.if-self.true) c.requires.width c.requires.counted

pub returns-in_default-clause-puts : goal.returns-in_default-clause-puts
returns-in_default-clause-puts g c = λ _.
    let p = c.args.self.now in
    counts_one g.W.CountedWrite.seen p.output p.broken p.counting c.args.counting.now (step_of c.args._step.now) (shut_none g.W.CountedWrite.seen p.output p.broken p.counting c.in_default.is) c.requires.width c.requires.counted
