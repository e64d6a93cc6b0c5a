use Rattle.sat_base.specs.steps.StepViews.{step_of}
use Rattle.sat_solver.proofs.lemmas.session.PuttingLemmas.{carries_put, stops_put, carries_starved, counts_one, shut_none, shut_broken}
use Rattle.sat_solver.proofs.proof.Proof.put_long.Goals as goal

pub returns-in-Ok-clause-puts : goal.returns-in-Ok-clause-puts
returns-in-Ok-clause-puts g c =
    carries_put g.W.CountedWrite.seen c.args.self.now c.in-Some.output c.write.new.self c.in-Some.is c.if-self.false (step_of c.args.step.now) (step_of c.args.cut.now) c.requires.width c.args.counting.now c.requires.counted c.requires.cut c.in-Ok.ensures.format
    c.in-Ok.ensures.puts

pub returns-in-Err-Write-clause-puts : goal.returns-in-Err-Write-clause-puts
returns-in-Err-Write-clause-puts g c =
    rw (c.break_off.ensures.fault, c.break_off.ensures.breaks) (stops_put g.W.CountedWrite.seen c.args.self.now c.in-Some.output c.write.new.self c.in-Some.is c.if-self.false (step_of c.args.step.now) (step_of c.args.cut.now) c.requires.width c.args.counting.now c.requires.counted c.requires.cut
    (rw c.in-Err-Write.field-0-is at c.in-Err-Write.ensures.puts))

pub returns-in-Err-OutOfMemory-clause-puts : goal.returns-in-Err-OutOfMemory-clause-puts
returns-in-Err-OutOfMemory-clause-puts g c =
    carries_starved g.W.CountedWrite.seen c.args.self.now c.in-Some.output c.write.new.self c.in-Some.is c.if-self.false c.in-Err-OutOfMemory.ensures.format (rw c.in-Err-OutOfMemory.field-0-is at c.in-Err-OutOfMemory.ensures.puts)

pub returns-then-self-clause-puts : goal.returns-then-self-clause-puts
returns-then-self-clause-puts g c =
    let p = c.args.self.now in
    counts_one g.W.CountedWrite.seen p.output p.broken p.counting c.args.counting.now (step_of c.args.step.now) (shut_broken g.W.CountedWrite.seen p.output p.broken p.counting c.if-self.true) c.requires.width c.requires.counted

pub returns-in_default-clause-puts : goal.returns-in_default-clause-puts
returns-in_default-clause-puts g c =
    let p = c.args.self.now in
    counts_one g.W.CountedWrite.seen p.output p.broken p.counting c.args.counting.now (step_of c.args.step.now) (shut_none g.W.CountedWrite.seen p.output p.broken p.counting c.in_default.is) c.requires.width c.requires.counted
