use Rattle.std.proofs.lemmas.Grind.{common_steps}
use Rattle.std.proofs.Common.{arith, ◌≡◌, ◌<◌, length, get_or, ap}
use Rattle.sat_checker.proofs.lemmas.listeners.Calls.{reported_more, rest_more, failed_there}
use Rattle.sat_checker.proofs.processing.notify_processors.Goals as goal

pub loop-processor-preserved : goal.loop-processor-preserved
loop-processor-preserved g c =
    let same : length c.loop-processor.processors ≡ length c.args.processors.now = c.loop-processor.auto.processors in
    let within : c.loop-processor.processor-index < length c.loop-processor.processors = omega arith in
    record {
      notified = reported_more _ c.args.processors.now c.loop-processor.processors c.loop-processor.processor-index _ c.process_step.new.self same within c.loop-processor.invariant.notified c.loop-processor.invariant.rest (ap (get_or c.loop-processor.processors c.loop-processor.processor-index) c.processor-item.is) c.in-Ok.ensures;
      rest = rest_more _ c.args.processors.now c.loop-processor.processors c.loop-processor.processor-index _ c.process_step.new.self same within c.loop-processor.invariant.notified c.loop-processor.invariant.rest (ap (get_or c.loop-processor.processors c.loop-processor.processor-index) c.processor-item.is);
    }

pub returns-in-Err-clause-err : goal.returns-in-Err-clause-err
returns-in-Err-clause-err g c = grind (arith, common_steps, failed_there)
