use Rattle.std.proofs.lemmas.Grind.{common_steps}
use Rattle.std.proofs.Common.{arith, ◌≡◌, ◌<◌, length, get_or, ap}
use Rattle.sat_checker.proofs.lemmas.listeners.Calls.{reported_more, rest_more, failed_there}
use Rattle.sat_checker.proofs.processing.notify_transcripts.Goals as goal

pub loop-transcript-preserved : goal.loop-transcript-preserved
loop-transcript-preserved g c =
    let same : length c.loop-transcript.transcripts ≡ length c.args.transcripts.now = c.loop-transcript.auto.transcripts in
    let within : c.loop-transcript.transcript-index < length c.loop-transcript.transcripts = omega arith in
    record {
      notified = reported_more _ c.args.transcripts.now c.loop-transcript.transcripts c.loop-transcript.transcript-index _ c.process_step.new.self same within c.loop-transcript.invariant.notified c.loop-transcript.invariant.rest (ap (get_or c.loop-transcript.transcripts c.loop-transcript.transcript-index) c.transcript-item.is) c.in-Ok.ensures;
      rest = rest_more _ c.args.transcripts.now c.loop-transcript.transcripts c.loop-transcript.transcript-index _ c.process_step.new.self same within c.loop-transcript.invariant.notified c.loop-transcript.invariant.rest (ap (get_or c.loop-transcript.transcripts c.loop-transcript.transcript-index) c.transcript-item.is);
    }

pub returns-in-Err-clause-err : goal.returns-in-Err-clause-err
returns-in-Err-clause-err g c = grind (arith, common_steps, failed_there)
