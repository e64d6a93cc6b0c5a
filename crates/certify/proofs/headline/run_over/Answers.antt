use Rattle.std.proofs.Common.{ℕ, List, Some, Bor, ap}
use Rattle.sat_base.specs.device.Counting.{reader_of}
use Rattle.sat_base.specs.device.Device.{Reader}
use Rattle.certify.proofs.lemmas.program.WrittenRuns.{run_known}
use Rattle.certify.proofs.headline.run_over.Goals as goal

pub returns : goal.returns
returns c =
    let remaining = λ (s : Bor (List ℕ)). Some s.now in
    run_known c.run_in_memory.result c.args.budget (reader_of remaining c.new.result) (reader_of remaining c.run_in_memory.new.script) c.args.script.now
    (ap (λ (r : Reader). r.to_come) (c.new.ensures.reader remaining)) c.run_in_memory.ensures.wrote
