use Rattle.std.proofs.Common.{arith}
use Rattle.std.proofs.lemmas.Grind.{common_steps}
use Rattle.std.proofs.Common.{ℕ, List, Some, Bor, ap}
use Rattle.sat_base.specs.device.Device.{Reader}
use Rattle.sat_base.specs.device.Counting.{reader_of}
use Rattle.certify.proofs.lemmas.laws.FinishedTexts.{looks_within, says}
use Rattle.certify.proofs.headline.confirm_over.Goals as goal

pub returns-clause-says : goal.returns-clause-says
returns-clause-says c = grind (arith, common_steps, says)

pub returns-clause-looks : goal.returns-clause-looks
returns-clause-looks c =
    let remaining = λ (s : Bor (List ℕ)). Some s.now in
    looks_within (reader_of remaining c.new-certificate.result) (reader_of remaining c.confirm.new.certificate) c.args.certificate.now
    c.args.looks.now c.confirm.new.looks (ap (λ (r : Reader). r.to_come) (c.new-certificate.ensures.reader remaining)) c.confirm.ensures.looks
