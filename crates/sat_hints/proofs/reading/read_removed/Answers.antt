use Rattle.std.proofs.Common.{◌∷◌}
use Rattle.sat_hints.specs.inner.LineReading.{BeginsWithNoLine}
use Rattle.sat_hints.proofs.lemmas.Spelling.{gone_refused}
use Rattle.sat_hints.proofs.reading.read_removed.Goals as goal

pub returns-in_err-rest : goal.returns-in_err-rest
returns-in_err-rest c =
    let none : BeginsWithNoLine (120 ∷ 32 ∷ c.args.bytes.now) = gone_refused c.args.bytes.now _ _ c.in_ok-id.ensures c.in_err-rest.ensures in
    rw c.from_residual-in_err-rest.ensures none
