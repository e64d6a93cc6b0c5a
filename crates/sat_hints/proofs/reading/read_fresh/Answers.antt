use Rattle.std.proofs.Common.{◌∷◌}
use Rattle.sat_hints.specs.inner.LineReading.{BeginsWithNoLine}
use Rattle.sat_hints.proofs.lemmas.Spelling.{fresh_refused}
use Rattle.sat_hints.proofs.reading.read_fresh.Goals as goal

pub returns-in_err-rest : goal.returns-in_err-rest
returns-in_err-rest c =
    let none : BeginsWithNoLine (101 ∷ 32 ∷ c.args.bytes.now) = fresh_refused c.args.bytes.now _ _ c.in_ok-index.ensures c.in_err-rest.ensures in
    rw c.from_residual-in_err-rest.ensures none
