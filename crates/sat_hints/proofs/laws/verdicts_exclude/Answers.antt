use Rattle.sat_hints.proofs.lemmas.OneVerdict.{proved_is_not_bad}
use Rattle.sat_hints.proofs.lemmas.OneFault.{one_verdict}
use Rattle.sat_hints.proofs.laws.verdicts_exclude.Goals as goal

pub returns : goal.returns
returns c = record { exclude = proved_is_not_bad; one = one_verdict }
