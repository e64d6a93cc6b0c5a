use Rattle.std.proofs.Common.{refl}
use Rattle.sat_hints.proofs.lemmas.Rechecked.{proof_is_proved}
use Rattle.sat_hints_tests.proofs.caller.verdict_on.Goals as goal

pub returns : goal.returns
returns c = λ empty cores lines p. proof_is_proved c.args.text.now empty cores lines c.check.result _ _ p (rw c.new.ensures.device refl) c.check.ensures.given
