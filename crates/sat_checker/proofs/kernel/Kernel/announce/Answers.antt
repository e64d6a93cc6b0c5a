use Rattle.std.proofs.Common.{arith}
use Rattle.std.proofs.lemmas.Grind.{common_steps}
use Rattle.sat_checker.proofs.lemmas.listeners.Heard.{all_quiet}
use Rattle.sat_checker.proofs.lemmas.listeners.Taken.{taken_from}
use Rattle.sat_checker.proofs.kernel.Kernel.announce.Goals as goal

pub returns-then-not-listening : goal.returns-then-not-listening
returns-then-not-listening g c = grind (arith, common_steps, all_quiet)

pub returns : goal.returns
returns g c = grind (arith, common_steps, taken_from)
