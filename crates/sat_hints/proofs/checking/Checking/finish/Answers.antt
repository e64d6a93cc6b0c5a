use Rattle.std.proofs.Common.{arith, ap, length}
use Rattle.std.proofs.lemmas.Grind.{common_steps}
use Rattle.sat_hints.proofs.lemmas.Holding.{ends_badly}
use Rattle.sat_hints.proofs.checking.Checking.finish.Goals as goal

pub returns : goal.returns
returns c = λ text r. ends_badly c.args.self.now text c.bad.result c.bad.ensures (λ e. absurd (grind (arith, common_steps, c.is_empty.ensures, c.if-is_empty.false, ap length e))) r
