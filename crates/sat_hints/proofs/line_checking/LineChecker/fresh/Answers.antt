use Rattle.std.proofs.Common.{refl}
use Rattle.sat_hints.proofs.lemmas.Taken.{fresh_faulty}
use Rattle.sat_hints.proofs.line_checking.LineChecker.fresh.Goals as goal

pub returns-then-is_used-clause-takes : goal.returns-then-is_used-clause-takes
returns-then-is_used-clause-takes c = fresh_faulty c.args.self.now c.args.self.now c.args.var (rw c.if-is_used.true at c.is_used.ensures) refl
