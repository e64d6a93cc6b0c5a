use Rattle.std.proofs.Common.{refl}
use Rattle.sat_hints.proofs.lemmas.Taken.{core_taken, core_faulty}
use Rattle.sat_hints.proofs.line_checking.LineChecker.core.Goals as goal

pub returns-in-Some : goal.returns-in-Some
returns-in-Some c = core_faulty c.args.self.now c.refute.new.self c.args.core.now c.args.ids.now c.in-Some.why (rw c.in-Some.is at c.refute.ensures.refutes) c.refute.ensures.same

pub returns : goal.returns
returns c =
    core_taken c.args.self.now c.refute.new.self _ c.args.core.now c.args.ids.now c.saturating_add-self.result c.requires (rw c.in-None.is at c.refute.ensures.refutes) c.refute.ensures.same c.saturating_add-self.ensures refl
