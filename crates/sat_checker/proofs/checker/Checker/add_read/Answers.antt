use Rattle.std.proofs.Common.{Bool, ap}
use Rattle.sat_checker.specs.CheckerView.{view_of}
use Rattle.sat_checker.specs.inner.DimacsPieces.{with_failed_flag}
use Rattle.sat_checker.proofs.checker.Checker.add_read.Goals as goal

pub returns-in-Err-answer-clause-adds : goal.returns-in-Err-answer-clause-adds
returns-in-Err-answer-clause-adds g c = (
  c.take_formula-formula.result.clauses,
  c.take_formula-formula.ensures.clauses,
  (c.in-Err-answer.is, view_of c.add_formula.new.self, c.in_default.ensures.adds, ap (λ (b : Bool). with_failed_flag b (view_of c.add_formula.new.self)) c.is_out_of_memory-self.ensures),
)
