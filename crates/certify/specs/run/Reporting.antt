-- The outcome that a run reports for its solver's answer.
use Rattle.sat_checker.specs.LiteralSets.{canonical}
use Rattle.sat_checker.specs.matching.Expected.{Outcome, Sat, Unsat, Unknown}
use Rattle.sat_solver.specs.facade.Answers.{IsRightLine, IsRightCoreOf, core_for, model_line}
use Rattle.certify.specs.answers.AnswerForms.{named_literals}
use Rattle.certify.specs.declared.summary.Answer.{Answer}
use Rattle.certify.specs.declared.summary.Answer.TheVariants as kind
use Rattle.certify.specs.run.RunSolver.{Solver}

-- the outcome that is reported for this answer of the solver `s`: the model of the names in use, the core with its
-- literals sorted, or unknown
abbrev pub outcome_for : Answer → Solver → Outcome
outcome_for kind.Sat s = Sat (named_literals (model_line s))
outcome_for kind.Unsat s = Unsat (named_literals (canonical (core_for s.answer s)))
outcome_for kind.Unknown s = Unknown

-- `IsReportedRight answer s` holds if the outcome for this answer is correct in every script state that the solver
-- agrees with.
abbrev pub IsReportedRight : Answer → Solver → Type 0
IsReportedRight kind.Sat s = IsRightLine s (model_line s)
IsReportedRight kind.Unsat s = IsRightCoreOf s (core_for s.answer s)
IsReportedRight kind.Unknown s = Unit {0}
