-- How an ask is answered, before its answer is written.
use Rattle.std.specs.Prelude.{ℕ, ◌≡◌, List}
use Rattle.certify.specs.answers.Answers.{outcome_text}
use Rattle.certify.specs.declared.summary.AskReport.{AskReport}
use Rattle.certify.specs.run.SolverCalls.{AssumptionsAccepted, Searched}
use Rattle.certify.specs.run.Reporting.{IsReportedRight, outcome_for}
use Rattle.certify.specs.run.RunSolver.{Solver}

-- `AskEffect budget report user text old new` holds if the literals with codes `user` were assumed, a search of at most
-- `budget` rounds led to the answer in `report`, in its number of rounds, this answer is correct, and `text` is its
-- text. Nothing is said about writing it.
pub record AskEffect (budget : ℕ) (report : AskReport) (user text : List ℕ) (old new : Solver) : Type 0 where
  pub mid : Solver
  pub opened : AssumptionsAccepted old mid user
  pub searched : Searched budget report mid new
  pub right : IsReportedRight report.answer new
  pub text_is : text ≡ outcome_text (outcome_for report.answer new)
