-- What a run that failed has written of the answers, and how far it had served the commands. Lists of steps have the
-- newest first.
use Rattle.std.specs.Prelude.{ℕ, List}
use Rattle.sat_base.specs.device.Device.{Writer}
use Rattle.sat_base.specs.script.Language.{Reading}
use Rattle.sat_base.specs.steps.Steps.{Step}
use Rattle.certify.specs.run.FinishedRun.{rounds_of_asks}
use Rattle.certify.specs.run.Serving.{RunPlace}
use Rattle.certify.specs.run.Stretches.{ServesFirst}
use Rattle.certify.specs.run.Unfinished.{ReceivedAnswersPrefix}

-- `StopsServing budget a script to old new` holds if, after place `a`, the writer received between `old` and `new` a
-- prefix of correct answers to the script, and the asks whose answers it contains were served in the steps up to `to`.
pub record StopsServing (budget : ℕ) (a : RunPlace) (script : Reading) (to : List Step) (old new : Writer) : Type 0 where
  pub took : ReceivedAnswersPrefix budget a.rounds a.number a.judge script old new
  pub serves : ServesFirst a.judge script.0 a.steps to took.front.answered (rounds_of_asks took.front.reports)
