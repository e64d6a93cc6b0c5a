-- Which ordered steps are between two places of a proof, whatever other steps are there. Lists have the newest first.
use Rattle.std.specs.Prelude.{◌≡◌, false, List, [], ◌∷◌}
use Rattle.sat_base.specs.steps.Steps.{Step}
use Rattle.sat_checker.specs.matching.Checking.{CheckerRules, is_ordered}
use Rattle.sat_checker.specs.matching.Expected.{Expected, FitsExpected}

-- `HasTrace k s t expected` holds if the ordered steps that lead from the steps `s` to the longer list `t`, both the
-- newest first, fit `expected`, the oldest first, each after the steps before it. Other steps may be between them.
pub data HasTrace (k : CheckerRules) : List Step → List Step → List Expected → Type 0 where
  no_step : {s : List Step} → HasTrace k s s []
  silent : {s t : List Step} {step : Step} {es : List Expected} → is_ordered step ≡ false → HasTrace k (step ∷ s) t es → HasTrace k s t es
  visible : {s t : List Step} {step : Step} {e : Expected} {es : List Expected}
      → FitsExpected (k.knows s) s e step → HasTrace k (step ∷ s) t es → HasTrace k s t (e ∷ es)
