-- The script state after a call of the solver.
use Rattle.std.proofs.Common.{◌≡◌, ◌∙◌, ap, subst, List}
use Rattle.sat_base.specs.script.ScriptState.{ScriptState}
use Rattle.sat_checker.specs.matching.Bridge.{LiveVariables}
use Rattle.sat_checker.specs.matching.Expected.{Expected}
use Rattle.sat_solver.specs.variables.Calls.{NamesAgree}
use Rattle.sat_solver.specs.facade.Calls.{Effect, MakesOrdered}
use Rattle.sat_solver.specs.facade.States.{IsInState, MatchesState}
use Rattle.certify.specs.run.RunSolver.{Solver}

-- a call that changed the script state by `judge`
pub reaches : (a b : Solver) (judge : ScriptState → ScriptState) → Effect a b judge → MatchesState b → (j : ScriptState) (live : LiveVariables) → IsInState a j live → (then : LiveVariables) × IsInState b (judge j) then
reaches a b judge did m j live at =
    let is : b.state ≡ judge j = did.state ∙ ap judge at.state in
    (m.0, record { state = is; agree = subst (λ (i : ScriptState). NamesAgree b.names b.steps i m.0) is m.1 })

-- the ordered steps of a call
pub makes_from : (a b : Solver) (due : ScriptState → List Expected) → MakesOrdered a b (due a.state) → (j : ScriptState) (live : LiveVariables) → IsInState a j live → MakesOrdered a b (due j)
makes_from a b due h j live at = subst (λ (i : ScriptState). MakesOrdered a b (due i)) at.state h
