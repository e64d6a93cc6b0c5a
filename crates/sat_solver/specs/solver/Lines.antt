-- Cores over names, as they follow from the state of the engine.
use Rattle.std.specs.Prelude.{List, map}
use Rattle.std.specs.List.{AllByRecursion}
use Rattle.sat_base.specs.values.Clauses.{Valuation, AllLitsTrue, AllClausesTrue}
use Rattle.sat_base.specs.script.Script.{Literal, Among}
use Rattle.sat_base.specs.script.ScriptState.{ScriptState, identity_lit}

-- `IsCoreOf j ask core` holds if `core`, in any order and with any repetitions, is a correct core of `ask` in the
-- script state `j`: some of its literals, which can't all be true if the accepted clauses hold
pub record IsCoreOf (j : ScriptState) (ask core : List Literal) : Type 0 where
  pub among : AllByRecursion (λ l. Among l ask) core
  pub none : (a : Valuation) → AllLitsTrue a (map (identity_lit j) core) → AllClausesTrue a j.clauses → ⊥
