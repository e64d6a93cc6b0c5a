-- The verdict on a clause under assumed literals.
use Rattle.std.specs.Prelude.{ℕ, not, List, [], ◌∷◌, filter, if◌then◌else◌}
use Rattle.sat_base.specs.values.Literals.{negated}
use Rattle.sat_checker.specs.LiteralSets.{is_among}
use Rattle.sat_checker.specs.declared.units.assigned.Look.{Look}
use Rattle.sat_checker.specs.declared.units.assigned.Look.TheVariants as look

-- The verdict on a clause: it is falsified, it is unit with this open literal, or neither.
pub data ClauseState : Type 0 where
  falsified : ClauseState
  becomes_unit : ℕ → ClauseState
  neither : ClauseState

-- `not_false assumed clause` has the literals of the clause whose negations are not assumed, in order.
abbrev pub not_false : List ℕ → List ℕ → List ℕ
not_false assumed = filter (λ l. not (is_among assumed (negated l)))

-- `state_by_open assumed open` is the verdict on a clause when `open` has its literals that are not false: falsified if
-- there are none, unit if there is one and it is not assumed, otherwise neither.
abbrev pub state_by_open : List ℕ → List ℕ → ClauseState
state_by_open assumed [] = falsified
state_by_open assumed (l ∷ []) = if is_among assumed l then neither else becomes_unit l
state_by_open assumed (l ∷ m ∷ ls) = neither

-- `clause_state assumed clause` is `falsified` if all literals of the clause are false, `becomes_unit` if all but one
-- are false and that one has no value, and otherwise `neither`.
abbrev pub clause_state : List ℕ → List ℕ → ClauseState
clause_state assumed clause = state_by_open assumed (not_false assumed clause)

-- The verdict that a `Look` of the code represents: `Falsified`, `Opens l` (unit, with open literal `l`), or `Rests`
-- (neither).
abbrev pub clause_state_of : Look → ClauseState
clause_state_of look.Falsified = falsified
clause_state_of (look.Opens l) = becomes_unit l
clause_state_of look.Rests = neither
