-- Laws about the state of scripts.
use Rattle.std.specs.Prelude.{ℕ, ◌+◌, ◌≤◌, ◌<◌, ◌≡◌, ◌↔◌, false, Some, List, [], ◌∷◌, length, map, nat_lt, unwrap_or, if◌then◌else◌}
use Rattle.std.specs.List.{AllByRecursion}
use Rattle.sat_base.specs.values.Literals.{mk_lit, var_limit, variable}
use Rattle.sat_base.specs.values.Clauses.{Valuation, literal_true, AllClausesTrue}
use Rattle.sat_base.specs.script.Script.{Literal, Command, Among, names_of}
use Rattle.sat_base.specs.script.ScriptState.{ScriptState, Named, identity_of, identity_lit, for_each, introduce, after_script, initial_state, IsRightModel, IsRightCore}

-- `NamesAreIncreasing names` holds if the names strictly increase.
abbrev pub NamesAreIncreasing : List Named → Type 0
NamesAreIncreasing [] = Unit {0}
NamesAreIncreasing (n ∷ ns) = AllByRecursion (λ m. n.name < m.name) ns × NamesAreIncreasing ns

-- `ScriptStateInvariant j` holds if the names in use increase and are below `first_unused`, which is at most one more
-- than the limit; exactly the identities below `identity_count` have a mode; and no other identity occurs.
pub record ScriptStateInvariant (j : ScriptState) : Type 0 where
  pub limit : j.first_unused ≤ var_limit + 1
  pub order : NamesAreIncreasing j.in_use
  pub used : AllByRecursion (λ n. n.name < j.first_unused) j.in_use
  pub given : AllByRecursion (λ n. n.identity < j.identity_count) j.in_use
  pub modes : length j.modes ≡ j.identity_count
  pub clauses : AllByRecursion (AllByRecursion (λ l. variable l < j.identity_count)) j.clauses

-- `ScriptStateInvariantHolds` holds if `ScriptStateInvariant` holds for the state after every script.
abbrev pub ScriptStateInvariantHolds : Type 0
ScriptStateInvariantHolds = (commands : List Command) → ScriptStateInvariant (after_script commands initial_state)

-- the valuation that agrees with `a` on the variables below `n`, and makes all others false
abbrev pub false_from : ℕ → Valuation → Valuation
false_from n a = λ v. if nat_lt v n then a v else false

-- `GivenIdentitiesSuffice` holds if, after every script, making all variables of identities not yet given out false in
-- a valuation changes neither whether it satisfies the clauses nor the value of any literal of a name in use.
abbrev pub GivenIdentitiesSuffice : Type 0
GivenIdentitiesSuffice =
    (commands : List Command) (a : Valuation)
    → let j = after_script commands initial_state in
    (AllClausesTrue a j.clauses ↔ AllClausesTrue (false_from j.identity_count a) j.clauses)
    × ((l : Literal) (i : ℕ) → identity_of j l.name ≡ Some i → literal_true (false_from j.identity_count a) (identity_lit j l) ≡ literal_true a (identity_lit j l))

-- `AreIncreasing xs` holds if every number is less than all numbers after it.
abbrev pub AreIncreasing : List ℕ → Type 0
AreIncreasing [] = Unit {0}
AreIncreasing (x ∷ xs) = AllByRecursion (λ y. x < y) xs × AreIncreasing xs

-- `AreInUse j names` holds if all of these names are in use.
abbrev pub AreInUse : ScriptState → List ℕ → Type 0
AreInUse j names = AllByRecursion (λ name. (i : ℕ) × (identity_of j name ≡ Some i)) names

-- `NamesAreListed` holds if, in every state whose names in use increase, any increasing list of exactly the names in
-- use is equal to the state's own list of them.
abbrev pub NamesAreListed : Type 0
NamesAreListed = (j : ScriptState) (names : List ℕ) → NamesAreIncreasing j.in_use → AreIncreasing names
    → ((name i : ℕ) → identity_of j name ≡ Some i → Among name names)
    → AreInUse j names → names ≡ map (λ n. n.name) j.in_use

-- `NamesAreInUse` holds if the default identity 0 in `identity_lit` and `with_mode` never matters: names are in use
-- once they are introduced, and so are all names of correct models and, if those of the ask are, of correct cores. This
-- holds in every state, reachable or not.
pub record NamesAreInUse : Type 0 where
  -- Names are in use once they are introduced. `state_after_accepted` introduces the names of a clause or an ask before
  -- it uses `identity_lit`, and every other name before it sets the mode.
  pub introduced : (j : ScriptState) (names : List ℕ) → AreInUse (for_each introduce names j) names
  -- All names of a correct model are in use. So are those of a correct core, if the names of its ask are in use.
  pub model : (j : ScriptState) (ask line : List Literal) → IsRightModel j ask line → AreInUse j (names_of line)
  pub core : (j : ScriptState) (ask core : List Literal) → AreInUse j (names_of ask) → IsRightCore j ask core → AreInUse j (names_of core)
  -- For names in use, any other default than 0 gives the same literals.
  pub zero_never_counts : (j : ScriptState) (ls : List Literal) (other : ℕ) → AreInUse j (names_of ls)
      → map (identity_lit j) ls ≡ map (λ l. mk_lit (unwrap_or (identity_of j l.name) other) l.positive) ls
