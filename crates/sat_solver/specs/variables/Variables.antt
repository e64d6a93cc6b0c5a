-- What a solver stores about names, variables and indices: whether it is consistent, and whether it matches the proof
-- and the script state.
use Rattle.std.specs.Prelude.{ℕ, ◌+◌, ◌<◌, ◌≤◌, ◌≡◌, ◌≢◌, Bool, true, false, not, ◌&&◌, Option, None, Some, is_some, List, length, get_or, nat_lt, if◌then◌else◌}
use Rattle.std.specs.List.{AllByRecursion}
use Rattle.sat_base.specs.values.Literals.{var_limit, mk_lit}
use Rattle.sat_base.specs.script.ScriptState.{ScriptState, Sampled, Witnessed, identity_of}
use Rattle.sat_base.specs.script.ScriptState as judged
use Rattle.sat_base.specs.script.ScriptStateLaws.{NamesAreIncreasing}
use Rattle.sat_store.specs.declared.data.VarData.{VarData}
use Rattle.sat_store.specs.declared.data.SamplingMode.{SamplingMode}
use Rattle.sat_store.specs.declared.data.SamplingMode.TheVariants as kept
use Rattle.sat_store.specs.variables.VarData.{unused_variable}
use Rattle.sat_store.specs.variables.Maps.{target, AreInverse}
use Rattle.sat_checker.specs.LiteralSets.{mentions}
use Rattle.sat_checker.specs.Stored.{Mode, Sample, Witness, Hide, Variable, initial_variable}
use Rattle.sat_solver.specs.session.Session.{Session}
use Rattle.sat_solver.specs.variables.Counting.{HasEqualCounts}
use Rattle.sat_solver.specs.variables.Free.{is_free, IsTreeWithLeaves}
use Rattle.sat_checker.specs.matching.Bridge.{LiveVariables, AreDistinctVariables}
use Rattle.sat_solver.specs.variables.Live.{given, given_of}
use Rattle.sat_solver.specs.declared.variables.Variables.{Variables}

-- the stored data of the proof variable `v`; past the end of the list, that of a variable not in use
abbrev pub data_at : Variables → ℕ → VarData
data_at n v = get_or n.var_data.items v unused_variable

-- the proof variable that the name `user` (counted from 0) refers to, or `None` if the name is not in use
abbrev pub global_of : Variables → ℕ → Option ℕ
global_of n user = target n.global_from_user.fwd user

-- the name (counted from 0) of the proof variable `v`, or `None` if it has none
abbrev pub user_of : Variables → ℕ → Option ℕ
user_of n v = target n.global_from_user.bwd v

-- the index in the search of the proof variable `v`, or `None` if it has none
abbrev pub solver_of : Variables → ℕ → Option ℕ
solver_of n v = target n.solver_from_global.fwd v

-- the proof variable that has index `x` of the search now, or `None` if no variable has it
abbrev pub global_at : Variables → ℕ → Option ℕ
global_at n x = target n.solver_from_global.bwd x

-- one more than the highest name (counted from 0) that was ever used; all lower names were used as well
abbrev pub names_used : Variables → ℕ
names_used n = length n.global_from_user.fwd

-- one more than the highest proof variable that was ever used, including deleted ones
abbrev pub variables_used : Variables → ℕ
variables_used n = length n.var_data.items

-- one more than the highest index of the search that was ever used, including released ones
abbrev pub indices_used : Variables → ℕ
indices_used n = length n.solver_from_global.bwd

-- `is_witness_kept mode` is true if the stored mode is witness
abbrev pub is_witness_kept : SamplingMode → Bool
is_witness_kept kept.Sample = false
is_witness_kept kept.Witness = true
is_witness_kept kept.Hide = false

-- `VariablesInvariant n` holds if what is stored about names is consistent in itself: the maps from names and from
-- indices to proof variables and back, the data of variables, the sets of free numbers, and the limits
pub record VariablesInvariant (n : Variables) : Type 0 where
  pub users : AreInverse n.global_from_user
  pub solvers : AreInverse n.solver_from_global
  -- a variable that has a name or an index is in use
  pub named : (v u : ℕ) → user_of n v ≡ Some u → (data_at n v).deleted ≡ false
  pub indexed : (v x : ℕ) → solver_of n v ≡ Some x → (data_at n v).deleted ≡ false
  -- a variable in use without a name is hidden
  pub hidden : (v : ℕ) → (data_at n v).deleted ≡ false → user_of n v ≡ None → (data_at n v).sampling_mode ≡ kept.Hide
  pub shown : (v u : ℕ) → user_of n v ≡ Some u → (data_at n v).sampling_mode ≢ kept.Hide
  -- nothing is stored for a variable that is not in use
  pub gone : (v : ℕ) → (data_at n v).deleted ≡ true → data_at n v ≡ unused_variable
  -- no variable is of mode witness unless the flag says that one may be
  pub plain : n.witnessed ≡ false → (v : ℕ) → is_witness_kept (data_at n v).sampling_mode ≡ false
  -- if the flag says so, every name ever used has the variable with the same number
  pub own : n.own_names ≡ true → (u : ℕ) → u < names_used n → global_of n u ≡ Some u
  -- the variable of every index is also in a list
  pub globals_count : length n.globals.items ≡ indices_used n
  pub globals : (x v : ℕ) → global_at n x ≡ Some v → get_or n.globals.items x 0 ≡ v
  -- as many variables have names as names have variables, and likewise for indices
  pub even_users : HasEqualCounts n.global_from_user
  pub even_solvers : HasEqualCounts n.solver_from_global
  pub spans_users : IsTreeWithLeaves n.free_users (names_used n)
  pub spans_globals : IsTreeWithLeaves n.free_globals (variables_used n)
  pub spans_solvers : IsTreeWithLeaves n.free_solvers (indices_used n)
  pub reach : names_used n ≤ variables_used n
  pub indices : indices_used n ≤ variables_used n
  pub within : variables_used n ≤ var_limit
  pub free_users : (u : ℕ) → is_free n.free_users u ≡ (nat_lt u (names_used n) && not (is_some (global_of n u)))
  pub free_globals : (v : ℕ) → is_free n.free_globals v ≡ (nat_lt v (variables_used n) && (data_at n v).deleted)
  pub free_solvers : (x : ℕ) → is_free n.free_solvers x ≡ (nat_lt x (indices_used n) && not (is_some (global_at n x)))

-- the mode that the checker has for a variable with this stored mode: sample, witness or hidden
abbrev pub checker_mode : SamplingMode → Mode
checker_mode kept.Sample = Sample
checker_mode kept.Witness = Witness
checker_mode kept.Hide = Hide

-- the state (known, mode, name) that the checker has for the proof variable `v`, according to the stored names
abbrev pub checker_variable_at : Variables → ℕ → Variable
checker_variable_at n v =
    if (data_at n v).deleted then initial_variable
    else record { known = true; mode = checker_mode (data_at n v).sampling_mode; name = user_of n v }

-- `is_unit_value unit b` is true if `unit`, the stored value of a variable's unit or `None`, is `Some b`
abbrev pub is_unit_value : Option Bool → Bool → Bool
is_unit_value None b = false
is_unit_value (Some value) true = value
is_unit_value (Some value) false = not value

-- `IsUnitOf n s v` holds if the unit stored for the proof variable `v` (its value, or `None`) is exactly its unit in
-- the session `s`
abbrev pub IsUnitOf : Variables → Session → ℕ → Type 0
IsUnitOf n s v = (b : Bool) → s.units (mk_lit v b) ≡ is_unit_value (data_at n v).unit b

-- `IsInNoNonUnitClause s v` holds if no live clause of the session with two or more literals has the proof variable `v`
abbrev pub IsInNoNonUnitClause : Session → ℕ → Type 0
IsInNoNonUnitClause s v = (r : Bool) (set : List ℕ) → 0 < s.live r set → mentions set v ≡ false

-- `NamesMatchSteps n s` holds if the stored names match the session: known variables, modes, names, indices, and marks
-- of assumptions. Variables without an index are in no clause of two or more literals, and their units are stored.
pub record NamesMatchSteps (n : Variables) (s : Session) : Type 0 where
  pub variables : (v : ℕ) → s.variables v ≡ checker_variable_at n v
  pub solver_names : (v : ℕ) → s.solver_names v ≡ solver_of n v
  pub units : (v : ℕ) → solver_of n v ≡ None → IsUnitOf n s v
  -- clauses are over variables that have indices
  pub unused : (v : ℕ) → solver_of n v ≡ None → IsInNoNonUnitClause s v
  pub marked : (v : ℕ) → mentions s.assumed v ≡ (data_at n v).assumed

-- `IsModeOf mode m` holds if `m`, the mode of an identity in the script state, is the stored mode of its variable; for
-- a hidden variable it may be any mode
abbrev pub IsModeOf : SamplingMode → judged.NameMode → Type 0
IsModeOf kept.Sample m = m ≡ Sampled
IsModeOf kept.Witness m = m ≡ Witnessed
IsModeOf kept.Hide m = Unit {0}

-- `NamesMatchState n j live` holds if the stored names match the script state `j`, when its identities are assigned to
-- live proof variables as `live` says. The name k of a script is stored as k - 1.
pub record NamesMatchState (n : Variables) (j : ScriptState) (live : LiveVariables) : Type 0 where
  pub first_unused : j.first_unused ≡ names_used n + 1
  pub no_zero : identity_of j 0 ≡ None
  pub names : (u : ℕ) → identity_of j (u + 1) ≡ given_of live (global_of n u)
  pub once : AreDistinctVariables live
  pub in_use : (v : ℕ) → is_some (given live v) ≡ not (data_at n v).deleted
  pub below : AllByRecursion (λ p. p.1 < j.identity_count) live
  pub distinct : (v w i : ℕ) → given live v ≡ Some i → given live w ≡ Some i → v ≡ w
  -- there are at least as many identities as variables ever used
  pub identities : variables_used n ≤ j.identity_count
  pub modes_count : length j.modes ≡ j.identity_count
  pub increasing : NamesAreIncreasing j.in_use
  pub modes : (v i : ℕ) → given live v ≡ Some i → IsModeOf (data_at n v).sampling_mode (get_or j.modes i Sampled)

-- the stored mode for a flag of a step: sample if it is true, witness otherwise
abbrev pub mode_for : Bool → SamplingMode
mode_for true = kept.Sample
mode_for false = kept.Witness

-- the mode in script states for a flag of a step: sample if it is true, witness otherwise
abbrev pub script_mode : Bool → judged.NameMode
script_mode true = Sampled
script_mode false = Witnessed
