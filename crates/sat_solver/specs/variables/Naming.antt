-- What calls over names change in the stored names.
use Rattle.std.specs.Prelude.{ℕ, ◌+◌, ◌<◌, ◌≤◌, ◌==◌, ◌≡◌, ◌≢◌, max, Bool, true, false, not, Option, None, Some, length, get_or, ◌&&◌, get_or, ◌&&◌, if◌then◌else◌}
use Rattle.sat_base.specs.values.Literals.{var_limit}
use Rattle.sat_base.specs.script.ScriptState.{ScriptState, identity_of}
use Rattle.sat_store.specs.variables.VarData.{user_variable, unused_variable}
use Rattle.sat_store.specs.variables.Maps.{AreInverse, Links, Unlinks}
use Rattle.sat_store.specs.declared.data.SamplingMode.{SamplingMode}
use Rattle.sat_store.specs.declared.data.SamplingMode.TheVariants as kept
use Rattle.sat_solver.specs.variables.Free.{is_free, IsTreeWithLeaves}
use Rattle.sat_solver.specs.variables.Variables.{data_at, global_of, names_used, variables_used, solver_of, global_at, indices_used, is_witness_kept}
use Rattle.sat_solver.specs.declared.variables.Variables.{Variables}

-- `IsVariableForName n user v` holds if `v` is the proof variable for a new name `user`: the one with the same number
-- if it is not in use, otherwise the lowest one not in use
pub record IsVariableForName (n : Variables) (user v : ℕ) : Type 0 where
  pub unused : (data_at n v).deleted ≡ true
  pub within : v ≤ variables_used n
  pub own : (data_at n user).deleted ≡ true → v ≡ user
  pub lowest : (data_at n user).deleted ≡ false → (w : ℕ) → w < v → (data_at n w).deleted ≡ false

-- `NoVariableLeft n` holds if every proof variable below the limit of 2^28 is in use
abbrev pub NoVariableLeft : Variables → Type 0
NoVariableLeft n = (v : ℕ) → v < var_limit → (data_at n v).deleted ≡ false

-- `NamesFull n` holds if all 2^28 names are in use
pub record NamesFull (n : Variables) : Type 0 where
  pub used : names_used n ≡ var_limit
  pub all : (u : ℕ) → u < names_used n → global_of n u ≡ None → ⊥

-- `StoresName old new user v` holds if the name `user` was given to the proof variable `v`, which was not in use, with
-- mode sample; nothing else stored has changed, except that the flag `own_names` may have been cleared
pub record StoresName (old new : Variables) (user v : ℕ) : Type 0 where
  pub users : Links old.global_from_user new.global_from_user user v
  pub inverse : AreInverse new.global_from_user
  pub solvers : new.solver_from_global ≡ old.solver_from_global
  pub globals : new.globals ≡ old.globals
  pub witnessed : new.witnessed ≡ old.witnessed
  pub own : new.own_names ≡ true → old.own_names ≡ true
  pub same : new.own_names ≡ true → v ≡ user
  pub kept : (w : ℕ) → data_at new w ≡ (if w == v then user_variable else data_at old w)
  pub count : variables_used new ≡ max (variables_used old) (v + 1)
  pub free_users : (u : ℕ) → is_free new.free_users u ≡ (if u == user then false else is_free old.free_users u)
  pub free_globals : (w : ℕ) → is_free new.free_globals w ≡ (if w == v then false else is_free old.free_globals w)
  pub free_solvers : new.free_solvers ≡ old.free_solvers
  pub spans_users : IsTreeWithLeaves new.free_users (names_used new)
  pub spans_globals : IsTreeWithLeaves new.free_globals (variables_used new)

-- `StoresIndex old new v x there` holds if the proof variable `v` got index `x` if `there` is true, or lost its index
-- `x` if it is false; names, data of variables and other indices are unchanged
pub record StoresIndex (old new : Variables) (v x : ℕ) (there : Bool) : Type 0 where
  pub solvers : (w : ℕ) → solver_of new w ≡ (if w == v then (if there then Some x else None) else solver_of old w)
  pub globals : (y : ℕ) → global_at new y ≡ (if y == x then (if there then Some v else None) else global_at old y)
  pub used : indices_used new ≡ (if there then max (indices_used old) (x + 1) else indices_used old)
  pub inverse : AreInverse new.solver_from_global
  pub globals_count : length new.globals.items ≡ indices_used new
  pub listed : (y : ℕ) → get_or new.globals.items y 0 ≡ (if there && (y == x) then v else get_or old.globals.items y 0)
  pub users : new.global_from_user ≡ old.global_from_user
  pub witnessed : new.witnessed ≡ old.witnessed
  pub own : new.own_names ≡ old.own_names
  pub kept : new.var_data ≡ old.var_data
  pub free_users : new.free_users ≡ old.free_users
  pub free_globals : new.free_globals ≡ old.free_globals
  pub free_solvers : (y : ℕ) → is_free new.free_solvers y ≡ (if y == x then not there else is_free old.free_solvers y)
  pub spans_solvers : IsTreeWithLeaves new.free_solvers (indices_used new)

-- `StoresHiding old new user v` holds if the proof variable `v` lost its name `user`, which is free now, and is hidden;
-- indices, other names and other data are unchanged
pub record StoresHiding (old new : Variables) (user v : ℕ) : Type 0 where
  pub users : Unlinks old.global_from_user new.global_from_user user v
  pub inverse : AreInverse new.global_from_user
  pub solvers : new.solver_from_global ≡ old.solver_from_global
  pub globals : new.globals ≡ old.globals
  pub witnessed : new.witnessed ≡ old.witnessed
  pub own : new.own_names ≡ false
  pub kept : (w : ℕ) → data_at new w ≡ (if w == v then record (data_at old v) { sampling_mode = kept.Hide } else data_at old w)
  pub count : variables_used new ≡ variables_used old
  pub free_users : (u : ℕ) → is_free new.free_users u ≡ (if u == user then true else is_free old.free_users u)
  pub free_globals : new.free_globals ≡ old.free_globals
  pub free_solvers : new.free_solvers ≡ old.free_solvers
  pub spans_users : IsTreeWithLeaves new.free_users (names_used new)

-- `StoresMode old new v mode` holds if the stored mode of the proof variable `v` was set to `mode`; names, indices and
-- other data are unchanged
pub record StoresMode (old new : Variables) (v : ℕ) (mode : SamplingMode) : Type 0 where
  pub users : new.global_from_user ≡ old.global_from_user
  pub solvers : new.solver_from_global ≡ old.solver_from_global
  pub globals : new.globals ≡ old.globals
  pub witnessed : is_witness_kept mode ≡ true → new.witnessed ≡ true
  pub stays : old.witnessed ≡ true → new.witnessed ≡ true
  pub own : new.own_names ≡ old.own_names
  pub kept : (w : ℕ) → data_at new w ≡ (if w == v then record (data_at old v) { sampling_mode = mode } else data_at old w)
  pub count : variables_used new ≡ variables_used old
  pub free_users : new.free_users ≡ old.free_users
  pub free_globals : new.free_globals ≡ old.free_globals
  pub free_solvers : new.free_solvers ≡ old.free_solvers

-- `StoresDeletion old new v` holds if the proof variable `v` was marked as not in use, and its number is free; names,
-- indices and other data are unchanged
pub record StoresDeletion (old new : Variables) (v : ℕ) : Type 0 where
  pub users : new.global_from_user ≡ old.global_from_user
  pub solvers : new.solver_from_global ≡ old.solver_from_global
  pub globals : new.globals ≡ old.globals
  pub witnessed : new.witnessed ≡ old.witnessed
  pub own : new.own_names ≡ old.own_names
  pub kept : (w : ℕ) → data_at new w ≡ (if w == v then unused_variable else data_at old w)
  pub count : variables_used new ≡ variables_used old
  pub free_users : new.free_users ≡ old.free_users
  pub free_globals : (w : ℕ) → is_free new.free_globals w ≡ (if w == v then true else is_free old.free_globals w)
  pub free_solvers : new.free_solvers ≡ old.free_solvers
  pub spans_globals : IsTreeWithLeaves new.free_globals (variables_used new)

-- `ExtendsNames old new` holds if names in use keep their proof variables and modes; new names are of mode sample, on
-- variables that were not in use. No variable was deleted.
pub record ExtendsNames (old new : Variables) : Type 0 where
  pub stays : (u v : ℕ) → global_of old u ≡ Some v → (global_of new u ≡ Some v) × ((data_at new v).sampling_mode ≡ (data_at old v).sampling_mode)
  pub came : (u v : ℕ) → global_of old u ≡ None → global_of new u ≡ Some v → (data_at new v).sampling_mode ≡ kept.Sample
  pub fresh : (u v : ℕ) → global_of old u ≡ None → global_of new u ≡ Some v → (data_at old v).deleted ≡ true
  pub lives : (v : ℕ) → (data_at old v).deleted ≡ false → (data_at new v).deleted ≡ false

-- `VariablesAreKeptOrNew old new` holds if every name that was in use and still is has the same variable; every new
-- name has a variable that was not in use
pub record VariablesAreKeptOrNew (old new : Variables) : Type 0 where
  pub same : (u v w : ℕ) → global_of old u ≡ Some v → global_of new u ≡ Some w → w ≡ v
  pub fresh : (u v : ℕ) → global_of old u ≡ None → global_of new u ≡ Some v → (data_at old v).deleted ≡ true

-- `KeepsNames old new` holds if every name in use keeps its proof variable
abbrev pub KeepsNames : Variables → Variables → Type 0
KeepsNames old new = (u v : ℕ) → global_of old u ≡ Some v → global_of new u ≡ Some v

-- `KeepsOthers old new user` holds if every name in use, except possibly `user`, keeps its proof variable
abbrev pub KeepsOthers : Variables → Variables → ℕ → Type 0
KeepsOthers old new user = (u v : ℕ) → u ≢ user → global_of old u ≡ Some v → global_of new u ≡ Some v

-- `SameMaps old new` holds if everything stored about names is unchanged except the data of variables: maps, lists,
-- flags and sets of free numbers
pub record SameMaps (old new : Variables) : Type 0 where
  pub users : new.global_from_user ≡ old.global_from_user
  pub solvers : new.solver_from_global ≡ old.solver_from_global
  pub globals : new.globals ≡ old.globals
  pub witnessed : new.witnessed ≡ old.witnessed
  pub own : new.own_names ≡ old.own_names
  pub count : variables_used new ≡ variables_used old
  pub free_users : new.free_users ≡ old.free_users
  pub free_globals : new.free_globals ≡ old.free_globals
  pub free_solvers : new.free_solvers ≡ old.free_solvers

-- `StoresUnit old new v value` holds if `value` (or `None`) is stored as the value of the unit of the proof variable
-- `v`; everything else stored is unchanged
pub record StoresUnit (old new : Variables) (v : ℕ) (value : Option Bool) : Type 0 where
  pub maps : SameMaps old new
  pub kept : (w : ℕ) → data_at new w ≡ (if w == v then record (data_at old v) { unit = value } else data_at old w)

-- `IsNextUser n user` holds if `user` (counted from 0) is the lowest name that is not in use
pub record IsNextUser (n : Variables) (user : ℕ) : Type 0 where
  pub unused : global_of n user ≡ None
  pub reach : user ≤ names_used n
  pub lowest : (m : ℕ) → m < user → global_of n m ≡ None → ⊥

-- `IsLowestUnused j name` holds if `name` (counted from 1) is the lowest name not in use in the script state `j`: the
-- lowest hidden name, otherwise the first never used
pub record IsLowestUnused (j : ScriptState) (name : ℕ) : Type 0 where
  pub named : 0 < name
  pub unused : identity_of j name ≡ None
  pub lowest : (m : ℕ) → 0 < m → m < name → identity_of j m ≡ None → ⊥

-- `StoresObserving old new user v` holds if the hidden proof variable `v` got the name `user`, and mode witness;
-- indices, other names and other data are unchanged
pub record StoresObserving (old new : Variables) (user v : ℕ) : Type 0 where
  pub users : Links old.global_from_user new.global_from_user user v
  pub inverse : AreInverse new.global_from_user
  pub solvers : new.solver_from_global ≡ old.solver_from_global
  pub globals : new.globals ≡ old.globals
  pub witnessed : new.witnessed ≡ true
  pub own : new.own_names ≡ false
  pub kept : (w : ℕ) → data_at new w ≡ (if w == v then record (data_at old v) { sampling_mode = kept.Witness } else data_at old w)
  pub count : variables_used new ≡ variables_used old
  pub free_users : (u : ℕ) → is_free new.free_users u ≡ (if u == user then false else is_free old.free_users u)
  pub free_globals : new.free_globals ≡ old.free_globals
  pub free_solvers : new.free_solvers ≡ old.free_solvers
  pub spans_users : IsTreeWithLeaves new.free_users (names_used new)

-- `IsNextIndex n x` holds if `x` is the lowest index of the search that no proof variable has
pub record IsNextIndex (n : Variables) (x : ℕ) : Type 0 where
  pub free : global_at n x ≡ None
  pub reach : x ≤ indices_used n
  pub lowest : (y : ℕ) → y < x → global_at n y ≡ None → ⊥
