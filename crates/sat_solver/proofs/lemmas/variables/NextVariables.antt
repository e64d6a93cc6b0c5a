-- The next variable.
use Rattle.std.proofs.Common.{ℕ, ◌<◌, ◌≤◌, ◌≡◌, Bool, true, false, not, ◌&&◌, cond, ltb, lt-ltb, Some, None, refl, sym, ◌∙◌, ap, arith}
use Rattle.std.proofs.lemmas.Bool.{ltb-true, true≢false}
use Rattle.std.proofs.lemmas.List.{get_or_past}
use Rattle.sat_store.specs.variables.VarData.{unused_variable}
use Rattle.sat_store.specs.variables.Maps.{target}
use Rattle.sat_checker.specs.Stored.{Variable, initial_variable}
use Rattle.sat_solver.specs.session.Session.{Session}
use Rattle.sat_solver.specs.variables.NamingSteps.{IsNextVariable, IsNextIndexInSession}
use Rattle.sat_solver.specs.variables.Free.{is_free, IsLowest}
use Rattle.sat_solver.specs.variables.Naming.{IsVariableForName, IsNextIndex}
use Rattle.sat_solver.specs.variables.Variables.{VariablesInvariant, NamesMatchSteps, data_at, user_of, global_at, names_used, variables_used, checker_mode}
use Rattle.sat_solver.specs.declared.variables.Variables.{Variables}
use Rattle.sat_solver.proofs.lemmas.variables.NewName.{none_or}

-- every variable below the first unused one is free or in use
taken : (n : Variables) (w : ℕ) → VariablesInvariant n → w < variables_used n → is_free n.free_globals w ≡ false → (data_at n w).deleted ≡ false
taken n w tidy lt e = go (data_at n w).deleted refl
  where
    go : (b : Bool) → (data_at n w).deleted ≡ b → b ≡ false
    go false d = refl
    go true d = absurd (true≢false (sym (tidy.free_globals w ∙ ap (λ b. ltb w (variables_used n) && b) d ∙ ap (λ b. b && true) (lt-ltb w (variables_used n) lt)) ∙ e))

both_parts : (a b : Bool) → (a && b) ≡ true → (a ≡ true) × (b ≡ true)
both_parts true b e = (refl, e)
both_parts false b e = absurd (true≢false (sym e))

pub room_own : (n : Variables) (user : ℕ) → VariablesInvariant n → user ≤ names_used n → (data_at n user).deleted ≡ true → IsVariableForName n user user
room_own n user tidy low gone = record { unused = gone; within = let r = tidy.reach in omega arith; own = λ e. refl; lowest = λ e. absurd (true≢false (sym gone ∙ e)) }

pub room_freed : (n : Variables) (user v : ℕ) → VariablesInvariant n → (data_at n user).deleted ≡ false → IsLowest n.free_globals v → IsVariableForName n user v
room_freed n user v tidy live l =
    let p = both_parts (ltb v (variables_used n)) (data_at n v).deleted (sym (tidy.free_globals v) ∙ l.free) in
    let lt = ltb-true v (variables_used n) p.0 in
    record { unused = p.1; within = omega arith; own = λ e. absurd (true≢false (sym e ∙ live)); lowest = λ e w m. taken n w tidy (omega arith) (l.lowest w m) }

pub room_new : (n : Variables) (user v : ℕ) → VariablesInvariant n → (data_at n user).deleted ≡ false → ((w : ℕ) → is_free n.free_globals w ≡ false) → v ≡ variables_used n → IsVariableForName n user v
room_new n user v tidy live none e = record {
  unused = ap (λ d. d.deleted) (get_or_past n.var_data.items v unused_variable (omega arith));
  within = omega arith;
  own = λ d. absurd (true≢false (sym d ∙ live));
  lowest = λ d w m. taken n w tidy (omega arith) (none w);
}

pub ruleset finding_room = (room_own, room_freed, room_new)

-- WHAT THE STEPS SAY

known_of : (n : Variables) (s : Session) (w : ℕ) → NamesMatchSteps n s → (s.variables w).known ≡ not (data_at n w).deleted
known_of n s w said = ap (λ x. x.known) (said.variables w) ∙ go (data_at n w).deleted
  where
    go : (b : Bool) → (let x : Variable = cond b initial_variable (record { known = true; mode = checker_mode (data_at n w).sampling_mode; name = user_of n w }) in x).known ≡ not b
    go true = refl
    go false = refl

not_live : (b : Bool) → not b ≡ false → b ≡ true
not_live true e = refl
not_live false e = absurd (true≢false e)

not_gone : (b : Bool) → not b ≡ true → b ≡ false
not_gone false e = refl
not_gone true e = absurd (true≢false (sym e))

pub next_variable : (n : Variables) (s : Session) (user v : ℕ) → NamesMatchSteps n s → IsVariableForName n user v → IsNextVariable s user v
next_variable n s user v said room = (
  λ e. room.own (not_live (data_at n user).deleted (sym (known_of n s user said) ∙ e)),
  λ e. (
    known_of n s v said ∙ ap not room.unused,
    λ w lt. known_of n s w said ∙ ap not (room.lowest (not_gone (data_at n user).deleted (sym (known_of n s user said) ∙ e)) w lt),
  ),
)

pub next_solver : (n : Variables) (s : Session) (x : ℕ) → VariablesInvariant n → NamesMatchSteps n s → IsNextIndex n x → IsNextIndexInSession s (Some x)
next_solver n s x tidy said next = (
  λ v e. free v (sym (said.solver_names v) ∙ e),
  λ y lt. (let p = none_or (global_at n y) (next.lowest y lt) in (p.0, said.solver_names p.0 ∙ tidy.solvers.forth p.0 y p.1)),
)
  where
    free : (v : ℕ) → target n.solver_from_global.fwd v ≡ Some x → ⊥
    free v e = let z : None ≡ Some v = sym next.free ∙ tidy.solvers.back v x e in cc
