-- The next name.
use Rattle.std.proofs.Common.{ℕ, ◌<◌, ◌≡◌, Bool, true, false, not, ◌&&◌, ltb, lt-ltb, None, is_some, refl, sym, ◌∙◌, ap, arith}
use Rattle.std.proofs.lemmas.Bool.{ltb-true, true≢false}
use Rattle.sat_solver.specs.variables.Free.{is_free, IsLowest}
use Rattle.sat_solver.specs.variables.Variables.{global_of, names_used, VariablesInvariant}
use Rattle.sat_solver.specs.variables.Naming.{IsNextUser}
use Rattle.sat_solver.specs.declared.variables.Variables.{Variables}
use Rattle.sat_solver.proofs.lemmas.variables.BroughtIn.{hidden_name}
use Rattle.sat_solver.proofs.lemmas.variables.NamingSteps.{unused}

-- every name below the first unused one is free or in use
taken : (n : Variables) (m : ℕ) → VariablesInvariant n → m < names_used n → is_free n.free_users m ≡ false → global_of n m ≡ None → ⊥
taken n m tidy lt e none = true≢false (sym here ∙ e)
  where
    here : is_free n.free_users m ≡ true
    here = tidy.free_users m ∙ ap (λ o. ltb m (names_used n) && not (is_some o)) none ∙ ap (λ b. b && true) (lt-ltb m (names_used n) lt)

-- if none of them is free, all are in use
pub all_named : (n : Variables) → VariablesInvariant n → ((i : ℕ) → is_free n.free_users i ≡ false) → (u : ℕ) → u < names_used n → global_of n u ≡ None → ⊥
all_named n tidy none u lt e = taken n u tidy lt (none u) e

free_within : (n : Variables) (u : ℕ) → VariablesInvariant n → is_free n.free_users u ≡ true → u < names_used n
free_within n u tidy e = ltb-true u (names_used n) (first (ltb u (names_used n)) (not (is_some (global_of n u))) (sym (tidy.free_users u) ∙ e))
  where
    first : (a b : Bool) → (a && b) ≡ true → a ≡ true
    first true b x = refl
    first false b x = x

pub next_hidden : (n : Variables) (u : ℕ) → VariablesInvariant n → IsLowest n.free_users u → IsNextUser n u
next_hidden n u tidy l =
    let p = hidden_name n u tidy l.free in
    let w = free_within n u tidy l.free in
    record { unused = p.0; reach = p.1; lowest = λ m lt none. taken n m tidy (omega arith) (l.lowest m lt) none }

pub next_new : (n : Variables) (u : ℕ) → VariablesInvariant n → ((i : ℕ) → is_free n.free_users i ≡ false) → u ≡ names_used n → IsNextUser n u
next_new n u tidy none e = record { unused = unused n u (sym e); reach = omega arith; lowest = λ m lt f. taken n m tidy (omega arith) (none m) f }
