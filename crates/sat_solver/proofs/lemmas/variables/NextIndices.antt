-- The next index.
use Rattle.std.proofs.Common.{ℕ, ◌+◌, ◌<◌, ◌≤◌, ◌≡◌, Bool, true, false, not, ◌&&◌, ltb, lt-ltb, length, Option, Some, None, is_some, refl, sym, ◌∙◌, ap, arith}
use Rattle.std.proofs.lemmas.Bool.{ltb-true, true≢false}
use Rattle.std.proofs.lemmas.List.{get_or_past}
use Rattle.sat_base.specs.values.Literals.{var_limit}
use Rattle.sat_store.specs.variables.VarData.{unused_variable}
use Rattle.sat_solver.specs.variables.Counting.{count_to, mapped_count}
use Rattle.sat_solver.specs.variables.Free.{is_free, IsLowest}
use Rattle.sat_solver.specs.variables.Variables.{data_at, solver_of, global_at, indices_used, variables_used, VariablesInvariant}
use Rattle.sat_solver.specs.variables.Naming.{IsNextIndex}
use Rattle.sat_solver.specs.declared.variables.Variables.{Variables}
use Rattle.sat_solver.proofs.lemmas.variables.Counts.{count_full, count_fewer, count_le, count_longer, count_reach, count_mapped}

both_parts : (a b : Bool) → (a && b) ≡ true → (a ≡ true) × (b ≡ true)
both_parts true b e = (refl, e)
both_parts false b e = absurd (true≢false (sym e))

none_of : (o : Option ℕ) → not (is_some o) ≡ true → o ≡ None
none_of None e = refl
none_of (Some x) e = absurd (true≢false (sym e))

some_of : (o : Option ℕ) → (o ≡ None → ⊥) → is_some o ≡ true
some_of None f = absurd (f refl)
some_of (Some x) f = refl

-- every index below the first unused one is free or taken
taken : (n : Variables) (y : ℕ) → VariablesInvariant n → y < indices_used n → is_free n.free_solvers y ≡ false → global_at n y ≡ None → ⊥
taken n y tidy lt e none = true≢false (sym here ∙ e)
  where
    here : is_free n.free_solvers y ≡ true
    here = tidy.free_solvers y ∙ ap (λ o. ltb y (indices_used n) && not (is_some o)) none ∙ ap (λ b. b && true) (lt-ltb y (indices_used n) lt)

pub next_freed : (n : Variables) (x : ℕ) → VariablesInvariant n → IsLowest n.free_solvers x → IsNextIndex n x
next_freed n x tidy l =
    let p = both_parts (ltb x (indices_used n)) (not (is_some (global_at n x))) (sym (tidy.free_solvers x) ∙ l.free) in
    let lt = ltb-true x (indices_used n) p.0 in
    record { free = none_of (global_at n x) p.1; reach = omega arith; lowest = λ y m none. taken n y tidy (omega arith) (l.lowest y m) none }

pub next_last : (n : Variables) (x : ℕ) → VariablesInvariant n → ((y : ℕ) → is_free n.free_solvers y ≡ false) → x ≡ indices_used n → IsNextIndex n x
next_last n x tidy none e = record { free = get_or_past n.solver_from_global.bwd x None (omega arith); reach = omega arith; lowest = λ y lt f. taken n y tidy (omega arith) (none y) f }

-- fewer indices are taken than variables are in use
fewer_taken : (n : Variables) (v : ℕ) → VariablesInvariant n → (data_at n v).deleted ≡ false → solver_of n v ≡ None → mapped_count n.solver_from_global.bwd < variables_used n
fewer_taken n v tidy alive without = let b = tidy.even_solvers in let c = count_mapped n.solver_from_global.fwd reach (omega arith) in let d = fewer in let e = in_reach in let f = count_le (variables_used n) in_use in omega arith
  where
    reach : ℕ
    reach = length n.solver_from_global.fwd + variables_used n + (v + 1)

    in_use : ℕ → Bool
    in_use k = not (data_at n k).deleted

    indexed : (k : ℕ) (o : Option ℕ) → solver_of n k ≡ o → is_some o ≡ true → in_use k ≡ true
    indexed k None e t = absurd (true≢false (sym t))
    indexed k (Some x) e t = ap not (tidy.indexed k x e)

    fewer : count_to reach (λ k. is_some (solver_of n k)) < count_to reach in_use
    fewer = count_fewer reach v (λ k. is_some (solver_of n k)) in_use (omega arith) (λ k t. indexed k (solver_of n k) refl t) (ap is_some without) (ap not alive)

    in_reach : count_to reach in_use ≡ count_to (variables_used n) in_use
    in_reach = count_reach (variables_used n) reach in_use (omega arith) (λ k le. ap (λ d. not d.deleted) (get_or_past n.var_data.items k unused_variable le))

-- so the next index is below the number of variables
pub index_below : (n : Variables) (v x : ℕ) → VariablesInvariant n → (data_at n v).deleted ≡ false → solver_of n v ≡ None → IsNextIndex n x → x < variables_used n
index_below n v x tidy alive without next =
    let all : count_to x (λ y. is_some (global_at n y)) ≡ x = count_full x (λ y. is_some (global_at n y)) (λ y lt. some_of (global_at n y) (next.lowest y lt)) in
    let more : count_to x (λ y. is_some (global_at n y)) ≤ mapped_count n.solver_from_global.bwd = count_longer x (indices_used n) (λ y. is_some (global_at n y)) next.reach in
    let few = fewer_taken n v tidy alive without in
    omega arith

-- and the limit of indices is not reached
pub index_left : (n : Variables) (v : ℕ) → VariablesInvariant n → (data_at n v).deleted ≡ false → solver_of n v ≡ None → ((y : ℕ) → is_free n.free_solvers y ≡ false) → indices_used n < var_limit
index_left n v tidy alive without none = let k = index_below n v (indices_used n) tidy alive without (next_last n (indices_used n) tidy none refl) in let w = tidy.within in omega arith
