-- The next name is the lowest unused one of the script state.
use Rattle.std.proofs.Common.{ℕ, zero, suc, ◌+◌, ◌<◌, ◌≡◌, ◌∙◌, Option, Some, None, List, refl, ap, arith}
use Rattle.sat_base.specs.script.ScriptState.{ScriptState, identity_of}
use Rattle.sat_base.specs.steps.Steps.{Step}
use Rattle.sat_solver.specs.variables.Calls.{NamesInvariant}
use Rattle.sat_checker.specs.matching.Bridge.{LiveVariables}
use Rattle.sat_solver.specs.variables.Live.{given_of}
use Rattle.sat_solver.specs.variables.Naming.{IsNextUser, IsLowestUnused}
use Rattle.sat_solver.specs.variables.Variables.{NamesMatchState, global_of}
use Rattle.sat_solver.specs.declared.variables.Variables.{Variables}
use Rattle.sat_solver.proofs.lemmas.variables.LeftOut.{in_use}

none_some : {o : Option ℕ} (x : ℕ) → o ≡ Some x → o ≡ None → ⊥
none_some x e f = cc

pub lowest_unused : (n : Variables) (steps : List Step) (j : ScriptState) (live : LiveVariables) (user : ℕ) → NamesInvariant n steps → NamesMatchState n j live → IsNextUser n user → IsLowestUnused j (user + 1)
lowest_unused n steps j live user valid judged next = record {
  named = omega arith;
  unused = judged.names user ∙ ap (given_of live) next.unused;
  lowest = lowest;
}
  where
    at : (m : ℕ) (o : Option ℕ) → global_of n m ≡ o → m < user → identity_of j (m + 1) ≡ None → ⊥
    at m None e lt none = next.lowest m lt e
    at m (Some v) e lt none = let x = in_use n steps j live m v valid judged e in none_some x.0 x.1 none

    lowest : (m : ℕ) → 0 < m → m < user + 1 → identity_of j m ≡ None → ⊥
    lowest zero pos lt none = absurd (omega arith)
    lowest (suc m) pos lt none = at m (global_of n m) refl (omega arith) (ap (identity_of j) (let e : m + 1 ≡ suc m = omega arith in e) ∙ none)
