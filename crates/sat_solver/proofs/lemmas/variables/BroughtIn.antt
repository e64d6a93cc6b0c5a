-- A name is introduced, together with the names below it that were never used.
use Rattle.std.proofs.Common.{ℕ, ◌+◌, ◌-◌, ◌<◌, ◌≤◌, ◌≡◌, Bool, true, false, not, ◌&&◌, cond, ltb, lt-ltb, List, [], ◌∷◌, map, Option, Some, None, is_some, refl, sym, ◌∙◌, ap, subst, arith, Result, Ok, Err, IfOk, OnOk, inl, inr}
use Rattle.std.proofs.lemmas.Bool.{le-ltb, ltb-true, cases_lt}
use Rattle.sat_base.specs.script.ScriptState.{ScriptState, identity_of, with_names, names_from, new_names}
use Rattle.sat_base.specs.steps.Steps.{Step, UserVarName}
use Rattle.sat_solver.specs.variables.Free.{is_free}
use Rattle.sat_checker.specs.matching.Bridge.{LiveVariables}
use Rattle.sat_solver.specs.variables.Live.{given_of}
use Rattle.sat_solver.specs.variables.Variables.{data_at, global_of, names_used, VariablesInvariant, NamesMatchState}
use Rattle.sat_solver.specs.variables.Naming.{IsNextUser}
use Rattle.sat_checker.specs.matching.Expected.{NewName}
use Rattle.sat_solver.specs.variables.Calls.{NamesInvariant, ReachesScriptState, IntroducesOne, IntroducesAll, IntroducesName, IntroducesNameUnseen}
use Rattle.sat_solver.specs.declared.variables.Variables.{Variables}
use Rattle.sat_solver.proofs.lemmas.variables.NamingSteps.{none_brought, one_then, none_yet, last_came}
use Rattle.sat_solver.proofs.lemmas.variables.Extending.{extends_same}
use Rattle.sat_solver.proofs.lemmas.variables.Giving.{unseen_same}
use Rattle.sat_solver.specs.variables.NamingSteps.{IsDue}
use Rattle.sat_solver.specs.variables.VariableRoom.{LeavesRoom}
use Rattle.sat_solver.proofs.lemmas.variables.RoomLemmas.{room_one, room_none}
use Rattle.sat_solver.proofs.lemmas.session.ComingLemmas.{comes_none, comes_one}

as_new : (old new : Variables) (from to : List Step) (user : ℕ) (names : List ℕ) → ((j : ScriptState) (live : LiveVariables) → NamesMatchState old j live → new_names (user + 1) j ≡ names) → IntroducesAll old new from to names → IntroducesName old new from to user
as_new old new from to user names is all = record {
  valid = all.valid;
  kept = λ j live a. subst (λ ns. ReachesScriptState new from to (with_names ns j) (map NewName ns)) (sym (is j live a.judged)) (all.kept j live a);
}

pub brings_new : (old new : Variables) (from to : List Step) (user : ℕ) → names_used old ≤ user → IntroducesAll old new from to (names_from (user + 1 - names_used old) (names_used old + 1)) → IntroducesName old new from to user
brings_new old new from to user le all = as_new old new from to user (names_from (user + 1 - names_used old) (names_used old + 1)) is all
  where
    is : (j : ScriptState) (live : LiveVariables) → NamesMatchState old j live → new_names (user + 1) j ≡ names_from (user + 1 - names_used old) (names_used old + 1)
    is j live judged =
        let f = judged.first_unused in
        ap (λ b. cond b (cond (is_some (identity_of j (user + 1))) [] ((user + 1) ∷ [])) (names_from (user + 1 + 1 - j.first_unused) j.first_unused)) (le-ltb (user + 1) j.first_unused (omega arith))
        ∙ ap (λ k. names_from (user + 1 + 1 - k) k) f ∙ ap (λ k. names_from k (names_used old + 1)) (omega arith)

below : (old : Variables) (user : ℕ) → user < names_used old → (j : ScriptState) (live : LiveVariables) → NamesMatchState old j live → new_names (user + 1) j ≡ cond (is_some (given_of live (global_of old user))) [] ((user + 1) ∷ [])
below old user lt j live judged =
    let f = judged.first_unused in
    ap (λ b. cond b (cond (is_some (identity_of j (user + 1))) [] ((user + 1) ∷ [])) (names_from (user + 1 + 1 - j.first_unused) j.first_unused)) (lt-ltb (user + 1) j.first_unused (omega arith))
    ∙ ap (λ o. cond (is_some o) [] ((user + 1) ∷ [])) (judged.names user)

pub brings_none : (old : Variables) (from : List Step) (user v : ℕ) → NamesInvariant old from → user < names_used old → global_of old user ≡ Some v → IntroducesName old old from from user
brings_none old from user v valid lt e = as_new old old from from user [] is (none_brought old from valid)
  where
    is : (j : ScriptState) (live : LiveVariables) → NamesMatchState old j live → new_names (user + 1) j ≡ []
    is j live judged =
        let alive : (data_at old v).deleted ≡ false = valid.tidy.named v user (valid.tidy.users.back user v e) in
        below old user lt j live judged ∙ ap (λ o. cond (is_some (given_of live o)) [] ((user + 1) ∷ [])) e ∙ ap (λ b. cond b [] ((user + 1) ∷ [])) (judged.in_use v ∙ ap not alive)

pub brings_again : (old new : Variables) (from to : List Step) (user v : ℕ) → user < names_used old → global_of old user ≡ None → IntroducesOne old new from to user v → IntroducesName old new from to user
brings_again old new from to user v lt e one = as_new old new from to user ((user + 1) ∷ []) is (one_then old new new from to to user v [] one (none_brought new to one.valid))
  where
    is : (j : ScriptState) (live : LiveVariables) → NamesMatchState old j live → new_names (user + 1) j ≡ (user + 1) ∷ []
    is j live judged = below old user lt j live judged ∙ ap (λ o. cond (is_some (given_of live o)) [] ((user + 1) ∷ [])) e

pub brought_none : (old : Variables) (from : List Step) (user v : ℕ) → NamesInvariant old from → user < names_used old → global_of old user ≡ Some v → IntroducesNameUnseen old old from from user
brought_none old from user v valid lt e = record { brings = brings_none old from user v valid lt e; extends = extends_same old; unseen = unseen_same old from; comes = comes_none IsDue from; room = λ us. room_none old user v us lt e }

pub ok_new : {A E : Type 0} (r : Result A E) (old new : Variables) (from to : List Step) (user : ℕ) → names_used old ≤ user → OnOk r (IntroducesAll old new from to (names_from (user + 1 - names_used old) (names_used old + 1))) → OnOk r (LeavesRoom old new user) → OnOk r (IntroducesNameUnseen old new from to user)
ok_new (Ok x) old new from to user le p room = record { brings = brings_new old new from to user le p; extends = p.extends; unseen = p.unseen; comes = p.comes; room = room }
ok_new (Err e) old new from to user le p room = tt

pub ok_again : {E : Type 0} (r : Result ℕ E) (old new : Variables) (from to : List Step) (user : ℕ) → user < names_used old → global_of old user ≡ None → IfOk r (λ v. IntroducesOne old new from to user v) → OnOk r (IntroducesNameUnseen old new from to user)
ok_again (Ok v) old new from to user lt e p = record {
  brings = brings_again old new from to user v lt e p;
  extends = p.extends;
  unseen = p.unseen;
  comes = comes_one IsDue from to (UserVarName v (Some user)) p.step p.next;
  room = room_one old new user v e (omega arith) p.named p.used p.live;
}
ok_again (Err x) old new from to user lt e p = tt

pub hidden_name : (n : Variables) (u : ℕ) → VariablesInvariant n → is_free n.free_users u ≡ true → (global_of n u ≡ None) × (u ≤ names_used n)
hidden_name n u tidy e = go (ltb u (names_used n)) refl (global_of n u) refl (sym (tidy.free_users u) ∙ e)
  where
    go : (b : Bool) → ltb u (names_used n) ≡ b → (o : Option ℕ) → global_of n u ≡ o → (b && not (is_some o)) ≡ true → (global_of n u ≡ None) × (u ≤ names_used n)
    go true x None y f = let lt = ltb-true u (names_used n) x in (y, omega arith)
    go true x (Some w) y f = absurd (cc)
    go false x o y f = absurd (cc)

-- the next name was introduced
pub brought_next : (old new : Variables) (from to : List Step) (user v : ℕ) → NamesInvariant old from → IsNextUser old user → IntroducesOne old new from to user v → IntroducesNameUnseen old new from to user
brought_next old new from to user v valid next one = elim (cases_lt user (names_used old)) [
  | inl lt ↦ record { brings = brings_again old new from to user v lt next.unused one; extends = one.extends; unseen = one.unseen; comes = comes_one IsDue from to (UserVarName v (Some user)) one.step one.next; room = room_one old new user v next.unused next.reach one.named one.used one.live }
  | inr le ↦
      (let same : user ≡ names_used old = (let r = next.reach in omega arith) in
      record { brings = brings_new old new from to user le (last_came old old new from from to user v (none_yet old from user user valid same le) one); extends = one.extends; unseen = one.unseen; comes = comes_one IsDue from to (UserVarName v (Some user)) one.step one.next; room = room_one old new user v next.unused next.reach one.named one.used one.live })
]
