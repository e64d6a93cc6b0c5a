-- Names are introduced, step by step.
use Rattle.std.proofs.Common.{ℕ, suc, ◌+◌, ◌-◌, ◌<◌, ◌≤◌, ◌≡◌, true, false, cond, eqb, List, [], ◌∷◌, map, Some, None, refl, sym, ◌∙◌, ap, subst, arith, Result, Ok, Err, IfOk, OnOk}
use Rattle.std.proofs.lemmas.Bool.{eq-eqb}
use Rattle.std.proofs.lemmas.List.{get_or_past}
use Rattle.sat_base.specs.values.Literals.{var_limit}
use Rattle.sat_base.specs.script.ScriptState.{with_name, names_from}
use Rattle.sat_base.specs.steps.Steps.{Step, UserVarName}
use Rattle.sat_checker.specs.Fold.{Holds}
use Rattle.sat_checker.specs.Stored.{Variable, initial_variable}
use Rattle.sat_solver.specs.session.Session.{IsAllowedStep, AreAllowedSteps, session_after}
use Rattle.sat_solver.proofs.lemmas.session.StepLemmas.{sessions_are_accepted}
use Rattle.sat_solver.specs.variables.Variables.{data_at, global_of, user_of, names_used, NamesMatchSteps, checker_variable_at, checker_mode}
use Rattle.sat_solver.specs.variables.Naming.{IsVariableForName, StoresName}
use Rattle.sat_checker.specs.matching.Checking.{variable_named}
use Rattle.sat_checker.specs.matching.ProofChecking.{checker_rules}
use Rattle.sat_checker.specs.matching.Expected.{NewName, new_name}
use Rattle.sat_checker.specs.matching.Traces.{HasTrace, no_step, visible}
use Rattle.sat_solver.specs.variables.Calls.{NamesInvariant, NamesAgree, IntroducesOne, IntroducesAll}
use Rattle.sat_solver.specs.declared.variables.Variables.{Variables}
use Rattle.sat_solver.proofs.lemmas.variables.NewName.{tidy_named, may_name, said_named, judged_named}
use Rattle.sat_solver.proofs.lemmas.variables.ScriptStateLemmas.{next_same}
use Rattle.sat_checker.proofs.lemmas.matching.Bridge.{named_new}
use Rattle.sat_solver.specs.variables.Search.{KeepsSearch}
use Rattle.sat_solver.proofs.lemmas.variables.Giving.{unseen_same, unseen_both}
use Rattle.sat_solver.proofs.lemmas.variables.Extending.{extends_same, extends_both, extends_named}
use Rattle.sat_checker.proofs.lemmas.matching.CheckerIsSound.{the_checking_sound}
use Rattle.sat_solver.specs.variables.NamingSteps.{IsDue}
use Rattle.sat_solver.specs.variables.VariableRoom.{live_count, HasVariablesFor, LeavesRoom}
use Rattle.sat_solver.proofs.lemmas.variables.NextVariables.{next_variable}
use Rattle.sat_solver.proofs.lemmas.variables.RoomLemmas.{live_named, room_one, room_below, room_less}
use Rattle.sat_solver.proofs.lemmas.session.ComingLemmas.{comes_none, comes_one, comes_both}

-- steps and names agree on which variables are known
pub known_as : (steps : List Step) (n : Variables) (v : ℕ) → AreAllowedSteps steps → NamesMatchSteps n (session_after steps) → checker_rules.knows steps v ≡ (checker_variable_at n v).known
known_as steps n v may said = ap (λ f. (f v).known) (sessions_are_accepted steps may).1.variables ∙ ap (λ x. x.known) (said.variables v)

pub step_may : (old : Variables) (from : List Step) (user v : ℕ) → NamesInvariant old from → global_of old user ≡ None → IsVariableForName old user v → user ≤ names_used old → v < var_limit → (new : Variables) → StoresName old new user v → IsAllowedStep (session_after from) (UserVarName v (Some user))
step_may old from user v valid free room within small new put = may_name old new user v valid.tidy room free within small put (session_after from) valid.said

pub name_given : (old new : Variables) (from to : List Step) (user v : ℕ) → NamesInvariant old from → global_of old user ≡ None → user ≤ names_used old → IsVariableForName old user v → v < var_limit → StoresName old new user v
    → to ≡ UserVarName v (Some user) ∷ from → IntroducesOne old new from to user v
name_given old new from to user v valid free within room small put e = record {
  valid = record {
    tidy = tidy_named old new user v valid.tidy room free within small put;
    said = subst (λ steps. NamesMatchSteps new (session_after steps)) (sym e) (said_named old new user v valid.tidy room free within small put (session_after from) valid.said);
    may = subst AreAllowedSteps (sym e) (valid.may, step_may old from user v valid free room within small new put);
    read = λ u. ap (λ steps. variable_named steps (u + 1)) e ∙ ap (λ b. cond b (Some v) (variable_named from (u + 1))) (next_same user u) ∙ ap (cond (eqb u user) (Some v)) (valid.read u) ∙ sym (put.users.fwd u);
  };
  named = put.users.fwd;
  used = put.users.fwd_watermark;
  step = e;
  kept = λ j live a. subst (λ steps. NamesAgree new steps (with_name (user + 1) j) ((v, j.identity_count) ∷ live)) (sym e) (record {
    judged = judged_named old new user v valid.tidy room free within small put j live a.judged;
    bridge = named_new checker_rules the_checking_sound j from live a.bridge (user + 1) v user refl not_known accepted;
  });
  unknown = not_known;
  live = live_named old new user v room put;
  next = next_variable old (session_after from) user v valid.said room;
  extends = extends_named old new user v valid.tidy room free put;
  unseen = record {
    solvers = put.solvers;
    globals = put.globals;
    search = subst (λ steps. KeepsSearch (session_after from) (session_after steps)) (sym e) (record { live = refl; units = refl; unsat = refl; width = refl; assumed = refl });
    leaves = λ a h. subst (λ steps. Holds steps a) e h;
  };
}
  where
    not_known : checker_rules.knows from v ≡ false
    not_known = known_as from old v valid.may valid.said ∙ ap (λ b. (let x : Variable = cond b initial_variable (record { known = true; mode = checker_mode (data_at old v).sampling_mode; name = user_of old v }) in x).known) room.unused

    accepted : checker_rules.Accepts from (UserVarName v (Some user))
    accepted = (sessions_are_accepted (UserVarName v (Some user) ∷ from) (valid.may, step_may old from user v valid free room within small new put)).0.1

pub none_brought : (n : Variables) (log : List Step) → NamesInvariant n log → IntroducesAll n n log log []
none_brought n log valid = record { valid = valid; extends = extends_same n; unseen = unseen_same n log; comes = comes_none IsDue log; kept = λ j live a. record { live = live; agree = a; trace = no_step } }

pub one_then : (old mid new : Variables) (from mids to : List Step) (user v : ℕ) (names : List ℕ) → IntroducesOne old mid from mids user v → IntroducesAll mid new mids to names → IntroducesAll old new from to ((user + 1) ∷ names)
one_then old mid new from mids to user v names one rest = record {
  valid = rest.valid;
  extends = extends_both old mid new one.extends rest.extends;
  unseen = unseen_both old mid new from mids to one.unseen rest.unseen;
  comes = comes_both IsDue from mids to (comes_one IsDue from mids (UserVarName v (Some user)) one.step one.next) rest.comes;
  kept = λ j live a.
      let k = rest.kept (with_name (user + 1) j) ((v, j.identity_count) ∷ live) (one.kept j live a) in
      record {
        live = k.live;
        agree = k.agree;
        trace = visible (new_name refl one.unknown) (subst (λ steps. HasTrace checker_rules steps to (map NewName names)) one.step k.trace);
      };
}

-- the first of these names, and the rest
pub next_of : (user w : ℕ) → w ≤ user → names_from (user + 1 - w) (w + 1) ≡ (w + 1) ∷ names_from (user + 1 - (w + 1)) (w + 1 + 1)
next_of user w le = let e : user + 1 - w ≡ suc (user + 1 - (w + 1)) = omega arith in ap (λ k. names_from k (w + 1)) e

pub none_of : (user w : ℕ) → user < w → names_from (user + 1 - w) (w + 1) ≡ []
none_of user w lt = let e : user + 1 - w ≡ 0 = omega arith in ap (λ k. names_from k (w + 1)) e

-- introducing one name reduces the rest that is to be introduced
pub comes : (old mid : Variables) (from mids : List Step) (user v w : ℕ) → w ≤ user → IntroducesOne old mid from mids w v → names_used old ≡ w
    → (new : Variables) (to : List Step) → IntroducesAll mid new mids to (names_from (user + 1 - (w + 1)) (w + 1 + 1)) → IntroducesAll old new from to (names_from (user + 1 - w) (w + 1))
comes old mid from mids user v w le one used new to rest =
    subst (IntroducesAll old new from to) (sym (next_of user w le)) (one_then old mid new from mids to w v (names_from (user + 1 - (w + 1)) (w + 1 + 1)) one rest)

-- Names below `index` were introduced; introducing the rest introduces all.
pub record Coming (old now : Variables) (from log : List Step) (user index : ℕ) : Type 0 where
  pub valid : NamesInvariant now log
  pub used : names_used now ≡ index
  pub low : index ≤ user
  pub room : (us : List ℕ) → HasVariablesFor old (user ∷ us) → HasVariablesFor now (user ∷ us)
  pub rest : (new : Variables) (to : List Step) → IntroducesAll now new log to (names_from (user + 1 - index) (index + 1)) → IntroducesAll old new from to (names_from (user + 1 - names_used old) (names_used old + 1))

pub none_yet : (old : Variables) (from : List Step) (user index : ℕ) → NamesInvariant old from → index ≡ names_used old → names_used old ≤ user → Coming old old from from user index
none_yet old from user index valid e le = record { valid = valid; used = sym e; low = subst (λ k. k ≤ user) (sym e) le; room = λ us h. h; rest = λ new to all. subst (λ w. IntroducesAll old new from to (names_from (user + 1 - w) (w + 1))) e all }

pub unused : (n : Variables) (w : ℕ) → names_used n ≡ w → global_of n w ≡ None
unused n w e = get_or_past n.global_from_user.fwd w None (omega arith)

pub one_came : (old mid new : Variables) (from mids to : List Step) (user v index : ℕ) → Coming old mid from mids user index → index < user → IntroducesOne mid new mids to index v → Coming old new from to user (index + 1)
one_came old mid new from mids to user v index c lt one = record {
  valid = one.valid;
  low = omega arith;
  used = let a = one.used in let b = c.used in omega arith;
  room = λ us h. room_one mid new index v (unused mid index c.used) (let b = c.used in omega arith) one.named one.used one.live (user ∷ us) (room_below mid index user us (let b = c.used in omega arith) c.low (c.room us h));
  rest = λ last end all. c.rest last end (comes mid new mids to user v index c.low one c.used last end all);
}

pub last_came : (old mid new : Variables) (from mids to : List Step) (user v : ℕ) → Coming old mid from mids user user → IntroducesOne mid new mids to user v → IntroducesAll old new from to (names_from (user + 1 - names_used old) (names_used old + 1))
last_came old mid new from mids to user v c one =
    c.rest new to (comes mid new mids to user v user (omega arith) one c.used new to (subst (IntroducesAll new new to to) (sym (none_of user (user + 1) (omega arith))) (none_brought new to one.valid)))

pub last_room : (old mid new : Variables) (from mids to : List Step) (user v : ℕ) → Coming old mid from mids user user → IntroducesOne mid new mids to user v → LeavesRoom old new user
last_room old mid new from mids to user v c one us h = room_one mid new user v (unused mid user c.used) (let b = c.used in omega arith) one.named one.used one.live us (c.room us h)

-- a variable is left for every remaining name
pub room_left : (old mid : Variables) (from mids : List Step) (user index : ℕ) (us : List ℕ) → Coming old mid from mids user index → HasVariablesFor old (user ∷ us) → live_count mid < var_limit
room_left old mid from mids user index us c h = room_less mid user us (get_or_past mid.global_from_user.fwd user None (let a = c.used in let b = c.low in omega arith)) (c.room us h)

pub last_named : (mid new : Variables) (mids to : List Step) (user v : ℕ) → IntroducesOne mid new mids to user v → global_of new user ≡ Some v
last_named mid new mids to user v one = one.named user ∙ ap (λ b. cond b (Some v) (global_of mid user)) (eq-eqb user user refl)

pub on_one : {A E : Type 0} (r : Result A E) (P : A → Type 0) (Q : Type 0) → IfOk r P → ((x : A) → P x → Q) → OnOk r Q
on_one (Ok x) P Q p f = f x p
on_one (Err e) P Q p f = tt
