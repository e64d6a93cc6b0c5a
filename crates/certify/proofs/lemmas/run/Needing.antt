-- If no variable is left for a name, more identities are needed than there can be variables.
use Rattle.std.proofs.Common.{ℕ, zero, suc, ◌+◌, ◌-◌, ◌<◌, ◌≤◌, ◌≡◌, ◌≢◌, ◌∙◌, Bool, true, false, not, ◌&&◌, ◌||◌, cond, ltb, Option, Some, None, is_some, List, [], ◌∷◌, ◌++◌, map, length, inl, inr, refl, sym, ap, subst, arith}
use Rattle.std.specs.List.{AllByRecursion}
use Rattle.std.proofs.lemmas.List.{length-map}
use Rattle.std.proofs.lemmas.Bool.{eq-eqb, ne_eqb, cases_eq, cases_lt, ltb-true, ltb-false}
use Rattle.sat_base.specs.values.Literals.{var_limit, variable}
use Rattle.sat_base.specs.script.Script.{Command, Clause, Ask, Hide, Witness, Sample, names_of}
use Rattle.sat_base.specs.script.ScriptState.{ScriptState, NameMode, Sampled, Witnessed, state_after_accepted, after_command, after_script, introduce_all, introduce, hide_all, identity_of, names_from, new_names, refusal_of, set_mode_all, with_mode, with_name, with_names, without_name}
use Rattle.sat_base.proofs.lemmas.script.LiteralValues.{placed_found}
use Rattle.sat_base.specs.steps.Steps.{Step}
use Rattle.sat_checker.specs.LiteralSets.{is_among}
use Rattle.sat_checker.specs.SortedSets.{NoRepeats}
use Rattle.sat_checker.specs.matching.Bridge.{AreDistinctVariables, LiveVariables}
use Rattle.sat_checker.specs.matching.ProofChecking.{checker_rules}
use Rattle.sat_solver.specs.declared.variables.Variables.{Variables}
use Rattle.sat_solver.specs.variables.Calls.{NamesAgree}
use Rattle.sat_solver.specs.variables.Counting.{count_to}
use Rattle.sat_solver.specs.variables.Live.{given, given_of}
use Rattle.sat_solver.specs.variables.Refusing.{names_in}
use Rattle.sat_solver.specs.variables.VariableRoom.{HasVariablesFor, introduced_count, is_hidden_name, is_listed, live_count, reach, user_vars_in}
use Rattle.sat_solver.specs.variables.Variables.{global_of, names_used, variables_used}
use Rattle.sat_solver.specs.facade.States.{IsInState}
use Rattle.sat_solver.proofs.lemmas.variables.Counts.{count_le, count_longer, count_more, count_part, count_same, count_suc, count_zero}
use Rattle.sat_solver.proofs.lemmas.variables.RoomLemmas.{is_live, reach_low}
use Rattle.certify.specs.answers.AnswerForms.{named_literals}
use Rattle.certify.specs.declared.refusals.NameState.{NameState}
use Rattle.certify.specs.declared.refusals.NameState.TheVariants as state
use Rattle.certify.specs.declared.summary.AskReport.{AskReport}
use Rattle.certify.specs.run.LackingVariables.{CommandLacksVariables, LacksVariables, introduced_for}
use Rattle.certify.specs.run.SolverCalls.{AssumptionsAccepted, LacksVariablesFor, RefusedForRoom, Searched}
use Rattle.certify.specs.run.NonAskCommands.{NonAskCarriedOut, command_for_state}
use Rattle.certify.specs.run.RunSolver.{Solver}
use Rattle.certify.proofs.lemmas.run.NamesIn.{names_same}
use Rattle.certify.proofs.lemmas.run.Obeys.{accepted_both}
use Rattle.certify.proofs.lemmas.run.RunStateCalls.{agree_still}

-- NEW NAMES

-- `is_asked j users u` is true if the name with index `u` is one of those listed, and not in use.
abbrev is_asked : ScriptState → List ℕ → ℕ → Bool
is_asked j users u = not (is_some (identity_of j (u + 1))) && is_listed users u

from_next : (count first : ℕ) (j : ScriptState) → (with_names (names_from count first) j).identity_count ≡ j.identity_count + count
from_next zero first j = omega arith
from_next (suc k) first j = let r = from_next k (first + 1) (with_name first j) in omega arith

from_first : (count first : ℕ) (j : ScriptState) → j.first_unused ≡ first → (with_names (names_from count first) j).first_unused ≡ first + count
from_first zero first j e = omega arith
from_first (suc k) first j e = let r = from_first k (first + 1) (with_name first j) (omega arith) in omega arith

other_name : (j : ScriptState) (name m : ℕ) → name ≢ m → identity_of (with_name name j) m ≡ identity_of j m
other_name j name m ne = placed_found (record { name = name; identity = j.identity_count }) j.in_use m ∙ ap (λ b. cond b (Some j.identity_count) (identity_of j m)) (ne_eqb name m ne)

same_name : (j : ScriptState) (name : ℕ) → identity_of (with_name name j) name ≡ Some j.identity_count
same_name j name = placed_found (record { name = name; identity = j.identity_count }) j.in_use name ∙ ap (λ b. cond b (Some j.identity_count) (identity_of j name)) (eq-eqb name name refl)

from_others : (count first m : ℕ) (j : ScriptState) → m < first → identity_of (with_names (names_from count first) j) m ≡ identity_of j m
from_others zero first m j lt = refl
from_others (suc k) first m j lt = from_others k (first + 1) m (with_name first j) (omega arith) ∙ other_name j first m (λ e. omega arith)

listed_other : (u k : ℕ) (us : List ℕ) → u ≢ k → is_listed (u ∷ us) k ≡ is_listed us k
listed_other u k us ne = ap (λ b. b || is_listed us k) (ne_eqb u k ne)

no_one : (n : ℕ) → count_to n (λ k. false) ≡ 0
unfolding count_to
no_one zero = refl
no_one (suc n) = let h = no_one n in omega arith

never : (b : Bool) → (b && false) ≡ false
never true = refl
never false = refl

count_none : (n : ℕ) (j : ScriptState) → count_to n (is_asked j []) ≡ 0
count_none n j = count_same n (is_asked j []) (λ k. false) (λ k lt. never (not (is_some (identity_of j (k + 1))))) ∙ no_one n

-- `Brings us` holds if introducing these names creates an identity for each new name.
abbrev Brings : List ℕ → Type 0
Brings us = (used : ℕ) (j : ScriptState) → j.first_unused ≡ used + 1 → j.identity_count + (reach used us - used) + count_to used (is_asked j us) ≤ (introduce_all (map (λ u. u + 1) us) j).identity_count

module _ (u : ℕ) (us : List ℕ) (later : Brings us) (used : ℕ) (j : ScriptState) (e : j.first_unused ≡ used + 1) where
  abbrev Goal : ScriptState → Type 0
  Goal i = j.identity_count + (reach used (u ∷ us) - used) + count_to used (is_asked j (u ∷ us)) ≤ (introduce_all (map (λ w. w + 1) us) i).identity_count

  one_kept : (i : ℕ) → u < used → identity_of j (u + 1) ≡ Some i → Goal j
  one_kept i lt f =
      let h = later used j e in
      let t : reach used (u ∷ us) ≡ reach used us = ap (λ k. reach k us) (omega arith) in
      let c = count_same used (is_asked j (u ∷ us)) (is_asked j us) (λ k low. each k) in
      omega arith
    where
      each : (k : ℕ) → is_asked j (u ∷ us) k ≡ is_asked j us k
      each k = elim (cases_eq u k) [
        | inl q ↦ (let there : identity_of j (k + 1) ≡ Some i = ap (λ w. identity_of j (w + 1)) (sym q) ∙ f in ap (λ o. not (is_some o) && is_listed (u ∷ us) k) there ∙ sym (ap (λ o. not (is_some o) && is_listed us k) there))
        | inr ne ↦ ap (λ b. not (is_some (identity_of j (k + 1))) && b) (listed_other u k us ne)
      ]

  one_again : u < used → identity_of j (u + 1) ≡ None → Goal (with_name (u + 1) j)
  one_again lt f =
      let h = later used (with_name (u + 1) j) (omega arith) in
      let t : reach used (u ∷ us) ≡ reach used us = ap (λ k. reach k us) (omega arith) in
      let c = count_more used u (is_asked (with_name (u + 1) j) us) (is_asked j (u ∷ us)) lt here there others in
      omega arith
    where
      here : is_asked (with_name (u + 1) j) us u ≡ false
      here = ap (λ o. not (is_some o) && is_listed us u) (same_name j (u + 1))

      there : is_asked j (u ∷ us) u ≡ true
      there = ap (λ o. not (is_some o) && is_listed (u ∷ us) u) f ∙ ap (λ b. b || is_listed us u) (eq-eqb u u refl)

      others : (k : ℕ) → k ≢ u → is_asked j (u ∷ us) k ≡ is_asked (with_name (u + 1) j) us k
      others k ne = ap (λ b. not (is_some (identity_of j (k + 1))) && b) (listed_other u k us (λ q. ne (sym q))) ∙ ap (λ o. not (is_some o) && is_listed us k) (sym (other_name j (u + 1) (k + 1) (λ q. ne (omega arith))))

  one_first : (count : ℕ) → used ≤ u → count + used ≡ u + 1 → Goal (with_names (names_from count (used + 1)) j)
  one_first count le size =
      let r = from_first count (used + 1) j e in
      let h = later (u + 1) next (omega arith) in
      let n = from_next count (used + 1) j in
      let t : reach used (u ∷ us) ≡ reach (u + 1) us = ap (λ k. reach k us) (omega arith) in
      let low = reach_low us (u + 1) in
      let c = count_same used (is_asked j (u ∷ us)) (is_asked next us) each in
      let l = count_longer used (u + 1) (is_asked next us) (omega arith) in
      omega arith
    where
      next : ScriptState
      next = with_names (names_from count (used + 1)) j

      each : (k : ℕ) → k < used → is_asked j (u ∷ us) k ≡ is_asked next us k
      each k lt = ap (λ b. not (is_some (identity_of j (k + 1))) && b) (listed_other u k us (λ q. omega arith)) ∙ ap (λ o. not (is_some o) && is_listed us k) (sym (from_others count (used + 1) (k + 1) j (omega arith)))

  one_more : (x : Bool) → ltb (u + 1) j.first_unused ≡ x → (o : Option ℕ) → identity_of j (u + 1) ≡ o
      → Goal (with_names (cond x (cond (is_some o) [] ((u + 1) ∷ [])) (names_from (u + 1 + 1 - j.first_unused) j.first_unused)) j)
  one_more true x (Some i) f = one_kept i (let lt = ltb-true (u + 1) j.first_unused x in omega arith) f
  one_more true x None f = one_again (let lt = ltb-true (u + 1) j.first_unused x in omega arith) f
  one_more false x o f =
      let le : used ≤ u = (let k = ltb-false (u + 1) j.first_unused x in omega arith) in
      let count : ℕ = u + 1 + 1 - j.first_unused in
      subst (λ first. Goal (with_names (names_from count first) j)) (sym e) (one_first count le (omega arith))

-- introducing names creates an identity for each new name
brings : (us : List ℕ) → Brings us
brings [] used j e = let z = count_none used j in omega arith
brings (u ∷ us) used j e = one_more u us (brings us) used j e (ltb (u + 1) j.first_unused) refl (identity_of j (u + 1)) refl

-- THE NUMBER OF IDENTITIES NEVER DECREASES

grows : (names : List ℕ) (j : ScriptState) → j.identity_count ≤ (with_names names j).identity_count
grows [] j = omega arith
grows (n ∷ ns) j = let r = grows ns (with_name n j) in omega arith

all_grow : (names : List ℕ) (j : ScriptState) → j.identity_count ≤ (introduce_all names j).identity_count
all_grow [] j = omega arith
all_grow (n ∷ ns) j = let r = all_grow ns (introduce n j) in let q = grows (new_names n j) j in omega arith

hidden_grow : (names : List ℕ) (j : ScriptState) → j.identity_count ≤ (hide_all names j).identity_count
hidden_grow [] j = omega arith
hidden_grow (n ∷ ns) j = let r = hidden_grow ns (without_name n (introduce n j)) in let q = grows (new_names n j) j in omega arith

set_grow : (mode : NameMode) (names : List ℕ) (j : ScriptState) → j.identity_count ≤ (set_mode_all mode names j).identity_count
set_grow mode [] j = omega arith
set_grow mode (n ∷ ns) j = let r = set_grow mode ns (with_mode mode n (introduce n j)) in let q = grows (new_names n j) j in omega arith

pub command_grows : (c : Command) (j : ScriptState) → j.identity_count ≤ (state_after_accepted c j).identity_count
command_grows (Clause ls) j = all_grow (names_of ls) j
command_grows (Ask ls) j = all_grow (names_of ls) j
command_grows (Hide names) j = hidden_grow names j
command_grows (Witness names) j = set_grow Witnessed names j
command_grows (Sample names) j = set_grow Sampled names j

after_grows : (c : Command) (j : ScriptState) → j.identity_count ≤ (after_command c j).identity_count
after_grows c j = go (is_some (refusal_of j c))
  where
    go : (b : Bool) → j.identity_count ≤ (cond b j (state_after_accepted c j)).identity_count
    go true = omega arith
    go false = command_grows c j

pub script_grows : (cs : List Command) (j : ScriptState) → j.identity_count ≤ (after_script cs j).identity_count
script_grows [] j = omega arith
script_grows (c ∷ cs) j = let r = script_grows cs (after_command c j) in let q = after_grows c j in omega arith

-- NAMES THAT A SOLVER INTRODUCES

-- the solver introduces at most as many names as the script state
introduced : (n : Variables) (steps : List Step) (j : ScriptState) (live : LiveVariables) (users : List ℕ) → NamesAgree n steps j live → j.identity_count + introduced_count n users ≤ (introduce_all (map (λ u. u + 1) users) j).identity_count
introduced n steps j live users agree =
    let used = names_used n in
    let h = brings users used j agree.judged.first_unused in
    let c = count_part used (is_hidden_name n users) (is_asked j users) hidden in
    omega arith
  where
    at : (o : Option ℕ) (b : Bool) → (not (is_some o) && b) ≡ true → (not (is_some (given_of live o)) && b) ≡ true
    at None b h = h
    at (Some v) b h = absurd (cc)

    hidden : (k : ℕ) → is_hidden_name n users k ≡ true → is_asked j users k ≡ true
    hidden k h = ap (λ o. not (is_some o) && is_listed users k) (agree.judged.names k) ∙ at (global_of n k) (is_listed users k) h

-- MISSING VARIABLES

-- if variables are missing for names, introducing them leads to more identities than there can be variables
all_need : (n : Variables) (steps : List Step) (j : ScriptState) (live : LiveVariables) (users : List ℕ) → NamesAgree n steps j live → (HasVariablesFor n users → ⊥) → var_limit < (introduce_all (map (λ u. u + 1) users) j).identity_count
all_need n steps j live users agree lacks =
    let h = introduced n steps j live users agree in
    let l = count_le (variables_used n) (is_live n) in
    let i = agree.judged.identities in
    let g = all_grow (map (λ u. u + 1) users) j in
    elim (cases_lt var_limit (live_count n + introduced_count n users)) [ inl lt ↦ omega arith | inr le ↦ absurd (lacks le) ]

-- the proof variables in use
abbrev vars : LiveVariables → List ℕ
vars live = map (λ (p : ℕ × ℕ). p.0) live

other_in : (v : ℕ) (live : LiveVariables) → AllByRecursion (λ (q : ℕ × ℕ). q.0 ≡ v → ⊥) live → is_among (vars live) v ≡ false
other_in v [] h = refl
other_in v (q ∷ qs) h = ap (λ b. b || is_among (vars qs) v) (ne_eqb q.0 v h.0) ∙ other_in v qs h.1

apart_once : (live : LiveVariables) → AreDistinctVariables live → NoRepeats (vars live)
apart_once [] h = tt
apart_once (p ∷ ps) h = (other_in p.0 ps h.0, apart_once ps h.1)

known_vars : (steps : List Step) (live : LiveVariables) → AllByRecursion (λ (p : ℕ × ℕ). checker_rules.knows steps p.0 ≡ true) live → AllByRecursion (λ v. checker_rules.knows steps v ≡ true) (vars live)
known_vars steps [] h = tt
known_vars steps (p ∷ ps) h = (h.0, known_vars steps ps h.1)

-- tests that differ for at most one number have counts that differ by at most one
differ_once : (m i : ℕ) (f g : ℕ → Bool) → ((k : ℕ) → k ≢ i → f k ≡ g k) → count_to m f ≤ count_to m g + 1
differ_once zero i f g h = let e = count_zero f in omega arith
differ_once (suc m) i f g h = elim (cases_eq m i) [
  | inl e ↦
      (let s = count_same m f g (λ k lt. h k (λ q. omega arith)) in
      let a = count_suc m f in
      let b = count_suc m g in
      let c = one (f m) in
      omega arith)
  | inr ne ↦
      (let r = differ_once m i f g h in
      let a = count_suc m f ∙ ap (λ t. count_to m f + cond t 1 0) (h m ne) in
      let b = count_suc m g in
      omega arith)
]
  where
    one : (b : Bool) → cond b 1 0 ≤ 1
    one true = omega arith
    one false = omega arith

other_given : (p : ℕ × ℕ) (ps : LiveVariables) (v : ℕ) → v ≢ p.0 → is_some (given (p ∷ ps) v) ≡ is_some (given ps v)
other_given p ps v ne = ap (λ b. is_some (cond b (Some p.1) (given ps v))) (ne_eqb p.0 v (λ e. ne (sym e)))

given_few : (m : ℕ) (live : LiveVariables) → count_to m (λ v. is_some (given live v)) ≤ length live
given_few m [] = let e = no_one m in omega arith
given_few m (p ∷ ps) = let d = differ_once m p.0 (λ v. is_some (given (p ∷ ps) v)) (λ v. is_some (given ps v)) (other_given p ps) in let r = given_few m ps in omega arith

-- if the solver lacks variables for names, so do its steps
lacks_variables : (n : Variables) (steps : List Step) (j : ScriptState) (live : LiveVariables) (users : List ℕ) → NamesAgree n steps j live → (HasVariablesFor n users → ⊥) → LacksVariables steps (introduced_for (map (λ u. u + 1) users) j)
lacks_variables n steps j live users agree lacks = record {
  in_use = vars live;
  once = apart_once live agree.judged.once;
  known = known_vars steps live agree.bridge.known;
  more =
      let h = introduced n steps j live users agree in
      let s = count_same (variables_used n) (is_live n) (λ v. is_some (given live v)) (λ v lt. sym (agree.judged.in_use v)) in
      let f = given_few (variables_used n) live in
      let l : length (vars live) ≡ length live = length-map live (λ (p : ℕ × ℕ). p.0) in
      elim (cases_lt var_limit (live_count n + introduced_count n users)) [ inl lt ↦ omega arith | inr le ↦ absurd (lacks le) ];
}

lacks_more : (steps : List Step) (k l : ℕ) → k ≤ l → LacksVariables steps k → LacksVariables steps l
lacks_more steps k l le h = record { in_use = h.in_use; once = h.once; known = h.known; more = let m = h.more in omega arith }

users_names : (ls : List ℕ) → map (λ u. u + 1) (user_vars_in ls) ≡ names_in ls
users_names [] = refl
users_names (l ∷ ls) = ap (λ xs. (variable l + 1) ∷ xs) (users_names ls)

-- the names of literals, as scripts write them
names_of_users : (ls : List ℕ) → map (λ u. u + 1) (user_vars_in ls) ≡ names_of (named_literals ls)
names_of_users ls = users_names ls ∙ sym (names_same ls)

-- COMMANDS

module _ (s t : Solver) where
  steps_same : t ≡ s → s.steps ≡ t.steps
  steps_same e = ap (λ (x : Solver). x.steps) (sym e)

  both_need : (users : List ℕ) → RefusedForRoom s t users → (j : ScriptState) (live : LiveVariables) → IsInState s j live
      → (var_limit < (introduce_all (map (λ u. u + 1) users) j).identity_count) × LacksVariables t.steps (introduced_for (map (λ u. u + 1) users) j)
  both_need users h j live agree = (
    all_need s.names s.steps j live users agree.agree h.0,
    subst (λ steps. LacksVariables steps (introduced_for (map (λ u. u + 1) users) j)) (steps_same h.1) (lacks_variables s.names s.steps j live users agree.agree h.0),
  )

  literals_need : (ls : List ℕ) → RefusedForRoom s t (user_vars_in ls) → (j : ScriptState) (live : LiveVariables) → IsInState s j live
      → (var_limit < (introduce_all (names_of (named_literals ls)) j).identity_count) × LacksVariables t.steps (introduced_for (names_of (named_literals ls)) j)
  literals_need ls h j live agree = subst (λ names. (var_limit < (introduce_all names j).identity_count) × LacksVariables t.steps (introduced_for names j)) (names_of_users ls) (both_need (user_vars_in ls) h j live agree)

  pub clause_needs : (ls : List ℕ) → RefusedForRoom s t (user_vars_in ls) → LacksVariablesFor s t (Clause (named_literals ls))
  clause_needs ls h j live agree = literals_need ls h j live agree

  pub ask_needs : (ls : List ℕ) → RefusedForRoom s t (user_vars_in ls) → LacksVariablesFor s t (Ask (named_literals ls))
  ask_needs ls h j live agree = literals_need ls h j live agree

-- a command about one name creates the identities that introducing the name creates
one_needs : (st : NameState) (name : ℕ) (j : ScriptState) → var_limit < (introduce_all (name ∷ []) j).identity_count → var_limit < (state_after_accepted (command_for_state st (name ∷ [])) j).identity_count
one_needs state.Hidden name j h = h
one_needs state.Sampled name j h = h
one_needs state.Witnessed name j h = h

next_lacks : (st : NameState) (names : List ℕ) (j : ScriptState) (steps : List Step) (first : List ℕ) (name : ℕ) (following : List ℕ) → names ≡ first ++ (name ∷ following)
    → LacksVariables steps (introduced_for (name ∷ []) (state_after_accepted (command_for_state st first) j)) → CommandLacksVariables j (command_for_state st names) steps
next_lacks state.Hidden names j steps first name following e h = record { first = first; name = name; following = following; whole = e; lacks = h }
next_lacks state.Sampled names j steps first name following e h = record { first = first; name = name; following = following; whole = e; lacks = h }
next_lacks state.Witnessed names j steps first name following e h = record { first = first; name = name; following = following; whole = e; lacks = h }

-- a command lacks variables if one of its names does, after the names before it
pub names_need_more : (st : NameState) (xs zs : List ℕ) (user : ℕ) (a b c : Solver) → NonAskCarriedOut (command_for_state st xs) a b → RefusedForRoom b c (user ∷ [])
    → LacksVariablesFor a c (command_for_state st (xs ++ ((user + 1) ∷ zs)))
names_need_more st xs zs user a b c done refused j live agree =
    let k = done.keeps j live agree in
    let mid = state_after_accepted (command_for_state st xs) j in
    let both = both_need b c (user ∷ []) refused mid k.0 k.1 in
    let h = one_needs st (user + 1) mid both.0 in
    let g = command_grows (command_for_state st zs) (state_after_accepted (command_for_state st ((user + 1) ∷ [])) mid) in (
      subst (λ i. var_limit < i.identity_count) (sym (accepted_both st xs ((user + 1) ∷ zs) j ∙ accepted_both st ((user + 1) ∷ []) zs mid)) (omega arith),
      next_lacks st (xs ++ ((user + 1) ∷ zs)) j c.steps xs (user + 1) zs refl both.1,
    )

-- if variables are missing when the assumptions of an ask are removed, the ask lacks variables
pub none_needs : (a b c d : Solver) (user : List ℕ) (budget : ℕ) (report : AskReport) → AssumptionsAccepted a b user → Searched budget report b c → RefusedForRoom c d []
    → LacksVariablesFor a d (Ask (named_literals user))
none_needs a b c d user budget report opened s refused j live agree =
    let n = agree_still a b c user budget report opened s j live agree in
    let both = both_need c d [] refused (introduce_all (names_in user) j) n.0 n.1 in
    subst (λ names. (var_limit < (introduce_all names j).identity_count) × LacksVariables d.steps (introduced_for names j)) (sym (names_same user))
    (both.0, lacks_more d.steps (introduced_for [] (introduce_all (names_in user) j)) (introduced_for (names_in user) j) (omega arith) both.1)
