-- Every name that is introduced needs a variable.
use Rattle.std.proofs.Common.{ℕ, zero, suc, ◌+◌, ◌-◌, ◌<◌, ◌≤◌, ◌≡◌, ◌≢◌, max, Bool, true, false, not, ◌&&◌, ◌||◌, cond, eqb, ltb, lt-ltb, List, [], ◌∷◌, drop, take, length, length-drop, get_or, None, Some, is_some, Result, Ok, Err, IfErr, refl, sym, ◌∙◌, ap, subst, arith, inl, inr}
use Rattle.std.specs.Prelude.{IsErrAnd}
use Rattle.std.proofs.lemmas.Bool.{eq-eqb, ne_eqb, le-ltb, cases_eq, cases_lt, ltb-true, true≢false}
use Rattle.std.proofs.lemmas.List.{get_or_past, drop_more, take_all, length-map}
use Rattle.std.proofs.lemmas.Result.{err_from_is_err_and}
use Rattle.sat_base.specs.values.Literals.{var_limit, variable}
use Rattle.sat_checker.specs.LiteralSets.{mentions}
use Rattle.sat_store.specs.variables.VarData.{user_variable, unused_variable}
use Rattle.sat_store.specs.variables.Maps.{target}
use Rattle.sat_solver.specs.declared.variables.error.NameError.{NameError}
use Rattle.sat_solver.specs.declared.variables.error.NameError.TheVariants as errors
use Rattle.sat_solver.specs.declared.variables.Variables.{Variables}
use Rattle.sat_solver.specs.variables.Counting.{count_to}
use Rattle.sat_solver.specs.variables.NameFailures.{IsFailure, FailsByVariableLimitOrFault}
use Rattle.sat_solver.specs.variables.Free.{is_free}
use Rattle.sat_solver.specs.variables.Naming.{IsVariableForName, NoVariableLeft, StoresName}
use Rattle.sat_solver.specs.variables.VariableRoom.{live_count, is_listed, reach, introduced_count, is_hidden_name, hidden_count, HasVariablesFor, ReportsRoom, user_vars_in}
use Rattle.sat_solver.specs.variables.Variables.{VariablesInvariant, data_at, global_of, names_used, variables_used}
use Rattle.sat_solver.proofs.lemmas.variables.Counts.{count_zero, count_changed, count_suc, count_same, count_reach, count_more, count_le, count_full, count_some, count_not}

-- VARIABLES IN USE

abbrev pub is_live : Variables → ℕ → Bool
is_live n v = not (data_at n v).deleted

pub live_most : (n : Variables) → VariablesInvariant n → live_count n ≤ var_limit
live_most n tidy = let l = count_le (variables_used n) (is_live n) in let w = tidy.within in omega arith

not_not : (b : Bool) → not (not b) ≡ b
not_not true = refl
not_not false = refl

-- the other variables are free
pub live_others : (n : Variables) → VariablesInvariant n → live_count n + n.free_globals.count ≡ variables_used n
live_others n tidy =
    let counted = tidy.spans_globals.tree.counted in
    let past = count_reach (variables_used n) n.free_globals.room (is_free n.free_globals) tidy.spans_globals.room (λ k le. tidy.free_globals k ∙ ap (λ b. b && (data_at n k).deleted) (le-ltb k (variables_used n) le)) in
    let same = count_same (variables_used n) (is_free n.free_globals) (λ v. not (is_live n v)) (λ k lt. tidy.free_globals k ∙ ap (λ b. b && (data_at n k).deleted) (lt-ltb k (variables_used n) lt) ∙ sym (not_not (data_at n k).deleted)) in
    let both = count_not (variables_used n) (is_live n) in
    omega arith

-- if no variable is left, the number in use is the limit
pub live_full : (n : Variables) → VariablesInvariant n → NoVariableLeft n → live_count n ≡ var_limit
live_full n tidy none = ap (λ k. count_to k (is_live n)) same ∙ count_full var_limit (is_live n) (λ k lt. ap not (none k lt))
  where
    same : variables_used n ≡ var_limit
    same = elim (cases_lt (variables_used n) var_limit) [
      | inl lt ↦ absurd (true≢false (sym (ap (λ d. d.deleted) (get_or_past n.var_data.items (variables_used n) unused_variable (omega arith))) ∙ none (variables_used n) lt))
      | inr le ↦ (let w = tidy.within in omega arith)
    ]

-- one more variable is in use
pub live_named : (old new : Variables) (user v : ℕ) → IsVariableForName old user v → StoresName old new user v → live_count new ≡ live_count old + 1
live_named old new user v room put =
    let size = put.count in
    count_more (variables_used new) v (is_live old) (is_live new) (omega arith) (ap not room.unused) (ap (λ d. not d.deleted) (put.kept v ∙ ap (λ b. cond b user_variable (data_at old v)) (eq-eqb v v refl)))
    (λ k ne. ap (λ d. not d.deleted) (put.kept k ∙ ap (λ b. cond b user_variable (data_at old k)) (ne_eqb k v ne)))
    ∙ ap (λ c. c + 1) (count_reach (variables_used old) (variables_used new) (is_live old) (omega arith) (λ k le. ap (λ d. not d.deleted) (get_or_past old.var_data.items k unused_variable le)))

-- NAMES ARE INTRODUCED

pub reach_low : (us : List ℕ) (used : ℕ) → used ≤ reach used us
reach_low [] used = omega arith
reach_low (u ∷ us) used = let r = reach_low us (max used (u + 1)) in omega arith

-- a name other than the first is listed among the rest
listed_other : (user k : ℕ) (us : List ℕ) → user ≢ k → is_listed (user ∷ us) k ≡ is_listed us k
listed_other user k us ne = ap (λ b. b || is_listed us k) (ne_eqb user k ne)

hidden_other : (n : Variables) (user k : ℕ) (us : List ℕ) → user ≢ k → is_hidden_name n (user ∷ us) k ≡ is_hidden_name n us k
hidden_other n user k us ne = ap (λ b. not (is_some (global_of n k)) && b) (listed_other user k us ne)

hidden_here : (n : Variables) (user : ℕ) (us : List ℕ) → global_of n user ≡ None → is_hidden_name n (user ∷ us) user ≡ true
hidden_here n user us free = ap (λ o. not (is_some o) && is_listed (user ∷ us) user) free ∙ ap (λ b. b || is_listed us user) (eq-eqb user user refl)

-- a name that isn't in use takes a variable
pub room_one : (old new : Variables) (user v : ℕ) → global_of old user ≡ None → user ≤ names_used old → ((u : ℕ) → global_of new u ≡ cond (eqb u user) (Some v) (global_of old u)) → names_used new ≡ max (names_used old) (user + 1) → live_count new ≡ live_count old + 1
    → (us : List ℕ) → HasVariablesFor old (user ∷ us) → HasVariablesFor new us
room_one old new user v free low named used live us h = elim (cases_lt user (names_used old)) [ inl lt ↦ again lt | inr le ↦ first le ]
  where
    top : reach (max (names_used old) (user + 1)) us ≡ reach (names_used new) us
    top = ap (λ k. reach k us) (sym used)

    here : is_hidden_name new us user ≡ false
    here = ap (λ o. not (is_some o) && is_listed us user) (named user ∙ ap (λ b. cond b (Some v) (global_of old user)) (eq-eqb user user refl))

    others : (k : ℕ) → k ≢ user → is_hidden_name old (user ∷ us) k ≡ is_hidden_name new us k
    others k ne = hidden_other old user k us (λ e. ne (sym e)) ∙ ap (λ o. not (is_some o) && is_listed us k) (sym (named k ∙ ap (λ b. cond b (Some v) (global_of old k)) (ne_eqb k user ne)))

    again : user < names_used old → HasVariablesFor new us
    again lt =
        let same : names_used new ≡ names_used old = omega arith in
        let c = count_more (names_used old) user (is_hidden_name new us) (is_hidden_name old (user ∷ us)) lt here (hidden_here old user us free) others in
        let d : count_to (names_used new) (is_hidden_name new us) ≡ count_to (names_used old) (is_hidden_name new us) = ap (λ k. count_to k (is_hidden_name new us)) same in
        let t = top in
        omega arith

    first : names_used old ≤ user → HasVariablesFor new us
    first le =
        let at : names_used old ≡ user = omega arith in
        let same : names_used new ≡ suc (names_used old) = omega arith in
        let c : count_to (names_used new) (is_hidden_name new us) ≡ count_to (names_used old) (is_hidden_name new us) + 0 =
        ap (λ k. count_to k (is_hidden_name new us)) same ∙ count_suc (names_used old) (is_hidden_name new us) ∙ ap (λ b. count_to (names_used old) (is_hidden_name new us) + cond b 1 0) (ap (is_hidden_name new us) at ∙ here) in
        let d = count_same (names_used old) (is_hidden_name old (user ∷ us)) (is_hidden_name new us) (λ k lt. others k (λ e. omega arith)) in
        let t = top in
        let r = reach_low us (names_used new) in
        omega arith

-- if there is room for a name, there is room for the lower names that were never used
pub room_below : (n : Variables) (w user : ℕ) (us : List ℕ) → names_used n ≤ w → w ≤ user → HasVariablesFor n (user ∷ us) → HasVariablesFor n (w ∷ user ∷ us)
room_below n w user us low le h =
    let top : reach (max (max (names_used n) (w + 1)) (user + 1)) us ≡ reach (max (names_used n) (user + 1)) us = ap (λ k. reach k us) (omega arith) in
    let same = count_same (names_used n) (is_hidden_name n (w ∷ user ∷ us)) (is_hidden_name n (user ∷ us)) (λ k lt. hidden_other n w k (user ∷ us) (λ e. omega arith)) in
    omega arith

-- a variable is left for a name that isn't in use
pub room_less : (n : Variables) (user : ℕ) (us : List ℕ) → global_of n user ≡ None → HasVariablesFor n (user ∷ us) → live_count n < var_limit
room_less n user us free h = elim (cases_lt user (names_used n)) [
  | inl lt ↦ (let s = count_some (names_used n) user (is_hidden_name n (user ∷ us)) lt (hidden_here n user us free) in omega arith)
  | inr le ↦ (let r = reach_low us (max (names_used n) (user + 1)) in omega arith)
]

-- a name in use takes no variable
pub room_none : (n : Variables) (user v : ℕ) (us : List ℕ) → user < names_used n → global_of n user ≡ Some v → HasVariablesFor n (user ∷ us) → HasVariablesFor n us
room_none n user v us lt e h =
    let top : reach (max (names_used n) (user + 1)) us ≡ reach (names_used n) us = ap (λ k. reach k us) (omega arith) in
    let same = count_same (names_used n) (is_hidden_name n (user ∷ us)) (is_hidden_name n us) each in
    omega arith
  where
    each : (k : ℕ) → k < names_used n → is_hidden_name n (user ∷ us) k ≡ is_hidden_name n us k
    each k low = elim (cases_eq user k) [
      | inl q ↦ (let there : global_of n k ≡ Some v = ap (global_of n) (sym q) ∙ e in ap (λ o. not (is_some o) && is_listed (user ∷ us) k) there ∙ sym (ap (λ o. not (is_some o) && is_listed us k) there))
      | inr ne ↦ hidden_other n user k us ne
    ]

-- the room is unchanged if names and variables are
pub room_same : (old new : Variables) (us : List ℕ) → new.global_from_user ≡ old.global_from_user → new.var_data ≡ old.var_data → HasVariablesFor old us → HasVariablesFor new us
room_same old new us users kept h =
    let live : live_count new ≡ live_count old = ap (λ d. count_to (length d.items) (λ v. not (get_or d.items v unused_variable).deleted)) kept in
    let more : reach (names_used new) us - names_used new + count_to (names_used new) (is_hidden_name new us) ≡ reach (names_used old) us - names_used old + count_to (names_used old) (is_hidden_name old us) =
    ap (λ m. reach (length m.fwd) us - length m.fwd + count_to (length m.fwd) (λ u. not (is_some (target m.fwd u)) && is_listed us u)) users in
    omega arith

-- there is room for the next of these literals, and for those after it
pub room_at : (n : Variables) (all : List ℕ) (index user : ℕ) → index < length all → user ≡ variable (get_or all index 0) → HasVariablesFor n (user_vars_in (drop index all)) → HasVariablesFor n (user ∷ user_vars_in (drop (index + 1) all))
room_at n all index user lt at h = subst (HasVariablesFor n) (ap user_vars_in (drop_more all index 0 lt) ∙ ap (λ u. u ∷ user_vars_in (drop (index + 1) all)) (sym at)) h

-- FAULTS

-- if a variable is left, the call failed for another reason
pub limit_fails : {W : Type 0} (e : NameError) (old new : Variables) (from to : W) → VariablesInvariant old → live_count old < var_limit → FailsByVariableLimitOrFault e old new from to → IsFailure e
limit_fails errors.VariableLimit old new from to tidy lt h = let e = live_full old tidy h.none in absurd (omega arith)
limit_fails x old new from to tidy lt h = tt

-- an error is passed on
pub fails_on : {A : Type 0} (r : Result A NameError) (e : NameError) → IsErrAnd r (λ f. f ≡ e) → IsFailure e → IfErr r IsFailure
fails_on r e h f = let p = err_from_is_err_and r h in subst (λ r. IfErr r IsFailure) (sym p.1) (subst IsFailure (sym p.2) f)

pub if_limit_fails : {A W : Type 0} (r : Result A NameError) (old new : Variables) (from to : W) → VariablesInvariant old → live_count old < var_limit → IfErr r (λ e. FailsByVariableLimitOrFault e old new from to) → IfErr r IsFailure
if_limit_fails (Ok x) old new from to tidy lt h = tt
if_limit_fails (Err e) old new from to tidy lt h = limit_fails e old new from to tidy lt h

-- COUNTING

count_none : (n : ℕ) (f : ℕ → Bool) → ((k : ℕ) → k < n → f k ≡ false) → count_to n f ≡ 0
count_none zero f h = count_zero f
count_none (suc n) f h = count_suc n f ∙ ap (λ b. count_to n f + cond b 1 0) (h n (omega arith)) ∙ (let ih = count_none n f (λ k lt. h k (omega arith)) in omega arith)

none_listed : (b : Bool) → (b && false) ≡ false
none_listed true = refl
none_listed false = refl

-- an empty list has no hidden name
pub hidden_none : (n : Variables) → hidden_count n [] ≡ 0
hidden_none n = count_none (names_used n) (is_hidden_name n []) (λ u lt. none_listed (not (is_some (global_of n u))))

-- a name adds nothing if it isn't hidden, or occurs again later
hidden_same : (n : Variables) (user : ℕ) (us : List ℕ) → ((u : ℕ) → u < names_used n → u ≡ user → is_hidden_name n (user ∷ us) u ≡ is_hidden_name n us u) → hidden_count n (user ∷ us) ≡ hidden_count n us
hidden_same n user us here = count_same (names_used n) (is_hidden_name n (user ∷ us)) (is_hidden_name n us) each
  where
    each : (u : ℕ) → u < names_used n → is_hidden_name n (user ∷ us) u ≡ is_hidden_name n us u
    each u lt = elim (cases_eq user u) [ inl e ↦ here u lt (sym e) | inr ne ↦ hidden_other n user u us ne ]

pub hidden_past : (n : Variables) (user : ℕ) (us : List ℕ) → names_used n ≤ user → hidden_count n (user ∷ us) ≡ hidden_count n us
hidden_past n user us le = hidden_same n user us (λ u lt e. absurd (omega arith))

pub hidden_again : (n : Variables) (user : ℕ) (us : List ℕ) → is_listed us user ≡ true → hidden_count n (user ∷ us) ≡ hidden_count n us
hidden_again n user us again = hidden_same n user us here
  where
    both : (a b d : Bool) → b ≡ true → (a && (d || b)) ≡ (a && b)
    both true true true e = refl
    both true true false e = refl
    both true false d e = absurd (true≢false (sym e))
    both false b d e = refl

    here : (u : ℕ) → u < names_used n → u ≡ user → is_hidden_name n (user ∷ us) u ≡ is_hidden_name n us u
    here u low e = both (not (is_some (global_of n u))) (is_listed us u) (eqb user u) (ap (is_listed us) e ∙ again)

pub hidden_more : (n : Variables) (user : ℕ) (us : List ℕ) → user < names_used n → is_listed us user ≡ false → is_some (global_of n user) ≡ false → hidden_count n (user ∷ us) ≡ hidden_count n us + 1
hidden_more n user us lt new free =
    count_more (names_used n) user (is_hidden_name n us) (is_hidden_name n (user ∷ us)) lt (ap (λ b. not (is_some (global_of n user)) && b) new ∙ none_listed (not (is_some (global_of n user)))) here (λ k ne. hidden_other n user k us (λ e. ne (sym e)))
  where
    here : is_hidden_name n (user ∷ us) user ≡ true
    here = ap (λ b. not b && is_listed (user ∷ us) user) free ∙ ap (λ b. b || is_listed us user) (eq-eqb user user refl)

-- a list mentions a variable if and only if the name is listed
pub mentions_listed : (ls : List ℕ) (v : ℕ) → mentions ls v ≡ is_listed (user_vars_in ls) v
mentions_listed [] v = refl
mentions_listed (l ∷ ls) v = ap (λ b. eqb (variable l) v || b) (mentions_listed ls v)

-- the literals from a position on mention a variable if and only if the name is listed there
pub mentions_after : (ls : List ℕ) (k v : ℕ) → mentions (take (length ls - k) (drop k ls)) v ≡ is_listed (user_vars_in (drop k ls)) v
mentions_after ls k v = ap (λ zs. mentions zs v) (take_all (length ls - k) (drop k ls) (omega (arith, length-drop k ls))) ∙ mentions_listed (drop k ls) v

-- the names of the literals from a position on
pub users_at : (ls : List ℕ) (at l : ℕ) → at < length ls → l ≡ get_or ls at l → user_vars_in (drop at ls) ≡ variable l ∷ user_vars_in (drop (at + 1) ls)
users_at ls at l lt e = ap user_vars_in (drop_more ls at l lt) ∙ ap (λ m. variable m ∷ user_vars_in (drop (at + 1) ls)) (sym e)

pub hidden_at : (n : Variables) (ls : List ℕ) (at l user : ℕ) → at < length ls → l ≡ get_or ls at l → user ≡ variable l → hidden_count n (user_vars_in (drop at ls)) ≡ hidden_count n (user ∷ user_vars_in (drop (at + 1) ls))
hidden_at n ls at l user lt e u = ap (hidden_count n) (users_at ls at l lt e ∙ ap (λ v. v ∷ user_vars_in (drop (at + 1) ls)) (sym u))

-- there are at most as many hidden names as literals
pub hidden_most : (n : Variables) (us : List ℕ) → count_to (names_used n) (is_hidden_name n us) ≤ length us
hidden_most n [] = let e = count_none (names_used n) (is_hidden_name n []) (λ u lt. none_listed (not (is_some (global_of n u)))) in omega arith
hidden_most n (user ∷ us) = let ih = hidden_most n us in let p = count_part_but (names_used n) user (is_hidden_name n (user ∷ us)) (is_hidden_name n us) (λ k ne. hidden_other n user k us (λ e. ne (sym e))) in omega arith
  where
    at : (a b : Bool) → cond a 1 0 ≤ cond b 1 0 + 1
    at true true = omega arith
    at true false = omega arith
    at false true = omega arith
    at false false = omega arith

    count_part_but : (n i : ℕ) (f g : ℕ → Bool) → ((k : ℕ) → k ≢ i → f k ≡ g k) → count_to n f ≤ count_to n g + 1
    count_part_but n i f g h = elim (cases_lt i n) [
      | inl lt ↦ (let c = count_changed n i g f lt h in let a = at (f i) (g i) in omega arith)
      | inr le ↦ (let e = count_same n f g (λ k lt. h k (λ q. omega arith)) in omega arith)
    ]

-- TESTS

-- a list of one name contains no other
only_here : (n : Variables) (user k : ℕ) → user ≢ k → is_hidden_name n (user ∷ []) k ≡ false
only_here n user k ne = hidden_other n user k [] ne ∙ none_listed (not (is_some (global_of n k)))

pub one_never : (n : Variables) (user : ℕ) → names_used n ≤ user → introduced_count n (user ∷ []) ≡ user + 1 - names_used n
one_never n user le = let e = count_none (names_used n) (is_hidden_name n (user ∷ [])) (λ k lt. only_here n user k (λ q. omega arith)) in omega arith

pub one_used : (n : Variables) (user : ℕ) → user < names_used n → is_some (global_of n user) ≡ true → introduced_count n (user ∷ []) ≡ 0
one_used n user lt some = let e = count_none (names_used n) (is_hidden_name n (user ∷ [])) each in omega arith
  where
    each : (k : ℕ) → k < names_used n → is_hidden_name n (user ∷ []) k ≡ false
    each k low = elim (cases_eq user k) [
      | inl e ↦ ap (λ b. not b && is_listed (user ∷ []) k) (ap (λ u. is_some (global_of n u)) (sym e) ∙ some)
      | inr ne ↦ only_here n user k ne
    ]

pub one_hidden : (n : Variables) (user : ℕ) → user < names_used n → is_some (global_of n user) ≡ false → introduced_count n (user ∷ []) ≡ 1
one_hidden n user lt free =
    let more = count_more (names_used n) user (λ k. false) (is_hidden_name n (user ∷ [])) lt refl here (λ k ne. only_here n user k (λ e. ne (sym e))) in
    let none = count_none (names_used n) (λ k. false) (λ k low. refl) in
    omega arith
  where
    here : is_hidden_name n (user ∷ []) user ≡ true
    here = ap (λ b. not b && is_listed (user ∷ []) user) free ∙ ap (λ b. b || false) (eq-eqb user user refl)

-- a test of a count decides whether there is room
says_room : (n : Variables) (us : List ℕ) (b : Bool) → (b ≡ true → HasVariablesFor n us) → (b ≡ false → HasVariablesFor n us → ⊥) → ReportsRoom b n us
says_room n us true fits lacks = fits refl
says_room n us false fits lacks = lacks refl

pub says_never : (n : Variables) (user index used left : ℕ) → names_used n ≤ user → index ≡ user → used ≡ names_used n → left + live_count n ≡ var_limit → ReportsRoom (ltb (index - used) left) n (user ∷ [])
says_never n user index used left le at same all = says_room n (user ∷ []) (ltb (index - used) left)
    (λ e. let lt = ltb-true (index - used) left e in let o = one_never n user le in omega arith)
    (λ e h. let o = one_never n user le in true≢false (sym (lt-ltb (index - used) left (omega arith)) ∙ e))

pub says_hidden : (n : Variables) (user left : ℕ) → user < names_used n → is_some (global_of n user) ≡ false → left + live_count n ≡ var_limit → ReportsRoom (ltb 0 left) n (user ∷ [])
says_hidden n user left lt free all = says_room n (user ∷ []) (ltb 0 left)
    (λ e. let lt = ltb-true 0 left e in let o = one_hidden n user lt' free in omega arith)
    (λ e h. let o = one_hidden n user lt' free in true≢false (sym (lt-ltb 0 left (omega arith)) ∙ e))
  where
    lt' : user < names_used n
    lt' = lt

pub fits_used : (n : Variables) (user : ℕ) → VariablesInvariant n → user < names_used n → is_some (global_of n user) ≡ true → HasVariablesFor n (user ∷ [])
fits_used n user tidy lt some = let o = one_used n user lt some in let m = live_most n tidy in omega arith

-- there is room for all names of these literals at once
pub fits_all : (n : Variables) (lits : List ℕ) (top left : ℕ) → top ≡ reach (names_used n) (user_vars_in lits) → left + live_count n ≡ var_limit → top - names_used n ≤ left → length lits ≤ left - (top - names_used n) → HasVariablesFor n (user_vars_in lits)
fits_all n lits top left is all low le = let m = hidden_most n (user_vars_in lits) in let l = length-map lits variable in omega arith

pub counts_small : (n : Variables) (us : List ℕ) → VariablesInvariant n → hidden_count n us ≤ var_limit
counts_small n us tidy = let m = count_le (names_used n) (is_hidden_name n us) in let r = tidy.reach in let w = tidy.within in omega arith

pub said_room : (n : Variables) (us : List ℕ) (b : Bool) → ReportsRoom b n us → b ≡ true → HasVariablesFor n us
said_room n us true h e = h
said_room n us false h e = absurd (true≢false (sym e))

pub said_none : (n : Variables) (us : List ℕ) (b : Bool) → ReportsRoom b n us → b ≡ false → HasVariablesFor n us → ⊥
said_none n us true h e = absurd (true≢false e)
said_none n us false h e = h
