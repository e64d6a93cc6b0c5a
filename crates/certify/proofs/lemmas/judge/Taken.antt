-- How a command changes names and modes, name by name.
use Rattle.std.proofs.Common.{ℕ, zero, suc, drop, drop-cons, get_or, ◌+◌, ◌-◌, ◌≤◌, ◌<◌, ◌≡◌, max, Bool, true, false, cond, eqb, List, [], ◌∷◌, ◌++◌, length, refl, sym, ◌∙◌, ap, subst, arith}
use Rattle.std.proofs.lemmas.List.{append-nil, drop_all}
use Rattle.std.proofs.lemmas.Bool.{true≢false}
use Rattle.std.specs.List.{AllByRecursion}
use Rattle.sat_base.specs.values.Literals.{var_limit, variable}
use Rattle.sat_base.specs.script.Script.{Literal, names_of}
use Rattle.sat_base.specs.script.ScriptState.{ScriptState, Sampled, Witnessed, with_name, with_names, names_from, introduce, introduce_all, hide_all, set_mode_all, with_clause, state_after_accepted, new_names}
use Rattle.certify.specs.declared.refusals.NameState.{NameState}
use Rattle.certify.specs.declared.refusals.NameState.TheVariants as state
use Rattle.certify.specs.declared.refusals.names.Names.{Names}
use Rattle.certify.specs.answers.AnswerForms.{named_literals}
use Rattle.certify.specs.script.Commands.{FirstIsPastLimit, IsPrefixWithinLimit}
use Rattle.sat_base.specs.script.Language.{Kind, OfClause, OfAsk, OfHide, OfWitness, OfSample, command_of}
use Rattle.certify.specs.refusals.Names.{name_state_in, states_of, first_states, IntroducesNothing, NamesChangeBy, IsIntroduced, IsInUse, NamesHaveState, has_literals, state_after_name}
use Rattle.certify.proofs.lemmas.confirm.NamesFrom.{from_more, with_names_append}
use Rattle.certify.proofs.lemmas.judge.States.{past_used, pushed_at, states_length, got_at, named, new_past, new_used, sampled_used}

-- the table with `n` names used so far
abbrev with_used : Names → ℕ → Names
with_used names n = record names { used = n }

grown_one : (names : Names) (j : ScriptState) (next : ℕ) → names.used ≤ next → next < var_limit → NamesHaveState (with_used names next) j → NamesHaveState (with_used names (next + 1)) (with_name (next + 1) j)
grown_one names j next past low h =
    let cur = with_used names next in
    let new = with_used names (next + 1) in
    let f = h.first in
    let l = states_length names.states next in
    let more : next + 1 ≡ suc next = omega arith in
    let items : states_of new ≡ states_of cur ++ state.Sampled ∷ [] = ap (first_states names.states) more ∙ ap (λ (s : NameState). states_of cur ++ s ∷ []) (h.fresh next (omega arith)) in
    let longer : next + 1 ≡ max next (next + 1) = omega arith in
    let states : (n : ℕ) → name_state_in (states_of new) n ≡ cond (eqb (next + 1) n) state.Sampled (name_state_in (states_of cur) n) = λ n.
    ap (λ (xs : List NameState). name_state_in xs n) items ∙ pushed_at (states_of cur) state.Sampled n ∙ ap (λ (k : ℕ). cond (eqb (k + 1) n) state.Sampled (name_state_in (states_of cur) n)) l in
    named cur new j (next + 1) h (past_used cur (next + 1) (omega arith)) (omega arith) (omega arith) (omega arith) longer (λ v k. h.fresh v (omega arith)) states

grown_by : (names : Names) (j : ScriptState) (count : ℕ) → names.used + count ≤ var_limit → NamesHaveState names j → NamesHaveState (with_used names (names.used + count)) (with_names (names_from count j.first_unused) j)
grown_by names j zero low h =
    let e : names.used + 0 ≡ names.used = omega arith in
    subst (λ (n : ℕ). NamesHaveState (with_used names n) j) (sym e) (record { first = h.first; limit = h.limit; each = h.each; fresh = h.fresh; given = h.given; modes = h.modes; apart = h.apart })
grown_by names j (suc count) low h =
    let f = h.first in
    let mid = with_names (names_from count j.first_unused) j in
    let next = names.used + count in
    let one : NamesHaveState (with_used names (next + 1)) (with_name (next + 1) mid) = grown_one names mid next (omega arith) (omega arith) (grown_by names j count (omega arith) h) in
    let last : j.first_unused + count ≡ next + 1 = omega arith in
    let total : names.used + suc count ≡ next + 1 = omega arith in
    let more : suc count ≡ count + 1 = omega arith in
    let whole : with_names (names_from (suc count) j.first_unused) j ≡ with_name (next + 1) mid =
    ap (λ (k : ℕ). with_names (names_from k j.first_unused) j) more
    ∙ ap (λ (ns : List ℕ). with_names ns j) (from_more count j.first_unused)
    ∙ with_names_append (names_from count j.first_unused) ((j.first_unused + count) ∷ []) j
    ∙ ap (λ (name : ℕ). with_name name mid) last in
    subst (λ (k : ScriptState). NamesHaveState (with_used names (names.used + suc count)) k) (sym whole) (subst (λ (n : ℕ). NamesHaveState (with_used names n) (with_name (next + 1) mid)) (sym total) one)

-- the names up to a new one are introduced
pub grown : (names : Names) (index : ℕ) → names.used ≤ index → index < var_limit → NamesChangeBy names (with_used names (index + 1)) (introduce (index + 1))
grown names index past low j h =
    let f = h.first in
    let count = index + 1 - names.used in
    let total : names.used + count ≡ index + 1 = omega arith in
    let e = new_past names j (index + 1) count j.first_unused h (omega arith) (omega arith) refl in
    subst (λ (ns : List ℕ). NamesHaveState (with_used names (index + 1)) (with_names ns j)) (sym e)
    (subst (λ (n : ℕ). NamesHaveState (with_used names n) (with_names (names_from count j.first_unused) j)) total (grown_by names j count (omega arith) h))

-- after names up to a new one are introduced, the new one is in use
pub grown_used : (names : Names) (index : ℕ) → names.used ≤ index → IsIntroduced names (with_used names (index + 1)) (index + 1)
grown_used names index past j h = sampled_used _ (got_at (with_used names (index + 1)) index (index + 1) state.Sampled (omega arith) refl (sym (h.fresh index past)))

-- NAME BY NAME
abbrev pub taken_all : Kind → List ℕ → ScriptState → ScriptState
taken_all kind [] j = j
taken_all kind (name ∷ names) j = taken_all kind names (state_after_name kind name j)

clause_all : (names : List ℕ) (j : ScriptState) → taken_all OfClause names j ≡ introduce_all names j
clause_all [] j = refl
clause_all (name ∷ names) j = clause_all names (introduce name j)

ask_all : (names : List ℕ) (j : ScriptState) → taken_all OfAsk names j ≡ introduce_all names j
ask_all [] j = refl
ask_all (name ∷ names) j = ask_all names (introduce name j)

hidden_all : (names : List ℕ) (j : ScriptState) → taken_all OfHide names j ≡ hide_all names j
hidden_all [] j = refl
hidden_all (name ∷ names) j = hidden_all names (state_after_name OfHide name j)

witnessed_all : (names : List ℕ) (j : ScriptState) → taken_all OfWitness names j ≡ set_mode_all Witnessed names j
witnessed_all [] j = refl
witnessed_all (name ∷ names) j = witnessed_all names (state_after_name OfWitness name j)

sampled_all : (names : List ℕ) (j : ScriptState) → taken_all OfSample names j ≡ set_mode_all Sampled names j
sampled_all [] j = refl
sampled_all (name ∷ names) j = sampled_all names (state_after_name OfSample name j)

-- NAMES IN USE
-- a name that is not introduced changes nothing, if the command only introduces names
pub untaken : (kind : Kind) (name : ℕ) (j : ScriptState) → has_literals kind ≡ true → new_names name j ≡ [] → state_after_name kind name j ≡ j
untaken OfClause name j k e = ap (λ (ns : List ℕ). with_names ns j) e
untaken OfAsk name j k e = ap (λ (ns : List ℕ). with_names ns j) e
untaken x name j k e = absurd (true≢false (sym k))

untaken_all : (kind : Kind) (names : List ℕ) (j : ScriptState) → has_literals kind ≡ true → AllByRecursion (λ name. new_names name j ≡ []) names → taken_all kind names j ≡ j
untaken_all kind [] j k h = refl
untaken_all kind (name ∷ names) j k h = ap (taken_all kind names) (untaken kind name j k h.0) ∙ untaken_all kind names j k h.1

-- no name from here on is introduced if the next one is in use and no later one is introduced
pub known_next : (n : Names) (j : ScriptState) (codes : List ℕ) (k code v : ℕ) → NamesHaveState n j → k < length codes → code ≡ get_or codes k code → v ≡ variable code → IsInUse n (v + 1)
    → AllByRecursion (λ name. new_names name j ≡ []) (names_of (named_literals (drop (k + 1) codes))) → AllByRecursion (λ name. new_names name j ≡ []) (names_of (named_literals (drop k codes)))
known_next n j codes k code v h within at e used rest =
    let more : k + 1 ≡ suc k = omega arith in
    let cut : drop k codes ≡ code ∷ drop (k + 1) codes = drop-cons codes k code within ∙ ap (λ (x : ℕ). x ∷ drop (suc k) codes) (sym at) ∙ ap (λ (n : ℕ). code ∷ drop n codes) (sym more) in
    let one : new_names (variable code + 1) j ≡ [] = ap (λ (x : ℕ). new_names (x + 1) j) (sym e) ∙ new_used n j (v + 1) h used in
    subst (λ (xs : List ℕ). AllByRecursion (λ name. new_names name j ≡ []) (names_of (named_literals xs))) (sym cut) (one, rest)

pub known_end : (j : ScriptState) (codes : List ℕ) (k : ℕ) → length codes ≤ k → AllByRecursion (λ name. new_names name j ≡ []) (names_of (named_literals (drop k codes)))
known_end j codes k over = subst (λ (xs : List ℕ). AllByRecursion (λ name. new_names name j ≡ []) (names_of (named_literals xs))) (sym (drop_all k codes over)) tt

-- a clause changes no names
pub clause_stands : (n : Names) (ls : List Literal) (j : ScriptState) → NamesHaveState n j → NamesHaveState n (with_clause ls j)
clause_stands n ls j h = record { first = h.first; limit = h.limit; each = h.each; fresh = h.fresh; given = h.given; modes = h.modes; apart = h.apart }

-- the state after a command's names is the state after the command
pub accepted_stands : (n : Names) (kind : Kind) (ls : List Literal) (j : ScriptState) → NamesHaveState n (taken_all kind (names_of ls) j) → NamesHaveState n (state_after_accepted (command_of kind ls) j)
accepted_stands n OfClause ls j h = clause_stands n ls (introduce_all (names_of ls) j) (subst (NamesHaveState n) (clause_all (names_of ls) j) h)
accepted_stands n OfAsk ls j h = subst (NamesHaveState n) (ask_all (names_of ls) j) h
accepted_stands n OfHide ls j h = subst (NamesHaveState n) (hidden_all (names_of ls) j) h
accepted_stands n OfWitness ls j h = subst (NamesHaveState n) (witnessed_all (names_of ls) j) h
accepted_stands n OfSample ls j h = subst (NamesHaveState n) (sampled_all (names_of ls) j) h

-- processing the names from here on processes the next one, and then the later ones
pub taken_next : (kind : Kind) (codes : List ℕ) (k code v : ℕ) (mid : ScriptState) → k < length codes → code ≡ get_or codes k code → v ≡ variable code
    → taken_all kind (names_of (named_literals (drop k codes))) mid ≡ taken_all kind (names_of (named_literals (drop (k + 1) codes))) (state_after_name kind (v + 1) mid)
taken_next kind codes k code v mid within at e =
    let more : k + 1 ≡ suc k = omega arith in
    let cut : drop k codes ≡ code ∷ drop (k + 1) codes = drop-cons codes k code within ∙ ap (λ (x : ℕ). x ∷ drop (suc k) codes) (sym at) ∙ ap (λ (n : ℕ). code ∷ drop n codes) (sym more) in
    ap (λ (xs : List ℕ). taken_all kind (names_of (named_literals xs)) mid) cut
    ∙ ap (λ (n : ℕ). taken_all kind (names_of (named_literals (drop (k + 1) codes))) (state_after_name kind (n + 1) mid)) (sym e)

-- after all names were processed, the table is that of the state after the command
pub all_taken : (n : Names) (kind : Kind) (codes : List ℕ) (past : Bool) (ls : List Literal) (j mid : ScriptState) (k : ℕ) → past ≡ false → IsPrefixWithinLimit codes past ls → length codes ≤ k → NamesHaveState n mid
    → taken_all kind (names_of (named_literals codes)) j ≡ taken_all kind (names_of (named_literals (drop k codes))) mid → NamesHaveState n (state_after_accepted (command_of kind ls) j)
all_taken n kind codes past ls j mid k not_past f over h same =
    let none : f.following ≡ [] = subst (λ (b : Bool). FirstIsPastLimit b f.following) not_past f.limit in
    let whole : ls ≡ named_literals codes = f.whole ∙ ap (λ (ks : List Literal). named_literals codes ++ ks) none ∙ append-nil (named_literals codes) in
    let end : taken_all kind (names_of (named_literals codes)) j ≡ mid = same ∙ ap (λ (xs : List ℕ). taken_all kind (names_of (named_literals xs)) mid) (drop_all k codes over) in
    accepted_stands n kind ls j (subst (NamesHaveState n) (sym end ∙ ap (λ (ks : List Literal). taken_all kind (names_of ks) j) (sym whole)) h)

-- a clause or an ask that introduces no name leaves the table as it is
pub known_taken : (n : Names) (kind : Kind) (codes : List ℕ) (past : Bool) (ls : List Literal) (j : ScriptState) → past ≡ false → IsPrefixWithinLimit codes past ls → IntroducesNothing kind (names_of (named_literals codes)) n → NamesHaveState n j
    → NamesHaveState n (state_after_accepted (command_of kind ls) j)
known_taken n kind codes past ls j not_past f b h =
    let over : length codes ≤ length codes = omega arith in
    let none = drop_all (length codes) codes over in
    let same = untaken_all kind (names_of (named_literals codes)) j b.of_literals (b.known j h) ∙ ap (λ (xs : List ℕ). taken_all kind (names_of (named_literals xs)) j) (sym none) in
    all_taken n kind codes past ls j j (length codes) not_past f over h same
