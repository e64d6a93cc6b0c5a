-- Every script preserves the invariant of the judge's state.
use Rattle.std.proofs.Common.{ℕ, zero, suc, ◌+◌, ◌-◌, ◌≤◌, ◌<◌, ◌≡◌, ◌↔◌, Bool, true, false, not, ◌||◌, cond, eqb, ltb, lt-ltb, max, List, [], ◌∷◌, map, filter, Option, Some, None, is_some, refl, sym, ◌∙◌, ap, subst, arith, length-append, unwrap_or}
use Rattle.std.proofs.Math.ListN.{length-set}
use Rattle.std.proofs.lemmas.Bool.{ltb-true, ltb-false, eqb-false, ne_eqb}
use Rattle.std.specs.List.{AllByRecursion}
use Rattle.sat_base.specs.values.Literals.{var_limit, variable, mk_lit}
use Rattle.sat_base.specs.values.Clauses.{Valuation, literal_true, clause_true, AllClausesTrue}
use Rattle.sat_base.specs.script.Script.{Literal, Command, Clause, Ask, Hide, Witness, Sample, names_of}
use Rattle.sat_base.specs.script.ScriptState.{ScriptState, Named, NameMode, Sampled, Witnessed, identity_in, identity_of, insert_by_name, with_name, with_names, names_from, new_names, identity_lit, introduce, introduce_all, without_name, with_mode, hide_all, set_mode_all, state_after_accepted, Refusal, PastLimit, WitnessName, refusal_of_names, first_refusal, has_witness, refusal_of, after_command, after_script, initial_state}
use Rattle.sat_base.specs.script.ScriptStateLaws.{NamesAreIncreasing, ScriptStateInvariant, ScriptStateInvariantHolds, false_from, GivenIdentitiesSuffice}
use Rattle.sat_base.proofs.lemmas.script.LiteralValues.{all_map, coded_half}

pub placed_all : (P : Named → Type 0) (new : Named) (ns : List Named) → P new → AllByRecursion P ns → AllByRecursion P (insert_by_name new ns)
placed_all P new [] p h = (p, tt)
placed_all P new (n ∷ ns) p h = go (ltb n.name new.name) (placed_all P new ns p h.1)
  where
    go : (b : Bool) → AllByRecursion P (insert_by_name new ns) → AllByRecursion P (cond b (n ∷ insert_by_name new ns) (new ∷ n ∷ ns))
    go true ih = (h.0, ih)
    go false ih = (p, h)

pub placed_order : (new : Named) (ns : List Named) → identity_in ns new.name ≡ None → NamesAreIncreasing ns → NamesAreIncreasing (insert_by_name new ns)
placed_order new [] e h = (tt, tt)
placed_order new (n ∷ ns) e h = go (ltb n.name new.name) refl (eqb n.name new.name) refl e (placed_order new ns)
  where
    go : (b : Bool) → ltb n.name new.name ≡ b → (d : Bool) → eqb n.name new.name ≡ d → cond d (Some n.identity) (identity_in ns new.name) ≡ None → (identity_in ns new.name ≡ None → NamesAreIncreasing ns → NamesAreIncreasing (insert_by_name new ns)) → NamesAreIncreasing (cond b (n ∷ insert_by_name new ns) (new ∷ n ∷ ns))
    go b x true y f ih = absurd (cc)
    go true x false y f ih = (placed_all (λ m. n.name < m.name) new ns (ltb-true n.name new.name x) h.0, ih f h.1)
    go false x false y f ih =
        let le = ltb-false n.name new.name x in
        let ne = eqb-false n.name new.name y in
        let lt : new.name < n.name = omega arith in
        ((lt, all_map (λ m. n.name < m.name) (λ m. new.name < m.name) ns (λ m k. omega arith) h.0), h)

none_below : (name : ℕ) (ns : List Named) → AllByRecursion (λ n. n.name < name) ns → identity_in ns name ≡ None
none_below name [] h = refl
none_below name (n ∷ ns) h = let lt = h.0 in let e : eqb n.name name ≡ false = ne_eqb n.name name (λ x. omega arith) in rw e (none_below name ns h.1)

pub filtered_all : (P : Named → Type 0) (test : Named → Bool) (ns : List Named) → AllByRecursion P ns → AllByRecursion P (filter test ns)
filtered_all P test [] h = tt
filtered_all P test (n ∷ ns) h = go (test n) (filtered_all P test ns h.1)
  where
    go : (b : Bool) → AllByRecursion P (filter test ns) → AllByRecursion P (cond b (n ∷ filter test ns) (filter test ns))
    go true ih = (h.0, ih)
    go false ih = ih

pub filtered_order : (test : Named → Bool) (ns : List Named) → NamesAreIncreasing ns → NamesAreIncreasing (filter test ns)
filtered_order test [] h = tt
filtered_order test (n ∷ ns) h = go (test n) (filtered_order test ns h.1)
  where
    go : (b : Bool) → NamesAreIncreasing (filter test ns) → NamesAreIncreasing (cond b (n ∷ filter test ns) (filter test ns))
    go true ih = (filtered_all (λ m. n.name < m.name) test ns h.0, ih)
    go false ih = ih

name_kept : (name : ℕ) (j : ScriptState) → name ≤ var_limit → identity_of j name ≡ None → ScriptStateInvariant j → ScriptStateInvariant (with_name name j)
name_kept name j low e h = record {
  limit = let l = h.limit in omega arith;
  order = placed_order (record { name = name; identity = j.identity_count }) j.in_use e h.order;
  used = placed_all (λ n. n.name < max j.first_unused (name + 1)) (record { name = name; identity = j.identity_count }) j.in_use (omega arith) (all_map (λ n. n.name < j.first_unused) (λ n. n.name < max j.first_unused (name + 1)) j.in_use (λ n x. omega arith) h.used);
  given = placed_all (λ n. n.identity < j.identity_count + 1) (record { name = name; identity = j.identity_count }) j.in_use (omega arith) (all_map (λ n. n.identity < j.identity_count) (λ n. n.identity < j.identity_count + 1) j.in_use (λ n x. omega arith) h.given);
  modes = length-append j.modes (Sampled ∷ []) ∙ ap (λ n. n + 1) h.modes;
  clauses = all_map (AllByRecursion (λ l. variable l < j.identity_count)) (AllByRecursion (λ l. variable l < j.identity_count + 1)) j.clauses (λ c x. all_map (λ l. variable l < j.identity_count) (λ l. variable l < j.identity_count + 1) c (λ l y. omega arith) x) h.clauses;
}

fresh_kept : (count name : ℕ) (j : ScriptState) → name + count ≤ var_limit + 1 → j.first_unused ≡ name → ScriptStateInvariant j → ScriptStateInvariant (with_names (names_from count name) j)
fresh_kept zero name j low e h = h
fresh_kept (suc count) name j low e h =
    let none : identity_of j name ≡ None = none_below name j.in_use (all_map (λ n. n.name < j.first_unused) (λ n. n.name < name) j.in_use (λ n x. omega arith) h.used) in
    let at : max j.first_unused (name + 1) ≡ name + 1 = omega arith in
    fresh_kept count (name + 1) (with_name name j) (omega arith) at (name_kept name j (omega arith) none h)

bring_kept : (name : ℕ) (j : ScriptState) → name ≤ var_limit → ScriptStateInvariant j → ScriptStateInvariant (introduce name j)
bring_kept name j low h = go (ltb name j.first_unused) refl (identity_of j name) refl
  where
    go : (b : Bool) → ltb name j.first_unused ≡ b → (o : Option ℕ) → identity_of j name ≡ o → ScriptStateInvariant (with_names (cond b (cond (is_some o) [] (name ∷ [])) (names_from (name + 1 - j.first_unused) j.first_unused)) j)
    go true x (Some i) e = h
    go true x None e = name_kept name j low e h
    go false x o e = let past = ltb-false name j.first_unused x in fresh_kept (name + 1 - j.first_unused) j.first_unused j (omega arith) refl h

hide_kept : (name : ℕ) (j : ScriptState) → ScriptStateInvariant j → ScriptStateInvariant (without_name name j)
hide_kept name j h = record {
  limit = h.limit;
  order = filtered_order (λ n. not (eqb n.name name)) j.in_use h.order;
  used = filtered_all (λ n. n.name < j.first_unused) (λ n. not (eqb n.name name)) j.in_use h.used;
  given = filtered_all (λ n. n.identity < j.identity_count) (λ n. not (eqb n.name name)) j.in_use h.given;
  modes = h.modes;
  clauses = h.clauses;
}

mode_kept : (mode : NameMode) (name : ℕ) (j : ScriptState) → ScriptStateInvariant j → ScriptStateInvariant (with_mode mode name j)
mode_kept mode name j h = record { limit = h.limit; order = h.order; used = h.used; given = h.given; modes = length-set j.modes (unwrap_or (identity_of j name) 0) mode ∙ h.modes; clauses = h.clauses }

abbrev Within : List ℕ → Type 0
Within = AllByRecursion (λ n. n ≤ var_limit)

bring_all_kept : (names : List ℕ) (j : ScriptState) → Within names → ScriptStateInvariant j → ScriptStateInvariant (introduce_all names j)
bring_all_kept [] j w h = h
bring_all_kept (n ∷ ns) j w h = bring_all_kept ns (introduce n j) w.1 (bring_kept n j w.0 h)

hide_all_kept : (names : List ℕ) (j : ScriptState) → Within names → ScriptStateInvariant j → ScriptStateInvariant (hide_all names j)
hide_all_kept [] j w h = h
hide_all_kept (n ∷ ns) j w h = hide_all_kept ns (without_name n (introduce n j)) w.1 (hide_kept n (introduce n j) (bring_kept n j w.0 h))

set_all_kept : (mode : NameMode) (names : List ℕ) (j : ScriptState) → Within names → ScriptStateInvariant j → ScriptStateInvariant (set_mode_all mode names j)
set_all_kept mode [] j w h = h
set_all_kept mode (n ∷ ns) j w h = set_all_kept mode ns (with_mode mode n (introduce n j)) w.1 (mode_kept mode n (introduce n j) (bring_kept n j w.0 h))

-- names that are not refused are within the limit
within_literals : (names : List ℕ) (j : ScriptState) → refusal_of_names j names ≡ None → Within names
within_literals [] j e = tt
within_literals (n ∷ ns) j e = go (ltb var_limit n) refl (has_witness j (identity_of j n)) e (within_literals ns j)
  where
    go : (b : Bool) → ltb var_limit n ≡ b → (w : Bool) → cond b (Some PastLimit) (cond w (Some (WitnessName n)) (refusal_of_names j ns)) ≡ None → (refusal_of_names j ns ≡ None → Within ns) → Within (n ∷ ns)
    go true x w f ih = absurd (cc)
    go false x true f ih = absurd (cc)
    go false x false f ih = (ltb-false var_limit n x, ih f)

within_names : (names : List ℕ) (j : ScriptState) → first_refusal true j names ≡ None → Within names
within_names [] j e = tt
within_names (n ∷ ns) j e = go (ltb var_limit n) refl e (within_names ns j)
  where
    go : (b : Bool) → ltb var_limit n ≡ b → cond b (Some PastLimit) (first_refusal true j ns) ≡ None → (first_refusal true j ns ≡ None → Within ns) → Within (n ∷ ns)
    go true x f ih = absurd (cc)
    go false x f ih = (ltb-false var_limit n x, ih f)

-- if all identities are below a bound, so is that of a name in use
pub given_at : (ns : List Named) (name i bound : ℕ) → AllByRecursion (λ n. n.identity < bound) ns → identity_in ns name ≡ Some i → i < bound
given_at [] name i bound h e = absurd (cc)
given_at (n ∷ ns) name i bound h e = go (eqb n.name name) e (given_at ns name i bound h.1)
  where
    go : (b : Bool) → cond b (Some n.identity) (identity_in ns name) ≡ Some i → (identity_in ns name ≡ Some i → i < bound) → i < bound
    go true f ih = let x : n.identity ≡ i = cc in subst (λ y. y < bound) x h.0
    go false f ih = ih f

-- introducing names never lowers the number of identities
grows : (names : List ℕ) (j : ScriptState) → j.identity_count ≤ (with_names names j).identity_count
grows [] j = omega arith
grows (n ∷ ns) j = let r = grows ns (with_name n j) in omega arith

grows_all : (names : List ℕ) (j : ScriptState) → j.identity_count ≤ (introduce_all names j).identity_count
grows_all [] j = omega arith
grows_all (n ∷ ns) j = let r = grows_all ns (introduce n j) in let q = grows (new_names n j) j in omega arith

-- after a name is introduced, there is at least one identity
some_given : (name : ℕ) (j : ScriptState) → ScriptStateInvariant j → 0 < (introduce name j).identity_count
some_given name j h = go (ltb name j.first_unused) refl (identity_of j name) refl
  where
    from : (count initial_state : ℕ) → 0 < count → 0 < (with_names (names_from count initial_state) j).identity_count
    from zero initial_state x = absurd (omega arith)
    from (suc count) initial_state x = let r = grows (names_from count (initial_state + 1)) (with_name initial_state j) in omega arith

    go : (b : Bool) → ltb name j.first_unused ≡ b → (o : Option ℕ) → identity_of j name ≡ o → 0 < (with_names (cond b (cond (is_some o) [] (name ∷ [])) (names_from (name + 1 - j.first_unused) j.first_unused)) j).identity_count
    go true x (Some i) e = let r = given_at j.in_use name i j.identity_count h.given e in omega arith
    go true x None e = omega arith
    go false x o e = let past = ltb-false name j.first_unused x in from (name + 1 - j.first_unused) j.first_unused (omega arith)

literal_given : (j : ScriptState) (l : Literal) → ScriptStateInvariant j → 0 < j.identity_count → variable (identity_lit j l) < j.identity_count
literal_given j l h some = go (identity_of j l.name) refl
  where
    go : (o : Option ℕ) → identity_of j l.name ≡ o → variable (mk_lit (unwrap_or o 0) l.positive) < j.identity_count
    go None e = let x = coded_half 0 l.positive in omega arith
    go (Some i) e = let x = coded_half i l.positive in let y = given_at j.in_use l.name i j.identity_count h.given e in omega arith

clause_given : (ls : List Literal) (j : ScriptState) → ScriptStateInvariant j → 0 < j.identity_count → AllByRecursion (λ l. variable l < j.identity_count) (map (identity_lit j) ls)
clause_given [] j h some = tt
clause_given (l ∷ ls) j h some = (literal_given j l h some, clause_given ls j h some)

new_clause_given : (ls : List Literal) (j : ScriptState) → Within (names_of ls) → ScriptStateInvariant j → AllByRecursion (λ l. variable l < (introduce_all (names_of ls) j).identity_count) (map (identity_lit (introduce_all (names_of ls) j)) ls)
new_clause_given [] j w h = tt
new_clause_given (l ∷ ls) j w h =
    let a = some_given l.name j h in
    let b = grows_all (names_of ls) (introduce l.name j) in
    clause_given (l ∷ ls) (introduce_all (names_of (l ∷ ls)) j) (bring_all_kept (names_of (l ∷ ls)) j w h) (omega arith)

pub accepted_kept : (command : Command) (j : ScriptState) → refusal_of j command ≡ None → ScriptStateInvariant j → ScriptStateInvariant (state_after_accepted command j)
accepted_kept (Clause ls) j e h =
    let w = within_literals (names_of ls) j e in
    let b = bring_all_kept (names_of ls) j w h in
    record { limit = b.limit; order = b.order; used = b.used; given = b.given; modes = b.modes; clauses = (new_clause_given ls j w h, b.clauses) }
accepted_kept (Ask ls) j e h = bring_all_kept (names_of ls) j (within_literals (names_of ls) j e) h
accepted_kept (Hide names) j e h = hide_all_kept names j (within_names names j e) h
accepted_kept (Witness names) j e h = set_all_kept Witnessed names j (within_names names j e) h
accepted_kept (Sample names) j e h = set_all_kept Sampled names j (within_names names j e) h

command_kept : (command : Command) (j : ScriptState) → ScriptStateInvariant j → ScriptStateInvariant (after_command command j)
command_kept command j h = go (refusal_of j command) refl
  where
    go : (r : Option Refusal) → refusal_of j command ≡ r → ScriptStateInvariant (cond (is_some r) j (state_after_accepted command j))
    go (Some r) e = h
    go None e = accepted_kept command j e h

script_kept : (commands : List Command) (j : ScriptState) → ScriptStateInvariant j → ScriptStateInvariant (after_script commands j)
script_kept [] j h = h
script_kept (c ∷ cs) j h = script_kept cs (after_command c j) (command_kept c j h)

pub start_kept : ScriptStateInvariant initial_state
start_kept = record { limit = omega arith; order = tt; used = tt; given = tt; modes = refl; clauses = tt }

pub judge_kept : ScriptStateInvariantHolds
judge_kept commands = script_kept commands initial_state start_kept

-- making a valuation false from variable n on does not change literals below n
same_below : (n : ℕ) (a : Valuation) (l : ℕ) → variable l < n → literal_true (false_from n a) l ≡ literal_true a l
same_below n a l h = let e : ltb (variable l) n ≡ true = lt-ltb (variable l) n h in rw e refl

same_clause_below : (n : ℕ) (a : Valuation) (c : List ℕ) → AllByRecursion (λ l. variable l < n) c → clause_true (false_from n a) c ≡ clause_true a c
same_clause_below n a [] h = refl
same_clause_below n a (l ∷ ls) h = ap (λ x. x || clause_true (false_from n a) ls) (same_below n a l h.0) ∙ ap (λ x. literal_true a l || x) (same_clause_below n a ls h.1)

all_same_below : (n : ℕ) (a : Valuation) (cs : List (List ℕ)) → AllByRecursion (AllByRecursion (λ l. variable l < n)) cs → AllClausesTrue a cs ↔ AllClausesTrue (false_from n a) cs
all_same_below n a [] h = ((λ x. tt), (λ x. tt))
all_same_below n a (c ∷ cs) h = let r = all_same_below n a cs h.1 in let e = same_clause_below n a c h.0 in ((λ x. (e ∙ x.0, r.0 x.1)), (λ x. (sym e ∙ x.0, r.1 x.1)))

pub given_suffice : GivenIdentitiesSuffice
given_suffice commands a =
    let j = after_script commands initial_state in
    let h = judge_kept commands in (
      all_same_below j.identity_count a j.clauses h.clauses,
      (λ l i e.
          let g = given_at j.in_use l.name i j.identity_count h.given e in
          let x = coded_half i l.positive in
          let o : identity_lit j l ≡ mk_lit i l.positive = ap (λ y. mk_lit (unwrap_or y 0) l.positive) e in
          same_below j.identity_count a (identity_lit j l) (subst (λ y. variable y < j.identity_count) (sym o) (omega arith))),
    )
