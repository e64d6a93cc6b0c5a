-- The short definition of a script's state agrees with that which the code is proved against: a name in use has its
-- mode beside it.
use Rattle.std.proofs.Common.{ℕ, zero, suc, ◌+◌, ◌-◌, ◌≡◌, ◌<◌, ◌≤◌, ◌∙◌, ◌↔◌, max, Bool, true, false, not, cond, eqb, ltb, ◌&&◌, Option, Some, None, is_some, unwrap_or, List, [], ◌∷◌, ◌++◌, map, filter, length, get_or, set, refl, sym, ap, subst, arith, length-append, length-set, get_or-set_same, get_or-set_other}
use Rattle.std.specs.List.{AllByRecursion}
use Rattle.std.proofs.lemmas.Bool.{ltb-false, eqb-false, eq-eqb}
use Rattle.sat_base.specs.values.Literals.{mk_lit, var_limit}
use Rattle.sat_base.specs.values.Clauses.{Valuation, AllLitsTrue}
use Rattle.sat_base.specs.script.Script.{Literal, Command, Clause, Ask, Hide, Witness, Sample, names_of}
use Rattle.sat_base.specs.script.ScriptState.{Refusal, PastLimit, WitnessName, names_from, NameMode, Sampled, Witnessed, has_witness, is_witness as mode_is_witness, insert_by_name as code_insert, identity_lit as code_lit, ScriptState as CodeState, Named as CodeNamed, initial_state as code_initial, identity_in as code_identity_in, with_name as code_with_name, new_names as code_new_names, for_each as code_for_each, introduce as code_introduce, without_name as code_without_name, with_mode as code_with_mode, with_clause as code_with_clause, state_after_accepted as code_accepted, first_refusal as code_first_refusal, refusal_of as code_refusal_of, after_command as code_after_command, IsRightModel as CodeIsRightModel}
use Rattle.certify.specs.answers.RightAnswers.{OutcomeIsRight as CodeIsRight}
use Rattle.sat_checker.specs.matching.Expected.{Outcome, Sat, Unsat, Unknown}
use Rattle.certify.specs.answers.ScriptNames.{ScriptState, Named, identity_in, insert_by_name, with_name, new_names, for_each, introduce, without_name, set_witness, with_mode, identity_lit, with_clause, state_after_accepted, is_witness, first_refusal, refusal_of, after_command, IsRightModel, IsRight}

-- THE STATE AS IT IS SEEN

abbrev pub with_this : CodeNamed → NameMode → Named
with_this n mode = record { name = n.name; identity = n.identity; witness = mode_is_witness mode }

abbrev pub short_name : List NameMode → CodeNamed → Named
short_name modes n = with_this n (get_or modes n.identity Sampled)

abbrev pub short_state : CodeState → ScriptState
short_state j = record { first_unused = j.first_unused; in_use = map (short_name j.modes) j.in_use; identity_count = j.identity_count; clauses = j.clauses }

-- `Apart names` holds if different names in use have different identities.
abbrev pub Apart : List CodeNamed → Type 0
Apart [] = Unit {0}
Apart (n ∷ ns) = AllByRecursion (λ m. n.identity ≡ m.identity → ⊥) ns × Apart ns

pub record Keeps (j : CodeState) : Type 0 where
  pub modes : length j.modes ≡ j.identity_count
  pub given : AllByRecursion (λ n. n.identity < j.identity_count) j.in_use
  pub apart : Apart j.in_use

-- LISTS

cond_map : {A B : Type 0} (f : A → B) (b : Bool) (x y : List A) → map f (cond b x y) ≡ cond b (map f x) (map f y)
cond_map f true x y = refl
cond_map f false x y = refl

all_map : {A : Type 0} (P Q : A → Type 0) (xs : List A) → ((x : A) → P x → Q x) → AllByRecursion P xs → AllByRecursion Q xs
all_map P Q [] f h = tt
all_map P Q (x ∷ xs) f h = (f x h.0, all_map P Q xs f h.1)

map_same : {A B : Type 0} (f g : A → B) (xs : List A) → AllByRecursion (λ x. f x ≡ g x) xs → map f xs ≡ map g xs
map_same f g [] h = refl
map_same f g (x ∷ xs) h = let first = h.0 in let rest = map_same f g xs h.1 in λ i. first i ∷ rest i

all_of : {A : Type 0} (P : A → Type 0) (xs : List A) → ((x : A) → P x) → AllByRecursion P xs
all_of P [] h = tt
all_of P (x ∷ xs) h = (h x, all_of P xs h)

inserted_all : (P : CodeNamed → Type 0) (new : CodeNamed) (ns : List CodeNamed) → P new → AllByRecursion P ns → AllByRecursion P (code_insert new ns)
inserted_all P new [] p h = (p, tt)
inserted_all P new (n ∷ ns) p h = go (ltb n.name new.name) (inserted_all P new ns p h.1)
  where
    go : (b : Bool) → AllByRecursion P (code_insert new ns) → AllByRecursion P (cond b (n ∷ code_insert new ns) (new ∷ n ∷ ns))
    go true ih = (h.0, ih)
    go false ih = (p, h)

inserted_apart : (new : CodeNamed) (ns : List CodeNamed) → AllByRecursion (λ m. new.identity ≡ m.identity → ⊥) ns → Apart ns → Apart (code_insert new ns)
inserted_apart new [] h k = (tt, tt)
inserted_apart new (n ∷ ns) h k = go (ltb n.name new.name) (inserted_apart new ns h.1 k.1)
  where
    go : (b : Bool) → Apart (code_insert new ns) → Apart (cond b (n ∷ code_insert new ns) (new ∷ n ∷ ns))
    go true ih = (inserted_all (λ m. n.identity ≡ m.identity → ⊥) new ns (λ e. h.0 (sym e)) k.0, ih)
    go false ih = (h, k)

filtered_all : (P : CodeNamed → Type 0) (test : CodeNamed → Bool) (ns : List CodeNamed) → AllByRecursion P ns → AllByRecursion P (filter test ns)
filtered_all P test [] h = tt
filtered_all P test (n ∷ ns) h = go (test n) (filtered_all P test ns h.1)
  where
    go : (b : Bool) → AllByRecursion P (filter test ns) → AllByRecursion P (cond b (n ∷ filter test ns) (filter test ns))
    go true ih = (h.0, ih)
    go false ih = ih

filtered_apart : (test : CodeNamed → Bool) (ns : List CodeNamed) → Apart ns → Apart (filter test ns)
filtered_apart test [] h = tt
filtered_apart test (n ∷ ns) h = go (test n) (filtered_apart test ns h.1)
  where
    go : (b : Bool) → Apart (filter test ns) → Apart (cond b (n ∷ filter test ns) (filter test ns))
    go true ih = (filtered_all (λ m. n.identity ≡ m.identity → ⊥) test ns h.0, ih)
    go false ih = ih

-- what holds of all identities holds of that of a name in use
found_all : (P : ℕ → Type 0) (ns : List CodeNamed) (name i : ℕ) → AllByRecursion (λ n. P n.identity) ns → code_identity_in ns name ≡ Some i → P i
found_all P [] name i h e = absurd (cc)
found_all P (n ∷ ns) name i h e = go (eqb n.name name) e (found_all P ns name i h.1)
  where
    go : (b : Bool) → cond b (Some n.identity) (code_identity_in ns name) ≡ Some i → (code_identity_in ns name ≡ Some i → P i) → P i
    go true f ih = let x : n.identity ≡ i = cc in subst P x h.0
    go false f ih = ih f

-- NAMES

same_identity : (modes : List NameMode) (ns : List CodeNamed) (name : ℕ) → identity_in (map (short_name modes) ns) name ≡ code_identity_in ns name
same_identity modes [] name = refl
same_identity modes (n ∷ ns) name = let rest = same_identity modes ns name in λ i. cond (eqb n.name name) (Some n.identity) (rest i)

same_new : (name : ℕ) (j : CodeState) → new_names name (short_state j) ≡ code_new_names name j
same_new name j =
    let known = same_identity j.modes j.in_use name in
    λ i. cond (ltb name j.first_unused) (cond (is_some (known i)) [] (name ∷ [])) (names_from (name + 1 - j.first_unused) j.first_unused)

same_literals : (j : CodeState) (ls : List Literal) → map (identity_lit (short_state j)) ls ≡ map (code_lit j) ls
same_literals j ls = map_same (identity_lit (short_state j)) (code_lit j) ls (all_of (λ l. identity_lit (short_state j) l ≡ code_lit j l) ls
    (λ l. ap (λ (o : Option ℕ). mk_lit (unwrap_or o 0) l.positive) (same_identity j.modes j.in_use l.name)))

same_inserted : (modes : List NameMode) (new : CodeNamed) (ns : List CodeNamed) → map (short_name modes) (code_insert new ns) ≡ insert_by_name (short_name modes new) (map (short_name modes) ns)
same_inserted modes new [] = refl
same_inserted modes new (n ∷ ns) =
    let rest = same_inserted modes new ns in
    cond_map (short_name modes) (ltb n.name new.name) (n ∷ code_insert new ns) (new ∷ n ∷ ns)
    ∙ (λ i. cond (ltb n.name new.name) (short_name modes n ∷ rest i) (short_name modes new ∷ short_name modes n ∷ map (short_name modes) ns))

appended : (ms : List NameMode) (i : ℕ) → get_or (ms ++ Sampled ∷ []) i Sampled ≡ get_or ms i Sampled
appended [] zero = refl
appended [] (suc i) = refl
appended (m ∷ ms) zero = refl
appended (m ∷ ms) (suc i) = appended ms i

past : (ms : List NameMode) (i : ℕ) → length ms ≤ i → get_or ms i Sampled ≡ Sampled
past [] i l = refl
past (m ∷ ms) zero l = absurd (omega arith)
past (m ∷ ms) (suc i) l = past ms i (omega arith)

one_more : (ms : List NameMode) (ns : List CodeNamed) → map (short_name (ms ++ Sampled ∷ [])) ns ≡ map (short_name ms) ns
one_more ms ns = map_same (short_name (ms ++ Sampled ∷ [])) (short_name ms) ns (all_of (λ n. short_name (ms ++ Sampled ∷ []) n ≡ short_name ms n) ns
    (λ n. ap (with_this n) (appended ms n.identity)))

abbrev grown : ℕ → CodeState → List Named → ScriptState
grown name j ns = record { first_unused = max j.first_unused (name + 1); in_use = ns; identity_count = j.identity_count + 1; clauses = j.clauses }

same_with_name : (name : ℕ) (j : CodeState) → Keeps j → short_state (code_with_name name j) ≡ with_name name (short_state j)
same_with_name name j h =
    let new : CodeNamed = record { name = name; identity = j.identity_count } in
    let fresh : get_or j.modes j.identity_count Sampled ≡ Sampled = past j.modes j.identity_count (let e = h.modes in omega arith) in
    let names : map (short_name (j.modes ++ Sampled ∷ [])) (code_insert new j.in_use) ≡ insert_by_name (record { name = name; identity = j.identity_count; witness = false }) (map (short_name j.modes) j.in_use)
    = one_more j.modes (code_insert new j.in_use) ∙ same_inserted j.modes new j.in_use
    ∙ ap (λ (m : NameMode). insert_by_name (with_this new m) (map (short_name j.modes) j.in_use)) fresh in
    ap (grown name j) names

name_kept : (name : ℕ) (j : CodeState) → Keeps j → Keeps (code_with_name name j)
name_kept name j h = record {
  modes = length-append j.modes (Sampled ∷ []) ∙ ap (λ n. n + 1) h.modes;
  given = inserted_all (λ n. n.identity < j.identity_count + 1) (record { name = name; identity = j.identity_count }) j.in_use (omega arith)
      (all_map (λ n. n.identity < j.identity_count) (λ n. n.identity < j.identity_count + 1) j.in_use (λ n x. omega arith) h.given);
  apart = inserted_apart (record { name = name; identity = j.identity_count }) j.in_use
      (all_map (λ n. n.identity < j.identity_count) (λ n. j.identity_count ≡ n.identity → ⊥) j.in_use (λ n x e. omega arith) h.given) h.apart;
}

-- ONE NAME AFTER ANOTHER

module _ (F : ℕ → CodeState → CodeState) (G : ℕ → ScriptState → ScriptState)
    (keeps : (name : ℕ) (j : CodeState) → Keeps j → Keeps (F name j)) where
  each_kept : (names : List ℕ) (j : CodeState) → Keeps j → Keeps (code_for_each F names j)
  each_kept [] j h = h
  each_kept (n ∷ ns) j h = each_kept ns (F n j) (keeps n j h)

  each_same : ((name : ℕ) (j : CodeState) → Keeps j → short_state (F name j) ≡ G name (short_state j)) → (names : List ℕ) (j : CodeState) → Keeps j
      → short_state (code_for_each F names j) ≡ for_each G names (short_state j)
  each_same same [] j h = refl
  each_same same (n ∷ ns) j h = each_same same ns (F n j) (keeps n j h) ∙ ap (λ (s : ScriptState). for_each G ns s) (same n j h)

bring_kept : (name : ℕ) (j : CodeState) → Keeps j → Keeps (code_introduce name j)
bring_kept name j h = each_kept code_with_name with_name name_kept (code_new_names name j) j h

same_bring : (name : ℕ) (j : CodeState) → Keeps j → short_state (code_introduce name j) ≡ introduce name (short_state j)
same_bring name j h =
    each_same code_with_name with_name name_kept same_with_name (code_new_names name j) j h
    ∙ ap (λ (names : List ℕ). for_each with_name names (short_state j)) (sym (same_new name j))

-- HIDING

same_filter : (modes : List NameMode) (name : ℕ) (ns : List CodeNamed)
    → map (short_name modes) (filter (λ n. not (eqb n.name name)) ns) ≡ filter (λ n. not (eqb n.name name)) (map (short_name modes) ns)
same_filter modes name [] = refl
same_filter modes name (n ∷ ns) =
    let rest = same_filter modes name ns in
    cond_map (short_name modes) (not (eqb n.name name)) (n ∷ filter (λ n. not (eqb n.name name)) ns) (filter (λ n. not (eqb n.name name)) ns)
    ∙ (λ i. cond (not (eqb n.name name)) (short_name modes n ∷ rest i) (rest i))

same_without : (name : ℕ) (j : CodeState) → short_state (code_without_name name j) ≡ without_name name (short_state j)
same_without name j = ap (λ (ns : List Named). record (short_state j) { in_use = ns }) (same_filter j.modes name j.in_use)

without_kept : (name : ℕ) (j : CodeState) → Keeps j → Keeps (code_without_name name j)
without_kept name j h = record {
  modes = h.modes;
  given = filtered_all (λ n. n.identity < j.identity_count) (λ n. not (eqb n.name name)) j.in_use h.given;
  apart = filtered_apart (λ n. not (eqb n.name name)) j.in_use h.apart;
}

-- MODES

other_mode : (modes : List NameMode) (mode : NameMode) (i : ℕ) (n : CodeNamed) → (n.identity ≡ i → ⊥) → short_name (set modes i mode) n ≡ short_name modes n
other_mode modes mode i n ne =
    ap (with_this n) (get_or-set_other modes i n.identity mode Sampled ne)

this_mode : (modes : List NameMode) (mode : NameMode) (i : ℕ) (n : CodeNamed) → n.identity ≡ i → i < length modes
    → short_name (set modes i mode) n ≡ record (short_name modes n) { witness = mode_is_witness mode }
this_mode modes mode i n e l =
    ap (with_this n)
    (ap (λ k. get_or (set modes i mode) k Sampled) e ∙ get_or-set_same modes i mode Sampled l)

same_marked : (mode : NameMode) (modes : List NameMode) (ns : List CodeNamed) (name i : ℕ) → Apart ns → code_identity_in ns name ≡ Some i → i < length modes
    → map (short_name (set modes i mode)) ns ≡ set_witness (mode_is_witness mode) name (map (short_name modes) ns)
same_marked mode modes [] name i a e l = absurd (cc)
same_marked mode modes (n ∷ ns) name i a e l = go (eqb n.name name) e (same_marked mode modes ns name i a.1)
  where
    go : (b : Bool) → cond b (Some n.identity) (code_identity_in ns name) ≡ Some i
        → (code_identity_in ns name ≡ Some i → i < length modes → map (short_name (set modes i mode)) ns ≡ set_witness (mode_is_witness mode) name (map (short_name modes) ns))
        → map (short_name (set modes i mode)) (n ∷ ns)
        ≡ cond b (record (short_name modes n) { witness = mode_is_witness mode } ∷ map (short_name modes) ns) (short_name modes n ∷ set_witness (mode_is_witness mode) name (map (short_name modes) ns))
    go true f ih =
        let x : n.identity ≡ i = cc in
        let first = this_mode modes mode i n x l in
        let rest = map_same (short_name (set modes i mode)) (short_name modes) ns
        (all_map (λ m. n.identity ≡ m.identity → ⊥) (λ m. short_name (set modes i mode) m ≡ short_name modes m) ns (λ m ne. other_mode modes mode i m (λ y. ne (x ∙ sym y))) a.0) in
        λ k. first k ∷ rest k
    go false f ih =
        let first = other_mode modes mode i n (found_all (λ k. n.identity ≡ k → ⊥) ns name i a.0 f) in
        let rest = ih f l in
        λ k. first k ∷ rest k

abbrev InUse : CodeState → ℕ → Type 0
InUse j name = (i : ℕ) × (code_identity_in j.in_use name ≡ Some i)

same_mode : (mode : NameMode) (name : ℕ) (j : CodeState) → Keeps j → InUse j name → short_state (code_with_mode mode name j) ≡ with_mode (mode_is_witness mode) name (short_state j)
same_mode mode name j h u =
    let under : u.0 < length j.modes = subst (λ n. u.0 < n) (sym h.modes) (found_all (λ k. k < j.identity_count) j.in_use name u.0 h.given u.1) in
    let names = ap (λ (o : Option ℕ). map (short_name (set j.modes (unwrap_or o 0) mode)) j.in_use) u.1 ∙ same_marked mode j.modes j.in_use name u.0 h.apart u.1 under in
    ap (λ (ns : List Named). record (short_state j) { in_use = ns }) names

mode_kept : (mode : NameMode) (name : ℕ) (j : CodeState) → Keeps j → Keeps (code_with_mode mode name j)
mode_kept mode name j h = record {
  modes = length-set j.modes (unwrap_or (code_identity_in j.in_use name) 0) mode ∙ h.modes;
  given = h.given;
  apart = h.apart;
}

-- a name is in use once it is introduced
inserted_found : (new : CodeNamed) (ns : List CodeNamed) (m : ℕ) → (eqb new.name m ≡ true) → (i : ℕ) × (code_identity_in (code_insert new ns) m ≡ Some i)
inserted_found new [] m e = (new.identity, ap (λ (b : Bool). cond b (Some new.identity) None) e)
inserted_found new (n ∷ ns) m e = go (ltb n.name new.name) (eqb n.name m) refl (inserted_found new ns m e)
  where
    go : (b d : Bool) → eqb n.name m ≡ d → (i : ℕ) × (code_identity_in (code_insert new ns) m ≡ Some i)
        → (i : ℕ) × (code_identity_in (cond b (n ∷ code_insert new ns) (new ∷ n ∷ ns)) m ≡ Some i)
    go true true f ih = (n.identity, ap (λ (b : Bool). cond b (Some n.identity) (code_identity_in (code_insert new ns) m)) f)
    go true false f ih = (ih.0, ap (λ (b : Bool). cond b (Some n.identity) (code_identity_in (code_insert new ns) m)) f ∙ ih.1)
    go false d f ih = (new.identity, ap (λ (b : Bool). cond b (Some new.identity) (code_identity_in (n ∷ ns) m)) e)

inserted_still : (new : CodeNamed) (ns : List CodeNamed) (m i : ℕ) → code_identity_in ns m ≡ Some i → (i : ℕ) × (code_identity_in (code_insert new ns) m ≡ Some i)
inserted_still new [] m i e = absurd (cc)
inserted_still new (n ∷ ns) m i e = go (ltb n.name new.name) (eqb n.name m) refl e (inserted_still new ns m i)
  where
    other : (c : Bool) → eqb new.name m ≡ c → (i : ℕ) × (cond c (Some new.identity) (code_identity_in (n ∷ ns) m) ≡ Some i)
    other true f = (new.identity, refl)
    other false f = (i, e)

    go : (b d : Bool) → eqb n.name m ≡ d → cond d (Some n.identity) (code_identity_in ns m) ≡ Some i
        → (code_identity_in ns m ≡ Some i → (i : ℕ) × (code_identity_in (code_insert new ns) m ≡ Some i))
        → (i : ℕ) × (code_identity_in (cond b (n ∷ code_insert new ns) (new ∷ n ∷ ns)) m ≡ Some i)
    go true true f x ih = (n.identity, ap (λ (b : Bool). cond b (Some n.identity) (code_identity_in (code_insert new ns) m)) f)
    go true false f x ih = let r = ih x in (r.0, ap (λ (b : Bool). cond b (Some n.identity) (code_identity_in (code_insert new ns) m)) f ∙ r.1)
    go false d f x ih = other (eqb new.name m) refl

named : (name : ℕ) (j : CodeState) → InUse (code_with_name name j) name
named name j = inserted_found (record { name = name; identity = j.identity_count }) j.in_use name (eq-eqb name name refl)

still_named : (name m : ℕ) (j : CodeState) → InUse j m → InUse (code_with_name name j) m
still_named name m j h = inserted_still (record { name = name; identity = j.identity_count }) j.in_use m h.0 h.1

all_still_named : (names : List ℕ) (m : ℕ) (j : CodeState) → InUse j m → InUse (code_for_each code_with_name names j) m
all_still_named [] m j h = h
all_still_named (n ∷ ns) m j h = all_still_named ns m (code_with_name n j) (still_named n m j h)

from_named : (count name m : ℕ) (j : CodeState) → name ≤ m → m < name + count → InUse (code_for_each code_with_name (names_from count name) j) m
from_named zero name m j low high = absurd (omega arith)
from_named (suc count) name m j low high = go (eqb name m) refl (λ l h. from_named count (name + 1) m (code_with_name name j) l h)
  where
    go : (b : Bool) → eqb name m ≡ b
        → (name + 1 ≤ m → m < name + 1 + count → InUse (code_for_each code_with_name (names_from count (name + 1)) (code_with_name name j)) m)
        → InUse (code_for_each code_with_name (names_from count (name + 1)) (code_with_name name j)) m
    go true e later = all_still_named (names_from count (name + 1)) m (code_with_name name j) (inserted_found (record { name = name; identity = j.identity_count }) j.in_use m e)
    go false e later = let ne = eqb-false name m e in later (omega arith) (omega arith)

brought : (name : ℕ) (j : CodeState) → InUse (code_introduce name j) name
brought name j = go (ltb name j.first_unused) refl (code_identity_in j.in_use name) refl
  where
    go : (b : Bool) → ltb name j.first_unused ≡ b → (o : Option ℕ) → code_identity_in j.in_use name ≡ o
        → InUse (code_for_each code_with_name (cond b (cond (is_some o) [] (name ∷ [])) (names_from (name + 1 - j.first_unused) j.first_unused)) j) name
    go true x (Some i) e = (i, e)
    go true x None e = named name j
    go false x o e = let low = ltb-false name j.first_unused x in from_named (name + 1 - j.first_unused) j.first_unused name j (omega arith) (omega arith)

-- COMMANDS

abbrev hidden : ℕ → CodeState → CodeState
hidden name j = code_without_name name (code_introduce name j)

abbrev moded : NameMode → ℕ → CodeState → CodeState
moded mode name j = code_with_mode mode name (code_introduce name j)

hidden_kept : (name : ℕ) (j : CodeState) → Keeps j → Keeps (hidden name j)
hidden_kept name j h = without_kept name (code_introduce name j) (bring_kept name j h)

moded_kept : (mode : NameMode) (name : ℕ) (j : CodeState) → Keeps j → Keeps (moded mode name j)
moded_kept mode name j h = mode_kept mode name (code_introduce name j) (bring_kept name j h)

same_hidden : (name : ℕ) (j : CodeState) → Keeps j → short_state (hidden name j) ≡ without_name name (introduce name (short_state j))
same_hidden name j h = same_without name (code_introduce name j) ∙ ap (λ (s : ScriptState). without_name name s) (same_bring name j h)

same_moded : (mode : NameMode) (name : ℕ) (j : CodeState) → Keeps j → short_state (moded mode name j) ≡ with_mode (mode_is_witness mode) name (introduce name (short_state j))
same_moded mode name j h =
    same_mode mode name (code_introduce name j) (bring_kept name j h) (brought name j) ∙ ap (λ (s : ScriptState). with_mode (mode_is_witness mode) name s) (same_bring name j h)

same_clause : (ls : List Literal) (j : CodeState) → short_state (code_with_clause ls j) ≡ with_clause ls (short_state j)
same_clause ls j = ap (λ (c : List ℕ). record (short_state j) { clauses = c ∷ j.clauses }) (sym (same_literals j ls))

clause_kept : (ls : List Literal) (j : CodeState) → Keeps j → Keeps (code_with_clause ls j)
clause_kept ls j h = record { modes = h.modes; given = h.given; apart = h.apart }

same_accepted : (c : Command) (j : CodeState) → Keeps j → short_state (code_accepted c j) ≡ state_after_accepted c (short_state j)
same_accepted (Clause ls) j h =
    same_clause ls (code_for_each code_introduce (names_of ls) j) ∙ ap (λ (s : ScriptState). with_clause ls s) (each_same code_introduce introduce bring_kept same_bring (names_of ls) j h)
same_accepted (Ask ls) j h = each_same code_introduce introduce bring_kept same_bring (names_of ls) j h
same_accepted (Hide names) j h = each_same hidden (λ name s. without_name name (introduce name s)) hidden_kept same_hidden names j h
same_accepted (Witness names) j h =
    each_same (moded Witnessed) (λ name s. with_mode true name (introduce name s)) (moded_kept Witnessed) (same_moded Witnessed) names j h
same_accepted (Sample names) j h =
    each_same (moded Sampled) (λ name s. with_mode false name (introduce name s)) (moded_kept Sampled) (same_moded Sampled) names j h

-- `Keeps` still holds after an accepted command
pub accepted_kept : (c : Command) (j : CodeState) → Keeps j → Keeps (code_accepted c j)
accepted_kept (Clause ls) j h = clause_kept ls (code_for_each code_introduce (names_of ls) j) (each_kept code_introduce introduce bring_kept (names_of ls) j h)
accepted_kept (Ask ls) j h = each_kept code_introduce introduce bring_kept (names_of ls) j h
accepted_kept (Hide names) j h = each_kept hidden (λ name s. s) hidden_kept names j h
accepted_kept (Witness names) j h = each_kept (moded Witnessed) (λ name s. s) (moded_kept Witnessed) names j h
accepted_kept (Sample names) j h = each_kept (moded Sampled) (λ name s. s) (moded_kept Sampled) names j h

-- REFUSALS

has_cond : (j : CodeState) (b : Bool) (i : ℕ) (o : Option ℕ) → has_witness j (cond b (Some i) o) ≡ cond b (mode_is_witness (get_or j.modes i Sampled)) (has_witness j o)
has_cond j true i o = refl
has_cond j false i o = refl

same_witness : (j : CodeState) (ns : List CodeNamed) (name : ℕ) → is_witness (map (short_name j.modes) ns) name ≡ has_witness j (code_identity_in ns name)
same_witness j [] name = refl
same_witness j (n ∷ ns) name =
    let rest = same_witness j ns name in
    (λ i. cond (eqb n.name name) (mode_is_witness (get_or j.modes n.identity Sampled)) (rest i)) ∙ sym (has_cond j (eqb n.name name) n.identity (code_identity_in ns name))

same_first : (may : Bool) (j : CodeState) (names : List ℕ) → first_refusal may (short_state j) names ≡ code_first_refusal may j names
same_first may j [] = refl
same_first may j (name ∷ names) =
    let witness = same_witness j j.in_use name in
    let rest = same_first may j names in
    λ i. cond (ltb var_limit name) (Some PastLimit) (cond (not may && witness i) (Some (WitnessName name)) (rest i))

-- both definitions refuse the same commands, for the same reasons
pub same_refusal : (j : CodeState) (c : Command) → refusal_of (short_state j) c ≡ code_refusal_of j c
same_refusal j (Clause ls) = same_first false j (names_of ls)
same_refusal j (Ask ls) = same_first false j (names_of ls)
same_refusal j (Hide names) = same_first true j names
same_refusal j (Witness names) = same_first true j names
same_refusal j (Sample names) = same_first true j names

short_cond : (b : Bool) (j k : CodeState) → short_state (cond b j k) ≡ cond b (short_state j) (short_state k)
short_cond true j k = refl
short_cond false j k = refl

-- both definitions have the same state after a command
pub same_after : (c : Command) (j : CodeState) → Keeps j → short_state (code_after_command c j) ≡ after_command c (short_state j)
same_after c j h =
    let refused = sym (same_refusal j c) in
    let next = same_accepted c j h in
    short_cond (is_some (code_refusal_of j c)) j (code_accepted c j) ∙ (λ i. cond (is_some (refused i)) (short_state j) (next i))

-- `Keeps` still holds after a command
pub after_kept : (c : Command) (j : CodeState) → Keeps j → Keeps (code_after_command c j)
after_kept c j h = go (is_some (code_refusal_of j c))
  where
    go : (b : Bool) → Keeps (cond b j (code_accepted c j))
    go true = h
    go false = accepted_kept c j h

-- OUTCOMES

same_names : (modes : List NameMode) (ns : List CodeNamed) → map (λ n. n.name) (map (short_name modes) ns) ≡ map (λ n. n.name) ns
same_names modes [] = refl
same_names modes (n ∷ ns) = let rest = same_names modes ns in λ i. n.name ∷ rest i

same_true : (a : Valuation) (j : CodeState) (ls : List Literal) → AllLitsTrue a (map (identity_lit (short_state j)) ls) → AllLitsTrue a (map (code_lit j) ls)
same_true a j ls h = subst (AllLitsTrue a) (same_literals j ls) h

true_same : (a : Valuation) (j : CodeState) (ls : List Literal) → AllLitsTrue a (map (code_lit j) ls) → AllLitsTrue a (map (identity_lit (short_state j)) ls)
true_same a j ls h = subst (AllLitsTrue a) (sym (same_literals j ls)) h

model_to : (j : CodeState) (ask line : List Literal) → CodeIsRightModel j ask line → IsRightModel (short_state j) ask line
model_to j ask line m = record {
  names = m.names ∙ sym (same_names j.modes j.in_use);
  valuation = m.valuation;
  agrees = true_same m.valuation j line m.agrees;
  clauses = m.clauses;
  asked = true_same m.valuation j ask m.asked;
}

model_from : (j : CodeState) (ask line : List Literal) → IsRightModel (short_state j) ask line → CodeIsRightModel j ask line
model_from j ask line m = record {
  names = m.names ∙ same_names j.modes j.in_use;
  valuation = m.valuation;
  agrees = same_true m.valuation j line m.agrees;
  clauses = m.clauses;
  asked = same_true m.valuation j ask m.asked;
}

-- both definitions find the same outcomes correct
pub same_outcome : (j : CodeState) (ask : List Literal) (o : Outcome) → CodeIsRight j ask o ↔ IsRight (short_state j) ask o
same_outcome j ask (Sat line) = (model_to j ask line, model_from j ask line)
same_outcome j ask (Unsat core) = (
  λ c. record { order = c.order; among = c.among; none = λ a t h. c.none a (same_true a j core t) h },
  λ c. record { order = c.order; among = c.among; none = λ a t h. c.none a (true_same a j core t) h },
)
same_outcome j ask Unknown = (λ h. h, λ h. h)

-- AT THE START

pub kept_at_start : Keeps code_initial
kept_at_start = record { modes = refl; given = tt; apart = tt }
