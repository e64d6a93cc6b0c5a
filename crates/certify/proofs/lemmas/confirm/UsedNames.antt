-- The names in use are those of the script state, and a line may list them.
use Rattle.std.proofs.Common.{ℕ, zero, suc, ◌+◌, ◌-◌, ◌≤◌, ◌<◌, ◌≡◌, Bool, true, false, not, cond, eqb, List, [], ◌∷◌, map, length, get_or, Option, Some, None, is_some, refl, sym, ◌∙◌, ap, subst, arith}
use Rattle.std.proofs.lemmas.Bool.{eqb-true, eqb-false, ne_eqb, eq-eqb}
use Rattle.std.specs.List.{AllByRecursion}
use Rattle.sat_base.specs.values.Literals.{var_limit}
use Rattle.sat_base.specs.script.Script.{Literal, names_of}
use Rattle.sat_base.specs.script.ScriptState.{ScriptState, Named, NameMode, Sampled, Witnessed, identity_in, identity_of}
use Rattle.certify.specs.answers.AnswerForms.{HaveNames, NamesStrictlyIncrease}
use Rattle.certify.specs.refusals.Names.{states_of, NamesHaveState, is_hidden, state_of_mode, state_of_identity, names_in_use_from, names_in_use}
use Rattle.certify.proofs.lemmas.judge.States.{states_length}
use Rattle.sat_base.specs.script.ScriptStateLaws.{NamesAreIncreasing}
use Rattle.certify.specs.declared.refusals.NameState.{NameState}
use Rattle.certify.specs.declared.refusals.NameState.TheVariants as state
use Rattle.certify.specs.declared.refusals.names.Names.{Names}

-- THE SAME NAMES

-- `Agree first ns ss` holds if from name `first` on, exactly the names that are not hidden have an identity.
abbrev Agree : ℕ → List Named → List NameState → Type 0
Agree first ns ss = (i : ℕ) → is_some (identity_in ns (first + i)) ≡ not (is_hidden (get_or ss i state.Hidden))

abbrev Above : ℕ → List Named → Type 0
Above first ns = AllByRecursion (λ n. first ≤ n.name) ns

absent : (name : ℕ) (ns : List Named) → AllByRecursion (λ n. name < n.name) ns → identity_in ns name ≡ None
absent name [] h = refl
absent name (n ∷ ns) h = let low = h.0 in let e : eqb n.name name ≡ false = ne_eqb n.name name (λ x. omega arith) in rw e (absent name ns h.1)

found : (n : Named) (ns : List Named) → is_some (identity_in (n ∷ ns) n.name) ≡ true
found n ns = let e : eqb n.name n.name ≡ true = eq-eqb n.name n.name refl in rw e refl

passed : (n : Named) (ns : List Named) (name : ℕ) → (n.name ≡ name → ⊥) → identity_in (n ∷ ns) name ≡ identity_in ns name
passed n ns name differ = let e : eqb n.name name ≡ false = ne_eqb n.name name differ in rw e refl

above_next : (first : ℕ) (ns : List Named) → AllByRecursion (λ n. first < n.name) ns → Above (first + 1) ns
above_next first [] h = tt
above_next first (n ∷ ns) h = let low = h.0 in (omega arith, above_next first ns h.1)

rise_above : (bound name : ℕ) (ns : List Named) → bound ≤ name → AllByRecursion (λ m. name < m.name) ns → AllByRecursion (λ m. bound < m.name) ns
rise_above bound name [] low h = tt
rise_above bound name (n ∷ ns) low h = let k = h.0 in (omega arith, rise_above bound name ns low h.1)

agree_next : (first : ℕ) (ns : List Named) (s : NameState) (ss : List NameState) → Agree first ns (s ∷ ss) → Agree (first + 1) ns ss
agree_next first ns s ss h i = let e : first + 1 + i ≡ first + suc i = omega arith in ap (λ (m : ℕ). is_some (identity_in ns m)) e ∙ h (suc i)

agree_here : (first : ℕ) (ns : List Named) (s : NameState) (ss : List NameState) → Agree first ns (s ∷ ss) → is_some (identity_in ns first) ≡ not (is_hidden s)
agree_here first ns s ss h = let e : first ≡ first + zero = omega arith in ap (λ (m : ℕ). is_some (identity_in ns m)) e ∙ h zero

no_name : (first : ℕ) (ns : List Named) → Above first ns → Agree first ns [] → ns ≡ []
no_name first [] a h = refl
no_name first (n ∷ ns) a h =
    let low = a.0 in
    let at = h (n.name - first) in
    let e : first + (n.name - first) ≡ n.name = omega arith in
    let t : true ≡ false = sym (found n ns) ∙ ap (λ (m : ℕ). is_some (identity_in (n ∷ ns) m)) (sym e) ∙ at in
    absurd (cc)

module _ (first : ℕ) (s : NameState) (ss : List NameState) (rest : (ns : List Named) → NamesAreIncreasing ns → Above (first + 1) ns → Agree (first + 1) ns ss → map (λ n. n.name) ns ≡ names_in_use_from (first + 1) ss) where
  at_first : (ns : List Named) → NamesAreIncreasing ns → Above first ns → Agree first ns (s ∷ ss) → (b : Bool) → is_hidden s ≡ b → map (λ n. n.name) ns ≡ cond b (names_in_use_from (first + 1) ss) (first ∷ names_in_use_from (first + 1) ss)
  at_first [] up a h true e = rest [] tt tt (agree_next first [] s ss h)
  at_first [] up a h false e = let t : false ≡ true = agree_here first [] s ss h ∙ ap not e in absurd (cc)
  at_first (n ∷ ns) up a h b e = by_name (eqb n.name first) refl b e
    where
      by_name : (d : Bool) → eqb n.name first ≡ d → (b : Bool) → is_hidden s ≡ b → map (λ n. n.name) (n ∷ ns) ≡ cond b (names_in_use_from (first + 1) ss) (first ∷ names_in_use_from (first + 1) ss)
      by_name true x true e =
          let same = eqb-true n.name first x in
          let t : true ≡ false = sym (found n ns) ∙ ap (λ (m : ℕ). is_some (identity_in (n ∷ ns) m)) same ∙ agree_here first (n ∷ ns) s ss h ∙ ap not e in
          absurd (cc)
      by_name true x false e =
          let same = eqb-true n.name first x in
          let more : Above (first + 1) ns = above_next first ns (rise_above first n.name ns (omega arith) up.0) in
          let tail : Agree (first + 1) ns ss = λ i. ap is_some (sym (passed n ns (first + 1 + i) (λ q. omega arith))) ∙ agree_next first (n ∷ ns) s ss h i in
          ap (λ (m : ℕ). m ∷ map (λ n. n.name) ns) same ∙ ap (λ (ms : List ℕ). first ∷ ms) (rest ns up.1 more tail)
      by_name false x true e =
          let differ = eqb-false n.name first x in
          let low = a.0 in
          let up_all : AllByRecursion (λ m. first < m.name) (n ∷ ns) = (omega arith, rise_above first n.name ns low up.0) in
          rest (n ∷ ns) up (above_next first (n ∷ ns) up_all) (agree_next first (n ∷ ns) s ss h)
      by_name false x false e =
          let differ = eqb-false n.name first x in
          let low = a.0 in
          let up_all : AllByRecursion (λ m. first < m.name) (n ∷ ns) = (omega arith, rise_above first n.name ns low up.0) in
          let t : false ≡ true = ap is_some (sym (absent first (n ∷ ns) up_all)) ∙ agree_here first (n ∷ ns) s ss h ∙ ap not e in
          absurd (cc)

same_from : (ss : List NameState) (first : ℕ) (ns : List Named) → NamesAreIncreasing ns → Above first ns → Agree first ns ss → map (λ n. n.name) ns ≡ names_in_use_from first ss
same_from [] first ns up a h = ap (map (λ n. n.name)) (no_name first ns a h)
same_from (s ∷ ss) first ns up a h = at_first first s ss (λ ms. same_from ss (first + 1) ms) ns up a h (is_hidden s) refl

shown_mode : (m : NameMode) → is_hidden (state_of_mode m) ≡ false
shown_mode Sampled = refl
shown_mode Witnessed = refl

shown_identity : (modes : List NameMode) (o : Option ℕ) → is_some o ≡ not (is_hidden (state_of_identity modes o))
shown_identity modes None = refl
shown_identity modes (Some i) = ap not (sym (shown_mode _))

all_above : (ns : List Named) → Above 0 ns
all_above [] = tt
all_above (n ∷ ns) = (omega arith, all_above ns)

pub used_names : (names : Names) (j : ScriptState) → NamesHaveState names j → NamesAreIncreasing j.in_use → map (λ n. n.name) j.in_use ≡ names_in_use (states_of names)
used_names names j h up = same_from (state.Hidden ∷ (states_of names)) 0 j.in_use up (all_above j.in_use) agree
  where
    agree : Agree 0 j.in_use (state.Hidden ∷ (states_of names))
    agree zero = shown_identity j.modes (identity_of j zero) ∙ ap (λ (s : NameState). not (is_hidden s)) (h.each zero)
    agree (suc i) = let e : 0 + suc i ≡ suc i = omega arith in ap (λ (m : ℕ). is_some (identity_in j.in_use m)) e ∙ shown_identity j.modes (identity_of j (suc i)) ∙ ap (λ (s : NameState). not (is_hidden s)) (h.each (suc i))

-- WHAT A LINE MAY LIST

abbrev Between : ℕ → ℕ → List ℕ → Type 0
Between first bound ms = AllByRecursion (λ m. (first ≤ m) × (m < bound)) ms

wider : (first size : ℕ) (ms : List ℕ) → Between (first + 1) (first + 1 + size) ms → Between first (first + suc size) ms
wider first size [] h = tt
wider first size (m ∷ ms) h = let l = h.0.0 in let k = h.0.1 in ((omega arith, omega arith), wider first size ms h.1)

between_more : (b : Bool) (first size : ℕ) (ms : List ℕ) → Between (first + 1) (first + 1 + size) ms → Between first (first + suc size) (cond b ms (first ∷ ms))
between_more true first size ms h = wider first size ms h
between_more false first size ms h = ((omega arith, omega arith), wider first size ms h)

used_between : (ss : List NameState) (first : ℕ) → Between first (first + length ss) (names_in_use_from first ss)
used_between [] first = tt
used_between (s ∷ ss) first = between_more (is_hidden s) first (length ss) (names_in_use_from (first + 1) ss) (used_between ss (first + 1))

rise_more : (m first bound : ℕ) (ms : List ℕ) → m < first → Between first bound ms → NamesStrictlyIncrease ms → NamesStrictlyIncrease (m ∷ ms)
rise_more m first bound [] low a h = tt
rise_more m first bound (k ∷ ms) low a h = let l = a.0.0 in (omega arith, h)

rise_if : (b : Bool) (first size : ℕ) (ms : List ℕ) → Between (first + 1) (first + 1 + size) ms → NamesStrictlyIncrease ms → NamesStrictlyIncrease (cond b ms (first ∷ ms))
rise_if true first size ms a h = h
rise_if false first size ms a h = rise_more first (first + 1) (first + 1 + size) ms (omega arith) a h

used_rise : (ss : List NameState) (first : ℕ) → NamesStrictlyIncrease (names_in_use_from first ss)
used_rise [] first = tt
used_rise (s ∷ ss) first = rise_if (is_hidden s) first (length ss) (names_in_use_from (first + 1) ss) (used_between ss (first + 1)) (used_rise ss (first + 1))

have_names : (line : List Literal) (bound : ℕ) → bound ≤ var_limit → Between 1 (1 + bound) (names_of line) → HaveNames line
have_names [] bound low h = tt
have_names (l ∷ ls) bound low h = let a = h.0.0 in let b = h.0.1 in ((omega arith, omega arith), have_names ls bound low h.1)

-- a line that lists the names in use is in form
pub line_form : (names : Names) (line : List Literal) → names.used ≤ var_limit → names_of line ≡ names_in_use (states_of names) → HaveNames line × NamesStrictlyIncrease (names_of line)
line_form names line low e =
    let ss = states_of names in
    let l = states_length names.states names.used in
    (have_names line (length ss) (omega arith) (subst (Between 1 (1 + length ss)) (sym e) (used_between ss 1)), subst NamesStrictlyIncrease (sym e) (used_rise ss 1))
