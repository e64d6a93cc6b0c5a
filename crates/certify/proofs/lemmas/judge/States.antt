-- How changes of names and modes change the script state.
use Rattle.std.proofs.Common.{ℕ, zero, suc, ◌+◌, ◌-◌, ◌≤◌, ◌<◌, ◌≡◌, Bool, true, false, not, cond, eqb, ltb, max, List, [], ◌∷◌, ◌++◌, Option, Some, None, is_some, length, get_or, set, refl, sym, ◌∙◌, ap, subst, arith, unwrap_or}
use Rattle.std.proofs.Math.ListN.{length-set, get_or-append}
use Rattle.std.proofs.Math.Seq.{get_or-append_seam}
use Rattle.std.proofs.lemmas.List.{length-append, get_or-set_same, get_or-set_other}
use Rattle.std.proofs.lemmas.Bool.{eqb-true, eqb-false, eq-eqb, ne_eqb, ltb-true, ltb-false}
use Rattle.sat_base.specs.values.Literals.{var_limit}
use Rattle.sat_base.specs.script.ScriptState.{ScriptState, Named, NameMode, Sampled, Witnessed, identity_of, with_name, with_names, names_from, new_names, introduce, without_name, with_mode}
use Rattle.sat_base.proofs.lemmas.script.LiteralValues.{all_map, placed_found, removed_found, removed_gone}
use Rattle.sat_base.proofs.lemmas.script.ScriptStates.{placed_all, filtered_all, given_at}
use Rattle.certify.specs.declared.refusals.NameState.{NameState}
use Rattle.certify.specs.declared.refusals.NameState.TheVariants as state
use Rattle.certify.specs.declared.refusals.names.Names.{Names}
use Rattle.sat_base.specs.values.Tables.{value_at, SetsValue}
use Rattle.sat_base.specs.declared.table.Table.{Table}
use Rattle.certify.specs.refusals.Names.{UnusedHaveDefaultState, NamesChangeBy, IsInUse, with_name_state, first_states, name_state_in, state_of_mode, state_of_identity, states_of, NamesHaveState}

none_some : {i : ℕ} → (let o : Option ℕ = None in o) ≡ Some i → ⊥
none_some e = cc

one_of : {i k : ℕ} → Some i ≡ Some k → i ≡ k
one_of e = cc

-- LISTS OF STATES
past_end : (xs : List NameState) (i : ℕ) → length xs ≤ i → get_or xs i state.Hidden ≡ state.Hidden
past_end [] i h = refl
past_end (x ∷ xs) zero h = absurd (omega arith)
past_end (x ∷ xs) (suc i) h = past_end xs i (omega arith)

pub past_states : (xs : List NameState) (name : ℕ) → length xs < name → name_state_in xs name ≡ state.Hidden
past_states xs zero h = refl
past_states xs (suc i) h = past_end xs i (omega arith)

-- the states of names after one more state is appended
pub pushed_at : (xs : List NameState) (s : NameState) (m : ℕ) → name_state_in (xs ++ s ∷ []) m ≡ cond (eqb (length xs + 1) m) s (name_state_in xs m)
pushed_at xs s zero = let e : eqb (length xs + 1) zero ≡ false = ne_eqb (length xs + 1) zero (λ x. omega arith) in rw e refl
pushed_at xs s (suc i) = go (eqb (length xs + 1) (suc i)) refl (ltb i (length xs)) refl
  where
    go : (b : Bool) → eqb (length xs + 1) (suc i) ≡ b → (d : Bool) → ltb i (length xs) ≡ d → get_or (xs ++ s ∷ []) i state.Hidden ≡ cond b s (get_or xs i state.Hidden)
    go true e d x = let here : i ≡ length xs = let y = eqb-true (length xs + 1) (suc i) e in omega arith in ap (λ (k : ℕ). get_or (xs ++ s ∷ []) k state.Hidden) here ∙ get_or-append_seam xs s [] state.Hidden
    go false e true x = get_or-append xs (s ∷ []) state.Hidden i (ltb-true i (length xs) x)
    go false e false x =
        let y = eqb-false (length xs + 1) (suc i) e in
        let z = ltb-false i (length xs) x in
        let differ : (suc i ≡ length xs + 1) → ⊥ = λ q. y (sym q) in
        let far : length xs < i = omega arith in
        past_end (xs ++ s ∷ []) i (omega (arith, length-append xs (s ∷ []))) ∙ sym (past_end xs i (omega arith))

-- FROM A TABLE
pub states_length : (t : Table NameState) (n : ℕ) → length (first_states t n) ≡ n
states_length t zero = refl
states_length t (suc n) = let l = states_length t n in let k = length-append (first_states t n) (value_at state.Sampled t n ∷ []) in omega arith

pub past_used : (names : Names) (name : ℕ) → names.used < name → name_state_in (states_of names) name ≡ state.Hidden
past_used names name h = let l = states_length names.states names.used in past_states (states_of names) name (omega arith)

pub got : (t : Table NameState) (n i : ℕ) → i < n → name_state_in (first_states t n) (suc i) ≡ value_at state.Sampled t i
got t zero i h = absurd (omega arith)
got t (suc n) i h = pushed_at (first_states t n) (value_at state.Sampled t n) (suc i) ∙ go (eqb (length (first_states t n) + 1) (suc i)) refl (λ low. got t n i low)
  where
    below : (b : Bool) → ltb i n ≡ b → (length (first_states t n) + 1 ≡ suc i → ⊥) → length (first_states t n) ≡ n → i < n
    below true y x l = ltb-true i n y
    below false y x l = let z = ltb-false i n y in absurd (x (omega arith))

    go : (b : Bool) → eqb (length (first_states t n) + 1) (suc i) ≡ b → (i < n → name_state_in (first_states t n) (suc i) ≡ value_at state.Sampled t i)
        → cond b (value_at state.Sampled t n) (name_state_in (first_states t n) (suc i)) ≡ value_at state.Sampled t i
    go true e earlier = let l = states_length t n in let x = eqb-true (length (first_states t n) + 1) (suc i) e in let same : n ≡ i = omega arith in ap (value_at state.Sampled t) same
    go false e earlier = earlier (below (ltb i n) refl (eqb-false (length (first_states t n) + 1) (suc i) e) (states_length t n))

-- the state of a name that was used
pub got_at : (names : Names) (index name : ℕ) (s : NameState) → index < names.used → index + 1 ≡ name → s ≡ value_at state.Sampled names.states index → name_state_in (states_of names) name ≡ s
got_at names index name s low n e = let m : name ≡ suc index = omega arith in ap (name_state_in (states_of names)) m ∙ got names.states names.used index low ∙ sym e

-- a name is in use if its state is not hidden
pub in_use_at : (names : Names) (index name : ℕ) (s : NameState) → index < names.used → index + 1 ≡ name → s ≡ value_at state.Sampled names.states index → (s ≡ state.Hidden → ⊥) → IsInUse names name
in_use_at names index name s low n e shown h = shown (sym (got_at names index name s low n e) ∙ h)

any_default : (xs : List NameState) (i : ℕ) (a b : NameState) → i < length xs → get_or xs i a ≡ get_or xs i b
any_default [] i a b h = absurd (omega arith)
any_default (x ∷ xs) zero a b h = refl
any_default (x ∷ xs) (suc i) a b h = any_default xs i a b (omega arith)

-- the state of a name, as an item of the list of states
pub item_at : (names : Names) (index : ℕ) (s : NameState) → index < names.used → s ≡ value_at state.Sampled names.states index → s ≡ get_or (states_of names) index s
item_at names index s low e =
    let l = states_length names.states names.used in
    e ∙ sym (got names.states names.used index low) ∙ any_default (states_of names) index state.Hidden s (omega arith)

-- places are counted from 0, names from 1
pub same_place : (i place name : ℕ) → place + 1 ≡ name → eqb i place ≡ eqb name (suc i)
same_place i place name n = go (eqb i place) refl
  where
    go : (b : Bool) → eqb i place ≡ b → b ≡ eqb name (suc i)
    go true e = let q = eqb-true i place e in sym (eq-eqb name (suc i) (omega arith))
    go false e = sym (ne_eqb name (suc i) (λ x. eqb-false i place e (omega arith)))

module _ (old new : Names) (index name : ℕ) (s : NameState) (low : index < old.used) (is : index + 1 ≡ name) (same : new.used ≡ old.used) (sets : SetsValue state.Sampled old.states new.states index s) where
  -- the name has the new state, and every other name keeps its state
  pub set_at : (m : ℕ) → name_state_in (states_of new) m ≡ cond (eqb name m) s (name_state_in (states_of old) m)
  set_at zero = let e : eqb name zero ≡ false = ne_eqb name zero (λ x. omega arith) in rw e refl
  set_at (suc i) = go (ltb i old.used) refl
    where
      go : (b : Bool) → ltb i old.used ≡ b → name_state_in (states_of new) (suc i) ≡ cond (eqb name (suc i)) s (name_state_in (states_of old) (suc i))
      go true e =
          let below : i < old.used = ltb-true i old.used e in
          got new.states new.used i (omega arith) ∙ sets i
          ∙ ap (λ (b : Bool). cond b s (value_at state.Sampled old.states i)) (same_place i index name is)
          ∙ ap (λ (t : NameState). cond (eqb name (suc i)) s t) (sym (got old.states old.used i below))
      go false e =
          let past = ltb-false i old.used e in
          let differ : eqb name (suc i) ≡ false = ne_eqb name (suc i) (λ x. omega arith) in
          past_used new (suc i) (omega arith) ∙ sym (past_used old (suc i) (omega arith)) ∙ ap (λ (b : Bool). cond b s (name_state_in (states_of old) (suc i))) (sym differ)

  pub set_fresh : UnusedHaveDefaultState old → UnusedHaveDefaultState new
  set_fresh h v past = sets v ∙ ap (λ (b : Bool). cond b s (value_at state.Sampled old.states v)) (ne_eqb v index (λ x. omega arith)) ∙ h v (omega arith)

-- WHAT A STATE SAYS
some_used : (modes : List NameMode) (i : ℕ) → state_of_identity modes (Some i) ≡ state.Hidden → ⊥
some_used modes i e = go (get_or modes i Sampled) e
  where
    go : (m : NameMode) → state_of_mode m ≡ state.Hidden → ⊥
    go Sampled e = cc
    go Witnessed e = cc

-- a hidden name has no identity
pub hidden_none : (names : Names) (j : ScriptState) (name : ℕ) → NamesHaveState names j → name_state_in (states_of names) name ≡ state.Hidden → identity_of j name ≡ None
hidden_none names j name h e = go (identity_of j name) refl
  where
    go : (o : Option ℕ) → identity_of j name ≡ o → o ≡ None
    go None x = refl
    go (Some i) x = absurd (some_used j.modes i (ap (state_of_identity j.modes) (sym x) ∙ h.each name ∙ e))

-- a name that is not hidden has an identity
pub used_some : (names : Names) (j : ScriptState) (name : ℕ) → NamesHaveState names j → (name_state_in (states_of names) name ≡ state.Hidden → ⊥) → (i : ℕ) × (identity_of j name ≡ Some i)
used_some names j name h u = go (identity_of j name) refl
  where
    go : (o : Option ℕ) → identity_of j name ≡ o → (i : ℕ) × (identity_of j name ≡ Some i)
    go None x = absurd (u (sym (h.each name) ∙ ap (state_of_identity j.modes) x))
    go (Some i) x = (i, x)

-- A NEW NAME
named_state : (j : ScriptState) (o : Option ℕ) → ((i : ℕ) → o ≡ Some i → i < length j.modes) → state_of_identity (j.modes ++ Sampled ∷ []) o ≡ state_of_identity j.modes o
named_state j None h = refl
named_state j (Some i) h = ap state_of_mode (get_or-append j.modes (Sampled ∷ []) Sampled i (h i refl))

-- a hidden name that is introduced gets a new identity
pub named : (old new : Names) (j : ScriptState) (name : ℕ) → NamesHaveState old j → name_state_in (states_of old) name ≡ state.Hidden → 1 ≤ name → name ≤ var_limit → name ≤ j.first_unused
    → new.used ≡ max old.used name → UnusedHaveDefaultState new
    → ((m : ℕ) → name_state_in (states_of new) m ≡ cond (eqb name m) state.Sampled (name_state_in (states_of old) m)) → NamesHaveState new (with_name name j)
named old new j name h hidden low high next longer fresh states =
    let n : Named = record { name = name; identity = j.identity_count } in
    let f = h.first in
    let l = h.limit in
    let below : (m i : ℕ) → identity_of j m ≡ Some i → i < j.identity_count = λ m i e. given_at j.in_use m i j.identity_count h.given e in
    let found : (m : ℕ) → identity_of (with_name name j) m ≡ cond (eqb name m) (Some j.identity_count) (identity_of j m) = λ m. placed_found n j.in_use m in
    record {
      first = omega arith;
      limit = omega arith;
      each = λ m. ap (state_of_identity (j.modes ++ Sampled ∷ [])) (found m) ∙ at m (eqb name m) ∙ sym (states m);
      fresh = fresh;
      given = placed_all (λ k. k.identity < j.identity_count + 1) n j.in_use (omega arith) (all_map (λ k. k.identity < j.identity_count) (λ k. k.identity < j.identity_count + 1) j.in_use (λ k x. omega arith) h.given);
      modes = length-append j.modes (Sampled ∷ []) ∙ ap (λ k. k + 1) h.modes;
      apart = λ m k i x y. alone m k i (eqb name m) refl (eqb name k) refl (sym (found m) ∙ x) (sym (found k) ∙ y);
    }
  where
    at : (m : ℕ) (b : Bool) → state_of_identity (j.modes ++ Sampled ∷ []) (cond b (Some j.identity_count) (identity_of j m)) ≡ cond b state.Sampled (name_state_in (states_of old) m)
    at m true = ap (λ (k : ℕ). state_of_mode (get_or (j.modes ++ Sampled ∷ []) k Sampled)) (sym h.modes) ∙ ap state_of_mode (get_or-append_seam j.modes Sampled [] Sampled)
    at m false = named_state j (identity_of j m) (λ i e. let x = given_at j.in_use m i j.identity_count h.given e in let y = h.modes in omega arith) ∙ h.each m

    alone : (m k i : ℕ) (b : Bool) → eqb name m ≡ b → (d : Bool) → eqb name k ≡ d → cond b (Some j.identity_count) (identity_of j m) ≡ Some i → cond d (Some j.identity_count) (identity_of j k) ≡ Some i → m ≡ k
    alone m k i true e true g x y = sym (eqb-true name m e) ∙ eqb-true name k g
    alone m k i true e false g x y = let z = given_at j.in_use k i j.identity_count h.given y in let w : j.identity_count ≡ i = one_of x in absurd (omega arith)
    alone m k i false e true g x y = let z = given_at j.in_use m i j.identity_count h.given x in let w : j.identity_count ≡ i = one_of y in absurd (omega arith)
    alone m k i false e false g x y = h.apart m k i x y

-- HIDING A NAME
pub hidden : (old new : Names) (j : ScriptState) (name : ℕ) → NamesHaveState old j → new.used ≡ old.used → UnusedHaveDefaultState new
    → ((m : ℕ) → name_state_in (states_of new) m ≡ cond (eqb name m) state.Hidden (name_state_in (states_of old) m)) → NamesHaveState new (without_name name j)
hidden old new j name h same fresh states = record {
  fresh = fresh;
  first = let f = h.first in omega arith;
  limit = h.limit;
  each = λ m. at m (eqb name m) refl ∙ sym (states m);
  given = filtered_all (λ k. k.identity < j.identity_count) (λ k. not (eqb k.name name)) j.in_use h.given;
  modes = h.modes;
  apart = λ m k i x y. h.apart m k i (still m i x) (still k i y);
}
  where
    at : (m : ℕ) (b : Bool) → eqb name m ≡ b → state_of_identity j.modes (identity_of (without_name name j) m) ≡ cond b state.Hidden (name_state_in (states_of old) m)
    at m true e = ap (λ (k : ℕ). state_of_identity j.modes (identity_of (without_name name j) k)) (sym (eqb-true name m e)) ∙ ap (state_of_identity j.modes) (removed_gone name j.in_use)
    at m false e = ap (state_of_identity j.modes) (removed_found name j.in_use m (λ q. eqb-false name m e (sym q))) ∙ h.each m

    still : (m i : ℕ) → identity_of (without_name name j) m ≡ Some i → identity_of j m ≡ Some i
    still m i x = go (eqb name m) refl
      where
        go : (b : Bool) → eqb name m ≡ b → identity_of j m ≡ Some i
        go true e = absurd (none_some (sym (removed_gone name j.in_use) ∙ ap (identity_of (without_name name j)) (eqb-true name m e) ∙ x))
        go false e = sym (removed_found name j.in_use m (λ q. eqb-false name m e (sym q))) ∙ x

-- SETTING A MODE
pub moded : (old new : Names) (j : ScriptState) (mode : NameMode) (name : ℕ) → NamesHaveState old j → (name_state_in (states_of old) name ≡ state.Hidden → ⊥) → new.used ≡ old.used → UnusedHaveDefaultState new
    → ((m : ℕ) → name_state_in (states_of new) m ≡ cond (eqb name m) (state_of_mode mode) (name_state_in (states_of old) m)) → NamesHaveState new (with_mode mode name j)
moded old new j mode name h used same fresh states =
    let u = used_some old j name h used in
    let at_name : unwrap_or (identity_of j name) 0 ≡ u.0 = ap (λ o. unwrap_or o 0) u.1 in
    record {
      first = let f = h.first in omega arith;
      limit = h.limit;
      each = λ m. at m (identity_of j m) refl (eqb name m) refl ∙ sym (states m);
      fresh = fresh;
      given = h.given;
      modes = length-set j.modes (unwrap_or (identity_of j name) 0) mode ∙ h.modes;
      apart = h.apart;
    }
  where
    at : (m : ℕ) (o : Option ℕ) → identity_of j m ≡ o → (b : Bool) → eqb name m ≡ b
        → state_of_identity (set j.modes (unwrap_or (identity_of j name) 0) mode) (identity_of j m) ≡ cond b (state_of_mode mode) (name_state_in (states_of old) m)
    at m None x true e = absurd (used (ap (name_state_in (states_of old)) (eqb-true name m e) ∙ sym (h.each m) ∙ ap (state_of_identity j.modes) x))
    at m None x false e = ap (state_of_identity (set j.modes (unwrap_or (identity_of j name) 0) mode)) x ∙ sym (ap (state_of_identity j.modes) x) ∙ h.each m
    at m (Some i) x true e =
        let here : unwrap_or (identity_of j name) 0 ≡ i = ap (λ (k : ℕ). unwrap_or (identity_of j k) 0) (eqb-true name m e) ∙ ap (λ o. unwrap_or o 0) x in
        let low = given_at j.in_use m i j.identity_count h.given x in
        let n = h.modes in
        ap (state_of_identity (set j.modes (unwrap_or (identity_of j name) 0) mode)) x
        ∙ ap (λ (k : ℕ). state_of_mode (get_or (set j.modes k mode) i Sampled)) here
        ∙ ap state_of_mode (get_or-set_same j.modes i mode Sampled (omega arith))
    at m (Some i) x false e =
        let u = used_some old j name h used in
        let differ : i ≡ unwrap_or (identity_of j name) 0 → ⊥ = λ q. eqb-false name m e (h.apart name m i (u.1 ∙ ap Some (sym (ap (λ o. unwrap_or o 0) u.1) ∙ sym q)) x) in
        ap (state_of_identity (set j.modes (unwrap_or (identity_of j name) 0) mode)) x
        ∙ ap state_of_mode (get_or-set_other j.modes (unwrap_or (identity_of j name) 0) i mode Sampled differ)
        ∙ ap (state_of_identity j.modes) (sym x)
        ∙ h.each m

-- NEW NAMES
pub new_past : (names : Names) (j : ScriptState) (name count first : ℕ) → NamesHaveState names j → j.first_unused ≤ name → count ≡ name + 1 - j.first_unused → first ≡ j.first_unused → new_names name j ≡ names_from count first
new_past names j name count first h past c f = rw (c, f) (go (ltb name j.first_unused) refl)
  where
    go : (b : Bool) → ltb name j.first_unused ≡ b → cond b (cond (is_some (identity_of j name)) [] (name ∷ [])) (names_from (name + 1 - j.first_unused) j.first_unused) ≡ names_from (name + 1 - j.first_unused) j.first_unused
    go true e = let x = ltb-true name j.first_unused e in absurd (omega arith)
    go false e = refl

below_at : (j : ScriptState) (name : ℕ) (b : Bool) → name < j.first_unused → is_some (identity_of j name) ≡ b → new_names name j ≡ cond b [] (name ∷ [])
below_at j name b low e = go (ltb name j.first_unused) refl
  where
    go : (d : Bool) → ltb name j.first_unused ≡ d → cond d (cond (is_some (identity_of j name)) [] (name ∷ [])) (names_from (name + 1 - j.first_unused) j.first_unused) ≡ cond b [] (name ∷ [])
    go true x = rw e refl
    go false x = let y = ltb-false name j.first_unused x in absurd (omega arith)

pub new_hidden : (names : Names) (j : ScriptState) (name : ℕ) → NamesHaveState names j → name < j.first_unused → name_state_in (states_of names) name ≡ state.Hidden → new_names name j ≡ name ∷ []
new_hidden names j name h low e = below_at j name false low (ap is_some (hidden_none names j name h e))

-- a name in use is not introduced again
pub new_used : (names : Names) (j : ScriptState) (name : ℕ) → NamesHaveState names j → (name_state_in (states_of names) name ≡ state.Hidden → ⊥) → new_names name j ≡ []
new_used names j name h u = below_at j name true (low (ltb names.used name) refl) (ap is_some (used_some names j name h u).1)
  where
    low : (b : Bool) → ltb names.used name ≡ b → name < j.first_unused
    low true e = absurd (u (past_used names name (ltb-true names.used name e)))
    low false e = let f = h.first in let x = ltb-false names.used name e in omega arith

-- so introducing it changes nothing
pub stays : (names : Names) (name : ℕ) → IsInUse names name → NamesChangeBy names names (introduce name)
stays names name u j h = subst (λ (ns : List ℕ). NamesHaveState names (with_names ns j)) (sym (new_used names j name h u)) h

pub witnessed_used : (s : NameState) → s ≡ state.Witnessed → s ≡ state.Hidden → ⊥
witnessed_used s e h = cc

pub sampled_used : (s : NameState) → s ≡ state.Sampled → s ≡ state.Hidden → ⊥
sampled_used s e h = cc

-- BY INDEX
pub hide_at : (old new : Names) (j : ScriptState) (index name : ℕ) → NamesHaveState old j → index < old.used → index + 1 ≡ name → new.used ≡ old.used → SetsValue state.Sampled old.states new.states index state.Hidden → NamesHaveState new (without_name name j)
hide_at old new j index name h low n same sets = hidden old new j name h same (set_fresh old new index name state.Hidden low n same sets h.fresh) (set_at old new index name state.Hidden low n same sets)

mode_at : (old new : Names) (j : ScriptState) (mode : NameMode) (index name : ℕ) → NamesHaveState old j → index < old.used → index + 1 ≡ name → new.used ≡ old.used → SetsValue state.Sampled old.states new.states index (state_of_mode mode)
    → (name_state_in (states_of old) name ≡ state.Hidden → ⊥) → NamesHaveState new (with_mode mode name j)
mode_at old new j mode index name h low n same sets used =
    moded old new j mode name h used same (set_fresh old new index name (state_of_mode mode) low n same sets h.fresh) (set_at old new index name (state_of_mode mode) low n same sets)

-- a name in use gets a state
pub state_set : (old new : Names) (s : NameState) (index name : ℕ) → index < old.used → index + 1 ≡ name → new.used ≡ old.used → SetsValue state.Sampled old.states new.states index s
    → IsInUse old name → NamesChangeBy old new (with_name_state s name)
state_set old new state.Hidden index name low n same sets used j h = hide_at old new j index name h low n same sets
state_set old new state.Sampled index name low n same sets used j h = mode_at old new j Sampled index name h low n same sets used
state_set old new state.Witnessed index name low n same sets used j h = mode_at old new j Witnessed index name h low n same sets used

-- a hidden name is introduced again
pub again_at : (old new : Names) (j : ScriptState) (index name : ℕ) → NamesHaveState old j → index < old.used → index + 1 ≡ name → index < var_limit → new.used ≡ old.used → SetsValue state.Sampled old.states new.states index state.Sampled
    → name_state_in (states_of old) name ≡ state.Hidden → NamesHaveState new (introduce name j)
again_at old new j index name h low n within same sets hidden_yet =
    let f = h.first in
    let longer : new.used ≡ max old.used name = omega arith in
    let b : NamesHaveState new (with_name name j) = named old new j name h hidden_yet (omega arith) (omega arith) (omega arith) longer (set_fresh old new index name state.Sampled low n same sets h.fresh) (set_at old new index name state.Sampled low n same sets) in
    subst (λ (ns : List ℕ). NamesHaveState new (with_names ns j)) (sym (new_hidden old j name h (omega arith) hidden_yet)) b

-- a name that is introduced again is in use
pub again_used : (old new : Names) (index name : ℕ) → index < old.used → index + 1 ≡ name → new.used ≡ old.used → SetsValue state.Sampled old.states new.states index state.Sampled → IsInUse new name
again_used old new index name low n same sets e =
    let here : eqb name name ≡ true = eq-eqb name name refl in
    sampled_used _ (set_at old new index name state.Sampled low n same sets name ∙ ap (λ (b : Bool). cond b state.Sampled (name_state_in (states_of old) name)) here) e
