-- The steps expected for names, one by one, are those expected for their command.
use Rattle.std.proofs.Common.{ℕ, ◌≡◌, List, [], ◌∷◌, ◌++◌, map, refl, ◌∙◌, ap, append_assoc}
use Rattle.std.proofs.lemmas.List.{append-nil}
use Rattle.sat_base.specs.script.ScriptState.{ScriptState, Sampled, Witnessed, introduce, introduce_all, hide_all, set_mode_all, new_names}
use Rattle.sat_checker.specs.matching.Expected.{Expected, NewName, NoName, steps_introducing, steps_hiding, steps_setting_mode}
use Rattle.certify.specs.confirm.Naming.{expected_for_names, state_after_names, NamesAreExpected}
use Rattle.certify.specs.refusals.Names.{state_after_name}
use Rattle.sat_base.specs.script.Language.{OfClause, OfAsk, OfHide, OfWitness, OfSample}

-- a name that is only introduced
comes : (new : List ℕ) (more others : List Expected) → more ≡ others → (map NewName new ++ []) ++ more ≡ map NewName new ++ others
comes new more others e = ap (λ (es : List Expected). es ++ more) (append-nil (map NewName new)) ∙ ap (λ (es : List Expected). map NewName new ++ es) e

clauses : (names : List ℕ) (j : ScriptState) → expected_for_names OfClause names j ≡ steps_introducing names j
clauses [] j = refl
clauses (n ∷ ns) j = comes (new_names n j) (expected_for_names OfClause ns (introduce n j)) (steps_introducing ns (introduce n j)) (clauses ns (introduce n j))

asks : (names : List ℕ) (j : ScriptState) → expected_for_names OfAsk names j ≡ steps_introducing names j
asks [] j = refl
asks (n ∷ ns) j = comes (new_names n j) (expected_for_names OfAsk ns (introduce n j)) (steps_introducing ns (introduce n j)) (asks ns (introduce n j))

hides : (names : List ℕ) (j : ScriptState) → expected_for_names OfHide names j ≡ steps_hiding names j
hides [] j = refl
hides (n ∷ ns) j = append_assoc (map NewName (new_names n j)) (NoName n ∷ []) (expected_for_names OfHide ns (state_after_name OfHide n j)) ∙ ap (λ (es : List Expected). map NewName (new_names n j) ++ (NoName n ∷ es)) (hides ns (state_after_name OfHide n j))

witnesses : (names : List ℕ) (j : ScriptState) → expected_for_names OfWitness names j ≡ steps_setting_mode Witnessed names j
witnesses [] j = refl
witnesses (n ∷ ns) j = comes (new_names n j) (expected_for_names OfWitness ns (state_after_name OfWitness n j)) (steps_setting_mode Witnessed ns (state_after_name OfWitness n j)) (witnesses ns (state_after_name OfWitness n j))

samples : (names : List ℕ) (j : ScriptState) → expected_for_names OfSample names j ≡ steps_setting_mode Sampled names j
samples [] j = refl
samples (n ∷ ns) j = comes (new_names n j) (expected_for_names OfSample ns (state_after_name OfSample n j)) (steps_setting_mode Sampled ns (state_after_name OfSample n j)) (samples ns (state_after_name OfSample n j))

by_clause : (names : List ℕ) (j : ScriptState) → state_after_names OfClause names j ≡ introduce_all names j
by_clause [] j = refl
by_clause (n ∷ ns) j = by_clause ns (introduce n j)

by_ask : (names : List ℕ) (j : ScriptState) → state_after_names OfAsk names j ≡ introduce_all names j
by_ask [] j = refl
by_ask (n ∷ ns) j = by_ask ns (introduce n j)

by_hide : (names : List ℕ) (j : ScriptState) → state_after_names OfHide names j ≡ hide_all names j
by_hide [] j = refl
by_hide (n ∷ ns) j = by_hide ns (state_after_name OfHide n j)

by_witness : (names : List ℕ) (j : ScriptState) → state_after_names OfWitness names j ≡ set_mode_all Witnessed names j
by_witness [] j = refl
by_witness (n ∷ ns) j = by_witness ns (state_after_name OfWitness n j)

by_sample : (names : List ℕ) (j : ScriptState) → state_after_names OfSample names j ≡ set_mode_all Sampled names j
by_sample [] j = refl
by_sample (n ∷ ns) j = by_sample ns (state_after_name OfSample n j)

pub names_are_expected : NamesAreExpected
names_are_expected = record {
  clauses = clauses;
  asks = asks;
  hides = hides;
  witnesses = witnesses;
  samples = samples;
  left_by_clause = by_clause;
  left_by_ask = by_ask;
  left_by_hide = by_hide;
  left_by_witness = by_witness;
  left_by_sample = by_sample;
}
