-- Whether literals are those of the names in use.
use Rattle.std.proofs.Common.{ℕ, suc, ◌+◌, ◌≤◌, ◌<◌, ◌≡◌, Bool, true, false, cond, eqb, List, [], ◌∷◌, length, get_or, drop, drop-cons, refl, sym, ◌∙◌, ap, arith}
use Rattle.std.proofs.lemmas.List.{drop_all}
use Rattle.std.proofs.lemmas.Bool.{eqb-true, eqb-false}
use Rattle.std.specs.Bool.{MatchBool}
use Rattle.sat_base.specs.values.Literals.{variable}
use Rattle.sat_base.specs.script.Script.{names_of}
use Rattle.certify.specs.answers.AnswerForms.{named_literals}
use Rattle.certify.specs.declared.refusals.NameState.{NameState}
use Rattle.certify.specs.declared.refusals.NameState.TheVariants as state
use Rattle.certify.specs.declared.refusals.names.Names.{Names}
use Rattle.sat_base.specs.values.Tables.{value_at}
use Rattle.certify.specs.refusals.Names.{ListsNamesInUse, is_hidden, states_of, names_in_use_from}
use Rattle.certify.proofs.lemmas.judge.States.{item_at, states_length}

abbrev pub Left : List NameState → List ℕ → ℕ → ℕ → Type 0
Left states line at index = names_of (named_literals (drop at line)) ≡ names_in_use_from (index + 1) (drop index states)

-- `Same P Q` holds if the two statements are equivalent.
abbrev pub Same : Type 0 → Type 0 → Type 0
Same P Q = (P → Q) × (Q → P)

cut : (states : List NameState) (index : ℕ) (s : NameState) → index < length states → s ≡ get_or states index s → drop index states ≡ s ∷ drop (index + 1) states
cut states index s low at =
    let more : index + 1 ≡ suc index = omega arith in
    drop-cons states index s low ∙ ap (λ (x : NameState). x ∷ drop (suc index) states) (sym at) ∙ ap (λ (n : ℕ). s ∷ drop n states) (sym more)

cut_line : (line : List ℕ) (at code : ℕ) → at < length line → code ≡ get_or line at code → drop at line ≡ code ∷ drop (at + 1) line
cut_line line at code low is =
    let more : at + 1 ≡ suc at = omega arith in
    drop-cons line at code low ∙ ap (λ (x : ℕ). x ∷ drop (suc at) line) (sym is) ∙ ap (λ (n : ℕ). code ∷ drop n line) (sym more)

passes : (states : List NameState) (index : ℕ) (s : NameState) (b : Bool) → index < length states → s ≡ get_or states index s → is_hidden s ≡ b
    → names_in_use_from (index + 1) (drop index states) ≡ cond b (names_in_use_from (index + 1 + 1) (drop (index + 1) states)) ((index + 1) ∷ names_in_use_from (index + 1 + 1) (drop (index + 1) states))
passes states index s b low at e = ap (names_in_use_from (index + 1)) (cut states index s low at) ∙ ap (λ (d : Bool). cond d (names_in_use_from (index + 1 + 1) (drop (index + 1) states)) ((index + 1) ∷ names_in_use_from (index + 1 + 1) (drop (index + 1) states))) e

shown : (s : NameState) → (s ≡ state.Hidden → ⊥) → is_hidden s ≡ false
shown state.Hidden u = absurd (u refl)
shown state.Sampled u = refl
shown state.Witnessed u = refl

head_of : {a b : ℕ} {xs ys : List ℕ} → a ∷ xs ≡ b ∷ ys → a ≡ b
head_of e = cc

tail_of : {a b : ℕ} {xs ys : List ℕ} → a ∷ xs ≡ b ∷ ys → xs ≡ ys
tail_of e = cc

module _ (names : Names) (line : List ℕ) (at index : ℕ) (s : NameState) (inside : index < names.used) (is : s ≡ value_at state.Sampled names.states index) (so : Same (ListsNamesInUse names line) (Left (states_of names) line at index)) where
  passed : (b : Bool) → is_hidden s ≡ b
      → names_in_use_from (index + 1) (drop index (states_of names)) ≡ cond b (names_in_use_from (index + 1 + 1) (drop (index + 1) (states_of names))) ((index + 1) ∷ names_in_use_from (index + 1 + 1) (drop (index + 1) (states_of names)))
  passed b e =
      let l = states_length names.states names.used in
      passes (states_of names) index s b (omega arith) (item_at names index s inside is) e

  -- a hidden name needs no literal in the line
  pub hidden_left : s ≡ state.Hidden → Same (ListsNamesInUse names line) (Left (states_of names) line at (index + 1))
  hidden_left e =
      let p = passed true (ap is_hidden e) in
      ((λ h. so.0 h ∙ p), (λ h. so.1 (h ∙ sym p)))

  module _ (u : s ≡ state.Hidden → ⊥) where
    next : names_in_use_from (index + 1) (drop index (states_of names)) ≡ (index + 1) ∷ names_in_use_from (index + 1 + 1) (drop (index + 1) (states_of names))
    next = passed false (shown s u)

    pub none_left : length line ≤ at → ListsNamesInUse names line → ⊥
    none_left over h =
        let e : [] ≡ (index + 1) ∷ names_in_use_from (index + 1 + 1) (drop (index + 1) (states_of names)) = sym (ap (λ (xs : List ℕ). names_of (named_literals xs)) (drop_all at line over)) ∙ so.0 h ∙ next in
        absurd (cc)

    module _ (code : ℕ) (within : at < length line) (here : code ≡ get_or line at code) where
      begins : names_of (named_literals (drop at line)) ≡ (variable code + 1) ∷ names_of (named_literals (drop (at + 1) line))
      begins = ap (λ (xs : List ℕ). names_of (named_literals xs)) (cut_line line at code within here)

      pub other_left : (variable code ≡ index → ⊥) → ListsNamesInUse names line → ⊥
      other_left differ h = let e : variable code + 1 ≡ index + 1 = head_of (sym begins ∙ so.0 h ∙ next) in differ (omega arith)

      pub used_left : variable code ≡ index → Same (ListsNamesInUse names line) (Left (states_of names) line (at + 1) (index + 1))
      used_left e = (
        (λ h. tail_of (sym begins ∙ so.0 h ∙ next)),
        (λ h. so.1 (begins ∙ ap (λ (xs : List ℕ). (variable code + 1) ∷ xs) h ∙ ap (λ (n : ℕ). (n + 1) ∷ names_in_use_from (index + 1 + 1) (drop (index + 1) (states_of names))) e ∙ sym next)),
      )

none_named : (xs : List ℕ) → names_of (named_literals xs) ≡ [] → xs ≡ []
none_named [] e = refl
none_named (x ∷ xs) e = absurd (cc)

some_left : (line : List ℕ) (at : ℕ) → at < length line → drop at line ≡ [] → ⊥
some_left line at low e = let f : get_or line at 0 ∷ drop (suc at) line ≡ [] = sym (drop-cons line at 0 low) ∙ e in absurd (cc)

-- after the last name, the line lists the names in use exactly if it has ended
pub end_left : (names : Names) (line : List ℕ) (at index : ℕ) (answer : Bool) → names.used ≤ index → at ≤ length line → Same (ListsNamesInUse names line) (Left (states_of names) line at index) → answer ≡ eqb at (length line)
    → MatchBool answer (ListsNamesInUse names line) (ListsNamesInUse names line → ⊥)
end_left names line at index answer over low so e = go answer (sym e)
  where
    none : names_in_use_from (index + 1) (drop index (states_of names)) ≡ []
    none = let l = states_length names.states names.used in ap (names_in_use_from (index + 1)) (drop_all index (states_of names) (omega arith))

    go : (b : Bool) → eqb at (length line) ≡ b → MatchBool b (ListsNamesInUse names line) (ListsNamesInUse names line → ⊥)
    go true x = so.1 (ap (λ (xs : List ℕ). names_of (named_literals xs)) (drop_all at line (let y = eqb-true at (length line) x in omega arith)) ∙ sym none)
    go false x = λ h. some_left line at (let y = eqb-false at (length line) x in omega arith) (none_named (drop at line) (so.0 h ∙ none))
