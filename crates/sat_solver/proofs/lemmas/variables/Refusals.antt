-- Names of mode witness.
use Rattle.std.proofs.Common.{ℕ, ◌+◌, ◌≡◌, ◌≢◌, false, not, List, get_or, Option, Some, None, is_some, refl, sym, ◌∙◌, ap}
use Rattle.std.proofs.lemmas.Bool.{true≢false}
use Rattle.sat_base.specs.script.ScriptState.{ScriptState, Sampled, identity_of, is_witness, has_witness, refusal_of_names}
use Rattle.sat_base.specs.script.ScriptState as judged
use Rattle.sat_store.specs.declared.data.SamplingMode.{SamplingMode}
use Rattle.sat_store.specs.declared.data.SamplingMode.TheVariants as kept
use Rattle.sat_checker.specs.matching.Bridge.{LiveVariables}
use Rattle.sat_solver.specs.variables.Live.{given, given_of}
use Rattle.sat_solver.specs.variables.Variables.{data_at, global_of, VariablesInvariant, IsModeOf, NamesMatchState, is_witness_kept}
use Rattle.sat_solver.specs.variables.Refusing.{names_in, IsAssumed}
use Rattle.sat_solver.specs.load.Literals.{IsSampled}
use Rattle.sat_solver.specs.declared.variables.Variables.{Variables}
use Rattle.sat_solver.proofs.lemmas.variables.NewName.{none_or}

mode_same : (m : SamplingMode) (q : judged.NameMode) → m ≢ kept.Hide → IsModeOf m q → is_witness_kept m ≡ is_witness q
mode_same kept.Sample q n h = sym (ap is_witness h)
mode_same kept.Witness q n h = sym (ap is_witness h)
mode_same kept.Hide q n h = absurd (n refl)

pub witness_some : (n : Variables) (user v : ℕ) → VariablesInvariant n → global_of n user ≡ Some v → (j : ScriptState) (live : LiveVariables) → NamesMatchState n j live → is_witness_kept (data_at n v).sampling_mode ≡ has_witness j (identity_of j (user + 1))
witness_some n user v tidy e j live judged =
    let name = tidy.users.back user v e in
    let i = none_or (given live v) (λ x. true≢false (sym (judged.in_use v ∙ ap not (tidy.named v user name)) ∙ ap is_some x)) in
    mode_same (data_at n v).sampling_mode (get_or j.modes i.0 Sampled) (tidy.shown v user name) (judged.modes v i.0 i.1)
    ∙ sym (ap (has_witness j) (judged.names user ∙ ap (given_of live) e ∙ i.1))

-- only the remaining literals can be refused
abbrev pub IsLeft : Variables → List ℕ → List ℕ → Type 0
IsLeft n all rest = (j : ScriptState) (live : LiveVariables) → NamesMatchState n j live → refusal_of_names j (names_in all) ≡ refusal_of_names j (names_in rest)

sampled_kept : (m : SamplingMode) → m ≢ kept.Hide → is_witness_kept m ≡ false → m ≡ kept.Sample
sampled_kept kept.Sample n e = refl
sampled_kept kept.Witness n e = absurd (true≢false e)
sampled_kept kept.Hide n e = absurd (n refl)

pub sampled_some : (n : Variables) (user v : ℕ) → VariablesInvariant n → global_of n user ≡ Some v → is_witness_kept (data_at n v).sampling_mode ≡ false → IsSampled n user
sampled_some n user v tidy e w x f =
    let same : v ≡ x = some_same e f in
    ap (λ k. (data_at n k).sampling_mode) (sym same) ∙ sampled_kept (data_at n v).sampling_mode (tidy.shown v user (tidy.users.back user v e)) w
  where
    some_same : {a b : ℕ} {o : Option ℕ} → o ≡ Some a → o ≡ Some b → a ≡ b
    some_same f g = cc

-- if no variable was ever of mode witness, no name is
module _ (n : Variables) (tidy : VariablesInvariant n) (user : ℕ) (plain : n.witnessed ≡ false) where
  pub plain_judged : (j : ScriptState) (live : LiveVariables) → NamesMatchState n j live → false ≡ has_witness j (identity_of j (user + 1))
  plain_judged j live judged = go (global_of n user) refl
    where
      go : (o : Option ℕ) → global_of n user ≡ o → false ≡ has_witness j (identity_of j (user + 1))
      go None e = sym (ap (has_witness j) (judged.names user ∙ ap (given_of live) e))
      go (Some v) e = sym (tidy.plain plain v) ∙ witness_some n user v tidy e j live judged

  pub plain_sampled : IsSampled n user
  plain_sampled v e = sampled_some n user v tidy e (tidy.plain plain v) v e

-- ASSUMED NAMES

pub not_assumed : (n : Variables) (user v : ℕ) → global_of n user ≡ Some v → (data_at n v).assumed ≡ false → IsAssumed n user → ⊥
not_assumed n user v e f a = true≢false (sym a.marked ∙ ap (λ k. (data_at n k).assumed) (some_same a.named e) ∙ f)
  where
    some_same : {x y : ℕ} {o : Option ℕ} → o ≡ Some x → o ≡ Some y → x ≡ y
    some_same g h = cc

pub none_assumed : (n : Variables) (user : ℕ) → global_of n user ≡ None → IsAssumed n user → ⊥
none_assumed n user e a = none_some e a.named
  where
    none_some : {x : ℕ} {o : Option ℕ} → o ≡ None → o ≡ Some x → ⊥
    none_some g h = cc
