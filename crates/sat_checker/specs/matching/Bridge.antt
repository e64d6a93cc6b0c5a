-- The relation between the variables of a certificate and the identities of a script state.
use Rattle.std.specs.Prelude.{ℕ, ◌<◌, ◌≡◌, true, Some, List, [], ◌∷◌}
use Rattle.std.specs.List.{AllByRecursion}
use Rattle.sat_base.specs.values.Literals.{variable}
use Rattle.sat_base.specs.values.Clauses.{Valuation, AllClausesTrue}
use Rattle.sat_base.specs.script.Script.{Among}
use Rattle.sat_base.specs.script.ScriptState.{ScriptState, identity_of}
use Rattle.sat_base.specs.steps.Steps.{Step}
use Rattle.sat_checker.specs.Fold.{Holds}
use Rattle.sat_checker.specs.matching.Checking.{variable_named, CheckerRules, AreAcceptedBy}

-- The live proof variables with their identities.
abbrev pub LiveVariables : Type 0
LiveVariables = List (ℕ × ℕ)

-- `AgreesOnLive live a b` holds if the valuations `a` of proof variables and `b` of identities agree on the live
-- variables.
abbrev pub AgreesOnLive : LiveVariables → Valuation → Valuation → Type 0
AgreesOnLive live a b = AllByRecursion (λ p. a p.0 ≡ b p.1) live

-- `AreDistinctVariables live` holds if every proof variable occurs at most once.
abbrev pub AreDistinctVariables : LiveVariables → Type 0
AreDistinctVariables [] = Unit {0}
AreDistinctVariables (p ∷ ps) = AllByRecursion (λ q. q.0 ≡ p.0 → ⊥) ps × AreDistinctVariables ps

-- `HasAcceptedModel j live a` holds if some valuation of identities agrees with `a` on the live variables and satisfies
-- the accepted clauses.
abbrev pub HasAcceptedModel : ScriptState → LiveVariables → Valuation → Type 0
HasAcceptedModel j live a = (b : Valuation) × AgreesOnLive live a b × AllClausesTrue b j.clauses

-- `IsBridge k j earlier live` holds if the script state `j` and the accepted steps `earlier` agree: every name in use
-- has a live variable with its identity, and the steps allow exactly the valuations that agree on the live variables
-- with one that satisfies the clauses of `j`.
pub record IsBridge (k : CheckerRules) (j : ScriptState) (earlier : List Step) (live : LiveVariables) : Type 0 where
  pub accepted : AreAcceptedBy k earlier
  pub once : AreDistinctVariables live
  pub known : AllByRecursion (λ p. k.knows earlier p.0 ≡ true) live
  pub below : AllByRecursion (λ p. p.1 < j.identity_count) live
  pub clauses_below : AllByRecursion (AllByRecursion (λ l. variable l < j.identity_count)) j.clauses
  -- a name's variable is live, with the name's identity
  pub named : (name v : ℕ) → variable_named earlier name ≡ Some v → (i : ℕ) × (identity_of j name ≡ Some i) × Among (v, i) live
  -- every name in use has a variable, which is live with the name's identity
  pub in_use : (name i : ℕ) → identity_of j name ≡ Some i → (v : ℕ) × (variable_named earlier name ≡ Some v) × Among (v, i) live
  pub distinct : (m n v : ℕ) → variable_named earlier m ≡ Some v → variable_named earlier n ≡ Some v → m ≡ n
  pub to : (a : Valuation) → Holds earlier a → HasAcceptedModel j live a
  pub back : (a : Valuation) → HasAcceptedModel j live a → Holds earlier a
