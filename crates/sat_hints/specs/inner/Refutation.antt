-- When clauses lead to a conflict under assumed literals, one clause after another.
use Rattle.std.specs.Prelude.{ℕ, ◌≡◌, ◌⊎◌, true, false, Option, None, Some, List, [], ◌∷◌}
use Rattle.sat_checker.specs.LiteralSets.{is_among, is_tautology}
use Rattle.sat_checker.specs.ClauseStates.{ClauseState, falsified, becomes_unit, neither, clause_state}
use Rattle.sat_hints.specs.declared.answer.HintWhy.{HintWhy}
use Rattle.sat_hints.specs.declared.answer.HintWhy.TheVariants.{NotUnit, NotFalsified}

-- the fault of the last clause that a line names, given the verdict on it: `None` if it is falsified, otherwise
-- `NotFalsified`
abbrev pub last_clause_failure : ClauseState → Option HintWhy
last_clause_failure falsified = None
last_clause_failure (becomes_unit l) = Some NotFalsified
last_clause_failure neither = Some NotFalsified

-- the fault of a clause before the last, given the verdict on it: `NotUnit` if it is not unit, otherwise what `more`
-- gives for its open literal, the fault of the clauses after it
abbrev pub unit_failure : ClauseState → (ℕ → Option HintWhy) → Option HintWhy
unit_failure falsified more = Some NotUnit
unit_failure (becomes_unit l) more = more l
unit_failure neither more = Some NotUnit

-- the reason why the clauses do not lead to a conflict under the assumed literals (`NotUnit` or `NotFalsified`), or
-- `None` if they are unit in turn, and the last is falsified
abbrev pub refutation_failure : List ℕ → List (List ℕ) → Option HintWhy
refutation_failure assumed [] = Some NotFalsified
refutation_failure assumed (c ∷ []) = last_clause_failure (clause_state assumed c)
refutation_failure assumed (c ∷ d ∷ cs) = unit_failure (clause_state assumed c) (λ l. refutation_failure (l ∷ assumed) (d ∷ cs))

-- `AreExactlyAssumed ls assumed` holds if exactly the literals `ls` are assumed.
abbrev pub AreExactlyAssumed : List ℕ → List ℕ → Type 0
AreExactlyAssumed ls assumed = (l : ℕ) → is_among assumed l ≡ is_among ls l

-- `WhyNoConflict assumed clauses why` holds if `why` is the reason why the assumed literals and the clauses do not
-- conflict, or `None` if they do.
abbrev pub WhyNoConflict : List ℕ → List (List ℕ) → Option HintWhy → Type 0
WhyNoConflict assumed clauses why =
    ((is_tautology assumed ≡ true) × (why ≡ None)) ⊎ ((is_tautology assumed ≡ false) × (why ≡ refutation_failure assumed clauses))
