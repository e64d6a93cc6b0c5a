-- Which steps a run writes into its certificate. Lists of steps have the newest first.
use Rattle.std.specs.Prelude.{ℕ, ◌≡◌, Bool, true, false, Option, Some, None, List, [], ◌∷◌}
use Rattle.sat_base.specs.values.Clauses.{Valuation}
use Rattle.sat_base.specs.script.Script.{Literal}
use Rattle.sat_base.specs.steps.Steps.{Step}
use Rattle.sat_checker.specs.Fold.{Holds}
use Rattle.sat_checker.specs.matching.Checking.{CheckerRules, is_ordered}
use Rattle.sat_checker.specs.matching.Expected.{Outcome, Unsat, Expected, Opens, Adds, Shows, Fails, Closes, FitsExpected}

-- `HasRecordedUnsat k earlier` holds if a checker with the rules `k` that was fed the steps `earlier` has recorded
-- unsat, and no valuation satisfies the clauses of these steps.
pub record HasRecordedUnsat (k : CheckerRules) (earlier : List Step) : Type 0 where
  pub recorded : k.unsat earlier ≡ true
  pub none : (a : Valuation) → Holds earlier a → ⊥

-- `CanBeOmittedOnceUnsat e` holds if the expected step may be left out once unsat is recorded: it adds a clause, or
-- shows the empty core.
abbrev pub CanBeOmittedOnceUnsat : Expected → Type 0
CanBeOmittedOnceUnsat (Adds ls) = Unit {0}
CanBeOmittedOnceUnsat (Fails ask core) = core ≡ []
CanBeOmittedOnceUnsat e = ⊥

-- `CanHaveStep unsat e` holds if the expected step `e`, which does not open or close an ask, may be written; `unsat`
-- says whether unsat is recorded before it. Once it is, a model or a core may not be written.
abbrev pub CanHaveStep : Bool → Expected → Type 0
CanHaveStep unsat (Shows names ask line) = unsat ≡ false
CanHaveStep unsat (Fails ask core) = unsat ≡ false
CanHaveStep unsat (Opens ask outcome) = ⊥
CanHaveStep unsat Closes = ⊥
CanHaveStep unsat e = Unit {0}

-- `IsKnownUnsat o n` holds if an ask with outcome `o` was answered in `n` rounds as required once unsat is recorded:
-- with the empty core, and without a round.
pub record IsKnownUnsat (o : Outcome) (n : ℕ) : Type 0 where
  pub outcome : o ≡ Unsat []
  pub rounds : n ≡ 0

-- `Certifies k all current earlier es counts` holds if the steps after `earlier`, up to `all`, contain the expected
-- steps `es` in order, among unordered steps; `CanBeOmittedOnceUnsat` says which may be left out. No step follows the
-- last expected step. `counts` are the rounds of the asks, and `current` is the outcome of the ask that is open at
-- first, if any.
pub data Certifies (k : CheckerRules) (all : List Step) : Option Outcome → List Step → List Expected → List ℕ → Type 0 where
  complete : Certifies k all None all [] []
  left_out : {current : Option Outcome} {earlier : List Step} {e : Expected} {es : List Expected} {counts : List ℕ}
      → CanBeOmittedOnceUnsat e → HasRecordedUnsat k earlier → Certifies k all current earlier es counts
      → Certifies k all current earlier (e ∷ es) counts
  other : {current : Option Outcome} {earlier : List Step} {step : Step} {e : Expected} {es : List Expected} {counts : List ℕ}
      → is_ordered step ≡ false → Certifies k all current (step ∷ earlier) (e ∷ es) counts
      → Certifies k all current earlier (e ∷ es) counts
  ordered : {current : Option Outcome} {earlier : List Step} {step : Step} {e : Expected} {es : List Expected} {counts : List ℕ}
      → CanHaveStep (k.unsat earlier) e → FitsExpected (k.knows earlier) earlier e step
      → Certifies k all current (step ∷ earlier) es counts
      → Certifies k all current earlier (e ∷ es) counts
  asked : {earlier : List Step} {step : Step} {ask : List Literal} {o : Outcome} {n : ℕ} {es : List Expected} {counts : List ℕ}
      → (k.unsat earlier ≡ true → IsKnownUnsat o n) → FitsExpected (k.knows earlier) earlier (Opens ask o) step
      → Certifies k all (Some o) (step ∷ earlier) es counts
      → Certifies k all None earlier (Opens ask o ∷ es) (n ∷ counts)
  answered : {earlier : List Step} {step : Step} {o : Outcome} {es : List Expected} {counts : List ℕ}
      → (k.unsat earlier ≡ true → o ≡ Unsat []) → FitsExpected (k.knows earlier) earlier Closes step
      → Certifies k all None (step ∷ earlier) es counts
      → Certifies k all (Some o) earlier (Closes ∷ es) counts
