-- Which expected steps a certificate meets between two of its places.
use Rattle.std.specs.Prelude.{ℕ, List, ◌∷◌, ◌++◌}
use Rattle.sat_base.specs.steps.Steps.{Step}
use Rattle.sat_checker.specs.Accepts.{Accepts, ready_after}
use Rattle.sat_checker.specs.matching.Expected.{Expected, FitsExpected}
use Rattle.certify.specs.confirm.LeftToMatch.{CertificateMeets}
use Rattle.sat_checker.specs.matching.ProofChecking.{checker_rules}

-- `RestMeets earlier es certificate` holds if the bytes `certificate` begin with steps that meet the expected steps
-- `es`, when a checker has accepted the steps `earlier` before. Any bytes may follow these steps.
abbrev pub RestMeets : List Step → List Expected → List ℕ → Type 0
RestMeets earlier es certificate = CertificateMeets checker_rules earlier es certificate

-- `MeetsExactly earlier certificate pending later rest` holds if exactly the expected steps `pending` are met between
-- two places: for all `es`, `pending ++ es` is met from the first place (`earlier`, `certificate`) exactly when `es` is
-- met from the second (`later`, `rest`).
pub record MeetsExactly (earlier : List Step) (certificate : List ℕ) (pending : List Expected) (later : List Step) (rest : List ℕ) : Type 0 where
  pub on : (es : List Expected) → RestMeets earlier (pending ++ es) certificate → RestMeets later es rest
  pub back : (es : List Expected) → RestMeets later es rest → RestMeets earlier (pending ++ es) certificate

-- `MeetsNoneOf earlier certificate pending` holds if, after the steps `earlier`, the bytes `certificate` meet no list
-- of expected steps that begins with `pending`.
pub record MeetsNoneOf (earlier : List Step) (certificate : List ℕ) (pending : List Expected) : Type 0 where
  pub none : (es : List Expected) → RestMeets earlier (pending ++ es) certificate → ⊥

-- `MeetsSameSteps earlier certificate later rest` holds if from both places, (`earlier`, `certificate`) and (`later`,
-- `rest`), the same nonempty lists of expected steps are met, as if only unordered steps were between them.
pub record MeetsSameSteps (earlier : List Step) (certificate : List ℕ) (later : List Step) (rest : List ℕ) : Type 0 where
  pub on : (e : Expected) (es : List Expected) → RestMeets earlier (e ∷ es) certificate → RestMeets later (e ∷ es) rest
  pub back : (e : Expected) (es : List Expected) → RestMeets later (e ∷ es) rest → RestMeets earlier (e ∷ es) certificate

-- `MeetsNothing earlier certificate` holds if, after the steps `earlier`, the bytes `certificate` meet no list with at
-- least one expected step.
pub record MeetsNothing (earlier : List Step) (certificate : List ℕ) : Type 0 where
  pub none : (e : Expected) (es : List Expected) → RestMeets earlier (e ∷ es) certificate → ⊥

-- `NextIsOrdered earlier certificate later step rest` holds if `step` is the next ordered step, between the steps
-- `later` and the bytes `rest`: a nonempty list of expected steps is met from `earlier` on exactly when `step` fits the
-- first of them and is accepted after `later`, and the others are met after it.
pub record NextIsOrdered (earlier : List Step) (certificate : List ℕ) (later : List Step) (step : Step) (rest : List ℕ) : Type 0 where
  pub on : (e : Expected) (es : List Expected) → RestMeets earlier (e ∷ es) certificate
      → FitsExpected (checker_rules.knows later) later e step × Accepts (ready_after later) step × RestMeets (step ∷ later) es rest
  pub back : (e : Expected) (es : List Expected) → FitsExpected (checker_rules.knows later) later e step → Accepts (ready_after later) step
      → RestMeets (step ∷ later) es rest → RestMeets earlier (e ∷ es) certificate
