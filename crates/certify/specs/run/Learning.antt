-- Where asks are in a certificate, and how many empowering clauses are derived there. Lists of steps have the newest
-- first.
use Rattle.std.specs.Prelude.{ℕ, ◌+◌, ◌*◌, ◌≡◌, List, [], ◌∷◌, ◌++◌}
use Rattle.sat_base.specs.steps.Steps.{Step, Assumptions}
use Rattle.sat_checker.specs.matching.Expected.{Outcome, Unknown}
use Rattle.sat_checker.specs.matching.ProofChecking.{checker_rules}
use Rattle.certify.specs.run.Empowering.{CountsEmpoweringFor, AreUnordered}
use Rattle.certify.specs.run.Stretches.{LearnsEachRound}

-- the number of `Assumptions` steps, including those without literals; each ask of a certificate that ends has two, one
-- to open and one to close it
abbrev pub assumption_count : List Step → ℕ
assumption_count [] = 0
assumption_count (Assumptions ls ∷ earlier) = assumption_count earlier + 1
assumption_count (step ∷ earlier) = assumption_count earlier

-- `AskLearns steps asks o rounds` holds if the number of empowering clauses derived in ask number `asks`, counted from
-- 0, fits `o` and `rounds` (`LearnsEachRound`). Its steps, unordered if `o` is unknown, are between an `Assumptions`
-- step with 2 * `asks` such steps before it, and the next one, which has no literals. Lists have the newest step first.
pub record AskLearns (steps : List Step) (asks : ℕ) (o : Outcome) (rounds : ℕ) : Type 0 where
  pub before : List Step
  pub ask : List ℕ
  pub middle : List Step
  pub following : List Step
  pub whole : steps ≡ following ++ (Assumptions [] ∷ (middle ++ (Assumptions ask ∷ before)))
  pub place : assumption_count before ≡ 2 * asks
  pub only : assumption_count middle ≡ 0
  pub learned : ℕ
  pub times : CountsEmpoweringFor (Assumptions ask ∷ before) middle learned
  pub counts : LearnsEachRound (checker_rules.unsat (Assumptions ask ∷ before)) o rounds learned
  pub unordered : o ≡ Unknown → AreUnordered middle

-- `EachAskLearns steps asks outcomes rounds` holds if there is one number of rounds for each outcome, and the
-- empowering clauses derived in each of these asks fit both (`AskLearns`), in order. `asks` is the number of asks
-- before them.
abbrev pub EachAskLearns : (steps : List Step) (asks : ℕ) → List Outcome → List ℕ → Type 0
EachAskLearns steps asks [] [] = Unit {0}
EachAskLearns steps asks [] (n ∷ ns) = ⊥
EachAskLearns steps asks (o ∷ os) [] = ⊥
EachAskLearns steps asks (o ∷ os) (n ∷ ns) = AskLearns steps asks o n × EachAskLearns steps (asks + 1) os ns
