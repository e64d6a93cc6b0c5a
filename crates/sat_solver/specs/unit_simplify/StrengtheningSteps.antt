-- The steps that delete a long clause, or replace it with a strengthened one.
use Rattle.std.specs.Prelude.{ℕ, ◌≡◌, Bool, ◌&&◌, nat_lt, List, ◌∷◌, length, Result, if◌then◌else◌}
use Rattle.sat_base.specs.device.Device.{Writer}
use Rattle.sat_base.specs.steps.Steps.{Deletion, Redundant, Simplified, Step, AtClause, DeleteClause}
use Rattle.sat_checker.specs.declared.processing.ProofProcessor.{Ghosts}
use Rattle.sat_solver.specs.proof.ProofView.{steps_of}
use Rattle.sat_solver.specs.session.Session.{Session, after, IsAllowedStep}
use Rattle.sat_solver.specs.declared.proof.Proof.{Proof}
use Rattle.sat_solver.specs.declared.error.SolverError.{SolverError}
use Rattle.sat_solver.specs.cdcl.StepEffects.{EmitsSteps}

-- `deletion redundant other` is the reason given for deleting a long clause: `Redundant` if it is redundant, otherwise
-- `other`
abbrev pub deletion : Bool → Deletion → Deletion
deletion redundant other = if redundant then Redundant else other

-- the step that deletes `clause`, as redundant if it is, otherwise for the reason `other`
abbrev pub deleted_step : Bool → Deletion → List ℕ → Step
deleted_step redundant other clause = DeleteClause clause (deletion redundant other)

-- `derived_step redundant part hashes` is the step that derives the strengthened clause `part`; it is redundant if the
-- original one was (`redundant`) and `part` has three or more literals
abbrev pub derived_step : Bool → (part hashes : List ℕ) → Step
derived_step redundant part hashes = AtClause (redundant && nat_lt 2 (length part)) part hashes

-- `CanStrengthen s redundant part hashes clause` holds if the strengthened clause `part` may be derived in the session
-- `s` with these hashes, and then the original `clause` may be deleted
pub record CanStrengthen (s : Session) (redundant : Bool) (part hashes clause : List ℕ) : Type 0 where
  pub derive : IsAllowedStep s (derived_step redundant part hashes)
  pub delete : IsAllowedStep (after (derived_step redundant part hashes) s) (deleted_step redundant Simplified clause)

-- `WritesStrengthening seen r p p' redundant part hashes clause` holds if `r` is `Ok` and exactly two steps were made,
-- which derive the strengthened clause `part` and then delete the original `clause`, or `r` is an error, which is
-- stored
abbrev pub WritesStrengthening : {W L : Type 0} {G : Ghosts L} → (W → Writer) → Result (Unit {0}) SolverError → Proof W L G → Proof W L G → (redundant : Bool) (part hashes clause : List ℕ) → Type 0
WritesStrengthening seen r p p' redundant part hashes clause =
    EmitsSteps seen r p p' (λ _ _. steps_of p' ≡ deleted_step redundant Simplified clause ∷ derived_step redundant part hashes ∷ steps_of p)
