-- A target received the text of steps that a checker accepts.
use Rattle.std.proofs.Common.{◌≡◌, false, List, [], ◌∷◌, ◌++◌, refl, ap, subst}
use Rattle.std.proofs.lemmas.Bool.{true≢false}
use Rattle.sat_base.specs.device.Device.{Writer}
use Rattle.sat_base.specs.steps.Steps.{Step, SolverVarName, UserVarName, DeleteVar, ChangeSamplingMode, AddClause, AtClause, UnitClauses, DeleteClause, ChangeHashBits, Model, Assumptions, FailedAssumptions, End}
use Rattle.sat_solver.specs.proof.Checked.{has_begun}
use Rattle.sat_solver.specs.proof.ProofTexts.{ReceivedAcceptedSteps, ReceivedTextSince}
use Rattle.sat_solver.specs.session.Session.{IsAllowedStep, AreAllowedSteps, empty_session, after, session_after}
use Rattle.sat_solver.specs.declared.proof.format.ProofFormat.{ProofFormat}
use Rattle.sat_solver.proofs.lemmas.session.CutsLemmas.{cuts_are_free}
use Rattle.sat_solver.proofs.lemmas.session.StepLemmas.{valid}

-- after ends of proofs only, the session is the empty one
none_begun : (before : List Step) → has_begun before ≡ false → session_after before ≡ empty_session
none_begun [] e = refl
none_begun (End ∷ steps) e = ap (after End) (none_begun steps e)
none_begun (SolverVarName v name ∷ steps) e = absurd (true≢false e)
none_begun (UserVarName v name ∷ steps) e = absurd (true≢false e)
none_begun (DeleteVar v ∷ steps) e = absurd (true≢false e)
none_begun (ChangeSamplingMode v sample ∷ steps) e = absurd (true≢false e)
none_begun (AddClause clause ∷ steps) e = absurd (true≢false e)
none_begun (AtClause redundant clause hashes ∷ steps) e = absurd (true≢false e)
none_begun (UnitClauses us ∷ steps) e = absurd (true≢false e)
none_begun (DeleteClause clause proof ∷ steps) e = absurd (true≢false e)
none_begun (ChangeHashBits bits ∷ steps) e = absurd (true≢false e)
none_begun (Model ls ∷ steps) e = absurd (true≢false e)
none_begun (Assumptions ls ∷ steps) e = absurd (true≢false e)
none_begun (FailedAssumptions core hashes ∷ steps) e = absurd (true≢false e)

module _ (before : List Step) (none : session_after before ≡ empty_session) where
  session_following : (steps : List Step) → session_after (steps ++ before) ≡ session_after steps
  session_following [] = none
  session_following (step ∷ steps) = ap (after step) (session_following steps)

  -- steps that are allowed after these are also allowed at the beginning
  may_after : (steps : List Step) → AreAllowedSteps (steps ++ before) → AreAllowedSteps steps
  may_after [] h = tt
  may_after (step ∷ steps) h = (may_after steps h.0, subst (λ s. IsAllowedStep s step) (session_following steps) h.1)

pub is_certificate : (f : ProofFormat) (from given : Writer) (before now : List Step) → has_begun before ≡ false → AreAllowedSteps now → ReceivedTextSince f from given before now → ReceivedAcceptedSteps f from given before now
is_certificate f from given before now e may since =
    let written = cuts_are_free since.steps since.took.written since.took.counting since.took.cuts (may_after before (none_begun before e) since.steps (subst AreAllowedSteps since.following may)) in
    record { since = since; accepted = (valid since.took.written written.may).0 }
