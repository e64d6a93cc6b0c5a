-- A loaded clause with a true literal is deleted.
use Rattle.std.proofs.Common.{ℕ, ◌≡◌, ◌∙◌, Bool, true, Result, Ok, Err, OnOk, List, ◌∷◌, sym, ap, subst}
use Rattle.sat_base.specs.device.Device.{Writer}
use Rattle.sat_base.specs.steps.Steps.{DeleteClause, Satisfied}
use Rattle.sat_checker.specs.declared.processing.ProofProcessor.{Ghosts}
use Rattle.sat_solver.specs.declared.error.SolverError.{SolverError}
use Rattle.sat_solver.specs.declared.context.Search.{Search}
use Rattle.sat_solver.specs.declared.proof.Proof.{Proof}
use Rattle.sat_solver.specs.session.AllowedSteps.{OnlyAllowedSteps, DeletesJustAdded, IsLastAdded}
use Rattle.sat_solver.specs.proof.ProofView.{steps_of, session_of}
use Rattle.sat_solver.specs.session.Session.{session_after}
use Rattle.sat_solver.specs.load.Loaded.{SearchInvariantOrUnsat, IsLoaded}
use Rattle.sat_solver.specs.cdcl.StepEffects.{EmitsSteps, EmitsStepsOr}
use Rattle.sat_solver.specs.cdcl.Joint.{SearchInvariant}
use Rattle.sat_solver.proofs.lemmas.session.ComingLemmas.{comes_one}

-- the only step deletes the clause that was added, and unsat isn't recorded
pub comes_true : {W L full : Type 0} {G : Ghosts L} (seen : W → Writer) (r : Result Bool SolverError) (p q : Proof W L G) (clause : List ℕ) (c c' : Search) → EmitsSteps seen r p q (λ left _. (left ≡ true) × (steps_of q ≡ DeleteClause clause Satisfied ∷ steps_of p)) →
    EmitsStepsOr full seen r p q (λ left _. IsLoaded left (session_of q) c c') → IsLastAdded (steps_of p) clause → OnOk r (OnlyAllowedSteps DeletesJustAdded (steps_of p) (steps_of q))
comes_true seen (Ok left) p q clause c c' g h last =
    let goes_on : SearchInvariant (session_of q) c' = subst (λ l. SearchInvariantOrUnsat l (session_of q) c') g.ends.0 h.ends.goes_on in
    comes_one DeletesJustAdded (steps_of p) (steps_of q) (DeleteClause clause Satisfied) g.ends.1 (last, sym (ap (λ ss. (session_after ss).unsat) g.ends.1) ∙ goes_on.valid.fits.consistent)
comes_true seen (Err e) p q clause c c' g h last = tt
