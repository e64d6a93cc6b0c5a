-- How rounds that begin with a simplification end.
use Rattle.std.proofs.Common.{◌∙◌, Result, Ok, Err, List, [], ◌++◌, refl, sym, subst}
use Rattle.sat_base.specs.device.Device.{Writer}
use Rattle.sat_base.specs.steps.Steps.{Step}
use Rattle.sat_checker.specs.declared.processing.ProofProcessor.{Ghosts}
use Rattle.sat_parts.specs.declared.prop.graph.Conflict.{Conflict}
use Rattle.sat_solver.specs.session.Emitting.{EmitsSomeChecked}
use Rattle.sat_solver.specs.proof.ProofView.{steps_of, session_of}
use Rattle.sat_solver.specs.session.Session.{Session, AreAllowedSteps}
use Rattle.sat_solver.specs.declared.proof.Proof.{Proof}
use Rattle.sat_solver.proofs.lemmas.session.ProofLemmas.{gains_none, gains_more}
use Rattle.sat_solver.specs.declared.schedule.RoundOutcome.{RoundOutcome}
use Rattle.sat_solver.specs.declared.schedule.RoundOutcome.TheVariants as outcomes
use Rattle.sat_solver.specs.declared.error.SolverError.{SolverError}
use Rattle.sat_solver.specs.variables.Calls.{KeepsScriptState}
use Rattle.sat_solver.specs.declared.variables.Variables.{Variables}
use Rattle.sat_solver.proofs.lemmas.variables.Doing.{does_none, does_both}
use Rattle.sat_solver.specs.session.Quiet.{MakesOnlyQuiet}
use Rattle.sat_solver.proofs.lemmas.fits.QuietLemmas.{quiet_comes, comes_quiet}
use Rattle.sat_parts.specs.parts.Words.{TrailWordExtendsFor}
use Rattle.sat_parts.specs.parts.Full.{IsBufferFull}
use Rattle.sat_solver.specs.cdcl.StepEffects.{EmitsStepsOr}
use Rattle.sat_solver.specs.cdcl.Joint.{assumed_indices, SameVarsAndAssumptions}
use Rattle.sat_solver.specs.cdcl.Rounds.{RoundResult}
use Rattle.sat_solver.specs.cdcl.Ending.{RoundSharesIndices, RoundEndsOrFails}
use Rattle.sat_solver.specs.declared.context.Search.{Search}
use Rattle.sat_solver.specs.variables.Shared.{SharesIndices}
use Rattle.sat_solver.proofs.lemmas.cdcl.GoingLemmas.{goes_failing}
use Rattle.sat_solver.proofs.lemmas.cdcl.RoundLemmas.{round_from}
use Rattle.sat_solver.proofs.lemmas.solver.AfterLemmas.{nothing_after}
use Rattle.sat_solver.proofs.lemmas.solver.ReportingLemmas.{shares_moved}
use Rattle.sat_solver.specs.unit_simplify.FreedIndices.{KeepsAsked}
use Rattle.sat_solver.specs.unit_simplify.Passes.{JointInvariant, PassesQuietly, FindsFalseClause}
use Rattle.sat_solver.proofs.lemmas.unit_simplify.FreedLemmas.{asked_refl}
use Rattle.sat_solver.proofs.lemmas.unit_simplify.StrengthenSearchLemmas.{goes_leaves}
use Rattle.sat_solver.proofs.lemmas.unit_simplify.PassesLemmas.{falls_goes, falls_later}

-- the first part of a round made only quiet steps, and changed neither variables nor assumptions
record Reaches {W L : Type 0} {G : Ghosts L} (seen : W → Writer) (n m : Variables) (p q : Proof W L G) (c d : Search) : Type 0 where
  took : EmitsSomeChecked seen p q
  quiet : MakesOnlyQuiet (steps_of p) (steps_of q)
  does : KeepsScriptState n m (steps_of p) (steps_of q)
  asked : KeepsAsked n m (session_of p) (session_of q)
  shares : SharesIndices m d
  moved : SameVarsAndAssumptions c d
  word : TrailWordExtendsFor (assumed_indices c) c.parts d.parts

shares_on : (o : RoundOutcome) (earlier steps : List Step) (s : Session) (m : Variables) (d e : Search) → SharesIndices m d → RoundResult o earlier steps s d e → RoundSharesIndices o m e
shares_on outcomes.Learned earlier steps s m d e h x = shares_moved m d e h x.moved
shares_on outcomes.Model earlier steps s m d e h x = shares_moved m d e h x.0.moved
shares_on outcomes.Unsat earlier steps s m d e h x = tt
shares_on outcomes.Failed earlier steps s m d e h x = shares_moved m d e h x.0.moved

module _ {W L : Type 0} {G : Ghosts L} (seen : W → Writer) (n m : Variables) (p q : Proof W L G) (c d : Search) where
  ends_after : Reaches seen n m p q c d → (r : Result RoundOutcome SolverError) (z : Proof W L G) (e : Search) → EmitsStepsOr (IsBufferFull e.parts) seen r q z (λ o steps. RoundResult o (steps_of q) steps (session_of z) d e) → RoundEndsOrFails seen r n m p z c e
  ends_after b (Ok o) z e g =
      let may : AreAllowedSteps (g.steps ++ steps_of q) = subst AreAllowedSteps g.went.history g.keeps in
      let quiet : KeepsScriptState m m (steps_of q) (steps_of z) = subst (KeepsScriptState m m (steps_of q)) (sym g.went.history) (nothing_after m (steps_of q) g.steps b.does.valid may g.searched) in
      record {
        steps = g.steps ++ b.took.0;
        adds = gains_more seen b.took.0 g.steps p q z b.took.1 g.went;
        keeps = g.keeps;
        does = does_both n m m (steps_of p) (steps_of q) (steps_of z) (λ j. j) (λ j. j) (λ j. []) (λ j. []) b.does quiet;
        asked = record { users = b.asked.users; assumed = (goes_leaves seen o q z _ g).assumed ∙ b.asked.assumed; indices = b.asked.indices };
        says = round_from o (steps_of p) b.took.0 g.steps (session_of z) c d e b.moved b.word (comes_quiet (steps_of p) (steps_of q) b.took.0 b.quiet b.took.1.history) (subst (λ zs. RoundResult o zs g.steps (session_of z) d e) b.took.1.history g.ends);
        shares = shares_on o (steps_of q) g.steps (session_of z) m d e b.shares g.ends;
      }
  ends_after b (Err f) z e g = falls_later seen f p q z b.took (falls_goes seen f q z (λ _ _. ⊥) (goes_failing seen f q z (λ o steps. RoundResult o (steps_of q) steps (session_of z) d e) (λ (_ : Unit {0}) _. ⊥) g))

  -- the round ends after a simplification that found no false clause, or after none
  pub ends_on : PassesQuietly seen n m p q c d → (r : Result RoundOutcome SolverError) (z : Proof W L G) (e : Search) → EmitsStepsOr (IsBufferFull e.parts) seen r q z (λ o steps. RoundResult o (steps_of q) steps (session_of z) d e) → RoundEndsOrFails seen r n m p z c e
  ends_on b = ends_after (record { took = b.took; quiet = b.quiet; does = b.does; asked = b.asked; shares = b.together.shares; moved = b.moved; word = b.word })

  -- the round ends after the simplification found a clause that is false at level 0
  pub ends_refuted : JointInvariant n p c → (f : Conflict) → FindsFalseClause n m p q c d f → (r : Result RoundOutcome SolverError) (z : Proof W L G) (e : Search) → EmitsStepsOr (IsBufferFull e.parts) seen r q z (λ o steps. RoundResult o (steps_of q) steps (session_of z) d e) → RoundEndsOrFails seen r n m p z c e
  ends_refuted h f b = ends_after reaches
    where
      here : Reaches seen n n p p c d
      here = record {
        took = ([], gains_none seen p);
        quiet = quiet_comes (steps_of p) (steps_of p) [] refl tt;
        does = does_none n (steps_of p) h.valid;
        asked = asked_refl n (session_of p);
        shares = shares_moved n c d h.shares b.moved;
        moved = b.moved;
        word = b.word;
      }

      reaches : Reaches seen n m p q c d
      reaches = subst (λ x. Reaches seen n x p q c d) (sym b.names) (subst (λ x. Reaches seen n n p x c d) (sym b.proof) here)
