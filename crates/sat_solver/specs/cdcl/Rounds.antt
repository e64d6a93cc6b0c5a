-- The end of a round.
use Rattle.std.specs.Prelude.{◌≡◌, true, false, List, ◌∷◌, ◌++◌, Result}
use Rattle.sat_base.specs.device.Device.{Writer}
use Rattle.sat_base.specs.steps.Steps.{Step}
use Rattle.sat_checker.specs.declared.processing.ProofProcessor.{Ghosts}
use Rattle.sat_parts.specs.parts.Full.{IsBufferFull}
use Rattle.sat_parts.specs.parts.Words.{TrailWordIncreasesFor}
use Rattle.sat_solver.specs.proof.ProofView.{steps_of, session_of}
use Rattle.sat_solver.specs.session.Session.{Session, session_after}
use Rattle.sat_solver.specs.declared.proof.Proof.{Proof}
use Rattle.sat_solver.specs.declared.error.SolverError.{SolverError}
use Rattle.sat_solver.specs.session.Quiet.{AreQuiet}
use Rattle.sat_solver.specs.declared.schedule.RoundOutcome.{RoundOutcome}
use Rattle.sat_solver.specs.declared.schedule.RoundOutcome.TheVariants as outcomes
use Rattle.sat_solver.specs.declared.context.Search.{Search}
use Rattle.sat_solver.specs.cdcl.StepEffects.{EmitsStepsOr}
use Rattle.sat_solver.specs.cdcl.Joint.{assumed_indices, SearchInvariant, SameVarsAndAssumptions}
use Rattle.sat_solver.specs.cdcl.Learning.{LastIsEmpowering}
use Rattle.sat_solver.specs.cdcl.Iterations.{IsComplete, IsFalseAssumption}

-- `RoundLearns earlier steps s c c'` holds if the newest of `steps` derived an empowering clause (the others none), the
-- word that encodes the trail since the ask began rose lexicographically, and the invariant of the search holds
pub record RoundLearns (earlier steps : List Step) (s : Session) (c c' : Search) : Type 0 where
  pub search : SearchInvariant s c'
  pub moved : SameVarsAndAssumptions c c'
  pub rises : TrailWordIncreasesFor (assumed_indices c) c.parts c'.parts
  pub last : LastIsEmpowering earlier steps

-- `RoundFindsCore s c c'` holds if an assumption, stored in the search as failed, is false, and only assumptions were
-- decided; variables and assumptions are unchanged, and the invariant holds
pub record RoundFindsCore (s : Session) (c c' : Search) : Type 0 where
  pub search : SearchInvariant s c'
  pub moved : SameVarsAndAssumptions c c'
  pub failing : IsFalseAssumption c'.assumptions.lits.items c'.parts c'.failed

-- `RoundFindsModel s c c'` holds if nothing is left to propagate, every variable of a clause has a value, and the
-- assumptions are true; variables and assumptions are unchanged, and the invariant holds
pub record RoundFindsModel (s : Session) (c c' : Search) : Type 0 where
  pub search : SearchInvariant s c'
  pub moved : SameVarsAndAssumptions c c'
  pub complete : IsComplete c'.assumptions.lits.items c'.parts

-- `LastRefutes earlier steps s` holds if the newest of `steps` recorded unsat, which was not recorded before it; none
-- of them is an `AtClause` step with a nonempty clause and two or more hashes, so none is empowering
pub record LastRefutes (earlier steps : List Step) (s : Session) : Type 0 where
  pub last : Step
  pub rest : List Step
  pub is : steps ≡ last ∷ rest
  pub before : (session_after (rest ++ earlier)).unsat ≡ false
  pub now : s.unsat ≡ true
  pub quiet : AreQuiet steps

-- `RoundResult outcome earlier steps s c c'` holds if the round's `steps` and the search fit the outcome: an empowering
-- clause as the newest step, a model or a failed core without learning, or unsat recorded by the newest step
abbrev pub RoundResult : RoundOutcome → (earlier steps : List Step) → Session → Search → Search → Type 0
RoundResult outcomes.Learned earlier steps s c c' = RoundLearns earlier steps s c c'
RoundResult outcomes.Model earlier steps s c c' = RoundFindsModel s c c' × AreQuiet steps
RoundResult outcomes.Unsat earlier steps s c c' = LastRefutes earlier steps s
RoundResult outcomes.Failed earlier steps s c c' = RoundFindsCore s c c' × AreQuiet steps

-- `RoundEffect seen r p p' c c'` holds if `r` is the outcome of a round that made its steps (learned a clause, found a
-- model or core, or recorded unsat), or an error (`StoresError`); `StoreFull` only if the buffer is full
abbrev pub RoundEffect : {W L : Type 0} {G : Ghosts L} → (W → Writer) → Result RoundOutcome SolverError → Proof W L G → Proof W L G → Search → Search → Type 0
RoundEffect seen r p p' c c' = EmitsStepsOr (IsBufferFull c'.parts) seen r p p' (λ outcome steps. RoundResult outcome (steps_of p) steps (session_of p') c c')
