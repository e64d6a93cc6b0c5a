-- How a round begins.
use Rattle.std.proofs.Common.{◌≡◌, ◌∙◌, Result, Ok, Err, [], ap}
use Rattle.sat_base.specs.device.Device.{Writer}
use Rattle.sat_checker.specs.declared.processing.ProofProcessor.{Ghosts}
use Rattle.sat_solver.specs.proof.ProofView.{session_of}
use Rattle.sat_solver.specs.session.Session.{Session}
use Rattle.sat_solver.specs.declared.proof.Proof.{Proof}
use Rattle.sat_solver.specs.declared.variables.Variables.{Variables}
use Rattle.sat_solver.specs.declared.error.SolverError.{SolverError}
use Rattle.sat_solver.specs.cdcl.StepEffects.{EmitsSteps}
use Rattle.sat_solver.specs.cdcl.Joint.{assumed_indices, global_in, SearchInvariant, SameVarsAndAssumptions, SameAssumedAndNames}
use Rattle.sat_solver.specs.unit_simplify.AfterUnits.{TakesUnitsOff}
use Rattle.sat_solver.specs.cdcl.Iterations.{IsPropagated}
use Rattle.sat_solver.specs.declared.context.Search.{Search}
use Rattle.sat_solver.proofs.lemmas.cdcl.TurnLemmas.{Propagation, ready_moved, free_moved}
use Rattle.sat_solver.proofs.lemmas.solver.ReportingLemmas.{shares_moved}
use Rattle.sat_solver.specs.unit_simplify.EmptyTrail.{HasEmptyTrail}
use Rattle.sat_solver.specs.unit_simplify.Passes.{JointInvariant, IsPropagatedAtLevelZero, PassesQuietly, Simplifies}
use Rattle.sat_solver.proofs.lemmas.unit_simplify.StrengthenSearchLemmas.{goes_leaves}
use Rattle.sat_solver.proofs.lemmas.unit_simplify.PassesLemmas.{passes_goes, passes_trans, falls_later}

-- everything was propagated at level 0
pub may_settle : {W L : Type 0} {G : Ghosts L} (n : Variables) (p : Proof W L G) (c d : Search) → JointInvariant n p c → c.parts.trail.starts ≡ [] → Propagation (session_of p) c d → IsPropagatedAtLevelZero n p d
may_settle n p c d h bottom went = record { keeps = h.keeps; valid = h.valid; shares = shares_moved n c d h.shares went.moved; propagated = went.whole; bottom = went.starts ∙ bottom }

-- units were taken off the trail at level 0
module _ (s t : Session) (c d : Search) (propagated : IsPropagated s c) (leaves : SameAssumedAndNames s t) (settled : TakesUnitsOff c.parts d.parts t (global_in c)) (globals : d.globals ≡ c.globals) (assumptions : d.assumptions ≡ c.assumptions) (analysis : d.analysis ≡ c.analysis) (flags : d.flags ≡ c.flags) where
  pub settled_moved : SameVarsAndAssumptions c d
  settled_moved = record { globals = globals; lits = ap (λ a. a.lits) assumptions; size = settled.size }

  pub settled_search : SearchInvariant t d
  settled_search = record {
    valid = record { holds = settled.valid.holds; fits = rw globals settled.valid.fits };
    ready = ready_moved s t c d propagated.ready leaves settled_moved (settled.word (assumed_indices c)).0 (rw assumptions (settled.placed c.assumptions propagated.ready.placed)) (free_moved c d propagated.ready.free settled_moved analysis flags);
  }

module _ {W L : Type 0} {G : Ghosts L} (seen : W → Writer) (n : Variables) (p q : Proof W L G) (c d : Search) (may : IsPropagatedAtLevelZero n p c) (g : EmitsSteps {A = Unit {0}} seen (Ok tt) p q (λ _ _. TakesUnitsOff c.parts d.parts (session_of q) (global_in c)))
    (globals : d.globals ≡ c.globals) (assumptions : d.assumptions ≡ c.assumptions) (analysis : d.analysis ≡ c.analysis) (flags : d.flags ≡ c.flags) where
  leaves : SameAssumedAndNames (session_of p) (session_of q)
  leaves = goes_leaves seen tt p q (λ _ _. TakesUnitsOff c.parts d.parts (session_of q) (global_in c)) g

  pub settled_flat : HasEmptyTrail d.parts
  settled_flat = record { bottom = g.ends.starts ∙ may.bottom; empty = g.ends.empty may.bottom }

  pub settled_passes : PassesQuietly seen n n p q c d
  settled_passes =
      passes_goes seen tt n p q c d (λ _ _. TakesUnitsOff c.parts d.parts (session_of q) (global_in c)) may.valid may.shares g
      (settled_search (session_of p) (session_of q) c d may.propagated leaves g.ends globals assumptions analysis flags)
      (settled_moved (session_of p) (session_of q) c d may.propagated leaves g.ends globals assumptions analysis flags) (g.ends.word (assumed_indices c))

  -- then the simplification follows
  pub settled_simplified : (r : Result (Unit {0}) SolverError) (n' : Variables) (z : Proof W L G) (e : Search) → Simplifies seen r n n' q z d e → Simplifies seen r n n' p z c e
  settled_simplified (Ok x) n' z e h = record { passes = passes_trans seen n n n' p q z c d e settled_passes h.passes; flat = h.flat; left = h.left; indices = h.indices }
  settled_simplified (Err f) n' z e h = falls_later seen f p q z settled_passes.took h
