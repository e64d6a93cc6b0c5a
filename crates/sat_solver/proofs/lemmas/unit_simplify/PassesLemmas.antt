-- Names, proof and search stay consistent from call to call.
use Rattle.std.proofs.Common.{inl, ℕ, ◌≡◌, ◌<◌, ◌∙◌, Bool, true, length, Ok, Err, List, [], ◌++◌, None, refl, sym, ap, subst}
use Rattle.std.specs.List.{Contains}
use Rattle.sat_base.specs.device.Device.{Writer}
use Rattle.sat_base.specs.steps.Steps.{Step}
use Rattle.sat_checker.specs.declared.processing.ProofProcessor.{Ghosts}
use Rattle.sat_parts.specs.clause.Db.{live_refs}
use Rattle.sat_parts.specs.clause.Stored.{lit_of}
use Rattle.sat_parts.specs.prop.Values.{value_of}
use Rattle.sat_base.specs.values.Literals.{variable}
use Rattle.sat_checker.specs.LiteralSets.{mentions}
use Rattle.sat_solver.specs.session.Emitting.{EmitsSomeChecked}
use Rattle.sat_solver.specs.variables.StepFailures.{StepNotAccepted}
use Rattle.sat_solver.specs.proof.ProofView.{HasAllowedSteps, steps_of, session_of}
use Rattle.sat_solver.specs.session.Session.{AreAllowedSteps}
use Rattle.sat_solver.specs.declared.proof.Proof.{Proof}
use Rattle.sat_solver.proofs.lemmas.session.ProofLemmas.{adds_none, gains_none, gains_adds, gains_more}
use Rattle.sat_solver.proofs.lemmas.session.ComingLemmas.{comes_both}
use Rattle.sat_solver.specs.session.Quiet.{is_quiet}
use Rattle.sat_solver.proofs.lemmas.fits.QuietLemmas.{quiet_comes}
use Rattle.sat_solver.proofs.lemmas.cdcl.GoingLemmas.{check_loss, complaint_kept, loss_later, went_after, went_checked, fault_checked, fault_or}
use Rattle.sat_solver.specs.declared.error.SolverError.{SolverError}
use Rattle.sat_solver.specs.declared.error.SolverError.TheVariants as errors
use Rattle.sat_solver.specs.variables.Calls.{NamesInvariant, KeepsScriptState}
use Rattle.sat_solver.specs.variables.NameFailures.{IsFailure, EmitsUpTo}
use Rattle.sat_solver.specs.declared.variables.error.NameError.{NameError}
use Rattle.sat_solver.specs.declared.variables.error.NameError.TheVariants as names
use Rattle.sat_solver.specs.declared.variables.Variables.{Variables}
use Rattle.sat_solver.proofs.lemmas.variables.Doing.{does_none, does_both}
use Rattle.sat_parts.specs.parts.Frame.{SameClauses}
use Rattle.sat_parts.specs.parts.Words.{TrailWordExtendsFor}
use Rattle.sat_parts.proofs.lemmas.parts.WordSteps.{extends_refl, extends_after}
use Rattle.sat_solver.specs.cdcl.StepEffects.{EmitsSteps, EmitsStepsWith}
use Rattle.sat_solver.specs.cdcl.Joint.{assumed_indices, SearchInvariant, SameVarsAndAssumptions}
use Rattle.sat_solver.specs.declared.context.Search.{Search}
use Rattle.sat_solver.proofs.lemmas.cdcl.TurnLemmas.{moved_refl, moved_trans}
use Rattle.sat_solver.specs.variables.Shared.{SharesIndices}
use Rattle.sat_solver.specs.load.Faults.{error_of_name_call}
use Rattle.sat_solver.proofs.lemmas.solver.AfterLemmas.{nothing_after}
use Rattle.sat_solver.proofs.lemmas.solver.ReportingLemmas.{shares_moved}
use Rattle.sat_solver.specs.unit_simplify.EmptyTrail.{HasEmptyTrail, StrengthensAll}
use Rattle.sat_solver.specs.unit_simplify.FreedIndices.{CanFreeIndices, FreesSome, FirstIndicesAreUsed}
use Rattle.sat_solver.specs.unit_simplify.ClauseStatus.{HasNoAssignedLit}
use Rattle.sat_solver.specs.unit_simplify.Passes.{JointInvariant, PassesQuietly, PassFails, PassFailsOr, IsSimplifiedPass}
use Rattle.sat_solver.proofs.lemmas.unit_simplify.FreedLemmas.{asked_refl, asked_trans}
use Rattle.sat_solver.proofs.lemmas.unit_simplify.StrengthenSearchLemmas.{goes_leaves, flat_on}

module _ {W L : Type 0} {G : Ghosts L} (seen : W → Writer) where
  pub passes_refl : (n : Variables) (p : Proof W L G) (c : Search) → JointInvariant n p c → PassesQuietly seen n n p p c c
  passes_refl n p c h = record {
    together = h;
    took = ([], gains_none seen p);
    quiet = quiet_comes (steps_of p) (steps_of p) [] refl tt;
    does = does_none n (steps_of p) h.valid;
    asked = asked_refl n (session_of p);
    moved = moved_refl c;
    word = extends_refl c.parts (assumed_indices c);
  }

  pub passes_trans : (a b d : Variables) (p q r : Proof W L G) (x y z : Search) → PassesQuietly seen a b p q x y → PassesQuietly seen b d q r y z → PassesQuietly seen a d p r x z
  passes_trans a b d p q r x y z one two = record {
    together = two.together;
    took = (two.took.0 ++ one.took.0, gains_more seen one.took.0 two.took.0 p q r one.took.1 two.took.1);
    quiet = comes_both (λ earlier step. is_quiet step ≡ true) (steps_of p) (steps_of q) (steps_of r) one.quiet two.quiet;
    does = does_both a b d (steps_of p) (steps_of q) (steps_of r) (λ j. j) (λ j. j) (λ j. []) (λ j. []) one.does two.does;
    asked = asked_trans a b d (session_of p) (session_of q) (session_of r) one.asked two.asked;
    moved = moved_trans x y z one.moved two.moved;
    word = extends_after (assumed_indices x) x.parts y.parts z.parts one.word (rw one.moved.lits at two.word);
  }

  -- the search changed without a step before
  pub passes_after : (a b : Variables) (p q : Proof W L G) (x y z : Search) → SameVarsAndAssumptions x y → TrailWordExtendsFor (assumed_indices x) x.parts y.parts → PassesQuietly seen a b p q y z → PassesQuietly seen a b p q x z
  passes_after a b p q x y z moved word h = record {
    together = h.together;
    took = h.took;
    quiet = h.quiet;
    does = h.does;
    asked = h.asked;
    moved = moved_trans x y z moved h.moved;
    word = extends_after (assumed_indices x) x.parts y.parts z.parts word (rw moved.lits at h.word);
  }

  -- steps of a search were made
  pub passes_goes : {A : Type 0} (v : A) (n : Variables) (p q : Proof W L G) (c d : Search) (P : A → List Step → Type 0) → NamesInvariant n (steps_of p) → SharesIndices n c → EmitsSteps seen (Ok v) p q P → SearchInvariant (session_of q) d → SameVarsAndAssumptions c d → TrailWordExtendsFor (assumed_indices c) c.parts d.parts → PassesQuietly seen n n p q c d
  passes_goes v n p q c d P valid shares g search moved word =
      let may : AreAllowedSteps (g.steps ++ steps_of p) = subst AreAllowedSteps g.went.history g.keeps in
      let does : KeepsScriptState n n (steps_of p) (steps_of q) = subst (KeepsScriptState n n (steps_of p)) (sym g.went.history) (nothing_after n (steps_of p) g.steps valid may g.searched) in
      record {
        together = record { keeps = g.keeps; valid = does.valid; search = search; shares = shares_moved n c d shares moved };
        took = (g.steps, g.went);
        quiet = quiet_comes (steps_of p) (steps_of q) g.steps g.went.history g.quiet;
        does = does;
        asked = record { users = refl; assumed = (goes_leaves seen v p q P g).assumed; indices = λ w x m e. e };
        moved = moved;
        word = word;
      }

  -- indices were released
  pub passes_frees : (a b : Variables) (p q : Proof W L G) (c d : Search) → FreesSome a b (steps_of p) (steps_of q) c d → HasAllowedSteps q → ((w : Proof W L G) → EmitsSomeChecked seen w p → EmitsSomeChecked seen w q) → PassesQuietly seen a b p q c d
  passes_frees a b p q c d f keeps came = record {
    together = record { keeps = keeps; valid = f.does.valid; search = f.search; shares = f.shares };
    took = came p ([], gains_none seen p);
    quiet = f.quiet;
    does = f.does;
    asked = f.asked;
    moved = f.moved;
    word = f.word;
  }

  -- FAULTS

  pub falls_goes : {full : Type 0} {learns : Bool} (e : SolverError) (p q : Proof W L G) (P : Unit {0} → List Step → Type 0) → EmitsStepsWith {A = Unit {0}} full learns seen (Err e) p q P → PassFailsOr full seen e p q
  falls_goes e p q P g = record { fault = g.ends; steps = g.steps; went = g.went; kept = g.kept; loss = g.loss }

  -- a failure of a call that stores no clause is one of a call that may
  pub falls_or : (full : Type 0) (e : SolverError) (p q : Proof W L G) → PassFails seen e p q → PassFailsOr full seen e p q
  falls_or full e p q h = record { fault = fault_or full e h.fault; steps = h.steps; went = h.went; kept = h.kept; loss = h.loss }

  pub falls_starved : (p : Proof W L G) → PassFails seen errors.OutOfMemory p p
  falls_starved p = record { fault = tt; steps = []; went = adds_none seen p; kept = tt; loss = inl refl }

  -- the call failed after steps that were checked
  pub falls_later : {full : Type 0} (e : SolverError) (p q r : Proof W L G) → EmitsSomeChecked seen p q → PassFailsOr full seen e q r → PassFailsOr full seen e p r
  falls_later e p q r took f = record { fault = f.fault; steps = f.steps ++ took.0; went = went_after seen (Unit {0}) e took.0 f.steps p q r (gains_adds seen took.0 p q took.1) f.went; kept = f.kept; loss = loss_later e p q r took.1.taking f.loss }

  -- a call over names failed
  pub falls_names : (e : NameError) (p q : Proof W L G) → IsFailure e → ((w : Proof W L G) → EmitsSomeChecked seen w p → EmitsUpTo (EmitsSomeChecked seen) (StepNotAccepted seen) w e q) → PassFails seen (error_of_name_call e) p q
  falls_names names.OutOfMemory p q f came = (let t = came p ([], gains_none seen p) in record { fault = tt; steps = t.0; went = gains_adds seen t.0 p q t.1; kept = tt; loss = inl t.1.taking })
  falls_names (names.Write cause) p q f came = (let t = came p ([], gains_none seen p) in record { fault = tt; steps = t.0.0; went = t.0.1; kept = t.1; loss = tt })
  falls_names (names.Check fault) p q f came = (let t = came p ([], gains_none seen p) in record { fault = fault_checked _ fault; steps = t.0; went = went_checked seen (Unit {0}) fault t.0 p q t.1; kept = complaint_kept fault q t.2; loss = check_loss fault p q t.1.why })
  falls_names names.VariableLimit p q f came = absurd f

  -- SIMPLIFICATION

  pub may_free : (n : Variables) (p : Proof W L G) (c : Search) → JointInvariant n p c → HasEmptyTrail c.parts → CanFreeIndices n (steps_of p) c
  may_free n p c h flat = record { valid = h.valid; search = h.search; shares = h.shares; flat = flat }

  module _ (n n' : Variables) (p q r : Proof W L G) (c d e : Search) (h : JointInvariant n p c) (flat : HasEmptyTrail c.parts) (g : EmitsSteps {A = Unit {0}} seen (Ok tt) p q (λ _ _. StrengthensAll (session_of q) c d)) where
    pub passes_strengthened : PassesQuietly seen n n p q c d
    passes_strengthened = passes_goes tt n p q c d (λ _ _. StrengthensAll (session_of q) c d) h.valid h.shares g g.ends.strengthened.search g.ends.strengthened.moved g.ends.strengthened.word

    pub may_strengthened : CanFreeIndices n (steps_of q) d
    may_strengthened = may_free n q d passes_strengthened.together (flat_on c d (session_of q) g.ends.strengthened flat)

    open_freed : SameClauses d.parts e.parts → ((v : ℕ) → value_of d.parts.assignment.current v ≡ None → value_of e.parts.assignment.current v ≡ None) →
        (o : ℕ) → Contains (live_refs e.parts.clauses e.parts.db.refs) o → HasNoAssignedLit e.parts o
    open_freed same unset o there k lt =
        let was : Contains (live_refs d.parts.clauses d.parts.db.refs) o = rw (same.0, same.1) at there in
        rw same.0 (unset (variable (lit_of d.parts.clauses o k)) (g.ends.left o was k (rw same.0 at lt)))

    indices_freed : FreesSome n n' (steps_of q) (steps_of r) d e → FirstIndicesAreUsed n' (session_of q) d.parts (length d.parts.assignment.current) → FirstIndicesAreUsed n' (session_of r) e.parts (length e.parts.assignment.current)
    indices_freed f left x lt none v g =
        ap (λ ls. mentions ls v) f.asked.assumed ∙ left x (subst (λ k. x < k) f.moved.size lt) (rw (f.same.0, f.same.1, f.same.2) at none) v g

    pub simplified : FreesSome n n' (steps_of q) (steps_of r) d e → FirstIndicesAreUsed n' (session_of q) d.parts (length d.parts.assignment.current) → HasAllowedSteps r → ((w : Proof W L G) → EmitsSomeChecked seen w q → EmitsSomeChecked seen w r) → IsSimplifiedPass seen n n' p r c e
    simplified f left keeps came = record {
      passes = passes_trans n n n' p q r c d e passes_strengthened (passes_frees n n' q r d e f keeps came);
      flat = f.flat;
      left = open_freed f.same f.unset;
      indices = indices_freed f left;
    }
