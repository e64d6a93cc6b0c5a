-- Names and search after the step of an answer.
use Rattle.std.proofs.Common.{inl, ℕ, ◌<◌, ◌≤◌, ◌≡◌, ◌⊎◌, ◌∙◌, Bool, true, false, Option, Some, Ok, Err, eqb, List, [], ◌∷◌, ◌++◌, length, map, get_or, refl, sym, ap, subst}
use Rattle.std.proofs.lemmas.Bool.{or_left, or_right, eq-eqb}
use Rattle.std.specs.List.{AllByRecursion}
use Rattle.sat_base.specs.device.Device.{Writer}
use Rattle.sat_base.specs.values.Literals.{variable}
use Rattle.sat_base.specs.steps.Steps.{Step, Model, FailedAssumptions}
use Rattle.sat_checker.specs.LiteralSets.{is_among}
use Rattle.sat_checker.specs.declared.processing.ProofProcessor.{Ghosts}
use Rattle.sat_solver.specs.proof.ProofView.{EmitsChecked, HasAllowedSteps, EmitResult, steps_of, session_of}
use Rattle.sat_solver.specs.session.Session.{Session, AreAllowedSteps, after, session_after}
use Rattle.sat_solver.specs.declared.proof.Proof.{Proof}
use Rattle.sat_solver.specs.declared.proof.ProofError.{ProofError}
use Rattle.sat_solver.specs.declared.proof.ProofError.TheVariants.{Write, OutOfMemory, Check}
use Rattle.sat_solver.proofs.lemmas.session.ProofLemmas.{adds_none, gains_adds}
use Rattle.sat_solver.proofs.lemmas.cdcl.GoingLemmas.{check_loss, complaint_kept, went_checked, fault_checked}
use Rattle.sat_solver.specs.session.Listed.{ChangesNoClause}
use Rattle.sat_solver.proofs.lemmas.fits.AnswerParts.{parts_rests}
use Rattle.sat_solver.specs.declared.error.SolverError.TheVariants as errors
use Rattle.sat_solver.specs.assumptions.Core.{WritesCoreStep}
use Rattle.sat_solver.specs.cdcl.StepEffects.{error_of_proof}
use Rattle.sat_solver.specs.cdcl.Joint.{assumed_indices, global_in, SearchInvariant, SameVarsAndAssumptions}
use Rattle.sat_parts.specs.parts.Whole.{state}
use Rattle.sat_parts.specs.parts.Words.{IsIdle}
use Rattle.sat_solver.specs.declared.context.Search.{Search}
use Rattle.sat_solver.specs.declared.context.Context.{Context}
use Rattle.sat_solver.specs.variables.Variables.{data_at, variables_used, indices_used}
use Rattle.sat_solver.specs.variables.Shared.{SharesIndices}
use Rattle.sat_solver.specs.Models.{model_to}
use Rattle.sat_solver.specs.variables.Calls.{NamesInvariant}
use Rattle.sat_solver.specs.declared.variables.Variables.{Variables}
use Rattle.sat_solver.proofs.lemmas.variables.Searched.{searches_preserve_names}
use Rattle.sat_solver.specs.solver.Joined.{NamesSearchInvariant, lit_over_names}
use Rattle.sat_solver.specs.solver.Answering.{WritesModel, WritesFailedCore, CallFailsWithStoredError, model_of}
use Rattle.sat_solver.proofs.lemmas.solver.ShownLemmas.{model_only}

-- a step that changes neither clauses, units, names nor assumptions preserves the invariant of the search
pub search_rests : (s : Session) (c : Search) (step : Step) → SearchInvariant s c → ChangesNoClause step → (after step s).assumed ≡ s.assumed → (after step s).solver_names ≡ s.solver_names → SearchInvariant (after step s) c
search_rests s c step search quiet assumed names = record {
  valid = record { holds = search.valid.holds; fits = parts_rests c.parts s (global_in c) search.valid.fits step quiet };
  ready = record { free = search.ready.free; placed = search.ready.placed; there = search.ready.there; asked = assumed ∙ search.ready.asked; used = subst (λ (f : ℕ → Option ℕ). (v : ℕ) → v < length c.parts.assignment.current → (f (global_in c v) ≡ Some v) ⊎ IsIdle (assumed_indices c) (state c.parts) c.parts.vsids v) (sym names) search.ready.used };
}

pub each_live : (n : Variables) (values : List (Option Bool)) (count : ℕ) (ls : List ℕ) → ((l : ℕ) → is_among ls l ≡ true → is_among (model_to n values count) l ≡ true) → AllByRecursion (λ l. (data_at n (variable l)).deleted ≡ false) ls
each_live n values count [] h = tt
each_live n values count (l ∷ ls) h = (
  (model_only n values count l (h l (first l ls))).live,
  each_live n values count ls (λ m t. h m (later l m ls t)),
)
  where
    first : (l : ℕ) (ls : List ℕ) → is_among (l ∷ ls) l ≡ true
    first l ls = or_left (eqb l l) (is_among ls l) (eq-eqb l l refl)

    later : (l m : ℕ) (ls : List ℕ) → is_among ls m ≡ true → is_among (l ∷ ls) m ≡ true
    later l m ls t = or_right (eqb l m) (is_among ls m) t

-- names and search share their indices if the search's variables are unchanged
pub shares_moved : (n : Variables) (c c' : Search) → SharesIndices n c → SameVarsAndAssumptions c c' → SharesIndices n c'
shares_moved n c c' h moved = record {
  size = moved.size ∙ h.size ∙ sym (ap (λ gs. length gs.items) moved.globals);
  few = subst (λ (k : ℕ). k ≤ indices_used n) (sym (ap (λ gs. length gs.items) moved.globals)) h.few;
  below = λ x v e. subst (λ (k : ℕ). x < k) (sym (ap (λ gs. length gs.items) moved.globals)) (h.below x v e);
  same = λ x v e. ap (λ gs. get_or gs.items x 0) moved.globals ∙ h.same x v e;
}

module _ {W L : Type 0} {G : Ghosts L} (seen : W → Writer) (n : Variables) (a : Context W L G) (joined : NamesSearchInvariant n a) where
  module _ (proof : Proof W L G) where
    abbrev pub reported : Context W L G
    reported = record a { proof = proof }

    -- the step of a model was accepted
    pub model_shown : (ls : List ℕ) → ls ≡ model_of n a → EmitsChecked seen (Model ls ∷ []) a.proof proof → HasAllowedSteps proof → WritesModel seen n a reported
    model_shown ls e adds keeps =
        let adds_model : EmitsChecked seen (Model (model_of n a) ∷ []) a.proof proof = subst (λ xs. EmitsChecked seen (Model xs ∷ []) a.proof proof) e adds in
        let may : AreAllowedSteps (Model (model_of n a) ∷ steps_of a.proof) = subst AreAllowedSteps adds_model.history keeps in
        record {
          adds = adds_model;
          search = refl;
          config = refl;
          joined = record {
            sound = record {
              keeps = keeps;
              search = subst (λ ss. SearchInvariant (session_after ss) a.search) (sym adds_model.history) (search_rests (session_of a.proof) a.search (Model (model_of n a)) joined.sound.search tt refl refl);
              locals = joined.sound.locals;
              mids = joined.sound.mids;
            };
            valid = subst (NamesInvariant n) (sym adds_model.history)
                (searches_preserve_names n (steps_of a.proof) (Model (model_of n a)) joined.valid may.1 (each_live n a.search.parts.assignment.current (variables_used n) (model_of n a) (λ l t. t)));
            shares = joined.shares;
          };
        }

  -- memory ran out before anything was written
  pub starved : CallFailsWithStoredError seen errors.OutOfMemory a a
  starved = (record { fault = tt; steps = []; went = adds_none seen a.proof; loss = inl refl }, tt)

  -- writing or checking a step failed
  pub broken : (e : ProofError) (step : Step) (proof : Proof W L G) → EmitResult {T = Unit {0}} seen (Err e) (step ∷ []) a.proof proof → CallFailsWithStoredError seen (error_of_proof e) a (record a { proof = proof })
  broken (Write cause) step proof fails = (record { fault = tt; steps = step ∷ []; went = fails.0; loss = tt }, fails.1)
  broken OutOfMemory step proof gains = (record { fault = tt; steps = []; went = gains_adds seen [] a.proof proof gains; loss = inl gains.taking }, tt)
  broken (Check fault) step proof fails = (record { fault = fault_checked _ fault; steps = step ∷ []; went = went_checked seen (Unit {0}) fault (step ∷ []) a.proof proof fails.0; loss = check_loss fault a.proof proof fails.0.why }, complaint_kept fault proof fails.1)

  module _ (proof : Proof W L G) (c' : Search) where
    abbrev pub searched : Context W L G
    searched = record a { proof = proof; search = c' }

    -- a failed core was written
    pub core_failed : (core : List ℕ) → WritesCoreStep seen (Ok tt) a.proof proof a.search c' → core ≡ map (lit_over_names n) c'.analysis.core → WritesFailedCore seen n a searched core
    core_failed core t e = record {
      steps = t.steps;
      adds = t.went;
      reported = t.ends;
      config = refl;
      named = e;
      joined = record {
        sound = record { keeps = t.keeps; search = t.ends.search; locals = joined.sound.locals; mids = joined.sound.mids };
        valid = core_preserves_names (subst (λ ss. steps_of proof ≡ ss ++ steps_of a.proof) t.ends.is t.went.history);
        shares = shares_moved n a.search c' joined.shares t.ends.moved;
      };
    }
      where
        core_preserves_names : {ls hs : List ℕ} → steps_of proof ≡ FailedAssumptions ls hs ∷ steps_of a.proof → NamesInvariant n (steps_of proof)
        core_preserves_names {ls} {hs} e =
            let may : AreAllowedSteps (FailedAssumptions ls hs ∷ steps_of a.proof) = subst AreAllowedSteps e t.keeps in
            subst (NamesInvariant n) (sym e) (searches_preserve_names n (steps_of a.proof) (FailedAssumptions ls hs) joined.valid may.1 tt)
