-- Steps of a search are over variables that have solver names.
use Rattle.std.proofs.Common.{ℕ, suc, ◌-◌, ◌/◌, ◌^◌, ◌<◌, ◌≡◌, ◌∙◌, Bool, true, false, cond, Option, Some, List, [], ◌∷◌, length, map, get_or, ap, subst, arith}
use Rattle.sat_base.specs.values.Literals.{variable, negated}
use Rattle.sat_base.specs.values.Hashes.{hash_of}
use Rattle.sat_parts.specs.declared.prop.graph.Conflict.{Conflict}
use Rattle.sat_parts.specs.prop.ReasonLits.{conflict_lits}
use Rattle.sat_parts.specs.prop.Graphs.{has_no_clause}
use Rattle.sat_parts.specs.prop.State.{PropagationState, node}
use Rattle.sat_parts.proofs.lemmas.prop.StateLemmas.{negated_variable, true_from_false}
use Rattle.sat_solver.specs.session.LiveClauses.{with_var}
use Rattle.sat_solver.specs.session.Session.{Session}
use Rattle.sat_solver.specs.session.TrailEntries.{reason_clause}
use Rattle.sat_solver.specs.session.TrailUnits.{written_units}
use Rattle.sat_solver.specs.analyze_conflict.AnalysisState.{AnalysisState}
use Rattle.sat_solver.specs.analyze_conflict.Derivation.{AnalysisResult}
use Rattle.sat_parts.specs.declared.parts.SearchState.{SearchState}
use Rattle.sat_parts.specs.parts.Whole.{state}
use Rattle.sat_solver.specs.session.Matching.{TrueLitsHaveIndices}
use Rattle.sat_solver.specs.session.WritingUnits.{IsReadyForUnits}
use Rattle.sat_solver.specs.cdcl.StepEffects.{HaveIndices}

module _ (names : ℕ → Option ℕ) (global : ℕ → ℕ) where
  one : (l : ℕ) → names (global (variable l)) ≡ Some (variable l) → (x : ℕ) × (names (variable (with_var global l)) ≡ Some x)
  one l e = (let half : variable (with_var global l) ≡ global (variable l) = omega arith in (variable l, ap names half ∙ e))

  -- literals whose variables have solver names still have them when mapped to proof variables
  pub mapped_named : (ls : List ℕ) → ((k : ℕ) → k < length ls → names (global (variable (get_or ls k 0))) ≡ Some (variable (get_or ls k 0))) → HaveIndices names (map (with_var global) ls)
  mapped_named [] h = tt
  mapped_named (l ∷ ls) h = (one l (h 0 (omega arith)), mapped_named ls (λ k lt. h (suc k) (omega arith)))

  module _ (words : List ℕ) (st : PropagationState) (width : ℕ) where
    -- the same for the literals that are written as units
    pub written_named : (ls : List ℕ) → ((k : ℕ) → k < length ls → names (global (variable (get_or ls k 0))) ≡ Some (variable (get_or ls k 0))) → HaveIndices names (map (λ u. u.0) (written_units words st width global ls))
    written_named [] h = tt
    written_named (l ∷ ls) h = more (written_units words st width global ls) (hash_of (reason_clause words l (node st l).reason) / 2 ^ (64 - width)) (has_no_clause (node st l).reason) (one l (h 0 (omega arith))) (written_named ls (λ k lt. h (suc k) (omega arith)))
      where
        more : (us : List (ℕ × ℕ)) (n : ℕ) (b : Bool) → (x : ℕ) × (names (variable (with_var global l)) ≡ Some x) → HaveIndices names (map (λ u. u.0) us) → HaveIndices names (map (λ u. u.0) (cond b us ((with_var global l, n) ∷ us)))
        more us n true x h = h
        more us n false x h = (x, h)

-- the units of level 0 are over variables with solver names
pub units_named : (p : SearchState) (s : Session) (global : ℕ → ℕ) → TrueLitsHaveIndices p.assignment.current s global → IsReadyForUnits p → (us : List (ℕ × ℕ)) → us ≡ written_units p.clauses (state p) 64 global p.trail.lits → HaveIndices s.solver_names (map (λ u. u.0) us)
units_named p s global names orderly us e =
    rw e
    (written_named s.solver_names global p.clauses (state p) 64 p.trail.lits (λ k lt. names (get_or p.trail.lits k 0) (orderly.agrees.holds k lt)))

-- a learned clause is over variables with solver names
pub learned_named : (p : SearchState) (e : Conflict) (w : AnalysisState) (back : ℕ) (s : Session) (global : ℕ → ℕ) → TrueLitsHaveIndices p.assignment.current s global → AnalysisResult p.clauses (state p) (conflict_lits p.clauses e) w back → (clause : List ℕ) → clause ≡ map (with_var global) w.clause →
    HaveIndices s.solver_names clause
learned_named p e w back s global names learns clause is =
    rw is
    (mapped_named s.solver_names global w.clause (λ k lt.
    let l : ℕ = get_or w.clause k 0 in
    subst (λ v. s.solver_names (global v) ≡ Some v) (negated_variable l) (names (negated l) (true_from_false p.assignment.current l (learns.asserting.fails k lt)))))
