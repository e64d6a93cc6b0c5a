-- Minimization starts with the result of resolution, and ends with the parts of a derivation.
use Rattle.std.proofs.Common.{ℕ, ◌≡◌, ◌≢◌, ◌<◌, ◌≤◌, inl, inr, false, not, List, length, get_or, sym, ap, ◌∙◌, subst, arith}
use Rattle.std.proofs.lemmas.Bool.{cases_eq}
use Rattle.std.specs.List.{Contains}
use Rattle.sat_base.specs.values.Literals.{variable, negated, is_positive}
use Rattle.sat_parts.specs.prop.Values.{IsTrueLit, IsFalseLit}
use Rattle.sat_parts.specs.prop.Ready.{AreAllFalse}
use Rattle.sat_parts.specs.prop.Graphs.{has_no_clause, node_of}
use Rattle.sat_parts.specs.prop.State.{PropagationState, node, level, current_level, StateIsConsistent}
use Rattle.sat_parts.proofs.lemmas.clause.ListLemmas.{at_place, place_in}
use Rattle.sat_parts.proofs.lemmas.prop.StateLemmas.{negated_variable, negated_twice, true_from_false}
use Rattle.sat_parts.proofs.lemmas.prop.RoomLemmas.{below_from_value}
use Rattle.sat_solver.specs.analyze_conflict.AnalysisState.{AnalysisState}
use Rattle.sat_solver.specs.analyze_conflict.Marks.{causes_at, CanAnalyze, IsReasoned, IsLowerFlagged}
use Rattle.sat_solver.specs.analyze_conflict.Derivation.{IsExplainedByUsed, explained_unit, explained_clause, explained_reason, AreExplainedByUsed, IsUnorderedDerivation, ResolutionResult}
use Rattle.sat_solver.specs.analyze_conflict.Minimization.{IsExplainedByMarks, marked_unit, marked_first, marked_flag, marked_reason, use_top, ClauseMinimizationInvariant, CanStartSearch}
use Rattle.sat_solver.proofs.lemmas.analyze_conflict.InTurn.{above_first, causes_before}
use Rattle.sat_solver.proofs.lemmas.analyze_conflict.Meeting.{level_by_variable, same_true, same_false, false_before}

-- a literal that is explained after resolution is also explained for minimization
pub marked_from_grounded : (words : List ℕ) (s : PropagationState) (conflict : List ℕ) (w : AnalysisState) (r : ℕ) → ResolutionResult words s conflict w → IsExplainedByUsed s w.clause w.used r → IsExplainedByMarks s (get_or w.clause 0 0) w r
marked_from_grounded words s conflict w r h (explained_unit z) = marked_unit z
marked_from_grounded words s conflict w r h (explained_clause c) = elim (cases_eq c.0 0) [
  | inl e ↦ marked_first (ap (λ z. get_or w.clause z 0) (sym e) ∙ at_place w.clause r c)
  | inr n ↦ marked_flag (ap (λ z. get_or w.flags (variable z) false) (sym (at_place w.clause r c)) ∙ h.flagged c.0 (omega arith) c.1)
]
marked_from_grounded words s conflict w r h (explained_reason c) = marked_reason c

pub minimal_start : (words : List ℕ) (s : PropagationState) (conflict : List ℕ) (w : AnalysisState) → ResolutionResult words s conflict w → ClauseMinimizationInvariant words s conflict (get_or w.clause 0 0) (length w.used) w.clause w
minimal_start words s conflict w h = record {
  searching = record {
    size = h.size;
    within = omega arith;
    following = omega arith;
    reasons = λ k lt. h.grounds.reasons (get_or w.used k 0) (place_in w.used k lt);
    uses = λ k lt. use_top lt (h.tops k lt);
    distinct = h.grounds.distinct;
    causes = λ k lt i b. marked_from_grounded words s conflict w (get_or (causes_at words s (get_or w.used k 0)) i 0) h (h.grounds.causes (get_or w.used k 0) (place_in w.used k lt) i b);
    start = λ i b. marked_from_grounded words s conflict w (get_or conflict i 0) h (h.grounds.start i b);
  };
  distinct = h.asserting.distinct;
  has_first = place_in w.clause 0 h.asserting.some;
  top = h.asserting.top;
  lower = λ r c. elim (cases_eq c.0 0) [
    | inl e ↦ inl (sym (at_place w.clause r c) ∙ ap (λ z. get_or w.clause z 0) e)
    | inr n ↦ inr (subst (λ z. IsLowerFlagged s (current_level s) w.flags z) (at_place w.clause r c) (record {
      fails = h.asserting.fails c.0 c.1;
      above = (h.asserting.lower c.0 (omega arith) c.1).0;
      below = (h.asserting.lower c.0 (omega arith) c.1).1;
      flagged = h.flagged c.0 (omega arith) c.1;
    }))
  ];
  only = λ v e. inl (h.only v e);
  apart = h.grounds.apart;
}

-- a search may begin at a literal of the clause that has a clause as its reason, unless it is the first one
pub may_start : (words : List ℕ) (s : PropagationState) (conflict : List ℕ) (first low : ℕ) (rest : List ℕ) (w : AnalysisState) (c : ℕ) → StateIsConsistent s → ClauseMinimizationInvariant words s conflict first low rest w → Contains rest c → c ≢ first →
    has_no_clause (node s c).reason ≡ false → CanStartSearch s w c
may_start words s conflict first low rest w c a h in_rest other caused = elim (h.lower c in_rest) [
  | inl e ↦ absurd (other e)
  | inr x ↦
      let same : level s (negated c) ≡ level s c = level_by_variable s (negated c) c (negated_variable c) in
      let t : IsTrueLit s.values (negated c) = true_from_false s.values c x.fails in
      record {
        flagged = x.flagged;
        reasoned = elim (a.known (negated c) t) [
          | inl b ↦ record {
            place = b.place;
            from = omega arith;
            within = b.within;
            there = b.there;
            above = omega (arith, x.above);
            caused = ap (λ v. has_no_clause (node_of s.nodes v).reason) (negated_variable c) ∙ caused;
          }
          | inr y ↦ absurd (omega (arith, y.bottom, x.above))
        ];
        below = omega (arith, x.below);
        new = λ u. h.apart (negated c) u (subst (λ z. Contains rest z) (sym (negated_twice c)) in_rest);
      }
]

-- at the end, a literal that is explained by its flag is in the clause or used
ground : (words : List ℕ) (s : PropagationState) (conflict : List ℕ) (first low : ℕ) (rest : List ℕ) (w : AnalysisState) (r : ℕ) → StateIsConsistent s → IsFalseLit s.values first → ClauseMinimizationInvariant words s conflict first low rest w → IsFalseLit s.values r →
    IsExplainedByMarks s first w r → IsExplainedByUsed s rest w.used r
ground words s conflict first low rest w r a ff h f (marked_unit z) = explained_unit z
ground words s conflict first low rest w r a ff h f (marked_first e) = explained_clause (subst (λ z. Contains rest z) e h.has_first)
ground words s conflict first low rest w r a ff h f (marked_reason c) = explained_reason c
ground words s conflict first low rest w r a ff h f (marked_flag g) = elim (h.only (variable r) g) [
  | inl x ↦
      let fails : IsFalseLit s.values (get_or rest x.0 0) = elim (h.lower (get_or rest x.0 0) (place_in rest x.0 x.1.0)) [
        | inl e ↦ subst (λ z. IsFalseLit s.values z) (sym e) ff
        | inr y ↦ y.fails
      ] in
      explained_clause (subst (λ z. Contains rest z) (same_false s (get_or rest x.0 0) r fails f x.1.1) (place_in rest x.0 x.1.0))
  | inr x ↦
      let y : IsReasoned s 0 (get_or w.used x.place 0) = h.searching.reasons x.place x.within in
      let t : IsTrueLit s.values (get_or w.used x.place 0) = subst (λ z. IsTrueLit s.values z) y.there (a.holds y.place y.within) in
      let e : get_or w.used x.place 0 ≡ negated r = same_true s (get_or w.used x.place 0) (negated r) t (true_from_false s.values r f) (x.there ∙ sym (negated_variable r)) in
      explained_reason (subst (λ z. Contains w.used z) e (place_in w.used x.place x.within))
]

pub minimal_grounds : (words : List ℕ) (s : PropagationState) (conflict : List ℕ) (first low : ℕ) (rest : List ℕ) (w : AnalysisState) → CanAnalyze words s → AreAllFalse s.values conflict → IsFalseLit s.values first →
    ClauseMinimizationInvariant words s conflict first low rest w → IsUnorderedDerivation words s conflict rest w.used
minimal_grounds words s conflict first low rest w can fails ff h = record {
  reasons = λ l c. subst (λ z. IsReasoned s 0 z) (at_place w.used l c) (h.searching.reasons c.0 c.1);
  causes = λ l c. subst (λ z. AreExplainedByUsed s rest w.used (causes_at words s z)) (at_place w.used l c) (λ i b.
      let q : ℕ = get_or w.used c.0 0 in
      let x : IsReasoned s 0 q = h.searching.reasons c.0 c.1 in
      let place : get_or s.trail.starts 0 0 ≤ x.place = above_first s x.place q can.agrees x.within x.there x.above can.above in
      let r : ℕ = get_or (causes_at words s q) i 0 in
      let f : IsFalseLit s.values r = false_before s x.place r can.agrees (causes_before words s x.place q i can x.within x.there place b) in
      ground words s conflict first low rest w r can.agrees ff h f (h.searching.causes c.0 c.1 i b));
  start = λ i b. ground words s conflict first low rest w (get_or conflict i 0) can.agrees ff h (fails i b) (h.searching.start i b);
  apart = h.apart;
  distinct = h.searching.distinct;
}

pub false_variable : (s : PropagationState) (r : ℕ) → IsFalseLit s.values r → variable r < length s.values
false_variable s r f = below_from_value s.values (variable r) (not (is_positive r)) f
