-- The result of analysis: used literals in trail order, and the second literal of the clause in its place.
use Rattle.std.proofs.Common.{ℕ, ◌≡◌, ◌<◌, ◌≤◌, inl, inr, List, length, get_or, sym, ap, ◌∙◌, subst, arith}
use Rattle.std.proofs.lemmas.Bool.{cases_eq, cases_lt}
use Rattle.std.proofs.lemmas.List.Sorted.{IsPermutation-sym, Contains-permutation}
use Rattle.sat_base.specs.values.Literals.{negated}
use Rattle.sat_parts.specs.clause.Glue.{FlagsAreClear}
use Rattle.sat_parts.specs.clause.Orders.{IsReordering}
use Rattle.sat_parts.specs.prop.Values.{IsFalseLit}
use Rattle.sat_parts.specs.prop.Ready.{AreAllFalse}
use Rattle.sat_parts.specs.prop.State.{PropagationState, level, current_level}
use Rattle.sat_parts.proofs.lemmas.clause.ListLemmas.{place_in}
use Rattle.sat_solver.specs.analyze_conflict.AnalysisState.{AnalysisState}
use Rattle.sat_solver.specs.analyze_conflict.Marks.{causes_at, CanAnalyze}
use Rattle.sat_solver.specs.analyze_conflict.Derivation.{IsExplainedByUsed, explained_unit, explained_clause, explained_reason, IsUnorderedDerivation, IsDerivation, IsAsserting, PutsHighestSecond, AnalysisResult}
use Rattle.sat_solver.proofs.lemmas.analyze_conflict.InTurn.{acceptable}

-- a derivation of a clause is one of the reordered clause
grounds_shuffled : (words : List ℕ) (s : PropagationState) (conflict learned learned' used : List ℕ) → IsReordering learned learned' → IsUnorderedDerivation words s conflict learned used → IsUnorderedDerivation words s conflict learned' used
grounds_shuffled words s conflict learned learned' used p g =
    let forth : (r : ℕ) → IsExplainedByUsed s learned used r → IsExplainedByUsed s learned' used r = λ r x. moved s learned learned' used r p x in
    record {
      reasons = g.reasons;
      causes = λ l c i lt. forth (get_or (causes_at words s l) i 0) (g.causes l c i lt);
      start = λ i lt. forth (get_or conflict i 0) (g.start i lt);
      apart = λ l c x. g.apart l c (Contains-permutation learned' learned (negated l) (IsPermutation-sym learned learned' p.order) x);
      distinct = g.distinct;
    }
  where
    moved : (s : PropagationState) (learned learned' used : List ℕ) (r : ℕ) → IsReordering learned learned' → IsExplainedByUsed s learned used r → IsExplainedByUsed s learned' used r
    moved s learned learned' used r p (explained_unit z) = explained_unit z
    moved s learned learned' used r p (explained_clause c) = explained_clause (Contains-permutation learned learned' r p.order c)
    moved s learned learned' used r p (explained_reason c) = explained_reason c

-- every literal of a reordered list has a position in the first list
at_other : (ls ms : List ℕ) (k : ℕ) → IsReordering ls ms → k < length ms → (j : ℕ) × ((j < length ls) × (get_or ls j 0 ≡ get_or ms k 0))
at_other ls ms k p lt = p.back k (omega (arith, p.size))

asserting_shuffled : (s : PropagationState) (ls ms : List ℕ) → IsReordering ls ms → get_or ms 0 0 ≡ get_or ls 0 0 → IsAsserting s ls → IsAsserting s ms
asserting_shuffled s ls ms p first h = record {
  some = omega (arith, p.size, h.some);
  fails = λ k lt.
      let o : (j : ℕ) × ((j < length ls) × (get_or ls j 0 ≡ get_or ms k 0)) = at_other ls ms k p lt in
      subst (λ z. IsFalseLit s.values z) o.1.1 (h.fails o.0 o.1.0);
  top = ap (λ z. level s z) first ∙ h.top;
  lower = λ k b lt.
      let o : (j : ℕ) × ((j < length ls) × (get_or ls j 0 ≡ get_or ms k 0)) = at_other ls ms k p lt in
      subst (λ z. (0 < level s z) × (level s z < current_level s)) o.1.1 (elim (cases_eq o.0 0) [
        | inl e ↦
            let d : 0 ≡ k = p.apart h.distinct 0 k (omega (arith, p.size, h.some)) lt (first ∙ ap (λ z. get_or ls z 0) (sym e) ∙ o.1.1) in
            absurd (omega arith)
        | inr n ↦ h.lower o.0 (omega arith) o.1.0
      ]);
  distinct = p.apart h.distinct;
}

pub learned : (words : List ℕ) (s : PropagationState) (conflict : List ℕ) (w w' : AnalysisState) (back : ℕ) → CanAnalyze words s → AreAllFalse s.values conflict → IsAsserting s w.clause → IsDerivation words s conflict w.clause w'.used →
    PutsHighestSecond s.nodes w.clause w'.clause back → FlagsAreClear w'.flags → AnalysisResult words s conflict w' back
learned words s conflict w w' back can fails a d p clear =
    let b : IsAsserting s w'.clause = asserting_shuffled s w.clause w'.clause p.lits p.first a in
    let size : length w'.clause ≡ length w.clause = p.lits.size in
    let second : 2 ≤ length w'.clause → back ≡ level s (get_or w'.clause 1 0) = λ le. p.second (omega arith) in
    record {
      asserting = b;
      reasons = λ k lt. d.grounds.reasons (get_or w'.used k 0) (place_in w'.used k lt);
      rising = d.rising;
      acceptable = acceptable words s conflict w'.clause w'.used can b.fails fails
          (record { grounds = grounds_shuffled words s conflict w.clause w'.clause w'.used p.lits d.grounds; rising = d.rising });
      alone = λ lt. p.alone (omega arith);
      second = second;
      highest = λ k q lt. p.highest k q (omega arith);
      below = elim (cases_lt (length w'.clause) 2) [
        | inl lt ↦ omega (arith, p.alone (omega arith), can.above)
        | inr le ↦ omega (arith, second le, (b.lower 1 (omega arith) (omega arith)).1)
      ];
      clear = clear;
    }
