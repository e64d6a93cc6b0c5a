-- What conflict analysis requires follows from the invariants of the parts.
use Rattle.std.proofs.Common.{ℕ, ◌≡◌, ◌≢◌, ◌+◌, ◌<◌, ◌≤◌, inl, inr, suc, zero, Bool, Option, List, [], ◌∷◌, length, get_or, sym, ap, subst, arith, length-drop, get_or-drop}
use Rattle.std.proofs.lemmas.Bool.{cases_eq, cases_lt}
use Rattle.sat_base.specs.values.Literals.{negated}
use Rattle.sat_store.specs.clause.Buffer.{IsClause, lits_at}
use Rattle.sat_parts.specs.declared.prop.graph.Reason.{Reason}
use Rattle.sat_parts.specs.declared.prop.graph.Reason.TheVariants.{Unit as NoCause, Binary, Long}
use Rattle.sat_parts.specs.declared.prop.graph.Conflict.{Conflict}
use Rattle.sat_parts.specs.declared.prop.graph.Conflict.TheVariants as conflicts
use Rattle.sat_parts.specs.clause.Db.{live_refs}
use Rattle.sat_parts.specs.clause.Stored.{AreLongClauses, lit_of, size_of}
use Rattle.sat_parts.specs.prop.WatchLists.{WatchState}
use Rattle.sat_parts.specs.prop.Binaries.{implied_by}
use Rattle.sat_parts.specs.prop.Values.{IsTrueLit, IsFalseLit}
use Rattle.sat_parts.specs.prop.ReasonLits.{reason_lits, conflict_lits}
use Rattle.sat_parts.specs.prop.Graphs.{node_of}
use Rattle.sat_parts.specs.prop.State.{PropagationState, node, level, current_level, lit_at, HasLeftQueue, StateIsConsistent, IsQueueCurrent, IsSatisfied}
use Rattle.sat_parts.specs.prop.Reasons.{IsFalseBefore, ReasonImplies, ReasonsAreUnit}
use Rattle.sat_parts.specs.prop.TrailWord.{LevelsBeginWithDecisions}
use Rattle.sat_parts.specs.prop.Ready.{IsConflict, AreAllFalse}
use Rattle.sat_parts.specs.prop.Propagation.{PropagationInvariant}
use Rattle.sat_parts.proofs.lemmas.clause.ListLemmas.{at_place}
use Rattle.sat_parts.proofs.lemmas.prop.StateLemmas.{negated_variable, true_from_false, not_both, level_low}
use Rattle.sat_solver.specs.analyze_conflict.Marks.{CanAnalyze, HasCurrentLevelLit}

-- a true literal below the current level has left the queue
pub low_left : (s : PropagationState) (l : ℕ) → StateIsConsistent s → IsQueueCurrent s → IsTrueLit s.values l → level s l < current_level s → HasLeftQueue s l
low_left s l a q t low = elim (a.known l t) [
  | inl b ↦ elim (cases_lt b.place s.trail.head) [
    | inl lt ↦ inl (record { place = b.place; before = lt; within = b.within; there = b.there })
    | inr ge ↦ absurd (omega (arith, q b.place ge b.within, ap (λ z. level s z) b.there))
  ]
  | inr x ↦ inr x
]

false_level : (s : PropagationState) (r : ℕ) → StateIsConsistent s → IsFalseLit s.values r → level s r ≢ current_level s → level s (negated r) < current_level s
false_level s r a f n =
    let e : level s (negated r) ≡ level s r = ap (λ v. (node_of s.nodes v).level) (negated_variable r) in
    omega (arith, level_low s (negated r) a (true_from_false s.values r f))

-- a conflict after propagation has a literal of the current level
pub conflict_top : (words refs : List ℕ) (w : WatchState) (implied : List (List ℕ)) (s : PropagationState) (e : Conflict) → PropagationInvariant words refs w implied s (current_level s) →
    IsConflict words (live_refs words refs) implied s.values e → HasCurrentLevelLit s (conflict_lits words e)
conflict_top words refs w implied s (conflicts.Binary ls) asks c = elim (cases_eq (level s (get_or ls 1 0)) (current_level s)) [
  | inl t ↦ (1, (omega arith, t))
  | inr n ↦
      let b : ℕ = negated (get_or ls 1 0) in
      let low : level s b < current_level s = false_level s (get_or ls 1 0) asks.agrees c.2 n in
      let left : HasLeftQueue s b = low_left s b asks.agrees asks.queue (true_from_false s.values (get_or ls 1 0) c.2) low in
      let t : IsTrueLit s.values (get_or (implied_by implied b) c.0.0 0) = (asks.binary b c.0.0 left low c.0.1).0 in
      absurd (not_both s.values (get_or ls 0 0) (subst (λ z. IsTrueLit s.values z) (at_place (implied_by implied b) (get_or ls 0 0) c.0) t) c.1)
]
conflict_top words refs w implied s (conflicts.Long o) asks c =
    let long : 3 ≤ size_of words o = asks.clauses.long o c.0 in
    let r : ℕ = lit_of words o 0 in
    elim (cases_eq (level s r) (current_level s)) [
      | inl t ↦ (0, (omega arith, t))
      | inr n ↦
          let f : IsFalseLit s.values r = c.1 0 (omega arith) in
          let low : level s (negated r) < current_level s = false_level s r asks.agrees f n in
          let left : HasLeftQueue s (negated r) = low_left s (negated r) asks.agrees asks.queue (true_from_false s.values r f) low in
          let x : IsSatisfied s (lits_at words o) (level s (negated r)) = asks.settled o 0 c.0 (omega arith) left low in
          absurd (not_both s.values (get_or (lits_at words o) x.place 0) x.holds (c.1 x.place x.within))
    ]

before_by : (words live : List ℕ) (implied : List (List ℕ)) (s : PropagationState) (p k : ℕ) (r : Reason) → ReasonImplies words live implied s p r → k < length (reason_lits words r) → IsFalseBefore s p (get_or (reason_lits words r) k 0)
before_by words live implied s p k NoCause h lt = absurd (omega arith)
before_by words live implied s p k (Binary ls) h lt =
    let e : 0 ≡ k = omega arith in
    subst (λ i. IsFalseBefore s p (get_or (get_or ls 0 0 ∷ []) i 0)) e h.1
before_by words live implied s p k (Long o) h lt =
    subst (λ z. IsFalseBefore s p z) (sym (get_or-drop 1 (lits_at words o) k 0)) (h.2 (1 + k) (omega arith) (omega (arith, length-drop 1 (lits_at words o))))

pub stands_by : (words live : List ℕ) (implied : List (List ℕ)) (s : PropagationState) (p o : ℕ) (r : Reason) (count : ℕ) → AreLongClauses words live count → ReasonImplies words live implied s p r → r ≡ Long o → IsClause words o × (0 < length (lits_at words o))
stands_by words live implied s p o NoCause count c h e = (let x : NoCause ≡ Long o = e in cc)
stands_by words live implied s p o (Binary ls) count c h e = (let x : Binary ls ≡ Long o = e in cc)
stands_by words live implied s p o (Long q) count c h e =
    let same : q ≡ o = cc in
    subst (λ z. IsClause words z × (0 < length (lits_at words z))) same (c.holds_clauses.clauses q h.0, omega (arith, c.long q h.0))

-- analysis may begin if the parts agree, reasons are unit in turn above level 0, and every level begins with a
-- decision
pub can_analyze : (words live : List ℕ) (implied : List (List ℕ)) (s : PropagationState) (count : ℕ) → StateIsConsistent s → LevelsBeginWithDecisions s → 0 < current_level s → AreLongClauses words live count →
    ReasonsAreUnit words live implied s (get_or s.trail.starts 0 0) → CanAnalyze words s
can_analyze words live implied s count a levelled above clauses t = record {
  agrees = a;
  levelled = levelled;
  above = above;
  before = λ p k first lt b. before_by words live implied s p k (node s (lit_at s p)).reason (t p first lt) b;
  valid = λ p o first lt e. stands_by words live implied s p o (node s (lit_at s p)).reason count clauses (t p first lt) e;
}

pub conflict_fails : (words live : List ℕ) (implied : List (List ℕ)) (values : List (Option Bool)) (e : Conflict) → IsConflict words live implied values e → AreAllFalse values (conflict_lits words e)
conflict_fails words live implied values (conflicts.Binary ls) c zero lt = c.1
conflict_fails words live implied values (conflicts.Binary ls) c (suc zero) lt = c.2
conflict_fails words live implied values (conflicts.Binary ls) c (suc (suc k)) lt = absurd (omega arith)
conflict_fails words live implied values (conflicts.Long o) c k lt = c.1 k lt
