-- The literals that are true at the level to backtrack to are closed under the stored clauses, and the learned literal
-- isn't one of them.
use Rattle.std.proofs.Common.{ℕ, ◌≡◌, ◌+◌, ◌<◌, ◌≤◌, ◌⊎◌, inl, inr, suc, zero, true, List, [], ◌∷◌, ◌++◌, length, map, drop, get_or, eqb, refl, sym, ap, ◌∙◌, subst, arith, length-drop, get_or-drop}
use Rattle.std.proofs.lemmas.Bool.{or_cases, eqb-true, false_from_ne_true}
use Rattle.std.specs.List.{Contains, AllByRecursion}
use Rattle.sat_base.specs.values.Literals.{negated}
use Rattle.sat_checker.specs.LiteralSets.{is_among}
use Rattle.sat_checker.specs.Propagation.{IsFalsified}
use Rattle.sat_checker.proofs.lemmas.sets.Order.{among-append}
use Rattle.sat_store.specs.clause.Buffer.{lits_at}
use Rattle.sat_parts.specs.clause.Db.{live_refs}
use Rattle.sat_parts.specs.clause.Stored.{lit_of, size_of}
use Rattle.sat_parts.specs.prop.WatchLists.{WatchState}
use Rattle.sat_parts.specs.prop.Binaries.{implied_by}
use Rattle.sat_parts.specs.prop.Values.{IsTrueLit, IsFalseLit}
use Rattle.sat_parts.specs.prop.State.{PropagationState, level, current_level, HasLeftQueue, IsSatisfied}
use Rattle.sat_parts.specs.prop.Propagation.{PropagationInvariant}
use Rattle.sat_parts.proofs.lemmas.clause.ListLemmas.{at_place}
use Rattle.sat_parts.proofs.lemmas.prop.StateLemmas.{negated_variable, negated_twice, true_from_false, false_from_true, not_both}
use Rattle.sat_solver.specs.analyze_conflict.AnalysisState.{AnalysisState}
use Rattle.sat_solver.specs.analyze_conflict.Derivation.{AreLevelZeroLits, AnalysisResult}
use Rattle.sat_solver.specs.analyze_conflict.Empowering.{IsStored, stored_long, stored_pair, UnitPropagateTo, LearnedIsEmpowering}
use Rattle.sat_solver.proofs.lemmas.analyze_conflict.InTurn.{negation_of}
use Rattle.sat_solver.proofs.lemmas.analyze_conflict.Meeting.{level_by_variable}
use Rattle.sat_solver.proofs.lemmas.analyze_conflict.Callers.{low_left}

-- the literal is true, at this level or below
pub record IsLow (s : PropagationState) (back l : ℕ) : Type 0 where
  pub holds : IsTrueLit s.values l
  pub low : level s l ≤ back

abbrev AreLow : PropagationState → ℕ → List ℕ → Type 0
AreLow s back ls = (m : ℕ) → is_among ls m ≡ true → IsLow s back m

-- every literal of the clause except o has a low negation
abbrev pub OthersLow : PropagationState → ℕ → List ℕ → ℕ → Type 0
OthersLow s back c o = (k : ℕ) → k < length c → (get_or c k 0 ≡ o) ⊎ IsLow s back (negated (get_or c k 0))

-- if the clause has a true literal at a low level, this literal is o
satisfied_low : (s : PropagationState) (back o : ℕ) (c : List ℕ) (bound : ℕ) → OthersLow s back c o → bound ≤ back → IsSatisfied s c bound → IsLow s back o
satisfied_low s back o c bound h le x = elim (h x.place x.within) [
  | inl e ↦ subst (λ z. IsLow s back z) e (record { holds = x.holds; low = omega (arith, x.low) })
  | inr n ↦ absurd (not_both s.values (get_or c x.place 0) x.holds (subst (λ z. IsFalseLit s.values z) (negated_twice (get_or c x.place 0)) (false_from_true s.values (negated (get_or c x.place 0)) n.holds)))
]

long_low : (words refs : List ℕ) (watching : WatchState) (implied : List (List ℕ)) (s : PropagationState) (back o p : ℕ) → PropagationInvariant words refs watching implied s (current_level s) → back < current_level s → Contains (live_refs words refs) p →
    OthersLow s back (lits_at words p) o → IsLow s back o
long_low words refs watching implied s back o p a lt c h =
    let long : 3 ≤ size_of words p = a.clauses.long p c in
    elim (h 0 (omega arith)) [
      | inr n ↦ watched 0 (omega arith) n
      | inl e ↦ elim (h 1 (omega arith)) [
        | inr n ↦ watched 1 (omega arith) n
        | inl f ↦ absurd (omega (arith, a.clauses.distinct p c 0 1 (omega arith) (omega arith) (e ∙ sym f)))
      ]
    ]
  where
    watched : (i : ℕ) → i < 2 → IsLow s back (negated (lit_of words p i)) → IsLow s back o
    watched i two n =
        let below : level s (negated (lit_of words p i)) < current_level s = omega (arith, n.low) in
        let left : HasLeftQueue s (negated (lit_of words p i)) = low_left s (negated (lit_of words p i)) a.agrees a.queue n.holds below in
        satisfied_low s back o (lits_at words p) (level s (negated (lit_of words p i))) h n.low (a.settled p i c two left below)

pair_low : (words refs : List ℕ) (watching : WatchState) (implied : List (List ℕ)) (s : PropagationState) (back a b : ℕ) → PropagationInvariant words refs watching implied s (current_level s) → back < current_level s → Contains (implied_by implied (negated b)) a →
    IsLow s back (negated b) → IsLow s back a
pair_low words refs watching implied s back a b h lt c n =
    let below : level s (negated b) < current_level s = omega (arith, n.low) in
    let left : HasLeftQueue s (negated b) = low_left s (negated b) h.agrees h.queue n.holds below in
    let x : IsTrueLit s.values (get_or (implied_by implied (negated b)) c.0 0) × (level s (get_or (implied_by implied (negated b)) c.0 0) ≤ level s (negated b)) = h.binary (negated b) c.0 left below c.1 in
    subst (λ z. IsLow s back z) (at_place (implied_by implied (negated b)) a c) (record { holds = x.0; low = omega (arith, x.1, n.low) })

pub stored_low : (words refs : List ℕ) (watching : WatchState) (implied : List (List ℕ)) (s : PropagationState) (back o : ℕ) (c : List ℕ) → PropagationInvariant words refs watching implied s (current_level s) → back < current_level s → IsStored words (live_refs words refs) implied c →
    OthersLow s back c o → IsLow s back o
stored_low words refs watching implied s back o c a lt (stored_long p in_live e) h = long_low words refs watching implied s back o p a lt in_live (subst (λ (xs : List ℕ). OthersLow s back xs o) e h)
stored_low words refs watching implied s back o c a lt (stored_pair x y p e) h =
    let g : OthersLow s back (x ∷ y ∷ []) o = subst (λ (xs : List ℕ). OthersLow s back xs o) e h in
    elim (g 1 (omega arith)) [
      | inr n ↦ elim (g 0 (omega arith)) [
        | inl q ↦ subst (λ z. IsLow s back z) q (pair_low words refs watching implied s back x y a lt p.1 n)
        | inr m ↦
            let t : IsLow s back x = pair_low words refs watching implied s back x y a lt p.1 n in
            absurd (not_both s.values x t.holds (subst (λ z. IsFalseLit s.values z) (negated_twice x) (false_from_true s.values (negated x) m.holds)))
      ]
      | inl q ↦ elim (g 0 (omega arith)) [
        | inr m ↦ subst (λ z. IsLow s back z) q (pair_low words refs watching implied s back y x a lt p.2 m)
        | inl r ↦ absurd (p.0 (r ∙ sym q))
      ]
    ]

at_all : (s : PropagationState) (back o : ℕ) (us ls : List ℕ) → AreLow s back us → AllByRecursion (λ l. (l ≡ o) ⊎ (is_among us (negated l) ≡ true)) ls → OthersLow s back ls o
at_all s back o us [] h a k lt = absurd (omega arith)
at_all s back o us (l ∷ ls) h a zero lt = elim a.0 [ inl e ↦ inl e | inr n ↦ inr (h (negated l) n) ]
at_all s back o us (l ∷ ls) h a (suc k) lt = at_all s back o us ls h a.1 k (omega arith)

all_of : (us ls : List ℕ) (o : ℕ) → IsFalsified us ls → AllByRecursion (λ l. (l ≡ o) ⊎ (is_among us (negated l) ≡ true)) ls
all_of us [] o h = tt
all_of us (l ∷ ls) o h = (inr h.0, all_of us ls o h.1)

reached_low : (words refs : List ℕ) (watching : WatchState) (implied : List (List ℕ)) (s : PropagationState) (back : ℕ) (us : List ℕ) (picked : List (List ℕ)) (reached : List ℕ) → PropagationInvariant words refs watching implied s (current_level s) → back < current_level s →
    AllByRecursion (IsStored words (live_refs words refs) implied) picked → AreLow s back us → UnitPropagateTo us picked reached → AreLow s back reached
reached_low words refs watching implied s back us [] reached a lt st h e = subst (λ (xs : List ℕ). AreLow s back xs) (sym e) h
reached_low words refs watching implied s back us (c ∷ cs) reached a lt st h r =
    let o : ℕ = r.0 in
    let low : IsLow s back o = stored_low words refs watching implied s back o c a lt st.0 (at_all s back o us c h r.1.others) in
    reached_low words refs watching implied s back (o ∷ us) cs reached a lt st.1
    (λ m t. elim (or_cases (eqb o m) (is_among us m) t) [ inl q ↦ subst (λ z. IsLow s back z) (eqb-true o m q) low | inr k ↦ h m k ]) r.2

assumed_low : (words : List ℕ) (s : PropagationState) (conflict : List ℕ) (w : AnalysisState) (back : ℕ) (units : List ℕ) → AnalysisResult words s conflict w back → AreLevelZeroLits s units → AreLow s back (map negated (drop 1 w.clause) ++ units)
assumed_low words s conflict w back units h u m t =
    elim (or_cases (is_among (map negated (drop 1 w.clause)) m) (is_among units m) (sym (among-append (map negated (drop 1 w.clause)) units m) ∙ t)) [
      | inl n ↦
          let c : Contains (drop 1 w.clause) (negated m) = negation_of (drop 1 w.clause) m n in
          let k : ℕ = 1 + c.0 in
          let lt : k < length w.clause = omega (arith, c.1, length-drop 1 w.clause) in
          let e : get_or w.clause k 0 ≡ negated m = sym (get_or-drop 1 w.clause c.0 0) ∙ at_place (drop 1 w.clause) (negated m) c in
          let f : IsFalseLit s.values (negated m) = subst (λ z. IsFalseLit s.values z) e (h.asserting.fails k lt) in
          record {
            holds = subst (λ z. IsTrueLit s.values z) (negated_twice m) (true_from_false s.values (negated m) f);
            low = omega (arith, h.highest k (omega arith) lt, ap (λ z. level s z) e, level_by_variable s (negated m) m (negated_variable m));
          }
      | inr n ↦ record { holds = (u.only m n).0; low = omega (arith, (u.only m n).1) }
    ]

not_low : (words : List ℕ) (s : PropagationState) (conflict : List ℕ) (w : AnalysisState) (back l : ℕ) → AnalysisResult words s conflict w back → level s l ≡ level s (get_or w.clause 0 0) → IsLow s back l → ⊥
not_low words s conflict w back l h e x = omega (arith, x.low, h.below, h.asserting.top)

pub learned_advances : LearnedIsEmpowering
learned_advances words refs watching implied s conflict w back units picked reached a h u st r =
    let l : ℕ = get_or w.clause 0 0 in
    let low : AreLow s back reached = reached_low words refs watching implied s back (map negated (drop 1 w.clause) ++ units) picked reached a h.below st (assumed_low words s conflict w back units h u) r in
    record {
      not_true = false_from_ne_true (is_among reached l) (λ t. not_low words s conflict w back l h refl (low l t));
      not_false = false_from_ne_true (is_among reached (negated l)) (λ t. not_low words s conflict w back (negated l) h (level_by_variable s (negated l) l (negated_variable l)) (low (negated l) t));
      no_conflict = λ c x f. not_low words s conflict w back l h refl (stored_low words refs watching implied s back l c a h.below x (at_all s back l reached c low (all_of reached c l f)));
    }
