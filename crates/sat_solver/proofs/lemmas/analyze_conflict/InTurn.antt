-- Clauses in trail order whose causes are explained are unit in turn.
use Rattle.std.proofs.Common.{ℕ, ◌≡◌, ◌+◌, ◌<◌, ◌≤◌, ◌⊎◌, inl, inr, suc, true, false, List, [], ◌∷◌, ◌++◌, length, map, get_or, eqb, refl, sym, ap, ◌∙◌, subst, arith}
use Rattle.std.proofs.lemmas.Bool.{cases_eq, or_cases, or_left, or_right, or_from, eqb-true, eq-eqb, ne_eqb, true≢false, false_from_ne_true}
use Rattle.std.specs.List.{Contains, AllByRecursion}
use Rattle.sat_base.specs.values.Literals.{negated}
use Rattle.sat_checker.specs.LiteralSets.{is_among}
use Rattle.sat_checker.specs.Propagation.{IsFalsified, IsUnit, UnitInTurn}
use Rattle.sat_checker.proofs.lemmas.sets.Order.{among-append}
use Rattle.sat_parts.specs.prop.Values.{IsTrueLit, IsFalseLit}
use Rattle.sat_parts.specs.prop.Graphs.{node_of}
use Rattle.sat_parts.specs.prop.State.{PropagationState, level, current_level, lit_at, StateIsConsistent}
use Rattle.sat_parts.specs.prop.Reasons.{IsFalseBefore}
use Rattle.sat_parts.proofs.lemmas.clause.ListLemmas.{at_place, place_in, in_tail, in_head, there}
use Rattle.sat_parts.proofs.lemmas.prop.StateLemmas.{negated_variable, negated_twice, false_from_true, true_from_false, not_both}
use Rattle.sat_solver.specs.analyze_conflict.Marks.{causes_at, CanAnalyze, IsReasoned, depth}
use Rattle.sat_solver.specs.analyze_conflict.Derivation.{clause_of, AreLevelZeroLits, IsExplainedByUsed, IsDerivation, IsAcceptable, explained_unit, explained_clause, explained_reason}

-- the literal is assumed, or implied by an entry of smaller depth
abbrev pub Given : (s : PropagationState) (known es : List ℕ) (d m : ℕ) → Type 0
Given s known es d m = (is_among known m ≡ true) ⊎ (Contains es m × (depth s m < d))

-- the invariant for the clauses that are still to be visited
pub record Ready (words : List ℕ) (s : PropagationState) (conflict known es : List ℕ) : Type 0 where
  pub fresh : (k : ℕ) → k < length es → is_among known (get_or es k 0) ≡ false
  pub apart : (k : ℕ) → k < length es → is_among known (negated (get_or es k 0)) ≡ false
  pub holds : (k : ℕ) → k < length es → IsTrueLit s.values (get_or es k 0)
  pub rising : (j k : ℕ) → j < k → k < length es → depth s (get_or es j 0) < depth s (get_or es k 0)
  pub causes : (k i : ℕ) → k < length es → i < length (causes_at words s (get_or es k 0)) → Given s known es (depth s (get_or es k 0)) (negated (get_or (causes_at words s (get_or es k 0)) i 0))
  pub start : (i : ℕ) → i < length conflict → (is_among known (negated (get_or conflict i 0)) ≡ true) ⊎ Contains es (negated (get_or conflict i 0))

all_false : (known ls : List ℕ) → ((k : ℕ) → k < length ls → is_among known (negated (get_or ls k 0)) ≡ true) → IsFalsified known ls
all_false known [] h = tt
all_false known (l ∷ ls) h = (h 0 (omega arith), all_false known ls (λ k lt. h (suc k) (omega arith)))

all_others : (known ls : List ℕ) (e : ℕ) → ((k : ℕ) → k < length ls → is_among known (negated (get_or ls k 0)) ≡ true) → AllByRecursion (λ l. (l ≡ e) ⊎ (is_among known (negated l) ≡ true)) ls
all_others known [] e h = tt
all_others known (l ∷ ls) e h = (inr (h 0 (omega arith)), all_others known ls e (λ k lt. h (suc k) (omega arith)))

-- the negated causes of the first entry are assumed: neither the entry itself nor a deeper one can imply them
first_known : (words : List ℕ) (s : PropagationState) (conflict known : List ℕ) (e : ℕ) (es : List ℕ) → Ready words s conflict known (e ∷ es) → (i : ℕ) → i < length (causes_at words s e) →
    is_among known (negated (get_or (causes_at words s e) i 0)) ≡ true
first_known words s conflict known e es h i lt = elim (h.causes 0 i (omega arith) lt) [
  | inl k ↦ k
  | inr g ↦
      let m : ℕ = negated (get_or (causes_at words s e) i 0) in
      let c : Contains (e ∷ es) m = g.0 in
      elim (cases_eq e m) [
        | inl q ↦ absurd (omega (arith, g.1, ap (λ z. depth s z) q))
        | inr n ↦
            let d : Contains es m = there e es m n c in
            absurd (omega (arith, g.1, h.rising 0 (suc d.0) (omega arith) (omega (arith, d.1)), ap (λ z. depth s z) (at_place es m d)))
      ]
]

unit_first : (words : List ℕ) (s : PropagationState) (conflict known : List ℕ) (e : ℕ) (es : List ℕ) → Ready words s conflict known (e ∷ es) → IsUnit known (clause_of words s e) e
unit_first words s conflict known e es h = record {
  within = or_left (eqb e e) (is_among (causes_at words s e) e) (eq-eqb e e refl);
  not_true = h.fresh 0 (omega arith);
  not_false = h.apart 0 (omega arith);
  others = (inl refl, all_others known (causes_at words s e) e (first_known words s conflict known e es h));
}

given_next : (s : PropagationState) (known : List ℕ) (e : ℕ) (es : List ℕ) (m : ℕ) → Contains (e ∷ es) m → (is_among (e ∷ known) m ≡ true) ⊎ Contains es m
given_next s known e es m c = elim (cases_eq e m) [
  | inl q ↦ inl (or_left (eqb e m) (is_among known m) (eq-eqb e m q))
  | inr n ↦ inr (there e es m n c)
]

next_ready : (words : List ℕ) (s : PropagationState) (conflict known : List ℕ) (e : ℕ) (es : List ℕ) → Ready words s conflict known (e ∷ es) → Ready words s conflict (e ∷ known) es
next_ready words s conflict known e es h = record {
  fresh = λ k lt.
      let d : depth s e < depth s (get_or es k 0) = h.rising 0 (suc k) (omega arith) (omega arith) in
      or_from (eqb e (get_or es k 0)) (is_among known (get_or es k 0)) (ne_eqb e (get_or es k 0) (λ q. omega (arith, ap (λ z. depth s z) q))) (h.fresh (suc k) (omega arith));
  apart = λ k lt.
      let m : ℕ = negated (get_or es k 0) in
      or_from (eqb e m) (is_among known m) (ne_eqb e m (λ q. not_both s.values m (subst (λ z. IsTrueLit s.values z) q (h.holds 0 (omega arith))) (false_from_true s.values (get_or es k 0) (h.holds (suc k) (omega arith))))) (h.apart (suc k) (omega arith));
  holds = λ k lt. h.holds (suc k) (omega arith);
  rising = λ j k a b. h.rising (suc j) (suc k) (omega arith) (omega arith);
  causes = λ k i a b.
      let m : ℕ = negated (get_or (causes_at words s (get_or es k 0)) i 0) in
      elim (h.causes (suc k) i (omega arith) b) [
        | inl t ↦ inl (or_right (eqb e m) (is_among known m) t)
        | inr g ↦ elim (given_next s known e es m g.0) [ inl t ↦ inl t | inr c ↦ inr (c, g.1) ]
      ];
  start = λ i a.
      let m : ℕ = negated (get_or conflict i 0) in
      elim (h.start i a) [
        | inl t ↦ inl (or_right (eqb e m) (is_among known m) t)
        | inr c ↦ given_next s known e es m c
      ];
}

last_falsified : (words : List ℕ) (s : PropagationState) (conflict known : List ℕ) → Ready words s conflict known [] → IsFalsified known conflict
last_falsified words s conflict known h = all_false known conflict (λ k lt. elim (h.start k lt) [ inl t ↦ t | inr c ↦ absurd (omega (arith, c.1)) ])

pub turns : (words : List ℕ) (s : PropagationState) (conflict known es : List ℕ) → Ready words s conflict known es → UnitInTurn known (map (clause_of words s) es ++ conflict ∷ [])
turns words s conflict known [] h = last_falsified words s conflict known h
turns words s conflict known (e ∷ []) h = (e, unit_first words s conflict known e [] h, turns words s conflict (e ∷ known) [] (next_ready words s conflict known e [] h))
turns words s conflict known (e ∷ f ∷ fs) h = (e, unit_first words s conflict known e (f ∷ fs) h, turns words s conflict (e ∷ known) (f ∷ fs) (next_ready words s conflict known e (f ∷ fs) h))

-- a literal among negations is the negation of a literal of the list
pub negation_of : (ls : List ℕ) (m : ℕ) → is_among (map negated ls) m ≡ true → Contains ls (negated m)
negation_of [] m t = absurd (true≢false (sym t))
negation_of (l ∷ ls) m t = elim (or_cases (eqb (negated l) m) (is_among (map negated ls) m) t) [
  | inl q ↦ subst (λ z. Contains (l ∷ ls) z) (sym (negated_twice l) ∙ ap (λ z. negated z) (eqb-true (negated l) m q)) (in_head l ls)
  | inr k ↦ in_tail l ls (negated m) (negation_of ls m k)
]

pub negated_among : (ls : List ℕ) (r : ℕ) → Contains ls r → is_among (map negated ls) (negated r) ≡ true
negated_among [] r c = absurd (omega (arith, c.1))
negated_among (l ∷ ls) r c = elim (cases_eq l r) [
  | inl q ↦ or_left (eqb (negated l) (negated r)) (is_among (map negated ls) (negated r)) (eq-eqb (negated l) (negated r) (ap (λ z. negated z) q))
  | inr n ↦ or_right (eqb (negated l) (negated r)) (is_among (map negated ls) (negated r)) (negated_among ls r (there l ls r n c))
]

-- the negation of a literal that was false before a position is true
pub negation_true : (s : PropagationState) (p r : ℕ) → StateIsConsistent s → IsFalseBefore s p r → IsTrueLit s.values (negated r)
negation_true s p r a h = elim h [
  | inl b ↦ subst (λ z. IsTrueLit s.values z) b.there (a.holds b.place b.within)
  | inr x ↦ x.holds
]

negation_depth : (s : PropagationState) (p r : ℕ) → StateIsConsistent s → IsFalseBefore s p r → 0 < level s (negated r) → depth s (negated r) < p + 1
negation_depth s p r a h above = elim h [
  | inl b ↦ omega (arith, b.before, a.depths b.place b.within, ap (λ z. depth s z) b.there)
  | inr x ↦ absurd (omega (arith, x.bottom))
]

pub above_first : (s : PropagationState) (p l : ℕ) → StateIsConsistent s → p < length s.trail.lits → lit_at s p ≡ l → 0 < level s l → 0 < current_level s → get_or s.trail.starts 0 0 ≤ p
above_first s p l a within there above c =
    let e : level s (lit_at s p) ≡ level s l = ap (λ z. level s z) there in
    (a.levels p within).begun 0 (omega arith)

pub causes_before : (words : List ℕ) (s : PropagationState) (p l i : ℕ) → CanAnalyze words s → p < length s.trail.lits → lit_at s p ≡ l → get_or s.trail.starts 0 0 ≤ p → i < length (causes_at words s l) →
    IsFalseBefore s p (get_or (causes_at words s l) i 0)
causes_before words s p l i can within there first b =
    subst (λ z. IsFalseBefore s p (get_or (causes_at words s z) i 0)) there
    (can.before p i first within (subst (λ z. i < length (causes_at words s z)) (sym there) b))

-- an explained literal that was false before a position has a negation that is assumed or implied
pub given_one : (words : List ℕ) (s : PropagationState) (learned used units : List ℕ) (p r : ℕ) → StateIsConsistent s → AreLevelZeroLits s units →
    ((k : ℕ) → k < length used → IsReasoned s 0 (get_or used k 0)) → IsFalseBefore s p r → IsExplainedByUsed s learned used r →
    Given s (map negated learned ++ units) used (p + 1) (negated r)
given_one words s learned used units p r a u reasons before (explained_unit z) =
    let zero_level : level s (negated r) ≡ 0 = ap (λ v. (node_of s.nodes v).level) (negated_variable r) ∙ z in
    inl (among-append (map negated learned) units (negated r) ∙
    or_right (is_among (map negated learned) (negated r)) (is_among units (negated r)) (u.all (negated r) (negation_true s p r a before) zero_level))
given_one words s learned used units p r a u reasons before (explained_clause c) =
    inl (among-append (map negated learned) units (negated r) ∙
    or_left (is_among (map negated learned) (negated r)) (is_among units (negated r)) (negated_among learned r c))
given_one words s learned used units p r a u reasons before (explained_reason c) =
    let x : IsReasoned s 0 (get_or used c.0 0) = reasons c.0 c.1 in
    let e : get_or used c.0 0 ≡ negated r = at_place used (negated r) c in
    inr (c, negation_depth s p r a before (omega (arith, x.above, ap (λ z. level s z) e)))

-- the same for a literal of the falsified clause
given_start : (s : PropagationState) (learned used units : List ℕ) (r : ℕ) → AreLevelZeroLits s units → IsFalseLit s.values r → IsExplainedByUsed s learned used r →
    (is_among (map negated learned ++ units) (negated r) ≡ true) ⊎ Contains used (negated r)
given_start s learned used units r u fails (explained_unit z) =
    let zero_level : level s (negated r) ≡ 0 = ap (λ v. (node_of s.nodes v).level) (negated_variable r) ∙ z in
    inl (among-append (map negated learned) units (negated r) ∙
    or_right (is_among (map negated learned) (negated r)) (is_among units (negated r)) (u.all (negated r) (true_from_false s.values r fails) zero_level))
given_start s learned used units r u fails (explained_clause c) =
    inl (among-append (map negated learned) units (negated r) ∙
    or_left (is_among (map negated learned) (negated r)) (is_among units (negated r)) (negated_among learned r c))
given_start s learned used units r u fails (explained_reason c) = inr c

assumed_true : (s : PropagationState) (learned units : List ℕ) (l : ℕ) → AreLevelZeroLits s units → ((k : ℕ) → k < length learned → IsFalseLit s.values (get_or learned k 0)) →
    is_among (map negated learned ++ units) l ≡ true → IsTrueLit s.values l
assumed_true s learned units l u fails t =
    elim (or_cases (is_among (map negated learned) l) (is_among units l) (sym (among-append (map negated learned) units l) ∙ t)) [
      | inl n ↦
          let c : Contains learned (negated l) = negation_of learned l n in
          let f : IsFalseLit s.values (negated l) = subst (λ z. IsFalseLit s.values z) (at_place learned (negated l) c) (fails c.0 c.1) in
          subst (λ z. IsTrueLit s.values z) (negated_twice l) (true_from_false s.values (negated l) f)
      | inr k ↦ (u.only l k).0
    ]

pub not_assumed : (s : PropagationState) (learned units : List ℕ) (l : ℕ) → AreLevelZeroLits s units → 0 < level s l → (Contains learned (negated l) → ⊥) → is_among (map negated learned ++ units) l ≡ false
not_assumed s learned units l u above apart = false_from_ne_true (is_among (map negated learned ++ units) l) (λ t.
    elim (or_cases (is_among (map negated learned) l) (is_among units l) (sym (among-append (map negated learned) units l) ∙ t)) [
      | inl n ↦ apart (negation_of learned l n)
      | inr k ↦ omega (arith, (u.only l k).1)
    ])

-- the checker accepts a derivation
pub acceptable : (words : List ℕ) (s : PropagationState) (conflict learned used : List ℕ) → CanAnalyze words s →
    ((k : ℕ) → k < length learned → IsFalseLit s.values (get_or learned k 0)) → ((k : ℕ) → k < length conflict → IsFalseLit s.values (get_or conflict k 0)) →
    IsDerivation words s conflict learned used → IsAcceptable words s conflict learned used
acceptable words s conflict learned used can fails start d units u =
    let reasons : (k : ℕ) → k < length used → IsReasoned s 0 (get_or used k 0) = λ k lt. d.grounds.reasons (get_or used k 0) (place_in used k lt) in
    turns words s conflict (map negated learned ++ units) used (record {
      apart = λ k lt.
          let e : ℕ = get_or used k 0 in
          let x : IsReasoned s 0 e = reasons k lt in
          let holds : IsTrueLit s.values e = subst (λ z. IsTrueLit s.values z) x.there (can.agrees.holds x.place x.within) in
          false_from_ne_true (is_among (map negated learned ++ units) (negated e)) (λ t.
          not_both s.values e holds (subst (λ z. IsFalseLit s.values z) (negated_twice e) (false_from_true s.values (negated e) (assumed_true s learned units (negated e) u fails t))));
      fresh = λ k lt. not_assumed s learned units (get_or used k 0) u (reasons k lt).above (d.grounds.apart (get_or used k 0) (place_in used k lt));
      holds = λ k lt.
          let x : IsReasoned s 0 (get_or used k 0) = reasons k lt in
          subst (λ z. IsTrueLit s.values z) x.there (can.agrees.holds x.place x.within);
      rising = d.rising;
      causes = λ k i lt b.
          let x : IsReasoned s 0 (get_or used k 0) = reasons k lt in
          let r : ℕ = get_or (causes_at words s (get_or used k 0)) i 0 in
          let first : get_or s.trail.starts 0 0 ≤ x.place = above_first s x.place (get_or used k 0) can.agrees x.within x.there x.above can.above in
          let before : IsFalseBefore s x.place r = causes_before words s x.place (get_or used k 0) i can x.within x.there first b in
          let deep : x.place + 1 ≡ depth s (get_or used k 0) = sym (can.agrees.depths x.place x.within) ∙ ap (λ z. depth s z) x.there in
          subst (λ n. Given s (map negated learned ++ units) used n (negated r)) deep
          (given_one words s learned used units x.place r can.agrees u reasons before (d.grounds.causes (get_or used k 0) (place_in used k lt) i b));
      start = λ i lt. given_start s learned used units (get_or conflict i 0) u (start i lt) (d.grounds.start i lt);
    })
