-- The used literals of a failed assumption, in trail order, refute it.
use Rattle.std.proofs.Common.{ℕ, ◌≡◌, ◌+◌, ◌-◌, ◌<◌, ◌≤◌, ◌⊎◌, inl, inr, suc, zero, true, false, List, [], ◌∷◌, ◌++◌, length, map, take, reverse, get_or, refl, sym, ap, ◌∙◌, subst, arith, length-take, get_or-take}
use Rattle.std.proofs.lemmas.Bool.{cases_eq, or_cases, or_left, false_from_ne_true}
use Rattle.std.proofs.lemmas.List.{length-reverse, get_or-reverse, length-take-le, take_more, take_all}
use Rattle.std.proofs.lemmas.List.Sorted.{IsPermutation-reverse}
use Rattle.std.specs.List.{Contains}
use Rattle.sat_base.specs.values.Literals.{negated}
use Rattle.sat_checker.specs.LiteralSets.{is_among}
use Rattle.sat_checker.specs.Propagation.{UnitInTurn}
use Rattle.sat_checker.proofs.lemmas.sets.Order.{among-append}
use Rattle.sat_parts.specs.clause.Orders.{AreDistinct}
use Rattle.sat_parts.specs.prop.Values.{IsTrueLit, IsFalseLit}
use Rattle.sat_parts.specs.prop.Reasons.{IsFalseBefore}
use Rattle.sat_parts.specs.prop.State.{PropagationState}
use Rattle.sat_parts.proofs.lemmas.clause.ListLemmas.{at_place, place_in}
use Rattle.sat_parts.proofs.lemmas.prop.StateLemmas.{negated_twice, false_from_true, not_both}
use Rattle.sat_solver.specs.analyze_conflict.AnalysisState.{AnalysisState}
use Rattle.sat_solver.specs.analyze_conflict.Marks.{causes_at, CanAnalyze, IsReasoned, depth}
use Rattle.sat_solver.specs.analyze_conflict.Derivation.{clause_of, AreLevelZeroLits, IsDerivation}
use Rattle.sat_solver.specs.assumptions.FailedAssumptions.{IsDecisionAt, IsDistinctCore, IsRefutation, TraceResult}
use Rattle.sat_solver.proofs.lemmas.analyze_conflict.InTurn.{Given, turns, above_first, causes_before, given_one, negation_of, negated_among, not_assumed}
use Rattle.sat_solver.proofs.lemmas.analyze_conflict.Ends.{grounds_permuted}
use Rattle.sat_solver.proofs.lemmas.analyze_conflict.Ordered.{distinct_permuted}
use Rattle.sat_solver.proofs.lemmas.analyze_conflict.Tracing.{negation_in, negation_out}

-- negating a list twice
negated_back : (xs : List ℕ) → map negated (map negated xs) ≡ xs
negated_back [] = refl
negated_back (x ∷ xs) = ap (λ z. z ∷ map negated (map negated xs)) (negated_twice x) ∙ ap (λ (ys : List ℕ). x ∷ ys) (negated_back xs)

-- mapping a list with one more element
map_end : (f : ℕ → List ℕ) (xs : List ℕ) (x : ℕ) → map f (xs ++ x ∷ []) ≡ map f xs ++ f x ∷ []
map_end f [] x = refl
map_end f (y ∷ ys) x = ap (λ zs. f y ∷ zs) (map_end f ys x)

reversed_at : (xs : List ℕ) (k : ℕ) → k < length xs → get_or (reverse xs) k 0 ≡ get_or xs (length xs - 1 - k) 0
reversed_at xs k lt = get_or-reverse xs k 0 lt

rising_reversed : (s : PropagationState) (xs : List ℕ) → ((j k : ℕ) → j < k → k < length xs → depth s (get_or xs k 0) < depth s (get_or xs j 0)) →
    (j k : ℕ) → j < k → k < length (reverse xs) → depth s (get_or (reverse xs) j 0) < depth s (get_or (reverse xs) k 0)
rising_reversed s xs f j k lt b =
    let n : length (reverse xs) ≡ length xs = length-reverse xs in
    omega (
      arith,
      f (length xs - 1 - k) (length xs - 1 - j) (omega arith) (omega arith),
      ap (λ z. depth s z) (reversed_at xs j (omega arith)),
      ap (λ z. depth s z) (reversed_at xs k (omega arith)),
    )

-- the derivation, in which the negation of the failed assumption is last
record Ordered (words : List ℕ) (s : PropagationState) (failed : ℕ) (core used : List ℕ) (last : ℕ) : Type 0 where
  size : length used ≡ last + 1
  end : get_or used last 0 ≡ negated failed
  lits : IsDistinctCore s failed core
  fails : IsFalseLit s.values failed
  derivation : IsDerivation words s (clause_of words s (negated failed)) (map negated core) used

abbrev assumed : (core units : List ℕ) → List ℕ
assumed core units = map negated (map negated core) ++ units

-- a used literal of smaller depth than the last one is among those before it
in_front : (words : List ℕ) (s : PropagationState) (failed : ℕ) (core used : List ℕ) (last m : ℕ) → Ordered words s failed core used last → Contains used m → depth s m < depth s (get_or used last 0) → Contains (take last used) m
in_front words s failed core used last m h c lt =
    let b : c.0 < last = elim (cases_eq c.0 last) [
      | inl e ↦ absurd (omega (arith, ap (λ z. depth s z) (sym (at_place used m c) ∙ ap (λ i. get_or used i 0) e)))
      | inr n ↦ omega (arith, c.1, h.size)
    ] in
    subst (λ z. Contains (take last used) z) (get_or-take last used c.0 0 b ∙ at_place used m c) (place_in (take last used) c.0 (omega (arith, length-take last used, h.size)))

-- the negation of a used literal before the last one isn't assumed
not_denied : (words : List ℕ) (s : PropagationState) (failed : ℕ) (core used units : List ℕ) (last k : ℕ) → CanAnalyze words s → AreLevelZeroLits s units → Ordered words s failed core used last → k < last → IsTrueLit s.values (get_or used k 0) →
    is_among (assumed core units) (negated (get_or used k 0)) ≡ false
not_denied words s failed core used units last k can u h lt holds =
    let e : ℕ = get_or used k 0 in
    let other : IsTrueLit s.values (negated e) → ⊥ = λ t. not_both s.values (negated e) t (false_from_true s.values e holds) in
    false_from_ne_true (is_among (assumed core units) (negated e)) (λ t.
    elim (or_cases (is_among (map negated (map negated core)) (negated e)) (is_among units (negated e)) (sym (among-append (map negated (map negated core)) units (negated e)) ∙ t)) [
      | inl n ↦
          let c : Contains core (negated e) = subst (λ z. Contains core z) (negated_twice (negated e)) (negation_out core (negated (negated e)) (negation_of (map negated core) (negated e) n)) in
          elim (cases_eq c.0 0) [
            | inl z ↦
                let is : failed ≡ negated e = sym h.lits.lits.first ∙ ap (λ i. get_or core i 0) (sym z) ∙ at_place core (negated e) c in
                let same : get_or used k 0 ≡ get_or used last 0 = sym (negated_twice e) ∙ ap (λ z. negated z) (sym is) ∙ sym h.end in
                omega (arith, h.derivation.grounds.distinct k last (omega (arith, h.size)) (omega (arith, h.size)) same)
            | inr d ↦
                let x : IsDecisionAt s 0 (get_or core c.0 0) = h.lits.lits.chosen c.0 (omega arith) c.1 in
                other (subst (λ z. IsTrueLit s.values z) (x.there ∙ at_place core (negated e) c) (can.agrees.holds x.place x.within))
          ]
      | inr k ↦ other (u.only (negated e) k).0
    ])

-- every cause of a used literal is assumed, or implied by an earlier used literal
given_front : (words : List ℕ) (s : PropagationState) (failed : ℕ) (core used units : List ℕ) (last l i : ℕ) → CanAnalyze words s → AreLevelZeroLits s units → Ordered words s failed core used last → Contains used l → depth s l ≤ depth s (get_or used last 0) →
    i < length (causes_at words s l) → Given s (assumed core units) (take last used) (depth s l) (negated (get_or (causes_at words s l) i 0))
given_front words s failed core used units last l i can u h c le b =
    let d : IsDerivation words s (clause_of words s (negated failed)) (map negated core) used = h.derivation in
    let r : ℕ = get_or (causes_at words s l) i 0 in
    let x : IsReasoned s 0 l = d.grounds.reasons l c in
    let first : get_or s.trail.starts 0 0 ≤ x.place = above_first s x.place l can.agrees x.within x.there x.above can.above in
    let before : IsFalseBefore s x.place r = causes_before words s x.place l i can x.within x.there first b in
    let deep : x.place + 1 ≡ depth s l = sym (can.agrees.depths x.place x.within) ∙ ap (λ z. depth s z) x.there in
    elim (given_one words s (map negated core) used units x.place r can.agrees u (λ k lt. d.grounds.reasons (get_or used k 0) (place_in used k lt)) before (d.grounds.causes l c i b)) [
      | inl t ↦ inl t
      | inr g ↦ inr (in_front words s failed core used last (negated r) h g.0 (omega (arith, g.1)), subst (λ n. depth s (negated r) < n) deep g.1)
    ]

-- the clauses are unit in turn, and the last one is falsified
turns_to_failure : (words : List ℕ) (s : PropagationState) (failed : ℕ) (core used units : List ℕ) (last : ℕ) → CanAnalyze words s → AreLevelZeroLits s units → Ordered words s failed core used last →
    UnitInTurn (assumed core units) (map (clause_of words s) (take last used) ++ clause_of words s (negated failed) ∷ [])
turns_to_failure words s failed core used units last can u h =
    let d : IsDerivation words s (clause_of words s (negated failed)) (map negated core) used = h.derivation in
    let n : length (take last used) ≡ last = length-take-le last used (omega (arith, h.size)) in
    let at : (k : ℕ) → k < last → get_or (take last used) k 0 ≡ get_or used k 0 = λ k lt. get_or-take last used k 0 lt in
    let has : (k : ℕ) → k < last → Contains used (get_or used k 0) = λ k lt. place_in used k (omega (arith, h.size)) in
    let reason : (k : ℕ) → k < last → IsReasoned s 0 (get_or used k 0) = λ k lt. d.grounds.reasons (get_or used k 0) (has k lt) in
    let holds : (k : ℕ) → k < last → IsTrueLit s.values (get_or used k 0) = λ k lt. subst (λ z. IsTrueLit s.values z) (reason k lt).there (can.agrees.holds (reason k lt).place (reason k lt).within) in
    let ended : Contains used (negated failed) = subst (λ z. Contains used z) h.end (place_in used last (omega (arith, h.size))) in
    turns words s (clause_of words s (negated failed)) (assumed core units) (take last used) (record {
      fresh = λ k lt. subst (λ z. is_among (assumed core units) z ≡ false) (sym (at k (omega arith)))
          (not_assumed s (map negated core) units (get_or used k 0) u (reason k (omega arith)).above (d.grounds.apart (get_or used k 0) (has k (omega arith))));
      apart = λ k lt. subst (λ z. is_among (assumed core units) (negated z) ≡ false) (sym (at k (omega arith))) (not_denied words s failed core used units last k can u h (omega arith) (holds k (omega arith)));
      holds = λ k lt. subst (λ z. IsTrueLit s.values z) (sym (at k (omega arith))) (holds k (omega arith));
      rising = λ j k a lt. omega (arith, d.rising j k a (omega (arith, h.size)), ap (λ z. depth s z) (at j (omega arith)), ap (λ z. depth s z) (at k (omega arith)));
      causes = λ k i lt b.
          let low : depth s (get_or used k 0) ≤ depth s (get_or used last 0) = omega (arith, d.rising k last (omega arith) (omega (arith, h.size))) in
          subst (λ z. (j : ℕ) → j < length (causes_at words s z) → Given s (assumed core units) (take last used) (depth s z) (negated (get_or (causes_at words s z) j 0))) (sym (at k (omega arith)))
          (λ j e. given_front words s failed core used units last (get_or used k 0) j can u h (has k (omega arith)) low e) i b;
      start = λ i lt. first_or_cause words s failed core used units last can u h ended i lt;
    })
  where
    first_or_cause : (words : List ℕ) (s : PropagationState) (failed : ℕ) (core used units : List ℕ) (last : ℕ) → CanAnalyze words s → AreLevelZeroLits s units → Ordered words s failed core used last → Contains used (negated failed) → (i : ℕ) →
        i < length (clause_of words s (negated failed)) → (is_among (assumed core units) (negated (get_or (clause_of words s (negated failed)) i 0)) ≡ true) ⊎ Contains (take last used) (negated (get_or (clause_of words s (negated failed)) i 0))
    first_or_cause words s failed core used units last can u h ended zero lt =
        let c : Contains core failed = subst (λ z. Contains core z) h.lits.lits.first (place_in core 0 h.lits.lits.some) in
        let d : Contains (map negated core) (negated failed) = negation_in core (negated failed) (subst (λ z. Contains core z) (sym (negated_twice failed)) c) in
        inl (among-append (map negated (map negated core)) units (negated (negated failed)) ∙
        or_left (is_among (map negated (map negated core)) (negated (negated failed))) (is_among units (negated (negated failed))) (negated_among (map negated core) (negated failed) d))
    first_or_cause words s failed core used units last can u h ended (suc i) lt =
        elim (given_front words s failed core used units last (negated failed) i can u h ended (omega (arith, ap (λ z. depth s z) h.end)) (omega arith)) [
          | inl t ↦ inl t
          | inr g ↦ inr g.0
        ]

-- the reversed list of used literals is a refutation of the core
pub refuted : (words : List ℕ) (s : PropagationState) (failed : ℕ) (w : AnalysisState) → CanAnalyze words s → IsFalseLit s.values failed → TraceResult words s failed w → IsRefutation words s failed w.core (reverse w.used)
refuted words s failed w can f t =
    let used : List ℕ = reverse w.used in
    let n : length (reverse w.used) ≡ length w.used = length-reverse w.used in
    let last : ℕ = length w.used - 1 in
    let d : AreDistinct (reverse w.used) = distinct_permuted w.used (reverse w.used) (IsPermutation-reverse w.used) t.grounds.distinct in
    let end : get_or (reverse w.used) (length w.used - 1) 0 ≡ negated failed =
    reversed_at w.used (length w.used - 1) (omega (arith, t.some)) ∙ ap (λ k. get_or w.used k 0) (let z : length w.used - 1 - (length w.used - 1) ≡ 0 = omega arith in z) ∙ t.head in
    let derivation : IsDerivation words s (clause_of words s (negated failed)) (map negated w.core) (reverse w.used) = record {
      grounds = grounds_permuted words s (clause_of words s (negated failed)) (map negated w.core) w.used (reverse w.used) (IsPermutation-reverse w.used) d t.grounds;
      rising = rising_reversed s w.used t.falling;
    } in
    let h : Ordered words s failed w.core (reverse w.used) (length w.used - 1) = record { size = omega (arith, t.some); end = end; lits = t.core; fails = f; derivation = derivation } in
    let whole : take (length w.used - 1) (reverse w.used) ++ negated failed ∷ [] ≡ reverse w.used =
    ap (λ z. take (length w.used - 1) (reverse w.used) ++ z ∷ []) (sym end)
    ∙ sym (take_more (reverse w.used) (length w.used - 1) 0 (omega (arith, t.some))) ∙ take_all (length w.used - 1 + 1) (reverse w.used) (omega (arith, t.some)) in
    record {
      lits = t.core;
      derivation = derivation;
      some = omega (arith, t.some);
      last = ap (λ k. get_or (reverse w.used) (k - 1) 0) n ∙ end;
      acceptable = λ units u.
          subst (λ (known : List ℕ). UnitInTurn (known ++ units) (map (clause_of words s) (reverse w.used))) (negated_back w.core)
          (subst (λ (cs : List (List ℕ)). UnitInTurn (assumed w.core units) cs) (sym (map_end (clause_of words s) (take (length w.used - 1) (reverse w.used)) (negated failed)) ∙ ap (λ (us : List ℕ). map (clause_of words s) us) whole)
          (turns_to_failure words s failed w.core (reverse w.used) units (length w.used - 1) can u h));
    }
