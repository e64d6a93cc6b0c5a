-- Which assumptions were considered, as the search proceeds.
use Rattle.std.proofs.Common.{ℕ, ◌≡◌, ◌≢◌, ◌+◌, ◌<◌, ◌≤◌, ◌⊎◌, inl, inr, List, [], ◌∷◌, ◌++◌, length, get_or, map, take, suc, zero, refl, sym, ap, ◌∙◌, subst, arith}
use Rattle.std.proofs.lemmas.Bool.{cases_lt, cases_eq, true≢false}
use Rattle.std.proofs.lemmas.List.{length_push, get_or_push, get_or_append_left, get_or-take, length-take-le, get_or-map, length-map}
use Rattle.std.specs.List.{Contains}
use Rattle.sat_base.specs.values.Literals.{variable}
use Rattle.sat_parts.specs.declared.prop.graph.ImplNode.{ImplNode}
use Rattle.sat_parts.specs.declared.prop.graph.Reason.TheVariants.{Unit as NoCause}
use Rattle.sat_parts.specs.prop.Graphs.{enqueued_node}
use Rattle.sat_parts.specs.prop.Values.{IsTrueLit, IsUnassignedLit}
use Rattle.sat_parts.specs.prop.Trails.{IsAtLevel, with_level}
use Rattle.sat_parts.specs.prop.State.{PropagationState, node, level, lit_at, StateIsConsistent}
use Rattle.sat_parts.specs.prop.TrailWord.{LevelsBeginWithDecisions, BeginsNoLevel, decided_on}
use Rattle.sat_parts.proofs.lemmas.prop.StateLemmas.{level_low, lit_last, node_new, true_new}
use Rattle.sat_parts.proofs.lemmas.clause.ListLemmas.{place_in}
use Rattle.sat_parts.specs.parts.Frame.{KeepsLevelsTo}
use Rattle.sat_parts.specs.parts.Assumed.{variables_of_lits, AreConsideredUpTo, DecisionsAreAmong}

-- true assumptions are passed
pub placed_passed : (ls below : List ℕ) (place next : ℕ) (s : PropagationState) → StateIsConsistent s → AreConsideredUpTo ls below place s → place ≤ next → next ≤ length ls →
    ((k : ℕ) → place ≤ k → k < next → IsTrueLit s.values (get_or ls k 0)) → AreConsideredUpTo ls below next s
placed_passed ls below place next s h x le within holds = elim (cases_lt (length below) (length s.trail.starts)) [
  | inl lt ↦ subst (λ k. AreConsideredUpTo ls below k s) (let e : place ≡ next = omega (arith, x.all lt) in e) x
  | inr ge ↦ record {
    levels = x.levels;
    within = within;
    low_within = x.low_within;
    passed = λ k b. elim (cases_lt k place) [
      | inl old ↦ x.passed k old
      | inr new ↦ (let t : IsTrueLit s.values (get_or ls k 0) = holds k new b in (t, omega (arith, level_low s (get_or ls k 0) h t)))
    ];
    low_passed = x.low_passed;
    begun = x.begun;
    all = λ lt. absurd (omega arith);
  }
]

-- the places stay right if the levels that assumptions began are kept
pub placed_kept : (ls below : List ℕ) (place top : ℕ) (s s' : PropagationState) → AreConsideredUpTo ls below place s → KeepsLevelsTo top s s' → length below ≤ top → length below ≤ length s'.trail.starts →
    (length below < length s'.trail.starts → place ≡ length ls) → AreConsideredUpTo ls below place s'
placed_kept ls below place top s s' x k high deep more = record {
  levels = deep;
  within = x.within;
  low_within = x.low_within;
  passed = λ i b. (let p = x.passed i b in let q = k.low (get_or ls i 0) p.0 (omega (arith, p.1)) in (q.0, omega (arith, q.1, p.1)));
  low_passed = λ j i b c. (let p = x.low_passed j i b c in let q = k.low (get_or ls i 0) p.0 (omega (arith, p.1)) in (q.0, omega (arith, q.1, p.1)));
  begun = λ j b. subst (λ l. Contains ls l) (sym (k.begun j (omega arith) (omega (arith, x.levels))).1) (x.begun j b);
  all = more;
}

-- at least one level that an assumption began is undone
pub placed_cut : (ls below : List ℕ) (place top : ℕ) (s s' : PropagationState) → AreConsideredUpTo ls below place s → KeepsLevelsTo top s s' → top < length below → length s'.trail.starts ≡ top →
    AreConsideredUpTo ls (take top below) (get_or below top 0) s'
placed_cut ls below place top s s' x k lt at =
    let size : length (take top below) ≡ top = length-take-le top below (omega arith) in
    let same : (j : ℕ) → j < top → get_or (take top below) j 0 ≡ get_or below j 0 = λ j b. get_or-take top below j 0 b in
    record {
      levels = omega arith;
      within = x.low_within top lt;
      low_within = λ j b. omega (arith, same j (omega arith), x.low_within j (omega arith));
      passed = λ i b. (let p = x.low_passed top i lt b in let q = k.low (get_or ls i 0) p.0 p.1 in (q.0, omega (arith, q.1, p.1)));
      low_passed = λ j i b c. (let p = x.low_passed j i (omega arith) (omega (arith, same j (omega arith))) in let q = k.low (get_or ls i 0) p.0 (omega (arith, p.1)) in (q.0, omega (arith, q.1, p.1)));
      begun = λ j b. subst (λ l. Contains ls l) (sym (k.begun j (omega arith) (omega (arith, x.levels))).1) (x.begun j (omega arith));
      all = λ more. absurd (omega arith);
    }

-- a level begins with the next assumption
pub placed_next : (ls below : List ℕ) (place l : ℕ) (s : PropagationState) → AreConsideredUpTo ls below place s → place < length ls → get_or ls place 0 ≡ l → StateIsConsistent s → IsUnassignedLit s.values l → variable l < length s.values →
    KeepsLevelsTo (length s.trail.starts) s (decided_on l s) → AreConsideredUpTo ls (below ++ place ∷ []) (place + 1) (decided_on l s)
placed_next ls below place l s x lt is h free there k =
    let s' : PropagationState = decided_on l s in
    let r : PropagationState = record s { trail = with_level s.trail } in
    let now : length below ≡ length s.trail.starts = elim (cases_lt (length below) (length s.trail.starts)) [ inl less ↦ absurd (omega (arith, x.all less)) | inr ge ↦ omega (arith, x.levels) ] in
    let size : length (below ++ place ∷ []) ≡ length below + 1 = length_push below place in
    let deeper : length (s.trail.starts ++ length s.trail.lits ∷ []) ≡ length s.trail.starts + 1 = length_push s.trail.starts (length s.trail.lits) in
    let old : (j : ℕ) → j < length below → get_or (below ++ place ∷ []) j 0 ≡ get_or below j 0 = λ j b. get_or_append_left below (place ∷ []) 0 j b in
    let new : get_or (below ++ place ∷ []) (length below) 0 ≡ place = get_or_push below place 0 (length below) refl in
    let node : node (decided_on l s) l ≡ enqueued_node r.trail NoCause = node_new r l NoCause (omega (arith, h.nodes)) in
    let itself : level (decided_on l s) l ≡ length s.trail.starts + 1 = ap (λ (n : ImplNode). n.level) node ∙ deeper in
    let low : (i j : ℕ) → IsTrueLit s.values (get_or ls i 0) × (level s (get_or ls i 0) ≤ j) → j ≤ length below → IsTrueLit s'.values (get_or ls i 0) × (level s' (get_or ls i 0) ≤ j) = λ i j p le.
    (let q = k.low (get_or ls i 0) p.0 (omega (arith, p.1)) in (q.0, omega (arith, q.1, p.1))) in
    record {
      levels = omega arith;
      within = omega arith;
      low_within = λ j b. elim (cases_lt j (length below)) [
        | inl less ↦ omega (arith, old j less, x.low_within j less)
        | inr ge ↦ (let e : j ≡ length below = omega arith in omega (arith, ap (λ i. get_or (below ++ place ∷ []) i 0) e, new))
      ];
      passed = λ i b. elim (cases_lt i place) [
        | inl less ↦ (let q = low i (length below) (x.passed i less) (omega arith) in (q.0, omega (arith, q.1)))
        | inr ge ↦
            let e : get_or ls i 0 ≡ l = ap (λ j. get_or ls j 0) (let q : i ≡ place = omega arith in q) ∙ is in
            (subst (λ m. IsTrueLit s'.values m) (sym e) (true_new r l NoCause there), omega (arith, ap (λ m. level s' m) e, itself))
      ];
      low_passed = λ j i b c. elim (cases_lt j (length below)) [
        | inl less ↦ low i j (x.low_passed j i less (omega (arith, old j less))) (omega arith)
        | inr ge ↦
            let e : j ≡ length below = omega arith in
            let q = low i (length below) (x.passed i (omega (arith, ap (λ m. get_or (below ++ place ∷ []) m 0) e, new))) (omega arith) in (q.0, omega (arith, q.1))
      ];
      begun = λ j b. elim (cases_lt j (length below)) [
        | inl less ↦ subst (λ m. Contains ls m) (sym (k.begun j (omega arith) (omega arith)).1) (x.begun j less)
        | inr ge ↦
            let e : get_or (s.trail.starts ++ length s.trail.lits ∷ []) j 0 ≡ length s.trail.lits = get_or_push s.trail.starts (length s.trail.lits) 0 j (omega arith) in
            subst (λ m. Contains ls m) (is ∙ sym (ap (λ i. lit_at s' i) e ∙ lit_last r l NoCause)) (place_in ls place lt)
      ];
      all = λ more. absurd (omega arith);
    }

-- one more start of a level elsewhere begins no level at this position
begins_after : (x : ℕ) (xs : List ℕ) (i : ℕ) → x ≢ i → BeginsNoLevel xs i → BeginsNoLevel (x ∷ xs) i
begins_after x xs i n none zero b e = n e
begins_after x xs i n none (suc k) b e = none k (omega arith) e

begins_or_not : (starts : List ℕ) (i : ℕ) → ((k : ℕ) × ((k < length starts) × (get_or starts k 0 ≡ i))) ⊎ BeginsNoLevel starts i
begins_or_not [] i = inr (λ k b e. absurd (omega arith))
begins_or_not (x ∷ xs) i = elim (cases_eq x i) [
  | inl e ↦ inl (0, (omega arith, e))
  | inr n ↦ elim (begins_or_not xs i) [
    | inl y ↦ inl (suc y.0, (omega (arith, y.1.0), y.1.1))
    | inr none ↦ inr (begins_after x xs i n none)
  ]
]

-- while an assumption is left, assumptions began all levels
pub levels_assumed : (ls below : List ℕ) (place : ℕ) (s : PropagationState) → AreConsideredUpTo ls below place s → place < length ls → length below ≡ length s.trail.starts
levels_assumed ls below place s x lt = elim (cases_lt (length below) (length s.trail.starts)) [ inl less ↦ absurd (omega (arith, x.all less)) | inr ge ↦ omega (arith, x.levels) ]

-- while an assumption is left, every literal above level 0 without a clause as its reason is an assumption
pub decided_assumed : (ls below : List ℕ) (place : ℕ) (s : PropagationState) → StateIsConsistent s → LevelsBeginWithDecisions s → AreConsideredUpTo ls below place s → place < length ls → DecisionsAreAmong ls s
decided_assumed ls below place s h levelled x lt i b high unit = elim (begins_or_not s.trail.starts i) [
  | inl y ↦ subst (λ j. Contains ls (lit_at s j)) y.1.1 (x.begun y.0 (elim (cases_lt (length below) (length s.trail.starts)) [ inl less ↦ absurd (omega (arith, x.all less)) | inr ge ↦ omega (arith, y.1.0) ]))
  | inr none ↦
      let at : IsAtLevel s.trail.starts i (level s (lit_at s i)) = h.levels i b in
      absurd (true≢false (sym unit ∙ levelled.caused i 0 (omega (arith, at.within)) (at.begun 0 high) b none))
]

-- the variable of an assumption is among the assumed variables
pub among_variables : (ls : List ℕ) (place l : ℕ) → place < length ls → get_or ls place 0 ≡ l → Contains (variables_of_lits ls) (variable l)
among_variables ls place l lt is =
    let size : length (map (λ m. variable m) ls) ≡ length ls = length-map ls (λ m. variable m) in
    subst (λ v. Contains (variables_of_lits ls) v) (get_or-map (λ m. variable m) ls place 0 0 lt ∙ ap (λ m. variable m) is) (place_in (variables_of_lits ls) place (omega arith))
