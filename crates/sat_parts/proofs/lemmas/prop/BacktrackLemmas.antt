-- What remains after levels are undone.
use Rattle.std.proofs.Common.{ℕ, ◌≡◌, ◌≢◌, ◌+◌, ◌-◌, ◌*◌, ◌<◌, ◌≤◌, ◌⊎◌, inl, inr, List, [], ◌∷◌, suc, zero, length, get_or, set, take, drop, refl, sym, ap, ◌∙◌, subst, arith, length-set, get_or-set_same, get_or-set_other, length-drop, Bool, Some, None}
use Rattle.std.proofs.lemmas.Bool.{cases_eq, cases_lt}
use Rattle.std.proofs.lemmas.List.{get_or-take, get_or-drop, length-take-le, get_or_past}
use Rattle.std.specs.List.{Contains}
use Rattle.sat_base.specs.values.Literals.{negated, variable, is_positive}
use Rattle.sat_store.specs.clause.Buffer.{lits_at}
use Rattle.sat_parts.specs.declared.prop.graph.ImplNode.{ImplNode}
use Rattle.sat_parts.specs.declared.prop.graph.Reason.{Reason}
use Rattle.sat_parts.specs.declared.prop.graph.Reason.TheVariants.{Unit as NoCause, Binary, Long}
use Rattle.sat_parts.specs.clause.Db.{live_refs}
use Rattle.sat_parts.specs.clause.Stored.{AreLongClauses, lit_of}
use Rattle.sat_parts.specs.prop.Values.{Values, IsTrueLit, IsUnassignedLit, value_of}
use Rattle.sat_parts.specs.prop.Trails.{TrailState, IsAtLevel, without_levels_above}
use Rattle.sat_parts.specs.prop.Graphs.{node_of}
use Rattle.sat_parts.specs.prop.Undone.{with_value_lost, with_values_lost, with_levels_undone}
use Rattle.sat_parts.specs.prop.Binaries.{implied_by}
use Rattle.sat_parts.specs.prop.WatchLists.{WatchState}
use Rattle.sat_parts.specs.prop.Backtracked.{BacktrackEffect}
use Rattle.sat_parts.specs.prop.State.{PropagationState, node, level, lit_at, IsRemovedUnit, IsOnTrailBefore, HasLeftQueue, StateIsConsistent, IsQueueCurrent, IsSatisfied}
use Rattle.sat_parts.specs.prop.Reasons.{IsFalseBefore, ReasonImplies, ReasonsAreUnit}
use Rattle.sat_parts.specs.prop.Ready.{AreWatched, AreImpliedLists}
use Rattle.sat_parts.specs.prop.Propagation.{PropagationInvariant, PropagationPrecondition}
use Rattle.sat_parts.proofs.lemmas.prop.StateLemmas.{left_true}
use Rattle.sat_parts.proofs.lemmas.prop.RoomLemmas.{places_apart}

pub undone_length : (ls : List ℕ) (a : Values) → length (with_values_lost ls a).current ≡ length a.current
undone_length [] a = refl
undone_length (l ∷ ls) a = undone_length ls (with_value_lost l a) ∙ length-set a.current (variable l) None

none_stays : (ls : List ℕ) (a : Values) (v : ℕ) → value_of a.current v ≡ None → value_of (with_values_lost ls a).current v ≡ None
none_stays [] a v e = e
none_stays (l ∷ ls) a v e = none_stays ls (with_value_lost l a) v (elim (cases_eq v (variable l)) [
  | inl q ↦ elim (cases_lt v (length a.current)) [
    | inl lt ↦ subst (λ (z : ℕ). value_of (with_value_lost l a).current z ≡ None) (sym q) (get_or-set_same a.current (variable l) None None (omega arith))
    | inr le ↦
        let n : length (set a.current (variable l) None) ≡ length a.current = length-set a.current (variable l) None in
        get_or_past (set a.current (variable l) None) v None (omega arith)
  ]
  | inr n ↦ get_or-set_other a.current (variable l) v None None n ∙ e
])

-- an undone variable is unassigned
pub undone_none : (ls : List ℕ) (a : Values) (k : ℕ) → k < length ls → value_of (with_values_lost ls a).current (variable (get_or ls k 0)) ≡ None
undone_none [] a k lt = absurd (omega arith)
undone_none (l ∷ ls) a zero lt = none_stays ls (with_value_lost l a) (variable l) (elim (cases_lt (variable l) (length a.current)) [
  | inl b ↦ get_or-set_same a.current (variable l) None None b
  | inr le ↦
      let n : length (set a.current (variable l) None) ≡ length a.current = length-set a.current (variable l) None in
      get_or_past (set a.current (variable l) None) (variable l) None (omega arith)
])
undone_none (l ∷ ls) a (suc k) lt = undone_none ls (with_value_lost l a) k (omega arith)

-- any other variable keeps its value
pub undone_other : (ls : List ℕ) (a : Values) (v : ℕ) → ((k : ℕ) → k < length ls → variable (get_or ls k 0) ≢ v) → value_of (with_values_lost ls a).current v ≡ value_of a.current v
undone_other [] a v h = refl
undone_other (l ∷ ls) a v h =
    undone_other ls (with_value_lost l a) v (λ k lt. h (suc k) (omega arith))
    ∙ get_or-set_other a.current (variable l) v None None (λ e. h 0 (omega arith) (sym e))

-- a variable that is assigned had its value before
pub undone_back : (ls : List ℕ) (a : Values) (v : ℕ) (b : Bool) → value_of (with_values_lost ls a).current v ≡ Some b → value_of a.current v ≡ Some b
undone_back [] a v b e = e
undone_back (l ∷ ls) a v b e =
    let f : value_of (with_value_lost l a).current v ≡ Some b = undone_back ls (with_value_lost l a) v b e in
    elim (cases_eq v (variable l)) [
      | inl q ↦
          let g : value_of (with_value_lost l a).current v ≡ None = elim (cases_lt v (length a.current)) [
            | inl lt ↦ subst (λ (z : ℕ). value_of (with_value_lost l a).current z ≡ None) (sym q) (get_or-set_same a.current (variable l) None None (omega arith))
            | inr le ↦
                let n : length (set a.current (variable l) None) ≡ length a.current = length-set a.current (variable l) None in
                get_or_past (set a.current (variable l) None) v None (omega arith)
          ] in
          (let z : Some b ≡ None = sym f ∙ g in cc)
      | inr n ↦ sym (get_or-set_other a.current (variable l) v None None n) ∙ f
    ]

-- the state before, and the state after the levels above this one are undone
abbrev pub before : Values → List ImplNode → TrailState → PropagationState
before a nodes t = record { values = a.current; nodes = nodes; trail = t }

abbrev pub after : ℕ → Values → List ImplNode → TrailState → PropagationState
after level a nodes t = record { values = (with_levels_undone level t a).current; nodes = nodes; trail = without_levels_above level t }

-- the position where the levels above this one begin
abbrev pub cut_at : ℕ → TrailState → ℕ
cut_at level t = get_or t.starts level 0

cut_within : (v : ℕ) (a : Values) (nodes : List ImplNode) (t : TrailState) → StateIsConsistent (before a nodes t) → v < length t.starts → cut_at v t ≤ length t.lits
cut_within v a nodes t h lt = h.trail.levels.within v lt

cut_length : (v : ℕ) (a : Values) (nodes : List ImplNode) (t : TrailState) → StateIsConsistent (before a nodes t) → v < length t.starts → length (take (cut_at v t) t.lits) ≡ cut_at v t
cut_length v a nodes t h lt = length-take-le (cut_at v t) t.lits (cut_within v a nodes t h lt)

cut_lit : (v : ℕ) (a : Values) (nodes : List ImplNode) (t : TrailState) (i : ℕ) → i < cut_at v t → lit_at (after v a nodes t) i ≡ lit_at (before a nodes t) i
cut_lit v a nodes t i lt = get_or-take (cut_at v t) t.lits i 0 lt

-- an undone literal was on the trail at or after this position
undone_lit : (v : ℕ) (a : Values) (nodes : List ImplNode) (t : TrailState) (k : ℕ) → get_or (drop (cut_at v t) t.lits) k 0 ≡ lit_at (before a nodes t) (cut_at v t + k)
undone_lit v a nodes t k = get_or-drop (cut_at v t) t.lits k 0

-- `IsKept v a nodes t m` holds if the literal `m` is before the position at which level `v` is cut off, or was taken
-- off the trail.
abbrev pub IsKept : ℕ → Values → List ImplNode → TrailState → ℕ → Type 0
IsKept v a nodes t m = IsOnTrailBefore (before a nodes t) (cut_at v t) m ⊎ IsRemovedUnit (before a nodes t) m

not_undone : (v : ℕ) (a : Values) (nodes : List ImplNode) (t : TrailState) (m k : ℕ) → StateIsConsistent (before a nodes t) → v < length t.starts → IsKept v a nodes t m →
    k < length (drop (cut_at v t) t.lits) → variable (get_or (drop (cut_at v t) t.lits) k 0) ≢ variable m
not_undone v a nodes t m k h lt kept b e =
    let n : length (drop (cut_at v t) t.lits) ≡ length t.lits - cut_at v t = length-drop (cut_at v t) t.lits in
    let s : PropagationState = before a nodes t in
    let in_lits : cut_at v t + k < length t.lits = omega arith in
    let f : variable (lit_at s (cut_at v t + k)) ≡ variable m = ap (λ z. variable z) (sym (undone_lit v a nodes t k)) ∙ e in
    elim kept [
      | inl x ↦
          let q : cut_at v t + k ≡ x.place = places_apart s (cut_at v t + k) x.place h in_lits x.within (f ∙ ap (λ z. variable z) (sym x.there)) in
          omega (arith, x.before)
      | inr x ↦
          let d : cut_at v t + k + 1 ≡ 4294967295 = sym (h.depths (cut_at v t + k) in_lits) ∙ ap (λ z. (node_of s.nodes z).depth) f ∙ x.depth in
          omega (arith, h.trail.small, h.trail.fits)
    ]

pub kept_true : (v : ℕ) (a : Values) (nodes : List ImplNode) (t : TrailState) (m : ℕ) → StateIsConsistent (before a nodes t) → v < length t.starts → IsKept v a nodes t m →
    IsTrueLit a.current m → IsTrueLit (after v a nodes t).values m
kept_true v a nodes t m h lt kept holds = undone_other (drop (cut_at v t) t.lits) a (variable m) (λ k b. not_undone v a nodes t m k h lt kept b) ∙ holds

pub true_kept : (v : ℕ) (a : Values) (nodes : List ImplNode) (t : TrailState) (m : ℕ) → StateIsConsistent (before a nodes t) → v < length t.starts →
    IsTrueLit (after v a nodes t).values m → IsTrueLit a.current m × IsKept v a nodes t m
true_kept v a nodes t m h lt holds =
    let s : PropagationState = before a nodes t in
    let old : IsTrueLit a.current m = undone_back (drop (cut_at v t) t.lits) a (variable m) (is_positive m) holds in
    let n : length (drop (cut_at v t) t.lits) ≡ length t.lits - cut_at v t = length-drop (cut_at v t) t.lits in (
      old,
      elim (h.known m old) [
        | inl x ↦ elim (cases_lt x.place (cut_at v t)) [
          | inl b ↦ inl (record { place = x.place; before = b; within = x.within; there = x.there })
          | inr le ↦
              let k : ℕ = x.place - cut_at v t in
              let q : cut_at v t + (x.place - cut_at v t) ≡ x.place = omega arith in
              let e : get_or (drop (cut_at v t) t.lits) (x.place - cut_at v t) 0 ≡ m = undone_lit v a nodes t (x.place - cut_at v t) ∙ ap (λ i. lit_at s i) q ∙ x.there in
              let none : value_of (after v a nodes t).values (variable m) ≡ None =
              subst (λ z. value_of (after v a nodes t).values (variable z) ≡ None) e
              (undone_none (drop (cut_at v t) t.lits) a (x.place - cut_at v t) (omega (arith, x.within))) in
              absurd (let z : Some (is_positive m) ≡ None = sym holds ∙ none in cc)
        ]
        | inr x ↦ inr x
      ],
    )

before_cut : (v : ℕ) (a : Values) (nodes : List ImplNode) (t : TrailState) (bound m : ℕ) → StateIsConsistent (before a nodes t) → v < length t.starts → bound ≤ cut_at v t →
    IsOnTrailBefore (before a nodes t) bound m → IsOnTrailBefore (after v a nodes t) bound m
before_cut v a nodes t bound m h lt le x =
    let n : length (take (cut_at v t) t.lits) ≡ cut_at v t = cut_length v a nodes t h lt in
    let b : x.place < cut_at v t = omega (arith, x.before) in
    record { place = x.place; before = x.before; within = omega arith; there = cut_lit v a nodes t x.place b ∙ x.there }

pub removed_cut : (v : ℕ) (a : Values) (nodes : List ImplNode) (t : TrailState) (m : ℕ) → StateIsConsistent (before a nodes t) → v < length t.starts →
    IsRemovedUnit (before a nodes t) m → IsRemovedUnit (after v a nodes t) m
removed_cut v a nodes t m h lt x = record { holds = kept_true v a nodes t m h lt (inr x) x.holds; depth = x.depth; bottom = x.bottom }

-- a literal before this position is at level v or lower
pub cut_level : (v : ℕ) (a : Values) (nodes : List ImplNode) (t : TrailState) (i : ℕ) → StateIsConsistent (before a nodes t) → v < length t.starts → i < cut_at v t →
    level (before a nodes t) (lit_at (before a nodes t) i) ≤ v
cut_level v a nodes t i h lt b =
    let s : PropagationState = before a nodes t in
    let w : cut_at v t ≤ length t.lits = cut_within v a nodes t h lt in
    let l : IsAtLevel t.starts i (level s (lit_at s i)) = h.levels i (omega arith) in
    elim (cases_lt v (level s (lit_at s i))) [
      | inl x ↦ absurd (omega (arith, l.begun v x))
      | inr x ↦ x
    ]

pub kept_level : (v : ℕ) (a : Values) (nodes : List ImplNode) (t : TrailState) (m : ℕ) → StateIsConsistent (before a nodes t) → v < length t.starts → IsKept v a nodes t m →
    level (before a nodes t) m ≤ v
kept_level v a nodes t m h lt kept = elim kept [
  | inl x ↦ subst (λ z. level (before a nodes t) z ≤ v) x.there (cut_level v a nodes t x.place h lt x.before)
  | inr x ↦ omega (arith, x.bottom)
]

-- a true literal at level v or lower stays
pub low_kept : (v : ℕ) (a : Values) (nodes : List ImplNode) (t : TrailState) (m : ℕ) → StateIsConsistent (before a nodes t) → v < length t.starts → IsTrueLit a.current m →
    level (before a nodes t) m ≤ v → IsKept v a nodes t m
low_kept v a nodes t m h lt holds low = elim (h.known m holds) [
  | inl x ↦
      let s : PropagationState = before a nodes t in
      let l : IsAtLevel t.starts x.place (level s (lit_at s x.place)) = h.levels x.place x.within in
      let e : level s (lit_at s x.place) ≡ level s m = ap (λ z. level s z) x.there in
      inl (record { place = x.place; before = l.not_begun v (omega arith) lt; within = x.within; there = x.there })
  | inr x ↦ inr x
]

pub agrees_after : (v : ℕ) (a : Values) (nodes : List ImplNode) (t : TrailState) → StateIsConsistent (before a nodes t) → v < length t.starts → StateIsConsistent (after v a nodes t)
agrees_after v a nodes t h lt =
    let w : cut_at v t ≤ length t.lits = cut_within v a nodes t h lt in
    let n : length (take (cut_at v t) t.lits) ≡ cut_at v t = cut_length v a nodes t h lt in
    let k : length (take v t.starts) ≡ v = length-take-le v t.starts (omega arith) in
    let size : length (with_levels_undone v t a).current ≡ length a.current = undone_length (drop (cut_at v t) t.lits) a in
    let s : PropagationState = before a nodes t in
    record {
      trail = record {
        queue = omega arith;
        levels = record {
          within = λ i b.
              let e : get_or (take v t.starts) i 0 ≡ get_or t.starts i 0 = get_or-take v t.starts i 0 (omega arith) in
              omega (arith, h.trail.levels.rising i v (omega arith) lt);
          rising = λ i j le b.
              let e : get_or (take v t.starts) i 0 ≡ get_or t.starts i 0 = get_or-take v t.starts i 0 (omega arith) in
              let f : get_or (take v t.starts) j 0 ≡ get_or t.starts j 0 = get_or-take v t.starts j 0 (omega arith) in
              omega (arith, h.trail.levels.rising i j le (omega arith));
        };
        fits = omega (arith, h.trail.fits);
        small = h.trail.small;
        counted = omega (arith, h.trail.counted);
      };
      nodes = h.nodes ∙ sym size;
      room = omega (arith, h.room);
      holds = λ i b.
          let q : i < cut_at v t = omega arith in
          subst (λ z. IsTrueLit (after v a nodes t).values z) (sym (cut_lit v a nodes t i q))
          (kept_true v a nodes t (lit_at s i) h lt (inl (record { place = i; before = q; within = omega arith; there = refl })) (h.holds i (omega arith)));
      depths = λ i b. ap (λ z. (node s z).depth) (cut_lit v a nodes t i (omega arith)) ∙ h.depths i (omega arith);
      levels = λ i b.
          let q : i < cut_at v t = omega arith in
          let l : IsAtLevel t.starts i (level s (lit_at s i)) = h.levels i (omega arith) in
          let low : level s (lit_at s i) ≤ v = cut_level v a nodes t i h lt q in
          let e : level (after v a nodes t) (lit_at (after v a nodes t) i) ≡ level s (lit_at s i) = ap (λ z. level s z) (cut_lit v a nodes t i q) in
          record {
            within = omega arith;
            begun = λ j b2. (let f : get_or (take v t.starts) j 0 ≡ get_or t.starts j 0 = get_or-take v t.starts j 0 (omega arith) in omega (arith, l.begun j (omega arith)));
            not_begun = λ j b2 b3. (let f : get_or (take v t.starts) j 0 ≡ get_or t.starts j 0 = get_or-take v t.starts j 0 (omega arith) in omega (arith, l.not_begun j (omega arith) (omega arith)));
          };
      known = λ m holds.
          let x : IsTrueLit a.current m × IsKept v a nodes t m = true_kept v a nodes t m h lt holds in
          elim x.1 [
            | inl b ↦ inl (subst (λ z. IsOnTrailBefore (after v a nodes t) z m) (sym n) (before_cut v a nodes t (cut_at v t) m h lt (omega arith) b))
            | inr r ↦ inr (removed_cut v a nodes t m h lt r)
          ];
    }

-- an undone literal is unassigned
undone_open : (v : ℕ) (a : Values) (nodes : List ImplNode) (t : TrailState) (m : ℕ) → StateIsConsistent (before a nodes t) → v < length t.starts → IsTrueLit a.current m →
    v < level (before a nodes t) m → IsUnassignedLit (after v a nodes t).values m
undone_open v a nodes t m h lt holds high = elim (h.known m holds) [
  | inl x ↦ elim (cases_lt x.place (cut_at v t)) [
    | inl b ↦
        let low : level (before a nodes t) m ≤ v = kept_level v a nodes t m h lt (inl (record { place = x.place; before = b; within = x.within; there = x.there })) in
        absurd (omega arith)
    | inr le ↦
        let n : length (drop (cut_at v t) t.lits) ≡ length t.lits - cut_at v t = length-drop (cut_at v t) t.lits in
        let q : cut_at v t + (x.place - cut_at v t) ≡ x.place = omega arith in
        let e : get_or (drop (cut_at v t) t.lits) (x.place - cut_at v t) 0 ≡ m = undone_lit v a nodes t (x.place - cut_at v t) ∙ ap (λ i. lit_at (before a nodes t) i) q ∙ x.there in
        subst (λ z. value_of (after v a nodes t).values (variable z) ≡ None) e
        (undone_none (drop (cut_at v t) t.lits) a (x.place - cut_at v t) (omega (arith, x.within)))
  ]
  | inr x ↦ absurd (omega (arith, x.bottom))
]

-- what remains when the levels above this one are undone
pub keeps_low : (v : ℕ) (a : Values) (nodes : List ImplNode) (t : TrailState) → StateIsConsistent (before a nodes t) → v < length t.starts → BacktrackEffect v (before a nodes t) (after v a nodes t)
keeps_low v a nodes t h lt =
    let s : PropagationState = before a nodes t in
    let n : length (take (cut_at v t) t.lits) ≡ cut_at v t = cut_length v a nodes t h lt in
    record {
      agrees = agrees_after v a nodes t h lt;
      low_kept = λ m holds low. kept_true v a nodes t m h lt (low_kept v a nodes t m h lt holds low) holds;
      true_kept = λ m holds. (true_kept v a nodes t m h lt holds).0;
      kept_level = λ m holds. kept_level v a nodes t m h lt (true_kept v a nodes t m h lt holds).1;
      opened = λ m holds high. undone_open v a nodes t m h lt holds high;
      open_kept = λ m none. none_stays (drop (cut_at v t) t.lits) a (variable m) none;
      removed_kept = λ m x. removed_cut v a nodes t m h lt x;
      shorter = omega (arith, cut_within v a nodes t h lt);
      places = λ i b. cut_lit v a nodes t i (omega arith);
      low_places = λ i b low.
          let l : IsAtLevel t.starts i (level s (lit_at s i)) = h.levels i b in
          omega (arith, l.not_begun v low lt);
    }

-- the head of the queue is not before this position
head_after : (v : ℕ) (a : Values) (nodes : List ImplNode) (t : TrailState) → StateIsConsistent (before a nodes t) → IsQueueCurrent (before a nodes t) → v < length t.starts → cut_at v t ≤ t.head
head_after v a nodes t h q lt = elim (cases_lt t.head (length t.lits)) [
  | inl b ↦
      let s : PropagationState = before a nodes t in
      let l : IsAtLevel t.starts t.head (level s (lit_at s t.head)) = h.levels t.head b in
      l.begun v (omega (arith, q t.head (omega arith) b))
  | inr le ↦ omega (arith, cut_within v a nodes t h lt)
]

left_after : (v : ℕ) (a : Values) (nodes : List ImplNode) (t : TrailState) (m : ℕ) → StateIsConsistent (before a nodes t) → IsQueueCurrent (before a nodes t) → v < length t.starts →
    HasLeftQueue (after v a nodes t) m → HasLeftQueue (before a nodes t) m × (level (before a nodes t) m ≤ v)
left_after v a nodes t m h q lt f =
    let x : IsTrueLit a.current m × IsKept v a nodes t m = true_kept v a nodes t m h lt (left_true (after v a nodes t) m (agrees_after v a nodes t h lt) f) in
    let le : cut_at v t ≤ t.head = head_after v a nodes t h q lt in (
      elim x.1 [
        | inl b ↦ inl (record { place = b.place; before = omega (arith, b.before); within = b.within; there = b.there })
        | inr r ↦ inr r
      ],
      kept_level v a nodes t m h lt x.1,
    )

satisfied_after : (v : ℕ) (a : Values) (nodes : List ImplNode) (t : TrailState) (ls : List ℕ) (bound : ℕ) → StateIsConsistent (before a nodes t) → v < length t.starts → bound ≤ v →
    IsSatisfied (before a nodes t) ls bound → IsSatisfied (after v a nodes t) ls bound
satisfied_after v a nodes t ls bound h lt le x = record {
  place = x.place;
  within = x.within;
  holds = kept_true v a nodes t (get_or ls x.place 0) h lt (low_kept v a nodes t (get_or ls x.place 0) h lt x.holds (omega (arith, x.low))) x.holds;
  low = x.low;
}

-- undoing levels gives what propagation requires, if its invariant held below a higher level
pub asks_after : (words refs : List ℕ) (w : WatchState) (implied : List (List ℕ)) (v : ℕ) (a : Values) (nodes : List ImplNode) (t : TrailState) (top : ℕ) →
    PropagationInvariant words refs w implied (before a nodes t) top → v < length t.starts → v < top → PropagationPrecondition words refs w implied (after v a nodes t)
asks_after words refs w implied v a nodes t top h lt below =
    let s : PropagationState = before a nodes t in
    let n : length (take (cut_at v t) t.lits) ≡ cut_at v t = cut_length v a nodes t h.agrees lt in
    let size : length (with_levels_undone v t a).current ≡ length a.current = undone_length (drop (cut_at v t) t.lits) a in
    record {
      holds_clauses = h.holds_clauses;
      clauses = subst (λ (z : ℕ). AreLongClauses words (live_refs words refs) z) (sym size) h.clauses;
      room = h.room ∙ ap (λ z. 2 * z) (sym size);
      watches = λ on. subst (λ (z : ℕ). AreWatched words (live_refs words refs) w.lists z) (sym size) (h.watches on);
      agrees = agrees_after v a nodes t h.agrees lt;
      queue = λ i le b. absurd (omega arith);
      firsts = λ i o b e.
          let q : i < cut_at v t = omega arith in
          let l : lit_at (after v a nodes t) i ≡ lit_at s i = cut_lit v a nodes t i q in
          let x : Contains (live_refs words refs) o × (lit_of words o 0 ≡ lit_at s i) =
          h.firsts i o (omega (arith, cut_within v a nodes t h.agrees lt)) (ap (λ z. (node s z).reason) (sym l) ∙ e) in
          (x.0, x.1 ∙ sym l);
      settled = λ o i ho hi f d.
          let x : HasLeftQueue s (negated (lit_of words o i)) × (level s (negated (lit_of words o i)) ≤ v) = left_after v a nodes t (negated (lit_of words o i)) h.agrees h.queue lt f in
          satisfied_after v a nodes t (lits_at words o) (level s (negated (lit_of words o i))) h.agrees lt x.1 (h.settled o i ho hi x.0 (omega (arith, x.1)));
      ranges = subst (λ (z : ℕ). AreImpliedLists implied z) (sym size) h.ranges;
      binary = λ l k f d b.
          let x : HasLeftQueue s l × (level s l ≤ v) = left_after v a nodes t l h.agrees h.queue lt f in
          let y : IsTrueLit a.current (get_or (implied_by implied l) k 0) × (level s (get_or (implied_by implied l) k 0) ≤ level s l) = h.binary l k x.0 (omega (arith, x.1)) b in (
            kept_true v a nodes t (get_or (implied_by implied l) k 0) h.agrees lt
                (low_kept v a nodes t (get_or (implied_by implied l) k 0) h.agrees lt y.0 (omega (arith, y.1, x.1))) y.0,
            y.1,
          );
    }

false_after : (v : ℕ) (a : Values) (nodes : List ImplNode) (t : TrailState) (i m : ℕ) → StateIsConsistent (before a nodes t) → v < length t.starts → i < cut_at v t →
    IsFalseBefore (before a nodes t) i m → IsFalseBefore (after v a nodes t) i m
false_after v a nodes t i m h lt b x = elim x [
  | inl y ↦ inl (before_cut v a nodes t i (negated m) h lt (omega arith) y)
  | inr y ↦ inr (removed_cut v a nodes t (negated m) h lt y)
]

implies_after : (words live : List ℕ) (implied : List (List ℕ)) (v : ℕ) (a : Values) (nodes : List ImplNode) (t : TrailState) (i : ℕ) (r : Reason) → StateIsConsistent (before a nodes t) → v < length t.starts →
    i < cut_at v t → ReasonImplies words live implied (before a nodes t) i r → ReasonImplies words live implied (after v a nodes t) i r
implies_after words live implied v a nodes t i NoCause h lt b x = tt
implies_after words live implied v a nodes t i (Binary ls) h lt b x = (
  subst (λ (z : ℕ). Contains (implied_by implied (negated (get_or ls 0 0))) z) (sym (cut_lit v a nodes t i b)) x.0,
  false_after v a nodes t i (get_or ls 0 0) h lt b x.1,
)
implies_after words live implied v a nodes t i (Long o) h lt b x =
    (x.0, x.1 ∙ sym (cut_lit v a nodes t i b), λ k y z. false_after v a nodes t i (lit_of words o k) h lt b (x.2 k y z))

-- reasons stay unit in the order of the trail
pub turns_after : (words live : List ℕ) (implied : List (List ℕ)) (v : ℕ) (a : Values) (nodes : List ImplNode) (t : TrailState) (from : ℕ) → StateIsConsistent (before a nodes t) → v < length t.starts →
    ReasonsAreUnit words live implied (before a nodes t) from → ReasonsAreUnit words live implied (after v a nodes t) from
turns_after words live implied v a nodes t from h lt x i le b =
    let n : length (take (cut_at v t) t.lits) ≡ cut_at v t = cut_length v a nodes t h lt in
    let q : i < cut_at v t = omega arith in
    let s : PropagationState = before a nodes t in
    subst (λ (z : Reason). ReasonImplies words live implied (after v a nodes t) i z) (ap (λ z. (node s z).reason) (sym (cut_lit v a nodes t i q)))
    (implies_after words live implied v a nodes t i (node s (lit_at s i)).reason h lt q (x i le (omega (arith, cut_within v a nodes t h lt))))
