-- Units of level 0 that are taken off the trail and put back into the queue.
use Rattle.std.proofs.Common.{ℕ, ◌≡◌, ◌≢◌, ◌+◌, ◌*◌, ◌<◌, ◌≤◌, ◌⊎◌, inl, inr, suc, zero, List, [], ◌∷◌, ◌++◌, length, get_or, set, length-set, get_or-set_same, get_or-set_other, refl, sym, ap, ◌∙◌, subst, arith, Bool, Some, None}
use Rattle.std.proofs.lemmas.Bool.{cases_eq, cases_lt}
use Rattle.std.proofs.lemmas.List.{length_push}
use Rattle.sat_base.specs.values.Literals.{variable, is_positive, negated}
use Rattle.sat_store.specs.clause.Buffer.{lits_at}
use Rattle.sat_store.specs.heap.Vsids.{Queue}
use Rattle.sat_parts.specs.declared.prop.graph.ImplNode.{ImplNode}
use Rattle.sat_parts.specs.declared.prop.graph.Reason.{Reason}
use Rattle.sat_parts.specs.declared.prop.graph.Reason.TheVariants.{Unit as NoCause}
use Rattle.sat_parts.specs.clause.Db.{Db, live_refs}
use Rattle.sat_parts.specs.clause.Stored.{AreLongClauses, lit_of}
use Rattle.sat_parts.specs.prop.Binaries.{Binaries, implied_by}
use Rattle.sat_parts.specs.prop.Values.{Values, value_of, IsTrueLit, IsUnassignedLit}
use Rattle.sat_parts.specs.prop.Trails.{TrailState, with_lit, with_cleared}
use Rattle.sat_parts.specs.prop.Graphs.{with_node, enqueued_node, node_of, removed_node, new_node}
use Rattle.sat_parts.specs.prop.WatchLists.{WatchState}
use Rattle.sat_parts.specs.prop.State.{PropagationState, node, level, lit_at, IsRemovedUnit, HasLeftQueue, StateIsConsistent, IsSatisfied, enqueued}
use Rattle.sat_parts.specs.prop.Reasons.{ReasonImplies, ReasonsAreUnit}
use Rattle.sat_parts.specs.prop.Ready.{state_of, AreWatched, AreImpliedLists}
use Rattle.sat_parts.proofs.lemmas.prop.StateLemmas.{level_low, left_true, true_back, true_new, node_new, lit_front, agrees_enqueued, lit_from_parts}
use Rattle.sat_parts.proofs.lemmas.prop.RoomLemmas.{room_for, below_from_value}
use Rattle.sat_parts.proofs.lemmas.prop.WordLemmas.{levels_stay}
use Rattle.sat_parts.specs.parts.Round.{UnitsHaveNoReason, PartsInvariantBelow, RoundInvariant}
use Rattle.sat_parts.specs.parts.Units.{with_removed_units, with_restored_unit}
use Rattle.sat_parts.proofs.lemmas.parts.LevelLemmas.{left_all}
use Rattle.sat_parts.proofs.lemmas.parts.ValueLemmas.{some_none}
use Rattle.sat_parts.proofs.lemmas.parts.TurnLemmas.{units_enqueued}
use Rattle.sat_parts.proofs.lemmas.parts.DecideLemmas.{no_long}

pub removed_length : (ls : List ℕ) (g : List ImplNode) → length (with_removed_units ls g) ≡ length g
removed_length [] g = refl
removed_length (l ∷ ls) g = removed_length ls (with_node (variable l) removed_node g) ∙ length-set g (variable l) removed_node

-- a node that is marked as removed stays so
removed_stays : (ls : List ℕ) (g : List ImplNode) (v : ℕ) → v < length g → node_of g v ≡ removed_node → node_of (with_removed_units ls g) v ≡ removed_node
removed_stays [] g v lt e = e
removed_stays (l ∷ ls) g v lt e =
    removed_stays ls (with_node (variable l) removed_node g) v (omega (arith, length-set g (variable l) removed_node)) (elim (cases_eq v (variable l)) [
      | inl q ↦ ap (λ z. node_of (with_node (variable l) removed_node g) z) q ∙ get_or-set_same g (variable l) removed_node new_node (omega arith)
      | inr n ↦ get_or-set_other g (variable l) v removed_node new_node n ∙ e
    ])

removed_there : (ls : List ℕ) (g : List ImplNode) (k : ℕ) → k < length ls → variable (get_or ls k 0) < length g → node_of (with_removed_units ls g) (variable (get_or ls k 0)) ≡ removed_node
removed_there [] g k b lt = absurd (omega arith)
removed_there (l ∷ ls) g zero b lt =
    removed_stays ls (with_node (variable l) removed_node g) (variable l) (omega (arith, length-set g (variable l) removed_node)) (get_or-set_same g (variable l) removed_node new_node lt)
removed_there (l ∷ ls) g (suc k) b lt = removed_there ls (with_node (variable l) removed_node g) k (omega arith) (omega (arith, length-set g (variable l) removed_node))

set_past : (g : List ImplNode) (i : ℕ) (x : ImplNode) → length g ≤ i → set g i x ≡ g
set_past [] i x le = refl
set_past (y ∷ g) zero x le = absurd (omega arith)
set_past (y ∷ g) (suc i) x le = ap (λ (h : List ImplNode). y ∷ h) (set_past g i x (omega arith))

-- every node is unchanged or marked as removed
removed_or : (ls : List ℕ) (g : List ImplNode) (v : ℕ) → (node_of (with_removed_units ls g) v ≡ removed_node) ⊎ (node_of (with_removed_units ls g) v ≡ node_of g v)
removed_or [] g v = inr refl
removed_or (l ∷ ls) g v = elim (removed_or ls (with_node (variable l) removed_node g) v) [
  | inl e ↦ inl e
  | inr e ↦ elim (cases_eq v (variable l)) [
    | inl q ↦ elim (cases_lt (variable l) (length g)) [
      | inl lt ↦ inl (e ∙ ap (λ z. node_of (with_node (variable l) removed_node g) z) q ∙ get_or-set_same g (variable l) removed_node new_node lt)
      | inr past ↦ inr (e ∙ ap (λ (h : List ImplNode). node_of h v) (set_past g (variable l) removed_node past))
    ]
    | inr n ↦ inr (e ∙ get_or-set_other g (variable l) v removed_node new_node n)
  ]
]

-- once the trail is cleared, every true literal is a unit taken off it
pub all_removed : (a : Values) (g : List ImplNode) (t : TrailState) (l : ℕ) → StateIsConsistent (state_of a g t) → IsTrueLit a.current l → IsRemovedUnit (state_of a (with_removed_units t.lits g) (with_cleared t)) l
all_removed a g t l h holds =
    let s : PropagationState = state_of a g t in
    let there : variable l < length a.current = below_from_value a.current (variable l) _ holds in
    let node_is : node_of (with_removed_units t.lits g) (variable l) ≡ removed_node ⊎ ((node_of (with_removed_units t.lits g) (variable l)).depth ≡ 4294967295) × ((node_of (with_removed_units t.lits g) (variable l)).level ≡ 0) =
    elim (h.known l holds) [
      | inl x ↦ inl (subst (λ m. node_of (with_removed_units t.lits g) (variable m) ≡ removed_node) x.there (removed_there t.lits g x.place x.within (omega (arith, h.nodes, ap (λ m. variable m) x.there))))
      | inr x ↦ elim (removed_or t.lits g (variable l)) [
        | inl e ↦ inl e
        | inr e ↦ inr (ap (λ (z : ImplNode). z.depth) e ∙ x.depth, ap (λ (z : ImplNode). z.level) e ∙ x.bottom)
      ]
    ] in
    elim node_is [
      | inl e ↦ record { holds = holds; depth = ap (λ (z : ImplNode). z.depth) e; bottom = ap (λ (z : ImplNode). z.level) e }
      | inr e ↦ record { holds = holds; depth = e.0; bottom = e.1 }
    ]

no_starts : (t : TrailState) → t.starts ≡ [] → length t.starts ≡ 0
no_starts t e = ap (λ (xs : List ℕ). length xs) e

agrees_cleared : (a : Values) (g : List ImplNode) (t : TrailState) → StateIsConsistent (state_of a g t) → t.starts ≡ [] → StateIsConsistent (state_of a (with_removed_units t.lits g) (with_cleared t))
agrees_cleared a g t h e =
    let n : length t.starts ≡ 0 = no_starts t e in
    record {
      trail = record {
        queue = omega arith;
        levels = record { within = λ k b. absurd (omega arith); rising = λ j k le b. absurd (omega arith) };
        fits = omega arith;
        small = h.trail.small;
        counted = h.trail.counted;
      };
      nodes = removed_length t.lits g ∙ h.nodes;
      room = h.room;
      holds = λ i b. absurd (omega arith);
      depths = λ i b. absurd (omega arith);
      levels = λ i b. absurd (omega arith);
      known = λ l holds. inr (all_removed a g t l h holds);
    }

-- if the queue is empty, taking units off the trail gives the invariant between rounds
pub sound_cleared : (words : List ℕ) (db : Db) (w : WatchState) (b : Binaries) (a : Values) (g : List ImplNode) (t : TrailState) (q : Queue) →
    PartsInvariantBelow words db w b a g t q (length t.starts + 1) → t.starts ≡ [] → t.head ≡ length t.lits → RoundInvariant words db w b a (with_removed_units t.lits g) (with_cleared t) q
sound_cleared words db w b a g t q h e done =
    let s : PropagationState = state_of a g t in
    let s' : PropagationState = state_of a (with_removed_units t.lits g) (with_cleared t) in
    let old : StateIsConsistent (state_of a g t) = h.propagation.agrees in
    let agrees : StateIsConsistent (state_of a (with_removed_units t.lits g) (with_cleared t)) = agrees_cleared a g t old e in
    let n : length t.starts ≡ 0 = no_starts t e in
    let low : (l : ℕ) → IsTrueLit a.current l → level s l < length t.starts + 1 = λ l holds. omega (arith, level_low s l old holds) in
    let bottom : (l : ℕ) → IsTrueLit a.current l → level s' l ≡ 0 = λ l holds. (all_removed a g t l old holds).bottom in
    record {
      below = record {
        db_matches = h.db_matches;
        propagation = record {
          holds_clauses = h.propagation.holds_clauses;
          clauses = h.propagation.clauses;
          room = h.propagation.room;
          watches = h.propagation.watches;
          agrees = agrees;
          queue = λ i le b. absurd (omega arith);
          firsts = λ i o b f. absurd (omega arith);
          settled = λ o i c hi left d.
              let m : ℕ = negated (lit_of words o i) in
              let holds : IsTrueLit a.current (negated (lit_of words o i)) = left_true s' (negated (lit_of words o i)) agrees left in
              let x : IsSatisfied s (lits_at words o) (level s (negated (lit_of words o i))) =
              h.propagation.settled o i c hi (left_all s (negated (lit_of words o i)) old done holds) (low (negated (lit_of words o i)) holds) in
              record { place = x.place; within = x.within; holds = x.holds; low = omega (arith, bottom (get_or (lits_at words o) x.place 0) x.holds) };
          ranges = h.propagation.ranges;
          binary = λ l k left d lt.
              let holds : IsTrueLit a.current l = left_true s' l agrees left in
              let x = h.propagation.binary l k (left_all s l old done holds) (low l holds) lt in
              (x.0, omega (arith, bottom (get_or (implied_by b.implied l) k 0) x.0));
        };
        reasons = λ i le b. absurd (omega arith);
        levelled = levels_stay.none s' e;
        queue = h.queue;
        ready = h.ready;
      };
      units = λ i b. absurd (omega arith);
      base = record { above = λ some. absurd (omega arith); bottom = λ z. refl };
    }

-- at level 0 no reason is a clause, so reasons are unit in the order of the trail
pub turns_of_units : (words live : List ℕ) (implied : List (List ℕ)) (s : PropagationState) → StateIsConsistent s → length s.trail.starts ≡ 0 → UnitsHaveNoReason s → ReasonsAreUnit words live implied s 0
turns_of_units words live implied s h n x i le b =
    subst (λ (r : Reason). ReasonImplies words live implied s i r) (sym (x i b (omega (arith, (h.levels i b).within)))) tt

-- a true literal is a unit taken off the trail if its depth says so
pub removed_by : (s : PropagationState) (l : ℕ) → StateIsConsistent s → IsTrueLit s.values l → (node s l).depth ≡ 4294967295 → IsRemovedUnit s l
removed_by s l h holds d = elim (h.known l holds) [
  | inl x ↦
      let e : x.place + 1 ≡ 4294967295 = sym (h.depths x.place x.within) ∙ ap (λ m. (node s m).depth) x.there ∙ d in
      absurd (omega (arith, x.within, h.trail.fits, h.trail.small))
  | inr x ↦ x
]

-- the state in which a unit taken off the trail has no value
abbrev pub dropped : ℕ → PropagationState → PropagationState
dropped l s = record s { values = set s.values (variable l) None }

some_same : (x y : Bool) → Some x ≡ Some y → x ≡ y
some_same x y e = cc

-- different true literals have different variables
other_variable : (s : PropagationState) (l m : ℕ) → IsTrueLit s.values l → IsTrueLit s.values m → m ≢ l → variable m ≢ variable l
other_variable s l m f g n e = n (lit_from_parts m l e (some_same (is_positive m) (is_positive l) (sym g ∙ ap (λ v. value_of s.values v) e ∙ f)))

dropped_true : (s : PropagationState) (l m : ℕ) → variable l < length s.values → IsTrueLit (dropped l s).values m → (variable m ≢ variable l) × IsTrueLit s.values m
dropped_true s l m below h = elim (cases_eq (variable m) (variable l)) [
  | inl e ↦ absurd (some_none h (ap (λ v. value_of (set s.values (variable l) None) v) e ∙ get_or-set_same s.values (variable l) None None below))
  | inr n ↦ (n, sym (get_or-set_other s.values (variable l) (variable m) None None n) ∙ h)
]

-- no literal on the trail has the variable of a unit taken off it
pub apart_removed : (s : PropagationState) (l i : ℕ) → StateIsConsistent s → IsRemovedUnit s l → i < length s.trail.lits → variable (lit_at s i) ≢ variable l
apart_removed s l i h x b e =
    let d : i + 1 ≡ 4294967295 = sym (h.depths i b) ∙ ap (λ v. (node_of s.nodes v).depth) e ∙ x.depth in
    omega (arith, h.trail.fits, h.trail.small)

pub agrees_dropped : (s : PropagationState) (l : ℕ) → StateIsConsistent s → IsRemovedUnit s l → StateIsConsistent (dropped l s)
agrees_dropped s l h x =
    let size : length (set s.values (variable l) None) ≡ length s.values = length-set s.values (variable l) None in
    let below : variable l < length s.values = below_from_value s.values (variable l) _ x.holds in
    record {
      trail = h.trail;
      nodes = h.nodes ∙ sym size;
      room = omega (arith, h.room);
      holds = λ i b. get_or-set_other s.values (variable l) (variable (lit_at s i)) None None (apart_removed s l i h x b) ∙ h.holds i b;
      depths = h.depths;
      levels = h.levels;
      known = λ m holds. elim (h.known m (dropped_true s l m below holds).1) [
        | inl y ↦ inl (record { place = y.place; before = y.before; within = y.within; there = y.there })
        | inr y ↦ inr (record { holds = holds; depth = y.depth; bottom = y.bottom })
      ];
    }

-- a unit is put back: true literals stay true, and it is in the queue
pub again_true : (s : PropagationState) (l m : ℕ) → StateIsConsistent s → IsRemovedUnit s l → IsTrueLit s.values m → IsTrueLit (enqueued l NoCause (dropped l s)).values m
again_true s l m h x holds =
    let below : variable l < length s.values = below_from_value s.values (variable l) _ x.holds in
    let size : length (set s.values (variable l) None) ≡ length s.values = length-set s.values (variable l) None in
    elim (cases_eq m l) [
      | inl e ↦ subst (λ z. IsTrueLit (enqueued l NoCause (dropped l s)).values z) (sym e) (true_new (dropped l s) l NoCause (omega arith))
      | inr n ↦
          let d : variable m ≢ variable l = other_variable s l m x.holds holds n in
          get_or-set_other (set s.values (variable l) None) (variable l) (variable m) (Some (is_positive l)) None d ∙ get_or-set_other s.values (variable l) (variable m) None None d ∙ holds
    ]

-- if a unit goes back to the trail, the true literals are the unit and those of other variables that were true
pub again_back : (s : PropagationState) (l m : ℕ) → IsRemovedUnit s l → IsTrueLit (enqueued l NoCause (dropped l s)).values m → (m ≡ l) ⊎ ((variable m ≢ variable l) × IsTrueLit s.values m)
again_back s l m x holds =
    let below : variable l < length s.values = below_from_value s.values (variable l) _ x.holds in
    let size : length (set s.values (variable l) None) ≡ length s.values = length-set s.values (variable l) None in
    elim (true_back (dropped l s) l m NoCause (omega arith) holds) [
      | inl e ↦ inl e
      | inr y ↦ inr (dropped_true s l m below y.1)
    ]

again_open : (s : PropagationState) (l v : ℕ) → IsRemovedUnit s l → value_of (enqueued l NoCause (dropped l s)).values v ≡ None → value_of s.values v ≡ None
again_open s l v x none =
    let below : variable l < length s.values = below_from_value s.values (variable l) _ x.holds in
    let size : length (set s.values (variable l) None) ≡ length s.values = length-set s.values (variable l) None in
    elim (cases_eq v (variable l)) [
      | inl e ↦ absurd (some_none (ap (λ z. value_of (enqueued l NoCause (dropped l s)).values z) e ∙ true_new (dropped l s) l NoCause (omega arith)) none)
      | inr d ↦ sym (get_or-set_other s.values (variable l) v None None d) ∙ sym (get_or-set_other (set s.values (variable l) None) (variable l) v (Some (is_positive l)) None d) ∙ none
    ]

pub again_level : (s : PropagationState) (l m : ℕ) → StateIsConsistent s → IsRemovedUnit s l → length s.trail.starts ≡ 0 → level (enqueued l NoCause (dropped l s)) m ≡ level s m
again_level s l m h x n = elim (cases_eq (variable m) (variable l)) [
  | inl e ↦
      let below : variable l < length s.values = below_from_value s.values (variable l) _ x.holds in
      ap (λ v. (node_of (enqueued l NoCause (dropped l s)).nodes v).level) e ∙ ap (λ (z : ImplNode). z.level) (node_new (dropped l s) l NoCause (omega (arith, h.nodes)))
      ∙ n ∙ sym x.bottom ∙ ap (λ v. (node_of s.nodes v).level) (sym e)
  | inr d ↦ ap (λ (z : ImplNode). z.level) (get_or-set_other s.nodes (variable l) (variable m) (enqueued_node s.trail NoCause) new_node d)
]

-- then every literal that has left the queue had left it before, and is not the unit
pub again_left : (s : PropagationState) (l m : ℕ) → StateIsConsistent s → IsRemovedUnit s l → HasLeftQueue (enqueued l NoCause (dropped l s)) m → HasLeftQueue s m × (m ≢ l)
again_left s l m h x left =
    let t : PropagationState = enqueued l NoCause (dropped l s) in
    let below : variable l < length s.values = below_from_value s.values (variable l) _ x.holds in
    let new : (node (enqueued l NoCause (dropped l s)) l).depth ≡ length s.trail.lits + 1 = ap (λ (z : ImplNode). z.depth) (node_new (dropped l s) l NoCause (omega (arith, h.nodes))) in
    elim left [
      | inl y ↦
          let b : y.place < length s.trail.lits = omega (arith, y.before, h.trail.queue) in
          let there : lit_at s y.place ≡ m = sym (lit_front (dropped l s) l NoCause y.place b) ∙ y.there in (
            inl (record { place = y.place; before = y.before; within = b; there = there }),
            λ e. apart_removed s l y.place h x b (ap (λ z. variable z) (there ∙ e)),
          )
      | inr y ↦
          let n : m ≢ l = λ e. (let d : length s.trail.lits + 1 ≡ 4294967295 = sym new ∙ ap (λ z. (node t z).depth) (sym e) ∙ y.depth in omega (arith, h.trail.fits, h.trail.small)) in
          elim (again_back s l m x y.holds) [
            | inl e ↦ absurd (n e)
            | inr z ↦
                let same : node t m ≡ node s m = get_or-set_other s.nodes (variable l) (variable m) (enqueued_node s.trail NoCause) new_node z.0 in
                (inr (record { holds = z.1; depth = sym (ap (λ (k : ImplNode). k.depth) same) ∙ y.depth; bottom = sym (ap (λ (k : ImplNode). k.level) same) ∙ y.bottom }), n)
          ]
    ]

-- putting a unit back into the queue preserves the invariant between rounds
pub sound_again : (words : List ℕ) (db : Db) (w : WatchState) (b : Binaries) (a : Values) (g : List ImplNode) (t : TrailState) (q : Queue) (l : ℕ) →
    RoundInvariant words db w b a g t q → t.starts ≡ [] → IsRemovedUnit (state_of a g t) l →
    RoundInvariant words db w b (with_restored_unit l a) (with_node (variable l) (enqueued_node t NoCause) g) (with_lit l t) q
sound_again words db w b a g t q l h e x =
    let s : PropagationState = state_of a g t in
    let u : PropagationState = dropped l s in
    let s' : PropagationState = enqueued l NoCause (dropped l (state_of a g t)) in
    let y : PartsInvariantBelow words db w b a g t q (length t.starts + 1) = h.below in
    let old : StateIsConsistent (state_of a g t) = y.propagation.agrees in
    let below : variable l < length a.current = below_from_value a.current (variable l) _ x.holds in
    let one : length (set a.current (variable l) None) ≡ length a.current = length-set a.current (variable l) None in
    let two : length (set (set a.current (variable l) None) (variable l) (Some (is_positive l))) ≡ length (set a.current (variable l) None) = length-set (set a.current (variable l) None) (variable l) (Some (is_positive l)) in
    let size : length (with_restored_unit l a).current ≡ length a.current = two ∙ one in
    let n : length t.starts ≡ 0 = no_starts t e in
    let free : IsUnassignedLit (dropped l (state_of a g t)).values l = get_or-set_same a.current (variable l) None None below in
    let mid : StateIsConsistent (dropped l (state_of a g t)) = agrees_dropped s l old x in
    let agrees : StateIsConsistent (enqueued l NoCause (dropped l (state_of a g t))) = agrees_enqueued u l NoCause mid free (omega arith) (room_for u l NoCause mid free (omega arith)) in
    let longer : length (t.lits ++ l ∷ []) ≡ length t.lits + 1 = length_push t.lits l in
    let satisfied : (ls : List ℕ) (bound bound' : ℕ) → bound ≤ bound' → IsSatisfied s ls bound → IsSatisfied s' ls bound' = λ ls bound bound' le z. record {
      place = z.place;
      within = z.within;
      holds = again_true s l (get_or ls z.place 0) old x z.holds;
      low = omega (arith, z.low, again_level s l (get_or ls z.place 0) old x n);
    } in
    let units : UnitsHaveNoReason (enqueued l NoCause (dropped l (state_of a g t))) = units_enqueued u l NoCause mid free (omega arith) (λ f. refl) h.units in
    record {
      below = record {
        db_matches = y.db_matches;
        propagation = record {
          holds_clauses = y.propagation.holds_clauses;
          clauses = subst (λ (k : ℕ). AreLongClauses words (live_refs words db.refs) k) (sym size) y.propagation.clauses;
          room = y.propagation.room ∙ ap (λ k. 2 * k) (sym size);
          watches = λ on. subst (λ (k : ℕ). AreWatched words (live_refs words db.refs) w.lists k) (sym size) (y.propagation.watches on);
          agrees = agrees;
          queue = λ i le lt. (let z : level s' (lit_at s' i) ≤ length t.starts = (agrees.levels i lt).within in omega arith);
          firsts = λ i o lt f. absurd (no_long o (sym (units i lt (omega (arith, (agrees.levels i lt).within))) ∙ f));
          settled = λ o i c hi left d.
              let m : ℕ = negated (lit_of words o i) in
              let same : level s' (negated (lit_of words o i)) ≡ level s (negated (lit_of words o i)) = again_level s l (negated (lit_of words o i)) old x n in
              satisfied (lits_at words o) (level s m) (level s' m) (omega arith) (y.propagation.settled o i c hi (again_left s l (negated (lit_of words o i)) old x left).0 (omega (arith, d)));
          ranges = subst (λ (k : ℕ). AreImpliedLists b.implied k) (sym size) y.propagation.ranges;
          binary = λ p k left d lt.
              let same : level s' p ≡ level s p = again_level s l p old x n in
              let z = y.propagation.binary p k (again_left s l p old x left).0 (omega (arith, d)) lt in
              (again_true s l (get_or (implied_by b.implied p) k 0) old x z.0, omega (arith, z.1, again_level s l (get_or (implied_by b.implied p) k 0) old x n));
        };
        reasons = turns_of_units words (live_refs words db.refs) b.implied s' agrees n units;
        levelled = levels_stay.none s' e;
        queue = y.queue ∙ sym size;
        ready = λ v lt none. y.ready v (omega arith) (again_open s l v x none);
      };
      units = units;
      base = record { above = λ some. absurd (omega arith); bottom = h.base.bottom };
    }

pub again_values : (s : PropagationState) (l v : ℕ) → IsRemovedUnit s l → value_of (enqueued l NoCause (dropped l s)).values v ≡ value_of s.values v
again_values s l v x =
    let below : variable l < length s.values = below_from_value s.values (variable l) _ x.holds in
    let size : length (set s.values (variable l) None) ≡ length s.values = length-set s.values (variable l) None in
    elim (cases_eq v (variable l)) [
      | inl e ↦ ap (λ z. value_of (enqueued l NoCause (dropped l s)).values z) e ∙ true_new (dropped l s) l NoCause (omega arith) ∙ sym (ap (λ z. value_of s.values z) e ∙ x.holds)
      | inr d ↦ get_or-set_other (set s.values (variable l) None) (variable l) v (Some (is_positive l)) None d ∙ get_or-set_other s.values (variable l) v None None d
    ]

pub again_size : (s : PropagationState) (l : ℕ) → length (enqueued l NoCause (dropped l s)).values ≡ length s.values
again_size s l = length-set (set s.values (variable l) None) (variable l) (Some (is_positive l)) ∙ length-set s.values (variable l) None
