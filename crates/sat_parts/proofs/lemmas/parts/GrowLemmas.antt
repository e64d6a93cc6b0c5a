-- Adding variables.
use Rattle.std.proofs.Common.{ℕ, ◌≡◌, ◌≢◌, ◌+◌, ◌-◌, ◌*◌, ◌<◌, ◌≤◌, inl, inr, suc, zero, List, [], ◌∷◌, ◌++◌, take, replicate, length, get_or, max, refl, sym, ap, ◌∙◌, subst, arith, false, None}
use Rattle.std.proofs.lemmas.Bool.{cases_lt}
use Rattle.std.proofs.lemmas.List.{get_or-replicate, length-replicate, get_or_past, take_all, length-append}
use Rattle.std.specs.List.{Contains}
use Rattle.sat_base.specs.values.Literals.{var_limit, variable, negated}
use Rattle.sat_store.specs.clause.Buffer.{lits_at}
use Rattle.sat_store.specs.heap.Vsids.{Queue, is_available, with_variables}
use Rattle.sat_parts.specs.declared.prop.graph.ImplNode.{ImplNode}
use Rattle.sat_parts.specs.declared.prop.graph.Reason.{Reason}
use Rattle.sat_parts.specs.declared.prop.watch.Watch.{Watch}
use Rattle.sat_parts.specs.clause.Db.{Db, live_refs}
use Rattle.sat_parts.specs.clause.Stored.{lit_of}
use Rattle.sat_parts.specs.prop.Binaries.{Binaries, implied_by, with_binary_lists}
use Rattle.sat_parts.specs.prop.Graphs.{with_nodes, new_node, node_of, has_no_clause}
use Rattle.sat_parts.specs.prop.Trails.{TrailState, IsAtLevel}
use Rattle.sat_parts.specs.prop.Values.{Values, value_of, with_var_count, IsTrueLit}
use Rattle.sat_parts.specs.prop.WatchLists.{WatchState, watches_of, no_watch, with_lists}
use Rattle.sat_parts.specs.prop.State.{PropagationState, node, level, lit_at, HasLeftQueue, IsRemovedUnit, StateIsConsistent, IsSatisfied}
use Rattle.sat_parts.specs.prop.Reasons.{ReasonImplies}
use Rattle.sat_parts.specs.prop.Ready.{state_of, AreWatched, HasWatch, IsSoundWatch}
use Rattle.sat_parts.specs.parts.Round.{PartsInvariantBelow, RoundInvariant}
use Rattle.sat_parts.specs.declared.parts.SearchState.{SearchState}
use Rattle.sat_parts.specs.parts.Whole.{SearchStateInvariant}
use Rattle.sat_parts.specs.parts.Frame.{IsUnitLit, KeepsLevelsTo, AddsVars}
use Rattle.sat_parts.proofs.lemmas.parts.TurnLemmas.{implies_by}

same_everywhere : {X : Type 0} → (m i : ℕ) (x : X) → get_or (replicate m x) i x ≡ x
same_everywhere m i x = elim (cases_lt i m) [
  | inl lt ↦ get_or-replicate m i x x lt
  | inr past ↦ (let n : length (replicate m x) ≡ m = length-replicate m x in get_or_past (replicate m x) i x (omega arith))
]

appended_reads : {X : Type 0} → (xs : List X) (m : ℕ) (x : X) (i : ℕ) → get_or (xs ++ replicate m x) i x ≡ get_or xs i x
appended_reads [] m x i = same_everywhere m i x
appended_reads (y ∷ ys) m x zero = refl
appended_reads (y ∷ ys) m x (suc i) = appended_reads ys m x i

-- a list that was extended by default values reads as before
grown_reads : {X : Type 0} → (xs : List X) (x : X) (n i : ℕ) → length xs ≤ n → get_or (take n xs ++ replicate (n - length xs) x) i x ≡ get_or xs i x
grown_reads xs x n i le = ap (λ ys. get_or (ys ++ replicate (n - length xs) x) i x) (take_all n xs le) ∙ appended_reads xs (n - length xs) x i

grown_length : {X : Type 0} → (xs : List X) (x : X) (n : ℕ) → length xs ≤ n → length (take n xs ++ replicate (n - length xs) x) ≡ n
grown_length xs x n le =
    let m : length (replicate (n - length xs) x) ≡ n - length xs = length-replicate (n - length xs) x in
    ap (λ ys. length (ys ++ replicate (n - length xs) x)) (take_all n xs le) ∙ length-append xs (replicate (n - length xs) x) ∙ omega arith

-- a literal that implies something has a list
listed : (implied : List (List ℕ)) (l k : ℕ) → k < length (implied_by implied l) → l < length implied
listed implied l k lt = elim (cases_lt l (length implied)) [
  | inl b ↦ b
  | inr past ↦ absurd (let e : length (implied_by implied l) ≡ 0 = ap (λ (xs : List ℕ). length xs) (get_or_past implied l [] past) in omega arith)
]

-- the state with n variables
abbrev pub grown : ℕ → Values → List ImplNode → TrailState → PropagationState
grown n a g t = state_of (with_var_count n a) (with_nodes n g) (record t { room = max t.room n })

value_same : (n : ℕ) (a : Values) (v : ℕ) → length a.current ≤ n → value_of (with_var_count n a).current v ≡ value_of a.current v
value_same n a v le = grown_reads a.current None n v le

node_same : (n : ℕ) (g : List ImplNode) (v : ℕ) → length g ≤ n → node_of (with_nodes n g) v ≡ node_of g v
node_same n g v le = grown_reads g new_node n v le

removed_grown : (n : ℕ) (a : Values) (g : List ImplNode) (t : TrailState) (l : ℕ) → length a.current ≤ n → length g ≤ n → IsRemovedUnit (state_of a g t) l → IsRemovedUnit (grown n a g t) l
removed_grown n a g t l le small x = record {
  holds = value_same n a (variable l) le ∙ x.holds;
  depth = ap (λ (z : ImplNode). z.depth) (node_same n g (variable l) small) ∙ x.depth;
  bottom = ap (λ (z : ImplNode). z.level) (node_same n g (variable l) small) ∙ x.bottom;
}

left_shrunk : (n : ℕ) (a : Values) (g : List ImplNode) (t : TrailState) (l : ℕ) → length a.current ≤ n → length g ≤ n → HasLeftQueue (grown n a g t) l → HasLeftQueue (state_of a g t) l
left_shrunk n a g t l le small h = elim h [
  | inl x ↦ inl (record { place = x.place; before = x.before; within = x.within; there = x.there })
  | inr x ↦ inr (record {
    holds = sym (value_same n a (variable l) le) ∙ x.holds;
    depth = sym (ap (λ (z : ImplNode). z.depth) (node_same n g (variable l) small)) ∙ x.depth;
    bottom = sym (ap (λ (z : ImplNode). z.level) (node_same n g (variable l) small)) ∙ x.bottom;
  })
]

agrees_grown : (n : ℕ) (a : Values) (g : List ImplNode) (t : TrailState) → StateIsConsistent (state_of a g t) → length a.current ≤ n → n ≤ var_limit → StateIsConsistent (grown n a g t)
agrees_grown n a g t h le top =
    let s : PropagationState = state_of a g t in
    let small : length g ≤ n = omega (arith, h.nodes) in
    let size : length (with_var_count n a).current ≡ n = grown_length a.current None n le in
    let node_at_place : (i : ℕ) → node_of (with_nodes n g) (variable (lit_at s i)) ≡ node_of g (variable (lit_at s i)) = λ i. node_same n g (variable (lit_at s i)) small in
    record {
      trail = record { queue = h.trail.queue; levels = h.trail.levels; fits = omega (arith, h.trail.fits); small = omega (arith, h.trail.small); counted = h.trail.counted };
      nodes = grown_length g new_node n small ∙ sym size;
      room = omega arith;
      holds = λ i b. value_same n a (variable (lit_at s i)) le ∙ h.holds i b;
      depths = λ i b. ap (λ (z : ImplNode). z.depth) (node_at_place i) ∙ h.depths i b;
      levels = λ i b. subst (λ (z : ImplNode). IsAtLevel t.starts i z.level) (sym (node_at_place i)) (h.levels i b);
      known = λ l x. elim (h.known l (sym (value_same n a (variable l) le) ∙ x)) [
        | inl y ↦ inl (record { place = y.place; before = y.before; within = y.within; there = y.there })
        | inr y ↦ inr (removed_grown n a g t l le small y)
      ];
    }

-- all parts get n variables
pub sound_grown : (words : List ℕ) (db : Db) (w : WatchState) (b : Binaries) (a : Values) (g : List ImplNode) (t : TrailState) (q : Queue) (n : ℕ) →
    RoundInvariant words db w b a g t q → length a.current ≤ n → n ≤ var_limit →
    RoundInvariant words db (with_lists (2 * n) w) (with_binary_lists (2 * n) b) (with_var_count n a) (with_nodes n g) (record t { room = max t.room n }) (with_variables n q)
sound_grown words db w b a g t q n h le top =
    let s : PropagationState = state_of a g t in
    let s' : PropagationState = grown n a g t in
    let y : PartsInvariantBelow words db w b a g t q (length t.starts + 1) = h.below in
    let old : StateIsConsistent (state_of a g t) = y.propagation.agrees in
    let small : length g ≤ n = omega (arith, old.nodes) in
    let size : length (with_var_count n a).current ≡ n = grown_length a.current None n le in
    let lists : (l : ℕ) → watches_of (with_lists (2 * n) w).lists l ≡ watches_of w.lists l = λ l. grown_reads w.lists [] (2 * n) l (omega (arith, y.propagation.room)) in
    let implied : (l : ℕ) → implied_by (with_binary_lists (2 * n) b).implied l ≡ implied_by b.implied l = λ l. grown_reads b.implied [] (2 * n) l (omega (arith, y.propagation.ranges.room)) in
    let node_is : (v : ℕ) → node_of (with_nodes n g) v ≡ node_of g v = λ v. node_same n g v small in
    let same_level : (l : ℕ) → level (grown n a g t) l ≡ level (state_of a g t) l = λ l. ap (λ (z : ImplNode). z.level) (node_is (variable l)) in
    let holds : (l : ℕ) → IsTrueLit a.current l → IsTrueLit (with_var_count n a).current l = λ l x. value_same n a (variable l) le ∙ x in
    let reason_is : (i : ℕ) → (node (grown n a g t) (lit_at s i)).reason ≡ (node (state_of a g t) (lit_at s i)).reason = λ i. ap (λ (z : ImplNode). z.reason) (node_is (variable (lit_at s i))) in
    let queue_size : length (q.available ++ replicate (n - length q.available) false) ≡ n =
    length-append q.available (replicate (n - length q.available) false) ∙ (let m : length (replicate (n - length q.available) false) ≡ n - length q.available = length-replicate (n - length q.available) false in omega (arith, y.queue)) in
    record {
      below = record {
        db_matches = y.db_matches;
        propagation = record {
          holds_clauses = y.propagation.holds_clauses;
          clauses = record {
            holds_clauses = y.propagation.clauses.holds_clauses;
            long = y.propagation.clauses.long;
            below = λ o k c lt. omega (arith, y.propagation.clauses.below o k c lt);
            distinct = y.propagation.clauses.distinct;
          };
          room = grown_length w.lists [] (2 * n) (omega (arith, y.propagation.room)) ∙ ap (λ k. 2 * k) (sym size);
          watches = λ on.
              let z : AreWatched words (live_refs words db.refs) w.lists (length a.current) = y.propagation.watches on in
              record {
                room = grown_length w.lists [] (2 * n) (omega (arith, y.propagation.room)) ∙ ap (λ k. 2 * k) (sym size);
                good = λ l p. subst (λ (xs : List Watch). p < length xs → IsSoundWatch words (live_refs words db.refs) (get_or xs p no_watch)) (sym (lists l)) (z.good l p);
                both = λ o i c lt. subst (λ (xs : List Watch). HasWatch xs o) (sym (lists (negated (lit_of words o i)))) (z.both o i c lt);
              };
          agrees = agrees_grown n a g t old le top;
          queue = λ i p lt. same_level (lit_at s i) ∙ y.propagation.queue i p lt;
          firsts = λ i o lt e. y.propagation.firsts i o lt (sym (reason_is i) ∙ e);
          settled = λ o i c hi left d.
              let m : ℕ = negated (lit_of words o i) in
              let z : IsSatisfied s (lits_at words o) (level s (negated (lit_of words o i))) = y.propagation.settled o i c hi (left_shrunk n a g t m le small left) (omega (arith, same_level m)) in
              record { place = z.place; within = z.within; holds = holds (get_or (lits_at words o) z.place 0) z.holds; low = omega (arith, z.low, same_level m, same_level (get_or (lits_at words o) z.place 0)) };
          ranges = record {
            room = grown_length b.implied [] (2 * n) (omega (arith, y.propagation.ranges.room)) ∙ ap (λ k. 2 * k) (sym size);
            below = λ l k. subst (λ (xs : List ℕ). k < length xs → get_or xs k 0 < 2 * length (with_var_count n a).current) (sym (implied l)) (λ lt. omega (arith, y.propagation.ranges.below l k lt));
          };
          binary = λ l k left d.
              subst (λ (xs : List ℕ). k < length xs → IsTrueLit (with_var_count n a).current (get_or xs k 0) × (level s' (get_or xs k 0) ≤ level s' l)) (sym (implied l))
              (λ lt.
              let z = y.propagation.binary l k (left_shrunk n a g t l le small left) (omega (arith, same_level l)) lt in
              (holds (get_or (implied_by b.implied l) k 0) z.0, omega (arith, z.1, same_level l, same_level (get_or (implied_by b.implied l) k 0))));
        };
        reasons = λ i p lt.
            subst (λ (r : Reason). ReasonImplies words (live_refs words db.refs) (with_binary_lists (2 * n) b).implied s' i r) (sym (reason_is i))
            (implies_by words words (live_refs words db.refs) (live_refs words db.refs) b.implied (with_binary_lists (2 * n) b).implied s s' i (node s (lit_at s i)).reason refl
            (λ m x. elim x [
              | inl z ↦ inl (record { place = z.place; before = z.before; within = z.within; there = z.there })
              | inr z ↦ inr (removed_grown n a g t (negated m) le small z)
            ])
            (λ o e c. (c, refl)) (λ ls e c. subst (λ (xs : List ℕ). Contains xs (lit_at s i)) (sym (implied (negated (get_or ls 0 0)))) c) (y.reasons i p lt));
        levelled = record {
          strict = y.levelled.strict;
          begun = y.levelled.begun;
          decided = λ k lt. ap (λ (r : Reason). has_no_clause r) (reason_is (get_or t.starts k 0)) ∙ y.levelled.decided k lt;
          caused = λ i k lt p bound none. ap (λ (r : Reason). has_no_clause r) (reason_is i) ∙ y.levelled.caused i k lt p bound none;
        };
        queue = queue_size ∙ sym size;
        ready = λ v lt none. elim (cases_lt v (length a.current)) [
          | inl was ↦ elim (y.ready v was (sym (value_same n a v le) ∙ none)) [
            | inl e ↦ inl (appended_reads q.available (n - length q.available) false v ∙ e)
            | inr u ↦ inr (record {
              long = u.long;
              binary = λ l k. subst (λ (xs : List ℕ). k < length xs → (variable l ≢ v) × (variable (get_or xs k 0) ≢ v)) (sym (implied l)) (u.binary l k);
            })
          ]
          | inr new ↦ inr (record {
            long = λ o k c less e. omega (arith, y.propagation.clauses.below o k c less);
            binary = λ l k. subst (λ (xs : List ℕ). k < length xs → (variable l ≢ v) × (variable (get_or xs k 0) ≢ v)) (sym (implied l))
                (λ less. (λ e. (let p : l < length b.implied = listed b.implied l k less in omega (arith, y.propagation.ranges.room)), λ e. omega (arith, y.propagation.ranges.below l k less)));
          })
        ];
      };
      units = λ i lt e. reason_is i ∙ h.units i lt (sym (same_level (lit_at s i)) ∙ e);
      base = record { above = h.base.above; bottom = h.base.bottom };
    }

pub grown_size : (n : ℕ) (a : Values) → length a.current ≤ n → length (with_var_count n a).current ≡ n
grown_size n a le = grown_length a.current None n le

-- no unit is new
pub grown_units : (n : ℕ) (a : Values) (g : List ImplNode) (t : TrailState) (l : ℕ) → length a.current ≤ n → length g ≤ n → IsUnitLit (grown n a g t) l → IsUnitLit (state_of a g t) l
grown_units n a g t l le small h =
    let same : node_of (with_nodes n g) (variable l) ≡ node_of g (variable l) = node_same n g (variable l) small in
    elim h [
      | inl x ↦ inl (record {
        holds = sym (value_same n a (variable l) le) ∙ x.holds;
        depth = sym (ap (λ (z : ImplNode). z.depth) same) ∙ x.depth;
        bottom = sym (ap (λ (z : ImplNode). z.level) same) ∙ x.bottom;
      })
      | inr x ↦ inr (record {
        place = x.place;
        within = x.within;
        there = x.there;
        bottom = sym (ap (λ (z : ImplNode). z.level) same) ∙ x.bottom;
        none = sym (ap (λ (z : ImplNode). has_no_clause z.reason) same) ∙ x.none;
      })
    ]

pub grown_keeps : (top n : ℕ) (a : Values) (g : List ImplNode) (t : TrailState) → length a.current ≤ n → length g ≤ n → KeepsLevelsTo top (state_of a g t) (grown n a g t)
grown_keeps top n a g t le small = record {
  low = λ l x b. (value_same n a (variable l) le ∙ x, ap (λ (z : ImplNode). z.level) (node_same n g (variable l) small));
  begun = λ j b lt. (lt, refl);
}

pub grown_picks : (n : ℕ) (q : Queue) (v : ℕ) → is_available (with_variables n q) v ≡ is_available q v
grown_picks n q v = appended_reads q.available (n - length q.available) false v

pub grown_frame : (p : SearchState) (n : ℕ) (w : WatchState) → SearchStateInvariant p → length p.assignment.current ≤ n →
    AddsVars p (record p { watchlists = w; binary = with_binary_lists (2 * n) p.binary; assignment = with_var_count n p.assignment; graph = with_nodes n p.graph; trail = record p.trail { room = max p.trail.room n }; vsids = with_variables n p.vsids }) n
grown_frame p n w h le =
    let small : length p.graph ≤ n = omega (arith, h.below.propagation.agrees.nodes) in
    record {
      size = grown_size n p.assignment le;
      values = λ v. value_same n p.assignment v le;
      picks = λ v. grown_picks n p.vsids v;
      clauses = refl;
      db = refl;
      binary = refl;
      units = λ l u. grown_units n p.assignment p.graph p.trail l le small u;
      starts = refl;
      keeps = λ top. grown_keeps top n p.assignment p.graph p.trail le small;
    }

-- a list of default values
pub nothing_reads : {X : Type 0} → (xs : List X) (n m v : ℕ) (x : X) → xs ≡ [] → get_or (take n xs ++ replicate m x) v x ≡ x
nothing_reads xs n m v x e =
    let size : length xs ≡ 0 = ap (λ (ys : List _). length ys) e in
    ap (λ ys. get_or (ys ++ replicate m x) v x) (take_all n xs (omega arith)) ∙ appended_reads xs m x v ∙ ap (λ (ys : List _). get_or ys v x) e
