-- Binary trees of flags, each in one list.
use Rattle.std.proofs.Common.{ℕ, zero, suc, ◌+◌, ◌-◌, ◌*◌, ◌/◌, ◌<◌, ◌≤◌, ◌≡◌, ◌≢◌, Bool, true, false, ◌||◌, cond, eqb, List, [], ◌∷◌, ◌++◌, take, replicate, length, get_or, refl, sym, ◌∙◌, ap, subst, arith, inl, inr}
use Rattle.std.proofs.lemmas.Bool.{eqb-true, eqb-false, eq-eqb, ne_eqb, true≢false, or_left, or_right, cases_eq, cases_lt}
use Rattle.std.proofs.lemmas.List.{get_or_past, get_or_append_left, get_or-append_right, take_all}
use Rattle.sat_base.specs.values.Literals.{var_limit}
use Rattle.sat_solver.specs.variables.Free.{tree_node_at, is_free, doubled, HasPowerOfTwoLeaves, empty, power, IsTree, IsChild, IsLowest, CopiesLeaves, IsCounted}
use Rattle.sat_solver.specs.declared.variables.free.FreeIndices.{FreeIndices}
use Rattle.sat_solver.specs.variables.Counting.{count_to}
use Rattle.sat_solver.proofs.lemmas.variables.Counts.{count_zero, count_same, count_reach, count_changed, count_some, count_le}

-- POWERS OF TWO

pub doubled_zero : doubled 0 ≡ 1
unfolding doubled
doubled_zero = refl

pub doubled_suc : (h : ℕ) → doubled (suc h) ≡ 2 * doubled h
unfolding doubled
doubled_suc h = refl

pub doubled_more : (h : ℕ) → doubled (h + 1) ≡ 2 * doubled h
doubled_more h = ap doubled (let e : h + 1 ≡ suc h = omega arith in e) ∙ doubled_suc h

-- every number is below its power of 2
pub below_doubled : (h : ℕ) → h < doubled h
below_doubled zero = let e = doubled_zero in omega arith
below_doubled (suc h) = let e = doubled_suc h in let ih = below_doubled h in omega arith

doubled_rises : (h k : ℕ) → doubled h ≤ doubled (h + k)
doubled_rises h zero = subst (λ x. doubled h ≤ doubled x) (let e : h ≡ h + 0 = omega arith in e) (omega arith)
doubled_rises h (suc k) = let ih = doubled_rises h k in let e : doubled (h + suc k) ≡ 2 * doubled (h + k) = ap doubled (let q : h + suc k ≡ suc (h + k) = omega arith in q) ∙ doubled_suc (h + k) in omega arith

pub doubled_le : (h k : ℕ) → h ≤ k → doubled h ≤ doubled k
doubled_le h k le = subst (λ x. doubled h ≤ doubled x) (let e : h + (k - h) ≡ k = omega arith in e) (doubled_rises h (k - h))

doubled_largest : doubled 28 ≡ var_limit
unfolding doubled
doubled_largest = refl

-- below the limit there is room for one more level
pub doubled_small : (h : ℕ) → doubled h < var_limit → 2 * doubled h ≤ var_limit
doubled_small h lt = elim (cases_lt h 28) [
  | inl low ↦ let e = doubled_suc h in let le = doubled_le (suc h) 28 (omega arith) in let l = doubled_largest in omega arith
  | inr high ↦ let le = doubled_le 28 h high in let l = doubled_largest in absurd (omega arith)
]

-- ANCESTORS OF A NODE

pub up : ℕ → ℕ → ℕ
up zero l = l
up (suc h) l = up h (l / 2)

up_zero : (l : ℕ) → up 0 l ≡ l
unfolding up
up_zero l = refl

up_suc : (h l : ℕ) → up (suc h) l ≡ up h (l / 2)
unfolding up
up_suc h l = refl

up_next : (h l : ℕ) → up (suc h) l ≡ up h l / 2
up_next zero l = up_suc 0 l ∙ up_zero (l / 2) ∙ ap (λ x. x / 2) (sym (up_zero l))
up_next (suc h) l = up_suc (suc h) l ∙ up_next h (l / 2) ∙ ap (λ x. x / 2) (sym (up_suc h l))

up_root : (h l : ℕ) → doubled h ≤ l → l < 2 * doubled h → up h l ≡ 1
up_root zero l a b = let e = doubled_zero in up_zero l ∙ omega arith
up_root (suc h) l a b = let e = doubled_suc h in up_suc h l ∙ up_root h (l / 2) (omega arith) (omega arith)

-- every ancestor of a set node is set
ancestor : (f : FreeIndices) → IsTree f → (h l : ℕ) → tree_node_at f.nodes.items l ≡ true → l < 2 * f.room → 0 < up h l → tree_node_at f.nodes.items (up h l) ≡ true
ancestor f tree zero l e lt pos = ap (tree_node_at f.nodes.items) (up_zero l) ∙ e
ancestor f tree (suc h) l e lt pos = ap (tree_node_at f.nodes.items) (up_suc h l) ∙ ancestor f tree h (l / 2) here (omega arith) (subst (λ x. 0 < x) (up_suc h l) pos)
  where
    zero_up : (k : ℕ) → up k 0 ≡ 0
    zero_up zero = up_zero 0
    zero_up (suc k) = up_suc k 0 ∙ zero_up k

    some : 0 < l / 2
    some = elim (cases_eq (l / 2) 0) [ inl z ↦ (let q : up (suc h) l ≡ 0 = up_suc h l ∙ ap (up h) z ∙ zero_up h in absurd (omega arith)) | inr n ↦ omega arith ]

    here : tree_node_at f.nodes.items (l / 2) ≡ true
    here = tree.inner (l / 2) some (omega arith) ∙ either
      where
        either : (tree_node_at f.nodes.items (2 * (l / 2)) || tree_node_at f.nodes.items (2 * (l / 2) + 1)) ≡ true
        either = elim (cases_eq l (2 * (l / 2))) [
          | inl even ↦ or_left (tree_node_at f.nodes.items (2 * (l / 2))) (tree_node_at f.nodes.items (2 * (l / 2) + 1)) (ap (tree_node_at f.nodes.items) (sym even) ∙ e)
          | inr odd ↦ or_right (tree_node_at f.nodes.items (2 * (l / 2))) (tree_node_at f.nodes.items (2 * (l / 2) + 1)) (ap (tree_node_at f.nodes.items) (let q : 2 * (l / 2) + 1 ≡ l = omega arith in q) ∙ e)
        ]

-- NOTHING IS FREE

bool_false : (b : Bool) → (b ≡ true → ⊥) → b ≡ false
bool_false true f = absurd (f refl)
bool_false false f = refl

past : (f : FreeIndices) (i : ℕ) → IsTree f → f.room ≤ i → is_free f i ≡ false
past f i tree le = let s = tree.size in get_or_past f.nodes.items (f.room + i) false (omega arith)

pub none_empty : (f : FreeIndices) → IsTree f → f.room ≡ 0 → (i : ℕ) → is_free f i ≡ false
none_empty f tree e i = past f i tree (omega arith)

pub none_root : (f : FreeIndices) → IsTree f → f.room ≡ doubled f.height → tree_node_at f.nodes.items 1 ≡ false → (i : ℕ) → is_free f i ≡ false
none_root f tree p e i = elim (cases_lt i f.room) [
  | inl lt ↦ bool_false (is_free f i) (λ t.
      let root : up f.height (f.room + i) ≡ 1 = up_root f.height (f.room + i) (omega arith) (omega arith) in
      true≢false (sym (ap (tree_node_at f.nodes.items) (sym root) ∙ ancestor f tree f.height (f.room + i) t (omega arith) (omega arith)) ∙ e))
  | inr le ↦ past f i tree le
]

-- THE WAY DOWN

-- the node has a free index below it, and no leaf to its left is free
pub record Descends (f : FreeIndices) (level at : ℕ) : Type 0 where
  pub tree : IsTree f
  pub full : f.room ≡ doubled f.height
  pub depth : level ≤ f.height
  pub low : doubled level ≤ at
  pub high : at < 2 * doubled level
  pub holds : tree_node_at f.nodes.items at ≡ true
  pub left : (l : ℕ) → f.room ≤ l → l < 2 * f.room → up (f.height - level) l < at → tree_node_at f.nodes.items l ≡ false

pub at_root : (f : FreeIndices) → IsTree f → f.room ≡ doubled f.height → tree_node_at f.nodes.items 1 ≡ true → Descends f 0 1
at_root f tree p e = record {
  tree = tree;
  full = p;
  depth = omega arith;
  low = let z = doubled_zero in omega arith;
  high = let z = doubled_zero in omega arith;
  holds = e;
  left = λ l a b lt. let r : up (f.height - 0) l ≡ 1 = ap (λ k. up k l) (let z : f.height - 0 ≡ f.height = omega arith in z) ∙ up_root f.height l (omega arith) (omega arith) in absurd (omega arith);
}

pub goes_down : (f : FreeIndices) (level at child : ℕ) → Descends f level at → level < f.height → IsChild f.nodes.items at child → Descends f (level + 1) child
goes_down f level at child d lt c = record {
  tree = d.tree;
  full = d.full;
  depth = omega arith;
  low = elim c.is [ inl e ↦ (let z = doubled_more level in let a = d.low in omega arith) | inr e ↦ (let z = doubled_more level in let a = d.low in let q = e.0 in omega arith) ];
  high = elim c.is [ inl e ↦ (let z = doubled_more level in let a = d.high in omega arith) | inr e ↦ (let z = doubled_more level in let a = d.high in let q = e.0 in omega arith) ];
  holds = c.holds;
  left = left;
}
  where
    h : ℕ
    h = f.height - (level + 1)

    above : (l : ℕ) → up (f.height - level) l ≡ up (f.height - (level + 1)) l / 2
    above l = ap (λ k. up k l) (let e : f.height - level ≡ suc (f.height - (level + 1)) = omega arith in e) ∙ up_next (f.height - (level + 1)) l

    left : (l : ℕ) → f.room ≤ l → l < 2 * f.room → up (f.height - (level + 1)) l < child → tree_node_at f.nodes.items l ≡ false
    left l a b u = elim (cases_lt (up (f.height - (level + 1)) l / 2) at) [
      | inl low ↦ d.left l a b (subst (λ x. x < at) (sym (above l)) low)
      | inr high ↦ elim c.is [
        | inl e ↦ absurd (omega arith)
        | inr e ↦
            (let q = e.0 in
            let same : up (f.height - (level + 1)) l ≡ 2 * at = omega arith in
            let pos = d.low in
            let z = below_doubled level in
            bool_false (tree_node_at f.nodes.items l) (λ t. true≢false (sym (ancestor f d.tree (f.height - (level + 1)) l t b (omega arith)) ∙ ap (tree_node_at f.nodes.items) same ∙ e.1)))
      ]
    ]

pub inner : (f : FreeIndices) (level at : ℕ) → Descends f level at → level < f.height → at < f.room
inner f level at d lt = let a = d.high in let e = doubled_more level in let m = doubled_le (level + 1) f.height (omega arith) in let r = d.full in omega arith

-- a child of a set node is set
pub some_below : (f : FreeIndices) (level at : ℕ) → Descends f level at → level < f.height → (tree_node_at f.nodes.items (2 * at) || tree_node_at f.nodes.items (2 * at + 1)) ≡ true
some_below f level at d lt = sym (d.tree.inner at (let a = d.low in let z = below_doubled level in omega arith) (inner f level at d lt)) ∙ d.holds

pub small : (f : FreeIndices) → IsTree f → f.room ≤ var_limit
small f tree = go tree.powers
  where
    go : HasPowerOfTwoLeaves f → f.room ≤ var_limit
    go (empty e) = omega arith
    go (power e l) = l

pub full : (f : FreeIndices) → IsTree f → (f.room ≡ 0 → ⊥) → f.room ≡ doubled f.height
full f tree n = go tree.powers
  where
    go : HasPowerOfTwoLeaves f → f.room ≡ doubled f.height
    go (empty e) = absurd (n e)
    go (power e l) = e

pub leaf_place : (f : FreeIndices) (level at : ℕ) → Descends f level at → f.height ≤ level → (f.room ≤ at) × (at < 2 * f.room)
leaf_place f level at d le =
    let s : doubled level ≡ doubled f.height = ap doubled (let a = d.depth in let q : level ≡ f.height = omega arith in q) in
    let a = d.low in let b = d.high in let r = d.full in
    (omega arith, omega arith)

pub arrives : (f : FreeIndices) (level at i : ℕ) → Descends f level at → f.height ≤ level → i ≡ at - f.room → IsLowest f i
arrives f level at i d le e = let p = leaf_place f level at d le in let p0 = p.0 in let p1 = p.1 in record {
  free = ap (tree_node_at f.nodes.items) (let q : f.room + i ≡ at = omega arith in q) ∙ d.holds;
  lowest = λ k lt. d.left (f.room + k) (omega arith) (omega arith) (let u : up (f.height - level) (f.room + k) ≡ f.room + k = ap (λ x. up x (f.room + k)) (let z : f.height - level ≡ 0 = omega arith in z) ∙ up_zero (f.room + k) in omega arith);
}

pub lowest_fits : (f : FreeIndices) (level at : ℕ) → Descends f level at → f.height ≤ level → at - f.room < var_limit
lowest_fits f level at d le = let p = leaf_place f level at d le in let p0 = p.0 in let p1 = p.1 in let s = small f d.tree in omega arith

pub child_within : (f : FreeIndices) (level at : ℕ) → Descends f level at → level < f.height → 2 * at + 1 < length f.nodes.items
child_within f level at d lt = let a = inner f level at d lt in let s = d.tree.size in omega arith

-- THE NUMBER OF FREE INDICES

-- an empty tree
pub tree_none : (f : FreeIndices) → f.nodes.items ≡ [] → f.room ≡ 0 → f.count ≡ 0 → IsTree f
tree_none f nodes room count = record {
  size = let s = ap (λ (xs : List Bool). length xs) nodes in omega arith;
  powers = empty room;
  counted = count ∙ sym (ap (λ r. count_to r (is_free f)) room ∙ count_zero (is_free f));
  inner = λ q pos lt. absurd (omega arith);
}

-- if an index is free, the count is positive
pub some_counted : (f : FreeIndices) (index : ℕ) → IsTree f → index < f.room → is_free f index ≡ true → 0 < f.count
some_counted f index tree lt e = let s = count_some f.room index (is_free f) lt e in let c = tree.counted in omega arith

pub counted_small : (f : FreeIndices) → IsTree f → f.count ≤ var_limit
counted_small f tree = let l = count_le f.room (is_free f) in let c = tree.counted in let s = small f tree in omega arith

-- A LEAF CHANGES

-- the leaf has this value, and every inner node except the parent of `at` follows from its children
pub record Mends (room : ℕ) (first nodes : List Bool) (leaf : ℕ) (value : Bool) (at : ℕ) : Type 0 where
  pub size : length nodes ≡ length first
  pub leaves : (l : ℕ) → room ≤ l → tree_node_at nodes l ≡ cond (eqb l leaf) value (tree_node_at first l)
  pub inner : (q : ℕ) → 0 < q → q < room → q ≢ at / 2 → tree_node_at nodes q ≡ (tree_node_at nodes (2 * q) || tree_node_at nodes (2 * q + 1))
  pub some : 0 < at
  pub within : at < 2 * room

pub mended : (f g : FreeIndices) (index : ℕ) (value : Bool) (at : ℕ) → IsTree f → index < f.room → g.room ≡ f.room → g.height ≡ f.height → g.count + cond (is_free f index) 1 0 ≡ f.count + cond value 1 0 → Mends f.room f.nodes.items g.nodes.items (f.room + index) value at → at ≤ 1
    → IsTree g × ((i : ℕ) → is_free g i ≡ cond (eqb i index) value (is_free f i))
mended f g index value at tree lt room height count m le = (
  record {
    size = m.size ∙ tree.size ∙ ap (λ r. 2 * r) (sym room);
    powers = powers tree.powers;
    counted = counted;
    inner = λ q pos lt. m.inner q pos (omega arith) (let s = m.some in omega arith);
  },
  free,
)
  where
    powers : HasPowerOfTwoLeaves f → HasPowerOfTwoLeaves g
    powers (empty e) = empty (room ∙ e)
    powers (power e l) = power (room ∙ e ∙ ap doubled (sym height)) (omega arith)

    same : (i : ℕ) → eqb (f.room + i) (f.room + index) ≡ eqb i index
    same i = go (eqb i index) refl
      where
        go : (b : Bool) → eqb i index ≡ b → eqb (f.room + i) (f.room + index) ≡ b
        go true e = let q = eqb-true i index e in eq-eqb (f.room + i) (f.room + index) (omega arith)
        go false e = ne_eqb (f.room + i) (f.room + index) (λ q. eqb-false i index e (omega arith))

    free : (i : ℕ) → is_free g i ≡ cond (eqb i index) value (is_free f i)
    free i = ap (λ r. tree_node_at g.nodes.items (r + i)) room ∙ m.leaves (f.room + i) (omega arith) ∙ ap (λ b. cond b value (is_free f i)) (same i)

    counted : IsCounted g
    counted =
        let c : count_to f.room (is_free g) + cond (is_free f index) 1 0 ≡ count_to f.room (is_free f) + cond (is_free g index) 1 0 =
        count_changed f.room index (is_free f) (is_free g) lt (λ k ne. free k ∙ ap (λ b. cond b value (is_free f k)) (ne_eqb k index ne)) in
        let e : ◌≡◌ {A = ℕ} (cond (is_free g index) 1 0) (cond value 1 0) = ap (λ (b : Bool). cond b 1 0) (free index ∙ ap (λ b. cond b value (is_free f index)) (eq-eqb index index refl)) in
        let d = tree.counted in
        let all : g.count ≡ count_to f.room (is_free g) = omega arith in
        all ∙ ap (λ r. count_to r (is_free g)) (sym room)

-- if the parent already follows from its children, the whole tree is up to date
pub mended_early : (room : ℕ) (first nodes : List Bool) (leaf : ℕ) (value : Bool) (at : ℕ) → Mends room first nodes leaf value at → 1 < at → tree_node_at nodes (at / 2) ≡ (tree_node_at nodes (2 * (at / 2)) || tree_node_at nodes (2 * (at / 2) + 1)) → Mends room first nodes leaf value 1
mended_early room first nodes leaf value at m more fresh = record {
  size = m.size;
  leaves = m.leaves;
  inner = λ q pos lt ne. elim (cases_eq q (at / 2)) [
    | inl e ↦ subst (λ z. tree_node_at nodes z ≡ (tree_node_at nodes (2 * z) || tree_node_at nodes (2 * z + 1))) (sym e) fresh
    | inr n ↦ m.inner q pos lt n
  ];
  some = omega arith;
  within = let w = m.within in omega arith;
}

-- ALL NODES ARE RECOMPUTED

-- leaves are unchanged, and inner nodes from `from` on follow from their children
pub record Renews (room : ℕ) (first nodes : List Bool) (from : ℕ) : Type 0 where
  pub size : length nodes ≡ length first
  pub leaves : (l : ℕ) → room ≤ l → tree_node_at nodes l ≡ tree_node_at first l
  pub inner : (q : ℕ) → from ≤ q → 0 < q → q < room → tree_node_at nodes q ≡ (tree_node_at nodes (2 * q) || tree_node_at nodes (2 * q + 1))

-- LEAVES ARE MOVED

-- in a list of twice the length the same indices are free
pub grown : (f g h : FreeIndices) (wide : List Bool) → IsTree f → f.room ≡ doubled f.height → length wide ≡ 4 * f.room → ((q : ℕ) → tree_node_at wide q ≡ tree_node_at f.nodes.items q) → CopiesLeaves wide g.nodes.items f.room → g.room ≡ 2 * f.room → ((i : ℕ) → is_free h i ≡ is_free g i) → (i : ℕ) → is_free h i ≡ is_free f i
grown f g h wide tree p size same c room leaves i = leaves i ∙ ap (λ r. tree_node_at g.nodes.items (r + i)) room ∙ elim (cases_lt i f.room) [
  | inl lt ↦ c.there i lt ∙ same (f.room + i)
  | inr le ↦ c.kept (2 * f.room + i) (omega arith) ∙ same (2 * f.room + i) ∙ get_or_past f.nodes.items (2 * f.room + i) false (let s = tree.size in omega arith) ∙ sym (get_or_past f.nodes.items (f.room + i) false (let s = tree.size in omega arith))
]

pub grown_powers : (f g : FreeIndices) → IsTree f → (f.room ≡ 0 → ⊥) → f.room < var_limit → g.room ≡ 2 * f.room → g.height ≡ f.height + 1 → HasPowerOfTwoLeaves g
grown_powers f g tree n lt room height =
    let p = full f tree n in
    let s = doubled_small f.height (omega arith) in
    let d = doubled_more f.height in
    power (omega (arith, ap doubled height)) (omega arith)

-- growing the tree preserves the count, since no new leaf is free
pub grown_counted : (f g : FreeIndices) (wide : List Bool) → IsTree f → f.room ≡ doubled f.height → length wide ≡ 4 * f.room → ((q : ℕ) → tree_node_at wide q ≡ tree_node_at f.nodes.items q) → CopiesLeaves wide g.nodes.items f.room → g.room ≡ 2 * f.room → g.count ≡ f.count → IsCounted g
grown_counted f g wide tree p size same c room count =
    count ∙ tree.counted ∙ sym (count_reach f.room g.room (is_free f) (omega arith) (λ k le. past f k tree le))
    ∙ count_same g.room (is_free f) (is_free g) (λ i lt. sym (grown f g g wide tree p size same c room (λ k. refl) i))

-- if the count is 0, no index is free
nothing_free : (f : FreeIndices) → IsTree f → f.count ≡ 0 → (i : ℕ) → is_free f i ≡ false
nothing_free f tree e i = bool_false (is_free f i) (λ t. elim (cases_lt i f.room) [
  | inl lt ↦ absurd (let s = some_counted f i tree lt t in omega arith)
  | inr le ↦ true≢false (sym t ∙ past f i tree le)
])

nothing_above : (f : FreeIndices) → IsTree f → f.count ≡ 0 → (n q : ℕ) → 2 * f.room ≤ q + n → 0 < q → tree_node_at f.nodes.items q ≡ false
nothing_above f tree e zero q le pos = get_or_past f.nodes.items q false (let s = tree.size in omega arith)
nothing_above f tree e (suc n) q le pos = elim (cases_lt q f.room) [
  | inl lt ↦ tree.inner q pos lt ∙ ap (λ b. b || tree_node_at f.nodes.items (2 * q + 1)) (nothing_above f tree e n (2 * q) (omega arith) (omega arith)) ∙ nothing_above f tree e n (2 * q + 1) (omega arith) (omega arith)
  | inr past ↦ ap (tree_node_at f.nodes.items) (let s : q ≡ f.room + (q - f.room) = omega arith in s) ∙ nothing_free f tree e (q - f.room)
]

module _ (f g : FreeIndices) (tree : IsTree f) (some : f.room ≡ 0 → ⊥) (lt : f.room < var_limit) (size : length g.nodes.items ≡ 4 * f.room) (same : (q : ℕ) → tree_node_at g.nodes.items q ≡ tree_node_at f.nodes.items q) (room : g.room ≡ 2 * f.room) (height : g.height ≡ f.height + 1) (count : g.count ≡ f.count) (empty_set : f.count ≡ 0) where
  nothing_wide : (q : ℕ) → 0 < q → tree_node_at g.nodes.items q ≡ false
  nothing_wide q pos = same q ∙ nothing_above f tree empty_set (2 * f.room) q (omega arith) pos

  -- growing a tree without free indices leaves none free
  pub empty_same : (i : ℕ) → is_free g i ≡ is_free f i
  empty_same i = nothing_wide (g.room + i) (elim (cases_eq f.room 0) [ inl z ↦ absurd (some z) | inr n ↦ omega arith ]) ∙ sym (nothing_free f tree empty_set i)

  pub empty_grown : IsTree g
  empty_grown = record {
    size = omega arith;
    powers = grown_powers f g tree some lt room height;
    counted = count ∙ tree.counted ∙ sym (count_reach f.room g.room (is_free f) (omega arith) (λ k le. past f k tree le)) ∙ count_same g.room (is_free f) (is_free g) (λ i w. sym (empty_same i));
    inner = λ q pos w. nothing_wide q pos ∙ sym (ap (λ b. b || tree_node_at g.nodes.items (2 * q + 1)) (nothing_wide (2 * q) (omega arith)) ∙ nothing_wide (2 * q + 1) (omega arith));
  }

pub height_fits : (f : FreeIndices) → IsTree f → (f.room ≡ 0 → ⊥) → f.height < var_limit
height_fits f tree n = let p = full f tree n in let s = small f tree in let b = below_doubled f.height in omega arith

-- the first leaf is added
pub tree_one : (f g : FreeIndices) → IsTree f → f.room ≡ 0 → g.room ≡ 1 → g.height ≡ 0 → g.count ≡ f.count → length g.nodes.items ≡ 2 → ((q : ℕ) → tree_node_at g.nodes.items q ≡ tree_node_at f.nodes.items q) → IsTree g
tree_one f g tree none room height count size same = record {
  size = omega arith;
  powers = power (room ∙ sym doubled_zero ∙ ap doubled (sym height)) (omega arith);
  counted =
      count ∙ tree.counted ∙ sym (count_reach f.room g.room (is_free f) (omega arith) (λ k le. past f k tree le))
      ∙ count_same g.room (is_free f) (is_free g) (λ i lt. past f i tree (omega arith) ∙ sym (same (g.room + i) ∙ get_or_past f.nodes.items (g.room + i) false (let s = tree.size in omega arith)));
  inner = λ q pos lt. absurd (omega arith);
}

none_in : (n q : ℕ) → get_or (replicate n false) q false ≡ false
none_in zero q = refl
none_in (suc n) zero = refl
none_in (suc n) (suc q) = none_in n q

pub widened : (old new : List Bool) (count n : ℕ) → length old ≤ count → new ≡ take count old ++ replicate n false → (q : ℕ) → get_or new q false ≡ get_or old q false
widened old new count n le e q = ap (λ xs. get_or xs q false) (e ∙ ap (λ xs. xs ++ replicate n false) (take_all count old le)) ∙ elim (cases_lt q (length old)) [
  | inl lt ↦ get_or_append_left old (replicate n false) false q lt
  | inr past ↦ get_or-append_right old (replicate n false) (length old) q false refl past ∙ none_in n (q - length old) ∙ sym (get_or_past old q false past)
]

-- the default does not matter for a position in the list
default : (xs : List Bool) (i : ℕ) (x y : Bool) → i < length xs → get_or xs i x ≡ get_or xs i y
default [] i x y lt = absurd (omega arith)
default (z ∷ zs) zero x y lt = refl
default (z ∷ zs) (suc i) x y lt = default zs i x y (omega arith)

pub node_is : (f : FreeIndices) (b : Bool) → IsTree f → (f.room ≡ 0 → ⊥) → b ≡ get_or f.nodes.items 1 b → tree_node_at f.nodes.items 1 ≡ b
node_is f b tree n e = default f.nodes.items 1 false b (let s = tree.size in let r = some in omega arith) ∙ sym e
  where
    some : 0 < f.room
    some = elim (cases_eq f.room 0) [ inl z ↦ absurd (n z) | inr m ↦ omega arith ]

pub leaf_is : (f : FreeIndices) (index : ℕ) (b : Bool) → IsTree f → index < f.room → b ≡ get_or f.nodes.items (f.room + index) b → is_free f index ≡ b
leaf_is f index b tree lt e = default f.nodes.items (f.room + index) false b (let s = tree.size in omega arith) ∙ sym e
