-- Swapping entries, and reordering heaps.
use Rattle.std.proofs.Common.{◌≡◌, ◌≢◌, ℕ, ◌-◌, ◌/◌, ◌<◌, inl, inr, List, length, nat_eq, if◌then◌else◌, get_or, set, refl, sym, ap, ◌∙◌, arith, subst}
use Rattle.std.proofs.lemmas.Bool.{cases_eq}
use Rattle.std.proofs.lemmas.Bool.Decides.{nat_tests}
use Rattle.std.proofs.lemmas.List.{get_or-map, length-map, ext_get_or, get_or-set_same, get_or-set_other, length-set, set-get_or}
use Rattle.sat_store.specs.declared.vsids.heap.Entry.{Entry}
use Rattle.sat_store.specs.heap.Heap.{no_entry, var_at, key_at, PositionsMatch, rank, rank_at, ChildrenRankAtMost, FirstChildRanksAbove, SwapsEntries, PermutesEntries, activities_by_var}
use Rattle.sat_store.proofs.lemmas.heap.FlagLemmas.{flags_same}

-- the position where the entry at k is after i and j are swapped
abbrev pub other : ℕ → ℕ → ℕ → ℕ
other i j k = if nat_eq k i then j else if nat_eq k j then i else k

other_first : (i j k : ℕ) → k ≡ i → other i j k ≡ j
other_first i j k same = grind (arith, nat_tests)

other_second : (i j k : ℕ) → k ≡ j → other i j k ≡ i
other_second i j k same = grind (arith, nat_tests)

other_same : (i j k : ℕ) → k ≢ i → k ≢ j → other i j k ≡ k
other_same i j k far apart = grind (arith, nat_tests)

other_within : (i j k n : ℕ) → i < n → j < n → k < n → other i j k < n
other_within i j k n within_i within_j within = elim (cases_eq k i) [
  | inl same ↦ subst (λ (x : ℕ). x < n) (sym (other_first i j k same)) within_j
  | inr far ↦ elim (cases_eq k j) [
    | inl same ↦ subst (λ (x : ℕ). x < n) (sym (other_second i j k same)) within_i
    | inr apart ↦ subst (λ (x : ℕ). x < n) (sym (other_same i j k far apart)) within
  ]
]

other_twice : (i j k : ℕ) → other i j (other i j k) ≡ k
other_twice i j k = elim (cases_eq k i) [
  | inl same ↦ ap (other i j) (other_first i j k same) ∙ other_second i j j refl ∙ sym same
  | inr far ↦ elim (cases_eq k j) [
    | inl same ↦ ap (other i j) (other_second i j k same) ∙ other_first i j i refl ∙ sym same
    | inr apart ↦ ap (other i j) (other_same i j k far apart) ∙ other_same i j k far apart
  ]
]

-- `Swapped h p h' p' i j` holds if the entries at `i` and `j`, and the positions of their variables, were swapped.
pub record Swapped (h : List Entry) (p : List ℕ) (h' : List Entry) (p' : List ℕ) (i j : ℕ) : Type 0 where
  pub count : length h' ≡ length h
  pub counts : length p' ≡ length p
  pub entry : (k : ℕ) → get_or h' k no_entry ≡ get_or h (other i j k) no_entry
  pub place : (v : ℕ) → v < length h → get_or p' v 0 ≡ other i j (get_or p v 0)

swapped_placed : (h h' : List Entry) (p p' : List ℕ) (i j : ℕ) → PositionsMatch h p → i < length h → j < length h → Swapped h p h' p' i j → PositionsMatch h' p'
swapped_placed h h' p p' i j placed within_i within_j s =
    let var : (k : ℕ) → var_at h' k ≡ var_at h (other i j k) = λ k. ap (λ (e : Entry). e.var) (s.entry k) in
    record {
      count = s.count ∙ placed.count ∙ sym s.counts;
      listed = λ k small.
          let there : other i j k < length h = other_within i j k (length h) within_i within_j (omega (arith, s.count)) in
          omega (arith, s.count, var k, placed.listed (other i j k) there);
      position = λ k small.
          let there : other i j k < length h = other_within i j k (length h) within_i within_j (omega (arith, s.count)) in
          ap (λ (v : ℕ). get_or p' v 0) (var k)
          ∙ s.place (var_at h (other i j k)) (placed.listed (other i j k) there)
          ∙ ap (other i j) (placed.position (other i j k) there)
          ∙ other_twice i j k;
      placed = λ v small.
          let within : v < length h = omega (arith, s.count) in
          omega (arith, s.count, s.place v within, other_within i j (get_or p v 0) (length h) within_i within_j (placed.placed v within));
      variable = λ v small.
          let within : v < length h = omega (arith, s.count) in
          ap (var_at h') (s.place v within)
          ∙ var (other i j (get_or p v 0))
          ∙ ap (var_at h) (other_twice i j (get_or p v 0))
          ∙ placed.variable v within;
    }

pub key_of : (h : List Entry) (p : List ℕ) (v : ℕ) → v < length p → get_or (activities_by_var h p) v 0 ≡ key_at h (get_or p v 0)
key_of h p v within = get_or-map (λ k. key_at h k) p v 0 0 within

pub keys_count : (h : List Entry) (p : List ℕ) → length (activities_by_var h p) ≡ length p
keys_count h p = length-map p (λ k. key_at h k)

swapped_keys : (h h' : List Entry) (p p' : List ℕ) (i j : ℕ) → PositionsMatch h p → Swapped h p h' p' i j → activities_by_var h' p' ≡ activities_by_var h p
swapped_keys h h' p p' i j placed s =
    let count : length (activities_by_var h' p') ≡ length (activities_by_var h p) = keys_count h' p' ∙ s.counts ∙ sym (keys_count h p) in
    ext_get_or 0 (activities_by_var h' p') (activities_by_var h p) count (λ v small.
    let within : v < length p = omega (arith, keys_count h' p', s.counts) in
    key_of h' p' v (omega (arith, s.counts))
    ∙ ap (key_at h') (s.place v (omega (arith, placed.count)))
    ∙ ap (λ (e : Entry). e.key) (s.entry (other i j (get_or p v 0)))
    ∙ ap (key_at h) (other_twice i j (get_or p v 0))
    ∙ sym (key_of h p v within))

-- entries that are swapped with their positions satisfy `SwapsEntries`
pub exchanged : (h h' : List Entry) (p p' : List ℕ) (i j : ℕ) → PositionsMatch h p → i < length h → j < length h → Swapped h p h' p' i j → SwapsEntries h p h' p' i j
exchanged h h' p p' i j placed within_i within_j s =
    let rank_of : (k : ℕ) → rank_at h' k ≡ rank_at h (other i j k) = λ k. ap rank (s.entry k) in
    record {
      placed = swapped_placed h h' p p' i j placed within_i within_j s;
      count = s.count;
      ranks = record {
        first = rank_of i ∙ ap (rank_at h) (other_first i j i refl);
        second = rank_of j ∙ ap (rank_at h) (other_second i j j refl);
        others = λ k far apart. rank_of k ∙ ap (rank_at h) (other_same i j k far apart);
      };
      places = record {
        count = s.counts;
        first = λ v within at. s.place v (omega (arith, placed.count)) ∙ other_first i j (get_or p v 0) at;
        second = λ v within at. s.place v (omega (arith, placed.count)) ∙ other_second i j (get_or p v 0) at;
        others = λ v within far apart. s.place v (omega (arith, placed.count)) ∙ other_same i j (get_or p v 0) far apart;
      };
      keys = swapped_keys h h' p p' i j placed s;
    }

-- lists that read as if the entries at i and j were swapped
pub swapped : (h h' : List Entry) (p p' : List ℕ) (i j : ℕ) → PositionsMatch h p → i < length h → j < length h → length h' ≡ length h → length p' ≡ length p → get_or h' j no_entry ≡ get_or h i no_entry → (i ≢ j → get_or h' i no_entry ≡ get_or h j no_entry) → ((k : ℕ) → k ≢ i → k ≢ j → get_or h' k no_entry ≡ get_or h k no_entry) → get_or p' (var_at h i) 0 ≡ j → (var_at h j ≢ var_at h i → get_or p' (var_at h j) 0 ≡ i) → ((v : ℕ) → v ≢ var_at h i → v ≢ var_at h j → get_or p' v 0 ≡ get_or p v 0) → Swapped h p h' p' i j
swapped h h' p p' i j placed within_i within_j count counts at_j at_i at_else of_i of_j of_else =
    let there : (v k : ℕ) → v < length h → get_or p v 0 ≡ k → v ≡ var_at h k = λ v k within is. sym (placed.variable v within) ∙ ap (var_at h) is in
    record {
      count = count;
      counts = counts;
      entry = λ k. elim (cases_eq k j) [
        | inl same ↦ ap (λ (x : ℕ). get_or h' x no_entry) same ∙ at_j ∙ ap (λ (x : ℕ). get_or h x no_entry) (sym (other_second i j k same))
        | inr apart ↦ elim (cases_eq k i) [
          | inl same ↦
              let differ : i ≢ j = λ e. apart (same ∙ e) in
              ap (λ (x : ℕ). get_or h' x no_entry) same ∙ at_i differ ∙ ap (λ (x : ℕ). get_or h x no_entry) (sym (other_first i j k same))
          | inr far ↦ at_else k far apart ∙ ap (λ (x : ℕ). get_or h x no_entry) (sym (other_same i j k far apart))
        ]
      ];
      place = λ v within. elim (cases_eq v (var_at h i)) [
        | inl same ↦
            let was : get_or p v 0 ≡ i = ap (λ (x : ℕ). get_or p x 0) same ∙ placed.position i within_i in
            ap (λ (x : ℕ). get_or p' x 0) same ∙ of_i ∙ sym (other_first i j (get_or p v 0) was)
        | inr far ↦ elim (cases_eq v (var_at h j)) [
          | inl same ↦
              let was : get_or p v 0 ≡ j = ap (λ (x : ℕ). get_or p x 0) same ∙ placed.position j within_j in
              let differ : var_at h j ≢ var_at h i = λ e. far (same ∙ e) in
              ap (λ (x : ℕ). get_or p' x 0) same ∙ of_j differ ∙ sym (other_second i j (get_or p v 0) was)
          | inr apart ↦
              of_else v far apart
              ∙ sym (other_same i j (get_or p v 0) (λ e. far (there v i within e)) (λ e. apart (there v j within e)))
        ]
      ];
    }

-- both entries are written, one after the other
writing : (h : List Entry) (p : List ℕ) (i j : ℕ) → PositionsMatch h p → i < length h → j < length h → SwapsEntries h p (set (set h i (get_or h j no_entry)) j (get_or h i no_entry)) (set (set p (var_at h j) i) (var_at h i) j) i j
writing h p i j placed within_i within_j =
    let a : Entry = get_or h i no_entry in
    let b : Entry = get_or h j no_entry in
    let once : List Entry = set h i b in
    let first : List ℕ = set p b.var i in
    let in_p : (k : ℕ) → k < length h → var_at h k < length p = λ k within. omega (arith, placed.listed k within, placed.count) in
    exchanged h (set once j a) p (set first a.var j) i j placed within_i within_j (swapped h (set once j a) p (set first a.var j) i j placed within_i within_j
    (length-set once j a ∙ length-set h i b)
    (length-set first a.var j ∙ length-set p b.var i)
    (get_or-set_same once j a no_entry (omega (arith, length-set h i b)))
    (λ differ. get_or-set_other once j i a no_entry differ ∙ get_or-set_same h i b no_entry within_i)
    (λ k far apart. get_or-set_other once j k a no_entry apart ∙ get_or-set_other h i k b no_entry far)
    (get_or-set_same first a.var j 0 (omega (arith, length-set p b.var i, in_p i within_i)))
    (λ differ. get_or-set_other first a.var b.var j 0 differ ∙ get_or-set_same p b.var i 0 (in_p j within_j))
    (λ v far apart. get_or-set_other first a.var v j 0 far ∙ get_or-set_other p b.var v i 0 apart))

pub exchanged_by_writing : (h : List Entry) (p : List ℕ) (a b : Entry) (i j : ℕ) → PositionsMatch h p → i < length h → j < length h → a ≡ get_or h i no_entry → b ≡ get_or h j no_entry → SwapsEntries h p (set (set h i b) j a) (set (set p b.var i) a.var j) i j
exchanged_by_writing h p a b i j placed within_i within_j is_a is_b =
    subst (λ (x : Entry). SwapsEntries h p (set (set h i b) j x) (set (set p b.var i) x.var j) i j) (sym is_a)
    (subst (λ (y : Entry). SwapsEntries h p (set (set h i y) j (get_or h i no_entry)) (set (set p y.var i) (var_at h i) j) i j) (sym is_b) (writing h p i j placed within_i within_j))

-- the hole moves from i to j, and the entry at j moves into it
moving : (h : List Entry) (p : List ℕ) (e : Entry) (i j : ℕ) → PositionsMatch (set h i e) (set p e.var i) → i < length h → j < length h → i ≢ j → SwapsEntries (set h i e) (set p e.var i) (set (set h i (get_or h j no_entry)) j e) (set (set p (var_at h j) i) e.var j) i j
moving h p e i j placed within_i within_j differ =
    let b : Entry = get_or h j no_entry in
    let full : List Entry = set h i e in
    let once : List Entry = set h i b in
    let there : List ℕ = set p e.var i in
    let first : List ℕ = set p b.var i in
    let size : length full ≡ length h = length-set h i e in
    let sizes : length there ≡ length p = length-set p e.var i in
    let in_i : i < length full = omega (arith, size) in
    let in_j : j < length full = omega (arith, size) in
    let at_i : get_or full i no_entry ≡ e = get_or-set_same h i e no_entry within_i in
    let at_j : get_or full j no_entry ≡ b = get_or-set_other h i j e no_entry (λ s. differ (sym s)) in
    let var_i : var_at full i ≡ e.var = ap (λ (x : Entry). x.var) at_i in
    let var_j : var_at full j ≡ b.var = ap (λ (x : Entry). x.var) at_j in
    let in_p_i : e.var < length p = omega (arith, placed.listed i in_i, placed.count, sizes, var_i) in
    let in_p_j : b.var < length p = omega (arith, placed.listed j in_j, placed.count, sizes, var_j) in
    exchanged full (set once j e) there (set first e.var j) i j placed in_i in_j (swapped full (set once j e) there (set first e.var j) i j placed in_i in_j
    (length-set once j e ∙ length-set h i b ∙ sym size)
    (length-set first e.var j ∙ length-set p b.var i ∙ sym sizes)
    (get_or-set_same once j e no_entry (omega (arith, length-set h i b)) ∙ sym at_i)
    (λ _. get_or-set_other once j i e no_entry differ ∙ get_or-set_same h i b no_entry within_i ∙ sym at_j)
    (λ k far apart. get_or-set_other once j k e no_entry apart ∙ get_or-set_other h i k b no_entry far ∙ sym (get_or-set_other h i k e no_entry far))
    (ap (λ (v : ℕ). get_or (set first e.var j) v 0) var_i ∙ get_or-set_same first e.var j 0 (omega (arith, length-set p b.var i)))
    (λ apart.
    let differs : b.var ≢ e.var = λ s. apart (var_j ∙ s ∙ sym var_i) in
    ap (λ (v : ℕ). get_or (set first e.var j) v 0) var_j ∙ get_or-set_other first e.var b.var j 0 differs ∙ get_or-set_same p b.var i 0 in_p_j)
    (λ v far apart.
    let not_i : v ≢ e.var = λ s. far (s ∙ sym var_i) in
    let not_j : v ≢ b.var = λ s. apart (s ∙ sym var_j) in
    get_or-set_other first e.var v j 0 not_i ∙ get_or-set_other p b.var v i 0 not_j ∙ sym (get_or-set_other p e.var v i 0 not_i)))

pub exchanged_by_moving : (h : List Entry) (p : List ℕ) (e b : Entry) (i j : ℕ) → PositionsMatch (set h i e) (set p e.var i) → i < length h → j < length h → i ≢ j → b ≡ get_or h j no_entry → SwapsEntries (set h i e) (set p e.var i) (set (set h i b) j e) (set (set p b.var i) e.var j) i j
exchanged_by_moving h p e b i j placed within_i within_j differ is =
    subst (λ (x : Entry). SwapsEntries (set h i e) (set p e.var i) (set (set h i x) j e) (set (set p x.var i) e.var j) i j) (sym is) (moving h p e i j placed within_i within_j differ)

-- reordered heaps

-- an unchanged heap satisfies `PermutesEntries`
pub as_it_is : (m : ℕ) (h : List Entry) (p : List ℕ) → PositionsMatch h p → PermutesEntries m h p h p
as_it_is m h p placed = record { placed = placed; count = refl; flags = refl; keys = refl }

pub one_more_exchanged : (m i j : ℕ) (h h' h'' : List Entry) (p p' p'' : List ℕ) → i < m → j < m → SwapsEntries h' p' h'' p'' i j → PermutesEntries m h p h' p' → PermutesEntries m h p h'' p''
one_more_exchanged m i j h h' h'' p p' p'' small_i small_j ex before = record {
  placed = ex.placed;
  count = ex.count ∙ before.count;
  flags = flags_same m i j p' p'' small_i small_j ex.places ∙ before.flags;
  keys = ex.keys ∙ before.keys;
}

-- an entry that is written back where it was read

-- writing an entry to its own position changes nothing
pub full_again : (h : List Entry) (at : ℕ) (e : Entry) → e ≡ get_or h at no_entry → set h at e ≡ h
full_again h at e is = ap (set h at) is ∙ set-get_or h at no_entry

-- putting an entry back to its own position moves nothing
pub not_moved : (m at : ℕ) (h : List Entry) (p : List ℕ) (e : Entry) → at < length h → e ≡ get_or h at no_entry → PositionsMatch h p → PermutesEntries m h p (set h at e) (set p e.var at)
not_moved m at h p e within is placed =
    let var : e.var ≡ var_at h at = ap (λ (x : Entry). x.var) is in
    let was : at ≡ get_or p e.var 0 = sym (ap (λ (v : ℕ). get_or p v 0) var ∙ placed.position at within) in
    let ep : set p e.var at ≡ p = ap (set p e.var) was ∙ set-get_or p e.var 0 in
    rw (full_again h at e is, ep) (as_it_is m h p placed)

-- the variables of a list in which one entry is written

pub written_listed : (h : List Entry) (at n : ℕ) (e : Entry) → ((k : ℕ) → k < length h → var_at h k < n) → e.var < n → at < length h → (k : ℕ) → k < length (set h at e) → var_at (set h at e) k < n
written_listed h at n e listed small within k there = elim (cases_eq k at) [
  | inl same ↦
      let is : var_at (set h at e) k ≡ e.var = ap (var_at (set h at e)) same ∙ ap (λ (x : Entry). x.var) (get_or-set_same h at e no_entry within) in
      omega arith
  | inr differ ↦
      let is : var_at (set h at e) k ≡ var_at h k = ap (λ (x : Entry). x.var) (get_or-set_other h at k e no_entry differ) in
      omega (arith, listed k (omega (arith, length-set h at e)))
]

pub rank_there : (h : List Entry) (at : ℕ) (e : Entry) → at < length h → rank_at (set h at e) at ≡ rank e
rank_there h at e within = ap rank (get_or-set_same h at e no_entry within)

pub rank_elsewhere : (h : List Entry) (at k : ℕ) (e : Entry) → k ≢ at → rank_at (set h at e) k ≡ rank_at h k
rank_elsewhere h at k e differ = ap rank (get_or-set_other h at k e no_entry differ)

-- the child that moves up into the hole

pub child_is_above : (h : List Entry) (m hole child : ℕ) (e : Entry) → hole < length h → FirstChildRanksAbove h m e hole child → rank_at (set h hole e) hole < rank_at (set h hole e) child
child_is_above h m hole child e within f =
    let under : (child - 1) / 4 ≡ hole = f.under in
    omega (arith, rank_there h hole e within, rank_elsewhere h hole child e (omega (arith, f.some)), f.above)

pub child_is_first : (h : List Entry) (m hole child : ℕ) (e : Entry) → FirstChildRanksAbove h m e hole child → ChildrenRankAtMost (rank_at (set h hole e)) m hole child
child_is_first h m hole child e f k pos small under =
    let under_child : (child - 1) / 4 ≡ hole = f.under in
    omega (arith, rank_elsewhere h hole k e (omega arith), rank_elsewhere h hole child e (omega (arith, f.some)), f.first k pos small under)
