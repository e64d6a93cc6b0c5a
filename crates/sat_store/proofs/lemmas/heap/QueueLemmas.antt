-- The effect of calls on a heap of variables.
use Rattle.std.proofs.Common.{◌≡◌, ◌≢◌, ℕ, zero, suc, ◌+◌, ◌-◌, ◌*◌, ◌/◌, ◌%◌, ◌^◌, ◌<◌, ◌≤◌, ◌⊎◌, inl, inr, nat_lt, Bool, true, false, cond, List, [], ◌∷◌, ◌++◌, length, map, replicate, get_or, set, refl, sym, ap, ◌∙◌, arith, subst, length-append, append_assoc, max}
use Rattle.std.proofs.lemmas.Bool.{cases_eq, cases_lt, false≢true}
use Rattle.std.specs.List.{count_by}
use Rattle.std.proofs.lemmas.List.Sums.{sum_by-set}
use Rattle.std.proofs.lemmas.Nat.{div-add-mod', div_below}
use Rattle.std.proofs.Math.Nat.{mul-add-div_right}
use Rattle.std.proofs.lemmas.Bool.Decides.{nat_tests}
use Rattle.std.proofs.lemmas.List.{get_or_read, set-get_or, get_or_append_left, get_or_at, get_or_past, get_or-map, length-map, ext_get_or, get_or-set_same, get_or-set_other, length-set, map-append, replicate-append-replicate}
use Rattle.sat_base.specs.values.Literals.{var_limit}
use Rattle.sat_store.specs.declared.vsids.heap.Entry.{Entry}
use Rattle.sat_store.specs.heap.Vsids.{Queue, activity_of, bumped, quotient_up, decayed, IsNextToPick}
use Rattle.sat_store.proofs.lemmas.heap.OrderLemmas.{top_greatest}
use Rattle.sat_store.proofs.lemmas.heap.FlagLemmas.{flag_at, flags_count, flags_taken, flags_given}
use Rattle.sat_store.proofs.lemmas.heap.MoveLemmas.{key_of, keys_count}
use Rattle.sat_store.specs.heap.Heap.{no_entry, var_at, key_at, PositionsMatch, rank, rank_at, parent, IsHeapOrdered, OrderedExceptAt, OrderedExceptBelow, SwapsRanks, SwapsEntries, SwapsPositions, PermutesEntries, AddsHeapVars, available_by_var, activities_by_var, with_rescaled_key, IsHeap}

-- one more variable

at_left : {A : Type 0} (xs : List A) (x d : A) (v : ℕ) → v < length xs → get_or (xs ++ x ∷ []) v d ≡ get_or xs v d
at_left xs x d v within = get_or_append_left xs (x ∷ []) d v within

at_end : {A : Type 0} (xs : List A) (x d : A) (n : ℕ) → length xs ≡ n → get_or (xs ++ x ∷ []) n d ≡ x
at_end xs x d n e = get_or_at xs x [] d n e

one_longer : {A : Type 0} (xs : List A) (x : A) → length (xs ++ x ∷ []) ≡ length xs + 1
one_longer xs x = omega (arith, length-append xs (x ∷ []))

-- the entry of a new variable, with activity 0
abbrev pub newcomer : ℕ → Entry
newcomer v = record { key = 0; var = v }

pub grown_placed : (h : List Entry) (p : List ℕ) → PositionsMatch h p → PositionsMatch (h ++ newcomer (length h) ∷ []) (p ++ length h ∷ [])
grown_placed h p placed =
    let e : Entry = newcomer (length h) in
    let lh : length (h ++ e ∷ []) ≡ length h + 1 = one_longer h e in
    let lp : length (p ++ length h ∷ []) ≡ length p + 1 = one_longer p (length h) in
    let last_h : var_at (h ++ e ∷ []) (length h) ≡ length h = ap (λ (x : Entry). x.var) (at_end h e no_entry (length h) refl) in
    let last_p : get_or (p ++ length h ∷ []) (length h) 0 ≡ length h = at_end p (length h) 0 (length h) (sym placed.count) in
    let old_h : (k : ℕ) → k < length h → var_at (h ++ e ∷ []) k ≡ var_at h k = λ k old. ap (λ (x : Entry). x.var) (at_left h e no_entry k old) in
    let old_p : (v : ℕ) → v < length h → get_or (p ++ length h ∷ []) v 0 ≡ get_or p v 0 = λ v old. at_left p (length h) 0 v (omega (arith, placed.count)) in
    record {
      count = omega (arith, placed.count);
      listed = λ k small. elim (cases_lt k (length h)) [
        | inl old ↦ omega (arith, old_h k old, placed.listed k old)
        | inr end ↦ let e' : k ≡ length h = omega arith in subst (λ (x : ℕ). var_at (h ++ e ∷ []) x < length (h ++ e ∷ [])) (sym e') (omega arith)
      ];
      position = λ k small. elim (cases_lt k (length h)) [
        | inl old ↦ ap (λ (x : ℕ). get_or (p ++ length h ∷ []) x 0) (old_h k old) ∙ old_p (var_at h k) (placed.listed k old) ∙ placed.position k old
        | inr end ↦
            let e' : k ≡ length h = omega arith in
            subst (λ (x : ℕ). get_or (p ++ length h ∷ []) (var_at (h ++ e ∷ []) x) 0 ≡ x) (sym e') (ap (λ (x : ℕ). get_or (p ++ length h ∷ []) x 0) last_h ∙ last_p)
      ];
      placed = λ v small. elim (cases_lt v (length h)) [
        | inl old ↦ omega (arith, old_p v old, placed.placed v old)
        | inr end ↦ let e' : v ≡ length h = omega arith in subst (λ (x : ℕ). get_or (p ++ length h ∷ []) x 0 < length (h ++ e ∷ [])) (sym e') (omega arith)
      ];
      variable = λ v small. elim (cases_lt v (length h)) [
        | inl old ↦ ap (var_at (h ++ e ∷ [])) (old_p v old) ∙ old_h (get_or p v 0) (placed.placed v old) ∙ placed.variable v old
        | inr end ↦
            let e' : v ≡ length h = omega arith in
            subst (λ (x : ℕ). var_at (h ++ e ∷ []) (get_or (p ++ length h ∷ []) x 0) ≡ x) (sym e') (ap (var_at (h ++ e ∷ [])) last_p ∙ last_h)
      ];
    }

pub grown_keys : (h : List Entry) (p : List ℕ) → PositionsMatch h p → activities_by_var (h ++ newcomer (length h) ∷ []) (p ++ length h ∷ []) ≡ activities_by_var h p ++ 0 ∷ []
grown_keys h p placed =
    let e : Entry = newcomer (length h) in
    let more : List Entry = h ++ e ∷ [] in
    let places : List ℕ = p ++ length h ∷ [] in
    let lp : length places ≡ length p + 1 = one_longer p (length h) in
    let lk : length (activities_by_var h p ++ 0 ∷ []) ≡ length p + 1 = one_longer (activities_by_var h p) 0 ∙ ap (λ (n : ℕ). n + 1) (keys_count h p) in
    ext_get_or 0 (activities_by_var more places) (activities_by_var h p ++ 0 ∷ []) (keys_count more places ∙ lp ∙ sym lk) (λ v small.
    let within : v < length places = omega (arith, keys_count more places) in
    key_of more places v within ∙ elim (cases_lt v (length p)) [
      | inl old ↦
          ap (key_at more) (at_left p (length h) 0 v old)
          ∙ ap (λ (x : Entry). x.key) (at_left h e no_entry (get_or p v 0) (placed.placed v (omega (arith, placed.count))))
          ∙ sym (key_of h p v old)
          ∙ sym (at_left (activities_by_var h p) 0 0 v (omega (arith, keys_count h p)))
      | inr end ↦
          let e' : v ≡ length p = omega arith in
          ap (λ (x : ℕ). key_at more (get_or places x 0)) e'
          ∙ ap (key_at more) (at_end p (length h) 0 (length p) refl)
          ∙ ap (λ (x : Entry). x.key) (at_end h e no_entry (length h) refl)
          ∙ sym (at_end (activities_by_var h p) 0 0 v (keys_count h p ∙ sym e'))
    ])

same_order : (r s : ℕ → ℕ) (m : ℕ) → ((k : ℕ) → k < m → s k ≡ r k) → IsHeapOrdered r m 0 → IsHeapOrdered s m 0
same_order r s m same ordered k pos small low = omega (arith, same k small, same (parent k) (omega arith), ordered k pos small low)

pub grown_heap : (h : List Entry) (p : List ℕ) (m : ℕ) → IsHeap h p m → length h < var_limit → IsHeap (h ++ newcomer (length h) ∷ []) (p ++ length h ∷ []) m
grown_heap h p m heap few =
    let e : Entry = newcomer (length h) in
    let lh : length (h ++ e ∷ []) ≡ length h + 1 = one_longer h e in
    let a : List ℕ = activities_by_var h p in
    record {
      placed = grown_placed h p heap.placed;
      within = omega (arith, heap.within);
      few = omega arith;
      small = λ v. rw (grown_keys h p heap.placed) (elim (cases_lt v (length a)) [
        | inl old ↦ omega (arith, at_left a 0 0 v old, heap.small v)
        | inr new ↦ elim (cases_eq v (length a)) [
          | inl end ↦ let z : get_or (a ++ 0 ∷ []) v 0 ≡ 0 = at_end a 0 0 v (sym end) in omega arith
          | inr past ↦ let z : get_or (a ++ 0 ∷ []) v 0 ≡ 0 = get_or_past (a ++ 0 ∷ []) v 0 (omega (arith, one_longer a 0)) in omega arith
        ]
      ]);
      ordered = same_order (rank_at h) (rank_at (h ++ e ∷ [])) m (λ k small. ap rank (at_left h e no_entry k (omega (arith, heap.within)))) heap.ordered;
    }

from_test : (a b : ℕ) → b ≤ a → nat_lt a b ≡ false
from_test a b d = grind (arith, nat_tests)

pub grown_flags : (p : List ℕ) (m n : ℕ) → m ≤ n → available_by_var m (p ++ n ∷ []) ≡ available_by_var m p ++ false ∷ []
grown_flags p m n past =
    let t : nat_lt n m ≡ false = from_test n m past in
    map-append (λ x. nat_lt x m) p (n ∷ []) ∙ ap (λ (b : Bool). available_by_var m p ++ b ∷ []) t

below_test : (a b : ℕ) → a < b → nat_lt a b ≡ true
below_test a b e = grind (arith, nat_tests)

-- a bound on all items of a list holds after a smaller one is written
pub below_limit : (a : List ℕ) (v x u limit : ℕ) → ((w : ℕ) → get_or a w 0 < limit) → x < limit → get_or (set a v x) u 0 < limit
below_limit a v x u limit small fits = elim (cases_eq u v) [
  | inl same ↦ elim (cases_lt v (length a)) [
    | inl within ↦ let e : get_or (set a v x) v 0 ≡ x = get_or-set_same a v x 0 within in subst (λ (y : ℕ). get_or (set a v x) y 0 < limit) (sym same) (omega arith)
    | inr past ↦ let e : get_or (set a v x) u 0 ≡ 0 = get_or_past (set a v x) u 0 (omega (arith, length-set a v x)) in omega arith
  ]
  | inr differ ↦ let e : get_or (set a v x) u 0 ≡ get_or a u 0 = get_or-set_other a v u x 0 differ in omega (arith, small u)
]

-- writing an activity

-- the entry with another activity
abbrev pub with_key : ℕ → Entry → Entry
with_key x e = record e { key = x }

-- the list in which the entry at a position has another activity
abbrev pub keyed : List Entry → ℕ → ℕ → List Entry
keyed h at x = set h at (with_key x (get_or h at no_entry))

pub keyed_count : (h : List Entry) (at x : ℕ) → length (keyed h at x) ≡ length h
keyed_count h at x = length-set h at (with_key x (get_or h at no_entry))

keyed_same : (h : List Entry) (at x k : ℕ) → k ≢ at → get_or (keyed h at x) k no_entry ≡ get_or h k no_entry
keyed_same h at x k differ = get_or-set_other h at k (with_key x (get_or h at no_entry)) no_entry differ

keyed_at : (h : List Entry) (at x : ℕ) → at < length h → get_or (keyed h at x) at no_entry ≡ with_key x (get_or h at no_entry)
keyed_at h at x within = get_or-set_same h at (with_key x (get_or h at no_entry)) no_entry within

-- variables that keep their positions are still placed
placed_again : (h h' : List Entry) (p : List ℕ) → PositionsMatch h p → length h' ≡ length h → ((k : ℕ) → k < length h → var_at h' k ≡ var_at h k) → PositionsMatch h' p
placed_again h h' p placed count same = record {
  count = count ∙ placed.count;
  listed = λ k small. let within : k < length h = omega arith in omega (arith, same k within, placed.listed k within);
  position = λ k small. let within : k < length h = omega arith in ap (λ (v : ℕ). get_or p v 0) (same k within) ∙ placed.position k within;
  placed = λ v small. omega (arith, placed.placed v (omega arith));
  variable = λ v small. let within : v < length h = omega arith in same (get_or p v 0) (placed.placed v within) ∙ placed.variable v within;
}

pub keyed_placed : (h : List Entry) (p : List ℕ) (at x : ℕ) → PositionsMatch h p → at < length h → PositionsMatch (keyed h at x) p
keyed_placed h p at x placed within = placed_again h (keyed h at x) p placed (keyed_count h at x) (λ k small. elim (cases_eq k at) [
  | inl same ↦ ap (var_at (keyed h at x)) same ∙ ap (λ (e : Entry). e.var) (keyed_at h at x within) ∙ ap (var_at h) (sym same)
  | inr differ ↦ ap (λ (e : Entry). e.var) (keyed_same h at x k differ)
])

pub placed_once : (h : List Entry) (p : List ℕ) → PositionsMatch h p → (v w : ℕ) → v < length p → w < length p → get_or p v 0 ≡ get_or p w 0 → v ≡ w
placed_once h p placed v w within_v within_w same =
    sym (placed.variable v (omega (arith, placed.count))) ∙ ap (var_at h) same ∙ placed.variable w (omega (arith, placed.count))

pub keyed_keys : (h : List Entry) (p : List ℕ) (v at x : ℕ) → PositionsMatch h p → v < length h → get_or p v 0 ≡ at → activities_by_var (keyed h at x) p ≡ set (activities_by_var h p) v x
keyed_keys h p v at x placed within is =
    let in_p : v < length p = omega (arith, placed.count) in
    let in_h : at < length h = omega (arith, placed.placed v within) in
    let count : length (activities_by_var (keyed h at x) p) ≡ length (set (activities_by_var h p) v x) = keys_count (keyed h at x) p ∙ sym (length-set (activities_by_var h p) v x ∙ keys_count h p) in
    ext_get_or 0 (activities_by_var (keyed h at x) p) (set (activities_by_var h p) v x) count (λ u small.
    let there : u < length p = omega (arith, keys_count (keyed h at x) p) in
    key_of (keyed h at x) p u there ∙ elim (cases_eq u v) [
      | inl same ↦
          ap (λ (w : ℕ). key_at (keyed h at x) (get_or p w 0)) same
          ∙ ap (key_at (keyed h at x)) is
          ∙ ap (λ (e : Entry). e.key) (keyed_at h at x in_h)
          ∙ sym (ap (λ (w : ℕ). get_or (set (activities_by_var h p) v x) w 0) same ∙ get_or-set_same (activities_by_var h p) v x 0 (omega (arith, keys_count h p)))
      | inr differ ↦
          let apart : get_or p u 0 ≢ at = λ e. differ (placed_once h p placed u v there in_p (e ∙ sym is)) in
          ap (λ (e : Entry). e.key) (keyed_same h at x (get_or p u 0) apart) ∙ sym (key_of h p u there) ∙ sym (get_or-set_other (activities_by_var h p) v u x 0 differ)
    ])

-- an activity after the first m entries may change
pub keyed_after : (h : List Entry) (m at x : ℕ) → m ≤ at → IsHeapOrdered (rank_at h) m 0 → IsHeapOrdered (rank_at (keyed h at x)) m 0
keyed_after h m at x following ordered = same_order (rank_at h) (rank_at (keyed h at x)) m (λ k small. ap rank (keyed_same h at x k (omega arith))) ordered

pub keyed_heap : (h : List Entry) (p : List ℕ) (m v at x : ℕ) → IsHeap h p m → v < length h → get_or p v 0 ≡ at → m ≤ at → x < 2 ^ 60 → IsHeap (keyed h at x) p m
keyed_heap h p m v at x heap within is following fits = record {
  placed = keyed_placed h p at x heap.placed (omega (arith, heap.placed.placed v within));
  within = omega (arith, heap.within, keyed_count h at x);
  few = omega (arith, heap.few, keyed_count h at x);
  small = λ u. rw (keyed_keys h p v at x heap.placed within is) (below_limit (activities_by_var h p) v x u (2 ^ 60) heap.small fits);
  ordered = keyed_after h m at x following heap.ordered;
}

-- writing a key into an entry that was read before changes only the key of its position
pub written_key : (h : List Entry) (at x : ℕ) (e : Entry) → at < length h → e ≡ get_or h at e → set h at (record { key = x; var = e.var }) ≡ keyed h at x
written_key h at x e within is = ap (λ (r : Entry). set h at (with_key x r)) (get_or_read h at e within is no_entry)

pub place_read : (p : List ℕ) (i v at : ℕ) → i < length p → i ≡ v → at ≡ get_or p i at → get_or p v 0 ≡ at
place_read p i v at within same is = sym (get_or_read p i at within is 0 ∙ ap (λ (x : ℕ). get_or p x 0) same)

-- the activity of a variable, from its position
pub key_there : (h : List Entry) (p : List ℕ) (m v at : ℕ) → IsHeap h p m → v < length h → get_or p v 0 ≡ at → key_at h at ≡ get_or (activities_by_var h p) v 0
key_there h p m v at heap within is = sym (key_of h p v (omega (arith, heap.placed.count)) ∙ ap (key_at h) is)

-- a variable that may not be picked is at position m or later
pub after_those : (p : List ℕ) (m v : ℕ) → v < length p → get_or (available_by_var m p) v false ≡ false → m ≤ get_or p v 0
after_those p m v within flag = elim (cases_lt (get_or p v 0) m) [
  | inl less ↦ absurd (false≢true (sym flag ∙ flag_at m p v within ∙ below_test (get_or p v 0) m less))
  | inr more ↦ more
]

-- rescaling

pub scaled_at : (a : List ℕ) (v : ℕ) → get_or (map (λ x. x / 2 ^ 40) a) v 0 ≡ get_or a v 0 / 2 ^ 40
scaled_at a v = elim (cases_lt v (length a)) [
  | inl within ↦ get_or-map (λ x. x / 2 ^ 40) a v 0 0 within
  | inr past ↦
      let e : get_or (map (λ x. x / 2 ^ 40) a) v 0 ≡ 0 = get_or_past (map (λ x. x / 2 ^ 40) a) v 0 (omega (arith, length-map a (λ (x : ℕ). x / 2 ^ 40))) in
      let f : get_or a v 0 ≡ 0 = get_or_past a v 0 past in
      omega arith
]

pub scaled_small : (a : List ℕ) (v : ℕ) → ((w : ℕ) → get_or a w 0 < 2 ^ 61) → get_or (map (λ x. x / 2 ^ 40) a) v 0 < 2 ^ 60
scaled_small a v small = omega (arith, scaled_at a v, small v)

-- rescaling the activity at a position, also past the end
scaled_entry : (h : List Entry) (k : ℕ) → key_at (map with_rescaled_key h) k ≡ key_at h k / 2 ^ 40
scaled_entry h k = elim (cases_lt k (length h)) [
  | inl within ↦ ap (λ (e : Entry). e.key) (get_or-map with_rescaled_key h k no_entry no_entry within)
  | inr past ↦
      let e : get_or (map with_rescaled_key h) k no_entry ≡ no_entry = get_or_past (map with_rescaled_key h) k no_entry (omega (arith, length-map h with_rescaled_key)) in
      let f : get_or h k no_entry ≡ no_entry = get_or_past h k no_entry past in
      ap (λ (x : Entry). x.key) e ∙ sym (ap (λ (x : Entry). x.key / 2 ^ 40) f)
]

pub scaled_entries : (h h' : List Entry) (n : ℕ) → length h' ≡ length h → length h ≤ n → ((k : ℕ) → k < n → get_or h' k no_entry ≡ with_rescaled_key (get_or h k no_entry)) → h' ≡ map with_rescaled_key h
scaled_entries h h' n count all each = ext_get_or no_entry h' (map with_rescaled_key h) (count ∙ sym (length-map h with_rescaled_key)) (λ k small.
    each k (omega arith) ∙ sym (get_or-map with_rescaled_key h k no_entry no_entry (omega arith)))

pub scaled_placed : (h : List Entry) (p : List ℕ) → PositionsMatch h p → PositionsMatch (map with_rescaled_key h) p
scaled_placed h p placed = placed_again h (map with_rescaled_key h) p placed (length-map h with_rescaled_key) (λ k small. ap (λ (e : Entry). e.var) (get_or-map with_rescaled_key h k no_entry no_entry small))

pub scaled_keys : (h : List Entry) (p : List ℕ) → activities_by_var (map with_rescaled_key h) p ≡ map (λ x. x / 2 ^ 40) (activities_by_var h p)
scaled_keys h p =
    let a : List ℕ = activities_by_var h p in
    ext_get_or 0 (activities_by_var (map with_rescaled_key h) p) (map (λ x. x / 2 ^ 40) a) (keys_count (map with_rescaled_key h) p ∙ sym (length-map a (λ (x : ℕ). x / 2 ^ 40) ∙ keys_count h p)) (λ v small.
    let within : v < length p = omega (arith, keys_count (map with_rescaled_key h) p) in
    key_of (map with_rescaled_key h) p v within ∙ scaled_entry h (get_or p v 0) ∙ ap (λ (x : ℕ). x / 2 ^ 40) (sym (key_of h p v within)) ∙ sym (scaled_at a v))

-- lists that grow by one item

pub one_more_copy {ℓ} : {X : Type ℓ} → (xs ys : List X) (x : X) (k : ℕ) → ys ≡ xs ++ replicate k x → ys ++ x ∷ [] ≡ xs ++ replicate (k + 1) x
one_more_copy xs ys x k is = ap (λ zs. zs ++ x ∷ []) is ∙ append_assoc xs (replicate k x) (x ∷ []) ∙ ap (λ zs. xs ++ zs) (replicate-append-replicate k 1 x)

pub one_more_added : (h h' : List Entry) (p p' : List ℕ) (i : ℕ) → length h ≤ i → length h' ≡ i → PositionsMatch h' p' → AddsHeapVars i h p h' p' → AddsHeapVars (i + 1) h p (h' ++ newcomer i ∷ []) (p' ++ i ∷ [])
one_more_added h h' p p' i some count placed adds =
    let more : i + 1 - length h ≡ i - length h + 1 = omega arith in
    let grown : activities_by_var (h' ++ newcomer i ∷ []) (p' ++ i ∷ []) ≡ activities_by_var h' p' ++ 0 ∷ [] = subst (λ (x : ℕ). activities_by_var (h' ++ newcomer x ∷ []) (p' ++ x ∷ []) ≡ activities_by_var h' p' ++ 0 ∷ []) count (grown_keys h' p' placed) in
    record {
      flags = λ m within. grown_flags p' m i (omega arith) ∙ one_more_copy (available_by_var m p) (available_by_var m p') false (i - length h) (adds.flags m within) ∙ ap (λ (k : ℕ). available_by_var m p ++ replicate k false) (sym more);
      keys = grown ∙ one_more_copy (activities_by_var h p) (activities_by_var h' p') 0 (i - length h) adds.keys ∙ ap (λ (k : ℕ). activities_by_var h p ++ replicate k 0) (sym more);
    }

-- after rescaling and reordering

-- rearranged entries in heap order are a heap
pub heap_again : (h mid h' : List Entry) (p p' : List ℕ) (m : ℕ) → IsHeap h p m → length mid ≡ length h → PermutesEntries m mid p h' p' → ((v : ℕ) → get_or (activities_by_var mid p) v 0 < 2 ^ 60) → IsHeapOrdered (rank_at h') m 0 → IsHeap h' p' m
heap_again h mid h' p p' m heap count same small ordered = record {
  placed = same.placed;
  within = omega (arith, heap.within, same.count);
  few = omega (arith, heap.few, same.count);
  small = λ v. rw same.keys (small v);
  ordered = ordered;
}

-- a quotient of 1000 times a number, computed without overflow

-- b * 1000 / d, rounded up, without computing b * 1000
pub thousandfold : (b d : ℕ) → 0 < d → b / d * 1000 + (b % d * 1000 + d - 1) / d ≡ (b * 1000 + d - 1) / d
thousandfold b d some =
    let whole : b / d * d + b % d ≡ b = div-add-mod' b d in
    let parts : b / d * 1000 * d + (b % d * 1000 + d - 1) ≡ b * 1000 + d - 1 = omega arith in
    sym (mul-add-div_right some (b / d * 1000) (b % d * 1000 + d - 1)) ∙ ap (λ (x : ℕ). x / d) parts

pub thousandfold_below : (b d : ℕ) → b < 2 ^ 60 → 500 ≤ d → b / d * 1000 + (b % d * 1000 + d - 1) / d < 2 ^ 62
thousandfold_below b d small low =
    let most : (b * 1000 + d - 1) / d < 2 ^ 62 = div_below (b * 1000 + d - 1) d (2 ^ 62) (omega arith) (omega arith) in
    omega (arith, thousandfold b d (omega arith))

-- the queue after a decay

pub decayed_small : (q : Queue) (b : ℕ) → b ≡ quotient_up (q.bump * 1000) q.decay → b < 2 ^ 60 → record q { bump = b } ≡ decayed q
decayed_small q b is small =
    let t : nat_lt (quotient_up (q.bump * 1000) q.decay) (2 ^ 60) ≡ true = below_test (quotient_up (q.bump * 1000) q.decay) (2 ^ 60) (subst (λ (x : ℕ). x < 2 ^ 60) is small) in
    rw (is, t) refl

pub decayed_large : (q : Queue) (b n : ℕ) (f : List Bool) (a : List ℕ) → b ≡ quotient_up (q.bump * 1000) q.decay → 2 ^ 60 ≤ b → f ≡ q.available → a ≡ map (λ x. x / 2 ^ 40) q.activities → n ≡ max (b / 2 ^ 40) 1 → record { available = f; activities = a; bump = n; decay = q.decay } ≡ decayed q
decayed_large q b n f a is large same with_rescaled_key bump =
    let t : nat_lt (quotient_up (q.bump * 1000) q.decay) (2 ^ 60) ≡ false = from_test (quotient_up (q.bump * 1000) q.decay) (2 ^ 60) (subst (λ (x : ℕ). 2 ^ 60 ≤ x) is large) in
    rw (same, with_rescaled_key, bump, is, t) refl

-- the queue after a bump

pub bumped_small : (q : Queue) (v x : ℕ) (f : List Bool) (a : List ℕ) → x ≡ activity_of q v + q.bump → x < 2 ^ 60 → f ≡ q.available → a ≡ set q.activities v x → record { available = f; activities = a; bump = q.bump; decay = q.decay } ≡ bumped v q
bumped_small q v x f a is small same raised =
    let t : nat_lt (activity_of q v + q.bump) (2 ^ 60) ≡ true = below_test (activity_of q v + q.bump) (2 ^ 60) (subst (λ (y : ℕ). y < 2 ^ 60) is small) in
    rw (same, raised, is, t) refl

pub bumped_large : (q : Queue) (v x n : ℕ) (f : List Bool) (a : List ℕ) → x ≡ activity_of q v + q.bump → 2 ^ 60 ≤ x → f ≡ q.available → a ≡ map (λ y. y / 2 ^ 40) (set q.activities v x) → n ≡ max (q.bump / 2 ^ 40) 1 → record { available = f; activities = a; bump = n; decay = q.decay } ≡ bumped v q
bumped_large q v x n f a is large same raised bump =
    let t : nat_lt (activity_of q v + q.bump) (2 ^ 60) ≡ false = from_test (activity_of q v + q.bump) (2 ^ 60) (subst (λ (y : ℕ). 2 ^ 60 ≤ y) is large) in
    rw (same, raised, bump, is, t) refl

-- a variable leaves the first entries; the last of them takes its position, and may have to move up or down

-- the last entry, put at the position of one that was taken, may rank above its parent
pub taken_up : (r s : ℕ → ℕ) (last i : ℕ) → 0 < i → i < last → SwapsRanks r s i last → s (parent i) < s i → IsHeapOrdered r (last + 1) 0 → OrderedExceptAt s last i
taken_up r s last i some within ex above ordered =
    let s_top : s (parent i) ≡ r (parent i) = ex.others (parent i) (omega arith) (omega arith) in
    let r_i : r i ≤ r (parent i) = ordered i some (omega arith) (omega arith) in
    record {
      others = λ k pos small differ.
          let s_k : s k ≡ r k = ex.others k differ (omega arith) in
          elim (cases_eq (parent k) i) [
            | inl under ↦
                let at : r (parent k) ≡ r i = ap r under in
                subst (λ (x : ℕ). s k ≤ s x) (sym under) (omega (arith, ordered k pos (omega arith) (omega arith)))
            | inr far ↦ omega (arith, ex.others (parent k) far (omega arith), ordered k pos (omega arith) (omega arith))
          ];
      across = λ p k pos small under.
          let at : r (parent k) ≡ r i = ap r under in
          omega (arith, ex.others k (omega arith) (omega arith), ordered k pos (omega arith) (omega arith));
    }

-- the last entry, put at the position of one that was taken, may rank below its children
pub taken_down : (r s : ℕ → ℕ) (last i : ℕ) → i < last → SwapsRanks r s i last → (0 < i → s i ≤ s (parent i)) → IsHeapOrdered r (last + 1) 0 → OrderedExceptBelow s last 0 i
taken_down r s last i within ex fits ordered = record {
  others = λ k pos small low far. elim (cases_eq k i) [
    | inl same ↦ subst (λ (x : ℕ). s x ≤ s (parent x)) (sym same) (fits (omega arith))
    | inr differ ↦ omega (arith, ex.others k differ (omega arith), ex.others (parent k) far (omega arith), ordered k pos (omega arith) (omega arith))
  ];
  across = λ some low k pos small under.
      let at : r (parent k) ≡ r i = ap r under in
      omega (arith, ex.others k (omega arith) (omega arith), ex.others (parent i) (omega arith) (omega arith), ordered k pos (omega arith) (omega arith), ordered i some (omega arith) (omega arith));
}

-- after a swap of two entries and a reordering, which put one variable more or fewer among the first

-- entries that were swapped, and then put in heap order, are a heap
pub heap_of : (h h' h'' : List Entry) (p p' p'' : List ℕ) (m n i j : ℕ) → IsHeap h p m → SwapsEntries h p h' p' i j → PermutesEntries n h' p' h'' p'' → n ≤ length h → IsHeapOrdered (rank_at h'') n 0 → IsHeap h'' p'' n
heap_of h h' h'' p p' p'' m n i j heap ex same within ordered = record {
  placed = same.placed;
  within = omega (arith, same.count, ex.count);
  few = omega (arith, heap.few, same.count, ex.count);
  small = λ v. rw (same.keys, ex.keys) (heap.small v);
  ordered = ordered;
}

-- the first entry is picked first

flag_true : (m : ℕ) (p : List ℕ) (u : ℕ) → get_or (available_by_var m p) u false ≡ true → (u < length p) × (get_or p u 0 < m)
flag_true m p u flag = elim (cases_lt u (length p)) [
  | inl within ↦ elim (cases_lt (get_or p u 0) m) [
    | inl less ↦ (within, less)
    | inr more ↦ let no : get_or (available_by_var m p) u false ≡ false = flag_at m p u within ∙ from_test (get_or p u 0) m more in absurd (false≢true (sym no ∙ flag))
  ]
  | inr past ↦ let no : get_or (available_by_var m p) u false ≡ false = get_or_past (available_by_var m p) u false (omega (arith, flags_count m p)) in absurd (false≢true (sym no ∙ flag))
]

rank_says : (a b : Entry) → a.var < var_limit → b.var < var_limit → rank a ≤ rank b → (a.key < b.key) ⊎ ((a.key ≡ b.key) × (b.var ≤ a.var))
rank_says a b small_a small_b order = elim (cases_lt a.key b.key) [
  | inl less ↦ inl less
  | inr more ↦ inr (omega arith, omega arith)
]

-- the first entry of a heap is the variable to pick
pub front_first : (h : List Entry) (p : List ℕ) (m b d : ℕ) → IsHeap h p m → 0 < m → IsNextToPick (record { available = available_by_var m p; activities = activities_by_var h p; bump = b; decay = d }) (var_at h 0)
front_first h p m b d heap some =
    let within : 0 < length h = omega (arith, heap.within) in
    let at : get_or p (var_at h 0) 0 ≡ 0 = heap.placed.position 0 within in
    let listed : var_at h 0 < length h = heap.placed.listed 0 within in
    let key : get_or (activities_by_var h p) (var_at h 0) 0 ≡ key_at h 0 = key_of h p (var_at h 0) (omega (arith, heap.placed.count)) ∙ ap (key_at h) at in
    record {
      available = flag_at m p (var_at h 0) (omega (arith, heap.placed.count)) ∙ below_test (get_or p (var_at h 0) 0) m (omega arith);
      first = λ u flag.
          let says : (u < length p) × (get_or p u 0 < m) = flag_true m p u flag in
          let there : var_at h (get_or p u 0) ≡ u = heap.placed.variable u (omega (arith, says.0, heap.placed.count)) in
          let order : rank_at h (get_or p u 0) ≤ rank_at h 0 = top_greatest (rank_at h) m (get_or p u 0) says.1 heap.ordered in
          let key_u : get_or (activities_by_var h p) u 0 ≡ key_at h (get_or p u 0) = key_of h p u says.0 in
          let both = rank_says (get_or h (get_or p u 0) no_entry) (get_or h 0 no_entry) (omega (arith, there, says.0, heap.placed.count, heap.few)) (omega (arith, heap.few)) order in
          elim both [
            | inl less ↦ inl (omega (arith, key, key_u))
            | inr equal ↦ inr (omega (arith, key, key_u, equal.0), omega (arith, there, equal.1))
          ];
    }

pub none_flagged : (p : List ℕ) (v : ℕ) → get_or (available_by_var 0 p) v false ≡ false
none_flagged p v = elim (cases_lt v (length p)) [
  | inl within ↦ flag_at 0 p v within ∙ from_test (get_or p v 0) 0 (omega arith)
  | inr past ↦ get_or_past (available_by_var 0 p) v false (omega (arith, flags_count 0 p))
]

pub set_again : (xs : List Bool) (v : ℕ) (b : Bool) → get_or xs v false ≡ b → set xs v b ≡ xs
set_again xs v b is = ap (λ (x : Bool). set xs v x) (sym is) ∙ set-get_or xs v false

-- the flags after a variable left the first entries or joined them

-- swapping a variable with the last of the first m makes it unavailable
pub taken_flags : (h : List Entry) (p p' : List ℕ) (m i : ℕ) → PositionsMatch h p → i < m → m ≤ length h → SwapsPositions p p' i (m - 1) → available_by_var (m - 1) p' ≡ set (available_by_var m p) (var_at h i) false
taken_flags h p p' zero i placed within few t = absurd (omega arith)
taken_flags h p p' (suc n) i placed within few t =
    let e : suc n - 1 ≡ n = omega arith in
    let moved : SwapsPositions p p' i n = subst (λ (x : ℕ). SwapsPositions p p' i x) e t in
    let listed : var_at h i < length p = omega (arith, placed.listed i (omega arith), placed.count) in
    ap (λ (x : ℕ). available_by_var x p') e ∙ flags_taken n i (var_at h i) p p' within listed (placed.position i (omega arith)) (placed_once h p placed) moved

-- swapping a variable with the first after the first m makes it available
pub given_flags : (h : List Entry) (p p' : List ℕ) (m i : ℕ) → PositionsMatch h p → m ≤ i → i < length h → SwapsPositions p p' i m → available_by_var (m + 1) p' ≡ set (available_by_var m p) (var_at h i) true
given_flags h p p' m i placed following within t =
    let e : m + 1 ≡ suc m = omega arith in
    let listed : var_at h i < length p = omega (arith, placed.listed i within, placed.count) in
    ap (λ (x : ℕ). available_by_var x p') e ∙ flags_given m i (var_at h i) p p' following listed (placed.position i within) (placed_once h p placed) t

pub one_fewer : (r : ℕ → ℕ) (m : ℕ) → 0 < m → IsHeapOrdered r m 0 → IsHeapOrdered r (m - 1 + 1) 0
one_fewer r m some ordered = let e : m - 1 + 1 ≡ m = omega arith in subst (λ (x : ℕ). IsHeapOrdered r x 0) (sym e) ordered

pub stays_available : (p : List ℕ) (m v : ℕ) → v < length p → get_or p v 0 < m → set (available_by_var m p) v true ≡ available_by_var m p
stays_available p m v within less = set_again (available_by_var m p) v true (flag_at m p v within ∙ below_test (get_or p v 0) m less)

pub stays_unavailable : (p : List ℕ) (m v : ℕ) → v < length p → m ≤ get_or p v 0 → set (available_by_var m p) v false ≡ available_by_var m p
stays_unavailable p m v within more = set_again (available_by_var m p) v false (flag_at m p v within ∙ from_test (get_or p v 0) m more)

-- how many variables may be picked

pub one_fewer_true : (f : List Bool) (u : ℕ) → u < length f → get_or f u false ≡ true → count_by (λ b. b) (set f u false) + 1 ≡ count_by (λ b. b) f
one_fewer_true f u within flag =
    let sums : count_by (λ b. b) (set f u false) + cond {A = ℕ} (get_or f u false) 1 0 ≡ count_by (λ b. b) f + 0 = sum_by-set (λ (b : Bool). cond {A = ℕ} b 1 0) f u false false within in
    let one : cond {A = ℕ} (get_or f u false) 1 0 ≡ 1 = ap (λ (b : Bool). cond {A = ℕ} b 1 0) flag in
    omega arith

pub front_fewer : (h : List Entry) (p : List ℕ) (m : ℕ) → IsHeap h p m → 0 < m → count_by (λ b. b) (set (available_by_var m p) (var_at h 0) false) + 1 ≡ count_by (λ b. b) (available_by_var m p)
front_fewer h p m heap some =
    let within : 0 < length h = omega (arith, heap.within) in
    let at : get_or p (var_at h 0) 0 ≡ 0 = heap.placed.position 0 within in
    let listed : var_at h 0 < length p = omega (arith, heap.placed.listed 0 within, heap.placed.count) in
    one_fewer_true (available_by_var m p) (var_at h 0) (omega (arith, flags_count m p)) (flag_at m p (var_at h 0) listed ∙ below_test (get_or p (var_at h 0) 0) m (omega arith))
