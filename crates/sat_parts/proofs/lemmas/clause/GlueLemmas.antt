-- Flags of levels that are set and cleared, one by one.
use Rattle.std.proofs.Common.{ℕ, zero, suc, ◌≡◌, ◌+◌, ◌-◌, ◌<◌, ◌≤◌, ◌||◌, inl, inr, List, [], ◌∷◌, ◌++◌, length, get_or, set, take, drop, refl, sym, ap, ◌∙◌, subst, arith, eqb, length-set, get_or-set_same, get_or-set_other, Bool, true, false}
use Rattle.std.proofs.lemmas.Bool.{cases_eq, cases_Bool, eqb-true, eq-eqb, ne_eqb, true≢false}
use Rattle.std.proofs.lemmas.List.{drop_more, length_push, take_all, ext_get_or, get_or-map}
use Rattle.std.proofs.lemmas.List.Folds.{list_any_more, list_any-append}
use Rattle.std.proofs.lemmas.Map.Keys.{IsDistinct-push, IsDistinct-from_apart}
use Rattle.std.proofs.lemmas.Map.Made.{length-from_keys}
use Rattle.std.specs.Cmp.{nat_eq_equiv}
use Rattle.std.specs.List.{IsDistinct, list_any}
use Rattle.sat_base.specs.values.Literals.{variable}
use Rattle.sat_parts.specs.declared.prop.graph.ImplNode.{ImplNode}
use Rattle.sat_parts.specs.prop.Graphs.{node_of}
use Rattle.sat_parts.specs.clause.Glue.{count_distinct, levels_of}

-- `among q xs` is true if the number `q` is in the list.
abbrev pub among : ℕ → List ℕ → Bool
among q xs = list_any (λ x. eqb q x) xs

-- `AreMarked flags levels i glue` holds if the flags of the first `i` levels are set, and `glue` counts the different
-- ones.
pub record AreMarked (flags : List Bool) (levels : List ℕ) (i glue : ℕ) : Type 0 where
  pub keys : List ℕ
  pub distinct : IsDistinct eqb keys
  pub counted : length keys ≡ glue
  pub same : (q : ℕ) → among q keys ≡ among q (take i levels)
  pub marks : (q : ℕ) → q < length flags → get_or flags q false ≡ among q (take i levels)

pub marked_none : (flags : List Bool) (levels : List ℕ) → ((k : ℕ) → get_or flags k false ≡ false) → AreMarked flags levels 0 0
marked_none flags levels clear = record { keys = []; distinct = IsDistinct-from_apart eqb [] (λ i j d lt b. absurd (omega arith)); counted = refl; same = λ q. refl; marks = λ q b. clear q }

absorbed : (a b : Bool) → (b ≡ true → a ≡ true) → a ≡ (a || b)
absorbed true b h = refl
absorbed false true h = h refl
absorbed false false h = refl

or_true : (a : Bool) → (a || true) ≡ true
or_true true = refl
or_true false = refl

or_false : (a : Bool) → (a || false) ≡ a
or_false true = refl
or_false false = refl

-- a level whose flag is set was counted before
pub marked_seen : (flags : List Bool) (levels : List ℕ) (i glue x : ℕ) → AreMarked flags levels i glue → i < length levels → x ≡ get_or levels i 0 → x < length flags →
    get_or flags x false ≡ true → AreMarked flags levels (i + 1) glue
marked_seen flags levels i glue x h lt x_is b seen =
    let there : among x (take i levels) ≡ true = sym (h.marks x b) ∙ seen in
    let more : (q : ℕ) → among q (take i levels) ≡ among q (take (i + 1) levels) = λ q.
    absorbed (among q (take i levels)) (eqb q x) (λ e. subst (λ z. among z (take i levels) ≡ true) (sym (eqb-true q x e)) there)
    ∙ ap (λ z. among q (take i levels) || eqb q z) x_is ∙ sym (list_any_more (λ z. eqb q z) levels i 0 lt) in
    record {
      keys = h.keys;
      distinct = h.distinct;
      counted = h.counted;
      same = λ q. h.same q ∙ more q;
      marks = λ q c. h.marks q c ∙ more q;
    }

-- a level whose flag is not set is counted, and its flag is set
pub marked_new : (flags : List Bool) (levels : List ℕ) (i glue x : ℕ) → AreMarked flags levels i glue → i < length levels → x ≡ get_or levels i 0 → x < length flags →
    get_or flags x false ≡ false → AreMarked (set flags x true) levels (i + 1) (glue + 1)
marked_new flags levels i glue x h lt x_is b unseen =
    let fresh : among x h.keys ≡ false = h.same x ∙ sym (h.marks x b) ∙ unseen in
    let size : length (set flags x true) ≡ length flags = length-set flags x true in
    let more : (q : ℕ) → (among q (take i levels) || eqb q x) ≡ among q (take (i + 1) levels) = λ q.
    ap (λ z. among q (take i levels) || eqb q z) x_is ∙ sym (list_any_more (λ z. eqb q z) levels i 0 lt) in
    record {
      keys = h.keys ++ x ∷ [];
      distinct = IsDistinct-push nat_eq_equiv h.keys x h.distinct fresh;
      counted = length_push h.keys x ∙ ap (λ n. n + 1) h.counted;
      same = λ q. list_any-append (λ z. eqb q z) h.keys (x ∷ []) ∙ ap (λ z. among q h.keys || z) (or_false (eqb q x)) ∙ ap (λ z. z || eqb q x) (h.same q) ∙ more q;
      marks = λ q c. elim (cases_eq q x) [
        | inl e ↦
            ap (λ z. get_or (set flags x true) z false) e ∙ get_or-set_same flags x true false b
            ∙ sym (or_true (among q (take i levels))) ∙ ap (λ z. among q (take i levels) || z) (sym (eq-eqb q x e)) ∙ more q
        | inr n ↦
            get_or-set_other flags x q true false n ∙ h.marks q (omega arith) ∙ sym (or_false (among q (take i levels)))
            ∙ ap (λ z. among q (take i levels) || z) (sym (ne_eqb q x n)) ∙ more q
      ];
    }

-- after all levels, `glue` is the number of different ones, and exactly their flags are set
pub marked_all : (flags : List Bool) (levels : List ℕ) (i glue : ℕ) → AreMarked flags levels i glue → i ≡ length levels →
    (glue ≡ count_distinct levels) × ((q : ℕ) → q < length flags → get_or flags q false ≡ among q levels)
marked_all flags levels i glue h e =
    let all : take i levels ≡ levels = take_all i levels (omega arith) in (
      sym h.counted ∙ length-from_keys nat_eq_equiv h.keys levels h.distinct (λ q. h.same q ∙ ap (λ xs. among q xs) all),
      λ q b. h.marks q b ∙ ap (λ xs. among q xs) all,
    )

-- `HasKeys levels i n` holds if the first `i` levels have `n` different ones.
record HasKeys (levels : List ℕ) (i n : ℕ) : Type 0 where
  keys : List ℕ
  distinct : IsDistinct eqb keys
  counted : length keys ≡ n
  same : (q : ℕ) → among q keys ≡ among q (take i levels)

keys_more : (levels : List ℕ) (i n : ℕ) → HasKeys levels i n → i < length levels → (m : ℕ) × ((n ≤ m) × HasKeys levels (i + 1) m)
keys_more levels i n h lt =
    let x : ℕ = get_or levels i 0 in
    let more : (q : ℕ) → (among q (take i levels) || eqb q (get_or levels i 0)) ≡ among q (take (i + 1) levels) = λ q. sym (list_any_more (λ z. eqb q z) levels i 0 lt) in
    elim (cases_Bool (among x h.keys)) [
      | inl seen ↦
          let kept : HasKeys levels (i + 1) n = record {
            keys = h.keys;
            distinct = h.distinct;
            counted = h.counted;
            same = λ q.
                h.same q
                ∙ absorbed (among q (take i levels)) (eqb q x) (λ e. subst (λ z. among z (take i levels) ≡ true) (sym (eqb-true q x e)) (sym (h.same x) ∙ seen))
                ∙ more q;
          } in
          (n, (omega arith, kept))
      | inr fresh ↦
          let grown : HasKeys levels (i + 1) (n + 1) = record {
            keys = h.keys ++ x ∷ [];
            distinct = IsDistinct-push nat_eq_equiv h.keys x h.distinct fresh;
            counted = length_push h.keys x ∙ ap (λ k. k + 1) h.counted;
            same = λ q. list_any-append (λ z. eqb q z) h.keys (x ∷ []) ∙ ap (λ z. among q h.keys || z) (or_false (eqb q x)) ∙ ap (λ z. z || eqb q x) (h.same q) ∙ more q;
          } in
          (n + 1, (omega arith, grown))
    ]

keys_least : (levels : List ℕ) (k i n : ℕ) → HasKeys levels i n → i + k ≡ length levels → n ≤ count_distinct levels
keys_least levels zero i n h e =
    let d : length h.keys ≡ count_distinct levels = length-from_keys nat_eq_equiv h.keys levels h.distinct (λ q. h.same q ∙ ap (λ xs. among q xs) (take_all i levels (omega arith))) in
    omega (arith, d, h.counted)
keys_least levels (suc k) i n h e =
    let more = keys_more levels i n h (omega arith) in
    let rest : more.0 ≤ count_distinct levels = keys_least levels k (i + 1) more.0 more.1.1 (omega arith) in
    omega (arith, more.1.0, rest)

-- the first levels have at most as many different ones as all levels
pub marked_least : (flags : List Bool) (levels : List ℕ) (i glue : ℕ) → AreMarked flags levels i glue → i < length levels → glue ≤ count_distinct levels
marked_least flags levels i glue h lt =
    keys_least levels (length levels - i) i glue (record { keys = h.keys; distinct = h.distinct; counted = h.counted; same = h.same }) (omega arith)

-- `AreLeft flags levels i` holds if every flag still set belongs to a level from index `i` on.
abbrev pub AreLeft : List Bool → List ℕ → ℕ → Type 0
AreLeft flags levels i = (q : ℕ) → q < length flags → get_or flags q false ≡ true → among q (drop i levels) ≡ true

-- clearing the flag of the next level leaves only flags of later levels
pub left_more : (flags : List Bool) (levels : List ℕ) (i x : ℕ) → AreLeft flags levels i → i < length levels → x ≡ get_or levels i 0 → x < length flags → AreLeft (set flags x false) levels (i + 1)
left_more flags levels i x h lt x_is b q c t =
    let size : length (set flags x false) ≡ length flags = length-set flags x false in
    elim (cases_eq q x) [
      | inl e ↦ absurd (true≢false (sym t ∙ ap (λ z. get_or (set flags x false) z false) e ∙ get_or-set_same flags x false false b))
      | inr n ↦
          let old : among q (drop i levels) ≡ true = h q (omega arith) (sym (get_or-set_other flags x q false false n) ∙ t) in
          let f : eqb q (get_or levels i 0) ≡ false = ap (λ z. eqb q z) (sym x_is) ∙ ne_eqb q x n in
          let g : (eqb q (get_or levels i 0) || among q (drop (i + 1) levels)) ≡ true = ap (λ xs. among q xs) (sym (drop_more levels i 0 lt)) ∙ old in
          sym (ap (λ z. z || among q (drop (i + 1) levels)) f) ∙ g
    ]

pub same_flags : (old new : List Bool) → length new ≡ length old → ((k : ℕ) → get_or old k false ≡ false) → ((k : ℕ) → k < length new → get_or new k false ≡ false) → new ≡ old
same_flags old new n h g = ext_get_or false new old n (λ k b. g k b ∙ sym (h k))

-- the level of the literal at an index, in the variables of the code
pub level_at : (nodes : List ImplNode) (ls : List ℕ) (i l v x : ℕ) → i < length ls → l ≡ get_or ls i 0 → v ≡ variable l → x ≡ (node_of nodes v).level → x ≡ get_or (levels_of nodes ls) i 0
level_at nodes ls i l v x lt l_is v_is x_is =
    x_is ∙ ap (λ z. (node_of nodes z).level) (v_is ∙ ap (λ z. variable z) l_is) ∙ sym (get_or-map (λ z. (node_of nodes (variable z)).level) ls i 0 0 lt)
