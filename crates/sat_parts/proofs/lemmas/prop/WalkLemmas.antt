-- The watches of one literal, one by one: each stays, is dropped, or moves to another literal.
use Rattle.std.proofs.Common.{ℕ, ◌≡◌, ◌≢◌, ◌+◌, ◌-◌, ◌*◌, ◌<◌, ◌≤◌, ◌⊎◌, inl, inr, List, [], ◌∷◌, ◌++◌, length, get_or, set, take, drop, refl, sym, ap, ◌∙◌, subst, arith, length-set, length-drop, length-append, get_or-set_same, get_or-set_other}
use Rattle.std.proofs.lemmas.Bool.{cases_eq, cases_lt}
use Rattle.std.proofs.lemmas.List.{get_or_append_left, get_or_at, get_or-take, get_or-drop, get_or-append-add, length-take-le}
use Rattle.std.specs.List.{Contains}
use Rattle.sat_base.specs.values.Literals.{negated}
use Rattle.sat_store.specs.clause.Buffer.{lits_at}
use Rattle.sat_parts.specs.declared.prop.watch.Watch.{Watch}
use Rattle.sat_parts.specs.clause.Orders.{AreDistinct, IsReordering, PermutesClause}
use Rattle.sat_parts.specs.clause.Stored.{AreLongClauses, lit_of, size_of}
use Rattle.sat_parts.specs.prop.WatchLists.{no_watch, watch_on, watches_of, lists_with_watch}
use Rattle.sat_parts.specs.prop.Ready.{HasLit, IsSoundWatch, HasWatch, AreWatched}
use Rattle.sat_parts.specs.prop.Walk.{HasWatchOutside, AreWatchedDuringWalk, PutsOtherWatchFirst}
use Rattle.sat_parts.proofs.lemmas.clause.OrderLemmas.{shuffled_eq}
use Rattle.sat_parts.proofs.lemmas.prop.StateLemmas.{negated_twice}

-- visiting the clause at p leaves the literals of other live clauses unchanged
pub same_lits : (w v live : List ℕ) (count p o : ℕ) → AreLongClauses w live count → Contains live p → PermutesClause w v p → Contains live o → p ≢ o → lits_at v o ≡ lits_at w o
same_lits w v live count p o c hp e ho n = (e.others live o hp c.holds_clauses ho n).lits

pub shuffled_all : (w v live : List ℕ) (count p o : ℕ) → AreLongClauses w live count → Contains live p → PermutesClause w v p → Contains live o → IsReordering (lits_at w o) (lits_at v o)
shuffled_all w v live count p o c hp e ho = elim (cases_eq p o) [
  | inl q ↦ subst (λ (x : ℕ). IsReordering (lits_at w x) (lits_at v x)) q e.lits
  | inr n ↦ shuffled_eq (lits_at w o) (lits_at v o) (same_lits w v live count p o c hp e ho n)
]

pub good_shuffled : (w v live : List ℕ) (count p : ℕ) (x : Watch) → AreLongClauses w live count → Contains live p → PermutesClause w v p → IsSoundWatch w live x → IsSoundWatch v live x
good_shuffled w v live count p x c hp e g =
    let s : IsReordering (lits_at w x.cref) (lits_at v x.cref) = shuffled_all w v live count p x.cref c hp e g.0 in
    let m : (j : ℕ) × ((j < size_of w x.cref) × (lit_of v x.cref j ≡ lit_of w x.cref g.1.0)) = s.forth g.1.0 g.1.1.0 in
    (g.0, (m.0, (subst (λ (n : ℕ). m.0 < n) (sym s.size) m.1.0, m.1.1 ∙ g.1.1.1)))

-- `KeepsFirstTwo w v p` holds if the first two literals of the clause at `p` were its first two before.
abbrev pub KeepsFirstTwo : List ℕ → List ℕ → ℕ → Type 0
KeepsFirstTwo w v p = (i : ℕ) → i < 2 → (j : ℕ) × ((j < 2) × (lit_of v p i ≡ lit_of w p j))

-- if one clause keeps its first two literals, all clauses do
pub first_two : (w v live : List ℕ) (count p o : ℕ) → AreLongClauses w live count → Contains live p → PermutesClause w v p → Contains live o → KeepsFirstTwo w v p → KeepsFirstTwo w v o
first_two w v live count p o c hp e ho f = elim (cases_eq p o) [
  | inl q ↦ subst (λ (x : ℕ). KeepsFirstTwo w v x) q f
  | inr n ↦ λ i hi. (i, (hi, ap (λ (ls : List ℕ). get_or ls i 0) (same_lits w v live count p o c hp e ho n)))
]

-- a property of the first two positions
pub at_two : (P : ℕ → Type 0) → P 0 → P 1 → (i : ℕ) → i < 2 → P i
at_two P zero one i hi = elim (cases_eq i 0) [
  | inl q ↦ subst (λ (x : ℕ). P x) (sym q) zero
  | inr q ↦ let u : i ≡ 1 = omega arith in subst (λ (x : ℕ). P x) (sym u) one
]

-- putting the false literal second keeps the first two literals
pub oriented_two : (w v : List ℕ) (p fl : ℕ) → PutsOtherWatchFirst w v p fl → lit_of v p 1 ≡ fl → KeepsFirstTwo w v p
oriented_two w v p fl other second =
    let F : ℕ → Type 0 = λ i. (j : ℕ) × ((j < 2) × (lit_of v p i ≡ lit_of w p j)) in
    let f0 : F 0 = elim other [ inl s ↦ (0, (omega arith, s.1)) | inr s ↦ (1, (omega arith, s.1)) ] in
    let f1 : F 1 = elim other [ inl s ↦ (1, (omega arith, second ∙ sym s.0)) | inr s ↦ (0, (omega arith, second ∙ sym s.0)) ] in
    at_two F f0 f1

-- a watch that moves from index `at` to index `kept` is not lost
kept_watch : (list : List Watch) (kept at o : ℕ) (x : Watch) → kept ≤ at → at < length list →
    x.cref ≡ (get_or list at no_watch).cref → HasWatchOutside list kept at o → HasWatchOutside (set list kept x) (kept + 1) (at + 1) o
kept_watch list kept at o x gap lt same h =
    let s : length (set list kept x) ≡ length list = length-set list kept x in
    elim (cases_eq h.0 at) [
      | inl r ↦ (kept, (omega arith, inl (omega arith), ap (λ (y : Watch). y.cref) (get_or-set_same list kept x no_watch (omega arith)) ∙ same ∙ ap (λ q. (get_or list q no_watch).cref) (sym r) ∙ h.1.2))
      | inr n ↦ elim h.1.1 [
        | inl b ↦ (let d : h.0 ≢ kept = omega arith in (h.0, (omega (arith, h.1.0), inl (omega arith), ap (λ (y : Watch). y.cref) (get_or-set_other list kept h.0 x no_watch d) ∙ h.1.2)))
        | inr b ↦ (let d : h.0 ≢ kept = λ e. n (omega arith) in (h.0, (omega (arith, h.1.0), inr (omega arith), ap (λ (y : Watch). y.cref) (get_or-set_other list kept h.0 x no_watch d) ∙ h.1.2)))
      ]
    ]

pub walked_kept : (w v live : List ℕ) (lists : List (List Watch)) (list : List Watch) (lit kept at count p l : ℕ) →
    AreLongClauses w live count → AreWatchedDuringWalk w live lists list lit kept at count → at < length list → p ≡ (get_or list at no_watch).cref →
    PermutesClause w v p → KeepsFirstTwo w v p → HasLit v p l →
    AreWatchedDuringWalk v live lists (set list kept (watch_on p l)) lit (kept + 1) (at + 1) count
walked_kept w v live lists list lit kept at count p l c h lt at_p e two has =
    let hp : Contains live p = subst (λ (z : ℕ). Contains live z) (sym at_p) (h.mine at lt).0 in
    let x : Watch = watch_on p l in
    let s : length (set list kept (watch_on p l)) ≡ length list = length-set list kept (watch_on p l) in
    let gap : kept ≤ at = h.gap in
    record {
      room = h.room;
      good = λ m q b. good_shuffled w v live count p (get_or (watches_of lists m) q no_watch) c hp e (h.good m q b);
      mine = λ q b. elim (cases_eq q kept) [
        | inl r ↦ subst (λ (z : Watch). IsSoundWatch v live z) (sym (ap (λ k. get_or (set list kept (watch_on p l)) k no_watch) r ∙ get_or-set_same list kept (watch_on p l) no_watch (omega arith))) (hp, has)
        | inr n ↦ subst (λ (z : Watch). IsSoundWatch v live z) (sym (get_or-set_other list kept q (watch_on p l) no_watch n))
            (good_shuffled w v live count p (get_or list q no_watch) c hp e (h.mine q (omega arith)))
      ];
      gap = omega arith;
      within = omega arith;
      both = λ o i ho hi.
          let m : (j : ℕ) × ((j < 2) × (lit_of v o i ≡ lit_of w o j)) = first_two w v live count p o c hp e ho two i hi in
          let n : negated (lit_of v o i) ≡ negated (lit_of w o m.0) = ap (λ z. negated z) m.1.1 in
          elim (h.both o m.0 ho m.1.0) [
            | inl t ↦ inl (n ∙ t.0, kept_watch list kept at o (watch_on p l) gap lt at_p t.1)
            | inr t ↦ inr (λ z. t.0 (sym n ∙ z), subst (λ (z : ℕ). HasWatch (watches_of lists z) o) (sym n) t.1)
          ];
    }

pub not_watched : (w : List ℕ) (p lit : ℕ) → lit_of w p 0 ≢ negated lit → lit_of w p 1 ≢ negated lit → (i : ℕ) → i < 2 → negated (lit_of w p i) ≢ lit
not_watched w p lit n0 n1 = at_two (λ i. negated (lit_of w p i) ≢ lit)
    (λ e. n0 (sym (negated_twice (lit_of w p 0)) ∙ ap (λ z. negated z) e))
    (λ e. n1 (sym (negated_twice (lit_of w p 1)) ∙ ap (λ z. negated z) e))

-- the watch at index `at` is dropped, because its clause does not watch the negation of lit
pub walked_stale : (w live : List ℕ) (lists : List (List Watch)) (list : List Watch) (lit kept at count p : ℕ) →
    AreWatchedDuringWalk w live lists list lit kept at count → at < length list → p ≡ (get_or list at no_watch).cref →
    lit_of w p 0 ≢ negated lit → lit_of w p 1 ≢ negated lit →
    AreWatchedDuringWalk w live lists list lit kept (at + 1) count
walked_stale w live lists list lit kept at count p h lt at_p n0 n1 =
    let gap : kept ≤ at = h.gap in
    record {
      room = h.room;
      good = h.good;
      mine = h.mine;
      gap = omega arith;
      within = omega arith;
      both = λ o i ho hi. elim (h.both o i ho hi) [
        | inl t ↦ elim (cases_eq t.1.0 at) [
          | inl r ↦
              let same : p ≡ o = at_p ∙ ap (λ q. (get_or list q no_watch).cref) (sym r) ∙ t.1.1.2 in
              absurd (not_watched w p lit n0 n1 i hi (ap (λ z. negated (lit_of w z i)) same ∙ t.0))
          | inr n ↦ inl (t.0, (t.1.0, (t.1.1.0, elim t.1.1.1 [ inl b ↦ inl b | inr b ↦ inr (omega arith) ], t.1.1.2)))
        ]
        | inr t ↦ inr t
      ];
    }

-- adding a watch keeps the other watches
pub more_watch : (lists : List (List Watch)) (m l o : ℕ) (x : Watch) → m < length lists → HasWatch (watches_of lists l) o → HasWatch (watches_of (lists_with_watch m x lists) l) o
more_watch lists m l o x lt h = elim (cases_eq l m) [
  | inl r ↦
      let e : watches_of (lists_with_watch m x lists) l ≡ watches_of lists l ++ x ∷ [] =
      ap (λ k. watches_of (lists_with_watch m x lists) k) r ∙ get_or-set_same lists m (watches_of lists m ++ x ∷ []) [] lt ∙ ap (λ k. watches_of lists k ++ x ∷ []) (sym r) in
      subst (λ (xs : List Watch). HasWatch xs o) (sym e)
      (h.0, (omega (arith, h.1.0, length-append (watches_of lists l) (x ∷ [])), ap (λ (y : Watch). y.cref) (get_or_append_left (watches_of lists l) (x ∷ []) no_watch h.0 h.1.0) ∙ h.1.1))
  | inr n ↦ subst (λ (xs : List Watch). HasWatch xs o) (sym (get_or-set_other lists m l (watches_of lists m ++ x ∷ []) [] n)) h
]

pub new_watch : (lists : List (List Watch)) (m : ℕ) (x : Watch) → m < length lists → HasWatch (watches_of (lists_with_watch m x lists) m) x.cref
new_watch lists m x lt =
    subst (λ (xs : List Watch). HasWatch xs x.cref) (sym (get_or-set_same lists m (watches_of lists m ++ x ∷ []) [] lt))
    (length (watches_of lists m), (omega (arith, length-append (watches_of lists m) (x ∷ [])), ap (λ (z : Watch). z.cref) (get_or_at (watches_of lists m) x [] no_watch (length (watches_of lists m)) refl)))

-- `AllGood w live xs` holds if every watch of the list is sound.
abbrev pub AllGood : List ℕ → List ℕ → List Watch → Type 0
AllGood w live xs = (p : ℕ) → p < length xs → IsSoundWatch w live (get_or xs p no_watch)

good_push : (w live : List ℕ) (xs : List Watch) (x : Watch) → AllGood w live xs → IsSoundWatch w live x → AllGood w live (xs ++ x ∷ [])
good_push w live xs x h g p q = elim (cases_eq p (length xs)) [
  | inl r ↦ subst (λ (z : Watch). IsSoundWatch w live z) (sym (get_or_at xs x [] no_watch p (sym r))) g
  | inr n ↦
      let b : p < length xs = omega (arith, length-append xs (x ∷ [])) in
      subst (λ (z : Watch). IsSoundWatch w live z) (sym (get_or_append_left xs (x ∷ []) no_watch p b)) (h p b)
]

pub good_lists : (w live : List ℕ) (lists : List (List Watch)) (m : ℕ) (x : Watch) → m < length lists → IsSoundWatch w live x →
    ((l : ℕ) → AllGood w live (watches_of lists l)) → (l : ℕ) → AllGood w live (watches_of (lists_with_watch m x lists) l)
good_lists w live lists m x lt g h l = elim (cases_eq l m) [
  | inl r ↦ subst (λ (z : ℕ). AllGood w live (watches_of (lists_with_watch m x lists) z)) (sym r)
      (subst (λ (z : List Watch). AllGood w live z) (sym (get_or-set_same lists m (watches_of lists m ++ x ∷ []) [] lt)) (good_push w live (watches_of lists m) x (h m) g))
  | inr n ↦ subst (λ (z : List Watch). AllGood w live z) (sym (get_or-set_other lists m l (watches_of lists m ++ x ∷ []) [] n)) (h l)
]

first_second : (ls : List ℕ) → AreDistinct ls → 2 ≤ length ls → get_or ls 0 0 ≡ get_or ls 1 0 → ⊥
first_second ls d long e = zero_one 0 1 refl refl (d 0 1 (omega arith) (omega arith) e)
  where
    zero_one : (a b : ℕ) → a ≡ 0 → b ≡ 1 → a ≡ b → ⊥
    zero_one a b p q r = omega arith

-- after a visit, the first literal is not the negation of lit, because the clause has no literal twice
pub first_other : (w v : List ℕ) (p lit : ℕ) → AreDistinct (lits_at w p) → 2 ≤ size_of w p → PutsOtherWatchFirst w v p (negated lit) → negated (lit_of v p 0) ≢ lit
first_other w v p lit d long other r =
    let fl : lit_of v p 0 ≡ negated lit = sym (negated_twice (lit_of v p 0)) ∙ ap (λ z. negated z) r in
    elim other [
      | inl s ↦ first_second (lits_at w p) d long (sym s.1 ∙ fl ∙ sym s.0)
      | inr s ↦ first_second (lits_at w p) d long (s.0 ∙ sym fl ∙ s.1)
    ]

-- the watch at index `at` is dropped, and its clause watches its new second literal instead
pub walked_moved : (w v live : List ℕ) (lists : List (List Watch)) (list : List Watch) (lit kept at count p : ℕ) →
    AreLongClauses w live count → AreLongClauses v live count → AreWatchedDuringWalk w live lists list lit kept at count → at < length list → p ≡ (get_or list at no_watch).cref →
    PermutesClause w v p → PutsOtherWatchFirst w v p (negated lit) → negated (lit_of v p 1) ≢ lit →
    AreWatchedDuringWalk v live (lists_with_watch (negated (lit_of v p 1)) (watch_on p (lit_of v p 0)) lists) list lit kept (at + 1) count
walked_moved w v live lists list lit kept at count p c c' h lt at_p e other new =
    let hp : Contains live p = subst (λ (z : ℕ). Contains live z) (sym at_p) (h.mine at lt).0 in
    let gap : kept ≤ at = h.gap in
    let long : 3 ≤ size_of v p = c'.long p hp in
    let long' : 3 ≤ size_of w p = c.long p hp in
    let b : lit_of v p 1 < 2 * count = c'.below p 1 hp (omega arith) in
    let room : length lists ≡ 2 * count = h.room in
    let m : ℕ = negated (lit_of v p 1) in
    let in_lists : negated (lit_of v p 1) < length lists = omega arith in
    let x : Watch = watch_on p (lit_of v p 0) in
    let good : IsSoundWatch v live (watch_on p (lit_of v p 0)) = (hp, (0, (omega arith, refl))) in
    let first_ne : negated (lit_of v p 0) ≢ lit = first_other w v p lit (c.distinct p hp) (omega arith) other in
    let lists' : List (List Watch) = lists_with_watch (negated (lit_of v p 1)) (watch_on p (lit_of v p 0)) lists in
    let W : ℕ → ℕ → Type 0 = λ o i. ((negated (lit_of v o i) ≡ lit) × HasWatchOutside list kept (at + 1) o) ⊎ ((negated (lit_of v o i) ≢ lit) × HasWatch (watches_of lists' (negated (lit_of v o i))) o) in
    let old : (j : ℕ) → j < 2 → lit_of v p 0 ≡ lit_of w p j → HasWatch (watches_of lists (negated (lit_of v p 0))) p = λ j hj q.
    elim (h.both p j hp hj) [
      | inl t ↦ absurd (first_ne (ap (λ z. negated z) q ∙ t.0))
      | inr t ↦ subst (λ (z : ℕ). HasWatch (watches_of lists (negated z)) p) (sym q) t.1
    ] in
    let w0 : W p 0 = inr (
      first_ne,
      more_watch lists (negated (lit_of v p 1)) (negated (lit_of v p 0)) p x in_lists
          (elim other [ inl s ↦ old 0 (omega arith) s.1 | inr s ↦ old 1 (omega arith) s.1 ]),
    ) in
    let w1 : W p 1 = inr (new, new_watch lists (negated (lit_of v p 1)) x in_lists) in
    record {
      room = length-set lists (negated (lit_of v p 1)) (watches_of lists (negated (lit_of v p 1)) ++ x ∷ []) ∙ h.room;
      good = good_lists v live lists (negated (lit_of v p 1)) x in_lists good (λ l2 p2 q2. good_shuffled w v live count p (get_or (watches_of lists l2) p2 no_watch) c hp e (h.good l2 p2 q2));
      mine = λ p2 q2. good_shuffled w v live count p (get_or list p2 no_watch) c hp e (h.mine p2 q2);
      gap = omega arith;
      within = omega arith;
      both = λ o i ho hi. elim (cases_eq p o) [
        | inl r ↦ subst (λ (z : ℕ). W z i) r (at_two (λ j. W p j) w0 w1 i hi)
        | inr n ↦
            let k : lit_of v o i ≡ lit_of w o i = ap (λ (ls : List ℕ). get_or ls i 0) (same_lits w v live count p o c hp e ho n) in
            let nk : negated (lit_of v o i) ≡ negated (lit_of w o i) = ap (λ z. negated z) k in
            elim (h.both o i ho hi) [
              | inl t ↦
                  let d : t.1.0 ≢ at = λ z. n (at_p ∙ ap (λ q. (get_or list q no_watch).cref) (sym z) ∙ t.1.1.2) in
                  inl (nk ∙ t.0, (t.1.0, (t.1.1.0, elim t.1.1.1 [ inl y ↦ inl y | inr y ↦ inr (omega arith) ], t.1.1.2)))
              | inr t ↦ inr (λ z. t.0 (sym nk ∙ z), subst (λ (z : ℕ). HasWatch (watches_of lists' z) o) (sym nk) (more_watch lists (negated (lit_of v p 1)) (negated (lit_of w o i)) o x in_lists t.1))
            ]
      ];
    }

-- the watches that stay, and those from index `at` on
abbrev pub cut : ℕ → ℕ → List Watch → List Watch
cut kept at list = take kept list ++ drop at list

cut_length : (kept at : ℕ) (list : List Watch) → kept ≤ at → at ≤ length list → length (cut kept at list) ≡ kept + (length list - at)
cut_length kept at list gap within =
    let a : length (take kept list) ≡ kept = length-take-le kept list (omega arith) in
    let b : length (drop at list) ≡ length list - at = length-drop at list in
    omega (arith, length-append (take kept list) (drop at list))

cut_front : (kept at : ℕ) (list : List Watch) (p : ℕ) → kept ≤ length list → p < kept → get_or (cut kept at list) p no_watch ≡ get_or list p no_watch
cut_front kept at list p gap lt =
    let a : length (take kept list) ≡ kept = length-take-le kept list gap in
    get_or_append_left (take kept list) (drop at list) no_watch p (omega arith) ∙ get_or-take kept list p no_watch lt

cut_back : (kept at : ℕ) (list : List Watch) (p : ℕ) → kept ≤ length list → get_or (cut kept at list) (kept + p) no_watch ≡ get_or list (at + p) no_watch
cut_back kept at list p gap =
    let a : length (take kept list) ≡ kept = length-take-le kept list gap in
    ap (λ k. get_or (cut kept at list) (k + p) no_watch) (sym a)
    ∙ get_or-append-add (take kept list) (drop at list) p no_watch
    ∙ get_or-drop at list p no_watch

cut_has : (kept at o : ℕ) (list : List Watch) → kept ≤ at → at ≤ length list → HasWatchOutside list kept at o → HasWatch (cut kept at list) o
cut_has kept at o list gap within h =
    let n : length (cut kept at list) ≡ kept + (length list - at) = cut_length kept at list gap within in
    elim h.1.1 [
      | inl b ↦ (h.0, (omega (arith, h.1.0), ap (λ (y : Watch). y.cref) (cut_front kept at list h.0 (omega arith) b) ∙ h.1.2))
      | inr b ↦
          let q : at + (h.0 - at) ≡ h.0 = omega arith in
          (kept + (h.0 - at), (omega (arith, h.1.0), ap (λ (y : Watch). y.cref) (cut_back kept at list (h.0 - at) (omega arith) ∙ ap (λ k. get_or list k no_watch) q) ∙ h.1.2))
    ]

cut_good : (w live : List ℕ) (kept at : ℕ) (list : List Watch) → kept ≤ at → at ≤ length list → AllGood w live list → AllGood w live (cut kept at list)
cut_good w live kept at list gap within g p b =
    let n : length (cut kept at list) ≡ kept + (length list - at) = cut_length kept at list gap within in
    elim (cases_lt p kept) [
      | inl lt ↦ subst (λ (z : Watch). IsSoundWatch w live z) (sym (cut_front kept at list p (omega arith) lt)) (g p (omega arith))
      | inr le ↦
          let q : kept + (p - kept) ≡ p = omega arith in
          subst (λ (z : Watch). IsSoundWatch w live z) (sym (ap (λ k. get_or (cut kept at list) k no_watch) (sym q) ∙ cut_back kept at list (p - kept) (omega arith)))
          (g (at + (p - kept)) (omega arith))
    ]

-- the walked list is put back without the dropped watches
pub walked_close : (w live : List ℕ) (lists : List (List Watch)) (list : List Watch) (lit kept at count : ℕ) →
    AreWatchedDuringWalk w live lists list lit kept at count → lit < 2 * count →
    AreWatched w live (set lists lit (cut kept at list)) count
walked_close w live lists list lit kept at count h small =
    let room : length lists ≡ 2 * count = h.room in
    let in_lists : lit < length lists = omega arith in
    let there : watches_of (set lists lit (cut kept at list)) lit ≡ cut kept at list = get_or-set_same lists lit (cut kept at list) [] in_lists in
    record {
      room = length-set lists lit (cut kept at list) ∙ h.room;
      good = λ l. elim (cases_eq l lit) [
        | inl r ↦ subst (λ (z : ℕ). AllGood w live (watches_of (set lists lit (cut kept at list)) z)) (sym r)
            (subst (λ (z : List Watch). AllGood w live z) (sym there) (cut_good w live kept at list h.gap h.within h.mine))
        | inr n ↦ subst (λ (z : List Watch). AllGood w live z) (sym (get_or-set_other lists lit l (cut kept at list) [] n)) (h.good l)
      ];
      both = λ o i ho hi. elim (h.both o i ho hi) [
        | inl t ↦ subst (λ (z : ℕ). HasWatch (watches_of (set lists lit (cut kept at list)) z) o) (sym t.0)
            (subst (λ (z : List Watch). HasWatch z o) (sym there) (cut_has kept at o list h.gap h.within t.1))
        | inr t ↦ subst (λ (z : List Watch). HasWatch z o) (sym (get_or-set_other lists lit (negated (lit_of w o i)) (cut kept at list) [] t.0)) t.1
      ];
    }

-- the watches of a literal are taken out
pub walked_open : (w live : List ℕ) (lists : List (List Watch)) (lit count : ℕ) → AreWatched w live lists count → lit < 2 * count →
    AreWatchedDuringWalk w live (set lists lit []) (watches_of lists lit) lit 0 0 count
walked_open w live lists lit count h small =
    let room : length lists ≡ 2 * count = h.room in
    let in_lists : lit < length lists = omega arith in
    let there : watches_of (set lists lit []) lit ≡ [] = get_or-set_same lists lit [] [] in_lists in
    record {
      room = length-set lists lit [] ∙ h.room;
      good = λ l. elim (cases_eq l lit) [
        | inl r ↦ subst (λ (z : ℕ). AllGood w live (watches_of (set lists lit []) z)) (sym r)
            (subst (λ (z : List Watch). AllGood w live z) (sym there) (λ p b. absurd (omega arith)))
        | inr n ↦ subst (λ (z : List Watch). AllGood w live z) (sym (get_or-set_other lists lit l [] [] n)) (h.good l)
      ];
      mine = h.good lit;
      gap = omega arith;
      within = omega arith;
      both = λ o i ho hi. elim (cases_eq (negated (lit_of w o i)) lit) [
        | inl r ↦
            let x : HasWatch (watches_of lists lit) o = subst (λ (z : ℕ). HasWatch (watches_of lists z) o) r (h.both o i ho hi) in
            inl (r, (x.0, (x.1.0, inr (omega arith), x.1.1)))
        | inr n ↦ inr (n, subst (λ (z : List Watch). HasWatch z o) (sym (get_or-set_other lists lit (negated (lit_of w o i)) [] [] n)) (h.both o i ho hi))
      ];
    }
