-- Swapping literals preserves the properties of clauses.
use Rattle.std.proofs.Common.{ℕ, ◌≡◌, ◌≢◌, ◌+◌, ◌-◌, ◌<◌, ◌≤◌, ◌⊎◌, ◌==◌, inl, inr, List, length, get_or, set, refl, sym, ap, ◌∙◌, subst, arith, length-set, get_or-set_same, get_or-set_other, if◌then◌else◌}
use Rattle.std.proofs.lemmas.Bool.{cases_eq}
use Rattle.std.proofs.lemmas.Bool.Decides.{nat_tests}
use Rattle.std.proofs.lemmas.List.{set-get_or}
use Rattle.std.proofs.lemmas.List.Edits.{swap_is}
use Rattle.std.proofs.lemmas.List.Sorted.{IsPermutation-refl, IsPermutation-trans, IsPermutation-swap}
use Rattle.std.specs.List.{Contains}
use Rattle.sat_store.specs.clause.Buffer.{IsClause, SameClauseAt, ChangesClauseAt, header_at, lits_at, swapped}
use Rattle.sat_parts.specs.clause.Orders.{IsReordering, PermutesClause, SameUpToOrder, PermutesClauses}
use Rattle.sat_parts.specs.clause.Stored.{AreLongClauses, lit_of, size_of}

-- the index, before i and j were swapped, of the literal now at k
abbrev pub other : ℕ → ℕ → ℕ → ℕ
other i j k = if k == j then i else (if k == i then j else k)

other_below : (i j k n : ℕ) → i < n → j < n → k < n → other i j k < n
other_below i j k n p q h = grind (arith, nat_tests)

other_other : (i j k : ℕ) → other i j (other i j k) ≡ k
other_other i j k = grind (arith, nat_tests)

at_second : (ls : List ℕ) (i j : ℕ) → j < length ls → get_or (swapped ls i j) j 0 ≡ get_or ls i 0
at_second ls i j q =
    let s : length (set ls i (get_or ls j 0)) ≡ length ls = length-set ls i (get_or ls j 0) in
    get_or-set_same (set ls i (get_or ls j 0)) j (get_or ls i 0) 0 (omega arith)

at_first : (ls : List ℕ) (i j : ℕ) → i < length ls → i ≢ j → get_or (swapped ls i j) i 0 ≡ get_or ls j 0
at_first ls i j p n =
    get_or-set_other (set ls i (get_or ls j 0)) j i (get_or ls i 0) 0 n ∙ get_or-set_same ls i (get_or ls j 0) 0 p

at_rest : (ls : List ℕ) (i j k : ℕ) → k ≢ i → k ≢ j → get_or (swapped ls i j) k 0 ≡ get_or ls k 0
at_rest ls i j k n m =
    get_or-set_other (set ls i (get_or ls j 0)) j k (get_or ls i 0) 0 m ∙ get_or-set_other ls i k (get_or ls j 0) 0 n

other_second : (i j k : ℕ) → k ≡ j → other i j k ≡ i
other_second i j k e = grind (arith, nat_tests)

other_first : (i j k : ℕ) → k ≡ i → (k ≡ j → ⊥) → other i j k ≡ j
other_first i j k e n = grind (arith, nat_tests)

other_rest : (i j k : ℕ) → (k ≡ i → ⊥) → (k ≡ j → ⊥) → other i j k ≡ k
other_rest i j k n m = grind (arith, nat_tests)

-- the literal at a position after two literals were swapped
pub swapped_at : (ls : List ℕ) (i j k : ℕ) → i < length ls → j < length ls → get_or (swapped ls i j) k 0 ≡ get_or ls (other i j k) 0
swapped_at ls i j k p q = elim (cases_eq k j) [
  | inl e ↦ ap (λ x. get_or (swapped ls i j) x 0) e ∙ at_second ls i j q ∙ ap (λ x. get_or ls x 0) (sym (other_second i j k e))
  | inr n ↦ elim (cases_eq k i) [
    | inl e ↦
        let m : i ≢ j = λ r. n (e ∙ r) in
        ap (λ x. get_or (swapped ls i j) x 0) e ∙ at_first ls i j p m ∙ ap (λ x. get_or ls x 0) (sym (other_first i j k e n))
    | inr m ↦ at_rest ls i j k m n ∙ ap (λ x. get_or ls x 0) (sym (other_rest i j k m n))
  ]
]

pub swapped_length : (ls : List ℕ) (i j : ℕ) → length (swapped ls i j) ≡ length ls
swapped_length ls i j = length-set (set ls i (get_or ls j 0)) j (get_or ls i 0) ∙ length-set ls i (get_or ls j 0)

pub shuffled_swapped : (ls : List ℕ) (i j : ℕ) → i < length ls → j < length ls → IsReordering ls (swapped ls i j)
shuffled_swapped ls i j p q = record {
  order = IsPermutation-swap ls (swapped ls i j) i j p q (swap_is ls i j 0 p q);
  size = swapped_length ls i j;
  forth = λ k h. (other i j k, (other_below i j k (length ls) p q h, swapped_at ls i j (other i j k) p q ∙ ap (λ x. get_or ls x 0) (other_other i j k)));
  back = λ k h. (other i j k, (other_below i j k (length ls) p q h, sym (swapped_at ls i j k p q)));
  apart = λ d a b ha hb e.
      let s : length (swapped ls i j) ≡ length ls = swapped_length ls i j in
      let x : other i j a ≡ other i j b =
      d (other i j a) (other i j b) (other_below i j a (length ls) p q (omega arith)) (other_below i j b (length ls) p q (omega arith))
      (sym (swapped_at ls i j a p q) ∙ e ∙ swapped_at ls i j b p q) in
      sym (other_other i j a) ∙ ap (λ y. other i j y) x ∙ other_other i j b;
}

pub shuffled_refl : (ls : List ℕ) → IsReordering ls ls
shuffled_refl ls = record {
  order = IsPermutation-refl ls;
  size = refl;
  forth = λ k h. (k, (h, refl));
  back = λ k h. (k, (h, refl));
  apart = λ d. d;
}

pub shuffled_trans : (ls ms ns : List ℕ) → IsReordering ls ms → IsReordering ms ns → IsReordering ls ns
shuffled_trans ls ms ns a b =
    let e : length ms ≡ length ls = a.size in
    record {
      order = IsPermutation-trans ls ms ns a.order b.order;
      size = b.size ∙ a.size;
      forth = λ k h.
          let m : (j : ℕ) × ((j < length ls) × (get_or ms j 0 ≡ get_or ls k 0)) = a.forth k h in
          let r : (j : ℕ) × ((j < length ms) × (get_or ns j 0 ≡ get_or ms m.0 0)) = b.forth m.0 (omega (arith, m.1.0)) in
          (r.0, (omega (arith, r.1.0), r.1.1 ∙ m.1.1));
      back = λ k h.
          let m : (j : ℕ) × ((j < length ms) × (get_or ms j 0 ≡ get_or ns k 0)) = b.back k (omega arith) in
          let r : (j : ℕ) × ((j < length ls) × (get_or ls j 0 ≡ get_or ms m.0 0)) = a.back m.0 (omega (arith, m.1.0)) in
          (r.0, (r.1.0, r.1.1 ∙ m.1.1));
      apart = λ d. b.apart (a.apart d);
    }

pub shuffled_eq : (ls ms : List ℕ) → ms ≡ ls → IsReordering ls ms
shuffled_eq ls ms e = subst (λ (x : List ℕ). IsReordering ls x) (sym e) (shuffled_refl ls)

pub shuffles_refl : (words : List ℕ) (o : ℕ) → IsClause words o → PermutesClause words words o
shuffles_refl words o c = record {
  size = refl;
  clause = c;
  header = refl;
  lits = shuffled_refl (lits_at words o);
  holds_clauses = λ refs h l. l;
  others = λ refs p h l g n. record { clause = l.clauses p g; header = refl; lits = refl };
}

pub shuffles_trans : (a b c : List ℕ) (o : ℕ) → PermutesClause a b o → PermutesClause b c o → PermutesClause a c o
shuffles_trans a b c o x y = record {
  size = y.size ∙ x.size;
  clause = y.clause;
  header = y.header ∙ x.header;
  lits = shuffled_trans (lits_at a o) (lits_at b o) (lits_at c o) x.lits y.lits;
  holds_clauses = λ refs h l. y.holds_clauses refs h (x.holds_clauses refs h l);
  others = λ refs p h l g n.
      let f : SameClauseAt a b p = x.others refs p h l g n in
      let s : SameClauseAt b c p = y.others refs p h (x.holds_clauses refs h l) g n in
      record { clause = s.clause; header = s.header ∙ f.header; lits = s.lits ∙ f.lits };
}

-- `swap_lits` permutes the literals of one clause
pub shuffles_swap : (a b : List ℕ) (o i j : ℕ) → i < size_of a o → j < size_of a o →
    header_at b o ≡ header_at a o → lits_at b o ≡ swapped (lits_at a o) i j → ChangesClauseAt a b o → PermutesClause a b o
shuffles_swap a b o i j p q e f c = record {
  size = c.size;
  clause = c.clause;
  header = e;
  lits = subst (λ (x : List ℕ). IsReordering (lits_at a o) x) (sym f) (shuffled_swapped (lits_at a o) i j p q);
  holds_clauses = λ refs h l. c.holds_clauses refs h l;
  others = λ refs p h l g n. c.others p (l.clauses p g) (l.apart o p h g n);
}

-- two literals of a clause, written one after the other, so that its literals are only reordered
pub shuffles_two : (a m b : List ℕ) (o : ℕ) → header_at m o ≡ header_at a o → ChangesClauseAt a m o → header_at b o ≡ header_at m o → ChangesClauseAt m b o →
    IsReordering (lits_at a o) (lits_at b o) → PermutesClause a b o
shuffles_two a m b o e c f d lits = record {
  size = d.size ∙ c.size;
  clause = d.clause;
  header = f ∙ e;
  lits = lits;
  holds_clauses = λ refs h l. d.holds_clauses refs h (c.holds_clauses refs h l);
  others = λ refs p h l g n.
      let first : SameClauseAt a m p = c.others p (l.clauses p g) (l.apart o p h g n) in
      let second : SameClauseAt m b p = d.others p first.clause ((c.holds_clauses refs h l).apart o p h g n) in
      record { clause = second.clause; header = second.header ∙ first.header; lits = second.lits ∙ first.lits };
}

-- the second literal of a clause is swapped with the one at a later position
pub shuffles_second : (a m b : List ℕ) (o second found at : ℕ) → 2 ≤ at → at < size_of a o → lit_of a o 1 ≡ second → found ≡ lit_of a o at →
    header_at m o ≡ header_at a o → lits_at m o ≡ set (lits_at a o) 1 found → ChangesClauseAt a m o →
    header_at b o ≡ header_at m o → lits_at b o ≡ set (lits_at m o) at second → ChangesClauseAt m b o →
    PermutesClause a b o
shuffles_second a m b o second found at following within is there e l c f k d =
    let swap : lits_at b o ≡ swapped (lits_at a o) 1 at = k ∙ ap (λ (x : List ℕ). set x at second) l ∙ rw (there, ← is) refl in
    shuffles_two a m b o e c f d (subst (λ (x : List ℕ). IsReordering (lits_at a o) x) (sym swap) (shuffled_swapped (lits_at a o) 1 at (omega arith) within))

first_two_written : (ls : List ℕ) (code other : ℕ) → 2 ≤ length ls → ((get_or ls 1 0 ≡ code) × (get_or ls 0 0 ≡ other)) ⊎ ((get_or ls 0 0 ≡ code) × (get_or ls 1 0 ≡ other)) →
    IsReordering ls (set (set ls 0 other) 1 code)
first_two_written ls code other long either = elim either [
  | inl h ↦ shuffled_eq ls (set (set ls 0 other) 1 code) (rw (← h.1, ← h.0, set-get_or ls 0 0) (set-get_or ls 1 0))
  | inr h ↦
      let e : swapped ls 0 1 ≡ set (set ls 0 other) 1 code = rw (h.1, h.0) refl in
      subst (λ (x : List ℕ). IsReordering ls x) e (shuffled_swapped ls 0 1 (omega arith) (omega arith))
]

-- one of the first two literals is written to the second position, and the other one to the first
pub shuffles_oriented : (a m b : List ℕ) (o code other : ℕ) → 2 ≤ size_of a o → (lit_of a o 0 ≡ code) ⊎ (lit_of a o 1 ≡ code) → other ≡ lit_of a o 0 + lit_of a o 1 - code →
    header_at m o ≡ header_at a o → lits_at m o ≡ set (lits_at a o) 0 other → ChangesClauseAt a m o →
    header_at b o ≡ header_at m o → lits_at b o ≡ set (lits_at m o) 1 code → ChangesClauseAt m b o →
    PermutesClause a b o
shuffles_oriented a m b o code other long one is e l c f k d =
    let new : lits_at b o ≡ set (set (lits_at a o) 0 other) 1 code = k ∙ ap (λ (x : List ℕ). set x 1 code) l in
    let either : ((lit_of a o 1 ≡ code) × (lit_of a o 0 ≡ other)) ⊎ ((lit_of a o 0 ≡ code) × (lit_of a o 1 ≡ other)) = elim one [
      | inl h ↦ inr (h, omega arith)
      | inr h ↦ inl (h, omega arith)
    ] in
    shuffles_two a m b o e c f d (subst (λ (x : List ℕ). IsReordering (lits_at a o) x) (sym new) (first_two_written (lits_at a o) code other long either))

pub reorders_refl : (words live : List ℕ) → PermutesClauses words words live
reorders_refl words live = record {
  size = refl;
  all = λ refs h l. record { holds_clauses = l; headers = λ o g. refl; lits = λ o g. shuffled_refl (lits_at words o) };
}

pub reorders_trans : (a b c live : List ℕ) → PermutesClauses a b live → PermutesClauses b c live → PermutesClauses a c live
reorders_trans a b c live x y = record {
  size = y.size ∙ x.size;
  all = λ refs h l.
      let f : SameUpToOrder a b refs = x.all refs h l in
      let s : SameUpToOrder b c refs = y.all refs h f.holds_clauses in
      record {
        holds_clauses = s.holds_clauses;
        headers = λ o g. s.headers o g ∙ f.headers o g;
        lits = λ o g. shuffled_trans (lits_at a o) (lits_at b o) (lits_at c o) (f.lits o g) (s.lits o g);
      };
}

pub reorders_one : (a b live : List ℕ) (o : ℕ) → Contains live o → PermutesClause a b o → PermutesClauses a b live
reorders_one a b live o g s = record {
  size = s.size;
  all = λ refs h l. record {
    holds_clauses = s.holds_clauses refs (h o g) l;
    headers = λ p k. elim (cases_eq o p) [
      | inl e ↦ subst (λ (x : ℕ). header_at b x ≡ header_at a x) e s.header
      | inr n ↦ (s.others refs p (h o g) l k n).header
    ];
    lits = λ p k. elim (cases_eq o p) [
      | inl e ↦ subst (λ (x : ℕ). IsReordering (lits_at a x) (lits_at b x)) e s.lits
      | inr n ↦ shuffled_eq (lits_at a p) (lits_at b p) (s.others refs p (h o g) l k n).lits
    ];
  };
}

-- permuting the literals of clauses preserves `AreLongClauses`
pub kept_clauses : (a b live : List ℕ) (count : ℕ) → AreLongClauses a live count → PermutesClauses a b live → AreLongClauses b live count
kept_clauses a b live count h r =
    let k : SameUpToOrder a b live = r.all live (λ o g. g) h.holds_clauses in
    record {
      holds_clauses = k.holds_clauses;
      long = λ o g. let s : size_of b o ≡ size_of a o = (k.lits o g).size in omega (arith, h.long o g);
      below = λ o i g q.
          let s : size_of b o ≡ size_of a o = (k.lits o g).size in
          let m : (j : ℕ) × ((j < size_of a o) × (lit_of a o j ≡ lit_of b o i)) = (k.lits o g).back i (omega arith) in
          omega (arith, h.below o m.0 g m.1.0, m.1.1);
      distinct = λ o g. (k.lits o g).apart (h.distinct o g);
    }

-- a bound on the literals of a clause holds after they were permuted
pub below_shuffled : (a b : List ℕ) (o n : ℕ) → PermutesClause a b o → ((k : ℕ) → k < size_of a o → lit_of a o k < n) → (k : ℕ) → k < size_of b o → lit_of b o k < n
below_shuffled a b o n e h k p =
    let s : size_of b o ≡ size_of a o = e.lits.size in
    let m : (j : ℕ) × ((j < size_of a o) × (lit_of a o j ≡ lit_of b o k)) = e.lits.back k (omega arith) in
    omega (arith, h m.0 m.1.0, m.1.1)
