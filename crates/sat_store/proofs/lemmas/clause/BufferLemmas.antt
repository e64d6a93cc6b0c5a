-- The effect of writes to the buffer on the clauses in it.
use Rattle.std.proofs.Common.{◌≡◌, ◌≢◌, ◌-◌, ℕ, zero, suc, append_assoc, ◌+◌, ◌*◌, ◌^◌, ◌<◌, ◌≤◌, inl, inr, List, [], ◌∷◌, ◌++◌, length, get_or, set, take, drop, refl, sym, ap, ◌∙◌, subst, arith, length-append, length-drop}
use Rattle.std.proofs.lemmas.List.{take_all, get_or_read, take_more, length-take-le, get_or-take, get_or-drop, get_or_append_left, get_or-append-add, ext_get_or, get_or-set_same, get_or-set_other, length-set, drop-set-add, get_or_past}
use Rattle.std.proofs.Math.Seq.{take-set-lt, take-append_seam}
use Rattle.std.proofs.lemmas.List.Elements.{Contains-append_cases, All-more}
use Rattle.std.proofs.lemmas.Bool.{cases_eq, cases_lt}
use Rattle.std.specs.List.{Contains, All}
use Rattle.sat_base.specs.values.Literals.{var_limit}
use Rattle.sat_store.specs.clause.Header.{Header, header_of}
use Rattle.sat_store.specs.clause.Buffer.{header_at, lits_at, IsClause, HaveNoCommonWord, HoldsClauses, SameClauseAt, ChangesClauseAt, AppendsClause}

-- the number of literals of a clause is the length in its header

pub lits_count : (w : List ℕ) (o : ℕ) → IsClause w o → length (lits_at w o) ≡ get_or w (o + 2) 0
unfolding lits_at
lits_count w o c = length-take-le (get_or w (o + 2) 0) (drop (o + 3) w) (omega (arith, length-drop (o + 3) w, c.whole))

-- literal k of a clause is the word after its header and k literals
pub lit_there : (w : List ℕ) (o k : ℕ) → k < get_or w (o + 2) 0 → get_or (lits_at w o) k 0 ≡ get_or w (o + 3 + k) 0
unfolding lits_at
lit_there w o k small = get_or-take (get_or w (o + 2) 0) (drop (o + 3) w) k 0 small ∙ get_or-drop (o + 3) w k 0

pub header_len : (w : List ℕ) (o : ℕ) → (header_at w o).len ≡ get_or w (o + 2) 0
unfolding header_at
header_len w o = refl

-- two clauses with the same words have the same literals

same_lits : (v w : List ℕ) (o p : ℕ) → IsClause v o → IsClause w p → get_or w (p + 2) 0 ≡ get_or v (o + 2) 0 → ((k : ℕ) → k < get_or v (o + 2) 0 → get_or w (p + 3 + k) 0 ≡ get_or v (o + 3 + k) 0) → lits_at w p ≡ lits_at v o
same_lits v w o p c d n e =
    let lw : length (lits_at w p) ≡ get_or w (p + 2) 0 = lits_count w p d in
    let lv : length (lits_at v o) ≡ get_or v (o + 2) 0 = lits_count v o c in
    ext_get_or 0 (lits_at w p) (lits_at v o) (lw ∙ n ∙ sym lv)
    (λ k h. lit_there w p k (omega arith) ∙ e k (omega arith) ∙ sym (lit_there v o k (omega arith)))

-- a clause whose words are unchanged is unchanged
pub kept : (v w : List ℕ) (p : ℕ) → IsClause v p → length v ≤ length w → ((i : ℕ) → p ≤ i → i < p + 3 + get_or v (p + 2) 0 → get_or w i 0 ≡ get_or v i 0) → SameClauseAt v w p
unfolding header_at
kept v w p c longer same =
    let e0 : get_or w p 0 ≡ get_or v p 0 = same p (omega arith) (omega arith) in
    let e1 : get_or w (p + 1) 0 ≡ get_or v (p + 1) 0 = same (p + 1) (omega arith) (omega arith) in
    let e2 : get_or w (p + 2) 0 ≡ get_or v (p + 2) 0 = same (p + 2) (omega arith) (omega arith) in
    let ls : (k : ℕ) → k < get_or v (p + 2) 0 → get_or w (p + 3 + k) 0 ≡ get_or v (p + 3 + k) 0 = λ k h. same (p + 3 + k) (omega arith) (omega arith) in
    let clause : IsClause w p = record {
      flags = omega (arith, c.flags);
      whole = omega (arith, c.whole);
      lits = λ k h. omega (arith, ls k (omega arith), c.lits k (omega arith));
    } in
    record {
      clause = clause;
      header = rw (e0, e1, e2) refl;
      lits = same_lits v w p p c clause e2 ls;
    }

same_len : (v w : List ℕ) (p : ℕ) → SameClauseAt v w p → get_or w (p + 2) 0 ≡ get_or v (p + 2) 0
same_len v w p keeps = sym (header_len w p) ∙ ap (λ (h : Header). h.len) keeps.header ∙ header_len v p

still_apart : (v w : List ℕ) (p q : ℕ) → HaveNoCommonWord v p q → get_or w (p + 2) 0 ≤ get_or v (p + 2) 0 → get_or w (q + 2) 0 ≤ get_or v (q + 2) 0 → HaveNoCommonWord w p q
unfolding HaveNoCommonWord
still_apart v w p q apart a b = elim apart [ inl before ↦ inl (omega arith) | inr following ↦ inr (omega arith) ]

-- writing only words of the clause at o changes no clause that shares no word with it
pub others_kept : (v w : List ℕ) (o : ℕ) → length w ≡ length v → ((i : ℕ) → i < o → get_or w i 0 ≡ get_or v i 0) → ((i : ℕ) → o + 3 + get_or v (o + 2) 0 ≤ i → get_or w i 0 ≡ get_or v i 0) → (p : ℕ) → IsClause v p → HaveNoCommonWord v o p → SameClauseAt v w p
unfolding HaveNoCommonWord
others_kept v w o size below above p c apart = elim apart [
  | inl before ↦ kept v w p c (omega arith) (λ i h k. above i (omega arith))
  | inr following ↦ kept v w p c (omega arith) (λ i h k. below i (omega arith))
]

-- a write that changes only words of the clause at o, and does not lengthen the clause
pub changes_at : (v w : List ℕ) (o : ℕ) → IsClause v o → IsClause w o → length w ≡ length v → get_or w (o + 2) 0 ≤ get_or v (o + 2) 0 → ((i : ℕ) → i < o → get_or w i 0 ≡ get_or v i 0) → ((i : ℕ) → o + 3 + get_or v (o + 2) 0 ≤ i → get_or w i 0 ≡ get_or v i 0) → ChangesClauseAt v w o
changes_at v w o was now size shorter below above =
    let others : (p : ℕ) → IsClause v p → HaveNoCommonWord v o p → SameClauseAt v w p = others_kept v w o size below above in
    let no_longer : (live : List ℕ) → Contains live o → HoldsClauses v live → (p : ℕ) → Contains live p → get_or w (p + 2) 0 ≤ get_or v (p + 2) 0 = λ live has holds_clauses p c. elim (cases_eq p o) [
      | inl same ↦ subst (λ (x : ℕ). get_or w (x + 2) 0 ≤ get_or v (x + 2) 0) (sym same) shorter
      | inr other ↦ omega (arith, same_len v w p (others p (holds_clauses.clauses p c) (holds_clauses.apart o p has c (λ e. other (sym e)))))
    ] in
    record {
      clause = now;
      size = size;
      others = others;
      holds_clauses = λ live has holds_clauses. record {
        clauses = λ p c. elim (cases_eq p o) [ inl same ↦ subst (IsClause w) (sym same) now | inr other ↦ (others p (holds_clauses.clauses p c) (holds_clauses.apart o p has c (λ e. other (sym e)))).clause ];
        apart = λ p q hp hq differ. still_apart v w p q (holds_clauses.apart p q hp hq differ) (no_longer live has holds_clauses p hp) (no_longer live has holds_clauses q hq);
      };
    }

-- writing one literal

at_other : (w : List ℕ) (i j x : ℕ) → j ≢ i → get_or (set w i x) j 0 ≡ get_or w j 0
at_other w i j x differ = get_or-set_other w i j x 0 differ

pub lit_set : (w : List ℕ) (o k x : ℕ) → k < get_or w (o + 2) 0 → lits_at (set w (o + 3 + k) x) o ≡ set (lits_at w o) k x
unfolding lits_at
lit_set w o k x within =
    let n : get_or (set w (o + 3 + k) x) (o + 2) 0 ≡ get_or w (o + 2) 0 = at_other w (o + 3 + k) (o + 2) x (omega arith) in
    rw (n, drop-set-add) (take-set-lt (get_or w (o + 2) 0) (drop (o + 3) w) k x within)

pub header_set_lit : (w : List ℕ) (o k x : ℕ) → header_at (set w (o + 3 + k) x) o ≡ header_at w o
unfolding header_at
header_set_lit w o k x =
    let a : get_or (set w (o + 3 + k) x) o 0 ≡ get_or w o 0 = at_other w (o + 3 + k) o x (omega arith) in
    let b : get_or (set w (o + 3 + k) x) (o + 1) 0 ≡ get_or w (o + 1) 0 = at_other w (o + 3 + k) (o + 1) x (omega arith) in
    let c : get_or (set w (o + 3 + k) x) (o + 2) 0 ≡ get_or w (o + 2) 0 = at_other w (o + 3 + k) (o + 2) x (omega arith) in
    rw (a, b, c) refl

clause_set_lit : (w : List ℕ) (o k x : ℕ) → IsClause w o → k < get_or w (o + 2) 0 → x < 2 * var_limit → IsClause (set w (o + 3 + k) x) o
clause_set_lit w o k x c within small =
    let i : ℕ = o + 3 + k in
    let b : get_or (set w (o + 3 + k) x) (o + 1) 0 ≡ get_or w (o + 1) 0 = at_other w (o + 3 + k) (o + 1) x (omega arith) in
    let n : get_or (set w (o + 3 + k) x) (o + 2) 0 ≡ get_or w (o + 2) 0 = at_other w (o + 3 + k) (o + 2) x (omega arith) in
    let len : length (set w (o + 3 + k) x) ≡ length w = length-set w (o + 3 + k) x in
    record {
      flags = omega (arith, c.flags);
      whole = omega (arith, c.whole);
      lits = λ j h. elim (cases_eq j k) [
        | inl same ↦ let e : get_or (set w (o + 3 + k) x) (o + 3 + k) 0 ≡ x = get_or-set_same w (o + 3 + k) x 0 (omega (arith, c.whole)) in subst (λ (z : ℕ). get_or (set w (o + 3 + k) x) (o + 3 + z) 0 < 2 * var_limit) (sym same) (omega arith)
        | inr other ↦ let e : get_or (set w (o + 3 + k) x) (o + 3 + j) 0 ≡ get_or w (o + 3 + j) 0 = at_other w (o + 3 + k) (o + 3 + j) x (omega arith) in omega (arith, c.lits j (omega arith))
      ];
    }

pub changes_lit : (w : List ℕ) (o k x : ℕ) → IsClause w o → k < get_or w (o + 2) 0 → x < 2 * var_limit → ChangesClauseAt w (set w (o + 3 + k) x) o
changes_lit w o k x c within small =
    let n : get_or (set w (o + 3 + k) x) (o + 2) 0 ≡ get_or w (o + 2) 0 = at_other w (o + 3 + k) (o + 2) x (omega arith) in
    changes_at w (set w (o + 3 + k) x) o c (clause_set_lit w o k x c within small) (length-set w (o + 3 + k) x) (omega arith)
    (λ i h. at_other w (o + 3 + k) i x (omega arith))
    (λ i h. at_other w (o + 3 + k) i x (omega arith))

-- two writes, one after the other

keeps_twice : (u v w : List ℕ) (p : ℕ) → SameClauseAt u v p → SameClauseAt v w p → SameClauseAt u w p
keeps_twice u v w p a b = record { clause = b.clause; header = b.header ∙ a.header; lits = b.lits ∙ a.lits }

pub changes_twice : (u v w : List ℕ) (o : ℕ) → get_or v (o + 2) 0 ≤ get_or u (o + 2) 0 → ChangesClauseAt u v o → ChangesClauseAt v w o → ChangesClauseAt u w o
changes_twice u v w o shorter a b = record {
  clause = b.clause;
  size = b.size ∙ a.size;
  others = λ p c apart.
      let first : SameClauseAt u v p = a.others p c apart in
      keeps_twice u v w p first (b.others p first.clause (still_apart u v o p apart shorter (omega (arith, same_len u v p first))));
  holds_clauses = λ live has holds_clauses. b.holds_clauses live has (a.holds_clauses live has holds_clauses);
}

pub lits_swapped : (w : List ℕ) (o i j : ℕ) → i < get_or w (o + 2) 0 → j < get_or w (o + 2) 0 → lits_at (set (set w (o + 3 + i) (get_or w (o + 3 + j) 0)) (o + 3 + j) (get_or w (o + 3 + i) 0)) o ≡ set (set (lits_at w o) i (get_or (lits_at w o) j 0)) j (get_or (lits_at w o) i 0)
lits_swapped w o i j h k =
    let x : ℕ = get_or w (o + 3 + j) 0 in
    let y : ℕ = get_or w (o + 3 + i) 0 in
    let v : List ℕ = set w (o + 3 + i) x in
    let n : get_or v (o + 2) 0 ≡ get_or w (o + 2) 0 = at_other w (o + 3 + i) (o + 2) x (omega arith) in
    lit_set v o j y (omega arith) ∙ ap (λ (ls : List ℕ). set ls j y) (lit_set w o i x h) ∙ rw (lit_there w o j k, lit_there w o i h) refl

pub changes_swapped : (w : List ℕ) (o i j : ℕ) → IsClause w o → i < get_or w (o + 2) 0 → j < get_or w (o + 2) 0 → ChangesClauseAt w (set (set w (o + 3 + i) (get_or w (o + 3 + j) 0)) (o + 3 + j) (get_or w (o + 3 + i) 0)) o
changes_swapped w o i j c h k =
    let x : ℕ = get_or w (o + 3 + j) 0 in
    let y : ℕ = get_or w (o + 3 + i) 0 in
    let v : List ℕ = set w (o + 3 + i) x in
    let n : get_or v (o + 2) 0 ≡ get_or w (o + 2) 0 = at_other w (o + 3 + i) (o + 2) x (omega arith) in
    let first : ChangesClauseAt w v o = changes_lit w o i x c h (c.lits j k) in
    changes_twice w v (set v (o + 3 + j) y) o (omega arith) first (changes_lit v o j y first.clause (omega arith) (c.lits i h))

pub header_swapped : (w : List ℕ) (o i j x y : ℕ) → header_at (set (set w (o + 3 + i) x) (o + 3 + j) y) o ≡ header_at w o
header_swapped w o i j x y = header_set_lit (set w (o + 3 + i) x) o j y ∙ header_set_lit w o i x

-- the words that a call reads, if its buffer and offset equal those of the clause

-- literals of a clause are at valid positions of the buffer
pub within_words : (v w : List ℕ) (p o k : ℕ) → v ≡ w → p ≡ o → IsClause w o → k < length (lits_at w o) → (k < get_or v (p + 2) 0) × (p + 3 + k < length v)
within_words v w p o k e f c small =
    let n : length (lits_at w o) ≡ get_or w (o + 2) 0 = lits_count w o c in
    let m : get_or v (p + 2) 0 ≡ get_or w (o + 2) 0 = rw (e, f) refl in
    let l : length v ≡ length w = ap length e in
    (omega arith, omega (arith, c.whole))

pub word_read : (v w : List ℕ) (p o k x : ℕ) → v ≡ w → p ≡ o → IsClause w o → k < length (lits_at w o) → x ≡ get_or v (p + 3 + k) x → x ≡ get_or w (o + 3 + k) 0
word_read v w p o k x e f c small read =
    let inside : (k < get_or v (p + 2) 0) × (p + 3 + k < length v) = within_words v w p o k e f c small in
    let first : x ≡ get_or v (p + 3 + k) 0 = get_or_read v (p + 3 + k) x inside.1 read 0 in
    let second : get_or v (p + 3 + k) 0 ≡ get_or w (o + 3 + k) 0 = rw (e, f) refl in
    first ∙ second

pub lit_read : (v w : List ℕ) (p o k x : ℕ) → v ≡ w → p ≡ o → IsClause w o → k < length (lits_at w o) → x ≡ get_or v (p + 3 + k) x → (x ≡ get_or (lits_at w o) k 0) × (x < 2 * var_limit)
lit_read v w p o k x e f c small read =
    let n : length (lits_at w o) ≡ get_or w (o + 2) 0 = lits_count w o c in
    let there : x ≡ get_or w (o + 3 + k) 0 = word_read v w p o k x e f c small read in
    (there ∙ sym (lit_there w o k (omega arith)), omega (arith, c.lits k (omega arith)))

-- the effect of writing one literal or swapping two: the header stays, and only this clause changes

pub record Leaves (w v : List ℕ) (o : ℕ) (ls : List ℕ) : Type 0 where
  pub header : header_at v o ≡ header_at w o
  pub lits : lits_at v o ≡ ls
  pub others : ChangesClauseAt w v o

pub wrote_lit : (v w : List ℕ) (p o k x : ℕ) → v ≡ w → p ≡ o → IsClause w o → k < length (lits_at w o) → x < 2 * var_limit → Leaves w (set v (p + 3 + k) x) o (set (lits_at w o) k x)
wrote_lit v w p o k x e f c small fits =
    let n : length (lits_at w o) ≡ get_or w (o + 2) 0 = lits_count w o c in
    let here : Leaves w (set w (o + 3 + k) x) o (set (lits_at w o) k x) = record {
      header = header_set_lit w o k x;
      lits = lit_set w o k x (omega arith);
      others = changes_lit w o k x c (omega arith) fits;
    } in
    rw (e, f) here

pub wrote_two : (v w : List ℕ) (p o i j x y : ℕ) → v ≡ w → p ≡ o → IsClause w o → i < length (lits_at w o) → j < length (lits_at w o) → x ≡ get_or v (p + 3 + i) x → y ≡ get_or v (p + 3 + j) y → Leaves w (set (set v (p + 3 + i) y) (p + 3 + j) x) o (set (set (lits_at w o) i (get_or (lits_at w o) j 0)) j (get_or (lits_at w o) i 0))
wrote_two v w p o i j x y e f c h k read_x read_y =
    let n : length (lits_at w o) ≡ get_or w (o + 2) 0 = lits_count w o c in
    let x_is : x ≡ get_or w (o + 3 + i) 0 = word_read v w p o i x e f c h read_x in
    let y_is : y ≡ get_or w (o + 3 + j) 0 = word_read v w p o j y e f c k read_y in
    let a : ℕ = get_or w (o + 3 + j) 0 in
    let b : ℕ = get_or w (o + 3 + i) 0 in
    let here : Leaves w (set (set w (o + 3 + i) a) (o + 3 + j) b) o (set (set (lits_at w o) i (get_or (lits_at w o) j 0)) j (get_or (lits_at w o) i 0)) = record {
      header = header_swapped w o i j a b;
      lits = lits_swapped w o i j (omega arith) (omega arith);
      others = changes_swapped w o i j c (omega arith) (omega arith);
    } in
    rw (e, f, x_is, y_is) here

-- writing a header

record WroteHeader (w v : List ℕ) (o a f l : ℕ) : Type 0 where
  first : get_or v o 0 ≡ a
  second : get_or v (o + 1) 0 ≡ f
  third : get_or v (o + 2) 0 ≡ l
  size : length v ≡ length w
  other : (i : ℕ) → i ≢ o → i ≢ o + 1 → i ≢ o + 2 → get_or v i 0 ≡ get_or w i 0

wrote_header : (w : List ℕ) (o a f l : ℕ) → o + 3 ≤ length w → WroteHeader w (set (set (set w o a) (o + 1) f) (o + 2) l) o a f l
wrote_header w o a f l room =
    let n1 : length (set w o a) ≡ length w = length-set w o a in
    let n2 : length (set (set w o a) (o + 1) f) ≡ length (set w o a) = length-set (set w o a) (o + 1) f in
    let n3 : length (set (set (set w o a) (o + 1) f) (o + 2) l) ≡ length (set (set w o a) (o + 1) f) = length-set (set (set w o a) (o + 1) f) (o + 2) l in
    let other : (i : ℕ) → i ≢ o → i ≢ o + 1 → i ≢ o + 2 → get_or (set (set (set w o a) (o + 1) f) (o + 2) l) i 0 ≡ get_or w i 0 =
    λ i d1 d2 d3. at_other (set (set w o a) (o + 1) f) (o + 2) i l d3 ∙ at_other (set w o a) (o + 1) i f d2 ∙ at_other w o i a d1 in
    record {
      first = at_other (set (set w o a) (o + 1) f) (o + 2) o l (omega arith) ∙ at_other (set w o a) (o + 1) o f (omega arith) ∙ get_or-set_same w o a 0 (omega arith);
      second = at_other (set (set w o a) (o + 1) f) (o + 2) (o + 1) l (omega arith) ∙ get_or-set_same (set w o a) (o + 1) f 0 (omega arith);
      third = get_or-set_same (set (set w o a) (o + 1) f) (o + 2) l 0 (omega arith);
      size = n3 ∙ n2 ∙ n1;
      other = other;
    }

pub record LeavesHeader (w v : List ℕ) (o : ℕ) (h : Header) : Type 0 where
  pub header : header_at v o ≡ h
  pub lits : lits_at v o ≡ take h.len (lits_at w o)
  pub others : ChangesClauseAt w v o

shortened_lits : (w v : List ℕ) (o : ℕ) → IsClause w o → IsClause v o → get_or v (o + 2) 0 ≤ get_or w (o + 2) 0 → ((k : ℕ) → k < get_or v (o + 2) 0 → get_or v (o + 3 + k) 0 ≡ get_or w (o + 3 + k) 0) → lits_at v o ≡ take (get_or v (o + 2) 0) (lits_at w o)
shortened_lits w v o c d shorter same =
    let lv : length (lits_at v o) ≡ get_or v (o + 2) 0 = lits_count v o d in
    let lw : length (lits_at w o) ≡ get_or w (o + 2) 0 = lits_count w o c in
    let lt : length (take (get_or v (o + 2) 0) (lits_at w o)) ≡ get_or v (o + 2) 0 = length-take-le (get_or v (o + 2) 0) (lits_at w o) (omega arith) in
    ext_get_or 0 (lits_at v o) (take (get_or v (o + 2) 0) (lits_at w o)) (lv ∙ sym lt)
    (λ k h. lit_there v o k (omega arith) ∙ same k (omega arith) ∙ sym (lit_there w o k (omega arith)) ∙ sym (get_or-take (get_or v (o + 2) 0) (lits_at w o) k 0 (omega arith)))

header_left : (w v : List ℕ) (o a f l : ℕ) (h : Header) → IsClause w o → WroteHeader w v o a f l → f < 2 ^ 11 → l ≤ length (lits_at w o) → header_of a f l ≡ h → LeavesHeader w v o h
unfolding header_at
header_left w v o a f l h c wrote small shorter is =
    let n : length (lits_at w o) ≡ get_or w (o + 2) 0 = lits_count w o c in
    let third : get_or v (o + 2) 0 ≡ l = wrote.third in
    let other : (k : ℕ) → get_or v (o + 3 + k) 0 ≡ get_or w (o + 3 + k) 0 = λ k. wrote.other (o + 3 + k) (omega arith) (omega arith) (omega arith) in
    let clause : IsClause v o = record {
      flags = omega (arith, wrote.second);
      whole = omega (arith, c.whole, wrote.size);
      lits = λ k p. omega (arith, other k, c.lits k (omega arith));
    } in
    let len : l ≡ h.len = ap (λ (g : Header). g.len) is in
    record {
      header = rw (wrote.first, wrote.second, wrote.third) is;
      lits = shortened_lits w v o c clause (omega arith) (λ k p. other k) ∙ ap (λ (m : ℕ). take m (lits_at w o)) (third ∙ len);
      others = changes_at w v o c clause wrote.size (omega arith)
          (λ i p. wrote.other i (omega arith) (omega arith) (omega arith))
          (λ i p. wrote.other i (omega arith) (omega arith) (omega arith));
    }

pub header_wrote : (v w : List ℕ) (p o a f l : ℕ) (h : Header) → v ≡ w → p ≡ o → IsClause w o → a ≡ h.activity → f < 2 ^ 11 → l ≡ h.len → h.len ≤ length (lits_at w o) → header_of h.activity f h.len ≡ h → LeavesHeader w (set (set (set v p a) (p + 1) f) (p + 2) l) o h
header_wrote v w p o a f l h e g c active small len shorter is =
    let here : LeavesHeader w (set (set (set w o h.activity) (o + 1) f) (o + 2) h.len) o h = header_left w (set (set (set w o h.activity) (o + 1) f) (o + 2) h.len) o h.activity f h.len h c (wrote_header w o h.activity f h.len (omega (arith, c.whole))) small shorter is in
    rw (e, g, active, len) here

-- writing one word of a header

pub record LeavesLits (w v : List ℕ) (o : ℕ) (h : Header) : Type 0 where
  pub header : header_at v o ≡ h
  pub lits : lits_at v o ≡ lits_at w o
  pub others : ChangesClauseAt w v o

whole_lits : (w v : List ℕ) (o : ℕ) (h : Header) → IsClause w o → h.len ≡ get_or w (o + 2) 0 → LeavesHeader w v o h → LeavesLits w v o h
whole_lits w v o h c len x = record {
  header = x.header;
  lits = x.lits ∙ take_all h.len (lits_at w o) (omega (arith, len, lits_count w o c));
  others = x.others;
}

pub activity_wrote : (v w : List ℕ) (p o a : ℕ) → v ≡ w → p ≡ o → IsClause w o → LeavesLits w (set v p a) o (record (header_at w o) { activity = a })
unfolding header_at
activity_wrote v w p o a e g c =
    let n : length (lits_at w o) ≡ get_or w (o + 2) 0 = lits_count w o c in
    let h : Header = header_of a (get_or w (o + 1) 0) (get_or w (o + 2) 0) in
    let wrote : WroteHeader w (set w o a) o a (get_or w (o + 1) 0) (get_or w (o + 2) 0) = record {
      first = get_or-set_same w o a 0 (omega (arith, c.whole));
      second = at_other w o (o + 1) a (omega arith);
      third = at_other w o (o + 2) a (omega arith);
      size = length-set w o a;
      other = λ i d1 d2 d3. at_other w o i a d1;
    } in
    let here : LeavesLits w (set w o a) o h = whole_lits w (set w o a) o h c refl
    (header_left w (set w o a) o a (get_or w (o + 1) 0) (get_or w (o + 2) 0) h c wrote c.flags (omega arith) refl) in
    rw (e, g) here

pub flags_wrote : (v w : List ℕ) (p o f : ℕ) (h : Header) → v ≡ w → p ≡ o → IsClause w o → f < 2 ^ 11 → header_of h.activity f h.len ≡ h → LeavesLits w (set v (p + 1) f) o (record h { activity = (header_at w o).activity; len = (header_at w o).len })
unfolding header_at
flags_wrote v w p o f h e g c small is =
    let n : length (lits_at w o) ≡ get_or w (o + 2) 0 = lits_count w o c in
    let h' : Header = record h { activity = get_or w o 0; len = get_or w (o + 2) 0 } in
    let wrote : WroteHeader w (set w (o + 1) f) o (get_or w o 0) f (get_or w (o + 2) 0) = record {
      first = at_other w (o + 1) o f (omega arith);
      second = get_or-set_same w (o + 1) f 0 (omega (arith, c.whole));
      third = at_other w (o + 1) (o + 2) f (omega arith);
      size = length-set w (o + 1) f;
      other = λ i d1 d2 d3. at_other w (o + 1) i f d2;
    } in
    let there : header_of (get_or w o 0) f (get_or w (o + 2) 0) ≡ h' = ap (λ (x : Header). record x { activity = get_or w o 0; len = get_or w (o + 2) 0 }) is in
    let here : LeavesLits w (set w (o + 1) f) o h' = whole_lits w (set w (o + 1) f) o h' c refl
    (header_left w (set w (o + 1) f) o (get_or w o 0) f (get_or w (o + 2) 0) h' c wrote small (omega arith) there) in
    rw (e, g) here

pub len_read : (v w : List ℕ) (p o x : ℕ) → v ≡ w → p ≡ o → IsClause w o → x ≡ get_or v (p + 2) x → (x ≡ length (lits_at w o)) × (x ≡ (header_at w o).len)
len_read v w p o x e f c read =
    let l : length v ≡ length w = ap length e in
    let first : x ≡ get_or v (p + 2) 0 = get_or_read v (p + 2) x (omega (arith, c.whole)) read 0 in
    let second : get_or v (p + 2) 0 ≡ get_or w (o + 2) 0 = rw (e, f) refl in
    (first ∙ second ∙ sym (lits_count w o c), first ∙ second ∙ sym (header_len w o))

pub header_read : (v w : List ℕ) (p o a f l : ℕ) → v ≡ w → p ≡ o → IsClause w o → a ≡ get_or v p a → f ≡ get_or v (p + 1) f → l ≡ get_or v (p + 2) l → (h : Header) → h ≡ header_of a f l → h ≡ header_at w o
unfolding header_at
header_read v w p o a f l e g c read_a read_f read_l h is =
    let n : length v ≡ length w = ap length e in
    let first : a ≡ get_or v p 0 = get_or_read v p a (omega (arith, c.whole)) read_a 0 in
    let second : f ≡ get_or v (p + 1) 0 = get_or_read v (p + 1) f (omega (arith, c.whole)) read_f 0 in
    let third : l ≡ get_or v (p + 2) 0 = get_or_read v (p + 2) l (omega (arith, c.whole)) read_l 0 in
    is ∙ rw (first, second, third, e, g) refl

-- a clause that is appended after all others

single : (c x : ℕ) → Contains (c ∷ []) x → x ≡ c
single c x (zero, h, e) = sym e
single c x (suc k, h, e) = absurd (omega arith)

pub record WroteClause (v w : List ℕ) (a f : ℕ) (ls : List ℕ) : Type 0 where
  pub first : get_or w (length v) 0 ≡ a
  pub second : get_or w (length v + 1) 0 ≡ f
  pub third : get_or w (length v + 2) 0 ≡ length ls
  pub size : length w ≡ length v + 3 + length ls
  pub front : take (length v) w ≡ v
  pub before : (i : ℕ) → i < length v → get_or w i 0 ≡ get_or v i 0
  pub following : (k : ℕ) → get_or w (length v + 3 + k) 0 ≡ get_or ls k 0

wrote_clause : (v : List ℕ) (a f : ℕ) (ls : List ℕ) → WroteClause v (v ++ (a ∷ f ∷ length ls ∷ ls)) a f ls
wrote_clause v a f ls =
    let new : List ℕ = a ∷ f ∷ length ls ∷ ls in
    let zeroth : length v ≡ length v + 0 = omega arith in
    record {
      first = ap (λ (i : ℕ). get_or (v ++ new) i 0) zeroth ∙ get_or-append-add v new 0 0;
      second = get_or-append-add v new 1 0;
      third = get_or-append-add v new 2 0;
      size = omega (arith, length-append v new);
      front = take-append_seam v new;
      before = λ i h. get_or_append_left v new 0 i h;
      following = λ k. let e : length v + 3 + k ≡ length v + suc (suc (suc k)) = omega arith in ap (λ (i : ℕ). get_or (v ++ new) i 0) e ∙ get_or-append-add v new (suc (suc (suc k))) 0;
    }

apart_after : (v w : List ℕ) (p : ℕ) → IsClause v p → SameClauseAt v w p → HaveNoCommonWord w p (length v) × HaveNoCommonWord w (length v) p
unfolding HaveNoCommonWord
apart_after v w p c keeps =
    let n : get_or w (p + 2) 0 ≡ get_or v (p + 2) 0 = same_len v w p keeps in
    (inl (omega (arith, c.whole)), inr (omega (arith, c.whole)))

pub added_clause : (v w : List ℕ) (a f : ℕ) (ls : List ℕ) (h : Header) → WroteClause v w a f ls → f < 2 ^ 11 → All (λ l. l < 2 * var_limit) ls → header_of a f h.len ≡ h → AppendsClause v w (length v) h ls
unfolding header_at
added_clause v w a f ls h wrote small fit is =
    let size : length w ≡ length v + 3 + length ls = wrote.size in
    let third : get_or w (length v + 2) 0 ≡ length ls = wrote.third in
    let clause : IsClause w (length v) = record {
      flags = omega (arith, wrote.second);
      whole = omega arith;
      lits = λ k p. let e : get_or w (length v + 3 + k) 0 ≡ get_or ls k 0 = wrote.following k in omega (arith, fit k 0 (omega arith));
    } in
    let others : (p : ℕ) → IsClause v p → SameClauseAt v w p = λ p c. kept v w p c (omega arith) (λ i x y. wrote.before i (omega (arith, c.whole))) in
    let count : length (lits_at w (length v)) ≡ length ls = lits_count w (length v) clause ∙ third in
    record {
      place = refl;
      clause = clause;
      header_there = rw (wrote.first, wrote.second, wrote.third) (ap (λ (g : Header). record g { len = length ls }) is);
      lits_there = ext_get_or 0 (lits_at w (length v)) ls count (λ k p. lit_there w (length v) k (omega arith) ∙ wrote.following k);
      size = size;
      front = wrote.front;
      others = others;
      fresh = λ live holds_clauses has. omega (arith, (holds_clauses.clauses (length v) has).whole);
      holds_clauses = λ live holds_clauses. record {
        clauses = λ o has. elim (Contains-append_cases live (length v ∷ []) o has) [
          | inl old ↦ (others o (holds_clauses.clauses o old)).clause
          | inr new ↦ subst (IsClause w) (sym (single (length v) o new)) clause
        ];
        apart = λ o p has_o has_p differ. elim (Contains-append_cases live (length v ∷ []) o has_o) [
          | inl old_o ↦ elim (Contains-append_cases live (length v ∷ []) p has_p) [
            | inl old_p ↦
                let keeps_o : SameClauseAt v w o = others o (holds_clauses.clauses o old_o) in
                let keeps_p : SameClauseAt v w p = others p (holds_clauses.clauses p old_p) in
                still_apart v w o p (holds_clauses.apart o p old_o old_p differ) (omega (arith, same_len v w o keeps_o)) (omega (arith, same_len v w p keeps_p))
            | inr new_p ↦ subst (HaveNoCommonWord w o) (sym (single (length v) p new_p)) (apart_after v w o (holds_clauses.clauses o old_o) (others o (holds_clauses.clauses o old_o))).0
          ]
          | inr new_o ↦ elim (Contains-append_cases live (length v ∷ []) p has_p) [
            | inl old_p ↦ subst (λ (x : ℕ). HaveNoCommonWord w x p) (sym (single (length v) o new_o)) (apart_after v w p (holds_clauses.clauses p old_p) (others p (holds_clauses.clauses p old_p))).1
            | inr new_p ↦ absurd (differ (single (length v) o new_o ∙ sym (single (length v) p new_p)))
          ]
        ];
      };
    }

pub pushed_clause : (v w x : List ℕ) (c a f l : ℕ) (ls : List ℕ) (h : Header) → v ≡ w → c ≡ length v → x ≡ v ++ a ∷ [] ++ f ∷ [] ++ l ∷ [] ++ ls → l ≡ length ls → f < 2 ^ 11 → All (λ l. l < 2 * var_limit) ls → a ≡ h.activity → header_of h.activity f h.len ≡ h → AppendsClause w x c h ls
pushed_clause v w x c a f l ls h e place is len small fit active head =
    let whole : x ≡ w ++ (h.activity ∷ f ∷ length ls ∷ ls) = is ∙ rw (active, len, e) (simp append_assoc) in
    let here : AppendsClause w (w ++ (h.activity ∷ f ∷ length ls ∷ ls)) (length w) h ls = added_clause w (w ++ (h.activity ∷ f ∷ length ls ∷ ls)) h.activity f ls h (wrote_clause w h.activity f ls) small fit head in
    rw (whole, place, e) here

-- appending the next item of a list that is copied
pub one_more : (v items ls : List ℕ) (i x y : ℕ) → i < length ls → x ≡ get_or ls i x → y ≡ x → items ≡ v ++ take i ls → items ++ y ∷ [] ≡ v ++ take (i + 1) ls
one_more v items ls i x y within read is front =
    let value : x ≡ get_or ls i 0 = get_or_read ls i x within read 0 in
    rw (front, is, value, take_more ls i 0 within) (append_assoc v (take i ls) (get_or ls i 0 ∷ []))

-- a property of all items copied so far holds with the next one
pub one_more_fits : (ls : List ℕ) (i x : ℕ) (P : ℕ → Type 0) → i < length ls → x ≡ get_or ls i x → P x → All P (take i ls) → All P (take (i + 1) ls)
one_more_fits ls i x P within read fits front = All-more P ls i 0 within front (subst P (get_or_read ls i x within read 0) fits)

-- the words of one clause, copied out

part_at : (v : List ℕ) (p m i : ℕ) → i < m → get_or (take m (drop p v)) i 0 ≡ get_or v (p + i) 0
part_at v p m i small = get_or-take m (drop p v) i 0 small ∙ get_or-drop p v i 0

pub record Lent (part words : List ℕ) (o : ℕ) : Type 0 where
  pub clause : IsClause part 0
  pub header : header_at part 0 ≡ header_at words o
  pub lits : lits_at part 0 ≡ lits_at words o

part_lent : (w : List ℕ) (o m : ℕ) → IsClause w o → m ≡ 3 + get_or w (o + 2) 0 → Lent (take m (drop o w)) w o
unfolding header_at
part_lent w o m c is =
    let part : List ℕ = take m (drop o w) in
    let count : length part ≡ m = length-take-le m (drop o w) (omega (arith, length-drop o w, c.whole)) in
    let zeroth : o + 0 ≡ o = omega arith in
    let e0 : get_or part 0 0 ≡ get_or w o 0 = part_at w o m 0 (omega arith) ∙ ap (λ (i : ℕ). get_or w i 0) zeroth in
    let e1 : get_or part 1 0 ≡ get_or w (o + 1) 0 = part_at w o m 1 (omega arith) in
    let e2 : get_or part 2 0 ≡ get_or w (o + 2) 0 = part_at w o m 2 (omega arith) in
    let ls : (k : ℕ) → k < get_or w (o + 2) 0 → get_or part (3 + k) 0 ≡ get_or w (o + 3 + k) 0 = λ k h. let e : o + (3 + k) ≡ o + 3 + k = omega arith in part_at w o m (3 + k) (omega arith) ∙ ap (λ (i : ℕ). get_or w i 0) e in
    let clause : IsClause part 0 = record {
      flags = omega (arith, e1, c.flags);
      whole = omega (arith, e2, count);
      lits = λ k h. omega (arith, ls k (omega arith), c.lits k (omega arith));
    } in
    record {
      clause = clause;
      header = rw (e0, e1, e2) refl;
      lits = same_lits w part o 0 c clause e2 ls;
    }

-- the slice of the words of a clause
pub lent : (v w : List ℕ) (p o n end : ℕ) → v ≡ w → p ≡ o → IsClause w o → n ≡ get_or v (p + 2) n → end ≡ p + 3 + n → Lent (take (end - p) (drop p v)) w o
lent v w p o n end e f c read is =
    let there : n ≡ get_or w (o + 2) 0 = (len_read v w p o n e f c read).0 ∙ lits_count w o c in
    let m : end - p ≡ 3 + get_or w (o + 2) 0 = omega arith in
    rw (e, f) (subst (λ (k : ℕ). Lent (take k (drop o w)) w o) (sym (ap (λ (x : ℕ). end - x) (sym f) ∙ m)) (part_lent w o (3 + get_or w (o + 2) 0) c refl))

-- reading the words of a clause that was copied out

-- the header of a clause at offset 0
pub alone_header : (w : List ℕ) → header_of (get_or w 0 0) (get_or w 1 0) (get_or w 2 0) ≡ header_at w 0
unfolding header_at
alone_header w = refl

-- the literals of a clause at offset 0
pub alone_lits : (w : List ℕ) → IsClause w 0 → (3 + get_or w 2 0 ≤ length w) × (take (3 + get_or w 2 0 - 3) (drop 3 w) ≡ lits_at w 0)
unfolding lits_at
alone_lits w c =
    let n : 3 + get_or w 2 0 - 3 ≡ get_or w 2 0 = omega arith in
    (omega (arith, c.whole), ap (λ (k : ℕ). take k (drop 3 w)) n)

-- a clause that is copied and appended after all others

copied_words : (v u : List ℕ) (o m : ℕ) → IsClause u o → m ≡ 3 + get_or u (o + 2) 0 → WroteClause v (v ++ take m (drop o u)) (get_or u o 0) (get_or u (o + 1) 0) (lits_at u o)
copied_words v u o m c is =
    let part : List ℕ = take m (drop o u) in
    let count : length part ≡ m = length-take-le m (drop o u) (omega (arith, length-drop o u, c.whole)) in
    let size : length (lits_at u o) ≡ get_or u (o + 2) 0 = lits_count u o c in
    let zeroth : length v ≡ length v + 0 = omega arith in
    let zeroth' : o + 0 ≡ o = omega arith in
    record {
      first = ap (λ (i : ℕ). get_or (v ++ part) i 0) zeroth ∙ get_or-append-add v part 0 0 ∙ part_at u o m 0 (omega arith) ∙ ap (λ (i : ℕ). get_or u i 0) zeroth';
      second = get_or-append-add v part 1 0 ∙ part_at u o m 1 (omega arith);
      third = get_or-append-add v part 2 0 ∙ part_at u o m 2 (omega arith) ∙ sym size;
      size = omega (arith, length-append v part);
      front = take-append_seam v part;
      before = λ i h. get_or_append_left v part 0 i h;
      following = λ k.
          let e : length v + 3 + k ≡ length v + (3 + k) = omega arith in
          let there : get_or (v ++ part) (length v + 3 + k) 0 ≡ get_or part (3 + k) 0 = ap (λ (i : ℕ). get_or (v ++ part) i 0) e ∙ get_or-append-add v part (3 + k) 0 in
          elim (cases_lt k (get_or u (o + 2) 0)) [
            | inl lt ↦
                let f : o + (3 + k) ≡ o + 3 + k = omega arith in
                there ∙ part_at u o m (3 + k) (omega arith) ∙ ap (λ (i : ℕ). get_or u i 0) f ∙ sym (lit_there u o k lt)
            | inr le ↦ there ∙ get_or_past part (3 + k) 0 (omega arith) ∙ sym (get_or_past (lits_at u o) k 0 (omega arith))
          ];
    }

pub copied_clause : (v w x u : List ℕ) (c o m : ℕ) → v ≡ w → c ≡ length v → x ≡ v ++ take m (drop o u) → IsClause u o → m ≡ 3 + get_or u (o + 2) 0 → All (λ l. l < 2 * var_limit) (lits_at u o) → AppendsClause w x c (header_at u o) (lits_at u o)
unfolding header_at
copied_clause v w x u c o m e place is clause size fit =
    let here : AppendsClause w (w ++ take m (drop o u)) (length w) (header_at u o) (lits_at u o) =
    added_clause w (w ++ take m (drop o u)) (get_or u o 0) (get_or u (o + 1) 0) (lits_at u o) (header_at u o) (copied_words w u o m clause size) clause.flags fit refl in
    let whole : x ≡ w ++ take m (drop o u) = is ∙ ap (λ (ws : List ℕ). ws ++ take m (drop o u)) e in
    rw (whole, place, e) here

-- a copied clause was appended, if the call's buffers and offset equal those of the clause
pub copied_by : (v w x u t : List ℕ) (c o p n : ℕ) → v ≡ w → t ≡ u → p ≡ o → c ≡ length v → n ≡ get_or t (p + 2) n → x ≡ v ++ take (p + 3 + n - p) (drop p t) → IsClause u o → All (λ l. l < 2 * var_limit) (lits_at u o) → AppendsClause w x c (header_at u o) (lits_at u o)
copied_by v w x u t c o p n e same f place read is clause fit =
    let there : n ≡ get_or u (o + 2) 0 = (len_read t u p o n same f clause read).0 ∙ lits_count u o clause in
    let m : p + 3 + n - p ≡ 3 + get_or u (o + 2) 0 = omega arith in
    let whole : x ≡ v ++ take (p + 3 + n - p) (drop o u) = is ∙ ap (λ (ws : List ℕ). v ++ take (p + 3 + n - p) ws) (ap (λ (i : ℕ). drop i t) f ∙ ap (λ (ws : List ℕ). drop o ws) same) in
    copied_clause v w x u c o (p + 3 + n - p) e place whole clause m fit
