-- A pass over the live clauses that deletes some of them, clause by clause.
use Rattle.std.proofs.Common.{ℕ, ◌≡◌, ◌≢◌, ◌+◌, ◌<◌, inl, inr, List, [], ◌∷◌, ◌++◌, min, length, get_or, take, length-take, refl, sym, ap, ◌∙◌, subst, arith, Bool, true, false, not}
use Rattle.std.proofs.lemmas.Bool.{cases_eq}
use Rattle.std.proofs.lemmas.List.{length_push, take_all, get_or-take}
use Rattle.std.specs.List.{Contains, items_where_true}
use Rattle.std.specs.List.Retain.{ReturnsInTurn, IsFiltered}
use Rattle.sat_store.specs.clause.Buffer.{HoldsClauses, SameClauseAt, header_at}
use Rattle.sat_store.specs.clause.Header.{Header}
use Rattle.sat_parts.specs.clause.Db.{AreStrictlyIncreasing, PutsHeader, is_live, live_refs}
use Rattle.sat_parts.specs.clause.Filtered.{SameClausesAt, FilterInvariant}
use Rattle.sat_parts.proofs.lemmas.clause.ListLemmas.{place_in, at_place, in_head, in_tail, there, rising_distinct, filter_same}
use Rattle.sat_parts.proofs.lemmas.clause.DbLemmas.{live_is}
use Rattle.sat_parts.proofs.lemmas.prop.BuildLemmas.{live_in, live_place, live_next, live_skip}

keeps_itself : (words refs : List ℕ) (p : ℕ) → HoldsClauses words refs → Contains refs p → SameClauseAt words words p
keeps_itself words refs p holds_clauses c = record { clause = holds_clauses.clauses p c; header = refl; lits = refl }

keeps_on : (a b c : List ℕ) (p : ℕ) → SameClauseAt a b p → SameClauseAt b c p → SameClauseAt a c p
keeps_on a b c p x y = record { clause = y.clause; header = y.header ∙ x.header; lits = y.lits ∙ x.lits }

live_kept : (old new : List ℕ) (p : ℕ) → SameClauseAt old new p → is_live old p ≡ is_live new p
live_kept old new p k = ap (λ (h : Header). not h.deleted) (sym k.header)

-- the invariant of the pass holds before the first clause
pub filtering_none : {F : Type 0} (R : F → ℕ → Bool → F → Type 0) (f : F) (words refs : List ℕ) → HoldsClauses words refs → FilterInvariant R f words words refs 0 f
filtering_none R f words refs holds_clauses = record {
  answers = [];
  size = refl;
  returned_in_turn = refl;
  live = refl;
  front = λ k a b e. absurd (omega arith);
  rest = λ k a b. keeps_itself words refs (get_or refs k 0) holds_clauses (place_in refs k b);
}

-- a deleted clause is skipped
pub filtering_skip : {F : Type 0} (R : F → ℕ → Bool → F → Type 0) (f f' : F) (old new refs : List ℕ) (at : ℕ) → FilterInvariant R f old new refs at f' → at < length refs →
    is_live new (get_or refs at 0) ≡ false → FilterInvariant R f old new refs (at + 1) f'
filtering_skip R f f' old new refs at h lt dead =
    let before : live_refs old (take (at + 1) refs) ≡ live_refs old (take at refs) =
    live_skip old refs at lt (live_kept old new (get_or refs at 0) (h.rest at (omega arith) lt) ∙ dead) in
    record {
      answers = h.answers;
      size = h.size ∙ ap (λ (xs : List ℕ). length xs) (sym before);
      returned_in_turn = subst (λ (xs : List ℕ). ReturnsInTurn R f h.answers xs f') (sym before) h.returned_in_turn;
      live = live_skip new refs at lt dead ∙ h.live ∙ ap (λ (xs : List ℕ). items_where_true h.answers xs) (sym before);
      front = λ k a b e. elim (cases_eq k at) [
        | inl q ↦ h.rest k (omega arith) b
        | inr n ↦ h.front k (omega arith) b e
      ];
      rest = λ k a b. h.rest k (omega arith) b;
    }

-- if the headers of the first clauses are unchanged, the same of them are live
front_same : (new new' refs : List ℕ) (at : ℕ) → ((k : ℕ) → k < at → k < length refs → header_at new' (get_or refs k 0) ≡ header_at new (get_or refs k 0)) →
    live_refs new' (take at refs) ≡ live_refs new (take at refs)
front_same new new' refs at h = filter_same (is_live new) (is_live new') (take at refs) (λ o c.
    let lt : c.0 < min at (length refs) = omega (arith, c.1, length-take at refs) in
    let q : get_or refs c.0 0 ≡ o = sym (get_or-take at refs c.0 0 (omega arith)) ∙ at_place (take at refs) o c in
    ap (λ (x : Header). not x.deleted) (ap (λ p. header_at new' p) (sym q) ∙ h c.0 (omega arith) (omega arith) ∙ ap (λ p. header_at new p) q))

-- one more result of the test
asked_push : {F : Type 0} (R : F → ℕ → Bool → F → Type 0) (f f' f'' : F) (answers : List Bool) (live : List ℕ) (o : ℕ) (b : Bool) → length answers ≡ length live →
    ReturnsInTurn R f answers live f' → R f' o b f'' → ReturnsInTurn R f (answers ++ b ∷ []) (live ++ o ∷ []) f''
asked_push R f f' f'' [] [] o b e h r = (f'', subst (λ j. R j o b f'') (sym h) r, refl)
asked_push R f f' f'' [] (x ∷ xs) o b e h r = absurd (omega arith)
asked_push R f f' f'' (a ∷ bs) [] o b e h r = absurd (omega arith)
asked_push R f f' f'' (a ∷ bs) (x ∷ xs) o b e h r = (h.0, h.1, asked_push R h.0 f' f'' bs xs o b (omega arith) h.2 r)

picked_true : (answers : List Bool) (live : List ℕ) (o : ℕ) → length answers ≡ length live → items_where_true (answers ++ true ∷ []) (live ++ o ∷ []) ≡ items_where_true answers live ++ o ∷ []
picked_true [] [] o e = refl
picked_true [] (x ∷ xs) o e = absurd (omega arith)
picked_true (a ∷ bs) [] o e = absurd (omega arith)
picked_true (true ∷ bs) (x ∷ xs) o e = ap (λ (zs : List ℕ). x ∷ zs) (picked_true bs xs o (omega arith))
picked_true (false ∷ bs) (x ∷ xs) o e = picked_true bs xs o (omega arith)

picked_false : (answers : List Bool) (live : List ℕ) (o : ℕ) → length answers ≡ length live → items_where_true (answers ++ false ∷ []) (live ++ o ∷ []) ≡ items_where_true answers live
picked_false [] [] o e = refl
picked_false [] (x ∷ xs) o e = absurd (omega arith)
picked_false (a ∷ bs) [] o e = absurd (omega arith)
picked_false (true ∷ bs) (x ∷ xs) o e = ap (λ (zs : List ℕ). x ∷ zs) (picked_false bs xs o (omega arith))
picked_false (false ∷ bs) (x ∷ xs) o e = picked_false bs xs o (omega arith)

-- the next clause is unchanged; if it is live, it was live before
pub filtering_kept : {F : Type 0} (R : F → ℕ → Bool → F → Type 0) (f f' : F) (old new refs : List ℕ) (at o : ℕ) → FilterInvariant R f old new refs at f' → at < length refs →
    o ≡ get_or refs at 0 → SameClauseAt old new o
filtering_kept R f f' old new refs at o h lt e = subst (λ p. SameClauseAt old new p) (sym e) (h.rest at (omega arith) lt)

-- the next clause of the pass was live before the pass if it is live
pub filtering_alive : {F : Type 0} (R : F → ℕ → Bool → F → Type 0) (f f' : F) (old new refs : List ℕ) (at o : ℕ) → FilterInvariant R f old new refs at f' → at < length refs →
    o ≡ get_or refs at 0 → is_live new o ≡ true → Contains (live_refs old refs) o
filtering_alive R f f' old new refs at o h lt e alive = live_place old refs at o lt e (live_kept old new o (filtering_kept R f f' old new refs at o h lt e) ∙ alive)

-- the test returns true, and the clause stays
pub filtering_keep : {F : Type 0} (R : F → ℕ → Bool → F → Type 0) (f f' f'' : F) (old new refs : List ℕ) (at p : ℕ) → FilterInvariant R f old new refs at f' → at < length refs →
    p ≡ get_or refs at 0 → is_live new p ≡ true → R f' p true f'' → FilterInvariant R f old new refs (at + 1) f''
filtering_keep R f f' f'' old new refs at p h lt is live returned_in_turn =
    let o : ℕ = get_or refs at 0 in
    let alive : is_live new (get_or refs at 0) ≡ true = subst (λ z. is_live new z ≡ true) is live in
    let r : R f' (get_or refs at 0) true f'' = subst (λ z. R f' z true f'') is returned_in_turn in
    let before : live_refs old (take (at + 1) refs) ≡ live_refs old (take at refs) ++ get_or refs at 0 ∷ [] =
    live_next old refs at lt (live_kept old new (get_or refs at 0) (h.rest at (omega arith) lt) ∙ alive) in
    record {
      answers = h.answers ++ true ∷ [];
      size = length_push h.answers true ∙ ap (λ n. n + 1) h.size ∙ sym (length_push (live_refs old (take at refs)) o) ∙ ap (λ (xs : List ℕ). length xs) (sym before);
      returned_in_turn = subst (λ (xs : List ℕ). ReturnsInTurn R f (h.answers ++ true ∷ []) xs f'') (sym before) (asked_push R f f' f'' h.answers (live_refs old (take at refs)) o true h.size h.returned_in_turn r);
      live = live_next new refs at lt alive ∙ ap (λ (xs : List ℕ). xs ++ o ∷ []) h.live ∙ sym (picked_true h.answers (live_refs old (take at refs)) o h.size)
          ∙ ap (λ (xs : List ℕ). items_where_true (h.answers ++ true ∷ []) xs) (sym before);
      front = λ k a b e. elim (cases_eq k at) [
        | inl q ↦ h.rest k (omega arith) b
        | inr n ↦ h.front k (omega arith) b e
      ];
      rest = λ k a b. h.rest k (omega arith) b;
    }

-- the test returns false, and the clause is deleted
pub filtering_drop : {F : Type 0} (R : F → ℕ → Bool → F → Type 0) (f f' f'' : F) (old new new' refs : List ℕ) (at p : ℕ) → AreStrictlyIncreasing refs → FilterInvariant R f old new refs at f' → at < length refs →
    p ≡ get_or refs at 0 → is_live new p ≡ true → R f' p false f'' → PutsHeader new new' refs p (record (header_at new p) { deleted = true }) →
    FilterInvariant R f old new' refs (at + 1) f''
filtering_drop R f f' f'' old new new' refs at p rising h lt is live returned_in_turn puts =
    let o : ℕ = get_or refs at 0 in
    let alive : is_live new (get_or refs at 0) ≡ true = subst (λ z. is_live new z ≡ true) is live in
    let r : R f' (get_or refs at 0) false f'' = subst (λ z. R f' z false f'') is returned_in_turn in
    let put : PutsHeader new new' refs (get_or refs at 0) (record (header_at new (get_or refs at 0)) { deleted = true }) =
    subst (λ z. PutsHeader new new' refs z (record (header_at new z) { deleted = true })) is puts in
    let first : List ℕ = live_refs old (take at refs) in
    let before : live_refs old (take (at + 1) refs) ≡ live_refs old (take at refs) ++ get_or refs at 0 ∷ [] =
    live_next old refs at lt (live_kept old new (get_or refs at 0) (h.rest at (omega arith) lt) ∙ alive) in
    let dead : is_live new' (get_or refs at 0) ≡ false = ap (λ (x : Header). not x.deleted) put.header_there in
    let other : (k : ℕ) → k < length refs → k ≢ at → SameClauseAt new new' (get_or refs k 0) = λ k b n.
    put.others (get_or refs k 0) (place_in refs k b) (λ e. n (rising_distinct refs k at rising b lt e)) in
    record {
      answers = h.answers ++ false ∷ [];
      size = length_push h.answers false ∙ ap (λ n. n + 1) h.size ∙ sym (length_push (live_refs old (take at refs)) o) ∙ ap (λ (xs : List ℕ). length xs) (sym before);
      returned_in_turn = subst (λ (xs : List ℕ). ReturnsInTurn R f (h.answers ++ false ∷ []) xs f'') (sym before) (asked_push R f f' f'' h.answers first o false h.size h.returned_in_turn r);
      live = live_skip new' refs at lt dead ∙ front_same new new' refs at (λ k a b. (other k b (omega arith)).header) ∙ h.live
          ∙ sym (picked_false h.answers first o h.size) ∙ ap (λ (xs : List ℕ). items_where_true (h.answers ++ false ∷ []) xs) (sym before);
      front = λ k a b e. elim (cases_eq k at) [
        | inl q ↦ absurd (let x : true ≡ false = sym e ∙ ap (λ z. is_live new' (get_or refs z 0)) q ∙ dead in cc)
        | inr n ↦
            let y : SameClauseAt new new' (get_or refs k 0) = other k b n in
            keeps_on old new new' (get_or refs k 0) (h.front k (omega arith) b (live_kept new new' (get_or refs k 0) y ∙ e)) y
      ];
      rest = λ k a b. keeps_on old new new' (get_or refs k 0) (h.rest k (omega arith) b) (other k b (omega arith));
    }

-- after the pass, the live clauses are those that passed the test, and are unchanged
pub filtering_all : {F : Type 0} (R : F → ℕ → Bool → F → Type 0) (f f' : F) (old new refs : List ℕ) (at : ℕ) → FilterInvariant R f old new refs at f' → at ≡ length refs →
    IsFiltered R f (live_refs old refs) (live_refs new refs) × SameClausesAt old new (live_refs new refs)
filtering_all R f f' old new refs at h e =
    let all : take at refs ≡ refs = take_all at refs (omega arith) in (
      subst (λ (xs : List ℕ). IsFiltered R f (live_refs old xs) (live_refs new xs)) all (h.answers, f', h.size, h.returned_in_turn, h.live),
      λ o c.
          let d : Contains refs o = live_in new refs o c in
          let q : get_or refs d.0 0 ≡ o = at_place refs o d in
          subst (λ p. SameClauseAt old new p) q (h.front d.0 (omega (arith, d.1)) d.1 (ap (λ p. is_live new p) q ∙ live_is new refs o c)),
    )

-- items picked from a list are in the list
picked_in : (answers : List Bool) (xs : List ℕ) (o : ℕ) → Contains (items_where_true answers xs) o → Contains xs o
picked_in [] [] o c = absurd (omega (arith, c.1))
picked_in [] (x ∷ xs) o c = absurd (omega (arith, c.1))
picked_in (b ∷ bs) [] o c = absurd (omega (arith, c.1))
picked_in (true ∷ bs) (x ∷ xs) o c = elim (cases_eq x o) [
  | inl e ↦ subst (λ z. Contains (x ∷ xs) z) e (in_head x xs)
  | inr n ↦ in_tail x xs o (picked_in bs xs o (there x (items_where_true bs xs) o n c))
]
picked_in (false ∷ bs) (x ∷ xs) o c = in_tail x xs o (picked_in bs xs o c)

-- the clauses that a pass keeps were in the list
pub filtered_in : {F : Type 0} (R : F → ℕ → Bool → F → Type 0) (f : F) (xs ys : List ℕ) (o : ℕ) → IsFiltered R f xs ys → Contains ys o → Contains xs o
filtered_in R f xs ys o h c = picked_in h.0 xs o (subst (λ (zs : List ℕ). Contains zs o) h.4 c)
