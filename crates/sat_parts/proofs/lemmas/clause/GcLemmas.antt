-- Live clauses copied one by one, and reasons that follow them.
use Rattle.std.proofs.Common.{ℕ, ◌≡◌, ◌≢◌, ◌+◌, ◌-◌, ◌^◌, ◌<◌, ◌≤◌, ◌⊎◌, inl, inr, min, List, [], ◌∷◌, ◌++◌, suc, zero, length, get_or, set, take, drop, refl, sym, ap, ◌∙◌, subst, arith, length-set, get_or-set_same, get_or-set_other, length-drop, length-append, Bool, true, false, not, ◌&&◌, ◌==◌, cond}
use Rattle.std.proofs.lemmas.Bool.{cases_eq, cases_lt, cond-true}
use Rattle.std.proofs.lemmas.List.{get_or-drop, take_all, drop_more, length_push, get_or_append_left, get_or_push, get_or-append-add, take-append-drop, get_or_past}
use Rattle.std.proofs.lemmas.List.Sums.{sum_by-cons, sum_by_push, count_by-le-length, length-filter}
use Rattle.std.proofs.lemmas.List.Elements.{filter-append, All-filter, All-contains_itself, All-contains}
use Rattle.std.specs.List.{Contains, filter, sum_by, count_by}
use Rattle.sat_base.specs.values.Literals.{variable}
use Rattle.sat_store.specs.clause.Buffer.{IsClause, HoldsClauses, SameClauseAt, AppendsClause, header_at, lits_at}
use Rattle.sat_store.specs.clause.Header.{Header, tier_index}
use Rattle.sat_store.proofs.lemmas.clause.HeldClauses.{same_count, clause_within, ends_before}
use Rattle.sat_parts.specs.declared.prop.graph.ImplNode.{ImplNode}
use Rattle.sat_parts.specs.declared.prop.graph.Reason.{Reason}
use Rattle.sat_parts.specs.declared.prop.graph.Reason.TheVariants.{Unit as NoCause, Binary, Long}
use Rattle.sat_parts.specs.clause.Db.{Db, is_live, live_refs, is_live_in_tier, garbage_of, AreStrictlyIncreasing, DbMatchesBuffer}
use Rattle.sat_parts.specs.clause.Stored.{lit_of}
use Rattle.sat_parts.specs.clause.Collected.{CopiesClauses, CopyInvariant, clause_word_count, ReasonNamesCopy, ReasonNamesCopyOfFirst, ReasonsNameCopiesOfFirst, ReasonsHaveLitFirst, CollectsGarbage, after_collection}
use Rattle.sat_parts.specs.prop.Graphs.{node_of, with_node, new_node}
use Rattle.sat_parts.proofs.lemmas.prop.BuildLemmas.{live_in, live_next, live_skip}
use Rattle.sat_parts.proofs.lemmas.clause.ListLemmas.{in_head, in_tail, at_place, place_in, rising_push, rising_tail, rising_above}
use Rattle.sat_parts.proofs.lemmas.clause.DbLemmas.{live_is}

-- reading a list with one more item at its end

more_last : (xs : List ℕ) (x k : ℕ) → k ≡ length xs → get_or (xs ++ x ∷ []) k 0 ≡ x
more_last xs x k e = get_or_push xs x 0 k (sym e)

more_front : (xs : List ℕ) (x k : ℕ) → k < length xs → get_or (xs ++ x ∷ []) k 0 ≡ get_or xs k 0
more_front xs x k lt = get_or_append_left xs (x ∷ []) 0 k lt

drop_in : (refs : List ℕ) (i p : ℕ) → i < length refs → Contains (drop (i + 1) refs) p → Contains (drop i refs) p
drop_in refs i p lt c = subst (λ (xs : List ℕ). Contains xs p) (sym (drop_more refs i 0 lt)) (in_tail (get_or refs i 0) (drop (i + 1) refs) p c)

pub drop_head : (refs : List ℕ) (i : ℕ) → i < length refs → Contains (drop i refs) (get_or refs i 0)
drop_head refs i lt = subst (λ (xs : List ℕ). Contains xs (get_or refs i 0)) (sym (drop_more refs i 0 lt)) (in_head (get_or refs i 0) (drop (i + 1) refs))

in_dropped : (refs : List ℕ) (i p : ℕ) → Contains (drop i refs) p → Contains refs p
in_dropped refs i p c =
    let n : length (drop i refs) ≡ length refs - i = length-drop i refs in
    let e : get_or refs (i + c.0) 0 ≡ p = sym (get_or-drop i refs c.0 0) ∙ at_place (drop i refs) p c in
    subst (λ z. Contains refs z) e (place_in refs (i + c.0) (omega (arith, c.1)))

rising_dropped : (refs : List ℕ) (i p : ℕ) → AreStrictlyIncreasing refs → i < length refs → Contains (drop (i + 1) refs) p → get_or refs i 0 < p
rising_dropped refs i p rising lt c =
    let n : length (drop (i + 1) refs) ≡ length refs - (i + 1) = length-drop (i + 1) refs in
    let e : get_or refs (i + 1 + c.0) 0 ≡ p = sym (get_or-drop (i + 1) refs c.0 0) ∙ at_place (drop (i + 1) refs) p c in
    omega (arith, rising i (i + 1 + c.0) (omega arith) (omega (arith, c.1)))

sums_along : (f g : ℕ → ℕ) (xs ys : List ℕ) → length ys ≡ length xs → ((k : ℕ) → k < length xs → g (get_or ys k 0) ≡ f (get_or xs k 0)) → sum_by g ys ≡ sum_by f xs
sums_along f g [] [] n h = refl
sums_along f g [] (y ∷ ys) n h = absurd (omega arith)
sums_along f g (x ∷ xs) [] n h = absurd (omega arith)
sums_along f g (x ∷ xs) (y ∷ ys) n h =
    let a : g y ≡ f x = h 0 (omega arith) in
    let b : sum_by g ys ≡ sum_by f xs = sums_along f g xs ys (omega arith) (λ k lt. h (suc k) (omega arith)) in
    omega (arith, sum_by-cons g y ys, sum_by-cons f x xs)

-- appending a clause keeps the buffer packed: it has only the words of its clauses
packed_more : (w r w2 : List ℕ) (c : ℕ) (h : Header) (ls : List ℕ) → HoldsClauses w r → length w ≡ clause_word_count w r → AppendsClause w w2 c h ls → length w2 ≡ clause_word_count w2 (r ++ c ∷ [])
packed_more w r w2 c h ls holds_clauses packed added =
    let kept : clause_word_count w2 r ≡ clause_word_count w r =
    sums_along (λ o. length (lits_at w o) + 3) (λ o. length (lits_at w2 o) + 3) r r refl
    (λ k lt. ap (λ (xs : List ℕ). length xs + 3) (added.others (get_or r k 0) (holds_clauses.clauses (get_or r k 0) (place_in r k lt))).lits) in
    let own : length (lits_at w2 c) ≡ length ls = ap (λ (xs : List ℕ). length xs) added.lits_there in
    omega (arith, sum_by_push (λ o. length (lits_at w2 o) + 3) r c, kept, own, packed, added.size)

-- a deleted clause is not copied
pub copying_skip : (words refs w r : List ℕ) (i : ℕ) → CopyInvariant words refs w r i → i < length refs → is_live words (get_or refs i 0) ≡ false → CopyInvariant words refs w r (i + 1)
copying_skip words refs w r i h lt dead =
    let e : live_refs words (take i refs) ≡ live_refs words (take (i + 1) refs) = sym (live_skip words refs i lt dead) in
    record {
      copies = subst (λ (xs : List ℕ). CopiesClauses words xs w r) e h.copies;
      holds_clauses = h.holds_clauses;
      rising = h.rising;
      low = subst (λ (xs : List ℕ). (k : ℕ) → k < length r → get_or r k 0 ≤ get_or xs k 0) e h.low;
      room = λ p c. h.room p (drop_in refs i p lt c);
      packed = h.packed;
    }

copies_more : (words live w r w2 : List ℕ) (c o : ℕ) → CopiesClauses words live w r → HoldsClauses w r → IsClause words o → AppendsClause w w2 c (header_at words o) (lits_at words o) → CopiesClauses words (live ++ o ∷ []) w2 (r ++ c ∷ [])
copies_more words live w r w2 c o h holds_clauses clause added =
    let n : length (live ++ o ∷ []) ≡ length live + 1 = length_push live o in
    let m : length (r ++ c ∷ []) ≡ length r + 1 = length_push r c in
    let size : length r ≡ length live = h.size in
    let keeps : (k : ℕ) → k < length live → SameClauseAt w w2 (get_or r k 0) = λ k lt. added.others (get_or r k 0) (holds_clauses.clauses (get_or r k 0) (place_in r k (omega arith))) in
    record {
      size = omega arith;
      headers = λ k lt. elim (cases_eq k (length live)) [
        | inl e ↦
            ap (λ z. header_at w2 z) (more_last r c k (omega arith)) ∙ added.header_there ∙ ap (λ z. record (header_at words o) { len = z }) (same_count words o clause)
            ∙ ap (λ z. header_at words z) (sym (more_last live o k e))
        | inr d ↦
            ap (λ z. header_at w2 z) (more_front r c k (omega arith)) ∙ (keeps k (omega arith)).header ∙ h.headers k (omega arith) ∙ ap (λ z. header_at words z) (sym (more_front live o k (omega arith)))
      ];
      lits = λ k lt. elim (cases_eq k (length live)) [
        | inl e ↦ ap (λ z. lits_at w2 z) (more_last r c k (omega arith)) ∙ added.lits_there ∙ ap (λ z. lits_at words z) (sym (more_last live o k e))
        | inr d ↦
            ap (λ z. lits_at w2 z) (more_front r c k (omega arith)) ∙ (keeps k (omega arith)).lits ∙ h.lits k (omega arith) ∙ ap (λ z. lits_at words z) (sym (more_front live o k (omega arith)))
      ];
    }

-- the next live clause was copied
pub copying_more : (words refs w r w2 : List ℕ) (i c o : ℕ) → HoldsClauses words refs → AreStrictlyIncreasing refs → CopyInvariant words refs w r i → i < length refs → o ≡ get_or refs i 0 → is_live words o ≡ true →
    AppendsClause w w2 c (header_at words o) (lits_at words o) → CopyInvariant words refs w2 (r ++ c ∷ []) (i + 1)
copying_more words refs w r w2 i c o holds_clauses rising h lt o_is live added =
    let live_i : List ℕ = live_refs words (take i refs) in
    let has : Contains refs o = subst (λ z. Contains refs z) (sym o_is) (place_in refs i lt) in
    let live' : is_live words (get_or refs i 0) ≡ true = subst (λ z. is_live words z ≡ true) o_is live in
    let e : live_refs words (take i refs) ++ o ∷ [] ≡ live_refs words (take (i + 1) refs) = ap (λ z. live_refs words (take i refs) ++ z ∷ []) o_is ∙ sym (live_next words refs i lt live') in
    let room : length w ≤ o = subst (λ z. length w ≤ z) (sym o_is) (h.room (get_or refs i 0) (drop_head refs i lt)) in
    let size : length r ≡ length (live_refs words (take i refs)) = h.copies.size in
    let m : length (r ++ c ∷ []) ≡ length r + 1 = length_push r c in
    let low : (k : ℕ) → k < length (r ++ c ∷ []) → get_or (r ++ c ∷ []) k 0 ≤ get_or (live_refs words (take i refs) ++ o ∷ []) k 0 = λ k b. elim (cases_eq k (length r)) [
      | inl q ↦ omega (arith, more_last r c k q, more_last live_i o k (q ∙ size), added.place)
      | inr d ↦ omega (arith, more_front r c k (omega arith), more_front live_i o k (omega arith), h.low k (omega arith))
    ] in
    record {
      copies = subst (λ (xs : List ℕ). CopiesClauses words xs w2 (r ++ c ∷ [])) e (copies_more words live_i w r w2 c o h.copies h.holds_clauses (holds_clauses.clauses o has) added);
      holds_clauses = added.holds_clauses r h.holds_clauses;
      rising = rising_push r c h.rising (λ p q. omega (arith, clause_within w p (h.holds_clauses.clauses p q), added.place));
      low = subst (λ (xs : List ℕ). (k : ℕ) → k < length (r ++ c ∷ []) → get_or (r ++ c ∷ []) k 0 ≤ get_or xs k 0) e low;
      room = λ p q.
          let in_refs : Contains refs p = in_dropped refs (i + 1) p q in
          let above : o < p = omega (arith, o_is, rising_dropped refs i p rising lt q) in
          omega (arith, ends_before words refs o p holds_clauses has in_refs above, added.size);
      packed = packed_more w r w2 c (header_at words o) (lits_at words o) h.holds_clauses h.packed added;
    }

-- after all clauses, exactly the live ones were copied, none to a larger offset
pub copying_all : (words refs w r : List ℕ) (i : ℕ) → CopyInvariant words refs w r i → i ≡ length refs → CopiesClauses words (live_refs words refs) w r × ((k : ℕ) → k < length r → get_or r k 0 ≤ get_or (live_refs words refs) k 0)
copying_all words refs w r i h e =
    let all : live_refs words (take i refs) ≡ live_refs words refs = ap (λ (xs : List ℕ). live_refs words xs) (take_all i refs (omega arith)) in
    (subst (λ (xs : List ℕ). CopiesClauses words xs w r) all h.copies, subst (λ (xs : List ℕ). (k : ℕ) → k < length r → get_or r k 0 ≤ get_or xs k 0) all h.low)

-- REASONS, after one more clause was replaced by its copy

pub long_same : (p o : ℕ) → Long p ≡ Long o → p ≡ o
long_same p o e = cc

long_cases : (r : Reason) (o : ℕ) → (r ≡ Long o) ⊎ (r ≡ Long o → ⊥)
long_cases NoCause o = inr (λ e. cc)
long_cases (Binary ls) o = inr (λ e. cc)
long_cases (Long p) o = elim (cases_eq p o) [
  | inl e ↦ inl (ap (λ q. Long q) e)
  | inr n ↦ inr (λ e. n (long_same p o e))
]

no_long : (o : ℕ) → NoCause ≡ Long o → ⊥
no_long o e = cc

no_long' : (ls : List ℕ) (o : ℕ) → Binary ls ≡ Long o → ⊥
no_long' ls o e = cc

-- the reason names this clause, and then its copy
follows_moved : (live refs' : List ℕ) (n : ℕ) (r0 r1 r2 : Reason) → r1 ≡ Long (get_or live n 0) → r2 ≡ Long (get_or refs' n 0) →
    ((k : ℕ) → k < n → get_or refs' k 0 < get_or live n 0) → ReasonNamesCopyOfFirst live refs' n r0 r1 → ReasonNamesCopyOfFirst live refs' (n + 1) r0 r2
follows_moved live refs' n NoCause r1 r2 e f low h = absurd (no_long (get_or live n 0) (sym h ∙ e))
follows_moved live refs' n (Binary ls) r1 r2 e f low h = absurd (no_long' ls (get_or live n 0) (sym h ∙ e))
follows_moved live refs' n (Long o) r1 r2 e f low h = elim h [
  | inl x ↦
      let q : get_or refs' x.0 0 ≡ get_or live n 0 = long_same (get_or refs' x.0 0) (get_or live n 0) (sym x.1.2 ∙ e) in
      absurd (omega (arith, low x.0 x.1.0))
  | inr x ↦ inl (n, (omega arith, long_same (get_or live n 0) o (sym e ∙ x.0), f))
]

-- the reason does not name this clause
follows_kept : (live refs' : List ℕ) (n : ℕ) (r0 r1 r2 : Reason) → r2 ≡ r1 → ((o : ℕ) → r0 ≡ Long o → r1 ≡ Long o → get_or live n 0 ≢ o) →
    ReasonNamesCopyOfFirst live refs' n r0 r1 → ReasonNamesCopyOfFirst live refs' (n + 1) r0 r2
follows_kept live refs' n NoCause r1 r2 e other h = e ∙ h
follows_kept live refs' n (Binary ls) r1 r2 e other h = e ∙ h
follows_kept live refs' n (Long o) r1 r2 e other h = elim h [
  | inl x ↦ inl (x.0, (omega (arith, x.1.0), x.1.1, e ∙ x.1.2))
  | inr x ↦ inr (
    e ∙ x.0,
    λ k lt. elim (cases_eq k n) [
      | inl q ↦ (λ z. other o refl x.0 (ap (λ j. get_or live j 0) (sym q) ∙ z))
      | inr d ↦ x.1 k (omega arith)
    ],
  )
]

follows_all : (live refs' : List ℕ) (n : ℕ) (r0 r : Reason) → n ≡ length live → ((o : ℕ) → r0 ≡ Long o → Contains live o) → ReasonNamesCopyOfFirst live refs' n r0 r → ReasonNamesCopy live refs' r0 r
follows_all live refs' n NoCause r e there h = h
follows_all live refs' n (Binary ls) r e there h = h
follows_all live refs' n (Long o) r e there h = elim h [
  | inl x ↦ (x.0, (omega (arith, x.1.0), x.1.1, x.1.2))
  | inr x ↦
      let c : Contains live o = there o refl in
      absurd (x.1 c.0 (omega (arith, c.1)) (at_place live o c))
]

-- the reason that names the next clause follows it to its copy
pub followed_more : (words live refs' lits : List ℕ) (n first : ℕ) (nodes one two : List ImplNode) → ReasonsNameCopiesOfFirst live refs' lits n nodes one → ReasonsHaveLitFirst words live lits nodes →
    first ≡ lit_of words (get_or live n 0) 0 → ((k : ℕ) → k < n → get_or refs' k 0 < get_or live n 0) →
    ((node_of one (variable first)).reason ≡ Long (get_or live n 0) → two ≡ with_node (variable first) (record (node_of one (variable first)) { reason = Long (get_or refs' n 0) }) one) →
    (((node_of one (variable first)).reason ≡ Long (get_or live n 0) → ⊥) → two ≡ one) → ReasonsNameCopiesOfFirst live refs' lits (n + 1) nodes two
followed_more words live refs' lits n first nodes one two h firsts first_is low moved kept =
    let w : ℕ = variable first in
    let o : ℕ = get_or live n 0 in
    elim (long_cases (node_of one (variable first)).reason (get_or live n 0)) [
      | inl mine ↦
          let new : ImplNode = record (node_of one (variable first)) { reason = Long (get_or refs' n 0) } in
          let e : two ≡ set one w new = moved mine in
          let inside : w < length one = elim (cases_lt w (length one)) [
            | inl lt ↦ lt
            | inr le ↦ absurd (no_long o (sym (ap (λ (z : ImplNode). z.reason) (get_or_past one w new_node le)) ∙ mine))
          ] in
          let there : (v : ℕ) → v ≡ w → node_of two v ≡ new = λ v q. ap (λ z. node_of z v) e ∙ ap (λ z. node_of (set one w new) z) q ∙ get_or-set_same one w new new_node inside in
          let elsewhere : (v : ℕ) → v ≢ w → node_of two v ≡ node_of one v = λ v q. ap (λ z. node_of z v) e ∙ get_or-set_other one w v new new_node q in
          record {
            size = ap (λ (z : List ImplNode). length z) e ∙ length-set one w new ∙ h.size;
            levels = λ v. elim (cases_eq v w) [
              | inl q ↦ ap (λ (z : ImplNode). z.level) (there v q) ∙ ap (λ z. (node_of one z).level) (sym q) ∙ h.levels v
              | inr d ↦ ap (λ (z : ImplNode). z.level) (elsewhere v d) ∙ h.levels v
            ];
            depths = λ v. elim (cases_eq v w) [
              | inl q ↦ ap (λ (z : ImplNode). z.depth) (there v q) ∙ ap (λ z. (node_of one z).depth) (sym q) ∙ h.depths v
              | inr d ↦ ap (λ (z : ImplNode). z.depth) (elsewhere v d) ∙ h.depths v
            ];
            others = λ v not_long. elim (cases_eq v w) [
              | inl q ↦
                  let r : (node_of nodes v).reason ≡ Long o = ap (λ (z : ImplNode). z.reason) (sym (h.others v not_long)) ∙ ap (λ z. (node_of one z).reason) q ∙ mine in
                  absurd (not_long o r)
              | inr d ↦ elsewhere v d ∙ h.others v not_long
            ];
            reasons = λ i lt.
                let v : ℕ = variable (get_or lits i 0) in
                let r0 : Reason = (node_of nodes v).reason in
                let r1 : Reason = (node_of one v).reason in
                let r2 : Reason = (node_of two v).reason in
                elim (cases_eq v w) [
                  | inl q ↦ follows_moved live refs' n r0 r1 r2 (ap (λ z. (node_of one z).reason) q ∙ mine) (ap (λ (z : ImplNode). z.reason) (there v q)) low (h.reasons i lt)
                  | inr d ↦ follows_kept live refs' n r0 r1 r2 (ap (λ (z : ImplNode). z.reason) (elsewhere v d))
                      (λ p is _ same. d (ap (λ z. variable z) (sym (firsts i p lt is).1 ∙ ap (λ z. lit_of words z 0) (sym same) ∙ sym first_is))) (h.reasons i lt)
                ];
          }
      | inr other ↦
          let e : two ≡ one = kept other in
          record {
            size = ap (λ (z : List ImplNode). length z) e ∙ h.size;
            levels = λ v. ap (λ z. (node_of z v).level) e ∙ h.levels v;
            depths = λ v. ap (λ z. (node_of z v).depth) e ∙ h.depths v;
            others = λ v not_long. ap (λ z. node_of z v) e ∙ h.others v not_long;
            reasons = λ i lt.
                let v : ℕ = variable (get_or lits i 0) in
                follows_kept live refs' n (node_of nodes v).reason (node_of one v).reason (node_of two v).reason (ap (λ z. (node_of z v).reason) e)
                (λ p is now same.
                let q : v ≡ w = ap (λ z. variable z) (sym (firsts i p lt is).1 ∙ ap (λ z. lit_of words z 0) (sym same) ∙ sym first_is) in
                other (ap (λ z. (node_of one z).reason) (sym q) ∙ now ∙ ap (λ z. Long z) (sym same)))
                (h.reasons i lt);
          }
    ]

-- the index of a live clause among the live ones
pub live_nth : (words refs : List ℕ) (i : ℕ) → i < length refs → is_live words (get_or refs i 0) ≡ true →
    (get_or (live_refs words refs) (length (live_refs words (take i refs))) 0 ≡ get_or refs i 0) × (length (live_refs words (take i refs)) < length (live_refs words refs))
live_nth words refs i lt live =
    let front : List ℕ = live_refs words (take i refs) in
    let back : List ℕ = live_refs words (drop i refs) in
    let whole : live_refs words refs ≡ front ++ back = sym (ap (λ (xs : List ℕ). live_refs words xs) (take-append-drop i refs)) ∙ filter-append (is_live words) (take i refs) (drop i refs) in
    let head : back ≡ get_or refs i 0 ∷ live_refs words (drop (i + 1) refs) =
    ap (λ (xs : List ℕ). live_refs words xs) (drop_more refs i 0 lt) ∙ cond-true (is_live words (get_or refs i 0)) (get_or refs i 0 ∷ live_refs words (drop (i + 1) refs)) (live_refs words (drop (i + 1) refs)) live in
    let n : length front + 0 ≡ length front = omega arith in
    let at : get_or (front ++ back) (length front) 0 ≡ get_or refs i 0 =
    ap (λ k. get_or (front ++ back) k 0) (sym n) ∙ get_or-append-add front back 0 0 ∙ ap (λ (xs : List ℕ). get_or xs 0 0) head in
    let size : length (front ++ back) ≡ length front + length back = length-append front back in
    let some : 0 < length back = subst (λ (xs : List ℕ). 0 < length xs) (sym head) (omega arith) in
    (ap (λ (xs : List ℕ). get_or xs (length front) 0) whole ∙ at, omega (arith, ap (λ (xs : List ℕ). length xs) whole))

-- the list of the copies

sum_none : (f : ℕ → ℕ) (xs : List ℕ) → ((x : ℕ) → Contains xs x → f x ≡ 0) → sum_by f xs ≡ 0
sum_none f [] h = refl
sum_none f (x ∷ xs) h =
    let a : f x ≡ 0 = h x (in_head x xs) in
    let b : sum_by f xs ≡ 0 = sum_none f xs (λ z c. h z (in_tail x xs z c)) in
    omega (arith, sum_by-cons f x xs)

filter_all : (p : ℕ → Bool) (xs : List ℕ) → ((x : ℕ) → Contains xs x → p x ≡ true) → filter p xs ≡ xs
filter_all p [] h = refl
filter_all p (x ∷ xs) h =
    ap (λ b. cond b (x ∷ filter p xs) (filter p xs)) (h x (in_head x xs)) ∙ ap (λ (zs : List ℕ). x ∷ zs) (filter_all p xs (λ z c. h z (in_tail x xs z c)))

pub one_counted : (q r : ℕ → Bool) (x : ℕ) (xs : List ℕ) (b : Bool) → q x ≡ b → count_by (λ x. q x && r x) (filter q xs) ≡ count_by (λ x. q x && r x) xs →
    count_by (λ x. q x && r x) (filter q (x ∷ xs)) ≡ count_by (λ x. q x && r x) (x ∷ xs)
one_counted q r x xs true e h =
    let kept : filter q (x ∷ xs) ≡ x ∷ filter q xs = ap (λ b. cond b (x ∷ filter q xs) (filter q xs)) e in
    let c : count_by (λ x. q x && r x) (x ∷ filter q xs) ≡ count_by (λ x. q x && r x) (x ∷ xs) =
    omega (arith, sum_by-cons (λ z. cond {A = ℕ} (q z && r z) 1 0) x (filter q xs), sum_by-cons (λ z. cond {A = ℕ} (q z && r z) 1 0) x xs) in
    ap (λ (zs : List ℕ). count_by (λ x. q x && r x) zs) kept ∙ c
one_counted q r x xs false e h =
    let gone : filter q (x ∷ xs) ≡ filter q xs = ap (λ b. cond b (x ∷ filter q xs) (filter q xs)) e in
    let none : cond {A = ℕ} (q x && r x) 1 0 ≡ 0 = ap (λ (b : Bool). cond {A = ℕ} (b && r x) 1 0) e in
    let c : count_by (λ x. q x && r x) (filter q xs) ≡ count_by (λ x. q x && r x) (x ∷ xs) = omega (arith, none, sum_by-cons (λ z. cond {A = ℕ} (q z && r z) 1 0) x xs) in
    ap (λ (zs : List ℕ). count_by (λ x. q x && r x) zs) gone ∙ c

-- clauses that are not live are not counted
count_filtered : (q r : ℕ → Bool) (xs : List ℕ) → count_by (λ x. q x && r x) (filter q xs) ≡ count_by (λ x. q x && r x) xs
count_filtered q r [] = refl
count_filtered q r (x ∷ xs) = one_counted q r x xs (q x) refl (count_filtered q r xs)

-- every copy is live
copy_live_is : (words live w r : List ℕ) → CopiesClauses words live w r → ((x : ℕ) → Contains live x → is_live words x ≡ true) → (x : ℕ) → Contains r x → is_live w x ≡ true
copy_live_is words live w r h all x c =
    let lt : c.0 < length live = omega (arith, c.1, h.size) in
    ap (λ z. is_live w z) (sym (at_place r x c)) ∙ ap (λ (y : Header). not y.deleted) (h.headers c.0 lt) ∙ all (get_or live c.0 0) (place_in live c.0 lt)

-- the list of the copies has the invariant of the list of clauses
pub holds_copies : (words w r : List ℕ) (db : Db) (i : ℕ) → DbMatchesBuffer words db → CopyInvariant words db.refs w r i → i ≡ length db.refs → DbMatchesBuffer w (after_collection r db)
holds_copies words w r db i h x e =
    let c : CopiesClauses words (live_refs words db.refs) w r = (copying_all words db.refs w r i x e).0 in
    let live : (p : ℕ) → Contains r p → is_live w p ≡ true = copy_live_is words (live_refs words db.refs) w r c (λ p d. live_is words db.refs p d) in
    record {
      holds_clauses = x.holds_clauses;
      rising = x.rising;
      tiers = h.tiers;
      counts = λ t.
          let q : count_by (is_live_in_tier words t) (live_refs words db.refs) ≡ count_by (is_live_in_tier words t) db.refs =
          count_filtered (is_live words) (λ p. tier_index (header_at words p).tier == tier_index t) db.refs in
          let s : count_by (is_live_in_tier w t) r ≡ count_by (is_live_in_tier words t) (live_refs words db.refs) =
          sums_along (λ p. cond (is_live_in_tier words t p) 1 0) (λ p. cond (is_live_in_tier w t p) 1 0) (live_refs words db.refs) r c.size
          (λ k lt. ap (λ (y : Header). cond (not y.deleted && (tier_index y.tier == tier_index t)) 1 0) (c.headers k lt)) in
          h.counts t ∙ sym q ∙ sym s;
      garbage = ap (λ z. min z (2 ^ 64 - 1)) (sym (sum_none (garbage_of w) r (λ p d. cond-true (is_live w p) 0 (length (lits_at w p) + 3) (live p d))));
      few = omega (arith, h.few, c.size, length-filter (is_live words) db.refs, count_by-le-length (is_live words) db.refs);
      long = λ p d.
          let lt : d.0 < length (live_refs words db.refs) = omega (arith, d.1, c.size) in
          let same : lits_at w p ≡ lits_at words (get_or (live_refs words db.refs) d.0 0) = ap (λ z. lits_at w z) (sym (at_place r p d)) ∙ c.lits d.0 lt in
          subst (λ (ls : List ℕ). 3 ≤ length ls) (sym same)
          (h.long (get_or (live_refs words db.refs) d.0 0) (live_in words db.refs (get_or (live_refs words db.refs) d.0 0) (place_in (live_refs words db.refs) d.0 lt)));
    }

-- copied clauses and reasons that follow them are a garbage collection
pub collected : (words w r lits : List ℕ) (db : Db) (i n : ℕ) (nodes nodes' : List ImplNode) → DbMatchesBuffer words db → CopyInvariant words db.refs w r i → i ≡ length db.refs →
    ReasonsHaveLitFirst words (live_refs words db.refs) lits nodes → ReasonsNameCopiesOfFirst (live_refs words db.refs) r lits n nodes nodes' → n ≡ length (live_refs words db.refs) →
    CollectsGarbage words db nodes lits w (after_collection r db) nodes'
collected words w r lits db i n nodes nodes' h x e firsts f all =
    let c : CopiesClauses words (live_refs words db.refs) w r = (copying_all words db.refs w r i x e).0 in
    record {
      copies = c;
      holds = holds_copies words w r db i h x e;
      live = filter_all (is_live w) r (copy_live_is words (live_refs words db.refs) w r c (λ p d. live_is words db.refs p d));
      packed = x.packed;
      clean = refl;
      counts = refl;
      size = f.size;
      levels = f.levels;
      depths = f.depths;
      others = f.others;
      reasons = λ k lt. follows_all (live_refs words db.refs) r n (node_of nodes (variable (get_or lits k 0))).reason (node_of nodes' (variable (get_or lits k 0))).reason all
          (λ o is. (firsts k o lt is).0) (f.reasons k lt);
    }

in_filter : (p : ℕ → Bool) (xs : List ℕ) (x : ℕ) → Contains (filter p xs) x → Contains xs x
in_filter p xs x c = All-contains (Contains xs) (filter p xs) x (All-filter p (Contains xs) xs (All-contains_itself xs)) c

rising_cons : (x : ℕ) (xs : List ℕ) → AreStrictlyIncreasing xs → ((p : ℕ) → Contains xs p → x < p) → AreStrictlyIncreasing (x ∷ xs)
rising_cons x xs h above zero zero a b = absurd (omega arith)
rising_cons x xs h above zero (suc k) a b = above (get_or xs k 0) (place_in xs k (omega arith))
rising_cons x xs h above (suc j) zero a b = absurd (omega arith)
rising_cons x xs h above (suc j) (suc k) a b = h j k (omega arith) (omega arith)

rising_kept : (p : ℕ → Bool) (x : ℕ) (xs : List ℕ) (b : Bool) → p x ≡ b → AreStrictlyIncreasing (x ∷ xs) → AreStrictlyIncreasing (filter p xs) → AreStrictlyIncreasing (filter p (x ∷ xs))
rising_kept p x xs true e h r =
    subst (λ (zs : List ℕ). AreStrictlyIncreasing zs) (sym (ap (λ b. cond b (x ∷ filter p xs) (filter p xs)) e)) (rising_cons x (filter p xs) r (λ q c. rising_above x xs q h (in_filter p xs q c)))
rising_kept p x xs false e h r = subst (λ (zs : List ℕ). AreStrictlyIncreasing zs) (sym (ap (λ b. cond b (x ∷ filter p xs) (filter p xs)) e)) r

-- filtering keeps a rising list rising
rising_filter : (p : ℕ → Bool) (xs : List ℕ) → AreStrictlyIncreasing xs → AreStrictlyIncreasing (filter p xs)
rising_filter p [] h = h
rising_filter p (x ∷ xs) h = rising_kept p x xs (p x) refl h (rising_filter p xs (rising_tail x xs h))

-- one iteration of the loop, in the variables of the code
pub followed_by : (words : List ℕ) (db : Db) (refs' lits : List ℕ) (n first from to : ℕ) (nodes one two : List ImplNode) → DbMatchesBuffer words db → length refs' ≡ length (live_refs words db.refs) →
    ((k : ℕ) → k < length refs' → get_or refs' k 0 ≤ get_or (live_refs words db.refs) k 0) → ReasonsNameCopiesOfFirst (live_refs words db.refs) refs' lits n nodes one →
    ReasonsHaveLitFirst words (live_refs words db.refs) lits nodes → n < length refs' → from ≡ get_or (live_refs words db.refs) n 0 → first ≡ lit_of words from 0 → to ≡ get_or refs' n 0 →
    ((node_of one (variable first)).reason ≡ Long from → two ≡ with_node (variable first) (record (node_of one (variable first)) { reason = Long to }) one) →
    (((node_of one (variable first)).reason ≡ Long from → ⊥) → two ≡ one) → ReasonsNameCopiesOfFirst (live_refs words db.refs) refs' lits (n + 1) nodes two
followed_by words db refs' lits n first from to nodes one two h size low f firsts lt from_is first_is to_is moved kept =
    let rising : AreStrictlyIncreasing (live_refs words db.refs) = rising_filter (is_live words) db.refs h.rising in
    followed_more words (live_refs words db.refs) refs' lits n first nodes one two f firsts (first_is ∙ ap (λ z. lit_of words z 0) from_is)
    (λ k b. omega (arith, low k (omega arith), rising k n b (omega arith)))
    (λ e. moved (e ∙ ap (λ z. Long z) (sym from_is)) ∙ ap (λ z. with_node (variable first) (record (node_of one (variable first)) { reason = Long z }) one) to_is)
    (λ n2. kept (λ e. n2 (e ∙ ap (λ z. Long z) from_is)))
