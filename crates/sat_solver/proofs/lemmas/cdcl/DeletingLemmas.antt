-- Clauses of tier Local are deleted, one after another.
use Rattle.std.proofs.Common.{ℕ, zero, suc, ◌+◌, ◌-◌, ◌/◌, ◌<◌, ◌≤◌, ◌≡◌, ◌≢◌, ◌∙◌, Bool, true, false, cond, List, [], ◌∷◌, ◌++◌, length, drop, get_or, refl, sym, ap, subst, arith, append_assoc, append-nil, inl, inr}
use Rattle.std.proofs.lemmas.Bool.{cases_eq}
use Rattle.std.proofs.lemmas.List.Elements.{Contains-append_left, Contains-append_right, Contains-append_cases}
use Rattle.std.proofs.lemmas.List.{drop_more}
use Rattle.std.specs.List.{Contains, filter}
use Rattle.std.specs.List.Sorted.{IsPermutation, IsNonDecreasingBy}
use Rattle.sat_store.specs.clause.Buffer.{SameClauseAt}
use Rattle.sat_store.specs.declared.clause.tier.Tier.TheVariants.{Local}
use Rattle.sat_parts.specs.clause.Db.{live_refs, is_live_in_tier}
use Rattle.sat_parts.proofs.lemmas.clause.ListLemmas.{at_place, in_without}
use Rattle.sat_parts.proofs.lemmas.prop.BuildLemmas.{live_in}
use Rattle.sat_parts.specs.declared.parts.SearchState.{SearchState}
use Rattle.sat_parts.specs.parts.Frame.{SameExceptLongClauses, DeletesLongClause}
use Rattle.sat_parts.specs.parts.Reducing.{clause_rank}
use Rattle.sat_parts.proofs.lemmas.parts.FewerLemmas.{without_there}
use Rattle.sat_solver.specs.clause.Reduced.{IsReason, DeletesUnlessReason, AreFirstNonReasons, DeletesJustThese, HalvesLocals}

abbrev live : SearchState → List ℕ
live p = live_refs p.clauses p.db.refs

search_trans : (p q r : SearchState) → SameExceptLongClauses p q → SameExceptLongClauses q r → SameExceptLongClauses p r
search_trans p q r x y = ((y.0.0 ∙ x.0.0, y.0.1 ∙ x.0.1, y.0.2 ∙ x.0.2), y.1 ∙ x.1, y.2 ∙ x.2)

-- nothing was deleted
deletes_none : (p : SearchState) → ((o : ℕ) → Contains (live p) o → SameClauseAt p.clauses p.clauses o) → DeletesJustThese p p []
deletes_none p keeps = record {
  deleted = λ o c. absurd (omega (arith, c.1));
  others = λ o c. inr c;
  stay = λ o c. (c, keeps o c);
  same = ((refl, refl, refl), refl, refl);
}

-- one more clause is deleted
module _ (p q r : SearchState) (gone : List ℕ) (o : ℕ) (x : DeletesJustThese p q gone) (here : Contains (live q) o) (d : DeletesLongClause q r o) where
  left_alone : (u : ℕ) → Contains (live r) u → Contains (live q) u × (u ≢ o)
  left_alone u c = in_without o u (live q) (subst (λ os. Contains os u) d.deletes.live c)

  kept : (u : ℕ) → Contains (live r) u → SameClauseAt p.clauses r.clauses u
  kept u c =
      let y = left_alone u c in
      let a : SameClauseAt p.clauses q.clauses u = (x.stay u y.0).1 in
      let b : SameClauseAt q.clauses r.clauses u = d.deletes.put.others u (live_in q.clauses q.db.refs u y.0) y.1 in
      record { clause = b.clause; header = b.header ∙ a.header; lits = b.lits ∙ a.lits }

  gone_first : (u : ℕ) → Contains gone u → Contains (gone ++ o ∷ []) u
  gone_first u c = Contains-append_left gone (o ∷ []) u c

  deletes_more : DeletesJustThese p r (gone ++ o ∷ [])
  deletes_more = record {
    deleted = λ u c. elim (Contains-append_cases gone (o ∷ []) u c) [
      | inl g ↦ (let y = x.deleted u g in (y.0, λ k. y.1 (left_alone u k).0))
      | inr l ↦
          let e : o ≡ u = (let z : 0 ≡ l.0 = omega (arith, l.1) in ap (λ k. get_or (o ∷ []) k 0) z ∙ at_place (o ∷ []) u l) in
          ((subst (λ v. Contains (live p) v) e (x.stay o here).0), λ k. (left_alone u k).1 (sym e))
    ];
    others = λ u c. elim (x.others u c) [
      | inl g ↦ inl (gone_first u g)
      | inr k ↦ elim (cases_eq u o) [
        | inl e ↦ inl (subst (λ v. Contains (gone ++ o ∷ []) v) (sym e) (Contains-append_right gone (o ∷ []) o (0, omega arith, refl)))
        | inr n ↦ inr (subst (λ os. Contains os u) (sym d.deletes.live) (without_there o u (live q) n k))
      ]
    ];
    stay = λ u c. ((x.stay u (left_alone u c).0).0, kept u c);
    same = search_trans p q r x.same d.same;
  }

-- a clause that is not deleted is a reason only if it was one before
module _ (p q : SearchState) (gone : List ℕ) (o : ℕ) (x : DeletesJustThese p q gone) (here : Contains (live q) o) where
  reason_before : IsReason q o → IsReason p o
  reason_before h = rw (x.same.0.0, x.same.0.1, (x.stay o here).1.lits) at h

  free_before : (IsReason q o → ⊥) → IsReason p o → ⊥
  free_before h k = h (rw (x.same.0.0, x.same.0.1, (x.stay o here).1.lits) k)

-- The clauses of `list` before `rest` were visited: those in `gone` were deleted, and at most `left` more are deleted
-- later.
pub record Halving (p q : SearchState) (list rest : List ℕ) (left : ℕ) : Type 0 where
  pub gone : List ℕ
  pub first : (free : List ℕ) → AreFirstNonReasons p rest left free → AreFirstNonReasons p list (length list / 2) (gone ++ free)
  pub deletes : DeletesJustThese p q gone

pub halving_none : (p : SearchState) (list : List ℕ) (left : ℕ) → left ≡ length list / 2 → ((o : ℕ) → Contains (live p) o → SameClauseAt p.clauses p.clauses o) → Halving p p list list left
halving_none p list left e keeps = record { gone = []; first = λ free h. rw e at h; deletes = deletes_none p keeps }

pub halving_next : (p q r : SearchState) (list rest : List ℕ) (o n left : ℕ) (b : Bool) → Halving p q list (o ∷ rest) (suc n) → Contains (live q) o → DeletesUnlessReason b o q r → left ≡ cond b n (suc n) → Halving p r list rest left
halving_next p q r list rest o n left true h here t e = record {
  gone = h.gone ++ o ∷ [];
  first = λ free k. subst (λ us. AreFirstNonReasons p list (length list / 2) us) (sym (append_assoc h.gone (o ∷ []) free)) (h.first (o ∷ free) (inr (free_before p q h.gone o h.deletes here t.0, free, refl, rw e at k)));
  deletes = deletes_more p q r h.gone o h.deletes here t.1;
}
halving_next p q r list rest o n left false h here t e = record {
  gone = h.gone;
  first = λ free k. h.first free (inl (reason_before p q h.gone o h.deletes here t.0, rw e at k));
  deletes = rw t.1 h.deletes;
}

none_free : (p : SearchState) (rest : List ℕ) → AreFirstNonReasons p rest 0 []
none_free p [] = refl
none_free p (o ∷ rest) = refl

module _ (p q : SearchState) (list : List ℕ) (all : IsPermutation (filter (is_live_in_tier p.clauses Local) p.db.refs) list) (rising : IsNonDecreasingBy (clause_rank p.clauses) list) where
  done : (rest : List ℕ) (left : ℕ) → AreFirstNonReasons p rest left [] → Halving p q list rest left → HalvesLocals p q
  done rest left f h = record {
    locals = list;
    all = all;
    rising = rising;
    gone = h.gone;
    first = subst (λ us. AreFirstNonReasons p list (length list / 2) us) (append-nil h.gone) (h.first [] f);
    deletes = h.deletes;
  }

  -- half of the clauses were deleted
  pub halved_enough : (rest : List ℕ) (left : ℕ) → left ≡ 0 → Halving p q list rest left → HalvesLocals p q
  halved_enough rest left e h = done rest left (rw e (none_free p rest)) h

  -- all clauses of the list were visited
  pub halved_all : (rest : List ℕ) (left : ℕ) → rest ≡ [] → Halving p q list rest left → HalvesLocals p q
  halved_all rest left e h = done rest left (rw e refl) h

-- one more clause of the list was visited
pub halving_step : (p q r : SearchState) (list : List ℕ) (at o left later : ℕ) (b : Bool) → Halving p q list (drop at list) left → at < length list → o ≡ get_or list at 0 → 0 < left → Contains (live q) o → DeletesUnlessReason b o q r → later ≡ cond b (left - 1) left →
    Halving p r list (drop (at + 1) list) later
halving_step p q r list at o zero later b h lt here some c t e = absurd (omega arith)
halving_step p q r list at o (suc n) later b h lt here some c t e =
    let one : suc n - 1 ≡ n = omega arith in
    halving_next p q r list (drop (at + 1) list) o n later b (subst (λ us. Halving p q list us (suc n)) (drop_more list at 0 lt ∙ ap (λ z. z ∷ drop (at + 1) list) (sym here)) h) c t (e ∙ ap (λ m. cond b m (suc n)) one)

pub drop_end : (list : List ℕ) (at : ℕ) → length list ≤ at → drop at list ≡ []
drop_end [] zero le = refl
drop_end [] (suc at) le = refl
drop_end (x ∷ list) zero le = absurd (omega arith)
drop_end (x ∷ list) (suc at) le = drop_end list at (omega arith)
