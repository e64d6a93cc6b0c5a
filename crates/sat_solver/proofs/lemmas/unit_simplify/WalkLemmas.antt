-- The list of long clauses is visited in order.
use Rattle.std.proofs.Common.{ℕ, ◌+◌, ◌≡◌, ◌<◌, ◌∙◌, inl, inr, false, List, length, get_or, refl, sym, subst, arith}
use Rattle.std.proofs.lemmas.Bool.{cases_eq, true≢false}
use Rattle.std.proofs.lemmas.List.{get_or_default}
use Rattle.std.specs.List.{Contains}
use Rattle.sat_parts.specs.clause.Db.{live_refs, is_live, AreStrictlyIncreasing}
use Rattle.sat_parts.proofs.lemmas.prop.BuildLemmas.{live_in}
use Rattle.sat_parts.proofs.lemmas.parts.ReduceLemmas.{filter_in}
use Rattle.sat_solver.specs.session.Session.{Session}
use Rattle.sat_solver.specs.declared.context.Search.{Search}
use Rattle.sat_solver.specs.unit_simplify.EmptyTrail.{StrengthensClause, AreOpenTo}
use Rattle.sat_solver.specs.unit_simplify.ClauseStatus.{HasNoAssignedLit}

pub to_none : (c d : Search) → AreOpenTo c d 0
to_none c d k lt = absurd (omega arith)

module _ (c m : Search) (at : ℕ) (h : AreOpenTo c m at) where
  -- one more clause was visited
  pub to_more : (t : Session) (d : Search) (o : ℕ) → at < length c.parts.db.refs → AreStrictlyIncreasing c.parts.db.refs → o ≡ get_or c.parts.db.refs at 0 → StrengthensClause t m d o → AreOpenTo c d (at + 1)
  to_more t d o lt rising is x k less there = elim (cases_eq k at) [
    | inl e ↦
        let here : get_or c.parts.db.refs k 0 ≡ o = (let z : get_or c.parts.db.refs k 0 ≡ get_or c.parts.db.refs at 0 = subst (λ j. get_or c.parts.db.refs k 0 ≡ get_or c.parts.db.refs j 0) e refl in z ∙ sym is) in
        subst (λ z. HasNoAssignedLit d.parts z) (sym here) (x.left (subst (λ z. Contains (live_refs d.parts.clauses d.parts.db.refs) z) here there))
    | inr n ↦
        let below : get_or c.parts.db.refs k 0 < get_or c.parts.db.refs at 0 = rising k at (omega arith) lt in
        let y = x.others (get_or c.parts.db.refs k 0) (λ e. omega (arith, e ∙ is)) there in
        y.1 (h k (omega arith) y.0)
  ]

  -- a clause that was deleted is skipped
  pub to_skip : (o : ℕ) → o ≡ get_or c.parts.db.refs at 0 → is_live m.parts.clauses o ≡ false → AreOpenTo c m (at + 1)
  to_skip o is dead k less there = elim (cases_eq k at) [
    | inl e ↦
        let here : get_or c.parts.db.refs k 0 ≡ o = (let z : get_or c.parts.db.refs k 0 ≡ get_or c.parts.db.refs at 0 = subst (λ j. get_or c.parts.db.refs k 0 ≡ get_or c.parts.db.refs j 0) e refl in z ∙ sym is) in
        absurd (true≢false (sym (filter_in (is_live m.parts.clauses) m.parts.db.refs o (subst (λ z. Contains (live_refs m.parts.clauses m.parts.db.refs) z) here there)).1 ∙ dead))
    | inr n ↦ h k (omega arith) there
  ]

-- all clauses were visited
pub to_all : (c d : Search) → d.parts.db.refs ≡ c.parts.db.refs → AreOpenTo c d (length c.parts.db.refs) → (o : ℕ) → Contains (live_refs d.parts.clauses d.parts.db.refs) o → HasNoAssignedLit d.parts o
to_all c d same h o there =
    let x = subst (λ (xs : List ℕ). Contains xs o) same (live_in d.parts.clauses d.parts.db.refs o there) in
    let here : get_or c.parts.db.refs x.0 0 ≡ o = get_or_default c.parts.db.refs x.0 0 o x.1 ∙ x.2 in
    subst (λ z. HasNoAssignedLit d.parts z) here (h x.0 x.1 (subst (λ z. Contains (live_refs d.parts.clauses d.parts.db.refs) z) (sym here) there))
