-- Indices get proof variables, and lose them.
use Rattle.std.proofs.Common.{ℕ, suc, ◌<◌, ◌≡◌, ◌≢◌, Bool, false, cond, eqb, List, [], ◌∷◌, length, get_or, refl, sym, ◌∙◌, ap, arith, inl, inr, Option, Some, None}
use Rattle.std.proofs.lemmas.Bool.{cases_eq, eq-eqb, ne_eqb, or_from}
use Rattle.sat_base.specs.values.Literals.{variable, negated}
use Rattle.sat_base.specs.steps.Steps.{SolverVarName}
use Rattle.sat_store.specs.clause.Buffer.{lits_at}
use Rattle.sat_checker.specs.LiteralSets.{mentions}
use Rattle.sat_parts.specs.prop.Binaries.{implied_by}
use Rattle.sat_parts.specs.prop.Values.{IsTrueLit}
use Rattle.sat_parts.specs.prop.State.{PropagationState, level}
use Rattle.sat_solver.specs.session.Session.{Session, after}
use Rattle.sat_solver.proofs.lemmas.session.Changes.{session_with_name}
use Rattle.sat_solver.specs.session.LiveClauses.{LiveClause, IsIn}
use Rattle.sat_solver.proofs.lemmas.session.Represented.{loses_name, still_of}
use Rattle.sat_solver.specs.session.SolverClauses.{binaries, longs, solver_clauses}
use Rattle.sat_parts.specs.parts.Round.{IsInNoClause}
use Rattle.sat_parts.specs.parts.Frame.{IsUnitLit}
use Rattle.sat_solver.specs.session.Listed.{MatchesClauseList}
use Rattle.sat_solver.proofs.lemmas.fits.FitLemmas.{long_of, in_either, IsLongOf}
use Rattle.sat_solver.proofs.lemmas.fits.ModelLemmas.{pair_of, IsPairOf}

-- CLAUSES WITHOUT A VARIABLE

none_mentions : (ls : List ℕ) (v : ℕ) → ((k : ℕ) → k < length ls → variable (get_or ls k 0) ≢ v) → mentions ls v ≡ false
none_mentions [] v h = refl
none_mentions (l ∷ ls) v h = or_from (eqb (variable l) v) (mentions ls v) (ne_eqb (variable l) v (h 0 (omega arith))) (none_mentions ls v (λ k lt. h (suc k) (omega arith)))

pub unused_in : (redundant : ℕ → Bool) (words live : List ℕ) (implied : List (List ℕ)) (v : ℕ) → IsInNoClause words live implied v → (c : LiveClause) → IsIn c (solver_clauses redundant words live implied) → mentions c.literals v ≡ false
unused_in redundant words live implied v h c k = elim (in_either c (binaries implied) (longs redundant words live) k) [
  | inl a ↦
      let x : IsPairOf implied c = pair_of implied c a in
      let y = h.binary x.list x.place x.within in
      ap (λ ls. mentions ls v) x.same
      ∙ or_from (eqb (variable (negated x.list)) v) (mentions (get_or (implied_by implied x.list) x.place 0 ∷ []) v) (ne_eqb (variable (negated x.list)) v (λ e. y.0 ((let z : variable x.list ≡ variable (negated x.list) = omega arith in z) ∙ e)))
      (or_from (eqb (variable (get_or (implied_by implied x.list) x.place 0)) v) false (ne_eqb (variable (get_or (implied_by implied x.list) x.place 0)) v y.1) refl)
  | inr b ↦
      let x : IsLongOf redundant words live c = long_of redundant words live c b in
      ap (λ (d : LiveClause). mentions d.literals v) x.same ∙ none_mentions (lits_at words x.place) v (λ i lt. h.long x.place i x.there lt)
]

-- NAMES ARE ADDED

none_some : (x : ℕ) → None ≡ Some x → ⊥
none_some x e = cc

name_there : (names : ℕ → Option ℕ) (w u : ℕ) (name : Option ℕ) → u ≡ w → cond (eqb u w) name (names u) ≡ name
name_there names w u name e = ap (λ b. cond b name (names u)) (eq-eqb u w e)

name_other : (names : ℕ → Option ℕ) (w u : ℕ) (name : Option ℕ) → u ≢ w → cond (eqb u w) name (names u) ≡ names u
name_other names w u name n = ap (λ b. cond b name (names u)) (ne_eqb u w n)

-- NAMES ARE REMOVED

-- index x, which is in no clause, loses its proof variable w, and the search may forget its value
pub record LosesName (st st' : PropagationState) (s : Session) (global : ℕ → ℕ) (w x : ℕ) : Type 0 where
  pub its : s.solver_names w ≡ Some x
  pub there : global x ≡ w
  pub units : (l : ℕ) → IsUnitLit st' l → IsUnitLit st l
  pub kept : (l : ℕ) → variable l ≢ x → IsTrueLit st.values l → level st l ≡ 0 → IsTrueLit st'.values l × (level st' l ≡ 0)

pub listed_unnamed : (cs : List LiveClause) (st st' : PropagationState) (s : Session) (global : ℕ → ℕ) (w x : ℕ) → MatchesClauseList cs st s global → LosesName st st' s global w x →
    ((c : LiveClause) → IsIn c cs → mentions c.literals x ≡ false) → MatchesClauseList cs st' (after (SolverVarName w None) s) global
listed_unnamed cs st st' s global w x h g unused =
    let t : Session = after (SolverVarName w None) s in
    let old : (v : ℕ) → t.solver_names (global v) ≡ Some v → (v ≢ x) × (s.solver_names (global v) ≡ Some v) = λ v e. elim (cases_eq (global v) w) [
      | inl q ↦ absurd (none_some v (sym (name_there s.solver_names w (global v) None q) ∙ e))
      | inr d ↦ ((λ z. d (ap global z ∙ g.there)), sym (name_other s.solver_names w (global v) None d) ∙ e)
    ] in
    record {
      clauses = still_of (session_with_name w None s) t global cs (λ r set. refl) refl (loses_name s global w x cs h.clauses g.its unused);
      known = λ l u. h.known l (g.units l u);
      sound = λ l n u.
          let o = old (variable l) n in
          let y = h.sound l o.1 u in
          g.kept l o.0 y.0 y.1;
      consistent = h.consistent;
      width = h.width;
    }
