-- The causes of a conflict, clause by clause: every new reason is appended to the reasons so far.
use Rattle.std.proofs.Common.{ℕ, ◌≡◌, List, [], ◌∷◌, ◌++◌, map, refl, sym, ◌∙◌, ap}
use Rattle.sat_base.specs.values.Literals.{negated}
use Rattle.sat_checker.specs.Stored.{StoredClause}
use Rattle.sat_checker.specs.inner.Walk.{falsified, becomes_unit, neither, clause_state}
use Rattle.sat_checker.specs.announcements.Needed.{ConflictCauses, with_cause, causes_by, conflict_causes}
use Rattle.sat_checker.specs.announcements.Promises.{Reason}
use Rattle.sat_checker.specs.announcements.Following.{with_causes}

back_push : (rs : List Reason) (r : Reason) (g : ConflictCauses) → with_causes (rs ++ r ∷ []) g ≡ with_causes rs (with_cause r.literal r.clause g)
back_push [] r g = refl
back_push (s ∷ ss) r g = ap (with_cause s.literal s.clause) (back_push ss r g)

module _ (whole : ConflictCauses) (rs : List Reason) (assumed : List ℕ) (c : StoredClause) (cs : List StoredClause) (so_far : whole ≡ with_causes rs (conflict_causes assumed (c ∷ cs))) where
  pub passed_open : (l : ℕ) → clause_state assumed c.literals ≡ becomes_unit l → whole ≡ with_causes (rs ++ (record { clause = c; literal = l }) ∷ []) (conflict_causes (l ∷ assumed) cs)
  passed_open l e = so_far ∙ ap (λ v. with_causes rs (causes_by v c assumed (λ more. conflict_causes more cs))) e ∙ sym (back_push rs (record { clause = c; literal = l }) (conflict_causes (l ∷ assumed) cs))

  pub passed_over : clause_state assumed c.literals ≡ neither → whole ≡ with_causes rs (conflict_causes assumed cs)
  passed_over e = so_far ∙ ap (λ v. with_causes rs (causes_by v c assumed (λ more. conflict_causes more cs))) e

  pub passed_conflict : clause_state assumed c.literals ≡ falsified → whole ≡ with_causes rs (record { literals = map negated c.literals; clauses = c ∷ [] })
  passed_conflict e = so_far ∙ ap (λ v. with_causes rs (causes_by v c assumed (λ more. conflict_causes more cs))) e
