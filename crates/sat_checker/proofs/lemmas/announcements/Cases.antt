-- What a clause that passes follows from, by cases: a tautology, a unit that satisfies it, or a conflict.
use Rattle.std.proofs.Common.{ℕ, ◌≡◌, Bool, true, false, cond, List, [], ◌∷◌, ◌++◌, map, Some, None, sym, ◌∙◌, ap}
use Rattle.std.specs.List.{list_any}
use Rattle.sat_base.specs.values.Literals.{negated}
use Rattle.sat_checker.specs.LiteralSets.{is_among, is_tautology, canonical}
use Rattle.sat_checker.specs.Stored.{StoredUnit, Stored, unit_literals}
use Rattle.sat_checker.specs.announcements.Needed.{conflict_causes, clauses_of_hashes, conflict_ids, satisfying_unit, only_unit_or, propagations}
use Rattle.sat_checker.proofs.lemmas.sets.Canonical.{canonical_among, canonical_tautology}
use Rattle.sat_checker.proofs.lemmas.announcements.Rests.{any_none, true_missing}

module _ (clause literals : List ℕ) (set : literals ≡ canonical clause) where
  pub signs_of : is_tautology literals ≡ is_tautology clause
  signs_of = ap is_tautology set ∙ canonical_tautology clause

  pub no_unit_true : (us : List StoredUnit) → satisfying_unit literals us ≡ None → list_any (is_among (map (λ u. u.literal) us)) clause ≡ false
  no_unit_true us e =
      any_none (is_among (map (λ u. u.literal) us)) clause (λ m k. true_missing (canonical clause) us (ap (λ ls. satisfying_unit ls us) (sym set) ∙ e) m (canonical_among clause m ∙ k))

  -- if the clause is no tautology and no unit satisfies it, what the check says about a conflict holds
  pub reached_conflict : (us : List StoredUnit) (both : Bool) (E : Type 0) → both ≡ is_tautology literals → both ≡ false → satisfying_unit literals us ≡ None → (list_any (is_among (map (λ u. u.literal) us)) clause ≡ false → is_tautology clause ≡ false → E) → E
  reached_conflict us both E s n e h = h (no_unit_true us e) (sym signs_of ∙ sym s ∙ n)

  module _ (f : Stored) (hashes : List ℕ) where
    pub none_of_signs : is_tautology literals ≡ true → propagations f clause hashes ≡ []
    none_of_signs t =
        let ids : List ℕ = only_unit_or (satisfying_unit (canonical clause) f.units) (conflict_ids (map negated clause) (conflict_causes (map negated clause ++ unit_literals f) (clauses_of_hashes hashes f)) f.units) in
        ap (λ b. cond b [] ids) (sym signs_of ∙ t)

    pub unit_of_literals : (id : ℕ) → is_tautology literals ≡ false → satisfying_unit literals f.units ≡ Some id → propagations f clause hashes ≡ id ∷ []
    unit_of_literals id t e =
        let ids : List ℕ = conflict_ids (map negated clause) (conflict_causes (map negated clause ++ unit_literals f) (clauses_of_hashes hashes f)) f.units in
        ap (λ b. cond b [] (only_unit_or (satisfying_unit (canonical clause) f.units) ids)) (sym signs_of ∙ t) ∙ ap (λ o. only_unit_or o ids) (ap (λ ls. satisfying_unit ls f.units) (sym set) ∙ e)

    pub ids_of_conflict : is_tautology literals ≡ false → satisfying_unit literals f.units ≡ None
        → propagations f clause hashes ≡ conflict_ids (map negated clause) (conflict_causes (map negated clause ++ unit_literals f) (clauses_of_hashes hashes f)) f.units
    ids_of_conflict t e =
        let ids : List ℕ = conflict_ids (map negated clause) (conflict_causes (map negated clause ++ unit_literals f) (clauses_of_hashes hashes f)) f.units in
        ap (λ b. cond b [] (only_unit_or (satisfying_unit (canonical clause) f.units) ids)) (sym signs_of ∙ t) ∙ ap (λ o. only_unit_or o ids) (ap (λ ls. satisfying_unit ls f.units) (sym set) ∙ e)
