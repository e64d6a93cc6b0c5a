-- Propagations are exactly the causes of the conflict.
use Rattle.std.proofs.Common.{ℕ, ◌≡◌, true, false, cond, eqb, List, [], ◌∷◌, ◌++◌, map, refl, sym, ◌∙◌, ap, subst, Option, Some, None, inl, inr}
use Rattle.std.proofs.lemmas.Bool.{or_left, or_right, both_ways, eq-eqb, false_from_ne_true}
use Rattle.std.specs.List.{AllByRecursion, list_any}
use Rattle.sat_base.specs.values.Literals.{negated}
use Rattle.sat_checker.specs.LiteralSets.{is_among, is_tautology, canonical}
use Rattle.sat_checker.specs.inner.Marks.{IsIncreasing, NoRepeats}
use Rattle.sat_checker.specs.Stored.{StoredClause, StoredUnit, Stored, unit_literals}
use Rattle.sat_checker.specs.Storing.{with_units}
use Rattle.sat_checker.specs.Accepts.{VariablesDistinct, PassesByHashes, ready_after}
use Rattle.sat_checker.specs.announcements.Needed.{conflict_causes, clauses_of_hashes, conflict_ids, satisfying_unit, only_unit_or, propagations}
use Rattle.sat_checker.specs.announcements.Promises.{IsOneOf, IsConflictCauses, PropagationsInTurn, ConflictIsFollowedBackwards}
use Rattle.sat_checker.proofs.lemmas.sets.Canonical.{canonical_among}
use Rattle.sat_checker.proofs.lemmas.sets.Marks.{once}
use Rattle.sat_checker.proofs.lemmas.sets.Subsets.{any_true}
use Rattle.sat_checker.proofs.lemmas.meaning.Meaning.{means_ready}
use Rattle.sat_checker.proofs.lemmas.announcements.Sorted.{Sorted, sorted_ready, sorted_units}
use Rattle.sat_checker.proofs.lemmas.announcements.Rests.{true_found, named_stored, reached, rests_on}
use Rattle.sat_checker.proofs.lemmas.announcements.Apart.{apart_units}
use Rattle.sat_checker.proofs.lemmas.announcements.Backwards.{followed}

pub one_among : (u : StoredUnit) (us : List StoredUnit) → IsOneOf u us → is_among (map (λ w. w.literal) us) u.literal ≡ true
one_among u [] h = absurd h
one_among u (w ∷ ws) h =
    elim h [
      | inl e ↦ or_left (eqb w.literal u.literal) (is_among (map (λ x. x.literal) ws) u.literal) (eq-eqb w.literal u.literal (ap (λ x. x.literal) (sym e)))
      | inr k ↦ or_right (eqb w.literal u.literal) (is_among (map (λ x. x.literal) ws) u.literal) (one_among u ws k)
    ]

-- what holds for every member of a list holds for all of it
each_named : (P : StoredClause → Type 0) (cs : List StoredClause) → ((c : StoredClause) → IsOneOf c cs → P c) → AllByRecursion P cs
each_named P [] h = tt
each_named P (c ∷ cs) h = (h c (inl refl), each_named P cs (λ d k. h d (inr k)))

one_holds : (P : StoredClause → Type 0) (cs : List StoredClause) (c : StoredClause) → AllByRecursion P cs → IsOneOf c cs → P c
one_holds P [] c h k = absurd k
one_holds P (d ∷ ds) c h k = elim k [ inl e ↦ subst P (sym e) h.0 | inr t ↦ one_holds P ds c h.1 t ]

module _ (f : Stored) (clause hashes : List ℕ) (sorted : Sorted f) where
  no_unit : list_any (is_among (unit_literals f)) clause ≡ false → (m : ℕ) → is_among clause m ≡ true → is_among (unit_literals f) m ≡ false
  no_unit n m h = false_from_ne_true (is_among (unit_literals f) m) (λ t. both_ways (list_any (is_among (unit_literals f)) clause) n (any_true (is_among (unit_literals f)) clause m h t))

  no_true_unit : list_any (is_among (unit_literals f)) clause ≡ false → satisfying_unit (canonical clause) f.units ≡ None
  no_true_unit n = go (satisfying_unit (canonical clause) f.units) refl
    where
      go : (x : Option ℕ) → satisfying_unit (canonical clause) f.units ≡ x → x ≡ None
      go None e = refl
      go (Some id) e =
          let t = true_found (canonical clause) f.units id e in
          absurd (both_ways (is_among (unit_literals f) t.literal) (no_unit n t.literal (sym (canonical_among clause t.literal) ∙ t.within)) (subst (λ l. is_among (unit_literals f) l ≡ true) t.found.literal_is (one_among t.found.unit f.units t.found.stored)))

  ids_are : is_tautology clause ≡ false → list_any (is_among (unit_literals f)) clause ≡ false → propagations f clause hashes ≡ conflict_ids (map negated clause) (conflict_causes (map negated clause ++ unit_literals f) (clauses_of_hashes hashes f)) f.units
  ids_are t n =
      let ids : List ℕ = conflict_ids (map negated clause) (conflict_causes (map negated clause ++ unit_literals f) (clauses_of_hashes hashes f)) f.units in
      ap (λ b. cond b [] (only_unit_or (satisfying_unit (canonical clause) f.units) ids)) t ∙ ap (λ x. only_unit_or x ids) (no_true_unit n)

  is_exact : VariablesDistinct (unit_literals f) → PassesByHashes f clause hashes → is_tautology clause ≡ false → list_any (is_among (unit_literals f)) clause ≡ false → IsConflictCauses (map negated clause ++ unit_literals f) (clauses_of_hashes hashes f) (conflict_causes (map negated clause ++ unit_literals f) (clauses_of_hashes hashes f))
  is_exact apart p t n =
      (followed (clauses_of_hashes hashes f) (map negated clause ++ unit_literals f) (each_named (λ c. NoRepeats c.literals) (clauses_of_hashes hashes f) (λ c k. once c.literals (one_holds (λ d. IsIncreasing d.literals) f.clauses c sorted.sets (named_stored hashes f c k))))
      (reached f clause hashes sorted apart (no_unit n) t p)).is_ground

pub in_turn : PropagationsInTurn
in_turn steps front clause hashes ok =
    rests_on (with_units front (ready_after steps)) clause hashes (sorted_units front (ready_after steps) (sorted_ready steps)) (apart_units front (ready_after steps) (means_ready steps ok).coherent.apart)

pub backwards : ConflictIsFollowedBackwards
backwards steps front clause hashes ok p t n =
    let f : Stored = with_units front (ready_after steps) in
    let s : Sorted f = sorted_units front (ready_after steps) (sorted_ready steps) in
    (ids_are f clause hashes s t n, is_exact f clause hashes s (apart_units front (ready_after steps) (means_ready steps ok).coherent.apart) p t n)
