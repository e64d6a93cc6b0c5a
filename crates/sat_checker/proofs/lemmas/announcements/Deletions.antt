-- What a deleted clause follows from, and the order of announcements.
use Rattle.std.proofs.Common.{ℕ, ◌≡◌, Bool, true, false, cond, eqb, List, [], ◌∷◌, map, refl, sym, ◌∙◌, ap, subst, Option, Some, None, inl, inr}
use Rattle.std.proofs.lemmas.Bool.{both_ways, eqb-true}
use Rattle.std.specs.List.{AllByRecursion, list_any}
use Rattle.sat_base.specs.values.Literals.{negated}
use Rattle.sat_checker.specs.LiteralSets.{is_among, is_subset_of, canonical}
use Rattle.sat_checker.specs.Propagation.{IsFalsified}
use Rattle.sat_checker.specs.Stored.{StoredClause, StoredUnit, LastIrredundant, NoneYet, Empty, UnitClause, LongClause, Stored, unit_literals}
use Rattle.sat_checker.specs.Storing.{clause_with_id, unit_with_id, last_literals, settled_by}
use Rattle.sat_checker.specs.Accepts.{IsStrictSubset, ready_after, stored_after}
use Rattle.sat_checker.specs.announcements.Needed.{satisfying_unit}
use Rattle.sat_checker.specs.announcements.Announcements.{option_to_list, last_id, delayed_announcement}
use Rattle.sat_checker.specs.announcements.Promises.{IsOneOf, FollowsByPropagation, IsNotEmptyClause, DeletedFollowByPropagation, NoticesAreAppended}
use Rattle.sat_checker.proofs.lemmas.sets.Canonical.{canonical_among}
use Rattle.sat_checker.proofs.lemmas.sets.Subsets.{each_true, some_of}
use Rattle.sat_checker.proofs.lemmas.meaning.Meaning.{means_ready}
use Rattle.sat_checker.proofs.lemmas.announcements.Sorted.{sorted_ready}
use Rattle.sat_checker.proofs.lemmas.announcements.Grounds.{among_negated}
use Rattle.sat_checker.proofs.lemmas.announcements.Rests.{rests_on_unit, true_missing}

-- the stored unit or clause with this id
pub record UnitNumbered (us : List StoredUnit) (id : ℕ) (ls : List ℕ) : Type 0 where
  pub unit : StoredUnit
  pub stored : IsOneOf unit us
  pub id_is : unit.id ≡ id
  pub literals_are : unit.literal ∷ [] ≡ ls

pub unit_of : (id : ℕ) (ls : List ℕ) (us : List StoredUnit) → unit_with_id id us ≡ Some ls → UnitNumbered us id ls
unit_of id ls [] e = absurd cc
unit_of id ls (u ∷ us) e = go (unit_of id ls us) (eqb u.id id) refl e
  where
    go : (unit_with_id id us ≡ Some ls → UnitNumbered us id ls) → (b : Bool) → eqb u.id id ≡ b → cond b (Some (u.literal ∷ [])) (unit_with_id id us) ≡ Some ls → UnitNumbered (u ∷ us) id ls
    go ih true s k = record { unit = u; stored = inl refl; id_is = eqb-true u.id id s; literals_are = cc }
    go ih false s k = let w = ih k in record { unit = w.unit; stored = inr w.stored; id_is = w.id_is; literals_are = w.literals_are }

pub record ClauseNumbered (cs : List StoredClause) (id : ℕ) (ls : List ℕ) : Type 0 where
  pub clause : StoredClause
  pub stored : IsOneOf clause cs
  pub id_is : clause.id ≡ id
  pub literals_are : clause.literals ≡ ls

pub signed : (id : ℕ) (ls : List ℕ) (cs : List StoredClause) → clause_with_id id cs ≡ Some ls → ClauseNumbered cs id ls
signed id ls [] e = absurd cc
signed id ls (c ∷ cs) e = go (signed id ls cs) (eqb c.id id) refl e
  where
    go : (clause_with_id id cs ≡ Some ls → ClauseNumbered cs id ls) → (b : Bool) → eqb c.id id ≡ b → cond b (Some c.literals) (clause_with_id id cs) ≡ Some ls → ClauseNumbered (c ∷ cs) id ls
    go ih true s k = record { clause = c; stored = inl refl; id_is = eqb-true c.id id s; literals_are = cc }
    go ih false s k = let w = ih k in record { clause = w.clause; stored = inr w.stored; id_is = w.id_is; literals_are = w.literals_are }

-- if all literals of a clause are false, every part of it is falsified
part_falsified : (part clause : List ℕ) → is_subset_of part clause ≡ true → IsFalsified (map negated clause) part
part_falsified part clause e = go part (each_true (is_among clause) part e)
  where
    go : (ls : List ℕ) → AllByRecursion (λ l. is_among clause l ≡ true) ls → IsFalsified (map negated clause) ls
    go [] h = tt
    go (l ∷ ls) h = (among_negated clause l h.0, go ls h.1)

by_unit : (f : Stored) (clause ls : List ℕ) (id : ℕ) → UnitNumbered f.units id ls → is_subset_of ls clause ≡ true → FollowsByPropagation f clause (id ∷ [])
by_unit f clause ls id u p = record {
  units = u.unit ∷ [];
  clauses = [];
  are = ap (λ i. i ∷ []) (sym u.id_is);
  units_stored = (u.stored, tt);
  clauses_stored = tt;
  increasing = (tt, tt);
  conflict = part_falsified (u.unit.literal ∷ []) clause (subst (λ x. is_subset_of x clause ≡ true) (sym u.literals_are) p);
}

by_clause : (f : Stored) (clause ls : List ℕ) (id : ℕ) → ClauseNumbered f.clauses id ls → is_subset_of ls clause ≡ true → FollowsByPropagation f clause (id ∷ [])
by_clause f clause ls id c p = record {
  units = [];
  clauses = c.clause ∷ [];
  are = ap (λ i. i ∷ []) (sym c.id_is);
  units_stored = tt;
  clauses_stored = (c.stored, tt);
  increasing = tt;
  conflict = part_falsified c.clause.literals clause (subst (λ x. is_subset_of x clause ≡ true) (sym c.literals_are) p);
}

by_last : (f : Stored) (clause : List ℕ) (last : LastIrredundant) → IsStrictSubset (last_literals last f) clause → IsNotEmptyClause last → FollowsByPropagation f clause (option_to_list (last_id last))
by_last f clause NoneYet s n = absurd s
by_last f clause (Empty id) s n = absurd (n id refl)
by_last f clause (UnitClause id) s n = go (unit_with_id id f.units) refl s
  where
    go : (x : Option (List ℕ)) → unit_with_id id f.units ≡ x → IsStrictSubset x clause → FollowsByPropagation f clause (id ∷ [])
    go None e k = absurd k
    go (Some ls) e k = by_unit f clause ls id (unit_of id ls f.units e) k.0
by_last f clause (LongClause id) s n = go (clause_with_id id f.clauses) refl s
  where
    go : (x : Option (List ℕ)) → clause_with_id id f.clauses ≡ x → IsStrictSubset x clause → FollowsByPropagation f clause (id ∷ [])
    go None e k = absurd k
    go (Some ls) e k = by_clause f clause ls id (signed id ls f.clauses e) k.0

pub deletions : DeletedFollowByPropagation
deletions steps clause ok = ((λ a. satisfied (satisfying_unit (canonical clause) (ready_after steps).units) refl a.1), (λ a n. by_last (ready_after steps) clause (ready_after steps).last a.1 n))
  where
    satisfied : (x : Option ℕ) → satisfying_unit (canonical clause) (ready_after steps).units ≡ x → list_any (is_among (unit_literals (ready_after steps))) clause ≡ true → FollowsByPropagation (ready_after steps) clause (option_to_list x)
    satisfied (Some id) e h = rests_on_unit (ready_after steps) clause [] (sorted_ready steps) (means_ready steps ok).coherent.apart id e
    satisfied None e h =
        let s = some_of (is_among (unit_literals (ready_after steps))) clause h in
        absurd (both_ways (is_among (unit_literals (ready_after steps)) s.literal) (true_missing (canonical clause) (ready_after steps).units e s.literal (canonical_among clause s.literal ∙ s.within)) s.passes)

settled_once : (f : Stored) (x : Option (ℕ × ℕ)) → f.conflict ≡ x → delayed_announcement (settled_by x f) ≡ []
settled_once f None e = rw e refl
settled_once f (Some units) e = refl

pub in_order : NoticesAreAppended
in_order steps step = (
  refl,
  settled_once (stored_after steps) (stored_after steps).conflict refl,
)
