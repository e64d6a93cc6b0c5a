-- Invariants of what is stored.
use Rattle.std.proofs.Common.{ℕ, ◌+◌, ◌<◌, ◌≡◌, Bool, true, false, cond, List, [], ◌∷◌, map, ◌↔◌, None, Some, refl, arith}
use Rattle.sat_base.specs.values.Literals.{negated}
use Rattle.sat_base.specs.steps.Steps.{Redundant, SolverVarName, UserVarName, AddClause, AtClause, UnitClauses, DeleteClause}
use Rattle.sat_checker.specs.LiteralSets.{is_tautology, canonical, same_literals}
use Rattle.sat_checker.specs.Stored.{Stored, is_unit}
use Rattle.sat_checker.specs.Storing.{clause_with, irredundant_count, redundant_count, with_contradiction, with_new_unit, with_unit, with_units, with_sorted_set, with_canonical, with_stored, with_input, with_literals_known}
use Rattle.sat_checker.specs.Accepts.{stored_after}
use Rattle.sat_checker.specs.Contents.{count_of}
use Rattle.sat_checker.specs.Invariants.{StoredInvariantHolds, UnsatIsPermanent, AllClausesHold, RemovalLowersCount, StoredIffCounted}
use Rattle.sat_checker.proofs.lemmas.meaning.Meaning.{means_ready}
use Rattle.sat_checker.proofs.lemmas.meaning.Orderly.{orderly_settled}
use Rattle.sat_checker.proofs.lemmas.meaning.OrderlySteps.{orderly}
use Rattle.sat_checker.proofs.lemmas.contents.Counts.{count_less}
use Rattle.sat_checker.proofs.lemmas.invariants.Counted.{tidy_clauses}
use Rattle.sat_checker.proofs.lemmas.invariants.Proper.{all_proper}
use Rattle.sat_checker.proofs.lemmas.invariants.Known.{all_known}

pub always_tidy : StoredInvariantHolds
always_tidy steps ok =
    let c = tidy_clauses steps in
    let o = orderly_settled (stored_after steps) (orderly steps ok) in
    let k = all_known steps ok in
    record {
      proper = all_proper steps;
      once = c.once;
      counted = c.counted;
      ids = record { rising = o.increasing; given = o.below };
      units_apart = (means_ready steps ok).coherent.apart;
      clauses_known = k.clauses_known;
      units_known = k.units_known;
      assumed_known = k.assumed_known;
    }

pub all_clauses_hold : AllClausesHold
all_clauses_hold steps a ok h = let m = means_ready steps ok in m.coherent.follows a (m.to a h)

pub taking_counts : RemovalLowersCount
taking_counts redundant side set other cs once = count_less redundant side set other cs once

pub counted_is_stored : StoredIffCounted
counted_is_stored set [] h = ((λ e. refl), (λ e. refl))
counted_is_stored set (c ∷ cs) h = go (counted_is_stored set cs h.1) (same_literals c.literals set)
  where
    go : (clause_with set cs ≡ None) ↔ (count_of false set cs + count_of true set cs ≡ 0) → (b : Bool) → (cond b (Some c) (clause_with set cs) ≡ None) ↔ (irredundant_count (cond b (Some c) (clause_with set cs)) + redundant_count (cond b (Some c) (clause_with set cs)) ≡ 0)
    go ih true = ((λ e. absurd cc), (λ e. let n : 0 < c.irredundant + c.redundant = h.0 in absurd (omega arith)))
    go ih false = ih

-- UNSAT

unsat_unit : (l : ℕ) (f : Stored) → f.unsat ≡ true → (with_unit l f).unsat ≡ true
unsat_unit l f h = go (is_unit f l) (is_unit f (negated l))
  where
    go : (b d : Bool) → (cond b f (cond d (with_contradiction l f) (with_new_unit l f))).unsat ≡ true
    go true d = h
    go false true = refl
    go false false = h

unsat_units : (ls : List ℕ) (f : Stored) → f.unsat ≡ true → (with_units ls f).unsat ≡ true
unsat_units [] f h = h
unsat_units (l ∷ ls) f h = unsat_units ls (with_unit l f) (unsat_unit l f h)

unsat_set : (r : Bool) (set : List ℕ) (f : Stored) → f.unsat ≡ true → (with_sorted_set r set f).unsat ≡ true
unsat_set r [] f h = refl
unsat_set r (l ∷ []) f h = unsat_unit l f h
unsat_set r (l ∷ m ∷ ls) f h = h

unsat_stored : (r : Bool) (clause : List ℕ) (f : Stored) → f.unsat ≡ true → (with_stored r clause f).unsat ≡ true
unsat_stored r clause f h = go (is_tautology clause)
  where
    put : (r : Bool) → (with_canonical r (canonical clause) f).unsat ≡ true
    put true = unsat_set true (canonical clause) f h
    put false = unsat_set false (canonical clause) f h

    go : (b : Bool) → (cond b f (with_canonical r (canonical clause) f)).unsat ≡ true
    go true = h
    go false = put r

pub unsat_stays : UnsatIsPermanent
unsat_stays f (SolverVarName v None) h = h
unsat_stays f (UserVarName v (Some name)) h = h
unsat_stays f (AddClause clause) h = go f.unsat
  where
    go : (b : Bool) → (cond b f (with_input clause (with_literals_known clause f))).unsat ≡ true
    go true = h
    go false = unsat_stored false clause (with_literals_known clause f) h
unsat_stays f (AtClause r clause hashes) h = unsat_stored r clause (with_literals_known clause f) h
unsat_stays f (UnitClauses us) h = let ls : List ℕ = map (λ u. u.0) us in unsat_units ls (with_literals_known ls f) h
unsat_stays f (DeleteClause clause Redundant) h = h
unsat_stays f step h = h
