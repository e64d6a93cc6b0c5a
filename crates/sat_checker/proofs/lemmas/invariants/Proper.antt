-- Every stored clause has at least two literals, is sorted, and is not a tautology.
use Rattle.std.proofs.Common.{ℕ, ◌≤◌, ◌≡◌, Bool, true, false, cond, List, [], ◌∷◌, map, length, Option, None, Some, refl, sym, ◌∙◌}
use Rattle.std.proofs.lemmas.Bool.{both_ways}
use Rattle.std.specs.List.{AllByRecursion}
use Rattle.sat_base.specs.values.Literals.{negated}
use Rattle.sat_base.specs.steps.Steps.{Redundant, Simplified, Satisfied, Step, SolverVarName, UserVarName, AddClause, AtClause, UnitClauses, DeleteClause}
use Rattle.sat_checker.specs.LiteralSets.{is_tautology, canonical}
use Rattle.sat_checker.specs.Stored.{Stored, long_clauses}
use Rattle.sat_checker.specs.Storing.{settled_by, with_conflict_settled, with_input, with_literals_known}
use Rattle.sat_checker.specs.Accepts.{effect, stored_after, ready_after}
use Rattle.sat_checker.specs.Invariants.{IsProperClause}
use Rattle.sat_checker.proofs.lemmas.sets.Canonical.{canonical_among, canonical_increasing, tautology_from, both_signs}
use Rattle.sat_checker.proofs.lemmas.invariants.Each.{each_without, each_units, each_stored}

no_signs : (clause : List ℕ) → is_tautology clause ≡ false → is_tautology (canonical clause) ≡ false
no_signs clause e = go (is_tautology (canonical clause)) refl
  where
    go : (b : Bool) → is_tautology (canonical clause) ≡ b → b ≡ false
    go true t =
        let s = both_signs (canonical clause) t in
        absurd (both_ways (is_tautology clause) e (tautology_from clause s.literal (sym (canonical_among clause s.literal) ∙ s.within) (sym (canonical_among clause (negated s.literal)) ∙ s.negation)))
    go false t = refl

proper : (clause : List ℕ) → is_tautology clause ≡ false → 2 ≤ length (canonical clause) → IsProperClause (canonical clause)
proper clause e n = record { two = n; sorted = canonical_increasing clause; apart = no_signs clause e }

proper_effect : (step : Step) (f : Stored) → AllByRecursion IsProperClause (long_clauses f) → AllByRecursion IsProperClause (long_clauses (effect step f))
proper_effect (SolverVarName v None) f h = h
proper_effect (UserVarName v (Some name)) f h = h
proper_effect (AddClause clause) f h = go f.unsat
  where
    go : (b : Bool) → AllByRecursion IsProperClause (long_clauses (cond b f (with_input clause (with_literals_known clause f))))
    go true = h
    go false = each_stored IsProperClause false clause (with_literals_known clause f) h (proper clause)
proper_effect (AtClause r clause hashes) f h = each_stored IsProperClause r clause (with_literals_known clause f) h (proper clause)
proper_effect (UnitClauses us) f h = let ls : List ℕ = map (λ u. u.0) us in each_units IsProperClause ls (with_literals_known ls f) h
proper_effect (DeleteClause clause Redundant) f h = each_without IsProperClause true (canonical clause) f.clauses h
proper_effect (DeleteClause clause Simplified) f h = each_without IsProperClause false (canonical clause) f.clauses h
proper_effect (DeleteClause clause Satisfied) f h = each_without IsProperClause false (canonical clause) f.clauses h
proper_effect step f h = h

proper_settled : (f : Stored) → AllByRecursion IsProperClause (long_clauses f) → AllByRecursion IsProperClause (long_clauses (with_conflict_settled f))
proper_settled f h = go f.conflict
  where
    go : (o : Option (ℕ × ℕ)) → AllByRecursion IsProperClause (long_clauses (settled_by o f))
    go None = h
    go (Some units) = h

pub all_proper : (steps : List Step) → AllByRecursion IsProperClause (long_clauses (ready_after steps))
all_proper [] = tt
all_proper (step ∷ earlier) = proper_settled (stored_after (step ∷ earlier)) (proper_effect step (ready_after earlier) (all_proper earlier))
