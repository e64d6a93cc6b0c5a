-- Which clause is the last irredundant clause after a step.
use Rattle.std.proofs.Common.{ℕ, ◌+◌, ◌<◌, ◌≤◌, ◌≡◌, Bool, true, false, cond, List, [], ◌∷◌, length, refl, ◌∙◌, ap, arith, Option, None, Some}
use Rattle.sat_base.specs.steps.Steps.{SolverVarName, UserVarName, DeleteVar, AddClause, AtClause, UnitClauses, DeleteClause, ChangeHashBits, Model, FailedAssumptions}
use Rattle.sat_checker.specs.LiteralSets.{is_tautology, canonical}
use Rattle.sat_checker.specs.Stored.{StoredClause, LastIrredundant, NoneYet, Empty, UnitClause, LongClause, Stored}
use Rattle.sat_checker.specs.Storing.{clause_with, irredundant_count, settled_by, with_canonical, with_stored_clause, with_literals_known, last_literals, last_long_or, clause_with_id, unit_with_id}
use Rattle.sat_checker.specs.Accepts.{effect, stored_after, ready_after}
use Rattle.sat_checker.specs.Invariants.{DerivedIsLast, LastClauseIsKept, SettlingKeepsLastClause}
use Rattle.sat_checker.proofs.lemmas.meaning.Orderly.{OrderInvariant, numbered_itself, stored_count}
use Rattle.sat_checker.proofs.lemmas.meaning.OrderlySteps.{orderly}

last_same : (last : LastIrredundant) (f g : Stored) → f.units ≡ g.units → f.clauses ≡ g.clauses → last_literals last f ≡ last_literals last g
last_same NoneYet f g u c = refl
last_same (Empty id) f g u c = refl
last_same (UnitClause id) f g u c = ap (unit_with_id id) u
last_same (LongClause id) f g u c = ap (clause_with_id id) c

pub last_is_settled : SettlingKeepsLastClause
last_is_settled f = go f.conflict
  where
    go : (o : Option (ℕ × ℕ)) → last_literals (settled_by o f).last (settled_by o f) ≡ last_literals f.last f
    go None = refl
    go (Some units) = last_same f.last (record f { conflict = None; next_id = f.next_id + 1 }) f refl refl

pub last_stays : LastClauseIsKept
last_stays f (SolverVarName v None) e = last_same f.last (effect (SolverVarName v None) f) f refl refl
last_stays f (UserVarName v (Some name)) e = last_same f.last (effect (UserVarName v (Some name)) f) f refl refl
last_stays f (ChangeHashBits bits) e = last_same f.last (record f { width = bits }) f refl refl
last_stays f (Model ls) e = last_same f.last (with_literals_known ls f) f refl refl
last_stays f (FailedAssumptions core hashes) e = refl
last_stays f (DeleteVar v) e = absurd cc
last_stays f (AddClause clause) e = absurd cc
last_stays f (AtClause r clause hashes) e = absurd cc
last_stays f (UnitClauses us) e = absurd cc
last_stays f (DeleteClause clause proof) e = absurd cc
last_stays f step e = last_same f.last (effect step f) f refl refl

pub derived_last : (set : List ℕ) (g : Stored) → 2 ≤ length set → OrderInvariant (with_canonical false set g) → last_literals (with_canonical false set g).last (with_canonical false set g) ≡ Some set
derived_last [] g n o = absurd (omega arith)
derived_last (l ∷ []) g n o = absurd (omega arith)
derived_last (l ∷ m ∷ ls) g n o = go (clause_with (l ∷ m ∷ ls) (with_stored_clause false g.next_id (l ∷ m ∷ ls) g.clauses)) refl (stored_count g.next_id (l ∷ m ∷ ls) g.clauses)
  where
    go : (d : Option StoredClause) → clause_with (l ∷ m ∷ ls) (with_stored_clause false g.next_id (l ∷ m ∷ ls) g.clauses) ≡ d → 0 < irredundant_count d → last_literals (last_long_or d g.last) (with_canonical false (l ∷ m ∷ ls) g) ≡ Some (l ∷ m ∷ ls)
    go None k n = absurd (omega arith)
    go (Some d) k n = numbered_itself (l ∷ m ∷ ls) d (with_stored_clause false g.next_id (l ∷ m ∷ ls) g.clauses) o.increasing k

pub derived_is_last : DerivedIsLast
derived_is_last steps clause hashes ok e n =
    last_is_settled (stored_after (AtClause false clause hashes ∷ steps)) ∙ go (is_tautology clause) e (orderly (AtClause false clause hashes ∷ steps) ok)
  where
    go : (b : Bool) → b ≡ false → OrderInvariant (cond b (with_literals_known clause (ready_after steps)) (with_canonical false (canonical clause) (with_literals_known clause (ready_after steps))))
        → last_literals (cond b (with_literals_known clause (ready_after steps)) (with_canonical false (canonical clause) (with_literals_known clause (ready_after steps)))).last (cond b (with_literals_known clause (ready_after steps)) (with_canonical false (canonical clause) (with_literals_known clause (ready_after steps)))) ≡ Some (canonical clause)
    go true k o = absurd cc
    go false k o = derived_last (canonical clause) (with_literals_known clause (ready_after steps)) n o
