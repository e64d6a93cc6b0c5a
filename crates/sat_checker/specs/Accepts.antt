-- Which steps are accepted, and the effect of each step. Lists of steps have the newest first.
use Rattle.std.specs.Prelude.{ℕ, ◌<◌, ◌≡◌, ◌≢◌, ◌⊎◌, true, false, Option, None, Some, List, [], ◌∷◌, map, if◌then◌else◌}
use Rattle.std.specs.List.{list_any, AllByRecursion}
use Rattle.sat_base.specs.values.Literals.{variable, negated}
use Rattle.sat_base.specs.steps.Steps.{Redundant, Simplified, Satisfied, Step, SolverVarName, UserVarName, DeleteVar, ChangeSamplingMode, AddClause, AtClause, UnitClauses, DeleteClause, ChangeHashBits, Model, Assumptions, FailedAssumptions, End}
use Rattle.sat_checker.specs.LiteralSets.{is_among, mentions, is_subset_of, canonical}
use Rattle.sat_checker.specs.Propagation.{PassesCheck}
use Rattle.sat_checker.specs.Stored.{Sample, Witness, Hide, Stored, nothing_stored, is_known, mode_of, name_of, is_unit, unit_literals, bucket}
use Rattle.sat_checker.specs.Storing.{clause_with, irredundant_count, redundant_count, last_literals, with_stored, with_input, with_unit, with_units, with_conflict_settled, with_variable, with_known, with_literals_known, with_solver_name, without_variable, without_clause}

-- `PassesByHashes f clause hashes` holds if the clause passes the propagation check with the units of `f` and the
-- buckets of these hashes, visited in order.
abbrev pub PassesByHashes : Stored → List ℕ → List ℕ → Type 0
PassesByHashes f clause hashes = PassesCheck (unit_literals f) clause (map (bucket f) hashes)

-- `CanGetName f v name` holds if variable `v` may get the name: no variable has the name, and `v` has no name and is
-- not hidden.
pub record CanGetName (f : Stored) (v name : ℕ) : Type 0 where
  pub free : (w : ℕ) → name_of w f ≢ Some name
  pub nameless : name_of v f ≡ None
  pub not_hidden : mode_of v f ≢ Hide

-- `CanBeDeleted f v` holds if variable `v` may be deleted: it is known and has no name, it is in no stored clause of
-- two or more literals, and it is not assumed.
pub record CanBeDeleted (f : Stored) (v : ℕ) : Type 0 where
  pub known : is_known v f ≡ true
  pub nameless : name_of v f ≡ None
  pub unused : list_any (λ c. mentions c.literals v) f.clauses ≡ false
  pub not_assumed : mentions f.assumed v ≡ false

-- `CanBeAdded f clause` holds if the clause may be added to the formula: unsat is recorded, or every variable of the
-- clause has mode sample.
abbrev pub CanBeAdded : Stored → List ℕ → Type 0
CanBeAdded f clause = (f.unsat ≡ true) ⊎ AllByRecursion (λ l. mode_of (variable l) f ≡ Sample) clause

-- `UnitsPassInTurn f us` holds if every literal of `us`, as a clause of one literal, passes the propagation check with
-- the bucket of its hash, once the literals before it are stored as units. `us` has pairs of a literal and a hash.
abbrev pub UnitsPassInTurn : Stored → List (ℕ × ℕ) → Type 0
UnitsPassInTurn f [] = Unit {0}
UnitsPassInTurn f (u ∷ us) = PassesByHashes f (u.0 ∷ []) (u.1 ∷ []) × UnitsPassInTurn (with_unit u.0 f) us

-- `IsStrictSubset set clause` holds if `set` is not `None`, all its literals are in the clause, and some literal of the
-- clause is not in it.
abbrev pub IsStrictSubset : Option (List ℕ) → List ℕ → Type 0
IsStrictSubset None clause = ⊥
IsStrictSubset (Some ls) clause = (is_subset_of ls clause ≡ true) × (is_subset_of clause ls ≡ false)

-- `VariablesDistinct ls` holds if no variable occurs twice in these literals.
abbrev pub VariablesDistinct : List ℕ → Type 0
VariablesDistinct [] = Unit {0}
VariablesDistinct (l ∷ ls) = (mentions ls (variable l) ≡ false) × VariablesDistinct ls

-- `FitsModel f ls` holds if the model `ls` fits what is stored: unsat is not recorded, and no variable occurs twice in
-- the model. The model contradicts no unit, and has a literal of every clause with an irredundant count.
pub record FitsModel (f : Stored) (ls : List ℕ) : Type 0 where
  pub consistent : f.unsat ≡ false
  pub apart : VariablesDistinct ls
  pub units : AllByRecursion (λ u. is_among ls (negated u) ≡ false) (unit_literals f)
  pub clauses : AllByRecursion (λ c. (c.irredundant ≡ 0) ⊎ (list_any (is_among ls) c.literals ≡ true)) f.clauses

-- `Accepts f step` holds if the step is accepted when `f` is stored.
abbrev pub Accepts : Stored → Step → Type 0
Accepts f (SolverVarName v name) = Unit {0}
Accepts f (UserVarName v (Some name)) = CanGetName f v name
Accepts f (UserVarName v None) = name_of v f ≢ None
Accepts f (DeleteVar v) = CanBeDeleted f v
Accepts f (ChangeSamplingMode v sample) = is_known v f ≡ true
Accepts f (AddClause clause) = CanBeAdded f clause
Accepts f (AtClause redundant clause hashes) = PassesByHashes f clause hashes
Accepts f (UnitClauses us) = UnitsPassInTurn f us
Accepts f (DeleteClause clause Redundant) = 0 < redundant_count (clause_with (canonical clause) f.clauses)
Accepts f (DeleteClause clause Satisfied) =
    (0 < irredundant_count (clause_with (canonical clause) f.clauses)) × (list_any (is_unit f) clause ≡ true)
Accepts f (DeleteClause clause Simplified) =
    (0 < irredundant_count (clause_with (canonical clause) f.clauses)) × IsStrictSubset (last_literals f.last f) clause
Accepts f (ChangeHashBits bits) = Unit {0}
Accepts f (Model ls) = FitsModel f ls
Accepts f (Assumptions ls) = Unit {0}
-- the core is part of the assumptions, and the clause of its negated literals passes the check (a tautology does)
Accepts f (FailedAssumptions core hashes) = (is_subset_of core f.assumed ≡ true) × PassesByHashes f (map negated core) hashes
Accepts f End = Unit {0}

-- What is stored after an accepted step, if no unit conflict was pending.
abbrev pub effect : Step → Stored → Stored
effect (SolverVarName v None) f = with_solver_name v None f
effect (SolverVarName v (Some name)) f = with_solver_name v (Some name) (with_known (v ∷ []) f)
effect (UserVarName v (Some name)) f = with_variable v (record (f.variables v) { known = true; name = Some name }) f
effect (UserVarName v None) f = with_variable v (record (f.variables v) { mode = Hide; name = None }) f
effect (DeleteVar v) f = without_variable v f
effect (ChangeSamplingMode v sample) f = with_variable v (record (f.variables v) { mode = (if sample then Sample else Witness) }) f
-- once unsat is recorded, a clause of the formula has no effect at all
effect (AddClause clause) f = if f.unsat then f else with_input clause (with_literals_known clause f)
effect (AtClause redundant clause hashes) f = with_stored redundant clause (with_literals_known clause f)
effect (UnitClauses us) f = let ls : List ℕ = map (λ u. u.0) us in with_units ls (with_literals_known ls f)
effect (DeleteClause clause Redundant) f = record f { clauses = without_clause true (canonical clause) f.clauses }
effect (DeleteClause clause proof) f = record f { clauses = without_clause false (canonical clause) f.clauses }
effect (ChangeHashBits bits) f = record f { width = bits }
effect (Model ls) f = with_literals_known ls f
effect (Assumptions ls) f = record (with_literals_known ls f) { assumed = ls }
effect (FailedAssumptions core hashes) f = f
effect End f = record f { ended = true }

-- What is stored after accepted steps, the newest first. A unit conflict is settled before the next step is checked.
abbrev pub stored_after : List Step → Stored
stored_after [] = nothing_stored
stored_after (step ∷ earlier) = effect step (with_conflict_settled (stored_after earlier))

-- What the step after these is checked against: what is stored after `steps`, the newest first, with a pending unit
-- conflict settled.
abbrev pub ready_after : List Step → Stored
ready_after steps = with_conflict_settled (stored_after steps)

-- `AcceptsAll steps` holds if each of the steps, the newest first, is accepted after the steps before it.
abbrev pub AcceptsAll : List Step → Type 0
AcceptsAll [] = Unit {0}
AcceptsAll (step ∷ earlier) = AcceptsAll earlier × Accepts (ready_after earlier) step
