-- What is stored, apart from ids, the order of clauses, the last irredundant clause and a pending unit conflict; and
-- how every step changes it.
use Rattle.std.specs.Prelude.{ℕ, ◌+◌, ◌-◌, ◌==◌, Bool, true, false, not, ◌&&◌, ◌||◌, Option, None, Some, List, [], ◌∷◌, map, if◌then◌else◌}
use Rattle.sat_base.specs.values.Literals.{variable, negated}
use Rattle.sat_base.specs.steps.Steps.{Redundant, Step, SolverVarName, UserVarName, DeleteVar, ChangeSamplingMode, AddClause, AtClause, UnitClauses, DeleteClause, ChangeHashBits, Model, Assumptions, FailedAssumptions, End}
use Rattle.sat_checker.specs.LiteralSets.{is_among, is_tautology, canonical, same_literals}
use Rattle.sat_checker.specs.Stored.{Sample, Witness, Hide, Variable, initial_variable, StoredClause, Stored, is_unit}
use Rattle.sat_checker.specs.Storing.{clause_with, irredundant_count, redundant_count}

-- `count_in true c` is the redundant count of the stored clause `c`, `count_in false c` its irredundant count. Both are
-- 0 if `c` is `None`.
abbrev pub count_in : Bool → Option StoredClause → ℕ
count_in true c = redundant_count c
count_in false c = irredundant_count c

-- `count_of redundant set clauses` is how often the sorted set `set` of two or more literals is stored in `clauses`: as
-- redundant if the flag is true, otherwise as irredundant. It is 0 if the set is not stored.
abbrev pub count_of : Bool → List ℕ → List StoredClause → ℕ
count_of redundant set clauses = count_in redundant (clause_with set clauses)

-- The stored clauses, units, variables, names, width of hashes and assumptions, without ids, order and unit conflict.
pub record ProofState : Type 0 where
  pub counts : Bool → List ℕ → ℕ  -- the redundant (true) or irredundant count of each set of literals
  pub units : ℕ → Bool
  pub unsat : Bool
  pub variables : ℕ → Variable
  pub solver_names : ℕ → Option ℕ
  pub width : ℕ
  pub assumed : List ℕ

-- The state of the proof, whether it has ended, and whether a variable was deleted.
pub record Contents : Type 0 where
  pub state : ProofState
  pub ended : Bool
  pub var_deleted : Bool

-- The proof state of what is stored: counts by sets of literals, units by literals, and unsat, variables, solver names,
-- width and assumptions unchanged.
abbrev pub stored_state : Stored → ProofState
stored_state f = record {
  counts = λ redundant set. count_of redundant set f.clauses;
  units = is_unit f;
  unsat = f.unsat;
  variables = f.variables;
  solver_names = f.solver_names;
  width = f.width;
  assumed = f.assumed;
}

-- The `Contents` of what is stored: its proof state, whether the proof has ended, and whether a variable was deleted.
abbrev pub contents : Stored → Contents
contents f = record { state = stored_state f; ended = f.ended; var_deleted = f.var_deleted }

-- `same_flag a b` is true if the two flags are equal.
abbrev pub same_flag : Bool → Bool → Bool
same_flag true redundant = redundant
same_flag false redundant = not redundant

-- `n` plus 1 if the flag is true.
abbrev pub plus_one_if : Bool → ℕ → ℕ
plus_one_if b n = if b then n + 1 else n

-- `n` minus 1 if the flag is true.
abbrev pub minus_one_if : Bool → ℕ → ℕ
minus_one_if b n = if b then n - 1 else n

-- The state in which the sorted set is stored once more, as redundant if the flag is true, otherwise as irredundant.
abbrev pub with_one_count : Bool → List ℕ → ProofState → ProofState
with_one_count redundant set c = record c { counts = λ r other. plus_one_if (same_flag redundant r && same_literals set other) (c.counts r other) }

-- The state in which the sorted set is stored once less, as redundant if the flag is true, otherwise as irredundant. A
-- count of 0 stays 0.
abbrev pub without_one_count : Bool → List ℕ → ProofState → ProofState
without_one_count redundant set c = record c { counts = λ r other. minus_one_if (same_flag redundant r && same_literals set other) (c.counts r other) }

-- The state after the unit of literal `l` is added. It is unchanged if the unit is stored already; if its negation is
-- stored, only unsat is recorded.
abbrev pub with_unit_in_state : ℕ → ProofState → ProofState
with_unit_in_state l c = if c.units l then c else (if c.units (negated l) then record c { unsat = true } else record c { units = λ m. l == m || c.units m })

-- The state after these units are added, from left to right.
abbrev pub with_units_in_state : List ℕ → ProofState → ProofState
with_units_in_state [] c = c
with_units_in_state (l ∷ ls) c = with_units_in_state ls (with_unit_in_state l c)

-- The state after a sorted set of literals is added as a clause: the empty set records unsat, one literal is added as a
-- unit, and a longer set gets one more count, redundant if the flag is true, otherwise irredundant.
abbrev pub with_set_in_state : Bool → List ℕ → ProofState → ProofState
with_set_in_state redundant [] c = record c { unsat = true }
with_set_in_state redundant (l ∷ []) c = with_unit_in_state l c
with_set_in_state redundant (l ∷ m ∷ ls) c = with_one_count redundant (l ∷ m ∷ ls) c

-- The state after a clause, in any order and with repeats, is added as redundant (true) or as irredundant; a tautology
-- changes nothing.
abbrev pub with_clause_in_state : Bool → List ℕ → ProofState → ProofState
with_clause_in_state redundant clause c = if is_tautology clause then c else with_set_in_state redundant (canonical clause) c

-- The state in which variable `v` has the data `x`: whether it is known, its mode, and its name.
abbrev pub with_variable_in_state : ℕ → Variable → ProofState → ProofState
with_variable_in_state v x c = record c { variables = λ w. if w == v then x else c.variables w }

-- The state in which the variables `vs` are also known; their modes and names are unchanged.
abbrev pub with_known_in_state : List ℕ → ProofState → ProofState
with_known_in_state vs c = record c { variables = λ v. if is_among vs v then record (c.variables v) { known = true } else c.variables v }

-- The state in which the variables of these literals are also known.
abbrev pub with_literals_known_in_state : List ℕ → ProofState → ProofState
with_literals_known_in_state ls = with_known_in_state (map variable ls)

-- The state in which variable `v` has the solver name `name`, or none if `name` is `None`.
abbrev pub with_solver_name_in_state : ℕ → Option ℕ → ProofState → ProofState
with_solver_name_in_state v name c = record c { solver_names = λ w. if w == v then name else c.solver_names w }

-- The state after variable `v` is deleted: it is unknown, has mode sample, no name and no unit. Its solver name is
-- unchanged.
abbrev pub without_variable_in_state : ℕ → ProofState → ProofState
without_variable_in_state v c = record (with_variable_in_state v initial_variable c) { units = λ l. c.units l && not (variable l == v) }

-- The proof state after a step, whether or not the step is accepted.
abbrev pub state_after : Step → ProofState → ProofState
state_after (SolverVarName v None) c = with_solver_name_in_state v None c
state_after (SolverVarName v (Some name)) c = with_solver_name_in_state v (Some name) (with_known_in_state (v ∷ []) c)
state_after (UserVarName v (Some name)) c = with_variable_in_state v (record (c.variables v) { known = true; name = Some name }) c
state_after (UserVarName v None) c = with_variable_in_state v (record (c.variables v) { mode = Hide; name = None }) c
state_after (DeleteVar v) c = without_variable_in_state v c
state_after (ChangeSamplingMode v sample) c = with_variable_in_state v (record (c.variables v) { mode = (if sample then Sample else Witness) }) c
state_after (AddClause clause) c = if c.unsat then c else with_clause_in_state false clause (with_literals_known_in_state clause c)
state_after (AtClause redundant clause hashes) c = with_clause_in_state redundant clause (with_literals_known_in_state clause c)
state_after (UnitClauses us) c = let ls : List ℕ = map (λ u. u.0) us in with_units_in_state ls (with_literals_known_in_state ls c)
state_after (DeleteClause clause Redundant) c = without_one_count true (canonical clause) c
state_after (DeleteClause clause proof) c = without_one_count false (canonical clause) c
state_after (ChangeHashBits bits) c = record c { width = bits }
state_after (Model ls) c = with_literals_known_in_state ls c
state_after (Assumptions ls) c = record (with_literals_known_in_state ls c) { assumed = ls }
state_after (FailedAssumptions core hashes) c = c
state_after End c = c

-- The proof state before the first step.
abbrev pub empty_state : ProofState
empty_state = record {
  counts = λ redundant set. 0;
  units = λ l. false;
  unsat = false;
  variables = λ v. initial_variable;
  solver_names = λ v. None;
  width = 64;
  assumed = [];
}

-- `ended_after step ended` is true if the proof has ended after the step, given whether it had ended before.
abbrev pub ended_after : Step → Bool → Bool
ended_after End ended = true
ended_after step ended = ended

-- `deleted_after step deleted` is true if a variable was deleted by the step or, as `deleted` says, before it.
abbrev pub deleted_after : Step → Bool → Bool
deleted_after (DeleteVar v) deleted = true
deleted_after step deleted = deleted

-- The contents `c` after a step, whether or not the step is accepted.
abbrev pub contents_after : Step → Contents → Contents
contents_after step c = record { state = state_after step c.state; ended = ended_after step c.ended; var_deleted = deleted_after step c.var_deleted }

-- The contents after these steps, of which the newest comes first, whether or not they are accepted.
abbrev pub contents_of : List Step → Contents
contents_of [] = record { state = empty_state; ended = false; var_deleted = false }
contents_of (step ∷ earlier) = contents_after step (contents_of earlier)
