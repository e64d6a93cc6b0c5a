-- When a derived clause is empowering, given what the checker of a certificate stores, and how often that happens
-- between two places. Lists of steps have the newest first.
use Rattle.std.specs.Prelude.{ℕ, ◌+◌, ◌≡◌, ◌⊎◌, true, false, List, [], ◌∷◌, ◌++◌, map}
use Rattle.std.specs.List.{AllByRecursion}
use Rattle.sat_base.specs.values.Literals.{negated}
use Rattle.sat_base.specs.script.Script.{Among}
use Rattle.sat_base.specs.steps.Steps.{Step, AtClause}
use Rattle.sat_checker.specs.LiteralSets.{is_among}
use Rattle.sat_checker.specs.Stored.{Stored, unit_literals, long_clauses}
use Rattle.sat_checker.specs.Propagation.{IsFalsified, IsUnit}
use Rattle.sat_checker.specs.Accepts.{ready_after}
use Rattle.sat_checker.specs.matching.Checking.{is_ordered}
use Rattle.sat_solver.specs.session.Quiet.{others_of}

-- `PropagatesTo f ls ks` holds if any number of unit propagations, possibly none, with stored clauses of two or more
-- literals extend the true literals `ls` to `ks`, newest first. They need not be all that are possible.
pub data PropagatesTo (f : Stored) : List ℕ → List ℕ → Type 0 where
  leads_none : {ls : List ℕ} → PropagatesTo f ls ls
  leads_one : {ls ks : List ℕ} (clause : List ℕ) (open_literal : ℕ) → Among clause (long_clauses f) → IsUnit ls clause open_literal
      → PropagatesTo f (open_literal ∷ ls) ks → PropagatesTo f ls ks

-- the literals assumed true at first: the negations of `others`, the other literals of a clause, and the stored units
abbrev pub start_literals : Stored → List ℕ → List ℕ
start_literals f others = map negated others ++ unit_literals f

-- `StaysUnassignedInStored f literal reached` holds if the true literals `reached` contain neither `literal` nor its
-- negation, and falsify no stored clause of two or more literals.
pub record StaysUnassignedInStored (f : Stored) (literal : ℕ) (reached : List ℕ) : Type 0 where
  pub not_true : is_among reached literal ≡ false
  pub not_false : is_among reached (negated literal) ≡ false
  pub no_conflict : (clause : List ℕ) → Among clause (long_clauses f) → IsFalsified reached clause → ⊥

-- `LeavesUnassigned f others literal` holds if the literals of `start_literals` do not contradict each other, and no
-- unit propagation from them over stored clauses assigns `literal` or falsifies a clause.
pub record LeavesUnassigned (f : Stored) (others : List ℕ) (literal : ℕ) : Type 0 where
  pub agree : (l : ℕ) → is_among (start_literals f others) l ≡ true → is_among (start_literals f others) (negated l) ≡ false
  pub open_still : (reached : List ℕ) → PropagatesTo f (start_literals f others) reached → StaysUnassignedInStored f literal reached

-- `IsEmpoweringFor f clause` holds if the clause is new to unit propagation with the stored clauses and units `f`: for
-- some literal of it, the negations of the other literals cause no conflict and leave that literal unassigned.
abbrev pub IsEmpoweringFor : Stored → List ℕ → Type 0
IsEmpoweringFor f clause = (literal : ℕ) × (is_among clause literal ≡ true) × LeavesUnassigned f (others_of literal clause) literal

-- `DerivesEmpowering f step` holds if the step derives a clause (`AtClause`) that is empowering for the stored clauses
-- `f`.
abbrev pub DerivesEmpowering : Stored → Step → Type 0
DerivesEmpowering f (AtClause redundant clause hashes) = IsEmpoweringFor f clause
DerivesEmpowering f step = ⊥

-- `CountsEmpoweringFor earlier steps k` holds if exactly `k` of the steps derive a clause that is empowering, given
-- what a checker stores after `earlier` and the steps before it. Both lists have the newest step first.
abbrev pub CountsEmpoweringFor : (earlier steps : List Step) → ℕ → Type 0
CountsEmpoweringFor earlier [] k = k ≡ 0
CountsEmpoweringFor earlier (step ∷ steps) k = (CountsEmpoweringFor earlier steps k × (DerivesEmpowering (ready_after (steps ++ earlier)) step → ⊥))
    ⊎ ((j : ℕ) × (k ≡ j + 1) × DerivesEmpowering (ready_after (steps ++ earlier)) step × CountsEmpoweringFor earlier steps j)

-- `AreUnordered steps` holds if none of the steps is an ordered step.
abbrev pub AreUnordered : List Step → Type 0
AreUnordered = AllByRecursion (λ step. is_ordered step ≡ false)
