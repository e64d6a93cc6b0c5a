-- More worked examples, proved by computing.
use Rattle.std.proofs.Common.{◌≢◌, Bool, true, false, ◌||◌, cond, eqb, [], ◌∷◌, Some, None, refl, sym, lit<, inl, inr}
use Rattle.std.proofs.lemmas.Bool.{true≢false}
use Rattle.sat_base.specs.values.Hashes.{hash_of}
use Rattle.sat_base.specs.steps.Steps.{SolverVarName, DeleteVar, AddClause}
use Rattle.sat_checker.specs.Stored.{Stored, Sample, Witness, initial_variable}
use Rattle.sat_checker.specs.Storing.{with_unit}
use Rattle.sat_checker.specs.Propagation.{unit_true, tautology}
use Rattle.sat_checker.specs.Rows.{ready_by, FoundBySolverName, DeletedKeepsSolverName, before_units, TwoUnits, UnitsInWrongOrder, DuplicateBecomesLast, TwoCounts, LastWithOneCount, AddedAfterUnsat, Tautologies, WitnessGetsName, UnknownVarGetsNoMode, two_clauses, EmptyBucketAfterConflict, EmptyBucketFirst, ContradictionKeepsLast, LastUnitIsNoSubset}
use Rattle.sat_checker.proofs.lemmas.rows.Accepted.{walked, stuck}

pub by_name : FoundBySolverName
by_name = ((((tt, inr (refl, (refl, tt))), tt), inr (refl, tt)), walked (ready_by (AddClause (0 ∷ 2 ∷ []) ∷ SolverVarName 0 (Some 5) ∷ AddClause (1 ∷ []) ∷ [])) (2 ∷ []) (hash_of (10 ∷ 2 ∷ []) ∷ []) refl)

pub by_left : DeletedKeepsSolverName
by_left = (
  (((((tt, inr (refl, tt)), tt), record { known = refl; nameless = refl; unused = refl; not_assumed = refl }), inr (refl, (refl, tt))), inr (refl, tt)),
  walked (ready_by (AddClause (0 ∷ []) ∷ SolverVarName 0 (Some 5) ∷ DeleteVar 0 ∷ AddClause (0 ∷ 2 ∷ []) ∷ AddClause (1 ∷ []) ∷ [])) (2 ∷ []) (hash_of (10 ∷ 2 ∷ []) ∷ []) refl,
)

pub units : TwoUnits
units =
    let f : Stored = ready_by before_units in (
      ((((tt, inr (refl, (refl, tt))), inr (refl, (refl, tt))), inr (refl, tt)), (walked f (2 ∷ []) (hash_of (1 ∷ 2 ∷ []) ∷ []) refl, (walked (with_unit 2 f) (4 ∷ []) (hash_of (3 ∷ 4 ∷ []) ∷ []) refl, tt))),
      refl,
      refl,
    )

pub turned : UnitsInWrongOrder
turned =
    let f : Stored = ready_by before_units in
    ((((tt, inr (refl, (refl, tt))), inr (refl, (refl, tt))), inr (refl, tt)), λ h. stuck f (4 ∷ []) (hash_of (3 ∷ 4 ∷ []) ∷ []) refl refl (((refl, (refl, tt)), tt), tt) refl h.0)

pub by_duplicate : DuplicateBecomesLast
by_duplicate = ((((tt, inr (refl, (refl, tt))), inr (refl, (refl, (refl, tt)))), inr (refl, (refl, tt))), (lit< tt, (refl, refl)))

pub two_counts : TwoCounts
two_counts = (
  (((((tt, inr (refl, tt)), inr (refl, (refl, tt))), unit_true refl), (lit< tt, refl)), lit< tt),
  refl,
  refl,
)

pub by_one_count : LastWithOneCount
by_one_count = ((((((tt, inr (refl, tt)), inr (refl, (refl, (refl, tt)))), inr (refl, (refl, tt))), unit_true refl), (lit< tt, refl)), (lit< tt, (refl, refl)))

pub after_unsat : AddedAfterUnsat
after_unsat = (((tt, inr tt), inl refl), refl, refl)

pub tautologies : Tautologies
tautologies = ((tt, inr (refl, (refl, tt))), refl, refl, refl, (tt, tautology refl), refl, refl, refl)

pub witness_named : WitnessGetsName
witness_named = ((((tt, tt), refl), record { free = λ w e. none_left (eqb w 0) (eqb 0 w || false) e; nameless = refl; not_hidden = λ e. cc }), refl)
  where
    none_left : (b d : Bool) → (cond b (record { known = true; mode = Witness; name = None }) (cond d (record { known = true; mode = Sample; name = None }) initial_variable)).name ≢ Some 7
    none_left true d e = cc
    none_left false true e = cc
    none_left false false e = cc

pub unknown_mode : UnknownVarGetsNoMode
unknown_mode = (tt, λ h. true≢false (sym h))

pub empty_after : EmptyBucketAfterConflict
empty_after = (((tt, inr (refl, (refl, tt))), inr (refl, (refl, tt))), walked (ready_by two_clauses) (0 ∷ []) (hash_of (0 ∷ 2 ∷ []) ∷ hash_of (0 ∷ 3 ∷ []) ∷ 5 ∷ []) refl)

pub empty_before : EmptyBucketFirst
empty_before = (
  ((tt, inr (refl, (refl, tt))), inr (refl, (refl, tt))),
  stuck (ready_by two_clauses) (0 ∷ []) (5 ∷ hash_of (0 ∷ 2 ∷ []) ∷ hash_of (0 ∷ 3 ∷ []) ∷ []) refl refl (tt, (((refl, (refl, tt)), tt), (((refl, (refl, tt)), tt), tt))) refl,
)

pub after_conflict : ContradictionKeepsLast
after_conflict = (((((tt, inr (refl, tt)), inr (refl, (refl, (refl, tt)))), inr (refl, (refl, tt))), inr (refl, tt)), (lit< tt, (refl, refl)))

pub last_unit : LastUnitIsNoSubset
last_unit = ((((tt, inr (refl, (refl, tt))), inr (refl, tt)), inr (refl, tt)), λ h. true≢false (sym h.1.0))
