-- Worked examples, proved by computing.
use Rattle.std.proofs.Common.{ℕ, ◌≡◌, ◌≢◌, Bool, true, false, cond, ◌||◌, eqb, List, [], ◌∷◌, ◌++◌, map, None, Some, refl, sym, inr}
use Rattle.std.proofs.lemmas.Bool.{both_ways}
use Rattle.std.specs.List.{list_any, AllByRecursion}
use Rattle.sat_base.specs.values.Literals.{negated}
use Rattle.sat_base.specs.values.Hashes.{hash_of}
use Rattle.sat_base.specs.steps.Steps.{Step, SolverVarName, UserVarName, AddClause, AtClause, UnitClauses, ChangeHashBits, Assumptions}
use Rattle.sat_checker.specs.LiteralSets.{is_tautology}
use Rattle.sat_checker.specs.inner.Marks.{NoRepeats}
use Rattle.sat_checker.specs.Propagation.{tautology, unit_true, conflict}
use Rattle.sat_checker.specs.Stored.{Stored, Variable, Sample, Hide, initial_variable, is_unit, unit_literals, bucket}
use Rattle.sat_checker.specs.Storing.{with_unit}
use Rattle.sat_checker.specs.Accepts.{PassesByHashes, CanGetName}
use Rattle.sat_checker.specs.inner.Walk.{walk_buckets}
use Rattle.sat_checker.specs.Rows.{ready_by, AllAccepted, HashesOfOneTwo, OnlyEndIsAccepted, NameGivenAgain, four_clauses as four, FourClauses, Refuted, RefutedAtWidthZero, StoredTwice, three_at_width_zero, HashGivenOnce, HashGivenTwice, CollidingHashes, SolverNameChangesHash, UnitConflict, ConflictAndUnit}
use Rattle.sat_checker.proofs.lemmas.propagation.Greedy.{rule_from_walk, walk_from_rule}

pub of_one_two : HashesOfOneTwo
of_one_two = refl

pub end_alone : OnlyEndIsAccepted
end_alone = ((tt, tt), refl, refl)

none_some : (n : ℕ) → None ≢ Some n
none_some n e = cc

-- a clause passes if the walk reaches a conflict
pub walked : (f : Stored) (clause hashes : List ℕ) → walk_buckets (map negated clause ++ unit_literals f) (map (bucket f) hashes) ≡ true → PassesByHashes f clause hashes
walked f clause hashes e = conflict (rule_from_walk (map negated clause ++ unit_literals f) (map (bucket f) hashes) e)

-- a clause does not pass if it is no tautology, no unit satisfies it, and the walk reaches no conflict
pub stuck : (f : Stored) (clause hashes : List ℕ) → is_tautology clause ≡ false → list_any (is_unit f) clause ≡ false → AllByRecursion (AllByRecursion NoRepeats) (map (bucket f) hashes) → walk_buckets (map negated clause ++ unit_literals f) (map (bucket f) hashes) ≡ false → PassesByHashes f clause hashes → ⊥
stuck f clause hashes t u n w (tautology e) = both_ways (is_tautology clause) t e
stuck f clause hashes t u n w (unit_true e) = both_ways (list_any (is_unit f) clause) u e
stuck f clause hashes t u n w (conflict k) =
    let assumed : List ℕ = map negated clause ++ unit_literals f in
    both_ways (walk_buckets assumed (map (bucket f) hashes)) w (walk_from_rule assumed assumed (map (bucket f) hashes) (record { each = λ l h. h }) n k)

pub four_clauses : FourClauses
four_clauses = (((((tt, inr (refl, (refl, tt))), inr (refl, (refl, tt))), inr (refl, (refl, tt))), inr (refl, (refl, tt))), refl)

all_four : AllAccepted four
all_four = four_clauses.0

pub refuted_twice : Refuted
refuted_twice = (
  (
    (all_four, walked (ready_by four) (0 ∷ []) (hash_of (0 ∷ 2 ∷ []) ∷ hash_of (0 ∷ 3 ∷ []) ∷ []) refl),
    walked (ready_by (four ++ AtClause false (0 ∷ []) (hash_of (0 ∷ 2 ∷ []) ∷ hash_of (0 ∷ 3 ∷ []) ∷ []) ∷ [])) [] (hash_of (1 ∷ 2 ∷ []) ∷ hash_of (1 ∷ 3 ∷ []) ∷ []) refl,
  ),
  refl,
  refl,
  refl,
)

pub refuted_at_zero : RefutedAtWidthZero
refuted_at_zero = (
  (
    ((all_four, tt), walked (ready_by (four ++ ChangeHashBits 0 ∷ [])) (0 ∷ []) (0 ∷ []) refl),
    walked (ready_by (four ++ ChangeHashBits 0 ∷ AtClause false (0 ∷ []) (0 ∷ []) ∷ [])) [] (0 ∷ []) refl,
  ),
  refl,
  refl,
  refl,
)

pub stored_twice : StoredTwice
stored_twice =
    let f : Stored = ready_by (AddClause (0 ∷ 2 ∷ []) ∷ AddClause (2 ∷ 0 ∷ 0 ∷ []) ∷ []) in
    (((((tt, inr (refl, (refl, tt))), inr (refl, (refl, (refl, tt))))), stuck f (4 ∷ []) [] refl refl tt refl), refl, refl)

three_accepted : AllAccepted three_at_width_zero
three_accepted = ((((tt, tt), inr (refl, (refl, (refl, tt)))), inr (refl, (refl, tt))), inr (refl, (refl, tt)))

pub named_once : HashGivenOnce
named_once = (three_accepted, stuck (ready_by three_at_width_zero) (0 ∷ 4 ∷ []) (0 ∷ []) refl refl (((refl, (refl, (refl, tt))), ((refl, (refl, tt)), ((refl, (refl, tt)), tt))), tt) refl)

pub twice : HashGivenTwice
twice = ((three_accepted, walked (ready_by three_at_width_zero) (0 ∷ 4 ∷ []) (0 ∷ 0 ∷ []) refl), refl)

pub solver_names : SolverNameChangesHash
solver_names =
    let f : Stored = ready_by (AddClause (0 ∷ 2 ∷ []) ∷ SolverVarName 0 (Some 5) ∷ AddClause (1 ∷ []) ∷ []) in
    ((((tt, inr (refl, (refl, tt))), tt), inr (refl, tt)), stuck f (2 ∷ []) (hash_of (0 ∷ 2 ∷ []) ∷ []) refl refl (tt, tt) refl)

pub unit_conflict : UnitConflict
unit_conflict = (((tt, inr (refl, tt)), inr (refl, tt)), refl, refl, refl, refl, refl)

pub unit_after : ConflictAndUnit
unit_after =
    let before : List Step = ChangeHashBits 0 ∷ AddClause (0 ∷ []) ∷ AddClause (1 ∷ 2 ∷ []) ∷ AddClause (1 ∷ 3 ∷ []) ∷ [] in
    let f : Stored = ready_by before in (
      (
        ((((tt, tt), inr (refl, tt)), inr (refl, (refl, tt))), inr (refl, (refl, tt))),
        (walked f (1 ∷ []) (0 ∷ []) refl, (walked (with_unit 1 f) (1 ∷ []) (0 ∷ []) refl, (walked (with_unit 1 (with_unit 1 f)) (4 ∷ []) (0 ∷ []) refl, tt))),
      ),
      refl,
      refl,
      refl,
    )

named_first : Variable
named_first = record { known = true; mode = Sample; name = Some 0 }

-- no variable has the name after the only one with it lost it
gone : (b d : Bool) → (cond b (record { known = true; mode = Sample; name = None }) (cond b (record { known = true; mode = Hide; name = None }) (cond d (record (cond b named_first initial_variable) { known = true }) (cond b named_first initial_variable)))).name ≢ Some 0
unfolding named_first
gone true d e = cc
gone false true e = cc
gone false false e = cc

pub named : NameGivenAgain
unfolding named_first
named = (
  (((((((tt, record { free = λ w e. none_some 0 e; nameless = refl; not_hidden = λ e. cc }), inr (refl, tt)), λ e. none_some 0 (sym e)), refl), record { free = λ w e. gone (eqb w 0) (eqb 0 w || false) e; nameless = refl; not_hidden = λ e. cc }), inr (refl, tt)), tt),
  refl,
)

two_more : CanGetName (ready_by (UserVarName 0 (Some 0) ∷ SolverVarName 0 (Some 0) ∷ [])) 1 1
two_more = record { free = λ w e. one_name (eqb w 0) (eqb 0 w || false) e; nameless = refl; not_hidden = λ e. cc }
  where
    one_name : (b d : Bool) → (cond d (record (cond b (record { known = true; mode = Sample; name = Some 0 }) initial_variable) { known = true }) (cond b (record { known = true; mode = Sample; name = Some 0 }) initial_variable)).name ≢ Some 1
    one_name true true e = cc
    one_name true false e = cc
    one_name false true e = cc
    one_name false false e = cc

names_of_two : List Step
names_of_two = UserVarName 0 (Some 0) ∷ SolverVarName 0 (Some 0) ∷ UserVarName 1 (Some 1) ∷ SolverVarName 1 (Some 1) ∷ []

pub collide : CollidingHashes
unfolding names_of_two
collide =
    let before : List Step = names_of_two ++ four ++ Assumptions [] ∷ ChangeHashBits 8 ∷ [] in
    let first : Step = AtClause false (0 ∷ []) (0x44 ∷ 0xe6 ∷ []) in
    let second : Step = UnitClauses ((2, 0xe6) ∷ []) in
    ((((((((((((((((tt, record { free = λ w e. none_some 0 e; nameless = refl; not_hidden = λ e. cc }), tt), two_more), tt), inr (refl, (refl, tt))), inr (refl, (refl, tt))), inr (refl, (refl, tt))), inr (refl, (refl, tt))), tt), tt), walked (ready_by before) (0 ∷ []) (0x44 ∷ 0xe6 ∷ []) refl), (walked (ready_by (before ++ first ∷ [])) (2 ∷ []) (0xe6 ∷ []) refl, tt)), walked (ready_by (before ++ first ∷ second ∷ [])) [] (0x44 ∷ []) refl), tt), tt), refl, refl)
