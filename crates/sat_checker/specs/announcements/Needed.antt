-- Which stored units and clauses a clause that passed the propagation check follows from.
use Rattle.std.specs.Prelude.{ℕ, ◌==◌, not, ◌&&◌, List, [], ◌∷◌, ◌++◌, map, filter, Option, None, Some, if◌then◌else◌}
use Rattle.sat_base.specs.values.Literals.{negated}
use Rattle.sat_checker.specs.LiteralSets.{is_among, is_tautology, canonical}
use Rattle.sat_checker.specs.Stored.{StoredClause, StoredUnit, Stored, unit_literals, clause_hash_by}
use Rattle.sat_checker.specs.Storing.{unit_id}
use Rattle.sat_checker.specs.inner.Walk.{ClauseState, falsified, becomes_unit, neither, clause_state}

-- The causes of a conflict, followed backwards: literals that are true, and the needed clauses in the order visited,
-- the falsified clause last.
pub record ConflictCauses : Type 0 where
  pub literals : List ℕ
  pub clauses : List StoredClause

-- The negations of all literals of the clause except `l`.
abbrev pub negations_except : ℕ → List ℕ → List ℕ
negations_except l clause = map negated (filter (λ m. not (m == l)) clause)

-- The causes `g` and, if the literal `l` that the clause implied is one of them, also the clause and the negations of
-- its other literals.
abbrev pub with_cause : ℕ → StoredClause → ConflictCauses → ConflictCauses
with_cause l c g =
    if is_among g.literals l then record { literals = negations_except l c.literals ++ g.literals; clauses = c ∷ g.clauses } else g

-- The causes of a conflict, given the verdict on a clause and the causes found in the clauses after it. A falsified
-- clause is the conflict. The open literal of a unit clause is true for the clauses after it.
abbrev pub causes_by : ClauseState → StoredClause → List ℕ → (List ℕ → ConflictCauses) → ConflictCauses
causes_by falsified c assumed following = record { literals = map negated c.literals; clauses = c ∷ [] }
causes_by (becomes_unit l) c assumed following = with_cause l c (following (l ∷ assumed))
causes_by neither c assumed following = following assumed

-- The causes of the first conflict when these clauses are visited in order under the assumed literals, and every clause
-- that is unit when visited is used. There are no causes if there is no conflict.
abbrev pub conflict_causes : List ℕ → List StoredClause → ConflictCauses
conflict_causes assumed [] = record { literals = []; clauses = [] }
conflict_causes assumed (c ∷ cs) = causes_by (clause_state assumed c.literals) c assumed (λ more. conflict_causes more cs)

-- The stored clauses of the buckets with these hashes, in the order of the hashes, and by id within each bucket.
abbrev pub clauses_of_hashes : List ℕ → Stored → List StoredClause
clauses_of_hashes [] f = []
clauses_of_hashes (hash ∷ hashes) f = filter (λ c. clause_hash_by f.solver_names f.width c.literals == hash) f.clauses ++ clauses_of_hashes hashes f

-- The units whose literals are among the causes `g`, in the order given, without those whose literal is in `denied`,
-- the negations of the clause that is checked.
abbrev pub needed_units : List ℕ → ConflictCauses → List StoredUnit → List StoredUnit
needed_units denied g = filter (λ u. is_among g.literals u.literal && not (is_among denied u.literal))

-- The ids of the units that the causes `g` need, without those whose literal is in `denied`, and then the ids of the
-- clauses of `g`.
abbrev pub conflict_ids : List ℕ → ConflictCauses → List StoredUnit → List ℕ
conflict_ids denied g units = map (λ u. u.id) (needed_units denied g units) ++ map (λ c. c.id) g.clauses

-- The first option, or the second if the first is `None`.
abbrev pub or_else : {A : Type 0} → Option A → Option A → Option A
or_else None y = y
or_else (Some x) y = Some x

-- The id of the unit of the first literal of the clause that is stored as a unit, or `None` if none is.
abbrev pub satisfying_unit : List ℕ → List StoredUnit → Option ℕ
satisfying_unit [] units = None
satisfying_unit (l ∷ ls) units = or_else (unit_id l units) (satisfying_unit ls units)

-- Only the id of the unit that satisfies the clause, or these ids if there is none.
abbrev pub only_unit_or : Option ℕ → List ℕ → List ℕ
only_unit_or (Some id) ids = id ∷ []
only_unit_or None ids = ids

-- The ids that a clause follows from, if it passes the check under these hashes. A tautology needs no ids. A clause
-- that units satisfy follows from the unit of its lowest such literal. Any other clause follows from the needed units,
-- by increasing id, and then the needed clauses, in the order visited.
abbrev pub propagations : Stored → List ℕ → List ℕ → List ℕ
propagations f clause hashes =
    let denied : List ℕ = map negated clause in
    if is_tautology clause then [] else only_unit_or (satisfying_unit (canonical clause) f.units) (conflict_ids denied (conflict_causes (denied ++ unit_literals f) (clauses_of_hashes hashes f)) f.units)
