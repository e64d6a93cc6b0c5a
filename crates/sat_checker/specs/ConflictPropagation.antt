-- When stored clauses with given hashes lead to a conflict. Their literals may be in any order, and other clauses in
-- their buckets do not matter.
use Rattle.std.specs.Prelude.{ℕ, ◌≡◌, ◌⊎◌, ◌==◌, ◌||◌, Bool, true, Option, is_some, List, [], ◌∷◌, map}
use Rattle.std.specs.List.{AllByRecursion}
use Rattle.sat_base.specs.values.Literals.{negated}
use Rattle.sat_base.specs.values.Clauses.{Valuation, AllLitsTrue, AllClausesTrue}
use Rattle.sat_checker.specs.LiteralSets.{is_among, canonical}
use Rattle.sat_checker.specs.SortedSets.{NoRepeats}
use Rattle.sat_checker.specs.Propagation.{UnitInTurn}
use Rattle.sat_checker.specs.Stored.{Stored, is_unit, clause_hash_by}
use Rattle.sat_checker.specs.Storing.{clause_with}
use Rattle.sat_checker.specs.Accepts.{PassesByHashes}

-- `PropagatesToConflict holds clauses` holds if, starting with the true literals `holds`, in each clause but the last
-- all literals but one are false so far, and that one, whatever its value was, is true from then on, and all literals
-- of the last clause are false.
abbrev pub PropagatesToConflict : (ℕ → Bool) → List (List ℕ) → Type 0
PropagatesToConflict holds [] = ⊥
PropagatesToConflict holds (c ∷ []) = AllByRecursion (λ l. holds (negated l) ≡ true) c
PropagatesToConflict holds (c ∷ d ∷ cs) =
    (open_literal : ℕ) × AllByRecursion (λ l. (l ≡ open_literal) ⊎ (holds (negated l) ≡ true)) c × (is_among c open_literal ≡ true) × PropagatesToConflict (λ l. open_literal == l || holds l) (d ∷ cs)

-- `IsStoredByHash f clause name` holds if the clause, in any order but without repeats, is stored in `f`, and `name` is
-- its hash at the current width.
pub record IsStoredByHash (f : Stored) (clause : List ℕ) (name : ℕ) : Type 0 where
  pub once : NoRepeats clause
  pub stored : is_some (clause_with (canonical clause) f.clauses) ≡ true
  pub hash : name ≡ clause_hash_by f.solver_names f.width clause

-- `AreStoredByHash f clauses hashes` holds if the two lists are equally long, and every clause is stored under the hash
-- at its position, as `IsStoredByHash` says.
abbrev pub AreStoredByHash : Stored → List (List ℕ) → List ℕ → Type 0
AreStoredByHash f [] [] = Unit {0}
AreStoredByHash f [] (h ∷ hs) = ⊥
AreStoredByHash f (c ∷ cs) [] = ⊥
AreStoredByHash f (c ∷ cs) (h ∷ hs) = IsStoredByHash f c h × AreStoredByHash f cs hs

-- `stored_rup_assumptions f clause l` is true if `l` is assumed at the start of the clause's check, that is, if it is
-- the negation of a literal of the clause, or a unit.
abbrev pub stored_rup_assumptions : Stored → List ℕ → ℕ → Bool
stored_rup_assumptions f clause l = is_among (map negated clause) l || is_unit f l

-- `PropagatingPasses` holds if a clause passes the check under given hashes whenever some stored clauses with exactly
-- these hashes, in this order, propagate to a conflict from the negated clause and the units.
abbrev pub PropagatingPasses : Type 0
PropagatingPasses = (f : Stored) (clause hashes : List ℕ) (named : List (List ℕ)) → AreStoredByHash f named hashes → PropagatesToConflict (stored_rup_assumptions f clause) named → PassesByHashes f clause hashes

-- `UnitInTurnPropagates` holds if clauses that are unit in turn under assumed literals propagate to a conflict from
-- them.
abbrev pub UnitInTurnPropagates : Type 0
UnitInTurnPropagates = (assumed : List ℕ) (clauses : List (List ℕ)) → UnitInTurn assumed clauses → PropagatesToConflict (is_among assumed) clauses

-- `UnitInTurnConflicts` holds if no valuation satisfies the assumed literals and all clauses that are unit in turn
-- under them.
abbrev pub UnitInTurnConflicts : Type 0
UnitInTurnConflicts = (a : Valuation) (assumed : List ℕ) (clauses : List (List ℕ)) → UnitInTurn assumed clauses → AllLitsTrue a assumed → AllClausesTrue a clauses → ⊥

-- `PropagatesOnMore` holds if clauses that propagate to a conflict also do so when more literals are true at the start.
abbrev pub PropagatesOnMore : Type 0
PropagatesOnMore = (clauses : List (List ℕ)) (p q : ℕ → Bool) → ((l : ℕ) → p l ≡ true → q l ≡ true) → PropagatesToConflict p clauses → PropagatesToConflict q clauses

-- `HashIgnoresOrder` holds if the hash of a list of literals without repeats does not depend on their order.
abbrev pub HashIgnoresOrder : Type 0
HashIgnoresOrder = (names : ℕ → Option ℕ) (width : ℕ) (literals : List ℕ) → NoRepeats literals → clause_hash_by names width (canonical literals) ≡ clause_hash_by names width literals
