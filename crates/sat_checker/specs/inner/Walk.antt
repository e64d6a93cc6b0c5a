-- What a walk does if it uses every unit clause that it visits. The rule of the check is in `Propagation`.
use Rattle.std.specs.Prelude.{ℕ, Bool, true, false, List, [], ◌∷◌, Option, None, Some, if◌then◌else◌}
use Rattle.sat_base.specs.values.Literals.{negated}
use Rattle.sat_checker.specs.LiteralSets.{is_among}
pub use Rattle.sat_checker.specs.ClauseStates.{ClauseState, falsified, becomes_unit, neither, not_false, state_by_open, clause_state}

-- The assumed literals after a clause with this verdict: with the open literal as the newest if the clause is unit,
-- unchanged if it is neither, and `None` if it is falsified.
abbrev pub walk_clause : ClauseState → List ℕ → Option (List ℕ)
walk_clause falsified assumed = None
walk_clause (becomes_unit l) assumed = Some (l ∷ assumed)
walk_clause neither assumed = Some assumed

-- What `next` gives for the literals assumed so far, or `None` if a clause was falsified.
abbrev pub and_then : Option (List ℕ) → (List ℕ → Option (List ℕ)) → Option (List ℕ)
and_then None next = None
and_then (Some assumed) next = next assumed

-- The assumed literals, the newest first, after these clauses are visited in order from `assumed`, and every clause
-- that is then unit is used; `None` if a clause was falsified.
abbrev pub walk : List ℕ → List (List ℕ) → Option (List ℕ)
walk assumed [] = Some assumed
walk assumed (c ∷ cs) = and_then (walk_clause (clause_state assumed c) assumed) (λ more. walk more cs)

-- `if_conflict assumed next` is true if a conflict was reached (`None`), and is otherwise the value of `next` for the
-- literals assumed so far.
abbrev pub if_conflict : Option (List ℕ) → (List ℕ → Bool) → Bool
if_conflict None next = true
if_conflict (Some assumed) next = next assumed

-- `walk_buckets assumed buckets` is true if visiting the buckets in order, and using every clause that is then unit,
-- reaches a falsified clause before an empty bucket.
abbrev pub walk_buckets : List ℕ → List (List (List ℕ)) → Bool
walk_buckets assumed [] = false
walk_buckets assumed ([] ∷ bs) = false
walk_buckets assumed ((c ∷ cs) ∷ bs) = if_conflict (walk assumed (c ∷ cs)) (λ more. walk_buckets more bs)

-- The assumed literals once the negations of the clause's literals are assumed, one by one, without repeats; `None` if
-- a literal of the clause was true then.
abbrev pub negations_assumed : List ℕ → List ℕ → Option (List ℕ)
negations_assumed assumed [] = Some assumed
negations_assumed assumed (l ∷ ls) =
    if is_among assumed l then None else negations_assumed (if is_among assumed (negated l) then assumed else negated l ∷ assumed) ls
