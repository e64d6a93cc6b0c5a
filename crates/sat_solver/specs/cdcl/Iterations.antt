-- How an iteration of a search ends.
use Rattle.std.specs.Prelude.{ℕ, ◌≡◌, ◌+◌, ◌<◌, Option, None, Some, List, length, slice_index_or as get_or}
use Rattle.std.specs.List.{Contains}
use Rattle.sat_parts.specs.declared.prop.graph.Conflict.{Conflict}
use Rattle.sat_parts.specs.prop.Values.{IsTrueLit, IsFalseLit}
use Rattle.sat_parts.specs.declared.parts.assumptions.Assumptions.{Assumptions}
use Rattle.sat_parts.specs.declared.parts.SearchState.{SearchState}
use Rattle.sat_parts.specs.parts.Assumed.{DecisionsAreAmong, PlacesAreCorrect, variables_of_lits}
use Rattle.sat_parts.specs.parts.Frame.{SameClauses, AddsNoUnit}
use Rattle.sat_parts.specs.parts.Round.{UnitsHaveNoReason, LevelZeroInvariant}
use Rattle.sat_parts.specs.parts.Whole.{state, SearchStateInvariant, SearchStateInvariantBelow, IsFullyPropagated, AllAssigned, HasConflict}
use Rattle.sat_parts.specs.parts.Words.{TrailWordExtendsFor}
use Rattle.sat_solver.specs.session.Session.{Session}
use Rattle.sat_solver.specs.session.Matching.{SessionMatchesParts}
use Rattle.sat_solver.specs.declared.cdcl.find_conflict.FoundConflict.{FoundConflict}
use Rattle.sat_solver.specs.declared.cdcl.find_conflict.FoundConflict.TheVariants.{Falsified, Complete, Failed}
use Rattle.sat_solver.specs.declared.context.Search.{Search}
use Rattle.sat_solver.specs.cdcl.Joint.{global_in, assumed_indices, IsReadySearch, SearchInvariant, SameVarsAndAssumptions}

-- `AllTrue ls p` holds if all literals of `ls` are true in the search `p`
abbrev pub AllTrue : List ℕ → SearchState → Type 0
AllTrue ls p = (k : ℕ) → k < length ls → IsTrueLit p.assignment.current (get_or ls k 0)

-- `IsComplete ls p` holds if nothing is left to propagate, every variable of a clause has a value, and the
-- assumptions `ls` are true
pub record IsComplete (ls : List ℕ) (p : SearchState) : Type 0 where
  pub done : IsFullyPropagated p
  pub all : AllAssigned p
  pub assumed : AllTrue ls p

-- `IsFalseAssumption ls p l` holds if the literal `l` is one of the assumptions `ls` and false, while every decision on
-- the trail is one of the assumptions
pub record IsFalseAssumption (ls : List ℕ) (p : SearchState) (l : ℕ) : Type 0 where
  pub among : Contains ls l
  pub fails : IsFalseLit p.assignment.current l
  pub decided : DecisionsAreAmong ls (state p)

-- `OpensLevelOrStops found ls p p'` holds if, after propagation without a conflict, `found` is `None` and one more
-- level is open, or `Complete` and everything is assigned with all assumptions `ls` true, or `Failed l` and the
-- assumption `l` is false
abbrev pub OpensLevelOrStops : Option FoundConflict → List ℕ → SearchState → SearchState → Type 0
OpensLevelOrStops None ls p p' = length p'.trail.starts ≡ length p.trail.starts + 1
OpensLevelOrStops (Some (Falsified e)) ls p p' = ⊥
OpensLevelOrStops (Some Complete) ls p p' = IsComplete ls p'
OpensLevelOrStops (Some (Failed l)) ls p p' = IsFalseAssumption ls p' l

-- `DecisionEffect found a a' p p'` holds if, after propagation without a conflict, `found` is `None` and a level was
-- opened, or the assignment is complete, or an assumption has failed; clauses and assumptions are unchanged, and no
-- unit is new
pub record DecisionEffect (found : Option FoundConflict) (a a' : Assumptions) (p p' : SearchState) : Type 0 where
  pub holds : SearchStateInvariant p'
  pub lits : a'.lits ≡ a.lits
  pub placed : PlacesAreCorrect a' (state p')
  pub word : TrailWordExtendsFor (variables_of_lits a.lits.items) p p'
  pub same : SameClauses p p'
  pub carries : AddsNoUnit (state p) (state p')
  pub stops : OpensLevelOrStops found a.lits.items p p'

-- `IsPropagated s c` holds if in the search `c`, everything is propagated and no clause is falsified, and its clauses,
-- units, assumptions and indices match the session `s`
pub record IsPropagated (s : Session) (c : Search) : Type 0 where
  pub holds : SearchStateInvariantBelow (length c.parts.trail.starts + 1) c.parts
  pub done : IsFullyPropagated c.parts
  pub units : 0 < length c.parts.trail.starts → UnitsHaveNoReason (state c.parts) × LevelZeroInvariant c.parts.trail
  pub fits : SessionMatchesParts c.parts s (global_in c)
  pub ready : IsReadySearch s c

-- `IsFalsifiedAt s c e` holds if the clause `e` of the search `c` is falsified; clauses, units, assumptions and indices
-- of the search match the session `s`
pub record IsFalsifiedAt (s : Session) (c : Search) (e : Conflict) : Type 0 where
  pub refuted : HasConflict c.parts e
  pub fits : SessionMatchesParts c.parts s (global_in c)
  pub ready : IsReadySearch s c

-- `StopResult stop s c` holds if the search `c` has stopped for the reason `stop`: a falsified clause, a complete
-- assignment with true assumptions, or a false assumption; it matches the session `s`
abbrev pub StopResult : FoundConflict → Session → Search → Type 0
StopResult (Falsified e) s c = IsFalsifiedAt s c e
StopResult Complete s c = SearchInvariant s c × IsComplete c.assumptions.lits.items c.parts
StopResult (Failed l) s c = SearchInvariant s c × IsFalseAssumption c.assumptions.lits.items c.parts l

-- `IterationResult found s c c'` holds if, after an iteration of propagation and decision, `found` is `None` and one
-- more level is open, or the search has stopped for the reason in `found`: a falsified clause, a complete assignment,
-- or a false assumption
abbrev pub IterationResult : Option FoundConflict → Session → Search → Search → Type 0
IterationResult None s c c' = SearchInvariant s c' × (length c'.parts.trail.starts ≡ length c.parts.trail.starts + 1)
IterationResult (Some stop) s c c' = StopResult stop s c'

-- `IterationEffect found s c c'` holds if an iteration with the result `found` changed the search from `c` to `c'`;
-- variables and assumptions are unchanged, and the word that encodes the trail is unchanged or extended
pub record IterationEffect (found : Option FoundConflict) (s : Session) (c c' : Search) : Type 0 where
  pub says : IterationResult found s c c'
  pub moved : SameVarsAndAssumptions c c'
  pub word : TrailWordExtendsFor (assumed_indices c) c.parts c'.parts

-- `StopsSearch stop s c c'` holds if the search stopped with the result `stop`; variables and assumptions are
-- unchanged, and the word of the trail is unchanged or extended
pub record StopsSearch (stop : FoundConflict) (s : Session) (c c' : Search) : Type 0 where
  pub says : StopResult stop s c'
  pub moved : SameVarsAndAssumptions c c'
  pub word : TrailWordExtendsFor (assumed_indices c) c.parts c'.parts
