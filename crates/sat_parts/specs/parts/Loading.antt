-- The effect of loading a clause.
use Rattle.std.specs.Prelude.{ℕ, ◌≡◌, ◌<◌, ◌≤◌, List, length, slice_index_or as get_or}
use Rattle.sat_parts.specs.prop.Values.{IsTrueLit, IsFalseLit, IsUnassignedLit}
use Rattle.sat_parts.specs.declared.parts.SearchState.{SearchState}
use Rattle.sat_parts.specs.declared.parts.load.Loaded.{Loaded}
use Rattle.sat_parts.specs.declared.parts.load.Loaded.TheVariants.{Stored, Unit as One, Satisfied, Falsified}
use Rattle.sat_parts.specs.parts.Whole.{state}
use Rattle.sat_parts.specs.parts.Frame.{AddsNoUnit, SameClauses, GainsUnit, AddsOriginalClause}

-- `LoadEffect loaded p p' ls` holds if loading the clause `ls` stored it (`Stored`), or made its only literal,
-- unassigned so far, true at level 0 (`Unit`, named `One` here), or changed no clause because a literal is true
-- (`Satisfied`), or because it is empty or its only literal is false (`Falsified`).
abbrev pub LoadEffect : Loaded → SearchState → SearchState → List ℕ → Type 0
LoadEffect Stored p p' ls = AddsOriginalClause p p' ls
LoadEffect One p p' ls = (length ls ≡ 1) × IsUnassignedLit p.assignment.current (get_or ls 0 0) × SameClauses p p' × GainsUnit (get_or ls 0 0) (state p) (state p')
LoadEffect Satisfied p p' ls = SameClauses p p' × AddsNoUnit (state p) (state p') × ((k : ℕ) × ((k < length ls) × IsTrueLit p.assignment.current (get_or ls k 0)))
LoadEffect Falsified p p' ls = (length ls ≤ 1) × ((k : ℕ) → k < length ls → IsFalseLit p.assignment.current (get_or ls k 0)) × SameClauses p p' × AddsNoUnit (state p) (state p')
