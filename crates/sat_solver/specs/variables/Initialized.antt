-- A search gets indices for proof variables: new ones, or ones that were released.
use Rattle.std.specs.Prelude.{ℕ, ◌≡◌, ◌≢◌, ◌≤◌, ◌<◌, ◌⊎◌, Bool, true, false, Some, None, List, [], ◌∷◌, length, slice_index_or as get_or}
use Rattle.std.specs.List.{AllByRecursion}
use Rattle.sat_base.specs.values.Literals.{mk_lit, variable, is_positive}
use Rattle.sat_store.specs.heap.Vsids.{is_available}
use Rattle.sat_parts.specs.prop.Values.{value_of, IsTrueLit}
use Rattle.sat_parts.specs.prop.State.{level}
use Rattle.sat_parts.specs.declared.parts.SearchState.{SearchState}
use Rattle.sat_parts.specs.parts.Whole.{state, SearchStateInvariant}
use Rattle.sat_parts.specs.parts.Frame.{SameClauses, IsUnitLit}
use Rattle.sat_solver.specs.session.Session.{Session}
use Rattle.sat_solver.specs.session.Naming.{global_of_index}
use Rattle.sat_solver.specs.variables.Variables.{is_unit_value}
use Rattle.sat_solver.specs.variables.Search.{KeepsSearch, IndicesDistinct, HasGiven}
use Rattle.sat_solver.specs.declared.variables.solver_vars.Given.{Given}
use Rattle.sat_solver.specs.cdcl.Joint.{SearchInvariant}
use Rattle.sat_solver.specs.declared.context.Search.{Search}

-- `GivesLit gs l` holds if one of the given indices `gs` is that of the search literal `l`, and comes with the unit `l`
abbrev pub GivesLit : List Given → ℕ → Type 0
GivesLit [] l = ⊥
GivesLit (g ∷ gs) l = ((g.solver ≡ variable l) × (g.unit ≡ Some (is_positive l))) ⊎ GivesLit gs l

-- `IsVacant p count g` holds if the given index is below `count`, has no value in the search, and may not be picked for
-- a decision
pub record IsVacant (p : SearchState) (count : ℕ) (g : Given) : Type 0 where
  pub below : g.solver < count
  pub open_value : value_of p.assignment.current g.solver ≡ None
  pub unpicked : is_available p.vsids g.solver ≡ false

-- `AreVacant p count gs` holds if every index in `gs` is below `count`, without value and not pickable, and no index is
-- twice in `gs`
pub record AreVacant (p : SearchState) (count : ℕ) (gs : List Given) : Type 0 where
  pub each : AllByRecursion (IsVacant p count) gs
  pub apart : IndicesDistinct gs

-- `ActivatesIndices gs p p'` holds if the search, at level 0, took up the indices `gs`: those that come with a unit
-- have its value, the others may be picked. Clauses, other values and other indices are unchanged.
pub record ActivatesIndices (gs : List Given) (p p' : SearchState) : Type 0 where
  pub holds : SearchStateInvariant p'
  pub bottom : p'.trail.starts ≡ []
  pub same : SameClauses p p'
  pub size : length p'.assignment.current ≡ length p.assignment.current
  pub values : (v : ℕ) → (HasGiven gs v → ⊥) → value_of p'.assignment.current v ≡ value_of p.assignment.current v
  pub picks : (v : ℕ) → (HasGiven gs v → ⊥) → is_available p'.vsids v ≡ is_available p.vsids v
  pub ready : (v : ℕ) → HasGiven gs v → value_of p'.assignment.current v ≡ None → is_available p'.vsids v ≡ true
  pub units : (l : ℕ) → IsUnitLit (state p') l → IsUnitLit (state p) l ⊎ GivesLit gs l
  pub kept : (l : ℕ) → IsTrueLit p.assignment.current l → level (state p) l ≡ 0 → IsTrueLit p'.assignment.current l × (level (state p') l ≡ 0)
  pub its : (l : ℕ) → GivesLit gs l → IsTrueLit p'.assignment.current l × (level (state p') l ≡ 0)

-- `SetsVariablesOfIndices gs globals old new` holds if, for the indices in `gs`, `new` lists the same proof variables
-- as `globals`, and otherwise the same as `old`
pub record SetsVariablesOfIndices (gs : List Given) (globals old new : List ℕ) : Type 0 where
  pub size : length new ≡ length old
  pub named : (v : ℕ) → HasGiven gs v → get_or new v 0 ≡ get_or globals v 0
  pub others : (v : ℕ) → (HasGiven gs v → ⊥) → get_or new v 0 ≡ get_or old v 0

-- `IsGivenTo globals s t g` holds if, between the sessions `s` and `t`, the proof variable that `globals` lists for the
-- index of `g` got this index; neither was taken before. Its unit, or `None`, is the one in `g`.
pub record IsGivenTo (globals : List ℕ) (s t : Session) (g : Given) : Type 0 where
  pub without : s.solver_names (global_of_index globals g.solver) ≡ None
  pub free : (v : ℕ) → s.solver_names v ≢ Some g.solver
  pub named : t.solver_names (global_of_index globals g.solver) ≡ Some g.solver
  pub unit : (b : Bool) → s.units (mk_lit (global_of_index globals g.solver) b) ≡ is_unit_value g.unit b

-- `GivesIndicesInSession globals gs count s t` holds if, between the sessions `s` and `t`, exactly the indices in `gs`
-- were given, to proof variables as `globals` lists them; all earlier ones are below `count`. Clauses, units, width and
-- assumptions are unchanged.
pub record GivesIndicesInSession (globals : List ℕ) (gs : List Given) (count : ℕ) (s t : Session) : Type 0 where
  pub keeps : KeepsSearch s t
  pub each : AllByRecursion (IsGivenTo globals s t) gs
  pub stays : (v x : ℕ) → s.solver_names v ≡ Some x → t.solver_names v ≡ Some x
  pub others : (v x : ℕ) → t.solver_names v ≡ Some x → (s.solver_names v ≡ Some x) ⊎ HasGiven gs x
  pub below : (v x : ℕ) → s.solver_names v ≡ Some x → x < count

-- `GivesSearchIndices globals gs c c'` holds if the search, at level 0, took up the indices in `gs` for the proof
-- variables that `globals` lists; other indices and the assumptions are unchanged, and the invariant holds once the
-- session has the indices too
pub record GivesSearchIndices (globals : List ℕ) (gs : List Given) (c c' : Search) : Type 0 where
  pub named : (v : ℕ) → HasGiven gs v → get_or c'.globals.items v 0 ≡ get_or globals v 0
  pub others : (v : ℕ) → v < length c.globals.items → (HasGiven gs v → ⊥) → get_or c'.globals.items v 0 ≡ get_or c.globals.items v 0
  pub more : length c.globals.items ≤ length c'.globals.items
  pub few : length c.globals.items ≤ length globals → length c'.globals.items ≤ length globals
  pub there : AllByRecursion (λ g. g.solver < length c'.globals.items) gs
  pub size : length c'.parts.assignment.current ≡ length c'.globals.items
  pub ready : (v : ℕ) → HasGiven gs v → value_of c'.parts.assignment.current v ≡ None → is_available c'.parts.vsids v ≡ true
  pub lits : c'.assumptions.lits ≡ c.assumptions.lits
  pub bottom : c'.parts.trail.starts ≡ []
  pub holds : SearchStateInvariant c'.parts
  pub search : (s t : Session) → SearchInvariant s c → GivesIndicesInSession globals gs (length c.globals.items) s t → SearchInvariant t c'
