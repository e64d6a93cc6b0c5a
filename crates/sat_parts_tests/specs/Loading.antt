-- The parts of a search, before clauses are added.
use Rattle.std.specs.Prelude.{ℕ, ◌≡◌, ◌<◌, true, [], length}
use Rattle.sat_store.specs.heap.Vsids.{is_available}
use Rattle.sat_parts.specs.declared.parts.SearchState.{SearchState}
use Rattle.sat_parts.specs.parts.Whole.{SearchStateInvariant}

-- a search at level 0 with this many variables, each one waiting for a decision
pub record IsReady (p : SearchState) (count : ℕ) : Type 0 where
  pub holds : SearchStateInvariant p
  pub bottom : p.trail.starts ≡ []
  pub size : length p.assignment.current ≡ count
  pub picks : (v : ℕ) → v < count → is_available p.vsids v ≡ true
