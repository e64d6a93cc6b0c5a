-- Maps between variables, as the list of the targets by index. Its length is one more than the largest index that was
-- ever mapped.
use Rattle.std.specs.Prelude.{ℕ, ◌+◌, ◌==◌, ◌≡◌, ◌≢◌, ◌≤◌, max, if◌then◌else◌, Option, Some, None, List, length, slice_index_or}

-- the target of the variable `from` in `map`, or `None` if it has none or is past the end
abbrev pub target : List (Option ℕ) → ℕ → Option ℕ
target map from = slice_index_or map from None

-- `SetsTarget old new from into` holds if, in the map `new`, the target of the variable `from` is `into` (`None` means
-- no target), and every other variable has the target that it has in `old`.
abbrev pub SetsTarget : List (Option ℕ) → List (Option ℕ) → ℕ → Option ℕ → Type 0
SetsTarget old new from into = (v : ℕ) → target new v ≡ (if v == from then into else target old v)

-- `GrowsMap old new from into` holds if the variable `from` has the target `into` in `new`, and every other variable
-- keeps its target. Variables that the map did not reach before have none. The length is one more than the largest
-- index that was ever mapped.
pub record GrowsMap (old new : List (Option ℕ)) (from into : ℕ) : Type 0 where
  pub there : target new from ≡ Some into
  pub kept : (v : ℕ) → v ≢ from → target new v ≡ target old v
  pub fresh : (v : ℕ) → length old ≤ v → v ≢ from → target new v ≡ None
  pub watermark : length new ≡ max (length old) (from + 1)

-- a map between variables (`fwd`) and its inverse (`bwd`), each as the list of targets by index
pub record MapAndInverse : Type 0 where
  pub fwd : List (Option ℕ)
  pub bwd : List (Option ℕ)

-- `AreInverse maps` holds if each map is the inverse of the other.
pub record AreInverse (maps : MapAndInverse) : Type 0 where
  pub back : (v u : ℕ) → target maps.fwd v ≡ Some u → target maps.bwd u ≡ Some v
  pub forth : (v u : ℕ) → target maps.bwd u ≡ Some v → target maps.fwd v ≡ Some u

-- the two maps with their directions exchanged
abbrev pub with_swapped_directions : MapAndInverse → MapAndInverse
with_swapped_directions maps = record { fwd = maps.bwd; bwd = maps.fwd }

-- `Links old new from into` holds if, in `new`, the map takes `from` to `into` and the inverse takes `into` to `from`;
-- no other target changed, and each map has become just long enough for its new entry, if it was not already.
pub record Links (old new : MapAndInverse) (from into : ℕ) : Type 0 where
  pub fwd : SetsTarget old.fwd new.fwd from (Some into)
  pub bwd : SetsTarget old.bwd new.bwd into (Some from)
  pub fwd_watermark : length new.fwd ≡ max (length old.fwd) (from + 1)
  pub bwd_watermark : length new.bwd ≡ max (length old.bwd) (into + 1)

-- `Unlinks old new from into` holds if, in `new`, `from` has no target in the map and `into` none in the inverse; no
-- other target and no length changed.
pub record Unlinks (old new : MapAndInverse) (from into : ℕ) : Type 0 where
  pub fwd : SetsTarget old.fwd new.fwd from None
  pub bwd : SetsTarget old.bwd new.bwd into None
  pub fwd_watermark : length new.fwd ≡ length old.fwd
  pub bwd_watermark : length new.bwd ≡ length old.bwd

-- `GrowsBothMaps old new from into` holds if each of the maps gained a target: `into` for `from`, and `from` for
-- `into`.
pub record GrowsBothMaps (old new : MapAndInverse) (from into : ℕ) : Type 0 where
  pub fwd : GrowsMap old.fwd new.fwd from into
  pub bwd : GrowsMap old.bwd new.bwd into from
