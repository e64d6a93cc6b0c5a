-- A flag for every literal.
use Rattle.std.specs.Prelude.{ℕ, ◌≡◌, ◌*◌, ◌-◌, ◌<◌, ◌++◌, Bool, false, List, length, take, replicate, slice_index_or as get_or}

-- flags for all literals of `count` variables, indexed by literal code: those of `flags`, cut off or extended by false
abbrev pub flags_for : ℕ → List Bool → List Bool
flags_for count flags = take (2 * count) flags ++ replicate (2 * count - length flags) false

-- `GrowsFlags count old new` holds if there are two flags for each of `count` variables: the old ones are kept, and the
-- others are false.
pub record GrowsFlags (count : ℕ) (old new : List Bool) : Type 0 where
  pub size : length new ≡ 2 * count
  pub kept : (l : ℕ) → l < 2 * count → get_or new l false ≡ get_or old l false
  pub clear : ((l : ℕ) → get_or old l false ≡ false) → (l : ℕ) → get_or new l false ≡ false
