use Rattle.std.proofs.Common.{◌≡◌, ◌≤◌, ◌+◌, ℕ, max, slice_index, vec_len, vec_capacity}
use Rattle.sat_store.proofs.var_map.put.Given as goal

abbrev pub invariant-loop-new : goal.invariant-loop-new
invariant-loop-new l = ((v : ℕ) → slice_index l.codes.items v ≡ slice_index l.fn.codes.items v) × (vec_capacity l.codes ≡ vec_capacity l.fn.codes) × (vec_len l.codes ≡ l._new) × (l._new ≤ max (vec_len l.fn.codes) (l.index + 1))
