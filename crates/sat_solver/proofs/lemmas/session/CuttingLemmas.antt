-- Hashes are truncated one after another.
use Rattle.std.proofs.Common.{ℕ, suc, ◌+◌, ◌<◌, ◌≡◌, ◌++◌, List, [], ◌∷◌, map, drop, length, slice_index_or, arith, append_assoc, drop-cons}
use Rattle.sat_solver.specs.proof.Widths.{kept_bits}

-- one more hash is truncated
pub narrow_next : (w i : ℕ) (items hs : List ℕ) → i < length hs → (items ++ kept_bits w (slice_index_or hs i 0) ∷ []) ++ map (kept_bits w) (drop (i + 1) hs) ≡ items ++ map (kept_bits w) (drop i hs)
narrow_next w i items hs n =
    let e : i + 1 ≡ suc i = omega arith in
    rw (e, drop-cons hs i 0 n) (append_assoc items (kept_bits w (slice_index_or hs i 0) ∷ []) (map (kept_bits w) (drop (suc i) hs)))
