-- Decays that are still to come.
use Rattle.std.proofs.Common.{◌≡◌, ℕ, suc, ◌+◌, ◌-◌, ◌<◌, ap, arith}
use Rattle.std.specs.Fn.{iterate}
use Rattle.sat_store.specs.heap.Vsids.{Queue, decayed}

-- one of them is made
pub decayed_once : (times counter : ℕ) (q : Queue) → counter < times → iterate decayed (times - counter) q ≡ iterate decayed (times - (counter + 1)) (decayed q)
decayed_once times counter q more =
    let e : times - counter ≡ suc (times - (counter + 1)) = omega arith in
    ap (λ (n : ℕ). iterate decayed n q) e
