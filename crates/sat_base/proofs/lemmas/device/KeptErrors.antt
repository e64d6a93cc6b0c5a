-- Two results that are both `Ok` or both `Err`: one of them has its error stored elsewhere.
use Rattle.std.proofs.Common.{◌≡◌, ℕ, List, Result, Ok, Err}
use Rattle.std.specs.Prelude.{is_ok}
use Rattle.sat_base.specs.device.Device.{Writer, FlushesOnce, WritesText}

-- the effect is the same under both results
pub puts_alike : {E F : Type 0} (q : Result (Unit {0}) F) (r : Result (Unit {0}) E) (text : List ℕ) (v w : Writer) → is_ok q ≡ is_ok r → WritesText text r v w → WritesText text q v w
puts_alike (Ok u) (Ok x) text v w e p = p
puts_alike (Ok u) (Err x) text v w e p = absurd cc
puts_alike (Err f) (Ok x) text v w e p = absurd cc
puts_alike (Err f) (Err x) text v w e p = p

pub flush_alike : {E F : Type 0} (q : Result (Unit {0}) F) (r : Result (Unit {0}) E) (v w : Writer) → is_ok q ≡ is_ok r → FlushesOnce r v w → FlushesOnce q v w
flush_alike (Ok u) (Ok x) v w e p = record { known_bytes = p.known_bytes; taken = p.taken; flushed = p.flushed; flushes = p.flushes; failures = p.failures; calls = p.calls; loans = p.loans }
flush_alike (Ok u) (Err x) v w e p = absurd cc
flush_alike (Err f) (Ok x) v w e p = absurd cc
flush_alike (Err f) (Err x) v w e p = record { known_bytes = p.known_bytes; taken = p.taken; flushed = p.flushed; flushes = p.flushes; failures = p.failures; calls = p.calls; loans = p.loans }
