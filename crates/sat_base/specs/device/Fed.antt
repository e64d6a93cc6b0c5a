-- Reads whose bytes are fed to a receiver.
use Rattle.std.specs.Prelude.{◌≡◌, ℕ, ◌+◌, ◌≤◌, List, length}
use Rattle.sat_base.specs.device.Device.{Reader, GavePrefix}

-- `FeedsReads old new times WasFed` holds if exactly `times` reads were made and none failed, they gave at least
-- `times` bytes, and `WasFed` holds for these bytes.
pub record FeedsReads (old new : Reader) (times : ℕ) (WasFed : List ℕ → Type 0) : Type 0 where
  pub text : List ℕ
  pub front : GavePrefix old new text
  pub fed : WasFed text
  pub some : times ≤ length text
  pub failures : new.failures ≡ old.failures
  pub calls : new.calls ≡ old.calls + times
