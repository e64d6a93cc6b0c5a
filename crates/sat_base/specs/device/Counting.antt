-- What contracts see of a device whose calls are counted.
use Rattle.std.specs.Prelude.{Option, ℕ, ◌+◌, ◌++◌, true, false, List, []}
use Rattle.sat_base.specs.declared.device.counted.Counted.{Counted}
use Rattle.sat_base.specs.declared.device.tally.Tally.{Tally}
use Rattle.sat_base.specs.device.Device.{Reader, Writer}

-- WHAT A CALL ADDS TO A TALLY
-- the tally of a device's calls before the first one
abbrev pub no_calls : Tally
no_calls = record { calls = 0; failures = 0; given = []; taken = []; ended = false; flushed = false; failed = false; flushes = 0 }

-- the tally of a device's calls after one more, which did not fail, did not flush and did not find the end
abbrev pub after_call : Tally → Tally
after_call t = record t { calls = t.calls + 1; ended = false; flushed = false; failed = false }

-- the tally of a device's calls after one more, a read that gave `bytes`
abbrev pub after_read : List ℕ → Tally → Tally
after_read bytes t = record (after_call t) { given = t.given ++ bytes }

-- the tally of a device's calls after one more, a read that found the end
abbrev pub after_end : Tally → Tally
after_end t = record (after_call t) { ended = true }

-- the tally of a device's calls after one more, a write that accepted `bytes`
abbrev pub after_write : List ℕ → Tally → Tally
after_write bytes t = record (after_call t) { taken = t.taken ++ bytes }

-- the tally of a device's calls after one more, a flush that did not fail
abbrev pub after_flush : Tally → Tally
after_flush t = record (after_call t) { flushed = true; flushes = t.flushes + 1 }

-- the tally of a device's calls after one more, which failed
abbrev pub after_failure : Tally → Tally
after_failure t = record (after_call t) { failures = t.failures + 1; failed = true }

-- WHAT CONTRACTS SEE

-- the device itself, without the tally of its calls
abbrev pub device_of : {D : Type 0} → Counted D → D
device_of c = c.device

-- what contracts see of a counted device as a reader; `remaining` gives its bytes still to come, if they are known
abbrev pub reader_of : {D : Type 0} → (D → Option (List ℕ)) → Counted D → Reader
reader_of remaining c = record {
  to_come = remaining c.device;
  given = c.tally.given;
  ended = c.tally.ended;
  failed = c.tally.failed;
  failures = c.tally.failures;
  calls = c.tally.calls;
  loans = [];
}

-- what contracts see of a counted device as a writer; `contents` gives what it holds, if that is known
abbrev pub writer_of : {D : Type 0} → (D → Option (List ℕ)) → Counted D → Writer
writer_of contents c = record {
  contents = contents c.device;
  taken = c.tally.taken;
  flushed = c.tally.flushed;
  failed = c.tally.failed;
  failures = c.tally.failures;
  calls = c.tally.calls;
  flushes = c.tally.flushes;
  loans = [];
}

-- a reader that was never called, with the bytes `bytes` still to come, if they are known
abbrev pub new_reader : Option (List ℕ) → Reader
new_reader bytes = record { to_come = bytes; given = []; ended = false; failed = false; failures = 0; calls = 0; loans = [] }

-- a writer that was never called and holds `bytes`, if that is known
abbrev pub new_writer : Option (List ℕ) → Writer
new_writer bytes = record {
  contents = bytes;
  taken = [];
  flushed = false;
  failed = false;
  failures = 0;
  calls = 0;
  flushes = 0;
  loans = [];
}
