-- A reader that keeps a copy of the bytes that another reader gives.
use Rattle.std.specs.Prelude.{ℕ, ◌≡◌, ◌+◌, ◌-◌, true, false, if◌then◌else◌, nat_lt, Some, List, [], ◌∷◌, length, drop}
use Rattle.sat_base.specs.device.Counting.{reader_of}
use Rattle.sat_base.specs.device.Device.{Reader, GaveEnough}
use Rattle.sat_base.specs.declared.device.counted.Counted.{Counted}

-- the number of bytes in `given` before the bytes `kept`, which are the last ones of `given`
abbrev pub given_before : List ℕ → List ℕ → ℕ
given_before given kept = length given - length kept

-- `IsCopy given kept` holds if the bytes `kept` are the last of the bytes `given`: a suffix of them, possibly all or
-- none.
abbrev pub IsCopy : List ℕ → List ℕ → Type 0
IsCopy given kept = drop (given_before given kept) given ≡ kept

-- the number of failed calls counted in `c`. Its device stands for a reader that always has a byte to come and never
-- gives it.
abbrev pub refusal_count : {D : Type 0} → Counted D → ℕ
refusal_count c = (reader_of (λ _. Some (0 ∷ [])) c).failures

-- What contracts see of a reader that keeps a copy of the bytes given by the reader `r`: so far, the bytes `kept`. It
-- counts the reads of `r`, and `refusals` more that failed because memory ran out; after one of these, it has failed
-- for good. The number of bytes that `r` gave before the first one kept never changes, and is the latest loan.
abbrev pub kept_reader : Reader → List ℕ → ℕ → Reader
kept_reader r kept refusals = record {
  to_come = r.to_come;
  given = r.given;
  ended = if nat_lt 0 refusals then false else r.ended;
  failed = if nat_lt 0 refusals then true else r.failed;
  failures = r.failures + refusals;
  calls = r.calls + refusals;
  loans = given_before r.given kept ∷ r.loans;
}

-- `GaveKept old new kept P` holds if the bytes that the reader gave between `old` and `new` are enough to establish `P`
-- (`GaveEnough`), `P` also holds of the bytes `kept`, and no read failed.
pub record GaveKept (old new : Reader) (kept : List ℕ) (P : List ℕ → Type 0) : Type 0 where
  pub gave : GaveEnough old new P
  pub copy : P kept
  pub read : new.failures ≡ old.failures
