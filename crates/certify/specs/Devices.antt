-- The states of readers and writers before and after a call, and failed calls of writers.
use Rattle.std.specs.Prelude.{◌+◌, ◌≡◌, true}
use Rattle.sat_base.specs.device.Device.{Reader, Writer}

-- the pair of a reader's states before (`old`) and after (`new`) a call, as `seen` shows them
abbrev pub reader_before_after : {D : Type 0} → (D → Reader) → D → D → Reader × Reader
reader_before_after seen old new = (seen old, seen new)

-- the pair of a writer's states before (`old`) and after (`new`) a call, as `seen` shows them
abbrev pub writer_before_after : {D : Type 0} → (D → Writer) → D → D → Writer × Writer
writer_before_after seen old new = (seen old, seen new)

-- `NoWriterCallFailed old new` holds if no call of the writer failed between `old` and `new`, and it is lent through
-- the same borrows.
abbrev pub NoWriterCallFailed : Writer → Writer → Type 0
NoWriterCallFailed old new = (new.failures ≡ old.failures) × (new.loans ≡ old.loans)

-- `OneWriterCallFailed old new` holds if exactly one call of the writer failed between `old` and `new`, which was the
-- last, and it is lent through the same borrows.
abbrev pub OneWriterCallFailed : Writer → Writer → Type 0
OneWriterCallFailed old new = (new.failures ≡ old.failures + 1) × (new.failed ≡ true) × (new.loans ≡ old.loans)
