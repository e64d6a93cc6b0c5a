-- A full clause buffer.
use Rattle.std.specs.Prelude.{◌-◌, ◌<◌, ◌^◌, length}
use Rattle.sat_parts.specs.declared.parts.SearchState.{SearchState}

-- `IsBufferFull p` holds if the buffer has more than 2^32 - 1 words, so that no reference can name the next offset.
abbrev pub IsBufferFull : SearchState → Type 0
IsBufferFull p = 2 ^ 32 - 1 < length p.clauses
