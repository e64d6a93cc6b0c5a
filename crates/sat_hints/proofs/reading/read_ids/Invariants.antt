use Rattle.sat_hints.specs.Lines.{id_text}
use Rattle.sat_hints.specs.inner.LineReading.{IsId}
use Rattle.std.proofs.Common.{◌≡◌, ◌≤◌, ◌+◌, ◌*◌, length, vec_len, vec_capacity}
use Rattle.sat_hints.proofs.lemmas.Words.{ReadSoFar}
use Rattle.sat_hints.proofs.reading.read_ids.Given as goal

abbrev pub invariant-loop-found : goal.invariant-loop-found
invariant-loop-found l = record {
  words : ReadSoFar id_text IsId l.bytes l.ids.items l.rest;
  capacity : vec_capacity l.ids ≡ vec_capacity l.fn.ids;
  room : 2 * vec_len l.ids + length l.rest ≤ 2 * vec_capacity l.ids + 1;
}

abbrev pub decreases-loop-found : goal.decreases-loop-found
decreases-loop-found l = length l.rest
