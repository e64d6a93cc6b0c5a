use Rattle.sat_base.specs.dimacs.DimacsText.{number_text}
use Rattle.sat_hints.specs.inner.LineReading.{IsLiteralCode}
use Rattle.std.proofs.Common.{◌≡◌, ◌≤◌, ◌+◌, ◌*◌, length, vec_len, vec_capacity}
use Rattle.sat_hints.proofs.lemmas.Words.{ReadSoFar}
use Rattle.sat_hints.proofs.reading.read_literals.Given as goal

abbrev pub invariant-loop-found : goal.invariant-loop-found
invariant-loop-found l = record {
  words : ReadSoFar number_text IsLiteralCode l.bytes l.literals.items l.rest;
  capacity : vec_capacity l.literals ≡ vec_capacity l.fn.literals;
  room : 2 * vec_len l.literals + length l.rest ≤ 2 * vec_capacity l.literals + 1;
}

abbrev pub decreases-loop-found : goal.decreases-loop-found
decreases-loop-found l = length l.rest
