use Rattle.std.proofs.Common.{◌≡◌}
use Rattle.std.specs.Prelude.{drop}
use Rattle.std.specs.Str.{all_ascii_digits}
use Rattle.certify.proofs.program.call.rounds_of.Given as goal

-- the remaining bytes are all digits exactly if the bytes of the word are
abbrev pub invariant-loop-byte : goal.invariant-loop-byte
invariant-loop-byte l = (l.byte-items ≡ l.word) × (all_ascii_digits (drop l.byte-index l.word) ≡ all_ascii_digits l.word)
