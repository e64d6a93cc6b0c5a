use Rattle.std.proofs.Common.{◌≡◌, ◌+◌, ◌*◌, ◌≤◌, ◌++◌, length, take, drop}
use Rattle.sat_hints.specs.Lines.{literal_words}
use Rattle.sat_hints.proofs.items.write_literals.Given as goal

-- the text written so far and the rest make up the complete list
abbrev pub invariant-loop-literal : goal.invariant-loop-literal
invariant-loop-literal l = record {
  same : length l.bytes ≡ length l.fn.bytes;
  within : l.at ≤ l.fn.len + 22 * l.literal-index;
  text : take l.at l.bytes ++ literal_words (drop l.literal-index l.literals) ≡ take l.fn.len l.fn.bytes ++ literal_words l.literals;
}
