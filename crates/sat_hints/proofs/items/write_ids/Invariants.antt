use Rattle.std.proofs.Common.{◌≡◌, ◌+◌, ◌*◌, ◌≤◌, ◌++◌, length, take, drop}
use Rattle.sat_hints.specs.Lines.{id_words}
use Rattle.sat_hints.proofs.items.write_ids.Given as goal

-- the text written so far and the rest make up the complete list
abbrev pub invariant-loop-id : goal.invariant-loop-id
invariant-loop-id l = record {
  same : length l.bytes ≡ length l.fn.bytes;
  within : l.at ≤ l.fn.len + 22 * l.id-index;
  text : take l.at l.bytes ++ id_words (drop l.id-index l.ids) ≡ take l.fn.len l.fn.bytes ++ id_words l.ids;
}
