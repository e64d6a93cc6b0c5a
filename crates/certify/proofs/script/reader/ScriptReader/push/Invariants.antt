use Rattle.std.proofs.Common.{◌-◌, ◌<◌, ◌≤◌, Bool, length, take}
use Rattle.sat_base.specs.text.Chunks.{LeadsByBytes}
use Rattle.certify.specs.script.Commands.{CanContinue, ReaderMeansIf}
use Rattle.certify.specs.script.LastChunk.{ConsumesText}
use Rattle.certify.specs.declared.script.Reached.TheVariants as reached
use Rattle.certify.proofs.script.reader.ScriptReader.push.Given as goal

abbrev pub invariant-loop-at : goal.invariant-loop-at
invariant-loop-at l = record {
  within : l.at ≤ length l.bytes;
  right : 0 < l.at → CanContinue l.self;
  taken : (asks : Bool) → LeadsByBytes (ReaderMeansIf asks) l.fn.self (take l.at l.bytes) l.self;
  text : ConsumesText reached.More l.fn.self (take l.at l.bytes) l.self;
}

abbrev pub decreases-loop-at : goal.decreases-loop-at
decreases-loop-at l = length l.bytes - l.at
