use Rattle.std.proofs.Common.{◌≤◌, length}
use Rattle.certify.specs.refusals.Names.{ListsNamesInUse, states_of}
use Rattle.certify.proofs.lemmas.judge.Listed.{Left, Same}
use Rattle.certify.proofs.refusals.names.Names.are_listed.Given as goal

abbrev pub invariant-loop-index : goal.invariant-loop-index
invariant-loop-index l = record {
  within : l.at ≤ length l.line;
  left : Same (ListsNamesInUse l.self l.line) (Left (states_of l.self) l.line l.at l.index);
}
