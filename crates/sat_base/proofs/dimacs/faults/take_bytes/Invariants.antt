use Rattle.std.proofs.Common.{◌++◌, ℕ, List, take}
use Rattle.sat_base.specs.dimacs.Faults.{HasReceivedWithoutFault}
use Rattle.sat_base.proofs.dimacs.faults.take_bytes.Given as goal

abbrev pub invariant-loop-byte : goal.invariant-loop-byte
invariant-loop-byte l = (text : List ℕ) → HasReceivedWithoutFault text l.fn.tokenizer → HasReceivedWithoutFault (text ++ take l.byte-index l.bytes) l.tokenizer
