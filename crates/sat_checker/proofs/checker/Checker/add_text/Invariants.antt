use Rattle.std.proofs.Common.{◌≡◌, ◌+◌, ◌<◌, ◌≤◌, false, length, List, [], ℕ, Ok}
use Rattle.sat_base.specs.device.Device.{GavePrefix}
use Rattle.sat_base.specs.dimacs.Dimacs.{dimacs, up_to_last_blank}
use Rattle.sat_base.specs.dimacs.Parsing.{HasNoFaultSoFar, EndsInLastPiece, LastReadGaveBytes}
use Rattle.sat_base.specs.steps.Steps.{Step}
use Rattle.sat_base.proofs.lemmas.dimacs.Parsed.{HasAccepted as HasFed}
use Rattle.sat_checker.specs.CheckerView.{checker_has_failed, kernel_of, view_of, HasAccepted}
use Rattle.sat_checker.specs.KernelView.{kernel_looks}
use Rattle.sat_checker.specs.listeners.ProcessingView.{EachListenerReceives}
use Rattle.sat_checker.specs.ClausesView.{AddClausesResultAfter}
use Rattle.sat_checker.proofs.checker.Checker.add_text.Given as goal

-- the reader gave a text of at least `counter` bytes, and all clauses of its ended words were added
abbrev pub invariant-loop : goal.invariant-loop
invariant-loop g l = record {
  well : checker_has_failed (view_of l.fn.self) ≡ false;
  bytes : (text : List ℕ) × HasFed text l.parser × GavePrefix (g.R.CountedRead.seen l.fn.reader) (g.R.CountedRead.seen l.reader) text × (l.counter ≤ length text)
      × (l.parser.taken ≡ (dimacs (up_to_last_blank text)).clauses) × (l.counter ≡ 0 → text ≡ []) × EndsInLastPiece text;
  sound : HasNoFaultSoFar l.parser;
  open_yet : 0 < l.counter → (g.R.CountedRead.seen l.reader).ended ≡ false;
  gave : LastReadGaveBytes (g.R.CountedRead.seen l.fn.reader) (g.R.CountedRead.seen l.reader);
  failures : (g.R.CountedRead.seen l.reader).failures ≡ (g.R.CountedRead.seen l.fn.reader).failures;
  calls : (g.R.CountedRead.seen l.reader).calls ≡ (g.R.CountedRead.seen l.fn.reader).calls + l.counter;
  rise : kernel_looks (kernel_of l.fn.self) ≤ kernel_looks (kernel_of l.self);
  added : (before : _) (begun : _) (earlier : List Step) → HasAccepted (EachListenerReceives g.P.ProofProcessor.takes g.T.ProofTranscriptProcessor.reads) before begun (view_of l.fn.self) earlier → AddClausesResultAfter (EachListenerReceives g.P.ProofProcessor.takes g.T.ProofTranscriptProcessor.reads) before begun (Ok tt) (view_of l.fn.self) (view_of l.self) l.parser.taken earlier;
}
