use Rattle.std.proofs.Common.{◌≡◌, ◌+◌, ◌<◌, ◌≤◌, false, length, List, [], ℕ}
use Rattle.sat_base.specs.device.Device.{GavePrefix}
use Rattle.sat_base.specs.dimacs.Dimacs.{dimacs, up_to_last_blank}
use Rattle.sat_base.specs.dimacs.Parsing.{HasNoFaultSoFar, EndsInLastPiece, LastReadGaveBytes}
use Rattle.sat_base.proofs.lemmas.dimacs.Parsed.{HasAccepted as HasFed}
use Rattle.sat_solver.specs.facade.Formulas.{AddsAll}
use Rattle.sat_solver.proofs.facade.Solver.add_text.Given as goal

-- this much of the text was read, and its clauses were added
abbrev pub invariant-loop : goal.invariant-loop
invariant-loop g l = record {
  was : l.fn.self.failed ≡ false;
  going : l.self.failed ≡ false;
  bytes : (text : List ℕ) × HasFed text l.parser × GavePrefix (g.R.CountedRead.seen l.fn.reader) (g.R.CountedRead.seen l.reader) text × (l.counter ≤ length text)
      × (l.parser.taken ≡ (dimacs (up_to_last_blank text)).clauses) × (l.counter ≡ 0 → text ≡ []) × EndsInLastPiece text;
  sound : HasNoFaultSoFar l.parser;
  open_yet : 0 < l.counter → (g.R.CountedRead.seen l.reader).ended ≡ false;
  gave : LastReadGaveBytes (g.R.CountedRead.seen l.fn.reader) (g.R.CountedRead.seen l.reader);
  failures : (g.R.CountedRead.seen l.reader).failures ≡ (g.R.CountedRead.seen l.fn.reader).failures;
  calls : (g.R.CountedRead.seen l.reader).calls ≡ (g.R.CountedRead.seen l.fn.reader).calls + l.counter;
  added : AddsAll g.P.ProofProcessor.takes l.fn.self l.parser.taken l.self;
}
