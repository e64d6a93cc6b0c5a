use Rattle.std.proofs.Common.{◌≡◌, ◌+◌, ◌<◌, ◌≤◌, false, length, List, ℕ}
use Rattle.std.specs.List.{FoldsTo, concat}
use denote.Param.Always.{always_mut}
use Rattle.sat_base.specs.device.Device.{GavePrefix}
use Rattle.sat_base.specs.dimacs.Parsing.{no_progress, OnlyTakesClauses, FeedsAndCallsClosure}
use Rattle.sat_base.proofs.lemmas.dimacs.Parsed.{HasAccepted}
use Rattle.sat_base.proofs.dimacs.DimacsParser.read_parts.Given as goal

abbrev pub invariant-loop : goal.invariant-loop
invariant-loop g l = record {
  always : always_mut g.F.FnMut l.closure;
  visited : (pieces : List (List ℕ)) × FoldsTo (FeedsAndCallsClosure (λ f p r q h. goal.F-step g f p r q h)) (l.initial.closure, no_progress) pieces (l.closure, l.self)
      × GavePrefix (g.R.CountedRead.seen l.fn.reader) (g.R.CountedRead.seen l.reader) (concat pieces)
      × (OnlyTakesClauses (λ f p r q h. goal.F-step g f p r q h) l.initial.closure → OnlyTakesClauses (λ f p r q h. goal.F-step g f p r q h) l.closure × HasAccepted (concat pieces) l.self)
      × (length pieces ≡ l.counter) × (l.counter ≤ length (concat pieces));
  open_yet : 0 < l.counter → (g.R.CountedRead.seen l.reader).ended ≡ false;
  failures : (g.R.CountedRead.seen l.reader).failures ≡ (g.R.CountedRead.seen l.fn.reader).failures;
  calls : (g.R.CountedRead.seen l.reader).calls ≡ (g.R.CountedRead.seen l.fn.reader).calls + l.counter;
}
