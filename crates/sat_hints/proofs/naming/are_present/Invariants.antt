use Rattle.std.proofs.Common.{drop}
use Rattle.sat_hints.proofs.lemmas.Finding.{PresentAlike}
use Rattle.sat_hints.proofs.naming.are_present.Given as goal

abbrev pub invariant-loop-id : goal.invariant-loop-id
invariant-loop-id l = PresentAlike l.active l.ids (drop l.id-index l.ids)
