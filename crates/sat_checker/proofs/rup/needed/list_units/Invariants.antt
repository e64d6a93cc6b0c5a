use Rattle.std.proofs.Common.{◌≡◌, ◌++◌, drop}
use Rattle.sat_checker.proofs.lemmas.announcements.Listing.{unit_ids_of}
use Rattle.sat_checker.proofs.rup.needed.list_units.Given as goal

-- the ids so far, followed by those of the remaining literals, are all ids
abbrev pub invariant-loop-lit : goal.invariant-loop-lit
invariant-loop-lit l = l.ids.items ++ unit_ids_of l.denied.literals l.units.units (drop l.lit-index l.lit-items) ≡ unit_ids_of l.denied.literals l.units.units l.lit-items
