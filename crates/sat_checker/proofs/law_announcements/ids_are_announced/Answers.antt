use Rattle.sat_checker.proofs.lemmas.announcements.Identified.{identified, conflict_named, simplified_named}
use Rattle.sat_checker.proofs.law_announcements.ids_are_announced.Goals as goal

pub returns : goal.returns
returns c = record { stored = identified; delayed = conflict_named; simplified = simplified_named }
