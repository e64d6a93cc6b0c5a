use Rattle.sat_checker.proofs.lemmas.leading.AnyOrder.{hash_any_order}
use Rattle.sat_checker.proofs.lemmas.leading.Named.{leading_passes}
use Rattle.sat_checker.proofs.lemmas.leading.Turns.{turns_lead, turns_conflict, leads_on_more}
use Rattle.sat_checker.proofs.law_stored.named_clauses_pass.Goals as goal

pub returns : goal.returns
returns c = record { passes = leading_passes; turns = turns_lead; conflict = turns_conflict; more = leads_on_more; order = hash_any_order }
