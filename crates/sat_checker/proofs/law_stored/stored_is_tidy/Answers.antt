use Rattle.sat_checker.proofs.lemmas.invariants.Pending.{pending_changes_nothing}
use Rattle.sat_checker.proofs.lemmas.invariants.Stored.{always_tidy, unsat_stays, all_clauses_hold}
use Rattle.sat_checker.proofs.law_stored.stored_is_tidy.Goals as goal

pub returns : goal.returns
returns c = record { tidy = always_tidy; unsat = unsat_stays; pending = pending_changes_nothing; clauses = all_clauses_hold }
