use Rattle.std.proofs.Common.{ℕ, ◌<◌, get_or}
use Rattle.sat_parts.specs.clause.Db.{live_refs}
use Rattle.sat_parts_tests.specs.Firsts.{HasFirst}
use Rattle.sat_parts_tests.proofs.collection.reasons_hold.Given as goal

abbrev pub invariant-loop-at : goal.invariant-loop-at
invariant-loop-at l = (i : ℕ) → i < l.at → HasFirst l.clauses (live_refs l.clauses l.db.refs) l.graph (get_or l.lits i 0)
