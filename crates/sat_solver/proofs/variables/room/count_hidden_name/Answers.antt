use Rattle.std.proofs.lemmas.Grind.{common_steps}
use Rattle.std.proofs.Common.{arith}
use Rattle.sat_solver.proofs.lemmas.variables.Giving.{none_test}
use Rattle.sat_solver.proofs.lemmas.variables.RoomLemmas.{hidden_past, hidden_again, hidden_more, hidden_at, mentions_after}
use Rattle.sat_solver.proofs.variables.room.count_hidden_name.Goals as goal

pub returns-then-index-name_count : goal.returns-then-index-name_count
returns-then-index-name_count c = grind (arith, common_steps, hidden_past, hidden_at)

pub returns-then-has_name : goal.returns-then-has_name
returns-then-has_name c = grind (arith, common_steps, hidden_again, hidden_at, mentions_after)

pub returns : goal.returns
returns c = grind (arith, common_steps, none_test, hidden_more, hidden_at, mentions_after)
