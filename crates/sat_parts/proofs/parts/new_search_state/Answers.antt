use Rattle.std.proofs.Common.{rules}
use Rattle.sat_parts.proofs.parts.new_search_state.Goals as goal

pub returns-clause-holds : goal.returns-clause-holds
returns-clause-holds c = record { below = search rules; units = search rules; base = search rules }
