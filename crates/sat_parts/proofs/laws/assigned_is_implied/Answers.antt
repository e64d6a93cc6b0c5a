use Rattle.sat_parts.proofs.lemmas.prop.ImpliedLemmas.{assigned_is_implied}
use Rattle.sat_parts.proofs.laws.assigned_is_implied.Goals as goal

pub returns : goal.returns
returns c = assigned_is_implied
