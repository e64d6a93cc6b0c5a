use Rattle.std.proofs.Common.{◌∙◌, [], ◌∷◌, arith}
use Rattle.sat_parts_tests.proofs.ListLemmas.{contains_at}
use Rattle.sat_parts_tests.proofs.lists.move_four.Goals as goal

pub set_clause_tier-requires-3-clause-live : goal.set_clause_tier-requires-3-clause-live
set_clause_tier-requires-3-clause-live c =
    contains_at _ (0 ∷ 6 ∷ 12 ∷ 18 ∷ []) 2 c.args.third (c.set_clause_tier-2.ensures.live ∙ c.set_clause_tier.ensures.live ∙ c.requires.live) c.requires.places.2 (omega arith)

pub set_clause_tier-requires-4-clause-live : goal.set_clause_tier-requires-4-clause-live
set_clause_tier-requires-4-clause-live c =
    contains_at _ (0 ∷ 6 ∷ 12 ∷ 18 ∷ []) 3 c.args.fourth (c.set_clause_tier-3.ensures.live ∙ c.set_clause_tier-2.ensures.live ∙ c.set_clause_tier.ensures.live ∙ c.requires.live) c.requires.places.3
    (omega arith)
