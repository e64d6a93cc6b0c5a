use Rattle.std.proofs.Common.{ap, ◌∙◌, List, ℕ, [], ◌∷◌, arith}
use Rattle.sat_parts.specs.clause.Db.{without_ref}
use Rattle.sat_parts_tests.proofs.ListLemmas.{contains_at}
use Rattle.sat_parts_tests.proofs.lists.delete_two.Goals as goal

pub delete_clause-requires-2-clause-live : goal.delete_clause-requires-2-clause-live
delete_clause-requires-2-clause-live c =
    contains_at _ (6 ∷ 12 ∷ 18 ∷ []) 1 c.args.third
    (c.delete_clause.ensures.deleted.live
    ∙ ap (λ (xs : List ℕ). without_ref c.args.first xs) c.requires.live
    ∙ ap (λ (o : ℕ). without_ref o (0 ∷ 6 ∷ 12 ∷ 18 ∷ [])) c.requires.places.0)
    c.requires.places.1 (omega arith)
