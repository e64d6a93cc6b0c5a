use Rattle.std.proofs.Common.{rules, ℕ, List, ◌≡◌, ◌==◌, ◌∙◌, length, ap}
use Rattle.std.proofs.lemmas.List.Elements.{filter_from_retain}
use Rattle.sat_store.specs.clause.Buffer.{lits_at}
use Rattle.sat_parts_tests.proofs.passes.keep_short.Goals as goal

pub returns-clause-short : goal.returns-clause-short
returns-clause-short c =
    filter_from_retain _ (λ o. length (lits_at c.args.clauses.now o) == 3)
    (λ p o b q h.
    let e : b ≡ (length (lits_at h.shown.now o) == 3) = search (rules, h.called) in
    e ∙ ap (λ (ls : List ℕ). length ls == 3) h.same.lits)
    _ _ _ c.filter_clauses.ensures.filtered
