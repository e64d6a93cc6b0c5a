use Rattle.std.proofs.Common.{ℕ, ◌^◌, [], ◌∷◌, sym, ap, ◌∙◌, subst}
use Rattle.std.specs.Fn.{iterate}
use Rattle.sat_store.specs.heap.Rows.{HasActivitiesAndBump, four_bumped}
use Rattle.sat_store.specs.heap.Vsids.{Queue, bumped, decayed}
use Rattle.sat_store_tests.proofs.scales.bump_past_the_limit.Goals as goal

pub returns-clause-has : goal.returns-clause-has
returns-clause-has c =
    let decays = c.decay_times.ensures.queue ∙ ap (iterate decayed 39) c.requires in
    let first = c.bump.ensures.queue ∙ ap (bumped c.from_index-last.result) decays in
    let second = c.bump-2.ensures.queue ∙ ap (bumped c.from_index-last.result) first in
    let law = subst (λ (v : ℕ). HasActivitiesAndBump (0 ∷ 0 ∷ 0 ∷ 2 ^ 20 ∷ []) (2 ^ 19) (iterate (bumped v) 2 (iterate decayed 39 four_bumped))) (sym c.from_index-last.ensures) c.rows_of_smaller_scales.ensures.bump in
    subst (λ (q : Queue). HasActivitiesAndBump (0 ∷ 0 ∷ 0 ∷ 2 ^ 20 ∷ []) (2 ^ 19) q) (sym second) law
