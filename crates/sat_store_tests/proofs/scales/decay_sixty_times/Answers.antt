use Rattle.std.proofs.Common.{◌^◌, [], ◌∷◌, sym, ap, ◌∙◌, subst}
use Rattle.std.specs.Fn.{iterate}
use Rattle.sat_store.specs.heap.Rows.{HasActivitiesAndBump}
use Rattle.sat_store.specs.heap.Vsids.{Queue, decayed}
use Rattle.sat_store_tests.proofs.scales.decay_sixty_times.Goals as goal

pub returns-clause-has : goal.returns-clause-has
returns-clause-has c = subst (λ (q : Queue). HasActivitiesAndBump (0 ∷ 0 ∷ 0 ∷ 0 ∷ []) (2 ^ 40) q) (sym (c.decay_times.ensures.queue ∙ ap (iterate decayed 60) c.requires)) c.rows_of_smaller_scales.ensures.decays
