use Rattle.std.proofs.Common.{sym, subst, ◌∙◌, ap}
use Rattle.sat_checker.specs.LiteralSets.{is_among}
use Rattle.sat_checker.specs.inner.Marks.{IsIncreasing}
use Rattle.sat_checker.proofs.lemmas.sets.Searching.{found_among_sorted}
use Rattle.sat_checker.proofs.state.lit_set.LitSet.has.Goals as goal

pub returns : goal.returns
returns c =
    c.is_ok.ensures.value
    ∙ found_among_sorted c.deref.result.now c.args.lit c.binary_search.result (subst IsIncreasing (sym c.deref.ensures.value) c.self.invariant) c.binary_search.ensures.position
    ∙ ap (λ xs. is_among xs c.args.lit) (c.deref.ensures.value ∙ c.self.view_is)
