use Rattle.std.proofs.Common.{◌≡◌, ◌∙◌, true, false, length, ap, arith, inl, inr}
use Rattle.std.proofs.lemmas.Bool.{cases_lt}
use Rattle.std.proofs.lemmas.List.{get_or-set_same}
use Rattle.sat_store.specs.heap.Vsids.{is_available, with_available}
use Rattle.sat_parts.proofs.lemmas.parts.ValueLemmas.{pick_set}
use Rattle.sat_parts_tests.proofs.loading.use_all.Goals as goal

pub loop-index-preserved : goal.loop-index-preserved
loop-index-preserved c =
    let i = c.loop-index.invariant in
    let u = c.make_available.ensures in
    let q = c.loop-index.parts.vsids in (
      u.holds,
      u.same.1.2 ∙ i.1,
      u.same.1.0 ∙ i.2,
      λ v lt. ap (λ x. is_available x v) u.queue ∙ elim (cases_lt v c.loop-index.index) [
        | inl less ↦ pick_set q c.from_index.result v (i.3 v less)
        | inr ge ↦
            let e : v ≡ c.from_index.result = omega (arith, c.from_index.ensures) in
            ap (λ x. is_available (with_available c.from_index.result true q) x) e
            ∙ get_or-set_same q.available c.from_index.result true false (omega (arith, i.0.below.queue, c.from_index.ensures, c.requires.size, ap (λ a. length a.current) i.2))
      ],
    )
