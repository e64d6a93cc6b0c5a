use Rattle.std.proofs.Common.{◌+◌, ◌≡◌, ◌<◌, ◌∷◌, ◌∙◌, List, drop, length, get_or, ap, sym, subst}
use Rattle.std.proofs.lemmas.List.{get_or_read}
use Rattle.std.specs.List.{AllByRecursion}
use Rattle.sat_solver.specs.declared.variables.solver_vars.Given.{Given}
use Rattle.sat_solver.specs.variables.Search.{IndicesDistinct}
use Rattle.sat_solver.specs.variables.Initialized.{SetsVariablesOfIndices}
use Rattle.sat_solver.proofs.lemmas.load.IndexLemmas.{renames_cons, drop_next, set_size}
use Rattle.sat_solver.proofs.variables.initialize.copy_globals.Goals as goal

pub loop-at-preserved : goal.loop-at-preserved
loop-at-preserved c =
    let i = c.loop-at.invariant in
    let g : Given = c.index-given-at.result in
    let gs : List Given = c.args.given.now in
    let xs = c.loop-at.list.items in
    let rest : List Given = drop (c.loop-at.at + 1) c.args.given.now in
    let e : drop c.loop-at.at c.args.given.now ≡ c.index-given-at.result ∷ drop (c.loop-at.at + 1) c.args.given.now = drop_next gs c.loop-at.at g c.loop-at-test.true (sym c.index-given-at.is) in
    let below : AllByRecursion (λ h. h.solver < length c.args.globals.now) (c.index-given-at.result ∷ drop (c.loop-at.at + 1) c.args.given.now) = subst (λ ks. AllByRecursion (λ h. h.solver < length c.args.globals.now) ks) e i.below in
    let there : AllByRecursion (λ h. h.solver < length c.loop-at.list.items) (c.index-given-at.result ∷ drop (c.loop-at.at + 1) c.args.given.now) = subst (λ ks. AllByRecursion (λ h. h.solver < length c.loop-at.list.items) ks) e i.there in
    let apart : IndicesDistinct (c.index-given-at.result ∷ drop (c.loop-at.at + 1) c.args.given.now) = subst (λ ks. IndicesDistinct ks) e i.apart in
    let at : c.index-index.result ≡ c.index-given-at.result.solver = c.index-index.ensures.value ∙ ap (λ (h : Given). h.solver) (sym c.index-given-at.is) in
    let lt : c.index-index.result < length c.args.globals.now = subst (λ v. v < length c.args.globals.now) (sym at) below.0 in
    let val : c.index-globals-index.result ≡ get_or c.args.globals.now c.index-given-at.result.solver 0 =
    get_or_read c.args.globals.now c.index-index.result c.index-globals-index.result lt c.index-globals-index.is 0 ∙ ap (λ v. get_or c.args.globals.now v 0) at in
    record {
      there = subst (λ n. AllByRecursion (λ h. h.solver < n) (drop (c.loop-at.at + 1) c.args.given.now)) (sym (set_size xs c.index-index.result c.index-globals-index.result)) there.1;
      below = below.1;
      apart = apart.1;
      goes = λ ys h. i.goes ys (subst (λ ks. SetsVariablesOfIndices ks c.args.globals.now c.loop-at.list.items ys) (sym e) (renames_cons g rest c.args.globals.now xs ys there.0 apart.0 (rw (val, at) at h)));
    }
