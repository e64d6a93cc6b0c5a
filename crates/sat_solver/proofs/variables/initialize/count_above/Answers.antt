use Rattle.std.proofs.Common.{◌+◌, ◌≡◌, ◌<◌, ◌∷◌, ◌∙◌, drop, ap, sym, subst, arith}
use Rattle.std.specs.List.{AllByRecursion}
use Rattle.sat_solver.specs.declared.variables.solver_vars.Given.{Given}
use Rattle.sat_solver.proofs.lemmas.load.IndexLemmas.{drop_next}
use Rattle.sat_solver.proofs.variables.initialize.count_above.Goals as goal

pub loop-at-preserved : goal.loop-at-preserved
loop-at-preserved c =
    let i = c.loop-at.invariant in
    let g : Given = c.index-given-at.result in
    let e : drop c.loop-at.at c.args.given.now ≡ c.index-given-at.result ∷ drop (c.loop-at.at + 1) c.args.given.now = drop_next c.args.given.now c.loop-at.at g c.loop-at-test.true (sym c.index-given-at.is) in
    let its : c.index.result ≡ c.index-given-at.result.solver = c.index.ensures.value ∙ ap (λ (h : Given). h.solver) (sym c.index-given-at.is) in
    record {
      few = omega (arith, c.max-all.ensures, c.index.ensures.bound, i.few);
      more = omega (arith, c.max-all.ensures, i.more);
      least = λ m le h. (let k = i.least m le h in let a = subst (λ ks. AllByRecursion (λ k. k.solver < m) ks) e k.1 in (omega (arith, c.max-all.ensures, k.0, a.0, its), a.1));
      goes = λ n le h. i.goes n (omega (arith, c.max-all.ensures, le)) (subst (λ ks. AllByRecursion (λ k. k.solver < n) ks) (sym e) (omega (arith, c.max-all.ensures, le, its), h));
    }

pub returns-clause-least : goal.returns-clause-least
returns-clause-least c = λ m le h. (c.loop-at.invariant.least m le h).0
