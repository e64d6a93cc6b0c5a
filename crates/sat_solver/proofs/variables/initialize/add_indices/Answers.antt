use Rattle.std.proofs.lemmas.Grind.{common_steps}
use Rattle.std.proofs.Common.{◌+◌, ◌≡◌, ◌∷◌, ◌∙◌, List, drop, length, sym, subst, arith}
use Rattle.sat_solver.specs.declared.variables.solver_vars.Given.{Given}
use Rattle.sat_solver.specs.variables.Initialized.{AreVacant, IsVacant, ActivatesIndices}
use Rattle.std.specs.List.{AllByRecursion}
use Rattle.sat_solver.proofs.lemmas.load.IndexLemmas.{takes_none, takes_cons, vacant_on, drop_next, drop_end}
use Rattle.sat_solver.proofs.variables.initialize.add_indices.Goals as goal

pub loop-at-preserved : goal.loop-at-preserved
loop-at-preserved c =
    let i = c.loop-at.invariant in
    let p = c.loop-at.parts in
    let q = c.initialize_var.new.parts in
    let x = c.initialize_var.ensures in
    let g : Given = c.index-given-at.result in
    let rest : List Given = drop (c.loop-at.at + 1) c.args.given.now in
    let e : drop c.loop-at.at c.args.given.now ≡ c.index-given-at.result ∷ drop (c.loop-at.at + 1) c.args.given.now = drop_next c.args.given.now c.loop-at.at c.index-given-at.result c.loop-at-test.true (sym c.index-given-at.is) in
    let left : AreVacant c.loop-at.parts (length c.loop-at.parts.assignment.current) (c.index-given-at.result ∷ drop (c.loop-at.at + 1) c.args.given.now) = subst (λ gs. AreVacant c.loop-at.parts (length c.loop-at.parts.assignment.current) gs) e i.left in
    record {
      holds = x.holds;
      bottom = x.bottom;
      size = x.size ∙ i.size;
      left = record {
        each = subst (λ n. AllByRecursion (IsVacant c.initialize_var.new.parts n) (drop (c.loop-at.at + 1) c.args.given.now)) (sym x.size) (vacant_on g rest p q (length c.loop-at.parts.assignment.current) left.apart.0 x left.each.1);
        apart = left.apart.1;
      };
      goes = λ r h. i.goes r (subst (λ gs. ActivatesIndices gs c.loop-at.parts r) (sym e) (takes_cons g rest p q r left.apart.0 x h));
    }

pub returns : goal.returns
returns c = grind (arith, common_steps, takes_none, drop_end)
