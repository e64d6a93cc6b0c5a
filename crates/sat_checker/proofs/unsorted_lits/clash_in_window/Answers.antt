use Rattle.std.proofs.Common.{◌≡◌, ◌∙◌, ◌-◌, ap, sym, arith}
use Rattle.sat_base.specs.values.Literals.{negated}
use Rattle.sat_checker.specs.inner.Clashes.{key_of}
use Rattle.sat_checker.proofs.lemmas.sets.Clashes.{found_clash}
use Rattle.sat_checker.proofs.unsorted_lits.clash_in_window.Goals as goal

pub returns-then-is_marked-clause-found : goal.returns-then-is_marked-clause-found
returns-then-is_marked-clause-found c = λ _.
    let key = c.key_of-opposite.result in
    let is_key : key ≡ key_of c.args.repeats (negated c.index-literals-index.result) = c.key_of-opposite.ensures.key ∙ ap (key_of c.args.repeats) c.not.ensures in
    found_clash c.args.repeats c.args.literals.now (c.loop-index.index - 1) c.loop-index.index c.index-literals-index.result key (omega arith) (omega arith) c.index-literals-index.is is_key
    (sym (c.loop-index.invariant.marked.each key (omega arith) (omega arith)) ∙ sym c.is_marked.ensures ∙ c.if-is_marked.true)
