use Rattle.std.proofs.Common.{List, ℕ, ◌++◌, ap, sym, ◌∙◌}
use Rattle.sat_base.proofs.lemmas.steps.NumberBytes.{one_or_two}
use Rattle.sat_base.proofs.steps.numbers.push_one_or_two.Goals as goal

pub returns-clause-waiting : goal.returns-clause-waiting
returns-clause-waiting g c =
    c.push_some.ensures.waiting ∙ ap (λ (z : List ℕ). g.P.Room.waiting c.args.pending.now ++ z) (sym (one_or_two c.args.number c.from-more.result c.requires.small c.from-more.ensures))
