use Rattle.std.proofs.Common.{List, ℕ, ◌++◌, ap, sym, ◌∙◌}
use Rattle.sat_base.proofs.lemmas.steps.NumberBytes.{three_or_four}
use Rattle.sat_base.proofs.steps.numbers.push_three_or_four.Goals as goal

pub returns-clause-waiting : goal.returns-clause-waiting
returns-clause-waiting g c =
    c.push_some.ensures.waiting
    ∙ ap (λ (z : List ℕ). g.P.Room.waiting c.args.pending.now ++ z) (sym (three_or_four c.args.number c.from-more.result c.requires.large c.requires.small c.from-more.ensures))
