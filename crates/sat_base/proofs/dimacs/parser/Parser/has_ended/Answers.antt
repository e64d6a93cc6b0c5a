use Rattle.sat_base.proofs.lemmas.dimacs.Feeding.{says_ended}
use Rattle.sat_base.proofs.dimacs.parser.Parser.has_ended.Goals as goal

pub returns : goal.returns
returns c =
    let p = c.args.self.now in
    let g = c.requires.goes c.if-self.false in
    says_ended p g c.if-self.false c.is_over.result (λ e. c.is_over.ensures.over e g.left_of g.valid) (λ e. c.is_over.ensures.goes_on e g.left_of g.valid)
