use Rattle.std.proofs.lemmas.Grind.{common_steps}
use Rattle.std.proofs.Common.{◌<◌, eqb, length, get_or, refl, arith}
use Rattle.sat_base.proofs.lemmas.text.SeveralBytes.{moves_signed}
use Rattle.sat_base.proofs.text.number_in.Goals as goal

pub returns-clause-moves : goal.returns-clause-moves
returns-clause-moves c = λ old w.
    let xs = c.args.bytes.now in
    let some : 0 < length c.args.bytes.now = grind (arith, common_steps) in
    moves_signed old (eqb (get_or xs 0 0) 45) c.from-sign.result c.in_ok-value.value c.in_ok-value.count xs w some refl (λ e. rw e at c.from-sign.ensures) (λ e. rw e at c.from-sign.ensures)
    (c.in_ok-value.ensures.plain old w) c.in_ok-value.ensures.negative
