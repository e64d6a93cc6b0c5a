use Rattle.certify.specs.confirm.SpeltLiterals.{AllAmong}
use Rattle.certify.proofs.lemmas.confirm.LiteralSets.{both_so, first_not}
use Rattle.certify.proofs.confirm.literals.are_same_short.Goals as goal

pub returns-then-not-are_all_in : goal.returns-then-not-are_all_in
returns-then-not-are_all_in c = λ both. first_not (AllAmong c.args.xs.now c.args.ys.now) (AllAmong c.args.ys.now c.args.xs.now) c.are_all_in.result c.if-not-are_all_in.true c.are_all_in.ensures both

pub returns : goal.returns
returns c = both_so (AllAmong c.args.xs.now c.args.ys.now) (AllAmong c.args.ys.now c.args.xs.now) c.are_all_in.result c.are_all_in-2.result c.if-not-are_all_in.false c.are_all_in.ensures c.are_all_in-2.ensures
