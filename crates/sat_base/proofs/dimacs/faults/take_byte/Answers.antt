use Rattle.std.proofs.Common.{None, Some}
use Rattle.sat_base.proofs.lemmas.dimacs.Feeding.{pushed}
use Rattle.sat_base.proofs.lemmas.dimacs.FaultsFound.{next_none, next_wrong, next_judged}
use Rattle.sat_base.proofs.dimacs.faults.take_byte.Goals as goal

pub returns-then-is_wrong : goal.returns-then-is_wrong
returns-then-is_wrong c text h =
    let e = c.in_default.ensures in
    let p = pushed c.args.tokenizer.now c.push.new.self c.args.byte None e.takes e.inside e.quiet e.ended e.right in
    next_wrong text c.args.byte _ _ h c.line.result p (c.is_wrong.ensures.wrong c.if-is_wrong.true) c.line.ensures

pub returns-in_default : goal.returns-in_default
returns-in_default c text h =
    let e = c.in_default.ensures in
    let p = pushed c.args.tokenizer.now c.push.new.self c.args.byte None e.takes e.inside e.quiet e.ended e.right in
    next_none text c.args.byte _ _ h p (c.is_wrong.ensures.right c.if-is_wrong.false)

pub returns : goal.returns
returns c text h =
    let e = c.in-Some.ensures in
    let p = pushed c.args.tokenizer.now c.push.new.self c.args.byte (Some c.in-Some.token) e.takes e.inside e.quiet e.ended e.right in
    next_judged text c.args.byte _ _ h c.in-Some.token p c.judge_token.result c.line-2.result c.judge_token.ensures c.line-2.ensures
