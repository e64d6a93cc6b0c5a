use Rattle.std.proofs.Common.{arith}
use Rattle.std.proofs.lemmas.Grind.{common_steps}
use Rattle.std.proofs.Common.{◌<◌, subst}
use Rattle.certify.proofs.lemmas.answers.LiteralsInOrder.{one_so_far, starts_neither, starts_out_of_order}
use Rattle.certify.proofs.answers.read.begins_literals.Goals as goal

pub returns-then-place-lowest : goal.returns-then-place-lowest
returns-then-place-lowest c = λ no.
    starts_out_of_order c.args.kind c.args.bytes.now c.loop-found.rest.now c.in-Some.found.1.now c.in-Some.found.0 c.loop-found.lowest c.requires c.loop-found.invariant c.in-Some.ensures.0 c.in-Some.ensures.1
    (subst (λ p. p < c.loop-found.lowest) c.literal_sort_key-place.ensures.value c.if-place-lowest.true)

pub loop-found-preserved : goal.loop-found-preserved
loop-found-preserved c = grind (arith, common_steps, one_so_far)

pub returns : goal.returns
returns c = λ no. starts_neither c.args.kind c.args.bytes.now c.loop-found.rest.now c.loop-found.lowest c.requires c.loop-found.invariant (c.begins_literal.ensures no) (c.is_prefix.ensures c.if-is_prefix.false)
