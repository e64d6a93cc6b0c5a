use Rattle.sat_parts.specs.prop.Ready.{state_of}
use Rattle.sat_parts.proofs.lemmas.prop.QueueLemmas.{next_agrees, next_left, next_top}
use Rattle.sat_parts_tests.proofs.alone.over_binary.Goals as goal

pub propagate_binary-requires-clause-agrees : goal.propagate_binary-requires-clause-agrees
propagate_binary-requires-clause-agrees c =
    let s = state_of c.args.parts.now.assignment c.args.parts.now.graph c.args.parts.now.trail in
    rw c.in-Some.ensures.next.1 (next_agrees s c.in-Some.lit c.requires.propagation.agrees c.in-Some.ensures.next.0)

pub propagate_binary-requires-clause-left : goal.propagate_binary-requires-clause-left
propagate_binary-requires-clause-left c =
    let s = state_of c.args.parts.now.assignment c.args.parts.now.graph c.args.parts.now.trail in
    rw c.in-Some.ensures.next.1 (next_left s c.in-Some.lit c.in-Some.ensures.next.0)

pub propagate_binary-requires-clause-top : goal.propagate_binary-requires-clause-top
propagate_binary-requires-clause-top c =
    let s = state_of c.args.parts.now.assignment c.args.parts.now.graph c.args.parts.now.trail in
    rw c.in-Some.ensures.next.1 (next_top s c.in-Some.lit c.requires.propagation.queue c.in-Some.ensures.next.0)
