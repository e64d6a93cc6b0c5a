use Rattle.sat_parts.specs.prop.Ready.{state_of}
use Rattle.sat_parts.proofs.lemmas.prop.QueueLemmas.{next_there, next_left, next_top, long_popped}
use Rattle.sat_parts_tests.proofs.alone.over_long.Goals as goal

pub propagate_long-requires : goal.propagate_long-requires
propagate_long-requires g c =
    let s = state_of c.args.parts.now.assignment c.args.parts.now.graph c.args.parts.now.trail in
    let e = next_there s c.in-Some.lit c.in-Some.ensures.next.0 in
    rw c.in-Some.ensures.next.1 (
      long_popped c.args.parts.now.clauses g.live c.args.parts.now.watchlists.lists s c.in-Some.lit c.requires e.0 e.1,
      (next_left s c.in-Some.lit c.in-Some.ensures.next.0, next_top s c.in-Some.lit c.requires.queue c.in-Some.ensures.next.0),
    )
