use Rattle.std.proofs.Common.{length-set, [], arith}
use Rattle.sat_parts.specs.prop.Ready.{state_of}
use Rattle.sat_parts.proofs.lemmas.prop.Walking.{walk_open, left_below}
use Rattle.sat_parts.proofs.prop.long.propagate_long.Goals as goal

pub propagate_list-requires : goal.propagate_list-requires
propagate_list-requires g c =
    rw (c.take_list-list.ensures.rest, c.take_list-list.ensures.list)
    (walk_open g.live c.args.clauses.now (state_of c.args.assignment.now c.args.graph.now c.args.trail.now) c.args.watchlists.now.lists c.args.lit
    c.requires.0 c.requires.1.0 c.requires.1.1
    (left_below (state_of c.args.assignment.now c.args.graph.now c.args.trail.now) c.args.lit c.requires.0.agrees c.requires.1.0)).half

pub put_list-requires : goal.put_list-requires
put_list-requires g c =
    let w = c.in_ok-found.ensures.walked in
    omega (
      arith,
      w.ready.watches.room,
      (w.moves []).grows.size,
      length-set c.propagate_list.new.watchlists.lists c.args.lit c.propagate_list.new.list,
      left_below (state_of c.args.assignment.now c.args.graph.now c.args.trail.now) c.args.lit c.requires.0.agrees c.requires.1.0,
    )
