use Rattle.std.proofs.Common.{rules, length, ◌∙◌, Some, None}
use Rattle.sat_parts.specs.prop.Binaries.{implied_by}
use Rattle.sat_parts.specs.prop.Ready.{state_of}
use Rattle.sat_parts.proofs.lemmas.prop.ReasonLemmas.{moves_refl}
use Rattle.sat_parts.proofs.lemmas.prop.QueueLemmas.{next_agrees, next_left, next_top, next_long, next_stops_binary, next_goes_on, next_stops_long, next_moves_binary, next_moves, next_smaller, binary_names, complete}
use Rattle.sat_parts.proofs.prop.queue.propagate_queue.Goals as goal

pub queue-init : goal.queue-init
queue-init g c = record {
  ready = c.requires;
  moves = moves_refl g.live c.args.binary.now.implied c.args.clauses.now (state_of c.args.assignment.now c.args.graph.now c.args.trail.now);
  last = search rules;
  enabled = search rules;
}

pub propagate_binary-requires-clause-agrees : goal.propagate_binary-requires-clause-agrees
propagate_binary-requires-clause-agrees g c =
    rw c.in-Some.ensures.next.1 (next_agrees (state_of c.queue.assignment c.queue.graph c.queue.trail) c.in-Some.lit c.queue.invariant.ready.long.agrees c.in-Some.ensures.next.0)

pub propagate_binary-requires-clause-left : goal.propagate_binary-requires-clause-left
propagate_binary-requires-clause-left g c =
    rw c.in-Some.ensures.next.1 (next_left (state_of c.queue.assignment c.queue.graph c.queue.trail) c.in-Some.lit c.in-Some.ensures.next.0)

pub propagate_binary-requires-clause-top : goal.propagate_binary-requires-clause-top
propagate_binary-requires-clause-top g c =
    rw c.in-Some.ensures.next.1 (next_top (state_of c.queue.assignment c.queue.graph c.queue.trail) c.in-Some.lit c.queue.invariant.ready.long.queue c.in-Some.ensures.next.0)

pub returns-in-Err-clause-propagated : goal.returns-in-Err-clause-propagated
returns-in-Err-clause-propagated g c =
    let v = rw (c.in-Err.is, c.in-Some.ensures.next.1) at c.in_ok-over_binary.ensures.walked in
    record {
      moves = next_moves_binary g.live c.args.binary.now.implied c.args.clauses.now (state_of c.args.assignment.now c.args.graph.now c.args.trail.now) c.queue.clauses (state_of c.queue.assignment c.queue.graph c.queue.trail)
          (state_of c.propagate_binary.new.assignment c.propagate_binary.new.graph c.propagate_binary.new.trail) c.in-Some.lit 0 c.queue.invariant.moves v.0;
      outcome = (
        next_stops_binary c.queue.clauses g.live c.queue.watchlists.lists c.args.binary.now.implied (state_of c.queue.assignment c.queue.graph c.queue.trail)
            (state_of c.propagate_binary.new.assignment c.propagate_binary.new.graph c.propagate_binary.new.trail) c.in-Some.lit c.queue.invariant.ready c.in-Some.ensures.next.0 v.0,
        binary_names c.queue.clauses g.live c.args.binary.now.implied c.propagate_binary.new.assignment.current c.in-Err.conflict v.1,
      );
    }

pub propagate_long-requires : goal.propagate_long-requires
propagate_long-requires g c =
    let v = rw (c.in-Ok.is, c.in-Some.ensures.next.1) at c.in_ok-over_binary.ensures.walked in (
      next_long c.queue.clauses g.live c.queue.watchlists.lists c.args.binary.now.implied (state_of c.queue.assignment c.queue.graph c.queue.trail)
          (state_of c.propagate_binary.new.assignment c.propagate_binary.new.graph c.propagate_binary.new.trail) c.in-Some.lit c.queue.invariant.ready c.in-Some.ensures.next.0 v,
      (v.left, v.top),
    )

pub returns-in-Err-over_long-clause-propagated : goal.returns-in-Err-over_long-clause-propagated
returns-in-Err-over_long-clause-propagated g c =
    let v = rw (c.in-Ok.is, c.in-Some.ensures.next.1) at c.in_ok-over_binary.ensures.walked in
    let x = rw c.in-Err-over_long.is at c.in_ok-over_long.ensures.walked in
    record {
      moves = next_moves g.live c.args.binary.now.implied c.args.clauses.now (state_of c.args.assignment.now c.args.graph.now c.args.trail.now) c.queue.clauses c.propagate_long.new.clauses (state_of c.queue.assignment c.queue.graph c.queue.trail)
          (state_of c.propagate_binary.new.assignment c.propagate_binary.new.graph c.propagate_binary.new.trail) (state_of c.propagate_long.new.assignment c.propagate_long.new.graph c.propagate_long.new.trail)
          c.propagate_long.new.watchlists.lists (Some x.0) c.in-Some.lit (length (implied_by c.args.binary.now.implied c.in-Some.lit)) c.queue.invariant.moves v x.1.1;
      outcome = (
        next_stops_long c.queue.clauses c.propagate_long.new.clauses g.live c.queue.watchlists.lists c.propagate_long.new.watchlists.lists c.args.binary.now.implied (state_of c.queue.assignment c.queue.graph c.queue.trail)
            (state_of c.propagate_binary.new.assignment c.propagate_binary.new.graph c.propagate_binary.new.trail) (state_of c.propagate_long.new.assignment c.propagate_long.new.graph c.propagate_long.new.trail)
            c.in-Some.lit x.0 c.queue.invariant.ready c.in-Some.ensures.next.0 v x.1.1,
        rw x.1.0 x.1.1.conflict,
      );
    }

pub queue-smaller : goal.queue-smaller
queue-smaller g c =
    let v = rw (c.in-Ok.is, c.in-Some.ensures.next.1) at c.in_ok-over_binary.ensures.walked in
    let x = rw c.in-Ok-over_long.is at c.in_ok-over_long.ensures.walked in
    next_smaller g.live c.queue.clauses c.args.binary.now.implied (state_of c.queue.assignment c.queue.graph c.queue.trail)
    (state_of c.propagate_binary.new.assignment c.propagate_binary.new.graph c.propagate_binary.new.trail) (state_of c.propagate_long.new.assignment c.propagate_long.new.graph c.propagate_long.new.trail)
    c.propagate_long.new.clauses c.propagate_long.new.watchlists.lists c.in-Some.lit (length (implied_by c.args.binary.now.implied c.in-Some.lit)) c.queue.invariant.ready.long.agrees c.in-Some.ensures.next.0 v x

pub queue-preserved : goal.queue-preserved
queue-preserved g c =
    let v = rw (c.in-Ok.is, c.in-Some.ensures.next.1) at c.in_ok-over_binary.ensures.walked in
    let x = rw c.in-Ok-over_long.is at c.in_ok-over_long.ensures.walked in
    record {
      ready = next_goes_on c.queue.clauses c.propagate_long.new.clauses g.live c.queue.watchlists.lists c.propagate_long.new.watchlists.lists c.args.binary.now.implied (state_of c.queue.assignment c.queue.graph c.queue.trail)
          (state_of c.propagate_binary.new.assignment c.propagate_binary.new.graph c.propagate_binary.new.trail) (state_of c.propagate_long.new.assignment c.propagate_long.new.graph c.propagate_long.new.trail)
          c.in-Some.lit c.queue.invariant.ready c.in-Some.ensures.next.0 v x;
      moves = next_moves g.live c.args.binary.now.implied c.args.clauses.now (state_of c.args.assignment.now c.args.graph.now c.args.trail.now) c.queue.clauses c.propagate_long.new.clauses (state_of c.queue.assignment c.queue.graph c.queue.trail)
          (state_of c.propagate_binary.new.assignment c.propagate_binary.new.graph c.propagate_binary.new.trail) (state_of c.propagate_long.new.assignment c.propagate_long.new.graph c.propagate_long.new.trail)
          c.propagate_long.new.watchlists.lists None c.in-Some.lit (length (implied_by c.args.binary.now.implied c.in-Some.lit)) c.queue.invariant.moves v x;
      last = c.in_ok-over_long.ensures.last ∙ c.in_ok-over_binary.ensures.last ∙ c.queue.invariant.last;
      enabled = c.in_ok-over_long.ensures.enabled ∙ c.queue.invariant.enabled;
    }

pub returns-clause-propagated : goal.returns-clause-propagated
returns-clause-propagated g c =
    rw c.in_default.ensures.none.1 (record {
      moves = c.queue.invariant.moves;
      outcome = (
        c.queue.invariant.ready,
        c.in_default.ensures.none.0,
        complete c.queue.clauses g.live c.queue.watchlists.lists c.args.binary.now.implied (state_of c.queue.assignment c.queue.graph c.queue.trail) c.queue.invariant.ready c.in_default.ensures.none.0,
      );
    })
