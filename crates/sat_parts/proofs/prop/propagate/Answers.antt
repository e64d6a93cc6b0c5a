use Rattle.std.proofs.lemmas.Grind.{common_steps}
use Rattle.std.proofs.Common.{arith}
use Rattle.std.proofs.Common.{◌+◌}
use Rattle.std.proofs.lemmas.Result.{IfOk-weaker}
use Rattle.sat_parts.specs.prop.State.{current_level}
use Rattle.sat_parts.specs.prop.Ready.{state_of}
use Rattle.sat_parts.proofs.lemmas.prop.AsksLemmas.{ready_from, watched_now, gives_from}
use Rattle.sat_parts.proofs.lemmas.clause.HeldLemmas.{held_reordered}
use Rattle.sat_parts.proofs.prop.propagate.Goals as goal

pub propagate_queue-requires : goal.propagate_queue-requires
propagate_queue-requires c =
    ready_from c.args.clauses.now c.args.db.now.refs c.args.watchlists.now c.enable_watchlists.new.watchlists c.args.binary.now.implied (state_of c.args.assignment.now c.args.graph.now c.args.trail.now)
    (current_level (state_of c.args.assignment.now c.args.graph.now c.args.trail.now) + 1) c.requires
    (watched_now c.args.clauses.now c.args.db.now.refs c.args.watchlists.now c.enable_watchlists.new.watchlists c.args.binary.now.implied (state_of c.args.assignment.now c.args.graph.now c.args.trail.now)
    (current_level (state_of c.args.assignment.now c.args.graph.now c.args.trail.now) + 1) c.requires
    (λ on. c.in_ok-enable_watchlists.ensures.kept on) (λ off. c.in_ok-enable_watchlists.ensures.built off))

pub returns-clause-given : goal.returns-clause-given
returns-clause-given c =
    IfOk-weaker _ _ _
    (λ r h. gives_from c.args.db.now.refs c.args.binary.now.implied c.args.clauses.now (state_of c.args.assignment.now c.args.graph.now c.args.trail.now)
    c.propagate_queue.new.clauses (state_of c.propagate_queue.new.assignment c.propagate_queue.new.graph c.propagate_queue.new.trail) c.propagate_queue.new.watchlists r c.requires.holds_clauses h)
    c.propagate_queue.ensures.propagated

pub returns-clause-held : goal.returns-clause-held
returns-clause-held c = grind (arith, common_steps, held_reordered)
