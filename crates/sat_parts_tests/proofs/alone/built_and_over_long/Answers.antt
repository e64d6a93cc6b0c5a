use Rattle.std.proofs.Common.{◌+◌}
use Rattle.sat_parts.specs.prop.State.{current_level}
use Rattle.sat_parts.specs.prop.Ready.{state_of}
use Rattle.sat_parts.proofs.lemmas.prop.AsksLemmas.{ready_from, watched_now}
use Rattle.sat_parts_tests.proofs.alone.built_and_over_long.Goals as goal

pub over_long-requires : goal.over_long-requires
over_long-requires c =
    let s = state_of c.args.parts.now.assignment c.args.parts.now.graph c.args.parts.now.trail in
    let h = c.requires.propagation in
    (ready_from c.args.parts.now.clauses c.args.parts.now.db.refs c.args.parts.now.watchlists c.enable_watchlists.new.watchlists c.args.parts.now.binary.implied s (current_level s + 1) h
    (watched_now c.args.parts.now.clauses c.args.parts.now.db.refs c.args.parts.now.watchlists c.enable_watchlists.new.watchlists c.args.parts.now.binary.implied s (current_level s + 1) h
    (λ on. c.in_ok-enable_watchlists.ensures.kept on) (λ off. c.in_ok-enable_watchlists.ensures.built off))).long
