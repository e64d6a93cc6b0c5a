use Rattle.std.proofs.Common.{length}
use Rattle.sat_parts.specs.clause.Db.{live_refs}
use Rattle.sat_parts.specs.prop.Ready.{state_of}
use Rattle.sat_solver.proofs.lemmas.analyze_conflict.Callers.{can_analyze, conflict_top}
use Rattle.sat_solver.proofs.lemmas.analyze_conflict.Resolutions.{live_ok}
use Rattle.sat_solver.proofs.analyze_conflict.learn.learn_from_conflict.Goals as goal

pub analyze_conflict-requires-clause-can : goal.analyze_conflict-requires-clause-can
analyze_conflict-requires-clause-can c =
    can_analyze c.args.clauses.now (live_refs c.args.clauses.now c.args.db.now.refs) c.args.binary.now.implied (state_of c.args.assignment.now c.args.graph.now c.args.trail.now) (length c.args.assignment.now.current)
    c.requires.asks.agrees c.requires.levelled c.requires.above c.requires.asks.clauses c.requires.turns

pub analyze_conflict-requires-clause-top : goal.analyze_conflict-requires-clause-top
analyze_conflict-requires-clause-top c =
    conflict_top c.args.clauses.now c.args.db.now.refs c.args.watchlists.now c.args.binary.now.implied (state_of c.args.assignment.now c.args.graph.now c.args.trail.now) c.args.conflict.now c.requires.asks c.requires.conflict

pub returns-clause-live : goal.returns-clause-live
returns-clause-live c =
    live_ok c.args.clauses.now (live_refs c.args.clauses.now c.args.db.now.refs) c.args.binary.now.implied (state_of c.args.assignment.now c.args.graph.now c.args.trail.now) c.args.conflict.now c.analyze_conflict.new.analysis c.analyze_conflict.result
    c.requires.asks.agrees c.requires.above c.requires.turns c.requires.conflict c.analyze_conflict.ensures.learns c.analyze_conflict.ensures.resolution
