use Rattle.sat_parts.proofs.lemmas.prop.BacktrackLemmas.{asks_after, turns_after, keeps_low}
use Rattle.std.proofs.Common.{◌<◌, length, arith}
use Rattle.sat_parts.proofs.prop.trail.backtrack.Goals as goal

pub returns-clause-preserves : goal.returns-clause-preserves
returns-clause-preserves c = λ lt words refs w implied nodes top below h.
    rw (c.undo_levels.ensures.values, c.undo_levels.ensures.trail)
    (asks_after words refs w implied c.args.level c.args.assignment.now nodes c.args.trail.now top h lt below)

pub returns-clause-turns : goal.returns-clause-turns
returns-clause-turns c = λ lt words live implied nodes from h x.
    rw (c.undo_levels.ensures.values, c.undo_levels.ensures.trail)
    (turns_after words live implied c.args.level c.args.assignment.now nodes c.args.trail.now from h lt x)

pub returns-clause-kept : goal.returns-clause-kept
returns-clause-kept c = λ nodes h.
    let lt : c.args.level < length c.args.trail.now.starts = omega (arith, c.current_level.ensures.level, c.if-level-current_level.false) in
    rw (c.undo_levels.ensures.values, c.undo_levels.ensures.trail)
    (keeps_low c.args.level c.args.assignment.now nodes c.args.trail.now h lt)
