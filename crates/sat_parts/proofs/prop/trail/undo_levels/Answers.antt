use Rattle.std.proofs.Common.{ℕ, ◌≡◌, ◌<◌, ◌≤◌, List, take, get_or, length, ap, arith}
use Rattle.std.proofs.lemmas.List.{get_or_read, get_or-take, length-take-le}
use Rattle.sat_parts.specs.prop.Trails.{TrailState, trail_state, IsTrail}
use Rattle.sat_parts.proofs.prop.trail.undo_levels.Goals as goal

-- the trail without the levels from this one on
cut_trail : (lits starts : List ℕ) (head cleared room level start : ℕ) → IsTrail (trail_state lits head starts cleared room) → level < length starts → start ≡ get_or starts level 0 → IsTrail (trail_state (take start lits) start (take level starts) cleared room)
cut_trail lits starts head cleared room level start h lt e =
    let within : start ≤ length lits = omega (arith, h.levels.within level lt) in
    let size : length (take start lits) ≡ start = length-take-le start lits within in
    let count : length (take level starts) ≡ level = length-take-le level starts (omega arith) in
    record {
      queue = omega arith;
      levels = record {
        within = λ k l. let s : get_or (take level starts) k 0 ≡ get_or starts k 0 = get_or-take level starts k 0 (omega arith) in omega (arith, h.levels.rising k level (omega arith) lt);
        rising = λ j k le l.
            let s : get_or (take level starts) k 0 ≡ get_or starts k 0 = get_or-take level starts k 0 (omega arith) in
            let t : get_or (take level starts) j 0 ≡ get_or starts j 0 = get_or-take level starts j 0 (omega arith) in
            omega (arith, h.levels.rising j k le (omega arith));
      };
      fits = omega (arith, h.fits);
      small = h.small;
      counted = omega (arith, h.counted);
    }

pub invariant_of-trail : goal.invariant_of-trail
invariant_of-trail c =
    let starts = c.trail.inside.decisions.items in
    let size : length c.trail.inside.decisions.items ≡ length c.args.trail.now.starts = ap (λ (t : TrailState). length t.starts) c.trail.view_is in
    let lt : c.args.level < length c.trail.inside.decisions.items = omega arith in
    let start : c.index.result.now ≡ get_or c.trail.inside.decisions.items c.args.level 0 = get_or_read starts c.args.level c.index.result.now lt c.index.ensures 0 in
    rw (c.truncate-2.ensures.items, c.truncate.ensures.items) (
      cut_trail c.trail.inside.trail.items starts c.trail.inside.queue_head_pos c.trail.inside.units_removed c.trail.inside.room c.args.level c.index.result.now c.trail.invariant.0 lt start,
      omega (arith, c.trail.invariant.1, c.truncate-2.ensures.capacity),
    )
