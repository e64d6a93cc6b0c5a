use Rattle.std.proofs.Common.{◌≡◌, ◌<◌, ◌≤◌, arith, length, get_or}
use Rattle.std.proofs.lemmas.List.{get_or_read}
use Rattle.sat_parts.proofs.lemmas.parts.AssumeLemmas.{placed_kept, placed_cut}
use Rattle.sat_parts.proofs.parts.assumptions.Assumptions.cut.Goals as goal

pub returns-then-level-len-clause-placed : goal.returns-then-level-len-clause-placed
returns-then-level-len-clause-placed c = λ s s' x le k at.
    let a = c.args.self.now in
    let high : length c.args.self.now.below.items ≤ c.args.level = omega (arith, c.if-level-len.true, c.len.ensures) in
    placed_kept a.lits.items a.below.items a.place c.args.level s s' x k high (omega (arith, high, at)) (λ lt. x.all (omega (arith, le, at, lt)))

pub returns-clause-placed : goal.returns-clause-placed
returns-clause-placed c = λ s s' x le k at.
    let a = c.args.self.now in
    let lt : c.args.level < length c.args.self.now.below.items = omega (arith, c.if-level-len.false, c.len.ensures) in
    let is : c.index.result.now ≡ get_or c.args.self.now.below.items c.args.level 0 = get_or_read c.args.self.now.below.items c.args.level c.index.result.now lt c.index.ensures 0 in
    rw (c.truncate.ensures.items, is) (placed_cut a.lits.items a.below.items a.place c.args.level s s' x k lt at)
