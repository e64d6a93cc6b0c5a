use Rattle.std.proofs.Common.{arith}
use Rattle.sat_parts.specs.parts.Whole.{state}
use Rattle.sat_parts.proofs.lemmas.parts.AssumeLemmas.{placed_kept}
use Rattle.sat_parts.proofs.parts.assumptions.restart.Goals as goal

pub returns-clause-placed : goal.returns-clause-placed
returns-clause-placed c =
    let p = c.args.parts.now in
    let a = c.args.assumptions.now in
    placed_kept a.lits.items a.below.items a.place c.levels-levels.result (state p) (state c.undo.new.parts) c.requires.placed c.undo.ensures.keeps (omega (arith, c.levels-levels.ensures)) (omega (arith, c.levels-levels.ensures, c.undo.ensures.starts))
    (λ lt. absurd (omega (arith, c.levels-levels.ensures, c.undo.ensures.starts)))
