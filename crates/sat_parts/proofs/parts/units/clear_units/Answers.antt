use Rattle.std.proofs.lemmas.Grind.{common_steps}
use Rattle.std.proofs.Common.{arith}
use Rattle.sat_parts.proofs.lemmas.parts.WordSteps.{word_cleared}
use Rattle.sat_parts.proofs.lemmas.parts.ClearLemmas.{sound_cleared}
use Rattle.sat_parts.proofs.lemmas.parts.FrameLemmas.{clears_cleared}
use Rattle.sat_parts.proofs.parts.units.clear_units.Goals as goal

pub returns-clause-holds : goal.returns-clause-holds
returns-clause-holds c =
    rw (c.mark_removed.ensures, c.clear.ensures) (sound_cleared _ _ _ _ _ _ _ _ c.requires.holds c.requires.bottom c.requires.done)

pub returns-clause-word : goal.returns-clause-word
returns-clause-word c =
    let p = c.args.parts.now in
    rw (c.mark_removed.ensures, c.clear.ensures) (λ am. word_cleared am p.assignment p.graph p.trail p.vsids c.requires.holds.propagation.agrees c.requires.bottom)

pub returns-clause-clears : goal.returns-clause-clears
returns-clause-clears c = grind (arith, common_steps, clears_cleared)
