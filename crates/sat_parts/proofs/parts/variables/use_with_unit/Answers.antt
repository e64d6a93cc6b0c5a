use Rattle.sat_parts.proofs.lemmas.parts.RestoreLemmas.{sound_restored}
use Rattle.sat_parts.proofs.parts.variables.use_with_unit.Goals as goal

pub returns-clause-holds : goal.returns-clause-holds
returns-clause-holds c =
    let p = c.args.parts.now in
    rw (c.assign_lit.ensures, c.update_removed_unit.ensures, c.var.ensures)
    (sound_restored p.clauses p.db p.watchlists p.binary p.assignment p.graph p.trail p.vsids c.args.lit c.requires.holds c.requires.bottom c.requires.there c.requires.open c.requires.given_up)
