use Rattle.std.proofs.Common.{◌∙◌, ap}
use Rattle.sat_checker.specs.LiteralSets.{canonical}
use Rattle.sat_solver.proofs.lemmas.variables.TakenNames.{within_all}
use Rattle.sat_solver.proofs.lemmas.variables.Added.{list_within}
use Rattle.sat_solver.proofs.load.clause.map_clause.Goals as goal

pub map_lits-requires : goal.map_lits-requires
map_lits-requires c = list_within c.deref-3.result.now c.copy_canonical.new.target.items c.deref-2.result.now c.args.variables.now.globals.items c.deref-3.ensures.value c.deref-2.ensures.value
    (within_all c.args.variables.now c.args._user.now c.args.taken.now.order.items c.copy_canonical.new.target.items c.requires.tidy c.requires.images (c.in_ok-both_signs.ensures.set ∙ ap canonical c.deref.ensures.value))
