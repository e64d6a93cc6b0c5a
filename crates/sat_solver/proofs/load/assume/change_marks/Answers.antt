use Rattle.std.proofs.Common.{◌<◌, get_or, length, subst, sym}
use Rattle.sat_base.specs.values.Literals.{variable}
use Rattle.sat_solver.proofs.lemmas.variables.Added.{marks_within, order_within, mapped_within, list_within, maps_clause, lent_within}
use Rattle.sat_solver.proofs.load.assume.change_marks.Goals as goal

pub mark_all-requires : goal.mark_all-requires
mark_all-requires c = record { within = lent_within c.deref.result.now c.args.asked.now.globals.items (length c.args.variables.now.var_data.items) c.deref.ensures.value (marks_within c.args.variables.now c.args.asked.now.globals.items c.requires.tidy c.requires.marked) }

pub map_lits-requires : goal.map_lits-requires
map_lits-requires c = list_within c.deref-3.result.now c.args.asked.now.order.items c.deref-2.result.now c.args.variables.now.globals.items c.deref-3.ensures.value c.deref-2.ensures.value
    (order_within c.args.variables.now c.args._user.now c.args.asked.now.order.items c.requires.tidy c.requires.images)

pub mark_all-requires-2 : goal.mark_all-requires-2
mark_all-requires-2 c = record {
  within = lent_within c.deref-4.result.now c.map_lits.new.mapped.items (length c.mark_all.new.list.items) c.deref-4.ensures.value
      (λ k lt. subst (λ n. variable (get_or c.map_lits.new.mapped.items k 0) < n) (sym c.mark_all.ensures.size)
      (mapped_within c.args.variables.now c.args._user.now c.args.asked.now.order.items c.map_lits.new.mapped.items c.requires.tidy c.requires.images (maps_clause c.map_lits.new.mapped.items c.deref-3.result.now c.args.asked.now.order.items c.deref-2.result.now c.args.variables.now.globals.items c.in_ok-map_lits.ensures c.deref-3.ensures.value c.deref-2.ensures.value) k lt));
}
