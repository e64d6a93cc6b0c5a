use Rattle.std.proofs.Common.{◌≤◌, drop, length, sym, ◌∙◌, ap, subst, arith}
use Rattle.std.proofs.lemmas.List.{drop_all}
use Rattle.sat_base.specs.values.Literals.{var_limit}
use Rattle.sat_solver.specs.variables.VariableRoom.{user_vars_in, hidden_count}
use Rattle.sat_solver.proofs.lemmas.variables.RoomLemmas.{hidden_none, counts_small}
use Rattle.sat_solver.proofs.variables.room.count_hidden.Goals as goal

pub loop-at-init : goal.loop-at-init
loop-at-init c = sym (ap (λ ls. hidden_count c.args.variables.now (user_vars_in ls)) (drop_all (length c.args.lits.now) c.args.lits.now (omega arith)) ∙ hidden_none c.args.variables.now)

pub count_hidden_name-count-requires : goal.count_hidden_name-count-requires
count_hidden_name-count-requires c = record { within = omega arith; count = subst (λ k. k ≤ var_limit) (sym c.loop-at.invariant) (counts_small c.args.variables.now (user_vars_in (drop _ c.args.lits.now)) c.requires) }
