use Rattle.std.proofs.Common.{◌≡◌, ◌∙◌, Some, None, Option, Bool, cond, eqb, sym, ap, subst}
use Rattle.sat_store.specs.variables.Maps.{target}
use Rattle.sat_solver.specs.unit_simplify.FreedVars.{freed_search}
use Rattle.sat_solver.specs.variables.Naming.{StoresUnit}
use Rattle.sat_solver.specs.variables.Variables.{global_at}
use Rattle.sat_solver.proofs.lemmas.unit_simplify.FreedLemmas.{within_free, noted_stands, noted_unit, noted_unused, global_gone}
use Rattle.sat_solver.proofs.lemmas.unit_simplify.FreeingLemmas.{same_value, same_unused, same_there, frees_marked, frees_here}
use Rattle.sat_solver.proofs.unit_simplify.free_vars.release_unused.Goals as goal

pub returns-in_default-clause-frees : goal.returns-in_default-clause-frees
returns-in_default-clause-frees g c = frees_marked c.args.used.now.items c.args.search.now c.args.index c.args.variables.now (g.S.StepLog.steps c.args.writer.now) c.mark.new.used.items c.requires.may c.requires.size c.mark.ensures

pub is_marked-requires : goal.is_marked-requires
is_marked-requires g c = record { within = within_free c.args.variables.now (g.S.StepLog.steps c.args.writer.now) (freed_search c.args.used.now.items c.args.index c.args.search.now) c.requires.may c.args.index c.in-Some.global (ap (λ m. target m c.args.index) (sym c.bwd.ensures.map) ∙ sym c.get.ensures ∙ c.in-Some.is) }

pub returns-then-is_marked-clause-frees : goal.returns-then-is_marked-clause-frees
returns-then-is_marked-clause-frees g c = frees_marked c.args.used.now.items c.args.search.now c.args.index c.args.variables.now (g.S.StepLog.steps c.args.writer.now) c.mark-then-is_marked.new.used.items c.requires.may c.requires.size c.mark-then-is_marked.ensures

pub set_unit-requires : goal.set_unit-requires
set_unit-requires g c = record { within = within_free c.args.variables.now (g.S.StepLog.steps c.args.writer.now) (freed_search c.args.used.now.items c.args.index c.args.search.now) c.requires.may c.args.index c.in-Some.global (ap (λ m. target m c.args.index) (sym c.bwd.ensures.map) ∙ sym c.get.ensures ∙ c.in-Some.is) }

pub remove_var-requires-clause-valid : goal.remove_var-requires-clause-valid
remove_var-requires-clause-valid g c =
    let k = freed_search c.args.used.now.items c.args.index c.args.search.now in
    let there : global_at c.args.variables.now c.args.index ≡ Some c.in-Some.global = ap (λ m. target m c.args.index) (sym c.bwd.ensures.map) ∙ sym c.get.ensures ∙ c.in-Some.is in
    noted_stands c.args.variables.now (g.S.StepLog.steps c.args.writer.now) k c.requires.may c.args.index c.in-Some.global there c.set_unit.new.self
    (subst (λ (o : Option Bool). StoresUnit c.args.variables.now c.set_unit.new.self c.in-Some.global o) (c.var_value.ensures ∙ sym (same_value c.args.used.now.items c.args.search.now c.args.index)) c.set_unit.ensures)

pub remove_var-requires-clause-unit : goal.remove_var-requires-clause-unit
remove_var-requires-clause-unit g c =
    let k = freed_search c.args.used.now.items c.args.index c.args.search.now in
    let there : global_at c.args.variables.now c.args.index ≡ Some c.in-Some.global = ap (λ m. target m c.args.index) (sym c.bwd.ensures.map) ∙ sym c.get.ensures ∙ c.in-Some.is in
    noted_unit c.args.variables.now (g.S.StepLog.steps c.args.writer.now) k c.requires.may c.args.index c.in-Some.global there c.set_unit.new.self
    (subst (λ (o : Option Bool). StoresUnit c.args.variables.now c.set_unit.new.self c.in-Some.global o) (c.var_value.ensures ∙ sym (same_value c.args.used.now.items c.args.search.now c.args.index)) c.set_unit.ensures)
    (same_unused c.args.used.now.items c.args.search.now c.args.index c.requires.unused)

pub remove_var-requires-clause-unused : goal.remove_var-requires-clause-unused
remove_var-requires-clause-unused g c =
    let k = freed_search c.args.used.now.items c.args.index c.args.search.now in
    let there : global_at c.args.variables.now c.args.index ≡ Some c.in-Some.global = ap (λ m. target m c.args.index) (sym c.bwd.ensures.map) ∙ sym c.get.ensures ∙ c.in-Some.is in
    noted_unused c.args.variables.now (g.S.StepLog.steps c.args.writer.now) k c.requires.may c.args.index c.in-Some.global there c.set_unit.new.self
    (subst (λ (o : Option Bool). StoresUnit c.args.variables.now c.set_unit.new.self c.in-Some.global o) (c.var_value.ensures ∙ sym (same_value c.args.used.now.items c.args.search.now c.args.index)) c.set_unit.ensures)
    (same_unused c.args.used.now.items c.args.search.now c.args.index c.requires.unused)

pub returns-clause-frees : goal.returns-clause-frees
returns-clause-frees g c =
    let there : global_at c.args.variables.now c.args.index ≡ Some c.in-Some.global = ap (λ m. target m c.args.index) (sym c.bwd.ensures.map) ∙ sym c.get.ensures ∙ c.in-Some.is in
    frees_here c.args.used.now.items c.args.search.now c.args.index c.args.variables.now (g.S.StepLog.steps c.args.writer.now) c.requires.may c.in-Some.global there c.set_unit.new.self
    (subst (λ (o : Option Bool). StoresUnit c.args.variables.now c.set_unit.new.self c.in-Some.global o) (c.var_value.ensures ∙ sym (same_value c.args.used.now.items c.args.search.now c.args.index)) c.set_unit.ensures)
    (same_unused c.args.used.now.items c.args.search.now c.args.index c.requires.unused)
    c.remove_var.new.variables (g.S.StepLog.steps c.remove_var.new.writer) c.in_ok-remove_var.ensures.gone (sym c.is_marked.ensures ∙ c.if-is_marked.false) c.requires.unmarked
    (same_there c.args.used.now.items c.args.search.now c.args.index c.requires.there)

pub returns-clause-left : goal.returns-clause-left
returns-clause-left g c = λ v e.
    (let there : global_at c.args.variables.now c.args.index ≡ Some c.in-Some.global = ap (λ m. target m c.args.index) (sym c.bwd.ensures.map) ∙ sym c.get.ensures ∙ c.in-Some.is in
    let put : StoresUnit c.args.variables.now c.set_unit.new.self c.in-Some.global _ = c.set_unit.ensures in
    absurd (global_gone c.args.variables.now c.remove_var.new.variables c.in-Some.global c.args.index v c.requires.may.valid.tidy c.in_ok-remove_var.ensures.gone.does.valid.tidy
    (λ w. c.in_ok-remove_var.ensures.gone.solvers w ∙ ap (λ m. cond (eqb w c.in-Some.global) None (target m.fwd w)) put.maps.solvers) there e))
