use Rattle.std.proofs.Common.{◌≡◌, ◌<◌, ◌∙◌, ap, sym, subst, length, get_or, arith}
use Rattle.std.proofs.lemmas.List.{get_or_read}
use Rattle.sat_base.specs.values.Literals.{variable, is_positive, mk_lit}
use Rattle.sat_solver.specs.session.LiveClauses.{with_var}
use Rattle.sat_solver.specs.session.Naming.{global_of_index}
use Rattle.sat_solver.proofs.lemmas.fits.CodeLemmas.{map_next, coded_by}
use Rattle.sat_solver.proofs.proof.map_step.map_lits.Goals as goal

pub loop-lit-preserved : goal.loop-lit-preserved
loop-lit-preserved c =
    let at : c.lit-item.result ≡ get_or c.args.lits.now c.loop-lit.lit-index 0 = get_or_read c.args.lits.now c.loop-lit.lit-index c.lit-item.result (omega arith) c.lit-item.is 0 in
    let small : variable (get_or c.args.lits.now c.loop-lit.lit-index 0) < length c.args.globals.now = c.requires c.loop-lit.lit-index (omega arith) in
    let there : variable c.lit-item.result < length c.args.globals.now = subst (λ l. variable l < length c.args.globals.now) (sym at) small in
    let var : c.index-globals-index.result ≡ get_or c.args.globals.now c.index.result 0 = get_or_read c.args.globals.now c.index.result c.index-globals-index.result (subst (λ v. v < length c.args.globals.now) (sym c.index.ensures.value) there) c.index-globals-index.is 0 in
    let its : c.from_var.result ≡ with_var (global_of_index c.args.globals.now) c.lit-item.result =
    c.from_var.ensures ∙ ap (λ b. mk_lit c.index-globals-index.result b) c.is_positive.ensures ∙ ap (λ v. mk_lit v (is_positive c.lit-item.result)) (var ∙ ap (λ i. get_or c.args.globals.now i 0) c.index.ensures.value) ∙ coded_by (global_of_index c.args.globals.now) c.lit-item.result in
    rw (c.in_ok-push.ensures.items, its, at) (map_next (with_var (global_of_index c.args.globals.now)) c.loop-lit.lit-index c.loop-lit.mapped.items c.args.lits.now (omega arith) ∙ c.loop-lit.invariant)
