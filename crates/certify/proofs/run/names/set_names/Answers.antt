use Rattle.std.proofs.Common.{subst, take, [], ◌∷◌, ◌+◌, arith, List, ℕ}
use Rattle.std.proofs.lemmas.Result.{err_from_is_err_and}
use Rattle.sat_solver.specs.variables.Refusing.{names_in}
use Rattle.certify.specs.run.NonAskCommands.{NonAskCarriedOut, command_for_state}
use Rattle.certify.proofs.lemmas.run.Obeys.{none_obeyed, names_obeyed, name_more}
use Rattle.certify.proofs.lemmas.run.RunStateCalls.{fails_then}
use Rattle.certify.proofs.lemmas.run.Caused.{names_caused}
use Rattle.certify.proofs.run.names.set_names.Goals as goal

pub loop-lit-init : goal.loop-lit-init
loop-lit-init g c = none_obeyed c.args.state c.args.solver.now c.requires.ready

pub loop-lit-preserved : goal.loop-lit-preserved
loop-lit-preserved g c =
    let codes = c.args.literals.now in
    let k = c.loop-lit.lit-index in
    subst (λ (names : List ℕ). NonAskCarriedOut (command_for_state c.args.state names) c.args.solver.now c.set_name.new.solver) (name_more codes k c.lit-item.result c.var.result (omega arith) c.lit-item.is c.var.ensures)
    (names_obeyed c.args.state (names_in (take k codes)) ((c.var.result + 1) ∷ []) c.args.solver.now c.loop-lit.solver c.set_name.new.solver c.loop-lit.invariant c.in_ok-set_name.ensures.obeyed)

pub returns-in_err-set_name-clause-fails : goal.returns-in_err-set_name-clause-fails
returns-in_err-set_name-clause-fails g c =
    let p = err_from_is_err_and c.from_residual.result c.from_residual.ensures.1 in
    rw (p.1, p.2) (fails_then c.in_err-set_name.field-0.0 c.args.solver.now c.loop-lit.solver c.set_name.new.solver c.loop-lit.invariant.took c.in_err-set_name.ensures.fails)

pub returns-in_err-set_name-clause-cause : goal.returns-in_err-set_name-clause-cause
returns-in_err-set_name-clause-cause g c =
    let p = err_from_is_err_and c.from_residual.result c.from_residual.ensures.1 in
    rw (p.1, p.2) (names_caused c.args.state c.args.literals.now c.loop-lit.lit-index c.lit-item.result c.var.result c.args.solver.now c.loop-lit.solver c.set_name.new.solver c.in_err-set_name.field-0.0 (omega arith) c.lit-item.is c.var.ensures c.loop-lit.invariant c.in_err-set_name.ensures.cause)
