use Rattle.std.proofs.Common.{arith}
use Rattle.std.proofs.lemmas.Grind.{common_steps}
use Rattle.std.proofs.Common.{ℕ, List, subst}
use Rattle.sat_solver.specs.assumptions.Setting.{ReplacesAssumed}
use Rattle.sat_solver.proofs.lemmas.load.GivenLemmas.{vacant_restarted, restarted_indexed}
use Rattle.std.proofs.lemmas.Result.{err_from_is_err_and}
use Rattle.sat_solver.proofs.lemmas.solver.TakingLemmas.{fault_on, asked_vacant, asked_there, asked_taken, none_took, names_broke, names_starved}
use Rattle.sat_solver.specs.declared.error.SolverError.TheVariants as errors
use Rattle.sat_solver.proofs.solver.load.set_assumptions_in_search.Goals as goal

pub returns-in_err-assume-clause-takes : goal.returns-in_err-assume-clause-takes
returns-in_err-assume-clause-takes g c = grind (arith, common_steps, err_from_is_err_and, none_took, names_broke)

pub new_indices-requires-clause-vacant : goal.new_indices-requires-clause-vacant
new_indices-requires-clause-vacant g c = rw (c.deref.ensures.value, c.deref-2.ensures.value)
    (vacant_restarted c.args.context.now.search c.full_restart.new.search _ _ c.full_restart.ensures (asked_vacant g.W.CountedWrite.seen c.args.names.now c.assume.new.variables c.args.context.now c.requires.joined c.args.lits.now c.assume.new.asked c.assume.new.writer c.in_ok-assume.ensures.assumes (c.in_ok-assume.ensures.emits c.args.context.now.proof (none_took g.W.CountedWrite.seen c.args.context.now.proof)) c.in_ok-assume.ensures.keeps))

pub returns-in_err-new_indices-clause-takes : goal.returns-in_err-new_indices-clause-takes
returns-in_err-new_indices-clause-takes g c =
    let p = err_from_is_err_and c.from_residual-in_err-new_indices.result c.from_residual-in_err-new_indices.ensures.1 in
    rw (p.1, p.2) (names_starved g.W.CountedWrite.seen c.args.context.now (record c.args.context.now { proof = c.assume.new.writer; search = c.new_indices.new.search }) (c.in_ok-assume.ensures.emits c.args.context.now.proof (none_took g.W.CountedWrite.seen c.args.context.now.proof)))

pub set_assumptions-requires-clause-there : goal.set_assumptions-requires-clause-there
set_assumptions-requires-clause-there g c = rw c.deref-3.ensures.value (asked_there g.W.CountedWrite.seen c.args.names.now c.assume.new.variables c.args.context.now c.requires.joined c.args.lits.now c.assume.new.asked c.assume.new.writer c.in_ok-assume.ensures.assumes (c.in_ok-assume.ensures.emits c.args.context.now.proof (none_took g.W.CountedWrite.seen c.args.context.now.proof)) c.in_ok-assume.ensures.keeps c.new_indices.new.search
    (restarted_indexed _ _ _ _ c.args.context.now.search c.full_restart.new.search c.new_indices.new.search c.deref.ensures.value c.deref-2.ensures.value c.full_restart.ensures c.in_ok-new_indices.ensures))

pub returns-in_err-set_assumptions-clause-takes : goal.returns-in_err-set_assumptions-clause-takes
returns-in_err-set_assumptions-clause-takes g c =
    let p = err_from_is_err_and c.from_residual-in_err-set_assumptions.result c.from_residual-in_err-set_assumptions.ensures.1 in
    rw (p.1, p.2) (names_starved g.W.CountedWrite.seen c.args.context.now (record c.args.context.now { proof = c.assume.new.writer; search = c.set_assumptions.new.search }) (c.in_ok-assume.ensures.emits c.args.context.now.proof (none_took g.W.CountedWrite.seen c.args.context.now.proof)))

pub returns-clause-takes : goal.returns-clause-takes
returns-clause-takes g c = asked_taken g.W.CountedWrite.seen c.args.names.now c.assume.new.variables c.args.context.now c.requires.joined c.args.lits.now c.assume.new.asked c.assume.new.writer c.in_ok-assume.ensures.assumes (c.in_ok-assume.ensures.emits c.args.context.now.proof (none_took g.W.CountedWrite.seen c.args.context.now.proof)) c.in_ok-assume.ensures.keeps c.new_indices.new.search
    (restarted_indexed _ _ _ _ c.args.context.now.search c.full_restart.new.search c.new_indices.new.search c.deref.ensures.value c.deref-2.ensures.value c.full_restart.ensures c.in_ok-new_indices.ensures)
    c.set_assumptions.new.search (subst (λ (ls : List ℕ). ReplacesAssumed ls c.new_indices.new.search c.set_assumptions.new.search) c.deref-3.ensures.value c.in_ok-set_assumptions.ensures)

pub returns-in_err-new_indices-clause-room : goal.returns-in_err-new_indices-clause-room
returns-in_err-new_indices-clause-room g c = λ h. fault_on _ c.from_residual-in_err-new_indices.result errors.OutOfMemory c.from_residual-in_err-new_indices.ensures.1 tt

pub returns-in_err-set_assumptions-clause-room : goal.returns-in_err-set_assumptions-clause-room
returns-in_err-set_assumptions-clause-room g c = λ h. fault_on _ c.from_residual-in_err-set_assumptions.result errors.OutOfMemory c.from_residual-in_err-set_assumptions.ensures.1 tt
