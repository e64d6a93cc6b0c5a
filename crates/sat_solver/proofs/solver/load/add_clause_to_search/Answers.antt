use Rattle.std.proofs.Common.{arith}
use Rattle.std.proofs.lemmas.Grind.{common_steps}
use Rattle.std.proofs.lemmas.Result.{err_from_is_err_and}
use Rattle.sat_solver.proofs.lemmas.load.GivenLemmas.{vacant_restarted, restarted_indexed}
use Rattle.sat_solver.proofs.lemmas.solver.TakingLemmas.{clause_vacant, clause_added, clause_may, clause_both, clause_result, none_took, names_broke, names_starved}
use Rattle.sat_solver.proofs.solver.load.add_clause_to_search.Goals as goal

pub returns-in_err-both_signs-clause-takes : goal.returns-in_err-both_signs-clause-takes
returns-in_err-both_signs-clause-takes g c = grind (arith, common_steps, err_from_is_err_and, none_took, names_broke)

pub new_indices-requires-clause-vacant : goal.new_indices-requires-clause-vacant
new_indices-requires-clause-vacant g c = rw (c.deref.ensures.value, c.deref-2.ensures.value) (vacant_restarted c.args.context.now.search c.full_restart.new.search _ _ c.full_restart.ensures (clause_vacant g.W.CountedWrite.seen c.args.names.now c.add_clause.new.variables c.args.context.now c.requires.joined c.args.lits.now c.add_clause.new.taken c.in_ok-both_signs.both_signs c.add_clause.new.writer c.in_ok-both_signs.ensures.adds (c.in_ok-both_signs.ensures.emits c.args.context.now.proof (none_took g.W.CountedWrite.seen c.args.context.now.proof)) c.in_ok-both_signs.ensures.keeps))

pub returns-in_err-new_indices-clause-takes : goal.returns-in_err-new_indices-clause-takes
returns-in_err-new_indices-clause-takes g c =
    let p = err_from_is_err_and c.from_residual-in_err-new_indices.result c.from_residual-in_err-new_indices.ensures.1 in
    rw (p.1, p.2) (names_starved g.W.CountedWrite.seen c.args.context.now (record c.args.context.now { proof = c.add_clause.new.writer; search = c.new_indices.new.search }) (c.in_ok-both_signs.ensures.emits c.args.context.now.proof (none_took g.W.CountedWrite.seen c.args.context.now.proof)))

pub returns-then-both_signs-clause-takes : goal.returns-then-both_signs-clause-takes
returns-then-both_signs-clause-takes g c = clause_both g.W.CountedWrite.seen c.args.names.now c.add_clause.new.variables c.args.context.now c.requires.joined c.args.lits.now c.add_clause.new.taken c.in_ok-both_signs.both_signs c.add_clause.new.writer c.in_ok-both_signs.ensures.adds (c.in_ok-both_signs.ensures.emits c.args.context.now.proof (none_took g.W.CountedWrite.seen c.args.context.now.proof)) c.in_ok-both_signs.ensures.keeps c.new_indices.new.search
    (restarted_indexed _ _ _ _ c.args.context.now.search c.full_restart.new.search c.new_indices.new.search c.deref.ensures.value c.deref-2.ensures.value c.full_restart.ensures c.in_ok-new_indices.ensures)
    c.if-both_signs.true

pub load_clause-requires-clause-added : goal.load_clause-requires-clause-added
load_clause-requires-clause-added g c = rw c.deref-3.ensures.value (clause_added g.W.CountedWrite.seen c.args.names.now c.add_clause.new.variables c.args.context.now c.requires.joined c.args.lits.now c.add_clause.new.taken c.in_ok-both_signs.both_signs c.add_clause.new.writer c.in_ok-both_signs.ensures.adds (c.in_ok-both_signs.ensures.emits c.args.context.now.proof (none_took g.W.CountedWrite.seen c.args.context.now.proof)) c.in_ok-both_signs.ensures.keeps c.new_indices.new.search
    (restarted_indexed _ _ _ _ c.args.context.now.search c.full_restart.new.search c.new_indices.new.search c.deref.ensures.value c.deref-2.ensures.value c.full_restart.ensures c.in_ok-new_indices.ensures))

pub load_clause-requires-clause-may : goal.load_clause-requires-clause-may
load_clause-requires-clause-may g c = rw c.deref-3.ensures.value (clause_may g.W.CountedWrite.seen c.args.names.now c.add_clause.new.variables c.args.context.now c.requires.joined c.args.lits.now c.add_clause.new.taken c.in_ok-both_signs.both_signs c.add_clause.new.writer c.in_ok-both_signs.ensures.adds (c.in_ok-both_signs.ensures.emits c.args.context.now.proof (none_took g.W.CountedWrite.seen c.args.context.now.proof)) c.in_ok-both_signs.ensures.keeps c.new_indices.new.search
    (restarted_indexed _ _ _ _ c.args.context.now.search c.full_restart.new.search c.new_indices.new.search c.deref.ensures.value c.deref-2.ensures.value c.full_restart.ensures c.in_ok-new_indices.ensures)
    c.if-both_signs.false)

pub returns-clause-takes : goal.returns-clause-takes
returns-clause-takes g c = clause_result g.W.CountedWrite.seen c.args.names.now c.add_clause.new.variables c.args.context.now c.requires.joined c.args.lits.now c.add_clause.new.taken c.in_ok-both_signs.both_signs c.add_clause.new.writer c.in_ok-both_signs.ensures.adds (c.in_ok-both_signs.ensures.emits c.args.context.now.proof (none_took g.W.CountedWrite.seen c.args.context.now.proof)) c.in_ok-both_signs.ensures.keeps c.new_indices.new.search
    (restarted_indexed _ _ _ _ c.args.context.now.search c.full_restart.new.search c.new_indices.new.search c.deref.ensures.value c.deref-2.ensures.value c.full_restart.ensures c.in_ok-new_indices.ensures)
    c.load_clause.result c.load_clause.new.proof c.load_clause.new.search c.load_clause.ensures.goes c.load_clause.ensures.comes
