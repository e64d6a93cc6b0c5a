use Rattle.std.proofs.lemmas.Result.{err_from_is_err_and}
use Rattle.sat_solver.proofs.lemmas.unit_simplify.PassesLemmas.{passes_strengthened, may_strengthened, simplified, falls_later, falls_names}
use Rattle.sat_solver.proofs.unit_simplify.unit_simplify.Goals as goal

pub free_indices-requires-clause-may : goal.free_indices-requires-clause-may
free_indices-requires-clause-may g c =
    may_strengthened g.W.CountedWrite.seen c.args.names.now c.args.names.now c.args.proof.now c.strengthen_all.new.proof c.strengthen_all.new.proof c.args.search.now c.strengthen_all.new.search c.strengthen_all.new.search c.requires.together c.requires.flat c.in_ok-strengthen_all.ensures

pub returns : goal.returns
returns g c =
    simplified g.W.CountedWrite.seen c.args.names.now c.free_indices.new.variables c.args.proof.now c.strengthen_all.new.proof c.free_indices.new.writer c.args.search.now c.strengthen_all.new.search c.free_indices.new.search c.requires.together c.requires.flat c.in_ok-strengthen_all.ensures
    c.in_ok-free_indices.ensures.frees c.in_ok-free_indices.ensures.left c.in_ok-free_indices.ensures.keeps c.in_ok-free_indices.ensures.emits

pub returns-in_err-free_indices : goal.returns-in_err-free_indices
returns-in_err-free_indices g c =
    let p = err_from_is_err_and c.from_residual-in_err-free_indices.result c.from_residual-in_err-free_indices.ensures.1 in
    rw (p.1, p.2)
    (falls_later g.W.CountedWrite.seen _ c.args.proof.now c.strengthen_all.new.proof c.free_indices.new.writer
    (passes_strengthened g.W.CountedWrite.seen c.args.names.now c.args.names.now c.args.proof.now c.strengthen_all.new.proof c.strengthen_all.new.proof c.args.search.now c.strengthen_all.new.search c.strengthen_all.new.search c.requires.together c.requires.flat c.in_ok-strengthen_all.ensures).took
    (falls_names g.W.CountedWrite.seen c.in_err-free_indices.field-0.0 c.strengthen_all.new.proof c.free_indices.new.writer c.in_err-free_indices.ensures.fails c.in_err-free_indices.ensures.emits))
