use Rattle.sat_solver.specs.proof.ProofView.{session_of}
use Rattle.sat_solver.proofs.lemmas.cdcl.GoingLemmas.{goes_on}
use Rattle.sat_solver.proofs.lemmas.clause.ReducingLemmas.{reduced_trans}
use Rattle.sat_solver.proofs.clause.reduce.reduce.Goals as goal

pub returns : goal.returns
returns g c =
    let s = session_of c.reduce_locals.new.proof in
    goes_on g.W.CountedWrite.seen c.in_ok-reduce_locals.field-0 tt c.args.proof.now c.reduce_locals.new.proof _ _
    (λ steps x.
    let y = c.reduce_mids.ensures.reduced s x.0.search in
    let z = c.in_ok-collect_deleted.ensures.reduced s y.search in (
      reduced_trans s s c.args.search.now c.reduce_locals.new.search c.collect_deleted.new.search x.0
          (reduced_trans s s c.reduce_locals.new.search c.reduce_mids.new.search c.collect_deleted.new.search y z),
      record {
        after_locals = c.reduce_locals.new.search.parts;
        after_mids = c.reduce_mids.new.search.parts;
        locals = x.1;
        mids = c.reduce_mids.ensures.mids;
        collection = c.in_ok-collect_deleted.ensures.collects;
      },
    ))
    c.in_ok-reduce_locals.ensures
