use Rattle.std.proofs.Common.{◌≡◌, ◌∙◌, Err, ap, arith, length}
use Rattle.std.proofs.lemmas.Result.{err_from_is_err_and}
use Rattle.sat_solver.specs.proof.ProofView.{steps_of, session_of}
use Rattle.sat_parts.specs.parts.Loadable.{false_last}
use Rattle.sat_solver.proofs.lemmas.cdcl.GoingLemmas.{goes_none, goes_map, goes_or}
use Rattle.sat_solver.specs.load.Loaded.{IsLoaded}
use Rattle.sat_solver.proofs.lemmas.load.LoadingLemmas.{few_lits, goes_unstored, loaded_stored, loaded_unit, loaded_false, loaded_true, loaded_names, loaded_may, loaded_after, loaded_last}
use Rattle.sat_solver.proofs.lemmas.load.DeletedLemmas.{comes_true}
use Rattle.sat_solver.proofs.load.load_clause.Goals as goal

pub load-requires-clause-fits : goal.load-requires-clause-fits
load-requires-clause-fits g c = few_lits c.args.search.now c.args.lits.now c.requires.added.search.valid.holds c.requires.may

pub returns-in_err-loaded-clause-goes : goal.returns-in_err-loaded-clause-goes
returns-in_err-loaded-clause-goes g c =
    let p = err_from_is_err_and c.from_residual.result c.from_residual.ensures.1 in
    rw (p.1, p.2) (goes_unstored g.W.CountedWrite.seen c.in_err-loaded.field-0.0 c.args.proof.now _ c.requires.keeps
    (λ e. c.load.ensures.full (c.in_err-loaded.was ∙ ap Err e)))

pub returns-in-Stored-clause-goes : goal.returns-in-Stored-clause-goes
returns-in-Stored-clause-goes g c =
    goes_none g.W.CountedWrite.seen _ c.args.proof.now (λ left _. IsLoaded left (session_of c.args.proof.now) c.args.search.now (record c.args.search.now { parts = c.load.new.parts })) c.requires.keeps
    (loaded_stored c.args.search.now c.args.lits.now (steps_of c.args.proof.now) c.requires.added c.requires.may c.make_all_available.new.parts c.make_all_available.ensures.holds c.make_all_available.ensures.same c.make_all_available.ensures.others c.load.new.parts c.in_ok-loaded.ensures.holds c.in_ok-loaded.ensures.kept
    (rw c.in-Stored.is at c.in_ok-loaded.ensures.says))

pub returns-in-Unit-clause-goes : goal.returns-in-Unit-clause-goes
returns-in-Unit-clause-goes g c =
    goes_none g.W.CountedWrite.seen _ c.args.proof.now (λ left _. IsLoaded left (session_of c.args.proof.now) c.args.search.now (record c.args.search.now { parts = c.load.new.parts })) c.requires.keeps
    (loaded_unit c.args.search.now c.args.lits.now (steps_of c.args.proof.now) c.requires.added c.requires.may c.make_all_available.new.parts c.make_all_available.ensures.holds c.make_all_available.ensures.same c.make_all_available.ensures.others c.load.new.parts c.in_ok-loaded.ensures.holds c.in_ok-loaded.ensures.kept
    (rw c.in-Unit.is at c.in_ok-loaded.ensures.says))

pub returns-in-Falsified-clause-goes : goal.returns-in-Falsified-clause-goes
returns-in-Falsified-clause-goes g c =
    goes_none g.W.CountedWrite.seen _ c.args.proof.now (λ left _. IsLoaded left (session_of c.args.proof.now) c.args.search.now (record c.args.search.now { parts = c.load.new.parts })) c.requires.keeps
    (loaded_false c.args.search.now c.args.lits.now (steps_of c.args.proof.now) c.requires.added c.requires.may c.make_all_available.new.parts c.make_all_available.ensures.holds c.make_all_available.ensures.same c.make_all_available.ensures.others c.load.new.parts c.in_ok-loaded.ensures.holds c.in_ok-loaded.ensures.kept
    (rw c.in-Falsified.is at c.in_ok-loaded.ensures.says))

pub returns-then-len-lt2-clause-goes : goal.returns-then-len-lt2-clause-goes
returns-then-len-lt2-clause-goes g c =
    let size : c.len.result ≡ length (false_last c.make_all_available.new.parts.assignment.current c.args.lits.now) = omega (arith, c.len.ensures, c.load.new.sorting.lits.ok.0, ap (λ ls. length ls) c.in_ok-loaded.ensures.order) in
    goes_none g.W.CountedWrite.seen _ c.args.proof.now (λ left _. IsLoaded left (session_of c.args.proof.now) c.args.search.now (record c.args.search.now { parts = c.load.new.parts })) c.requires.keeps
    (loaded_true c.args.search.now c.args.lits.now (steps_of c.args.proof.now) c.requires.added c.requires.may c.make_all_available.new.parts c.make_all_available.ensures.holds c.make_all_available.ensures.same c.make_all_available.ensures.others c.load.new.parts c.in_ok-loaded.ensures.holds c.in_ok-loaded.ensures.kept
    (rw c.in-Satisfied.is at c.in_ok-loaded.ensures.says) (omega (arith, size, c.if-len-lt2.true)))

pub delete_true-requires-clause-names : goal.delete_true-requires-clause-names
delete_true-requires-clause-names g c =
    let same : c.deref.result.now ≡ false_last c.make_all_available.new.parts.assignment.current c.args.lits.now = c.deref.ensures.value ∙ c.in_ok-loaded.ensures.order in
    rw same (loaded_names c.args.search.now c.args.lits.now (steps_of c.args.proof.now) c.requires.added c.requires.may c.make_all_available.new.parts c.make_all_available.ensures.holds c.make_all_available.ensures.same c.make_all_available.ensures.others c.load.new.parts c.in_ok-loaded.ensures.holds c.in_ok-loaded.ensures.kept)

pub delete_true-requires-clause-may : goal.delete_true-requires-clause-may
delete_true-requires-clause-may g c =
    let size : c.len.result ≡ length (false_last c.make_all_available.new.parts.assignment.current c.args.lits.now) = omega (arith, c.len.ensures, c.load.new.sorting.lits.ok.0, ap (λ ls. length ls) c.in_ok-loaded.ensures.order) in
    let same : c.deref.result.now ≡ false_last c.make_all_available.new.parts.assignment.current c.args.lits.now = c.deref.ensures.value ∙ c.in_ok-loaded.ensures.order in
    rw same (loaded_may c.args.search.now c.args.lits.now (steps_of c.args.proof.now) c.requires.added c.requires.may c.make_all_available.new.parts c.make_all_available.ensures.holds c.make_all_available.ensures.same c.make_all_available.ensures.others c.load.new.parts c.in_ok-loaded.ensures.holds c.in_ok-loaded.ensures.kept
    (rw c.in-Satisfied.is at c.in_ok-loaded.ensures.says) (omega (arith, size, c.if-len-lt2.false)))

pub returns-else-len-lt2-clause-goes : goal.returns-else-len-lt2-clause-goes
returns-else-len-lt2-clause-goes g c =
    let size : c.len.result ≡ length (false_last c.make_all_available.new.parts.assignment.current c.args.lits.now) = omega (arith, c.len.ensures, c.load.new.sorting.lits.ok.0, ap (λ ls. length ls) c.in_ok-loaded.ensures.order) in
    let same : c.deref.result.now ≡ false_last c.make_all_available.new.parts.assignment.current c.args.lits.now = c.deref.ensures.value ∙ c.in_ok-loaded.ensures.order in
    goes_or g.W.CountedWrite.seen c.delete_true.result c.args.proof.now c.delete_true.new.proof (λ left _. IsLoaded left (session_of c.delete_true.new.proof) c.args.search.now c.delete_true.new.search)
    (goes_map g.W.CountedWrite.seen c.delete_true.result c.args.proof.now c.delete_true.new.proof _ (λ left _. IsLoaded left (session_of c.delete_true.new.proof) c.args.search.now c.delete_true.new.search)
    (λ left steps h. loaded_after c.args.search.now c.args.lits.now (steps_of c.args.proof.now) c.requires.added c.requires.may c.make_all_available.new.parts c.make_all_available.ensures.holds c.make_all_available.ensures.same c.make_all_available.ensures.others c.load.new.parts c.in_ok-loaded.ensures.holds c.in_ok-loaded.ensures.kept
    (rw c.in-Satisfied.is at c.in_ok-loaded.ensures.says) (omega (arith, size, c.if-len-lt2.false)) c.deref.result.now same (steps_of c.delete_true.new.proof) h.1 left h.0 c.delete_true.new.search c.delete_true.ensures.same)
    c.delete_true.ensures.deletes)

pub returns-else-len-lt2-clause-comes : goal.returns-else-len-lt2-clause-comes
returns-else-len-lt2-clause-comes g c =
    let same : c.deref.result.now ≡ false_last c.make_all_available.new.parts.assignment.current c.args.lits.now = c.deref.ensures.value ∙ c.in_ok-loaded.ensures.order in
    comes_true g.W.CountedWrite.seen c.delete_true.result c.args.proof.now c.delete_true.new.proof _ c.args.search.now c.delete_true.new.search c.delete_true.ensures.deletes (returns-else-len-lt2-clause-goes g c)
    (loaded_last c.args.search.now c.args.lits.now (steps_of c.args.proof.now) c.requires.added c.requires.may c.make_all_available.new.parts c.make_all_available.ensures.holds c.make_all_available.ensures.same c.make_all_available.ensures.others c.load.new.parts c.in_ok-loaded.ensures.holds c.in_ok-loaded.ensures.kept c.deref.result.now same)
