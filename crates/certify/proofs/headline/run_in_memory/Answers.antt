use Rattle.std.proofs.Common.{ℕ, ◌∙◌, Global, Some, Vec, ap, sym}
use Rattle.sat_base.specs.device.Counting.{writer_of}
use Rattle.sat_base.specs.device.Device.{Writer}
use Rattle.certify.specs.declared.fault.RunFault.TheVariants as fault
use Rattle.certify.proofs.lemmas.program.Failing.{reads_to_failure}
use Rattle.certify.proofs.lemmas.program.Results.{unless_err}
use Rattle.certify.proofs.lemmas.program.WrittenRuns.{run_taken}
use Rattle.certify.proofs.headline.run_in_memory.Goals as goal

pub returns-in-Ok-clause-wrote : goal.returns-in-Ok-clause-wrote
returns-in-Ok-clause-wrote g c =
    let contents = λ (v : Vec ℕ Global). Some v.items in
    let before = λ (w : Writer). w.contents in
    run_taken c.args.budget c.in-Ok.summary (g.S.CountedRead.seen c.args.script.now) (g.S.CountedRead.seen c.run.new.script)
    (writer_of contents c.new-answers.result) (writer_of contents c.run.new.answers) (writer_of contents c.new-certificate.result) (writer_of contents c.run.new.certificate)
    c.into_inner.result.items c.into_inner-in-Ok.result.items
    (ap before (c.new-answers.ensures.writer contents) ∙ ap Some c.new.ensures.items) (ap contents (sym c.into_inner.ensures))
    (ap before (c.new-certificate.ensures.writer contents) ∙ ap Some c.new-2.ensures.items) (ap contents (sym c.into_inner-in-Ok.ensures))
    c.in-Ok.ensures.guaranteed

pub returns-in-Ok-clause-kept : goal.returns-in-Ok-clause-kept
returns-in-Ok-clause-kept g c = unless_err c.run.result c.in-Ok.summary fault.ScriptRead _ c.in-Ok.is c.run.ensures.kept_script

pub returns-in-Ok-clause-reads : goal.returns-in-Ok-clause-reads
returns-in-Ok-clause-reads g c = reads_to_failure _ _ _ c.run.ensures.script_read c.run.ensures.kept_script c.run.ensures.reads

pub returns-in-Err-clause-reads : goal.returns-in-Err-clause-reads
returns-in-Err-clause-reads g c = reads_to_failure _ _ _ c.run.ensures.script_read c.run.ensures.kept_script c.run.ensures.reads
