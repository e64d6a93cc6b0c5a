use Rattle.std.proofs.Common.{Option, Ok, subst}
use Rattle.std.specs.Prelude.{IfSome}
use Rattle.sat_solver.specs.facade.Proving.{ClosesText, IsCertificate, writer_given}
use Rattle.certify.proofs.lemmas.run.Ended.{closing_caused, closing_fails, closing_fault, closing_has_target}
use Rattle.certify.proofs.lemmas.run.ProofPrefixes.{front_after, front_closed}
use Rattle.certify.proofs.run.end.close_certificate.Goals as goal

pub returns-in-Ok-Some-clause-front : goal.returns-in-Ok-Some-clause-front
returns-in-Ok-Some-clause-front g c =
    let seen = g.C.CountedWrite.seen in
    let old = c.args.solver in
    let new = c.close_proof.new.self in
    front_closed old new (seen c.in-Ok-Some.certificate) (subst (λ (o : Option _). ClosesText (writer_given seen (Ok o)) old new) c.in-Ok-Some.field-0-is c.in-Ok-Some.ensures.text)
    (subst (λ (o : Option _). IfSome o (λ given. IsCertificate (seen given) old new)) c.in-Ok-Some.field-0-is c.in-Ok-Some.ensures.certificate)

pub returns-in-Ok-Some-clause-closes : goal.returns-in-Ok-Some-clause-closes
returns-in-Ok-Some-clause-closes g c =
    let seen = g.C.CountedWrite.seen in
    record {
      takes = subst (λ (o : Option _). ClosesText (writer_given seen (Ok o)) c.args.solver c.close_proof.new.self) c.in-Ok-Some.field-0-is c.in-Ok-Some.ensures.text;
      may = (c.requires.ready.records.allowed, tt);
    }

pub fault_of-requires : goal.fault_of-requires
fault_of-requires g c = closing_fault c.in-Err.error c.args.solver c.close_proof.new.self c.requires.ready c.in-Err.ensures.closes

pub return_writer-requires : goal.return_writer-requires
return_writer-requires g c = closing_has_target c.in-Err.error c.args.solver c.close_proof.new.self c.requires.target c.in-Err.ensures.text.breaks

pub returns-in-Err-clause-closes : goal.returns-in-Err-clause-closes
returns-in-Err-clause-closes g c =
    rw c.fault_of.ensures (
      closing_fails c.in-Err.error c.args.solver c.close_proof.new.self (g.C.CountedWrite.seen c.return_writer.result) c.in-Err.ensures.text.breaks c.return_writer.ensures.may c.return_writer.ensures.gives,
      closing_caused c.in-Err.error c.args.solver c.close_proof.new.self c.requires.ready c.in-Err.ensures.closes c.in-Err.ensures.text.breaks c.in-Err.ensures.checker.0,
    )

pub returns-in-Err-clause-front : goal.returns-in-Err-clause-front
returns-in-Err-clause-front g c =
    front_after c.args.solver c.close_proof.new.self (g.C.CountedWrite.seen c.return_writer.result) c.in-Err.error c.in-Err.ensures.text c.return_writer.ensures.front
