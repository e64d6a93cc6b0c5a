use Rattle.std.proofs.Common.{Result, subst}
use Rattle.certify.specs.declared.fault.RunFault.{RunFault}
use Rattle.certify.specs.run.Ending.{EndsCertificate}
use Rattle.certify.proofs.lemmas.run.Ended.{closing_keeps}
use Rattle.certify.proofs.run.end.finish.Goals as goal

pub returns-in-Err-clause-finishes : goal.returns-in-Err-clause-finishes
returns-in-Err-clause-finishes g c =
    let given = g.C.CountedWrite.seen c.close_certificate-certificate.result.0 in
    closing_keeps c.in-Err.fault c.args.solver given (g.A.CountedWrite.seen c.args.answers.now)
    (subst (λ (r : Result (Unit {0}) RunFault). EndsCertificate r c.args.solver given) c.in-Err.is c.close_certificate-certificate.ensures.closes)
