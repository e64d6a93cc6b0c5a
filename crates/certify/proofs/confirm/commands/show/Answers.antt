use Rattle.std.proofs.Common.{Ok, sym, ◌∙◌, ap, subst}
use Rattle.sat_checker.specs.matching.Expected.{Sat, Unsat}
use Rattle.certify.specs.answers.AnswerForms.{named_literals}
use Rattle.certify.specs.answers.AnswerReading.{outcome_of}
use Rattle.certify.specs.confirm.Streams.{CertificateCall}
use Rattle.certify.specs.confirm.Confirming.{MeetsShowing}
use Rattle.certify.specs.confirm.ConfirmStates.{stream_in}
use Rattle.certify.proofs.lemmas.confirm.ConfirmStateMet.{shows_model, shows_core, shows_nothing}
use Rattle.certify.proofs.confirm.commands.show.Goals as goal

pub returns-in-Sat-clause-confirms : goal.returns-in-Sat-clause-confirms
returns-in-Sat-clause-confirms g c =
    let m = c.args.matching.now in
    let ask = named_literals c.args.ask.now in
    let a = stream_in g.C.CountedRead.seen c.args.steps.now m in
    let b = stream_in g.C.CountedRead.seen c.expect.new.steps (record m { certificate = c.expect.new.self }) in
    let same = ap (λ k. outcome_of k (named_literals c.args.reply.now.lits.items)) c.in-Sat.is ∙ ap (λ xs. Sat (named_literals xs)) (sym c.as_slice-line.ensures.value) in
    subst (λ o. CertificateCall c.expect.result a b (MeetsShowing m.names ask o m.certificate.names c.expect.new.self.names)) (sym same)
    (shows_model m.names ask (named_literals c.as_slice-line.result.now) m.certificate.names c.expect.new.self.names c.expect.result a b c.expect.ensures.confirms)

pub returns-in-Unsat-clause-confirms : goal.returns-in-Unsat-clause-confirms
returns-in-Unsat-clause-confirms g c =
    let m = c.args.matching.now in
    let ask = named_literals c.args.ask.now in
    let a = stream_in g.C.CountedRead.seen c.args.steps.now m in
    let b = stream_in g.C.CountedRead.seen c.expect-in-Unsat.new.steps (record m { certificate = c.expect-in-Unsat.new.self }) in
    let same = ap (λ k. outcome_of k (named_literals c.args.reply.now.lits.items)) c.in-Unsat.is ∙ ap (λ xs. Unsat (named_literals xs)) (sym c.as_slice-line.ensures.value) in
    subst (λ o. CertificateCall c.expect-in-Unsat.result a b (MeetsShowing m.names ask o m.certificate.names c.expect-in-Unsat.new.self.names)) (sym same)
    (shows_core m.names ask (named_literals c.as_slice-line.result.now) m.certificate.names c.expect-in-Unsat.new.self.names c.expect-in-Unsat.result a b c.expect-in-Unsat.ensures.confirms)

pub returns-in-Unknown-clause-confirms : goal.returns-in-Unknown-clause-confirms
returns-in-Unknown-clause-confirms g c =
    let m = c.args.matching.now in
    let ask = named_literals c.args.ask.now in
    let a = stream_in g.C.CountedRead.seen c.args.steps.now m in
    let same = ap (λ k. outcome_of k (named_literals c.args.reply.now.lits.items)) c.in-Unknown.is in
    subst (λ o. CertificateCall (Ok tt) a a (MeetsShowing m.names ask o m.certificate.names m.certificate.names)) (sym same) (shows_nothing m.names ask m.certificate.names a)
