use Rattle.std.proofs.Common.{[], sym, subst}
use Rattle.sat_checker.specs.CheckerView.{kernel_of}
use Rattle.sat_checker.specs.matching.Expected.{Adds, Unknown}
use Rattle.certify.specs.answers.AnswerForms.{named_literals}
use Rattle.certify.specs.confirm.Streams.{CertificateCall, stream_of}
use Rattle.certify.specs.confirm.Confirming.{MeetsContent}
use Rattle.certify.specs.script.Commands.{kind_of}
use Rattle.certify.proofs.lemmas.confirm.ConfirmStateMet.{expects_one}
use Rattle.certify.proofs.confirm.commands.expect_content.Goals as goal

pub returns-in-Clause-clause-confirms : goal.returns-in-Clause-clause-confirms
returns-in-Clause-clause-confirms g c =
    let C = g.C.CountedRead.seen in
    let old = c.args.certificate.now in
    let new = c.expect.new.self in
    let ls = named_literals c.args.command.literals.now in
    let a = stream_of C c.args.steps.now (kernel_of old.checker) in
    let b = stream_of C c.expect.new.steps (kernel_of new.checker) in
    subst (λ k. CertificateCall c.expect.result a b (MeetsContent (kind_of k) ls old.names new.names)) (sym c.in-Clause.is) (expects_one (λ o ask. Adds ls) Unknown [] tt old.names new.names c.expect.result a b c.expect.ensures.confirms)

pub returns-in-Ask-clause-confirms : goal.returns-in-Ask-clause-confirms
returns-in-Ask-clause-confirms g c =
    let C = g.C.CountedRead.seen in
    let old = c.args.certificate.now in
    let new = c.expect-in-Ask.new.self in
    let ls = named_literals c.args.command.literals.now in
    let a = stream_of C c.args.steps.now (kernel_of old.checker) in
    let b = stream_of C c.expect-in-Ask.new.steps (kernel_of new.checker) in
    subst (λ k. CertificateCall c.expect-in-Ask.result a b (MeetsContent (kind_of k) ls old.names new.names)) (sym c.in-Ask.is) c.expect-in-Ask.ensures.confirms
