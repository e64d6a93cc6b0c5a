use Rattle.std.proofs.Common.{arith}
use Rattle.std.proofs.lemmas.Grind.{common_steps}
use Rattle.std.proofs.Common.{◌+◌, Ok, sym, subst}
use Rattle.sat_checker.specs.CheckerView.{kernel_of}
use Rattle.certify.specs.confirm.Streams.{CertificateCall, stream_of}
use Rattle.certify.specs.confirm.Naming.{MeetsAll, hiding_step_of}
use Rattle.certify.specs.script.Commands.{kind_of}
use Rattle.certify.specs.declared.script.CommandKind.{CommandKind}
use Rattle.certify.proofs.lemmas.confirm.Naming.{all_none, meets_one}
use Rattle.certify.proofs.confirm.names.expect_hidden.Goals as goal

pub returns-in-Hide-clause-confirms : goal.returns-in-Hide-clause-confirms
returns-in-Hide-clause-confirms g c = grind (arith, common_steps, meets_one)

pub returns-in-Clause-clause-confirms : goal.returns-in-Clause-clause-confirms
returns-in-Clause-clause-confirms g c =
    let a = stream_of g.R.CountedRead.seen c.args.steps.now (kernel_of c.args.certificate.now.checker) in
    let names = c.args.certificate.now.names in
    subst (λ (k : CommandKind). CertificateCall (Ok tt) a a (MeetsAll (hiding_step_of (kind_of k) (c.args.name + 1)) names names)) (sym c.in-Clause.is) (all_none names a)

pub returns-in-Ask-clause-confirms : goal.returns-in-Ask-clause-confirms
returns-in-Ask-clause-confirms g c =
    let a = stream_of g.R.CountedRead.seen c.args.steps.now (kernel_of c.args.certificate.now.checker) in
    let names = c.args.certificate.now.names in
    subst (λ (k : CommandKind). CertificateCall (Ok tt) a a (MeetsAll (hiding_step_of (kind_of k) (c.args.name + 1)) names names)) (sym c.in-Ask.is) (all_none names a)

pub returns-in-Witness-clause-confirms : goal.returns-in-Witness-clause-confirms
returns-in-Witness-clause-confirms g c =
    let a = stream_of g.R.CountedRead.seen c.args.steps.now (kernel_of c.args.certificate.now.checker) in
    let names = c.args.certificate.now.names in
    subst (λ (k : CommandKind). CertificateCall (Ok tt) a a (MeetsAll (hiding_step_of (kind_of k) (c.args.name + 1)) names names)) (sym c.in-Witness.is) (all_none names a)

pub returns-in-Sample-clause-confirms : goal.returns-in-Sample-clause-confirms
returns-in-Sample-clause-confirms g c =
    let a = stream_of g.R.CountedRead.seen c.args.steps.now (kernel_of c.args.certificate.now.checker) in
    let names = c.args.certificate.now.names in
    subst (λ (k : CommandKind). CertificateCall (Ok tt) a a (MeetsAll (hiding_step_of (kind_of k) (c.args.name + 1)) names names)) (sym c.in-Sample.is) (all_none names a)
