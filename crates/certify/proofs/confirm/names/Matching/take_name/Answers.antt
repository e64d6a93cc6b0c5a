use Rattle.std.proofs.Common.{◌+◌, Ok, Err}
use Rattle.std.proofs.lemmas.Result.{err_from_is_err_and}
use Rattle.sat_checker.specs.CheckerView.{kernel_of}
use Rattle.certify.specs.confirm.Streams.{stream_of}
use Rattle.certify.specs.script.Commands.{kind_of}
use Rattle.certify.proofs.lemmas.confirm.Naming.{name_stop, name_goes, name_short}
use Rattle.certify.proofs.confirm.names.Matching.take_name.Goals as goal

pub returns-in_err-expect_new-clause-confirms : goal.returns-in_err-expect_new-clause-confirms
returns-in_err-expect_new-clause-confirms g c =
    let old = c.args.self.now in
    let new = c.new_names-new in
    let a = stream_of g.R.CountedRead.seen c.args.steps.now (kernel_of old.certificate.checker) in
    let b = stream_of g.R.CountedRead.seen c.expect_new.new.steps (kernel_of c.expect_new.new.certificate.checker) in
    let p = err_from_is_err_and c.from_residual.result c.from_residual.ensures.1 in
    rw (p.1, p.2) (name_stop (kind_of c.args.kind) (c.args.name + 1) old.names new.result.count (new.result.first + 1) new.ensures.names old.certificate.names c.expect_new.new.certificate.names c.expect_new.new.certificate.names c.in_err-expect_new.field-0.0 a b c.in_err-expect_new.ensures.confirms)

pub returns-in_err-expect_hidden-clause-confirms : goal.returns-in_err-expect_hidden-clause-confirms
returns-in_err-expect_hidden-clause-confirms g c =
    let old = c.args.self.now in
    let new = c.new_names-new in
    let a = stream_of g.R.CountedRead.seen c.args.steps.now (kernel_of old.certificate.checker) in
    let b = stream_of g.R.CountedRead.seen c.expect_new.new.steps (kernel_of c.expect_new.new.certificate.checker) in
    let d = stream_of g.R.CountedRead.seen c.expect_hidden.new.steps (kernel_of c.expect_hidden.new.certificate.checker) in
    let p = err_from_is_err_and c.from_residual-in_err-expect_hidden.result c.from_residual-in_err-expect_hidden.ensures.1 in
    rw (p.1, p.2) (name_goes (kind_of c.args.kind) (c.args.name + 1) old.names new.result.count (new.result.first + 1) new.ensures.names old.certificate.names c.expect_hidden.new.certificate.names c.expect_new.new.certificate.names (Err c.in_err-expect_hidden.field-0.0) a b d c.requires.goes_on.open_yet c.in_ok-expect_new.ensures.confirms c.in_err-expect_hidden.ensures.confirms)

pub returns-in_err-take-clause-confirms : goal.returns-in_err-take-clause-confirms
returns-in_err-take-clause-confirms g c =
    let old = c.args.self.now in
    let new = c.new_names-new in
    let a = stream_of g.R.CountedRead.seen c.args.steps.now (kernel_of old.certificate.checker) in
    let b = stream_of g.R.CountedRead.seen c.expect_new.new.steps (kernel_of c.expect_new.new.certificate.checker) in
    let d = stream_of g.R.CountedRead.seen c.expect_hidden.new.steps (kernel_of c.expect_hidden.new.certificate.checker) in
    let p = err_from_is_err_and c.from_residual-in_err-take.result c.from_residual-in_err-take.ensures.1 in
    rw (p.1, p.2) (name_short (kind_of c.args.kind) (c.args.name + 1) old.names new.result.count (new.result.first + 1) new.ensures.names old.certificate.names c.expect_hidden.new.certificate.names c.expect_new.new.certificate.names a b d c.requires.goes_on.open_yet c.in_ok-expect_new.ensures.confirms c.in_ok-expect_hidden.ensures.confirms)

pub returns-clause-confirms : goal.returns-clause-confirms
returns-clause-confirms g c =
    let old = c.args.self.now in
    let new = c.new_names-new in
    let a = stream_of g.R.CountedRead.seen c.args.steps.now (kernel_of old.certificate.checker) in
    let b = stream_of g.R.CountedRead.seen c.expect_new.new.steps (kernel_of c.expect_new.new.certificate.checker) in
    let d = stream_of g.R.CountedRead.seen c.expect_hidden.new.steps (kernel_of c.expect_hidden.new.certificate.checker) in
    name_goes (kind_of c.args.kind) (c.args.name + 1) old.names new.result.count (new.result.first + 1) new.ensures.names old.certificate.names c.expect_hidden.new.certificate.names c.expect_new.new.certificate.names (Ok tt) a b d c.requires.goes_on.open_yet c.in_ok-expect_new.ensures.confirms c.in_ok-expect_hidden.ensures.confirms
