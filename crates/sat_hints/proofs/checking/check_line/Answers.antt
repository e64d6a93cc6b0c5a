use Rattle.std.proofs.Common.{refl, sym, subst}
use Rattle.sat_hints.specs.inner.LineReading.{line_of_view, BeginsWithHintLine}
use Rattle.sat_hints.proofs.lemmas.InPlace.{no_line_whole, taken_whole}
use Rattle.sat_hints.proofs.lemmas.Stopping.{judged_whole}
use Rattle.sat_hints.proofs.checking.check_line.Goals as goal

pub returns-in-Some-clause-takes : goal.returns-in-Some-clause-takes
returns-in-Some-clause-takes c =
    let read = subst (λ l. BeginsWithHintLine c.args.bytes.now l c.in-Some.field-0-1.now) (sym c.line.ensures) c.in-Some.ensures.line in
    taken_whole c.take.result c.args.checker.now c.take.new.self c.args.bytes.now c.in-Some.field-0-1.now (line_of_view c.line.result) read c.take.ensures.takes

pub returns-in-Some-clause-on_error : goal.returns-in-Some-clause-on_error
returns-in-Some-clause-on_error c =
    let read = subst (λ l. BeginsWithHintLine c.args.bytes.now l c.in-Some.field-0-1.now) (sym c.line.ensures) c.in-Some.ensures.line in
    judged_whole c.take.result c.args.checker.now c.args.bytes.now c.in-Some.field-0-1.now (line_of_view c.line.result) read c.take.ensures.on_error

pub returns-in-None-clause-takes : goal.returns-in-None-clause-takes
returns-in-None-clause-takes c = λ w lines taken. (no_line_whole c.args.bytes.now c.in-None.ensures.line, refl)
