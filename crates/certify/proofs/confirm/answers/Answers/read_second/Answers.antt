use Rattle.std.proofs.Common.{List, ℕ, refl, sym, ◌∙◌, subst}
use Rattle.certify.specs.answers.AnswerForms.{named_literals}
use Rattle.certify.specs.answers.AnswerReading.{WhyNoSecondLine}
use Rattle.certify.specs.declared.confirm.lines.Wanted.TheVariants as wanted
use Rattle.certify.specs.confirm.Lines.{IsWantedLine, answers_source}
use Rattle.certify.proofs.lemmas.confirm.Lines.{has_line, second_read, second_differs}
use Rattle.certify.proofs.confirm.answers.Answers.read_second.Goals as goal

pub returns-in-Ok : goal.returns-in-Ok
returns-in-Ok g c =
    let a = answers_source g.A.CountedRead.seen c.args.answers.now c.args.self.now in
    let b = answers_source g.A.CountedRead.seen c.next_line.new.answers c.next_line.new.self in
    second_read (IsWantedLine (wanted.Second c.args.kind) c.args.self.now.due.items) a b c.next_line.new.self.lines.line.items c.requires.open_yet
    c.args.kind (named_literals c.read_line.new.line.items) c.in-Ok.field-0.now (has_line c.args.kind c.in_default.not-Unknown) c.in-Ok.ensures.0 (sym c.deref.ensures.value ∙ c.in-Ok.ensures.1) c.in_ok-next_line.ensures.line

pub returns-in-Err : goal.returns-in-Err
returns-in-Err g c =
    let a = answers_source g.A.CountedRead.seen c.args.answers.now c.args.self.now in
    let b = answers_source g.A.CountedRead.seen c.next_line.new.answers c.next_line.new.self in
    rw c.answer_stop.ensures
    (second_differs (IsWantedLine (wanted.Second c.args.kind) c.args.self.now.due.items) a b c.next_line.new.self.lines.line.items c.requires.open_yet c.args.kind (named_literals c.read_line.new.line.items) (λ ks f. (ks, (f, refl)))
    c.in-Err.fault (has_line c.args.kind c.in_default.not-Unknown) (subst (λ (xs : List ℕ). WhyNoSecondLine c.args.kind xs c.in-Err.fault) c.deref.ensures.value c.in-Err.ensures) c.in_ok-next_line.ensures.line)
