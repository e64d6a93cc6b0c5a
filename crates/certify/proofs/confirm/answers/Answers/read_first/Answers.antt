use Rattle.std.proofs.Common.{List, ℕ, refl, sym, ◌∙◌, subst}
use Rattle.certify.specs.answers.AnswerReading.{WhyNoFirstLine}
use Rattle.certify.specs.declared.confirm.lines.Wanted.TheVariants as wanted
use Rattle.certify.specs.confirm.Lines.{IsWantedLine, answers_source}
use Rattle.certify.proofs.lemmas.confirm.Lines.{kind_read, kind_differs}
use Rattle.certify.proofs.confirm.answers.Answers.read_first.Goals as goal

pub returns-in-Ok : goal.returns-in-Ok
returns-in-Ok g c =
    let a = answers_source g.A.CountedRead.seen c.args.answers.now c.args.self.now in
    let b = answers_source g.A.CountedRead.seen c.next_line.new.answers c.next_line.new.self in
    kind_read (IsWantedLine wanted.First c.args.self.now.due.items) a b c.next_line.new.self.lines.line.items c.requires.open_yet c.in-Ok.kind c.in-Ok.field-0-1.now (sym c.deref.ensures.value ∙ c.in-Ok.ensures) c.in_ok-next_line.ensures.line

pub returns-in-Err : goal.returns-in-Err
returns-in-Err g c =
    let a = answers_source g.A.CountedRead.seen c.args.answers.now c.args.self.now in
    let b = answers_source g.A.CountedRead.seen c.next_line.new.answers c.next_line.new.self in
    rw c.answer_stop.ensures
    (kind_differs (IsWantedLine wanted.First c.args.self.now.due.items) a b c.next_line.new.self.lines.line.items c.requires.open_yet (λ k. (k, refl)) c.in-Err.fault (subst (λ (xs : List ℕ). WhyNoFirstLine xs c.in-Err.fault) c.deref.ensures.value c.in-Err.ensures) c.in_ok-next_line.ensures.line)
