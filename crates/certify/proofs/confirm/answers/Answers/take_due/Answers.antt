use Rattle.std.proofs.Common.{arith}
use Rattle.std.proofs.lemmas.Grind.{common_steps}
use Rattle.std.proofs.Common.{refl, sym, ◌∙◌}
use Rattle.std.proofs.lemmas.Result.{err_from_is_err_and}
use Rattle.certify.specs.declared.confirm.lines.Wanted.TheVariants as wanted
use Rattle.certify.specs.declared.verdict.Why.TheVariants.{AnswerText}
use Rattle.certify.specs.confirm.Lines.{IsWantedLine, answers_source}
use Rattle.certify.proofs.lemmas.confirm.Lines.{due_taken, due_differs, line_stops}
use Rattle.certify.proofs.confirm.answers.Answers.take_due.Goals as goal

pub returns-in_err-next_line : goal.returns-in_err-next_line
returns-in_err-next_line g c = grind (arith, common_steps, err_from_is_err_and, line_stops)

pub returns-then-is_same : goal.returns-then-is_same
returns-then-is_same g c =
    let due = c.args.self.now.due.items in
    let a = answers_source g.A.CountedRead.seen c.args.answers.now c.args.self.now in
    let b = answers_source g.A.CountedRead.seen c.next_line.new.answers c.next_line.new.self in
    let same = rw c.if-is_same.true at c.is_same.ensures in
    due_taken (IsWantedLine wanted.Due due) a b c.next_line.new.self.lines.line.items c.requires.open_yet due c.requires.line (sym c.deref.ensures.value ∙ same ∙ c.deref-2.ensures.value ∙ c.in_ok-next_line.ensures.due) c.in_ok-next_line.ensures.line

pub returns-then-is_none : goal.returns-then-is_none
returns-then-is_none g c = grind (arith, common_steps, due_differs)

pub returns : goal.returns
returns g c =
    let due = c.args.self.now.due.items in
    let a = answers_source g.A.CountedRead.seen c.args.answers.now c.args.self.now in
    let b = answers_source g.A.CountedRead.seen c.next_line.new.answers c.next_line.new.self in
    let differ = rw c.if-is_same.false at c.is_same.ensures in
    due_differs (IsWantedLine wanted.Due due) a b c.next_line.new.self.lines.line.items c.requires.open_yet due AnswerText refl c.requires.line (λ e. differ (c.deref.ensures.value ∙ e ∙ sym c.in_ok-next_line.ensures.due ∙ sym c.deref-2.ensures.value)) c.in_ok-next_line.ensures.line
