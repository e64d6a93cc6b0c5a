use Rattle.std.proofs.Common.{arith}
use Rattle.std.proofs.lemmas.Grind.{common_steps}
use Rattle.std.proofs.Common.{sym, ◌∙◌, ap}
use Rattle.std.proofs.lemmas.Result.{err_from_is_err_and}
use Rattle.certify.specs.answers.AnswerForms.{named_literals}
use Rattle.certify.specs.declared.verdict.Why.TheVariants.{AnswerDiffers}
use Rattle.certify.specs.confirm.Lines.{answers_source, outcome_of_reply}
use Rattle.certify.proofs.lemmas.confirm.Lines.{reply_without_first, reply_other, reply_without_second, reply_more, reply_read, unnamed}
use Rattle.certify.proofs.confirm.answers.Answers.read.Goals as goal

pub returns-in_err-kind : goal.returns-in_err-kind
returns-in_err-kind g c = grind (arith, common_steps, err_from_is_err_and, reply_without_first)

pub returns-then-rules_out_kind : goal.returns-then-rules_out_kind
returns-then-rules_out_kind g c = grind (arith, common_steps, reply_other)

pub returns-in_err-read_second : goal.returns-in_err-read_second
returns-in_err-read_second g c =
    let a = answers_source g.A.CountedRead.seen c.args.answers.now c.args.self.now in
    let b = answers_source g.A.CountedRead.seen c.read_first.new.answers c.read_first.new.self in
    let d = answers_source g.A.CountedRead.seen c.read_second.new.answers c.read_second.new.self in
    let reply = c.read_second.new.self.reply in
    let p = err_from_is_err_and c.from_residual-in_err-read_second.result c.from_residual-in_err-read_second.ensures.1 in
    rw (p.1, p.2) (reply_without_second c.in_ok-kind.kind a b c.args.settled c.requires.open_yet c.in_ok-kind.ensures c.in_err-read_second.field-0.0 d (named_literals reply.lits.items) (outcome_of_reply reply) c.in_err-read_second.ensures)

pub returns-then-rules_out_literals : goal.returns-then-rules_out_literals
returns-then-rules_out_literals g c =
    let a = answers_source g.A.CountedRead.seen c.args.answers.now c.args.self.now in
    let b = answers_source g.A.CountedRead.seen c.read_first.new.answers c.read_first.new.self in
    let d = answers_source g.A.CountedRead.seen c.read_second.new.answers c.read_second.new.self in
    let reply = c.read_second.new.self.reply in
    let more = rw c.if-rules_out_literals.true at c.rules_out_literals.ensures in
    reply_more c.in_ok-kind.kind a b c.args.settled c.requires.open_yet c.in_ok-kind.ensures d (named_literals reply.lits.items) c.in_ok-read_second.ensures AnswerDiffers (outcome_of_reply reply) (more.0, λ e. more.1 (c.deref.ensures.value ∙ unnamed reply.lits.items e))

pub returns : goal.returns
returns g c =
    let a = answers_source g.A.CountedRead.seen c.args.answers.now c.args.self.now in
    let b = answers_source g.A.CountedRead.seen c.read_first.new.answers c.read_first.new.self in
    let d = answers_source g.A.CountedRead.seen c.read_second.new.answers c.read_second.new.self in
    let more = rw c.if-rules_out_literals.false at c.rules_out_literals.ensures in
    reply_read c.in_ok-kind.kind a b c.args.settled c.requires.open_yet c.in_ok-kind.ensures d (named_literals c.read_second.new.self.reply.lits.items) c.in_ok-read_second.ensures (rw c.if-rules_out_kind.false at c.rules_out_kind.ensures) (λ e. ap named_literals (sym c.deref.ensures.value ∙ more e))
