use Rattle.std.proofs.Common.{Ok, Err, refl}
use Rattle.std.proofs.lemmas.Result.{err_from_is_err_and}
use Rattle.certify.specs.answers.AnswerForms.{named_literals}
use Rattle.certify.specs.confirm.Confirming.{name_table_of}
use Rattle.certify.specs.confirm.ConfirmStates.{answers_source_in, stream_in}
use Rattle.certify.specs.confirm.Lines.{answers_source, outcome_of_reply}
use Rattle.certify.proofs.lemmas.confirm.Joining.{took_open}
use Rattle.certify.proofs.lemmas.confirm.ConfirmStateMet.{answer_unread, answer_closes}
use Rattle.certify.proofs.confirm.commands.ConfirmState.confirm_answer.Goals as goal

pub returns-in_err-read-clause-confirms : goal.returns-in_err-read-clause-confirms
returns-in_err-read-clause-confirms g c =
    let old = c.args.self.now in
    let p = err_from_is_err_and c.from_residual.result c.from_residual.ensures.1 in
    rw (p.1, p.2) (record {
      same = refl;
      bound = c.requires.goes_on.bound;
      goes_on = tt;
      joins = answer_unread old.number (named_literals c.args.ask.now) (name_table_of old.matching) (name_table_of old.matching) (answers_source_in g.A.CountedRead.seen c.args.answers.now old) (answers_source g.A.CountedRead.seen c.read.new.answers c.read.new.self) (stream_in g.C.CountedRead.seen c.args.steps.now old.matching)
          c.unsat-settled.result c.unsat-settled.ensures (outcome_of_reply c.read.new.self.reply) c.requires.open_yet c.requires.goes_on.open_yet c.in_err-read.field-0.0 c.in_err-read.ensures;
    })

pub returns-in_err-close-clause-confirms : goal.returns-in_err-close-clause-confirms
returns-in_err-close-clause-confirms g c =
    let old = c.args.self.now in
    let a = answers_source_in g.A.CountedRead.seen c.args.answers.now old in
    let b = answers_source g.A.CountedRead.seen c.read.new.answers c.read.new.self in
    let p = err_from_is_err_and c.from_residual-in_err-close.result c.from_residual-in_err-close.ensures.1 in
    rw (p.1, p.2) (record {
      same = c.in_err-close.ensures.same;
      bound = c.in_err-close.ensures.bound;
      goes_on = tt;
      joins = answer_closes old.number (named_literals c.args.ask.now) (name_table_of old.matching) (name_table_of c.close.new.matching) a b (stream_in g.C.CountedRead.seen c.args.steps.now old.matching) c.unsat-settled.result c.unsat-settled.ensures (outcome_of_reply c.read.new.self.reply)
          c.requires.open_yet c.requires.goes_on.open_yet (Err c.in_err-close.field-0.0) (stream_in g.C.CountedRead.seen c.close.new.steps c.close.new.matching) c.in_err-close.ensures.names c.in_ok-read.ensures c.in_err-close.ensures.confirms (took_open a b c.requires.open_yet c.in_ok-read.ensures.0);
    })

pub returns-clause-confirms : goal.returns-clause-confirms
returns-clause-confirms g c =
    let old = c.args.self.now in
    let a = answers_source_in g.A.CountedRead.seen c.args.answers.now old in
    let b = answers_source g.A.CountedRead.seen c.read.new.answers c.read.new.self in
    record {
      same = c.in_ok-close.ensures.same;
      bound = c.in_ok-close.ensures.bound;
      goes_on = c.in_ok-close.ensures.goes_on;
      joins = answer_closes old.number (named_literals c.args.ask.now) (name_table_of old.matching) (name_table_of c.close.new.matching) a b (stream_in g.C.CountedRead.seen c.args.steps.now old.matching) c.unsat-settled.result c.unsat-settled.ensures (outcome_of_reply c.read.new.self.reply)
          c.requires.open_yet c.requires.goes_on.open_yet (Ok tt) (stream_in g.C.CountedRead.seen c.close.new.steps c.close.new.matching) c.in_ok-close.ensures.names c.in_ok-read.ensures c.in_ok-close.ensures.confirms (took_open a b c.requires.open_yet c.in_ok-read.ensures.0);
    }
