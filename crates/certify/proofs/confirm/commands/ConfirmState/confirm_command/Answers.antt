use Rattle.std.proofs.Common.{refl, ◌∙◌}
use Rattle.std.proofs.lemmas.Result.{err_from_is_err_and}
use Rattle.certify.specs.answers.AnswerForms.{named_literals}
use Rattle.certify.specs.confirm.Confirming.{name_table_of}
use Rattle.certify.specs.confirm.Lines.{answers_source}
use Rattle.certify.specs.confirm.ConfirmStates.{answers_source_in, stream_in}
use Rattle.certify.specs.script.Commands.{kind_of}
use Rattle.sat_base.specs.script.Language.{command_of}
use Rattle.certify.proofs.lemmas.confirm.ConfirmStateMet.{allowed_by, if_ok, lent_whole, names_go, names_stop, refused}
use Rattle.certify.proofs.confirm.commands.ConfirmState.confirm_command.Goals as goal

pub returns-in-Some-clause-confirms : goal.returns-in-Some-clause-confirms
returns-in-Some-clause-confirms g c w is =
    let old = c.args.self.now in
    record {
      same = refl;
      bound = c.requires.goes_on.bound;
      goes_on = if_ok c.refuse.result c.requires.goes_on;
      joins = refused old.number c.args.command w is (name_table_of old.matching) (name_table_of old.matching) (answers_source_in g.A.CountedRead.seen c.args.answers.now old) (answers_source g.A.CountedRead.seen c.refuse.new.answers c.refuse.new.self) (stream_in g.C.CountedRead.seen c.args.steps.now old.matching) c.in-Some.refusal c.refuse.result c.requires.goes_on.open_yet
          (rw c.in-Some.is at c.refusal.ensures.judges) refl c.refuse.ensures;
    }

pub returns-in_err-take_names-clause-confirms : goal.returns-in_err-take_names-clause-confirms
returns-in_err-take_names-clause-confirms g c w is =
    let old = c.args.self.now in
    let new = c.take_names.new.self in
    let kind = kind_of c.args.command.kind in
    let ls = named_literals c.args.command.literals.now in
    let whole = lent_whole c.args.command w (c.refusal.ensures.within c.in_default.is) is in
    let allowed = allowed_by old.matching.names c.args.command w (command_of kind ls) whole is (rw c.in_default.is at c.refusal.ensures.judges) in
    let a = answers_source_in g.A.CountedRead.seen c.args.answers.now old in
    let s = stream_in g.C.CountedRead.seen c.args.steps.now old.matching in
    let t = stream_in g.C.CountedRead.seen c.take_names.new.steps new in
    let p = err_from_is_err_and c.from_residual.result c.from_residual.ensures.1 in
    rw (p.1, p.2) (record {
      same = c.in_err-take_names.ensures.same;
      bound = c.in_err-take_names.ensures.bound;
      goes_on = tt;
      joins = rw whole (names_stop old.number kind ls (name_table_of old.matching) (name_table_of new) a s t c.requires.open_yet allowed new.certificate.names c.in_err-take_names.field-0.0 c.in_err-take_names.ensures.confirms);
    })

pub returns-clause-confirms : goal.returns-clause-confirms
returns-clause-confirms g c w is =
    let old = c.args.self.now in
    let mid = c.take_names.new.self in
    let new = c.confirm_content.new.self in
    let kind = kind_of c.args.command.kind in
    let ls = named_literals c.args.command.literals.now in
    let whole = lent_whole c.args.command w (c.refusal.ensures.within c.in_default.is) is in
    let allowed = allowed_by old.matching.names c.args.command w (command_of kind ls) whole is (rw c.in_default.is at c.refusal.ensures.judges) in
    let k = c.confirm_content.ensures.confirms in
    record {
      same = k.same ∙ c.in_ok-take_names.ensures.same;
      bound = k.bound;
      goes_on = k.goes_on;
      joins = rw whole (names_go old.number kind ls (name_table_of old.matching) (name_table_of new.matching) (answers_source_in g.A.CountedRead.seen c.args.answers.now old) (stream_in g.C.CountedRead.seen c.args.steps.now old.matching) (stream_in g.C.CountedRead.seen c.take_names.new.steps mid) c.requires.open_yet allowed
          (name_table_of mid) (answers_source_in g.A.CountedRead.seen c.confirm_content.new.answers new) (stream_in g.C.CountedRead.seen c.confirm_content.new.steps new.matching) c.confirm_content.result c.requires.goes_on.open_yet c.in_ok-take_names.ensures.changes c.in_ok-take_names.ensures.confirms k.joins);
    }
