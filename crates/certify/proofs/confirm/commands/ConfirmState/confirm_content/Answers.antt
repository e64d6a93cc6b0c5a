use Rattle.std.proofs.Common.{Ok, refl, sym, ◌∙◌, subst, true}
use Rattle.std.proofs.lemmas.Result.{err_from_is_err_and}
use Rattle.certify.specs.answers.AnswerForms.{named_literals}
use Rattle.certify.specs.confirm.Confirming.{ConfirmsContent, MeetsContent, name_table_of}
use Rattle.certify.specs.confirm.CallResults.{AnswersAndCertificateCall}
use Rattle.certify.specs.confirm.ConfirmStates.{answers_source_in, stream_in}
use Rattle.certify.specs.script.Commands.{kind_of}
use Rattle.certify.specs.declared.script.CommandKind.{CommandKind}
use Rattle.certify.specs.confirm.Streams.{CertificateCall}
use Rattle.certify.proofs.lemmas.confirm.ConfirmStateMet.{content_stops, content_goes, content_asked, not_ask}
use Rattle.certify.proofs.confirm.commands.ConfirmState.confirm_content.Goals as goal

pub returns-in_err-expect_content-clause-confirms : goal.returns-in_err-expect_content-clause-confirms
returns-in_err-expect_content-clause-confirms g c =
    let A = g.A.CountedRead.seen in
    let C = g.C.CountedRead.seen in
    let old = c.args.self.now in
    let mid = record old.matching { certificate = c.expect_content.new.certificate } in
    let p = err_from_is_err_and c.from_residual.result c.from_residual.ensures.1 in
    rw (p.1, p.2) (record {
      same = c.in_err-expect_content.ensures.same;
      bound = c.in_err-expect_content.ensures.bound;
      goes_on = tt;
      joins = content_stops old.number (kind_of c.args.command.kind) (named_literals c.args.command.literals.now) (name_table_of old.matching) (name_table_of mid) (answers_source_in A c.args.answers.now old) (stream_in C c.args.steps.now old.matching) (stream_in C c.expect_content.new.steps mid)
          c.requires.open_yet (name_table_of mid) c.in_err-expect_content.field-0.0 refl c.in_err-expect_content.ensures.confirms;
    })

pub returns-in-Ask-clause-confirms : goal.returns-in-Ask-clause-confirms
returns-in-Ask-clause-confirms g c =
    let A = g.A.CountedRead.seen in
    let C = g.C.CountedRead.seen in
    let old = c.args.self.now in
    let mid = record old.matching { certificate = c.expect_content.new.certificate } in
    let ls = named_literals c.args.command.literals.now in
    let next = c.confirm_answer.new.self in
    let a = answers_source_in A c.args.answers.now old in
    let b = answers_source_in A c.confirm_answer.new.answers next in
    let s = stream_in C c.args.steps.now old.matching in
    let t = stream_in C c.expect_content.new.steps mid in
    let u = stream_in C c.confirm_answer.new.steps next.matching in
    let k = c.confirm_answer.ensures.confirms in
    record {
      same = k.same ∙ c.in_ok-expect_content.ensures.same;
      bound = k.bound;
      goes_on = k.goes_on;
      joins = subst (λ (d : CommandKind). AnswersAndCertificateCall ⊥ true c.confirm_answer.result a b s u (ConfirmsContent old.number (kind_of d) ls (name_table_of old.matching) (name_table_of next.matching))) (sym c.in-Ask.is)
          (content_asked old.number ls (name_table_of old.matching) (name_table_of mid) (name_table_of next.matching) a b s t u c.confirm_answer.result c.requires.open_yet c.requires.goes_on.open_yet refl
          (subst (λ (d : CommandKind). CertificateCall (Ok tt) s t (MeetsContent (kind_of d) ls old.matching.certificate.names mid.certificate.names)) c.in-Ask.is c.in_ok-expect_content.ensures.confirms) k.joins);
    }

pub returns-clause-confirms : goal.returns-clause-confirms
returns-clause-confirms g c =
    let A = g.A.CountedRead.seen in
    let C = g.C.CountedRead.seen in
    let old = c.args.self.now in
    let mid = record old.matching { certificate = c.expect_content.new.certificate } in
    record {
      same = c.in_ok-expect_content.ensures.same;
      bound = c.in_ok-expect_content.ensures.bound;
      goes_on = c.in_ok-expect_content.ensures.goes_on;
      joins = content_goes old.number (kind_of c.args.command.kind) (named_literals c.args.command.literals.now) (name_table_of old.matching) (name_table_of mid) (answers_source_in A c.args.answers.now old) (stream_in C c.args.steps.now old.matching) (stream_in C c.expect_content.new.steps mid)
          c.requires.open_yet (not_ask c.args.command.kind c.in_default.not-Ask) refl c.in_ok-expect_content.ensures.confirms;
    }
