use Rattle.std.proofs.lemmas.Result.{err_from_is_err_and}
use Rattle.certify.specs.confirm.Confirming.{name_table_of}
use Rattle.certify.specs.confirm.ConfirmStates.{answers_source_in, stream_in}
use Rattle.certify.specs.confirm.Lines.{answers_source}
use Rattle.certify.proofs.lemmas.confirm.ConfirmStateMet.{end_stops, end_goes, if_ok}
use Rattle.certify.proofs.confirm.commands.ConfirmState.confirm_over.Goals as goal

pub returns-in_err-expect : goal.returns-in_err-expect
returns-in_err-expect g c = record {
  confirms = λ n.
      let A = g.A.CountedRead.seen in
      let C = g.C.CountedRead.seen in
      let old = c.args.self.now in
      let new = record old.matching { certificate = c.expect.new.self } in
      let p = err_from_is_err_and c.from_residual.result c.from_residual.ensures.1 in
      rw (p.1, p.2) (record {
        same = c.in_err-expect.ensures.same;
        bound = c.in_err-expect.ensures.bound;
        goes_on = tt;
        joins = end_stops n (name_table_of old.matching) c.expect.new.self.names (answers_source_in A c.args.answers.now old) (stream_in C c.args.steps.now old.matching) (stream_in C c.expect.new.steps new) c.requires.open_yet c.in_err-expect.field-0.0 c.in_err-expect.ensures.confirms;
      });
}

pub returns : goal.returns
returns g c = record {
  confirms = λ n.
      let A = g.A.CountedRead.seen in
      let C = g.C.CountedRead.seen in
      let old = c.args.self.now in
      let new = record old.matching { certificate = c.expect.new.self } in
      record {
        same = c.in_ok-expect.ensures.same;
        bound = c.in_ok-expect.ensures.bound;
        goes_on = if_ok c.expect_over.result c.in_ok-expect.ensures.goes_on;
        joins = end_goes n (name_table_of old.matching) c.expect.new.self.names (answers_source_in A c.args.answers.now old) (stream_in C c.args.steps.now old.matching) (stream_in C c.expect.new.steps new) c.requires.open_yet (answers_source A c.expect_over.new.answers c.expect_over.new.self) c.expect_over.result
            c.requires.goes_on.open_yet c.in_ok-expect.ensures.goes_on.open_yet c.in_ok-expect.ensures.confirms c.expect_over.ensures;
      };
}
