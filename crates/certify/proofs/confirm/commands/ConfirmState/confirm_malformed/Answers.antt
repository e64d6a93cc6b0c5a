use Rattle.std.proofs.Common.{◌+◌, ◌^◌, ◌<◌, Err, false, refl, arith, rules}
use Rattle.std.proofs.lemmas.Bool.Decides.{nat_tests}
use Rattle.std.proofs.lemmas.Result.{err_from_is_err_and}
use Rattle.certify.specs.confirm.VerdictPromises.{command_count}
use Rattle.certify.specs.declared.script.ScriptEnd.TheVariants.{Malformed}
use Rattle.certify.specs.confirm.Confirming.{ConfirmsRest, name_table_of}
use Rattle.certify.specs.confirm.ConfirmStates.{answers_source_in, stream_in}
use Rattle.certify.specs.confirm.Lines.{answers_source}
use Rattle.certify.specs.script.Commands.{end_reading}
use Rattle.certify.proofs.lemmas.confirm.Joining.{joins_many, too_many}
use Rattle.certify.proofs.lemmas.confirm.ConfirmStateMet.{malformed_stops, malformed_goes}
use Rattle.certify.proofs.confirm.commands.ConfirmState.confirm_malformed.Goals as goal

pub returns-in_err-refuse_rest : goal.returns-in_err-refuse_rest
returns-in_err-refuse_rest g c = record {
  confirms =
      let A = g.A.CountedRead.seen in
      let C = g.C.CountedRead.seen in
      let old = c.args.self.now in
      let p = err_from_is_err_and c.from_residual.result c.from_residual.ensures.1 in
      rw (p.1, p.2) (record {
        same = refl;
        bound = c.requires.goes_on.bound;
        goes_on = tt;
        joins = joins_many (2 ^ 64 < old.number + 1 + command_count (end_reading Malformed)) false (Err c.in_err-refuse_rest.field-0.0) (answers_source_in A c.args.answers.now old) (answers_source A c.refuse_rest.new.answers c.refuse_rest.new.self) (stream_in C c.args.steps.now old.matching) (stream_in C c.args.steps.now old.matching)
            (λ before following x y. ConfirmsRest (old.number + 1) (end_reading Malformed) (name_table_of old.matching) before x)
            (malformed_stops (old.number + 1) (name_table_of old.matching) (answers_source_in A c.args.answers.now old) (answers_source A c.refuse_rest.new.answers c.refuse_rest.new.self) (stream_in C c.args.steps.now old.matching) c.requires.open_yet c.requires.goes_on.open_yet c.in_err-refuse_rest.field-0.0 c.in_err-refuse_rest.ensures);
      });
}

pub returns : goal.returns
returns g c = record {
  confirms =
      let A = g.A.CountedRead.seen in
      let C = g.C.CountedRead.seen in
      let old = c.args.self.now in
      let over = c.confirm_over.ensures.confirms (old.number + 1) in
      let a = answers_source_in A c.args.answers.now old in
      let d = answers_source_in A c.confirm_over.new.answers c.confirm_over.new.self in
      let s = stream_in C c.args.steps.now old.matching in
      let v = stream_in C c.confirm_over.new.steps c.confirm_over.new.self.matching in
      record {
        same = over.same;
        bound = over.bound;
        goes_on = over.goes_on;
        joins = joins_many (2 ^ 64 < old.number + 1 + command_count (end_reading Malformed)) false c.confirm_over.result a d s v (λ before following x y. ConfirmsRest (old.number + 1) (end_reading Malformed) (name_table_of old.matching) before x)
            (malformed_goes (old.number + 1) (name_table_of old.matching) a (answers_source A c.refuse_rest.new.answers c.refuse_rest.new.self) s c.requires.open_yet c.requires.goes_on.open_yet d v c.confirm_over.result c.in_ok-refuse_rest.ensures over.joins);
      };
}

pub returns-then-self : goal.returns-then-self
returns-then-self g c = record {
  confirms =
      let A = g.A.CountedRead.seen in
      let C = g.C.CountedRead.seen in
      let old = c.args.self.now in
      let many : 2 ^ 64 < old.number + 1 + 1 = first_of (search rules, grind (arith, nat_tests)) in
      record {
        same = refl;
        bound = c.requires.goes_on.bound;
        goes_on = tt;
        joins = too_many (2 ^ 64 < old.number + 1 + command_count (end_reading Malformed)) false (answers_source_in A c.args.answers.now old) (stream_in C c.args.steps.now old.matching) (λ before following x y. ConfirmsRest (old.number + 1) (end_reading Malformed) (name_table_of old.matching) before x) c.requires.goes_on.open_yet many;
      };
}
