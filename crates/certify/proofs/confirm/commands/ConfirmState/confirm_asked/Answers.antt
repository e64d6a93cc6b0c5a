use Rattle.std.proofs.Common.{◌+◌, ◌^◌, ◌<◌, Err, [], false, refl, ◌∙◌, arith, rules}
use Rattle.std.proofs.lemmas.Bool.Decides.{nat_tests}
use Rattle.std.proofs.lemmas.Result.{err_from_is_err_and}
use Rattle.sat_base.specs.script.Script.{Ask, Clean}
use Rattle.certify.specs.confirm.VerdictPromises.{command_count}
use Rattle.certify.specs.declared.script.ScriptEnd.TheVariants.{Asked}
use Rattle.certify.specs.confirm.Confirming.{ConfirmsRest, name_table_of}
use Rattle.certify.specs.confirm.ConfirmStates.{answers_source_in, stream_in}
use Rattle.certify.specs.script.Commands.{end_reading}
use Rattle.certify.proofs.lemmas.confirm.Joining.{joins_many, too_many, took_open}
use Rattle.certify.proofs.lemmas.confirm.ConfirmStateMet.{command_end, command_stops}
use Rattle.certify.proofs.confirm.commands.ConfirmState.confirm_asked.Goals as goal

pub returns-in_err-confirm_command : goal.returns-in_err-confirm_command
returns-in_err-confirm_command g c = record {
  confirms =
      let old = c.args.self.now in
      let new = c.confirm_command.new.self in
      let k = c.in_err-confirm_command.ensures.confirms (Ask []) ([], record { within = tt; following = []; whole = refl; limit = refl }, refl) in
      let a = answers_source_in g.A.CountedRead.seen c.args.answers.now old in
      let b = answers_source_in g.A.CountedRead.seen c.confirm_command.new.answers new in
      let s = stream_in g.C.CountedRead.seen c.args.steps.now old.matching in
      let u = stream_in g.C.CountedRead.seen c.confirm_command.new.steps new.matching in
      let p = err_from_is_err_and c.from_residual.result c.from_residual.ensures.1 in
      rw (p.1, p.2) (record {
        same = k.same;
        bound = k.bound;
        goes_on = tt;
        joins = joins_many (2 ^ 64 < old.number + 1 + command_count (end_reading Asked)) false (Err c.in_err-confirm_command.field-0.0) a b s u (λ before following x y. ConfirmsRest (old.number + 1) (end_reading Asked) (name_table_of old.matching) before x)
            (command_stops (old.number + 1) (old.number + 1 + 1) (name_table_of old.matching) (name_table_of new.matching) a b b s u u c.requires.open_yet c.requires.goes_on.open_yet ⊥ (Ask []) ([], Clean) c.in_err-confirm_command.field-0.0 k.joins);
      });
}

pub confirm_over-requires-clause-goes_on : goal.confirm_over-requires-clause-goes_on
confirm_over-requires-clause-goes_on g c = (c.in_ok-confirm_command.ensures.confirms (Ask []) ([], record { within = tt; following = []; whole = refl; limit = refl }, refl)).goes_on

pub confirm_over-requires-clause-open_yet : goal.confirm_over-requires-clause-open_yet
confirm_over-requires-clause-open_yet g c =
    let k = c.in_ok-confirm_command.ensures.confirms (Ask []) ([], record { within = tt; following = []; whole = refl; limit = refl }, refl) in
    took_open (answers_source_in g.A.CountedRead.seen c.args.answers.now c.args.self.now) (answers_source_in g.A.CountedRead.seen c.confirm_command.new.answers c.confirm_command.new.self) c.requires.open_yet k.joins.0

pub returns : goal.returns
returns g c = record {
  confirms =
      let old = c.args.self.now in
      let mid = c.confirm_command.new.self in
      let new = c.confirm_over.new.self in
      let k = c.in_ok-confirm_command.ensures.confirms (Ask []) ([], record { within = tt; following = []; whole = refl; limit = refl }, refl) in
      let over = c.confirm_over.ensures.confirms (old.number + 1 + 1) in
      let a = answers_source_in g.A.CountedRead.seen c.args.answers.now old in
      let d = answers_source_in g.A.CountedRead.seen c.confirm_over.new.answers new in
      let s = stream_in g.C.CountedRead.seen c.args.steps.now old.matching in
      let v = stream_in g.C.CountedRead.seen c.confirm_over.new.steps new.matching in
      record {
        same = over.same ∙ k.same;
        bound = over.bound;
        goes_on = over.goes_on;
        joins = joins_many (2 ^ 64 < old.number + 1 + command_count (end_reading Asked)) false c.confirm_over.result a d s v (λ before following x y. ConfirmsRest (old.number + 1) (end_reading Asked) (name_table_of old.matching) before x)
            (command_end (old.number + 1) (old.number + 1 + 1) (name_table_of old.matching) (name_table_of mid.matching) a (answers_source_in g.A.CountedRead.seen c.confirm_command.new.answers mid) d
            s (stream_in g.C.CountedRead.seen c.confirm_command.new.steps mid.matching) v c.requires.open_yet c.requires.goes_on.open_yet ⊥ (Ask []) ([], Clean) c.confirm_over.result refl k.joins over.joins);
      };
}

pub returns-then-self : goal.returns-then-self
returns-then-self g c = record {
  confirms =
      let old = c.args.self.now in
      let many : 2 ^ 64 < old.number + 1 + 1 = first_of (search rules, grind (arith, nat_tests)) in
      record {
        same = refl;
        bound = c.requires.goes_on.bound;
        goes_on = tt;
        joins = too_many (2 ^ 64 < old.number + 1 + command_count (end_reading Asked)) false (answers_source_in g.A.CountedRead.seen c.args.answers.now old) (stream_in g.C.CountedRead.seen c.args.steps.now old.matching) (λ before following x y. ConfirmsRest (old.number + 1) (end_reading Asked) (name_table_of old.matching) before x) c.requires.goes_on.open_yet many;
      };
}
