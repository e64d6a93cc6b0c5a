use Rattle.std.proofs.Common.{◌+◌, ◌^◌, ◌<◌, sym, subst, false}
use Rattle.certify.specs.confirm.Confirming.{ConfirmsRest, name_table_of}
use Rattle.certify.specs.confirm.ConfirmStates.{answers_source_in, stream_in}
use Rattle.certify.specs.script.Commands.{end_reading}
use Rattle.certify.specs.confirm.ConfirmStates.{CommandCall}
use Rattle.certify.specs.confirm.VerdictPromises.{command_count}
use Rattle.certify.specs.declared.script.ScriptEnd.{ScriptEnd}
use Rattle.certify.specs.declared.script.ScriptEnd.TheVariants.{Clean}
use Rattle.certify.proofs.lemmas.confirm.Joining.{joins_many}
use Rattle.certify.proofs.confirm.commands.ConfirmState.confirm_end.Goals as goal

pub returns-in-Clean : goal.returns-in-Clean
returns-in-Clean g c = record {
  confirms =
      subst (λ (e : ScriptEnd). CommandCall (2 ^ 64 < c.args.self.now.number + 1 + command_count (end_reading e)) false c.confirm_over.result g.A.CountedRead.seen g.C.CountedRead.seen c.args.answers.now c.confirm_over.new.answers c.args.steps.now c.confirm_over.new.steps c.args.self.now c.confirm_over.new.self
      (λ before following u v. ConfirmsRest (c.args.self.now.number + 1) (end_reading e) (name_table_of c.args.self.now.matching) before u)) (sym c.in-Clean.is)
      (
      let A = g.A.CountedRead.seen in
      let C = g.C.CountedRead.seen in
      let old = c.args.self.now in
      let new = c.confirm_over.new.self in
      let over = c.confirm_over.ensures.confirms (old.number + 1) in
      record {
        same = over.same;
        bound = over.bound;
        goes_on = over.goes_on;
        joins = joins_many (2 ^ 64 < old.number + 1 + command_count (end_reading Clean)) false c.confirm_over.result (answers_source_in A c.args.answers.now old) (answers_source_in A c.confirm_over.new.answers new) (stream_in C c.args.steps.now old.matching) (stream_in C c.confirm_over.new.steps new.matching)
            (λ before following u v. ConfirmsRest (old.number + 1) (end_reading Clean) (name_table_of old.matching) before u) over.joins;
      }
      );
}

pub returns-in-Asked : goal.returns-in-Asked
returns-in-Asked g c = record {
  confirms =
      subst (λ (e : ScriptEnd). CommandCall (2 ^ 64 < c.args.self.now.number + 1 + command_count (end_reading e)) false c.confirm_asked.result g.A.CountedRead.seen g.C.CountedRead.seen c.args.answers.now c.confirm_asked.new.answers c.args.steps.now c.confirm_asked.new.steps c.args.self.now c.confirm_asked.new.self
      (λ before following u v. ConfirmsRest (c.args.self.now.number + 1) (end_reading e) (name_table_of c.args.self.now.matching) before u)) (sym c.in-Asked.is) c.confirm_asked.ensures.confirms;
}

pub returns-in-Malformed : goal.returns-in-Malformed
returns-in-Malformed g c = record {
  confirms =
      subst (λ (e : ScriptEnd). CommandCall (2 ^ 64 < c.args.self.now.number + 1 + command_count (end_reading e)) false c.confirm_malformed.result g.A.CountedRead.seen g.C.CountedRead.seen c.args.answers.now c.confirm_malformed.new.answers c.args.steps.now c.confirm_malformed.new.steps c.args.self.now c.confirm_malformed.new.self
      (λ before following u v. ConfirmsRest (c.args.self.now.number + 1) (end_reading e) (name_table_of c.args.self.now.matching) before u)) (sym c.in-Malformed.is) c.confirm_malformed.ensures.confirms;
}
