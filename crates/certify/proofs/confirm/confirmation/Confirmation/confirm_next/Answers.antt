use Rattle.std.proofs.Common.{◌+◌, ◌^◌, ◌≤◌, true, refl, arith, rules}
use Rattle.std.proofs.lemmas.Bool.Decides.{nat_tests}
use Rattle.certify.specs.confirm.Confirming.{ConfirmsCommand, name_table_of}
use Rattle.certify.specs.confirm.ConfirmStates.{answers_source_in, stream_in}
use Rattle.certify.proofs.lemmas.confirm.Joining.{joins_many, too_many}
use Rattle.certify.proofs.confirm.confirmation.Confirmation.confirm_next.Goals as goal

pub returns-clause-confirms : goal.returns-clause-confirms
returns-clause-confirms g c w is =
    let A = g.A.CountedRead.seen in
    let C = g.C.CountedRead.seen in
    let old = c.args.self.now.session in
    let new = c.confirm_command.new.self in
    let k = c.confirm_command.ensures.confirms w (c.command.ensures w is) in
    record {
      same = k.same;
      bound = k.bound;
      goes_on = k.goes_on;
      joins = joins_many (2 ^ 64 ≤ old.number + 1) true c.confirm_command.result (answers_source_in A c.args.answers.now old) (answers_source_in A c.confirm_command.new.answers new) (stream_in C c.args.steps.now old.matching) (stream_in C c.confirm_command.new.steps new.matching)
          (ConfirmsCommand (old.number + 1) w (name_table_of old.matching) (name_table_of new.matching)) k.joins;
    }

pub returns-then-self-clause-confirms : goal.returns-then-self-clause-confirms
returns-then-self-clause-confirms g c w is =
    let A = g.A.CountedRead.seen in
    let C = g.C.CountedRead.seen in
    let old = c.args.self.now.session in
    let many : 2 ^ 64 ≤ old.number + 1 = first_of (search rules, grind (arith, nat_tests)) in
    record {
      same = refl;
      bound = c.requires.goes_on.bound;
      goes_on = tt;
      joins = too_many (2 ^ 64 ≤ old.number + 1) true (answers_source_in A c.args.answers.now old) (stream_in C c.args.steps.now old.matching) (ConfirmsCommand (old.number + 1) w (name_table_of old.matching) (name_table_of old.matching)) c.requires.goes_on.open_yet many;
    }
