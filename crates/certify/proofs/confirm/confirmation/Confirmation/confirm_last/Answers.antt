use Rattle.std.proofs.Common.{ℕ, ◌≡◌, ◌+◌, ◌^◌, ◌<◌, ◌≤◌, Ok, Err, [], ◌∷◌, true, false, ◌∙◌, ap, arith}
use Rattle.std.proofs.lemmas.Result.{err_from_is_err_and}
use Rattle.certify.specs.confirm.Confirming.{ConfirmsRest, ConfirmsCommand, name_table_of}
use Rattle.certify.specs.confirm.ConfirmStates.{answers_source_in, stream_in}
use Rattle.certify.specs.script.Commands.{end_reading}
use Rattle.certify.specs.confirm.VerdictPromises.{command_count}
use Rattle.sat_base.specs.script.Language.{prepend_commands}
use Rattle.certify.proofs.lemmas.confirm.Joining.{joins_as, took_open}
use Rattle.certify.proofs.lemmas.confirm.ConfirmedThrough.{numbers_more}
use Rattle.certify.proofs.lemmas.confirm.ConfirmStateMet.{command_end, command_stops}
use Rattle.certify.proofs.confirm.confirmation.Confirmation.confirm_last.Goals as goal

pub returns-in_err-confirm_next-clause-confirms : goal.returns-in_err-confirm_next-clause-confirms
returns-in_err-confirm_next-clause-confirms g c w is =
    let A = g.A.CountedRead.seen in
    let C = g.C.CountedRead.seen in
    let old = c.args.self.now.session in
    let new = c.confirm_next.new.self.session in
    let k = c.in_err-confirm_next.ensures.confirms w is in
    let a = answers_source_in A c.args.answers.now old in
    let b = answers_source_in A c.confirm_next.new.answers new in
    let s = stream_in C c.args.steps.now old.matching in
    let u = stream_in C c.confirm_next.new.steps new.matching in
    let p = err_from_is_err_and c.from_residual.result c.from_residual.ensures.1 in
    rw (p.1, p.2) (record {
      same = k.same;
      bound = k.bound;
      goes_on = tt;
      joins = command_stops (old.number + 1) (old.number + 1 + 1) (name_table_of old.matching) (name_table_of new.matching) a b b s u u c.requires.open_yet c.requires.goes_on.open_yet (2 ^ 64 < old.number + 1 + command_count (prepend_commands (w ∷ []) (end_reading c.args.end))) w (end_reading c.args.end)
          c.in_err-confirm_next.field-0.0
          (joins_as (2 ^ 64 ≤ old.number + 1) (2 ^ 64 < old.number + 1 + command_count (prepend_commands (w ∷ []) (end_reading c.args.end))) true (Err c.in_err-confirm_next.field-0.0) a b s u (ConfirmsCommand (old.number + 1) w (name_table_of old.matching) (name_table_of new.matching))
          (λ m. let more = numbers_more w (end_reading c.args.end) in omega (arith, m, more)) k.joins);
    })

pub confirm_end-requires-clause-goes_on : goal.confirm_end-requires-clause-goes_on
confirm_end-requires-clause-goes_on g c =
    let w = c.requires.whole in
    (c.in_ok-confirm_next.ensures.confirms w.0 w.1).goes_on

pub confirm_end-requires-clause-open_yet : goal.confirm_end-requires-clause-open_yet
confirm_end-requires-clause-open_yet g c =
    let A = g.A.CountedRead.seen in
    let w = c.requires.whole in
    let k = c.in_ok-confirm_next.ensures.confirms w.0 w.1 in
    took_open (answers_source_in A c.args.answers.now c.args.self.now.session) (answers_source_in A c.confirm_next.new.answers c.confirm_next.new.self.session) c.requires.open_yet k.joins.0

pub returns-clause-confirms : goal.returns-clause-confirms
returns-clause-confirms g c w is =
    let A = g.A.CountedRead.seen in
    let C = g.C.CountedRead.seen in
    let old = c.args.self.now.session in
    let mid = c.confirm_next.new.self.session in
    let new = c.confirm_end.new.self in
    let a = answers_source_in A c.args.answers.now old in
    let b = answers_source_in A c.confirm_next.new.answers mid in
    let d = answers_source_in A c.confirm_end.new.answers new in
    let s = stream_in C c.args.steps.now old.matching in
    let u = stream_in C c.confirm_next.new.steps mid.matching in
    let v = stream_in C c.confirm_end.new.steps new.matching in
    let k = c.in_ok-confirm_next.ensures.confirms w is in
    let over = c.confirm_end.ensures.confirms in
    let M = 2 ^ 64 < old.number + 1 + command_count (prepend_commands (w ∷ []) (end_reading c.args.end)) in
    let more = numbers_more w (end_reading c.args.end) in
    let next : mid.number ≡ old.number + 1 = c.in_ok-confirm_next.ensures.number in
    record {
      same = over.same ∙ k.same;
      bound = over.bound;
      goes_on = over.goes_on;
      joins = command_end (old.number + 1) (mid.number + 1) (name_table_of old.matching) (name_table_of mid.matching) a b d s u v c.requires.open_yet c.requires.goes_on.open_yet M w (end_reading c.args.end) c.confirm_end.result (ap (λ (n : ℕ). n + 1) next)
          (joins_as (2 ^ 64 ≤ old.number + 1) M true (Ok tt) a b s u (ConfirmsCommand (old.number + 1) w (name_table_of old.matching) (name_table_of mid.matching)) (λ m. omega (arith, m, more)) k.joins)
          (joins_as (2 ^ 64 < mid.number + 1 + command_count (end_reading c.args.end)) M false c.confirm_end.result b d u v (λ before following x y. ConfirmsRest (mid.number + 1) (end_reading c.args.end) (name_table_of mid.matching) before x)
          (λ m. omega (arith, m, more, next)) over.joins);
    }
