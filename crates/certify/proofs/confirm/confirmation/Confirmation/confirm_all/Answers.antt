use Rattle.std.proofs.Common.{arith}
use Rattle.std.proofs.lemmas.Grind.{common_steps}
use Rattle.std.proofs.Common.{◌+◌, ℕ, true, ◌∙◌, ap, refl}
use Rattle.sat_base.specs.script.Language.{reading}
use Rattle.std.proofs.lemmas.Result.{err_from_is_err_and}
use Rattle.certify.specs.confirm.ConfirmStates.{answers_source_in}
use Rattle.certify.specs.confirm.ConfirmedScript.{script_source, confirm_place}
use Rattle.certify.specs.script.LastPiece.{source_in}
use Rattle.certify.proofs.lemmas.confirm.Streams.{passes_fewer}
use Rattle.certify.proofs.lemmas.confirm.Joining.{took_open}
use Rattle.certify.proofs.lemmas.confirm.ConfirmedThrough.{through_none, unread, one_more, stops, ends_so, ends_last}
use Rattle.certify.proofs.lemmas.script.LastChunks.{stops_on, stops_valid}
use Rattle.certify.proofs.confirm.confirmation.Confirmation.confirm_all.Goals as goal

pub loop-next-init : goal.loop-next-init
loop-next-init g c =
    let old = confirm_place g.S.CountedRead.seen g.A.CountedRead.seen g.C.CountedRead.seen c.args.script.now c.args.answers.now c.args.steps.now c.args.self.now in
    record {
      same = refl;
      goes_on = c.requires.goes_on;
      open_yet = c.requires.open_yet;
      script_open = c.requires.script_open;
      through = through_none reading old c.args.self.now.script.reader c.requires.reads;
      stops = λ start h. h;
    }

pub returns-in-Err-clause-ends : goal.returns-in-Err-clause-ends
returns-in-Err-clause-ends g c =
    rw c.unread_script.ensures (unread _ _ _ _ c.next.new.self.reader c.loop-next.invariant.through c.requires.script_open c.requires.open_yet c.requires.goes_on.open_yet c.in-Err.error (source_in g.S.CountedRead.seen c.next.new.script c.next.new.self.ahead) c.in-Err.ensures.arrives)

pub returns-in-End-clause-ends : goal.returns-in-End-clause-ends
returns-in-End-clause-ends g c =
    let new = confirm_place g.S.CountedRead.seen g.A.CountedRead.seen g.C.CountedRead.seen c.next.new.script c.confirm_end.new.answers c.confirm_end.new.steps (record c.loop-next.self { script = c.next.new.self; session = c.confirm_end.new.self }) in
    ends_so _ _ _ _ c.next.new.self.reader c.loop-next.invariant.through c.requires.script_open c.requires.open_yet c.requires.goes_on.open_yet new c.in-End.end c.confirm_end.result (rw c.in-End.is at c.in-Ok.ensures.arrives) c.confirm_end.ensures.confirms.joins

pub confirm_last-requires-clause-whole : goal.confirm_last-requires-clause-whole
confirm_last-requires-clause-whole g c = let k = (rw c.in-Last.is at c.in-Ok.ensures.arrives).2 true c.loop-next.invariant.through.left c.loop-next.invariant.through.means in (k.0, k.1)

pub returns-in-Last-clause-ends : goal.returns-in-Last-clause-ends
returns-in-Last-clause-ends g c =
    let new = confirm_place g.S.CountedRead.seen g.A.CountedRead.seen g.C.CountedRead.seen c.next.new.script c.confirm_last.new.answers c.confirm_last.new.steps (record c.confirm_last.new.self { script = c.next.new.self }) in
    rw c.confirm_last.ensures.script (ends_last _ _ _ _ c.next.new.self.reader c.loop-next.invariant.through c.requires.script_open c.requires.open_yet c.requires.goes_on.open_yet new c.in-Last.end c.confirm_last.result (rw c.in-Last.is at c.in-Ok.ensures.arrives) (λ w is. (c.confirm_last.ensures.confirms w is).joins))

pub returns-in-Last-clause-same : goal.returns-in-Last-clause-same
returns-in-Last-clause-same g c =
    let k = (rw c.in-Last.is at c.in-Ok.ensures.arrives).2 true c.loop-next.invariant.through.left c.loop-next.invariant.through.means in
    (c.confirm_last.ensures.confirms k.0 k.1).same ∙ c.loop-next.invariant.same

pub confirm_next-requires-clause-whole : goal.confirm_next-requires-clause-whole
confirm_next-requires-clause-whole g c =
    let k = (rw c.in-Command.is at c.in-Ok.ensures.arrives).3 true c.loop-next.invariant.through.left c.loop-next.invariant.through.means in
    (k.command, k.whole)

pub returns-in_err-confirm_next-in-Command-clause-ends : goal.returns-in_err-confirm_next-in-Command-clause-ends
returns-in_err-confirm_next-in-Command-clause-ends g c =
    let new = confirm_place g.S.CountedRead.seen g.A.CountedRead.seen g.C.CountedRead.seen c.next.new.script c.confirm_next.new.answers c.confirm_next.new.steps (record c.confirm_next.new.self { script = c.next.new.self }) in
    let p = err_from_is_err_and c.from_residual.result c.from_residual.ensures.1 in
    rw (p.1, p.2, c.in_err-confirm_next-in-Command.ensures.script) (stops _ _ _ _ c.next.new.self.reader c.loop-next.invariant.through c.requires.script_open c.requires.open_yet c.requires.goes_on.open_yet new (rw c.in-Command.is at c.in-Ok.ensures.arrives) c.in_err-confirm_next-in-Command.field-0.0 (λ w is. (c.in_err-confirm_next-in-Command.ensures.confirms w is).joins))

pub returns-in_err-confirm_next-in-Command-clause-same : goal.returns-in_err-confirm_next-in-Command-clause-same
returns-in_err-confirm_next-in-Command-clause-same g c =
    let k = (rw c.in-Command.is at c.in-Ok.ensures.arrives).3 true c.loop-next.invariant.through.left c.loop-next.invariant.through.means in
    (c.in_err-confirm_next-in-Command.ensures.confirms k.command k.whole).same ∙ c.loop-next.invariant.same

pub loop-next-preserved : goal.loop-next-preserved
loop-next-preserved g c =
    let S = g.S.CountedRead.seen in
    let A = g.A.CountedRead.seen in
    let l = c.loop-next in
    let last = c.confirm_next.new.self in
    let new = confirm_place S A g.C.CountedRead.seen c.next.new.script c.confirm_next.new.answers c.confirm_next.new.steps (record last { script = c.next.new.self }) in
    let came = rw c.in-Command.is at c.in-Ok.ensures.arrives in
    let w = came.3 true l.invariant.through.left l.invariant.through.means in
    let k = c.in_ok-confirm_next-in-Command.ensures.confirms w.command w.whole in
    let script = c.in_ok-confirm_next-in-Command.ensures.script in
    record {
      same = k.same ∙ l.invariant.same;
      goes_on = k.goes_on;
      open_yet = took_open (answers_source_in A l.answers l.self.session) (answers_source_in A c.confirm_next.new.answers last.session) l.invariant.open_yet k.joins.0;
      script_open = rw script (took_open (script_source S l.script l.self) (source_in S c.next.new.script c.next.new.self.ahead) l.invariant.script_open (came.0, came.1));
      through = rw script
          (one_more _ _ _ _ c.next.new.self.reader l.invariant.through c.requires.script_open c.requires.open_yet c.requires.goes_on.open_yet new came (ap (λ (n : ℕ). n + 1) c.in_ok-confirm_next-in-Command.ensures.number) (λ v is. (c.in_ok-confirm_next-in-Command.ensures.confirms v is).joins));
      stops = λ start h. rw script (rw c.in-Command.is at (c.in-Ok.ensures.stops start (l.invariant.stops start h)));
    }

pub loop-next-smaller : goal.loop-next-smaller
loop-next-smaller g c = grind (arith, common_steps, passes_fewer)

pub returns-in-Err-clause-stops : goal.returns-in-Err-clause-stops
returns-in-Err-clause-stops g c start h = c.in-Err.ensures.stops start (c.loop-next.invariant.stops start h)

pub returns-in_err-confirm_next-in-Command-clause-stops : goal.returns-in_err-confirm_next-in-Command-clause-stops
returns-in_err-confirm_next-in-Command-clause-stops g c start h =
    stops_valid start (source_in g.S.CountedRead.seen c.next.new.script c.next.new.self.ahead) c.next.new.self.reader (rw c.in-Command.is at (c.in-Ok.ensures.stops start (c.loop-next.invariant.stops start h)))

pub returns-in-Last-clause-stops : goal.returns-in-Last-clause-stops
returns-in-Last-clause-stops g c start h = stops_on start (source_in g.S.CountedRead.seen c.next.new.script c.next.new.self.ahead) c.next.new.self.reader (rw c.in-Last.is at (c.in-Ok.ensures.stops start (c.loop-next.invariant.stops start h)))

pub returns-in-End-clause-stops : goal.returns-in-End-clause-stops
returns-in-End-clause-stops g c start h = stops_on start (source_in g.S.CountedRead.seen c.next.new.script c.next.new.self.ahead) c.next.new.self.reader (rw c.in-End.is at (c.in-Ok.ensures.stops start (c.loop-next.invariant.stops start h)))
