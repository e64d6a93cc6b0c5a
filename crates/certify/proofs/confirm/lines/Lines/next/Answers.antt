use Rattle.std.proofs.lemmas.Grind.{common_steps}
use Rattle.std.proofs.Common.{arith}
use Rattle.std.proofs.lemmas.Result.{err_from_is_err_and}
use Rattle.sat_base.specs.device.Reading.{Source, ConsumesBytes}
use Rattle.certify.specs.confirm.Lines.{HasNoLf, IsWantedLine}
use Rattle.certify.specs.script.LastPiece.{source_in, waiting_bytes}
use Rattle.certify.proofs.lemmas.confirm.Lines.{line_came, part_came, line_ends, line_goes, line_fails}
use Rattle.certify.proofs.lemmas.script.LastPieces.{passes_front}
use Rattle.certify.proofs.confirm.lines.Lines.next.Given.{Over}
use Rattle.certify.proofs.confirm.lines.Lines.next.Goals as goal
use Rattle.certify.proofs.confirm.lines.Lines.next.Goals.{In_ok-take}

-- bytes were moved to the line
module _ (g : Over) (c : In_ok-take g) where
  abbrev old : Source
  old = source_in g.A.CountedRead.seen c.args.answers.now c.args.self.now.ahead

  abbrev mid : Source
  mid = source_in g.A.CountedRead.seen c.loop-wanted.answers c.loop-wanted.self.ahead

  abbrev new : Source
  new = source_in g.A.CountedRead.seen c.loop-wanted.answers c.take.new.self.ahead

  front : ConsumesBytes mid new c.in_ok-take.ensures.0
  front =
      let l = c.loop-wanted in
      let m = c.in_ok-take.ensures in
      passes_front (g.A.CountedRead.seen l.answers) l.self.ahead.reads c.take.new.self.ahead.reads (waiting_bytes l.self.ahead) (waiting_bytes c.take.new.self.ahead) m.0 m.1 m.2

  -- which no line ends
  part : HasNoLf c.in_ok-take.ensures.0 → ConsumesBytes old new c.take.new.self.line.items × HasNoLf c.take.new.self.line.items
  part none = part_came old mid new c.loop-wanted.self.line.items c.in_ok-take.ensures.0 c.take.new.self.line.items c.loop-wanted.invariant.passes c.loop-wanted.invariant.none c.in_ok-take.ensures.3 front none

pub returns-then-branch : goal.returns-then-branch
returns-then-branch g c =
    let x = (goal.at.returns-then-branch g c).In_ok-take in
    let m = c.in_ok-take.ensures in
    line_came (old g x) (mid g x) (new g x) c.loop-wanted.self.line.items m.0 c.take.new.self.line.items c.loop-wanted.invariant.passes c.loop-wanted.invariant.none m.3 (IsWantedLine c.args.wanted c.args.due.now) (front g x) (rw c.if-branch.true at m.4)

pub returns-in_err-refill : goal.returns-in_err-refill
returns-in_err-refill g c =
    let x = (goal.at.returns-in_err-refill g c).In_ok-take in
    let e = source_in g.A.CountedRead.seen c.refill.new.reader c.refill.new.self in
    let p = err_from_is_err_and c.from_residual-in_err-refill.result c.from_residual-in_err-refill.ensures.1 in
    rw (p.1, p.2) (line_fails (IsWantedLine c.args.wanted c.args.due.now) c.in_err-refill.field-0.0 (old g x) (new g x) e c.take.new.self.line.items c.take.new.self.line.items (part g x (rw c.if-branch.false at c.in_ok-take.ensures.4).0).0 c.in_err-refill.ensures.bytes)

pub returns-then-branch-eq0 : goal.returns-then-branch-eq0
returns-then-branch-eq0 g c = grind (arith, common_steps, line_ends)

pub loop-wanted-preserved : goal.loop-wanted-preserved
loop-wanted-preserved g c = grind (arith, common_steps, line_goes)
