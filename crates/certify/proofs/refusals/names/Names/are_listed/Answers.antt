use Rattle.std.proofs.lemmas.Grind.{common_steps}
use Rattle.std.proofs.Common.{length, eqb, refl, sym, ◌∙◌, arith}
use Rattle.certify.proofs.lemmas.judge.Listed.{hidden_left, none_left, other_left, used_left, end_left}
use Rattle.certify.proofs.refusals.names.Names.are_listed.Goals as goal

pub loop-index-preserved-in-Hidden : goal.loop-index-preserved-in-Hidden
loop-index-preserved-in-Hidden c = grind (arith, common_steps, hidden_left)

pub loop-index-preserved : goal.loop-index-preserved
loop-index-preserved c =
    let l = c.loop-index in
    record {
      within = omega arith;
      left = used_left c.args.self.now c.args.line.now l.at l.index c.get.result (omega arith) c.get.ensures l.invariant.left c.in_default.not-Hidden
          c.index-line-at.result c.if-at-line.false c.index-line-at.is (sym c.index.ensures.value ∙ c.if-index.false);
    }

pub returns-then-at-line : goal.returns-then-at-line
returns-then-at-line c = let l = c.loop-index in none_left c.args.self.now c.args.line.now l.at l.index c.get.result (omega arith) c.get.ensures l.invariant.left c.in_default.not-Hidden c.if-at-line.true

pub returns-then-index : goal.returns-then-index
returns-then-index c =
    let l = c.loop-index in
    other_left c.args.self.now c.args.line.now l.at l.index c.get.result (omega arith) c.get.ensures l.invariant.left c.in_default.not-Hidden c.index-line-at.result c.if-at-line.false c.index-line-at.is (λ e. c.if-index.true (c.index.ensures.value ∙ e))

pub returns : goal.returns
returns c = let l = c.loop-index in end_left c.args.self.now c.args.line.now l.at l.index (eqb l.at (length c.args.line.now)) (omega arith) l.invariant.within l.invariant.left refl
