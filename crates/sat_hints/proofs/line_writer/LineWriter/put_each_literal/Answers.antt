use Rattle.std.proofs.Common.{◌+◌, ◌∷◌, ◌++◌, [], drop}
use Rattle.sat_base.specs.dimacs.DimacsText.{number_text}
use Rattle.sat_hints.specs.Lines.{literal_words}
use Rattle.sat_hints.specs.inner.LineWriting.{outlet}
use Rattle.sat_hints.proofs.lemmas.Putting.{so_far_none, so_far_more, next_word}
use Rattle.sat_hints.proofs.line_writer.LineWriter.put_each_literal.Goals as goal

pub loop-literal-init : goal.loop-literal-init
loop-literal-init g c = so_far_none (literal_words c.args.literals.now) (outlet g.W.CountedWrite.seen c.args.self.now)

pub loop-literal-preserved : goal.loop-literal-preserved
loop-literal-preserved g c =
    let S = g.W.CountedWrite.seen in
    let i = c.loop-literal.literal-index in
    let ls = c.args.literals.now in
    let x = c.literal-item.result in
    so_far_more (literal_words ls) (literal_words (drop i ls)) (number_text x ++ (32 ∷ [])) (literal_words (drop (i + 1) ls)) (outlet S c.args.self.now) (outlet S c.loop-literal.self) (outlet S c.put_literal.new.self) c.loop-literal.invariant (next_word number_text ls i x c.loop-literal-test.true c.literal-item.is)
    c.put_literal.ensures
