use Rattle.std.proofs.Common.{subst, sym}
use Rattle.certify.specs.script.Decided.{MakesNoReadOnceDecided}
use Rattle.certify.proofs.program.standard.answer_and_return.Goals as goal

pub returns-clause-stops : goal.returns-clause-stops
returns-clause-stops g c =
    let S = g.R.CountedRead.seen in
    subst (λ x. MakesNoReadOnceDecided (S x) (S c.into_reader.result)) c.new-script.ensures.reader
    (subst (λ x. MakesNoReadOnceDecided (S c.new-script.result.reader) (S x)) (sym c.into_reader.ensures) c.answer_kept-result.ensures.stops)
