use Rattle.std.proofs.Common.{◌<◌, length, arith}
use Rattle.certify.specs.answers.AnswerForms.{named_literal, named_literals}
use Rattle.certify.specs.confirm.Variables.{variable_in}
use Rattle.certify.proofs.lemmas.confirm.LiteralSets.{spelt_next}
use Rattle.certify.proofs.lemmas.confirm.Named.{named_at, named_length}
use Rattle.certify.proofs.confirm.literals.are_spelt.Goals as goal

pub loop-at-preserved : goal.loop-at-preserved
loop-at-preserved c rest =
    let literals = c.args.literals.now in
    let i = c.loop-at.at in
    let literal = c.index-literals-at.result in
    let low : i < length (named_literals literals) = let n = named_length literals in omega arith in
    c.loop-at.invariant (spelt_next (variable_in c.args.variables.now) (named_literals literals) c.args.codes.now i (named_literal literal) c.index-codes-at.result low (omega arith)
    (named_at literals i literal (omega arith) c.index-literals-at.is) c.index-codes-at.is (c.is_spelt.ensures c.if-not-is_spelt.false) rest)
