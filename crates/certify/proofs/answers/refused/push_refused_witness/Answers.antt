use Rattle.std.proofs.Common.{◌<◌, ◌^◌, arith}
use Rattle.certify.proofs.lemmas.confirm.Lines.{witness_is_line}
use Rattle.certify.proofs.answers.refused.push_refused_witness.Goals as goal

pub returns-clause-line : goal.returns-clause-line
returns-clause-line c = let low : c.args.command < 2 ^ 64 = omega arith in witness_is_line c.args.command c.args.name low (omega (arith, c.index.ensures.bound, c.index.ensures.value))
