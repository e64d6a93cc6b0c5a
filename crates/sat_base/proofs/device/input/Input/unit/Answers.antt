use Rattle.std.proofs.Common.{Ok, Err, ◌*◌, ◌^◌, arith}
use Rattle.std.proofs.lemmas.Result.{err_from_is_err_and}
use Rattle.sat_base.specs.values.Literals.{var_limit}
use Rattle.sat_base.specs.steps.StepText.{SpellsLiteral, SpellsHash}
use Rattle.sat_base.specs.device.Reading.{source_of}
use Rattle.sat_base.proofs.lemmas.steps.Numbers.{one_below, some_below}
use Rattle.sat_base.proofs.lemmas.steps.FormatReads.{first_fails, second_gives}
use Rattle.sat_base.proofs.device.input.Input.unit.Goals as goal

pub returns-in_err-lit-clause-reads : goal.returns-in_err-lit-clause-reads
returns-in_err-lit-clause-reads g c =
    let S = source_of g.R.CountedRead.seen in
    let p = err_from_is_err_and c.from_residual.result c.from_residual.ensures.1 in
    rw (p.1, p.2) (first_fails SpellsLiteral (λ _. SpellsHash) (one_below (2 * var_limit)) (λ _. some_below (2 ^ 64) (omega arith)) c.in_err-lit.field-0.0 (S c.args.self.now) (S c.literal.new.self) c.in_err-lit.ensures.reads)

pub returns-in_err-hash-clause-reads : goal.returns-in_err-hash-clause-reads
returns-in_err-hash-clause-reads g c =
    let S = source_of g.R.CountedRead.seen in
    let p = err_from_is_err_and c.from_residual-in_err-hash.result c.from_residual-in_err-hash.ensures.1 in
    let k = c.in_ok-lit.ensures.reads in
    rw (p.1, p.2) (second_gives SpellsLiteral (λ _. SpellsHash) (one_below (2 * var_limit)) c.in_ok-lit.lit k.0 (S c.args.self.now) (S c.literal.new.self) (S c.number.new.self) k.2 k.1 (Err c.in_err-hash.field-0.0) c.in_err-hash.ensures.reads)

pub returns-clause-reads : goal.returns-clause-reads
returns-clause-reads g c =
    let S = source_of g.R.CountedRead.seen in
    let k = c.in_ok-lit.ensures.reads in
    second_gives SpellsLiteral (λ _. SpellsHash) (one_below (2 * var_limit)) c.in_ok-lit.lit k.0 (S c.args.self.now) (S c.literal.new.self) (S c.number.new.self) k.2 k.1 (Ok c.in_ok-hash.hash) c.in_ok-hash.ensures.reads
