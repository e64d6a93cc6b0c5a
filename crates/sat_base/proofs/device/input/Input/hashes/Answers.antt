use Rattle.std.proofs.Common.{◌^◌, arith}
use Rattle.std.proofs.lemmas.Result.{err_from_is_err_and}
use Rattle.sat_base.specs.steps.Numbers.{SpellsNumberBelow}
use Rattle.sat_base.specs.device.Reading.{source_of, with_result_value}
use Rattle.sat_base.proofs.lemmas.steps.Numbers.{one_below, some_below}
use Rattle.sat_base.proofs.lemmas.steps.FormatReads.{list_fails, list_gives}
use Rattle.sat_base.proofs.device.input.Input.hashes.Goals as goal

pub returns-in_err-count-clause-reads : goal.returns-in_err-count-clause-reads
returns-in_err-count-clause-reads g c =
    let S = source_of g.R.CountedRead.seen in
    let p = err_from_is_err_and c.from_residual.result c.from_residual.ensures.1 in
    rw (p.1, p.2) (list_fails (SpellsNumberBelow (2 ^ 64)) (SpellsNumberBelow (2 ^ 64)) (one_below (2 ^ 64)) (some_below (2 ^ 64) (omega arith)) c.in_err-count.field-0.0 (S c.args.self.now) (S c.number.new.self) c.in_err-count.ensures.reads)

pub returns-clause-reads : goal.returns-clause-reads
returns-clause-reads g c =
    let S = source_of g.R.CountedRead.seen in
    list_gives (SpellsNumberBelow (2 ^ 64)) (SpellsNumberBelow (2 ^ 64)) (one_below (2 ^ 64)) c.in_ok-count.count (S c.args.self.now) (S c.number.new.self) (S c.hash_items.new.self) c.in_ok-count.ensures.reads (with_result_value c.hash_items.new.hashes.items c.hash_items.result) c.hash_items.ensures.reads
