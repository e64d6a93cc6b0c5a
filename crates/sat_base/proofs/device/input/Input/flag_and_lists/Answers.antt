use Rattle.std.proofs.Common.{arith}
use Rattle.std.proofs.lemmas.Grind.{common_steps}
use Rattle.std.proofs.Common.{Ok, Err}
use Rattle.std.proofs.lemmas.Result.{err_from_is_err_and}
use Rattle.sat_base.specs.steps.Formats.{Both}
use Rattle.sat_base.specs.steps.StepText.{SpellsFlag, SpellsLiterals, SpellsHashes}
use Rattle.sat_base.specs.device.Reading.{source_of}
use Rattle.sat_base.proofs.lemmas.steps.FormatReads.{first_fails, second_gives}
use Rattle.sat_base.proofs.lemmas.steps.StepReads.{one_flag, some_lists}
use Rattle.sat_base.proofs.device.input.Input.flag_and_lists.Goals as goal

pub returns-in_err-flag-clause-reads : goal.returns-in_err-flag-clause-reads
returns-in_err-flag-clause-reads g c = grind (arith, common_steps, err_from_is_err_and, first_fails, one_flag, some_lists)

pub returns-in_err-both_lists-clause-reads : goal.returns-in_err-both_lists-clause-reads
returns-in_err-both_lists-clause-reads g c =
    let S = source_of g.R.CountedRead.seen in
    let p = err_from_is_err_and c.from_residual-in_err-both_lists.result c.from_residual-in_err-both_lists.ensures.1 in
    let k = c.in_ok-flag.ensures.reads in
    rw (p.1, p.2) (second_gives SpellsFlag (λ _. Both SpellsLiterals SpellsHashes) one_flag c.in_ok-flag.flag k.0 (S c.args.self.now) (S c.flag.new.self) (S c.both_lists.new.self) k.2 k.1 (Err c.in_err-both_lists.field-0.0) c.in_err-both_lists.ensures.reads)

pub returns-clause-reads : goal.returns-clause-reads
returns-clause-reads g c =
    let S = source_of g.R.CountedRead.seen in
    let k = c.in_ok-flag.ensures.reads in
    let lists = c.both_lists.new.lists in
    second_gives SpellsFlag (λ _. Both SpellsLiterals SpellsHashes) one_flag c.in_ok-flag.flag k.0 (S c.args.self.now) (S c.flag.new.self) (S c.both_lists.new.self) k.2 k.1 (Ok (lists.literals.items, lists.hashes.items)) c.in_ok-both_lists.ensures.reads
