use Rattle.std.proofs.Common.{List, ℕ, ◌^◌, Result, subst}
use Rattle.std.proofs.lemmas.Result.{err_from_is_err_and}
use Rattle.sat_base.specs.declared.steps.error.StepError.{StepError}
use Rattle.sat_base.specs.steps.Formats.{Both}
use Rattle.sat_base.specs.steps.Numbers.{SpellsNumberBelow}
use Rattle.sat_base.specs.steps.StepText.{SpellsLiterals, SpellsHashes}
use Rattle.sat_base.specs.device.Reading.{source_of, ReadsValue, with_result_value}
use Rattle.sat_base.proofs.lemmas.steps.FormatReads.{first_fails, second_gives, pair_giving}
use Rattle.sat_base.proofs.lemmas.steps.StepReads.{one_literals, some_list}
use Rattle.sat_base.proofs.device.input.Input.both_lists.Goals as goal

pub returns-in_err-literals-clause-reads : goal.returns-in_err-literals-clause-reads
returns-in_err-literals-clause-reads g c =
    let S = source_of g.R.CountedRead.seen in
    let p = err_from_is_err_and c.from_residual.result c.from_residual.ensures.1 in
    rw (p.1, p.2) (first_fails SpellsLiterals (λ _. SpellsHashes) one_literals (λ _. some_list (SpellsNumberBelow (2 ^ 64))) c.in_err-literals.field-0.0 (S c.args.self.now) (S c.literals.new.self) c.in_err-literals.ensures.reads)

pub returns-clause-reads : goal.returns-clause-reads
returns-clause-reads g c =
    let S = source_of g.R.CountedRead.seen in
    let lits = c.literals.new.lits.items in
    let hs = c.hashes.new.hashes.items in
    let k = c.in_ok-literals.ensures.reads in
    subst (λ (z : Result (List ℕ × List ℕ) StepError). ReadsValue (Both SpellsLiterals SpellsHashes) z (S c.args.self.now) (S c.hashes.new.self)) (pair_giving lits hs c.hashes.result)
    (second_gives SpellsLiterals (λ _. SpellsHashes) one_literals lits k.0 (S c.args.self.now) (S c.literals.new.self) (S c.hashes.new.self) k.2 k.1 (with_result_value hs c.hashes.result) c.hashes.ensures.reads)
