use Rattle.std.proofs.Common.{List, ℕ, Result, subst}
use Rattle.std.proofs.lemmas.Result.{err_from_is_err_and}
use Rattle.sat_base.specs.declared.steps.error.StepError.{StepError}
use Rattle.sat_base.specs.steps.Formats.{Both}
use Rattle.sat_base.specs.steps.Steps.{Deletion}
use Rattle.sat_base.specs.steps.StepViews.{deletion_of}
use Rattle.sat_base.specs.steps.StepText.{SpellsDeletion, SpellsLiterals}
use Rattle.sat_base.specs.device.Reading.{source_of, ReadsValue, map_result}
use Rattle.sat_base.proofs.lemmas.steps.FormatReads.{first_fails, second_gives, pair_valued}
use Rattle.sat_base.proofs.lemmas.steps.StepReads.{one_literals, some_deletion}
use Rattle.sat_base.proofs.device.input.Input.clause_and_deletion.Goals as goal

pub returns-in_err-literals-clause-reads : goal.returns-in_err-literals-clause-reads
returns-in_err-literals-clause-reads g c =
    let S = source_of g.R.CountedRead.seen in
    let p = err_from_is_err_and c.from_residual.result c.from_residual.ensures.1 in
    rw (p.1, p.2) (first_fails SpellsLiterals (λ _. SpellsDeletion) one_literals (λ _. some_deletion) c.in_err-literals.field-0.0 (S c.args.self.now) (S c.literals.new.self) c.in_err-literals.ensures.reads)

pub returns-clause-reads : goal.returns-clause-reads
returns-clause-reads g c =
    let S = source_of g.R.CountedRead.seen in
    let lits = c.literals.new.lits.items in
    let k = c.in_ok-literals.ensures.reads in
    subst (λ (z : Result (List ℕ × Deletion) StepError). ReadsValue (Both SpellsLiterals SpellsDeletion) z (S c.args.self.now) (S c.deletion.new.self)) (pair_valued lits deletion_of c.deletion.result)
    (second_gives SpellsLiterals (λ _. SpellsDeletion) one_literals lits k.0 (S c.args.self.now) (S c.literals.new.self) (S c.deletion.new.self) k.2 k.1 (map_result deletion_of c.deletion.result) c.deletion.ensures.reads)
