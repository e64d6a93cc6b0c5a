use Rattle.std.proofs.Common.{◌≡◌, ℕ, Bool, true, false, Result, Err, nat_eq, refl, sym, rules, arith}
use Rattle.std.proofs.lemmas.Bool.Decides.{nat_tests}
use Rattle.std.proofs.lemmas.Result.{err_from_is_err_and}
use Rattle.sat_base.specs.declared.steps.error.StepError.{StepError}
use Rattle.sat_base.specs.steps.Steps.{Step}
use Rattle.sat_base.specs.steps.StepText.{SpellsLiterals}
use Rattle.sat_base.specs.device.Reading.{Source, ReadsValue, SpellsFieldsOfTag, source_of, map_result}
use Rattle.sat_base.proofs.lemmas.steps.TagForms.{stops_following, clause_form, at_form, units_form, deletion_form, model_form, assumptions_form, failed_form}
use Rattle.sat_base.proofs.device.input.Input.list_fields.Goals as goal

-- after a tag with literals alone
literals_stop : {X : Type 0} (tag : ℕ) (five ten : Bool) → nat_eq tag 5 ≡ five → nat_eq tag 10 ≡ ten → (nat_eq tag 5 ≡ false → nat_eq tag 10 ≡ false → 11 ≡ tag)
    → (g : X → Step) (r : Result X StepError) (d e : StepError) (old new : Source) → r ≡ Err d → d ≡ e → ReadsValue SpellsLiterals (Err e) old new → ReadsValue (SpellsFieldsOfTag tag) (map_result g r) old new
literals_stop tag true ten f t other g r d e old new p q h = stops_following 5 tag _ _ clause_form g r d e old new p q (grind (arith, nat_tests)) h
literals_stop tag false true f t other g r d e old new p q h = stops_following 10 tag _ _ model_form g r d e old new p q (grind (arith, nat_tests)) h
literals_stop tag false false f t other g r d e old new p q h = stops_following 11 tag _ _ assumptions_form g r d e old new p q (sym (other f t)) h

pub returns-in_err-literals-clause-reads : goal.returns-in_err-literals-clause-reads
returns-in_err-literals-clause-reads g c =
    let S = source_of g.R.CountedRead.seen in
    let p = err_from_is_err_and c.from_residual-in_err-literals.result c.from_residual-in_err-literals.ensures.1 in
    let other : nat_eq c.args.tag 5 ≡ false → nat_eq c.args.tag 10 ≡ false → 11 ≡ c.args.tag = λ f t. grind rules in
    literals_stop c.args.tag _ _ refl refl other _ c.from_residual-in_err-literals.result _ c.in_err-literals.field-0.0 (S c.args.self.now) (S c.literals.new.self) p.1 p.2 c.in_err-literals.ensures.reads

pub returns-in_err-redundant-clause-reads : goal.returns-in_err-redundant-clause-reads
returns-in_err-redundant-clause-reads g c =
    let S = source_of g.R.CountedRead.seen in
    let p = err_from_is_err_and c.from_residual.result c.from_residual.ensures.1 in
    stops_following 6 c.args.tag _ _ at_form _ c.from_residual.result _ c.in_err-redundant.field-0.0 (S c.args.self.now) (S c.flag_and_lists.new.self) p.1 p.2 c.if-tag-eq6.true c.in_err-redundant.ensures.reads

pub returns-in_err-units-clause-reads : goal.returns-in_err-units-clause-reads
returns-in_err-units-clause-reads g c =
    let S = source_of g.R.CountedRead.seen in
    let p = err_from_is_err_and c.from_residual-in_err-units.result c.from_residual-in_err-units.ensures.1 in
    stops_following 7 c.args.tag _ _ units_form _ c.from_residual-in_err-units.result _ c.in_err-units.field-0.0 (S c.args.self.now) (S c.units.new.self) p.1 p.2 c.if-tag-eq7.true c.in_err-units.ensures.reads

pub returns-in_err-proof-clause-reads : goal.returns-in_err-proof-clause-reads
returns-in_err-proof-clause-reads g c =
    let S = source_of g.R.CountedRead.seen in
    let p = err_from_is_err_and c.from_residual-in_err-proof.result c.from_residual-in_err-proof.ensures.1 in
    stops_following 8 c.args.tag _ _ deletion_form _ c.from_residual-in_err-proof.result _ c.in_err-proof.field-0.0 (S c.args.self.now) (S c.clause_and_deletion.new.self) p.1 p.2 c.if-tag-eq8.true c.in_err-proof.ensures.reads

pub returns-in_err-both_lists-clause-reads : goal.returns-in_err-both_lists-clause-reads
returns-in_err-both_lists-clause-reads g c =
    let S = source_of g.R.CountedRead.seen in
    let p = err_from_is_err_and c.from_residual-in_err-both_lists.result c.from_residual-in_err-both_lists.ensures.1 in
    stops_following 12 c.args.tag _ _ failed_form _ c.from_residual-in_err-both_lists.result _ c.in_err-both_lists.field-0.0 (S c.args.self.now) (S c.both_lists.new.self) p.1 p.2 c.if-tag-eq12.true c.in_err-both_lists.ensures.reads

-- WHERE ALL WAS READ

pub returns-in_ok-redundant-clause-reads : goal.returns-in_ok-redundant-clause-reads
returns-in_ok-redundant-clause-reads g c = let e = c.in_ok-redundant.ensures.reads in (e.0, e.1, (sym c.if-tag-eq6.true, e.2))

pub returns-in_ok-units-clause-reads : goal.returns-in_ok-units-clause-reads
returns-in_ok-units-clause-reads g c = let e = c.in_ok-units.ensures.reads in (e.0, e.1, (sym c.if-tag-eq7.true, e.2))

pub returns-in_ok-proof-clause-reads : goal.returns-in_ok-proof-clause-reads
returns-in_ok-proof-clause-reads g c = let e = c.in_ok-proof.ensures.reads in (e.0, e.1, (sym c.if-tag-eq8.true, e.2))

pub returns-in_ok-both_lists-clause-reads : goal.returns-in_ok-both_lists-clause-reads
returns-in_ok-both_lists-clause-reads g c = let e = c.in_ok-both_lists.ensures.reads in (e.0, e.1, (sym c.if-tag-eq12.true, e.2))

pub returns-then-tag-eq5-clause-reads : goal.returns-then-tag-eq5-clause-reads
returns-then-tag-eq5-clause-reads g c = let e = c.in_ok-literals.ensures.reads in (e.0, e.1, (sym c.if-tag-eq5.true, e.2))

pub returns-then-tag-eq10-clause-reads : goal.returns-then-tag-eq10-clause-reads
returns-then-tag-eq10-clause-reads g c = let e = c.in_ok-literals.ensures.reads in (e.0, e.1, (sym c.if-tag-eq10.true, e.2))

pub returns-else-tag-eq10-clause-reads : goal.returns-else-tag-eq10-clause-reads
returns-else-tag-eq10-clause-reads g c =
    let i : 11 ≡ c.args.tag = grind rules in
    let e = c.in_ok-literals.ensures.reads in
    (e.0, e.1, (i, e.2))
