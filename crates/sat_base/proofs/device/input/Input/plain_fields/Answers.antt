use Rattle.std.proofs.lemmas.Grind.{common_steps}
use Rattle.std.proofs.Common.{◌≡◌, ℕ, Bool, true, false, Result, Ok, Err, nat_eq, refl, sym, rules, arith}
use Rattle.std.proofs.lemmas.Bool.Decides.{nat_tests}
use Rattle.std.proofs.lemmas.Result.{err_from_is_err_and}
use Rattle.sat_base.specs.declared.steps.error.StepError.{StepError}
use Rattle.sat_base.specs.values.Literals.{var_limit}
use Rattle.sat_base.specs.steps.Formats.{Both}
use Rattle.sat_base.specs.steps.Steps.{Step}
use Rattle.sat_base.specs.steps.StepText.{SpellsVariable, SpellsOptionalVariable, SpellsFlag}
use Rattle.sat_base.specs.device.Reading.{Source, ReadsValue, SpellsFieldsOfTag, source_of, map_result}
use Rattle.sat_base.proofs.lemmas.steps.FormatReads.{first_fails, second_gives}
use Rattle.sat_base.proofs.lemmas.steps.Numbers.{one_below}
use Rattle.sat_base.proofs.lemmas.steps.StepReads.{some_flag, some_optional}
use Rattle.sat_base.proofs.lemmas.steps.TagForms.{stops_following, solver_form, user_form, variable_form, mode_form, width_form}
use Rattle.sat_base.proofs.device.input.Input.plain_fields.Goals as goal

-- after a tag with a variable and one that may be none
names_stop : {X : Type 0} (tag : ℕ) (one : Bool) → nat_eq tag 1 ≡ one → (nat_eq tag 1 ≡ false → 2 ≡ tag)
    → (g : X → Step) (r : Result X StepError) (d e : StepError) (old new : Source) → r ≡ Err d → d ≡ e → ReadsValue (Both SpellsVariable SpellsOptionalVariable) (Err e) old new
    → ReadsValue (SpellsFieldsOfTag tag) (map_result g r) old new
names_stop tag true t other g r d e old new p q h = stops_following 1 tag _ _ solver_form g r d e old new p q (grind (arith, nat_tests)) h
names_stop tag false t other g r d e old new p q h = stops_following 2 tag _ _ user_form g r d e old new p q (sym (other t)) h

-- after a tag with a variable
variable_stops : {X : Type 0} (tag : ℕ) (three four : Bool) → nat_eq tag 3 ≡ three → nat_eq tag 4 ≡ four
    → (nat_eq tag 3 ≡ false → nat_eq tag 4 ≡ false → nat_eq tag 1 ≡ false → 2 ≡ tag)
    → (g : X → Step) (r : Result X StepError) (d e : StepError) (old new : Source) → r ≡ Err d → d ≡ e → ReadsValue SpellsVariable (Err e) old new
    → ReadsValue (SpellsFieldsOfTag tag) (map_result g r) old new
variable_stops tag true four t f other g r d e old new p q h = stops_following 3 tag _ _ variable_form g r d e old new p q (grind (arith, nat_tests)) h
variable_stops tag false true t f other g r d e old new p q h =
    stops_following 4 tag _ _ mode_form g r d e old new p q (grind (arith, nat_tests)) (first_fails SpellsVariable (λ _. SpellsFlag) (one_below var_limit) (λ _. some_flag) e old new h)
variable_stops tag false false t f other g r d e old new p q h =
    names_stop tag _ refl (other t f) g r d e old new p q (first_fails SpellsVariable (λ _. SpellsOptionalVariable) (one_below var_limit) (λ _. some_optional) e old new h)

pub returns-in_err-var-clause-reads : goal.returns-in_err-var-clause-reads
returns-in_err-var-clause-reads g c = grind (arith, common_steps, err_from_is_err_and, variable_stops)

pub returns-in_err-sample-clause-reads : goal.returns-in_err-sample-clause-reads
returns-in_err-sample-clause-reads g c =
    let S = source_of g.R.CountedRead.seen in
    let k = c.in_ok-var.ensures.reads in
    let e = c.in_err-sample.field-0.0 in
    let p = err_from_is_err_and c.from_residual-in_err-sample.result c.from_residual-in_err-sample.ensures.1 in
    let h = second_gives SpellsVariable (λ _. SpellsFlag) (one_below var_limit) c.in_ok-var.var k.0 (S c.args.self.now) (S c.variable.new.self) (S c.flag.new.self) k.2 k.1 (Err e) c.in_err-sample.ensures.reads in
    λ literals hashes units. stops_following 4 c.args.tag _ _ mode_form _ c.from_residual-in_err-sample.result _ e (S c.args.self.now) (S c.flag.new.self) p.1 p.2 c.if-tag-eq4.true h

pub returns-in_err-named-clause-reads : goal.returns-in_err-named-clause-reads
returns-in_err-named-clause-reads g c =
    let S = source_of g.R.CountedRead.seen in
    let k = c.in_ok-var.ensures.reads in
    let e = c.in_err-named.field-0.0 in
    let p = err_from_is_err_and c.from_residual-in_err-named.result c.from_residual-in_err-named.ensures.1 in
    let other : nat_eq c.args.tag 1 ≡ false → 2 ≡ c.args.tag = λ o. grind rules in
    let h = second_gives SpellsVariable (λ _. SpellsOptionalVariable) (one_below var_limit) c.in_ok-var.var k.0 (S c.args.self.now) (S c.variable.new.self) (S c.optional.new.self) k.2 k.1 (Err e) c.in_err-named.ensures.reads in
    λ literals hashes units. names_stop c.args.tag _ refl other _ c.from_residual-in_err-named.result _ e (S c.args.self.now) (S c.optional.new.self) p.1 p.2 h

pub returns-in_err-bits-clause-reads : goal.returns-in_err-bits-clause-reads
returns-in_err-bits-clause-reads g c = grind (arith, common_steps, err_from_is_err_and, stops_following, width_form)

-- WHERE ALL WAS READ

pub returns-in_ok-sample-clause-reads : goal.returns-in_ok-sample-clause-reads
returns-in_ok-sample-clause-reads g c =
    let S = source_of g.R.CountedRead.seen in
    let k = c.in_ok-var.ensures.reads in
    let e = second_gives SpellsVariable (λ _. SpellsFlag) (one_below var_limit) c.in_ok-var.var k.0 (S c.args.self.now) (S c.variable.new.self) (S c.flag.new.self) k.2 k.1 (Ok c.in_ok-sample.sample) c.in_ok-sample.ensures.reads in
    λ literals hashes units. (e.0, e.1, (sym c.if-tag-eq4.true, e.2))

pub returns-then-tag-eq1-clause-reads : goal.returns-then-tag-eq1-clause-reads
returns-then-tag-eq1-clause-reads g c =
    let S = source_of g.R.CountedRead.seen in
    let k = c.in_ok-var.ensures.reads in
    let e = second_gives SpellsVariable (λ _. SpellsOptionalVariable) (one_below var_limit) c.in_ok-var.var k.0 (S c.args.self.now) (S c.variable.new.self) (S c.optional.new.self) k.2 k.1 (Ok c.in_ok-named.named) c.in_ok-named.ensures.reads in
    λ literals hashes units. (e.0, e.1, (sym c.if-tag-eq1.true, e.2))

pub returns-else-tag-eq1-clause-reads : goal.returns-else-tag-eq1-clause-reads
returns-else-tag-eq1-clause-reads g c =
    let S = source_of g.R.CountedRead.seen in
    let k = c.in_ok-var.ensures.reads in
    let i : 2 ≡ c.args.tag = grind rules in
    let e = second_gives SpellsVariable (λ _. SpellsOptionalVariable) (one_below var_limit) c.in_ok-var.var k.0 (S c.args.self.now) (S c.variable.new.self) (S c.optional.new.self) k.2 k.1 (Ok c.in_ok-named.named) c.in_ok-named.ensures.reads in
    λ literals hashes units. (e.0, e.1, (i, e.2))
