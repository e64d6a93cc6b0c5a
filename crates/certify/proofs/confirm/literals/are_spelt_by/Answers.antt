use Rattle.std.proofs.Common.{List, ℕ}
use Rattle.std.specs.Bool.{MatchBool}
use Rattle.sat_checker.specs.matching.Expected.{EachHasItsLiteral, IsSameLiteralSet}
use Rattle.certify.specs.answers.AnswerForms.{named_literals}
use Rattle.certify.specs.confirm.SpeltLiterals.{AllAmong, AreSpelt}
use Rattle.certify.specs.confirm.Variables.{variable_in}
use Rattle.certify.proofs.lemmas.confirm.LiteralSets.{set_answer, spelt_set, unspelt_each}
use Rattle.certify.proofs.lemmas.confirm.Compared.{if_ok}
use Rattle.certify.proofs.confirm.literals.are_spelt_by.Goals as goal

pub returns-then-branch : goal.returns-then-branch
returns-then-branch c =
    let names = variable_in c.args.variables.now in
    let ls = named_literals c.args.literals.now in
    let P = AllAmong c.deref.result.now c.args.codes.now × AllAmong c.args.codes.now c.deref.result.now in
    let Q = IsSameLiteralSet names ls c.args.codes.now in
    if_ok c.are_same.result (λ b. MatchBool b P (P → ⊥)) (λ b. MatchBool b Q (Q → ⊥))
    (λ b m. set_answer names ls c.spell.new.spelt.items c.deref.result.now c.args.codes.now c.in_ok-spell.field-0 b ((codes : List ℕ) → EachHasItsLiteral names ls codes → ⊥) c.if-branch.true c.in_ok-spell.ensures c.deref.ensures.value m) c.are_same.ensures

pub returns-else-branch : goal.returns-else-branch
returns-else-branch c = λ s. unspelt_each (variable_in c.args.variables.now) (named_literals c.args.literals.now) c.args.codes.now c.in_ok-spell.field-0 (AreSpelt (variable_in c.args.variables.now) (named_literals c.args.literals.now) c.spell.new.spelt.items) c.if-branch.false c.in_ok-spell.ensures s.0

pub returns-then-are_spelt : goal.returns-then-are_spelt
returns-then-are_spelt c = spelt_set (variable_in c.args.variables.now) (named_literals c.args.literals.now) c.args.codes.now (c.are_spelt.ensures c.if-are_spelt.true)
