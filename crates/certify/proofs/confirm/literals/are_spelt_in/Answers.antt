use Rattle.std.proofs.Common.{List, ℕ}
use Rattle.std.specs.Bool.{MatchBool}
use Rattle.sat_checker.specs.matching.Expected.{EachHasItsLiteral}
use Rattle.certify.specs.answers.AnswerForms.{named_literals}
use Rattle.certify.specs.confirm.SpeltLiterals.{AllAmong, AreSpelt}
use Rattle.certify.specs.confirm.Variables.{variable_in}
use Rattle.certify.proofs.lemmas.confirm.LiteralSets.{each_answer, spelt_each, unspelt_each}
use Rattle.certify.proofs.lemmas.confirm.Compared.{if_ok}
use Rattle.certify.proofs.confirm.literals.are_spelt_in.Goals as goal

pub returns-then-branch : goal.returns-then-branch
returns-then-branch c =
    let names = variable_in c.args.variables.now in
    let ls = named_literals c.args.literals.now in
    let P = AllAmong c.deref.result.now c.args.codes.now in
    let Q = EachHasItsLiteral names ls c.args.codes.now in
    if_ok c.are_among.result (λ b. MatchBool b P (P → ⊥)) (λ b. MatchBool b Q (Q → ⊥))
    (λ b m. each_answer names ls c.spell.new.spelt.items c.deref.result.now c.args.codes.now c.in_ok-spell.field-0 b ((codes : List ℕ) → EachHasItsLiteral names ls codes → ⊥) c.if-branch.true c.in_ok-spell.ensures c.deref.ensures.value m) c.are_among.ensures

pub returns-else-branch : goal.returns-else-branch
returns-else-branch c = unspelt_each (variable_in c.args.variables.now) (named_literals c.args.literals.now) c.args.codes.now c.in_ok-spell.field-0 (AreSpelt (variable_in c.args.variables.now) (named_literals c.args.literals.now) c.spell.new.spelt.items) c.if-branch.false c.in_ok-spell.ensures

pub returns-then-are_spelt : goal.returns-then-are_spelt
returns-then-are_spelt c = spelt_each (variable_in c.args.variables.now) (named_literals c.args.literals.now) c.args.codes.now (c.are_spelt.ensures c.if-are_spelt.true)
