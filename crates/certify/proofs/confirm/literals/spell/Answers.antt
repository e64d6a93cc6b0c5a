use Rattle.std.proofs.lemmas.Grind.{common_steps}
use Rattle.std.proofs.Common.{◌≡◌, ◌+◌, ◌<◌, Some, None, length, sym, ◌∙◌, ap, subst, arith}
use Rattle.std.proofs.lemmas.List.{take_all}
use Rattle.sat_base.specs.values.Literals.{mk_lit}
use Rattle.sat_base.specs.script.Script.{Literal, Among}
use Rattle.certify.specs.answers.AnswerForms.{named_literal, named_literals}
use Rattle.certify.specs.confirm.Variables.{variable_in}
use Rattle.certify.proofs.lemmas.confirm.LiteralSets.{spelt_loop, unspelt, among_got}
use Rattle.certify.proofs.lemmas.confirm.Named.{named_at, named_length}
use Rattle.certify.proofs.confirm.literals.spell.Goals as goal

pub loop-lit-preserved : goal.loop-lit-preserved
loop-lit-preserved c =
    let names = variable_in c.args.variables.now in
    let codes = c.args.literals.now in
    let i = c.loop-lit.lit-index in
    let code = c.lit-item.result in
    let low : i < length (named_literals codes) = let n = named_length codes in omega arith in
    spelt_loop names (named_literals codes) c.loop-lit.spelt.items c.push.new.self.items i (named_literal code) c.in-Some.variable c.lit.result low (named_at codes i code (omega arith) c.lit-item.is) c.loop-lit.invariant c.in_ok-push.ensures.items
    (subst (λ n. variable_in c.args.variables.now (n + 1) ≡ Some c.in-Some.variable) c.var.ensures (sym c.get.ensures ∙ c.in-Some.is))
    (c.lit.ensures ∙ ap (mk_lit c.in-Some.variable) c.is_positive.ensures)

pub returns-in_default : goal.returns-in_default
returns-in_default c = λ codes.
    let names = variable_in c.args.variables.now in
    let ls = named_literals c.args.literals.now in
    let i = c.loop-lit.lit-index in
    let code = c.lit-item.result in
    let low : i < length ls = let n = named_length c.args.literals.now in omega arith in
    unspelt names ls (named_literal code) codes
    (subst (λ (l : Literal). Among l ls) (sym (named_at c.args.literals.now i code (omega arith) c.lit-item.is)) (among_got ls i (named_literal code) low))
    (subst (λ n. variable_in c.args.variables.now (n + 1) ≡ None) c.var.ensures (sym c.get.ensures ∙ c.in_default.is))

pub returns : goal.returns
returns c = grind (arith, common_steps, take_all, named_length)
