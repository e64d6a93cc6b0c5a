use Rattle.std.proofs.lemmas.Grind.{common_steps}
use Rattle.std.proofs.Common.{◌≡◌, [], ◌∷◌, sym, ◌∙◌, ap, arith}
use Rattle.sat_base.specs.text.Text.{Token, Number}
use Rattle.sat_base.specs.script.Language.{prepend_commands, NoCommand}
use Rattle.certify.specs.script.Commands.{remaining_reading}
use Rattle.certify.proofs.lemmas.script.Tokens.{number_is, letter_is, header_is, wrong_is, held_zero, held_some, ends_wrong, number_ends, letter_ends, header_ends}
use Rattle.certify.proofs.script.commands.Commands.finish_with.Goals as goal

pub returns-then-value-eq0 : goal.returns-then-value-eq0
returns-then-value-eq0 c t e asks hand h =
    let old = c.args.self.now in
    let n = number_is t c.in-Number.negative c.in-Number.value (sym c.in-Number.is ∙ e) in
    let zero : n.0 ≡ 0 = held_zero n.0 (sym c.if-value-eq0.true ∙ n.2) in
    let same : t ≡ Number c.in-Number.negative 0 = n.1 ∙ ap (Number c.in-Number.negative) zero in
    let k = c.end_command.ensures c.in-Number.negative hand h in
    let ended = c.ending.ensures asks NoCommand k.2 in
    (k.0, k.1, ap (λ (u : Token). remaining_reading asks old hand (u ∷ [])) same ∙ k.3 asks [] ∙ ap (prepend_commands (k.0 ∷ [])) (sym ended))

pub returns-else-value-eq0 : goal.returns-else-value-eq0
returns-else-value-eq0 c = grind (arith, common_steps, number_is, held_some, number_ends)

pub returns-in-Header : goal.returns-in-Header
returns-in-Header c = grind (arith, common_steps, header_is, header_ends)

pub returns-in-Letter : goal.returns-in-Letter
returns-in-Letter c = grind (arith, common_steps, letter_is, letter_ends)

pub returns-in-Wrong : goal.returns-in-Wrong
returns-in-Wrong c = grind (arith, common_steps, wrong_is, ends_wrong)
