use Rattle.std.proofs.Common.{◌≡◌, true, sym, ◌∙◌, ap, refl, subst}
use Rattle.sat_base.specs.text.Text.{Token, Number, Wrong}
use Rattle.certify.specs.declared.script.Reached.TheVariants as reached
use Rattle.certify.specs.script.Commands.{ReceivesToken}
use Rattle.certify.proofs.lemmas.script.Tokens.{number_is, header_is, wrong_is, held_zero, header_taken, fails}
use Rattle.certify.proofs.script.commands.Commands.take.Goals as goal

pub returns-then-value-eq0 : goal.returns-then-value-eq0
returns-then-value-eq0 c t e =
    let n = number_is t c.in-Number.negative c.in-Number.value (sym c.in-Number.is ∙ e) in
    let zero : n.0 ≡ 0 = held_zero n.0 (sym c.if-value-eq0.true ∙ n.2) in
    let same : t ≡ Number c.in-Number.negative 0 = n.1 ∙ ap (Number c.in-Number.negative) zero in
    subst (λ (u : Token). ReceivesToken reached.Command c.args.self.now u c.end_command.new.self) (sym same) (c.end_command.ensures c.in-Number.negative)

pub returns-in-Header : goal.returns-in-Header
returns-in-Header c t e =
    let old = c.args.self.now in
    let n = header_is t c.in-Header.vars c.in-Header.clauses (sym c.in-Header.is ∙ e) in
    subst (λ (u : Token). ReceivesToken reached.More old u (record old { headed = true })) (sym n.2) (header_taken old (record old { headed = true }) n.0 n.1 refl)

pub returns-in-Wrong : goal.returns-in-Wrong
returns-in-Wrong c t e hand h =
    fails c.args.self.now hand t (let w : t ≡ Wrong = wrong_is t (sym c.in-Wrong.is ∙ e) in rw w refl)
