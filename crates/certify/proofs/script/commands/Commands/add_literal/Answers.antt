use Rattle.std.proofs.Common.{arith}
use Rattle.std.proofs.lemmas.Grind.{common_steps}
use Rattle.std.proofs.Common.{◌≡◌, ◌∷◌, ◌++◌, [], true, refl, sym, ◌∙◌}
use Rattle.std.specs.Prelude.{not}
use Rattle.sat_base.specs.text.Text.{Number}
use Rattle.sat_base.specs.script.Script.{Literal}
use Rattle.sat_base.specs.script.Language.{InCommand, allows_sign}
use Rattle.certify.specs.script.Commands.{kind_of}
use Rattle.certify.proofs.lemmas.script.Tokens.{fails, goes_on, turn_number, valid, misplaced, held_some}
use Rattle.certify.proofs.script.commands.Commands.add_literal.Goals as goal

pub returns-then-not-allows_sign : goal.returns-then-not-allows_sign
returns-then-not-allows_sign c = grind (arith, common_steps, fails, turn_number, misplaced, held_some)

pub returns : goal.returns
returns c value e hand h =
    let old = c.args.self.now in
    let l : Literal = record { name = value; positive = not c.args.negative } in
    let may : allows_sign (kind_of c.open.new.self.kind) l.positive ≡ true = sym c.allows_sign.ensures ∙ c.if-not-allows_sign.false in
    let s = valid c.open.new.self hand l (c.open.ensures hand h) may in
    let t = turn_number hand c.args.negative value (held_some value c.args.name e c.requires) in
    let new = record old { draft = c.add.new.self } in
    let holds = c.in_ok-add.ensures s.0 s.1 l (record { number = e; sign = refl }) s.2 in
    (InCommand s.0 (s.1 ++ l ∷ []), holds, goes_on old new hand (InCommand s.0 (s.1 ++ l ∷ [])) (Number c.args.negative value) refl refl refl (t ∙ s.3))
