use Rattle.std.proofs.Common.{sym, ◌∙◌}
use Rattle.certify.proofs.lemmas.script.Tokens.{ends_inside, ends_due, ends_clean}
use Rattle.certify.proofs.script.commands.Commands.ending.Goals as goal

pub returns-then-self : goal.returns-then-self
returns-then-self c asks hand h = ends_inside asks c.args.self.now hand c.if-self.true h

pub returns-then-is_unasked : goal.returns-then-is_unasked
returns-then-is_unasked c asks hand h = ends_due asks c.args.self.now hand c.if-self.false h (sym c.is_unasked.ensures ∙ c.if-is_unasked.true)

pub returns : goal.returns
returns c asks hand h = ends_clean asks c.args.self.now hand c.if-self.false h (sym c.is_unasked.ensures ∙ c.if-is_unasked.false)
