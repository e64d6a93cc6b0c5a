use Rattle.std.proofs.Common.{◌∙◌, sym, arith}
use Rattle.std.proofs.lemmas.Grind.{common_steps}
use Rattle.sat_checker.proofs.lemmas.variables.Keeping.{refused_taken, may_get}
use Rattle.sat_checker.proofs.variables.Variables.may_get_name.Goals as goal

pub returns-then-is_some : goal.returns-then-is_some
returns-then-is_some c = λ f k. refused_taken c.args.self.now f k c.args.var c.args.name c.holder.result c.holder.ensures (sym c.is_some.ensures ∙ c.if-is_some.true)

pub returns : goal.returns
returns c = grind (arith, common_steps, may_get)
