use Rattle.std.proofs.Common.{sym, ◌∙◌}
use Rattle.sat_base.proofs.lemmas.text.HeaderPlaces.{begun_vars, begun_no_vars, begun_clauses, begun_no_clauses}
use Rattle.sat_base.proofs.text.header.begun.Goals as goal

pub returns-then-is_digit : goal.returns-then-is_digit
returns-then-is_digit c = rw c.in-Format.is (begun_vars c.args.byte c.requires (sym c.is_digit.ensures ∙ c.if-is_digit.true) c.ranges.byte.fits)

pub returns-else-is_digit : goal.returns-else-is_digit
returns-else-is_digit c = rw c.in-Format.is (begun_no_vars c.args.byte (sym c.is_digit.ensures ∙ c.if-is_digit.false))

pub returns-then-is_digit-2 : goal.returns-then-is_digit-2
returns-then-is_digit-2 c = rw c.in-Vars.is (begun_clauses c.in-Vars.vars c.args.byte c.requires (sym c.is_digit-in-Vars.ensures ∙ c.if-is_digit-2.true) c.ranges.byte.fits)

pub returns-else-is_digit-2 : goal.returns-else-is_digit-2
returns-else-is_digit-2 c = rw c.in-Vars.is (begun_no_clauses c.in-Vars.vars c.args.byte (sym c.is_digit-in-Vars.ensures ∙ c.if-is_digit-2.false))
