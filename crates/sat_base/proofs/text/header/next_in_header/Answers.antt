use Rattle.std.proofs.Common.{arith, sym, ◌∙◌}
use Rattle.std.proofs.lemmas.Bool.Decides.{nat_tests}
use Rattle.sat_base.proofs.lemmas.text.HeaderPlaces.{between_moves, c_n, c_no_n, cn_f, cn_no_f, p_more, cnf_more, vars_digit, vars_no_digit, clauses_digit, clauses_no_digit}
use Rattle.sat_base.proofs.text.header.next_in_header.Goals as goal

pub returns-in-Between : goal.returns-in-Between
returns-in-Between c = rw c.in-Between.is (between_moves c.in-Between.ended c.args.byte c.begun.result c.requires c.begun.ensures)

pub returns-then-byte-eq110 : goal.returns-then-byte-eq110
returns-then-byte-eq110 c = rw (c.in-C.is, c.if-byte-eq110.true) c_n

pub returns-else-byte-eq110 : goal.returns-else-byte-eq110
returns-else-byte-eq110 c = rw c.in-C.is (c_no_n c.args.byte c.requires (grind (arith, nat_tests)))

pub returns-then-byte-eq102 : goal.returns-then-byte-eq102
returns-then-byte-eq102 c = rw (c.in-Cn.is, c.if-byte-eq102.true) cn_f

pub returns-else-byte-eq102 : goal.returns-else-byte-eq102
returns-else-byte-eq102 c = rw c.in-Cn.is (cn_no_f c.args.byte c.requires (grind (arith, nat_tests)))

pub returns-then-is_digit : goal.returns-then-is_digit
returns-then-is_digit c = rw (c.in-Vars.is, c.with_digit.ensures) (vars_digit c.in-Vars.value c.args.byte c.requires (sym c.is_digit.ensures ∙ c.if-is_digit.true))

pub returns-else-is_digit : goal.returns-else-is_digit
returns-else-is_digit c = rw c.in-Vars.is (vars_no_digit c.in-Vars.value c.args.byte c.requires (sym c.is_digit.ensures ∙ c.if-is_digit.false))

pub returns-then-is_digit-2 : goal.returns-then-is_digit-2
returns-then-is_digit-2 c = rw (c.in-Clauses.is, c.with_digit-then-is_digit-2.ensures) (clauses_digit c.in-Clauses.vars c.in-Clauses.value c.args.byte c.requires (sym c.is_digit-in-Clauses.ensures ∙ c.if-is_digit-2.true))

pub returns-else-is_digit-2 : goal.returns-else-is_digit-2
returns-else-is_digit-2 c = rw c.in-Clauses.is (clauses_no_digit c.in-Clauses.vars c.in-Clauses.value c.args.byte c.requires (sym c.is_digit-in-Clauses.ensures ∙ c.if-is_digit-2.false))

pub returns-in-P : goal.returns-in-P
returns-in-P c = rw c.in-P.is (p_more c.args.byte c.requires)

pub returns-in-Cnf : goal.returns-in-Cnf
returns-in-Cnf c = rw c.in-Cnf.is (cnf_more c.args.byte c.requires)
