use Rattle.std.proofs.Common.{ap, arith}
use Rattle.sat_base.specs.values.Formulas.{clauses_var_count}
use Rattle.sat_base.proofs.lemmas.values.FlatLemmas.{vars_of_more}
use Rattle.sat_base.proofs.formula.CnfFormulaExtendFormula.add_clause.Goals as goal

pub invariant_of-self-2 : goal.invariant_of-self-2
invariant_of-self-2 c = omega (arith, ap clauses_var_count c.in_ok-push.ensures.ok, vars_of_more c.self.inside.clauses c.args.lits.now, c.self.invariant)
