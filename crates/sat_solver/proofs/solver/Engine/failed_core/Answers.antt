use Rattle.std.proofs.Common.{refl, []}
use Rattle.sat_solver.proofs.lemmas.solver.RestingLemmas.{core_rests, unsat_rests}
use Rattle.sat_solver.proofs.solver.Engine.failed_core.Goals as goal

pub returns-in-UnsatUnderAssumptions : goal.returns-in-UnsatUnderAssumptions
returns-in-UnsatUnderAssumptions g c = core_rests c.args.self.now (c.requires c.if-self.false) c.if-self.false c.in-UnsatUnderAssumptions.is c.deref.result.now c.deref.ensures.value

pub returns-in-Unsat : goal.returns-in-Unsat
returns-in-Unsat g c = unsat_rests c.args.self.now (c.requires c.if-self.false) c.if-self.false c.in-Unsat.is [] refl
