use Rattle.std.proofs.lemmas.Grind.{common_steps}
use Rattle.std.proofs.Common.{arith}
use Rattle.sat_solver.specs.proof.ProofView.{session_of}
use Rattle.sat_solver.specs.session.Naming.{global_of_index}
use Rattle.sat_solver.specs.unit_simplify.AfterUnits.{LevelZeroLitsAreUnits, TakesUnitsOff}
use Rattle.sat_solver.proofs.lemmas.cdcl.GoingLemmas.{goes_none, goes_on}
use Rattle.sat_solver.proofs.lemmas.cdcl.LeftLemmas.{settled_above, settled_bottom}
use Rattle.sat_solver.proofs.unit_simplify.prove_units.prove_units.Goals as goal

pub returns-then-current_level-gt0 : goal.returns-then-current_level-gt0
returns-then-current_level-gt0 g c = grind (arith, common_steps, goes_none, settled_above)

pub returns : goal.returns
returns g c =
    goes_on g.W.CountedWrite.seen tt tt c.args.proof.now c.write_units.new.proof (λ _ _. LevelZeroLitsAreUnits c.args.parts.now (session_of c.write_units.new.proof) (global_of_index c.args.globals.now))
    (λ _ _. TakesUnitsOff c.args.parts.now c.clear_units.new.parts (session_of c.write_units.new.proof) (global_of_index c.args.globals.now))
    (λ steps all. settled_bottom c.args.parts.now c.clear_units.new.parts (session_of c.write_units.new.proof) (global_of_index c.args.globals.now) all (omega (arith, c.current_level.ensures))
    c.clear_units.ensures.holds c.clear_units.ensures.done c.clear_units.ensures.bottom c.clear_units.ensures.empty c.clear_units.ensures.same c.clear_units.ensures.clears c.clear_units.ensures.word)
    c.in_ok-write_units.ensures
