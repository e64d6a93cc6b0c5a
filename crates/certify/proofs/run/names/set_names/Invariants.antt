use Rattle.std.proofs.Common.{take}
use Rattle.sat_solver.specs.variables.Refusing.{names_in}
use Rattle.certify.specs.run.NonAskCommands.{NonAskCarriedOut, command_for_state}
use Rattle.certify.proofs.run.names.set_names.Given as goal

abbrev pub invariant-loop-lit : goal.invariant-loop-lit
invariant-loop-lit g l = NonAskCarriedOut (command_for_state l.state (names_in (take l.lit-index l.literals))) l.fn.solver l.solver
