use Rattle.std.proofs.Common.{◌≡◌, drop}
use Rattle.sat_parts.specs.parts.Frame.{SameClauses, SameState}
use Rattle.sat_parts.specs.parts.Whole.{SearchStateInvariant}
use Rattle.sat_parts.specs.parts.Words.{TrailWordExtends}
use Rattle.sat_solver.specs.clause.Activity.{all_bumped}
use Rattle.sat_solver.proofs.clause.activity.bump_variables.Given as goal

abbrev pub invariant-loop-var : goal.invariant-loop-var
invariant-loop-var l = record {
  holds : SearchStateInvariant l.parts;
  clauses : SameClauses l.fn.parts l.parts;
  states : SameState l.fn.parts l.parts;
  word : TrailWordExtends l.fn.parts l.parts;
  queue : all_bumped (drop l.var-index l.vars) l.parts.vsids ≡ all_bumped l.vars l.fn.parts.vsids;
}
