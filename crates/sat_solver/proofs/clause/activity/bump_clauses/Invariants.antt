use Rattle.std.proofs.Common.{ℕ, ◌≡◌, List, drop}
use Rattle.sat_parts.specs.clause.Activity.{ActivityScale}
use Rattle.sat_solver.specs.clause.Assessed.{clause_level_count, BumpsClauses, ChangesOnlyHeaders}
use Rattle.sat_solver.proofs.clause.activity.bump_clauses.Given as goal

abbrev pub invariant-loop-cref : goal.invariant-loop-cref
invariant-loop-cref l = record {
  rates : ChangesOnlyHeaders l.fn.parts l.parts;
  flags : l.flags.flags.items ≡ l.fn.flags.flags.items;
  take : (words : List ℕ) (s : ActivityScale) → BumpsClauses (clause_level_count l.fn.parts) l.fn.parts.db.refs (drop l.cref-index l.crefs) l.parts.clauses l.activity words s → BumpsClauses (clause_level_count l.fn.parts) l.fn.parts.db.refs l.crefs l.fn.parts.clauses l.fn.activity words s;
}
