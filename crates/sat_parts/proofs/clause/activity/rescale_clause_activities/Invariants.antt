use Rattle.sat_parts.specs.clause.Activity.{PutsFirstHeaders, rescaled_header}
use Rattle.sat_parts.proofs.clause.activity.rescale_clause_activities.Given as goal

abbrev pub invariant-loop-at : goal.invariant-loop-at
invariant-loop-at l = PutsFirstHeaders l.fn.clauses l.clauses l.fn.db.refs (rescaled_header l.fn.clauses) l.at
