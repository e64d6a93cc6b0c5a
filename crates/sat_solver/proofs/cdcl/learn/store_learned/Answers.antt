use Rattle.std.proofs.Common.{arith}
use Rattle.std.proofs.lemmas.Grind.{common_steps}
use Rattle.sat_solver.proofs.lemmas.cdcl.TakingLemmas.{still_pending, taken_ok, involved_undone, rated_ok}
use Rattle.sat_solver.proofs.cdcl.learn.store_learned.Goals as goal

pub bump_clauses-requires-clause-antecedents : goal.bump_clauses-requires-clause-antecedents
bump_clauses-requires-clause-antecedents c =
    rw c.antecedents.ensures (involved_undone c.args.search.now.parts c.undo.new.parts c.undo.ensures.same c.undo.ensures.graph c.args.search.now.flags.flags.items c.args.search.now.analysis.antecedents c.requires.antecedents)

pub learn-requires-clause-pending : goal.learn-requires-clause-pending
learn-requires-clause-pending c =
    let u = c.undo.ensures in
    rw c.clause.ensures
    (still_pending c.args.search.now.parts c.undo.new.parts c.bump_clauses.new.parts c.undo.new.parts c.args.header c.args.search.now.analysis.clause c.args.level c.requires.holds.levelled c.requires.learned
    u.trail u.starts u.same u.carries u.keeps u.stay (u.pending c.args.search.now.analysis.clause c.requires.learned) c.bump_clauses.ensures.rates.headed c.bump_clauses.ensures.rates.holds)

pub returns-clause-taken : goal.returns-clause-taken
returns-clause-taken c =
    let u = c.undo.ensures in
    let n = c.learn.ensures in
    taken_ok c.args.search.now.parts c.undo.new.parts c.bump_clauses.new.parts c.learn.new.parts c.args.header c.args.search.now.analysis.clause c.args.level c.requires.holds.levelled c.requires.learned
    u.trail u.starts u.same u.carries u.keeps u.stay (u.pending c.args.search.now.analysis.clause c.requires.learned) c.bump_clauses.ensures.rates.headed c.bump_clauses.ensures.rates.holds
    c.learn.result n.holds (rw c.clause.ensures at n.trail) (rw c.clause.ensures at n.learnt) n.stay

pub returns-clause-rated : goal.returns-clause-rated
returns-clause-rated c = grind (arith, common_steps, rated_ok)
