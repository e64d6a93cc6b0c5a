use Rattle.std.proofs.Common.{sym, subst, arith, ◌+◌}
use Rattle.sat_store.specs.schedule.Luby.{wrapped_term_number}
use Rattle.sat_solver.specs.cdcl.Joint.{assumed_indices}
use Rattle.sat_solver.specs.schedule.Climbing.{AskReachesRound}
use Rattle.sat_solver.specs.schedule.Solving.{IsWordOf}
use Rattle.sat_solver.proofs.lemmas.schedule.ProgressLemmas.{come_restarts}
use Rattle.sat_solver.proofs.lemmas.schedule.SolvingLemmas.{words_stay, undone, undone_joined}
use Rattle.sat_solver.proofs.schedule.restart_where_due.Goals as goal

pub returns-clause-joined : goal.returns-clause-joined
returns-clause-joined g c =
    let e = c.restart.ensures in
    undone_joined g.W.CountedWrite.seen c.args.context.now c.restart.new.parts e.holds e.same e.carries e.stay e.placed

pub returns-clause-come : goal.returns-clause-come
returns-clause-come g c = λ n start h.
    let e = c.restart.ensures in
    let a = c.args.context.now in
    let b = undone g.W.CountedWrite.seen a c.restart.new.parts e.holds e.same e.carries e.stay e.placed in
    let begun = come_restarts IsWordOf a b n start c.args.round c.args.restarts.now.next c.args.restarts.now.sequence c.args.restarts.now.scale
    (words_stay (assumed_indices a.search) a.search.parts c.restart.new.parts e.stay) (omega (arith, c.requires.counts)) (omega (arith, c.if-round-restarts.false)) c.requires.scale h in
    subst (λ z. AskReachesRound IsWordOf b n start c.args.round c.begin_gap.new.restarts.next z) (sym c.begin_gap.ensures.given)
    (subst (λ z. AskReachesRound IsWordOf b n start c.args.round z (wrapped_term_number (c.args.restarts.now.sequence + 1))) (sym c.begin_gap.ensures.next) begun)
