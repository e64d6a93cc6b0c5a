use Rattle.std.proofs.Common.{Option, None, refl, subst}
use Rattle.std.specs.Prelude.{◌-◌, MatchOption}
use Rattle.sat_solver.specs.declared.schedule.RoundOutcome.{RoundOutcome}
use Rattle.sat_solver.specs.schedule.Rounds.{LastRoundAnswers}
use Rattle.sat_solver.specs.schedule.Solving.{AskEnds, Restarted, ReducedAt, RoundOf}
use Rattle.sat_solver.proofs.lemmas.solver.FindingLemmas.{finds_by, breaks_by, searched_by}
use Rattle.sat_solver.proofs.solver.find.find_answer.Goals as goal

pub returns-in-Some-clause-finds : goal.returns-in-Some-clause-finds
returns-in-Some-clause-finds g c = finds_by g.W.CountedWrite.seen c.args.names.now c.search.new.names c.args.context.now c.in-Some.outcome c.report.result c.search.new.context c.report.new.context c.report.new.reported.failed_core.items (c.search.new.rounds - c.args.clock.now.rounds) (subst (λ (o : Option RoundOutcome). MatchOption o (Unit {0}) (λ x. AskEnds g.W.CountedWrite.seen c.args.context.now c.args.names.now (c.search.new.rounds - c.args.clock.now.rounds - 1) x c.search.new.context c.search.new.names)) c.in-Some.is c.in_ok-found.ensures.ends) c.report.ensures

pub returns-in-Some-clause-breaks : goal.returns-in-Some-clause-breaks
returns-in-Some-clause-breaks g c = breaks_by g.W.CountedWrite.seen c.args.names.now c.search.new.names c.args.context.now c.in-Some.outcome c.report.result c.search.new.context c.report.new.context c.report.new.reported.failed_core.items (subst (λ (o : Option RoundOutcome). MatchOption o (Unit {0}) (λ x. AskEnds g.W.CountedWrite.seen c.args.context.now c.args.names.now (c.search.new.rounds - c.args.clock.now.rounds - 1) x c.search.new.context c.search.new.names)) c.in-Some.is c.in_ok-found.ensures.ends) c.report.ensures

pub returns-in-None-clause-searched : goal.returns-in-None-clause-searched
returns-in-None-clause-searched g c =
    let seen = g.W.CountedWrite.seen in
    let clock = c.args.clock.now in
    record {
      outcome = None;
      found = c.search.new.context;
      rounds = subst (λ (o : Option RoundOutcome). LastRoundAnswers Restarted (ReducedAt seen) (RoundOf seen) o c.args.context.now c.args.names.now clock.restarts clock.rounds c.search.new.context c.search.new.names c.search.new.restarts c.search.new.rounds) c.in-None.is c.in_ok-found.ensures.rounds;
      reports = refl;
    }

pub returns-in-Some-clause-searched : goal.returns-in-Some-clause-searched
returns-in-Some-clause-searched g c =
    let seen = g.W.CountedWrite.seen in
    let clock = c.args.clock.now in
    searched_by seen c.args.names.now c.search.new.names c.args.context.now clock (record { restarts = c.search.new.restarts; rounds = c.search.new.rounds }) c.in-Some.outcome c.report.result c.search.new.context c.report.new.context c.report.new.reported.failed_core.items
    (subst (λ (o : Option RoundOutcome). LastRoundAnswers Restarted (ReducedAt seen) (RoundOf seen) o c.args.context.now c.args.names.now clock.restarts clock.rounds c.search.new.context c.search.new.names c.search.new.restarts c.search.new.rounds) c.in-Some.is c.in_ok-found.ensures.rounds) c.report.ensures
