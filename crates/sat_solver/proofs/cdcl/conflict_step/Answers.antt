use Rattle.std.proofs.Common.{arith}
use Rattle.std.proofs.lemmas.Grind.{common_steps}
use Rattle.std.proofs.Common.{Ok, Err, subst}
use Rattle.std.proofs.lemmas.Result.{err_from_is_err_and}
use Rattle.sat_solver.specs.proof.ProofView.{steps_of, session_of}
use Rattle.sat_solver.specs.declared.schedule.RoundOutcome.TheVariants as outcomes
use Rattle.sat_solver.specs.declared.cdcl.find_conflict.FoundConflict.TheVariants.{Falsified, Complete, Failed}
use Rattle.sat_solver.specs.cdcl.Iterations.{StopsSearch}
use Rattle.sat_solver.specs.cdcl.Rounds.{RoundResult}
use Rattle.sat_solver.proofs.lemmas.cdcl.EndingLemmas.{ends_refuted, ends_on}
use Rattle.sat_solver.proofs.lemmas.cdcl.GoingLemmas.{goes_after, goes_failing, goes_or, goes_quietly}
use Rattle.sat_solver.proofs.lemmas.cdcl.RoundLemmas.{round_from, search_failed}
use Rattle.sat_solver.proofs.cdcl.conflict_step.Goals as goal

pub returns-in-Some : goal.returns-in-Some
returns-in-Some g c = grind (arith, common_steps, ends_refuted)

pub returns-in_err-stop : goal.returns-in_err-stop
returns-in_err-stop g c =
    let r = err_from_is_err_and c.from_residual-in_err-stop.result c.from_residual-in_err-stop.ensures.1 in
    rw (r.1, r.2) (ends_on g.W.CountedWrite.seen _ _ _ _ _ _ (rw c.in-None.is at c.in_ok-begun.ensures) (Err c.in_err-stop.field-0.0) c.find_conflict.new.proof c.find_conflict.new.search
    (goes_or g.W.CountedWrite.seen (Err c.in_err-stop.field-0.0) _ _ _ (goes_failing g.W.CountedWrite.seen c.in_err-stop.field-0.0 _ _ _ _ c.in_err-stop.ensures)))

pub returns-in-Complete : goal.returns-in-Complete
returns-in-Complete g c =
    let z = c.find_conflict.new.proof in
    let d = c.begin_round.new.search in
    let e = c.find_conflict.new.search in
    ends_on g.W.CountedWrite.seen _ _ _ _ _ _ (rw c.in-None.is at c.in_ok-begun.ensures) (Ok outcomes.Model) z e
    (goes_quietly g.W.CountedWrite.seen _ outcomes.Model _ _ _ _ (λ steps quiet stopped.
    let x : StopsSearch Complete (session_of z) d e = subst (λ stop. StopsSearch stop (session_of z) d e) c.in-Complete.is stopped in
    (record { search = x.says.0; moved = x.moved; complete = x.says.1 }, quiet)) c.in_ok-stop.ensures)

pub returns-in-Failed : goal.returns-in-Failed
returns-in-Failed g c =
    let z = c.find_conflict.new.proof in
    let d = c.begin_round.new.search in
    let f = c.find_conflict.new.search in
    ends_on g.W.CountedWrite.seen _ _ _ _ _ _ (rw c.in-None.is at c.in_ok-begun.ensures) (Ok outcomes.Failed) z (record f { failed = c.in-Failed.lit })
    (goes_quietly g.W.CountedWrite.seen _ outcomes.Failed _ _ _ _ (λ steps quiet stopped.
    let x : StopsSearch (Failed c.in-Failed.lit) (session_of z) d f = subst (λ stop. StopsSearch stop (session_of z) d f) c.in-Failed.is stopped in
    (record { search = search_failed (session_of z) f c.in-Failed.lit x.says.0; moved = record { globals = x.moved.globals; lits = x.moved.lits; size = x.moved.size }; failing = x.says.1 }, quiet)) c.in_ok-stop.ensures)

pub returns-in-Falsified : goal.returns-in-Falsified
returns-in-Falsified g c =
    let q = c.find_conflict.new.proof in
    let z = c.learn_or_refute-in-Falsified.new.proof in
    let d = c.begin_round.new.search in
    let f = c.find_conflict.new.search in
    let e = c.learn_or_refute-in-Falsified.new.search in
    ends_on g.W.CountedWrite.seen _ _ _ _ _ _ (rw c.in-None.is at c.in_ok-begun.ensures) c.learn_or_refute-in-Falsified.result z e
    (goes_after g.W.CountedWrite.seen _ c.learn_or_refute-in-Falsified.result _ q z _ _ _ c.in_ok-stop.ensures c.learn_or_refute-in-Falsified.ensures
    (λ xs ys outcome added quiet stopped says.
    let x : StopsSearch (Falsified c.in-Falsified.conflict) (session_of q) d f = subst (λ stop. StopsSearch stop (session_of q) d f) c.in-Falsified.is stopped in
    round_from outcome (steps_of c.begin_round.new.proof) xs ys (session_of z) d f e x.moved x.word quiet
    (subst (λ zs. RoundResult outcome zs ys (session_of z) f e) added says)))
