use Rattle.sat_solver.specs.declared.schedule.RoundOutcome.TheVariants.{Learned}
use Rattle.sat_solver.specs.cdcl.Joint.{assumed_indices}
use Rattle.sat_solver.specs.proof.ProofView.{session_of}
use Rattle.sat_solver.proofs.lemmas.cdcl.GoingLemmas.{goes_on}
use Rattle.sat_solver.proofs.lemmas.cdcl.TurnLemmas.{ready_names}
use Rattle.sat_solver.proofs.cdcl.learn_or_refute.Goals as goal

pub refute-requires-clause-named : goal.refute-requires-clause-named
refute-requires-clause-named g c = rw c.deref.ensures.value (ready_names (session_of c.args.proof.now) c.args.search.now c.requires.stopped.ready)

pub returns-then-current_level-gt0 : goal.returns-then-current_level-gt0
returns-then-current_level-gt0 g c =
    goes_on g.W.CountedWrite.seen c.in_ok-learn_from.field-0 Learned c.args.proof.now c.learn_from.new.proof _ _
    (λ steps l. record { search = l.search; moved = l.moved; rises = l.rises (assumed_indices c.args.search.now); last = l.last }) c.in_ok-learn_from.ensures.learned
