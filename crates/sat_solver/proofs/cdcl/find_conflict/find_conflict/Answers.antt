use Rattle.std.proofs.lemmas.Grind.{common_steps}
use Rattle.std.proofs.Common.{◌+◌, length, Ok, refl, arith}
use Rattle.std.proofs.lemmas.Result.{err_from_is_err_and}
use Rattle.sat_parts.specs.clause.Db.{live_refs}
use Rattle.sat_parts.specs.prop.Ready.{IsConflict}
use Rattle.sat_parts.specs.parts.Whole.{SearchStateInvariantBelow}
use Rattle.sat_parts.proofs.lemmas.parts.WordSteps.{extends_refl, extends_after}
use Rattle.sat_solver.specs.proof.ProofView.{session_of}
use Rattle.sat_solver.specs.cdcl.StepEffects.{EmitsSteps}
use Rattle.sat_solver.specs.cdcl.Joint.{assumed_indices}
use Rattle.sat_solver.specs.cdcl.Iterations.{IterationEffect, StopsSearch}
use Rattle.sat_solver.specs.declared.context.Search.{Search}
use Rattle.sat_solver.specs.declared.cdcl.find_conflict.FoundConflict.TheVariants.{Falsified}
use Rattle.sat_solver.specs.declared.error.SolverError.TheVariants as errors
use Rattle.sat_solver.proofs.lemmas.clause.GlueLemmas.{starts_few}
use Rattle.sat_solver.proofs.lemmas.cdcl.GoingLemmas.{goes_none, goes_starved, goes_then, goes_then_fails, goes_on}
use Rattle.sat_solver.proofs.lemmas.cdcl.TurnLemmas.{moved_refl, moved_trans, ready_names, Propagation, propagation, falsified_whole, stopped_from, turned}
use Rattle.sat_solver.proofs.cdcl.find_conflict.find_conflict.Given.{Over}
use Rattle.sat_solver.proofs.cdcl.find_conflict.find_conflict.Goals as goal
use Rattle.sat_solver.proofs.cdcl.find_conflict.find_conflict.Goals.{After-deref, In_ok-found}

-- after a propagation that met no conflict
module _ (g : Over) (c : After-deref g) where
  abbrev d : Search
  d = record c.turns.search { parts = c.propagate_all.new.parts }

  went : Propagation (session_of c.turns.proof) c.turns.search d
  went =
      let x = c.in_ok-propagated.ensures in
      let holds : SearchStateInvariantBelow (length d.parts.trail.starts + 1) d.parts = rw c.in-Ok.is at x.holds in
      propagation (session_of c.turns.proof) c.turns.search d c.turns.invariant.search refl refl refl refl x.starts x.moved x.carries x.word x.keeps holds (rw c.in-Ok.is at x.done) x.units x.base

-- after the next decision
module _ (g : Over) (c : In_ok-found g) where
  abbrev e : Search
  e = record c.turns.search { parts = c.assume_or_decide.new.parts; assumptions = c.assume_or_decide.new.assumptions; scratch = record c.turns.search.scratch { units = c.prove_units.new.units } }

  turn : IterationEffect c.in_ok-found.found (session_of c.prove_units.new.proof) c.turns.search e
  turn =
      let x = (goal.at.In_ok-found g c).After-deref in
      turned g.W.CountedWrite.seen c.turns.proof c.prove_units.new.proof c.turns.search (d g x) e c.prove_units.new.parts (went g x) c.deref.result.now c.deref.ensures.value c.in_ok-prove_units.ensures refl refl refl c.in_ok-found.found c.in_ok-found.ensures

pub turns-init : goal.turns-init
turns-init g c = grind (arith, common_steps, extends_refl, goes_none, moved_refl)

pub prove_units-requires : goal.prove_units-requires
prove_units-requires g c =
    let p = (went g (goal.at.prove_units-requires g c).After-deref).whole in
    record {
      keeps = c.turns.invariant.came.keeps;
      holds = p.holds;
      done = p.done;
      units = p.units;
      fits = rw c.deref.ensures.value p.fits;
      named = rw c.deref.ensures.value (ready_names (session_of c.turns.proof) _ p.ready);
      names = rw c.deref.ensures.value p.ready.free.names;
    }

pub assume_or_decide-requires : goal.assume_or_decide-requires
assume_or_decide-requires g c =
    let ready = (went g (goal.at.assume_or_decide-requires g c).After-deref).whole.ready in
    let settled = c.in_ok-prove_units.ensures.ends in
    record {
      holds = settled.valid.holds;
      done = settled.done;
      there = rw settled.size ready.there;
      placed = settled.placed c.turns.search.assumptions ready.placed;
    }

pub returns-in-Err : goal.returns-in-Err
returns-in-Err g c =
    let i = c.turns.invariant in
    let x = c.in_ok-propagated.ensures in
    let n = c.propagate_all.new.parts in
    let s = session_of c.turns.proof in
    let d : Search = record c.turns.search { parts = n } in
    let both : SearchStateInvariantBelow (length n.trail.starts) n × IsConflict n.clauses (live_refs n.clauses n.db.refs) n.binary.implied n.assignment.current c.in-Err.conflict = rw c.in-Err.is at x.holds in
    goes_on g.W.CountedWrite.seen tt (Falsified c.in-Err.conflict) c.args.proof.now c.turns.proof _ _
    (λ steps _. stopped_from (Falsified c.in-Err.conflict) s c.args.search.now c.turns.search d i.moved i.word
    (falsified_whole s c.turns.search d i.search refl refl refl refl x.starts x.moved x.carries x.word x.keeps c.in-Err.conflict both.0 both.1 x.units x.base))
    i.came

pub returns-in_err-prove_units : goal.returns-in_err-prove_units
returns-in_err-prove_units g c =
    let p = err_from_is_err_and c.from_residual-in_err-prove_units.result c.from_residual-in_err-prove_units.ensures.1 in
    rw (p.1, p.2) (goes_then_fails g.W.CountedWrite.seen tt _ c.args.proof.now c.turns.proof c.prove_units.new.proof _ _ _ c.turns.invariant.came c.in_err-prove_units.ensures)

pub returns-in_err-found : goal.returns-in_err-found
returns-in_err-found g c =
    let seen = g.W.CountedWrite.seen in
    let came : EmitsSteps {A = Unit {0}} seen (Ok tt) c.args.proof.now c.prove_units.new.proof (λ _ _. Unit {0}) = goes_then seen tt (Ok tt) c.args.proof.now c.turns.proof c.prove_units.new.proof _ _ _ c.turns.invariant.came c.in_ok-prove_units.ensures (λ xs ys y a b. tt) in
    let p = err_from_is_err_and c.from_residual-in_err-found.result c.from_residual-in_err-found.ensures.1 in
    rw (p.1, p.2) (goes_then_fails seen tt errors.OutOfMemory c.args.proof.now c.prove_units.new.proof c.prove_units.new.proof _ _ _ came (goes_starved seen c.prove_units.new.proof (λ (_ : Unit {0}) _. Unit {0}) came.keeps))

pub turns-preserved : goal.turns-preserved
turns-preserved g c =
    let i = c.turns.invariant in
    let x = (goal.at.turns-preserved g c).In_ok-found in
    let t = rw c.in-None.is at (turn g x) in
    record {
      came = goes_then g.W.CountedWrite.seen tt (Ok tt) c.args.proof.now c.turns.proof c.prove_units.new.proof _ _ _ i.came c.in_ok-prove_units.ensures (λ xs ys y a b. tt);
      search = t.says.0;
      moved = moved_trans c.args.search.now c.turns.search (e g x) i.moved t.moved;
      word = extends_after (assumed_indices c.args.search.now) c.args.search.now.parts c.turns.search.parts (e g x).parts i.word (rw i.moved.lits at t.word);
    }

pub turns-smaller : goal.turns-smaller
turns-smaller g c = grind (arith, common_steps, starts_few)

pub returns-in-Some : goal.returns-in-Some
returns-in-Some g c =
    let i = c.turns.invariant in
    let x = (goal.at.returns-in-Some g c).In_ok-found in
    let t = rw c.in-Some.is at (turn g x) in
    goes_then g.W.CountedWrite.seen tt (Ok c.in-Some.stop) c.args.proof.now c.turns.proof c.prove_units.new.proof _ _ _ i.came
    (goes_on g.W.CountedWrite.seen tt c.in-Some.stop c.turns.proof c.prove_units.new.proof _ (λ stop _. StopsSearch stop (session_of c.prove_units.new.proof) c.args.search.now (e g x))
    (λ steps _. stopped_from c.in-Some.stop (session_of c.prove_units.new.proof) c.args.search.now c.turns.search (e g x) i.moved i.word t) c.in_ok-prove_units.ensures)
    (λ xs ys stop a b. b)
