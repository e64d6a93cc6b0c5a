use Rattle.std.proofs.lemmas.Grind.{common_steps}
use Rattle.std.proofs.Common.{ℕ, ◌+◌, ◌≡◌, ◌≤◌, List, [], ◌∷◌, length, Ok, Err, refl, arith}
use Rattle.std.proofs.lemmas.Result.{err_from_is_err_and}
use Rattle.sat_parts.specs.clause.Db.{live_refs}
use Rattle.sat_parts.specs.prop.Ready.{IsConflict}
use Rattle.sat_parts.specs.parts.Whole.{SearchStateInvariantBelow}
use Rattle.sat_solver.specs.proof.ProofView.{session_of}
use Rattle.sat_solver.specs.session.Naming.{global_of_index}
use Rattle.sat_solver.specs.cdcl.StepEffects.{EmitsSteps}
use Rattle.sat_solver.specs.cdcl.Joint.{assumed_indices}
use Rattle.sat_solver.specs.unit_simplify.AfterUnits.{TakesUnitsOff}
use Rattle.sat_solver.specs.unit_simplify.Passes.{IsPropagatedAtLevelZero, IsSimplifiedPass}
use Rattle.sat_solver.specs.declared.context.Search.{Search}
use Rattle.sat_solver.proofs.lemmas.cdcl.TurnLemmas.{Propagation, propagation, propagated_moved, falsified_whole, ready_names}
use Rattle.sat_solver.proofs.lemmas.unit_simplify.BeginLemmas.{may_settle, settled_passes, settled_flat, settled_simplified}
use Rattle.sat_solver.proofs.lemmas.unit_simplify.PassesLemmas.{passes_after, passes_refl, falls_goes, falls_starved}
use Rattle.sat_solver.proofs.cdcl.begin.begin_round.Given.{Over}
use Rattle.sat_solver.proofs.cdcl.begin.begin_round.Goals as goal
use Rattle.sat_solver.proofs.cdcl.begin.begin_round.Goals.{After-deref, In_ok-prove_units}

none_open : (xs : List ℕ) → length xs ≤ 0 → xs ≡ []
none_open [] le = refl
none_open (x ∷ xs) le = let none : ⊥ = omega arith in absurd none

-- after a propagation that met no conflict
module _ (g : Over) (c : After-deref g) where
  abbrev d : Search
  d = record c.args.search.now { parts = c.propagate_all.new.parts }

  went : Propagation (session_of c.args.proof.now) c.args.search.now d
  went =
      let x = c.in_ok-propagated.ensures in
      let holds : SearchStateInvariantBelow (length d.parts.trail.starts + 1) d.parts = rw c.in-Ok.is at x.holds in
      propagation (session_of c.args.proof.now) c.args.search.now d c.requires.together.search refl refl refl refl x.starts x.moved x.carries x.word x.keeps holds (rw c.in-Ok.is at x.done) x.units x.base

-- after the settling
module _ (g : Over) (c : In_ok-prove_units g) where
  abbrev x : After-deref g
  x = (goal.at.In_ok-prove_units g c).After-deref

  abbrev e : Search
  e = record (d g x) { parts = c.prove_units.new.parts; scratch = record (d g x).scratch { units = c.prove_units.new.units } }

  may : IsPropagatedAtLevelZero c.args.names.now c.args.proof.now (d g x)
  may = may_settle c.args.names.now c.args.proof.now c.args.search.now (d g x) c.requires.together (none_open c.args.search.now.parts.trail.starts (omega (arith, c.if-current_level-gt0.false, c.current_level.ensures.level))) (went g x)

  settles : EmitsSteps {A = Unit {0}} g.W.CountedWrite.seen (Ok tt) c.args.proof.now c.prove_units.new.proof (λ _ _. TakesUnitsOff (d g x).parts c.prove_units.new.parts (session_of c.prove_units.new.proof) (global_of_index (d g x).globals.items))
  settles = rw c.deref.ensures.value at c.in_ok-prove_units.ensures

pub returns-then-current_level-gt0 : goal.returns-then-current_level-gt0
returns-then-current_level-gt0 g c = passes_refl g.W.CountedWrite.seen c.args.names.now c.args.proof.now c.args.search.now c.requires.together

pub prove_units-requires : goal.prove_units-requires
prove_units-requires g c =
    let p = (went g (goal.at.prove_units-requires g c).After-deref).whole in
    record {
      keeps = c.requires.together.keeps;
      holds = p.holds;
      done = p.done;
      units = p.units;
      fits = rw c.deref.ensures.value p.fits;
      named = rw c.deref.ensures.value (ready_names (session_of c.args.proof.now) _ p.ready);
      names = rw c.deref.ensures.value p.ready.free.names;
    }

pub unit_simplify-requires : goal.unit_simplify-requires
unit_simplify-requires g c =
    let y = (goal.at.unit_simplify-requires g c).In_ok-prove_units in
    record {
      together = (settled_passes g.W.CountedWrite.seen c.args.names.now c.args.proof.now c.prove_units.new.proof (d g (x g y)) (e g y) (may g y) (settles g y) refl refl refl refl).together;
      flat = settled_flat g.W.CountedWrite.seen c.args.names.now c.args.proof.now c.prove_units.new.proof (d g (x g y)) (e g y) (may g y) (settles g y) refl refl refl refl;
    }

pub returns-in_err-propagated : goal.returns-in_err-propagated
returns-in_err-propagated g c = let p = err_from_is_err_and c.from_residual.result c.from_residual.ensures.1 in rw (p.1, p.2) (falls_starved g.W.CountedWrite.seen c.args.proof.now)

pub returns-in-Err : goal.returns-in-Err
returns-in-Err g c =
    let x = c.in_ok-propagated.ensures in
    let n = c.propagate_all.new.parts in
    let s = session_of c.args.proof.now in
    let d : Search = record c.args.search.now { parts = c.propagate_all.new.parts } in
    let search = c.requires.together.search in
    let both : SearchStateInvariantBelow (length c.propagate_all.new.parts.trail.starts) c.propagate_all.new.parts × IsConflict n.clauses (live_refs n.clauses n.db.refs) n.binary.implied n.assignment.current c.in-Err.conflict = rw c.in-Err.is at x.holds in
    record {
      names = refl;
      proof = refl;
      keeps = c.requires.together.keeps;
      stopped = (falsified_whole s c.args.search.now d search refl refl refl refl x.starts x.moved x.carries x.word x.keeps c.in-Err.conflict both.0 both.1 x.units x.base).says;
      moved = propagated_moved s c.args.search.now d search refl refl refl refl x.starts x.moved x.carries x.word x.keeps;
      word = x.word (assumed_indices c.args.search.now);
    }

pub returns-in_err-prove_units : goal.returns-in_err-prove_units
returns-in_err-prove_units g c = grind (arith, common_steps, err_from_is_err_and, falls_goes)

pub returns-in_err-unit_simplify : goal.returns-in_err-unit_simplify
returns-in_err-unit_simplify g c =
    let y = (goal.at.returns-in_err-unit_simplify g c).In_ok-prove_units in
    let p = err_from_is_err_and c.from_residual-in_err-unit_simplify.result c.from_residual-in_err-unit_simplify.ensures.1 in
    rw (p.1, p.2) (settled_simplified g.W.CountedWrite.seen c.args.names.now c.args.proof.now c.prove_units.new.proof (d g (x g y)) (e g y) (may g y) (settles g y) refl refl refl refl
    (Err _) c.unit_simplify.new.names c.unit_simplify.new.proof c.unit_simplify.new.search c.in_err-unit_simplify.ensures)

pub returns : goal.returns
returns g c =
    let y = (goal.at.returns g c).In_ok-prove_units in
    let simplified : IsSimplifiedPass g.W.CountedWrite.seen c.args.names.now c.unit_simplify.new.names c.args.proof.now c.unit_simplify.new.proof (d g (x g y)) c.unit_simplify.new.search =
    settled_simplified g.W.CountedWrite.seen c.args.names.now c.args.proof.now c.prove_units.new.proof (d g (x g y)) (e g y) (may g y) (settles g y) refl refl refl refl
    (Ok tt) c.unit_simplify.new.names c.unit_simplify.new.proof c.unit_simplify.new.search c.in_ok-unit_simplify.ensures in
    passes_after g.W.CountedWrite.seen c.args.names.now c.unit_simplify.new.names c.args.proof.now c.unit_simplify.new.proof c.args.search.now (d g (x g y)) c.unit_simplify.new.search (went g (x g y)).moved (went g (x g y)).word simplified.passes
