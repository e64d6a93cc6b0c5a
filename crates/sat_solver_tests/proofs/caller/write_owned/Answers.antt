use Rattle.std.proofs.Common.{◌∙◌, ap, sym, subst}
use Rattle.std.specs.Prelude.{is_some}
use Rattle.sat_solver_tests.specs.Calling.{PutsOwned}
use Rattle.sat_solver_tests.proofs.CallingLemmas.{step_failed, close_failed, closed}
use Rattle.sat_solver_tests.proofs.caller.write_owned.Goals.{in-Ok+in-Ok-close_proof, in-Ok+in-Err-close_proof, in-Err}
use Rattle.sat_solver_tests.proofs.caller.write_owned.Goals as goal

pub returns : goal.returns
returns g c =
    let seen = g.W.CountedWrite.seen in
    let listening = ap (λ o. is_some o) c.open.ensures.listening ∙ c.new-proof.ensures.checked in
    elim c.match-add_step.branch [
      | in-Ok+in-Ok-close_proof w ↦ subst (λ p. PutsOwned seen p.1 c.args.target p.0) (sym w.written-is) (closed seen c.args.target c.open.new.self c.add_step.new.self c.open.ensures.target listening
          w.in-Ok.ensures.records w.in-Ok-close_proof.target w.close_proof.new.self w.in-Ok-close_proof.ensures.closes)
      | in-Ok+in-Err-close_proof w ↦ subst (λ p. PutsOwned seen p.1 c.args.target p.0) (sym w.written-is) (close_failed seen c.args.target c.open.new.self c.add_step.new.self c.open.ensures.target listening
          w.in-Ok.ensures.records (c.open.ensures.taking ∙ c.new-proof.ensures.taking) w.in-Err-close_proof.error w.close_proof.new.self w.take_target.new.self w.take_target.result
          w.in-Err-close_proof.ensures.closes w.take_target.ensures.gives)
      | in-Err w ↦ subst (λ p. PutsOwned seen p.1 c.args.target p.0) (sym w.written-is) (step_failed seen c.args.target c.open.new.self c.add_step.new.self c.open.ensures.target listening
          w.in-Err.error w.take_target-in-Err.new.self w.take_target-in-Err.result w.in-Err.ensures.records w.take_target-in-Err.ensures.gives)
    ]
