use Rattle.std.proofs.Common.{◌∙◌, ap}
use Rattle.sat_solver.specs.proof.ProofView.{is_drat}
use Rattle.certify.proofs.run.session.solver_into.Goals as goal
use Rattle.certify.specs.run.RunSolver.{Solver}

pub returns-clause-ready : goal.returns-clause-ready
returns-clause-ready g c =
    let opened = rw c.unwrap-2.ensures at c.write_proof.ensures in
    let k = rw c.unwrap.ensures at c.config.ensures in
    let going = ap (λ (s : Solver). s.failed) opened.same ∙ opened.going in
    record {
      going = going;
      no_lines = ap (λ (s : Solver). is_drat s.target) opened.same;
      unchecked = ap (λ (s : Solver). s.listeners) opened.same ∙ ap (λ (s : Solver). s.listeners) k.same ∙ c.new-solver.ensures.listeners;
      records = c.steps_record_answers.ensures.records going;
    }

pub returns-clause-state : goal.returns-clause-state
returns-clause-state g c =
    let opened = rw c.unwrap-2.ensures at c.write_proof.ensures in
    let k = rw c.unwrap.ensures at c.config.ensures in
    ap (λ (s : Solver). s.state) opened.same ∙ ap (λ (s : Solver). s.state) k.same ∙ c.new-solver.ensures.state

pub returns-clause-steps : goal.returns-clause-steps
returns-clause-steps g c =
    let opened = rw c.unwrap-2.ensures at c.write_proof.ensures in
    let k = rw c.unwrap.ensures at c.config.ensures in
    ap (λ (s : Solver). s.steps) opened.same ∙ ap (λ (s : Solver). s.steps) k.same ∙ c.new-solver.ensures.steps

pub returns-clause-target : goal.returns-clause-target
returns-clause-target g c =
    let opened = rw c.unwrap-2.ensures at c.write_proof.ensures in
    ap (λ (s : Solver). s.target) opened.same

pub returns-clause-rounds : goal.returns-clause-rounds
returns-clause-rounds g c =
    let opened = rw c.unwrap-2.ensures at c.write_proof.ensures in
    let k = rw c.unwrap.ensures at c.config.ensures in
    ap (λ (s : Solver). s.clock.rounds) opened.same ∙ ap (λ (s : Solver). s.clock.rounds) k.same ∙ c.new-solver.ensures.rounds

pub returns-clause-free : goal.returns-clause-free
returns-clause-free g c =
    let opened = rw c.unwrap-2.ensures at c.write_proof.ensures in
    let k = rw c.unwrap.ensures at c.config.ensures in
    ap (λ (s : Solver). s.assumptions) opened.same ∙ ap (λ (s : Solver). s.assumptions) k.same ∙ c.new-solver.ensures.assumptions
