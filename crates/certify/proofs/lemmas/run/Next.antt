-- The next command is served.
use Rattle.std.proofs.Common.{ℕ, ◌+◌, ◌≡◌, ◌∙◌, Some, None, [], ◌∷◌, refl, sym, ap, subst, arith}
use Rattle.std.proofs.lemmas.List.{append-nil}
use Rattle.sat_base.specs.device.Device.{Writer}
use Rattle.sat_base.specs.script.Script.{Command}
use Rattle.sat_base.specs.script.ScriptState.{ScriptState, Refusal, state_after_accepted, after_command, refusal_of, initial_state}
use Rattle.sat_solver.specs.variables.Calls.{NamesAgree}
use Rattle.sat_solver.specs.facade.Calls.{MakesSteps}
use Rattle.sat_solver.proofs.lemmas.facade.Steps.{makes_none}
use Rattle.certify.specs.declared.run.session.RunState.{RunState}
use Rattle.certify.specs.answers.Answers.{refused_line}
use Rattle.certify.specs.refusals.Names.{NamesHaveState}
use Rattle.certify.specs.run.SolverCalls.{IsReadySolver}
use Rattle.certify.specs.run.Serving.{RunPlace, Serves}
use Rattle.certify.specs.run.BetweenCommands.{NamesAcceptCommand, CommandCarriedOut, RunInvariant, HasStateBetweenCommands, AgreesWithState, CommandRefused, CommandServed, run_place}
use Rattle.sat_base.proofs.lemmas.script.ScriptStates.{accepted_kept, start_kept}
use Rattle.certify.proofs.lemmas.run.ServedOnce.{serves_refused}
use Rattle.certify.specs.run.RunSolver.{Solver}

-- the run, with one more command counted
abbrev pub counted : {C : Type 0} → RunState C → RunState C
counted s = record s { commands = s.commands + 1 }

-- before the first command
pub starts_at : {C : Type 0} (s : RunState C) → IsReadySolver s.solver → s.solver.state ≡ initial_state → NamesHaveState s.names initial_state → HasStateBetweenCommands s initial_state
starts_at s ready is names =
    let m = ready.records.state in
    record {
      live = m.0;
      means = record { agree = record { state = is; agree = subst (λ (i : ScriptState). NamesAgree s.solver.names s.solver.steps i m.0) is m.1 }; kept = start_kept };
      names = names;
    }

pub after_accepted : (j : ScriptState) (c : Command) → refusal_of j c ≡ None → after_command c j ≡ state_after_accepted c j
after_accepted j c e = rw e refl

after_refused : (j : ScriptState) (c : Command) (r : Refusal) → refusal_of j c ≡ Some r → after_command c j ≡ j
after_refused j c r e = rw e refl

module _ {C : Type 0} (old new : RunState C) (c : Command) (before after : Writer) (on : RunInvariant old) where
  -- the command was accepted
  module _ (carried : CommandCarriedOut (counted old) new c before after) (allowed : NamesAcceptCommand old.names c) (valid : (j : ScriptState) → NamesHaveState old.names j → NamesHaveState new.names (state_after_accepted c j)) where
    taken_at : (j : ScriptState) → HasStateBetweenCommands old j → HasStateBetweenCommands new (state_after_accepted c j) × Serves old.budget (run_place old j) (run_place new (state_after_accepted c j)) (c ∷ []) carried.text carried.reports 0
    taken_at j at =
        let s = carried.serves j at.live at.means (allowed j at.names) in
        (record { live = s.0; means = record { agree = s.1; kept = accepted_kept c j (allowed j at.names) at.means.kept }; names = valid j at.names }, s.2)

    pub taken_next : CommandServed old new c before after
    taken_next = record {
      goes_on = record {
        ready = carried.ready;
        free = carried.free;
        counted = let a = carried.refused in let b = carried.commands in let n = on.counted in omega arith;
        judge = state_after_accepted c on.judge;
        at = (taken_at on.judge on.at).0;
      };
      took = carried.took;
      commands = carried.commands;
      budget = carried.budget;
      text = carried.text;
      written = carried.written;
      reports = carried.reports;
      asks = carried.asks;
      refused = 0;
      refusals = let a = carried.refused in omega arith;
      serves = λ j at.
          subst (λ k. HasStateBetweenCommands new k × Serves old.budget (run_place old j) (run_place new k) (c ∷ []) carried.text carried.reports 0) (sym (after_accepted j c (allowed j at.names))) (taken_at j at);
    }

  -- the command was refused
  module _ (why : Refusal) (refused : CommandRefused (counted old) new why before after) (denied : (j : ScriptState) → NamesHaveState old.names j → refusal_of j c ≡ Some why) where
    place_same : (j : ScriptState) → record (run_place old j) { number = old.commands + 1 + 1 } ≡ run_place new j
    place_same j = ap (λ (k : ℕ). at k old.solver) (sym (ap (λ (k : ℕ). k + 1) refused.commands)) ∙ ap (at (new.commands + 1)) (sym refused.solver)
      where
        at : ℕ → Solver → RunPlace
        at k s = record { judge = j; number = k; steps = s.steps; rounds = s.clock.rounds }

    refused_at : (j : ScriptState) → HasStateBetweenCommands old j → HasStateBetweenCommands new j × Serves old.budget (run_place old j) (run_place new j) (c ∷ []) (refused_line (old.commands + 1) why) [] 1
    refused_at j at = (
      record {
        live = at.live;
        means = subst (λ s. AgreesWithState s j at.live) (sym refused.solver) at.means;
        names = subst (λ n. NamesHaveState n j) (sym refused.names) at.names;
      },
      subst (λ p. Serves old.budget (run_place old j) p (c ∷ []) (refused_line (old.commands + 1) why) [] 1) (place_same j) (serves_refused old.budget (run_place old j) c why (denied j at.names)),
    )

    pub refused_next : CommandServed old new c before after
    refused_next = record {
      goes_on = record {
        ready = subst IsReadySolver (sym refused.solver) on.ready;
        free = ap (λ (s : Solver). s.assumptions) refused.solver ∙ on.free;
        counted = let a = refused.refused in let b = refused.commands in let n = on.counted in omega arith;
        judge = on.judge;
        at = (refused_at on.judge on.at).0;
      };
      took = subst (λ s. MakesSteps old.solver s) (sym refused.solver) (makes_none old.solver);
      commands = refused.commands;
      budget = refused.budget;
      text = refused_line (old.commands + 1) why;
      written = refused.written;
      reports = [];
      asks = ap (λ (v : _). v.items) refused.asks ∙ sym (append-nil old.asks.items);
      refused = 1;
      refusals = refused.refused;
      serves = λ j at.
          subst (λ k. HasStateBetweenCommands new k × Serves old.budget (run_place old j) (run_place new k) (c ∷ []) (refused_line (old.commands + 1) why) [] 1) (sym (after_refused j c why (denied j at.names))) (refused_at j at);
    }
