-- The latest command was carried out.
use Rattle.std.proofs.Common.{ℕ, ◌+◌, ◌≡◌, ◌∙◌, [], ◌∷◌, refl, sym, ap, subst}
use Rattle.std.proofs.lemmas.List.{append-nil}
use Rattle.sat_base.specs.device.Device.{Writer}
use Rattle.sat_base.specs.script.Script.{Command}
use Rattle.sat_base.specs.script.ScriptState.{ScriptState, state_after_accepted}
use Rattle.sat_base.proofs.lemmas.device.Writes.{took_none}
use Rattle.certify.specs.declared.run.session.RunState.{RunState}
use Rattle.certify.specs.run.NonAskCommands.{NonAskCarriedOut}
use Rattle.certify.specs.run.Serving.{RunPlace, Serves, place_after}
use Rattle.certify.specs.run.BetweenCommands.{CommandCarriedOut, place_before_latest, run_place}
use Rattle.certify.specs.run.Stretches.{IsNoAsk}
use Rattle.certify.proofs.lemmas.run.ServedOnce.{serves_plain}
use Rattle.certify.specs.run.RunSolver.{Solver}

-- the place of a run after the latest command
pub place_following : {C : Type 0} (old new : RunState C) (c : Command) (j : ScriptState) (rounds : ℕ) → new.commands ≡ old.commands → rounds ≡ new.solver.clock.rounds
    → place_after (place_before_latest old j) c new.solver.steps rounds ≡ run_place new (state_after_accepted c j)
place_following old new c j rounds e f = ap (λ (k : ℕ). at (k + 1) rounds) (sym e) ∙ ap (at (new.commands + 1)) f
  where
    at : ℕ → ℕ → RunPlace
    at k n = record { judge = state_after_accepted c j; number = k; steps = new.solver.steps; rounds = n }

-- a command that only the solver carries out
pub obeyed_carried : {C : Type 0} (old : RunState C) (s : Solver) (c : Command) (w : Writer) → IsNoAsk c → old.solver.assumptions ≡ [] → NonAskCarriedOut c old.solver s
    → CommandCarriedOut old (record old { solver = s }) c w w
obeyed_carried old s c w quiet free o = record {
  ready = o.ready;
  free = o.assumed ∙ free;
  took = o.took;
  commands = refl;
  refused = refl;
  budget = refl;
  text = [];
  written = took_none w;
  reports = [];
  asks = sym (append-nil old.asks.items);
  serves = λ j live means allowed.
      let k = o.keeps j live means.agree in (
        k.0,
        k.1,
        subst (λ b. Serves old.budget (place_before_latest old j) b (c ∷ []) [] [] 0) (place_following old (record old { solver = s }) c j old.solver.clock.rounds refl (ap (λ (x : _). x.rounds) (sym o.clock)))
            (serves_plain old.budget (place_before_latest old j) c s.steps quiet allowed k.2),
      );
}
