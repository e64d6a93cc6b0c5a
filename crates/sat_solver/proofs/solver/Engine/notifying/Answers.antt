use Rattle.std.proofs.Common.{◌<◌, ◌≡◌, Option, None, Some, false, [], refl, sym, subst, arith}
use Rattle.std.specs.Prelude.{is_some}
use Rattle.std.proofs.lemmas.Bool.{true≢false}
use Rattle.sat_solver.specs.declared.config.SolverConfig.{SolverConfig}
use Rattle.sat_solver.specs.clause.Activity.{DecaysAreInRange}
use Rattle.sat_base.specs.script.ScriptState.{initial_state}
use Rattle.sat_solver.specs.proof.ProofView.{proof_listeners}
use Rattle.sat_solver.specs.variables.Calls.{NamesAgree}
use Rattle.sat_solver.proofs.lemmas.solver.StartLemmas.{agree_first, whole_first}
use Rattle.sat_solver.proofs.solver.Engine.notifying.Goals as goal

none_of : {A : Type 0} (o : Option A) → is_some o ≡ false → o ≡ None
none_of None e = refl
none_of (Some x) e = absurd (true≢false e)

pub returns-clause-view : goal.returns-clause-view
returns-clause-view g c = record {
  failed = refl;
  used = refl;
  answer = refl;
  assumptions = c.new-7.ensures.items;
  rounds = refl;
  restarts = refl;
  parameters = c.default-config.ensures;
  steps = c.new.ensures.steps;
  target = c.new.ensures.target;
  listeners = none_of (proof_listeners c.new.result) c.new.ensures.checked;
  asked = c.new.ensures.asked;
  state = refl;
}

pub returns-clause-agree : goal.returns-clause-agree
returns-clause-agree g c = subst (λ ss. NamesAgree c.new-2.result ss initial_state []) (sym c.new.ensures.steps) (agree_first c.new-2.result c.new-2.ensures.tidy c.new-2.ensures.none)

pub returns-clause-whole : goal.returns-clause-whole
returns-clause-whole g c =
    let e = sym c.default-config.ensures in
    whole_first c.new-2.result c.new-2.ensures.tidy c.new-2.ensures.none _ c.new-6.result c.new-7.result.items c.new-4.result.items c.default-config.result.luby_restart_interval_scale
    c.new.ensures.steps c.new_search.ensures.search c.new_search.ensures.values c.new_search.ensures.globals
    (subst (λ (k : SolverConfig). 0 < k.reduce_locals_interval) e (omega arith)) (subst (λ (k : SolverConfig). 0 < k.reduce_mids_interval) e (omega arith))
    c.new-6.ensures.order c.new-6.ensures.globals c.new-7.ensures.items (subst (λ (k : SolverConfig). 0 < k.luby_restart_interval_scale) e (omega arith)) refl
    (subst DecaysAreInRange e (omega arith, omega arith, omega arith, omega arith)) c.new.ensures.taking
