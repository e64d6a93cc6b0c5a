-- The view of the fields of a solver. Of this file, public contracts name only `Between`.
use Rattle.std.specs.Prelude.{◌≡◌, ◌/◌, false, length, is_some, Option, None, Some}
use Rattle.sat_base.specs.device.Device.{Writer}
use Rattle.sat_base.specs.script.ScriptState.{ScriptState}
use Rattle.sat_checker.specs.matching.Bridge.{LiveVariables}
use Rattle.sat_checker.specs.CheckerView.{kernel_of}
use Rattle.sat_checker.specs.declared.processing.ProofProcessor.{Ghosts}
use Rattle.sat_store.specs.declared.clause.tier.Tier.TheVariants as tiers
use Rattle.sat_parts.specs.prop.Binaries.{implications}
use Rattle.sat_solver.specs.proof.ProofView.{steps_of, target_of, has_asked, proof_listeners, has_missed_step}
use Rattle.sat_solver.specs.solver.Progressing.{live_count_of_tier, solver_unassigned_count}
use Rattle.sat_solver.specs.declared.progress.Progress.{Progress}
use Rattle.sat_solver.specs.declared.proof.Proof.{Proof}
use Rattle.sat_solver.specs.declared.proof.checker.Checked.{Checked}
use Rattle.sat_solver.specs.declared.solver.Engine.{Engine}
use Rattle.sat_solver.specs.solver.View.{EngineIsInState}
use Rattle.sat_solver.specs.solver.Whole.{EngineInvariant}
use Rattle.sat_solver.specs.facade.View.{SolverView, Checking, OwnChecker}

-- the numbers that `progress` returns: rounds (as `conflicts`), restarts, variables with an index and no value, and
-- stored clauses: binary ones, and longer ones by tier
abbrev pub progress_of : {W L : Type 0} {G : Ghosts L} → Engine W L G → Progress
progress_of s = record {
  conflicts = s.clock.rounds;
  restarts = s.clock.restarts.count;
  vars = solver_unassigned_count s;
  binary = implications s.context.search.parts.binary.implied / 2;
  irred = live_count_of_tier s.context.search.parts tiers.Irred;
  core = live_count_of_tier s.context.search.parts tiers.Core;
  mid = live_count_of_tier s.context.search.parts tiers.Mid;
  local = live_count_of_tier s.context.search.parts tiers.Local;
}

-- the own checker as callers see it: the width it was last set to, and whether a unit conflict is pending in it; `None`
-- without a checker
abbrev pub own_checker : {L : Type 0} → Option (Checked L) → Option OwnChecker
own_checker None = None
own_checker (Some own) = Some (record { width = own.bits; has_conflict = is_some (kernel_of own.checker).state.formula.status.conflict })

-- the width of the hashes in the text of a proof, and the state of its own checker
abbrev pub checking_of : {W L : Type 0} {G : Ghosts L} → Proof W L G → Checking
checking_of p = record { width = p.counting.bits; own = own_checker p.made.own }

-- the view of the engine `s` with the script state `j`; `seen` says which `Writer` callers see for the target's writer
abbrev pub view_of : {W L : Type 0} {G : Ghosts L} → (W → Writer) → ScriptState → Engine W L G → SolverView L
view_of seen j s = record {
  failed = s.failed;
  used = s.used;
  answer = s.state;
  state = j;
  names = s.names;
  values = s.context.search.parts.assignment.current;
  assumptions = s.assumed.items;
  core = s.reported.failed_core.items;
  clock = s.clock;
  parameters = s.context.config;
  decay = s.context.search.parts.vsids.decay;
  clause_decay = s.context.search.activity.decay;
  progress = progress_of s;
  words = length s.context.search.parts.clauses;
  steps = steps_of s.context.proof;
  target = target_of seen s.context.proof;
  asked = has_asked s.context.proof;
  listeners = proof_listeners s.context.proof;
  lost = has_missed_step s.context.proof;
  checking = checking_of s.context.proof;
}

-- `MatchesEngine s j` holds if a call failed, or the names and steps of the engine agree with the script state `j`
abbrev pub MatchesEngine : {W L : Type 0} {G : Ghosts L} → Engine W L G → ScriptState → Type 0
MatchesEngine s j = s.failed ≡ false → (live : LiveVariables) × EngineIsInState s j live

-- `IsJudged s j` holds if the engine's invariant holds, so that calls may be made, and its script state is `j`, unless
-- a call failed
pub record IsJudged {W L : Type 0} {G : Ghosts L} (s : Engine W L G) (j : ScriptState) : Type 0 where
  pub solver : EngineInvariant s
  pub matches : MatchesEngine s j

-- `Between G seen R old new` holds if there are engines `a` and `b` whose views are `old` and `new`, and which are
-- related by `R a b`; `seen` says which `Writer` callers see for the target's writer
abbrev pub Between : {W L : Type 0} (G : Ghosts L) → (W → Writer) → (Engine W L G → Engine W L G → Type 0) → SolverView L → SolverView L → Type 0
Between {W} {L} G seen R old new = (a : Engine W L G) × (b : Engine W L G) × (view_of seen old.state a ≡ old) × (view_of seen new.state b ≡ new) × R a b
