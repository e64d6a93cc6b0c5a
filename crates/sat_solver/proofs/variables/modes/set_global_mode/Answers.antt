use Rattle.std.proofs.Common.{◌≡◌, sym, ◌∙◌, subst}
use Rattle.sat_solver.specs.variables.Variables.{data_at, mode_for}
use Rattle.sat_solver.specs.variables.Naming.{StoresMode}
use Rattle.sat_solver.proofs.lemmas.variables.ModeChanges.{named_within, mode_kept, mode_set}
use Rattle.sat_solver.proofs.variables.modes.set_global_mode.Goals as goal

pub mode-requires : goal.mode-requires
mode-requires g c = record { within = named_within c.args.variables.now c.args.user c.args.global c.requires.valid.tidy c.requires.named }

pub returns-then-is_mode-clause-does : goal.returns-then-is_mode-clause-does
returns-then-is_mode-clause-does g c =
    let same : (data_at c.args.variables.now c.args.global).sampling_mode ≡ mode_for c.args.sample = sym c.mode.ensures ∙ c.is_mode.ensures.same c.if-is_mode.true in
    mode_kept c.args.variables.now (g.W.StepLog.steps c.args.writer.now) c.args.user c.args.global c.args.sample c.requires.valid c.requires.named same

pub returns-clause-does : goal.returns-clause-does
returns-clause-does g c = mode_set c.args.variables.now c.put_mode.new.self (g.W.StepLog.steps c.args.writer.now) (g.W.StepLog.steps c.step.new.self) c.args.user c.args.global c.args.sample c.requires.valid c.requires.named
    (subst (StoresMode c.args.variables.now c.put_mode.new.self c.args.global) c.mode_of.ensures c.put_mode.ensures)
    c.in_ok-step.ensures.steps
