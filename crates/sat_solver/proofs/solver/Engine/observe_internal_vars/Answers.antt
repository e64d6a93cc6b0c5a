use Rattle.std.proofs.Common.{ℕ, ◌||◌, ◌∙◌, not, eqb, List, length, refl, ap}
use Rattle.sat_solver.proofs.lemmas.solver.TakingLemmas.{none_took, names_broke}
use Rattle.sat_solver.proofs.lemmas.solver.RenamedLemmas.{observed_all, new_ends, fault_left, reported_limit}
use Rattle.sat_solver.specs.solver.FailedEngine.{failed_with}
use Rattle.sat_solver.proofs.lemmas.solver.ReportedLemmas.{names_reported}
use Rattle.sat_solver.proofs.solver.Engine.observe_internal_vars.Goals as goal

pub returns-in-Ok-clause-solver : goal.returns-in-Ok-clause-solver
returns-in-Ok-clause-solver g c = λ e.
    let s = c.args.self.now in
    (observed_all g.W.CountedWrite.seen s (c.requires c.if-self.false) c.if-self.false c.observe_internal_vars.new.variables c.observe_internal_vars.new.writer c.observe_internal_vars.new.users.items _ (c.is_used-self.ensures ∙ ap (λ (xs : List ℕ). s.used || not (eqb (length xs) 0)) c.deref.ensures.value) c.in-Ok.ensures.names
    (c.in-Ok.ensures.emits s.context.proof (none_took g.W.CountedWrite.seen s.context.proof))).steps.whole

pub returns-in-Ok-clause-observes : goal.returns-in-Ok-clause-observes
returns-in-Ok-clause-observes g c =
    let s = c.args.self.now in
    observed_all g.W.CountedWrite.seen s (c.requires c.if-self.false) c.if-self.false c.observe_internal_vars.new.variables c.observe_internal_vars.new.writer c.observe_internal_vars.new.users.items _ (c.is_used-self.ensures ∙ ap (λ (xs : List ℕ). s.used || not (eqb (length xs) 0)) c.deref.ensures.value) c.in-Ok.ensures.names
    (c.in-Ok.ensures.emits s.context.proof (none_took g.W.CountedWrite.seen s.context.proof))

pub returns-in-Err-clause-fails : goal.returns-in-Err-clause-fails
returns-in-Err-clause-fails g c =
    let s = c.args.self.now in
    let broke = names_broke g.W.CountedWrite.seen s.context (record s.context { proof = c.observe_internal_vars.new.writer }) c.in-Err.error (c.in-Err.ensures.emits s.context.proof (none_took g.W.CountedWrite.seen s.context.proof)) in
    let failing = record s { names = c.observe_internal_vars.new.variables; context = record s.context { proof = c.observe_internal_vars.new.writer } } in
    rw (c.fail.ensures.error, c.fail.ensures.fails, c.from.ensures) (new_ends g.W.CountedWrite.seen _ s (failed_with failing) c.if-self.false (fault_left _ broke.0.fault (λ e. c.in-Err.ensures.left (reported_limit c.in-Err.error e))) (names_reported g.W.CountedWrite.seen _ s.context failing broke.0) refl refl)

pub fail-requires : goal.fail-requires
fail-requires g c =
    let s = c.args.self.now in
    record { kept = rw c.from.ensures (names_broke g.W.CountedWrite.seen s.context (record s.context { proof = c.observe_internal_vars.new.writer }) {full = ⊥} c.in-Err.error (c.in-Err.ensures.emits s.context.proof (none_took g.W.CountedWrite.seen s.context.proof))).1 }
