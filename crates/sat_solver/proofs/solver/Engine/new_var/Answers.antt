use Rattle.std.proofs.Common.{refl, ap, true}
use Rattle.sat_base.specs.values.Literals.{variable, mk_lit}
use Rattle.sat_solver.proofs.lemmas.variables.Extending.{are_fresh}
use Rattle.sat_solver.proofs.lemmas.variables.Giving.{alike_unseen}
use Rattle.sat_solver.proofs.lemmas.solver.TakingLemmas.{none_took, names_broke}
use Rattle.sat_solver.specs.solver.Whole.{steps_in}
use Rattle.sat_solver.specs.proof.ProofView.{steps_of}
use Rattle.sat_solver.proofs.lemmas.solver.RenamedLemmas.{next_name, renamed, new_fails, one_left, fault_left, reported_limit}
use Rattle.sat_solver.specs.solver.FailedEngine.{failed_with}
use Rattle.sat_solver.proofs.lemmas.solver.ReportedLemmas.{names_reported}
use Rattle.sat_solver.proofs.solver.Engine.new_var.Goals as goal

pub returns-in-Ok-clause-names : goal.returns-in-Ok-clause-names
returns-in-Ok-clause-names g c =
    let s = c.args.self.now in
    let whole = c.requires c.if-self.false in
    let n = c.new_user_var.new.variables in
    let p = c.new_user_var.new.writer in
    let b = c.in-Ok.ensures.brought in (
      next_name s whole c.in-Ok.user c.in-Ok.ensures.next,
      renamed g.W.CountedWrite.seen s whole c.if-self.false n p _ _ _ b.comes b.brings (are_fresh s.names n b.extends) (λ u v d e. ap (λ f. f (mk_lit v d)) b.unseen.search.units) (λ l v h x. (b.extends.stays (variable l) v x).0) (alike_unseen s.names n (steps_in s) (steps_of p) b.unseen)
          (c.in-Ok.ensures.emits s.context.proof (none_took g.W.CountedWrite.seen s.context.proof)),
    )

pub returns-in-Ok-clause-solver : goal.returns-in-Ok-clause-solver
returns-in-Ok-clause-solver g c = λ e. (returns-in-Ok-clause-names g c).1.did.whole

pub returns-else-is_limit-clause-names : goal.returns-else-is_limit-clause-names
returns-else-is_limit-clause-names g c =
    let s = c.args.self.now in
    let broke = names_broke g.W.CountedWrite.seen s.context (record s.context { proof = c.new_user_var.new.writer }) c.in-Err.error (c.in-Err.ensures.emits s.context.proof (none_took g.W.CountedWrite.seen s.context.proof)) in
    let failing = record s { used = true; names = c.new_user_var.new.variables; context = record s.context { proof = c.new_user_var.new.writer } } in
    rw (c.fail.ensures.error, c.fail.ensures.fails, c.from.ensures) (new_fails g.W.CountedWrite.seen _ s (failed_with failing) c.if-self.false (one_left c.in-Err.error s.names c.new_user_var.new.variables s.context.proof c.new_user_var.new.writer (λ e. c.is_limit.ensures.other c.if-is_limit.false (reported_limit c.in-Err.error e)) c.in-Err.ensures.limit) (fault_left _ broke.0.fault (λ e. c.is_limit.ensures.other c.if-is_limit.false (reported_limit c.in-Err.error e))) (names_reported g.W.CountedWrite.seen _ s.context failing broke.0) refl refl)

pub fail-requires : goal.fail-requires
fail-requires g c =
    let s = c.args.self.now in
    record { kept = rw c.from.ensures (names_broke g.W.CountedWrite.seen s.context (record s.context { proof = c.new_user_var.new.writer }) {full = ⊥} c.in-Err.error (c.in-Err.ensures.emits s.context.proof (none_took g.W.CountedWrite.seen s.context.proof))).1 }
