use Rattle.std.proofs.Common.{[], ◌∷◌, refl, ap, true}
use Rattle.sat_base.specs.values.Literals.{mk_lit}
use Rattle.sat_solver.proofs.lemmas.variables.Giving.{alike_unseen}
use Rattle.sat_solver.proofs.lemmas.solver.TakingLemmas.{none_took, names_broke, reported_fails}
use Rattle.sat_solver.specs.solver.Whole.{steps_in}
use Rattle.sat_solver.specs.proof.ProofView.{steps_of}
use Rattle.sat_solver.proofs.lemmas.solver.RenamedLemmas.{marked_asked, not_marked, others_kept, renamed, mode_ends}
use Rattle.sat_solver.proofs.lemmas.variables.RoomLemmas.{said_room, said_none}
use Rattle.sat_solver.specs.solver.FailedEngine.{failed_with}
use Rattle.sat_solver.proofs.lemmas.solver.ReportedLemmas.{names_reported}
use Rattle.sat_solver.proofs.solver.Engine.set_mode.Goals as goal

pub returns-then-is_assumed-clause-sets : goal.returns-then-is_assumed-clause-sets
returns-then-is_assumed-clause-sets g c = record {
  same = refl;
  cause = (c.if-self.false, marked_asked c.args.self.now (c.requires c.if-self.false) c.args.user (c.is_assumed.ensures.assumed c.if-is_assumed.true));
}

pub returns-in-Ok-clause-sets : goal.returns-in-Ok-clause-sets
returns-in-Ok-clause-sets g c =
    let s = c.args.self.now in
    let whole = c.requires c.if-self.false in
    let n = c.set_sampling_mode.new.variables in
    let p = c.set_sampling_mode.new.writer in (
      not_marked s whole c.args.user (c.is_assumed.ensures.free c.if-is_assumed.false),
      renamed g.W.CountedWrite.seen s whole c.if-self.false n p _ _ _ c.in-Ok.ensures.comes c.in-Ok.ensures.does c.in-Ok.ensures.fresh (λ u v b e. ap (λ f. f (mk_lit v b)) c.in-Ok.ensures.unseen.search.units)
          (others_kept s whole n c.args.user (not_marked s whole c.args.user (c.is_assumed.ensures.free c.if-is_assumed.false)) c.in-Ok.ensures.others)
          (alike_unseen s.names n (steps_in s) (steps_of p) c.in-Ok.ensures.unseen) (c.in-Ok.ensures.emits s.context.proof (none_took g.W.CountedWrite.seen s.context.proof)),
      said_room s.names (c.args.user ∷ []) c.has_room_for.result c.has_room_for.ensures c.if-not-has_room_for.false,
    )

pub returns-in-Ok-clause-solver : goal.returns-in-Ok-clause-solver
returns-in-Ok-clause-solver g c = λ e. (returns-in-Ok-clause-sets g c).1.did.whole

pub returns-in-Err-clause-sets : goal.returns-in-Err-clause-sets
returns-in-Err-clause-sets g c =
    let s = c.args.self.now in
    let failing = record s { used = true; names = c.set_sampling_mode.new.variables; context = record s.context { proof = c.set_sampling_mode.new.writer } } in
    rw (c.fail.ensures.error, c.fail.ensures.fails, c.from.ensures) (mode_ends g.W.CountedWrite.seen _ s (failed_with failing) c.args.user _ _ _
    c.if-self.false (not_marked s (c.requires c.if-self.false) c.args.user (c.is_assumed.ensures.free c.if-is_assumed.false)) (said_room s.names (c.args.user ∷ []) c.has_room_for.result c.has_room_for.ensures c.if-not-has_room_for.false) (reported_fails c.in-Err.error (c.in-Err.ensures.room (said_room s.names (c.args.user ∷ []) c.has_room_for.result c.has_room_for.ensures c.if-not-has_room_for.false))) (names_reported g.W.CountedWrite.seen _ s.context failing (names_broke g.W.CountedWrite.seen s.context (record s.context { proof = c.set_sampling_mode.new.writer }) c.in-Err.error (c.in-Err.ensures.emits s.context.proof (none_took g.W.CountedWrite.seen s.context.proof))).0) refl refl)

pub has_room_for-requires : goal.has_room_for-requires
has_room_for-requires g c = (c.requires c.if-self.false).valid.tidy

pub returns-then-not-has_room_for-clause-sets : goal.returns-then-not-has_room_for-clause-sets
returns-then-not-has_room_for-clause-sets g c =
    let s = c.args.self.now in
    record {
      same = refl;
      cause = (c.if-self.false, not_marked s (c.requires c.if-self.false) c.args.user (c.is_assumed.ensures.free c.if-is_assumed.false), said_none s.names (c.args.user ∷ []) c.has_room_for.result c.has_room_for.ensures c.if-not-has_room_for.true);
    }

pub fail-requires : goal.fail-requires
fail-requires g c =
    let s = c.args.self.now in
    record { kept = rw c.from.ensures (names_broke g.W.CountedWrite.seen s.context (record s.context { proof = c.set_sampling_mode.new.writer }) {full = ⊥} c.in-Err.error (c.in-Err.ensures.emits s.context.proof (none_took g.W.CountedWrite.seen s.context.proof))).1 }
