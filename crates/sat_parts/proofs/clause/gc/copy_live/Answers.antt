use Rattle.std.proofs.Common.{◌≡◌, ◌<◌, ◌≤◌, true, false, not, length, get_or, sym, ap, ◌∙◌, subst, arith}
use Rattle.sat_store.specs.clause.Header.{Header}
use Rattle.sat_parts.specs.clause.Db.{is_live}
use Rattle.sat_parts.proofs.lemmas.clause.GcLemmas.{copying_skip, copying_more, drop_head}
use Rattle.sat_parts.proofs.clause.gc.copy_live.Goals as goal
use Rattle.sat_parts.proofs.clause.gc.copy_live.Goals.{then-not-deleted+in-Ok, else-not-deleted}

pub returns-in-Err-clause-room : goal.returns-in-Err-clause-room
returns-in-Err-clause-room c = λ e.
    let lt : c.loop-at.at < length c.args.db.now.refs = omega arith in
    c.in-Err.ensures.room (subst (λ z. length c.loop-at.to ≤ z) (sym c.cref-cref.ensures) (c.loop-at.invariant.room (get_or c.args.db.now.refs c.loop-at.at 0) (drop_head c.args.db.now.refs c.loop-at.at lt))) e

pub loop-at-preserved : goal.loop-at-preserved
loop-at-preserved c =
    let lt : c.loop-at.at < length c.args.db.now.refs = omega arith in
    elim c.if-not-deleted.branch [
      | then-not-deleted+in-Ok w ↦
          let live : is_live c.args.clauses.now c.cref-cref.result ≡ true = ap (λ b. not b) (ap (λ (h : Header). h.deleted) (sym c.header.ensures.value) ∙ sym c.deleted.ensures ∙ w.if-not-deleted.true) in
          let x = w.in-Ok.ensures.copied in
          rw (w.to-is, w.refs-is, x.1.1)
          (copying_more c.args.clauses.now c.args.db.now.refs c.loop-at.to c.loop-at.refs.items w.copy_one.new.to c.loop-at.at x.0 c.cref-cref.result c.requires.db.holds_clauses c.requires.db.rising c.loop-at.invariant lt c.cref-cref.ensures live x.1.0)
      | else-not-deleted w ↦
          let dead : is_live c.args.clauses.now c.cref-cref.result ≡ false = ap (λ b. not b) (ap (λ (h : Header). h.deleted) (sym c.header.ensures.value) ∙ sym c.deleted.ensures ∙ w.if-not-deleted.false) in
          rw (w.to-is, w.refs-is)
          (copying_skip c.args.clauses.now c.args.db.now.refs c.loop-at.to c.loop-at.refs.items c.loop-at.at c.loop-at.invariant lt (subst (λ z. is_live c.args.clauses.now z ≡ false) c.cref-cref.ensures dead))
    ]
