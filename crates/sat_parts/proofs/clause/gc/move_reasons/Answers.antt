use Rattle.std.proofs.lemmas.Grind.{common_steps}
use Rattle.std.proofs.Common.{◌≡◌, ◌+◌, ℕ, List, ◌<◌, true, false, not, length, get_or, take, sym, ap, ◌∙◌, subst, arith}
use Rattle.std.proofs.lemmas.List.{get_or_read, length_push}
use Rattle.std.proofs.lemmas.List.Sums.{count_by-le-length, length-filter}
use Rattle.sat_store.specs.clause.Header.{Header}
use Rattle.sat_parts.specs.clause.Db.{is_live, live_refs}
use Rattle.sat_parts.proofs.lemmas.prop.BuildLemmas.{live_next, live_skip}
use Rattle.sat_parts.proofs.lemmas.clause.GcLemmas.{followed_by, live_nth}
use Rattle.sat_parts.proofs.clause.gc.move_reasons.Goals as goal
use Rattle.sat_parts.proofs.clause.gc.move_reasons.Goals.{then-not-deleted, else-not-deleted}

pub index-requires : goal.index-requires
index-requires c =
    let lt : c.loop-at.at < length c.args.db.now.refs = omega arith in
    let live : is_live c.args.clauses.now c.cref-cref.result ≡ true = ap (λ b. not b) (ap (λ (h : Header). h.deleted) (sym c.header.ensures.value) ∙ sym c.deleted.ensures ∙ c.if-not-deleted.true) in
    let nth = live_nth c.args.clauses.now c.args.db.now.refs c.loop-at.at lt (subst (λ z. is_live c.args.clauses.now z ≡ true) c.cref-cref.ensures live) in
    omega (arith, nth.1, c.loop-at.invariant.place, c.requires.size, c.args.refs.now.ok.0)

pub overflow_add-next : goal.overflow_add-next
overflow_add-next c = grind (arith, common_steps, count_by-le-length, length-filter, live_nth)

pub loop-at-preserved : goal.loop-at-preserved
loop-at-preserved c =
    let lt : c.loop-at.at < length c.args.db.now.refs = omega arith in
    elim c.if-not-deleted.branch [
      | then-not-deleted w ↦
          let live : is_live c.args.clauses.now c.cref-cref.result ≡ true = ap (λ b. not b) (ap (λ (h : Header). h.deleted) (sym c.header.ensures.value) ∙ sym c.deleted.ensures ∙ w.if-not-deleted.true) in
          let live' : is_live c.args.clauses.now (get_or c.args.db.now.refs c.loop-at.at 0) ≡ true = subst (λ z. is_live c.args.clauses.now z ≡ true) c.cref-cref.ensures live in
          let nth = live_nth c.args.clauses.now c.args.db.now.refs c.loop-at.at lt live' in
          let more : length (live_refs c.args.clauses.now (take (c.loop-at.at + 1) c.args.db.now.refs)) ≡ length (live_refs c.args.clauses.now (take c.loop-at.at c.args.db.now.refs)) + 1 =
          ap (λ (xs : List ℕ). length xs) (live_next c.args.clauses.now c.args.db.now.refs c.loop-at.at lt live') ∙ length_push (live_refs c.args.clauses.now (take c.loop-at.at c.args.db.now.refs)) (get_or c.args.db.now.refs c.loop-at.at 0) in
          let inside : c.loop-at.next < length c.args.refs.now.items = omega (arith, nth.1, c.loop-at.invariant.place, c.requires.size) in
          let at : get_or (live_refs c.args.clauses.now c.args.db.now.refs) c.loop-at.next 0 ≡ get_or c.args.db.now.refs c.loop-at.at 0 =
          ap (λ k. get_or (live_refs c.args.clauses.now c.args.db.now.refs) k 0) c.loop-at.invariant.place ∙ nth.0 in
          record {
            place = omega (arith, w.next-is, c.loop-at.invariant.place, more);
            followed = rw (w.next-is, w.graph-is)
                (followed_by c.args.clauses.now c.args.db.now c.args.refs.now.items c.args._trail.now.lits c.loop-at.next w.lit-first.result c.cref-cref.result w.index.result.now c.args.graph.now c.loop-at.graph w.move_reason.new.graph
                c.requires.db c.requires.size c.requires.low c.loop-at.invariant.followed c.requires.firsts inside (c.cref-cref.ensures ∙ sym at) w.lit-first.ensures.value
                (get_or_read c.args.refs.now.items c.loop-at.next w.index.result.now inside w.index.ensures 0) w.move_reason.ensures.moved w.move_reason.ensures.kept);
          }
      | else-not-deleted w ↦
          let dead : is_live c.args.clauses.now c.cref-cref.result ≡ false = ap (λ b. not b) (ap (λ (h : Header). h.deleted) (sym c.header.ensures.value) ∙ sym c.deleted.ensures ∙ w.if-not-deleted.false) in
          record {
            place = w.next-is ∙ c.loop-at.invariant.place ∙ ap (λ (xs : List ℕ). length xs) (sym (live_skip c.args.clauses.now c.args.db.now.refs c.loop-at.at lt (subst (λ z. is_live c.args.clauses.now z ≡ false) c.cref-cref.ensures dead)));
            followed = rw (w.next-is, w.graph-is) c.loop-at.invariant.followed;
          }
    ]
