use Rattle.std.proofs.Common.{◌≡◌, ◌<◌, true, false, length, sym, ◌∙◌, arith}
use Rattle.sat_store.specs.declared.clause.tier.Tier.TheVariants.{Local}
use Rattle.sat_parts.specs.clause.Db.{is_live_in_tier}
use Rattle.sat_parts.proofs.lemmas.clause.HeaderLemmas.{passed_more, passed_skip}
use Rattle.sat_parts.proofs.parts.reduce.find_locals.Goals as goal
use Rattle.sat_parts.proofs.parts.reduce.find_locals.Goals.{then-is_local+in_ok-push, else-is_local}

pub loop-at-preserved : goal.loop-at-preserved
loop-at-preserved c =
    let p = c.args.parts.now in
    let lt : c.loop-at.at < length c.args.parts.now.db.refs = omega arith in
    elim c.if-is_local.branch [
      | then-is_local+in_ok-push w ↦
          let pass : is_live_in_tier c.args.parts.now.clauses Local c.cref-cref.result ≡ true = sym c.is_local.ensures ∙ w.if-is_local.true in
          rw (w.list-is, w.in_ok-push.ensures.items) (passed_more (is_live_in_tier p.clauses Local) p.db.refs c.loop-at.list.items c.loop-at.at c.cref-cref.result c.loop-at.invariant lt c.cref-cref.ensures pass)
      | else-is_local w ↦
          let fail : is_live_in_tier c.args.parts.now.clauses Local c.cref-cref.result ≡ false = sym c.is_local.ensures ∙ w.if-is_local.false in
          rw w.list-is (passed_skip (is_live_in_tier p.clauses Local) p.db.refs c.loop-at.list.items c.loop-at.at c.cref-cref.result c.loop-at.invariant lt c.cref-cref.ensures fail)
    ]
