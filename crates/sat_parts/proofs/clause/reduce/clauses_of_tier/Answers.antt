use Rattle.std.proofs.Common.{◌≡◌, ◌<◌, true, false, length, sym, ◌∙◌, arith}
use Rattle.sat_parts.specs.clause.Db.{is_live_in_tier}
use Rattle.sat_parts.proofs.lemmas.clause.HeaderLemmas.{passed_more, passed_skip}
use Rattle.sat_parts.proofs.clause.reduce.clauses_of_tier.Goals as goal
use Rattle.sat_parts.proofs.clause.reduce.clauses_of_tier.Goals.{then-is_of_tier+in_ok-push, else-is_of_tier}

pub loop-at-preserved : goal.loop-at-preserved
loop-at-preserved c =
    let lt : c.loop-at.at < length c.args.db.now.refs = omega arith in
    elim c.if-is_of_tier.branch [
      | then-is_of_tier+in_ok-push w ↦
          let pass : is_live_in_tier c.args.clauses.now c.args.tier c.cref-cref.result ≡ true = sym c.is_of_tier.ensures ∙ w.if-is_of_tier.true in
          rw (w.list-is, w.in_ok-push.ensures.items)
          (passed_more (is_live_in_tier c.args.clauses.now c.args.tier) c.args.db.now.refs c.loop-at.list.items c.loop-at.at c.cref-cref.result c.loop-at.invariant lt c.cref-cref.ensures pass)
      | else-is_of_tier w ↦
          let fail : is_live_in_tier c.args.clauses.now c.args.tier c.cref-cref.result ≡ false = sym c.is_of_tier.ensures ∙ w.if-is_of_tier.false in
          rw w.list-is
          (passed_skip (is_live_in_tier c.args.clauses.now c.args.tier) c.args.db.now.refs c.loop-at.list.items c.loop-at.at c.cref-cref.result c.loop-at.invariant lt c.cref-cref.ensures fail)
    ]
