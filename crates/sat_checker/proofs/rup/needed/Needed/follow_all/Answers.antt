use Rattle.std.proofs.Common.{ℕ, ◌+◌, ◌-◌, ◌<◌, ◌≡◌, length, get_or, map, drop, sym, ◌∙◌, ap, arith, Some}
use Rattle.sat_checker.specs.announcements.Following.{with_causes}
use Rattle.sat_checker.specs.inner.Reasons.{reason_in, conflict_at}
use Rattle.sat_checker.specs.inner.SlotView.{literals_at}
use Rattle.sat_checker.proofs.lemmas.announcements.Marking.{back_next, read_next, within_notes}
use Rattle.std.proofs.lemmas.Grind.{common_steps}
use Rattle.sat_checker.proofs.rup.needed.Needed.follow_all.Goals as goal
use Rattle.sat_checker.proofs.rup.needed.Needed.follow_all.Goals.{After-index-reasons-count}

-- the note of this iteration
module _ (c : After-index-reasons-count) where
  abbrev n : ℕ
  n = length c.reasons-reasons.result.now - c.loop-done.done

  abbrev k : ℕ
  k = length c.reasons-reasons.result.now - (c.loop-done.done + 1)

  inside : k < length c.args.passed.now.reasons
  inside = omega (arith, ap length c.reasons-reasons.ensures)

  there : get_or c.args.passed.now.reasons k c.index-reasons-count.result ≡ c.index-reasons-count.result
  there =
      let same : length c.reasons-reasons.result.now - 1 - c.loop-done.done ≡ k = omega arith in
      ap (λ xs. get_or xs k c.index-reasons-count.result) (sym c.reasons-reasons.ensures) ∙ ap (λ i. get_or c.reasons-reasons.result.now i c.index-reasons-count.result) (sym same) ∙ sym c.index-reasons-count.is

pub returns-in_err-follow-clause-looks : goal.returns-in_err-follow-clause-looks
returns-in_err-follow-clause-looks c = record {
  rise = grind (arith, common_steps);
  most =
      let x = (goal.at.returns-in_err-follow-clause-looks c).After-index-reasons-count in
      within_notes c.args.clauses.now c.args.passed.now c.in-Some.place (k x) c.args.looks.now c.follow.new.looks (sym c.conflict.ensures ∙ c.in-Some.is)
      (read_next c.args.clauses.now c.args.passed.now.reasons (k x) (n x) c.index-reasons-count.result (omega arith) (inside x) (there x) c.args.looks.now c.loop-done.looks c.follow.new.looks (length (literals_at c.args.clauses.now c.in-Some.place)) c.loop-done.invariant.looks c.follow.ensures.looks.most);
}

pub loop-done-preserved : goal.loop-done-preserved
loop-done-preserved c =
    let x = (goal.at.loop-done-preserved c).After-index-reasons-count in
    let rs = c.args.passed.now.reasons in
    let r = c.index-reasons-count.result in
    record {
      followed = back_next c.args.clauses.now rs (k x) (n x) r (omega arith) (inside x) (there x) c.follow.new.self (conflict_at c.args.clauses.now (Some c.in-Some.place))
          (c.in_ok-follow.ensures.followed (with_causes (map (reason_in c.args.clauses.now) (drop (n x) rs)) (conflict_at c.args.clauses.now (Some c.in-Some.place))) c.loop-done.invariant.followed);
      looks = read_next c.args.clauses.now rs (k x) (n x) r (omega arith) (inside x) (there x) c.args.looks.now c.loop-done.looks c.follow.new.looks (length (literals_at c.args.clauses.now c.in-Some.place)) c.loop-done.invariant.looks c.follow.ensures.looks.most;
      rise = omega (arith, c.loop-done.invariant.rise, c.follow.ensures.looks.rise);
    }
