use Rattle.std.proofs.Common.{◌+◌, ◌-◌, ◌≡◌, ◌∙◌, refl, sym, ap, subst, arith, get_or}
use Rattle.std.proofs.lemmas.Bool.{true≢false, both_ways}
use Rattle.sat_checker.specs.Looks.{stored_literal_count}
use Rattle.sat_checker.specs.inner.AssumedRoom.{LiteralsAndRoom, HasStoredRoom}
use Rattle.sat_checker.proofs.lemmas.propagation.Walking.{Extends-further}
use Rattle.sat_checker.proofs.lemmas.state.InTurn.{assumed_more, after_judged, after_passing, following_refused, passing_all, looks_then}
use Rattle.sat_checker.proofs.lemmas.store.Entries.{on_err}
use Rattle.sat_checker.proofs.rup.in_turn.pass_in_turn.Goals as goal

pub returns-in_err-passes-clause-short : goal.returns-in_err-passes-clause-short
returns-in_err-passes-clause-short c = on_err c.from_residual.result _ (λ f k h.
    let room = ap (λ (t : LiteralsAndRoom). t.room) c.assume.ensures ∙ c.loop-place.invariant.same f k h in
    c.in_err-passes.ensures.short f k (subst (λ r. HasStoredRoom r f.clauses) (sym room) h))

pub returns-in_err-passes-clause-extends : goal.returns-in_err-passes-clause-extends
returns-in_err-passes-clause-extends c = Extends-further c.args.assigned.now c.assume.new.assigned c.passes.new.assigned (assumed_more c.args.assigned.now c.loop-place.assigned c.assume.new.assigned _ c.loop-place.invariant.extends c.assume.ensures) c.passes.ensures.extends

pub returns-then-not-branch-clause-exact : goal.returns-then-not-branch-clause-exact
returns-then-not-branch-clause-exact c = λ f k is h.
    let units = c.args.units.now in
    let place = c.loop-place.place in
    let passing = c.loop-place.invariant.passing f k is h in
    let unit = get_or units (place - 1) c.index-units-place.result in
    let some : place - 1 + 1 ≡ place = omega (arith, c.loop-place.invariant.some) in
    let is' = ap (get_or units (place - 1)) c.index-units-place.is in
    let exact = after_judged c.args.store.now c.args.assigned.now.room f units (place - 1) place c.loop-place.assigned unit c.index-units-place-in-loop-place.result some c.loop-place-test.true is' c.index-units-place-in-loop-place.is passing
    c.assume.new.assigned (c.loop-place.invariant.same f k h) c.are_in_room.ensures.paired c.assume.ensures c.split_at.result.0.now c.split_at.ensures.front c.in_ok-passes.field-0 c.in_ok-passes.ensures.exact in (
      (λ e. absurd (true≢false (sym e))),
      (λ q. absurd (following_refused c.args.store.now c.args.assigned.now.room f units (place - 1) place c.loop-place.assigned unit c.index-units-place-in-loop-place.result some c.loop-place-test.true is' c.index-units-place-in-loop-place.is passing (λ r. both_ways c.in_ok-passes.field-0 c.if-not-branch.true (exact.1 r)) q)),
    )

pub returns-then-not-branch-clause-extends : goal.returns-then-not-branch-clause-extends
returns-then-not-branch-clause-extends c = Extends-further c.args.assigned.now c.assume.new.assigned c.passes.new.assigned (assumed_more c.args.assigned.now c.loop-place.assigned c.assume.new.assigned _ c.loop-place.invariant.extends c.assume.ensures) c.passes.ensures.extends

pub loop-place-preserved : goal.loop-place-preserved
loop-place-preserved c = record {
  some = omega arith;
  within = omega (arith, c.loop-place-test.true);
  passing = λ f k is h.
      let units = c.args.units.now in
      let place = c.loop-place.place in
      let passing = c.loop-place.invariant.passing f k is h in
      let unit = get_or units (place - 1) c.index-units-place.result in
      let some : place - 1 + 1 ≡ place = omega (arith, c.loop-place.invariant.some) in
      let is' = ap (get_or units (place - 1)) c.index-units-place.is in
      let exact = after_judged c.args.store.now c.args.assigned.now.room f units (place - 1) place c.loop-place.assigned unit c.index-units-place-in-loop-place.result some c.loop-place-test.true is' c.index-units-place-in-loop-place.is passing
      c.assume.new.assigned (c.loop-place.invariant.same f k h) c.are_in_room.ensures.paired c.assume.ensures c.split_at.result.0.now c.split_at.ensures.front c.in_ok-passes.field-0 c.in_ok-passes.ensures.exact in
      after_passing c.args.store.now c.args.assigned.now.room f units (place - 1) place c.loop-place.assigned unit c.index-units-place-in-loop-place.result some c.loop-place-test.true is' c.index-units-place-in-loop-place.is passing
      c.assume.new.assigned (c.loop-place.invariant.same f k h) c.are_in_room.ensures.paired c.assume.ensures (place + 1 - 1) (omega arith) c.passes.new.assigned
      (c.passes.ensures.same f k (subst (λ r. HasStoredRoom r f.clauses) (sym (ap (λ (t : LiteralsAndRoom). t.room) c.assume.ensures ∙ c.loop-place.invariant.same f k h)) h)) (exact.0 c.if-not-branch.false);
  same = λ f k h.
      let room = ap (λ (t : LiteralsAndRoom). t.room) c.assume.ensures ∙ c.loop-place.invariant.same f k h in
      ap (λ (t : LiteralsAndRoom). t.room) (c.passes.ensures.same f k (subst (λ r. HasStoredRoom r f.clauses) (sym room) h)) ∙ room;
  extends = Extends-further c.args.assigned.now c.assume.new.assigned c.passes.new.assigned (assumed_more c.args.assigned.now c.loop-place.assigned c.assume.new.assigned _ c.loop-place.invariant.extends c.assume.ensures) c.passes.ensures.extends;
  looks = λ f k. looks_then c.args.looks.now c.loop-place.looks c.passes.new.looks c.loop-place.place (stored_literal_count f) c.loop-place.invariant.some (c.loop-place.invariant.looks f k) (c.passes.ensures.looks.most f k);
  rise = omega (arith, c.loop-place.invariant.rise, c.passes.ensures.looks.rise);
}

pub returns-clause-exact : goal.returns-clause-exact
returns-clause-exact c = λ f k is h. (
  (λ t. passing_all c.args.store.now c.args.assigned.now.room f c.args.units.now (c.loop-place.place - 1) c.loop-place.assigned (omega (arith, c.loop-place.invariant.some)) (c.loop-place.invariant.passing f k is h)),
  (λ p. refl),
)
