use Rattle.std.proofs.Common.{◌+◌, ◌-◌, ◌≡◌, [], ◌∷◌, arith, length, subst, sym}
use Rattle.sat_checker.specs.Looks.{stored_literal_count}
use Rattle.sat_checker.specs.Accepts.{PassesByHashes, UnitsPassInTurn}
use Rattle.sat_checker.specs.Storing.{with_unit}
use Rattle.sat_checker.specs.inner.InTurn.{OtherUnitsPassInTurn}
use Rattle.sat_checker.proofs.lemmas.variables.Keeping.{match_true}
use Rattle.sat_checker.proofs.lemmas.state.Units.{passed, spent_then, finished, failed, accepted_after, back_after}
use Rattle.sat_checker.proofs.lemmas.state.Checks.{checks_as}
use Rattle.sat_checker.proofs.lemmas.listeners.NotedUnits.{noted_more, twice_then, twice_rest}
use Rattle.std.proofs.lemmas.Grind.{common_steps}
use Rattle.sat_checker.proofs.formula.Formula.store_units.Goals as goal

pub returns-in-Err-clause-decides : goal.returns-in-Err-clause-decides
returns-in-Err-clause-decides c = λ f k.
    let left = c.loop-place.invariant.left f k in
    let units = c.args.units.now in
    let self = c.loop-place.self in
    let place = c.loop-place.place in
    let unit = c.index-units-place.result in
    let kept = c.in-Err.ensures.kept left.now (checks_as self left.now left.kept) in
    failed c.fail_unless_refused.result c.in-Err.fault (PassesByHashes left.now (unit.0 ∷ []) (unit.1 ∷ [])) (UnitsPassInTurn f units) (OtherUnitsPassInTurn left.now c.split_at.result.1.now) _ _ (with_unit unit.0 left.now) _
    (c.in-Err.ensures.decides left.now left.kept) (spent_then self f units place unit c.loop-place-test.true c.index-units-place.is left)
    (λ p q. accepted_after self f units place unit c.loop-place-test.true c.index-units-place.is left p (subst (OtherUnitsPassInTurn left.now) c.split_at.ensures.back q))
    (λ q. subst (OtherUnitsPassInTurn left.now) (sym c.split_at.ensures.back) (back_after self f units place unit c.loop-place-test.true c.index-units-place.is left q))
    (c.fail_unless_refused.ensures.exact left.now kept)

pub returns-in-Err-clause-looks : goal.returns-in-Err-clause-looks
returns-in-Err-clause-looks c = record {
  rise = grind (arith, common_steps);
  most = λ f k.
      let left = c.loop-place.invariant.left f k in
      let kept = c.in-Err.ensures.kept left.now (checks_as c.loop-place.self left.now left.kept) in
      let count : length c.split_at.result.1.now - 1 + (c.loop-place.place + 1) ≡ length c.args.units.now = omega (arith, c.split_at.ensures.back_len, c.loop-place-test.true) in
      twice_rest c.args.looks.now c.loop-place.looks c.store_checked.new.looks c.fail_unless_refused.new.looks c.loop-place.place (length c.split_at.result.1.now - 1) (length c.args.units.now) (stored_literal_count f) (stored_literal_count left.now) left.count count
      (c.loop-place.invariant.looks f k) (c.store_checked.ensures.looks.most left.now left.kept) (c.fail_unless_refused.ensures.looks.most left.now kept);
}

pub loop-place-preserved : goal.loop-place-preserved
loop-place-preserved c = record {
  left = λ f k.
      let left = c.loop-place.invariant.left f k in
      let m = match_true _ _ _ (c.in-Ok-true.ensures.decides left.now left.kept) c.in-Ok-true.field-0-test in
      passed c.loop-place.self f c.args.units.now c.loop-place.place c.index-units-place.result c.loop-place-test.true c.index-units-place.is left c.store_checked.new.self m.0 m.1;
  noted = λ f k a.
      let noted = c.loop-place.invariant.noted f k a in
      let m = match_true _ _ _ (c.in-Ok-true.ensures.decides noted.now noted.kept) c.in-Ok-true.field-0-test in
      noted_more c.loop-place.self f c.args.units.now c.loop-place.place c.index-units-place.result c.loop-place-test.true c.index-units-place.is c.args.notes.now c.loop-place.notes noted c.store_checked.new.self c.store_checked.new.notes c.store_checked.ensures.listening
      (c.in-Ok-true.ensures.noted c.in-Ok-true.field-0-test noted.now noted.kept noted.long) m.1;
  looks = λ f k.
      let left = c.loop-place.invariant.left f k in
      twice_then c.args.looks.now c.loop-place.looks c.store_checked.new.looks c.loop-place.place (stored_literal_count f) (stored_literal_count left.now) left.count (c.loop-place.invariant.looks f k) (c.store_checked.ensures.looks.most left.now left.kept);
  rise = omega (arith, c.loop-place.invariant.rise, c.store_checked.ensures.looks.rise);
}

pub returns-clause-decides : goal.returns-clause-decides
returns-clause-decides c = λ f k. finished c.loop-place.self f c.args.units.now c.loop-place.place (omega arith) (c.loop-place.invariant.left f k)
