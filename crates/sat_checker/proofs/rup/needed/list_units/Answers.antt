use Rattle.std.proofs.Common.{rules, ap, sym, ◌∙◌, Vec, Global, ℕ}
use Rattle.std.proofs.lemmas.List.{get_or_read}
use Rattle.sat_checker.specs.LiteralSets.{is_among}
use Rattle.sat_checker.specs.Storing.{unit_id}
use Rattle.sat_checker.proofs.lemmas.announcements.Listing.{unit_ids_of, id_denied, id_of_none, id_taken, all_taken, units_listed}
use Rattle.sat_checker.proofs.rup.needed.list_units.Goals.{in-Some+in_ok-push, in_default}
use Rattle.std.proofs.lemmas.Result.{IfOk-from_err}
use Rattle.sat_checker.proofs.rup.needed.list_units.Goals as goal

pub returns : goal.returns
returns c =
    let ls = c.literals-lit-items.result.now in
    let all = unit_ids_of c.args.denied.now.literals c.args.units.now.units ls in
    units_listed c.args.denied.now.literals c.args.marked.now.literals c.args.units.now.units ls c.loop-lit.ids.items c.sort_unstable.new.self.items c.literals-lit-items.ensures.lent c.literals-lit-items.ensures.once c.stand_once.ensures
    (all_taken c.args.denied.now.literals c.args.units.now.units ls c.loop-lit.lit-index c.loop-lit.ids.items all (search rules) c.loop-lit.invariant) c.sort_unstable.ensures.permutation c.sort_unstable.ensures.sorted

pub loop-lit-preserved-then-is_true : goal.loop-lit-preserved-then-is_true
loop-lit-preserved-then-is_true c =
    let is = get_or_read c.literals-lit-items.result.now c.loop-lit.lit-index c.lit-item.result c.loop-lit-test.true c.lit-item.is 0 in
    id_denied c.args.denied.now.literals c.args.units.now.units c.literals-lit-items.result.now c.loop-lit.lit-index c.loop-lit-test.true c.loop-lit.ids.items _ c.loop-lit.invariant
    (ap (is_among c.args.denied.now.literals) (sym is) ∙ sym c.is_true.ensures ∙ c.if-is_true.true)

pub loop-lit-preserved : goal.loop-lit-preserved
loop-lit-preserved c =
    let is = get_or_read c.literals-lit-items.result.now c.loop-lit.lit-index c.lit-item.result c.loop-lit-test.true c.lit-item.is 0 in
    let allowed = ap (is_among c.args.denied.now.literals) (sym is) ∙ sym c.is_true.ensures ∙ c.if-is_true.false in
    let id_is = ap (λ l. unit_id l c.args.units.now.units) (sym is) ∙ sym c.id.ensures in
    elim c.match-id.branch [
      | in-Some+in_ok-push w ↦ id_taken c.args.denied.now.literals c.args.units.now.units c.literals-lit-items.result.now c.loop-lit.lit-index c.loop-lit-test.true c.loop-lit.ids.items _ c.loop-lit.invariant w.in-Some.id c.match-id.ids.items
          allowed (id_is ∙ w.in-Some.is) (ap (λ (v : Vec ℕ Global). v.items) w.ids-is ∙ w.in_ok-push.ensures.items)
      | in_default w ↦ rw w.ids-is (id_of_none c.args.denied.now.literals c.args.units.now.units c.literals-lit-items.result.now c.loop-lit.lit-index c.loop-lit-test.true c.loop-lit.ids.items _ c.loop-lit.invariant
          allowed (id_is ∙ w.in_default.is))
    ]

pub returns-in_err-push : goal.returns-in_err-push
returns-in_err-push c = IfOk-from_err c.from_residual.result _ c.from_residual.ensures.0
