use Rattle.std.proofs.Common.{◌∙◌, ap, sym, subst, true, not, filter}
use Rattle.std.specs.Prelude.{◌==◌}
use Rattle.sat_base.specs.values.Literals.{variable}
use Rattle.sat_checker.specs.inner.SlotView.{slot_ids}
use Rattle.sat_checker.specs.inner.FormulaView.{StoredStatus}
use Rattle.sat_checker.specs.inner.AssumedRoom.{HasStoredRoom}
use Rattle.sat_checker.specs.inner.UnitView.{UnitsAndRoom}
use Rattle.sat_checker.specs.inner.StoreView.{rehashed}
use Rattle.sat_checker.proofs.lemmas.formula.Numbering.{numbered_left}
use Rattle.sat_checker.proofs.formula.Formula.forget.Goals as goal

pub returns : goal.returns
returns c = λ f k. record {
  clauses = k.clauses;
  units = ap (λ (w : UnitsAndRoom). w.units) c.forget.ensures ∙ ap (filter (λ u. not (variable u.literal == c.args.var))) k.units;
  status = ap (λ (s : StoredStatus). record s { var_deleted = true }) k.status;
  numbered = numbered_left (λ u. not (variable u.literal == c.args.var)) (slot_ids (rehashed c.args.self.now.store).clauses) f.units c.args.self.now.status.last f.next_id k.numbered;
  room = subst (λ r. HasStoredRoom r f.clauses) (sym (ap (λ (w : UnitsAndRoom). w.room) c.forget.ensures)) k.room;
  marks = k.marks;
}
