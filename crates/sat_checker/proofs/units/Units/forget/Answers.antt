use Rattle.std.proofs.Common.{eqb, ◌∙◌, ap, filter, not}
use Rattle.sat_checker.specs.Stored.{StoredUnit}
use Rattle.sat_checker.specs.inner.UnitView.{UnitsAndRoom}
use Rattle.sat_checker.proofs.lemmas.state.Forgetting.{both_taken}
use Rattle.sat_checker.proofs.units.Units.forget.Goals as goal

pub returns : goal.returns
returns c =
    c.forget_lit-2.ensures ∙ ap (λ (w : UnitsAndRoom). record w { units = filter (λ (u : StoredUnit). not (eqb u.literal c.lit-2.result)) w.units }) c.forget_lit.ensures
    ∙ ap (λ us. record c.args.self.now { units = us }) (both_taken c.args.var c.lit.result c.lit-2.result c.args.self.now.units c.lit.ensures c.lit-2.ensures)
