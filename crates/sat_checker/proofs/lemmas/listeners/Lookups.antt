-- Names and modes that may be looked up while a step is announced: those from before the step.
use Rattle.std.proofs.Common.{ℕ, ◌≡◌, Bool, true, false, cond, eqb, List, [], ◌∷◌, map, None, Some, refl, sym, ap, ◌∙◌}
use Rattle.std.proofs.lemmas.Bool.{eqb-true}
use Rattle.sat_base.specs.values.Literals.{variable}
use Rattle.sat_base.specs.steps.Steps.{Redundant, Step, SolverVarName, UserVarName, DeleteVar, ChangeSamplingMode, AddClause, AtClause, UnitClauses, DeleteClause, Model, Assumptions}
use Rattle.sat_checker.specs.LiteralSets.{is_among}
use Rattle.sat_checker.specs.Stored.{Variable, Stored}
use Rattle.sat_checker.specs.Storing.{with_literals_known, with_input}
use Rattle.sat_checker.specs.Accepts.{effect}
use Rattle.sat_checker.specs.inner.NotifyingSteps.{changed_by, with_earlier_data}
use Rattle.sat_checker.proofs.lemmas.meaning.Names.{stored_same, units_same}

-- the same name and mode
pub record Alike (x y : Variable) : Type 0 where
  pub name : x.name ≡ y.name
  pub mode : x.mode ≡ y.mode

alike : (x y : Variable) → x ≡ y → Alike x y
alike x y e = record { name = ap (λ (z : Variable). z.name) e; mode = ap (λ (z : Variable). z.mode) e }

at_itself : (g h : ℕ → Variable) (v w : ℕ) (x : Variable) → ((u : ℕ) → h u ≡ cond (eqb u w) x (g u)) → Alike (cond (eqb v w) (g w) (h v)) (g v)
at_itself g h v w x e = go (eqb v w) refl
  where
    go : (b : Bool) → eqb v w ≡ b → Alike (cond b (g w) (h v)) (g v)
    go true s = alike (g w) (g v) (ap g (sym (eqb-true v w s)))
    go false s = alike (h v) (g v) (e v ∙ ap (λ z. cond z x (g v)) s)

known_alike : (vs : List ℕ) (g : ℕ → Variable) (v : ℕ) → Alike (cond (is_among vs v) (record (g v) { known = true }) (g v)) (g v)
known_alike vs g v = go (is_among vs v)
  where
    go : (b : Bool) → Alike (cond b (record (g v) { known = true }) (g v)) (g v)
    go true = record { name = refl; mode = refl }
    go false = record { name = refl; mode = refl }

over : (g h k : ℕ → Variable) (v : ℕ) → k ≡ h → Alike (h v) (g v) → Alike (k v) (g v)
over g h k v e a = record { name = ap (λ (z : ℕ → Variable). (z v).name) e ∙ a.name; mode = ap (λ (z : ℕ → Variable). (z v).mode) e ∙ a.mode }

-- a step changes name and mode only of the variable that `changed_by` gives
pub steps_alike : (step : Step) (f : Stored) (v : ℕ) → Alike (with_earlier_data (changed_by f.variables step) (effect step f).variables v) (f.variables v)
steps_alike (SolverVarName w (Some name)) f v = known_alike (w ∷ []) f.variables v
steps_alike (UserVarName w (Some name)) f v = at_itself f.variables (effect (UserVarName w (Some name)) f).variables v w _ (λ u. refl)
steps_alike (UserVarName w None) f v = at_itself f.variables (effect (UserVarName w None) f).variables v w _ (λ u. refl)
steps_alike (DeleteVar w) f v = at_itself f.variables (effect (DeleteVar w) f).variables v w _ (λ u. refl)
steps_alike (ChangeSamplingMode w sample) f v = at_itself f.variables (effect (ChangeSamplingMode w sample) f).variables v w _ (λ u. refl)
steps_alike (AddClause c) f v = go f.unsat
  where
    go : (b : Bool) → Alike ((cond b f (with_input c (with_literals_known c f))).variables v) (f.variables v)
    go true = alike _ _ refl
    go false = over f.variables (with_literals_known c f).variables _ v (stored_same false c (with_literals_known c f)).variables (known_alike (map variable c) f.variables v)
steps_alike (AtClause r c hs) f v = over f.variables (with_literals_known c f).variables _ v (stored_same r c (with_literals_known c f)).variables (known_alike (map variable c) f.variables v)
steps_alike (UnitClauses us) f v =
    let ls : List ℕ = map (λ u. u.0) us in over f.variables (with_literals_known ls f).variables _ v (units_same ls (with_literals_known ls f)).variables (known_alike (map variable ls) f.variables v)
steps_alike (DeleteClause c Redundant) f v = alike _ _ refl
steps_alike (Model ls) f v = known_alike (map variable ls) f.variables v
steps_alike (Assumptions ls) f v = known_alike (map variable ls) f.variables v
steps_alike step f v = alike _ _ refl
