-- The session that agrees with the stored clauses, and how steps change it.
use Rattle.std.proofs.Common.{ℕ, ◌≡◌, List, ap, Option}
use Rattle.sat_base.specs.steps.Steps.{Step}
use Rattle.sat_checker.specs.Stored.{Stored}
use Rattle.sat_checker.specs.Storing.{with_unit, with_conflict_settled}
use Rattle.sat_checker.specs.Accepts.{effect}
use Rattle.sat_checker.specs.Contents.{stored_state}
use Rattle.sat_checker.specs.Invariants.{AreDistinctSets}
use Rattle.sat_checker.proofs.lemmas.contents.Views.{view_unit as unit_viewed, contents_follow, contents_are_settled}
use Rattle.sat_solver.specs.session.Session.{Session, session_with, with_unit_added, last_after, after}

-- the session that agrees with the stored clauses
abbrev pub view : Option (List ℕ) → Stored → Session
view last f = session_with last (stored_state f)

module _ (last : Option (List ℕ)) where
  -- the view after a unit
  pub view_unit : (l : ℕ) (f : Stored) → view last (with_unit l f) ≡ with_unit_added l (view last f)
  view_unit l f = ap (λ c. session_with last c.state) (unit_viewed l f)

  -- the view after a step
  pub view_after : (step : Step) (f : Stored) → AreDistinctSets f.clauses → view (last_after step last) (effect step f) ≡ after step (view last f)
  view_after step f h = ap (λ c. session_with (last_after step last) c.state) (contents_follow f step h)

  -- settling a conflict does not change the view
  pub view_settled : (f : Stored) → view last (with_conflict_settled f) ≡ view last f
  view_settled f = ap (λ c. session_with last c.state) (contents_are_settled f)
