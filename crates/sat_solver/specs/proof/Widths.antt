-- Steps with hashes of 64 bits, and what is written for them at other widths.
use Rattle.std.specs.Prelude.{ℕ, ◌-◌, ◌/◌, ◌^◌, ◌≡◌, List, [], ◌∷◌, map}
use Rattle.sat_base.specs.steps.Steps.{Step, AtClause, UnitClauses, ChangeHashBits, FailedAssumptions}
use Rattle.sat_solver.specs.session.Session.{AreAllowedSteps, session_after}

-- `kept_bits width hash` is the top `width` bits of a hash
abbrev pub kept_bits : ℕ → ℕ → ℕ
kept_bits width hash = hash / 2 ^ (64 - width)

-- `narrowed width step` is the step with only the top `width` bits of its hashes
abbrev pub narrowed : ℕ → Step → Step
narrowed width (AtClause redundant clause hashes) = AtClause redundant clause (map (kept_bits width) hashes)
narrowed width (UnitClauses us) = UnitClauses (map (λ u. (u.0, kept_bits width u.1)) us)
narrowed width (FailedAssumptions core hashes) = FailedAssumptions core (map (kept_bits width) hashes)
narrowed width step = step

-- `KeepsWidth step` holds if the step does not change the width
abbrev pub KeepsWidth : Step → Type 0
KeepsWidth (ChangeHashBits bits) = ⊥
KeepsWidth step = Unit {0}

-- `IsNarrowedTo wide written width` holds if `written` is what is written for the steps `wide`, which have hashes of 64
-- bits, when the width may change before any step; it is 64 at first and `width` at last. Lists have the newest step
-- first.
pub data IsNarrowedTo : List Step → List Step → ℕ → Type 0 where
  none_yet : IsNarrowedTo [] [] 64
  width_changes : {wide written : List Step} {width : ℕ} (bits : ℕ) → IsNarrowedTo wide written width → IsNarrowedTo wide (ChangeHashBits bits ∷ written) bits
  one_more : {wide written : List Step} {width : ℕ} (step : Step) → KeepsWidth step → IsNarrowedTo wide written width → IsNarrowedTo (step ∷ wide) (narrowed width step ∷ written) width

-- `IsAllowedAtWidth wide written width` holds if the steps `written` are allowed, and leave the same session as the
-- steps `wide`, except that its width is `width`
pub record IsAllowedAtWidth (wide written : List Step) (width : ℕ) : Type 0 where
  pub may : AreAllowedSteps written
  pub session : session_after written ≡ record (session_after wide) { width = width }

-- `WidthsAreFree` holds if allowed steps stay allowed when they are written with hashes cut to any widths, and leave
-- the same session except for its width
abbrev pub WidthsAreFree : Type 0
WidthsAreFree = (wide written : List Step) (width : ℕ) → IsNarrowedTo wide written width → AreAllowedSteps wide → IsAllowedAtWidth wide written width
