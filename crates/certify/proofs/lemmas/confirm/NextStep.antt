-- What the next step must be, by the cases of `Meets`.
use Rattle.std.proofs.Common.{ℕ, ◌+◌, ◌≡◌, true, false, List, ◌∷◌, Some, refl, sym, ◌∙◌}
use Rattle.std.proofs.lemmas.Bool.{true≢false}
use Rattle.sat_base.specs.steps.Steps.{Step, UserVarName}
use Rattle.sat_checker.specs.matching.Checking.{CheckerRules, is_ordered}
use Rattle.certify.specs.confirm.Matches.{Meets, other, ordered}
use Rattle.sat_checker.specs.matching.Expected.{Expected, NewName, FitsExpected, new_name, no_name, adds, opens, shows, fails, closes, finish}

-- only ordered steps are expected
fits_ordered : (k : CheckerRules) (earlier : List Step) {e : Expected} {step : Step} → FitsExpected (k.knows earlier) earlier e step → is_ordered step ≡ true
fits_ordered k earlier (new_name is unknown) = refl
fits_ordered k earlier (no_name at) = refl
fits_ordered k earlier (adds same) = refl
fits_ordered k earlier (opens same) = refl
fits_ordered k earlier (shows n spelt asked) = refl
fits_ordered k earlier (fails same) = refl
fits_ordered k earlier closes = refl
fits_ordered k earlier finish = refl

-- an ordered step fits the first expected step, and is accepted
pub taken : (k : CheckerRules) {earlier steps : List Step} {step : Step} {e : Expected} {es : List Expected} → is_ordered step ≡ true → Meets k earlier (step ∷ steps) (e ∷ es) → FitsExpected (k.knows earlier) earlier e step × k.Accepts earlier step × Meets k (step ∷ earlier) steps es
taken k o (other u n acc m) = absurd (true≢false (sym o ∙ n))
taken k o (ordered u f acc m) = (f, acc, m)

-- an unordered step is accepted, and the same steps are expected after it
pub skipped : (k : CheckerRules) {earlier steps : List Step} {step : Step} {e : Expected} {es : List Expected} → is_ordered step ≡ false → Meets k earlier (step ∷ steps) (e ∷ es) → k.Accepts earlier step × Meets k (step ∷ earlier) steps (e ∷ es)
skipped k o (other u n acc m) = (acc, m)
skipped k {earlier = earlier} o (ordered u f acc m) = absurd (true≢false (sym (fits_ordered k earlier f) ∙ o))

pub fits_new : (k : CheckerRules) (earlier : List Step) {name v index : ℕ} → FitsExpected (k.knows earlier) earlier (NewName name) (UserVarName v (Some index)) → (index + 1 ≡ name) × (k.knows earlier v ≡ false)
fits_new k earlier (new_name is unknown) = (is, unknown)
