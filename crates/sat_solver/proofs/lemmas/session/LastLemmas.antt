-- The irredundant clause that was derived last, in session and checker.
use Rattle.std.proofs.Common.{ℕ, ◌≡◌, Bool, true, false, cond, List, [], ◌∷◌, refl, ◌∙◌, arith, Option, None, Some}
use Rattle.sat_base.specs.steps.Steps.{Step, AtClause, ChangeHashBits}
use Rattle.sat_checker.specs.LiteralSets.{is_tautology, canonical}
use Rattle.sat_checker.specs.Stored.{Stored}
use Rattle.sat_checker.specs.Storing.{with_conflict_settled, with_canonical, with_literals_known, last_literals}
use Rattle.sat_checker.specs.Accepts.{effect}
use Rattle.sat_checker.proofs.lemmas.meaning.Orderly.{OrderInvariant}
use Rattle.sat_checker.proofs.lemmas.invariants.Last.{derived_last, last_stays, last_is_settled}
use Rattle.sat_solver.specs.session.Session.{last_long, last_after}

-- the checker's last clause has this set, if there is one
abbrev pub LastIs : Option (List ℕ) → Stored → Type 0
LastIs last f = (set : List ℕ) → last ≡ Some set → last_literals f.last f ≡ Some set

-- there is no last clause
pub no_last : (set : List ℕ) → None ≡ Some set → ⊥
no_last set e = cc

-- a derived irredundant clause is the last one
last_derived : (b : Bool) (set : List ℕ) (g : Stored) → OrderInvariant (cond b g (with_canonical false set g)) → LastIs (cond b None (last_long false set)) (cond b g (with_canonical false set g))
last_derived true set g o want e = absurd (no_last want e)
last_derived false [] g o want e = absurd (no_last want e)
last_derived false (l ∷ []) g o want e = absurd (no_last want e)
last_derived false (l ∷ m ∷ ls) g o want e = derived_last (l ∷ m ∷ ls) g (omega arith) o ∙ e

-- the last clause after a step
pub last_kept : (step : Step) (last : Option (List ℕ)) (f : Stored) → OrderInvariant (effect step f) → LastIs last f → LastIs (last_after step last) (effect step f)
last_kept (AtClause true clause hashes) last f o h want e = absurd (go (is_tautology clause) e)
  where
    go : (b : Bool) → cond b None (last_long true (canonical clause)) ≡ Some want → ⊥
    go true k = no_last want k
    go false k = no_last want k
last_kept (AtClause false clause hashes) last f o h want e = last_derived (is_tautology clause) (canonical clause) (with_literals_known clause f) o want e
last_kept (ChangeHashBits bits) last f o h want e = last_stays f (ChangeHashBits bits) refl ∙ h want e
last_kept step last f o h want e = absurd (no_last want e)

-- settling a conflict leaves the last clause unchanged
pub last_settled : (last : Option (List ℕ)) (f : Stored) → LastIs last f → LastIs last (with_conflict_settled f)
last_settled last f h want e = last_is_settled f ∙ h want e
