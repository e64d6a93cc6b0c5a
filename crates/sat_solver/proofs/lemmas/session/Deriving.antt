-- How a solver shows that a clause may be derived.
use Rattle.std.proofs.Common.{ℕ, ◌≡◌, true, false, eqb, List, [], ◌∷◌, sym, ap, ◌⊎◌, inl, inr}
use Rattle.std.proofs.lemmas.Bool.{or_left, or_right, eq-eqb}
use Rattle.std.specs.List.{AllByRecursion}
use Rattle.sat_base.specs.values.Literals.{negated}
use Rattle.sat_checker.specs.LiteralSets.{is_among}
use Rattle.sat_solver.specs.session.Session.{Session, IsLive, rup_assumptions, hash_in, CanDerive, by_clauses}

-- a unit may be derived from a live clause if all its other literals are false by units
pub proves : (s : Session) (l hash : ℕ) (c : List ℕ) → IsLive s c → hash ≡ hash_in s c → AllByRecursion (λ m. (m ≡ l) ⊎ (s.units (negated m) ≡ true)) c → CanDerive s (l ∷ []) (hash ∷ [])
proves s l hash c live e h = by_clauses (c ∷ []) (live, e, tt) (all c h)
  where
    all : (ms : List ℕ) → AllByRecursion (λ m. (m ≡ l) ⊎ (s.units (negated m) ≡ true)) ms → AllByRecursion (λ m. rup_assumptions s (l ∷ []) (negated m) ≡ true) ms
    all [] k = tt
    all (m ∷ ms) k = (
      elim k.0 [
        | inl q ↦ or_left (is_among (negated l ∷ []) (negated m)) (s.units (negated m)) (or_left (eqb (negated l) (negated m)) false (eq-eqb (negated l) (negated m) (ap negated (sym q))))
        | inr t ↦ or_right (is_among (negated l ∷ []) (negated m)) (s.units (negated m)) t
      ],
      all ms k.1,
    )
