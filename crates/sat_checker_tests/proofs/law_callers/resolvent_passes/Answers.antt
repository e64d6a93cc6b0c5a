use Rattle.std.proofs.Common.{[], ◌∷◌, refl, inl, inr}
use Rattle.sat_checker_tests.proofs.law_callers.resolvent_passes.Goals as goal

pub returns : goal.returns
returns c = λ f g h p q. c.named_clauses_pass.ensures.passes f (0 ∷ []) (g ∷ h ∷ []) ((0 ∷ 2 ∷ []) ∷ (0 ∷ 3 ∷ []) ∷ []) (p, (q, tt)) (2, (inr refl, (inl refl, tt)), refl, (refl, (refl, tt)))
