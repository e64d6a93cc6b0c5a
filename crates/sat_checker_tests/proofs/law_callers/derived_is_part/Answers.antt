use Rattle.std.proofs.Common.{[], ◌∷◌, refl, sym, subst, arith}
use Rattle.sat_checker.specs.Accepts.{IsStrictSubset}
use Rattle.sat_checker_tests.proofs.law_callers.derived_is_part.Goals as goal

pub returns : goal.returns
returns c = λ steps hashes ok. subst (λ o. IsStrictSubset o (0 ∷ 2 ∷ 4 ∷ [])) (sym (c.last_was_derived.ensures.derived steps (0 ∷ 2 ∷ []) hashes ok refl (omega arith))) (refl, refl)
