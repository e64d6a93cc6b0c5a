-- Worked examples of what steps mean.
use Rattle.std.proofs.Common.{◌≡◌, Bool, true, false, not, ◌||◌, refl, sym, inl, inr}
use Rattle.std.proofs.lemmas.Bool.{true≢false}
use Rattle.sat_checker.specs.MeaningRows.{EitherLiteralSatisfies, FourClausesHaveNoModel, DeletedIsFree, OnlyAddedConstrains, StoredConstrains, UnsatExcludesAll, LooksByStepKind, LooksOfThreeSteps}

no : false ≡ true → ⊥
no e = true≢false (sym e)

pub either_holds : EitherLiteralSatisfies
either_holds = ((tt, refl), (tt, refl), λ h. no h.1)

pub four_have_none : FourClausesHaveNoModel
four_have_none a h = go (a 0) (a 1) h.0.0.0.1 h.0.0.1 h.0.1 h.1
  where
    go : (x y : Bool) → (x || (y || false)) ≡ true → (x || (not y || false)) ≡ true → (not x || (y || false)) ≡ true → (not x || (not y || false)) ≡ true → ⊥
    go true true p q r s = no s
    go true false p q r s = no r
    go false true p q r s = no q
    go false false p q r s = no p

pub deleted_is_free : DeletedIsFree
deleted_is_free = (inr (tt, refl), (inr (tt, refl), refl), λ h. no h.1)

pub only_added_ask : OnlyAddedConstrains
only_added_ask = (tt, refl)

pub stored_ask : StoredConstrains
stored_ask = (
  record { consistent = refl; kept = (inr refl, tt); units = tt },
  (λ s. elim s.kept.0 [ inl z ↦ absurd cc | inr t ↦ no t ]),
  record { consistent = refl; kept = (inl refl, tt); units = tt },
  (λ s. no s.units.0),
)

pub unsat_asks : UnsatExcludesAll
unsat_asks a s = true≢false s.consistent

pub looks_of_kinds : LooksByStepKind
looks_of_kinds = refl

pub looks_of_all : LooksOfThreeSteps
looks_of_all = refl
