-- Worked examples of announcements about clauses, proved by computing.
use Rattle.std.proofs.Common.{refl, inl, inr, lit<}
use Rattle.sat_checker.specs.Propagation.{unit_true, tautology}
use Rattle.sat_checker.specs.announcements.Rows.{InputNew, InputDuplicate, InputRedundant, InputUnitAgain, InputTautology, InputAfterUnsat, DerivedNew, DerivedIrredundant, DerivedRedundantAgain, DerivedIrredundantAgain, DerivedUnitAgain, DerivedTautology, RedundantDeleted, IrredundantCountLeft, SatisfiedDeleted, KeptAsRedundant, SimplifiedDeleted, SimplifiedByEmpty, OneIrredundantCountLeft}
use Rattle.sat_checker.proofs.lemmas.rows.Accepted.{refuted_twice}

pub input_new : InputNew
input_new = ((tt, inr (refl, (refl, (refl, tt)))), refl)

pub input_duplicate : InputDuplicate
input_duplicate = (((tt, inr (refl, (refl, tt))), inr (refl, (refl, (refl, tt)))), refl)

pub input_redundant : InputRedundant
input_redundant = ((((tt, inr (refl, tt)), unit_true refl), inr (refl, (refl, tt))), refl)

pub input_unit_again : InputUnitAgain
input_unit_again = (((tt, inr (refl, tt)), inr (refl, (refl, tt))), refl)

pub input_tautology : InputTautology
input_tautology = ((tt, inr (refl, (refl, (refl, tt)))), refl)

pub after_unsat : InputAfterUnsat
after_unsat = (((tt, inr tt), inl refl), refl)

pub derived_new : DerivedNew
derived_new = (((tt, inr (refl, tt)), unit_true refl), refl)

pub derived_irredundant : DerivedIrredundant
derived_irredundant = ((((tt, inr (refl, tt)), unit_true refl), unit_true refl), refl)

pub redundant_again : DerivedRedundantAgain
redundant_again = ((((tt, inr (refl, tt)), unit_true refl), unit_true refl), refl)

pub irredundant_again : DerivedIrredundantAgain
irredundant_again = ((((tt, inr (refl, tt)), inr (refl, (refl, tt))), unit_true refl), refl)

pub unit_again : DerivedUnitAgain
unit_again = (((tt, inr (refl, tt)), unit_true refl), refl)

pub derived_tautology : DerivedTautology
derived_tautology = ((tt, tautology refl), refl)

pub redundant_gone : RedundantDeleted
redundant_gone = ((((tt, inr (refl, tt)), unit_true refl), lit< tt), refl)

pub redundant_stays : IrredundantCountLeft
redundant_stays = (((((tt, inr (refl, tt)), unit_true refl), unit_true refl), lit< tt), refl)

pub satisfied_gone : SatisfiedDeleted
satisfied_gone = (((((tt, inr (refl, tt)), inr (refl, tt)), inr (refl, (refl, tt))), (lit< tt, refl)), refl)

pub satisfied_kept : KeptAsRedundant
satisfied_kept = (((((tt, inr (refl, tt)), unit_true refl), unit_true refl), (lit< tt, refl)), refl)

pub simplified_gone : SimplifiedDeleted
simplified_gone = ((((tt, inr (refl, (refl, (refl, tt)))), inr (refl, (refl, tt))), (lit< tt, (refl, refl))), refl)

pub simplified_by_empty : SimplifiedByEmpty
simplified_by_empty = (((((tt, inr (refl, (refl, tt))), inr tt), (lit< tt, (refl, refl))), refl), ((refuted_twice.0, (lit< tt, (refl, refl))), refl))

pub satisfied_stays : OneIrredundantCountLeft
satisfied_stays = (((((tt, inr (refl, tt)), inr (refl, (refl, tt))), inr (refl, (refl, tt))), (lit< tt, refl)), refl)
