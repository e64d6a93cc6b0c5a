-- Worked examples of deletions, names, models and cores, proved by computing.
use Rattle.std.proofs.Common.{ℕ, ◌<◌, ◌≡◌, None, Some, refl, sym, arith, lit<, inl, inr}
use Rattle.std.proofs.lemmas.Bool.{true≢false}
use Rattle.sat_checker.specs.Accepts.{CanGetName}
use Rattle.sat_checker.specs.Stored.{nothing_stored}
use Rattle.sat_checker.specs.Rows.{SimplifiedBySubset, SimplifiedByItself, SimplifiedByRemoved, NoRedundantCount, UnitForgotten, DeletesVarInClause, DeletesNamedVar, DeletesAssumedVar, DeletesUnknownVar, AddsWitnessVar, AddsHiddenVar, NameTaken, SecondNameRefused, HiddenVarGetsNoName, NamelessLosesNoName, ModelAccepted, ModelAgainstUnit, ModelMissesClause, ModelWithBothSigns, CoreWithBothSigns, CoreNotAssumed}
use Rattle.sat_checker.specs.Propagation.{unit_true, tautology}

first_name : (name : ℕ) → CanGetName nothing_stored 0 name
first_name name = record { free = λ w e. cc; nameless = refl; not_hidden = λ e. cc }

pub by_part : SimplifiedBySubset
by_part = (((((tt, inr (refl, (refl, (refl, tt)))), inr (refl, (refl, tt))), tt), (lit< tt, (refl, refl))), refl)

pub by_itself : SimplifiedByItself
by_itself = ((tt, inr (refl, (refl, tt))), λ h. true≢false h.1.1)

pub by_gone : SimplifiedByRemoved
by_gone = (((((tt, inr (refl, tt)), inr (refl, (refl, (refl, tt)))), inr (refl, (refl, tt))), (lit< tt, refl)), λ h. h.1)

pub no_count : NoRedundantCount
no_count = ((tt, inr (refl, (refl, tt))), λ h. let k : 0 < 0 = h in omega arith)

pub forgotten : UnitForgotten
forgotten = ((((tt, inr (refl, tt)), record { known = refl; nameless = refl; unused = refl; not_assumed = refl }), inr (refl, tt)), refl, refl, refl)

pub in_clause : DeletesVarInClause
in_clause = ((tt, inr (refl, (refl, tt))), λ h. true≢false h.unused)

pub with_name : DeletesNamedVar
with_name = ((tt, first_name 7), λ h. let e : Some 7 ≡ None = h.nameless in cc)

pub while_assumed : DeletesAssumedVar
while_assumed = ((tt, tt), λ h. true≢false h.not_assumed)

pub while_unknown : DeletesUnknownVar
while_unknown = (tt, λ h. true≢false (sym h.known))

pub witness_added : AddsWitnessVar
witness_added = (((tt, tt), refl), λ h. elim h [ inl u ↦ true≢false (sym u) | inr m ↦ absurd cc ])

pub hidden_added : AddsHiddenVar
hidden_added = (((tt, first_name 0), λ e. cc), λ h. elim h [ inl u ↦ true≢false (sym u) | inr m ↦ absurd cc ])

pub name_taken : NameTaken
name_taken = ((tt, first_name 7), λ h. h.free 0 refl)

pub named_over : SecondNameRefused
named_over = ((tt, first_name 7), λ h. let e : Some 7 ≡ None = h.nameless in cc)

pub hidden_named : HiddenVarGetsNoName
hidden_named = (((tt, first_name 7), λ e. cc), λ h. h.not_hidden refl)

pub no_name : NamelessLosesNoName
no_name = ((tt, inr (refl, tt)), λ h. h refl)

pub modelled : ModelAccepted
modelled = ((((tt, inr (refl, (refl, tt))), inr (refl, tt)), unit_true refl), record { consistent = refl; apart = (refl, (refl, tt)); units = (refl, tt); clauses = (inr refl, (inl refl, tt)) })

pub against_unit : ModelAgainstUnit
against_unit = (modelled.0, λ h. true≢false h.units.0)

pub without_clause : ModelMissesClause
without_clause = (modelled.0, λ h. elim h.clauses.0 [ inl z ↦ absurd cc | inr t ↦ true≢false (sym t) ])

pub twice_in_model : ModelWithBothSigns
twice_in_model = (modelled.0, λ h. true≢false h.apart.0)

pub both_signs : CoreWithBothSigns
both_signs = ((tt, tt), (refl, tautology refl))

pub not_assumed : CoreNotAssumed
not_assumed = ((tt, tt), λ h. true≢false (sym h.0))
