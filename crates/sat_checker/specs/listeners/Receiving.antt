-- Which announcements the listeners of a checker receive, in order, up to the first fault.
use Rattle.std.specs.Prelude.{ℕ, ◌≡◌, ◌⊎◌, List, [], ◌∷◌, ◌++◌, Option, None, Some, Result, Ok, Err}
use Rattle.anyhow.specs.declared.error.Error.{Error}
use Rattle.sat_base.specs.steps.Steps.{Step}
use Rattle.sat_checker.specs.announcements.Announcements.{Notice, notices_after, all_notices_after}
use Rattle.sat_checker.specs.listeners.Notifying.{NotifiesOwnFirst}
use Rattle.sat_checker.specs.declared.processing.ProcessingError.{ProcessingError}

-- `SameNotice t u` holds if both notices have the same announcement, and the same name and mode for every variable that
-- can be looked up.
pub record SameNotice (t u : Notice) : Type 0 where
  pub announcement : t.announcement ≡ u.announcement
  pub names : (v : ℕ) → (t.variables v).name ≡ (u.variables v).name
  pub modes : (v : ℕ) → (t.variables v).mode ≡ (u.variables v).mode

module _ {L : Type 0} (Receives : L → Notice → Result Unit ProcessingError → L → Type 0) where
  -- `ReceivesSame Receives old t result new` holds if the listeners received the notice `t`, or one that is the same to
  -- them (`SameNotice`), with this result.
  abbrev pub ReceivesSame : L → Notice → Result Unit ProcessingError → L → Type 0
  ReceivesSame old t result new = (u : Notice) × SameNotice u t × Receives old u result new

  -- `ReceivesAll Receives notices old new` holds if the listeners received all notices, in order, without a fault.
  abbrev pub ReceivesAll : List Notice → L → L → Type 0
  ReceivesAll [] old new = new ≡ old
  ReceivesAll (t ∷ ts) old new = (mid : L) × ReceivesSame old t (Ok tt) mid × ReceivesAll ts mid new

  -- `ReceivesUpToFault Receives e notices old new` holds if the listeners received the notices in order, up to one that
  -- returned the fault `e`. Later ones were not announced.
  abbrev pub ReceivesUpToFault : ProcessingError → List Notice → L → L → Type 0
  ReceivesUpToFault e [] old new = ⊥
  ReceivesUpToFault e (t ∷ ts) old new = ReceivesSame old t (Err e) new ⊎ ((mid : L) × ReceivesSame old t (Ok tt) mid × ReceivesUpToFault e ts mid new)

  -- `ReceivesSince Receives before reported old new` holds if `reported` begins with `before`, and the listeners,
  -- starting as `old`, received the notices after `before`, in order and without a fault.
  abbrev pub ReceivesSince : List Notice → List Notice → L → L → Type 0
  ReceivesSince before reported old new = (since : List Notice) × (reported ≡ before ++ since) × ReceivesAll since old new

  -- `ReceivesSinceUpToFault Receives e before reported old new` holds if `reported` begins with `before`, and the
  -- listeners, starting as `old`, received the notices after `before`, in order, up to one that returned the fault `e`.
  abbrev pub ReceivesSinceUpToFault : ProcessingError → List Notice → List Notice → L → L → Type 0
  ReceivesSinceUpToFault e before reported old new = (since : List Notice) × (reported ≡ before ++ since) × ReceivesUpToFault e since old new

-- The announcements made so far for these steps, the newest first, given the unit conflict that is still pending: its
-- empty clause is left out while it is pending, and included once it is settled (`None`).
abbrev pub notices_made : Option (ℕ × ℕ) → List Step → List Notice
notices_made (Some conflict) steps = notices_after steps
notices_made None steps = all_notices_after steps

-- A listener that is notified before all others, and these others.
pub record CallListeners (V L : Type 0) : Type 0 where
  pub own : V
  pub others : L

-- The listener `own`, which is notified first, and the others.
abbrev pub call_listeners : {V L : Type 0} → V → L → CallListeners V L
call_listeners own others = record { own = own; others = others }

-- `AcceptsAllUnchanged old t result new` holds if a listener accepts the notice `t` without a fault, and does not
-- change.
abbrev pub AcceptsAllUnchanged : {V : Type 0} → V → Notice → Result Unit Error → V → Type 0
AcceptsAllUnchanged old t result new = (result ≡ Ok tt) × (new ≡ old)

-- `OwnReceivesFirst Takes Receives old t result new` holds if the listener `own` is notified of the notice `t`, and
-- then the others, unless `own` returns a fault.
abbrev pub OwnReceivesFirst : {V L : Type 0} → (V → Notice → Result Unit Error → V → Type 0) → (L → Notice → Result Unit ProcessingError → L → Type 0) → CallListeners V L → Notice → Result Unit ProcessingError → CallListeners V L → Type 0
OwnReceivesFirst Takes Receives old t result new = NotifiesOwnFirst (λ answer own. Takes old.own t answer own) (Receives old.others t result new.others) result new.own old.others new.others
