-- What is proved for a step of one kind holds for an equal step.
use Rattle.std.proofs.Common.{ℕ, ◌≡◌, Bool, Result, sym, subst}
use Rattle.sat_base.specs.steps.Steps.{Step}
use Rattle.sat_checker.specs.inner.StateView.{DecidesStep, LooksWithin}
use Rattle.sat_checker.specs.listeners.NotedView.{Announces}
use Rattle.sat_checker.specs.declared.announce.notes.Notes.{Notes}
use Rattle.sat_checker.specs.declared.state.CheckerState.{CheckerState}
use Rattle.sat_checker.specs.declared.store.StoreError.{StoreError}

pub decided_as : (r : Result Bool StoreError) (old new : CheckerState) (step kind : Step) → step ≡ kind → DecidesStep r old kind new → DecidesStep r old step new
decided_as r old new step kind e h = subst (λ s. DecidesStep r old s new) (sym e) h

pub within_as : (old : CheckerState) (step kind : Step) (before after : ℕ) → step ≡ kind → LooksWithin old kind before after → LooksWithin old step before after
within_as old step kind before after e h = subst (λ s. LooksWithin old s before after) (sym e) h

pub announced_as : (r : Result Bool StoreError) (old : CheckerState) (step kind : Step) (had has : Notes) → step ≡ kind → Announces r old kind had has → Announces r old step had has
announced_as r old step kind had has e h = subst (λ s. Announces r old s had has) (sym e) h
