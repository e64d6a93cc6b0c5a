-- How feeding a checker the steps of a certificate leads from one state to the next.
use Rattle.std.proofs.Common.{ℕ, ◌+◌, ◌≤◌, ◌≡◌, Bool, true, false, List, ◌∷◌, ◌++◌, Ok, Err, refl, sym, subst, arith}
use Rattle.sat_base.specs.steps.Steps.{Step}
use Rattle.sat_base.specs.steps.StepText.{SpellsStep}
use Rattle.sat_checker.specs.Accepts.{ready_after}
use Rattle.sat_checker.specs.KernelView.{kernel_looks, LooksAtMost}
use Rattle.sat_checker.specs.Looks.{most_looks}
use Rattle.sat_checker.specs.Counters.{CountersExhausted}
use Rattle.sat_checker.specs.declared.kernel.Kernel.{Kernel}
use Rattle.certify.specs.confirm.Feeding.{HasAcceptedSteps, FeedsStep, SettlesConflict}
use Rattle.certify.specs.confirm.CertificateStates.{CertificateState}
use Rattle.certify.specs.confirm.FedSteps.{StepsAccountForLooks, same_looks, looks_of_last, looks_of_accepted, ReachesCounterEnd, exhausted_settling, exhausted_at_step, exhausted_later, IsFedPrefix, FeedsAllSteps, FeedsAllButLast, FeedsLastIf, FeedsSomeSteps, LeadsToCounterEnd}
use Rattle.certify.specs.declared.confirm.stop.Stop.TheVariants as stop

pub walks_none : (u : CertificateState) → FeedsAllSteps u u
walks_none u earlier t = record { later = earlier; taken = t; reaches = λ n r. r; spends = λ s. s }

-- ONE AFTER ANOTHER

pub walks_on : (fed : Bool) (u v w : CertificateState) → FeedsAllSteps u v → FeedsLastIf fed v w → FeedsLastIf fed u w
walks_on true u v w f g = λ earlier t.
    let x = f earlier t in
    let y = g x.later x.taken in
    record { later = y.later; taken = y.taken; reaches = λ n r. x.reaches n (y.reaches n r); spends = λ s. x.spends (y.spends s) }
walks_on false u v w f g = (
  g.0,
  g.1,
  (λ earlier t.
      let x = f earlier t in
      let y = g.2 x.later x.taken in
      record { later = y.later; taken = y.taken; reaches = λ n r. x.reaches n (y.reaches n r); spends = λ s. x.spends (y.spends s) }),
)

pub tries_on : (u v w : CertificateState) → FeedsAllSteps u v → FeedsSomeSteps v w → FeedsSomeSteps u w
tries_on u v w f g earlier t = let x = f earlier t in x.reaches (kernel_looks w.checker) (g x.later x.taken)

pub runs_on : (u v w : CertificateState) → FeedsAllSteps u v → LeadsToCounterEnd v w → LeadsToCounterEnd u w
runs_on u v w f g earlier t = let x = f earlier t in x.spends (g x.later x.taken)

-- NOTHING MORE IS FED

pub tries_if : (fed : Bool) (u v : CertificateState) → FeedsLastIf fed u v → FeedsSomeSteps u v
tries_if true u v f = λ earlier t. let x = f earlier t in x.reaches (kernel_looks v.checker) same_looks
tries_if false u v f = λ earlier t. let x = f.2 earlier t in x.reaches (kernel_looks v.checker) same_looks

pub tries_none : (u v : CertificateState) → v.checker ≡ u.checker → FeedsSomeSteps u v
tries_none u v e earlier t = subst (λ (c : Kernel). StepsAccountForLooks earlier u.rest (kernel_looks u.checker) (kernel_looks c)) (sym e) same_looks

-- THE NEXT STEP

-- a step that was read, but not fed, is the only one not fed
pub walks_read : (u v : CertificateState) (text : List ℕ) → SpellsStep v.step text → u.rest ≡ text ++ v.rest → v.checker ≡ u.checker → FeedsAllButLast u v
walks_read u v text spelt front same = (
  text,
  spelt,
  (λ earlier t. subst (λ (c : Kernel). IsFedPrefix u.checker u.rest c (text ++ v.rest) earlier) (sym same) (record {
    later = earlier;
    taken = t;
    reaches = λ n r. subst (λ bytes. StepsAccountForLooks earlier bytes (kernel_looks u.checker) n) (sym front) r;
    spends = λ s. subst (ReachesCounterEnd earlier) (sym front) s;
  })),
)

-- once the step is fed and accepted, all steps are fed
pub walks_fed : (u v w : CertificateState) → w.rest ≡ v.rest → FeedsStep (Ok tt) v.checker v.step w.checker → LooksAtMost v.checker v.step w.checker → FeedsAllButLast u v → FeedsAllSteps u w
walks_fed u v w same fed most f earlier t =
    let x = f.2 earlier t in
    let y = fed x.later x.taken in
    let bound = most x.later x.taken.valid in
    let here : f.0 ++ v.rest ≡ f.0 ++ w.rest = subst (λ bytes. f.0 ++ v.rest ≡ f.0 ++ bytes) (sym same) refl in
    record {
      later = v.step ∷ x.later;
      taken = y.1;
      reaches = λ n r. x.reaches n (looks_of_accepted v.step f.0 w.rest (kernel_looks w.checker) here f.1 y.0 bound r);
      spends = λ s. x.spends (exhausted_later v.step f.0 w.rest here f.1 y.0 s);
    }

-- a step that is fed counts for the looks, accepted or not
pub tries_fed : (u v w : CertificateState) → LooksAtMost v.checker v.step w.checker → FeedsAllButLast u v → FeedsSomeSteps u w
tries_fed u v w most f earlier t = let x = f.2 earlier t in x.reaches (kernel_looks w.checker) (looks_of_last v.step f.0 v.rest refl f.1 (most x.later x.taken.valid))

-- if feeding a step exhausts a counter, the steps do
pub runs_fed : (u v w : CertificateState) (next : Kernel) → FeedsStep (Err stop.CounterEnd) v.checker v.step next → FeedsAllButLast u v → LeadsToCounterEnd u w
runs_fed u v w next fed f earlier t = let x = f.2 earlier t in x.spends (exhausted_at_step v.step f.0 v.rest refl f.1 (fed x.later x.taken))

-- SETTLING A PENDING UNIT CONFLICT

settled_walk : (old : Kernel) (bytes : List ℕ) (mid next : Kernel) (rest : List ℕ) (earlier : List Step) → SettlesConflict (Ok tt) mid next → IsFedPrefix old bytes mid rest earlier → IsFedPrefix old bytes next rest earlier
settled_walk old bytes mid next rest earlier settled x =
    let y = settled x.later x.taken in
    record {
      later = x.later;
      taken = y.0;
      reaches = λ n r. x.reaches n (subst (λ k. StepsAccountForLooks x.later rest k n) y.1 r);
      spends = x.spends;
    }

-- settling a conflict does not change which steps are fed
pub walks_settled : (fed : Bool) (u v w : CertificateState) → w.rest ≡ v.rest → w.step ≡ v.step → SettlesConflict (Ok tt) v.checker w.checker → FeedsLastIf fed u v → FeedsLastIf fed u w
walks_settled true u v w r s settled f = λ earlier t.
    subst (λ bytes. IsFedPrefix u.checker u.rest w.checker bytes earlier) (sym r) (settled_walk u.checker u.rest v.checker w.checker v.rest earlier settled (f earlier t))
walks_settled false u v w r s settled f = (
  f.0,
  subst (λ step. SpellsStep step f.0) (sym s) f.1,
  (λ earlier t. subst (λ bytes. IsFedPrefix u.checker u.rest w.checker (f.0 ++ bytes) earlier) (sym r) (settled_walk u.checker u.rest v.checker w.checker (f.0 ++ v.rest) earlier settled (f.2 earlier t))),
)

-- the steps that the checker was fed, with their looks
pub record Reached (u v : CertificateState) (earlier : List Step) : Type 0 where
  pub later : List Step
  pub taken : HasAcceptedSteps v.checker later
  pub looks : StepsAccountForLooks earlier u.rest (kernel_looks u.checker) (kernel_looks v.checker)
  pub spent : CountersExhausted (ready_after later) → ReachesCounterEnd earlier u.rest

reached : (fed : Bool) (u v : CertificateState) → FeedsLastIf fed u v → (earlier : List Step) → HasAcceptedSteps u.checker earlier → Reached u v earlier
reached true u v f = λ earlier t. let x = f earlier t in record { later = x.later; taken = x.taken; looks = x.reaches (kernel_looks v.checker) same_looks; spent = λ s. x.spends (exhausted_settling s) }
reached false u v f = λ earlier t. let x = f.2 earlier t in record { later = x.later; taken = x.taken; looks = x.reaches (kernel_looks v.checker) same_looks; spent = λ s. x.spends (exhausted_settling s) }

-- memory runs out when the unit conflict is settled
pub tries_kept : (fed : Bool) (u v w : CertificateState) → SettlesConflict (Err stop.OutOfMemory) v.checker w.checker → FeedsLastIf fed u v → FeedsSomeSteps u w
tries_kept fed u v w settled f earlier t =
    let x = reached fed u v f earlier t in subst (StepsAccountForLooks earlier u.rest (kernel_looks u.checker)) (sym (settled x.later x.taken)) x.looks

-- no id is left for the empty clause of the unit conflict
pub tries_spent : (fed : Bool) (u v w : CertificateState) → SettlesConflict (Err stop.CounterEnd) v.checker w.checker → FeedsLastIf fed u v → FeedsSomeSteps u w
tries_spent fed u v w settled f earlier t =
    let x = reached fed u v f earlier t in subst (StepsAccountForLooks earlier u.rest (kernel_looks u.checker)) (sym (settled x.later x.taken).1) x.looks

-- if settling a conflict exhausts a counter, the steps do
pub runs_spent : (fed : Bool) (u v w : CertificateState) → SettlesConflict (Err stop.CounterEnd) v.checker w.checker → FeedsLastIf fed u v → LeadsToCounterEnd u w
runs_spent fed u v w settled f earlier t = let x = reached fed u v f earlier t in x.spent (settled x.later x.taken).0

-- settling a unit conflict is never refused
pub never_settled : (fed : Bool) (u v : CertificateState) (T : Type 0) (earlier : List Step) → ((steps : List Step) → HasAcceptedSteps v.checker steps → ⊥) → FeedsLastIf fed u v → HasAcceptedSteps u.checker earlier → T
never_settled fed u v T earlier none f t = let x = reached fed u v f earlier t in absurd (none x.later x.taken)

-- a bound on the rise in looks does not depend on the looks before
more_looks : (a b m k : ℕ) → b ≤ a + m → b + k ≤ a + k + m
more_looks a b m k h = omega arith

-- a bound on the rise of the looks does not depend on where they start
pub looks_from : (k : ℕ) (earlier : List Step) (bytes : List ℕ) (from to : ℕ) → StepsAccountForLooks earlier bytes from to → StepsAccountForLooks earlier bytes (from + k) (to + k)
looks_from k earlier bytes from to same_looks = same_looks
looks_from k earlier bytes from to (looks_of_last step text rest e s h) = looks_of_last step text rest e s (more_looks from to (most_looks (ready_after earlier) step) k h)
looks_from k earlier bytes from to (looks_of_accepted step text rest between e s a h r) =
    looks_of_accepted step text rest (between + k) e s a (more_looks from between (most_looks (ready_after earlier) step) k h) (looks_from k (step ∷ earlier) rest between to r)
