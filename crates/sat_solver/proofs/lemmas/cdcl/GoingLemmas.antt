-- Calls that make steps of a search, one after another.
use Rattle.std.proofs.Common.{ℕ, ◌≡◌, ◌∙◌, inl, inr, Bool, true, false, Result, Ok, Err, Option, List, [], ◌∷◌, ◌++◌, refl, subst}
use Rattle.std.specs.Prelude.{MatchResult, IfErr}
use Rattle.sat_base.specs.device.Device.{Writer}
use Rattle.sat_base.specs.steps.Steps.{Step}
use Rattle.sat_checker.specs.declared.processing.ProofProcessor.{Ghosts}
use Rattle.sat_solver.specs.proof.ProofView.{EmitsExactly, CheckerFailed, FailsCheck, EmitsChecked, EmitResult, HasAllowedSteps, has_missed_step, steps_of, session_of}
use Rattle.sat_solver.specs.session.Session.{session_after}
use Rattle.sat_solver.specs.declared.proof.emitted.CheckFault.{CheckFault}
use Rattle.sat_solver.specs.declared.proof.emitted.CheckFault.TheVariants as checks
use Rattle.sat_solver.specs.declared.proof.Proof.{Proof}
use Rattle.sat_solver.specs.declared.proof.ProofError.{ProofError}
use Rattle.sat_solver.specs.declared.proof.ProofError.TheVariants.{Write, OutOfMemory, Check}
use Rattle.sat_solver.proofs.lemmas.session.ProofLemmas.{adds_none, adds_more, gains_none, gains_adds, gains_more, fails_later, check_later}
use Rattle.sat_store.specs.declared.clause.alloc.StoreError.{StoreError}
use Rattle.sat_store.specs.declared.clause.alloc.StoreError.TheVariants as stores
use Rattle.sat_solver.specs.Recovery.{error_of_buffer}
use Rattle.sat_solver.specs.proof.ListenerErrors.{IsListenerError}
use Rattle.sat_solver.specs.cdcl.Faults.{StoresError, MissesOnlyByFault}
use Rattle.sat_solver.specs.declared.error.SolverError.{SolverError}
use Rattle.sat_solver.specs.declared.error.SolverError.TheVariants as errors
use Rattle.sat_solver.specs.session.Quiet.{is_quiet, AreQuiet}
use Rattle.sat_solver.proofs.lemmas.fits.QuietLemmas.{quiet_both}
use Rattle.sat_solver.specs.cdcl.StepEffects.{AreSearchSteps, IsSearchStep, AreQuietUnless, error_of_check, error_of_proof, IsFault, IsFaultOr, EmitsUpToFault, EmitsSteps, EmitsStepsOr, EmitsStepsWith}
use Rattle.sat_solver.proofs.lemmas.cdcl.AskedLemmas.{names_following}

both : (names : ℕ → Option ℕ) (ys xs : List Step) → AreSearchSteps names ys → AreSearchSteps names xs → AreSearchSteps names (ys ++ xs)
both names [] xs h k = k
both names (y ∷ ys) xs h k = (h.0, both names ys xs h.1 k)

-- steps of a search followed by more of them are steps of a search, since solver names stay the same
pub searched_both : (ys xs later earlier : List Step) → later ≡ xs ++ earlier → AreSearchSteps (session_after later).solver_names ys → AreSearchSteps (session_after earlier).solver_names xs → AreSearchSteps (session_after earlier).solver_names (ys ++ xs)
searched_both ys xs later earlier written h k =
    both (session_after earlier).solver_names ys xs (subst (λ names. AreSearchSteps names ys) (names_following xs later earlier (session_after earlier).solver_names written k) h) k

-- an error of a search that stores no clause is an error of any search
pub fault_or : (full : Type 0) (e : SolverError) → IsFault e → IsFaultOr full e
fault_or full errors.OutOfMemory h = h
fault_or full (errors.ProofIoError cause) h = h
fault_or full (errors.ProofProcessorError cause) h = h
fault_or full errors.CounterEnd h = h
fault_or full e h = absurd h

pub fault_checked : (full : Type 0) (fault : CheckFault) → IsFaultOr full (error_of_check fault)
fault_checked full checks.OutOfMemory = tt
fault_checked full checks.CounterEnd = tt
fault_checked full (checks.Processor cause) = tt

ends_with : {A : Type 0} (full : Type 0) (r : Result A SolverError) (P Q : A → Type 0) → ((x : A) → P x → Q x) → MatchResult r P (IsFaultOr full) → MatchResult r Q (IsFaultOr full)
ends_with full (Ok x) P Q f h = f x h
ends_with full (Err e) P Q f h = h

ends_or : {A : Type 0} (full : Type 0) (r : Result A SolverError) (P : A → Type 0) → MatchResult r P IsFault → MatchResult r P (IsFaultOr full)
ends_or full (Ok x) P h = h
ends_or full (Err e) P h = fault_or full e h

-- the proof stores the error of the checker's processor
pub complaint_kept : {W L : Type 0} {G : Ghosts L} (fault : CheckFault) (p : Proof W L G) → IsListenerError fault p.made.complaint → StoresError (error_of_check fault) p
complaint_kept checks.OutOfMemory p h = tt
complaint_kept checks.CounterEnd p h = tt
complaint_kept (checks.Processor cause) p h = h

-- the error for a fault of the checker explains a lost step
pub check_loss : {W L : Type 0} {G : Ghosts L} (fault : CheckFault) (p q : Proof W L G) → CheckerFailed fault q → MissesOnlyByFault (error_of_check fault) p q
check_loss checks.OutOfMemory p q h = inr h
check_loss checks.CounterEnd p q h = tt
check_loss (checks.Processor cause) p q h = tt

-- the same after a call that lost no step
pub loss_later : {W L : Type 0} {G : Ghosts L} (e : SolverError) (a b c : Proof W L G) → has_missed_step b ≡ has_missed_step a → MissesOnlyByFault e b c → MissesOnlyByFault e a c
loss_later (errors.ProofProcessorError cause) a b c same h = tt
loss_later (errors.ProofIoError cause) a b c same h = tt
loss_later errors.OutOfMemory a b c same h = elim h [ inl k ↦ inl (k ∙ same) | inr w ↦ inr w ]
loss_later errors.CounterEnd a b c same h = tt
loss_later e a b c same h = h ∙ same

loss_after : {A W L : Type 0} {G : Ghosts L} (r : Result A SolverError) (a b c : Proof W L G) → has_missed_step b ≡ has_missed_step a → IfErr r (λ e. MissesOnlyByFault e b c) → IfErr r (λ e. MissesOnlyByFault e a c)
loss_after (Ok x) a b c same h = tt
loss_after (Err e) a b c same h = loss_later e a b c same h

-- NOTHING IS LEARNED

quiet_none : (learns : Bool) → AreQuietUnless learns []
quiet_none true = tt
quiet_none false = tt

quiet_then : {B : Type 0} (learns : Bool) (r : Result B SolverError) (xs ys : List Step) → AreQuiet xs → MatchResult r (λ _. AreQuietUnless learns ys) (λ _. Unit {0}) → MatchResult r (λ _. AreQuietUnless learns (ys ++ xs)) (λ _. Unit {0})
quiet_then true (Ok x) xs ys h k = tt
quiet_then false (Ok x) xs ys h k = quiet_both xs ys h k
quiet_then learns (Err e) xs ys h k = tt

quiet_or : {B : Type 0} (r : Result B SolverError) → MatchResult r (λ _. Unit {0}) (λ _. Unit {0})
quiet_or (Ok x) = tt
quiet_or (Err e) = tt

module _ {W L : Type 0} {G : Ghosts L} (seen : W → Writer) where
  -- nothing was written
  pub goes_none : {A full : Type 0} {learns : Bool} (x : A) (p : Proof W L G) (P : A → List Step → Type 0) → HasAllowedSteps p → P x [] → EmitsStepsWith full learns seen (Ok x) p p P
  goes_none {learns = learns} x p P keeps h = record { steps = []; went = gains_none seen p; searched = tt; quiet = quiet_none learns; keeps = keeps; kept = tt; loss = tt; ends = h }

  -- memory ran out before anything was written
  pub goes_starved : {A full : Type 0} {learns : Bool} (p : Proof W L G) (P : A → List Step → Type 0) → HasAllowedSteps p → EmitsStepsWith full learns seen (Err errors.OutOfMemory) p p P
  goes_starved p P keeps = record { steps = []; went = adds_none seen p; searched = tt; quiet = tt; keeps = keeps; kept = tt; loss = inl refl; ends = tt }

  -- the checker failed
  pub went_checked : (A : Type 0) (fault : CheckFault) (steps : List Step) (p q : Proof W L G) → FailsCheck seen fault steps p q → EmitsUpToFault {A = A} seen (Err (error_of_check fault)) steps p q
  went_checked A checks.OutOfMemory steps p q h = h.adds
  went_checked A checks.CounterEnd steps p q h = h
  went_checked A (checks.Processor cause) steps p q h = h

  -- one step was written, which learns nothing
  pub goes_step : {A full : Type 0} (x : A) (p q : Proof W L G) (step : Step) (P : A → List Step → Type 0) → IsSearchStep (session_of p).solver_names step → is_quiet step ≡ true → HasAllowedSteps q → EmitsChecked seen (step ∷ []) p q → P x (step ∷ []) → EmitsStepsWith full false seen (Ok x) p q P
  goes_step x p q step P s quiet keeps gains h = record { steps = step ∷ []; went = gains; searched = (s, tt); quiet = (quiet, tt); keeps = keeps; kept = tt; loss = tt; ends = h }

  -- one step was written, which may learn a clause
  pub goes_learned : {A full : Type 0} (x : A) (p q : Proof W L G) (step : Step) (P : A → List Step → Type 0) → IsSearchStep (session_of p).solver_names step → HasAllowedSteps q → EmitsChecked seen (step ∷ []) p q → P x (step ∷ []) → EmitsStepsOr full seen (Ok x) p q P
  goes_learned x p q step P s keeps gains h = record { steps = step ∷ []; went = gains; searched = (s, tt); quiet = tt; keeps = keeps; kept = tt; loss = tt; ends = h }

  -- writing or checking a step failed
  pub goes_broken : {A full : Type 0} {learns : Bool} (e : ProofError) (p q : Proof W L G) (step : Step) (P : A → List Step → Type 0) → IsSearchStep (session_of p).solver_names step → HasAllowedSteps q → EmitResult {T = Unit {0}} seen (Err e) (step ∷ []) p q → EmitsStepsWith full learns seen (Err (error_of_proof e)) p q P
  goes_broken (Write cause) p q step P s keeps fails = record { steps = step ∷ []; went = fails.0; searched = (s, tt); quiet = tt; keeps = keeps; kept = fails.1; loss = tt; ends = tt }
  goes_broken OutOfMemory p q step P s keeps gains = record { steps = []; went = gains_adds seen [] p q gains; searched = tt; quiet = tt; keeps = keeps; kept = tt; loss = inl gains.taking; ends = tt }
  goes_broken {A = A} {full} (Check fault) p q step P s keeps fails = record { steps = step ∷ []; went = went_checked A fault (step ∷ []) p q fails.0; searched = (s, tt); quiet = tt; keeps = keeps; kept = complaint_kept fault q fails.1; loss = check_loss fault p q fails.0.why; ends = fault_checked full fault }

  -- a step was made, and then the clause buffer returned an error
  pub goes_refused : {A full : Type 0} {learns : Bool} (s : StoreError) (p q : Proof W L G) (step : Step) (P : A → List Step → Type 0) → IsSearchStep (session_of p).solver_names step → HasAllowedSteps q → EmitsChecked seen (step ∷ []) p q → (s ≡ stores.StoreFull → full) → EmitsStepsWith full learns seen (Err (error_of_buffer s)) p q P
  goes_refused stores.StoreFull p q step P s keeps gains f = record { steps = step ∷ []; went = gains_adds seen (step ∷ []) p q gains; searched = (s, tt); quiet = tt; keeps = keeps; kept = tt; loss = gains.taking; ends = f refl }
  goes_refused stores.OutOfMemory p q step P s keeps gains f = record { steps = step ∷ []; went = gains_adds seen (step ∷ []) p q gains; searched = (s, tt); quiet = tt; keeps = keeps; kept = tt; loss = inl gains.taking; ends = tt }

  -- a call failed after steps were made
  pub went_after : (A : Type 0) (e : SolverError) (xs ys : List Step) (a b c : Proof W L G) → EmitsExactly seen xs a b → EmitsUpToFault {A = A} seen (Err e) ys b c → EmitsUpToFault {A = A} seen (Err e) (ys ++ xs) a c
  went_after A (errors.ProofIoError cause) xs ys a b c h k = fails_later seen xs ys a b c h k
  went_after A (errors.ProofProcessorError cause) xs ys a b c h k = check_later seen xs ys a b c h k
  went_after A errors.CounterEnd xs ys a b c h k = check_later seen xs ys a b c h k
  went_after A e xs ys a b c h k = adds_more seen xs ys a b c h k

  -- a call after one that succeeded
  pub went_later : {A : Type 0} (r : Result A SolverError) (xs ys : List Step) (a b c : Proof W L G) → EmitsChecked seen xs a b → EmitsUpToFault seen r ys b c → EmitsUpToFault seen r (ys ++ xs) a c
  went_later (Ok x) xs ys a b c h k = gains_more seen xs ys a b c h k
  went_later {A = A} (Err e) xs ys a b c h k = went_after A e xs ys a b c (gains_adds seen xs a b h) k

  -- the result satisfies every weaker relation
  pub goes_map : {A full : Type 0} {learns : Bool} (r : Result A SolverError) (p q : Proof W L G) (P Q : A → List Step → Type 0) → ((x : A) (steps : List Step) → P x steps → Q x steps) → EmitsStepsWith full learns seen r p q P → EmitsStepsWith full learns seen r p q Q
  goes_map {full} r p q P Q f h = record { steps = h.steps; went = h.went; searched = h.searched; quiet = h.quiet; keeps = h.keeps; kept = h.kept; loss = h.loss; ends = ends_with full r (λ x. P x h.steps) (λ x. Q x h.steps) (λ x. f x h.steps) h.ends }

  -- the second call is made after the first succeeded, and both relations together imply the third
  pub goes_then : {A B full : Type 0} {learns : Bool} (x : A) (r : Result B SolverError) (a b c : Proof W L G) (P : A → List Step → Type 0) (Q R : B → List Step → Type 0) → EmitsSteps seen (Ok x) a b P → EmitsStepsWith full learns seen r b c Q →
      ((xs ys : List Step) (y : B) → P x xs → Q y ys → R y (ys ++ xs)) → EmitsStepsWith full learns seen r a c R
  goes_then {full} {learns} x r a b c P Q R h k f = record {
    steps = k.steps ++ h.steps;
    went = went_later r h.steps k.steps a b c h.went k.went;
    quiet = quiet_then learns r h.steps k.steps h.quiet k.quiet;
    searched = searched_both k.steps h.steps (steps_of b) (steps_of a) h.went.history k.searched h.searched;
    keeps = k.keeps;
    kept = k.kept;
    loss = loss_after r a b c h.went.taking k.loss;
    ends = ends_with full r (λ y. Q y k.steps) (λ y. R y (k.steps ++ h.steps)) (λ y. f h.steps k.steps y h.ends) k.ends;
  }

  pub went_failing : (A B : Type 0) (e : SolverError) (steps : List Step) (a b : Proof W L G) → EmitsUpToFault {A = A} seen (Err e) steps a b → EmitsUpToFault {A = B} seen (Err e) steps a b
  went_failing A B (errors.ProofIoError cause) steps a b h = h
  went_failing A B e steps a b h = h

  -- the same if the relations may depend on the steps of the first call
  pub goes_after : {A B full : Type 0} {learns : Bool} (x : A) (r : Result B SolverError) (a b c : Proof W L G) (P : A → List Step → Type 0) (Q R : B → List Step → Type 0) → EmitsSteps seen (Ok x) a b P → EmitsStepsWith full learns seen r b c Q →
      ((xs ys : List Step) (y : B) → steps_of b ≡ xs ++ steps_of a → AreQuiet xs → P x xs → Q y ys → R y (ys ++ xs)) → EmitsStepsWith full learns seen r a c R
  goes_after {full} {learns} x r a b c P Q R h k f = record {
    steps = k.steps ++ h.steps;
    went = went_later r h.steps k.steps a b c h.went k.went;
    quiet = quiet_then learns r h.steps k.steps h.quiet k.quiet;
    searched = searched_both k.steps h.steps (steps_of b) (steps_of a) h.went.history k.searched h.searched;
    keeps = k.keeps;
    kept = k.kept;
    loss = loss_after r a b c h.went.taking k.loss;
    ends = ends_with full r (λ y. Q y k.steps) (λ y. R y (k.steps ++ h.steps)) (λ y. f h.steps k.steps y h.went.history h.quiet h.ends) k.ends;
  }

  -- the first call succeeds, the second fails
  pub goes_then_fails : {A B C full : Type 0} {learns : Bool} (x : A) (e : SolverError) (a b c : Proof W L G) (P : A → List Step → Type 0) (Q : B → List Step → Type 0) (R : C → List Step → Type 0) → EmitsSteps seen (Ok x) a b P → EmitsStepsWith full learns seen (Err e) b c Q → EmitsStepsWith full learns seen (Err e) a c R
  goes_then_fails {A = A} {B = B} {C = C} x e a b c P Q R h k = record {
    steps = k.steps ++ h.steps;
    went = went_later {A = C} (Err e) h.steps k.steps a b c h.went (went_failing B C e k.steps b c k.went);
    searched = searched_both k.steps h.steps (steps_of b) (steps_of a) h.went.history k.searched h.searched;
    quiet = tt;
    keeps = k.keeps;
    kept = k.kept;
    loss = loss_later e a b c h.went.taking k.loss;
    ends = k.ends;
  }

  -- the call succeeded, and another value is returned
  pub goes_on : {A B f g : Type 0} {learns : Bool} (x : A) (y : B) (a b : Proof W L G) (P : A → List Step → Type 0) (Q : B → List Step → Type 0) → ((steps : List Step) → P x steps → Q y steps) → EmitsStepsWith f learns seen (Ok x) a b P → EmitsStepsWith g learns seen (Ok y) a b Q
  goes_on x y a b P Q f h = record { steps = h.steps; went = h.went; searched = h.searched; quiet = h.quiet; keeps = h.keeps; kept = tt; loss = tt; ends = f h.steps h.ends }

  -- the same, and the steps are known to learn nothing
  pub goes_quietly : {A B full : Type 0} (x : A) (y : B) (a b : Proof W L G) (P : A → List Step → Type 0) (Q : B → List Step → Type 0) → ((steps : List Step) → AreQuiet steps → P x steps → Q y steps) → EmitsSteps seen (Ok x) a b P → EmitsStepsOr full seen (Ok y) a b Q
  goes_quietly x y a b P Q f h = record { steps = h.steps; went = h.went; searched = h.searched; quiet = tt; keeps = h.keeps; kept = tt; loss = tt; ends = f h.steps h.quiet h.ends }

  -- a call that stores no clause satisfies the contract of one that may
  pub goes_or : {A full : Type 0} (r : Result A SolverError) (a b : Proof W L G) (P : A → List Step → Type 0) → EmitsSteps seen r a b P → EmitsStepsOr full seen r a b P
  goes_or {full} r a b P h = record { steps = h.steps; went = h.went; searched = h.searched; quiet = quiet_or r; keeps = h.keeps; kept = h.kept; loss = h.loss; ends = ends_or full r (λ x. P x h.steps) h.ends }

  -- the call failed, and its error is passed on
  pub goes_failing : {A B full : Type 0} {learns : Bool} (e : SolverError) (a b : Proof W L G) (P : A → List Step → Type 0) (Q : B → List Step → Type 0) → EmitsStepsWith full learns seen (Err e) a b P → EmitsStepsWith full learns seen (Err e) a b Q
  goes_failing {A = A} {B = B} e a b P Q h = record { steps = h.steps; went = went_failing A B e h.steps a b h.went; searched = h.searched; quiet = tt; keeps = h.keeps; kept = h.kept; loss = h.loss; ends = h.ends }
