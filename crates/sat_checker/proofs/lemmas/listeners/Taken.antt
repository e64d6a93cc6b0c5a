-- A unit conflict is settled and announced, and a step is accepted and announced.
use Rattle.std.proofs.Common.{ℕ, ◌+◌, ◌≤◌, ◌≡◌, Bool, true, false, List, [], ◌∷◌, ◌++◌, Option, None, Some, Result, Ok, Err, inl, inr, refl, sym, ap, subst, ◌∙◌, arith}
use Rattle.std.proofs.lemmas.Bool.{true≢false}
use Rattle.std.specs.Result.{is_err, OnOk, OnErr, IsErrOf}
use Rattle.std.proofs.lemmas.List.{append-nil}
use Rattle.sat_base.specs.steps.Steps.{Step, UserVarName, DeleteVar, ChangeSamplingMode}
use Rattle.sat_checker.specs.Stored.{Stored, Variable}
use Rattle.sat_checker.specs.Counters.{CountersExhausted}
use Rattle.sat_checker.specs.Storing.{with_conflict_settled}
use Rattle.sat_checker.specs.Accepts.{Accepts, effect, stored_after, ready_after}
use Rattle.sat_checker.specs.KernelView as kernels
use Rattle.sat_checker.specs.KernelView.{RepresentsStoredAfter, ConflictIsPending, records_of}
use Rattle.sat_checker.specs.CheckerView.{CheckerView, checker_view, checker_has_failed, HasFailedAfter, StepResultAfter, SettlingResultAfter}
use Rattle.sat_checker.specs.announcements.Announcements.{Announcement, AtClause, Notice, announced, delayed_announcement, delayed_empty_clause, notices_of, notices_after, all_notices_after}
use Rattle.sat_checker.specs.inner.FormulaView.{RepresentsFormula, rehashed_in, DecidesChange, StoredStatus, ChangeResult}
use Rattle.sat_checker.specs.inner.StateView.{RepresentsStored}
use Rattle.sat_checker.specs.inner.NotifyingSteps.{notices_with, changed_by, with_earlier_data, error_of_store, error_of_fault, records_of_status, NotifiesAndKeepsState}
use Rattle.sat_checker.specs.inner.VariablesView.{variable_at, KeepsVariableData}
use Rattle.sat_checker.specs.listeners.Receiving.{SameNotice, ReceivesSame, ReceivesAll, ReceivesUpToFault, ReceivesSince, ReceivesSinceUpToFault, notices_made}
use Rattle.sat_checker.specs.listeners.NotedView.{AppendsAnnouncements}
use Rattle.sat_checker.specs.declared.kernel.Kernel.{Kernel}
use Rattle.sat_checker.specs.declared.kernel.StepRefusal.{StepRefusal}
use Rattle.sat_checker.specs.declared.announce.notes.Notes.{Notes}
use Rattle.sat_checker.specs.declared.state.CheckerState.{CheckerState}
use Rattle.sat_checker.specs.declared.variables.Variables.{Variables}
use Rattle.sat_checker.specs.declared.error.CheckerError.{CheckerError}
use Rattle.sat_checker.specs.declared.error.CheckerError.TheVariants as errors
use Rattle.sat_checker.specs.declared.processing.ProcessingError.{ProcessingError}
use Rattle.sat_checker.specs.declared.store.StoreError.{StoreError}
use Rattle.sat_checker.specs.declared.store.StoreError.TheVariants as stores
use Rattle.sat_checker.specs.declared.processing.ProcessingError.TheVariants as faults
use Rattle.sat_checker.proofs.lemmas.state.Keeping.{settled_kept}
use Rattle.sat_checker.proofs.lemmas.listeners.Heard.{reported_step, since_more, since_up_to_more, failing}
use Rattle.sat_checker.proofs.lemmas.listeners.Lookups.{Alike, steps_alike}
use Rattle.sat_checker.proofs.lemmas.listeners.Settling.{conflict_of, ready_is, stored_is, settled_variables}

-- NOTICES WITH THE SAME NAMES AND MODES

module _ {L : Type 0} (Receives : L → Notice → Result Unit ProcessingError → L → Type 0) (g h : ℕ → Variable) (same : (v : ℕ) → Alike (g v) (h v)) where
  reported_alike : (a : Announcement) → SameNotice (record { announcement = a; variables = g }) (record { announcement = a; variables = h })
  reported_alike a = record { announcement = refl; names = λ v. (same v).name; modes = λ v. (same v).mode }

  same_more : (t u w : Notice) → SameNotice t u → SameNotice u w → SameNotice t w
  same_more t u w s r = record { announcement = s.announcement ∙ r.announcement; names = λ v. s.names v ∙ r.names v; modes = λ v. s.modes v ∙ r.modes v }

  hears_alike : (xs : List Announcement) (a : Announcement) (l m : L) (r : Result Unit ProcessingError) → ReceivesSame Receives l (record { announcement = a; variables = g }) r m → ReceivesSame Receives l (record { announcement = a; variables = h }) r m
  hears_alike xs a l m r x = (x.0, same_more x.0 _ _ x.1 (reported_alike a), x.2)

  pub all_alike : (xs : List Announcement) (l m : L) → ReceivesAll Receives (notices_with g xs) l m → ReceivesAll Receives (notices_with h xs) l m
  all_alike [] l m x = x
  all_alike (a ∷ xs) l m x = (x.0, hears_alike xs a l x.0 (Ok tt) x.1, all_alike xs x.0 m x.2)

  pub up_to_alike : (e : ProcessingError) (xs : List Announcement) (l m : L) → ReceivesUpToFault Receives e (notices_with g xs) l m → ReceivesUpToFault Receives e (notices_with h xs) l m
  up_to_alike e [] l m x = x
  up_to_alike e (a ∷ xs) l m x = elim x [
    | inl y ↦ inl (hears_alike xs a l m (Err e) y)
    | inr y ↦ inr (y.0, hears_alike xs a l y.0 (Ok tt) y.1, up_to_alike e xs y.0 m y.2)
  ]

equal_alike : (g h : ℕ → Variable) → ((v : ℕ) → g v ≡ h v) → (v : ℕ) → Alike (g v) (h v)
equal_alike g h e v = record { name = ap (λ (x : Variable). x.name) (e v); mode = ap (λ (x : Variable). x.mode) (e v) }

-- A UNIT CONFLICT

module _ (old : Kernel) (steps : List Step) (s : kernels.KernelHasAccepted old steps) (well : kernels.kernel_has_failed old ≡ false) (one other : ℕ) (waits : old.state.formula.status.conflict ≡ Some (one, other)) where
  abbrev kept : RepresentsStoredAfter old.state steps
  kept = s.kept well

  is_stored : kept.formula ≡ stored_after steps
  is_stored = stored_is old steps kept (one, other) waits

  -- after the unit conflict is settled, the same steps are accepted
  pub settled_stands : (new : Kernel) → (RepresentsFormula (rehashed_in old.state.formula) kept.formula → RepresentsFormula (rehashed_in new.state.formula) (with_conflict_settled kept.formula))
      → new.state.variables ≡ old.state.variables → new.state.assumed ≡ old.state.assumed → new.records ≡ old.records → kernels.KernelHasAccepted new steps
  settled_stands new k v a r = record {
    accepted = s.accepted;
    records = r ∙ s.records;
    variables = λ w. ap (λ (vs : Variables). variable_at vs w) v ∙ s.variables w;
    kept = λ e. record {
      formula = with_conflict_settled kept.formula;
      keeps = settled_kept old.state new.state kept.formula kept.keeps (k kept.keeps.formula) v a;
      left = inr (ap with_conflict_settled is_stored);
    };
  }

  pub settled_spent : CountersExhausted (with_conflict_settled kept.formula) → CountersExhausted (ready_after steps)
  settled_spent h = subst (λ f. CountersExhausted (with_conflict_settled f)) is_stored h

  settled_fails : (new : Kernel) → new.state.variables ≡ old.state.variables → new.records ≡ old.records → kernels.kernel_has_failed new ≡ true → kernels.KernelHasFailedAfter new steps
  settled_fails new v r f = record {
    valid = record { accepted = s.accepted; records = r ∙ s.records; variables = λ w. ap (λ (vs : Variables). variable_at vs w) v ∙ s.variables w; kept = λ e. absurd (true≢false (sym f ∙ e)) };
    failed = f;
  }

  left : (stored_after steps).conflict ≡ Some (one, other)
  left = ap (λ (f : Stored). f.conflict) (sym is_stored) ∙ sym (conflict_of old steps kept) ∙ waits

  pub leaves_conflict : ConflictIsPending steps
  leaves_conflict e = absurd (let g : ◌≡◌ {A = Option (ℕ × ℕ)} None (Some (one, other)) = sym e ∙ left in cc)

  -- the conflict was not settled, or not announced
  module _ (new : Kernel) (looks : kernels.kernel_looks new ≡ kernels.kernel_looks old) (known : new.state.variables ≡ old.state.variables) (same : new.records ≡ old.records) (failed : kernels.kernel_has_failed new ≡ true) where
    pub unsettled_judges : CountersExhausted (with_conflict_settled kept.formula) → kernels.KernelSettlingResultAfter (Err errors.CounterEnd) old new steps
    unsettled_judges h = (well, looks, settled_spent h, settled_fails new known same failed)

    pub unreported_judges : (f : ProcessingError) → kernels.KernelSettlingResultAfter (Err (error_of_fault f)) old new steps
    unreported_judges faults.OutOfMemory = (well, looks, leaves_conflict, settled_fails new known same failed)
    unreported_judges (faults.ProofProcessorError cause) = (well, looks, leaves_conflict, settled_fails new known same failed)

    pub unsettled_notifies : {L : Type 0} (Receives : L → Notice → Result Unit ProcessingError → L → Type 0) (before : List Notice) (begun l : L) → ReceivesSince Receives before (notices_made old.state.formula.status.conflict steps) begun l → CountersExhausted (with_conflict_settled kept.formula)
        → SettlingResultAfter Receives before begun (Err errors.CounterEnd) (checker_view old l) (checker_view new l) steps
    unsettled_notifies Receives before begun l heard h = (
      well,
      looks,
      settled_spent h,
      record {
        fails = failing Receives before begun (checker_view new l) steps (settled_fails new known same failed);
        heard = inl (subst (λ c. ReceivesSince Receives before (notices_made c steps) begun l) waits heard);
      },
    )

  conflict_reported : delayed_announcement (stored_after steps) ≡ AtClause old.state.formula.status.next_id false [] (one ∷ other ∷ []) ∷ []
  conflict_reported =
      subst (λ f. delayed_announcement f ≡ AtClause old.state.formula.status.next_id false [] (one ∷ other ∷ []) ∷ []) is_stored
      (ap (λ c. delayed_empty_clause kept.formula.next_id c) (sym (conflict_of old steps kept) ∙ waits)
      ∙ ap (λ n. AtClause n false [] (one ∷ other ∷ []) ∷ []) (sym (ap (λ (z : StoredStatus). z.next_id) kept.keeps.formula.status)))

  module _ {L : Type 0} (Receives : L → Notice → Result Unit ProcessingError → L → Type 0) (before : List Notice) (begun l : L) (heard : ReceivesSince Receives before (notices_made old.state.formula.status.conflict steps) begun l) (names : ℕ → Variable) (each : (v : ℕ) → names v ≡ variable_at old.state.variables v) where
    so_far : ReceivesSince Receives before (notices_after steps) begun l
    so_far = subst (λ c. ReceivesSince Receives before (notices_made c steps) begun l) waits heard

    abbrev one_reported : List Notice
    one_reported = notices_with names (AtClause old.state.formula.status.next_id false [] (one ∷ other ∷ []) ∷ [])

    lookups : (v : ℕ) → Alike (names v) ((stored_after steps).variables v)
    lookups v = subst (λ f. Alike (names v) (f.variables v)) is_stored (equal_alike names kept.formula.variables (λ w. each w ∙ kept.keeps.variables.each w) v)

    pub conflict_heard : (m : L) → ReceivesAll Receives one_reported l m → ReceivesSince Receives before (all_notices_after steps) begun m
    conflict_heard m h = since_more Receives before (notices_after steps) (notices_of (stored_after steps) (delayed_announcement (stored_after steps))) begun l m so_far
        (subst (λ xs. ReceivesAll Receives (notices_of (stored_after steps) xs) l m) (sym conflict_reported) (all_alike Receives names (stored_after steps).variables lookups (AtClause old.state.formula.status.next_id false [] (one ∷ other ∷ []) ∷ []) l m h))

    pub conflict_broken : (e : ProcessingError) (m : L) → ReceivesUpToFault Receives e one_reported l m → ReceivesSinceUpToFault Receives e before (all_notices_after steps) begun m
    conflict_broken e m h = since_up_to_more Receives e before (notices_after steps) (notices_of (stored_after steps) (delayed_announcement (stored_after steps))) begun l m so_far
        (subst (λ xs. ReceivesUpToFault Receives e (notices_of (stored_after steps) xs) l m) (sym conflict_reported) (up_to_alike Receives names (stored_after steps).variables lookups e (AtClause old.state.formula.status.next_id false [] (one ∷ other ∷ []) ∷ []) l m h))

-- A STEP

changed_same : (x : Step) (g h : ℕ → Variable) → ((v : ℕ) → g v ≡ h v) → changed_by g x ≡ changed_by h x
changed_same (UserVarName v name) g h e = ap (λ (x : Variable). Some (v, x)) (e v)
changed_same (DeleteVar v) g h e = ap (λ (x : Variable). Some (v, x)) (e v)
changed_same (ChangeSamplingMode v sample) g h e = ap (λ (x : Variable). Some (v, x)) (e v)
changed_same step g h e = refl

records_same : (new : Kernel) (g : Stored) → RepresentsFormula (rehashed_in new.state.formula) g → records_of_status new.state.formula.status ≡ records_of g
records_same new g k = ap (λ (z : StoredStatus). record { unsat = z.unsat; ended = z.ended; var_deleted = z.var_deleted }) k.status

-- the notices so far, whether or not a unit conflict is pending
reported_now : (c : Option (ℕ × ℕ)) (steps : List Step) → (stored_after steps).conflict ≡ c → notices_after steps ≡ notices_made c steps
reported_now (Some units) steps e = refl
reported_now None steps e =
    sym (ap (λ d. notices_after steps ++ notices_of (stored_after steps) (delayed_empty_clause (stored_after steps).next_id d)) e ∙ append-nil (notices_after steps))

module _ (old : Kernel) (steps : List Step) (s : kernels.KernelHasAccepted old steps) (well : kernels.kernel_has_failed old ≡ false) (none : old.state.formula.status.conflict ≡ None) where
  pub ready_kept : RepresentsStored old.state (ready_after steps)
  ready_kept = let k = s.kept well in subst (RepresentsStored old.state) (ready_is old steps k none) k.keeps

  module _ (step : Step) where
    pub step_stands : (new : Kernel) → Accepts (ready_after steps) step → RepresentsStored new.state (effect step (ready_after steps)) → new.records ≡ records_of_status new.state.formula.status → kernels.KernelHasAccepted new (step ∷ steps)
    step_stands new a k r = record {
      accepted = (s.accepted, a);
      records = r ∙ records_same new (effect step (ready_after steps)) k.formula;
      variables = λ w. k.variables.each w ∙ sym (ap (λ (g : ℕ → Variable). g w) (settled_variables (effect step (ready_after steps))));
      kept = λ e. record { formula = effect step (ready_after steps); keeps = k; left = inl refl };
    }

    pub step_fails : (new : Kernel) → KeepsVariableData old.state.variables new.state.variables → new.records ≡ old.records → kernels.kernel_has_failed new ≡ true → kernels.KernelHasFailedAfter new steps
    step_fails new d r f = record {
      valid = record { accepted = s.accepted; records = r ∙ s.records; variables = λ w. d w ∙ s.variables w; kept = λ e. absurd (true≢false (sym f ∙ e)) };
      failed = f;
    }

    module _ {L : Type 0} (Receives : L → Notice → Result Unit ProcessingError → L → Type 0) (before : List Notice) (begun l : L) (heard : ReceivesSince Receives before (notices_made old.state.formula.status.conflict steps) begun l) where
      pub all_before : ReceivesSince Receives before (all_notices_after steps) begun l
      all_before = subst (λ c. ReceivesSince Receives before (notices_made c steps) begun l) none heard

      module _ (new : Kernel) (k : RepresentsStored new.state (effect step (ready_after steps))) (news : List Announcement) (noted : news ≡ announced (ready_after steps) step) (was : Option (ℕ × Variable)) (put : was ≡ changed_by (variable_at old.state.variables) step) where
        abbrev names : ℕ → Variable
        names = with_earlier_data was (variable_at new.state.variables)

        put_alike : (o : Option (ℕ × Variable)) (g h : ℕ → Variable) → ((v : ℕ) → g v ≡ h v) → (v : ℕ) → Alike (with_earlier_data o g v) (with_earlier_data o h v)
        put_alike None g h e v = equal_alike g h e v
        put_alike (Some was) g h e v = equal_alike (with_earlier_data (Some was) g) (with_earlier_data (Some was) h) (λ w. ap (λ (x : Variable). with_earlier_data (Some was) (λ u. x) w) (e w)) v

        alike_more : (x y z : Variable) → Alike x y → Alike y z → Alike x z
        alike_more x y z a b = record { name = a.name ∙ b.name; mode = a.mode ∙ b.mode }

        looked : (v : ℕ) → Alike (names v) ((ready_after steps).variables v)
        looked v =
            let same : was ≡ changed_by (ready_after steps).variables step = put ∙ changed_same step (variable_at old.state.variables) (ready_after steps).variables ready_kept.variables.each in
            alike_more _ _ _ (subst (λ o. Alike (names v) (with_earlier_data o (effect step (ready_after steps)).variables v)) same (put_alike was (variable_at new.state.variables) (effect step (ready_after steps)).variables k.variables.each v))
            (steps_alike step (ready_after steps) v)

        pub step_heard : (c : Option (ℕ × ℕ)) (m : L) → new.state.formula.status.conflict ≡ c → ReceivesAll Receives (notices_with names news) l m → ReceivesSince Receives before (notices_made c (step ∷ steps)) begun m
        step_heard c m e h =
            let reported : ReceivesAll Receives (notices_of (ready_after steps) (announced (ready_after steps) step)) l m =
            subst (λ xs. ReceivesAll Receives (notices_of (ready_after steps) xs) l m) noted (all_alike Receives names (ready_after steps).variables looked news l m h) in
            subst (λ ts. ReceivesSince Receives before ts begun m) (reported_step step steps ∙ reported_now c (step ∷ steps) (sym (ap (λ (z : StoredStatus). z.conflict) k.formula.status) ∙ e))
            (since_more Receives before (all_notices_after steps) (notices_of (ready_after steps) (announced (ready_after steps) step)) begun l m all_before reported)

        pub step_broken : (e : ProcessingError) (m : L) → ReceivesUpToFault Receives e (notices_with names news) l m → ReceivesSinceUpToFault Receives e before (notices_after (step ∷ steps)) begun m
        step_broken e m h =
            let reported : ReceivesUpToFault Receives e (notices_of (ready_after steps) (announced (ready_after steps) step)) l m =
            subst (λ xs. ReceivesUpToFault Receives e (notices_of (ready_after steps) xs) l m) noted (up_to_alike Receives names (ready_after steps).variables looked e news l m h) in
            subst (λ ts. ReceivesSinceUpToFault Receives e before ts begun m) (reported_step step steps) (since_up_to_more Receives e before (all_notices_after steps) (notices_of (ready_after steps) (announced (ready_after steps) step)) begun l m all_before reported)

pub taken_on : {L : Type 0} (Receives : L → Notice → Result Unit ProcessingError → L → Type 0) (reported : List Notice) (mid : Kernel) (l : L) (new : Kernel) (m : L) (r : Result Unit CheckerError) → NotifiesAndKeepsState Receives reported r (checker_view mid l) (checker_view new m) → OnOk r (kernels.kernel_has_failed new ≡ false)
taken_on Receives reported mid l new m (Ok x) t = t.1.0
taken_on Receives reported mid l new m (Err e) t = tt

-- the records may have been different before
pub taken_from : {L : Type 0} (Receives : L → Notice → Result Unit ProcessingError → L → Type 0) (reported : List Notice) (old mid : Kernel) (l : L) (new : Kernel) (m : L) (r : Result Unit CheckerError) → mid.state ≡ old.state → kernels.kernel_looks mid ≡ kernels.kernel_looks old → NotifiesAndKeepsState Receives reported r (checker_view mid l) (checker_view new m) → NotifiesAndKeepsState Receives reported r (checker_view old l) (checker_view new m)
taken_from Receives reported old mid l new m (Ok x) s k t = (record { state = t.0.state ∙ s; looks = t.0.looks ∙ k }, t.1)
taken_from Receives reported old mid l new m (Err e) s k t = (record { state = t.0.state ∙ s; looks = t.0.looks ∙ k }, t.1)

-- if there is a listener, exactly what was noted is announced
pub noted_reported : (begun noted : Notes) (listening : Bool) (step : Step) (f : Stored) (old new : ℕ → Variable) (was : Option (ℕ × Variable)) → begun.listening ≡ listening → (listening ≡ true → begun.news ≡ []) → (listening ≡ true → was ≡ changed_by old step) → AppendsAnnouncements begun (announced f step) noted
    → listening ≡ true → notices_with (with_earlier_data (changed_by old step) new) (announced f step) ≡ notices_with (with_earlier_data was new) noted.news
noted_reported begun noted listening step f old new was same none put adds h =
    ap (λ w. notices_with (with_earlier_data w new) (announced f step)) (sym (put h))
    ∙ ap (notices_with (with_earlier_data was new)) (sym (adds (same ∙ h) ∙ ap (λ xs. xs ++ announced f step) (none h)))

-- A STEP THAT IS ANNOUNCED

module _ (old : Kernel) (steps : List Step) (s : kernels.KernelHasAccepted old steps) (well : kernels.kernel_has_failed old ≡ false) (none : old.state.formula.status.conflict ≡ None) (step : Step) where
  -- the step could not be stored
  pub short_judges : (new : Kernel) (error : StoreError) → DecidesChange (Err error) (Accepts (ready_after steps) step) (RepresentsStored new.state (effect step (ready_after steps))) (effect step (ready_after steps)) → KeepsVariableData old.state.variables new.state.variables → new.records ≡ old.records
      → kernels.kernel_has_failed new ≡ true → kernels.KernelStepResultAfter (Err (error_of_store error)) old step new steps
  short_judges new stores.OutOfMemory h d r f = (well, inl (h, step_fails old steps s well none step new d r f))
  short_judges new stores.CounterEnd h d r f = (well, inr h, step_fails old steps s well none step new d r f)

  pub short_alone : (new : Kernel) (error : StoreError) (refusal : StepRefusal) → kernels.step_error refusal ≡ error_of_store error → DecidesChange (Err error) (Accepts (ready_after steps) step) (RepresentsStored new.state (effect step (ready_after steps))) (effect step (ready_after steps)) → KeepsVariableData old.state.variables new.state.variables
      → new.records ≡ old.records → kernels.kernel_has_failed new ≡ true → kernels.KernelStepResultAfter (Err (kernels.step_error refusal)) old step new steps
  short_alone new error refusal e h d r f = subst (λ x. kernels.KernelStepResultAfter (Err x) old step new steps) (sym e) (short_judges new error h d r f)

  -- the step was refused
  pub refused_judges : (new : Kernel) → (Accepts (ready_after steps) step → ⊥) → KeepsVariableData old.state.variables new.state.variables → new.records ≡ old.records → kernels.kernel_has_failed new ≡ true → kernels.KernelStepResultAfter (Err errors.CheckFailed) old step new steps
  refused_judges new h d r f = (well, h, step_fails old steps s well none step new d r f)

  module _ {L : Type 0} (Receives : L → Notice → Result Unit ProcessingError → L → Type 0) (reported : List Notice) (mid : Kernel) (l : L) (accepts : Accepts (ready_after steps) step) (k : RepresentsStored mid.state (effect step (ready_after steps))) where
    pub taken_judges : (new : Kernel) (m : L) (r : Result Unit CheckerError) → NotifiesAndKeepsState Receives reported r (checker_view mid l) (checker_view new m) → kernels.KernelStepResultAfter r old step new steps
    taken_judges new m (Ok x) t = (
      well,
      record { accepts = accepts; valid = step_stands old steps s well none step new accepts (subst (λ z. RepresentsStored z (effect step (ready_after steps))) (sym t.0.state) k) t.1.1; goes_on = t.1.0 },
    )
    taken_judges new m (Err e) t = subst (λ z. kernels.KernelStepResultAfter (Err z) old step new steps) (sym t.1.3) (go t.1.2)
      where
        fails : kernels.KernelHasFailedAfter new (step ∷ steps)
        fails = record { valid = step_stands old steps s well none step new accepts (subst (λ z. RepresentsStored z (effect step (ready_after steps))) (sym t.0.state) k) t.1.1; failed = t.1.0 }

        go : (f : ProcessingError) → kernels.KernelStepResultAfter (Err (error_of_fault f)) old step new steps
        go faults.OutOfMemory = (well, inr (inr (accepts, fails)))
        go (faults.ProofProcessorError cause) = (well, inr (accepts, fails))

  module _ {L : Type 0} (Receives : L → Notice → Result Unit ProcessingError → L → Type 0) (before : List Notice) (begun l : L) (heard : ReceivesSince Receives before (notices_made old.state.formula.status.conflict steps) begun l) where
    before_it : ReceivesSince Receives before (all_notices_after steps) begun l
    before_it = all_before old steps s well none step Receives before begun l heard

    failed_with : (new : Kernel) (m : L) → KeepsVariableData old.state.variables new.state.variables → new.records ≡ old.records → kernels.kernel_has_failed new ≡ true → HasFailedAfter Receives before begun (checker_view new m) steps
    failed_with new m d r f = failing Receives before begun (checker_view new m) steps (step_fails old steps s well none step new d r f)

    pub short_notifies : (new : Kernel) (error : StoreError) → DecidesChange (Err error) (Accepts (ready_after steps) step) (RepresentsStored new.state (effect step (ready_after steps))) (effect step (ready_after steps)) → KeepsVariableData old.state.variables new.state.variables → new.records ≡ old.records
        → kernels.kernel_has_failed new ≡ true → StepResultAfter Receives before begun (Err (error_of_store error)) (checker_view old l) step (checker_view new l) steps
    short_notifies new stores.OutOfMemory h d r f = (well, inl (h, record { fails = failed_with new l d r f; heard = inr before_it }))
    short_notifies new stores.CounterEnd h d r f = (well, inr h, record { fails = failed_with new l d r f; heard = inr before_it })

    pub refused_notifies : (new : Kernel) → (Accepts (ready_after steps) step → ⊥) → KeepsVariableData old.state.variables new.state.variables → new.records ≡ old.records → kernels.kernel_has_failed new ≡ true
        → StepResultAfter Receives before begun (Err errors.CheckFailed) (checker_view old l) step (checker_view new l) steps
    refused_notifies new h d r f = (well, h, record { fails = failed_with new l d r f; heard = before_it })

    module _ (mid : Kernel) (accepts : Accepts (ready_after steps) step) (k : RepresentsStored mid.state (effect step (ready_after steps))) (news : List Announcement) (noted : news ≡ announced (ready_after steps) step) (was : Option (ℕ × Variable)) (put : was ≡ changed_by (variable_at old.state.variables) step) where
      abbrev reported : List Notice
      reported = notices_with (with_earlier_data was (variable_at mid.state.variables)) news

      pub taken_notifies : (new : Kernel) (m : L) (r : Result Unit CheckerError) → NotifiesAndKeepsState Receives reported r (checker_view mid l) (checker_view new m) → StepResultAfter Receives before begun r (checker_view old l) step (checker_view new m) steps
      taken_notifies new m (Ok x) t = (
        well,
        record {
          accepts = accepts;
          valid = record {
            kernel = step_stands old steps s well none step new accepts (subst (λ z. RepresentsStored z (effect step (ready_after steps))) (sym t.0.state) k) t.1.1;
            heard = λ e. step_heard old steps s well none step Receives before begun l heard mid k news noted was put new.state.formula.status.conflict m (ap (λ (z : CheckerState). z.formula.status.conflict) (sym t.0.state)) t.1.2;
          };
          goes_on = t.1.0;
        },
      )
      taken_notifies new m (Err e) t = subst (λ z. StepResultAfter Receives before begun (Err z) (checker_view old l) step (checker_view new m) steps) (sym t.1.3) (go t.1.2 t.1.4)
        where
          fails : HasFailedAfter Receives before begun (checker_view new m) (step ∷ steps)
          fails = failing Receives before begun (checker_view new m) (step ∷ steps) (record { valid = step_stands old steps s well none step new accepts (subst (λ z. RepresentsStored z (effect step (ready_after steps))) (sym t.0.state) k) t.1.1; failed = t.1.0 })

          go : (f : ProcessingError) → ReceivesUpToFault Receives f reported l m → StepResultAfter Receives before begun (Err (error_of_fault f)) (checker_view old l) step (checker_view new m) steps
          go faults.OutOfMemory u = (well, inr (inr (accepts, record { fails = fails; heard = step_broken old steps s well none step Receives before begun l heard mid k news noted was put faults.OutOfMemory m u })))
          go (faults.ProofProcessorError cause) u = (well, inr (accepts, record { fails = fails; heard = step_broken old steps s well none step Receives before begun l heard mid k news noted was put (faults.ProofProcessorError cause) m u }))

-- what the result of a change means: `Ok`, or below `CounterEnd`
pub turned : (r : Result Unit StoreError) (K : Type 0) (g : Stored) → is_err r ≡ false → ChangeResult r K g → K
turned (Ok x) K g e t = t
turned (Err d) K g e t = absurd (true≢false e)

pub turned_none : (r : Result Unit StoreError) (P : Type 0) → is_err r ≡ false → OnOk r P → P
turned_none (Ok x) P e p = p
turned_none (Err d) P e p = absurd (true≢false e)

pub turned_spent : (r : Result Unit StoreError) (K : Type 0) (g : Stored) → is_err r ≡ true → OnErr r (IsErrOf r stores.CounterEnd) → ChangeResult r K g → CountersExhausted g
turned_spent (Ok x) K g e h t = absurd (true≢false (sym e))
turned_spent (Err stores.OutOfMemory) K g e h t = absurd cc
turned_spent (Err stores.CounterEnd) K g e h t = t

-- what the result of settling a unit conflict means
module _ {L : Type 0} (Receives : L → Notice → Result Unit ProcessingError → L → Type 0) (before : List Notice) (begun : L) (old new : Kernel) (l m : L) (steps : List Step) (well : kernels.kernel_has_failed old ≡ false) (looks : kernels.kernel_looks new ≡ kernels.kernel_looks old) where
  pub delayed_ok : kernels.KernelHasAccepted new steps → kernels.kernel_has_failed new ≡ false → new.state.formula.status.conflict ≡ None → ReceivesSince Receives before (all_notices_after steps) begun m → SettlingResultAfter Receives before begun (Ok tt) (checker_view old l) (checker_view new m) steps
  delayed_ok k f n h = (well, looks, record { kernel = k; heard = λ e. subst (λ c. ReceivesSince Receives before (notices_made c steps) begun m) (sym n) h }, f, n)

  pub delayed_err : ConflictIsPending steps → kernels.KernelHasFailedAfter new steps → (f : ProcessingError) → ReceivesSinceUpToFault Receives f before (all_notices_after steps) begun m → SettlingResultAfter Receives before begun (Err (error_of_fault f)) (checker_view old l) (checker_view new m) steps
  delayed_err c k faults.OutOfMemory h = (well, looks, c, record { fails = failing Receives before begun (checker_view new m) steps k; heard = h })
  delayed_err c k (faults.ProofProcessorError cause) h = (well, looks, c, record { fails = failing Receives before begun (checker_view new m) steps k; heard = h })

-- A UNIT CONFLICT BEFORE A STEP

module _ {L : Type 0} (Receives : L → Notice → Result Unit ProcessingError → L → Type 0) (before : List Notice) (begun : L) (steps : List Step) (step : Step) where
  -- the conflict could not be settled or not be announced
  pub delayed_stops : (old new : CheckerView L) (e : CheckerError) → SettlingResultAfter Receives before begun (Err e) old new steps → StepResultAfter Receives before begun (Err e) old step new steps
  delayed_stops old new errors.CounterEnd a = (a.0, inl a.2, a.3)
  delayed_stops old new errors.OutOfMemory a = (a.0, inr (inl (a.2, a.3)))
  delayed_stops old new (errors.ProofProcessorError cause) a = (a.0, inl (a.2, a.3))
  delayed_stops old new errors.HasFailed a = a
  delayed_stops old new e a = absurd a

  -- the conflict was settled, and the step is checked after it
  pub settled_goes_on : (old mid new : CheckerView L) (r : Result Unit CheckerError) → checker_has_failed old ≡ false → checker_has_failed mid ≡ false → StepResultAfter Receives before begun r mid step new steps → StepResultAfter Receives before begun r old step new steps
  settled_goes_on old mid new (Ok x) h k a = (h, a.1)
  settled_goes_on old mid new (Err errors.CheckFailed) h k a = (h, a.1, a.2)
  settled_goes_on old mid new (Err errors.CounterEnd) h k a = (h, a.1, a.2)
  settled_goes_on old mid new (Err errors.OutOfMemory) h k a = (h, a.1)
  settled_goes_on old mid new (Err (errors.ProofProcessorError cause)) h k a = (h, a.1)
  settled_goes_on old mid new (Err errors.HasFailed) h k a = absurd (true≢false (sym a.0 ∙ k))
  settled_goes_on old mid new (Err e) h k a = absurd a

-- the same for the kernel, without listeners
module _ (steps : List Step) (step : Step) where
  pub stops_judges : (old new : Kernel) (e : CheckerError) → kernels.KernelSettlingResultAfter (Err e) old new steps → kernels.KernelStepResultAfter (Err e) old step new steps
  stops_judges old new errors.CounterEnd a = (a.0, inl a.2, a.3)
  stops_judges old new errors.OutOfMemory a = (a.0, inr (inl (a.2, a.3)))
  stops_judges old new (errors.ProofProcessorError cause) a = (a.0, inl (a.2, a.3))
  stops_judges old new errors.HasFailed a = a
  stops_judges old new e a = absurd a

  pub goes_on_judges : (old mid new : Kernel) (r : Result Unit CheckerError) → kernels.kernel_has_failed old ≡ false → kernels.kernel_has_failed mid ≡ false → kernels.KernelStepResultAfter r mid step new steps → kernels.KernelStepResultAfter r old step new steps
  goes_on_judges old mid new (Ok x) h k a = (h, a.1)
  goes_on_judges old mid new (Err errors.CheckFailed) h k a = (h, a.1, a.2)
  goes_on_judges old mid new (Err errors.CounterEnd) h k a = (h, a.1, a.2)
  goes_on_judges old mid new (Err errors.OutOfMemory) h k a = (h, a.1)
  goes_on_judges old mid new (Err (errors.ProofProcessorError cause)) h k a = (h, a.1)
  goes_on_judges old mid new (Err errors.HasFailed) h k a = absurd (true≢false (sym a.0 ∙ k))
  goes_on_judges old mid new (Err e) h k a = absurd a

-- settling a conflict needs no looks
pub stops_looks : (steps : List Step) (old new : Kernel) (e : CheckerError) (n : ℕ) → kernels.kernel_has_failed old ≡ false → kernels.KernelSettlingResultAfter (Err e) old new steps → kernels.kernel_looks new ≤ kernels.kernel_looks old + n
stops_looks steps old new errors.CounterEnd n h a = let q = a.1 in omega arith
stops_looks steps old new errors.OutOfMemory n h a = let q = a.1 in omega arith
stops_looks steps old new (errors.ProofProcessorError cause) n h a = let q = a.1 in omega arith
stops_looks steps old new errors.HasFailed n h a = absurd (true≢false (sym a.0 ∙ h))
stops_looks steps old new e n h a = absurd a
