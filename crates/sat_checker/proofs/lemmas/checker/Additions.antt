-- Adding clauses one by one.
use Rattle.std.proofs.Common.{ℕ, ◌+◌, ◌≤◌, ◌≡◌, Bool, true, false, List, [], ◌∷◌, ◌++◌, append_assoc, Option, None, Some, Result, Ok, Err, refl, sym, ap, subst, ◌∙◌}
use Rattle.std.proofs.lemmas.List.{append-nil}
use Rattle.sat_base.specs.steps.Steps.{Step, AddClause}
use Rattle.sat_checker.specs.Stored.{Stored}
use Rattle.sat_checker.specs.Storing.{with_conflict_settled, settled_by}
use Rattle.sat_checker.specs.Accepts.{CanBeAdded, ready_after}
use Rattle.sat_checker.specs.Looks.{most_looks}
use Rattle.sat_checker.specs.KernelView.{LooksAtMost, RepresentsStoredAfter}
use Rattle.sat_checker.specs.CheckerView.{CheckerView, checker_has_failed, looks_of, StepResultAfter, AddClauseResultAfter}
use Rattle.sat_checker.specs.ProofView.{steps_after, most_looks_after, HasAcceptedUnfailed}
use Rattle.sat_checker.specs.ClausesView.{additions, AddsFirstClauses, steps_after_additions, AddClausesResultAfter}
use Rattle.sat_checker.specs.announcements.Announcements.{Notice}
use Rattle.sat_checker.specs.declared.processing.ProcessingError.{ProcessingError}
use Rattle.sat_checker.specs.declared.error.CheckerError.{CheckerError}
use Rattle.sat_checker.specs.declared.error.CheckerError.TheVariants as errors
use Rattle.sat_checker.specs.declared.state.CheckerState.{CheckerState}
use Rattle.sat_checker.proofs.lemmas.checker.Proofs.{taken_one, looks_one, looks_more}
use Rattle.sat_checker.proofs.lemmas.listeners.Settling.{ready_of}

additions_one : (cs : List (List ℕ)) (c : List ℕ) → additions (cs ++ c ∷ []) ≡ additions cs ++ AddClause c ∷ []
additions_one [] c = refl
additions_one (d ∷ ds) c = ap (λ (z : List Step). AddClause d ∷ z) (additions_one ds c)

after_one : (cs : List (List ℕ)) (c : List ℕ) (earlier : List Step) → steps_after_additions (cs ++ c ∷ []) earlier ≡ AddClause c ∷ steps_after_additions cs earlier
after_one cs c earlier = ap (λ (z : List Step). steps_after z earlier) (additions_one cs c) ∙ taken_one (additions cs) (AddClause c) earlier

cost_one : (cs : List (List ℕ)) (c : List ℕ) (earlier : List Step) → most_looks_after (additions (cs ++ c ∷ [])) earlier ≡ most_looks_after (additions cs) earlier + most_looks (ready_after (steps_after_additions cs earlier)) (AddClause c)
cost_one cs c earlier = ap (λ (z : List Step). most_looks_after z earlier) (additions_one cs c) ∙ looks_one (additions cs) (AddClause c) earlier

-- a clause that may be added may still be added after a unit conflict is settled
may_settle : (f : Stored) (c : List ℕ) → CanBeAdded f c → CanBeAdded (with_conflict_settled f) c
may_settle f c h = go f.conflict
  where
    go : (x : Option (ℕ × ℕ)) → CanBeAdded (settled_by x f) c
    go None = h
    go (Some units) = h

pub may_add : (state : CheckerState) (steps : List Step) (kept : RepresentsStoredAfter state steps) (c : List ℕ) → CanBeAdded kept.formula c → CanBeAdded (ready_after steps) c
may_add state steps kept c h = subst (λ f. CanBeAdded f c) (ready_of state steps kept) (may_settle kept.formula c h)

module _ {L : Type 0} (Receives : L → Notice → Result Unit ProcessingError → L → Type 0) (before : List Notice) (begun : L) where
  -- the clauses before `rest` were added
  pub record Added (old new : CheckerView L) (clauses rest : List (List ℕ)) (earlier : List Step) : Type 0 where
    pub added : List (List ℕ)
    pub split : clauses ≡ added ++ rest
    pub goes_on : HasAcceptedUnfailed Receives before begun new (steps_after_additions added earlier)
    pub looks : looks_of new ≤ looks_of old + most_looks_after (additions added) earlier

  tried_cost : (a b d : CheckerView L) (clauses rest : List (List ℕ)) (c : List ℕ) (earlier : List Step) → (p : Added a b clauses rest earlier) → LooksAtMost b.kernel (AddClause c) d.kernel
      → looks_of d ≤ looks_of a + most_looks_after (additions (p.added ++ c ∷ [])) earlier
  tried_cost a b d clauses rest c earlier p l = looks_more (looks_of a) (looks_of b) (looks_of d) _ _ _ p.looks (l (steps_after_additions p.added earlier) p.goes_on.0.kernel) (cost_one p.added c earlier)

  split_one : (clauses added rest more : List (List ℕ)) (c : List ℕ) → clauses ≡ added ++ rest → rest ≡ c ∷ more → clauses ≡ (added ++ c ∷ []) ++ more
  split_one clauses added rest more c e f = e ∙ ap (λ (z : List (List ℕ)). added ++ z) f ∙ sym (append_assoc added (c ∷ []) more)

  pub added_one : (a b d : CheckerView L) (clauses rest more : List (List ℕ)) (c : List ℕ) (earlier : List Step) → rest ≡ c ∷ more → (p : Added a b clauses rest earlier) → LooksAtMost b.kernel (AddClause c) d.kernel
      → AddClauseResultAfter Receives before begun (Ok tt) b c d (steps_after_additions p.added earlier) → Added a d clauses more earlier
  added_one a b d clauses rest more c earlier e p l k = record {
    added = p.added ++ c ∷ [];
    split = split_one clauses p.added rest more c p.split e;
    goes_on = subst (HasAcceptedUnfailed Receives before begun d) (sym (after_one p.added c earlier)) (k.1.valid, k.1.goes_on);
    looks = tried_cost a b d clauses rest c earlier p l;
  }

  adds_tried : (a b d : CheckerView L) (clauses rest more : List (List ℕ)) (c : List ℕ) (earlier : List Step) → checker_has_failed a ≡ false → rest ≡ c ∷ more → (p : Added a b clauses rest earlier) → LooksAtMost b.kernel (AddClause c) d.kernel
      → AddsFirstClauses a d clauses p.added (c ∷ []) earlier
  adds_tried a b d clauses rest more c earlier h e p l = record { well = h; left = more; split = split_one clauses p.added rest more c p.split e; looks = tried_cost a b d clauses rest c earlier p l }

  pub added_stops : (a b d : CheckerView L) (g : CheckerError) (clauses rest more : List (List ℕ)) (c : List ℕ) (earlier : List Step) → checker_has_failed a ≡ false → rest ≡ c ∷ more → (p : Added a b clauses rest earlier) → LooksAtMost b.kernel (AddClause c) d.kernel
      → AddClauseResultAfter Receives before begun (Err g) b c d (steps_after_additions p.added earlier) → AddClausesResultAfter Receives before begun (Err g) a d clauses earlier
  added_stops a b d errors.CheckFailed clauses rest more c earlier h e p l k = (p.added, c, adds_tried a b d clauses rest more c earlier h e p l, k.1, subst (λ z. HasAcceptedUnfailed Receives before begun z (steps_after_additions p.added earlier)) (sym k.2) p.goes_on)
  added_stops a b d errors.CounterEnd clauses rest more c earlier h e p l k = (p.added, c, adds_tried a b d clauses rest more c earlier h e p l, k.1, k.2)
  added_stops a b d errors.OutOfMemory clauses rest more c earlier h e p l k = (p.added, c, adds_tried a b d clauses rest more c earlier h e p l, k.1)
  added_stops a b d (errors.ProofProcessorError cause) clauses rest more c earlier h e p l k = (p.added, c, adds_tried a b d clauses rest more c earlier h e p l, k.1)
  added_stops a b d errors.HasFailed clauses rest more c earlier h e p l k = absurd (let g : ◌≡◌ {A = Bool} true false = sym k.0 ∙ p.goes_on.1 in cc)
  added_stops a b d x clauses rest more c earlier h e p l k = absurd k

  pub added_all : (a b : CheckerView L) (clauses rest : List (List ℕ)) (earlier : List Step) → checker_has_failed a ≡ false → rest ≡ [] → Added a b clauses rest earlier → AddClausesResultAfter Receives before begun (Ok tt) a b clauses earlier
  added_all a b clauses rest earlier h e p =
      let all : clauses ≡ p.added = p.split ∙ ap (λ (z : List (List ℕ)). p.added ++ z) e ∙ append-nil p.added in
      let cost : additions p.added ≡ additions (clauses ++ []) = ap additions (sym all ∙ sym (append-nil clauses)) in (
        record {
          well = h;
          left = [];
          split = sym (append-nil clauses) ∙ sym (append-nil (clauses ++ []));
          looks = subst (λ (z : List Step). looks_of b ≤ looks_of a + most_looks_after z earlier) cost p.looks;
        },
        subst (λ (z : List (List ℕ)). HasAcceptedUnfailed Receives before begun b (steps_after_additions z earlier)) (sym all) p.goes_on,
      )

  -- for a clause that may be added, the result of its step is the result of adding it
  pub clause_checked : (r : Result Unit CheckerError) (a b : CheckerView L) (c : List ℕ) (steps : List Step) → CanBeAdded (ready_after steps) c → StepResultAfter Receives before begun r a (AddClause c) b steps → AddClauseResultAfter Receives before begun r a c b steps
  clause_checked (Err errors.CheckFailed) a b c steps m k = absurd (k.1 m)
  clause_checked e a b c steps m k = k
