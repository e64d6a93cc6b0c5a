-- Steps that a call over names makes.
use Rattle.std.proofs.Common.{ℕ, zero, suc, ◌+◌, ◌<◌, ◌≡◌, ◌∙◌, ◌⊎◌, Bool, false, Option, None, Some, Result, Ok, Err, OnOk, List, [], ◌∷◌, length, get_or, refl, sym, ap, subst, arith, inl, inr}
use Rattle.std.proofs.lemmas.Bool.{cases_Bool, true≢false}
use Rattle.std.proofs.lemmas.Option.{none-some, same_Some}
use Rattle.sat_base.specs.values.Literals.{variable}
use Rattle.sat_base.specs.script.Script.{Among}
use Rattle.sat_base.specs.steps.Steps.{Step, SolverVarName, UserVarName, DeleteVar, ChangeSamplingMode, DeleteClause, ChangeHashBits}
use Rattle.sat_checker.specs.LiteralSets.{mentions}
use Rattle.sat_solver.specs.session.AllowedSteps.{OnlyAllowedSteps, DeletesJustAdded}
use Rattle.sat_solver.specs.session.Session.{session_after}
use Rattle.sat_checker.specs.matching.Checking.{variable_named}
use Rattle.sat_solver.specs.variables.NamingSteps.{DeletesIdleVariable, IsDue, IsNextIndexInSession, LeavesNoIdleVariable, IsLiteralsStep, IsClauseStep, IsHidingStep, ChangesModeTo, IsModeStep}
use Rattle.sat_solver.specs.variables.Naming.{ExtendsNames}
use Rattle.sat_solver.specs.variables.Refusing.{IsAssumed, names_in}
use Rattle.sat_solver.specs.variables.Search.{KeepsWhatSearchSees}
use Rattle.sat_solver.specs.variables.Variables.{NamesMatchSteps, VariablesInvariant, data_at, global_of}
use Rattle.sat_solver.specs.declared.variables.Variables.{Variables}
use Rattle.sat_solver.proofs.lemmas.session.ComingLemmas.{comes_none, comes_one, comes_both, comes_map}

-- the name of every literal is among the names
pub name_among : (ls : List ℕ) (k : ℕ) → k < length ls → Among (variable (get_or ls k 0) + 1) (names_in ls)
name_among [] k lt = absurd (omega arith)
name_among (l ∷ ls) zero lt = inl refl
name_among (l ∷ ls) (suc k) lt = inr (name_among ls k (omega arith))

due_take : (names : List ℕ) (earlier : List Step) (step : Step) → IsDue earlier step → IsLiteralsStep names earlier step
due_take names earlier (SolverVarName v index) h = absurd (true≢false (sym h))
due_take names earlier (ChangeHashBits bits) h = tt
due_take names earlier step h = h

take_add : (names : List ℕ) (earlier : List Step) (step : Step) → IsLiteralsStep names earlier step → IsClauseStep names earlier step
take_add names earlier (DeleteClause clause proof) h = absurd (true≢false (sym h))
take_add names earlier step h = h

delete_add : (names : List ℕ) (earlier : List Step) (step : Step) → DeletesJustAdded earlier step → IsClauseStep names earlier step
delete_add names earlier (DeleteClause clause proof) h = h
delete_add names earlier step h = absurd h

module _ (names : List ℕ) (from to : List Step) where
  pub comes_due : OnlyAllowedSteps IsDue from to → OnlyAllowedSteps (IsLiteralsStep names) from to
  comes_due c = comes_map IsDue (IsLiteralsStep names) (due_take names) from to c

  pub comes_added : OnlyAllowedSteps (IsLiteralsStep names) from to → OnlyAllowedSteps (IsClauseStep names) from to
  comes_added c = comes_map (IsLiteralsStep names) (IsClauseStep names) (take_add names) from to c

  pub comes_deleted : OnlyAllowedSteps DeletesJustAdded from to → OnlyAllowedSteps (IsClauseStep names) from to
  comes_deleted c = comes_map DeletesJustAdded (IsClauseStep names) (delete_add names) from to c

  -- the variable of a name got an index
  pub comes_index : (name v x : ℕ) → Among name names → variable_named from name ≡ Some v → (to ≡ from) ⊎ ((to ≡ SolverVarName v (Some x) ∷ from) × ((session_after from).solver_names v ≡ None) × IsNextIndexInSession (session_after from) (Some x)) → OnlyAllowedSteps (IsLiteralsStep names) from to
  comes_index name v x among named step = elim step [
    | inl e ↦ subst (OnlyAllowedSteps (IsLiteralsStep names) from) (sym e) (comes_none (IsLiteralsStep names) from)
    | inr e ↦ comes_one (IsLiteralsStep names) from to (SolverVarName v (Some x)) e.0 (e.2, e.1, (name, among, named))
  ]

-- CALLS OVER ONE NAME

due_hide : (earlier : List Step) (step : Step) → IsDue earlier step → IsHidingStep earlier step
due_hide earlier (DeleteVar v) h = absurd (true≢false (sym h))
due_hide earlier step h = h

due_set : (user : ℕ) (sample : Bool) (earlier : List Step) (step : Step) → IsDue earlier step → IsModeStep user sample earlier step
due_set user sample earlier (ChangeSamplingMode v mode) h = absurd (true≢false (sym h))
due_set user sample earlier step h = h

-- a name was introduced and hidden, and its variable may have been deleted
pub comes_hidden : {A E : Type 0} (r : Result A E) (n : Variables) (from mids hides to : List Step) (v : ℕ) → NamesMatchSteps n (session_after hides) → OnlyAllowedSteps IsDue from mids → hides ≡ UserVarName v None ∷ mids → OnOk r (DeletesIdleVariable n hides to v) → OnOk r (OnlyAllowedSteps IsHidingStep from to)
comes_hidden (Err e) n from mids hides to v said brought hidden gone = tt
comes_hidden (Ok x) n from mids hides to v said brought hidden gone = comes_both IsHidingStep from hides to (comes_both IsHidingStep from mids hides (comes_map IsDue IsHidingStep due_hide from mids brought) (comes_one IsHidingStep mids hides (UserVarName v None) hidden refl)) (elim gone [
  | inl e ↦ comes_one IsHidingStep hides to (DeleteVar v) e.0 (record { before = mids; last = hidden; without = said.solver_names v ∙ e.1 })
  | inr e ↦ subst (OnlyAllowedSteps IsHidingStep hides) (sym e.0) (comes_none IsHidingStep hides)
])

-- if a name that isn't assumed was introduced and hidden, its variable isn't assumed
pub hidden_unmarked : (n m h : Variables) (from mids hides : List Step) (user v : ℕ) → VariablesInvariant n → NamesMatchSteps n (session_after from) → ExtendsNames n m → KeepsWhatSearchSees n m from mids → (IsAssumed n user → ⊥) → global_of m user ≡ Some v →
    NamesMatchSteps h (session_after hides) → hides ≡ UserVarName v None ∷ mids → (data_at h v).assumed ≡ false
hidden_unmarked n m h from mids hides user v tidy said extends unseen free named then hidden =
    sym (then.marked v) ∙ ap (λ ss. mentions (session_after ss).assumed v) hidden ∙ ap (λ ls. mentions ls v) unseen.search.assumed ∙ said.marked v ∙ before (global_of n user) refl
  where
    before : (o : Option ℕ) → global_of n user ≡ o → (data_at n v).assumed ≡ false
    before None e = ap (λ d. d.assumed) (tidy.gone v (extends.fresh user v e named))
    before (Some w) e =
        let same : w ≡ v = same_Some w v (sym (extends.stays user w e).0 ∙ named) in
        elim (cases_Bool (data_at n v).assumed) [
          | inl marked ↦ absurd (free (record { variable_is = v; named = e ∙ ap Some same; marked = marked }))
          | inr out ↦ out
        ]

-- the variable whose name the last step removed
abbrev hidden_by : List Step → Option ℕ
hidden_by (UserVarName v None ∷ steps) = Some v
hidden_by steps = None

-- this variable was deleted, unless it has an index
pub leaves_none : {A E : Type 0} (r : Result A E) (n : Variables) (mids hides to : List Step) (v : ℕ) → NamesMatchSteps n (session_after hides) → hides ≡ UserVarName v None ∷ mids → (data_at n v).assumed ≡ false → OnOk r (DeletesIdleVariable n hides to v) → OnOk r (LeavesNoIdleVariable to)
leaves_none (Err e) n mids hides to v said hidden free gone = tt
leaves_none (Ok x) n mids hides to v said hidden free gone = λ w h. elim gone [
  | inl e ↦ none-some w (sym (ap hidden_by e.0) ∙ ap hidden_by h.last)
  | inr e ↦ elim e.1 [
    | inl marked ↦ true≢false (sym marked ∙ free)
    | inr indexed ↦
        let same : Some v ≡ Some w = sym (ap hidden_by (e.0 ∙ hidden)) ∙ ap hidden_by h.last in
        indexed (sym (said.solver_names v) ∙ subst (λ u. (session_after hides).solver_names u ≡ None) (sym (same_Some v w same)) (subst (λ ss. (session_after ss).solver_names w ≡ None) e.0 h.without))
  ]
]

-- a name was introduced, and the mode of its variable may have changed
pub comes_set : {A E : Type 0} (r : Result A E) (from mids to : List Step) (name v : ℕ) (sample : Bool) → OnlyAllowedSteps IsDue from mids → variable_named mids name ≡ Some v → OnOk r ((to ≡ mids) ⊎ ((to ≡ ChangeSamplingMode v sample ∷ mids) × ChangesModeTo (session_after mids) v sample)) → OnOk r (OnlyAllowedSteps (IsModeStep name sample) from to)
comes_set (Err e) from mids to name v sample brought named set = tt
comes_set (Ok x) from mids to name v sample brought named set = comes_both (IsModeStep name sample) from mids to (comes_map IsDue (IsModeStep name sample) (due_set name sample) from mids brought) (elim set [
  | inl e ↦ subst (OnlyAllowedSteps (IsModeStep name sample) mids) (sym e) (comes_none (IsModeStep name sample) mids)
  | inr e ↦ comes_one (IsModeStep name sample) mids to (ChangeSamplingMode v sample) e.0 (named, refl, e.1)
])
