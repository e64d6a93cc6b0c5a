-- Names, proof and search after a clause or assumptions over names.
use Rattle.std.proofs.Common.{ℕ, ◌<◌, ◌≡◌, ◌∙◌, Bool, true, false, Result, Ok, Err, IfErr, OnOk, List, [], ◌∷◌, ◌++◌, length, map, get_or, append_assoc, refl, sym, ap, subst, inl, inr}
use Rattle.std.specs.Prelude.{IsErrAnd}
use Rattle.std.proofs.lemmas.Result.{err_from_is_err_and}
use Rattle.sat_base.specs.device.Device.{Writer}
use Rattle.sat_base.specs.values.Literals.{variable}
use Rattle.sat_base.specs.script.ScriptState.{introduce_all, with_clause}
use Rattle.sat_base.specs.steps.Steps.{Step, AddClause, Assumptions}
use Rattle.sat_checker.specs.LiteralSets.{is_tautology}
use Rattle.sat_checker.specs.SortedSets.{IsIncreasing}
use Rattle.sat_checker.proofs.lemmas.sets.Canonical.{canonical_increasing, canonical_tautology}
use Rattle.sat_checker.specs.declared.processing.ProofProcessor.{Ghosts}
use Rattle.sat_solver.specs.declared.proof.emitted.CheckFault.TheVariants as checks
use Rattle.sat_solver.specs.proof.ProofView.{HasAllowedSteps, has_missed_step, steps_of, session_of}
use Rattle.sat_solver.specs.session.Session.{Session, AreAllowedSteps, session_after}
use Rattle.sat_solver.specs.session.Emitting.{EmitsSomeSteps, EmitsSomeChecked}
use Rattle.sat_solver.specs.variables.StepFailures.{StepNotAccepted}
use Rattle.sat_solver.specs.declared.proof.Proof.{Proof}
use Rattle.sat_solver.proofs.lemmas.session.ProofLemmas.{gains_none, gains_adds, gains_more}
use Rattle.sat_solver.proofs.lemmas.cdcl.GoingLemmas.{check_loss, complaint_kept, loss_later, went_after, went_checked, went_failing, fault_checked}
use Rattle.sat_solver.specs.declared.error.SolverError.{SolverError}
use Rattle.sat_solver.specs.declared.error.SolverError.TheVariants as errors
use Rattle.sat_solver.specs.declared.variables.error.NameError.{NameError}
use Rattle.sat_solver.specs.declared.variables.error.NameError.TheVariants as names
use Rattle.sat_solver.specs.variables.NameFailures.{IsFailure, EmitsUpTo}
use Rattle.sat_solver.specs.load.Faults.{error_of_name_call}
use Rattle.sat_solver.specs.declared.context.Context.{Context}
use Rattle.sat_solver.specs.declared.context.Search.{Search}
use Rattle.sat_parts.specs.parts.Full.{IsBufferFull}
use Rattle.sat_solver.specs.cdcl.StepEffects.{IsFault, IsFaultOr, EmitsStepsOr}
use Rattle.sat_solver.specs.cdcl.Joint.{global_in, SearchInvariant}
use Rattle.sat_solver.proofs.lemmas.cdcl.AskedLemmas.{asked_after, kinds_of}
use Rattle.sat_solver.specs.load.Literals.{user_literal, IsImage}
use Rattle.sat_solver.specs.load.Clauses.{IntroducesClause}
use Rattle.sat_solver.specs.load.Assumed.{IntroducesAssumptions}
use Rattle.sat_solver.specs.declared.config.SolverConfig.{SolverConfig}
use Rattle.sat_solver.specs.session.LiveClauses.{with_var}
use Rattle.sat_parts.specs.parts.Assumed.{HaveVariablesIn}
use Rattle.sat_solver.specs.variables.Calls.{NamesInvariant, ChangesScriptState}
use Rattle.sat_checker.specs.matching.Expected.{Unknown, Adds, steps_introducing}
use Rattle.sat_solver.specs.variables.Refusing.{names_in}
use Rattle.sat_solver.specs.variables.Naming.{ExtendsNames}
use Rattle.sat_solver.specs.variables.Search.{GivesIndices}
use Rattle.sat_solver.specs.variables.Variables.{solver_of}
use Rattle.sat_solver.specs.declared.variables.Variables.{Variables}
use Rattle.sat_solver.specs.declared.load.literals.MappedLits.{MappedLits}
use Rattle.sat_solver.specs.variables.Initialized.{AreVacant, GivesSearchIndices}
use Rattle.sat_solver.specs.variables.Shared.{SharesIndices}
use Rattle.sat_solver.specs.load.Loaded.{CanLoad, IsAdded, IsLoaded}
use Rattle.sat_solver.specs.assumptions.Setting.{ReplacesAssumed}
use Rattle.sat_solver.proofs.lemmas.load.AlikeLemmas.{tautology_loads}
use Rattle.sat_solver.proofs.lemmas.load.LoadingLemmas.{asked_added}
use Rattle.sat_solver.proofs.lemmas.load.SharedLemmas.{gives_names, given_vacant, shares_given, AreOver, over_below, over_named, over_same}
use Rattle.sat_solver.proofs.lemmas.load.TakenLemmas.{added_names, images_over, taken_may, taken_added}
use Rattle.sat_solver.specs.solver.Joined.{NamesSearchInvariant}
use Rattle.sat_solver.specs.solver.AddingToSearch.{KeepsImages, NamesSearchInvariantOrUnsat, ClauseAddedToSearch, AssumptionsSetInSearch, AddsClauseToSearch, NameStepsFailWithStoredError, NameStepsFailOr}
use Rattle.sat_solver.proofs.lemmas.solver.SpeltLemmas.{global_images_of}
use Rattle.sat_solver.specs.variables.NamingSteps.{IsClauseStep}
use Rattle.sat_solver.specs.variables.Ordering.{AddsInOrder, IsInIndexOrder}
use Rattle.sat_solver.specs.session.AllowedSteps.{OnlyAllowedSteps, DeletesJustAdded}
use Rattle.sat_solver.proofs.lemmas.session.ComingLemmas.{comes_both}
use Rattle.sat_solver.proofs.lemmas.variables.ComingSteps.{comes_added, comes_deleted}
use Rattle.sat_solver.proofs.lemmas.solver.AfterLemmas.{does_after}
use Rattle.sat_solver.proofs.lemmas.solver.ReportingLemmas.{shares_moved}

-- FAULTS

-- no step was made
pub none_took : {W L : Type 0} {G : Ghosts L} (seen : W → Writer) (p : Proof W L G) → EmitsSomeChecked seen p p
none_took seen p = ([], gains_none seen p)

-- a failure of a call over names, as the solver reports it
pub reported_fails : (e : NameError) → IsFailure e → IsFault (error_of_name_call e)
reported_fails names.VariableLimit h = absurd h
reported_fails (names.Check checks.OutOfMemory) h = tt
reported_fails e h = tt

-- an error that is passed on, or one of a search
pub fault_on : {A : Type 0} (full : Type 0) (r : Result A SolverError) (e : SolverError) → IsErrAnd r (λ f. f ≡ e) → IsFaultOr full e → IfErr r (IsFaultOr full)
fault_on full r e h f = let p = err_from_is_err_and r h in subst (λ r. IfErr r (IsFaultOr full)) (sym p.1) (subst (IsFaultOr full) (sym p.2) f)

pub fault_ends : {A W L full : Type 0} {G : Ghosts L} (seen : W → Writer) (r : Result A SolverError) (p q : Proof W L G) (P : A → List Step → Type 0) → EmitsStepsOr full seen r p q P → IfErr r (IsFaultOr full)
fault_ends seen (Ok x) p q P goes = tt
fault_ends seen (Err e) p q P goes = goes.ends

module _ {W L : Type 0} {G : Ghosts L} (seen : W → Writer) (a b : Context W L G) where
  -- a call over names failed
  pub names_broke : {full : Type 0} (e : NameError) → EmitsUpTo (EmitsSomeChecked seen) (StepNotAccepted seen) a.proof e b.proof → NameStepsFailWithStoredError full seen (error_of_name_call e) a b
  names_broke names.VariableLimit h = (record { fault = inr refl; steps = h.0; went = gains_adds seen h.0 a.proof b.proof h.1; loss = h.1.taking }, tt)
  names_broke names.OutOfMemory h = (record { fault = inl tt; steps = h.0; went = gains_adds seen h.0 a.proof b.proof h.1; loss = inl h.1.taking }, tt)
  names_broke (names.Write cause) h = (record { fault = inl tt; steps = h.0.0; went = h.0.1; loss = tt }, h.1)
  names_broke (names.Check fault) h = (record { fault = inl (fault_checked _ fault); steps = h.0; went = went_checked seen (Unit {0}) fault h.0 a.proof b.proof h.1; loss = check_loss fault a.proof b.proof h.1.why }, complaint_kept fault b.proof h.2)

  -- memory ran out after steps were made
  pub took_starved : {full : Type 0} → EmitsSomeSteps seen a.proof b.proof → has_missed_step b.proof ≡ has_missed_step a.proof → NameStepsFailOr full seen errors.OutOfMemory a b
  took_starved h taking = record { fault = inl tt; steps = h.0; went = h.1; loss = inl taking }

  pub names_starved : {full : Type 0} → EmitsSomeChecked seen a.proof b.proof → NameStepsFailWithStoredError full seen errors.OutOfMemory a b
  names_starved h = (took_starved (h.0, gains_adds seen h.0 a.proof b.proof h.1) h.1.taking, tt)

  -- the search failed after the call over names
  pub load_broke : {A full : Type 0} (e : SolverError) (p : Proof W L G) (P : A → List Step → Type 0) → EmitsSomeChecked seen a.proof p → EmitsStepsOr {A = A} full seen (Err e) p b.proof P → NameStepsFailWithStoredError full seen e a b
  load_broke {A} {full} e p P h goes = (
    record {
      fault = inl goes.ends;
      steps = _;
      went = went_after seen (Unit {0}) e h.0 goes.steps a.proof p b.proof (gains_adds seen h.0 a.proof p h.1) (went_failing seen A (Unit {0}) e goes.steps p b.proof goes.went);
      loss = loss_later e a.proof p b.proof h.1.taking goes.loss;
    },
    goes.kept,
  )

-- names that keep their variables and indices keep their search literals
keep_images : (n n' : Variables) (s : Session) (gs : _) → ExtendsNames n n' → GivesIndices n n' s gs → KeepsImages n n'
keep_images n n' s gs extends gives user order i = record {
  count = i.count;
  each = λ k lt. let x : IsImage n (get_or user k 0) (get_or order k 0) = i.each k lt in
      record { variable_is = x.variable_is; index_is = x.index_is; named = (extends.stays (variable (get_or user k 0)) x.variable_is x.named).0; indexed = gives.stays x.variable_is x.index_is x.indexed; is = x.is };
}

-- A CLAUSE

same_rest : (x y : Step) (xs ys : List Step) → x ∷ xs ≡ y ∷ ys → xs ≡ ys
same_rest x y xs ys e = cc

module _ {W L : Type 0} {G : Ghosts L} (seen : W → Writer) (n n' : Variables) (a : Context W L G) (joined : NamesSearchInvariant n a) (user : List ℕ) (t : MappedLits) (both : Bool) (p : Proof W L G) (adds : IntroducesClause n n' (steps_of a.proof) (steps_of p) user t both) (took : EmitsSomeChecked seen a.proof p) (keeps : HasAllowedSteps p) where
  abbrev pub between : Session
  between = session_after adds.between

  -- solver names before the clause
  names_between : (v : ℕ) → between.solver_names v ≡ solver_of n' v
  names_between v =
      sym (added_names t.globals.items between v) ∙ ap (λ ss. (session_after ss).solver_names v) (sym adds.written) ∙ adds.does.valid.said.solver_names v

  -- the search may take the indices
  pub clause_vacant : AreVacant a.search.parts (length n'.globals.items) t.given.items
  clause_vacant = given_vacant n n' (session_of a.proof) between t.given.items joined.valid.tidy adds.does.valid.tidy joined.valid.said names_between adds.gives adds.search a.search joined.shares joined.sound.search

  module _ (c1 : Search) (indexed : GivesSearchIndices n'.globals.items t.given.items a.search c1) where
    shares1 : SharesIndices n' c1
    shares1 = shares_given n n' (session_of a.proof) between t.given.items joined.valid.tidy adds.does.valid.tidy joined.valid.said names_between adds.gives adds.search a.search joined.shares c1 indexed

    search1 : SearchInvariant between c1
    search1 = indexed.search (session_of a.proof) between joined.sound.search
        (gives_names n n' (session_of a.proof) between t.given.items joined.valid.tidy adds.does.valid.tidy joined.valid.said names_between adds.gives adds.search a.search joined.shares)

    pub clause_added : IsAdded (steps_of p) c1 t.lits.items
    clause_added = taken_added n' t user adds.between (steps_of p) c1 adds.does.valid.tidy adds.images adds.clause shares1 adds.written adds.does.valid.said.solver_names search1

    pub clause_may : both ≡ false → CanLoad c1 t.lits.items
    clause_may e = taken_may n' t user adds.between (steps_of p) c1 adds.does.valid.tidy adds.images adds.clause shares1 indexed.bottom (sym adds.signs ∙ e)

    since_added : clause_added.earlier ≡ adds.since.steps ++ steps_of a.proof
    since_added = same_rest _ _ clause_added.earlier adds.between (sym clause_added.added ∙ adds.written) ∙ adds.since.following

    order_added : AddsInOrder (steps_of a.proof) (steps_of p)
    order_added = record {
      front = adds.since.steps;
      clause = map (with_var (global_in c1)) t.lits.items;
      following = [];
      steps = clause_added.added ∙ ap (λ ss. AddClause (map (with_var (global_in c1)) t.lits.items) ∷ ss) since_added;
      order = subst (λ ss. IsInIndexOrder ss (map (with_var (global_in c1)) t.lits.items)) since_added (record {
        variable_at = global_in c1;
        lits = t.lits.items;
        is = refl;
        indices = clause_added.named;
        increasing = subst IsIncreasing (sym adds.clause.lits) (canonical_increasing t.order.items);
      });
    }

    assumed1 : (session_of p).assumed ≡ (session_of a.proof).assumed
    assumed1 = ap (λ ss. (session_after ss).assumed) adds.written ∙ asked_added t.globals.items adds.between (adds.search.unsat ∙ joined.sound.search.valid.fits.consistent) ∙ adds.search.assumed

    joined1 : (b : Context W L G) → b.proof ≡ p → b.search ≡ c1 → b.config ≡ a.config → SearchInvariant (session_of p) c1 → NamesSearchInvariant n' b
    joined1 b e f g search = record {
      sound = record {
        keeps = subst HasAllowedSteps (sym e) keeps;
        search = subst (λ q. SearchInvariant (session_of q) b.search) (sym e) (subst (SearchInvariant (session_of p)) (sym f) search);
        locals = subst (λ (c : SolverConfig). 0 < c.reduce_locals_interval) (sym g) joined.sound.locals;
        mids = subst (λ (c : SolverConfig). 0 < c.reduce_mids_interval) (sym g) joined.sound.mids;
      };
      valid = subst (λ q. NamesInvariant n' (steps_of q)) (sym e) adds.does.valid;
      shares = subst (SharesIndices n') (sym f) shares1;
    }

    -- a tautology is written and not loaded
    pub clause_both : both ≡ true → ClauseAddedToSearch seen n n' a (record a { proof = p; search = c1 }) user true
    clause_both e = record {
      does = adds.does;
      comes = comes_added (names_in user) (steps_of a.proof) (steps_of p) adds.comes;
      order = order_added;
      took = took;
      goes_on = joined1 (record a { proof = p; search = c1 }) refl refl refl
          (tautology_loads (steps_of p) c1 t.lits.items clause_added (ap (λ ls. is_tautology ls) adds.clause.lits ∙ canonical_tautology t.order.items ∙ sym adds.signs ∙ e));
      names = λ u v e. (adds.extends.stays u v e).0;
      images = keep_images n n' (session_of a.proof) t.given.items adds.extends adds.gives;
      lits = indexed.lits;
      config = refl;
      assumed = assumed1;
    }

    -- any other clause is loaded
    module _ (left : Bool) (q : Proof W L G) (c2 : Search) (goes : EmitsStepsOr (IsBufferFull c2.parts) seen (Ok left) p q (λ l _. IsLoaded l (session_of q) c1 c2)) (deletes : OnlyAllowedSteps DeletesJustAdded (steps_of p) (steps_of q)) where
      abbrev pub new : Context W L G
      new = record a { proof = q; search = c2 }

      does2 : ChangesScriptState n n' (steps_of a.proof) (steps_of q) (λ j. with_clause (map user_literal user) (introduce_all (names_in user) j)) (λ j. steps_introducing (names_in user) j ++ (Adds (map user_literal user) ∷ []))
      does2 = subst (λ ss. ChangesScriptState n n' (steps_of a.proof) ss (λ j. with_clause (map user_literal user) (introduce_all (names_in user) j)) (λ j. steps_introducing (names_in user) j ++ (Adds (map user_literal user) ∷ []))) (sym goes.went.history)
          (does_after n n' (steps_of a.proof) (steps_of p) goes.steps (λ j. with_clause (map user_literal user) (introduce_all (names_in user) j)) (λ j. steps_introducing (names_in user) j ++ (Adds (map user_literal user) ∷ []))
          adds.does (subst AreAllowedSteps goes.went.history goes.keeps) goes.searched)

      goes_on2 : (l : Bool) → IsLoaded l (session_of q) c1 c2 → NamesSearchInvariantOrUnsat l n' new
      goes_on2 true loaded = record {
        sound = record { keeps = goes.keeps; search = loaded.goes_on; locals = joined.sound.locals; mids = joined.sound.mids };
        valid = does2.valid;
        shares = shares_moved n' c1 c2 shares1 loaded.moved;
      }
      goes_on2 false loaded = loaded.goes_on

      pub clause_loaded : ClauseAddedToSearch seen n n' a new user left
      clause_loaded = record {
        does = does2;
        comes = comes_both (IsClauseStep (names_in user)) (steps_of a.proof) (steps_of p) (steps_of q) (comes_added (names_in user) (steps_of a.proof) (steps_of p) adds.comes) (comes_deleted (names_in user) (steps_of p) (steps_of q) deletes);
        order = record { front = order_added.front; clause = order_added.clause; following = goes.steps ++ order_added.following; steps = goes.went.history ∙ ap (λ ss. goes.steps ++ ss) order_added.steps ∙ sym (append_assoc goes.steps order_added.following (AddClause order_added.clause ∷ (order_added.front ++ steps_of a.proof))); order = order_added.order };
        took = (_, gains_more seen took.0 goes.steps a.proof p q took.1 goes.went);
        goes_on = goes_on2 left goes.ends;
        names = λ u v e. (adds.extends.stays u v e).0;
        images = keep_images n n' (session_of a.proof) t.given.items adds.extends adds.gives;
        lits = goes.ends.moved.lits ∙ indexed.lits;
        config = refl;
        assumed = ap (λ ss. (session_after ss).assumed) goes.went.history ∙ asked_after goes.steps (steps_of p) (kinds_of (session_of p).solver_names goes.steps goes.searched) ∙ assumed1;
      }

    -- loading the clause may fail
    pub clause_result : (r : Result Bool SolverError) (q : Proof W L G) (c2 : Search) → EmitsStepsOr (IsBufferFull c2.parts) seen r p q (λ l _. IsLoaded l (session_of q) c1 c2) → OnOk r (OnlyAllowedSteps DeletesJustAdded (steps_of p) (steps_of q)) → AddsClauseToSearch seen r n n' a (record a { proof = q; search = c2 }) user
    clause_result (Ok left) q c2 goes deletes = clause_loaded left q c2 goes deletes
    clause_result (Err e) q c2 goes deletes = load_broke seen a (record a { proof = q; search = c2 }) e p (λ l _. IsLoaded l (session_of q) c1 c2) took goes

-- ASSUMPTIONS

module _ {W L : Type 0} {G : Ghosts L} (seen : W → Writer) (n n' : Variables) (a : Context W L G) (joined : NamesSearchInvariant n a) (user : List ℕ) (t : MappedLits) (p : Proof W L G) (assumes : IntroducesAssumptions n n' (steps_of a.proof) (steps_of p) user t) (took : EmitsSomeChecked seen a.proof p) (keeps : HasAllowedSteps p) where
  abbrev pub asked_between : Session
  asked_between = session_after assumes.between

  asked_names : (v : ℕ) → asked_between.solver_names v ≡ solver_of n' v
  asked_names v = ap (λ ss. (session_after ss).solver_names v) (sym assumes.written) ∙ (assumes.does Unknown).valid.said.solver_names v

  pub asked_vacant : AreVacant a.search.parts (length n'.globals.items) t.given.items
  asked_vacant = given_vacant n n' (session_of a.proof) asked_between t.given.items joined.valid.tidy (assumes.does Unknown).valid.tidy joined.valid.said asked_names assumes.gives assumes.search a.search joined.shares joined.sound.search

  module _ (c1 : Search) (indexed : GivesSearchIndices n'.globals.items t.given.items a.search c1) where
    shares_asked : SharesIndices n' c1
    shares_asked = shares_given n n' (session_of a.proof) asked_between t.given.items joined.valid.tidy (assumes.does Unknown).valid.tidy joined.valid.said asked_names assumes.gives assumes.search a.search joined.shares c1 indexed

    search_asked : SearchInvariant asked_between c1
    search_asked = indexed.search (session_of a.proof) asked_between joined.sound.search
        (gives_names n n' (session_of a.proof) asked_between t.given.items joined.valid.tidy (assumes.does Unknown).valid.tidy joined.valid.said asked_names assumes.gives assumes.search a.search joined.shares)

    over_order : AreOver n' t.order.items
    over_order = images_over n' user t.order.items (assumes.does Unknown).valid.tidy assumes.images

    pub asked_there : HaveVariablesIn t.order.items c1.parts
    asked_there = over_below n' c1 t.order.items shares_asked over_order

    pub asked_taken : (c2 : Search) → ReplacesAssumed t.order.items c1 c2 → AssumptionsSetInSearch seen n n' a (record a { proof = p; search = c2 }) user t
    asked_taken c2 assumed = record {
      does = assumes.does;
      comes = assumes.comes;
      took = took;
      config = refl;
      joined = record {
        sound = record {
          keeps = keeps;
          search = subst (λ ss. SearchInvariant (session_after ss) c2) (sym (assumes.written ∙ ap (λ ks. Assumptions ks ∷ assumes.between) same_lits))
              (assumed.search asked_between search_asked (over_named n' c1 asked_between t.order.items (assumes.does Unknown).valid.tidy asked_names shares_asked over_order));
          locals = joined.sound.locals;
          mids = joined.sound.mids;
        };
        valid = (assumes.does Unknown).valid;
        shares = subst (SharesIndices n') (sym assumed.same) (record { size = shares_asked.size; few = shares_asked.few; below = shares_asked.below; same = shares_asked.same });
      };
      asked = record {
        images = assumes.images;
        lits = assumed.lits;
        spelt = global_images_of n' user t (assumes.does Unknown).valid.tidy assumes.images assumes.globals;
        globals = sym (ap (λ ss. (session_after ss).assumed) assumes.written);
      };
    }
      where
        same_lits : t.globals.items ≡ map (with_var (global_in c1)) t.order.items
        same_lits = assumes.globals ∙ over_same n' c1 t.order.items (assumes.does Unknown).valid.tidy shares_asked over_order
