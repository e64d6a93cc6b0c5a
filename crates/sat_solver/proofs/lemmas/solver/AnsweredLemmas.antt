-- The result of a search, for names and script state.
use Rattle.std.proofs.Common.{ℕ, zero, suc, ◌+◌, ◌<◌, ◌≡◌, ◌∙◌, Bool, Option, None, Some, List, [], ◌∷◌, ◌++◌, length, map, get_or, refl, sym, ap, subst, arith, inl, inr}
use Rattle.std.specs.List.{AllByRecursion, Contains}
use Rattle.sat_base.specs.device.Device.{Writer}
use Rattle.sat_base.specs.values.Literals.{variable, is_positive, mk_lit}
use Rattle.sat_base.specs.values.Clauses.{Valuation, AllLitsTrue}
use Rattle.sat_base.specs.script.Script.{Literal, names_of, Among}
use Rattle.sat_base.specs.steps.Steps.{Step, Model, FailedAssumptions}
use Rattle.sat_checker.specs.Fold.{Holds}
use Rattle.sat_checker.proofs.lemmas.meaning.Answers.{cores_fail}
use Rattle.sat_checker.specs.declared.processing.ProofProcessor.{Ghosts}
use Rattle.sat_parts.specs.prop.Values.{IsTrueLit}
use Rattle.sat_parts.proofs.lemmas.clause.ListLemmas.{at_place}
use Rattle.sat_solver.proofs.lemmas.fits.CodeLemmas.{coded_by}
use Rattle.sat_solver.specs.proof.ProofView.{EmitsChecked, HasAllowedSteps, steps_of, session_of}
use Rattle.sat_solver.specs.session.Session.{AreAllowedSteps}
use Rattle.sat_solver.proofs.lemmas.session.StepLemmas.{sessions_are_accepted}
use Rattle.sat_solver.specs.session.LiveClauses.{with_var}
use Rattle.sat_solver.specs.declared.context.Context.{Context}
use Rattle.sat_solver.specs.declared.context.Search.{Search}
use Rattle.sat_solver.specs.declared.config.SolverConfig.{SolverConfig}
use Rattle.sat_solver.specs.assumptions.Core.{causes_hashes}
use Rattle.sat_solver.specs.cdcl.StepEffects.{AreSearchSteps}
use Rattle.sat_solver.specs.cdcl.Joint.{global_in, SearchInvariant, SameVarsAndAssumptions}
use Rattle.sat_solver.specs.load.Literals.{user_literal, AreImages}
use Rattle.sat_solver.specs.variables.Variables.{data_at, global_at, user_of, names_used, variables_used}
use Rattle.sat_solver.specs.variables.Shared.{SharesIndices}
use Rattle.sat_solver.specs.Models.{has_true_value, value_by, value_in, model_to, named_to}
use Rattle.sat_checker.specs.matching.Checking.{variable_named}
use Rattle.sat_checker.specs.matching.Expected.{Shows, Fails, IsLiteralOf, EachHasItsLiteral, IsSameLiteralSet, shows, fails}
use Rattle.sat_checker.specs.matching.ProofChecking.{checker_rules}
use Rattle.sat_checker.specs.matching.Traces.{HasTrace, no_step, visible}
use Rattle.sat_solver.specs.variables.Calls.{NamesInvariant, NamesAgree, ChangesScriptState}
use Rattle.sat_solver.specs.declared.variables.Variables.{Variables}
use Rattle.sat_solver.proofs.lemmas.variables.MapLemmas.{some_within}
use Rattle.sat_solver.proofs.lemmas.variables.ModeChanges.{live_within}
use Rattle.sat_solver.proofs.lemmas.variables.Searched.{searches_agree}
use Rattle.sat_solver.proofs.lemmas.variables.TakenNames.{test_among}
use Rattle.sat_solver.specs.solver.Joined.{NamesSearchInvariant, lit_over_names, named_by, user_by}
use Rattle.sat_solver.specs.solver.Answering.{WritesModel, WritesFailedCore, model_of, line_of_names}
use Rattle.sat_solver.proofs.lemmas.solver.AfterLemmas.{stands_after}
use Rattle.sat_solver.proofs.lemmas.solver.ShownLemmas.{coded_back, coded_sign, model_all}
use Rattle.sat_solver.proofs.lemmas.solver.LineLemmas.{named_has, named_each, mapped_each, literal_among}
use Rattle.sat_solver.proofs.lemmas.solver.ReportingLemmas.{each_live, shares_moved}
use Rattle.sat_parts.proofs.lemmas.parts.ValueLemmas.{coded_variable}

-- a property at all positions holds for the whole list
pub all_places : (P : ℕ → Type 0) (ls : List ℕ) → ((k : ℕ) → k < length ls → P (get_or ls k 0)) → AllByRecursion P ls
all_places P [] f = tt
all_places P (l ∷ ls) f = (f 0 (omega arith), all_places P ls (λ k lt. f (suc k) (omega arith)))

-- ASSUMPTIONS IN A MODEL

module _ (n : Variables) (values : List (Option Bool)) (user order : List ℕ) (images : AreImages n user order) where
  asked_at : (k : ℕ) → k < length user → IsTrueLit values (get_or order k 0) → Among (get_or user k 0) (named_to n values (names_used n))
  asked_at k lt t =
      let i = images.each k lt in
      let l = get_or user k 0 in
      let value : value_in n values i.variable_is ≡ is_positive l =
      ap (λ o. value_by o values (data_at n i.variable_is).unit) i.indexed
      ∙ ap (λ x. has_true_value (get_or values x None)) (sym (ap variable i.is ∙ coded_variable i.index_is (is_positive l)))
      ∙ ap has_true_value t
      ∙ ap is_positive i.is ∙ coded_sign i.index_is (is_positive l) in
      subst (λ m. Among m (named_to n values (names_used n))) (ap (mk_lit (variable l)) value ∙ coded_back l)
      (named_has n values (names_used n) (variable l) i.variable_is (some_within n.global_from_user.fwd (variable l) i.variable_is i.named) i.named)

  -- if a model makes the assumptions true, its line contains all of them
  pub asked_shown : ((k : ℕ) → k < length order → IsTrueLit values (get_or order k 0)) → AllByRecursion (λ l. Among l (named_to n values (names_used n))) user
  asked_shown t = all_places (λ l. Among l (named_to n values (names_used n))) user (λ k lt. asked_at k lt (t k (let c = images.count in omega arith)))

-- CORES OVER NAMES

module _ (n : Variables) (steps : List Step) (valid : NamesInvariant n steps) (c : Search) (shares : SharesIndices n c) (user order : List ℕ) (images : AreImages n user order) where
  -- the user's literal for an assumption of the search
  pub record Taken_from (l : ℕ) : Type 0 where
    pub from : ℕ
    pub among : Among from user
    pub is : lit_over_names n l ≡ from
    pub spells : IsLiteralOf (variable_named steps) (user_literal from) (with_var (global_in c) l)

  among_at : (ls : List ℕ) (k : ℕ) → k < length ls → Among (get_or ls k 0) ls
  among_at [] k lt = absurd (omega arith)
  among_at (l ∷ ls) zero lt = inl refl
  among_at (l ∷ ls) (suc k) lt = inr (among_at ls k (omega arith))

  pub taken_from : (l : ℕ) → Contains order l → Taken_from l
  taken_from l h =
      let k = h.0 in
      let lt : k < length user = (let c = images.count in let b = h.1 in omega arith) in
      let i = images.each k lt in
      let m = get_or user k 0 in
      let it : l ≡ mk_lit i.index_is (is_positive m) = sym (at_place order l h) ∙ i.is in
      let var : variable l ≡ i.index_is = ap variable it ∙ coded_variable i.index_is (is_positive m) in
      let sign : is_positive l ≡ is_positive m = ap is_positive it ∙ coded_sign i.index_is (is_positive m) in
      let at : global_at n (variable l) ≡ Some i.variable_is = ap (global_at n) var ∙ valid.tidy.solvers.back i.variable_is i.index_is i.indexed in
      let global : global_in c (variable l) ≡ i.variable_is = shares.same (variable l) i.variable_is at in
      let named : user_of n i.variable_is ≡ Some (variable m) = valid.tidy.users.back (variable m) i.variable_is i.named in
      record {
        from = m;
        among = among_at user k lt;
        is = ap (λ o. named_by (user_by n o) l) at ∙ ap (λ o. named_by o l) named ∙ ap (mk_lit (variable m)) sign ∙ coded_back m;
        spells = record {
          variable = i.variable_is;
          named = valid.read (variable m) ∙ i.named;
          is = sym (coded_by (global_in c) l) ∙ ap (λ g. mk_lit g (is_positive l)) global ∙ ap (mk_lit i.variable_is) sign;
        };
      }

  module _ (core : List ℕ) (among : (k : ℕ) → k < length core → Contains order (get_or core k 0)) where
    -- the core over names consists of assumptions
    pub core_among : AllByRecursion (λ l. Among l user) (map (lit_over_names n) core)
    core_among = each core among
      where
        each : (ls : List ℕ) → ((k : ℕ) → k < length ls → Contains order (get_or ls k 0)) → AllByRecursion (λ l. Among l user) (map (lit_over_names n) ls)
        each [] f = tt
        each (l ∷ ls) f = (let t = taken_from l (f 0 (omega arith)) in subst (λ m. Among m user) (sym t.is) t.among, each ls (λ k lt. f (suc k) (omega arith)))

    -- it represents the core that was written
    pub core_spelt : IsSameLiteralSet (variable_named steps) (map user_literal (map (lit_over_names n) core)) (map (with_var (global_in c)) core)
    core_spelt = (there core among (λ x m. m), only core among (λ x m. m))
      where
        f : ℕ → ℕ
        f = with_var (global_in c)

        spells_at : (l : ℕ) → Contains order l → IsLiteralOf (variable_named steps) (user_literal (lit_over_names n l)) (f l)
        spells_at l h = (let t = taken_from l h in subst (λ m. IsLiteralOf (variable_named steps) (user_literal m) (f l)) (sym t.is) t.spells)

        there : (ls : List ℕ) → ((k : ℕ) → k < length ls → Contains order (get_or ls k 0)) → ((x : ℕ) → Among x (map f ls) → Among x (map f core)) →
            AllByRecursion (λ l. (code : ℕ) × IsLiteralOf (variable_named steps) l code × Among code (map f core)) (map user_literal (map (lit_over_names n) ls))
        there [] g m = tt
        there (l ∷ ls) g m = ((f l, spells_at l (g 0 (omega arith)), m (f l) (inl refl)), there ls (λ k lt. g (suc k) (omega arith)) (λ x i. m x (inr i)))

        only : (ls : List ℕ) → ((k : ℕ) → k < length ls → Contains order (get_or ls k 0)) → ((x : Literal) → Among x (map user_literal (map (lit_over_names n) ls)) → Among x (map user_literal (map (lit_over_names n) core))) →
            AllByRecursion (λ code. (l : Literal) × IsLiteralOf (variable_named steps) l code × Among l (map user_literal (map (lit_over_names n) core))) (map f ls)
        only [] g m = tt
        only (l ∷ ls) g m = ((user_literal (lit_over_names n l), spells_at l (g 0 (omega arith)), m (user_literal (lit_over_names n l)) (inl refl)), only ls (λ k lt. g (suc k) (omega arith)) (λ x i. m x (inr i)))

-- no valuation that the steps admit satisfies a core that was written
pub core_none : (steps : List Step) (codes hashes : List ℕ) → AreAllowedSteps (FailedAssumptions codes hashes ∷ steps) → (a : Valuation) → Holds steps a → AllLitsTrue a codes → ⊥
core_none steps codes hashes may a held t = (let s = sessions_are_accepted (FailedAssumptions codes hashes ∷ steps) may in cores_fail steps codes hashes a s.0.0 s.0.1 held t)

-- STEPS OF ANSWERS

-- the line of a model represents the model that was written
pub line_spelt : (n : Variables) (steps : List Step) (values : List (Option Bool)) → NamesInvariant n steps → EachHasItsLiteral (variable_named steps) (map user_literal (named_to n values (names_used n))) (model_to n values (variables_used n))
line_spelt n steps values valid =
    mapped_each (λ l. (code : ℕ) × IsLiteralOf (variable_named steps) l code × Among code (model_to n values (variables_used n))) (named_to n values (names_used n))
    (named_each n values (λ l. (code : ℕ) × IsLiteralOf (variable_named steps) (user_literal l) code × Among code (model_to n values (variables_used n))) (names_used n) (λ u v lt e.
    let live = valid.tidy.named v u (valid.tidy.users.back u v e) in
    let b = value_in n values v in (
      mk_lit v b,
      record { variable = v; named = ap (λ w. variable_named steps (w + 1)) (coded_variable u b) ∙ valid.read u ∙ e; is = ap (mk_lit v) (sym (coded_sign u b)) },
      test_among (model_to n values (variables_used n)) (mk_lit v b) (model_all n values (variables_used n) v (live_within n v live) live),
    )))

named_among_all : (line asked : List ℕ) → AllByRecursion (λ l. Among l line) asked → AllByRecursion (λ l. Among l (map user_literal line)) (map user_literal asked)
named_among_all line [] h = tt
named_among_all line (l ∷ asked) h = (literal_among l line h.0, named_among_all line asked h.1)

-- names and search are joined after a search, even if the names have changed
pub joined_by : {W L : Type 0} {G : Ghosts L} (n m : Variables) (a b : Context W L G) → NamesSearchInvariant n a → b.config ≡ a.config → HasAllowedSteps b.proof → NamesInvariant m (steps_of b.proof) → SearchInvariant (session_of b.proof) b.search → SharesIndices m b.search → NamesSearchInvariant m b
joined_by n m a b joined config keeps valid search shares = record {
  sound = record {
    keeps = keeps;
    search = search;
    locals = subst (λ (c : SolverConfig). 0 < c.reduce_locals_interval) (sym config) joined.sound.locals;
    mids = subst (λ (c : SolverConfig). 0 < c.reduce_mids_interval) (sym config) joined.sound.mids;
  };
  valid = valid;
  shares = shares;
}

module _ {W L : Type 0} {G : Ghosts L} (seen : W → Writer) (n : Variables) (a : Context W L G) (joined : NamesSearchInvariant n a) where
  -- names and search are joined after steps of a search
  pub joined_at : (b : Context W L G) (steps : List Step) → EmitsChecked seen steps a.proof b.proof → AreSearchSteps (session_of a.proof).solver_names steps → HasAllowedSteps b.proof → SameVarsAndAssumptions a.search b.search → SearchInvariant (session_of b.proof) b.search →
      b.config ≡ a.config → NamesSearchInvariant n b
  joined_at b steps adds searched keeps moved search config = record {
    sound = record {
      keeps = keeps;
      search = search;
      locals = subst (λ (c : SolverConfig). 0 < c.reduce_locals_interval) (sym config) joined.sound.locals;
      mids = subst (λ (c : SolverConfig). 0 < c.reduce_mids_interval) (sym config) joined.sound.mids;
    };
    valid = subst (NamesInvariant n) (sym adds.history) (stands_after n (steps_of a.proof) steps joined.valid (subst AreAllowedSteps adds.history keeps) searched);
    shares = shares_moved n a.search b.search joined.shares moved;
  }

  -- the step of a model is the one that the script state expects
  pub does_shown : (b : Context W L G) → WritesModel seen n a b → (asked : List ℕ) → AllByRecursion (λ l. Among l (line_of_names n a)) asked →
      ChangesScriptState n n (steps_of a.proof) (steps_of b.proof) (λ j. j) (λ j. Shows (names_of (map user_literal (line_of_names n a))) (map user_literal asked) (map user_literal (line_of_names n a)) ∷ [])
  does_shown b shown asked among =
      let may : AreAllowedSteps (Model (model_of n a) ∷ steps_of a.proof) = subst AreAllowedSteps shown.adds.history shown.joined.sound.keeps in
      record {
        valid = shown.joined.valid;
        kept = λ j live agree. record {
          live = live;
          agree = subst (λ ss. NamesAgree n ss j live) (sym shown.adds.history)
              (searches_agree n (steps_of a.proof) (Model (model_of n a)) joined.valid may.1 (each_live n a.search.parts.assignment.current (variables_used n) (model_of n a) (λ l t. t)) j live agree);
          trace = subst (λ ss. HasTrace checker_rules (steps_of a.proof) ss (Shows (names_of (map user_literal (line_of_names n a))) (map user_literal asked) (map user_literal (line_of_names n a)) ∷ [])) (sym shown.adds.history)
              (visible (shows refl (line_spelt n (steps_of a.proof) a.search.parts.assignment.current joined.valid) (named_among_all (line_of_names n a) asked among)) no_step);
        };
      }

  -- the step of a core is the one that the script state expects
  pub does_failed : (b : Context W L G) (core : List ℕ) → WritesFailedCore seen n a b core → (asked order : List ℕ) → AreImages n asked order → a.search.assumptions.lits.items ≡ order →
      ChangesScriptState n n (steps_of a.proof) (steps_of b.proof) (λ j. j) (λ j. Fails (map user_literal asked) (map user_literal core) ∷ [])
  does_failed b core f asked order images lits =
      subst (λ ss. ChangesScriptState n n (steps_of a.proof) ss (λ j. j) (λ j. Fails (map user_literal asked) (map user_literal core) ∷ [])) (sym (history_of f))
      (record {
        valid = valid;
        kept = λ j live agree. record {
          live = live;
          agree = searches_agree n (steps_of a.proof) step joined.valid may.1 tt j live agree;
          trace = visible (fails (subst (λ xs. IsSameLiteralSet (variable_named (steps_of a.proof)) (map user_literal xs) codes) (sym f.named) spelt)) no_step;
        };
      })
    where
      used : List ℕ
      used = b.search.analysis.core

      codes : List ℕ
      codes = map (with_var (global_in a.search)) used

      step : Step
      step = FailedAssumptions codes (causes_hashes a.search.parts b.search.analysis.used)

      history_of : WritesFailedCore seen n a b core → steps_of b.proof ≡ step ∷ steps_of a.proof
      history_of f = f.adds.history ∙ ap (λ ss. ss ++ steps_of a.proof) f.reported.is

      may : AreAllowedSteps (step ∷ steps_of a.proof)
      may = subst AreAllowedSteps (history_of f) f.joined.sound.keeps

      valid : NamesInvariant n (step ∷ steps_of a.proof)
      valid = subst (NamesInvariant n) (history_of f) f.joined.valid

      spelt : IsSameLiteralSet (variable_named (steps_of a.proof)) (map user_literal (map (lit_over_names n) used)) codes
      spelt = core_spelt n (steps_of a.proof) joined.valid a.search joined.shares asked order images used (λ k lt. subst (λ ls. Contains ls (get_or used k 0)) lits (f.reported.failed.among k lt))
