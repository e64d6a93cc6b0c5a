-- A clause or assumptions are written.
use Rattle.std.proofs.Common.{ℕ, ◌<◌, ◌≡◌, Bool, None, Some, List, [], ◌∷◌, map, length, get_or, true, ◌||◌, eqb, inl, inr, refl, sym, ◌∙◌, ap, subst, arith}
use Rattle.std.proofs.lemmas.Bool.{eq-eqb, or_right}
use Rattle.sat_base.specs.values.Literals.{variable, is_positive}
use Rattle.sat_base.specs.script.Script.{Among}
use Rattle.sat_base.specs.script.ScriptState.{introduce_all, with_clause}
use Rattle.sat_base.specs.steps.Steps.{Step, AddClause, Assumptions}
use Rattle.sat_checker.specs.LiteralSets.{is_tautology, mentions}
use Rattle.sat_solver.specs.session.Session.{session_after}
use Rattle.sat_solver.specs.session.LiveClauses.{with_var}
use Rattle.sat_store.specs.variables.Maps.{target}
use Rattle.sat_solver.specs.variables.Variables.{data_at, global_of, variables_used, VariablesInvariant}
use Rattle.sat_solver.specs.variables.Naming.{ExtendsNames}
use Rattle.sat_solver.specs.variables.Refusing.{names_in}
use Rattle.sat_solver.specs.load.Literals.{user_literal, IsImage, AreImages, MapsClause, HaveNoWitness, SameLiterals, IntroducesLiterals, global_with_index}
use Rattle.sat_solver.specs.load.Clauses.{IntroducesClause}
use Rattle.sat_solver.specs.load.Assumed.{StoresMarks, IntroducesAssumptions}
use Rattle.sat_checker.specs.matching.Expected.{Outcome, Adds, Opens, steps_introducing}
use Rattle.sat_solver.specs.variables.Search.{GivesIndices}
use Rattle.sat_solver.specs.variables.Calls.{ChangesScriptState}
use Rattle.sat_solver.specs.declared.variables.Variables.{Variables}
use Rattle.sat_solver.specs.declared.load.literals.MappedLits.{MappedLits}
use Rattle.sat_solver.specs.variables.NamingSteps.{IsLiteralsStep}
use Rattle.sat_solver.proofs.lemmas.session.ComingLemmas.{comes_one, comes_both}
use Rattle.sat_solver.proofs.lemmas.variables.Doing.{does_both}
use Rattle.sat_solver.proofs.lemmas.variables.Extending.{extends_both}
use Rattle.sat_solver.proofs.lemmas.variables.Giving.{gives_unseen}
use Rattle.sat_base.proofs.lemmas.script.LiteralValues.{coded_half}
use Rattle.sat_solver.proofs.lemmas.variables.ModeChanges.{live_within}
use Rattle.sat_solver.proofs.lemmas.variables.Assumed.{marked_within}
use Rattle.sat_solver.proofs.lemmas.variables.TakenNames.{same_literals, canonical_more, canonical_less, images_within, at_place, among_place, map_among, mapped_is}

order_same : (n : Variables) (user : List ℕ) (t u : MappedLits) → u.order ≡ t.order → AreImages n user t.order.items → AreImages n user u.order.items
order_same n user t u e = subst (AreImages n user) (sym (ap (λ v. v.items) e))

pub clause_literals : (old mid : Variables) (user : List ℕ) (t u : MappedLits) → VariablesInvariant mid → ExtendsNames old mid → HaveNoWitness old user → AreImages mid user t.order.items → MapsClause mid u → u.order ≡ t.order → SameLiterals mid user u.globals.items
clause_literals old mid user t u tidy extends none images maps e =
    same_literals old mid user u.order.items u.lits.items u.globals.items tidy extends none (order_same mid user t u e images)
    (λ x m. subst (Among x) (sym maps.lits) (canonical_more u.order.items x m)) (λ x m. canonical_less u.order.items x (subst (Among x) maps.lits m)) maps.globals

pub clause_added : (old mid : Variables) (from mids to : List Step) (user : List ℕ) (t u : MappedLits) (both_signs : Bool) → IntroducesLiterals old mid from mids user t → MapsClause mid u → both_signs ≡ is_tautology u.order.items → u.order ≡ t.order → u.given ≡ t.given
    → ChangesScriptState mid mid mids to (with_clause (map user_literal user)) (λ j. Adds (map user_literal user) ∷ []) → to ≡ AddClause u.globals.items ∷ mids → IntroducesClause old mid from to user u both_signs
clause_added old mid from mids to user t u both_signs takes maps signs order given does e = record {
  does = does_both old mid mid from mids to (introduce_all (names_in user)) (with_clause (map user_literal user)) (steps_introducing (names_in user)) (λ j. Adds (map user_literal user) ∷ []) takes.does does;
  signs = signs;
  extends = takes.extends;
  images = order_same mid user t u order takes.images;
  clause = maps;
  gives = subst (GivesIndices old mid (session_after from)) (sym (ap (λ v. v.items) given)) takes.gives;
  between = mids;
  since = takes.comes;
  written = e;
  search = takes.search;
  comes = comes_both (IsLiteralsStep (names_in user)) from mids to takes.comes (comes_one (IsLiteralsStep (names_in user)) mids to (AddClause u.globals.items) e refl);
}

pub assumed_literals : (old mid : Variables) (user : List ℕ) (t u : MappedLits) → VariablesInvariant mid → ExtendsNames old mid → HaveNoWitness old user → AreImages mid user t.order.items → u.globals.items ≡ map (with_var (global_with_index mid)) t.order.items → SameLiterals mid user u.globals.items
assumed_literals old mid user t u tidy extends none images e = same_literals old mid user t.order.items t.order.items u.globals.items tidy extends none images (λ x m. m) (λ x m. m) e

images_kept : (old new : Variables) (user order : List ℕ) → new.global_from_user ≡ old.global_from_user → new.solver_from_global ≡ old.solver_from_global → AreImages old user order → AreImages new user order
images_kept old new user order users solvers i = record {
  count = i.count;
  each = λ k lt. let x = i.each k lt in record { variable_is = x.variable_is; index_is = x.index_is; named = ap (λ m. target m.fwd (variable (get_or user k 0))) users ∙ x.named; indexed = ap (λ m. target m.fwd x.variable_is) solvers ∙ x.indexed; is = x.is };
}

-- setting marks changes neither names nor modes
extends_marked : (old new : Variables) (ls : List ℕ) → StoresMarks old new ls → ExtendsNames old new
extends_marked old new ls put = record {
  stays = λ u v e. (same u ∙ e, ap (λ d. d.sampling_mode) (put.kept v));
  came = λ u v e f. absurd (none_some (sym e ∙ sym (same u) ∙ f));
  fresh = λ u v e f. absurd (none_some (sym e ∙ sym (same u) ∙ f));
  lives = λ v d. ap (λ k. k.deleted) (put.kept v) ∙ d;
}
  where
    same : (u : ℕ) → global_of new u ≡ global_of old u
    same u = ap (λ m. target m.fwd u) put.users

    none_some : {v : ℕ} → None ≡ Some v → ⊥
    none_some e = cc

pub assumptions_added : (old mid new : Variables) (from mids to : List Step) (user : List ℕ) (t u : MappedLits) → IntroducesLiterals old mid from mids user t → StoresMarks mid new u.globals.items → u.globals.items ≡ map (with_var (global_with_index mid)) t.order.items → u.order ≡ t.order → u.given ≡ t.given
    → ((o : Outcome) → ChangesScriptState mid new mids to (λ j. j) (λ j. Opens (map user_literal user) o ∷ [])) → to ≡ Assumptions u.globals.items ∷ mids → IntroducesAssumptions old new from to user u
assumptions_added old mid new from mids to user t u takes put globals order given does e = record {
  does = λ o. does_both old mid new from mids to (introduce_all (names_in user)) (λ j. j) (steps_introducing (names_in user)) (λ j. Opens (map user_literal user) o ∷ []) takes.does (does o);
  extends = extends_both old mid new takes.extends (extends_marked mid new u.globals.items put);
  images = images_kept mid new user u.order.items put.users put.solvers (order_same mid user t u order takes.images);
  globals = globals ∙ ap (λ v. map (with_var (global_with_index mid)) v.items) (sym order) ∙ ap (λ g. map (with_var (λ x. get_or g.items x 0)) u.order.items) (sym put.globals);
  gives = subst (GivesIndices old new (session_after from)) (sym (ap (λ v. v.items) given)) (gives_unseen old mid new (session_after from) t.given.items takes.gives put.solvers);
  between = mids;
  written = e;
  search = takes.search;
  comes = comes_both (IsLiteralsStep (names_in user)) from mids to takes.comes (comes_one (IsLiteralsStep (names_in user)) mids to (Assumptions u.globals.items) e refl);
}

-- VARIABLES WITHIN BOUNDS

mention : (ls : List ℕ) (l : ℕ) → Among l ls → mentions ls (variable l) ≡ true
mention [] l m = absurd m
mention (x ∷ xs) l (inl e) = ap (λ b. b || mentions xs (variable l)) (eq-eqb (variable x) (variable l) (ap variable (sym e)))
mention (x ∷ xs) l (inr m) = or_right (eqb (variable x) (variable l)) (mentions xs (variable l)) (mention xs l m)

pub marks_within : (n : Variables) (ls : List ℕ) → VariablesInvariant n → ((v : ℕ) → mentions ls v ≡ (data_at n v).assumed) → (k : ℕ) → k < length ls → variable (get_or ls k 0) < variables_used n
marks_within n ls tidy marked k lt = live_within n (variable (get_or ls k 0)) (marked_within n ls (variable (get_or ls k 0)) tidy (marked (variable (get_or ls k 0))) (mention ls (get_or ls k 0) (among_place ls k lt)))

pub order_within : (n : Variables) (user order : List ℕ) → VariablesInvariant n → AreImages n user order → (k : ℕ) → k < length order → variable (get_or order k 0) < length n.globals.items
order_within n user order tidy images k lt = images_within n user order tidy images (get_or order k 0) (among_place order k lt)

pub mapped_within : (n : Variables) (user order mapped : List ℕ) → VariablesInvariant n → AreImages n user order → mapped ≡ map (with_var (global_with_index n)) order → (k : ℕ) → k < length mapped → variable (get_or mapped k 0) < variables_used n
mapped_within n user order mapped tidy images e k lt =
    let q = map_among (with_var (global_with_index n)) (get_or mapped k 0) order (subst (Among (get_or mapped k 0)) e (among_place mapped k lt)) in
    let p = at_place order q.0 q.1 in
    let within = p.1 in
    let c = images.count in
    let i : IsImage n (get_or user p.0 0) (get_or order p.0 0) = images.each p.0 (omega arith) in
    let same : variable (get_or mapped k 0) ≡ i.variable_is = ap variable (q.2 ∙ ap (with_var (global_with_index n)) (sym p.2) ∙ mapped_is n (get_or user p.0 0) (get_or order p.0 0) i tidy) ∙ coded_half i.variable_is (is_positive (get_or user p.0 0)) in
    subst (λ v. v < variables_used n) (sym same) (live_within n i.variable_is (tidy.indexed i.variable_is i.index_is i.indexed))

-- BORROWED LISTS

pub list_within : (lent ls globals list : List ℕ) → lent ≡ ls → globals ≡ list → ((k : ℕ) → k < length ls → variable (get_or ls k 0) < length list) → (k : ℕ) → k < length lent → variable (get_or lent k 0) < length globals
list_within lent ls globals list e f h k lt = subst (λ gs. variable (get_or lent k 0) < length gs) (sym f) (subst (λ xs. variable (get_or xs k 0) < length list) (sym e) (h k (subst (λ xs. k < length xs) e lt)))

pub maps_clause : (mapped lent ls globals list : List ℕ) → mapped ≡ map (with_var (λ x. get_or globals x 0)) lent → lent ≡ ls → globals ≡ list → mapped ≡ map (with_var (λ x. get_or list x 0)) ls
maps_clause mapped lent ls globals list m e f = m ∙ ap (map (with_var (λ x. get_or globals x 0))) e ∙ ap (λ (gs : List ℕ). map (with_var (λ x. get_or gs x 0)) ls) f

pub lent_within : (lent ls : List ℕ) (n : ℕ) → lent ≡ ls → ((k : ℕ) → k < length ls → variable (get_or ls k 0) < n) → (k : ℕ) → k < length lent → variable (get_or lent k 0) < n
lent_within lent ls n e h k lt = subst (λ xs. variable (get_or xs k 0) < n) (sym e) (h k (subst (λ xs. k < length xs) e lt))
