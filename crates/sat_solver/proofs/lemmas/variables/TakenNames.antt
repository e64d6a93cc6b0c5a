-- The names of a clause are introduced, literal by literal.
use Rattle.std.proofs.Common.{ℕ, zero, suc, ◌+◌, ◌*◌, ◌%◌, ◌||◌, ◌<◌, ◌≤◌, ◌≡◌, ◌⊎◌, Bool, true, false, cond, eqb, List, [], ◌∷◌, ◌++◌, map, drop, length, get_or, Option, Some, None, refl, sym, ◌∙◌, ap, subst, arith, length-append, inl, inr}
use Rattle.std.proofs.lemmas.Bool.{eqb-true, eq-eqb, ne_eqb, cases_eq, true≢false, or_cases, or_right}
use Rattle.std.proofs.lemmas.List.{drop_more, drop_all}
use Rattle.sat_base.specs.values.Literals.{variable, is_positive, mk_lit}
use Rattle.sat_base.specs.script.Script.{Among}
use Rattle.sat_base.specs.script.ScriptState.{introduce, introduce_all, new_names}
use Rattle.sat_store.specs.declared.data.SamplingMode.TheVariants as kept
use Rattle.sat_store.specs.variables.Maps.{AreInverse, target}
use Rattle.sat_checker.specs.LiteralSets.{is_among, canonical}
use Rattle.sat_checker.proofs.lemmas.sets.Canonical.{canonical_among}
use Rattle.sat_base.specs.steps.Steps.{Step, SolverVarName}
use Rattle.sat_solver.specs.session.Session.{session_after}
use Rattle.sat_solver.specs.session.LiveClauses.{with_var}
use Rattle.sat_solver.specs.variables.Variables.{data_at, global_of, solver_of, VariablesInvariant}
use Rattle.sat_solver.specs.variables.Search.{KeepsSearch, GivesIndices}
use Rattle.sat_solver.specs.variables.Indexing.{Indexes}
use Rattle.sat_solver.specs.declared.variables.solver_vars.Given.{Given}
use Rattle.sat_solver.specs.declared.load.literals.MappedLits.{MappedLits}
use Rattle.sat_solver.specs.variables.Naming.{ExtendsNames}
use Rattle.sat_solver.specs.variables.Refusing.{names_in}
use Rattle.sat_solver.specs.load.Literals.{IsProofLiteralOf, SameLiterals, IsImage, AreImages, HaveNoWitness, global_with_index, IntroducesLiterals}
use Rattle.sat_checker.specs.matching.Expected.{NewName, steps_introducing}
use Rattle.sat_solver.specs.variables.Calls.{NamesInvariant, ChangesScriptState, IntroducesNameUnseen}
use Rattle.sat_solver.specs.declared.variables.Variables.{Variables}
use Rattle.sat_solver.proofs.lemmas.variables.MapLemmas.{pushed, some_within}
use Rattle.sat_base.proofs.lemmas.script.LiteralValues.{all_from, coded_half}
use Rattle.sat_solver.proofs.lemmas.variables.Doing.{does_none, does_both}
use Rattle.sat_solver.proofs.lemmas.variables.Extending.{extends_same, extends_both, extends_kept}
use Rattle.sat_solver.specs.session.AllowedSteps.{OnlyAllowedSteps}
use Rattle.sat_solver.specs.variables.NamingSteps.{IsLiteralsStep}
use Rattle.sat_solver.proofs.lemmas.session.ComingLemmas.{comes_none, comes_both}
use Rattle.sat_solver.specs.variables.NamingSteps.{IsNextIndexInSession}
use Rattle.sat_solver.proofs.lemmas.variables.NextVariables.{next_solver}
use Rattle.sat_solver.proofs.lemmas.variables.ComingSteps.{name_among, comes_due, comes_index}
use Rattle.sat_solver.proofs.lemmas.variables.Giving.{keeps_same, keeps_both, gives_none, gives_unseen, gives_both}

-- the names of these literals are introduced
abbrev pub Brings : Variables → Variables → List Step → List Step → List ℕ → Type 0
Brings old new from to lits = ChangesScriptState old new from to (introduce_all (names_in lits)) (steps_introducing (names_in lits))

-- the literals before position `index` were taken; taking the rest introduces all names
pub record Taking (old now : Variables) (from steps : List Step) (all : List ℕ) (index : ℕ) (items : List ℕ) (given : List Given) : Type 0 where
  pub first : AreInverse old.solver_from_global
  pub valid : NamesInvariant now steps
  pub extends : ExtendsNames old now
  pub count : length items ≡ index
  pub each : (k : ℕ) → k < index → IsImage now (get_or all k 0) (get_or items k 0)
  pub gives : GivesIndices old now (session_after from) given
  pub search : KeepsSearch (session_after from) (session_after steps)
  pub comes : OnlyAllowedSteps (IsLiteralsStep (names_in all)) from steps
  pub rest : (new : Variables) (to : List Step) → Brings now new steps to (drop index all) → Brings old new from to all

image_stays : (old new : Variables) (l code : ℕ) → ExtendsNames old new → ((v x : ℕ) → solver_of old v ≡ Some x → solver_of new v ≡ Some x) → IsImage old l code → IsImage new l code
image_stays old new l code e stays i = record { variable_is = i.variable_is; index_is = i.index_is; named = (e.stays (variable l) i.variable_is i.named).0; indexed = stays i.variable_is i.index_is i.indexed; is = i.is }

-- the name and the index of one literal
pub one_taken : (old now mid new : Variables) (from log mids to : List Step) (all items next : List ℕ) (before after : List Given) (index l v x code : ℕ) → Taking old now from log all index items before → index < length all → l ≡ get_or all index 0
    → IntroducesNameUnseen now mid log mids (variable l) → global_of mid (variable l) ≡ Some v → Indexes mid new mids to before after v x → code ≡ mk_lit x (is_positive l) → next ≡ items ++ code ∷ [] → Taking old new from to all (index + 1) next after
one_taken old now mid new from log mids to all items next before after index l v x code t lt at brought named indexes is e = record {
  first = t.first;
  valid = indexes.does.valid;
  extends = extends_both old now new t.extends both;
  count = ap length e ∙ length-append items (code ∷ []) ∙ ap (λ k. k + 1) t.count;
  each = each;
  gives = subst (GivesIndices old new (session_after from)) (sym indexes.listed)
      (gives_both old mid new (session_after from) (session_after mids) before indexes.fresh t.first brought.brings.valid.tidy.solvers indexes.does.valid.tidy.solvers (brought.unseen.search.units ∙ t.search.units)
      (gives_unseen old now mid (session_after from) before t.gives brought.unseen.solvers) indexes.gives);
  search = keeps_both (session_after from) (session_after log) (session_after to) t.search (keeps_both (session_after log) (session_after mids) (session_after to) brought.unseen.search indexes.search);
  comes = comes_both (IsLiteralsStep (names_in all)) from log to t.comes (comes_both (IsLiteralsStep (names_in all)) log mids to (comes_due (names_in all) log mids brought.comes)
      (comes_index (names_in all) mids to (variable l + 1) v x (subst (λ k. Among (variable k + 1) (names_in all)) (sym at) (name_among all index lt)) (brought.brings.valid.read (variable l) ∙ named) lowest));
  rest = λ last end more. t.rest last end (subst (Brings now last log end) (sym (drop_more all index 0 lt ∙ ap (λ y. y ∷ drop (index + 1) all) (sym at))) (
      does_both now mid last log mids end (introduce (variable l + 1)) (introduce_all (names_in (drop (index + 1) all))) (λ j. map NewName (new_names (variable l + 1) j)) (steps_introducing (names_in (drop (index + 1) all))) brought.brings
      (does_both mid new last mids to end (λ j. j) (introduce_all (names_in (drop (index + 1) all))) (λ j. []) (steps_introducing (names_in (drop (index + 1) all))) indexes.does more)));
}
  where
    lowest : (to ≡ mids) ⊎ ((to ≡ SolverVarName v (Some x) ∷ mids) × ((session_after mids).solver_names v ≡ None) × IsNextIndexInSession (session_after mids) (Some x))
    lowest = elim indexes.step [ inl e ↦ inl e | inr e ↦ inr (e.0, brought.brings.valid.said.solver_names v ∙ e.1, next_solver mid (session_after mids) x brought.brings.valid.tidy brought.brings.valid.said e.2) ]

    both : ExtendsNames now new
    both = extends_both now mid new brought.extends (extends_kept mid new indexes.users indexes.kept)

    stays : (w y : ℕ) → solver_of now w ≡ Some y → solver_of new w ≡ Some y
    stays w y f = indexes.gives.stays w y (ap (λ m. target m.fwd w) brought.unseen.solvers ∙ f)

    image : IsImage new l code
    image = record { variable_is = v; index_is = x; named = ap (λ m. target m.fwd (variable l)) indexes.users ∙ named; indexed = indexes.has; is = is }

    item : (k : ℕ) → get_or next k 0 ≡ cond (eqb k index) code (get_or items k 0)
    item k = ap (λ xs. get_or xs k 0) e ∙ pushed items k index code 0 (sym t.count)

    each : (k : ℕ) → k < index + 1 → IsImage new (get_or all k 0) (get_or next k 0)
    each k m = elim (cases_eq k index) [
      | inl same ↦ subst (λ y. IsImage new (get_or all k 0) y) (sym (item k ∙ ap (λ b. cond b code (get_or items k 0)) (eq-eqb k index same))) (subst (λ y. IsImage new y code) (at ∙ ap (λ i. get_or all i 0) (sym same)) image)
      | inr differ ↦ subst (λ y. IsImage new (get_or all k 0) y) (sym (item k ∙ ap (λ b. cond b code (get_or items k 0)) (ne_eqb k index differ))) (image_stays now new (get_or all k 0) (get_or items k 0) both stays (t.each k (omega arith)))
    ]

pub none_taken : (old : Variables) (from : List Step) (all items : List ℕ) (given : List Given) → NamesInvariant old from → items ≡ [] → given ≡ [] → Taking old old from from all 0 items given
none_taken old from all items given valid e f = record {
  first = valid.tidy.solvers;
  valid = valid;
  extends = extends_same old;
  count = ap length e;
  each = λ k lt. absurd (let z : k < 0 = lt in omega arith);
  gives = subst (GivesIndices old old (session_after from)) (sym f) (gives_none old (session_after from));
  search = keeps_same (session_after from);
  comes = comes_none (IsLiteralsStep (names_in all)) from;
  rest = λ new to more. more;
}

pub all_taken : (old new : Variables) (from to : List Step) (all : List ℕ) (t : MappedLits) (index : ℕ) → length all ≤ index → index ≤ length all → Taking old new from to all index t.order.items t.given.items → IntroducesLiterals old new from to all t
all_taken old new from to all t index le ge taking = record {
  does = taking.rest new to (subst (Brings new new to to) (sym (drop_all index all le)) (does_none new to taking.valid));
  extends = taking.extends;
  images = record { count = let c = taking.count in omega arith; each = λ k lt. taking.each k (omega arith) };
  gives = taking.gives;
  search = taking.search;
  comes = taking.comes;
}

-- FROM POSITIONS TO SETS

pub at_place : (xs : List ℕ) (x : ℕ) → Among x xs → (k : ℕ) × (k < length xs) × (get_or xs k 0 ≡ x)
at_place [] x m = absurd m
at_place (y ∷ ys) x (inl e) = (0, omega arith, sym e)
at_place (y ∷ ys) x (inr m) = let p = at_place ys x m in let lt = p.1 in (suc p.0, omega arith, p.2)

pub among_place : (xs : List ℕ) (k : ℕ) → k < length xs → Among (get_or xs k 0) xs
among_place [] k lt = absurd (omega arith)
among_place (y ∷ ys) zero lt = inl refl
among_place (y ∷ ys) (suc k) lt = inr (among_place ys k (omega arith))

no_witness_at : (n : Variables) (ls : List ℕ) (l : ℕ) → HaveNoWitness n ls → Among l ls → (v : ℕ) → global_of n (variable l) ≡ Some v → (data_at n v).sampling_mode ≡ kept.Sample
no_witness_at n [] l h m = absurd m
no_witness_at n (x ∷ xs) l h (inl e) = subst (λ y. (v : ℕ) → global_of n (variable y) ≡ Some v → (data_at n v).sampling_mode ≡ kept.Sample) (sym e) h.0
no_witness_at n (x ∷ xs) l h (inr m) = no_witness_at n xs l h.1 m

-- the proof literal for a literal of the search
pub mapped_is : (n : Variables) (l code : ℕ) (i : IsImage n l code) → VariablesInvariant n → with_var (global_with_index n) code ≡ mk_lit i.variable_is (is_positive l)
mapped_is n l code i tidy =
    ap (with_var (global_with_index n)) i.is
    ∙ ap (λ k. 2 * global_with_index n k + mk_lit i.index_is (is_positive l) % 2) (coded_half i.index_is (is_positive l))
    ∙ ap (λ k. 2 * k + mk_lit i.index_is (is_positive l) % 2) (tidy.globals i.index_is i.variable_is (tidy.solvers.back i.variable_is i.index_is i.indexed))
    ∙ sign (is_positive l)
  where
    sign : (b : Bool) → 2 * i.variable_is + mk_lit i.index_is b % 2 ≡ mk_lit i.variable_is b
    sign true = omega arith
    sign false = omega arith

among_map : (f : ℕ → ℕ) (x : ℕ) (xs : List ℕ) → Among x xs → Among (f x) (map f xs)
among_map f x [] m = absurd m
among_map f x (y ∷ ys) (inl e) = inl (ap f e)
among_map f x (y ∷ ys) (inr m) = inr (among_map f x ys m)

pub map_among : (f : ℕ → ℕ) (y : ℕ) (xs : List ℕ) → Among y (map f xs) → (x : ℕ) × Among x xs × (y ≡ f x)
map_among f y [] m = absurd m
map_among f y (x ∷ xs) (inl e) = (x, inl refl, e)
map_among f y (x ∷ xs) (inr m) = let p = map_among f y xs m in (p.0, inr p.1, p.2)

-- a clause with the members of these literals, over proof variables
pub same_literals : (old new : Variables) (user order set clause : List ℕ) → VariablesInvariant new → ExtendsNames old new → HaveNoWitness old user → AreImages new user order → ((x : ℕ) → Among x order → Among x set) → ((x : ℕ) → Among x set → Among x order) → clause ≡ map (with_var (global_with_index new)) set → SameLiterals new user clause
same_literals old new user order set clause tidy extends none images more less e = record {
  there = all_from (λ l. (code : ℕ) × IsProofLiteralOf new l code × Among code clause) user (λ l m.
      let p = at_place user l m in
      let lt = p.1 in
      let c = images.count in
      let image = subst (λ x. IsImage new x (get_or order p.0 0)) p.2 (images.each p.0 p.1) in
      (with_var (global_with_index new) (get_or order p.0 0), stands_for l (get_or order p.0 0) m image, subst (Among (with_var (global_with_index new) (get_or order p.0 0))) (sym e) (among_map (with_var (global_with_index new)) (get_or order p.0 0) set (more (get_or order p.0 0) (among_place order p.0 (omega arith))))));
  only = all_from (λ code. (l : ℕ) × IsProofLiteralOf new l code × Among l user) clause (λ code m.
      let q = map_among (with_var (global_with_index new)) code set (subst (Among code) e m) in
      let p = at_place order q.0 (less q.0 q.1) in
      let lt = p.1 in
      let c = images.count in
      let within : p.0 < length user = omega arith in
      let there = among_place user p.0 within in
      let image = subst (IsImage new (get_or user p.0 0)) p.2 (images.each p.0 within) in
      (get_or user p.0 0, subst (IsProofLiteralOf new (get_or user p.0 0)) (sym q.2) (stands_for (get_or user p.0 0) q.0 there image), there));
}
  where
    stands_for : (l code : ℕ) → Among l user → IsImage new l code → IsProofLiteralOf new l (with_var (global_with_index new) code)
    stands_for l code m i = record { variable_is = i.variable_is; index_is = i.index_is; named = i.named; indexed = i.indexed; sampled = go (global_of old (variable l)) refl; is = mapped_is new l code i tidy }
      where
        go : (o : Option ℕ) → global_of old (variable l) ≡ o → (data_at new i.variable_is).sampling_mode ≡ kept.Sample
        go None e = extends.came (variable l) i.variable_is e i.named
        go (Some w) e =
            let s = extends.stays (variable l) w e in
            let same : w ≡ i.variable_is = some_same s.0 i.named in
            ap (λ k. (data_at new k).sampling_mode) (sym same) ∙ s.1 ∙ no_witness_at old user l none m w e
          where
            some_same : {x y : ℕ} {o : Option ℕ} → o ≡ Some x → o ≡ Some y → x ≡ y
            some_same f g = cc

-- a member of a list passes the test of membership
pub among_test : (xs : List ℕ) (x : ℕ) → Among x xs → is_among xs x ≡ true
among_test [] x m = absurd m
among_test (y ∷ ys) x (inl e) = ap (λ b. b || is_among ys x) (eq-eqb y x (sym e))
among_test (y ∷ ys) x (inr m) = or_right (eqb y x) (is_among ys x) (among_test ys x m)

pub test_among : (xs : List ℕ) (x : ℕ) → is_among xs x ≡ true → Among x xs
test_among [] x e = absurd (true≢false (sym e))
test_among (y ∷ ys) x e = elim (or_cases (eqb y x) (is_among ys x) e) [ inl t ↦ inl (sym (eqb-true y x t)) | inr t ↦ inr (test_among ys x t) ]

pub canonical_more : (xs : List ℕ) (x : ℕ) → Among x xs → Among x (canonical xs)
canonical_more xs x m = test_among (canonical xs) x (canonical_among xs x ∙ among_test xs x m)

pub canonical_less : (xs : List ℕ) (x : ℕ) → Among x (canonical xs) → Among x xs
canonical_less xs x m = test_among xs x (sym (canonical_among xs x) ∙ among_test (canonical xs) x m)

-- every literal of the list is over an index that the names have
pub images_within : (n : Variables) (user order : List ℕ) → VariablesInvariant n → AreImages n user order → (x : ℕ) → Among x order → variable x < length n.globals.items
images_within n user order tidy images x m =
    let p = at_place order x m in
    let lt = p.1 in
    let c = images.count in
    let i : IsImage n (get_or user p.0 0) (get_or order p.0 0) = images.each p.0 (omega arith) in
    let here : variable x ≡ i.index_is = ap variable (sym p.2 ∙ i.is) ∙ coded_half i.index_is (is_positive (get_or user p.0 0)) in
    let low : i.index_is < length n.solver_from_global.bwd = some_within n.solver_from_global.bwd i.index_is i.variable_is (tidy.solvers.back i.variable_is i.index_is i.indexed) in
    let e = tidy.globals_count in
    omega arith

pub within_all : (n : Variables) (user order set : List ℕ) → VariablesInvariant n → AreImages n user order → set ≡ canonical order → (k : ℕ) → k < length set → variable (get_or set k 0) < length n.globals.items
within_all n user order set tidy images e k lt = images_within n user order tidy images (get_or set k 0) (canonical_less order (get_or set k 0) (subst (Among (get_or set k 0)) e (among_place set k lt)))

pub any_default : (xs : List ℕ) (i d e : ℕ) → i < length xs → get_or xs i d ≡ get_or xs i e
any_default [] i d e lt = absurd (omega arith)
any_default (x ∷ xs) zero d e lt = refl
any_default (x ∷ xs) (suc i) d e lt = any_default xs i d e (omega arith)
