-- A clause is loaded.
use Rattle.std.proofs.Common.{ℕ, ◌≡◌, ◌<◌, ◌≤◌, ◌*◌, ◌^◌, ◌∙◌, Err, Bool, true, false, List, [], ◌∷◌, map, length, get_or, refl, sym, ap, subst, arith, inl, inr, None, Some, zero, suc, eqb}
use Rattle.sat_base.specs.values.Literals.{variable}
use Rattle.sat_base.specs.steps.Steps.{Step, AddClause, AtClause, DeleteClause, Satisfied as True}
use Rattle.sat_base.specs.device.Device.{Writer}
use Rattle.sat_store.specs.declared.clause.alloc.StoreError.{StoreError}
use Rattle.sat_store.specs.declared.clause.alloc.StoreError.TheVariants as stores
use Rattle.sat_solver.specs.Recovery.{error_of_buffer}
use Rattle.sat_solver.specs.declared.proof.Proof.{Proof}
use Rattle.sat_solver.specs.proof.ProofView.{HasAllowedSteps}
use Rattle.sat_solver.proofs.lemmas.session.ProofLemmas.{adds_none}
use Rattle.sat_solver.specs.cdcl.StepEffects.{EmitsStepsOr}
use Rattle.sat_parts.specs.prop.State.{StateIsConsistent}
use Rattle.sat_parts.specs.declared.parts.SearchState.{SearchState}
use Rattle.sat_parts.specs.declared.parts.load.Loaded.{Loaded}
use Rattle.sat_parts.specs.declared.parts.load.Loaded.TheVariants.{Stored, Unit as One, Satisfied, Falsified}
use Rattle.sat_parts.specs.parts.Frame.{SameClauses, SameState}
use Rattle.sat_parts.specs.parts.Loadable.{false_last}
use Rattle.sat_parts.specs.parts.Loading.{LoadEffect}
use Rattle.sat_parts.specs.parts.Whole.{state, SearchStateInvariant}
use Rattle.sat_parts.proofs.lemmas.parts.LoadFrames.{carries_same, says_size, says_units, says_bottom}
use Rattle.sat_parts.proofs.lemmas.parts.SortLemmas.{shuffled_last}
use Rattle.sat_parts.proofs.lemmas.parts.WordSteps.{fits_below}
use Rattle.sat_solver.specs.session.Session.{Session, IsAllowedStep, after, session_after}
use Rattle.sat_solver.proofs.lemmas.session.Changes.{with_live_clause, knowing_literals, session_if}
use Rattle.sat_solver.specs.session.AllowedSteps.{IsLastAdded}
use Rattle.sat_solver.specs.session.LiveClauses.{with_var}
use Rattle.sat_solver.specs.session.Matching.{SessionMatchesParts}
use Rattle.sat_solver.specs.session.Loads.{LoadMatches}
use Rattle.sat_solver.proofs.lemmas.fits.FitLemmas.{canonical_shuffled}
use Rattle.sat_solver.proofs.lemmas.fits.LearnedLemmas.{fits_undone}
use Rattle.sat_solver.proofs.lemmas.fits.LoadedParts.{fits_loaded}
use Rattle.sat_solver.specs.declared.context.Search.{Search}
use Rattle.sat_solver.specs.declared.context.Scratch.{Scratch}
use Rattle.sat_solver.specs.cdcl.Joint.{global_in, SearchInvariant, SameVarsAndAssumptions, SameAssumedAndNames, AreNamedOrIdle, assumed_indices}
use Rattle.sat_solver.proofs.lemmas.cdcl.AskedLemmas.{asked_after, leaves_after}
use Rattle.sat_solver.proofs.lemmas.cdcl.TurnLemmas.{free_moved}
use Rattle.sat_solver.specs.load.Loaded.{CanLoad, IsAdded, IsLoaded}
use Rattle.sat_checker.specs.LiteralSets.{mentions}
use Rattle.sat_checker.specs.declared.processing.ProofProcessor.{Ghosts}
use Rattle.sat_store.specs.heap.Vsids.{is_available}
use Rattle.std.proofs.lemmas.Bool.{or_left, or_right, eq-eqb, cases_Bool, true≢false}
use Rattle.sat_parts.specs.prop.Values.{value_of, IsTrueLit}
use Rattle.sat_parts.specs.parts.Words.{IsIdle}
use Rattle.sat_parts.proofs.lemmas.parts.ValueLemmas.{open_or_true}
use Rattle.sat_solver.proofs.lemmas.fits.FramedParts.{bottom_unit}
use Rattle.sat_solver.proofs.lemmas.fits.AddedLemmas.{unit_true}
use Rattle.sat_solver.proofs.lemmas.load.BottomLemmas.{mention_named}
use Rattle.sat_solver.proofs.lemmas.load.GivenLemmas.{placed_bottom}
use Rattle.sat_parts.specs.parts.Assumed.{PlacesAreCorrect}

-- adding a clause leaves the assumptions unchanged
pub asked_added : (ks : List ℕ) (earlier : List Step) → (session_after earlier).unsat ≡ false → (session_after (AddClause ks ∷ earlier)).assumed ≡ (session_after earlier).assumed
asked_added ks earlier consistent =
    ap (λ b. (session_if b (session_after earlier) (with_live_clause false ks (knowing_literals ks (session_after earlier)))).assumed) consistent ∙ asked_after (AtClause false ks [] ∷ []) earlier (refl, tt)

-- adding a clause leaves solver names unchanged, too
pub leaves_added : (ks : List ℕ) (earlier : List Step) → (session_after earlier).unsat ≡ false → SameAssumedAndNames (session_after earlier) (session_after (AddClause ks ∷ earlier))
leaves_added ks earlier consistent = record {
  assumed = asked_added ks earlier consistent;
  names = λ v.
      ap (λ b. (session_if b (session_after earlier) (with_live_clause false ks (knowing_literals ks (session_after earlier)))).solver_names v) consistent ∙ (leaves_after (AtClause false ks [] ∷ []) earlier (refl, tt)).names v;
}

-- a clause of different literals has fewer than 2^32 of them
pub few_lits : (c : Search) (ls : List ℕ) → SearchStateInvariant c.parts → CanLoad c ls → length ls < 2 ^ 32
few_lits c ls holds may =
    let n : length ls ≤ 2 * length c.parts.assignment.current = fits_below ls (2 * length c.parts.assignment.current) may.differ may.below in
    let a : StateIsConsistent (state c.parts) = holds.below.propagation.agrees in
    omega (arith, n, a.room, a.trail.small)

mentions_at : (ls : List ℕ) (k : ℕ) → k < length ls → mentions ls (variable (get_or ls k 0)) ≡ true
mentions_at [] k lt = absurd (omega arith)
mentions_at (l ∷ ls) zero lt = or_left (eqb (variable l) (variable l)) (mentions ls (variable l)) (eq-eqb (variable l) (variable l) refl)
mentions_at (l ∷ ls) (suc k) lt = or_right (eqb (variable l) (variable (get_or ls k 0))) (mentions ls (variable (get_or ls k 0))) (mentions_at ls k (omega arith))

leaves_both : (s t u : Session) → SameAssumedAndNames s t → SameAssumedAndNames t u → SameAssumedAndNames s u
leaves_both s t u x y = record { assumed = y.assumed ∙ x.assumed; names = λ v. y.names v ∙ x.names v }

-- nothing was written, and then the clause buffer returned an error
pub goes_unstored : {A W L full : Type 0} {G : Ghosts L} (seen : W → Writer) (e : StoreError) (p : Proof W L G) (P : A → List Step → Type 0) → HasAllowedSteps p → (e ≡ stores.StoreFull → full) → EmitsStepsOr full seen (Err (error_of_buffer e)) p p P
goes_unstored seen stores.StoreFull p P keeps f = record { steps = []; went = adds_none seen p; searched = tt; quiet = tt; keeps = keeps; kept = tt; loss = refl; ends = f refl }
goes_unstored seen stores.OutOfMemory p P keeps f = record { steps = []; went = adds_none seen p; searched = tt; quiet = tt; keeps = keeps; kept = tt; loss = inl refl; ends = tt }

-- the lists from which steps are made don't matter
loaded_scratch : (s : Session) (c c' : Search) (x : Scratch) → IsLoaded true s c c' → IsLoaded true s c (record c' { scratch = x })
loaded_scratch s c c' x h =
    let r = h.goes_on.ready in
    record {
      goes_on = record {
        valid = h.goes_on.valid;
        ready = record { free = free_moved c' (record c' { scratch = x }) r.free (record { globals = refl; lits = refl; size = refl }) refl refl; placed = r.placed; there = r.there; asked = r.asked; used = r.used };
      };
      moved = record { globals = h.moved.globals; lits = h.moved.lits; size = h.moved.size };
      bottom = h.bottom;
    }

module _ (c : Search) (ls : List ℕ) (steps : List Step) (added : IsAdded steps c ls) (may : CanLoad c ls) (p1 : SearchState) (holds1 : SearchStateInvariant p1) (ready : SameClauses c.parts p1 × SameState c.parts p1) (others : (v : ℕ) → mentions ls v ≡ false → is_available p1.vsids v ≡ is_available c.parts.vsids v) (p2 : SearchState) (holds2 : SearchStateInvariant p2) (kept : (p2.vsids ≡ p1.vsids) × (p2.trail.starts ≡ [])) where
  abbrev s : Session
  s = session_after added.earlier

  abbrev ms : List ℕ
  ms = false_last p1.assignment.current ls

  abbrev c' : Search
  c' = record c { parts = p2 }

  same_values : p1.assignment ≡ c.parts.assignment
  same_values = ready.1.0

  fits1 : SessionMatchesParts p1 s (global_in c)
  fits1 = fits_undone c.parts p1 s (global_in c) ready.0 (carries_same c.parts p1 ready.1) added.search.valid.fits

  fits2 : (r : Loaded) → LoadEffect r p1 p2 ms → LoadMatches r p2 s (global_in c) ls ms
  fits2 r says =
      fits_loaded p1 p2 s (global_in c) holds1 fits1 (rw ready.1.2 may.bottom) ls ms (shuffled_last p1.assignment.current ls) may.differ (rw same_values may.below) may.plain added.named r says

  moved2 : (r : Loaded) → LoadEffect r p1 p2 ms → SameVarsAndAssumptions c c'
  moved2 r says = record { globals = refl; lits = refl; size = says_size r p1 p2 ms says ∙ ap (λ a. length a.current) same_values }

  none_some : {A : Type 0} (x : A) → None ≡ Some x → ⊥
  none_some x e = cc

  -- an idle variable stays idle if it isn't in the clause
  idle2 : (r : Loaded) → LoadEffect r p1 p2 ms → (v : ℕ) → mentions ls v ≡ false → IsIdle (assumed_indices c) (state c.parts) c.parts.vsids v → IsIdle (assumed_indices c) (state p2) p2.vsids v
  idle2 r says v out idle = (
    elim (open_or_true p2.assignment.current v) [
      | inl none ↦ none
      | inr x ↦ absurd (elim (says_units r p1 p2 ms says x.0 (bottom_unit p2 x.0 holds2 kept.1 x.1.1)) [
        | inl u ↦
            let t : IsTrueLit p1.assignment.current x.0 = (unit_true (state p1) x.0 holds1.below.propagation.agrees u).0 in
            none_some _ (sym idle.0 ∙ ap (λ a. value_of a.current v) (sym same_values) ∙ ap (value_of p1.assignment.current) (sym x.1.0) ∙ t)
        | inr y ↦
            let order = shuffled_last p1.assignment.current ls in
            let j = order.back 0 (omega (arith, y.0, order.size)) in
            true≢false (sym (mentions_at ls j.0 j.1.0) ∙ ap (λ l. mentions ls (variable l)) (j.1.1 ∙ sym y.1) ∙ ap (mentions ls) x.1.0 ∙ out)
      ])
    ],
    ap (λ q. is_available q v) kept.0 ∙ others v out ∙ idle.1,
    idle.2,
  )

  used2 : (r : Loaded) → LoadEffect r p1 p2 ms → (t : Session) → SameAssumedAndNames s t → AreNamedOrIdle t c'
  used2 r says t leaves v lt = elim (added.search.ready.used v (subst (λ n. v < n) (moved2 r says).size lt)) [
    | inl own ↦ inl (leaves.names (global_in c v) ∙ own)
    | inr idle ↦ elim (cases_Bool (mentions ls v)) [
      | inl i ↦ inl (leaves.names (global_in c v) ∙ mention_named (global_in c) s.solver_names ls v added.named i)
      | inr out ↦ inr (idle2 r says v out idle)
    ]
  ]

  placed2 : (r : Loaded) → LoadEffect r p1 p2 ms → PlacesAreCorrect c.assumptions (state p2)
  placed2 r says =
      placed_bottom c.assumptions.lits.items c.assumptions.below.items c.assumptions.place (state c.parts) (state p2) may.bottom kept.1
      (λ l t z. (let k = (carries_same c.parts p1 ready.1).bottom l t z in says_bottom r p1 p2 ms says l k.0 k.1)) added.search.ready.placed

  whole : (r : Loaded) → LoadEffect r p1 p2 ms → (t : Session) → SameAssumedAndNames s t → SessionMatchesParts p2 t (global_in c) → SearchInvariant t c'
  whole r says t leaves fits = record {
    valid = record { holds = holds2; fits = fits };
    ready = record {
      free = free_moved c c' added.search.ready.free (moved2 r says) refl refl;
      placed = placed2 r says;
      there = rw (moved2 r says).size added.search.ready.there;
      asked = leaves.assumed ∙ added.search.ready.asked;
      used = used2 r says t leaves;
    };
  }

  asked : SameAssumedAndNames s (session_after steps)
  asked = rw added.added (leaves_added (map (with_var (global_in c)) ls) added.earlier added.search.valid.fits.consistent)

  now : session_after steps ≡ after (AddClause (map (with_var (global_in c)) ls)) s
  now = ap (λ ss. session_after ss) added.added

  goes_on : (r : Loaded) → LoadEffect r p1 p2 ms → SessionMatchesParts p2 (after (AddClause (map (with_var (global_in c)) ls)) s) (global_in c) → IsLoaded true (session_after steps) c c'
  goes_on r says fits = record {
    goes_on = whole r says (session_after steps) asked (rw now fits);
    moved = moved2 r says;
    bottom = kept.1;
  }

  pub loaded_stored : LoadEffect Stored p1 p2 ms → IsLoaded true (session_after steps) c c'
  loaded_stored says = goes_on Stored says (fits2 Stored says)

  pub loaded_unit : LoadEffect One p1 p2 ms → IsLoaded true (session_after steps) c c'
  loaded_unit says = goes_on One says (fits2 One says)

  pub loaded_true : LoadEffect Satisfied p1 p2 ms → length ms ≤ 1 → IsLoaded true (session_after steps) c c'
  loaded_true says one = goes_on Satisfied says ((fits2 Satisfied says).0 (let k = says.2 in omega (arith, k.1.0)))

  pub loaded_false : LoadEffect Falsified p1 p2 ms → IsLoaded false (session_after steps) c c'
  loaded_false says = record {
    goes_on = ap (λ (x : Session). x.unsat) now ∙ fits2 Falsified says;
    moved = moved2 Falsified says;
    bottom = kept.1;
  }

  pub loaded_may : LoadEffect Satisfied p1 p2 ms → 2 ≤ length ms → IsAllowedStep (session_after steps) (DeleteClause (map (with_var (global_in c)) ms) True)
  loaded_may says two = rw now ((fits2 Satisfied says).1 two).0

  pub loaded_deleted : LoadEffect Satisfied p1 p2 ms → 2 ≤ length ms → IsLoaded true (session_after (DeleteClause (map (with_var (global_in c)) ms) True ∷ steps)) c c'
  loaded_deleted says two = record {
    goes_on = whole Satisfied says (session_after (DeleteClause (map (with_var (global_in c)) ms) True ∷ steps)) (leaves_both s (session_after steps) (session_after (DeleteClause (map (with_var (global_in c)) ms) True ∷ steps)) asked (leaves_after (DeleteClause (map (with_var (global_in c)) ms) True ∷ []) steps (refl, tt))) (rw now ((fits2 Satisfied says).1 two).1);
    moved = moved2 Satisfied says;
    bottom = kept.1;
  }

  -- every literal of the clause has a proof variable
  pub loaded_names : (k : ℕ) → k < length ms → variable (get_or ms k 0) < length c'.globals.items
  loaded_names k lt =
      let x = shuffled_last p1.assignment.current ls in
      let j = x.back k (omega (arith, x.size)) in
      let small : get_or ms k 0 < 2 * length c.parts.assignment.current = subst (λ z. z < 2 * length c.parts.assignment.current) j.1.1 (may.below j.0 j.1.0) in
      let names : length c.parts.assignment.current ≤ length c.globals.items = added.search.ready.free.names in
      omega arith

  pub loaded_after : LoadEffect Satisfied p1 p2 ms → 2 ≤ length ms → (ds : List ℕ) → ds ≡ ms → (later : List Step) → later ≡ DeleteClause (map (with_var (global_in c')) ds) True ∷ steps → (left : Bool) → left ≡ true → (c4 : Search) → c4 ≡ record c' { scratch = c4.scratch } →
      IsLoaded left (session_after later) c c4
  loaded_after says two ds same later made left good c4 rest =
      let e : later ≡ DeleteClause (map (with_var (global_in c)) ms) True ∷ steps = rw same at made in
      let h : IsLoaded true (session_after later) c c' = rw e (loaded_deleted says two) in
      rw good (subst (λ z. IsLoaded true (session_after later) c z) (sym rest) (loaded_scratch (session_after later) c c' c4.scratch h))

  -- the stored literals are those of the added clause in some order
  pub loaded_last : (ds : List ℕ) → ds ≡ ms → IsLastAdded steps (map (with_var (global_in c')) ds)
  loaded_last ds same = record {
    added = map (with_var (global_in c)) ls;
    before = added.earlier;
    last = added.added;
    same = rw same (sym (canonical_shuffled (with_var (global_in c)) ls ms (shuffled_last p1.assignment.current ls)));
  }
