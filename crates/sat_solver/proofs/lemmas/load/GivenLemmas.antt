-- Proof variables are given indices, in the session and in the search.
use Rattle.std.specs.Prelude.{replicate}
use Rattle.std.proofs.Common.{ℕ, zero, suc, take, ◌+◌, ◌*◌, ◌/◌, ◌%◌, ◌≡◌, ◌≢◌, ◌<◌, ◌≤◌, ◌∙◌, ◌⊎◌, inl, inr, Bool, true, false, Option, Some, None, List, [], ◌∷◌, ◌++◌, map, length, get_or, refl, sym, ap, subst, arith}
use Rattle.std.proofs.lemmas.Bool.{cases_lt, true≢false}
use Rattle.std.proofs.lemmas.List.{get_or_past, get_or_append_left, take_all}
use Rattle.std.specs.List.{Contains, AllByRecursion}
use Rattle.sat_base.specs.values.Literals.{mk_lit, variable, is_positive}
use Rattle.sat_store.specs.heap.Vsids.{is_available}
use Rattle.sat_store.specs.variables.Flags.{GrowsFlags}
use Rattle.sat_parts.specs.clause.Glue.{FlagsAreClear}
use Rattle.sat_parts.specs.clause.Db.{live_refs}
use Rattle.sat_parts.specs.prop.Values.{value_of, IsTrueLit}
use Rattle.sat_parts.specs.prop.State.{PropagationState, level}
use Rattle.sat_solver.specs.session.Session.{Session}
use Rattle.sat_solver.specs.session.LiveClauses.{LiveClause, IsIn, with_var, mapped, live_count_of, AreMapped, AreLiveClausesOf}
use Rattle.sat_solver.specs.session.SolverClauses.{solver_clauses}
use Rattle.sat_parts.specs.declared.parts.SearchState.{SearchState}
use Rattle.sat_parts.specs.parts.Assumed.{AreConsideredUpTo, PlacesAreCorrect, variables_of_lits}
use Rattle.sat_parts.specs.parts.Frame.{AddsVars, IsUnitLit}
use Rattle.sat_parts.specs.parts.Whole.{state, SearchStateInvariant}
use Rattle.sat_parts.specs.parts.Words.{IsIdle}
use Rattle.sat_solver.specs.session.Matching.{is_redundant, SessionMatchesParts, TrueLitsHaveIndices}
use Rattle.sat_solver.specs.session.Naming.{global_of_index}
use Rattle.sat_solver.proofs.lemmas.fits.AddedLemmas.{unit_true}
use Rattle.sat_solver.proofs.lemmas.fits.CodeLemmas.{coded_by}
use Rattle.sat_solver.proofs.lemmas.fits.FramedParts.{fits_grown}
use Rattle.sat_solver.specs.variables.Variables.{is_unit_value}
use Rattle.sat_solver.specs.variables.Search.{IndicesDistinct, HasGiven}
use Rattle.sat_solver.specs.declared.variables.solver_vars.Given.{Given}
use Rattle.sat_solver.specs.declared.context.Search.{Search}
use Rattle.sat_solver.specs.cdcl.Joint.{global_in, assumed_indices, HasClearFlags, SearchInvariant}
use Rattle.sat_solver.proofs.lemmas.cdcl.TurnLemmas.{ready_names}
use Rattle.sat_solver.specs.load.Restart.{FullyRestarted}
use Rattle.sat_solver.specs.variables.Initialized.{GivesLit, IsVacant, AreVacant, ActivatesIndices, SetsVariablesOfIndices, IsGivenTo, GivesIndicesInSession, GivesSearchIndices}
use Rattle.sat_solver.proofs.lemmas.load.IndexLemmas.{given_or_not, lit_given}

-- two maps of variables that agree on a clause map it to the same clause
pub mapped_same : (f h : ℕ → ℕ) (ls : List ℕ) → ((k : ℕ) → k < length ls → f (variable (get_or ls k 0)) ≡ h (variable (get_or ls k 0))) → map (with_var f) ls ≡ map (with_var h) ls
mapped_same f h [] same = refl
mapped_same f h (l ∷ ls) same =
    let e : f (l / 2) ≡ h (l / 2) = same 0 (omega arith) in
    ap (λ v. (2 * v + l % 2) ∷ map (with_var f) ls) e ∙ ap (λ ms. with_var h l ∷ ms) (mapped_same f h ls (λ k lt. same (suc k) (omega arith)))

-- another session, in which variables with solver names keep them
module _ (f h : ℕ → ℕ) (p q : ℕ → Option ℕ) (stays : (v : ℕ) → p (f v) ≡ Some v → (h v ≡ f v) × (q (h v) ≡ Some v)) where
  mapped_on : (ls : List ℕ) → AreMapped f p ls → AreMapped h q ls
  mapped_on [] m = tt
  mapped_on (l ∷ ls) m = ((stays (variable l) m.0).1, mapped_on ls m.1)

  lits_on : (ls : List ℕ) → AreMapped f p ls → map (with_var f) ls ≡ map (with_var h) ls
  lits_on [] m = refl
  lits_on (l ∷ ls) m =
      let e : f (l / 2) ≡ h (l / 2) = sym (stays (variable l) m.0).0 in
      ap (λ v. (2 * v + l % 2) ∷ map (with_var f) ls) e ∙ ap (λ ms. with_var h l ∷ ms) (lits_on ls m.1)

  clauses_on : (cs : List LiveClause) → ((c : LiveClause) → IsIn c cs → AreMapped f p c.literals) → map (mapped f) cs ≡ map (mapped h) cs
  clauses_on [] m = refl
  clauses_on (c ∷ cs) m =
      ap (λ ls. (record c { literals = ls }) ∷ map (mapped f) cs) (lits_on c.literals (m c (inl refl))) ∙ ap (λ ds. mapped h c ∷ ds) (clauses_on cs (λ d k. m d (inr k)))

  pub of_on : (s t : Session) (cs : List LiveClause) → s.solver_names ≡ p → t.solver_names ≡ q → t.live ≡ s.live → AreLiveClausesOf s f cs → AreLiveClausesOf t h cs
  of_on s t cs ep eq live a = record {
    named = λ c k. subst (λ z. AreMapped h z c.literals) (sym eq) (mapped_on c.literals (subst (λ z. AreMapped f z c.literals) ep (a.named c k)));
    once = a.once;
    counts = λ r set. ap (λ z. z r set) live ∙ a.counts r set ∙ ap (λ ds. live_count_of ds r set) (clauses_on cs (λ c k. subst (λ z. AreMapped f z c.literals) ep (a.named c k)));
  }

record Found (globals : List ℕ) (s t : Session) (x : ℕ) : Type 0 where
  without : s.solver_names (global_of_index globals x) ≡ None
  free : (v : ℕ) → s.solver_names v ≢ Some x
  named : t.solver_names (global_of_index globals x) ≡ Some x

found : (globals : List ℕ) (s t : Session) (gs : List Given) (x : ℕ) → AllByRecursion (IsGivenTo globals s t) gs → HasGiven gs x → Found globals s t x
found globals s t [] x all h = absurd h
found globals s t (g ∷ gs) x all (inl e) = subst (λ z. Found globals s t z) e (record { without = all.0.without; free = all.0.free; named = all.0.named })
found globals s t (g ∷ gs) x all (inr k) = found globals s t gs x all.1 k

-- the unit of a given index is a unit of the session
lit_unit : (globals : List ℕ) (s t : Session) (gs : List Given) (l : ℕ) → AllByRecursion (IsGivenTo globals s t) gs → GivesLit gs l → s.units (with_var (global_of_index globals) l) ≡ true
lit_unit globals s t [] l all h = absurd h
lit_unit globals s t (g ∷ gs) l all (inl e) =
    ap s.units (sym (coded_by (global_of_index globals) l)) ∙ ap (λ v. s.units (mk_lit (global_of_index globals v) (is_positive l))) (sym e.0)
    ∙ all.0.unit (is_positive l) ∙ ap (λ u. is_unit_value u (is_positive l)) e.1 ∙ says_itself (is_positive l)
  where
    says_itself : (b : Bool) → is_unit_value (Some b) b ≡ true
    says_itself true = refl
    says_itself false = refl
lit_unit globals s t (g ∷ gs) l all (inr k) = lit_unit globals s t gs l all.1 k

unit_lit : (globals : List ℕ) (s t : Session) (gs : List Given) (l : ℕ) → AllByRecursion (IsGivenTo globals s t) gs → HasGiven gs (variable l) → s.units (with_var (global_of_index globals) l) ≡ true → GivesLit gs l
unit_lit globals s t [] l all h u = h
unit_lit globals s t (g ∷ gs) l all (inl e) u =
    inl (e, says_only g.unit (is_positive l) (sym (all.0.unit (is_positive l)) ∙ ap (λ v. s.units (mk_lit (global_of_index globals v) (is_positive l))) e ∙ ap s.units (coded_by (global_of_index globals) l) ∙ u))
  where
    says_only : (o : Option Bool) (b : Bool) → is_unit_value o b ≡ true → o ≡ Some b
    says_only None b h = absurd (true≢false (sym h))
    says_only (Some true) true h = refl
    says_only (Some false) true h = absurd (true≢false (sym h))
    says_only (Some true) false h = absurd (true≢false (sym h))
    says_only (Some false) false h = refl
unit_lit globals s t (g ∷ gs) l all (inr k) u = inr (unit_lit globals s t gs l all.1 k u)

-- at level 0, visited assumptions stay visited as long as literals of level 0 stay true
pub placed_bottom : (ls below : List ℕ) (place : ℕ) (s s' : PropagationState) → s.trail.starts ≡ [] → s'.trail.starts ≡ [] → ((l : ℕ) → IsTrueLit s.values l → level s l ≡ 0 → IsTrueLit s'.values l × (level s' l ≡ 0)) →
    AreConsideredUpTo ls below place s → AreConsideredUpTo ls below place s'
placed_bottom ls below place s s' e e' kept h =
    let none : length s.trail.starts ≡ 0 = ap (λ (xs : List ℕ). length xs) e in
    let none' : length s'.trail.starts ≡ 0 = ap (λ (xs : List ℕ). length xs) e' in
    let flat : length below ≡ 0 = omega (arith, h.levels) in
    record {
      levels = omega arith;
      within = h.within;
      low_within = h.low_within;
      passed = λ k lt. (let x = h.passed k lt in let y = kept (get_or ls k 0) x.0 (omega (arith, x.1)) in (y.0, omega (arith, y.1)));
      low_passed = λ j k lt less. absurd (omega arith);
      begun = λ j lt. absurd (omega arith);
      all = λ lt. absurd (omega arith);
    }

module _ (c c' : Search) (globals : List ℕ) (gs : List Given) (count : ℕ) (holds : SearchStateInvariant c.parts) (bottom : c.parts.trail.starts ≡ []) (next : length c.globals.items ≡ length c.parts.assignment.current) (more : length c.globals.items ≤ count) (least : length c.globals.items ≤ length globals → count ≤ length globals) (past : AllByRecursion (λ g. g.solver < count) gs)
    (p : SearchState) (grown : AddsVars c.parts p count) (takes : ActivatesIndices gs p c'.parts)
    (xs : List ℕ) (front : (v : ℕ) → v < length c.globals.items → get_or xs v 0 ≡ get_or c.globals.items v 0) (many : length xs ≡ count) (renamed : SetsVariablesOfIndices gs globals xs c'.globals.items)
    (assumptions : c'.assumptions ≡ c.assumptions) (flags : length c'.analysis.flags ≡ count) (clear : FlagsAreClear c.analysis.flags → FlagsAreClear c'.analysis.flags) (glue : GrowsFlags count c.flags.flags.items c'.flags.flags.items) where
  abbrev n : ℕ
  n = length c.parts.assignment.current

  size : length c'.parts.assignment.current ≡ count
  size = takes.size ∙ grown.size

  globals_size : length c'.globals.items ≡ count
  globals_size = renamed.size ∙ many

  same_lits : c'.assumptions.lits ≡ c.assumptions.lits
  same_lits = ap (λ a. a.lits) assumptions

  others : (v : ℕ) → v < length c.globals.items → (HasGiven gs v → ⊥) → get_or c'.globals.items v 0 ≡ get_or c.globals.items v 0
  others v lt out = renamed.others v out ∙ front v lt

  module _ (s t : Session) (x : SearchInvariant s c) (g : GivesIndicesInSession globals gs (length c.globals.items) s t) where
    -- a variable that had a solver name keeps it
    old_stays : (v : ℕ) → s.solver_names (global_in c v) ≡ Some v → (global_in c' v ≡ global_in c v) × (t.solver_names (global_in c' v) ≡ Some v)
    old_stays v own =
        let out : HasGiven gs v → ⊥ = λ h. (found globals s t gs v g.each h).free (global_in c v) own in
        let same : global_in c' v ≡ global_in c v = others v (g.below (global_in c v) v own) out in
        (same, ap t.solver_names same ∙ g.stays (global_in c v) v own)

    new_named : (v : ℕ) → HasGiven gs v → t.solver_names (global_in c' v) ≡ Some v
    new_named v h = ap t.solver_names (renamed.named v h) ∙ (found globals s t gs v g.each h).named

    grown_fits : SessionMatchesParts p s (global_in c)
    grown_fits = fits_grown c.parts p count s (global_in c) holds (omega (arith, next, more)) grown x.valid.fits

    names : TrueLitsHaveIndices c.parts.assignment.current s (global_in c)
    names = ready_names s c x.ready

    -- earlier units are over variables that had solver names
    unit_named : (l : ℕ) → IsUnitLit (state p) l → s.solver_names (global_in c (variable l)) ≡ Some (variable l)
    unit_named l u = names l (unit_true (state c.parts) l holds.below.propagation.agrees (grown.units l u)).0

    moved_lit : (l : ℕ) → global_in c' (variable l) ≡ global_in c (variable l) → with_var (global_in c') l ≡ with_var (global_in c) l
    moved_lit l e = ap (λ v. 2 * v + l % 2) e

    given_lit : (l : ℕ) → HasGiven gs (variable l) → with_var (global_in c') l ≡ with_var (global_of_index globals) l
    given_lit l h = ap (λ v. 2 * v + l % 2) (renamed.named (variable l) h)

    fits : SessionMatchesParts c'.parts t (global_in c')
    fits = rw (takes.same.0, takes.same.1, takes.same.2) (record {
      clauses = of_on (global_in c) (global_in c') s.solver_names t.solver_names old_stays s t (solver_clauses (is_redundant p.clauses) p.clauses (live_refs p.clauses p.db.refs) p.binary.implied) refl refl g.keeps.live grown_fits.clauses;
      paired = grown_fits.paired;
      known = λ l u. elim (takes.units l u) [
        | inl o ↦ ap t.units (moved_lit l (old_stays (variable l) (unit_named l o)).0) ∙ ap (λ f. f (with_var (global_in c) l)) g.keeps.units ∙ grown_fits.known l o
        | inr k ↦ ap t.units (given_lit l (lit_given gs l k)) ∙ ap (λ f. f (with_var (global_of_index globals) l)) g.keeps.units ∙ lit_unit globals s t gs l g.each k
      ];
      sound = λ l own u. elim (given_or_not gs (variable l)) [
        | inl h ↦ takes.its l (unit_lit globals s t gs l g.each h (ap (λ f. f (with_var (global_of_index globals) l)) (sym g.keeps.units) ∙ ap t.units (sym (given_lit l h)) ∙ u))
        | inr out ↦ elim (g.others (global_in c' (variable l)) (variable l) own) [
          | inl old ↦
              let same : global_in c' (variable l) ≡ global_in c (variable l) = others (variable l) (g.below (global_in c' (variable l)) (variable l) old) out in
              let y = grown_fits.sound l (ap s.solver_names (sym same) ∙ old) (ap (λ f. f (with_var (global_in c) l)) (sym g.keeps.units) ∙ ap t.units (sym (moved_lit l same)) ∙ u) in
              takes.kept l y.0 y.1
          | inr h ↦ absurd (out h)
        ]
      ];
      consistent = g.keeps.unsat ∙ grown_fits.consistent;
      width = g.keeps.width ∙ grown_fits.width;
    })

    small : (k : ℕ) → k < length c.assumptions.lits.items → variable (get_or c.assumptions.lits.items k 0) < n
    small = x.ready.there

    -- an index beyond the variables is idle
    past_idle : (v : ℕ) → n ≤ v → IsIdle (assumed_indices c) (state c.parts) c.parts.vsids v
    past_idle v ge = (
      get_or_past c.parts.assignment.current v None ge,
      get_or_past c.parts.vsids.available v false (omega (arith, holds.below.queue)),
      λ k. past_all c.assumptions.lits.items v small ge k,
    )
      where
        past_all : (ls : List ℕ) (v : ℕ) → ((k : ℕ) → k < length ls → variable (get_or ls k 0) < n) → n ≤ v → Contains (variables_of_lits ls) v → ⊥
        past_all [] v below ge k = (let lt : k.0 < 0 = k.1 in omega arith)
        past_all (l ∷ ls) v below ge (zero, lt, e) = (let z : variable l < n = below 0 (omega arith) in let f : variable l ≡ v = e in omega arith)
        past_all (l ∷ ls) v below ge (suc i, lt, e) = past_all ls v (λ j less. below (suc j) (omega arith)) ge (i, omega arith, e)

    idle_stays : (v : ℕ) → (HasGiven gs v → ⊥) → IsIdle (assumed_indices c) (state c.parts) c.parts.vsids v → IsIdle (assumed_indices c) (state c'.parts) c'.parts.vsids v
    idle_stays v out idle = (takes.values v out ∙ grown.values v ∙ idle.0, takes.picks v out ∙ grown.picks v ∙ idle.1, idle.2)

    used_or_idle : (v : ℕ) → (s.solver_names (global_in c v) ≡ Some v) ⊎ IsIdle (assumed_indices c) (state c.parts) c.parts.vsids v
    used_or_idle v = elim (cases_lt v n) [ inl lt ↦ x.ready.used v lt | inr ge ↦ inr (past_idle v ge) ]

    assumed_named : (k : ℕ) → k < length c.assumptions.lits.items → s.solver_names (global_in c (variable (get_or c.assumptions.lits.items k 0))) ≡ Some (variable (get_or c.assumptions.lits.items k 0))
    assumed_named k lt = elim (x.ready.used (variable (get_or c.assumptions.lits.items k 0)) (small k lt)) [
      | inl own ↦ own
      | inr idle ↦ absurd (idle.2 (contains_at c.assumptions.lits.items k lt))
    ]
      where
        contains_at : (ls : List ℕ) (k : ℕ) → k < length ls → Contains (variables_of_lits ls) (variable (get_or ls k 0))
        contains_at [] k lt = absurd (omega arith)
        contains_at (l ∷ ls) zero lt = (0, omega arith, refl)
        contains_at (l ∷ ls) (suc k) lt = let y = contains_at ls k (omega arith) in (suc y.0, omega (arith, y.1), y.2)

    free : HasClearFlags c'
    free = record {
      names = omega (arith, globals_size, size);
      size = flags ∙ sym size;
      clear = clear x.ready.free.clear;
      flags_size = omega (arith, glue.size, size);
      flags_clear = glue.clear x.ready.free.flags_clear;
    }

    bottom_stays : (l : ℕ) → IsTrueLit c.parts.assignment.current l → level (state c.parts) l ≡ 0 → IsTrueLit c'.parts.assignment.current l × (level (state c'.parts) l ≡ 0)
    bottom_stays l true_before z = (let k = (grown.keeps 0).low l true_before (omega (arith, z)) in takes.kept l k.0 (k.1 ∙ z))

    placed : PlacesAreCorrect c'.assumptions (state c'.parts)
    placed = rw assumptions (placed_bottom c.assumptions.lits.items c.assumptions.below.items c.assumptions.place (state c.parts) (state c'.parts) bottom takes.bottom bottom_stays x.ready.placed)

    still : SearchInvariant t c'
    still = record {
      valid = record { holds = takes.holds; fits = fits };
      ready = record {
        free = free;
        placed = placed;
        there = rw (same_lits, size) (λ k lt. (let z : variable (get_or c.assumptions.lits.items k 0) < n = small k lt in omega (arith, next, more)));
        asked = rw same_lits (g.keeps.assumed ∙ x.ready.asked ∙ mapped_same (global_in c) (global_in c') c.assumptions.lits.items (λ k lt. sym (old_stays (variable (get_or c.assumptions.lits.items k 0)) (assumed_named k lt)).0));
        used = λ v lt. elim (given_or_not gs v) [
          | inl h ↦ inl (new_named v h)
          | inr out ↦ elim (used_or_idle v) [ inl own ↦ inl (old_stays v own).1 | inr idle ↦ inr (rw same_lits (idle_stays v out idle)) ]
        ];
      };
    }

  pub indexed : GivesSearchIndices globals gs c c'
  indexed = record {
    named = renamed.named;
    others = others;
    more = omega (arith, more, globals_size);
    few = λ le. (let k = least le in omega (arith, globals_size));
    there = subst (λ m. AllByRecursion (λ g. g.solver < m) gs) (sym globals_size) past;
    size = size ∙ sym globals_size;
    ready = takes.ready;
    lits = same_lits;
    bottom = takes.bottom;
    holds = takes.holds;
    search = still;
  }

-- an index that no proof variable has is vacant
pub idle_index : (s : Session) (c : Search) (x : ℕ) → SearchInvariant s c → ((v : ℕ) → s.solver_names v ≢ Some x) → (value_of c.parts.assignment.current x ≡ None) × (is_available c.parts.vsids x ≡ false)
idle_index s c x h none = elim (cases_lt x (length c.parts.assignment.current)) [
  | inl lt ↦ elim (h.ready.used x lt) [ inl own ↦ absurd (none (global_in c x) own) | inr idle ↦ (idle.0, idle.1) ]
  | inr ge ↦ (get_or_past c.parts.assignment.current x None ge, get_or_past c.parts.vsids.available x false (omega (arith, h.valid.holds.below.queue)))
]

pub are_vacant : (globals : List ℕ) (s t : Session) (c : Search) (count : ℕ) (gs : List Given) → SearchInvariant s c → AllByRecursion (IsGivenTo globals s t) gs → AllByRecursion (λ g. g.solver < count) gs → IndicesDistinct gs → AreVacant c.parts count gs
are_vacant globals s t c count gs h each below apart = record { each = go gs each below; apart = apart }
  where
    go : (ks : List Given) → AllByRecursion (IsGivenTo globals s t) ks → AllByRecursion (λ g. g.solver < count) ks → AllByRecursion (IsVacant c.parts count) ks
    go [] a b = tt
    go (k ∷ ks) a b = let i = idle_index s c k.solver h a.0.free in (record { below = b.0; open_value = i.0; unpicked = i.1 }, go ks a.1 b.1)

-- a vacant index is still vacant after a restart
pub vacant_restarted : (c c' : Search) (count : ℕ) (gs : List Given) → FullyRestarted c c' → AreVacant c.parts count gs → AreVacant c'.parts count gs
vacant_restarted c c' count gs back h = record { each = go gs h.each; apart = h.apart }
  where
    go : (ks : List Given) → AllByRecursion (IsVacant c.parts count) ks → AllByRecursion (IsVacant c'.parts count) ks
    go [] a = tt
    go (k ∷ ks) a =
        let idle : IsIdle [] (state c'.parts) c'.parts.vsids k.solver = (back.stay []).idle k.solver (a.0.open_value, a.0.unpicked, λ x. let lt : x.0 < 0 = x.1 in omega arith) in
        (record { below = a.0.below; open_value = idle.0; unpicked = idle.1 }, go ks a.1)

-- it is still vacant after variables are added
pub vacant_grown : (p q : SearchState) (reach count : ℕ) (gs : List Given) → AddsVars p q count → AllByRecursion (λ g. g.solver < count) gs → AreVacant p reach gs → AreVacant q (length q.assignment.current) gs
vacant_grown p q reach count gs grown past h = record { each = subst (λ n. AllByRecursion (IsVacant q n) gs) (sym grown.size) (go gs past h.each); apart = h.apart }
  where
    go : (ks : List Given) → AllByRecursion (λ g. g.solver < count) ks → AllByRecursion (IsVacant p reach) ks → AllByRecursion (IsVacant q count) ks
    go [] b a = tt
    go (k ∷ ks) b a = (record { below = b.0; open_value = grown.values k.solver ∙ a.0.open_value; unpicked = grown.picks k.solver ∙ a.0.unpicked }, go ks b.1 a.1)

pub below_all : (p : SearchState) (count : ℕ) (gs : List Given) → AllByRecursion (IsVacant p count) gs → AllByRecursion (λ g. g.solver < count) gs
below_all p count [] a = tt
below_all p count (g ∷ gs) a = (a.0.below, below_all p count gs a.1)

-- A LIST FILLED UP WITH A VALUE

pub front_kept : (xs zs : List ℕ) (count m x : ℕ) → length xs ≤ count → zs ≡ take count xs ++ replicate m x → (v : ℕ) → v < length xs → get_or zs v 0 ≡ get_or xs v 0
front_kept xs zs count m x le e v lt = ap (λ ws. get_or ws v 0) e ∙ ap (λ ws. get_or (ws ++ replicate m x) v 0) (take_all count xs le) ∙ get_or_append_left xs (replicate m x) 0 v lt

-- NO INDICES

-- if only variables without an index got names, the search still agrees with the session
none_given : (globals : List ℕ) (count : ℕ) (s t : Session) (c : Search) → SearchInvariant s c → GivesIndicesInSession globals [] count s t → SearchInvariant t c
none_given globals count s t c x g = record {
  valid = record {
    holds = x.valid.holds;
    fits = record {
      clauses = of_on (global_in c) (global_in c) s.solver_names t.solver_names (λ v own. (refl, g.stays (global_in c v) v own)) s t
          (solver_clauses (is_redundant c.parts.clauses) c.parts.clauses (live_refs c.parts.clauses c.parts.db.refs) c.parts.binary.implied) refl refl g.keeps.live x.valid.fits.clauses;
      paired = x.valid.fits.paired;
      known = λ l u. ap (λ f. f (with_var (global_in c) l)) g.keeps.units ∙ x.valid.fits.known l u;
      sound = λ l own u. elim (g.others (global_in c (variable l)) (variable l) own) [
        | inl old ↦ x.valid.fits.sound l old (ap (λ f. f (with_var (global_in c) l)) (sym g.keeps.units) ∙ u)
        | inr h ↦ absurd h
      ];
      consistent = g.keeps.unsat ∙ x.valid.fits.consistent;
      width = g.keeps.width ∙ x.valid.fits.width;
    };
  };
  ready = record {
    free = x.ready.free;
    placed = x.ready.placed;
    there = x.ready.there;
    asked = g.keeps.assumed ∙ x.ready.asked;
    used = λ v lt. elim (x.ready.used v lt) [ inl own ↦ inl (g.stays (global_in c v) v own) | inr idle ↦ inr idle ];
  };
}

-- without new indices, a search at level 0 is unchanged
pub none_indexed : (globals : List ℕ) (c : Search) → length c.globals.items ≡ length c.parts.assignment.current → c.parts.trail.starts ≡ [] → SearchStateInvariant c.parts → GivesSearchIndices globals [] c c
none_indexed globals c next bottom holds = record {
  named = λ v h. absurd h;
  others = λ v lt out. refl;
  more = omega arith;
  few = λ le. le;
  there = tt;
  size = sym next;
  ready = λ v h unset. absurd h;
  lits = refl;
  bottom = bottom;
  holds = holds;
  search = λ s t x g. none_given globals (length c.globals.items) s t c x g;
}

-- THE RESTART

-- a search was restarted, and then given these indices
pub restarted_indexed : (gs ks : List ℕ) (hs js : List Given) (c m c' : Search) → gs ≡ ks → hs ≡ js → FullyRestarted c m → GivesSearchIndices gs hs m c' → GivesSearchIndices ks js c c'
restarted_indexed gs ks hs js c m c' same_globals same_given back i =
    let kept : length m.globals.items ≡ length c.globals.items = ap (λ w. length w.items) back.moved.globals in
    subst (λ (xs : List ℕ). GivesSearchIndices xs js c c') same_globals (subst (λ (is : List Given). GivesSearchIndices gs is c c') same_given (record {
      named = i.named;
      others = λ v lt out. i.others v (omega (arith, lt, kept)) out ∙ ap (λ w. get_or w.items v 0) back.moved.globals;
      more = omega (arith, i.more, kept);
      few = λ le. i.few (omega (arith, le, kept));
      there = i.there;
      size = i.size;
      ready = i.ready;
      lits = i.lits ∙ back.moved.lits;
      bottom = i.bottom;
      holds = i.holds;
      search = λ s t x g. i.search s t (back.search s x) (subst (λ n. GivesIndicesInSession gs hs n s t) (sym kept) g);
    }))
