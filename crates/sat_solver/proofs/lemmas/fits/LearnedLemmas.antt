-- The result of an analysis is a clause that can be stored, and the session matches after its step.
use Rattle.std.proofs.Common.{ℕ, ◌*◌, ◌<◌, ◌≤◌, ◌≡◌, ◌≢◌, Bool, false, eqb, List, [], ◌∷◌, ◌++◌, map, length, get_or, sym, ◌∙◌, ap, subst, arith, inl, inr, Option, Some, append_assoc, length-set}
use Rattle.std.proofs.lemmas.Bool.{cases_eq, ne_eqb, eqb-true, true≢false}
use Rattle.std.proofs.lemmas.List.{append-nil}
use Rattle.std.proofs.lemmas.Grind.{get_or_default_zero}
use Rattle.std.proofs.lemmas.Map.Keys.{IsDistinct-from_apart}
use Rattle.std.proofs.lemmas.Map.Steps.{length-le_from_distinct_below}
use Rattle.std.proofs.lemmas.Map.Views.{Contains-from_any}
use Rattle.std.specs.List.{Contains}
use Rattle.sat_base.specs.values.Literals.{variable, negated, is_positive}
use Rattle.sat_base.specs.steps.Steps.{AtClause}
use Rattle.sat_store.specs.clause.Buffer.{lits_at}
use Rattle.sat_store.specs.clause.Header.{Header, is_learned}
use Rattle.sat_store.specs.heap.Vsids.{Queue}
use Rattle.sat_checker.specs.LiteralSets.{is_tautology}
use Rattle.sat_checker.specs.SortedSets.{NoRepeats}
use Rattle.sat_parts.specs.declared.prop.graph.Reason.{Reason}
use Rattle.sat_parts.specs.clause.Db.{Db, DbMatchesBuffer, live_refs, AddsLongClause}
use Rattle.sat_parts.specs.clause.Orders.{AreDistinct}
use Rattle.sat_parts.specs.prop.Binaries.{Binaries, with_binary}
use Rattle.sat_parts.specs.prop.Graphs.{has_no_clause}
use Rattle.sat_parts.specs.prop.Values.{IsFalseLit}
use Rattle.sat_parts.specs.prop.State.{PropagationState, level, current_level, StateIsConsistent, enqueued}
use Rattle.sat_parts.specs.prop.Ready.{AreAllFalse}
use Rattle.sat_parts.proofs.lemmas.clause.ListLemmas.{at_place}
use Rattle.sat_parts.proofs.lemmas.prop.StateLemmas.{true_from_false, not_both}
use Rattle.sat_parts.proofs.lemmas.prop.RoomLemmas.{below_from_value}
use Rattle.sat_parts.proofs.lemmas.prop.BuildLemmas.{live_in}
use Rattle.sat_solver.specs.session.Session.{Session, after}
use Rattle.sat_solver.specs.session.LiveClauses.{LiveClause, with_var, AreMapped, AreLiveClausesOf}
use Rattle.sat_solver.proofs.lemmas.session.Mapped.{once_mapped}
use Rattle.sat_solver.proofs.lemmas.session.StepsOfClauses.{derived_comes, length_mapped}
use Rattle.sat_solver.specs.session.SolverClauses.{binaries, longs, solver_clauses}
use Rattle.sat_solver.proofs.lemmas.trail.LearningLemmas.{learned}
use Rattle.sat_solver.specs.analyze_conflict.AnalysisState.{AnalysisState}
use Rattle.sat_solver.specs.analyze_conflict.Derivation.{AnalysisResult}
use Rattle.sat_parts.specs.declared.parts.SearchState.{SearchState}
use Rattle.sat_parts.specs.parts.Whole.{state, SearchStateInvariant}
use Rattle.sat_parts.specs.parts.Learned.{IsAnalyzedClause, IsUnitAfterBacktracking}
use Rattle.sat_parts.specs.parts.Frame.{SameClauses, AddsLearnedClause, learned_unit, learned_binary, learned_long, AddsNoUnit}
use Rattle.sat_parts.proofs.lemmas.parts.LearnLemmas.{pending_below}
use Rattle.sat_solver.specs.session.Matching.{is_redundant, SessionMatches, SessionMatchesParts, FlagMatches}
use Rattle.sat_solver.proofs.lemmas.fits.UsableLemmas.{once_distinct}
use Rattle.sat_solver.proofs.lemmas.fits.FitLemmas.{fits_carried, fits_unit, fits_long_by, mapped_at, no_signs, taut_mapped, longs_same, longs_push, alone, two_of, paired_binary}

-- a list of different numbers below n has at most n elements
few_distinct : (ls : List ℕ) (n : ℕ) → AreDistinct ls → ((k : ℕ) → k < length ls → get_or ls k 0 < n) → length ls ≤ n
few_distinct ls n differ below =
    length-le_from_distinct_below ls n
    (IsDistinct-from_apart eqb ls (λ i j d lt b. ne_eqb (get_or ls i d) (get_or ls j d) (λ e.
    let same : i ≡ j = differ i j (omega arith) b (sym (get_or_default_zero ls i d (omega arith)) ∙ e ∙ get_or_default_zero ls j d b) in
    omega arith)))
    (λ q any.
    let c : Contains ls q = Contains-from_any {eq = eqb} (λ x y e. eqb-true x y e) q ls any in
    subst (λ z. z < n) (at_place ls q c) (below c.0 c.1))

pub is_learned_clause : (words : List ℕ) (st : PropagationState) (conflict : List ℕ) (w : AnalysisState) (back : ℕ) → StateIsConsistent st → AnalysisResult words st conflict w back → IsAnalyzedClause st w.clause back
is_learned_clause words st conflict w back a h =
    let below : (k : ℕ) → k < length w.clause → get_or w.clause k 0 < 2 * length st.values = λ k lt.
    (let v : variable (get_or w.clause k 0) < length st.values = below_from_value st.values (variable (get_or w.clause k 0)) _ (h.asserting.fails k lt) in omega arith) in
    let few : length w.clause ≤ 2 * length st.values = few_distinct w.clause (2 * length st.values) h.asserting.distinct below in
    record {
      some = h.asserting.some;
      fits = omega (arith, a.room, a.trail.small);
      distinct = h.asserting.distinct;
      falsified = h.asserting.fails;
      first = h.asserting.top;
      below = h.below;
      others = λ k some lt. h.highest k (omega arith) lt;
      above = λ k lt. elim (cases_eq k 0) [
        | inl z ↦ (let e : level st (get_or w.clause k 0) ≡ current_level st = ap (λ i. level st (get_or w.clause i 0)) z ∙ h.asserting.top in omega (arith, h.below))
        | inr n ↦ (h.asserting.lower k (omega arith) lt).0
      ];
      second = λ two. sym (h.second (omega arith));
      unit = λ one. h.alone (omega arith);
    }

pub false_signs : (values : List (Option Bool)) (ls : List ℕ) → AreAllFalse values ls → is_tautology ls ≡ false
false_signs values ls h = no_signs values ls (λ j k a b e. not_both values (negated (get_or ls j 0)) (true_from_false values (get_or ls j 0) (h j a)) (subst (λ z. IsFalseLit values z) e (h k b)))

-- THE CLAUSE IS STORED

module _ (s : Session) (global : ℕ → ℕ) (header : Header) (ls hashes : List ℕ) (flag : Bool) (flags : FlagMatches flag header ls) (taut : is_tautology ls ≡ false) (mapped_here : AreMapped global s.solver_names ls) where
  abbrev now : Session
  now = after (AtClause flag (map (with_var global) ls) hashes) s

  mapped_long : 1 < length ls → 1 < length (map (with_var global) ls)
  mapped_long lt = (let e : length (map (with_var global) ls) ≡ length ls = length_mapped (with_var global) ls in omega arith)

  module _ (words : List ℕ) (db : Db) (x : Binaries) (st : PropagationState) (q : Queue) (agrees : StateIsConsistent st) (fits : SessionMatches words (live_refs words db.refs) x.implied st s global) (pending : IsUnitAfterBacktracking st q ls) where
    once_here : NoRepeats ls
    once_here = once_distinct ls pending.distinct

    pub learnt_as_unit : (r : Reason) → length ls ≡ 1 → SessionMatches words (live_refs words db.refs) x.implied (enqueued (get_or ls 0 0) r st) now global
    learnt_as_unit r one =
        subst (λ (c : List ℕ). SessionMatches words (live_refs words db.refs) x.implied (enqueued (get_or ls 0 0) r st) (after (AtClause flag (map (with_var global) c) hashes) s) global) (sym (alone ls one))
        (fits_unit words (live_refs words db.refs) x.implied st s global agrees fits (get_or ls 0 0) r flag hashes (mapped_at global s.solver_names ls 0 mapped_here (omega arith)) pending.open_first pending.there (pending.unit one))

    pub learnt_as_binary : (r : Reason) → has_no_clause r ≡ false → length ls ≡ 2 → length x.implied ≡ 2 * length st.values →
        SessionMatches words (live_refs words db.refs) (with_binary (get_or ls 0 0) (get_or ls 1 0) x).implied (enqueued (get_or ls 0 0) r st) now global
    learnt_as_binary r caused two room =
        let a : ℕ = get_or ls 0 0 in
        let b : ℕ = get_or ls 1 0 in
        let small_a : get_or ls 0 0 < 2 * length st.values = pending_below st q ls pending 0 (omega arith) in
        let small_b : get_or ls 1 0 < 2 * length st.values = pending_below st q ls pending 1 (omega arith) in
        let first : negated (get_or ls 0 0) < length x.implied = omega arith in
        let second : negated (get_or ls 1 0) < length x.implied = omega arith in
        let differ : get_or ls 0 0 ≢ get_or ls 1 0 = λ e. true≢false (ap (λ i. eqb 0 i) (pending.distinct 0 1 (omega arith) (omega arith) e)) in
        let is : ls ≡ get_or ls 0 0 ∷ get_or ls 1 0 ∷ [] = two_of ls two in
        let here : AreMapped global s.solver_names (get_or ls 0 0 ∷ get_or ls 1 0 ∷ []) = subst (λ (c : List ℕ). AreMapped global s.solver_names c) is mapped_here in
        let plain : is_tautology (map (with_var global) ls) ≡ false = taut_mapped global s.solver_names ls mapped_here taut in
        let side : flag ≡ false = flags.binary two in
        let came : AreLiveClausesOf (after (AtClause false (map (with_var global) (get_or ls 0 0 ∷ get_or ls 1 0 ∷ [])) hashes) s) global (binaries (with_binary (get_or ls 0 0) (get_or ls 1 0) x).implied ++ longs (is_redundant words) words (live_refs words db.refs)) =
        learned s global a b hashes (longs (is_redundant words) words (live_refs words db.refs)) differ here x first second (subst (λ (c : List ℕ). is_tautology (map (with_var global) c) ≡ false) is plain) fits.clauses in
        let comes : AreLiveClausesOf now global (solver_clauses (is_redundant words) words (live_refs words db.refs) (with_binary (get_or ls 0 0) (get_or ls 1 0) x).implied) =
        subst (λ (f : Bool). AreLiveClausesOf (after (AtClause f (map (with_var global) ls) hashes) s) global (solver_clauses (is_redundant words) words (live_refs words db.refs) (with_binary (get_or ls 0 0) (get_or ls 1 0) x).implied)) (sym side)
        (subst (λ (c : List ℕ). AreLiveClausesOf (after (AtClause false (map (with_var global) c) hashes) s) global (solver_clauses (is_redundant words) words (live_refs words db.refs) (with_binary (get_or ls 0 0) (get_or ls 1 0) x).implied)) (sym is) came) in
        fits_long_by words (live_refs words db.refs) x.implied st s global agrees fits words (live_refs words db.refs) (with_binary (get_or ls 0 0) (get_or ls 1 0) x).implied (get_or ls 0 0) r flag (map (with_var global) ls) hashes
        pending.open_first pending.there caused (once_mapped global s.solver_names ls mapped_here once_here) (mapped_long (omega arith)) plain (paired_binary x a b first second differ fits.paired) comes

    pub learnt_as_long : (r : Reason) (words' : List ℕ) (db' : Db) (o : ℕ) → has_no_clause r ≡ false → 3 ≤ length ls → DbMatchesBuffer words db → AddsLongClause words db words' db' o header ls →
        SessionMatches words' (live_refs words' db'.refs) x.implied (enqueued (get_or ls 0 0) r st) now global
    learnt_as_long r words' db' o caused three held adds =
        let live : List ℕ = live_refs words db.refs in
        let c : LiveClause = record { redundant = flag; literals = ls } in
        let plain : is_tautology (map (with_var global) ls) ≡ false = taut_mapped global s.solver_names ls mapped_here taut in
        let side : is_redundant words' o ≡ flag = ap (λ (h : Header). is_learned h.tier) adds.added.header_there ∙ sym (flags.long three) in
        let its : longs (is_redundant words') words' (live_refs words db.refs) ≡ longs (is_redundant words) words (live_refs words db.refs) =
        longs_same (is_redundant words) (is_redundant words') words words' (live_refs words db.refs) (λ p k.
        let kept = adds.added.others p (held.holds_clauses.clauses p (live_in words db.refs p k)) in (ap (λ (h : Header). is_learned h.tier) kept.header, kept.lits)) in
        let new : longs (is_redundant words') words' (live_refs words' db'.refs) ≡ longs (is_redundant words) words (live_refs words db.refs) ++ c ∷ [] =
        ap (λ os. longs (is_redundant words') words' os) adds.live ∙ longs_push (is_redundant words') words' (live_refs words db.refs) o
        ∙ ap (λ ds. ds ++ (record { redundant = is_redundant words' o; literals = lits_at words' o }) ∷ []) its
        ∙ ap (λ b. longs (is_redundant words) words (live_refs words db.refs) ++ (record { redundant = b; literals = lits_at words' o }) ∷ []) side
        ∙ ap (λ ms. longs (is_redundant words) words (live_refs words db.refs) ++ (record { redundant = flag; literals = ms }) ∷ []) adds.added.lits_there in
        let before : List LiveClause = binaries x.implied ++ longs (is_redundant words) words (live_refs words db.refs) in
        let from : AreLiveClausesOf s global ((binaries x.implied ++ longs (is_redundant words) words (live_refs words db.refs)) ++ []) = subst (λ ds. AreLiveClausesOf s global ds) (sym (append-nil before)) fits.clauses in
        let came : AreLiveClausesOf now global ((binaries x.implied ++ longs (is_redundant words) words (live_refs words db.refs)) ++ c ∷ []) =
        derived_comes s global before [] c hashes from mapped_here once_here (omega arith) plain in
        let comes : AreLiveClausesOf now global (solver_clauses (is_redundant words') words' (live_refs words' db'.refs) x.implied) =
        subst (λ ds. AreLiveClausesOf now global ds) (append_assoc (binaries x.implied) (longs (is_redundant words) words (live_refs words db.refs)) (c ∷ []) ∙ ap (λ ds. binaries x.implied ++ ds) (sym new)) came in
        fits_long_by words (live_refs words db.refs) x.implied st s global agrees fits words' (live_refs words' db'.refs) x.implied (get_or ls 0 0) r flag (map (with_var global) ls) hashes
        pending.open_first pending.there caused (once_mapped global s.solver_names ls mapped_here once_here) (mapped_long (omega arith)) plain fits.paired comes

-- parts and session match after a learned clause of any length
pub fits_learnt : (p p' : SearchState) (s : Session) (global : ℕ → ℕ) (header : Header) (ls hashes : List ℕ) (flag : Bool) → FlagMatches flag header ls → is_tautology ls ≡ false → AreMapped global s.solver_names ls → SearchStateInvariant p → IsUnitAfterBacktracking (state p) p.vsids ls →
    AddsLearnedClause p p' header ls → SessionMatchesParts p s global → SessionMatchesParts p' (after (AtClause flag (map (with_var global) ls) hashes) s) global
fits_learnt p p' s global header ls hashes flag flags taut names holds pending (learned_unit one same r bare is) fits =
    rw (is, same.0, same.1, same.2) (learnt_as_unit s global header ls hashes flag flags taut names p.clauses p.db p.binary (state p) p.vsids holds.below.propagation.agrees fits pending r one)
fits_learnt p p' s global header ls hashes flag flags taut names holds pending (learned_binary two a b c r caused is) fits =
    rw (is, a, b, c) (learnt_as_binary s global header ls hashes flag flags taut names p.clauses p.db p.binary (state p) p.vsids holds.below.propagation.agrees fits pending r caused two holds.below.propagation.ranges.room)
fits_learnt p p' s global header ls hashes flag flags taut names holds pending (learned_long three o adds b r caused is) fits =
    rw (is, b) (learnt_as_long s global header ls hashes flag flags taut names p.clauses p.db p.binary (state p) p.vsids holds.below.propagation.agrees fits pending r p'.clauses p'.db o caused three holds.below.db_matches adds)

-- undoing levels preserves the match
pub fits_undone : (p p' : SearchState) (s : Session) (global : ℕ → ℕ) → SameClauses p p' → AddsNoUnit (state p) (state p') → SessionMatchesParts p s global → SessionMatchesParts p' s global
fits_undone p p' s global same carries fits =
    rw (same.0, same.1, same.2) (fits_carried p.clauses (live_refs p.clauses p.db.refs) p.binary.implied (state p) (state p') s global carries fits)

pub size_learnt : (p p' : SearchState) (header : Header) (ls : List ℕ) → AddsLearnedClause p p' header ls → length p'.assignment.current ≡ length p.assignment.current
size_learnt p p' header ls (learned_unit one same r bare is) = ap (λ (s : PropagationState). length s.values) is ∙ length-set p.assignment.current (variable (get_or ls 0 0)) (Some (is_positive (get_or ls 0 0)))
size_learnt p p' header ls (learned_binary two a b c r caused is) = ap (λ (s : PropagationState). length s.values) is ∙ length-set p.assignment.current (variable (get_or ls 0 0)) (Some (is_positive (get_or ls 0 0)))
size_learnt p p' header ls (learned_long three o adds b r caused is) = ap (λ (s : PropagationState). length s.values) is ∙ length-set p.assignment.current (variable (get_or ls 0 0)) (Some (is_positive (get_or ls 0 0)))
