-- Parts and session still match after the parts change.
use Rattle.std.proofs.Common.{ℕ, zero, suc, ◌+◌, ◌<◌, ◌≡◌, ◌≢◌, Bool, true, false, ◌||◌, eqb, List, [], ◌∷◌, ◌++◌, map, length, get_or, refl, sym, ◌∙◌, ap, subst, arith, ◌⊎◌, inl, inr, Option, Some, None, length-set, ◌&&◌}
use Rattle.std.proofs.lemmas.Bool.{or_cases, or_left, or_right, eqb-true, eq-eqb, true≢false, false_from_ne_true, or_from, or_parts, cases_lt}
use Rattle.std.proofs.lemmas.List.{length_push}
use Rattle.std.specs.List.{Contains, AllByRecursion}
use Rattle.sat_base.specs.values.Literals.{variable, negated, is_positive}
use Rattle.sat_base.specs.steps.Steps.{AtClause}
use Rattle.sat_store.specs.clause.Buffer.{lits_at}
use Rattle.sat_store.specs.clause.Header.{Header, is_learned}
use Rattle.sat_checker.specs.LiteralSets.{is_among, is_tautology, canonical, same_literals}
use Rattle.sat_checker.specs.SortedSets.{NoRepeats}
use Rattle.sat_checker.proofs.lemmas.sets.Canonical.{canonical_among, canonical_increasing, same_increasing}
use Rattle.sat_parts.specs.declared.prop.graph.ImplNode.{ImplNode}
use Rattle.sat_parts.specs.declared.prop.graph.Reason.{Reason}
use Rattle.sat_parts.specs.clause.Orders.{IsReordering, SameUpToOrder}
use Rattle.sat_parts.specs.clause.Stored.{AreLongClauses}
use Rattle.sat_parts.specs.prop.Graphs.{has_no_clause}
use Rattle.sat_parts.specs.prop.Binaries.{Binaries, implied_by, with_implied, with_binary}
use Rattle.sat_parts.specs.prop.Values.{value_of, IsTrueLit, IsUnassignedLit}
use Rattle.sat_parts.specs.prop.State.{PropagationState, node, level, lit_at, StateIsConsistent, TrailGrows, enqueued}
use Rattle.sat_parts.proofs.lemmas.clause.ListLemmas.{at_place, place_in}
use Rattle.sat_parts.proofs.lemmas.prop.StateLemmas.{negated_twice, negated_variable, grows_enqueued, lit_last, node_new, true_new}
use Rattle.sat_parts.proofs.lemmas.prop.RoomLemmas.{room_for}
use Rattle.sat_checker.specs.Contents.{same_flag, plus_one_if}
use Rattle.sat_solver.specs.session.Session.{Session, with_unit_added, after}
use Rattle.sat_solver.proofs.lemmas.session.Changes.{with_live, with_live_clause, knowing_literals, session_if}
use Rattle.sat_solver.specs.session.LiveClauses.{LiveClause, live_count_of, IsIn, with_var, mapped, AreMapped, AreLiveClausesOf}
use Rattle.sat_solver.proofs.lemmas.session.Mapped.{negated_mapped, among_mapped, not_among, apart}
use Rattle.sat_solver.proofs.lemmas.session.StepsOfClauses.{clause_long, short_leaves}
use Rattle.sat_solver.specs.session.SolverClauses.{binaries, longs, solver_clauses}
use Rattle.sat_solver.proofs.lemmas.trail.UnitLemmas.{fact_keeps, fact_gives, fact_only, fact_names, fact_width}
use Rattle.sat_parts.specs.parts.Frame.{IsUnitLit, AddsNoUnit}
use Rattle.sat_parts.proofs.lemmas.parts.BinaryLemmas.{binary_all, binary_kept, binary_new, implied_kept, implied_new}
use Rattle.sat_solver.specs.session.Matching.{ArePaired, is_redundant, SessionMatches}
use Rattle.sat_solver.proofs.lemmas.fits.UsableLemmas.{among_place, once_distinct}
use Rattle.sat_solver.proofs.lemmas.trail.ClauseLemmas.{in_after, long_there}

-- NO NEW UNITS

pub fits_carried : (words live : List ℕ) (implied : List (List ℕ)) (st st' : PropagationState) (s : Session) (global : ℕ → ℕ) → AddsNoUnit st st' → SessionMatches words live implied st s global → SessionMatches words live implied st' s global
fits_carried words live implied st st' s global c h = record {
  clauses = h.clauses;
  paired = h.paired;
  known = λ l u. h.known l (c.units l u);
  sound = λ l n e. let x = h.sound l n e in c.bottom l x.0 x.1;
  consistent = h.consistent;
  width = h.width;
}

-- CLAUSES IN ANOTHER ORDER

both_true : (a b : Bool) → (a ≡ true → b ≡ true) → (b ≡ true → a ≡ true) → a ≡ b
both_true true b f g = sym (f refl)
both_true false true f g = absurd (true≢false (sym (g refl)))
both_true false false f g = refl

pub among_at : (xs : List ℕ) (k : ℕ) → k < length xs → is_among xs (get_or xs k 0) ≡ true
among_at [] k lt = absurd (omega arith)
among_at (x ∷ xs) zero lt = or_left (eqb x x) (is_among xs x) (eq-eqb x x refl)
among_at (x ∷ xs) (suc k) lt = or_right (eqb x (get_or xs k 0)) (is_among xs (get_or xs k 0)) (among_at xs k (omega arith))

pub among_back : (f : ℕ → ℕ) (xs : List ℕ) (y : ℕ) → is_among (map f xs) y ≡ true → (m : ℕ) × ((is_among xs m ≡ true) × (f m ≡ y))
among_back f [] y t = absurd (true≢false (sym t))
among_back f (x ∷ xs) y t = elim (or_cases (eqb (f x) y) (is_among (map f xs) y) t) [
  | inl e ↦ (x, (or_left (eqb x x) (is_among xs x) (eq-eqb x x refl), eqb-true (f x) y e))
  | inr r ↦ let p = among_back f xs y r in (p.0, (or_right (eqb x p.0) (is_among xs p.0) p.1.0, p.1.1))
]

among_shuffled : (f : ℕ → ℕ) (ls ms : List ℕ) → ((m : ℕ) → is_among ls m ≡ true → is_among ms m ≡ true) → (y : ℕ) → is_among (map f ls) y ≡ true → is_among (map f ms) y ≡ true
among_shuffled f ls ms forth y t =
    let p = among_back f ls y t in
    subst (λ z. is_among (map f ms) z ≡ true) p.1.1 (among_mapped f ms p.0 (forth p.0 p.1.0))

-- the sorted set does not depend on the order of the literals
pub canonical_shuffled : (f : ℕ → ℕ) (ls ms : List ℕ) → IsReordering ls ms → canonical (map f ls) ≡ canonical (map f ms)
canonical_shuffled f ls ms h =
    let forth : (m : ℕ) → is_among ls m ≡ true → is_among ms m ≡ true = λ m t.
    let p = among_place ls m t in let j = h.forth p.0 p.1.0 in
    subst (λ z. is_among ms z ≡ true) (j.1.1 ∙ p.1.1) (among_at ms j.0 (omega (arith, j.1.0, h.size))) in
    let back : (m : ℕ) → is_among ms m ≡ true → is_among ls m ≡ true = λ m t.
    let p = among_place ms m t in let j = h.back p.0 (omega (arith, p.1.0, h.size)) in
    subst (λ z. is_among ls z ≡ true) (j.1.1 ∙ p.1.1) (among_at ls j.0 j.1.0) in
    same_increasing (canonical (map f ls)) (canonical (map f ms)) (canonical_increasing (map f ls)) (canonical_increasing (map f ms))
    (λ y. canonical_among (map f ls) y ∙ both_true (is_among (map f ls) y) (is_among (map f ms) y) (among_shuffled f ls ms forth y) (among_shuffled f ms ls back y) ∙ sym (canonical_among (map f ms) y))

-- a clause in the list of long ones has a reference
pub record IsLongOf (r : ℕ → Bool) (words os : List ℕ) (c : LiveClause) : Type 0 where
  pub place : ℕ
  pub there : Contains os place
  pub same : c ≡ record { redundant = r place; literals = lits_at words place }

pub long_of : (r : ℕ → Bool) (words os : List ℕ) (c : LiveClause) → IsIn c (longs r words os) → IsLongOf r words os c
long_of r words [] c h = absurd h
long_of r words (o ∷ os) c (inl e) = record { place = o; there = (0, omega arith, refl); same = e }
long_of r words (o ∷ os) c (inr k) = let x = long_of r words os c k in record { place = x.place; there = (suc x.there.0, omega (arith, x.there.1), x.there.2); same = x.same }

pub in_either : (c : LiveClause) (xs ys : List LiveClause) → IsIn c (xs ++ ys) → IsIn c xs ⊎ IsIn c ys
in_either c [] ys h = inr h
in_either c (x ∷ xs) ys (inl e) = inl (inl e)
in_either c (x ∷ xs) ys (inr k) = elim (in_either c xs ys k) [ inl a ↦ inl (inr a) | inr b ↦ inr b ]

in_front : (c : LiveClause) (xs ys : List LiveClause) → IsIn c xs → IsIn c (xs ++ ys)
in_front c [] ys h = absurd h
in_front c (x ∷ xs) ys h = elim h [ inl e ↦ inl e | inr k ↦ inr (in_front c xs ys k) ]

pub all_at : (P : ℕ → Type 0) (xs : List ℕ) → ((k : ℕ) → k < length xs → P (get_or xs k 0)) → AllByRecursion P xs
all_at P [] h = tt
all_at P (x ∷ xs) h = (h zero (omega arith), all_at P xs (λ k n. h (suc k) (omega arith)))

counts_front : (f : LiveClause → LiveClause) (xs ys zs : List LiveClause) (r : Bool) (set : List ℕ) → live_count_of (map f ys) r set ≡ live_count_of (map f zs) r set → live_count_of (map f (xs ++ ys)) r set ≡ live_count_of (map f (xs ++ zs)) r set
counts_front f [] ys zs r set e = e
counts_front f (x ∷ xs) ys zs r set e = ap (plus_one_if (same_flag (f x).redundant r && same_literals (canonical (f x).literals) set)) (counts_front f xs ys zs r set e)

counts_kept : (global : ℕ → ℕ) (a b : ℕ → Bool) (words words' os : List ℕ) (r : Bool) (set : List ℕ) → ((o : ℕ) → Contains os o → (b o ≡ a o) × IsReordering (lits_at words o) (lits_at words' o)) →
    live_count_of (map (mapped global) (longs a words os)) r set ≡ live_count_of (map (mapped global) (longs b words' os)) r set
counts_kept global a b words words' [] r set h = refl
counts_kept global a b words words' (o ∷ os) r set h =
    let x = h o (0, omega arith, refl) in
    let rest : live_count_of (map (mapped global) (longs a words os)) r set ≡ live_count_of (map (mapped global) (longs b words' os)) r set =
    counts_kept global a b words words' os r set (λ p c. h p (suc c.0, omega (arith, c.1), c.2)) in
    ap (λ q. plus_one_if (same_flag q r && same_literals (canonical (map (with_var global) (lits_at words o))) set) (live_count_of (map (mapped global) (longs a words os)) r set)) (sym x.0)
    ∙ ap (λ ks. plus_one_if (same_flag (b o) r && same_literals ks set) (live_count_of (map (mapped global) (longs a words os)) r set)) (canonical_shuffled (with_var global) (lits_at words o) (lits_at words' o) x.1)
    ∙ ap (plus_one_if (same_flag (b o) r && same_literals (canonical (map (with_var global) (lits_at words' o))) set)) rest

-- every literal of a clause has its solver name
pub mapped_at : (global : ℕ → ℕ) (names : ℕ → Option ℕ) (ls : List ℕ) (k : ℕ) → AreMapped global names ls → k < length ls → names (global (variable (get_or ls k 0))) ≡ Some (variable (get_or ls k 0))
mapped_at global names [] k h lt = absurd (omega arith)
mapped_at global names (l ∷ ls) zero h lt = h.0
mapped_at global names (l ∷ ls) (suc k) h lt = mapped_at global names ls k h.1 (omega arith)

-- the same in any order
pub mapped_shuffled : (global : ℕ → ℕ) (names : ℕ → Option ℕ) (ls ms : List ℕ) → IsReordering ls ms → AreMapped global names ls → AreMapped global names ms
mapped_shuffled global names ls ms order h = all_at (λ l. names (global (variable l)) ≡ Some (variable l)) ms (λ k lt.
    let j = order.back k (omega (arith, order.size)) in
    subst (λ l. names (global (variable l)) ≡ Some (variable l)) j.1.1 (mapped_at global names ls j.0 h j.1.0))

pub of_reordered : (words words' live : List ℕ) (implied : List (List ℕ)) (s : Session) (global : ℕ → ℕ) (count : ℕ) → AreLongClauses words' live count → SameUpToOrder words words' live →
    AreLiveClausesOf s global (solver_clauses (is_redundant words) words live implied) → AreLiveClausesOf s global (solver_clauses (is_redundant words') words' live implied)
of_reordered words words' live implied s global count clauses kept h = record {
  named = λ c k. elim (in_either c (binaries implied) (longs (is_redundant words') words' live) k) [
    | inl a ↦ h.named c (in_front c (binaries implied) (longs (is_redundant words) words live) a)
    | inr b ↦
        let x = long_of (is_redundant words') words' live c b in
        let old : LiveClause = record { redundant = is_redundant words x.place; literals = lits_at words x.place } in
        subst (λ (d : LiveClause). AreMapped global s.solver_names d.literals) (sym x.same)
        (mapped_shuffled global s.solver_names (lits_at words x.place) (lits_at words' x.place) (kept.lits x.place x.there)
        (h.named old (in_after old (binaries implied) (longs (is_redundant words) words live) (long_there (is_redundant words) words live x.place x.there))))
  ];
  once = λ c k. elim (in_either c (binaries implied) (longs (is_redundant words') words' live) k) [
    | inl a ↦ h.once c (in_front c (binaries implied) (longs (is_redundant words) words live) a)
    | inr b ↦
        let x = long_of (is_redundant words') words' live c b in
        subst (λ (d : LiveClause). NoRepeats d.literals) (sym x.same) (once_distinct (lits_at words' x.place) (clauses.distinct x.place x.there))
  ];
  counts = λ r set. h.counts r set ∙ counts_front (mapped global) (binaries implied) (longs (is_redundant words) words live) (longs (is_redundant words') words' live) r set
      (counts_kept global (is_redundant words) (is_redundant words') words words' live r set (λ o c. (ap (λ (x : Header). is_learned x.tier) (kept.headers o c), kept.lits o c)));
}

pub fits_reordered : (words words' live : List ℕ) (implied : List (List ℕ)) (st : PropagationState) (s : Session) (global : ℕ → ℕ) → AreLongClauses words' live (length st.values) → SameUpToOrder words words' live →
    SessionMatches words live implied st s global → SessionMatches words' live implied st s global
fits_reordered words words' live implied st s global clauses kept h = record {
  clauses = of_reordered words words' live implied s global (length st.values) clauses kept h.clauses;
  paired = h.paired;
  known = h.known;
  sound = h.sound;
  consistent = h.consistent;
  width = h.width;
}

-- A BINARY CLAUSE

pub paired_binary : (x : Binaries) (a b : ℕ) → negated a < length x.implied → negated b < length x.implied → a ≢ b → ArePaired x.implied → ArePaired (with_binary a b x).implied
paired_binary x a b first second differ h =
    let new : List (List ℕ) = (with_binary a b x).implied in
    let turned : (l k : ℕ) → k < length (implied_by (with_binary a b x).implied l) → Contains (implied_by new (negated (get_or (implied_by (with_binary a b x).implied l) k 0))) (negated l) =
    binary_all x a b (λ l n. Contains (implied_by new (negated n)) (negated l)) first second
    (λ l k lt.
    let n : ℕ = get_or (implied_by x.implied l) k 0 in
    let c : Contains (implied_by x.implied (negated (negated l))) (get_or (implied_by x.implied l) k 0) = subst (λ z. Contains (implied_by x.implied z) n) (sym (negated_twice l)) (place_in (implied_by x.implied l) k lt) in
    binary_kept x a b (negated n) (negated l) first second (h.back (negated l) n c))
    (subst (λ z. Contains (implied_by new (negated b)) z) (sym (negated_twice a)) (binary_new x a b first second))
    (subst (λ z. Contains (implied_by new (negated a)) z) (sym (negated_twice b))
    (implied_kept (with_implied (negated a) b x.implied) (negated b) a (negated a) b (subst (λ n. negated b < n) (sym (length-set x.implied (negated a) (implied_by x.implied (negated a) ++ b ∷ []))) second) (implied_new x.implied (negated a) b first))) in
    let apart : (l k : ℕ) → k < length (implied_by (with_binary a b x).implied l) → negated l ≢ get_or (implied_by (with_binary a b x).implied l) k 0 =
    binary_all x a b (λ l n. negated l ≢ n) first second
    (λ l k lt. h.apart (negated l) (get_or (implied_by x.implied l) k 0) (subst (λ z. Contains (implied_by x.implied z) (get_or (implied_by x.implied l) k 0)) (sym (negated_twice l)) (place_in (implied_by x.implied l) k lt)))
    (λ e. differ (sym (negated_twice a) ∙ e)) (λ e. differ (sym (sym (negated_twice b) ∙ e))) in
    record {
      back = λ l n c.
          let t = turned (negated l) c.0 c.1 in
          subst (λ z. Contains (implied_by new (negated n)) z) (negated_twice l) (subst (λ z. Contains (implied_by new (negated z)) (negated (negated l))) (at_place (implied_by new (negated l)) n c) t);
      apart = λ l n c e. apart (negated l) c.0 c.1 (negated_twice l ∙ e ∙ sym (at_place (implied_by new (negated l)) n c));
    }

-- A LEARNED CLAUSE

-- enqueuing a literal adds no unit except this literal, if no clause is its reason
pub units_enqueued : (s : PropagationState) (l : ℕ) (r : Reason) → StateIsConsistent s → IsUnassignedLit s.values l → variable l < length s.values → (m : ℕ) → IsUnitLit (enqueued l r s) m → IsUnitLit s m ⊎ ((m ≡ l) × (has_no_clause r ≡ true))
units_enqueued s l r a free below m (inl x) = inl (inl ((grows_enqueued s l r a free below (room_for s l r a free below)).removed m x))
units_enqueued s l r a free below m (inr b) =
    let g : TrailGrows s (enqueued l r s) = grows_enqueued s l r a free below (room_for s l r a free below) in
    let size : length (s.trail.lits ++ l ∷ []) ≡ length s.trail.lits + 1 = length_push s.trail.lits l in
    elim (cases_lt b.place (length s.trail.lits)) [
      | inl lt ↦
          let there : lit_at s b.place ≡ m = sym (g.front b.place lt) ∙ b.there in
          let same : node (enqueued l r s) m ≡ node s m = g.nodes m (subst (λ z. IsTrueLit s.values z) there (a.holds b.place lt)) in
          inl (inr (record {
            place = b.place;
            within = lt;
            there = there;
            bottom = ap (λ (n : ImplNode). n.level) (sym same) ∙ b.bottom;
            none = ap (λ (n : ImplNode). has_no_clause n.reason) (sym same) ∙ b.none;
          }))
      | inr ge ↦
          let last : b.place ≡ length s.trail.lits = omega (arith, b.within) in
          let at : m ≡ l = sym b.there ∙ ap (λ k. lit_at (enqueued l r s) k) last ∙ lit_last s l r in
          inr (at, ap (λ (n : ImplNode). has_no_clause n.reason) (sym (ap (λ z. node (enqueued l r s) z) at ∙ node_new s l r (omega (arith, a.nodes)))) ∙ b.none)
    ]

pub alone : (ls : List ℕ) → length ls ≡ 1 → ls ≡ get_or ls 0 0 ∷ []
alone [] e = absurd (omega arith)
alone (x ∷ []) e = refl
alone (x ∷ y ∷ ys) e = absurd (omega arith)

pub two_of : (ls : List ℕ) → length ls ≡ 2 → ls ≡ get_or ls 0 0 ∷ get_or ls 1 0 ∷ []
two_of [] e = absurd (omega arith)
two_of (x ∷ []) e = absurd (omega arith)
two_of (x ∷ y ∷ []) e = refl
two_of (x ∷ y ∷ z ∷ zs) e = absurd (omega arith)

pub fact_unsat : (l : ℕ) (s : Session) → s.units (negated l) ≡ false → (with_unit_added l s).unsat ≡ s.unsat
fact_unsat l s n = go (s.units l) (s.units (negated l)) n
  where
    go : (b d : Bool) → d ≡ false → (session_if b s (session_if d (record s { unsat = true }) (record s { units = λ m. eqb l m || s.units m }))).unsat ≡ s.unsat
    go true d e = refl
    go false true e = absurd (true≢false e)
    go false false e = refl

module _ (words live : List ℕ) (implied : List (List ℕ)) (st : PropagationState) (s : Session) (global : ℕ → ℕ) (agrees : StateIsConsistent st) (fits : SessionMatches words live implied st s global) where
  -- a learned unit, at level 0
  pub fits_unit : (l : ℕ) (r : Reason) (flag : Bool) (hashes : List ℕ) → s.solver_names (global (variable l)) ≡ Some (variable l) → IsUnassignedLit st.values l → variable l < length st.values → st.trail.starts ≡ [] →
      SessionMatches words live implied (enqueued l r st) (after (AtClause flag (with_var global l ∷ []) hashes) s) global
  fits_unit l r flag hashes its free below bottom =
      let g : TrailGrows st (enqueued l r st) = grows_enqueued st l r agrees free below (room_for st l r agrees free below) in
      let known : Session = knowing_literals (with_var global l ∷ []) s in
      let none : s.units (negated (with_var global l)) ≡ false = false_from_ne_true (s.units (negated (with_var global l))) (λ u.
      let x = fits.sound (negated l) (subst (λ v. s.solver_names (global v) ≡ Some v) (sym (negated_variable l)) its) (subst (λ z. s.units z ≡ true) (sym (negated_mapped global l)) u) in
      let e : None ≡ Some (is_positive (negated l)) = sym free ∙ ap (λ v. value_of st.values v) (sym (negated_variable l)) ∙ x.0 in
      absurd cc) in
      let zero_level : level (enqueued l r st) l ≡ 0 = ap (λ (n : ImplNode). n.level) (node_new st l r (omega (arith, agrees.nodes))) ∙ ap (λ (xs : List ℕ). length xs) bottom in
      record {
        clauses = short_leaves s global (solver_clauses (is_redundant words) words live implied) flag (with_var global l ∷ []) hashes (refl, tt) (omega arith) refl fits.clauses;
        paired = fits.paired;
        known = λ m u. elim (units_enqueued st l r agrees free below m u) [
          | inl o ↦ fact_keeps known (with_var global l) (with_var global m) (fits.known m o)
          | inr e ↦ subst (λ z. (with_unit_added (with_var global l) known).units (with_var global z) ≡ true) (sym e.0) (fact_gives known (with_var global l) none)
        ];
        sound = λ m n u. elim (fact_only known (with_var global l) (with_var global m) u) [
          | inl e ↦
              let same : l ≡ m = apart global s.solver_names l m its (sym (fact_names known (with_var global l) (global (variable m))) ∙ n) e in
              subst (λ z. IsTrueLit (enqueued l r st).values z × (level (enqueued l r st) z ≡ 0)) same (true_new st l r below, zero_level)
          | inr k ↦
              let x = fits.sound m (sym (fact_names known (with_var global l) (global (variable m))) ∙ n) k in
              (g.kept m x.0, ap (λ (n : ImplNode). n.level) (g.nodes m x.0) ∙ x.1)
        ];
        consistent = fact_unsat (with_var global l) known none ∙ fits.consistent;
        width = fact_width known (with_var global l) ∙ fits.width;
      }

  -- a longer learned clause, if the list of clauses is as the step says
  pub fits_long_by : (words' live' : List ℕ) (implied' : List (List ℕ)) (l : ℕ) (r : Reason) (flag : Bool) (c hashes : List ℕ) → IsUnassignedLit st.values l → variable l < length st.values → has_no_clause r ≡ false →
      NoRepeats c → 1 < length c → is_tautology c ≡ false → ArePaired implied' → AreLiveClausesOf (after (AtClause flag c hashes) s) global (solver_clauses (is_redundant words') words' live' implied') →
      SessionMatches words' live' implied' (enqueued l r st) (after (AtClause flag c hashes) s) global
  fits_long_by words' live' implied' l r flag c hashes free below caused once long taut paired clauses =
      let g : TrailGrows st (enqueued l r st) = grows_enqueued st l r agrees free below (room_for st l r agrees free below) in
      let known : Session = knowing_literals c s in
      let same : with_live_clause flag c (knowing_literals c s) ≡ with_live flag (canonical c) (knowing_literals c s) = clause_long flag c known once long taut in
      record {
        clauses = clauses;
        paired = paired;
        known = λ m u. elim (units_enqueued st l r agrees free below m u) [
          | inl o ↦ ap (λ (x : Session). x.units (with_var global m)) same ∙ fits.known m o
          | inr e ↦ absurd (true≢false (sym e.1 ∙ caused))
        ];
        sound = λ m n u.
            let x = fits.sound m (sym (ap (λ (x : Session). x.solver_names (global (variable m))) same) ∙ n) (sym (ap (λ (x : Session). x.units (with_var global m)) same) ∙ u) in
            (g.kept m x.0, ap (λ (n : ImplNode). n.level) (g.nodes m x.0) ∙ x.1);
        consistent = ap (λ (x : Session). x.unsat) same ∙ fits.consistent;
        width = ap (λ (x : Session). x.width) same ∙ fits.width;
      }

-- if no two literals are negations of each other, the clause is no tautology
pub no_signs : (values : List (Option Bool)) (ls : List ℕ) → ((j k : ℕ) → j < length ls → k < length ls → get_or ls k 0 ≢ negated (get_or ls j 0)) → is_tautology ls ≡ false
no_signs values [] h = refl
no_signs values (l ∷ ls) h =
    or_from (is_among ls (negated l)) (is_tautology ls)
    (false_from_ne_true (is_among ls (negated l)) (λ t. let p = among_place ls (negated l) t in h 0 (suc p.0) (omega arith) (omega (arith, p.1.0)) p.1.1))
    (no_signs values ls (λ j k a b. h (suc j) (suc k) (omega arith) (omega arith)))

pub taut_mapped : (global : ℕ → ℕ) (names : ℕ → Option ℕ) (ls : List ℕ) → AreMapped global names ls → is_tautology ls ≡ false → is_tautology (map (with_var global) ls) ≡ false
taut_mapped global names [] h e = refl
taut_mapped global names (l ∷ ls) h e =
    let p = or_parts (is_among ls (negated l)) (is_tautology ls) e in
    let n : names (global (variable (negated l))) ≡ Some (variable (negated l)) = subst (λ v. names (global v) ≡ Some v) (sym (negated_variable l)) h.0 in
    or_from (is_among (map (with_var global) ls) (negated (with_var global l))) (is_tautology (map (with_var global) ls))
    (ap (λ z. is_among (map (with_var global) ls) z) (sym (negated_mapped global l)) ∙ not_among global names (negated l) ls n h.1 p.0)
    (taut_mapped global names ls h.1 p.1)

pub longs_same : (a b : ℕ → Bool) (words words' os : List ℕ) → ((o : ℕ) → Contains os o → (b o ≡ a o) × (lits_at words' o ≡ lits_at words o)) → longs b words' os ≡ longs a words os
longs_same a b words words' [] h = refl
longs_same a b words words' (o ∷ os) h =
    let x = h o (0, omega arith, refl) in
    ap (λ q. (record { redundant = q; literals = lits_at words' o }) ∷ longs b words' os) x.0
    ∙ ap (λ ls. (record { redundant = a o; literals = ls }) ∷ longs b words' os) x.1
    ∙ ap (λ ds. (record { redundant = a o; literals = lits_at words o }) ∷ ds) (longs_same a b words words' os (λ p c. h p (suc c.0, omega (arith, c.1), c.2)))

pub longs_push : (b : ℕ → Bool) (words os : List ℕ) (o : ℕ) → longs b words (os ++ o ∷ []) ≡ longs b words os ++ (record { redundant = b o; literals = lits_at words o }) ∷ []
longs_push b words [] o = refl
longs_push b words (p ∷ os) o = ap (λ ds. (record { redundant = b p; literals = lits_at words p }) ∷ ds) (longs_push b words os o)
