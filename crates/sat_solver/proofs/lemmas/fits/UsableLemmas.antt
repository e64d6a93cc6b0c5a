-- Reasons and falsified clauses are live in the session, with the hashes that the search computes.
use Rattle.std.proofs.Common.{ℕ, suc, ◌-◌, ◌/◌, ◌^◌, ◌<◌, ◌≡◌, Bool, true, false, ◌||◌, eqb, List, [], ◌∷◌, map, drop, length, get_or, refl, sym, ap, subst, arith, inl, inr, Option}
use Rattle.std.proofs.lemmas.Bool.{or_cases, or_from, ne_eqb, eqb-true, cases_lt, cases_order, true≢false, false_from_ne_true}
use Rattle.std.proofs.lemmas.List.{get_or_past}
use Rattle.std.specs.List.{Contains}
use Rattle.sat_base.specs.values.Literals.{negated}
use Rattle.sat_base.specs.values.Hashes.{hash_of}
use Rattle.sat_store.specs.clause.Buffer.{lits_at}
use Rattle.sat_checker.specs.LiteralSets.{is_among}
use Rattle.sat_checker.specs.SortedSets.{NoRepeats}
use Rattle.sat_parts.specs.declared.prop.graph.Reason.{Reason}
use Rattle.sat_parts.specs.declared.prop.graph.Reason.TheVariants.{Unit as NoCause, Binary, Long}
use Rattle.sat_parts.specs.declared.prop.graph.Conflict.{Conflict}
use Rattle.sat_parts.specs.declared.prop.graph.Conflict.TheVariants as conflicts
use Rattle.sat_parts.specs.clause.Orders.{AreDistinct}
use Rattle.sat_parts.specs.clause.Stored.{AreLongClauses}
use Rattle.sat_parts.specs.prop.Binaries.{implied_by}
use Rattle.sat_parts.specs.prop.ReasonLits.{reason_lits, conflict_lits}
use Rattle.sat_parts.specs.prop.Graphs.{has_no_clause}
use Rattle.sat_parts.specs.prop.State.{PropagationState, lit_at}
use Rattle.sat_parts.specs.prop.Reasons.{ReasonImplies}
use Rattle.sat_parts.specs.prop.Ready.{IsConflict}
use Rattle.sat_parts.proofs.lemmas.clause.ListLemmas.{at_place}
use Rattle.sat_solver.specs.session.Session.{Session, IsLive}
use Rattle.sat_solver.specs.session.LiveClauses.{LiveClause, IsIn, with_var, AreMapped, AreLiveClausesOf}
use Rattle.sat_solver.proofs.lemmas.session.Lists.{solver_hash}
use Rattle.sat_solver.proofs.lemmas.session.Mapped.{once_mapped}
use Rattle.sat_solver.proofs.lemmas.session.Represented.{usable}
use Rattle.sat_solver.proofs.lemmas.session.Naming.{live_same}
use Rattle.sat_solver.specs.session.SolverClauses.{pair, binaries, longs, solver_clauses}
use Rattle.sat_solver.specs.session.TrailUnits.{IsUsable}
use Rattle.sat_solver.specs.session.TrailEntries.{reason_clause}
use Rattle.sat_solver.proofs.lemmas.trail.ClauseLemmas.{binary_there, long_there, in_front, in_after}
use Rattle.sat_solver.specs.session.Matching.{ArePaired, is_redundant}

-- a literal of a list has a position
pub among_place : (xs : List ℕ) (m : ℕ) → is_among xs m ≡ true → (k : ℕ) × ((k < length xs) × (get_or xs k 0 ≡ m))
among_place [] m t = absurd (true≢false (sym t))
among_place (x ∷ xs) m t = elim (or_cases (eqb x m) (is_among xs m) t) [
  | inl e ↦ (0, (omega arith, eqb-true x m e))
  | inr r ↦ let p = among_place xs m r in (suc p.0, (omega (arith, p.1.0), p.1.1))
]

-- different literals never repeat, in terms of the checker
pub once_distinct : (ls : List ℕ) → AreDistinct ls → NoRepeats ls
once_distinct [] h = tt
once_distinct (x ∷ xs) h = (
  false_from_ne_true (is_among xs x) (λ t.
      let p = among_place xs x t in
      let q : 0 ≡ suc p.0 = h 0 (suc p.0) (omega arith) (omega (arith, p.1.0)) (sym p.1.1) in
      absurd (omega arith)),
  once_distinct xs (λ j k a b e. let q : suc j ≡ suc k = h (suc j) (suc k) (omega arith) (omega arith) e in omega arith),
)

-- a literal that implies another one is within the range of lists
in_range : (implied : List (List ℕ)) (l m : ℕ) → Contains (implied_by implied l) m → l < length implied
in_range implied l m c = elim (cases_lt l (length implied)) [
  | inl lt ↦ lt
  | inr ge ↦ let e : implied_by implied l ≡ [] = get_or_past implied l [] ge in let n : c.0 < 0 = subst (λ (xs : List ℕ). c.0 < length xs) e c.1 in absurd (omega arith)
]

usable_by : (s : Session) (global : ℕ → ℕ) (c : List ℕ) → AreMapped global s.solver_names c → IsLive s (map (with_var global) c) → IsUsable s global c
usable_by s global c m l = record { live = l; hash = sym (ap (λ ls. hash_of ls / 2 ^ (64 - s.width)) (solver_hash global s.solver_names c m)) }

or_turn : (x y : Bool) → x || (y || false) ≡ y || (x || false)
or_turn true true = refl
or_turn true false = refl
or_turn false true = refl
or_turn false false = refl

pub first_rest : (ls : List ℕ) (l : ℕ) → 0 < length ls → get_or ls 0 0 ≡ l → l ∷ drop 1 ls ≡ ls
first_rest [] l lt e = absurd (omega arith)
first_rest (x ∷ xs) l lt e = ap (λ z. z ∷ xs) (sym e)

module _ (words live : List ℕ) (implied : List (List ℕ)) (s : Session) (global : ℕ → ℕ) (clauses : AreLiveClausesOf s global (solver_clauses (is_redundant words) words live implied)) (paired : ArePaired implied) where
  abbrev all : List LiveClause
  all = solver_clauses (is_redundant words) words live implied

  usable_in : (c : LiveClause) → IsIn c all → IsUsable s global c.literals
  usable_in c k = let u = usable s global all c clauses k in record { live = u.live; hash = u.hash }

  pair_in : (a b : ℕ) → a < b → Contains (implied_by implied (negated a)) b → IsIn (pair a b) all
  pair_in a b lt c =
      in_front (pair a b) (binaries implied) (longs (is_redundant words) words live)
      (binary_there implied a b c.0 (in_range implied (negated a) b c) c.1 (at_place (implied_by implied (negated a)) b c) lt)

  -- a binary clause
  pub pair_usable : (a b : ℕ) → Contains (implied_by implied (negated a)) b → IsUsable s global (a ∷ b ∷ [])
  pair_usable a b c = elim (cases_order a b) [
    | inl e ↦ absurd (paired.apart a b c e)
    | inr o ↦ elim o [
      | inl lt ↦ usable_in (pair a b) (pair_in a b lt c)
      | inr gt ↦
          let at : IsIn (pair b a) all = pair_in b a gt (paired.back a b c) in
          let m : AreMapped global s.solver_names (b ∷ a ∷ []) = clauses.named (pair b a) at in
          let n : AreMapped global s.solver_names (a ∷ b ∷ []) = (m.1.0, (m.0, tt)) in
          let once : NoRepeats (a ∷ b ∷ []) = (or_from (eqb b a) false (ne_eqb b a (λ e. paired.apart a b c (sym e))) refl, (refl, tt)) in
          let u : IsUsable s global (b ∷ a ∷ []) = usable_in (pair b a) at in
          usable_by s global (a ∷ b ∷ []) n
          (live_same s (with_var global b ∷ with_var global a ∷ []) (with_var global a ∷ with_var global b ∷ []) u.live (once_mapped global s.solver_names (a ∷ b ∷ []) n once)
          (λ l. or_turn (eqb (with_var global b) l) (eqb (with_var global a) l)))
    ]
  ]

  pub long_usable : (o : ℕ) → Contains live o → IsUsable s global (lits_at words o)
  long_usable o c =
      usable_in (record { redundant = is_redundant words o; literals = lits_at words o })
      (in_after (record { redundant = is_redundant words o; literals = lits_at words o }) (binaries implied) (longs (is_redundant words) words live) (long_there (is_redundant words) words live o c))

  pub long_named : (o : ℕ) → Contains live o → AreMapped global s.solver_names (lits_at words o)
  long_named o c =
      let it : LiveClause = record { redundant = is_redundant words o; literals = lits_at words o } in
      clauses.named it (in_after it (binaries implied) (longs (is_redundant words) words live) (long_there (is_redundant words) words live o c))

  -- the reason of a literal on the trail
  pub reason_usable : (st : PropagationState) (i : ℕ) (r : Reason) → has_no_clause r ≡ false → ReasonImplies words live implied st i r → IsUsable s global (reason_clause words (lit_at st i) r)
  reason_usable st i NoCause u h = absurd (true≢false u)
  reason_usable st i (Binary ls) u h = pair_usable (lit_at st i) (get_or ls 0 0) (paired.back (get_or ls 0 0) (lit_at st i) h.0)
  reason_usable st i (Long o) u h = long_usable o h.0

  -- the falsified clause
  pub conflict_usable : (values : List (Option Bool)) (e : Conflict) → IsConflict words live implied values e → IsUsable s global (conflict_lits words e)
  conflict_usable values (conflicts.Binary ls) c = pair_usable (get_or ls 0 0) (get_or ls 1 0) (paired.back (get_or ls 1 0) (get_or ls 0 0) c.0)
  conflict_usable values (conflicts.Long o) c = long_usable o c.0

-- two ways to write the clause of a reason agree
pub reason_clauses : (words live : List ℕ) (implied : List (List ℕ)) (st : PropagationState) (i count : ℕ) (r : Reason) → AreLongClauses words live count → has_no_clause r ≡ false → ReasonImplies words live implied st i r → lit_at st i ∷ reason_lits words r ≡ reason_clause words (lit_at st i) r
reason_clauses words live implied st i count NoCause h u x = absurd (true≢false u)
reason_clauses words live implied st i count (Binary ls) h u x = refl
reason_clauses words live implied st i count (Long o) h u x = first_rest (lits_at words o) (lit_at st i) (omega (arith, h.long o x.0)) x.1
