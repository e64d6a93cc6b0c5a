-- The open literals of a clause are moved to its beginning.
use Rattle.std.proofs.Common.{ℕ, ◌+◌, ◌≡◌, ◌≢◌, ◌<◌, ◌≤◌, ◌∙◌, inl, inr, Bool, true, false, not, Option, Some, None, List, length, get_or, set, refl, sym, ap, subst, arith, get_or-set_same, get_or-set_other, length-set}
use Rattle.std.proofs.lemmas.Bool.{cases_eq}
use Rattle.std.specs.List.{Contains}
use Rattle.sat_base.specs.values.Literals.{variable, negated, is_positive}
use Rattle.sat_store.specs.clause.Buffer.{lits_at, swapped}
use Rattle.sat_parts.specs.clause.Db.{live_refs}
use Rattle.sat_parts.specs.clause.Stored.{lit_of, size_of}
use Rattle.sat_parts.specs.prop.Values.{value_of, IsTrueLit, IsFalseLit, IsUnassignedLit}
use Rattle.sat_parts.specs.prop.State.{HasLeftQueue}
use Rattle.sat_parts.proofs.lemmas.clause.OrderLemmas.{shuffled_refl, shuffled_trans}
use Rattle.sat_parts.proofs.lemmas.prop.StateLemmas.{true_from_false}
use Rattle.sat_parts.specs.declared.parts.SearchState.{SearchState}
use Rattle.sat_parts.specs.parts.Frame.{ReordersLits, SwapsLits}
use Rattle.sat_parts.specs.parts.Whole.{state, SearchStateInvariant}
use Rattle.sat_parts.specs.parts.Words.{TrailWordExtends}
use Rattle.sat_parts.proofs.lemmas.parts.ShortLemmas.{fresh_unsatisfied}
use Rattle.sat_parts.proofs.lemmas.parts.WordSteps.{extends_refl, extends_trans}
use Rattle.sat_solver.specs.unit_simplify.Strengthening.{MovesOpenLitsFirst}
use Rattle.sat_solver.specs.unit_simplify.EmptyTrail.{HasEmptyTrail}
use Rattle.sat_solver.specs.unit_simplify.ClauseStatus.{HasTrue}

-- VALUES

open_value : (o : Option Bool) (b : Bool) → (o ≡ Some b → ⊥) → (o ≡ Some (not b) → ⊥) → o ≡ None
open_value None b n m = refl
open_value (Some true) true n m = absurd (n refl)
open_value (Some false) false n m = absurd (n refl)
open_value (Some true) false n m = absurd (m refl)
open_value (Some false) true n m = absurd (m refl)

-- a literal that is neither true nor false is open
pub open_from : (values : List (Option Bool)) (l : ℕ) → (IsTrueLit values l → ⊥) → (IsFalseLit values l → ⊥) → IsUnassignedLit values l
open_from values l n m = open_value (value_of values (variable l)) (is_positive l) n m

some_none : (b : Bool) → Some b ≡ None → ⊥
some_none b e = cc

pub open_not_false : (values : List (Option Bool)) (l : ℕ) → IsUnassignedLit values l → IsFalseLit values l → ⊥
open_not_false values l e f = some_none (not (is_positive l)) (sym f ∙ e)

-- ORDER

pub reordered_refl : (p : SearchState) → SearchStateInvariant p → ReordersLits p p
reordered_refl p h = record {
  live = refl;
  kept = record { holds_clauses = h.below.propagation.clauses.holds_clauses; headers = λ o c. refl; lits = λ o c. shuffled_refl (lits_at p.clauses o) };
  binary = refl;
}

pub reordered_trans : (p q r : SearchState) → ReordersLits p q → ReordersLits q r → ReordersLits p r
reordered_trans p q r x y =
    let back : (o : ℕ) → Contains (live_refs p.clauses p.db.refs) o → Contains (live_refs q.clauses q.db.refs) o = λ o c. subst (λ (xs : List ℕ). Contains xs o) (sym x.live) c in
    record {
      live = y.live ∙ x.live;
      kept = record {
        holds_clauses = rw x.live at y.kept.holds_clauses;
        headers = λ o c. y.kept.headers o (back o c) ∙ x.kept.headers o c;
        lits = λ o c. shuffled_trans (lits_at p.clauses o) (lits_at q.clauses o) (lits_at r.clauses o) (x.kept.lits o c) (y.kept.lits o (back o c));
      };
      binary = y.binary ∙ x.binary;
    }

pub moved_there : (p q : SearchState) (o : ℕ) → ReordersLits p q → Contains (live_refs p.clauses p.db.refs) o → Contains (live_refs q.clauses q.db.refs) o
moved_there p q o x c = subst (λ (xs : List ℕ). Contains xs o) (sym x.live) c

pub moved_size : (p q : SearchState) (o : ℕ) → ReordersLits p q → Contains (live_refs p.clauses p.db.refs) o → size_of q.clauses o ≡ size_of p.clauses o
moved_size p q o x c = (x.kept.lits o c).size

-- SWAPS

swapped_first : (ls : List ℕ) (i j : ℕ) → i < length ls → j < length ls → get_or (swapped ls i j) i 0 ≡ get_or ls j 0
swapped_first ls i j p q =
    let size : length (set ls i (get_or ls j 0)) ≡ length ls = length-set ls i (get_or ls j 0) in
    elim (cases_eq i j) [
      | inl e ↦
          ap (λ k. get_or (swapped ls i j) k 0) e
          ∙ get_or-set_same (set ls i (get_or ls j 0)) j (get_or ls i 0) 0 (omega arith)
          ∙ ap (λ k. get_or ls k 0) e
      | inr n ↦ get_or-set_other (set ls i (get_or ls j 0)) j i (get_or ls i 0) 0 n ∙ get_or-set_same ls i (get_or ls j 0) 0 p
    ]

swapped_second : (ls : List ℕ) (i j : ℕ) → i < length ls → j < length ls → get_or (swapped ls i j) j 0 ≡ get_or ls i 0
swapped_second ls i j p q =
    let size : length (set ls i (get_or ls j 0)) ≡ length ls = length-set ls i (get_or ls j 0) in
    get_or-set_same (set ls i (get_or ls j 0)) j (get_or ls i 0) 0 (omega arith)

swapped_else : (ls : List ℕ) (i j k : ℕ) → k ≢ i → k ≢ j → get_or (swapped ls i j) k 0 ≡ get_or ls k 0
swapped_else ls i j k a b = get_or-set_other (set ls i (get_or ls j 0)) j k (get_or ls i 0) 0 b ∙ get_or-set_other ls i k (get_or ls j 0) 0 a

-- ONE LITERAL AFTER ANOTHER

pub gathers_none : (p : SearchState) (o : ℕ) → SearchStateInvariant p → ((k : ℕ) → k < 2 → IsUnassignedLit p.assignment.current (lit_of p.clauses o k)) → MovesOpenLitsFirst p p o 2 2
gathers_none p o h front = record {
  holds = h;
  moved = reordered_refl p h;
  same = ((refl, refl, refl), refl, refl);
  db = refl;
  word = extends_refl p;
  front = front;
  cut = λ k le lt. absurd (omega arith);
  rest = λ k le. refl;
}

module _ (p q : SearchState) (o kept at : ℕ) (g : MovesOpenLitsFirst p q o kept at) (le : kept ≤ at) where
  -- a false literal stays where it is
  pub gathers_skip : IsFalseLit q.assignment.current (lit_of q.clauses o at) → MovesOpenLitsFirst p q o kept (at + 1)
  gathers_skip f = record {
    holds = g.holds;
    moved = g.moved;
    same = g.same;
    db = g.db;
    word = g.word;
    front = g.front;
    cut = λ k a b. elim (cases_eq k at) [
      | inl e ↦ subst (λ z. IsFalseLit p.assignment.current (lit_of q.clauses o z)) (sym e) (subst (λ v. IsFalseLit v.current (lit_of q.clauses o at)) g.same.0.0 f)
      | inr n ↦ g.cut k a (omega arith)
    ];
    rest = λ k a. g.rest k (omega arith);
  }

  -- an open literal is moved to the beginning
  module _ (r : SearchState) (there : Contains (live_refs p.clauses p.db.refs) o) (lt : at < size_of p.clauses o) (is_open : IsUnassignedLit p.assignment.current (lit_of q.clauses o at)) (s : SwapsLits q r o kept at) (holds : SearchStateInvariant r) (db : r.db ≡ q.db) (word : TrailWordExtends q r) where
    size : size_of q.clauses o ≡ size_of p.clauses o
    size = moved_size p q o g.moved there

    at_new : (k : ℕ) → lit_of r.clauses o k ≡ get_or (swapped (lits_at q.clauses o) kept at) k 0
    at_new k = ap (λ (ls : List ℕ). get_or ls k 0) s.lits

    is_first : lit_of r.clauses o kept ≡ lit_of q.clauses o at
    is_first = at_new kept ∙ swapped_first (lits_at q.clauses o) kept at (omega (arith, size)) (omega (arith, size))

    is_second : lit_of r.clauses o at ≡ lit_of q.clauses o kept
    is_second = at_new at ∙ swapped_second (lits_at q.clauses o) kept at (omega (arith, size)) (omega (arith, size))

    is_other : (k : ℕ) → k ≢ kept → k ≢ at → lit_of r.clauses o k ≡ lit_of q.clauses o k
    is_other k a b = at_new k ∙ swapped_else (lits_at q.clauses o) kept at k a b

    pub gathers_swap : MovesOpenLitsFirst p r o (kept + 1) (at + 1)
    gathers_swap = record {
      holds = holds;
      moved = reordered_trans p q r g.moved s.moved;
      same = ((s.same.0.0 ∙ g.same.0.0, s.same.0.1 ∙ g.same.0.1, s.same.0.2 ∙ g.same.0.2), s.same.1 ∙ g.same.1, s.same.2 ∙ g.same.2);
      db = db ∙ g.db;
      word = extends_trans p q r g.word word;
      front = λ k b. elim (cases_eq k kept) [
        | inl e ↦ subst (λ z. IsUnassignedLit p.assignment.current z) (sym (ap (λ z. lit_of r.clauses o z) e ∙ is_first)) is_open
        | inr n ↦ subst (λ z. IsUnassignedLit p.assignment.current z) (sym (is_other k n (λ e. omega arith))) (g.front k (omega arith))
      ];
      cut = λ k a b. elim (cases_eq k at) [
        | inl e ↦ subst (λ z. IsFalseLit p.assignment.current z) (sym (ap (λ z. lit_of r.clauses o z) e ∙ is_second)) (g.cut kept (omega arith) (omega arith))
        | inr n ↦ subst (λ z. IsFalseLit p.assignment.current z) (sym (is_other k (λ e. omega arith) n)) (g.cut k (omega arith) (omega arith))
      ];
      rest = λ k a. is_other k (λ e. omega arith) (λ e. omega arith) ∙ g.rest k (omega arith);
    }

-- THE FIRST TWO LITERALS

-- with an empty trail, every true literal of level 0 has left the queue
pub flat_left : (p : SearchState) (l : ℕ) → SearchStateInvariant p → HasEmptyTrail p → IsTrueLit p.assignment.current l → HasLeftQueue (state p) l
flat_left p l h flat t =
    let nothing : length p.trail.lits ≡ 0 = ap (λ (xs : List ℕ). length xs) flat.empty in
    elim (h.below.propagation.agrees.known l t) [ inl b ↦ absurd (omega (arith, b.within)) | inr r ↦ inr r ]

module _ (p : SearchState) (o : ℕ) (h : SearchStateInvariant p) (there : Contains (live_refs p.clauses p.db.refs) o) where
  long_size : 3 ≤ size_of p.clauses o
  long_size = h.below.propagation.clauses.long o there

  pub front_open : HasEmptyTrail p → (HasTrue p o → ⊥) → (k : ℕ) → k < 2 → IsUnassignedLit p.assignment.current (lit_of p.clauses o k)
  front_open flat none k lt =
      open_from p.assignment.current (lit_of p.clauses o k)
      (λ t. none (k, (omega (arith, long_size), t)))
      (λ f. fresh_unsatisfied p.clauses p.db p.watchlists p.binary p.assignment p.graph p.trail p.vsids o h there (λ j less t. none (j, (less, t))) k lt
      (flat_left p (negated (lit_of p.clauses o k)) h flat (true_from_false p.assignment.current (lit_of p.clauses o k) f)))
