-- Removing the false literals of a long clause.
use Rattle.std.specs.Prelude.{ℕ, ◌≡◌, ◌<◌, ◌≤◌, List, [], ◌∷◌, map, take}
use Rattle.sat_base.specs.values.Hashes.{hash_of}
use Rattle.sat_store.specs.clause.Buffer.{lits_at}
use Rattle.sat_parts.specs.clause.Stored.{lit_of, size_of}
use Rattle.sat_parts.specs.prop.Values.{IsFalseLit, IsUnassignedLit}
use Rattle.sat_solver.specs.session.LiveClauses.{with_var}
use Rattle.sat_parts.specs.declared.parts.SearchState.{SearchState}
use Rattle.sat_parts.specs.parts.Frame.{ReordersLits, SameExceptLongClauses, SameState, AddsOriginalClause, DeletesLongClause, ShortensLongClause}
use Rattle.sat_parts.specs.parts.Whole.{SearchStateInvariant}
use Rattle.sat_parts.specs.parts.Words.{TrailWordExtends}
use Rattle.sat_solver.specs.declared.context.Search.{Search}
use Rattle.sat_solver.specs.cdcl.Joint.{global_in}

-- `MovesOpenLitsFirst p p' o kept next` holds if the literals of the clause at `o` were reordered: unassigned ones come
-- before position `kept`, false ones from there to before `next`, and later ones are unchanged; nothing else changed
pub record MovesOpenLitsFirst (p p' : SearchState) (o kept next : ℕ) : Type 0 where
  pub holds : SearchStateInvariant p'
  pub moved : ReordersLits p p'
  pub same : SameExceptLongClauses p p'
  pub db : p'.db ≡ p.db
  pub word : TrailWordExtends p p'
  pub front : (k : ℕ) → k < kept → IsUnassignedLit p.assignment.current (lit_of p'.clauses o k)
  pub cut : (k : ℕ) → kept ≤ k → k < next → IsFalseLit p.assignment.current (lit_of p'.clauses o k)
  pub rest : (k : ℕ) → next ≤ k → lit_of p'.clauses o k ≡ lit_of p.clauses o k

-- `StrengthensTo p p' o len` holds if the clause at `o` was strengthened to its first `len` literals: as a long clause,
-- or as a binary one that replaces it
pub data StrengthensTo (p p' : SearchState) (o len : ℕ) : Type 0 where
  puts_long : 3 ≤ len → ShortensLongClause p p' o len → StrengthensTo p p' o len
  puts_pair : len ≡ 2 → (mid : SearchState) → AddsOriginalClause p mid (lit_of p.clauses o 0 ∷ lit_of p.clauses o 1 ∷ []) → DeletesLongClause mid p' o → StrengthensTo p p' o len

-- `StrengtheningEffect p p' o len` holds if the clause at `o` was strengthened to its first `len` literals, or replaced
-- by a binary one of them; values, trail and the list of long clauses are unchanged, and the invariant of the parts
-- holds
pub record StrengtheningEffect (p p' : SearchState) (o len : ℕ) : Type 0 where
  pub holds : SearchStateInvariant p'
  pub state : SameState p p'
  pub word : TrailWordExtends p p'
  pub refs : p'.db.refs ≡ p.db.refs
  pub puts : StrengthensTo p p' o len

-- `PreparesStrengthening c c' left o len` holds if the `len` unassigned literals of the clause at `o`, two or more,
-- were moved to its beginning, and what its steps need was prepared, over proof variables: the clause as it was, its
-- hash, and the strengthened clause `left`
pub record PreparesStrengthening (c c' : Search) (left : List ℕ) (o len : ℕ) : Type 0 where
  pub gathers : MovesOpenLitsFirst c.parts c'.parts o len (size_of c.parts.clauses o)
  pub some : 2 ≤ len
  pub within : len ≤ size_of c.parts.clauses o
  pub clause : c'.scratch.clause.items ≡ map (with_var (global_in c)) (lits_at c.parts.clauses o)
  pub hashes : c'.scratch.hashes.items ≡ hash_of (lits_at c.parts.clauses o) ∷ []
  pub part : left ≡ map (with_var (global_in c)) (take len (lits_at c'.parts.clauses o))
