-- Changes of a clause through a view that borrows its buffer.
use Rattle.std.specs.Prelude.{◌≡◌, ℕ, List}
use Rattle.sat_store.specs.declared.clause.edit.ClauseMut.{ClauseMut}
use Rattle.sat_store.specs.clause.Header.{Header}
use Rattle.sat_store.specs.clause.Buffer.{IsClause, header_at, lits_at, ChangesClauseAt}

-- `IsViewOfClause view` holds if the view names a clause of its buffer.
abbrev pub IsViewOfClause : ClauseMut → Type 0
IsViewOfClause view = IsClause view.buffer.now view.cref

-- the header of the view's clause
abbrev pub view_header : ClauseMut → Header
view_header view = header_at view.buffer.now view.cref

-- the literals of the view's clause
abbrev pub view_lits : ClauseMut → List ℕ
view_lits view = lits_at view.buffer.now view.cref

-- `EditsClause old new header lits` holds if the clause of the view has this header and these literals in `new`, and no
-- other clause changed.
pub record EditsClause (old new : ClauseMut) (header : Header) (lits : List ℕ) : Type 0 where
  pub cref : new.cref ≡ old.cref
  pub valid : IsViewOfClause new
  pub has_header : view_header new ≡ header
  pub has_lits : view_lits new ≡ lits
  pub change : ChangesClauseAt old.buffer.now new.buffer.now old.cref
