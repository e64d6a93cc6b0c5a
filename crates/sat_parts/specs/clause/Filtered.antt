-- Deletion of the live clauses that fail a test: what it requires of the test, and which clauses it deletes.
use Rattle.std.specs.Prelude.{ℕ, ◌≡◌, ◌<◌, ◌≤◌, Bool, true, List, length, take, slice_index_or as get_or}
use Rattle.std.specs.Borrow.{Bor}
use Rattle.std.specs.Fn.{Called, Mut, Takes}
use Rattle.std.specs.List.{Contains, items_where_true}
use Rattle.std.specs.List.Retain.{ReturnsInTurn}
use Rattle.sat_store.specs.clause.Buffer.{SameClauseAt}
use Rattle.sat_parts.specs.clause.Db.{is_live, live_refs}

-- `AcceptsEachClause g words live` holds if the test `g` can be called, in any state, with every clause of `live`,
-- whose header and literals it sees as they are in `words`.
abbrev pub AcceptsEachClause : {F : Type 0} → Mut F (Bor (List ℕ) × (ℕ × Unit {0})) Bool → (words live : List ℕ) → Type 0
AcceptsEachClause {F} g words live = (f : F) (shown : Bor (List ℕ)) (o : ℕ) → Contains live o → SameClauseAt words shown.now o → Takes g f (shown, (o, tt))

-- `ReturnsForClause g words f o r f'` holds if a call of the test `g` in state `f` with the clause at `o`, whose header
-- and literals it sees as they are in `words`, may return `r` and leave the state `f'`.
pub record ReturnsForClause {F : Type 0} (g : Mut F (Bor (List ℕ) × (ℕ × Unit {0})) Bool) (words : List ℕ) (f : F) (o : ℕ) (r : Bool) (f' : F) : Type 0 where
  pub shown : Bor (List ℕ)
  pub same : SameClauseAt words shown.now o
  pub called : Called g f (shown, (o, tt)) r f'

-- `SameClausesAt old new live` holds if the headers and the literals of the clauses of `live` are the same in `new` as
-- in `old`.
abbrev pub SameClausesAt : (old new live : List ℕ) → Type 0
SameClausesAt old new live = (o : ℕ) → Contains live o → SameClauseAt old new o

-- `FilterInvariant R f old new refs at f'` holds if the test `R`, from state `f` to state `f'`, was called for every
-- live clause among the first `at` of `refs`, the clauses for which it returned false were deleted, and all other
-- clauses are unchanged.
pub record FilterInvariant {F : Type 0} (R : F → ℕ → Bool → F → Type 0) (f : F) (old new refs : List ℕ) (at : ℕ) (f' : F) : Type 0 where
  pub answers : List Bool
  pub size : length answers ≡ length (live_refs old (take at refs))
  pub returned_in_turn : ReturnsInTurn R f answers (live_refs old (take at refs)) f'
  pub live : live_refs new (take at refs) ≡ items_where_true answers (live_refs old (take at refs))
  pub front : (k : ℕ) → k < at → k < length refs → is_live new (get_or refs k 0) ≡ true → SameClauseAt old new (get_or refs k 0)
  pub rest : (k : ℕ) → at ≤ k → k < length refs → SameClauseAt old new (get_or refs k 0)
