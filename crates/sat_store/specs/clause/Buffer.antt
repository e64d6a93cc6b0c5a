-- Clauses in one buffer of words: three words of header, then the literals. A clause is named by the offset of its
-- first word.
use Rattle.std.specs.Prelude.{◌≡◌, ◌≢◌, ℕ, ◌+◌, ◌*◌, ◌^◌, ◌<◌, ◌≤◌, ◌⊎◌, List, [], ◌∷◌, ◌++◌, length, slice_index_or as get_or, slice_set as set, take, drop}
use Rattle.std.specs.List.{Contains}
use Rattle.sat_base.specs.values.Literals.{var_limit}
use Rattle.sat_store.specs.clause.Header.{Header, header_of}

-- the header of the clause at o
unfoldable pub header_at : List ℕ → ℕ → Header
header_at words o = header_of (get_or words o 0) (get_or words (o + 1) 0) (get_or words (o + 2) 0)

-- the literal codes of the clause whose first word is at offset `o` of the buffer `words`, in stored order
unfoldable pub lits_at : List ℕ → ℕ → List ℕ
lits_at words o = take (get_or words (o + 2) 0) (drop (o + 3) words)

-- `IsClause words o` holds if the buffer `words` has a valid clause at offset `o`: all its words are in the buffer, its
-- flags fit in 11 bits, and its literals are codes of variables within the limit (below 2^28).
pub record IsClause (words : List ℕ) (o : ℕ) : Type 0 where
  pub flags : get_or words (o + 1) 0 < 2 ^ 11
  pub whole : o + 3 + get_or words (o + 2) 0 ≤ length words
  pub lits : (k : ℕ) → k < get_or words (o + 2) 0 → get_or words (o + 3 + k) 0 < 2 * var_limit

-- the list with the elements at positions i and j swapped
abbrev pub swapped : List ℕ → ℕ → ℕ → List ℕ
swapped ls i j = set (set ls i (get_or ls j 0)) j (get_or ls i 0)

-- `HaveNoCommonWord words o p` holds if the clauses at `o` and `p` share no word.
unfoldable pub HaveNoCommonWord : List ℕ → ℕ → ℕ → Type 0
HaveNoCommonWord words o p = (o + 3 + get_or words (o + 2) 0 ≤ p) ⊎ (p + 3 + get_or words (p + 2) 0 ≤ o)

-- `HoldsClauses words live` holds if a clause is at every offset of `live`, and no two of these clauses share a word.
pub record HoldsClauses (words : List ℕ) (live : List ℕ) : Type 0 where
  pub clauses : (o : ℕ) → Contains live o → IsClause words o
  pub apart : (o p : ℕ) → Contains live o → Contains live p → o ≢ p → HaveNoCommonWord words o p

-- `SameClauseAt old new p` holds if the buffer `new` has a valid clause at offset `p`, with the header and literals (in
-- the same order) that the buffer `old` has there.
pub record SameClauseAt (old new : List ℕ) (p : ℕ) : Type 0 where
  pub clause : IsClause new p
  pub header : header_at new p ≡ header_at old p
  pub lits : lits_at new p ≡ lits_at old p

-- a clause as its header and its literals, without a buffer
pub record HeadedClause : Type 0 where
  pub header : Header
  pub lits : List ℕ

-- `ChangesClauseAt old new o` holds if, from the buffer `old` to `new`, only the clause at offset `o` may have changed:
-- there is still a valid clause at `o`, clauses that do not overlap it are the same, and the buffer has the same size.
pub record ChangesClauseAt (old new : List ℕ) (o : ℕ) : Type 0 where
  pub clause : IsClause new o
  pub size : length new ≡ length old
  pub others : (p : ℕ) → IsClause old p → HaveNoCommonWord old o p → SameClauseAt old new p
  pub holds_clauses : (live : List ℕ) → Contains live o → HoldsClauses old live → HoldsClauses new live

-- `AppendsClause old new c header lits` holds if `new` is the buffer `old` with a clause appended, at offset `c`, the
-- old length; the clause has the literals `lits` and this header, with their number as its length.
pub record AppendsClause (old new : List ℕ) (c : ℕ) (header : Header) (lits : List ℕ) : Type 0 where
  pub place : c ≡ length old
  pub clause : IsClause new c
  pub header_there : header_at new c ≡ record header { len = length lits }
  pub lits_there : lits_at new c ≡ lits
  pub size : length new ≡ length old + 3 + length lits
  pub front : take (length old) new ≡ old
  pub others : (p : ℕ) → IsClause old p → SameClauseAt old new p
  pub fresh : (live : List ℕ) → HoldsClauses old live → Contains live c → ⊥
  pub holds_clauses : (live : List ℕ) → HoldsClauses old live → HoldsClauses new (live ++ c ∷ [])
