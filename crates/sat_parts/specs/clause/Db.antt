-- The list of long clauses.
use Rattle.std.specs.Prelude.{ℕ, ◌≡◌, ◌≢◌, ◌+◌, ◌-◌, ◌^◌, ◌<◌, ◌≤◌, ◌==◌, min, true, Bool, not, ◌&&◌, List, [], ◌∷◌, ◌++◌, length, slice_index_or as get_or, slice_set as set, take, Option, if◌then◌else◌, count_by}
use Rattle.std.specs.List.{Contains, filter, sum_by}
use Rattle.sat_store.specs.clause.Buffer.{IsClause, HoldsClauses, SameClauseAt, AppendsClause, header_at, lits_at}
use Rattle.sat_store.specs.clause.Header.{Header, tier_index}
use Rattle.sat_store.specs.declared.clause.tier.Tier.{Tier}
use Rattle.sat_base.specs.values.Literals.{variable}
use Rattle.sat_parts.specs.declared.prop.graph.ImplNode.{ImplNode}
use Rattle.sat_parts.specs.declared.prop.graph.Reason.TheVariants.{Long}
use Rattle.sat_parts.specs.prop.Values.{IsTrueLit}
use Rattle.sat_parts.specs.prop.Graphs.{node_of}

-- the list of long clauses: their offsets in the buffer in order of addition, with deleted clauses until they are
-- collected; the number of live clauses of each of the four tiers; and the number of words of deleted clauses
pub record Db : Type 0 where
  pub refs : List ℕ
  pub counts : List ℕ
  pub garbage : ℕ

-- the empty list, with the number 0 for each of the four tiers
abbrev pub no_clauses : Db
no_clauses = record { refs = []; counts = 0 ∷ 0 ∷ 0 ∷ 0 ∷ []; garbage = 0 }

-- `is_live words o` is true if the clause at `o` is not deleted.
abbrev pub is_live : List ℕ → ℕ → Bool
is_live words o = not (header_at words o).deleted

-- the offsets of `refs`, in order, whose clauses in the buffer `words` are not marked as deleted
abbrev pub live_refs : List ℕ → List ℕ → List ℕ
live_refs words refs = filter (is_live words) refs

-- `is_live_in_tier words tier o` is true if the clause at `o` is live and in `tier`.
abbrev pub is_live_in_tier : List ℕ → Tier → ℕ → Bool
is_live_in_tier words tier o = is_live words o && (tier_index (header_at words o).tier == tier_index tier)

-- `AreClauseOffsets words refs` holds if there is a clause at every offset of `refs`.
abbrev pub AreClauseOffsets : List ℕ → List ℕ → Type 0
AreClauseOffsets words refs = (o : ℕ) → Contains refs o → IsClause words o

-- the number of words of the clause at o, header included, if it is deleted, otherwise 0
abbrev pub garbage_of : List ℕ → ℕ → ℕ
garbage_of words o = if is_live words o then 0 else length (lits_at words o) + 3

-- `AreStrictlyIncreasing xs` holds if every number of `xs` is greater than those before it.
abbrev pub AreStrictlyIncreasing : List ℕ → Type 0
AreStrictlyIncreasing xs = (j k : ℕ) → j < k → k < length xs → get_or xs j 0 < get_or xs k 0

-- `DbMatchesBuffer words db` holds if `db` describes the clauses of the buffer `words`. There is a clause of three or
-- more literals at every offset of `db.refs`; no two of them share words, and offsets increase. `counts` are the
-- numbers of live clauses by tier. `garbage` is the number of words of deleted clauses (it saturates at 2^64 - 1).
pub record DbMatchesBuffer (words : List ℕ) (db : Db) : Type 0 where
  pub holds_clauses : HoldsClauses words db.refs
  pub rising : AreStrictlyIncreasing db.refs
  pub tiers : length db.counts ≡ 4
  pub counts : (tier : Tier) → get_or db.counts (tier_index tier) 0 ≡ count_by (is_live_in_tier words tier) db.refs
  pub garbage : db.garbage ≡ min (sum_by (garbage_of words) db.refs) (2 ^ 64 - 1)
  pub few : length db.refs < 2 ^ 64
  pub long : (o : ℕ) → Contains db.refs o → 3 ≤ length (lits_at words o)

-- the numbers of clauses by tier, with one more clause of `tier`
abbrev pub tier_count_more : Tier → List ℕ → List ℕ
tier_count_more tier counts = set counts (tier_index tier) (get_or counts (tier_index tier) 0 + 1)

-- the numbers of clauses by tier, with one fewer clause of `tier`
abbrev pub tier_count_less : Tier → List ℕ → List ℕ
tier_count_less tier counts = set counts (tier_index tier) (get_or counts (tier_index tier) 0 - 1)

-- the list of references without that of the clause at o
abbrev pub without_ref : ℕ → List ℕ → List ℕ
without_ref o refs = filter (λ p. not (p == o)) refs

-- `AddsLongClause words db words' db' o header lits` holds if a clause with the literals `lits` and this header, except
-- for its length, was appended at `o`, to the buffer and to the list.
pub record AddsLongClause (words : List ℕ) (db : Db) (words' : List ℕ) (db' : Db) (o : ℕ) (header : Header) (lits : List ℕ) : Type 0 where
  pub added : AppendsClause words words' o header lits
  pub holds : DbMatchesBuffer words' db'
  pub refs : db'.refs ≡ db.refs ++ o ∷ []
  pub live : live_refs words' db'.refs ≡ live_refs words db.refs ++ o ∷ []

-- `PutsHeader words words' refs o header` holds if the clause at `o` has this header in `words'`, with its literals,
-- and no other clause of `refs` changed.
pub record PutsHeader (words words' refs : List ℕ) (o : ℕ) (header : Header) : Type 0 where
  pub size : length words' ≡ length words
  pub holds_clauses : HoldsClauses words' refs
  pub header_there : header_at words' o ≡ header
  pub lits_there : lits_at words' o ≡ lits_at words o
  pub others : (p : ℕ) → Contains refs p → p ≢ o → SameClauseAt words words' p

-- `DeletesClause words db words' db' o` holds if the clause at `o` was marked as deleted, and no other clause changed.
pub record DeletesClause (words : List ℕ) (db : Db) (words' : List ℕ) (db' : Db) (o : ℕ) : Type 0 where
  pub put : PutsHeader words words' db.refs o (record (header_at words o) { deleted = true })
  pub holds : DbMatchesBuffer words' db'
  pub refs : db'.refs ≡ db.refs
  pub live : live_refs words' db'.refs ≡ without_ref o (live_refs words db.refs)

-- `MovesClauseToTier words db words' db' o tier` holds if the clause at `o` was moved to `tier`, and no other clause
-- changed.
pub record MovesClauseToTier (words : List ℕ) (db : Db) (words' : List ℕ) (db' : Db) (o : ℕ) (tier : Tier) : Type 0 where
  pub put : PutsHeader words words' db.refs o (record (header_at words o) { tier = tier })
  pub holds : DbMatchesBuffer words' db'
  pub refs : db'.refs ≡ db.refs
  pub live : live_refs words' db'.refs ≡ live_refs words db.refs

-- `ShortensClause words db words' o len` holds if the clause at offset `o` was cut down to its first `len` literals in
-- the buffer `words'`, no other clause of the list changed, and the list `db` still describes the buffer.
pub record ShortensClause (words : List ℕ) (db : Db) (words' : List ℕ) (o len : ℕ) : Type 0 where
  pub size : length words' ≡ length words
  pub header_there : header_at words' o ≡ record (header_at words o) { len = len }
  pub lits_there : lits_at words' o ≡ take len (lits_at words o)
  pub others : (p : ℕ) → Contains db.refs p → p ≢ o → SameClauseAt words words' p
  pub holds : DbMatchesBuffer words' db
  pub live : live_refs words' db.refs ≡ live_refs words db.refs

-- `IsLockedClause words values nodes o` holds if the first literal of the clause at `o` is true, and the clause is its
-- reason.
abbrev pub IsLockedClause : (words : List ℕ) (values : List (Option Bool)) (nodes : List ImplNode) (o : ℕ) → Type 0
IsLockedClause words values nodes o = IsTrueLit values (get_or (lits_at words o) 0 0) × ((node_of nodes (variable (get_or (lits_at words o) 0 0))).reason ≡ Long o)
