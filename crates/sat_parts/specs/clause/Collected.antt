-- Garbage collection: clauses are copied into a new buffer, and reasons then name the copies.
use Rattle.std.specs.Prelude.{ℕ, ◌≡◌, ◌≢◌, ◌+◌, ◌<◌, ◌≤◌, ◌⊎◌, List, [], ◌∷◌, ◌++◌, length, drop, take, slice_index_or as get_or}
use Rattle.std.specs.List.{Contains, sum_by}
use Rattle.sat_base.specs.values.Literals.{variable}
use Rattle.sat_store.specs.clause.Buffer.{HoldsClauses, AppendsClause, header_at, lits_at}
use Rattle.sat_parts.specs.declared.prop.graph.ImplNode.{ImplNode}
use Rattle.sat_parts.specs.declared.prop.graph.Reason.{Reason}
use Rattle.sat_parts.specs.declared.prop.graph.Reason.TheVariants.{Unit as NoCause, Binary, Long}
use Rattle.sat_parts.specs.clause.Db.{Db, DbMatchesBuffer, live_refs, AreStrictlyIncreasing}
use Rattle.sat_parts.specs.clause.Stored.{lit_of}
use Rattle.sat_parts.specs.prop.Graphs.{node_of}
use Rattle.sat_parts.specs.prop.WatchLists.{WatchState}

-- `CopiesClauses words live words' refs'` holds if the clauses of `refs'` in `words'` are those of `live` in `words`,
-- in order, with the same headers and literals.
pub record CopiesClauses (words live words' refs' : List ℕ) : Type 0 where
  pub size : length refs' ≡ length live
  pub headers : (k : ℕ) → k < length live → header_at words' (get_or refs' k 0) ≡ header_at words (get_or live k 0)
  pub lits : (k : ℕ) → k < length live → lits_at words' (get_or refs' k 0) ≡ lits_at words (get_or live k 0)

-- the number of words of the clauses of `refs`, including their headers
abbrev pub clause_word_count : List ℕ → List ℕ → ℕ
clause_word_count words refs = sum_by (λ o. length (lits_at words o) + 3) refs

-- `CopyInvariant words refs words' refs' i` holds if the live clauses among the first `i` of `refs` were copied to
-- `words'`, in order and none to a larger offset; `words'` has only their words, and its length is at most the offset
-- of every later clause.
pub record CopyInvariant (words refs words' refs' : List ℕ) (i : ℕ) : Type 0 where
  pub copies : CopiesClauses words (live_refs words (take i refs)) words' refs'
  pub holds_clauses : HoldsClauses words' refs'
  pub rising : AreStrictlyIncreasing refs'
  pub low : (k : ℕ) → k < length refs' → get_or refs' k 0 ≤ get_or (live_refs words (take i refs)) k 0
  pub room : (p : ℕ) → Contains (drop i refs) p → length words' ≤ p
  pub packed : length words' ≡ clause_word_count words' refs'

-- `CopiesOneClause words o to refs to' refs'` holds if a copy of the clause at `o` was appended to the buffer `to`, and
-- its reference to the list `refs`.
abbrev pub CopiesOneClause : (words : List ℕ) (o : ℕ) (to refs to' refs' : List ℕ) → Type 0
CopiesOneClause words o to refs to' refs' = (c : ℕ) × ((AppendsClause to to' c (header_at words o) (lits_at words o)) × (refs' ≡ refs ++ c ∷ []))

-- `ReasonNamesCopy live refs' r r'` holds if `r'` is `r` or, if `r` is a long clause of `live`, the clause at the same
-- place of `refs'`.
abbrev pub ReasonNamesCopy : (live refs' : List ℕ) → Reason → Reason → Type 0
ReasonNamesCopy live refs' NoCause r = r ≡ NoCause
ReasonNamesCopy live refs' (Binary ls) r = r ≡ Binary ls
ReasonNamesCopy live refs' (Long o) r = (k : ℕ) × ((k < length live) × (get_or live k 0 ≡ o) × (r ≡ Long (get_or refs' k 0)))

-- `ReasonNamesCopyOfFirst live refs' n r r'` holds if `r'` is `r` or, if `r` is one of the first `n` clauses of `live`,
-- the clause at the same place of `refs'`.
abbrev pub ReasonNamesCopyOfFirst : (live refs' : List ℕ) (n : ℕ) → Reason → Reason → Type 0
ReasonNamesCopyOfFirst live refs' n NoCause r = r ≡ NoCause
ReasonNamesCopyOfFirst live refs' n (Binary ls) r = r ≡ Binary ls
ReasonNamesCopyOfFirst live refs' n (Long o) r =
    ((k : ℕ) × ((k < n) × (get_or live k 0 ≡ o) × (r ≡ Long (get_or refs' k 0))))
    ⊎ ((r ≡ Long o) × ((k : ℕ) → k < n → get_or live k 0 ≢ o))

-- `ReasonsNameCopiesOfFirst live refs' lits n nodes nodes'` holds if each reason of `lits` that was one of the first
-- `n` clauses of `live` is now its copy (`ReasonNamesCopyOfFirst`). Levels, depths and the nodes whose reason is no
-- long clause are unchanged.
pub record ReasonsNameCopiesOfFirst (live refs' lits : List ℕ) (n : ℕ) (nodes nodes' : List ImplNode) : Type 0 where
  pub size : length nodes' ≡ length nodes
  pub levels : (v : ℕ) → (node_of nodes' v).level ≡ (node_of nodes v).level
  pub depths : (v : ℕ) → (node_of nodes' v).depth ≡ (node_of nodes v).depth
  pub others : (v : ℕ) → ((o : ℕ) → (node_of nodes v).reason ≡ Long o → ⊥) → node_of nodes' v ≡ node_of nodes v
  pub reasons : (i : ℕ) → i < length lits →
      ReasonNamesCopyOfFirst live refs' n (node_of nodes (variable (get_or lits i 0))).reason (node_of nodes' (variable (get_or lits i 0))).reason

-- `ReasonsNameCopies live refs' lits nodes nodes'` holds if each reason of `lits` that was a clause of `live` is now
-- its copy (`ReasonsNameCopiesOfFirst`).
abbrev pub ReasonsNameCopies : (live refs' lits : List ℕ) (nodes nodes' : List ImplNode) → Type 0
ReasonsNameCopies live refs' lits nodes nodes' = ReasonsNameCopiesOfFirst live refs' lits (length live) nodes nodes'

-- `CollectsGarbage words db nodes lits words' db' nodes'` holds if garbage was collected: the new list has exactly the
-- live clauses, in order, the buffer has only their words, and the reasons of `lits` name the copies of their clauses.
pub record CollectsGarbage (words : List ℕ) (db : Db) (nodes : List ImplNode) (lits words' : List ℕ) (db' : Db) (nodes' : List ImplNode) : Type 0 where
  pub copies : CopiesClauses words (live_refs words db.refs) words' db'.refs
  pub holds : DbMatchesBuffer words' db'
  pub live : live_refs words' db'.refs ≡ db'.refs
  pub packed : length words' ≡ clause_word_count words' db'.refs
  pub clean : db'.garbage ≡ 0
  pub counts : db'.counts ≡ db.counts
  pub size : length nodes' ≡ length nodes
  pub levels : (v : ℕ) → (node_of nodes' v).level ≡ (node_of nodes v).level
  pub depths : (v : ℕ) → (node_of nodes' v).depth ≡ (node_of nodes v).depth
  pub others : (v : ℕ) → ((o : ℕ) → (node_of nodes v).reason ≡ Long o → ⊥) → node_of nodes' v ≡ node_of nodes v
  pub reasons : (i : ℕ) → i < length lits →
      ReasonNamesCopy (live_refs words db.refs) db'.refs (node_of nodes (variable (get_or lits i 0))).reason (node_of nodes' (variable (get_or lits i 0))).reason

-- `ReasonsHaveLitFirst words live lits nodes` holds if the clause of every long reason of a literal of `lits` is in
-- `live` and has that literal first.
abbrev pub ReasonsHaveLitFirst : (words live lits : List ℕ) (nodes : List ImplNode) → Type 0
ReasonsHaveLitFirst words live lits nodes = (i o : ℕ) → i < length lits → (node_of nodes (variable (get_or lits i 0))).reason ≡ Long o → Contains live o × (lit_of words o 0 ≡ get_or lits i 0)

-- the list of clauses after garbage collection: the new offsets `refs'`, the counts by tier of `db`, and no garbage
abbrev pub after_collection : List ℕ → Db → Db
after_collection refs' db = record { refs = refs'; counts = db.counts; garbage = 0 }

-- `CollectsNothing words db nodes w words' db' nodes' w'` holds if the buffer, its list, the nodes and the watch lists
-- are unchanged.
abbrev pub CollectsNothing : (words : List ℕ) (db : Db) (nodes : List ImplNode) (w : WatchState) (words' : List ℕ) (db' : Db) (nodes' : List ImplNode) (w' : WatchState) → Type 0
CollectsNothing words db nodes w words' db' nodes' w' = (words' ≡ words) × (db' ≡ db) × (nodes' ≡ nodes) × (w' ≡ w)
