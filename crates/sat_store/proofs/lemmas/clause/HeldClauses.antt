-- For callers in other crates: the effect of a call on one clause on the other live clauses.
use Rattle.std.proofs.Common.{◌≡◌, ◌≢◌, ℕ, ◌+◌, ◌*◌, ◌<◌, ◌≤◌, inl, inr, List, [], length, get_or, arith, sym, ◌∙◌}
use Rattle.std.proofs.lemmas.List.{get_or_default}
use Rattle.std.specs.List.{Contains, All}
use Rattle.sat_base.specs.values.Literals.{var_limit}
use Rattle.sat_store.specs.clause.Header.{Header}
use Rattle.sat_store.specs.clause.Buffer.{header_at, lits_at, IsClause, HaveNoCommonWord, HoldsClauses, SameClauseAt, ChangesClauseAt, AppendsClause}
use Rattle.sat_store.proofs.lemmas.clause.BufferLemmas.{lits_count, lit_there, header_len}

-- an empty list of live clauses is always held
pub holds_none : (words : List ℕ) → HoldsClauses words []
holds_none words = record {
  clauses = λ o (k, h, e). absurd (omega arith);
  apart = λ o p (k, h, e) has differ. absurd (omega arith);
}

-- a list of some of the live clauses, in any order, is also held
pub holds_among : (words live some : List ℕ) → ((o : ℕ) → Contains some o → Contains live o) → HoldsClauses words live → HoldsClauses words some
holds_among words live some among holds_clauses = record {
  clauses = λ o has. holds_clauses.clauses o (among o has);
  apart = λ o p has_o has_p differ. holds_clauses.apart o p (among o has_o) (among p has_p) differ;
}

-- changing one live clause leaves every other one unchanged
pub kept_beside : (old new live : List ℕ) (o p : ℕ) → HoldsClauses old live → Contains live o → Contains live p → p ≢ o → ChangesClauseAt old new o → SameClauseAt old new p
kept_beside old new live o p holds_clauses has_o has_p differ change = change.others p (holds_clauses.clauses p has_p) (holds_clauses.apart o p has_o has_p (λ e. differ (sym e)))

-- appending a clause leaves every live clause unchanged
pub kept_below : (old new live : List ℕ) (c p : ℕ) (header : Header) (lits : List ℕ) → HoldsClauses old live → Contains live p → AppendsClause old new c header lits → SameClauseAt old new p
kept_below old new live c p header lits holds_clauses has added = added.others p (holds_clauses.clauses p has)

-- the number of literals is the length in the header
pub same_count : (words : List ℕ) (o : ℕ) → IsClause words o → length (lits_at words o) ≡ (header_at words o).len
same_count words o clause = lits_count words o clause ∙ sym (header_len words o)

-- every literal is the code of a literal
pub lits_fit : (words : List ℕ) (o : ℕ) → IsClause words o → All (λ l. l < 2 * var_limit) (lits_at words o)
lits_fit words o clause k d small =
    let n : length (lits_at words o) ≡ get_or words (o + 2) 0 = lits_count words o clause in
    let there : get_or (lits_at words o) k 0 ≡ get_or words (o + 3 + k) 0 = lit_there words o k (omega arith) in
    let at : get_or (lits_at words o) k d ≡ get_or (lits_at words o) k 0 = get_or_default (lits_at words o) k d 0 small in
    omega (arith, clause.lits k (omega arith))

-- a clause lies within the buffer
pub clause_within : (words : List ℕ) (o : ℕ) → IsClause words o → o + 3 + length (lits_at words o) ≤ length words
clause_within words o clause = omega (arith, lits_count words o clause, clause.whole)

-- if a live clause begins before another, its words end before the other begins
pub ends_before : (words live : List ℕ) (o p : ℕ) → HoldsClauses words live → Contains live o → Contains live p → o < p → o + 3 + length (lits_at words o) ≤ p
unfolding HaveNoCommonWord
ends_before words live o p holds_clauses has_o has_p lt =
    let n : length (lits_at words o) ≡ get_or words (o + 2) 0 = lits_count words o (holds_clauses.clauses o has_o) in
    elim (holds_clauses.apart o p has_o has_p (λ e. omega arith)) [ inl before ↦ omega arith | inr following ↦ omega arith ]
