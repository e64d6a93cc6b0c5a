-- How the clauses of a formula are collected from tokens.
use Rattle.std.specs.Prelude.{◌≡◌, ℕ, ◌+◌, ◌⊎◌, Bool, true, false, not, ◌&&◌, nat_eq, nat_lt, List, [], ◌∷◌, Option, None, Some, Result, Ok, Err}
use Rattle.sat_base.specs.declared.dimacs.clauses.Clauses.{Clauses}
use Rattle.sat_base.specs.declared.dimacs.clauses.Refusal.{Refusal}
use Rattle.sat_base.specs.declared.dimacs.clauses.Refusal.TheVariants as refusal
use Rattle.sat_base.specs.declared.text.Token.{Token as CodeToken}
use Rattle.sat_base.specs.declared.text.Token.TheVariants as code
use Rattle.sat_base.specs.text.Text.{Token, Number, Letter, Header, Wrong}
use Rattle.sat_base.specs.text.Tokenizing.{capped}
use Rattle.sat_base.specs.values.Formulas.{with_formula_clause}
use Rattle.sat_base.specs.dimacs.Dimacs.{Malformed, Limit, PartialClause, TokenEffect, Continues, EndsClause, Fails, literals_in, token_effect}
use Rattle.sat_base.specs.values.Literals.{var_limit}

-- the token that a token of the code stands for; its numbers are those of the code, which are capped at 2^64 - 1
abbrev pub token_of : CodeToken → Token
token_of (code.Number negative value) = Number negative value
token_of (code.Letter b) = Letter b
token_of (code.Header v c) = Header v c
token_of code.Wrong = Wrong

-- the unfinished clause with these literals, or `None` if there are no literals
abbrev pub partial_clause_of : List ℕ → PartialClause
partial_clause_of [] = None
partial_clause_of (l ∷ ls) = Some (l ∷ ls)

-- the unfinished clause of `clauses`, or `None` if it has no literals
abbrev pub partial_clause_in : Clauses → PartialClause
partial_clause_in clauses = partial_clause_of clauses.unfinished.items

-- the header after a token: the token's numbers if it is a header, otherwise the header so far
abbrev pub header_after : Token → Option (ℕ × ℕ) → Option (ℕ × ℕ)
header_after (Number negative value) header = header
header_after (Letter b) header = header
header_after (Header v c) header = Some (v, c)
header_after Wrong header = header

-- `SameClausesAndCount old new` holds if neither the complete clauses nor their count changed.
abbrev pub SameClausesAndCount : Clauses → Clauses → Type 0
SameClausesAndCount old new = (new.formula ≡ old.formula) × (new.count ≡ old.count)

-- `SameClausesAndHeader old new` holds if neither the complete clauses nor their count nor the header changed.
abbrev pub SameClausesAndHeader : Clauses → Clauses → Type 0
SameClausesAndHeader old new = SameClausesAndCount old new × (new.header ≡ old.header)

-- `AppliesTokenEffect effect old new` holds if the clauses collected so far changed from `old` to `new` as `effect`
-- says: only the unfinished clause changed, or it ended and was added to the formula. It never holds for a fault.
abbrev pub AppliesTokenEffect : TokenEffect → Clauses → Clauses → Type 0
AppliesTokenEffect (Continues unfinished) old new = SameClausesAndCount old new × (partial_clause_in new ≡ unfinished)
AppliesTokenEffect (EndsClause clause) old new = (new.formula ≡ with_formula_clause clause old.formula) × (new.count ≡ capped (old.count + 1)) × (partial_clause_in new ≡ None)
AppliesTokenEffect (Fails ending) old new = ⊥

-- `is_literal token` is true if `token` is a literal: a number from 1 up to the limit, of either sign.
abbrev pub is_literal : Token → Bool
is_literal (Number negative value) = not (nat_eq value 0) && not (nat_lt var_limit value)
is_literal (Letter b) = false
is_literal (Header v c) = false
is_literal Wrong = false

-- `IsLiteralOrEndsClause t` holds if the token `t` may need memory: it is a literal, or it ends a clause.
abbrev pub IsLiteralOrEndsClause : Token → Type 0
IsLiteralOrEndsClause t = (is_literal t ≡ true) ⊎ ((unfinished : PartialClause) (n : ℕ) → token_effect unfinished n t ≡ EndsClause (literals_in unfinished))

-- `CollectsToken result old t new` holds if collecting the token `t` with `result` has led from `old` to `new`: with
-- `Ok`, its effect is applied; with an error, nothing changed, and `t` is the reported fault, or memory ran out and `t`
-- is a literal or ends a clause.
abbrev pub CollectsToken : Result (Unit {0}) Refusal → Clauses → Token → Clauses → Type 0
CollectsToken (Ok u) old t new = ((n : ℕ) → AppliesTokenEffect (token_effect (partial_clause_in old) n t) old new) × (new.header ≡ header_after t old.header)
CollectsToken (Err refusal.Malformed) old t new = SameClausesAndHeader old new × ((n : ℕ) → token_effect (partial_clause_in old) n t ≡ Fails (Malformed n))
CollectsToken (Err refusal.Limit) old t new = SameClausesAndHeader old new × ((n : ℕ) → token_effect (partial_clause_in old) n t ≡ Fails (Limit n))
CollectsToken (Err refusal.OutOfMemory) old t new = SameClausesAndHeader old new × IsLiteralOrEndsClause t

-- `IsUnfinishedFlag flag unfinished` holds if `flag` says whether a clause is unfinished.
abbrev pub IsUnfinishedFlag : Bool → PartialClause → Type 0
IsUnfinishedFlag false unfinished = unfinished ≡ None
IsUnfinishedFlag true unfinished = (ls : List ℕ) × (unfinished ≡ Some ls)
