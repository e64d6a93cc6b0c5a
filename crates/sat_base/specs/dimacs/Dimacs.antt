-- The clauses of a text in DIMACS CNF.
use Rattle.std.specs.Prelude.{ℕ, ◌-◌, ◌≡◌, Bool, false, not, ◌||◌, List, [], ◌∷◌, ◌++◌, Option, None, Some, nat_eq, nat_lt, if◌then◌else◌}
use Rattle.sat_base.specs.values.Literals.{mk_lit, var_limit}
use Rattle.sat_base.specs.text.Text.{Token, Number, Letter, Header, Wrong, Scan, scan, is_blank}

-- how a formula's text ends: cleanly, malformed (at a wrong word or inside a clause), or at a number past the limit; a
-- fault has a line, counted from 1
pub data Ending : Type 0 where
  Clean : Ending
  Malformed : ℕ → Ending
  Limit : ℕ → Ending

-- the meaning of a formula's text: its complete clauses, and how it ends
pub record Dimacs : Type 0 where
  pub clauses : List (List ℕ)  -- in order; literals are codes
  pub ending : Ending

-- the literals so far of the unfinished clause, or `None` between clauses
abbrev pub PartialClause : Type 0
PartialClause = Option (List ℕ)

-- the effect of a token: the unfinished clause is now this one or none, a clause ends, or the text ends with a fault
pub data TokenEffect : Type 0 where
  Continues : PartialClause → TokenEffect
  EndsClause : List ℕ → TokenEffect
  Fails : Ending → TokenEffect

-- the literals of the unfinished clause, none between clauses
abbrev pub literals_in : PartialClause → List ℕ
literals_in None = []
literals_in (Some ls) = ls

-- the effect of a number other than 0 on this line: its literal is added to the unfinished clause, or it is a fault if
-- its absolute value `value` exceeds 2^28
abbrev pub number_effect : PartialClause → ℕ → Bool → ℕ → TokenEffect
number_effect unfinished line negative value =
    if nat_lt var_limit value then Fails (Limit line) else Continues (Some (literals_in unfinished ++ mk_lit (value - 1) (not negative) ∷ []))

-- the effect of a token on this line: a number adds its literal to the clause `unfinished`, 0 ends it, a header changes
-- nothing, and letters and wrong words are faults
abbrev pub token_effect : PartialClause → ℕ → Token → TokenEffect
token_effect unfinished line (Number negative value) = if nat_eq value 0 then EndsClause (literals_in unfinished) else number_effect unfinished line negative value
token_effect unfinished line (Header v c) = Continues unfinished
token_effect unfinished line (Letter b) = Fails (Malformed line)
token_effect unfinished line Wrong = Fails (Malformed line)

-- the ending if the text ends here: within a clause it is malformed, on the last line
abbrev pub ending_here : PartialClause → ℕ → Ending
ending_here None last = Clean
ending_here (Some ls) last = Malformed last

-- the meaning of a text after the effect of a token; `more` gives the meaning of the later tokens
abbrev pub after_token_effect : TokenEffect → (PartialClause → Dimacs) → Dimacs
after_token_effect (Continues unfinished) more = more unfinished
after_token_effect (EndsClause clause) more = record { clauses = clause ∷ (more None).clauses; ending = (more None).ending }
after_token_effect (Fails ending) more = record { clauses = []; ending = ending }

-- the clauses that the tokens complete, and the ending, if `unfinished` is the clause begun before them; `last` is the
-- number of the text's last line
unfoldable pub clauses_of : PartialClause → ℕ → List (ℕ × Token) → Dimacs
clauses_of unfinished last [] = record { clauses = []; ending = ending_here unfinished last }
clauses_of unfinished last (t ∷ ts) = after_token_effect (token_effect unfinished t.0 t.1) (λ h. clauses_of h last ts)

-- the clauses that the tokens of a scan complete, and the ending, if `unfinished` is the clause begun before them
abbrev pub dimacs_of : PartialClause → Scan → Dimacs
dimacs_of unfinished s = clauses_of unfinished s.last s.tokens

-- the meaning of a text in DIMACS CNF: the clauses completed before its end or first fault, and how it ends
unfoldable pub dimacs : List ℕ → Dimacs
dimacs text = dimacs_of None (scan text)

-- `has_blank bytes` is true if one of the bytes is a blank.
abbrev pub has_blank : List ℕ → Bool
has_blank [] = false
has_blank (b ∷ bs) = is_blank b || has_blank bs

-- the text up to and including its last blank, so that every word in it has ended; empty if it has no blank
abbrev pub up_to_last_blank : List ℕ → List ℕ
up_to_last_blank [] = []
up_to_last_blank (b ∷ bs) = if has_blank (b ∷ bs) then b ∷ up_to_last_blank bs else []

-- `IsDimacs text clauses end` holds if the DIMACS text has exactly these complete clauses, before its end or first
-- fault, and this ending.
abbrev pub IsDimacs : List ℕ → List (List ℕ) → Ending → Type 0
IsDimacs text clauses end = dimacs text ≡ record { clauses = clauses; ending = end }
