-- Where a parser is in a formula's text.
use Rattle.std.specs.Prelude.{◌≡◌, ℕ, length, List, [], ◌++◌, true, false, None, Some, Result, Ok, Err}
use Rattle.sat_base.specs.declared.dimacs.parser.Parser.{Parser}
use Rattle.sat_base.specs.declared.dimacs.error.DimacsError.{DimacsError}
use Rattle.sat_base.specs.declared.dimacs.error.DimacsError.TheVariants as errors
use Rattle.sat_base.specs.text.Text.{is_blank, Token, Scan, scan, header_of_tokens, dimacs_header}
use Rattle.sat_base.specs.text.Position.{prepend_tokens}
use Rattle.sat_base.specs.text.WrongWords.{HasValidContinuation}
use Rattle.sat_base.specs.text.Tokenizing.{capped, HasRemainingScan, HasNoNumberOrLetter}
use Rattle.sat_base.specs.values.Formulas.{clauses_var_count}
use Rattle.sat_base.specs.dimacs.Dimacs.{PartialClause, Dimacs, clauses_of}
use Rattle.sat_base.specs.dimacs.Collecting.{partial_clause_in}
use Rattle.sat_base.specs.dimacs.Parsing.{Progress, HaveNoFault, clauses_read, lines_read, whole_lines, capped_header, last_byte}

-- the progress of the parser `p`: bytes accepted, clauses taken, and whether it has stopped or its text has ended
abbrev pub progress_of : Parser → Progress
progress_of p = record { fed = p.history.fed; taken = p.history.taken; stopped = p.stopped; ended = p.ended }

-- the result of a call that borrows a parser: the progress `p` of the parser after it if it succeeds, otherwise its
-- error
abbrev pub with_parser : {E : Type 0} → Progress → Result (Unit {0}) E → Result Progress E
with_parser p (Ok u) = Ok p
with_parser p (Err e) = Err e

-- all clauses of a parser: those taken, then those not yet taken
abbrev pub all_clauses_of : Parser → List (List ℕ)
all_clauses_of p = p.history.taken ++ p.clauses.formula.clauses

-- the meaning of a text, with the clauses `cs` before its own
abbrev pub prepend_clauses : List (List ℕ) → Dimacs → Dimacs
prepend_clauses cs d = record { clauses = cs ++ d.clauses; ending = d.ending }

-- `CompleteClauses before all unfinished` holds if the tokens `before` complete the clauses `all` without a fault, and
-- leave the clause `unfinished`: whatever tokens follow, the clauses are `all` and then those that they complete from
-- `unfinished` on.
pub record CompleteClauses (before : List (ℕ × Token)) (all : List (List ℕ)) (unfinished : PartialClause) : Type 0 where
  pub says : (last : ℕ) (ts : List (ℕ × Token)) → clauses_of None last (before ++ ts) ≡ prepend_clauses all (clauses_of unfinished last ts)
  pub sound : (ts : List (ℕ × Token)) → HaveNoFault unfinished ts → HaveNoFault None (before ++ ts)

-- `RunningParserInvariant p` holds if the tokenizer, the clauses and the header of a parser that has not stopped agree
-- with the bytes that it has accepted, which have no fault so far.
pub record RunningParserInvariant (p : Parser) : Type 0 where
  pub ended : p.ended ≡ false
  pub before : List (ℕ × Token)  -- the tokens so far
  pub left_of : List ℕ → Scan  -- how the bytes that follow will be read, for any such bytes
  pub valid : HasRemainingScan p.tokenizer left_of
  pub scans : (rest : List ℕ) → scan (p.history.fed ++ rest) ≡ prepend_tokens before (left_of rest)
  pub turned : CompleteClauses before (all_clauses_of p) (partial_clause_in p.clauses)
  pub heads : dimacs_header (whole_lines p.history.fed) ≡ header_of_tokens before
  pub sound : HaveNoFault None (scan (whole_lines p.history.fed)).tokens
  pub quiet : is_blank (last_byte p.history.fed) ≡ true → HasNoNumberOrLetter (left_of [])
  pub right : HasValidContinuation left_of

-- `ParserInvariant p` holds if the clauses, the count, the number of variables and the header of the parser `p` match
-- the bytes that it has accepted (counts are capped at 2^64 - 1), and `RunningParserInvariant` holds unless it has
-- stopped.
pub record ParserInvariant (p : Parser) : Type 0 where
  pub clauses : clauses_read (progress_of p) ≡ all_clauses_of p
  pub count : p.clauses.count ≡ capped (length (all_clauses_of p))
  pub vars : p.clauses.formula.var_count ≡ clauses_var_count (all_clauses_of p)
  pub header : p.clauses.header ≡ capped_header (dimacs_header (lines_read (progress_of p)))
  pub goes : p.stopped ≡ false → RunningParserInvariant p

-- `IsResultOfEnd result p` holds if `result` is that of the end of the text after its last word: `Ok` if no clause is
-- unfinished, otherwise malformed on the last line.
abbrev pub IsResultOfEnd : Result (Unit {0}) DimacsError → Parser → Type 0
IsResultOfEnd (Ok u) p = partial_clause_in p.clauses ≡ None
IsResultOfEnd (Err (errors.Malformed line)) p =
    ((ls : List ℕ) × (partial_clause_in p.clauses ≡ Some ls))
    × ((before : List ℕ → Scan) → HasRemainingScan p.tokenizer before → line ≡ capped (before []).last)
IsResultOfEnd (Err e) p = ⊥
