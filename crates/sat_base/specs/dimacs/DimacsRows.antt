-- Example texts of formulas, with their meaning.
use Rattle.std.specs.Prelude.{◌≡◌, ℕ, ◌-◌, List, [], ◌∷◌, true, false, None, Some, codes}
use Rattle.sat_base.specs.values.Literals.{mk_lit}
use Rattle.sat_base.specs.text.Text.{dimacs_header}
use Rattle.sat_base.specs.dimacs.Dimacs.{Clean, Malformed, Limit, up_to_last_blank, IsDimacs}
use Rattle.sat_base.specs.dimacs.Parsing.{whole_lines}

-- the positive literal of the variable with the number `n`, counted from 1
abbrev pub positive_lit : ℕ → ℕ
positive_lit n = mk_lit (n - 1) true

-- the negative literal of the variable with the number `n`, counted from 1
abbrev pub negative_lit : ℕ → ℕ
negative_lit n = mk_lit (n - 1) false

-- `HasHeader text v c` holds if the header of the text gives `v` variables and `c` clauses.
abbrev pub HasHeader : List ℕ → ℕ → ℕ → Type 0
HasHeader text v c = dimacs_header text ≡ Some (v, c)

-- `CleanRows` holds if eight example texts end cleanly with the clauses given, among them the empty text, a header
-- only, fewer clauses than the header says, two empty clauses (`0 0`), a clause over lines with a comment, a line `%`
-- after a clause, and the literal -268435456.
pub record CleanRows : Type 0 where
  pub empty : IsDimacs [] [] Clean
  pub header_alone : IsDimacs (codes "p cnf 0 0") [] Clean
  pub header_and_clause : IsDimacs (codes "p cnf 2 1\n1 -2 0\n") ((positive_lit 1 ∷ negative_lit 2 ∷ []) ∷ []) Clean
  pub fewer_than_said : IsDimacs (codes "p cnf 9 9\n1 0") ((positive_lit 1 ∷ []) ∷ []) Clean
  pub no_clause : IsDimacs (codes "0 0\n") ([] ∷ [] ∷ []) Clean
  pub over_lines : IsDimacs (codes "1\nc 3\n\t-2\r\n0 3 0") ((positive_lit 1 ∷ negative_lit 2 ∷ []) ∷ (positive_lit 3 ∷ []) ∷ []) Clean
  pub percent : IsDimacs (codes "1 0\n%\n0\n") ((positive_lit 1 ∷ []) ∷ []) Clean
  pub largest : IsDimacs (codes "-268435456 0") ((negative_lit 268435456 ∷ []) ∷ []) Clean

-- `FaultRows` holds if ten example texts have the given fault, line and earlier clauses: among them `-0`, a vertical
-- tab, a letter, a header after a clause, a text or a line `%` that ends inside a clause, and numbers above 268435456.
pub record FaultRows : Type 0 where
  pub minus_zero : IsDimacs (codes "1 2\n-0 0\n") [] (Malformed 2)
  pub past_the_limit : IsDimacs (codes "1 0\n268435457 0\n") ((positive_lit 1 ∷ []) ∷ []) (Limit 2)
  pub long_number : IsDimacs (codes "-99999999999999999999 0") [] (Limit 1)
  pub inside_a_clause : IsDimacs (codes "1 0\n\n2\n") ((positive_lit 1 ∷ []) ∷ []) (Malformed 3)
  pub inside_a_clause_at_percent : IsDimacs (codes "1\n%\n") [] (Malformed 2)
  pub letter : IsDimacs (codes "a 0") [] (Malformed 1)
  pub vertical_tab : IsDimacs (49 ∷ 11 ∷ 48 ∷ []) [] (Malformed 1)
  pub form_feed : IsDimacs (49 ∷ 32 ∷ 48 ∷ 12 ∷ []) [] (Malformed 1)
  pub late_header : IsDimacs (codes "1 0\np cnf 1 1\n") ((positive_lit 1 ∷ []) ∷ []) (Malformed 2)
  pub first_fault : IsDimacs (codes "268435457 x\n") [] (Limit 1)

-- `HeaderRows` holds if `p cnf 2 1` after a comment is the header 2 and 1, `p cnf 07 99999999999999999999` is one with
-- these numbers, uncapped, and the text `1 0` has no header.
pub record HeaderRows : Type 0 where
  pub numbers : HasHeader (codes "c x\np cnf 2 1\n1 -2 0\n") 2 1
  pub no_LF : HasHeader (codes "p cnf 07 99999999999999999999") 7 99999999999999999999
  pub none : dimacs_header (codes "1 0\n") ≡ None

-- `PrefixRows` holds if `1 0\n23` and `1 0 2` up to their last blank are `1 0\n` and `1 0 `, and the complete lines of
-- `1 0\n2 3` are `1 0\n` (`\n` is LF).
pub record PrefixRows : Type 0 where
  pub to_the_blank : up_to_last_blank (codes "1 0\n23") ≡ codes "1 0\n"
  pub to_a_blank_alone : up_to_last_blank (codes "1 0 2") ≡ codes "1 0 "
  pub to_the_LF : whole_lines (codes "1 0\n2 3") ≡ codes "1 0\n"
