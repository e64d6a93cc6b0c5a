-- Example texts, with their meaning.
use Rattle.std.specs.Prelude.{ℕ, [], ◌∷◌, true, false, codes}
use Rattle.sat_base.specs.script.Script.{Literal, Clause, Ask, Hide, Witness, Sample, Clean, Malformed}
use Rattle.sat_base.specs.script.Language.{IsScript}

-- the positive literal of a name
abbrev pub positive_literal : ℕ → Literal
positive_literal name = record { name = name; positive = true }

-- the negative literal of a name
abbrev pub negative_literal : ℕ → Literal
negative_literal name = record { name = name; positive = false }

-- `ReadRows` holds if 26 example texts end cleanly with the commands given: among them several commands on a line,
-- commands over lines and comments, names above 2^28, a line `%` and text after it, and headers, which add the ask `a
-- 0` if the text has none.
pub record ReadRows : Type 0 where
  pub empty : IsScript [] [] Clean
  pub clause_and_ask : IsScript (codes "1 2 0\na 0\n") (Clause (positive_literal 1 ∷ positive_literal 2 ∷ []) ∷ Ask [] ∷ []) Clean
  pub no_last_LF : IsScript (codes "1 -2 0") (Clause (positive_literal 1 ∷ negative_literal 2 ∷ []) ∷ []) Clean
  pub two_on_a_line : IsScript (codes "1 0\t-1 0\r\n") (Clause (positive_literal 1 ∷ []) ∷ Clause (negative_literal 1 ∷ []) ∷ []) Clean
  pub comment_inside : IsScript (codes "1\nc x\n 2 0\n") (Clause (positive_literal 1 ∷ positive_literal 2 ∷ []) ∷ []) Clean
  pub comment_after_blanks : IsScript (codes " \tcx 3\n0\n") (Clause [] ∷ []) Clean
  pub zero_alone : IsScript (codes "0") (Clause [] ∷ []) Clean
  pub leading_zeros : IsScript (codes "007 000") (Clause (positive_literal 7 ∷ []) ∷ []) Clean
  pub past_the_limit : IsScript (codes "268435457 0") (Clause (positive_literal 268435457 ∷ []) ∷ []) Clean
  pub header : IsScript (codes "p cnf 1 1\n") (Ask [] ∷ []) Clean
  pub header_and_percent : IsScript (codes "p cnf 2 1\n1 2 0\n%\n0\n") (Clause (positive_literal 1 ∷ positive_literal 2 ∷ []) ∷ Ask [] ∷ []) Clean
  pub header_and_ask : IsScript (codes "p cnf 2 1\n1 0\na 0\n") (Clause (positive_literal 1 ∷ []) ∷ Ask [] ∷ []) Clean
  pub header_after_comment : IsScript (codes "c x\n p\tcnf 007 1 \r\n1 0") (Clause (positive_literal 1 ∷ []) ∷ Ask [] ∷ []) Clean
  pub long_number : IsScript (codes "p cnf 99999999999999999999 1") (Ask [] ∷ []) Clean
  pub percent : IsScript (codes "0\n%\n0\n") (Clause [] ∷ []) Clean
  pub percent_and_more : IsScript (codes "0\n \t%x 1\n+1 a") (Clause [] ∷ []) Clean
  pub percent_alone : IsScript (codes "%") [] Clean
  pub ask_under_literals : IsScript (codes "-1 -2 0\na 1 2 0\n") (Clause (negative_literal 1 ∷ negative_literal 2 ∷ []) ∷ Ask (positive_literal 1 ∷ positive_literal 2 ∷ []) ∷ []) Clean
  pub both_signs : IsScript (codes "a 1 -1 0") (Ask (positive_literal 1 ∷ negative_literal 1 ∷ []) ∷ []) Clean
  pub hidden : IsScript (codes "1 0\nh 1 0\n-1 0\na 0\n") (Clause (positive_literal 1 ∷ []) ∷ Hide (1 ∷ []) ∷ Clause (negative_literal 1 ∷ []) ∷ Ask [] ∷ []) Clean
  pub modes : IsScript (codes "w 1 2 0 s 2 0") (Witness (1 ∷ 2 ∷ []) ∷ Sample (2 ∷ []) ∷ []) Clean
  pub no_names : IsScript (codes "h 0 w 0 s 0") (Hide [] ∷ Witness [] ∷ Sample [] ∷ []) Clean
  pub over_lines : IsScript (codes "a\nc x\n 1\n0") (Ask (positive_literal 1 ∷ []) ∷ []) Clean
  pub ask_past_the_limit : IsScript (codes "p cnf 1 0\na 268435457 0") (Ask (positive_literal 268435457 ∷ []) ∷ []) Clean
  pub hidden_past_the_limit : IsScript (codes "h 99999999999999999999 0") (Hide (99999999999999999999 ∷ []) ∷ []) Clean
  pub header_asks : IsScript (codes "p cnf 2 1\nw 1 0\n%\n0\n") (Witness (1 ∷ []) ∷ Ask [] ∷ []) Clean

-- `MalformedRows` holds if 36 example texts are malformed after the commands given: among them `-0`, `+1`, a letter in
-- a clause, negative names after `h`, `w` or `s`, wrong, late or repeated headers, and texts that end inside a command.
pub record MalformedRows : Type 0 where
  pub comment_after_word : IsScript (codes "c x\n1 c\n") [] Malformed
  pub minus_zero : IsScript (codes "-0 0") [] Malformed
  pub minus_zeros : IsScript (codes "1 0 -00 0") (Clause (positive_literal 1 ∷ []) ∷ []) Malformed
  pub plus_sign : IsScript (codes "+1 0") [] Malformed
  pub minus_alone : IsScript (codes "- 1 0") [] Malformed
  pub digits_and_more : IsScript (codes "1x 0") [] Malformed
  pub letter_in_clause : IsScript (codes "1 a 0") [] Malformed
  pub other_letter : IsScript (codes "b 0") [] Malformed
  pub vertical_tab : IsScript (49 ∷ 11 ∷ 48 ∷ []) [] Malformed
  pub form_feed : IsScript (49 ∷ 32 ∷ 48 ∷ 12 ∷ []) [] Malformed
  pub two_letters : IsScript (codes "aa 0") [] Malformed
  pub one_number : IsScript (codes "p cnf 1\n") [] Malformed
  pub three_numbers : IsScript (codes "p cnf 1 1 1\n") [] Malformed
  pub other_format : IsScript (codes "p dnf 1 1\n") [] Malformed
  pub plus_in_header : IsScript (codes "p cnf +1 1") [] Malformed
  pub minus_in_header : IsScript (codes "p cnf -1 1") [] Malformed
  pub no_blank_after_p : IsScript (codes "pcnf 1 1\n") [] Malformed
  pub header_cut : IsScript (codes "p cnf 1\n1") [] Malformed
  pub two_headers : IsScript (codes "p cnf 1 1\np cnf 1 1\n") [] Malformed
  pub header_after_clause : IsScript (codes "1 0\np cnf 1 1\n") (Clause (positive_literal 1 ∷ []) ∷ []) Malformed
  pub header_in_clause : IsScript (codes "1\np cnf 1 1\n0") [] Malformed
  pub header_inside_a_line : IsScript (codes "1 p cnf 1 1") [] Malformed
  pub header_and_cut : IsScript (codes "p cnf 1 1\n1") [] Malformed
  pub header_and_wrong : IsScript (codes "p cnf 1 1\n1 0 x1") (Clause (positive_literal 1 ∷ []) ∷ []) Malformed
  pub percent_in_clause : IsScript (codes "1\n%\n") [] Malformed
  pub percent_inside_a_line : IsScript (codes "1 0 %") (Clause (positive_literal 1 ∷ []) ∷ []) Malformed
  pub percent_after_a : IsScript (codes "a\n%\n") [] Malformed
  pub cut_in_clause : IsScript (codes "1 2") [] Malformed
  pub cut_after_a : IsScript (codes "0 a") (Clause [] ∷ []) Malformed
  pub letter_in_ask : IsScript (codes "0 a h 0") (Clause [] ∷ []) Malformed
  pub negative_name : IsScript (codes "1 0\nh -1 0") (Clause (positive_literal 1 ∷ []) ∷ []) Malformed
  pub negative_witness : IsScript (codes "w -1 0") [] Malformed
  pub negative_sample : IsScript (codes "s 1 -2 0") [] Malformed
  pub large_letter : IsScript (codes "A 0") [] Malformed
  pub minus_zero_ends_ask : IsScript (codes "a -0") [] Malformed
  pub cut_after_names : IsScript (codes "p cnf 1 1\nw 1") [] Malformed
