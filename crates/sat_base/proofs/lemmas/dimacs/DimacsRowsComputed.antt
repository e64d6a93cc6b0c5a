-- The example texts of formulas have the stated meaning, by computation.
use Rattle.std.proofs.Common.{refl}
use Rattle.sat_base.specs.text.Text.{lines, words, first_nonblank_is, tokens_of, last_line, digits, token, scan}
use Rattle.sat_base.specs.dimacs.Dimacs.{clauses_of, dimacs}
use Rattle.sat_base.specs.dimacs.DimacsRows.{CleanRows, FaultRows, HeaderRows, PrefixRows}

pub clean_rows : CleanRows
unfolding lines words first_nonblank_is tokens_of last_line digits token scan clauses_of dimacs
clean_rows = record {
  empty = refl;
  header_alone = refl;
  header_and_clause = refl;
  fewer_than_said = refl;
  no_clause = refl;
  over_lines = refl;
  percent = refl;
  largest = refl;
}

pub fault_rows : FaultRows
unfolding lines words first_nonblank_is tokens_of last_line digits token scan clauses_of dimacs
fault_rows = record {
  minus_zero = refl;
  past_the_limit = refl;
  long_number = refl;
  inside_a_clause = refl;
  inside_a_clause_at_percent = refl;
  letter = refl;
  vertical_tab = refl;
  form_feed = refl;
  late_header = refl;
  first_fault = refl;
}

pub header_rows : HeaderRows
unfolding lines words first_nonblank_is tokens_of last_line digits token scan
header_rows = record { numbers = refl; no_LF = refl; none = refl }

pub part_rows : PrefixRows
part_rows = record { to_the_blank = refl; to_a_blank_alone = refl; to_the_LF = refl }
