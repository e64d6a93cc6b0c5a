-- The example texts have the stated meaning, by computation.
use Rattle.std.proofs.Common.{refl}
use Rattle.sat_base.specs.text.Text.{lines, words, first_nonblank_is, tokens_of, digits, token, scan}
use Rattle.sat_base.specs.script.Language.{commands_of, plain_reading, reading}
use Rattle.sat_base.specs.script.ScriptRows.{ReadRows, MalformedRows}

pub read_rows : ReadRows
unfolding lines words first_nonblank_is tokens_of digits token scan commands_of plain_reading reading
read_rows = record {
  empty = refl;
  clause_and_ask = refl;
  no_last_LF = refl;
  two_on_a_line = refl;
  comment_inside = refl;
  comment_after_blanks = refl;
  zero_alone = refl;
  leading_zeros = refl;
  past_the_limit = refl;
  header = refl;
  header_and_percent = refl;
  header_and_ask = refl;
  header_after_comment = refl;
  long_number = refl;
  percent = refl;
  percent_and_more = refl;
  percent_alone = refl;
  ask_under_literals = refl;
  both_signs = refl;
  hidden = refl;
  modes = refl;
  no_names = refl;
  over_lines = refl;
  ask_past_the_limit = refl;
  hidden_past_the_limit = refl;
  header_asks = refl;
}

pub malformed_rows : MalformedRows
unfolding lines words first_nonblank_is tokens_of digits token scan commands_of plain_reading reading
malformed_rows = record {
  comment_after_word = refl;
  minus_zero = refl;
  minus_zeros = refl;
  plus_sign = refl;
  minus_alone = refl;
  digits_and_more = refl;
  letter_in_clause = refl;
  other_letter = refl;
  vertical_tab = refl;
  form_feed = refl;
  two_letters = refl;
  one_number = refl;
  three_numbers = refl;
  other_format = refl;
  plus_in_header = refl;
  minus_in_header = refl;
  no_blank_after_p = refl;
  header_cut = refl;
  two_headers = refl;
  header_after_clause = refl;
  header_in_clause = refl;
  header_inside_a_line = refl;
  header_and_cut = refl;
  header_and_wrong = refl;
  percent_in_clause = refl;
  percent_inside_a_line = refl;
  percent_after_a = refl;
  cut_in_clause = refl;
  cut_after_a = refl;
  letter_in_ask = refl;
  negative_name = refl;
  negative_witness = refl;
  negative_sample = refl;
  large_letter = refl;
  minus_zero_ends_ask = refl;
  cut_after_names = refl;
}
