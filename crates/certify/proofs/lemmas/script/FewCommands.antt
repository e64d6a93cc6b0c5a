-- A text has at most two more commands than bytes.
use Rattle.std.proofs.Common.{ℕ, ◌+◌, ◌≤◌, ◌<◌, ◌≡◌, ◌∙◌, Bool, true, false, not, ◌&&◌, cond, nat_eq, is_some, List, [], ◌∷◌, ◌++◌, length, length-append, refl, sym, subst, arith}
use Rattle.std.proofs.lemmas.List.{length-map}
use Rattle.sat_base.specs.text.Text.{Token, is_blank, begins_nonblank, first_nonblank_is, header_if, dimacs_header, has_no_words, lines, prepend_to_first, tokens_on_line, words, token, tokens, tokens_of, scan}
use Rattle.sat_base.specs.script.Script.{Command, Ask, Clean, Malformed, has_ask, is_clean}
use Rattle.sat_base.specs.script.Language.{Reading, PartialCommand, NoCommand, InCommand, CommandTokenEffect, Continues, EndsCommand, Fails, script_ending_here, after_command_token_effect, commands_of, prepend_commands, reading, without_lines, command_token_effect, with_ask, plain_reading}
use Rattle.certify.specs.confirm.VerdictPromises.{command_count}

-- WORDS AND LINES

firsts : (b : ℕ) (ws : List (List ℕ)) → length (prepend_to_first b ws) ≤ length ws + 1
firsts b [] = omega arith
firsts b (w ∷ ws) = omega arith

words_next : (b : ℕ) (bs : List ℕ) → length (words (b ∷ bs)) ≤ length (words bs) + 1
unfolding words
words_next b bs = go (is_blank b) (begins_nonblank bs)
  where
    go : (x y : Bool) → length (cond x (words bs) (cond y (prepend_to_first b (words bs)) ((b ∷ []) ∷ words bs))) ≤ length (words bs) + 1
    go true y = omega arith
    go false true = firsts b (words bs)
    go false false = omega arith

no_words : length (words []) ≤ 0
unfolding words
no_words = omega arith

few_words : (line : List ℕ) → length (words line) ≤ length line
few_words [] = no_words
few_words (b ∷ bs) = let h = few_words bs in let k = words_next b bs in omega arith

-- the number of bytes in lines
abbrev total : List (List ℕ) → ℕ
total [] = 0
total (line ∷ ls) = length line + total ls

firsts_total : (b : ℕ) (ls : List (List ℕ)) → total (prepend_to_first b ls) ≤ total ls + 1
firsts_total b [] = omega arith
firsts_total b (line ∷ ls) = omega arith

lines_next : (b : ℕ) (bs : List ℕ) → total (lines (b ∷ bs)) ≤ total (lines bs) + 1
unfolding lines
lines_next b bs = go (nat_eq b 10)
  where
    go : (x : Bool) → total (cond x ((b ∷ []) ∷ lines bs) (prepend_to_first b (lines bs))) ≤ total (lines bs) + 1
    go true = omega arith
    go false = firsts_total b (lines bs)

no_lines : total (lines []) ≤ 0
unfolding lines
no_lines = omega arith

few_bytes : (text : List ℕ) → total (lines text) ≤ length text
few_bytes [] = no_lines
few_bytes (b ∷ bs) = let h = few_bytes bs in let k = lines_next b bs in omega arith

-- TOKENS

begins_none : (c : ℕ) → first_nonblank_is c [] ≡ false
unfolding first_nonblank_is
begins_none c = refl

begins_some : (c : ℕ) (line : List ℕ) → first_nonblank_is c line ≡ true → 0 < length line
begins_some c [] e = absurd (let k : false ≡ true = sym (begins_none c) ∙ e in cc)
begins_some c (b ∷ bs) e = omega arith

joined : (xs ys : List (ℕ × Token)) (a b : ℕ) → length xs ≤ a → length ys ≤ b → length (xs ++ ys) ≤ a + b
joined xs ys a b h k = let l = length-append xs ys in omega arith

lined : (n : ℕ) (line : List ℕ) → length (tokens_on_line n (words line)) ≤ length line
lined n line = subst (λ k. k ≤ length line) (sym (length-map (words line) (λ w. (n, token w)))) (few_words line)

tokens_next : (may : Bool) (n : ℕ) (line : List ℕ) (ls : List (List ℕ)) → ((m : Bool) (k : ℕ) → length (tokens_of m k ls) ≤ total ls) → length (tokens_of may n (line ∷ ls)) ≤ length line + total ls
unfolding tokens_of
tokens_next may n line ls ih = go (first_nonblank_is 37 line) (first_nonblank_is 99 line) (first_nonblank_is 112 line) refl
  where
    go : (x y z : Bool) → first_nonblank_is 112 line ≡ z → length (cond x [] (cond y (tokens_of may (n + 1) ls) (cond z ((n + 1, header_if may line) ∷ tokens_of false (n + 1) ls) (tokens_on_line (n + 1) (words line) ++ tokens_of (may && has_no_words (words line)) (n + 1) ls)))) ≤ length line + total ls
    go true y z e = omega arith
    go false true z e = let h = ih may (n + 1) in omega arith
    go false false true e = let h = ih false (n + 1) in let k = begins_some 112 line e in omega arith
    go false false false e = joined (tokens_on_line (n + 1) (words line)) (tokens_of (may && has_no_words (words line)) (n + 1) ls) (length line) (total ls) (lined (n + 1) line) (ih (may && has_no_words (words line)) (n + 1))

no_tokens : (may : Bool) (n : ℕ) → length (tokens_of may n []) ≤ 0
unfolding tokens_of
no_tokens may n = omega arith

few_tokens : (may : Bool) (n : ℕ) (ls : List (List ℕ)) → length (tokens_of may n ls) ≤ total ls
few_tokens may n [] = no_tokens may n
few_tokens may n (line ∷ ls) = tokens_next may n line ls (λ m k. few_tokens m k ls)

both : (a b c : ℕ) → a ≤ b → b ≤ c → a ≤ c
both a b c h k = omega arith

few_scanned : (text : List ℕ) → length (tokens text) ≤ length text
unfolding scan
few_scanned text = both (length (tokens text)) (total (lines text)) (length text) (few_tokens true 0 (lines text)) (few_bytes text)

-- COMMANDS

least : (r : Reading) → length r.0 ≤ command_count r
least (cs, Clean) = omega arith
least (cs, Malformed) = omega arith

one_more : (c : Command) (r : Reading) → command_count (prepend_commands (c ∷ []) r) ≡ command_count r + 1
one_more c (cs, Clean) = omega arith
one_more c (cs, Malformed) = omega arith

commands_none : (hand : PartialCommand) → commands_of hand [] ≡ ([], script_ending_here hand)
unfolding commands_of
commands_none hand = refl

commands_next : (hand : PartialCommand) (t : Token) (ts : List Token) → commands_of hand (t ∷ ts) ≡ after_command_token_effect (command_token_effect hand t) (λ h. commands_of h ts)
unfolding commands_of
commands_next hand t ts = refl

few_none : (hand : PartialCommand) → command_count ([], script_ending_here hand) ≤ 1
few_none NoCommand = omega arith
few_none (InCommand k ls) = omega arith

few_turn : (u : CommandTokenEffect) (more : PartialCommand → Reading) (n : ℕ) → ((h : PartialCommand) → command_count (more h) ≤ n + 1) → command_count (after_command_token_effect u more) ≤ n + 1 + 1
few_turn (Continues hand) more n f = let h = f hand in omega arith
few_turn (EndsCommand c) more n f = let h = f NoCommand in let e = one_more c (more NoCommand) in omega arith
few_turn Fails more n f = omega arith

few_commands : (hand : PartialCommand) (ts : List Token) → command_count (commands_of hand ts) ≤ length ts + 1
few_commands hand [] = subst (λ (r : Reading). command_count r ≤ 1) (sym (commands_none hand)) (few_none hand)
few_commands hand (t ∷ ts) =
    let h : command_count (commands_of hand (t ∷ ts)) ≤ length ts + 1 + 1 = subst (λ (r : Reading). command_count r ≤ length ts + 1 + 1) (sym (commands_next hand t ts)) (few_turn (command_token_effect hand t) (λ k. commands_of k ts) (length ts) (λ k. few_commands k ts)) in
    omega arith

few_asked : (due : Bool) (r : Reading) → command_count (with_ask due r) ≤ command_count r + 1
few_asked due r = go (due && (is_clean r.1 && not (has_ask r.0)))
  where
    go : (b : Bool) → command_count (cond b (r.0 ++ Ask [] ∷ [], Clean) r) ≤ command_count r + 1
    go true = let h = least r in let l = length-append r.0 (Ask [] ∷ []) in omega arith
    go false = omega arith

one_past : (a b c : ℕ) → a ≤ b + 1 → b ≤ c → a ≤ c + 1
one_past a b c h k = omega arith

few_spoken : (text : List ℕ) → length (without_lines (tokens text)) ≤ length text
few_spoken text = subst (λ k. k ≤ length text) (sym (length-map (tokens text) (λ t. t.1))) (few_scanned text)

few_written : (text : List ℕ) → command_count (plain_reading text) ≤ length text + 1
unfolding plain_reading
few_written text = one_past (command_count (plain_reading text)) (length (without_lines (tokens text))) (length text) (few_commands NoCommand (without_lines (tokens text))) (few_spoken text)

two_past : (a b c : ℕ) → a ≤ b + 1 → b ≤ c + 1 → a ≤ c + 2
two_past a b c h k = omega arith

-- a text has at most two commands more than bytes
pub few_read : (text : List ℕ) → command_count (reading text) ≤ length text + 2
unfolding reading
few_read text = two_past (command_count (reading text)) (command_count (plain_reading text)) (length text) (few_asked (is_some (dimacs_header text)) (plain_reading text)) (few_written text)
