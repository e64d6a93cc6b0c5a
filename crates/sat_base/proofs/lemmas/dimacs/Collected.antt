-- How tokens, one after another, complete the clauses of a formula.
use Rattle.std.proofs.Common.{◌≡◌, ℕ, ◌-◌, List, [], ◌∷◌, ◌++◌, Bool, true, false, Some, None, refl, sym, ap, subst, inl, inr, ◌∙◌, append_assoc, arith}
use Rattle.std.proofs.lemmas.List.{append-nil}
use Rattle.std.proofs.lemmas.Bool.Decides.{nat_tests}
use Rattle.std.specs.Prelude.{nat_eq, nat_lt, not, ◌||◌, if◌then◌else◌}
use Rattle.sat_base.specs.values.Literals.{mk_lit, var_limit}
use Rattle.sat_base.specs.text.Text.{is_blank, Token, Number, Letter, Header, Wrong, Scan, scan}
use Rattle.sat_base.specs.text.Position.{prepend_tokens}
use Rattle.sat_base.specs.text.Tokenizing.{capped, capped_token, IsHeaderOrWrong, HasNoNumberOrLetter}
use Rattle.sat_base.specs.dimacs.Dimacs.{PartialClause, TokenEffect, Continues, EndsClause, Fails, Ending, Limit, Dimacs, literals_in, token_effect, ending_here, after_token_effect, clauses_of, dimacs_of, dimacs, has_blank, up_to_last_blank}
use Rattle.sat_base.specs.dimacs.Collecting.{token_of}
use Rattle.sat_base.specs.dimacs.Parsing.{has_LF, whole_lines, HaveNoFault, NoFaultAndThen}
use Rattle.sat_base.specs.dimacs.ParserPlaces.{prepend_clauses, CompleteClauses}

-- TEXTS
has_blank-following : (text : List ℕ) (b : ℕ) → is_blank b ≡ true → has_blank (text ++ b ∷ []) ≡ true
has_blank-following [] b e = rw e refl
has_blank-following (x ∷ xs) b e = rw (has_blank-following xs b e) (or_true (is_blank x))
  where
    or_true : (c : Bool) → (c || true) ≡ true
    or_true true = refl
    or_true false = refl

pub settled_blank : (text : List ℕ) (b : ℕ) → is_blank b ≡ true → up_to_last_blank (text ++ b ∷ []) ≡ text ++ b ∷ []
settled_blank [] b e = rw e refl
settled_blank (x ∷ xs) b e = rw (has_blank-following (x ∷ xs) b e) (ap (λ (ys : List ℕ). x ∷ ys) (settled_blank xs b e))

has_blank-inside : (text : List ℕ) (b : ℕ) → is_blank b ≡ false → has_blank (text ++ b ∷ []) ≡ has_blank text
has_blank-inside [] b e = rw e refl
has_blank-inside (x ∷ xs) b e = ap (λ (c : Bool). is_blank x || c) (has_blank-inside xs b e)

pub settled_inside : (text : List ℕ) (b : ℕ) → is_blank b ≡ false → up_to_last_blank (text ++ b ∷ []) ≡ up_to_last_blank text
settled_inside [] b e = rw e refl
settled_inside (x ∷ xs) b e = rw (has_blank-inside (x ∷ xs) b e, settled_inside xs b e) refl

has_LF-following : (text : List ℕ) (b : ℕ) → nat_eq b 10 ≡ true → has_LF (text ++ b ∷ []) ≡ true
has_LF-following [] b e = rw e refl
has_LF-following (x ∷ xs) b e = rw (has_LF-following xs b e) (or_true (nat_eq x 10))
  where
    or_true : (c : Bool) → (c || true) ≡ true
    or_true true = refl
    or_true false = refl

pub whole_LF : (text : List ℕ) (b : ℕ) → nat_eq b 10 ≡ true → whole_lines (text ++ b ∷ []) ≡ text ++ b ∷ []
whole_LF [] b e = rw e refl
whole_LF (x ∷ xs) b e = rw (has_LF-following (x ∷ xs) b e) (ap (λ (ys : List ℕ). x ∷ ys) (whole_LF xs b e))

has_LF-inside : (text : List ℕ) (b : ℕ) → nat_eq b 10 ≡ false → has_LF (text ++ b ∷ []) ≡ has_LF text
has_LF-inside [] b e = rw e refl
has_LF-inside (x ∷ xs) b e = ap (λ (c : Bool). nat_eq x 10 || c) (has_LF-inside xs b e)

pub whole_inside : (text : List ℕ) (b : ℕ) → nat_eq b 10 ≡ false → whole_lines (text ++ b ∷ []) ≡ whole_lines text
whole_inside [] b e = rw e refl
whole_inside (x ∷ xs) b e = rw (has_LF-inside (x ∷ xs) b e, whole_inside xs b e) refl

-- TOKENS
pub clauses_of_cons : (h : PartialClause) (last : ℕ) (t : ℕ × Token) (ts : List (ℕ × Token)) → clauses_of h last (t ∷ ts) ≡ after_token_effect (token_effect h t.0 t.1) (λ k. clauses_of k last ts)
unfolding clauses_of
clauses_of_cons h last t ts = refl

pub clauses_of_nil : (h : PartialClause) (last : ℕ) → clauses_of h last [] ≡ record { clauses = []; ending = ending_here h last }
unfolding clauses_of
clauses_of_nil h last = refl

number_at : (zero past : Bool) (h : PartialClause) (line a b : ℕ) (s : Bool) → (past ≡ false → a ≡ b)
    → (if zero then EndsClause (literals_in h) else (if past then Fails (Limit line) else Continues (Some (literals_in h ++ mk_lit (a - 1) s ∷ []))))
    ≡ (if zero then EndsClause (literals_in h) else (if past then Fails (Limit line) else Continues (Some (literals_in h ++ mk_lit (b - 1) s ∷ []))))
number_at true past h line a b s e = refl
number_at false true h line a b s e = refl
number_at false false h line a b s e = ap (λ (k : ℕ). Continues (Some (literals_in h ++ mk_lit (k - 1) s ∷ []))) (e refl)

-- capping the values of a token does not change its effect
pub turn-held : (h : PartialClause) (line : ℕ) (t : Token) → token_effect h line (token_of (capped_token t)) ≡ token_effect h line t
turn-held h line (Number negative value) =
    let zero : nat_eq (capped value) 0 ≡ nat_eq value 0 = grind (arith, nat_tests) in
    let past : nat_lt var_limit (capped value) ≡ nat_lt var_limit value = grind (arith, nat_tests) in
    rw (zero, past) (number_at (nat_eq value 0) (nat_lt var_limit value) h line (capped value) value (not negative) (λ e. let small : nat_lt var_limit value ≡ false = e in grind (arith, nat_tests)))
turn-held h line x = refl

onto-onto : (a b : List (List ℕ)) (d : Dimacs) → prepend_clauses a (prepend_clauses b d) ≡ prepend_clauses (a ++ b) d
onto-onto a b d = ap (λ (cs : List (List ℕ)). record { clauses = cs; ending = d.ending }) (sym (append_assoc a b d.clauses))

pub turned_first : CompleteClauses [] [] None
turned_first = record { says = λ last ts. refl; sound = λ ts h. h }

-- the clauses after one more token
module _ (before : List (ℕ × Token)) (all : List (List ℕ)) (unfinished : PartialClause) (n : ℕ) (t : Token) (m : CompleteClauses before all unfinished) where
  pub says_next : (k : TokenEffect) → token_effect unfinished n t ≡ k → (last : ℕ) (ts : List (ℕ × Token))
      → clauses_of None last ((before ++ (n, t) ∷ []) ++ ts) ≡ prepend_clauses all (after_token_effect k (λ h. clauses_of h last ts))
  says_next k e last ts =
      ap (clauses_of None last) (append_assoc before ((n, t) ∷ []) ts) ∙ m.says last ((n, t) ∷ ts)
      ∙ ap (prepend_clauses all) (clauses_of_cons unfinished last (n, t) ts ∙ ap (λ (j : TokenEffect). after_token_effect j (λ h. clauses_of h last ts)) e)

  sound_next : (k : TokenEffect) → token_effect unfinished n t ≡ k → (ts : List (ℕ × Token)) → NoFaultAndThen k (λ h. HaveNoFault h ts) → HaveNoFault None ((before ++ (n, t) ∷ []) ++ ts)
  sound_next k e ts h =
      let here : HaveNoFault unfinished ((n, t) ∷ ts) = subst (λ (j : TokenEffect). NoFaultAndThen j (λ g. HaveNoFault g ts)) (sym e) h in
      subst (HaveNoFault None) (sym (append_assoc before ((n, t) ∷ []) ts)) (m.sound ((n, t) ∷ ts) here)

  pub turned_goes : (h : PartialClause) → token_effect unfinished n t ≡ Continues h → CompleteClauses (before ++ (n, t) ∷ []) all h
  turned_goes h e = record { says = says_next (Continues h) e; sound = sound_next (Continues h) e }

  pub turned_ends : (c : List ℕ) → token_effect unfinished n t ≡ EndsClause c → CompleteClauses (before ++ (n, t) ∷ []) (all ++ c ∷ []) None
  turned_ends c e = record {
    says = λ last ts. says_next (EndsClause c) e last ts ∙ onto-onto all (c ∷ []) (clauses_of None last ts);
    sound = sound_next (EndsClause c) e;
  }

  pub fails_there : (ending : Ending) → token_effect unfinished n t ≡ Fails ending → (last : ℕ) (ts : List (ℕ × Token))
      → clauses_of None last ((before ++ (n, t) ∷ []) ++ ts) ≡ record { clauses = all; ending = ending }
  fails_there ending e last ts =
      says_next (Fails ending) e last ts ∙ ap (λ (cs : List (List ℕ)). record { clauses = cs; ending = ending }) (append-nil all)

-- SCANS
pub scans_next : (fed : List ℕ) (b : ℕ) (before xs : List (ℕ × Token)) (left_of after : List ℕ → Scan) → ((rest : List ℕ) → scan (fed ++ rest) ≡ prepend_tokens before (left_of rest))
    → ((rest : List ℕ) → left_of (b ∷ rest) ≡ prepend_tokens xs (after rest)) → (rest : List ℕ) → scan ((fed ++ b ∷ []) ++ rest) ≡ prepend_tokens (before ++ xs) (after rest)
scans_next fed b before xs left_of after h k rest =
    ap scan (append_assoc fed (b ∷ []) rest) ∙ h (b ∷ rest) ∙ ap (prepend_tokens before) (k rest)
    ∙ ap (λ (ts : List (ℕ × Token)). record { tokens = ts; last = (after rest).last }) (sym (append_assoc before xs (after rest).tokens))

pub dimacs_is : (text : List ℕ) (before : List (ℕ × Token)) (s : Scan) → scan text ≡ prepend_tokens before s → dimacs text ≡ clauses_of None s.last (before ++ s.tokens)
unfolding dimacs
dimacs_is text before s e = ap (dimacs_of None) e

pub dimacs_says : (text : List ℕ) (before : List (ℕ × Token)) (all : List (List ℕ)) (unfinished : PartialClause) (s : Scan) → scan text ≡ prepend_tokens before s → CompleteClauses before all unfinished
    → dimacs text ≡ prepend_clauses all (dimacs_of unfinished s)
dimacs_says text before all unfinished s e m = dimacs_is text before s e ∙ m.says s.last s.tokens

header_clauses : (unfinished : PartialClause) (last line : ℕ) (t : Token) → IsHeaderOrWrong t → (clauses_of unfinished last ((line, t) ∷ [])).clauses ≡ []
header_clauses unfinished last line (Number negative value) h = absurd h
header_clauses unfinished last line (Letter b) h = absurd h
header_clauses unfinished last line (Header v c) h = ap (λ (d : Dimacs). d.clauses) (clauses_of_cons unfinished last (line, Header v c) [] ∙ clauses_of_nil unfinished last)
header_clauses unfinished last line Wrong h = ap (λ (d : Dimacs). d.clauses) (clauses_of_cons unfinished last (line, Wrong) [])

-- if at most a header or a wrong word is still to come, it completes no clause
pub quiet_clauses : (unfinished : PartialClause) (s : Scan) → HasNoNumberOrLetter s → (dimacs_of unfinished s).clauses ≡ []
quiet_clauses unfinished s (inl e) = ap (λ (ts : List (ℕ × Token)). (clauses_of unfinished s.last ts).clauses) e ∙ ap (λ (d : Dimacs). d.clauses) (clauses_of_nil unfinished s.last)
quiet_clauses unfinished s (inr q) = ap (λ (ts : List (ℕ × Token)). (clauses_of unfinished s.last ts).clauses) q.3 ∙ header_clauses unfinished s.last q.0 q.1 q.2

-- the clauses of a text are those completed so far if what is left has neither numbers nor letters
pub settled_clauses : (text : List ℕ) (before : List (ℕ × Token)) (all : List (List ℕ)) (unfinished : PartialClause) (s : Scan) → scan text ≡ prepend_tokens before s → CompleteClauses before all unfinished → HasNoNumberOrLetter s
    → (dimacs text).clauses ≡ all
settled_clauses text before all unfinished s e m q =
    ap (λ (d : Dimacs). d.clauses) (dimacs_says text before all unfinished s e m) ∙ ap (λ (cs : List (List ℕ)). all ++ cs) (quiet_clauses unfinished s q) ∙ append-nil all
