-- The effect of bytes on a parser of formulas' texts.
use Rattle.std.proofs.Common.{◌≡◌, ℕ, ◌+◌, ◌<◌, max, length, List, [], ◌∷◌, ◌++◌, Bool, true, false, Option, Some, None, Result, Ok, Err, refl, sym, ap, subst, inl, inr, ◌∙◌, append_assoc, length-append, take, drop, get_or, arith}
use Rattle.std.proofs.lemmas.Grind.{common_steps}
use Rattle.std.proofs.lemmas.List.{append-nil, append_cancel_left, length_push, get_or_push}
use Rattle.std.proofs.lemmas.Bool.Decides.{nat_tests}
use Rattle.std.specs.Prelude.{nat_eq, nat_lt, not, ◌&&◌, ◌-◌, ◌⊎◌}
use Rattle.sat_base.specs.values.Literals.{mk_lit, var_limit}
use Rattle.sat_base.specs.declared.dimacs.error.DimacsError.{DimacsError}
use Rattle.sat_base.specs.declared.dimacs.error.DimacsError.TheVariants as errors
use Rattle.sat_base.specs.declared.dimacs.parser.Parser.{Parser}
use Rattle.sat_base.specs.declared.dimacs.clauses.Clauses.{Clauses}
use Rattle.sat_base.specs.declared.dimacs.history.History.{History}
use Rattle.sat_base.specs.declared.text.Token.{Token as CodeToken}
use Rattle.sat_base.specs.declared.text.Token.TheVariants as code
use Rattle.sat_base.specs.declared.text.Tokenizer.{Tokenizer}
use Rattle.sat_base.specs.text.Text.{is_blank, Token, Number, Letter, Header, Wrong, Scan, lines, tokens_of, last_line, scan, HasEnded, header_of_token, header_of_tokens, dimacs_header}
use Rattle.sat_base.specs.text.Chunks.{IgnoresRest}
use Rattle.sat_base.specs.text.Position.{prepend_tokens}
use Rattle.sat_base.specs.text.WrongWords.{HaveNoWrongWord, HasValidContinuation, HasNoValidContinuation}
use Rattle.sat_base.specs.text.Tokenizing.{capped, capped_token, HasRemainingScan, ReceivesByte, GivesTokenAtEnd, IsHeaderOrWrong, HasNoNumberOrLetter}
use Rattle.sat_base.specs.values.Formulas.{Formula, no_formula, clause_var_count, clauses_var_count}
use Rattle.sat_base.specs.dimacs.Dimacs.{PartialClause, TokenEffect, Continues, EndsClause, Fails, Ending, Clean, Malformed, Limit, Dimacs, literals_in, token_effect, ending_here, clauses_of, dimacs, up_to_last_blank}
use Rattle.sat_base.specs.dimacs.Collecting.{token_of, partial_clause_in, header_after, is_literal, IsLiteralOrEndsClause, SameClausesAndCount, SameClausesAndHeader, AppliesTokenEffect}
use Rattle.sat_base.specs.dimacs.Parsing.{Progress, ReportsEnded, HaveNoFault, NoFaultAndThen, TextHasNoFault, NeedsMemoryAt, NeedsMemoryAtEnd, EndsAtFault, FeedsPiece, FinishEffect, with_fed, stopped_by_memory, stopped_at_end, clauses_read, lines_read, whole_lines, capped_header, last_byte}
use Rattle.sat_base.specs.dimacs.ParserPlaces.{progress_of, all_clauses_of, prepend_clauses, CompleteClauses, RunningParserInvariant, ParserInvariant, IsResultOfEnd}
use Rattle.sat_base.specs.dimacs.Faults.{HasReceivedWithoutFault}
use Rattle.sat_base.proofs.lemmas.text.TextRuns.{given_goes_on}
use Rattle.sat_base.proofs.lemmas.values.FlatLemmas.{vars_of_more}
use Rattle.sat_base.specs.script.Language.{without_lines}
use Rattle.sat_base.proofs.lemmas.text.HeaderFirst.{AreWords, AreScript, text_is}
use Rattle.sat_base.proofs.lemmas.text.PlainTokens.{no_header, first_token, plain_given, alone_given, quiet_given}
use Rattle.sat_base.proofs.lemmas.dimacs.Collected.{settled_blank, settled_inside, whole_LF, whole_inside, turn-held, clauses_of_nil, turned_first, turned_goes, turned_ends, fails_there, scans_next, dimacs_is, settled_clauses}

-- THE CLAUSES
one_more : (taken cs ds : List (List ℕ)) (c : List ℕ) → ds ≡ cs ++ c ∷ [] → (taken ++ cs) ++ c ∷ [] ≡ taken ++ ds
one_more taken cs ds c e = append_assoc taken cs (c ∷ []) ∙ ap (λ (es : List (List ℕ)). taken ++ es) (sym e)

pub turned_by : (before : List (ℕ × Token)) (taken : List (List ℕ)) (old new : Clauses) (n : ℕ) (t : Token) (k : TokenEffect) → token_effect (partial_clause_in old) n t ≡ k → CompleteClauses before (taken ++ old.formula.clauses) (partial_clause_in old)
    → AppliesTokenEffect k old new → CompleteClauses (before ++ (n, t) ∷ []) (taken ++ new.formula.clauses) (partial_clause_in new)
turned_by before taken old new n t (Continues h) e m s =
    let same : taken ++ old.formula.clauses ≡ taken ++ new.formula.clauses = ap (λ (f : Formula). taken ++ f.clauses) (sym s.0.0) in
    subst (λ (cs : List (List ℕ)). CompleteClauses (before ++ (n, t) ∷ []) cs (partial_clause_in new)) same
    (subst (λ (g : PartialClause). CompleteClauses (before ++ (n, t) ∷ []) (taken ++ old.formula.clauses) g) (sym s.1) (turned_goes before (taken ++ old.formula.clauses) (partial_clause_in old) n t m h e))
turned_by before taken old new n t (EndsClause c) e m s =
    let same : (taken ++ old.formula.clauses) ++ c ∷ [] ≡ taken ++ new.formula.clauses = one_more taken old.formula.clauses new.formula.clauses c (ap (λ (f : Formula). f.clauses) s.0) in
    subst (λ (cs : List (List ℕ)). CompleteClauses (before ++ (n, t) ∷ []) cs (partial_clause_in new)) same
    (subst (λ (g : PartialClause). CompleteClauses (before ++ (n, t) ∷ []) ((taken ++ old.formula.clauses) ++ c ∷ []) g) (sym s.2) (turned_ends before (taken ++ old.formula.clauses) (partial_clause_in old) n t m c e))
turned_by before taken old new n t (Fails ending) e m s = absurd s

-- `Counted taken c` holds if the counts of `c` are those of all clauses, those in `taken` and those in `c`.
abbrev pub Counted : List (List ℕ) → Clauses → Type 0
Counted taken c = (c.count ≡ capped (length (taken ++ c.formula.clauses))) × (c.formula.var_count ≡ clauses_var_count (taken ++ c.formula.clauses))

pub counted_stay : (taken : List (List ℕ)) (old new : Clauses) → SameClausesAndCount old new → Counted taken old → Counted taken new
counted_stay taken old new s c = rw (s.0, s.1) c

pub counted_by : (taken : List (List ℕ)) (old new : Clauses) (k : TokenEffect) → AppliesTokenEffect k old new → Counted taken old → Counted taken new
counted_by taken old new (Continues h) s c = counted_stay taken old new s.0 c
counted_by taken old new (EndsClause d) s c =
    let all = taken ++ old.formula.clauses in
    let clauses : new.formula.clauses ≡ old.formula.clauses ++ d ∷ [] = ap (λ (f : Formula). f.clauses) s.0 in
    let vars : new.formula.var_count ≡ max old.formula.var_count (clause_var_count d) = ap (λ (f : Formula). f.var_count) s.0 in
    let same = one_more taken old.formula.clauses new.formula.clauses d clauses in
    let count : capped (old.count + 1) ≡ capped (length (all ++ d ∷ [])) = omega (arith, c.0, length-append all (d ∷ [])) in
    let most : max old.formula.var_count (clause_var_count d) ≡ clauses_var_count (all ++ d ∷ []) = omega (arith, c.1, vars_of_more all d) in
    (s.1 ∙ count ∙ ap (λ (cs : List (List ℕ)). capped (length cs)) same, vars ∙ most ∙ ap clauses_var_count same)
counted_by taken old new (Fails ending) s c = absurd s

-- BYTES
pub record Stepped (old new : Parser) (g : RunningParserInvariant old) (b : ℕ) (xs : List (ℕ × Token)) (after : List ℕ → Scan) : Type 0 where
  pub fed : new.history.fed ≡ old.history.fed ++ b ∷ []
  pub gives : (rest : List ℕ) → g.left_of (b ∷ rest) ≡ prepend_tokens xs (after rest)
  pub quiet : is_blank b ≡ true → HasNoNumberOrLetter (after [])
  pub ended : b ≡ 10 → (after []).tokens ≡ []
  pub heads : nat_eq b 10 ≡ false → header_of_tokens (g.before ++ xs) ≡ header_of_tokens g.before

module _ (old new : Parser) (g : RunningParserInvariant old) (b : ℕ) (xs : List (ℕ × Token)) (after : List ℕ → Scan) (s : Stepped old new g b xs after) where
  pub step_scans : (rest : List ℕ) → scan (new.history.fed ++ rest) ≡ prepend_tokens (g.before ++ xs) (after rest)
  step_scans rest = ap (λ (text : List ℕ). scan (text ++ rest)) s.fed ∙ scans_next old.history.fed b g.before xs g.left_of after g.scans s.gives rest

  pub step_scan : scan new.history.fed ≡ prepend_tokens (g.before ++ xs) (after [])
  step_scan = ap scan (sym (append-nil new.history.fed)) ∙ step_scans []

  whole_tokens : b ≡ 10 → (scan new.history.fed).tokens ≡ g.before ++ xs
  whole_tokens e = ap (λ (k : Scan). k.tokens) step_scan ∙ ap (λ (ts : List (ℕ × Token)). (g.before ++ xs) ++ ts) (s.ended e) ∙ append-nil (g.before ++ xs)

  whole_now : b ≡ 10 → whole_lines new.history.fed ≡ new.history.fed
  whole_now e =
      let t : nat_eq b 10 ≡ true = grind (arith, nat_tests) in
      ap whole_lines s.fed ∙ whole_LF old.history.fed b t ∙ sym s.fed

  whole_still : nat_eq b 10 ≡ false → whole_lines new.history.fed ≡ whole_lines old.history.fed
  whole_still e = ap whole_lines s.fed ∙ whole_inside old.history.fed b e

  pub step_heads : (is_LF : Bool) → nat_eq b 10 ≡ is_LF → dimacs_header (whole_lines new.history.fed) ≡ header_of_tokens (g.before ++ xs)
  step_heads true e =
      let n : b ≡ 10 = grind (arith, nat_tests) in
      ap dimacs_header (whole_now n) ∙ ap header_of_tokens (whole_tokens n)
  step_heads false e = ap dimacs_header (whole_still e) ∙ g.heads ∙ sym (s.heads e)

  pub step_sound : CompleteClauses (g.before ++ xs) (all_clauses_of new) (partial_clause_in new.clauses) → (is_LF : Bool) → nat_eq b 10 ≡ is_LF → HaveNoFault None (scan (whole_lines new.history.fed)).tokens
  step_sound m true e =
      let n : b ≡ 10 = grind (arith, nat_tests) in
      let here : HaveNoFault None (g.before ++ xs) = subst (HaveNoFault None) (append-nil (g.before ++ xs)) (m.sound [] tt) in
      subst (HaveNoFault None) (sym (ap (λ (text : List ℕ). (scan text).tokens) (whole_now n) ∙ whole_tokens n)) here
  step_sound m false e = subst (λ (text : List ℕ). HaveNoFault None (scan text).tokens) (sym (whole_still e)) g.sound

  step_last : last_byte new.history.fed ≡ b
  step_last =
      ap last_byte s.fed ∙ get_or_push old.history.fed b 10 (length (old.history.fed ++ b ∷ []) - 1) (omega (arith, length_push old.history.fed b))

  pub step_goes : new.ended ≡ false → HasRemainingScan new.tokenizer after → HasValidContinuation after → CompleteClauses (g.before ++ xs) (all_clauses_of new) (partial_clause_in new.clauses) → RunningParserInvariant new
  step_goes e st r m = record {
    ended = e;
    before = g.before ++ xs;
    left_of = after;
    valid = st;
    scans = step_scans;
    turned = m;
    heads = step_heads (nat_eq b 10) refl;
    sound = step_sound m (nat_eq b 10) refl;
    quiet = λ k. s.quiet (ap is_blank (sym step_last) ∙ k);
    right = r;
  }

  pub step_settled : (old_clauses : (dimacs (up_to_last_blank old.history.fed)).clauses ≡ all_clauses_of old) → (is_blank b ≡ false → all_clauses_of new ≡ all_clauses_of old) → CompleteClauses (g.before ++ xs) (all_clauses_of new) (partial_clause_in new.clauses)
      → (blank : Bool) → is_blank b ≡ blank → (dimacs (up_to_last_blank new.history.fed)).clauses ≡ all_clauses_of new
  step_settled o i m true e =
      ap (λ (text : List ℕ). (dimacs text).clauses) (ap up_to_last_blank s.fed ∙ settled_blank old.history.fed b e ∙ sym s.fed)
      ∙ settled_clauses new.history.fed (g.before ++ xs) (all_clauses_of new) (partial_clause_in new.clauses) (after []) step_scan m (s.quiet e)
  step_settled o i m false e =
      ap (λ (text : List ℕ). (dimacs text).clauses) (ap up_to_last_blank s.fed ∙ settled_inside old.history.fed b e) ∙ o ∙ sym (i e)

clauses_open : (p : Parser) → p.ended ≡ false → (dimacs (up_to_last_blank p.history.fed)).clauses ≡ all_clauses_of p → clauses_read (progress_of p) ≡ all_clauses_of p
clauses_open p e h = rw e h

settled_open : (p : Parser) → p.ended ≡ false → clauses_read (progress_of p) ≡ all_clauses_of p → (dimacs (up_to_last_blank p.history.fed)).clauses ≡ all_clauses_of p
settled_open p e h = rw e at h

header_open : (p : Parser) → p.ended ≡ false → p.clauses.header ≡ capped_header (dimacs_header (whole_lines p.history.fed)) → p.clauses.header ≡ capped_header (dimacs_header (lines_read (progress_of p)))
header_open p e h = rw e h

pub header_before : (p : Parser) → ParserInvariant p → (g : RunningParserInvariant p) → p.clauses.header ≡ capped_header (header_of_tokens g.before)
header_before p i g = let h = rw g.ended at i.header in h ∙ ap capped_header g.heads

pub step_parser : (old new : Parser) (g : RunningParserInvariant old) (b : ℕ) (xs : List (ℕ × Token)) (after : List ℕ → Scan) → Stepped old new g b xs after → ParserInvariant old → new.ended ≡ false → HasRemainingScan new.tokenizer after → HasValidContinuation after
    → (is_blank b ≡ false → all_clauses_of new ≡ all_clauses_of old) → CompleteClauses (g.before ++ xs) (all_clauses_of new) (partial_clause_in new.clauses) → Counted new.history.taken new.clauses → new.clauses.header ≡ capped_header (header_of_tokens (g.before ++ xs))
    → ParserInvariant new
step_parser old new g b xs after s i e st r inside m c h =
    let now = step_goes old new g b xs after s e st r m in
    record {
      clauses = clauses_open new e (step_settled old new g b xs after s (settled_open old g.ended i.clauses) inside m (is_blank b) refl);
      count = c.0;
      vars = c.1;
      header = header_open new e (h ∙ ap capped_header (sym (step_heads old new g b xs after s (nat_eq b 10) refl)));
      goes = λ _. now;
    }

-- `Pushed old new b given` holds if the tokenizer receives the byte as it guarantees: only a blank completes a token,
-- and LF leaves none unfinished.
pub record Pushed (old new : Tokenizer) (b : ℕ) (given : Option CodeToken) : Type 0 where
  pub takes : ReceivesByte old b given new
  pub inside : is_blank b ≡ false → given ≡ None
  pub quiet : is_blank b ≡ true → (after : List ℕ → Scan) → HasRemainingScan new after → HasNoNumberOrLetter (after [])
  pub ended : b ≡ 10 → (after : List ℕ → Scan) → HasRemainingScan new after → (after []).tokens ≡ []
  pub right : is_blank b ≡ true → (after : List ℕ → Scan) → HasRemainingScan new after → HasValidContinuation after

pub pushed : (old new : Tokenizer) (b : ℕ) (given : Option CodeToken) → ReceivesByte old b given new → (is_blank b ≡ false → given ≡ None)
    → (is_blank b ≡ true → (after : List ℕ → Scan) → HasRemainingScan new after → HasNoNumberOrLetter (after [])) → (b ≡ 10 → (after : List ℕ → Scan) → HasRemainingScan new after → (after []).tokens ≡ [])
    → (is_blank b ≡ true → (after : List ℕ → Scan) → HasRemainingScan new after → HasValidContinuation after) → Pushed old new b given
pushed old new b given t i q e r = record { takes = t; inside = i; quiet = q; ended = e; right = r }

-- `ByteTaken old new b` holds if the parser accepted one more byte, and no clauses were taken.
pub record ByteTaken (old new : Parser) (b : ℕ) : Type 0 where
  pub fed : new.history.fed ≡ old.history.fed ++ b ∷ []
  pub taken : new.history.taken ≡ old.history.taken

same_all : (old new : Parser) → new.history.taken ≡ old.history.taken → new.clauses.formula ≡ old.clauses.formula → all_clauses_of new ≡ all_clauses_of old
same_all old new t f = rw (t, f) refl

-- a byte that ends no token
stepped_none : (old new : Parser) (g : RunningParserInvariant old) (b : ℕ) (p : Pushed old.tokenizer new.tokenizer b None) → ByteTaken old new b → Stepped old new g b [] (p.takes g.left_of g.valid).0
stepped_none old new g b p t =
    let q = p.takes g.left_of g.valid in
    record {
      fed = t.fed;
      gives = q.2;
      quiet = λ k. p.quiet k q.0 q.1;
      ended = λ k. p.ended k q.0 q.1;
      heads = λ _. ap header_of_tokens (append-nil g.before);
    }

pub push_none : (old new : Parser) (b : ℕ) → ParserInvariant old → old.stopped ≡ false → Pushed old.tokenizer new.tokenizer b None → ByteTaken old new b → new.clauses ≡ old.clauses → new.ended ≡ old.ended
    → ((after : List ℕ → Scan) → HasRemainingScan new.tokenizer after → HasValidContinuation after) → ParserInvariant new
push_none old new b i o p t c e r =
    let g = i.goes o in
    let q = p.takes g.left_of g.valid in
    let same : all_clauses_of new ≡ all_clauses_of old = same_all old new t.taken (ap (λ (x : Clauses). x.formula) c) in
    let none : g.before ++ [] ≡ g.before = append-nil g.before in
    let s = stepped_none old new g b p t in
    let m : CompleteClauses (g.before ++ []) (all_clauses_of new) (partial_clause_in new.clauses) = rw (none, same, c) g.turned in
    let counts : Counted new.history.taken new.clauses = rw (t.taken, c) (i.count, i.vars) in
    step_parser old new g b [] q.0 s i (e ∙ g.ended) q.1 (r q.0 q.1) (λ _. same) m counts (ap (λ (x : Clauses). x.header) c ∙ header_before old i g ∙ ap (λ (ts : List (ℕ × Token)). capped_header (header_of_tokens ts)) (sym none))

-- a later token that is not a header does not change the header
header_aside : (before : List (ℕ × Token)) (x : ℕ × Token) → header_of_token x.1 ≡ None → header_of_tokens (before ++ x ∷ []) ≡ header_of_tokens before
header_aside [] x e = e
header_aside (y ∷ ys) x e = refl

-- `First before t` holds if the token is not a header, or is the first token.
abbrev pub First : List (ℕ × Token) → Token → Type 0
First before t = (header_of_token t ≡ None) ⊎ (before ≡ [])

pub header_next : (before : List (ℕ × Token)) (n : ℕ) (t : Token) (h : Option (ℕ × ℕ)) → First before t → h ≡ capped_header (header_of_tokens before)
    → header_after (token_of (capped_token t)) h ≡ capped_header (header_of_tokens (before ++ (n, t) ∷ []))
header_next before n (Number negative value) h f e = e ∙ ap capped_header (sym (header_aside before (n, Number negative value) refl))
header_next before n (Letter b) h f e = e ∙ ap capped_header (sym (header_aside before (n, Letter b) refl))
header_next before n (Header v c) h (inl f) e = absurd (let g : ◌≡◌ {A = Option (ℕ × ℕ)} (Some (v, c)) None = f in cc)
header_next before n (Header v c) h (inr f) e = rw f refl
header_next before n Wrong h f e = e ∙ ap capped_header (sym (header_aside before (n, Wrong) refl))

word_at : (before us : List (ℕ × Token)) (x : ℕ × Token) → AreWords (without_lines (before ++ x ∷ us)) → header_of_token x.1 ≡ None
word_at [] us x h = no_header x.1 h.0
word_at (y ∷ ys) us x h = word_at ys us x h.1

first_in : (before us : List (ℕ × Token)) (x : ℕ × Token) → AreScript (without_lines (before ++ x ∷ us)) → First before x.1
first_in before us x (inl h) = inl (word_at before us x h)
first_in [] us x (inr h) = inr refl
first_in (y ∷ ys) us x (inr h) =
    let e : without_lines (ys ++ x ∷ us) ≡ h.2 = let k = h.4 in cc in
    inl (word_at ys us x (subst AreWords (sym e) h.3))

first_stands : (text : List ℕ) (before us : List (ℕ × Token)) (n : ℕ) (t : Token) → (scan text).tokens ≡ before ++ (n, t) ∷ us → First before t
first_stands text before us n t e = first_in before us (n, t) (subst (λ (ts : List (ℕ × Token)). AreScript (without_lines ts)) e (text_is text))

pub not_false : (b : Bool) → (b ≡ false → ⊥) → b ≡ true
not_false true h = refl
not_false false h = absurd (h refl)

-- `Gave old new g b t` holds if the byte ended the token `t`, and the rest is read as before.
pub record Gave (old new : Parser) (g : RunningParserInvariant old) (b : ℕ) (t : CodeToken) : Type 0 where
  pub given : Token
  pub held : t ≡ capped_token given
  pub after : List ℕ → Scan
  pub valid : HasRemainingScan new.tokenizer after
  pub stepped : Stepped old new g b (((after []).last, given) ∷ []) after
  pub blank : is_blank b ≡ false → ⊥
  pub first : First g.before given

pub gave : (old new : Parser) (g : RunningParserInvariant old) (b : ℕ) (t : CodeToken) → Pushed old.tokenizer new.tokenizer b (Some t) → ByteTaken old new b → Gave old new g b t
gave old new g b t p y =
    let q = p.takes g.left_of g.valid in
    let n = (q.0 []).last in
    let given = q.2.0 in
    let is : t ≡ capped_token given = q.2.1 in
    let plain : nat_eq b 10 ≡ false → header_of_token given ≡ None = λ k. plain_given old.tokenizer b n given g.left_of q.0 g.valid k (not_false (is_blank b) (λ u. let z = p.inside u in cc)) q.2.2 in
    let s : Stepped old new g b ((n, given) ∷ []) q.0 = record {
      fed = y.fed;
      gives = q.2.2;
      quiet = λ k. p.quiet k q.0 q.1;
      ended = λ k. p.ended k q.0 q.1;
      heads = λ k. header_aside g.before (n, given) (plain k);
    } in
    let tokens : (scan new.history.fed).tokens ≡ g.before ++ (n, given) ∷ (q.0 []).tokens =
    ap (λ (k : Scan). k.tokens) (step_scan old new g b ((n, given) ∷ []) q.0 s) ∙ append_assoc g.before ((n, given) ∷ []) (q.0 []).tokens in
    record {
      given = given;
      held = is;
      after = q.0;
      valid = q.1;
      stepped = s;
      blank = λ k. let z = p.inside k in cc;
      first = first_stands new.history.fed g.before (q.0 []).tokens n given tokens;
    }

turn_of : (c : Clauses) (n : ℕ) (t : CodeToken) (given : Token) → t ≡ capped_token given → token_effect (partial_clause_in c) n (token_of t) ≡ token_effect (partial_clause_in c) n given
turn_of c n t given e = ap (λ (k : CodeToken). token_effect (partial_clause_in c) n (token_of k)) e ∙ turn-held (partial_clause_in c) n given

header_given : (old new : Parser) (g : RunningParserInvariant old) (b : ℕ) (t : CodeToken) (v : Gave old new g b t) → ParserInvariant old → new.clauses.header ≡ header_after (token_of t) old.clauses.header
    → new.clauses.header ≡ capped_header (header_of_tokens (g.before ++ ((v.after []).last, v.given) ∷ []))
header_given old new g b t v i h =
    h ∙ ap (λ (k : CodeToken). header_after (token_of k) old.clauses.header) v.held
    ∙ header_next g.before (v.after []).last v.given old.clauses.header v.first (header_before old i g)

-- a byte that ends a token without a fault
pub push_some : (old new : Parser) (b : ℕ) (t : CodeToken) → ParserInvariant old → old.stopped ≡ false → Pushed old.tokenizer new.tokenizer b (Some t) → ByteTaken old new b → new.ended ≡ old.ended
    → ((n : ℕ) → AppliesTokenEffect (token_effect (partial_clause_in old.clauses) n (token_of t)) old.clauses new.clauses) → new.clauses.header ≡ header_after (token_of t) old.clauses.header
    → ParserInvariant new
push_some old new b t i o p y e c h =
    let g = i.goes o in
    let v = gave old new g b t p y in
    let n = (v.after []).last in
    let k = token_effect (partial_clause_in old.clauses) n v.given in
    let turns : AppliesTokenEffect k old.clauses new.clauses = subst (λ (j : TokenEffect). AppliesTokenEffect j old.clauses new.clauses) (turn_of old.clauses n t v.given v.held) (c n) in
    let m = turned_by g.before old.history.taken old.clauses new.clauses n v.given k refl g.turned turns in
    let counts = counted_by old.history.taken old.clauses new.clauses k turns (i.count, i.vars) in
    step_parser old new g b ((n, v.given) ∷ []) v.after v.stepped i (e ∙ g.ended) v.valid (p.right (not_false (is_blank b) v.blank) v.after v.valid) (λ k. absurd (v.blank k))
    (subst (λ (cs : List (List ℕ)). CompleteClauses (g.before ++ (n, v.given) ∷ []) (cs ++ new.clauses.formula.clauses) (partial_clause_in new.clauses)) (sym y.taken) m)
    (subst (λ (cs : List (List ℕ)). Counted cs new.clauses) (sym y.taken) counts)
    (header_given old new g b t v i h)

-- FAULTS
fails_no_header : (h : PartialClause) (n : ℕ) (t : Token) (ending : Ending) → token_effect h n t ≡ Fails ending → header_of_token t ≡ None
fails_no_header h n (Header v c) ending e = absurd (let f : Continues h ≡ Fails ending = e in cc)
fails_no_header h n x ending e = refl

header_within : (before us : List (ℕ × Token)) (x : ℕ × Token) → header_of_token x.1 ≡ None → header_of_tokens ((before ++ x ∷ []) ++ us) ≡ header_of_tokens before
header_within [] us x e = e
header_within (y ∷ ys) us x e = refl

progress_is : (p : Parser) (fed : List ℕ) (taken : List (List ℕ)) (stopped ended : Bool) → p.history.fed ≡ fed → p.history.taken ≡ taken → p.stopped ≡ stopped → p.ended ≡ ended
    → progress_of p ≡ record { fed = fed; taken = taken; stopped = stopped; ended = ended }
progress_is p fed taken stopped ended a b c d = rw (a, b, c, d) refl

not_open : (p : Parser) (A : Type 0) → p.stopped ≡ true → p.stopped ≡ false → A
not_open p A a b = absurd (let e : ◌≡◌ {A = Bool} true false = sym a ∙ b in cc)

-- a parser whose text has ended
pub over_parser : (p : Parser) (ending : Ending) (h : Option (ℕ × ℕ)) → p.stopped ≡ true → p.ended ≡ true → dimacs p.history.fed ≡ record { clauses = all_clauses_of p; ending = ending } → Counted p.history.taken p.clauses
    → p.clauses.header ≡ capped_header h → dimacs_header p.history.fed ≡ h → ParserInvariant p
over_parser p ending h s e d c k l = record {
  clauses = let is : (dimacs p.history.fed).clauses ≡ all_clauses_of p = ap (λ (x : Dimacs). x.clauses) d in rw e is;
  count = c.0;
  vars = c.1;
  header = let is : p.clauses.header ≡ capped_header (dimacs_header p.history.fed) = k ∙ ap capped_header (sym l) in rw e is;
  goes = not_open p (RunningParserInvariant p) s;
}

-- `FaultAt ending line b old new` holds if the text has a fault at this byte, and the parser has stopped there.
pub record FaultAt (ending : ℕ → Ending) (line b : ℕ) (old new : Parser) : Type 0 where
  pub n : ℕ
  pub shown : line ≡ capped n
  pub parser : ParserInvariant new
  pub faults : EndsAtFault (ending n) (b ∷ []) (progress_of old) (progress_of new)

pub push_fails : (old new : Parser) (b : ℕ) (t : CodeToken) (ending : ℕ → Ending) (line : ℕ) → ParserInvariant old → old.stopped ≡ false → Pushed old.tokenizer new.tokenizer b (Some t) → ByteTaken old new b
    → new.stopped ≡ true → new.ended ≡ true → SameClausesAndHeader old.clauses new.clauses → ((n : ℕ) → token_effect (partial_clause_in old.clauses) n (token_of t) ≡ Fails (ending n))
    → ((before : List ℕ → Scan) → HasRemainingScan new.tokenizer before → line ≡ capped (before []).last) → FaultAt ending line b old new
push_fails old new b t ending line i o p y st en stay f l =
    let g = i.goes o in
    let v = gave old new g b t p y in
    let n = (v.after []).last in
    let x : ℕ × Token = (n, v.given) in
    let e : token_effect (partial_clause_in old.clauses) n v.given ≡ Fails (ending n) = sym (turn_of old.clauses n t v.given v.held) ∙ f n in
    let same : all_clauses_of new ≡ all_clauses_of old = same_all old new y.taken stay.0.0 in
    let says : (rest : List ℕ) → dimacs (new.history.fed ++ rest) ≡ record { clauses = all_clauses_of new; ending = ending n } = λ rest.
    dimacs_is (new.history.fed ++ rest) (g.before ++ x ∷ []) (v.after rest) (step_scans old new g b (x ∷ []) v.after v.stepped rest)
    ∙ fails_there g.before (all_clauses_of old) (partial_clause_in old.clauses) n v.given g.turned (ending n) e (v.after rest).last (v.after rest).tokens
    ∙ ap (λ (cs : List (List ℕ)). record { clauses = cs; ending = ending n }) (sym same) in
    let whole : dimacs new.history.fed ≡ record { clauses = all_clauses_of new; ending = ending n } = ap dimacs (sym (append-nil new.history.fed)) ∙ says [] in
    let heads : dimacs_header new.history.fed ≡ header_of_tokens g.before =
    ap (λ (k : Scan). header_of_tokens k.tokens) (step_scan old new g b (x ∷ []) v.after v.stepped)
    ∙ header_within g.before (v.after []).tokens x (fails_no_header (partial_clause_in old.clauses) n v.given (ending n) e) in
    let counts : Counted new.history.taken new.clauses = subst (λ (cs : List (List ℕ)). Counted cs new.clauses) (sym y.taken) (counted_stay old.history.taken old.clauses new.clauses stay.0 (i.count, i.vars)) in
    let good = over_parser new (ending n) (header_of_tokens g.before) st en whole counts (stay.1 ∙ header_before old i g) heads in
    record {
      n = n;
      shown = l v.after v.valid;
      parser = good;
      faults = record {
        front = b ∷ [];
        following = [];
        whole = refl;
        progress = progress_is new (old.history.fed ++ b ∷ []) old.history.taken true true y.fed y.taken st en;
        ends = λ rest. says rest ∙ ap (λ (cs : List (List ℕ)). record { clauses = cs; ending = ending n }) (sym good.clauses);
      };
    }

-- a byte after which the unfinished word is wrong, whatever follows
pub push_wrong : (old new : Parser) (b line : ℕ) → ParserInvariant old → old.stopped ≡ false → Pushed old.tokenizer new.tokenizer b None → ByteTaken old new b
    → new.stopped ≡ true → new.ended ≡ true → new.clauses ≡ old.clauses → ((before : List ℕ → Scan) → HasRemainingScan new.tokenizer before → HasNoValidContinuation before)
    → ((before : List ℕ → Scan) → HasRemainingScan new.tokenizer before → line ≡ capped (before []).last) → FaultAt Malformed line b old new
push_wrong old new b line i o p y st en c w l =
    let g = i.goes o in
    let q = p.takes g.left_of g.valid in
    let s = stepped_none old new g b p y in
    let n = (q.0 []).last in
    let x : ℕ × Token = (n, Wrong) in
    let wrong = w q.0 q.1 in
    let same : all_clauses_of new ≡ all_clauses_of old = same_all old new y.taken (ap (λ (k : Clauses). k.formula) c) in
    let tokens : (rest : List ℕ) → (g.before ++ []) ++ (q.0 rest).tokens ≡ (g.before ++ x ∷ []) ++ (wrong rest).0 = λ rest.
    ap (λ (ts : List (ℕ × Token)). (g.before ++ []) ++ ts) (wrong rest).1 ∙ ap (λ (ts : List (ℕ × Token)). ts ++ x ∷ (wrong rest).0) (append-nil g.before)
    ∙ sym (append_assoc g.before (x ∷ []) (wrong rest).0) in
    let says : (rest : List ℕ) → dimacs (new.history.fed ++ rest) ≡ record { clauses = all_clauses_of new; ending = Malformed n } = λ rest.
    dimacs_is (new.history.fed ++ rest) (g.before ++ []) (q.0 rest) (step_scans old new g b [] q.0 s rest)
    ∙ ap (clauses_of None (q.0 rest).last) (tokens rest)
    ∙ fails_there g.before (all_clauses_of old) (partial_clause_in old.clauses) n Wrong g.turned (Malformed n) refl (q.0 rest).last (wrong rest).0
    ∙ ap (λ (cs : List (List ℕ)). record { clauses = cs; ending = Malformed n }) (sym same) in
    let whole : dimacs new.history.fed ≡ record { clauses = all_clauses_of new; ending = Malformed n } = ap dimacs (sym (append-nil new.history.fed)) ∙ says [] in
    let heads : dimacs_header new.history.fed ≡ header_of_tokens g.before =
    ap (λ (k : Scan). header_of_tokens k.tokens) (step_scan old new g b [] q.0 s) ∙ ap header_of_tokens (tokens []) ∙ header_within g.before (wrong []).0 x refl in
    let counts : Counted new.history.taken new.clauses = rw (y.taken, c) (i.count, i.vars) in
    let good = over_parser new (Malformed n) (header_of_tokens g.before) st en whole counts (ap (λ (k : Clauses). k.header) c ∙ header_before old i g) heads in
    record {
      n = n;
      shown = l q.0 q.1;
      parser = good;
      faults = record {
        front = b ∷ [];
        following = [];
        whole = refl;
        progress = progress_is new (old.history.fed ++ b ∷ []) old.history.taken true true y.fed y.taken st en;
        ends = λ rest. says rest ∙ ap (λ (cs : List (List ℕ)). record { clauses = cs; ending = Malformed n }) (sym good.clauses);
      };
    }

-- TEXTS WITHOUT A FAULT
right_first : (h : PartialClause) (n : ℕ) (t : Token) (more : PartialClause → Type 0) → NoFaultAndThen (token_effect h n t) more → t ≡ Wrong → ⊥
right_first h n t more u e = let v : NoFaultAndThen (token_effect h n Wrong) more = subst (λ (k : Token). NoFaultAndThen (token_effect h n k) more) e u in v

sound_next : (k : TokenEffect) (ts : List (ℕ × Token)) → NoFaultAndThen k (λ h. HaveNoFault h ts) → (h : PartialClause) × HaveNoFault h ts
sound_next (Continues h) ts u = (h, u)
sound_next (EndsClause c) ts u = (None, u)
sound_next (Fails ending) ts u = absurd u

-- tokens without a fault contain no wrong word
sound_right : (h : PartialClause) (ts : List (ℕ × Token)) → HaveNoFault h ts → HaveNoWrongWord ts
sound_right h [] s = tt
sound_right h (t ∷ ts) s =
    let k = sound_next (token_effect h t.0 t.1) ts s in
    (right_first h t.0 t.1 (λ g. HaveNoFault g ts) s, sound_right k.0 ts k.1)

right_append : (xs ys : List (ℕ × Token)) → HaveNoWrongWord xs → HaveNoWrongWord ys → HaveNoWrongWord (xs ++ ys)
right_append [] ys f g = g
right_append (x ∷ xs) ys f g = (f.0, right_append xs ys f.1 g)

pub taken_soundly : (p : Parser) → RunningParserInvariant p → HasReceivedWithoutFault p.history.fed p.tokenizer
taken_soundly p g = record {
  before = g.before;
  all = all_clauses_of p;
  unfinished = partial_clause_in p.clauses;
  left_of = g.left_of;
  valid = g.valid;
  scans = g.scans;
  turned = g.turned;
  sound = g.sound;
  right = g.right;
}

pub sound_taken : (text : List ℕ) (machine : Tokenizer) → HasReceivedWithoutFault text machine → TextHasNoFault text
sound_taken text machine g =
    let before : HaveNoWrongWord g.before = sound_right None g.before (subst (HaveNoFault None) (append-nil g.before) (g.turned.sound [] tt)) in
    record {
      lines = g.sound;
      words = (g.right.0, subst (λ (s : Scan). HaveNoWrongWord s.tokens) (sym (g.scans g.right.0)) (right_append g.before (g.left_of g.right.0).tokens before g.right.1));
    }

pub sound_text : (p : Parser) → RunningParserInvariant p → TextHasNoFault p.history.fed
sound_text p g = sound_taken p.history.fed p.tokenizer (taken_soundly p g)

-- A LINE THAT ENDS THE TEXT
onto_cancel : (before : List (ℕ × Token)) (s t : Scan) → prepend_tokens before s ≡ prepend_tokens before t → s ≡ t
onto_cancel before s t e =
    let tokens : s.tokens ≡ t.tokens = append_cancel_left before s.tokens t.tokens (ap (λ (k : Scan). k.tokens) e) in
    let last : s.last ≡ t.last = ap (λ (k : Scan). k.last) e in
    let same : (a b : List (ℕ × Token)) (m n : ℕ) → a ≡ b → m ≡ n → ◌≡◌ {A = Scan} (record { tokens = a; last = m }) (record { tokens = b; last = n }) = λ a b m n f g. rw (f, g) refl in
    same s.tokens t.tokens s.last t.last tokens last

-- the text has ended exactly if the tokenizer ignores whatever follows
pub ends_here : (p : Parser) (g : RunningParserInvariant p) → IgnoresRest g.left_of → HasEnded p.history.fed
ends_here p g i rest = g.scans rest ∙ ap (prepend_tokens g.before) (i rest) ∙ sym (g.scans []) ∙ ap scan (append-nil p.history.fed)

-- if a line has ended the text, what is still to be read ignores the bytes to come
pub goes_here : (p : Parser) (g : RunningParserInvariant p) → HasEnded p.history.fed → IgnoresRest g.left_of
goes_here p g h rest = onto_cancel g.before (g.left_of rest) (g.left_of []) (sym (g.scans rest) ∙ h rest ∙ ap scan (sym (append-nil p.history.fed)) ∙ g.scans [])

-- the flag is right if it says whether the bytes to come are ignored
pub says_ended : (p : Parser) (g : RunningParserInvariant p) → p.stopped ≡ false → (b : Bool) → (b ≡ true → IgnoresRest g.left_of) → (b ≡ false → IgnoresRest g.left_of → ⊥) → ReportsEnded b (progress_of p)
says_ended p g o true over goes = (o, ends_here p g (over refl))
says_ended p g o false over goes = inr (λ h. goes refl (goes_here p g h))

-- PIECES
with_none : (p : Progress) → with_fed [] p ≡ p
with_none p = ap (λ (bytes : List ℕ). record p { fed = bytes }) (append-nil p.fed)

pub fed_none : (p : Progress) → p ≡ with_fed [] p
fed_none p = sym (with_none p)

pub fed_more : (xs ys all : List ℕ) (p q r : Progress) → all ≡ xs ++ ys → q ≡ with_fed xs p → r ≡ with_fed ys q → r ≡ with_fed all p
fed_more xs ys all p q r a e f =
    f ∙ ap (with_fed ys) e ∙ ap (λ (bytes : List ℕ). record p { fed = bytes }) (append_assoc p.fed xs ys ∙ ap (λ (zs : List ℕ). p.fed ++ zs) (sym a))

stops_more : (xs ys zs all front following : List ℕ) → all ≡ xs ++ (ys ++ zs) → ys ≡ front ++ following → all ≡ (xs ++ front) ++ (following ++ zs)
stops_more xs ys zs all front following a w =
    a ∙ ap (λ (ks : List ℕ). xs ++ (ks ++ zs)) w ∙ ap (λ (ks : List ℕ). xs ++ ks) (append_assoc front following zs) ∙ sym (append_assoc xs front (following ++ zs))

still_open : (xs : List ℕ) (p q : Progress) → q ≡ with_fed xs p → q.stopped ≡ p.stopped
still_open xs p q e = ap (λ (k : Progress). k.stopped) e

faults_more : (ending : Ending) (xs ys zs all : List ℕ) (p q r : Progress) → all ≡ xs ++ (ys ++ zs) → q ≡ with_fed xs p → EndsAtFault ending ys q r → EndsAtFault ending all p r
faults_more ending xs ys zs all p q r a e f = record {
  front = xs ++ f.front;
  following = f.following ++ zs;
  whole = stops_more xs ys zs all f.front f.following a f.whole;
  progress = f.progress ∙ ap stopped_at_end (fed_more xs f.front (xs ++ f.front) p q (with_fed f.front q) refl e refl);
  ends = f.ends;
}

pub feeds_err : (e : DimacsError) (xs ys zs all : List ℕ) (p q r : Progress) → all ≡ xs ++ (ys ++ zs) → p.stopped ≡ false → q ≡ with_fed xs p → FeedsPiece (Err e) ys q r → FeedsPiece (Err e) all p r
feeds_err (errors.Malformed line) xs ys zs all p q r a o e f = (o, f.1, f.2, faults_more (Malformed f.1) xs ys zs all p q r a e f.3)
feeds_err (errors.Limit line) xs ys zs all p q r a o e f = (o, f.1, f.2, faults_more (Limit f.1) xs ys zs all p q r a e f.3)
feeds_err errors.Read xs ys zs all p q r a o e f = f
feeds_err errors.OutOfMemory xs ys zs all p q r a o e f = (
  o,
  record {
    front = xs ++ f.1.front;
    byte = f.1.byte;
    following = f.1.following ++ zs;
    whole = stops_more xs ys zs all f.1.front (f.1.byte ∷ f.1.following) a f.1.whole;
    progress = f.1.progress ∙ ap stopped_by_memory (fed_more xs f.1.front (xs ++ f.1.front) p q (with_fed f.1.front q) refl e refl);
    well = subst (λ (text : List ℕ). NeedsMemoryAt text f.1.byte) (ap (λ (bytes : List ℕ). bytes ++ f.1.front) (ap (λ (k : Progress). k.fed) e) ∙ append_assoc p.fed xs f.1.front) f.1.well;
  },
)
feeds_err errors.HasFailed xs ys zs all p q r a o e f = absurd (let g : ◌≡◌ {A = Bool} true false = sym f.0 ∙ still_open xs p q e ∙ o in cc)

pub split_at : (xs : List ℕ) (i : ℕ) → i < length xs → xs ≡ take i xs ++ (get_or xs i 0 ∷ [] ++ drop (i + 1) xs)
split_at xs i h = grind (arith, common_steps)

-- THE END
abbrev pub at_end_of : Parser → Parser
at_end_of p = record p { stopped = true; ended = true }

-- `Read old p g` holds if `p` is the parser after the tokens that were left when the text ended.
pub record Read (old p : Parser) (g : RunningParserInvariant old) : Type 0 where
  pub history : p.history ≡ old.history
  pub tokenizer : p.tokenizer ≡ old.tokenizer
  pub last : List (ℕ × Token)
  pub tokens : (g.left_of []).tokens ≡ last
  pub turned : CompleteClauses (g.before ++ last) (all_clauses_of p) (partial_clause_in p.clauses)
  pub counted : Counted p.history.taken p.clauses
  pub header : p.clauses.header ≡ capped_header (header_of_tokens (g.before ++ last))

scan_whole : (p : Parser) (g : RunningParserInvariant p) → scan p.history.fed ≡ prepend_tokens g.before (g.left_of [])
scan_whole p g = ap scan (sym (append-nil p.history.fed)) ∙ g.scans []

pub whole_dimacs : (old p : Parser) (g : RunningParserInvariant old) (r : Read old p g) → dimacs old.history.fed ≡ record { clauses = all_clauses_of p; ending = ending_here (partial_clause_in p.clauses) (g.left_of []).last }
whole_dimacs old p g r =
    let last = (g.left_of []).last in
    dimacs_is old.history.fed g.before (g.left_of []) (scan_whole old g)
    ∙ ap (λ (ts : List (ℕ × Token)). clauses_of None last (g.before ++ ts)) r.tokens
    ∙ ap (clauses_of None last) (sym (append-nil (g.before ++ r.last)))
    ∙ r.turned.says last []
    ∙ ap (prepend_clauses (all_clauses_of p)) (clauses_of_nil (partial_clause_in p.clauses) last)
    ∙ ap (λ (cs : List (List ℕ)). record { clauses = cs; ending = ending_here (partial_clause_in p.clauses) last }) (append-nil (all_clauses_of p))

pub finish_parser : (old p : Parser) (g : RunningParserInvariant old) → Read old p g → ParserInvariant (at_end_of p)
finish_parser old p g r =
    let fed : p.history.fed ≡ old.history.fed = ap (λ (h : History). h.fed) r.history in
    let heads : dimacs_header p.history.fed ≡ header_of_tokens (g.before ++ r.last) =
    ap dimacs_header fed ∙ ap (λ (k : Scan). header_of_tokens k.tokens) (scan_whole old g) ∙ ap (λ (ts : List (ℕ × Token)). header_of_tokens (g.before ++ ts)) r.tokens in
    over_parser (at_end_of p) (ending_here (partial_clause_in p.clauses) (g.left_of []).last) (header_of_tokens (g.before ++ r.last)) refl refl (ap dimacs fed ∙ whole_dimacs old p g r) r.counted r.header heads

clean_of : (h : PartialClause) (last : ℕ) → h ≡ None → ending_here h last ≡ Clean
clean_of h last e = rw e refl

cut_of : (h : PartialClause) (last : ℕ) (ls : List ℕ) → h ≡ Some ls → ending_here h last ≡ Malformed last
cut_of h last ls e = rw e refl

ended_progress : (old p : Parser) → p.history ≡ old.history → progress_of (at_end_of p) ≡ stopped_at_end (progress_of old)
ended_progress old p h = ap (λ (k : History). record { fed = k.fed; taken = k.taken; stopped = true; ended = true }) h

pub finish_answer : (a : Result (Unit {0}) DimacsError) (old p : Parser) (g : RunningParserInvariant old) → old.stopped ≡ false → Read old p g → IsResultOfEnd a p → FinishEffect a (progress_of old) (progress_of (at_end_of p))
finish_answer (Ok u) old p g o r e =
    (o, ended_progress old p r.history, ap (λ (d : Dimacs). d.ending) (whole_dimacs old p g r) ∙ clean_of (partial_clause_in p.clauses) (g.left_of []).last e)
finish_answer (Err (errors.Malformed line)) old p g o r e =
    let st : HasRemainingScan p.tokenizer g.left_of = subst (λ (t : Tokenizer). HasRemainingScan t g.left_of) (sym r.tokenizer) g.valid in
    (o, ended_progress old p r.history, (g.left_of []).last, e.1 g.left_of st, ap (λ (d : Dimacs). d.ending) (whole_dimacs old p g r) ∙ cut_of (partial_clause_in p.clauses) (g.left_of []).last e.0.0 e.0.1)
finish_answer (Err x) old p g o r e = absurd e

-- no token is unfinished
pub read_none : (old : Parser) (i : ParserInvariant old) (g : RunningParserInvariant old) → GivesTokenAtEnd None (g.left_of []) → Read old old g
read_none old i g l =
    let none : g.before ++ [] ≡ g.before = append-nil g.before in
    record {
      history = refl;
      tokenizer = refl;
      last = [];
      tokens = l;
      turned = rw none g.turned;
      counted = (i.count, i.vars);
      header = header_before old i g ∙ ap (λ (ts : List (ℕ × Token)). capped_header (header_of_tokens ts)) (sym none);
    }

last_first : (old : Parser) (g : RunningParserInvariant old) (t : Token) (n : ℕ) → (g.left_of []).tokens ≡ (n, t) ∷ [] → First g.before t
last_first old g t n e =
    first_stands old.history.fed g.before [] n t (ap (λ (k : Scan). k.tokens) (scan_whole old g) ∙ ap (λ (ts : List (ℕ × Token)). g.before ++ ts) e)

-- an unfinished token without a fault
pub read_some : (old p : Parser) (i : ParserInvariant old) (g : RunningParserInvariant old) (t : CodeToken) → p.history ≡ old.history → p.tokenizer ≡ old.tokenizer → GivesTokenAtEnd (Some t) (g.left_of [])
    → ((n : ℕ) → AppliesTokenEffect (token_effect (partial_clause_in old.clauses) n (token_of t)) old.clauses p.clauses) → p.clauses.header ≡ header_after (token_of t) old.clauses.header → Read old p g
read_some old p i g t h k l c e =
    let n = (g.left_of []).last in
    let given = l.0 in
    let j = token_effect (partial_clause_in old.clauses) n given in
    let turns : AppliesTokenEffect j old.clauses p.clauses = subst (λ (u : TokenEffect). AppliesTokenEffect u old.clauses p.clauses) (turn_of old.clauses n t given l.1) (c n) in
    let taken : p.history.taken ≡ old.history.taken = ap (λ (x : History). x.taken) h in
    record {
      history = h;
      tokenizer = k;
      last = (n, given) ∷ [];
      tokens = l.2;
      turned = subst (λ (cs : List (List ℕ)). CompleteClauses (g.before ++ (n, given) ∷ []) (cs ++ p.clauses.formula.clauses) (partial_clause_in p.clauses)) (sym taken) (turned_by g.before old.history.taken old.clauses p.clauses n given j refl g.turned turns);
      counted = subst (λ (cs : List (List ℕ)). Counted cs p.clauses) (sym taken) (counted_by old.history.taken old.clauses p.clauses j turns (i.count, i.vars));
      header = e ∙ ap (λ (u : CodeToken). header_after (token_of u) old.clauses.header) l.1
          ∙ header_next g.before n given old.clauses.header (last_first old g given n l.2) (header_before old i g);
    }

-- `FaultAtEnd ending line old new` holds if the text ended with a fault on this line.
pub record FaultAtEnd (ending : ℕ → Ending) (line : ℕ) (old new : Parser) : Type 0 where
  pub parser : ParserInvariant new
  pub answer : (old.stopped ≡ false) × (progress_of new ≡ stopped_at_end (progress_of old)) × (n : ℕ) × (line ≡ capped n) × ((dimacs old.history.fed).ending ≡ ending n)

pub finish_fails : (old p : Parser) (i : ParserInvariant old) (o : old.stopped ≡ false) (t : CodeToken) (ending : ℕ → Ending) (line : ℕ) → p.history ≡ old.history → ((left_of : List ℕ → Scan) → HasRemainingScan old.tokenizer left_of → GivesTokenAtEnd (Some t) (left_of []))
    → SameClausesAndHeader old.clauses p.clauses → ((n : ℕ) → token_effect (partial_clause_in old.clauses) n (token_of t) ≡ Fails (ending n)) → ((before : List ℕ → Scan) → HasRemainingScan old.tokenizer before → line ≡ capped (before []).last)
    → FaultAtEnd ending line old (at_end_of p)
finish_fails old p i o t ending line h gives stay f l =
    let g = i.goes o in
    let q = gives g.left_of g.valid in
    let n = (g.left_of []).last in
    let x : ℕ × Token = (n, q.0) in
    let e : token_effect (partial_clause_in old.clauses) n q.0 ≡ Fails (ending n) = sym (turn_of old.clauses n t q.0 q.1) ∙ f n in
    let fed : p.history.fed ≡ old.history.fed = ap (λ (k : History). k.fed) h in
    let taken : p.history.taken ≡ old.history.taken = ap (λ (k : History). k.taken) h in
    let same : all_clauses_of p ≡ all_clauses_of old = same_all old p taken stay.0.0 in
    let says : dimacs old.history.fed ≡ record { clauses = all_clauses_of p; ending = ending n } =
    dimacs_is old.history.fed g.before (g.left_of []) (scan_whole old g)
    ∙ ap (λ (ts : List (ℕ × Token)). clauses_of None n (g.before ++ ts)) q.2
    ∙ ap (clauses_of None n) (sym (append-nil (g.before ++ x ∷ [])))
    ∙ fails_there g.before (all_clauses_of old) (partial_clause_in old.clauses) n q.0 g.turned (ending n) e n []
    ∙ ap (λ (cs : List (List ℕ)). record { clauses = cs; ending = ending n }) (sym same) in
    let heads : dimacs_header p.history.fed ≡ header_of_tokens g.before =
    ap dimacs_header fed ∙ ap (λ (k : Scan). header_of_tokens k.tokens) (scan_whole old g) ∙ ap (λ (ts : List (ℕ × Token)). header_of_tokens (g.before ++ ts)) q.2
    ∙ header_aside g.before x (fails_no_header (partial_clause_in old.clauses) n q.0 (ending n) e) in
    let counts : Counted p.history.taken p.clauses = subst (λ (cs : List (List ℕ)). Counted cs p.clauses) (sym taken) (counted_stay old.history.taken old.clauses p.clauses stay.0 (i.count, i.vars)) in
    record {
      parser = over_parser (at_end_of p) (ending n) (header_of_tokens g.before) refl refl (ap dimacs fed ∙ says) counts (stay.1 ∙ header_before old i g) heads;
      answer = (o, ended_progress old p h, n, l g.left_of g.valid, ap (λ (d : Dimacs). d.ending) says);
    }

literal_turn : (negative : Bool) (value : ℕ) (e z : Bool) → nat_eq value 0 ≡ e → nat_lt var_limit value ≡ z → (not e && not z) ≡ true → (unfinished : PartialClause) (n : ℕ) → (ls : List ℕ) × (token_effect unfinished n (Number negative value) ≡ Continues (Some ls))
literal_turn negative value false false p q h unfinished n = (literals_in unfinished ++ mk_lit (value - 1) (not negative) ∷ [], rw (p, q) refl)
literal_turn negative value true z p q h unfinished n = absurd (let g : ◌≡◌ {A = Bool} false true = h in cc)
literal_turn negative value false true p q h unfinished n = absurd (let g : ◌≡◌ {A = Bool} false true = h in cc)

-- a literal continues or begins a clause, and does not change the header
pub literal_goes : (t : CodeToken) → is_literal (token_of t) ≡ true → ((unfinished : PartialClause) (n : ℕ) → (ls : List ℕ) × (token_effect unfinished n (token_of t) ≡ Continues (Some ls))) × ((h : Option (ℕ × ℕ)) → h ≡ header_after (token_of t) h)
literal_goes (code.Number negative value) e = (literal_turn negative value (nat_eq value 0) (nat_lt var_limit value) refl refl e, (λ h. refl))
literal_goes x e = absurd (let g : ◌≡◌ {A = Bool} false true = e in cc)

-- a text that ends after a literal is malformed
pub finish_inside : (old : Parser) (i : ParserInvariant old) (o : old.stopped ≡ false) (t : CodeToken) (line : ℕ) → ((left_of : List ℕ → Scan) → HasRemainingScan old.tokenizer left_of → GivesTokenAtEnd (Some t) (left_of [])) → is_literal (token_of t) ≡ true
    → ((before : List ℕ → Scan) → HasRemainingScan old.tokenizer before → line ≡ capped (before []).last) → FaultAtEnd Malformed line old (at_end_of old)
finish_inside old i o t line gives lit l =
    let g = i.goes o in
    let q = gives g.left_of g.valid in
    let n = (g.left_of []).last in
    let x : ℕ × Token = (n, q.0) in
    let goes = literal_goes t lit in
    let s = goes.0 (partial_clause_in old.clauses) n in
    let e : token_effect (partial_clause_in old.clauses) n q.0 ≡ Continues (Some s.0) = sym (turn_of old.clauses n t q.0 q.1) ∙ s.1 in
    let m : CompleteClauses (g.before ++ x ∷ []) (all_clauses_of old) (Some s.0) = turned_goes g.before (all_clauses_of old) (partial_clause_in old.clauses) n q.0 g.turned (Some s.0) e in
    let says : dimacs old.history.fed ≡ record { clauses = all_clauses_of old; ending = Malformed n } =
    dimacs_is old.history.fed g.before (g.left_of []) (scan_whole old g)
    ∙ ap (λ (ts : List (ℕ × Token)). clauses_of None n (g.before ++ ts)) q.2
    ∙ ap (clauses_of None n) (sym (append-nil (g.before ++ x ∷ [])))
    ∙ m.says n []
    ∙ ap (prepend_clauses (all_clauses_of old)) (clauses_of_nil (Some s.0) n)
    ∙ ap (λ (cs : List (List ℕ)). record { clauses = cs; ending = Malformed n }) (append-nil (all_clauses_of old)) in
    let heads : dimacs_header old.history.fed ≡ header_of_tokens (g.before ++ x ∷ []) =
    ap (λ (k : Scan). header_of_tokens k.tokens) (scan_whole old g) ∙ ap (λ (ts : List (ℕ × Token)). header_of_tokens (g.before ++ ts)) q.2 in
    let header : old.clauses.header ≡ capped_header (header_of_tokens (g.before ++ x ∷ [])) =
    goes.1 old.clauses.header ∙ ap (λ (u : CodeToken). header_after (token_of u) old.clauses.header) q.1
    ∙ header_next g.before n q.0 old.clauses.header (last_first old g q.0 n q.2) (header_before old i g) in
    record {
      parser = over_parser (at_end_of old) (Malformed n) (header_of_tokens (g.before ++ x ∷ [])) refl refl says (i.count, i.vars) header heads;
      answer = (o, ended_progress old old refl, n, l g.left_of g.valid, ap (λ (d : Dimacs). d.ending) says);
    }

-- only numbers need memory
number_of : (given : Token) → IsLiteralOrEndsClause (token_of (capped_token given)) → (negative : Bool) × (value : ℕ) × (given ≡ Number negative value)
number_of (Number negative value) r = (negative, value, refl)
number_of (Letter b) (inr ends) = absurd (let e : ◌≡◌ {A = TokenEffect} (Fails (Malformed 0)) (EndsClause []) = ends None 0 in cc)
number_of (Header v c) (inr ends) = absurd (let e : ◌≡◌ {A = TokenEffect} (Continues None) (EndsClause []) = ends None 0 in cc)
number_of Wrong (inr ends) = absurd (let e : ◌≡◌ {A = TokenEffect} (Fails (Malformed 0)) (EndsClause []) = ends None 0 in cc)
number_of x (inl is) = absurd (let e : ◌≡◌ {A = Bool} false true = is in cc)

true_not : (b : Bool) → (b ≡ true → ⊥) → b ≡ false
true_not true h = absurd (h refl)
true_not false h = refl

-- memory ran out for the clause that the end of the text completes
pub finish_short : (old : Parser) (i : ParserInvariant old) (o : old.stopped ≡ false) (t : CodeToken) → ((left_of : List ℕ → Scan) → HasRemainingScan old.tokenizer left_of → GivesTokenAtEnd (Some t) (left_of [])) → is_literal (token_of t) ≡ false → IsLiteralOrEndsClause (token_of t)
    → NeedsMemoryAtEnd old.history.fed
finish_short old i o t gives lit (inl is) = absurd (let g : ◌≡◌ {A = Bool} true false = sym is ∙ lit in cc)
finish_short old i o t gives lit (inr ends) =
    let g = i.goes o in
    let q = gives g.left_of g.valid in
    let n = (g.left_of []).last in
    let x : ℕ × Token = (n, q.0) in
    let c = literals_in (partial_clause_in old.clauses) in
    let e : token_effect (partial_clause_in old.clauses) n q.0 ≡ EndsClause c = sym (turn_of old.clauses n t q.0 q.1) ∙ ends (partial_clause_in old.clauses) n in
    let m : CompleteClauses (g.before ++ x ∷ []) (all_clauses_of old ++ c ∷ []) None = turned_ends g.before (all_clauses_of old) (partial_clause_in old.clauses) n q.0 g.turned c e in
    let k = number_of q.0 (subst (λ (u : CodeToken). IsLiteralOrEndsClause (token_of u)) q.1 (inr ends)) in
    let word : HasNoNumberOrLetter (g.left_of []) → ⊥ = λ h. elim h [
      | inl none ↦ (let z : ◌≡◌ {A = List (ℕ × Token)} [] (x ∷ []) = sym none ∙ q.2 in cc)
      | inr other ↦ (let z : x ∷ [] ≡ (other.0, other.1) ∷ [] = sym q.2 ∙ other.3 in subst IsHeaderOrWrong (sym (first_token n other.0 q.0 other.1 [] [] z) ∙ k.2) other.2)
    ] in
    let clean : (dimacs old.history.fed).ending ≡ Clean =
    ap (λ (d : Dimacs). d.ending) (dimacs_is old.history.fed g.before (g.left_of []) (scan_whole old g)
    ∙ ap (λ (ts : List (ℕ × Token)). clauses_of None n (g.before ++ ts)) q.2
    ∙ ap (clauses_of None n) (sym (append-nil (g.before ++ x ∷ [])))
    ∙ m.says n []
    ∙ ap (prepend_clauses (all_clauses_of old ++ c ∷ [])) (clauses_of_nil None n)) in
    record {
      number = record {
        in_word = true_not (is_blank (last_byte old.history.fed)) (λ b. word (g.quiet b));
        before = g.before;
        negative = k.0;
        value = k.1;
        number = ap (λ (z : Scan). z.tokens) (scan_whole old g) ∙ ap (λ (ts : List (ℕ × Token)). g.before ++ ts) q.2 ∙ ap (λ (u : Token). g.before ++ (n, u) ∷ []) k.2
            ∙ ap (λ (m : ℕ). g.before ++ (m, Number k.0 k.1) ∷ []) (sym (ap (λ (z : Scan). z.last) (scan_whole old g)));
      };
      clean = clean;
      goes_on = λ h. given_goes_on old.tokenizer g.left_of g.valid (λ e. let z : ◌≡◌ {A = List (ℕ × Token)} [] (x ∷ []) = sym e ∙ q.2 in cc) (goes_here old g h);
    }

-- memory ran out for the token that a byte ends
no_fault_of : (unfinished : PartialClause) (n : ℕ) (t : Token) → ((ls : List ℕ) × (token_effect unfinished n t ≡ Continues (Some ls))) ⊎ (token_effect unfinished n t ≡ EndsClause (literals_in unfinished)) → HaveNoFault unfinished ((n, t) ∷ [])
no_fault_of unfinished n t (inl (ls, e)) = rw e tt
no_fault_of unfinished n t (inr e) = rw e tt

room_turn : (unfinished : PartialClause) (n : ℕ) (t : CodeToken) → IsLiteralOrEndsClause (token_of t) → ((ls : List ℕ) × (token_effect unfinished n (token_of t) ≡ Continues (Some ls))) ⊎ (token_effect unfinished n (token_of t) ≡ EndsClause (literals_in unfinished))
room_turn unfinished n t (inl is) = inl ((literal_goes t is).0 unfinished n)
room_turn unfinished n t (inr ends) = inr (ends unfinished n)

pub push_short : (old new : Parser) (b : ℕ) (t : CodeToken) → ParserInvariant old → old.stopped ≡ false → Pushed old.tokenizer new.tokenizer b (Some t) → ByteTaken old new b → IsLiteralOrEndsClause (token_of t) → NeedsMemoryAt old.history.fed b
push_short old new b t i o p y r =
    let g = i.goes o in
    let v = gave old new g b t p y in
    let n = (v.after []).last in
    let x : ℕ × Token = (n, v.given) in
    let blank : is_blank b ≡ true = not_false (is_blank b) v.blank in
    let none : (is_LF : Bool) → nat_eq b 10 ≡ is_LF → (v.after []).tokens ≡ [] = λ is_LF. elim is_LF as (λ (k : Bool). nat_eq b 10 ≡ k → (v.after []).tokens ≡ []) [
      | true ↦ λ e. let l : b ≡ 10 = grind (arith, nat_tests) in v.stepped.ended l
      | false ↦ λ e. alone_given old.tokenizer b n v.given g.left_of v.after g.valid e blank v.stepped.gives
    ] in
    let text : (scan (old.history.fed ++ b ∷ [])).tokens ≡ g.before ++ x ∷ [] =
    ap (λ (bytes : List ℕ). (scan bytes).tokens) (sym y.fed) ∙ ap (λ (k : Scan). k.tokens) (step_scan old new g b (x ∷ []) v.after v.stepped)
    ∙ ap (λ (ts : List (ℕ × Token)). (g.before ++ x ∷ []) ++ ts) (none (nat_eq b 10) refl) ∙ append-nil (g.before ++ x ∷ []) in
    let here : HaveNoFault (partial_clause_in old.clauses) (x ∷ []) = no_fault_of (partial_clause_in old.clauses) n v.given
    (subst (λ (k : TokenEffect). ((ls : List ℕ) × (k ≡ Continues (Some ls))) ⊎ (k ≡ EndsClause (literals_in (partial_clause_in old.clauses)))) (turn_of old.clauses n t v.given v.held) (room_turn (partial_clause_in old.clauses) n t r)) in
    let k = number_of v.given (subst (λ (u : CodeToken). IsLiteralOrEndsClause (token_of u)) v.held r) in
    let whole : scan (old.history.fed ++ b ∷ []) ≡ prepend_tokens (g.before ++ x ∷ []) (v.after []) = ap scan (sym y.fed) ∙ step_scan old new g b (x ∷ []) v.after v.stepped in
    let header : IsHeaderOrWrong v.given → ⊥ = λ h. subst IsHeaderOrWrong k.2 h in
    record {
      blank = blank;
      number = record {
        in_word = true_not (is_blank (last_byte old.history.fed)) (λ e. header (quiet_given old.tokenizer b n v.given g.left_of v.after g.valid (g.quiet e) blank v.stepped.gives));
        before = g.before;
        negative = k.0;
        value = k.1;
        number = text ∙ ap (λ (u : Token). g.before ++ (n, u) ∷ []) k.2 ∙ ap (λ (m : ℕ). g.before ++ (m, Number k.0 k.1) ∷ []) (sym (ap (λ (z : Scan). z.last) whole));
      };
      sound = subst (HaveNoFault None) (sym text) (g.turned.sound (x ∷ []) here);
    }

-- THE START
pub first_parser : (p : Parser) → p.history.fed ≡ [] → p.history.taken ≡ [] → p.clauses.formula ≡ no_formula → partial_clause_in p.clauses ≡ None → p.clauses.count ≡ 0 → p.clauses.header ≡ None → p.ended ≡ false → HasRemainingScan p.tokenizer scan
    → ParserInvariant p
unfolding dimacs clauses_of scan lines tokens_of last_line
first_parser p f t m h c e o s =
    let none : all_clauses_of p ≡ [] = rw (t, m) refl in
    record {
      clauses = rw (o, f, none) refl;
      count = rw (c, none) refl;
      vars = rw (m, t) refl;
      header = rw (e, o, f) refl;
      goes = λ _. record {
        ended = o;
        before = [];
        left_of = scan;
        valid = s;
        scans = λ rest. rw f refl;
        turned = rw (none, h) turned_first;
        heads = rw f refl;
        sound = rw f tt;
        quiet = λ _. inl refl;
        right = ([], tt);
      };
    }
