-- Faults that a tokenizer finds in a formula's text.
use Rattle.std.proofs.Common.{◌≡◌, ℕ, ◌+◌, ◌<◌, List, [], ◌∷◌, ◌++◌, Bool, true, false, Some, None, Result, Ok, Err, refl, sym, ap, subst, ◌∙◌, append_assoc, length, take, drop, get_or, arith}
use Rattle.std.proofs.lemmas.List.{append-nil, take_more, take-append-drop}
use Rattle.std.proofs.lemmas.Bool.Decides.{nat_tests}
use Rattle.std.specs.Prelude.{nat_eq}
use Rattle.sat_base.specs.declared.text.Token.{Token as CodeToken}
use Rattle.sat_base.specs.declared.text.Tokenizer.{Tokenizer}
use Rattle.sat_base.specs.declared.dimacs.error.DimacsError.{DimacsError}
use Rattle.sat_base.specs.declared.dimacs.error.DimacsError.TheVariants as errors
use Rattle.sat_base.specs.text.Text.{is_blank, Token, Wrong, Scan, scan, tokens}
use Rattle.sat_base.specs.text.Position.{prepend_tokens}
use Rattle.sat_base.specs.text.WrongWords.{HasValidContinuation, HasNoValidContinuation}
use Rattle.sat_base.specs.text.Tokenizing.{capped, capped_token, HasRemainingScan}
use Rattle.sat_base.specs.dimacs.Dimacs.{PartialClause, TokenEffect, Continues, EndsClause, Fails, Ending, Malformed, Limit, Dimacs, token_effect, clauses_of, dimacs}
use Rattle.sat_base.specs.dimacs.Collecting.{token_of}
use Rattle.sat_base.specs.dimacs.Parsing.{Progress, HaveNoFault, NoFaultAndThen, whole_lines, EndsAtFault, FeedsPiece, HasFaultOn, RefusesPiece}
use Rattle.sat_base.specs.dimacs.ParserPlaces.{CompleteClauses}
use Rattle.sat_base.specs.dimacs.Faults.{HasReceivedWithoutFault, FindsFault, ReportsTokenFault, OutOfMemoryOrFault}
use Rattle.sat_base.proofs.lemmas.dimacs.Collected.{whole_LF, whole_inside, turn-held, turned_goes, turned_ends, fails_there, scans_next, dimacs_is}
use Rattle.sat_base.proofs.lemmas.dimacs.Feeding.{Pushed, not_false}
use Rattle.sat_base.proofs.lemmas.dimacs.Parsed.{fault_ends}

module _ (text : List ℕ) (b : ℕ) (old new : Tokenizer) (h : HasReceivedWithoutFault text old) where
  abbrev Left : List (ℕ × Token) → (List ℕ → Scan) → Type 0
  Left xs after = (rest : List ℕ) → h.left_of (b ∷ rest) ≡ prepend_tokens xs (after rest)

  next_scan : (xs : List (ℕ × Token)) (after : List ℕ → Scan) → Left xs after → (scan (text ++ b ∷ [])).tokens ≡ (h.before ++ xs) ++ (after []).tokens
  next_scan xs after gives =
      ap (λ (z : List ℕ). (scan z).tokens) (sym (append-nil (text ++ b ∷ []))) ∙ ap (λ (s : Scan). s.tokens) (scans_next text b h.before xs h.left_of after h.scans gives [])

  next_sound : (xs : List (ℕ × Token)) (after : List ℕ → Scan) (all : List (List ℕ)) (unfinished : PartialClause) → Left xs after → (b ≡ 10 → (after []).tokens ≡ []) → CompleteClauses (h.before ++ xs) all unfinished
      → (is_LF : Bool) → nat_eq b 10 ≡ is_LF → HaveNoFault None (tokens (whole_lines (text ++ b ∷ [])))
  next_sound xs after all unfinished gives ended m true e =
      let n : b ≡ 10 = grind (arith, nat_tests) in
      let here : HaveNoFault None (h.before ++ xs) = subst (HaveNoFault None) (append-nil (h.before ++ xs)) (m.sound [] tt) in
      let same : tokens (whole_lines (text ++ b ∷ [])) ≡ h.before ++ xs =
      ap tokens (whole_LF text b e) ∙ next_scan xs after gives ∙ ap (λ (ts : List (ℕ × Token)). (h.before ++ xs) ++ ts) (ended n) ∙ append-nil (h.before ++ xs) in
      subst (HaveNoFault None) (sym same) here
  next_sound xs after all unfinished gives ended m false e = subst (λ (z : List ℕ). HaveNoFault None (tokens z)) (sym (whole_inside text b e)) h.sound

  next_with : (xs : List (ℕ × Token)) (after : List ℕ → Scan) (all : List (List ℕ)) (unfinished : PartialClause) → HasRemainingScan new after → Left xs after → (b ≡ 10 → (after []).tokens ≡ []) → CompleteClauses (h.before ++ xs) all unfinished → HasValidContinuation after
      → HasReceivedWithoutFault (text ++ b ∷ []) new
  next_with xs after all unfinished st gives ended m r = record {
    before = h.before ++ xs;
    all = all;
    unfinished = unfinished;
    left_of = after;
    valid = st;
    scans = scans_next text b h.before xs h.left_of after h.scans gives;
    turned = m;
    sound = next_sound xs after all unfinished gives ended m (nat_eq b 10) refl;
    right = r;
  }

  -- a byte that ends no token: there is still no fault
  pub next_none : Pushed old new b None → ((after : List ℕ → Scan) → HasRemainingScan new after → HasValidContinuation after) → HasReceivedWithoutFault (text ++ b ∷ []) new
  next_none p r =
      let q = p.takes h.left_of h.valid in
      let m : CompleteClauses (h.before ++ []) h.all h.unfinished = rw (append-nil h.before) h.turned in
      next_with [] q.0 h.all h.unfinished q.1 q.2 (λ k. p.ended k q.0 q.1) m (r q.0 q.1)

  -- a byte that makes the unfinished word wrong
  pub next_wrong : (line : ℕ) → Pushed old new b None → ((after : List ℕ → Scan) → HasRemainingScan new after → HasNoValidContinuation after) → ((after : List ℕ → Scan) → HasRemainingScan new after → line ≡ capped (after []).last)
      → FindsFault (Err (errors.Malformed line)) (text ++ b ∷ []) new
  next_wrong line p w l =
      let q = p.takes h.left_of h.valid in
      let n = (q.0 []).last in
      let x : ℕ × Token = (n, Wrong) in
      let wrong = w q.0 q.1 in
      let same : (rest : List ℕ) → (h.before ++ []) ++ (q.0 rest).tokens ≡ (h.before ++ x ∷ []) ++ (wrong rest).0 = λ rest.
      ap (λ (ts : List (ℕ × Token)). (h.before ++ []) ++ ts) (wrong rest).1 ∙ ap (λ (ts : List (ℕ × Token)). ts ++ x ∷ (wrong rest).0) (append-nil h.before)
      ∙ sym (append_assoc h.before (x ∷ []) (wrong rest).0) in (
        n,
        l q.0 q.1,
        λ rest. ap (λ (d : Dimacs). d.ending) (dimacs_is ((text ++ b ∷ []) ++ rest) (h.before ++ []) (q.0 rest) (scans_next text b h.before [] h.left_of q.0 h.scans q.2 rest)
            ∙ ap (clauses_of None (q.0 rest).last) (same rest)
            ∙ fails_there h.before h.all h.unfinished n Wrong h.turned (Malformed n) refl (q.0 rest).last (wrong rest).0),
      )

  module _ (t : CodeToken) (p : Pushed old new b (Some t)) where
    turned_next : (n : ℕ) (given : Token) (k : TokenEffect) → token_effect h.unfinished n given ≡ k → NoFaultAndThen k (λ g. Unit {0}) → (all : List (List ℕ)) × (unfinished : PartialClause) × CompleteClauses (h.before ++ (n, given) ∷ []) all unfinished
    turned_next n given (Continues g) e u = (h.all, g, turned_goes h.before h.all h.unfinished n given h.turned g e)
    turned_next n given (EndsClause c) e u = (h.all ++ c ∷ [], None, turned_ends h.before h.all h.unfinished n given h.turned c e)
    turned_next n given (Fails ending) e u = absurd u

    turn_same : (given : Token) → t ≡ capped_token given → (n : ℕ) → token_effect h.unfinished n (token_of t) ≡ token_effect h.unfinished n given
    turn_same given e n = ap (λ (k : CodeToken). token_effect h.unfinished n (token_of k)) e ∙ turn-held h.unfinished n given

    -- a byte that ends a token without a fault
    next_some : ((unfinished : PartialClause) (n : ℕ) → NoFaultAndThen (token_effect unfinished n (token_of t)) (λ g. Unit {0})) → HasReceivedWithoutFault (text ++ b ∷ []) new
    next_some judged =
        let q = p.takes h.left_of h.valid in
        let n = (q.0 []).last in
        let given = q.2.0 in
        let m = turned_next n given (token_effect h.unfinished n given) refl (subst (λ (k : TokenEffect). NoFaultAndThen k (λ g. Unit {0})) (turn_same given q.2.1 n) (judged h.unfinished n)) in
        let blank : is_blank b ≡ true = not_false (is_blank b) (λ k. let z = p.inside k in cc) in
        next_with ((n, given) ∷ []) q.0 m.0 m.1 q.1 q.2.2 (λ k. p.ended k q.0 q.1) m.2 (p.right blank q.0 q.1)

    -- a byte that ends a token with a fault
    next_fails : (ending : ℕ → Ending) (line : ℕ) → ((unfinished : PartialClause) (n : ℕ) → token_effect unfinished n (token_of t) ≡ Fails (ending n)) → ((after : List ℕ → Scan) → HasRemainingScan new after → line ≡ capped (after []).last)
        → (n : ℕ) × (line ≡ capped n) × ((rest : List ℕ) → (dimacs ((text ++ b ∷ []) ++ rest)).ending ≡ ending n)
    next_fails ending line judged l =
        let q = p.takes h.left_of h.valid in
        let n = (q.0 []).last in
        let given = q.2.0 in
        let e : token_effect h.unfinished n given ≡ Fails (ending n) = sym (turn_same given q.2.1 n) ∙ judged h.unfinished n in (
          n,
          l q.0 q.1,
          λ rest. ap (λ (d : Dimacs). d.ending) (dimacs_is ((text ++ b ∷ []) ++ rest) (h.before ++ (n, given) ∷ []) (q.0 rest) (scans_next text b h.before ((n, given) ∷ []) h.left_of q.0 h.scans q.2.2 rest)
              ∙ fails_there h.before h.all h.unfinished n given h.turned (ending n) e (q.0 rest).last (q.0 rest).tokens),
        )

    pub next_judged : (r : Result (Unit {0}) DimacsError) (line : ℕ) → ReportsTokenFault r line (token_of t) → ((after : List ℕ → Scan) → HasRemainingScan new after → line ≡ capped (after []).last) → FindsFault r (text ++ b ∷ []) new
    next_judged (Ok u) line j l = next_some j
    next_judged (Err (errors.Malformed k)) line j l = let f = next_fails Malformed line j.1 l in (f.0, j.0 ∙ f.1, f.2)
    next_judged (Err (errors.Limit k)) line j l = let f = next_fails Limit line j.1 l in (f.0, j.0 ∙ f.1, f.2)
    next_judged (Err e) line j l = absurd j

-- SEVERAL BYTES
split_text : (text xs rest : List ℕ) (i : ℕ) → i < length xs → (text ++ xs) ++ rest ≡ ((text ++ take i xs) ++ get_or xs i 0 ∷ []) ++ (drop (i + 1) xs ++ rest)
split_text text xs rest i h =
    let s : xs ≡ take (i + 1) xs ++ drop (i + 1) xs = sym (take-append-drop (i + 1) xs) in
    let m : take (i + 1) xs ≡ take i xs ++ get_or xs i 0 ∷ [] = take_more xs i 0 h in
    ap (λ (z : List ℕ). (text ++ z) ++ rest) (s ∙ ap (λ (z : List ℕ). z ++ drop (i + 1) xs) m)
    ∙ ap (λ (z : List ℕ). z ++ rest) (sym (append_assoc text (take i xs ++ get_or xs i 0 ∷ []) (drop (i + 1) xs)) ∙ ap (λ (z : List ℕ). z ++ drop (i + 1) xs) (sym (append_assoc text (take i xs) (get_or xs i 0 ∷ []))))
    ∙ append_assoc ((text ++ take i xs) ++ get_or xs i 0 ∷ []) (drop (i + 1) xs) rest

pub found_within : (e : DimacsError) (text xs : List ℕ) (i : ℕ) (m k : Tokenizer) → i < length xs → FindsFault (Err e) ((text ++ take i xs) ++ get_or xs i 0 ∷ []) m → FindsFault (Err e) (text ++ xs) k
found_within (errors.Malformed line) text xs i m k h f = (f.0, f.1, λ rest. ap (λ (z : List ℕ). (dimacs z).ending) (split_text text xs rest i h) ∙ f.2 (drop (i + 1) xs ++ rest))
found_within (errors.Limit line) text xs i m k h f = (f.0, f.1, λ rest. ap (λ (z : List ℕ). (dimacs z).ending) (split_text text xs rest i h) ∙ f.2 (drop (i + 1) xs ++ rest))
found_within e text xs i m k h f = absurd f

pub taken_more : (text xs : List ℕ) (i : ℕ) (m : Tokenizer) → i < length xs → HasReceivedWithoutFault ((text ++ take i xs) ++ get_or xs i 0 ∷ []) m → HasReceivedWithoutFault (text ++ take (i + 1) xs) m
taken_more text xs i m h s =
    let e : (text ++ take i xs) ++ get_or xs i 0 ∷ [] ≡ text ++ take (i + 1) xs = append_assoc text (take i xs) (get_or xs i 0 ∷ []) ∙ ap (λ (z : List ℕ). text ++ z) (sym (take_more xs i 0 h)) in
    subst (λ (z : List ℕ). HasReceivedWithoutFault z m) e s

-- if a parser stops at a fault, the text has this fault, however it continues
fault_on : (line : ℕ) (ending : ℕ → Ending) (piece : List ℕ) (p q : Progress) (n : ℕ) → line ≡ capped n → EndsAtFault (ending n) piece p q → HasFaultOn line ending (p.fed ++ piece)
fault_on line ending piece p q n e f = (n, e, fault_ends (ending n) p.fed piece p q refl f)

stopped_by : (e : DimacsError) (piece : List ℕ) (p q : Progress) → FeedsPiece (Err e) piece p q → (e ≡ errors.OutOfMemory → ⊥) → RefusesPiece e piece p
stopped_by (errors.Malformed line) piece p q f other = fault_on line Malformed piece p q f.1 f.2 f.3
stopped_by (errors.Limit line) piece p q f other = fault_on line Limit piece p q f.1 f.2 f.3
stopped_by errors.OutOfMemory piece p q f other = absurd (other refl)
stopped_by errors.HasFailed piece p q f other = f.0
stopped_by errors.Read piece p q f other = absurd f

short_or_fault : (r : DimacsError) (piece : List ℕ) (p q : Progress) → FeedsPiece (Err errors.OutOfMemory) piece p q → OutOfMemoryOrFault r (p.fed ++ piece) → RefusesPiece r piece p
short_or_fault (errors.Malformed line) piece p q f o = o
short_or_fault (errors.Limit line) piece p q f o = o
short_or_fault errors.OutOfMemory piece p q f o = ((q, f.1), o)
short_or_fault r piece p q f o = absurd o

-- the error of a piece is why it is refused, unless memory ran out and the piece has a fault
pub refused_by : (e r : DimacsError) (piece : List ℕ) (p q : Progress) → FeedsPiece (Err e) piece p q → ((e ≡ errors.OutOfMemory → ⊥) → r ≡ e) → (e ≡ errors.OutOfMemory → OutOfMemoryOrFault r (p.fed ++ piece)) → RefusesPiece r piece p
refused_by errors.OutOfMemory r piece p q f same found = short_or_fault r piece p q f (found refl)
refused_by e r piece p q f same found = rw (same (λ z. absurd cc)) (stopped_by e piece p q f (λ z. absurd cc))

-- memory runs out only in a parser that has not stopped
pub open_before : (e : DimacsError) (piece : List ℕ) (p q : Progress) → FeedsPiece (Err e) piece p q → e ≡ errors.OutOfMemory → p.stopped ≡ false
open_before errors.OutOfMemory piece p q f e = f.0
open_before e piece p q f k = absurd cc
