-- Texts that are read line by line.
use Rattle.std.proofs.Common.{ℕ, ◌+◌, ◌%◌, ◌^◌, ◌<◌, ◌≤◌, ◌≡◌, ◌⊎◌, inl, inr, Bool, true, false, cond, List, [], ◌∷◌, ◌++◌, decimal, get_or, length, take, drop, Result, Ok, Err, refl, sym, ◌∙◌, ap, subst, append_assoc, arith}
use Rattle.std.proofs.lemmas.Fmt.{decimal_by_steps}
use Rattle.std.proofs.lemmas.List.{append-nil, drop_all, take_all, take_more, take-append-drop}
use Rattle.sat_base.specs.device.Reading.{Source, AtEnd, ConsumesBytes}
use Rattle.sat_base.proofs.lemmas.device.ReadLemmas.{ends_there, gave_nothing, gave_some, passes_more}
use Rattle.sat_base.specs.declared.device.whole.ReadError.{ReadError}
use Rattle.sat_base.specs.declared.device.whole.ReadError.TheVariants as errors
use Rattle.sat_base.specs.values.Literals.{var_limit}
use Rattle.sat_base.specs.script.Script.{Literal}
use Rattle.sat_base.specs.script.ScriptState.{Refusal, PastLimit, WitnessName}
use Rattle.sat_checker.specs.matching.Expected.{Outcome, Sat, Unsat}
use Rattle.certify.specs.answers.Answers.{outcome_text, refused_line, refusal_text, malformed_line, literals_text, literal_text}
use Rattle.certify.specs.answers.AnswerForms.{HaveNames, IsPrintable, named_literals}
use Rattle.certify.specs.answers.AnswerReading.{HasSecondLine, WhyNoFirstLine, WhyNoSecondLine, CannotBeginFirstLine, CannotBeginSecondLine, first_answer_line, second_line, outcome_of}
use Rattle.certify.specs.confirm.Lines.{ReadsDueLine, stop_for_answer}
use Rattle.certify.specs.confirm.Streams.{CanBeTotal, rest_in}
use Rattle.certify.specs.confirm.CallResults.{AnswersCall, ResultDecides, stop_for_answers_read}
use Rattle.certify.specs.confirm.Lines.{IsLineOrAll, EndsLineAt, HasNoLf, IsOneLine, IsNextLine, ReadsReply, IsWantedLine, IsWrongStart, NextLine, ReadsFirstLine, ReadsLineOfKind, ReadsSecondLine, CannotBegin}
use Rattle.certify.specs.script.LastPiece.{NoReadFailedAhead, RefillsAhead, ConsumesSome}
use Rattle.certify.specs.declared.answers.read.AnswerFault.{AnswerFault}
use Rattle.certify.specs.declared.answers.read.AnswerFault.TheVariants as fault
use Rattle.certify.specs.declared.answers.read.AnswerKind.{AnswerKind}
use Rattle.certify.specs.declared.answers.read.AnswerKind.TheVariants as kind
use Rattle.certify.specs.declared.confirm.stop.Stop.TheVariants as stop
use Rattle.certify.specs.declared.confirm.stop.Stop.{Stop}
use Rattle.certify.specs.declared.confirm.lines.Wanted.{Wanted}
use Rattle.certify.specs.declared.confirm.lines.Wanted.TheVariants as wanted
use Rattle.certify.specs.declared.verdict.Why.{Why}
use Rattle.certify.proofs.lemmas.answers.AnswerLines.{lines_of, same_kind, printed}
use Rattle.certify.proofs.lemmas.confirm.Streams.{all_over, nothing_after, taken_front}
use Rattle.certify.proofs.lemmas.laws.DistinctTexts.{same_outcome}
use Rattle.certify.proofs.lemmas.confirm.Joining.{failed_then, replies_no, replies_stop, replies_then, took_halted, took_kept, took_none}

-- WHERE A LINE ENDS

pub no_lf_append : (xs ys : List ℕ) → HasNoLf xs → HasNoLf ys → HasNoLf (xs ++ ys)
no_lf_append [] ys h k = k
no_lf_append (x ∷ xs) ys h k = (h.0, no_lf_append xs ys h.1 k)

no_lf_in : (xs front following : List ℕ) → HasNoLf xs → xs ≡ front ++ 10 ∷ following → ⊥
no_lf_in [] [] following h e = cc
no_lf_in [] (f ∷ fs) following h e = cc
no_lf_in (x ∷ xs) [] following h e = let same : x ≡ 10 = cc in h.0 same
no_lf_in (x ∷ xs) (f ∷ fs) following h e = let rest : xs ≡ fs ++ 10 ∷ following = cc in no_lf_in xs fs following h.1 rest

first_lf : (xs ys x y : List ℕ) → HasNoLf xs → HasNoLf ys → xs ++ 10 ∷ x ≡ ys ++ 10 ∷ y → (xs ≡ ys) × (x ≡ y)
first_lf [] [] x y h k e = let rest : x ≡ y = cc in (refl, rest)
first_lf [] (b ∷ bs) x y h k e = let same : b ≡ 10 = cc in absurd (k.0 same)
first_lf (a ∷ zs) [] x y h k e = let same : a ≡ 10 = cc in absurd (h.0 same)
first_lf (a ∷ zs) (b ∷ bs) x y h k e =
    let same : a ≡ b = cc in
    let more : zs ++ 10 ∷ x ≡ bs ++ 10 ∷ y = cc in
    let r = first_lf zs bs x y h.1 k.1 more in
    (ap (λ (ws : List ℕ). a ∷ ws) r.0 ∙ ap (λ (w : ℕ). w ∷ bs) same, r.1)

-- bytes without LF at the beginning of a text are a prefix of its first line
in_front : (xs ys more tail : List ℕ) → HasNoLf xs → xs ++ more ≡ ys ++ 10 ∷ tail → (rest : List ℕ) × (ys ++ 10 ∷ [] ≡ xs ++ rest)
in_front [] ys more tail h e = (ys ++ 10 ∷ [], refl)
in_front (x ∷ xs) [] more tail h e = let same : x ≡ 10 = cc in absurd (h.0 same)
in_front (x ∷ xs) (y ∷ ys) more tail h e =
    let same : y ≡ x = cc in
    let next : xs ++ more ≡ ys ++ 10 ∷ tail = cc in
    let r = in_front xs ys more tail h.1 next in
    (r.0, ap (λ (zs : List ℕ). y ∷ zs) r.1 ∙ ap (λ (z : ℕ). z ∷ (xs ++ r.0)) same)

-- TEXTS THAT ARE LINES

-- bytes without LF and then a line are a line
pub line_on : (xs ys : List ℕ) → HasNoLf xs → IsOneLine ys → IsOneLine (xs ++ ys)
line_on xs ys h l = record { front = xs ++ l.front; none = no_lf_append xs l.front h l.none; whole = ap (λ (z : List ℕ). xs ++ z) l.whole ∙ sym (append_assoc xs l.front (10 ∷ [])) }

line_more : (x : ℕ) (ys : List ℕ) → (x ≡ 10 → ⊥) → IsOneLine ys → IsOneLine (x ∷ ys)
line_more x ys h l = line_on (x ∷ []) ys (h, tt) l

line_end : IsOneLine (10 ∷ [])
line_end = record { front = []; none = tt; whole = refl }

above : (x : ℕ) → 10 < x → x ≡ 10 → ⊥
above x h e = absurd (omega arith)

digits_no_lf : (n : ℕ) → n < 2 ^ 64 → HasNoLf (decimal n)
digits_no_lf n h = decimal_by_steps (λ m ds. HasNoLf ds) (λ m k. ((λ e. omega arith), tt)) (λ m ds k ih. no_lf_append ds ((48 + m % 10) ∷ []) ih ((λ e. omega arith), tt)) n h

number_line : (n : ℕ) (ys : List ℕ) → n < 2 ^ 64 → IsOneLine ys → IsOneLine (decimal n ++ ys)
number_line n ys h l = line_on (decimal n) ys (digits_no_lf n h) l

refusal_line : (r : Refusal) → ((name : ℕ) → r ≡ WitnessName name → name < 2 ^ 64) → IsOneLine (refusal_text r)
refusal_line PastLimit h = line_more 108 _ (above 108 (omega arith)) (line_more 105 _ (above 105 (omega arith)) (line_more 109 _ (above 109 (omega arith)) (line_more 105 _ (above 105 (omega arith)) (line_more 116 _ (above 116 (omega arith)) line_end))))
refusal_line (WitnessName name) h =
    line_more 119 _ (above 119 (omega arith)) (line_more 105 _ (above 105 (omega arith)) (line_more 116 _ (above 116 (omega arith)) (line_more 110 _ (above 110 (omega arith)) (line_more 101 _ (above 101 (omega arith))
    (line_more 115 _ (above 115 (omega arith)) (line_more 115 _ (above 115 (omega arith)) (line_more 32 _ (above 32 (omega arith)) (number_line name (10 ∷ []) (h name refl) line_end))))))))

pub refused_is_line : (k : ℕ) (r : Refusal) → k < 2 ^ 64 → ((name : ℕ) → r ≡ WitnessName name → name < 2 ^ 64) → IsOneLine (refused_line k r)
refused_is_line k r low h =
    line_more 99 _ (above 99 (omega arith)) (line_more 32 _ (above 32 (omega arith)) (line_more 114 _ (above 114 (omega arith)) (line_more 101 _ (above 101 (omega arith)) (line_more 102 _ (above 102 (omega arith))
    (line_more 117 _ (above 117 (omega arith)) (line_more 115 _ (above 115 (omega arith)) (line_more 101 _ (above 101 (omega arith)) (line_more 100 _ (above 100 (omega arith)) (line_more 32 _ (above 32 (omega arith))
    (number_line k (32 ∷ refusal_text r) low (line_more 32 _ (above 32 (omega arith)) (refusal_line r h))))))))))))

pub malformed_is_line : (k : ℕ) → k < 2 ^ 64 → IsOneLine (malformed_line k)
malformed_is_line k low =
    line_more 99 _ (above 99 (omega arith)) (line_more 32 _ (above 32 (omega arith)) (line_more 109 _ (above 109 (omega arith)) (line_more 97 _ (above 97 (omega arith)) (line_more 108 _ (above 108 (omega arith))
    (line_more 102 _ (above 102 (omega arith)) (line_more 111 _ (above 111 (omega arith)) (line_more 114 _ (above 114 (omega arith)) (line_more 109 _ (above 109 (omega arith)) (line_more 101 _ (above 101 (omega arith))
    (line_more 100 _ (above 100 (omega arith)) (line_more 32 _ (above 32 (omega arith)) (number_line k (10 ∷ []) low line_end))))))))))))

first_is_line : (k : AnswerKind) → IsOneLine (first_answer_line k)
first_is_line kind.Sat = line_more 115 _ (above 115 (omega arith)) (line_more 32 _ (above 32 (omega arith)) (line_more 83 _ (above 83 (omega arith)) (line_more 65 _ (above 65 (omega arith)) (line_more 84 _ (above 84 (omega arith)) (line_more 73 _ (above 73 (omega arith)) (line_more 83 _ (above 83 (omega arith)) (line_more 70 _ (above 70 (omega arith)) (line_more 73 _ (above 73 (omega arith)) (line_more 65 _ (above 65 (omega arith)) (line_more 66 _ (above 66 (omega arith)) (line_more 76 _ (above 76 (omega arith)) (line_more 69 _ (above 69 (omega arith)) line_end))))))))))))
first_is_line kind.Unsat = line_more 115 _ (above 115 (omega arith)) (line_more 32 _ (above 32 (omega arith)) (line_more 85 _ (above 85 (omega arith)) (line_more 78 _ (above 78 (omega arith)) (line_more 83 _ (above 83 (omega arith)) (line_more 65 _ (above 65 (omega arith)) (line_more 84 _ (above 84 (omega arith)) (line_more 73 _ (above 73 (omega arith)) (line_more 83 _ (above 83 (omega arith)) (line_more 70 _ (above 70 (omega arith)) (line_more 73 _ (above 73 (omega arith)) (line_more 65 _ (above 65 (omega arith)) (line_more 66 _ (above 66 (omega arith)) (line_more 76 _ (above 76 (omega arith)) (line_more 69 _ (above 69 (omega arith)) line_end))))))))))))))
first_is_line kind.Unknown = line_more 115 _ (above 115 (omega arith)) (line_more 32 _ (above 32 (omega arith)) (line_more 85 _ (above 85 (omega arith)) (line_more 78 _ (above 78 (omega arith)) (line_more 75 _ (above 75 (omega arith)) (line_more 78 _ (above 78 (omega arith)) (line_more 79 _ (above 79 (omega arith)) (line_more 87 _ (above 87 (omega arith)) (line_more 78 _ (above 78 (omega arith)) line_end))))))))

low_name : (n : ℕ) → n ≤ var_limit → n < 2 ^ 64
low_name n h = omega arith

word_line : (l : Literal) (ys : List ℕ) → l.name ≤ var_limit → IsOneLine ys → IsOneLine (literal_text l ++ ys)
word_line l ys low h = line_on (literal_text l) ys (go l.positive) h
  where
    go : (b : Bool) → HasNoLf (cond b [] (45 ∷ []) ++ decimal l.name)
    go true = digits_no_lf l.name (low_name l.name low)
    go false = (above 45 (omega arith), digits_no_lf l.name (low_name l.name low))

literals_line : (ls : List Literal) → HaveNames ls → IsOneLine (literals_text ls)
literals_line [] h = line_more 48 _ (above 48 (omega arith)) line_end
literals_line (l ∷ ls) h = word_line l (32 ∷ literals_text ls) h.0.1 (line_more 32 _ (above 32 (omega arith)) (literals_line ls h.1))

second_is_line : (k : AnswerKind) → HasSecondLine k → (ls : List Literal) → IsPrintable (outcome_of k ls) → IsOneLine (second_line (outcome_of k ls))
second_is_line kind.Sat u ls h = line_more 118 _ (above 118 (omega arith)) (line_more 32 _ (above 32 (omega arith)) (literals_line ls h.0))
second_is_line kind.Unsat u ls h = line_more 102 _ (above 102 (omega arith)) (line_more 32 _ (above 32 (omega arith)) (literals_line ls h.0))
second_is_line kind.Unknown u ls h = absurd u

-- THE LINE THAT WAS READ

-- `FirstLine P line bytes more` holds if `line` is a line, or all bytes without LF, or bytes that begin no expected
-- line.
abbrev FirstLine : (List ℕ → Type 0) → List ℕ → List ℕ → List ℕ → Type 0
FirstLine P line bytes more = (IsOneLine line × (bytes ≡ line ++ more)) ⊎ ((HasNoLf line × (bytes ≡ line)) ⊎ ((HasNoLf line × (bytes ≡ line ++ more)) × IsWrongStart P line))

module _ (P : List ℕ → Type 0) (a b : Source) (line total : List ℕ) (c : CanBeTotal b total) where
  first_of : IsNextLine P a b line → FirstLine P line (rest_in total a) (rest_in total b)
  first_of (inl h) = inl (h.1, taken_front 0 a b line total h.0 c)
  first_of (inr (inl h)) = inr (inl (h.1, nothing_after a b line total h.0 c))
  first_of (inr (inr h)) = inr (inr ((h.0.1, taken_front 0 a b line total h.0.0 c), h.1))

-- if an expected line comes next, it is the line that was read
the_line : (P : List ℕ → Type 0) (line bytes more text tail : List ℕ) → P text → IsOneLine text → FirstLine P line bytes more → bytes ≡ text ++ tail → (line ≡ text) × (more ≡ tail)
the_line P line bytes more text tail right t (inl h) e =
    let l = h.0 in
    let whole : l.front ++ 10 ∷ more ≡ t.front ++ 10 ∷ tail =
    sym (append_assoc l.front (10 ∷ []) more) ∙ ap (λ (z : List ℕ). z ++ more) (sym l.whole) ∙ sym h.1 ∙ e ∙ ap (λ (z : List ℕ). z ++ tail) t.whole ∙ append_assoc t.front (10 ∷ []) tail in
    let r = first_lf l.front t.front more tail l.none t.none whole in
    (l.whole ∙ ap (λ (z : List ℕ). z ++ 10 ∷ []) r.0 ∙ sym t.whole, r.1)
the_line P line bytes more text tail right t (inr (inl h)) e =
    absurd (no_lf_in line t.front tail h.0 (sym h.1 ∙ e ∙ ap (λ (z : List ℕ). z ++ tail) t.whole ∙ append_assoc t.front (10 ∷ []) tail))
the_line P line bytes more text tail right t (inr (inr h)) e =
    let f = in_front line t.front more tail h.0.0 (sym h.0.1 ∙ e ∙ ap (λ (z : List ℕ). z ++ tail) t.whole ∙ append_assoc t.front (10 ∷ []) tail) in
    absurd (h.1.0 f.0 (subst P (t.whole ∙ f.1) right))

-- a line that begins a line is all of it
front_is_line : (line text following : List ℕ) → IsOneLine text → IsOneLine line → line ≡ text ++ following → line ≡ text
front_is_line line text following t l e =
    let r = first_lf l.front t.front [] following l.none t.none (sym l.whole ∙ e ∙ ap (λ (z : List ℕ). z ++ following) t.whole ∙ append_assoc t.front (10 ∷ []) following) in
    l.whole ∙ ap (λ (z : List ℕ). z ++ 10 ∷ []) r.0 ∙ sym t.whole

module _ (P : List ℕ → Type 0) (a b : Source) (line : List ℕ) (open_yet : AtEnd a → ⊥) where
  line_halts : IsNextLine P a b line → ConsumesSome false a b
  line_halts (inl h) = took_halted a b open_yet (line, h.0)
  line_halts (inr (inl h)) = ((line, h.0.0), λ e. all_over b h.0.1)
  line_halts (inr (inr h)) = took_halted a b open_yet (line, h.0.0)

  -- if the line begins with `text`, exactly `text` was read
  line_taken : (text following : List ℕ) → IsOneLine text → line ≡ text ++ following → IsNextLine P a b line → ConsumesSome true a b × ((total : List ℕ) → CanBeTotal b total → rest_in total a ≡ text ++ rest_in total b)
  line_taken text following t e (inl h) =
      let same = front_is_line line text following t h.1 e in
      ((line, h.0), λ total c. taken_front 0 a b line total h.0 c ∙ ap (λ (z : List ℕ). z ++ rest_in total b) same)
  line_taken text following t e (inr (inl h)) = absurd (no_lf_in line t.front following h.1 (e ∙ ap (λ (z : List ℕ). z ++ following) t.whole ∙ append_assoc t.front (10 ∷ []) following))
  line_taken text following t e (inr (inr h)) = absurd (no_lf_in line t.front following h.0.1 (e ∙ ap (λ (z : List ℕ). z ++ following) t.whole ∙ append_assoc t.front (10 ∷ []) following))

  -- THE EXPECTED LINE
  pub due_taken : (due : List ℕ) → IsOneLine due → line ≡ due → IsNextLine P a b line → AnswersCall {A = Unit {0}} true (Ok tt) a b (λ before following. ReadsDueLine before following due)
  due_taken due d e h = let r = line_taken due [] d (e ∙ sym (append-nil due)) h in (r.0, r.1)

  -- a line that is not the expected one is rejected
  pub due_differs : (due : List ℕ) (why : Why) → P due → IsOneLine due → (line ≡ due → ⊥) → IsNextLine P a b line → AnswersCall {A = Unit {0}} true (Err (stop.No why)) a b (λ before following. ReadsDueLine before following due)
  due_differs due why right d differ h = (line_halts h, λ total c tail e. differ (the_line P line (rest_in total a) (rest_in total b) due tail right d (first_of P a b line total c h) e).0)

  -- AN ANSWER'S FIRST LINE
  pub kind_read : (k : AnswerKind) (following : List ℕ) → line ≡ first_answer_line k ++ following → IsNextLine P a b line → AnswersCall true (Ok k) a b ReadsFirstLine
  kind_read k following e h = line_taken (first_answer_line k) following (first_is_line k) e h

  -- a line that is not the first of an answer is rejected
  pub kind_differs : ((k : AnswerKind) → P (first_answer_line k)) → (w : AnswerFault) → WhyNoFirstLine line w → IsNextLine P a b line → AnswersCall {A = AnswerKind} true (Err (stop_for_answer w)) a b ReadsFirstLine
  kind_differs right fault.Missing n h = (line_halts h, none)
    where
      none : (total : List ℕ) → CanBeTotal b total → (o : Outcome) (tail : List ℕ) → rest_in total a ≡ outcome_text o ++ tail → ⊥
      none total c o tail e =
          let l = lines_of o tail (rest_in total a) e in
          let same = (the_line P line (rest_in total a) (rest_in total b) (first_answer_line l.kind) (second_line o ++ tail) (right l.kind) (first_is_line l.kind) (first_of P a b line total c h) l.text).0 in
          let t = first_is_line l.kind in
          no_lf_in [] t.front [] tt (sym n ∙ same ∙ t.whole)
  kind_differs right fault.Text n h = (line_halts h, none)
    where
      none : (total : List ℕ) → CanBeTotal b total → (o : Outcome) (tail : List ℕ) → rest_in total a ≡ outcome_text o ++ tail → ⊥
      none total c o tail e =
          let l = lines_of o tail (rest_in total a) e in
          let same = (the_line P line (rest_in total a) (rest_in total b) (first_answer_line l.kind) (second_line o ++ tail) (right l.kind) (first_is_line l.kind) (first_of P a b line total c h) l.text).0 in
          n.1 l.kind [] (same ∙ sym (append-nil (first_answer_line l.kind)))
  kind_differs right fault.OutOfMemory n h = absurd n

  -- AN ANSWER'S SECOND LINE
  pub second_read : (k : AnswerKind) (ls : List Literal) (following : List ℕ) → HasSecondLine k → IsPrintable (outcome_of k ls) → line ≡ second_line (outcome_of k ls) ++ following → IsNextLine P a b line → AnswersCall {A = Unit {0}} true (Ok tt) a b (ReadsSecondLine k ls)
  second_read k ls following u f e h = let r = line_taken (second_line (outcome_of k ls)) following (second_is_line k u ls f) e h in (r.0, λ total c. (r.1 total c, f))

  -- a line that is not the second of an answer of this kind is rejected, or memory runs out for it
  pub second_differs : (k : AnswerKind) (ls : List Literal) → ((ks : List Literal) → IsPrintable (outcome_of k ks) → P (second_line (outcome_of k ks))) → (w : AnswerFault) → HasSecondLine k → WhyNoSecondLine k line w → IsNextLine P a b line → AnswersCall {A = Unit {0}} true (Err (stop_for_answer w)) a b (ReadsSecondLine k ls)
  second_differs k ls right fault.Missing u n h = (line_halts h, none)
    where
      none : (total : List ℕ) → CanBeTotal b total → (ks : List Literal) (tail : List ℕ) → IsPrintable (outcome_of k ks) → rest_in total a ≡ second_line (outcome_of k ks) ++ tail → ⊥
      none total c ks tail f e =
          let t = second_is_line k u ks f in
          no_lf_in [] t.front [] tt (sym n.1 ∙ (the_line P line (rest_in total a) (rest_in total b) (second_line (outcome_of k ks)) tail (right ks f) t (first_of P a b line total c h) e).0 ∙ t.whole)
  second_differs k ls right fault.Text u n h = (line_halts h, none)
    where
      none : (total : List ℕ) → CanBeTotal b total → (ks : List Literal) (tail : List ℕ) → IsPrintable (outcome_of k ks) → rest_in total a ≡ second_line (outcome_of k ks) ++ tail → ⊥
      none total c ks tail f e =
          let t = second_is_line k u ks f in
          let same = (the_line P line (rest_in total a) (rest_in total b) (second_line (outcome_of k ks)) tail (right ks f) t (first_of P a b line total c h) e).0 in
          n.1 ks [] f (same ∙ sym (append-nil (second_line (outcome_of k ks))))
  second_differs k ls right fault.OutOfMemory u n h = line_kept h
    where
      line_kept : IsNextLine P a b line → NoReadFailedAhead a b
      line_kept h = took_kept false a b (line_halts h)

  -- THE END OF THE ANSWERS
  pub over_here : line ≡ [] → IsNextLine P a b line → AnswersCall {A = Unit {0}} false (Ok tt) a b (λ before following. ResultDecides (before ≡ []))
  over_here e h = (line_halts h, λ total c. here total c h)
    where
      here : (total : List ℕ) → CanBeTotal b total → IsNextLine P a b line → rest_in total a ≡ []
      here total c (inl k) = absurd (no_lf_in [] k.1.front [] tt (sym e ∙ k.1.whole))
      here total c (inr (inl k)) = nothing_after a b line total k.0 c ∙ e
      here total c (inr (inr k)) = absurd (k.1.1 e)

  -- if there are more bytes, the answers have not ended
  pub more_here : (why : Why) → (line ≡ [] → ⊥) → IsNextLine P a b line → AnswersCall {A = Unit {0}} false (Err (stop.No why)) a b (λ before following. ResultDecides (before ≡ []))
  more_here why some h = (line_halts h, λ total c e. some (nothing total c h e))
    where
      empty : (xs ys : List ℕ) → xs ++ ys ≡ [] → xs ≡ []
      empty [] ys e = refl
      empty (x ∷ xs) ys e = absurd (cc)

      nothing : (total : List ℕ) → CanBeTotal b total → IsNextLine P a b line → rest_in total a ≡ [] → line ≡ []
      nothing total c (inl k) e = empty line (rest_in total b) (sym (taken_front 0 a b line total k.0 c) ∙ e)
      nothing total c (inr (inl k)) e = sym (nothing_after a b line total k.0 c) ∙ e
      nothing total c (inr (inr k)) e = empty line (rest_in total b) (sym (taken_front 0 a b line total k.0.0 c) ∙ e)

-- COMPLETE ANSWERS

first_then : (k : AnswerKind) (ls : List Literal) (p q s : List ℕ) → p ≡ first_answer_line k ++ q → q ≡ second_line (outcome_of k ls) ++ s → p ≡ outcome_text (outcome_of k ls) ++ s
first_then kind.Sat ls p q s e f = e ∙ ap (λ (z : List ℕ). first_answer_line kind.Sat ++ z) f ∙ sym (append_assoc (first_answer_line kind.Sat) (second_line (Sat ls)) s)
first_then kind.Unsat ls p q s e f = e ∙ ap (λ (z : List ℕ). first_answer_line kind.Unsat ++ z) f ∙ sym (append_assoc (first_answer_line kind.Unsat) (second_line (Unsat ls)) s)
first_then kind.Unknown ls p q s e f = e ∙ ap (λ (z : List ℕ). first_answer_line kind.Unknown ++ z) f

-- an answer of another kind is not the empty core
pub not_alone : (k : AnswerKind) (p q : List ℕ) → (k ≡ kind.Unsat → ⊥) → p ≡ first_answer_line k ++ q → (o : Outcome) (tail : List ℕ) → o ≡ Unsat [] → p ≡ outcome_text o ++ tail → ⊥
not_alone k p q u e o tail is f =
    let l = lines_of o tail p f in
    let s = same_kind k l.kind q (second_line o ++ tail) (sym e ∙ l.text) in
    u (s.0 ∙ go l.kind l.line (l.is ∙ is))
  where
    go : (m : AnswerKind) (line : List Literal) → outcome_of m line ≡ Unsat [] → m ≡ kind.Unsat
    go kind.Sat line e = absurd (cc)
    go kind.Unsat line e = refl
    go kind.Unknown line e = absurd (cc)

pub no_second : (k : AnswerKind) (p q : List ℕ) → p ≡ first_answer_line k ++ q → ((ls : List Literal) (tail : List ℕ) → IsPrintable (outcome_of k ls) → q ≡ second_line (outcome_of k ls) ++ tail → ⊥)
    → (o : Outcome) (tail : List ℕ) → IsPrintable o → p ≡ outcome_text o ++ tail → ⊥
no_second k p q e none o tail form f =
    let l = lines_of o tail p f in
    let s = same_kind k l.kind q (second_line o ++ tail) (sym e ∙ l.text) in
    let is : outcome_of k l.line ≡ o = ap (λ (m : AnswerKind). outcome_of m l.line) s.0 ∙ l.is in
    none l.line tail (subst IsPrintable (sym is) form) (s.1 ∙ ap (λ (v : Outcome). second_line v ++ tail) (sym is))

-- the first and the second line together are an answer
pub whole_answer : (k : AnswerKind) (ls : List Literal) (p q s : List ℕ) → p ≡ first_answer_line k ++ q → ReadsSecondLine k ls q s (Ok tt) → (p ≡ outcome_text (outcome_of k ls) ++ s) × IsPrintable (outcome_of k ls)
whole_answer k ls p q s e f = (first_then k ls p q s e f.0, f.1)

-- an answer with literals is not the empty core
pub not_empty : (k : AnswerKind) (ls : List Literal) (p q s : List ℕ) → (ls ≡ [] → ⊥) → p ≡ first_answer_line k ++ q → ReadsSecondLine k ls q s (Ok tt) → (o : Outcome) (tail : List ℕ) → o ≡ Unsat [] → p ≡ outcome_text o ++ tail → ⊥
not_empty k ls p q s some e f o tail is g =
    let w = whole_answer k ls p q s e f in
    let same = same_outcome (outcome_of k ls) o s tail (printed (outcome_of k ls) w.1) (printed o (subst IsPrintable (sym is) (tt, tt))) (sym w.0 ∙ g) in
    go k (same.0 ∙ is)
  where
    go : (m : AnswerKind) → outcome_of m ls ≡ Unsat [] → ⊥
    go kind.Sat x = cc
    go kind.Unsat x = some (cc)
    go kind.Unknown x = cc

-- WHERE THE FIRST LF IS

pub line_here : (bytes : List ℕ) (i : ℕ) → i < length bytes → get_or bytes i 0 ≡ 10 → HasNoLf (take i bytes) → IsOneLine (take (i + 1) bytes)
line_here bytes i low is h = record { front = take i bytes; none = h; whole = take_more bytes i 0 low ∙ ap (λ (b : ℕ). take i bytes ++ b ∷ []) is }

pub no_lf_more : (bytes : List ℕ) (i : ℕ) → i < length bytes → (get_or bytes i 0 ≡ 10 → ⊥) → HasNoLf (take i bytes) → HasNoLf (take (i + 1) bytes)
no_lf_more bytes i low differ h = subst HasNoLf (sym (take_more bytes i 0 low)) (no_lf_append (take i bytes) (get_or bytes i 0 ∷ []) h (differ, tt))

pub no_lf_all : (bytes : List ℕ) (i : ℕ) → length bytes ≤ i → HasNoLf (take i bytes) → HasNoLf bytes
no_lf_all bytes i over h = subst HasNoLf (take_all i bytes over) h

-- BYTES THAT BEGIN NO EXPECTED LINE

pub starts_due : (w : Wanted) (due bytes : List ℕ) → w ≡ wanted.Due → ((more : List ℕ) → due ≡ bytes ++ more → ⊥) → CannotBegin (IsWantedLine w due) bytes
starts_due w due bytes is none more r = let e = subst (λ (v : Wanted). IsWantedLine v due (bytes ++ more)) is r in none more (sym e)

pub starts_first : (w : Wanted) (due bytes : List ℕ) → w ≡ wanted.First → CannotBeginFirstLine bytes → CannotBegin (IsWantedLine w due) bytes
starts_first w due bytes is none more r = let e = subst (λ (v : Wanted). IsWantedLine v due (bytes ++ more)) is r in none e.0 more (sym e.1)

pub starts_second : (w : Wanted) (k : AnswerKind) (due bytes : List ℕ) → w ≡ wanted.Second k → CannotBeginSecondLine k bytes → CannotBegin (IsWantedLine w due) bytes
starts_second w k due bytes is none more r = let e = subst (λ (v : Wanted). IsWantedLine v due (bytes ++ more)) is r in none e.0 more e.1.0 (sym e.1.1)

pub starts_nothing : (w : Wanted) (due bytes : List ℕ) → w ≡ wanted.Nothing → CannotBegin (IsWantedLine w due) bytes
starts_nothing w due bytes is more r = subst (λ (v : Wanted). IsWantedLine v due (bytes ++ more)) is r

-- the call stops if no line was read
pub line_stops : {A : Type 0} (F : List ℕ → Type 0) (goes : Bool) (e : Stop) (a b : Source) (line : List ℕ) (P : List ℕ → List ℕ → Result A Why → Type 0) → NextLine F (Err e) a b line → AnswersCall {A = A} goes (Err e) a b P
line_stops F goes stop.AnswersRead a b line P h = h
line_stops F goes stop.OutOfMemory a b line P h = h
line_stops F goes e a b line P h = absurd h

-- the error of a line that was not read, as a `Stop`
pub line_unread : (F : List ℕ → Type 0) (e : ReadError) (a b : Source) (line : List ℕ) → ReadsLineOfKind F (Err e) a b line → NextLine F (Err (stop_for_answers_read e)) a b line
line_unread F errors.Failed a b line h = h
line_unread F errors.OutOfMemory a b line h = h

-- bytes that are moved to the line being read
parts : (bytes w v : List ℕ) (count : ℕ) → bytes ≡ w → v ≡ drop count w → w ≡ take count bytes ++ v
parts bytes w v count e d = sym (take-append-drop count w) ∙ ap (λ (z : List ℕ). take count z ++ drop count w) (sym e) ∙ ap (λ (z : List ℕ). take count bytes ++ z) (sym d)

pub line_part : (whole : Bool) (bytes w v : List ℕ) (count : ℕ) → bytes ≡ w → v ≡ drop count w → EndsLineAt whole bytes count → (w ≡ take count bytes ++ v) × IsLineOrAll whole (take count bytes) v
line_part true bytes w v count e d h = (parts bytes w v count e d, h.1)
line_part false bytes w v count e d h =
    let all : take count bytes ≡ bytes = take_all count bytes (omega (arith, h.0)) in
    let over : length w ≤ count = let l : length bytes ≡ length w = ap length e in omega (arith, h.0) in
    (parts bytes w v count e d, (subst HasNoLf (sym all) h.1, d ∙ drop_all count w over))

module _ (a b c : Source) (before text line : List ℕ) (p : ConsumesBytes a b before) (none : HasNoLf before) (is : line ≡ before ++ text) where
  -- a line that is complete is the next one
  pub line_came : (F : List ℕ → Type 0) → ConsumesBytes b c text → IsOneLine text → IsNextLine F a c line
  line_came F q l = inl (subst (ConsumesBytes a c) (sym is) (passes_more a b c before text p q), subst IsOneLine (sym is) (line_on before text none l))

  pub part_came : ConsumesBytes b c text → HasNoLf text → ConsumesBytes a c line × HasNoLf line
  part_came q n = (subst (ConsumesBytes a c) (sym is) (passes_more a b c before text p q), subst HasNoLf (sym is) (no_lf_append before text none n))

pub line_ends : (F : List ℕ → Type 0) (a b c : Source) (line : List ℕ) (count : ℕ) → ConsumesBytes a b line → HasNoLf line → count ≡ 0 → RefillsAhead (Ok count) b c → IsNextLine F a c line
line_ends F a b c line count p none zero h = inr (inl (ends_there a b c line p (gave_nothing count b c zero h.0, h.1 zero), none))

pub line_goes : (a b c : Source) (line : List ℕ) (count : ℕ) → ConsumesBytes a b line → (count ≡ 0 → ⊥) → RefillsAhead (Ok count) b c → ConsumesBytes a c line
line_goes a b c line count p some h = subst (ConsumesBytes a c) (append-nil line) (passes_more a b c line [] p (gave_some count b c some h.0))

pub line_fails : (F : List ℕ → Type 0) (e : ReadError) (a b c : Source) (line other : List ℕ) → ConsumesBytes a b line → RefillsAhead (Err e) b c → ReadsLineOfKind F (Err e) a c other
line_fails F errors.Failed a b c line other p h = failed_then a b c (line, p) ([], h)
line_fails F errors.OutOfMemory a b c line other p h = absurd h

-- an unknown answer has no second line
pub second_unknown : (k : AnswerKind) (a : Source) (ls : List Literal) → k ≡ kind.Unknown → AnswersCall {A = Unit {0}} true (Ok tt) a a (ReadsSecondLine k ls)
second_unknown kind.Sat a ls e = absurd (cc)
second_unknown kind.Unsat a ls e = absurd (cc)
second_unknown kind.Unknown a ls e = (took_none a, λ total c. (refl, (tt, tt)))

pub has_line : (k : AnswerKind) → (k ≡ kind.Unknown → ⊥) → HasSecondLine k
has_line kind.Sat u = tt
has_line kind.Unsat u = tt
has_line kind.Unknown u = absurd (u refl)

pub line_kept : (a b : Source) (line : List ℕ) → ConsumesBytes a b line → NoReadFailedAhead a b
line_kept a b line p = took_kept true a b (line, p)

pub witness_is_line : (k name : ℕ) → k < 2 ^ 64 → name < var_limit → IsOneLine (refused_line k (WitnessName (name + 1)))
witness_is_line k name low within = refused_is_line k (WitnessName (name + 1)) low (λ n e. let same : name + 1 ≡ n = cc in omega arith)

pub limit_is_line : (k : ℕ) → k < 2 ^ 64 → IsOneLine (refused_line k PastLimit)
limit_is_line k low = refused_is_line k PastLimit low (λ n e. absurd (cc))

-- AN ANSWER IN TWO LINES

abbrev NoReply : Bool → List ℕ → Type 0
NoReply settled p = (o : Outcome) (tail : List ℕ) → IsPrintable o → (settled ≡ true → o ≡ Unsat []) → p ≡ outcome_text o ++ tail → ⊥

abbrev NoSecond : AnswerKind → List ℕ → Type 0
NoSecond k q = (ls : List Literal) (tail : List ℕ) → IsPrintable (outcome_of k ls) → q ≡ second_line (outcome_of k ls) ++ tail → ⊥

pub reply_without_first : (e : Stop) (a b : Source) (reply : Outcome) (settled : Bool) → AnswersCall {A = AnswerKind} true (Err e) a b ReadsFirstLine → AnswersCall {A = Unit {0}} true (Err e) a b (λ before following. ReadsReply before following reply settled)
reply_without_first e a b reply settled h = replies_stop true e a b ReadsFirstLine (λ before following. ReadsReply before following reply settled) (λ p q why none o tail form alone x. none o tail x) h

module _ (k : AnswerKind) (a b : Source) (settled : Bool) (open_yet : AtEnd a → ⊥) (first : AnswersCall true (Ok k) a b ReadsFirstLine) where
  -- if unsat is recorded, an answer of another kind is rejected
  pub reply_other : (why : Why) (reply : Outcome) → (settled ≡ true) × (k ≡ kind.Unsat → ⊥) → AnswersCall {A = Unit {0}} true (Err (stop.No why)) a b (λ before following. ReadsReply before following reply settled)
  reply_other why reply u = replies_no true k why a b ReadsFirstLine (λ before following. ReadsReply before following reply settled) open_yet (λ p q e o tail form alone x. not_alone k p q u.1 e o tail (alone u.0) x) first

  pub reply_without_second : (e : Stop) (d : Source) (ls : List Literal) (reply : Outcome) → AnswersCall {A = Unit {0}} true (Err e) b d (ReadsSecondLine k ls) → AnswersCall {A = Unit {0}} true (Err e) a d (λ before following. ReadsReply before following reply settled)
  reply_without_second e d ls reply h =
      let none = replies_stop true e b d (ReadsSecondLine k ls) (λ q s (y : Result (Unit {0}) Why). NoSecond k q) (λ q s why n. n) h in
      replies_stop true e a d (λ p s (y : Result (Unit {0}) Why). NoReply settled p) (λ before following. ReadsReply before following reply settled) (λ p s why n. n)
      (replies_then true k (Err e) a b d ReadsFirstLine (λ q s (y : Result (Unit {0}) Why). NoSecond k q) (λ p s (y : Result (Unit {0}) Why). NoReply settled p) open_yet (λ p q s y f n o tail form alone x. no_second k p q f n o tail form x) first none)

  module _ (d : Source) (ls : List Literal) (second : AnswersCall {A = Unit {0}} true (Ok tt) b d (ReadsSecondLine k ls)) where
    abbrev TwoLines : List ℕ → List ℕ → Result (Unit {0}) Why → Type 0
    TwoLines p s y = (q : List ℕ) × (p ≡ first_answer_line k ++ q) × ReadsSecondLine k ls q s (Ok tt)

    two : AnswersCall {A = Unit {0}} true (Ok tt) a d TwoLines
    two = replies_then true k (Ok tt) a b d ReadsFirstLine (λ q s (y : Result (Unit {0}) Why). ReadsSecondLine k ls q s (Ok tt)) TwoLines open_yet (λ p q s y f g. (q, f, g)) first second

    pub reply_more : (why : Why) (reply : Outcome) → (settled ≡ true) × (ls ≡ [] → ⊥) → AnswersCall {A = Unit {0}} true (Err (stop.No why)) a d (λ before following. ReadsReply before following reply settled)
    reply_more why reply u = replies_no true tt why a d TwoLines (λ before following. ReadsReply before following reply settled) open_yet (λ p s t o tail form alone x. not_empty k ls p t.0 s u.1 t.1 t.2 o tail (alone u.0) x) two

    pub reply_read : (settled ≡ true → k ≡ kind.Unsat) → (settled ≡ true → ls ≡ []) → AnswersCall {A = Unit {0}} true (Ok tt) a d (λ before following. ReadsReply before following (outcome_of k ls) settled)
    reply_read u n = (
      two.0,
      λ total c.
          let t = two.1 total c in
          let w = whole_answer k ls (rest_in total a) t.0 (rest_in total d) t.1 t.2 in
          (w.0, w.1, λ x. ap (λ (m : AnswerKind). outcome_of m ls) (u x) ∙ ap Unsat (n x)),
    )

pub unnamed : (codes : List ℕ) → named_literals codes ≡ [] → codes ≡ []
unnamed [] e = refl
unnamed (x ∷ xs) e = absurd (cc)
