-- The lines of an answer of some kind.
use Rattle.std.proofs.Common.{ℕ, ◌≡◌, ◌≢◌, inl, inr, ◌++◌, ◌∷◌, [], List, append_assoc, refl, sym, ◌∙◌, ap, subst, arith}
use Rattle.std.proofs.lemmas.List.{append_cancel_left}
use Rattle.sat_base.specs.script.Script.{Literal}
use Rattle.certify.specs.answers.Answers.{s_satisfiable, s_unsatisfiable, s_unknown, literals_text, outcome_text}
use Rattle.sat_checker.specs.matching.Expected.{Outcome, Sat, Unsat, Unknown}
use Rattle.certify.specs.answers.AnswerForms.{IsPrintable, literals_of}
use Rattle.certify.specs.answers.AnswerReading.{WhyNoFirstLine, WhyNoLiterals, WhyNoSecondLine, WhyNoOutcome, CannotBeginSecondLine, CannotBeginLiterals, HasSecondLine, IsSecondLineHead, EndsBeforeLine, BeginsNoOutcome, first_answer_line, outcome_of, second_line}
use Rattle.certify.specs.declared.answers.read.AnswerKind.{AnswerKind}
use Rattle.certify.specs.declared.answers.read.AnswerKind.TheVariants as kind
use Rattle.certify.specs.declared.answers.read.AnswerFault.{AnswerFault}
use Rattle.certify.specs.declared.answers.read.AnswerFault.TheVariants.{Missing, Text, OutOfMemory}

-- the second line of an answer is its head and its literals
pub line_text : (k : AnswerKind) (head : List ℕ) (ls : List Literal) → IsSecondLineHead k head → second_line (outcome_of k ls) ≡ head ++ literals_text ls
line_text kind.Sat head ls h = ap (λ t. t ++ literals_text ls) (sym h)
line_text kind.Unsat head ls h = ap (λ t. t ++ literals_text ls) (sym h)
line_text kind.Unknown head ls h = absurd h

pub line_literals : (k : AnswerKind) (ls : List Literal) → HasSecondLine k → literals_of (outcome_of k ls) ≡ ls
line_literals kind.Sat ls h = refl
line_literals kind.Unsat ls h = refl
line_literals kind.Unknown ls h = absurd h

-- a second line is its head and the text of its literals
line_after : (k : AnswerKind) (head bytes : List ℕ) (ls : List Literal) (tail : List ℕ) → IsSecondLineHead k head → bytes ≡ second_line (outcome_of k ls) ++ tail → bytes ≡ head ++ (literals_text ls ++ tail)
line_after k head bytes ls tail h e = e ∙ ap (λ t. t ++ tail) (line_text k head ls h) ∙ append_assoc head (literals_text ls) tail

-- the head and the text of literals make up a second line
pub line_read : (k : AnswerKind) (head bytes following : List ℕ) (ls : List Literal) (tail : List ℕ) → IsSecondLineHead k head → bytes ≡ head ++ following → following ≡ literals_text ls ++ tail → bytes ≡ second_line (outcome_of k ls) ++ tail
line_read k head bytes following ls tail h e f = e ∙ ap (λ t. head ++ t) f ∙ sym (append_assoc head (literals_text ls) tail) ∙ ap (λ t. t ++ tail) (sym (line_text k head ls h))

-- bytes that don't begin with the head don't begin with a second line
pub no_head : (k : AnswerKind) (head bytes : List ℕ) → IsSecondLineHead k head → bytes ≢ [] → ((tail : List ℕ) → bytes ≡ head ++ tail → ⊥) → WhyNoSecondLine k bytes Text
no_head k head bytes h some none = (some, λ ls tail o e. none (literals_text ls ++ tail) (line_after k head bytes ls tail h e))

-- if no literals are read after the head, no second line is read, with the same fault
pub no_list : (k : AnswerKind) (head bytes following : List ℕ) (fault : AnswerFault) → IsSecondLineHead k head → bytes ≢ [] → bytes ≡ head ++ following → WhyNoLiterals k following fault → WhyNoSecondLine k bytes fault
no_list k head bytes following Missing h some e none = absurd none
no_list k head bytes following Text h some e none = (
  some,
  λ ls tail o f. none ls tail o (append_cancel_left head following (literals_text ls ++ tail) (sym e ∙ line_after k head bytes ls tail h f)),
)
no_list k head bytes following OutOfMemory h some e none =
    let ls : List Literal = none.1.0 in
    let l : Literal = none.1.1 in
    let front : List ℕ = none.1.2.1.0 in
    let tail : List ℕ = none.1.2.1.1 in
    let t : second_line (outcome_of k (ls ++ (l ∷ []))) ≡ (head ++ front) ++ (48 ∷ 10 ∷ [])
    = line_text k head (ls ++ (l ∷ [])) h ∙ ap (λ x. head ++ x) none.1.2.1.2.0 ∙ sym (append_assoc head front (48 ∷ 10 ∷ [])) in
    let b : bytes ≡ (head ++ front) ++ tail = e ∙ ap (λ x. head ++ x) none.1.2.1.2.1 ∙ sym (append_assoc head front tail) in
    (none.0, (ls, l, (none.1.2.0, (head ++ front, tail, (t, b)))))

-- the first line determines the kind of an outcome
of_kind : (k : AnswerKind) (o : Outcome) (x y : List ℕ) → first_answer_line k ++ x ≡ outcome_text o ++ y → (ls : List Literal) × ((o ≡ outcome_of k ls) × (x ≡ second_line o ++ y))
of_kind kind.Sat (Sat ls) x y e = (ls, (refl, cc))
of_kind kind.Unsat (Unsat ls) x y e = (ls, (refl, cc))
of_kind kind.Unknown Unknown x y e = ([], (refl, cc))
of_kind kind.Sat (Unsat ls) x y e = let r : ◌≡◌ {A = ℕ} 83 85 = cc in absurd (omega arith)
of_kind kind.Sat Unknown x y e = let r : ◌≡◌ {A = ℕ} 83 85 = cc in absurd (omega arith)
of_kind kind.Unsat (Sat ls) x y e = let r : ◌≡◌ {A = ℕ} 85 83 = cc in absurd (omega arith)
of_kind kind.Unsat Unknown x y e = let r : ◌≡◌ {A = ℕ} 83 75 = cc in absurd (omega arith)
of_kind kind.Unknown (Sat ls) x y e = let r : ◌≡◌ {A = ℕ} 85 83 = cc in absurd (omega arith)
of_kind kind.Unknown (Unsat ls) x y e = let r : ◌≡◌ {A = ℕ} 75 83 = cc in absurd (omega arith)

kind_text : (o : Outcome) → (k : AnswerKind) × (outcome_text o ≡ first_answer_line k ++ second_line o)
kind_text (Sat ls) = (kind.Sat, refl)
kind_text (Unsat ls) = (kind.Unsat, refl)
kind_text Unknown = (kind.Unknown, refl)

-- if no first line is read, no answer is read
pub no_kind : (bytes : List ℕ) (fault : AnswerFault) → WhyNoFirstLine bytes fault → WhyNoOutcome bytes fault
no_kind bytes Missing e = (inl e, λ o tail h f. go (kind_text o).0 (second_line o ++ tail) (sym e ∙ f ∙ ap (λ t. t ++ tail) (kind_text o).1 ∙ append_assoc (first_answer_line (kind_text o).0) (second_line o) tail))
  where
    go : (k : AnswerKind) (x : List ℕ) → [] ≡ first_answer_line k ++ x → ⊥
    go kind.Sat x e = cc
    go kind.Unsat x e = cc
    go kind.Unknown x e = cc
no_kind bytes Text none = (cut, λ o tail h f. none.1 (kind_text o).0 (second_line o ++ tail) (f ∙ ap (λ t. t ++ tail) (kind_text o).1 ∙ append_assoc (first_answer_line (kind_text o).0) (second_line o) tail))
  where
    cut : EndsBeforeLine bytes → ⊥
    cut (inl e) = none.0 e
    cut (inr (inl e)) = none.1 kind.Sat [] e
    cut (inr (inr e)) = none.1 kind.Unsat [] e
no_kind bytes OutOfMemory none = absurd none

-- if no second line is read after the first line, no answer is read
pub no_line : (k : AnswerKind) (bytes following : List ℕ) (fault : AnswerFault) → bytes ≡ first_answer_line k ++ following → WhyNoSecondLine k following fault → WhyNoOutcome bytes fault
no_line k bytes following Missing e none = (cut k none.0 (e ∙ ap (λ t. first_answer_line k ++ t) none.1), begins)
  where
    cut : (k : AnswerKind) → HasSecondLine k → bytes ≡ first_answer_line k ++ [] → EndsBeforeLine bytes
    cut kind.Sat h e = inr (inl e)
    cut kind.Unsat h e = inr (inr e)
    cut kind.Unknown h e = absurd h

    some : (k : AnswerKind) (ls : List Literal) (y : List ℕ) → HasSecondLine k → [] ≡ second_line (outcome_of k ls) ++ y → ⊥
    some kind.Sat ls y h e = cc
    some kind.Unsat ls y h e = cc
    some kind.Unknown ls y h e = absurd h

    begins : BeginsNoOutcome bytes
    begins o tail h f =
        let r = of_kind k o following tail (sym e ∙ f) in
        some k r.0 tail none.0 (sym none.1 ∙ r.1.1 ∙ ap (λ t. second_line t ++ tail) r.1.0)
no_line k bytes following Text e none = (
  cut k none.0 e,
  λ o tail h f.
      let r = of_kind k o following tail (sym e ∙ f) in
      none.1 r.0 tail (subst IsPrintable r.1.0 h) (r.1.1 ∙ ap (λ t. second_line t ++ tail) r.1.0),
)
  where
    cut : (k : AnswerKind) → following ≢ [] → bytes ≡ first_answer_line k ++ following → EndsBeforeLine bytes → ⊥
    cut kind.Sat some e (inl f) = let r : first_answer_line kind.Sat ++ following ≡ [] = sym e ∙ f in cc
    cut kind.Sat some e (inr (inl f)) = some (append_cancel_left s_satisfiable following [] (sym e ∙ f))
    cut kind.Sat some e (inr (inr f)) = let g : s_satisfiable ++ following ≡ s_unsatisfiable = sym e ∙ f in let r : ◌≡◌ {A = ℕ} 83 85 = cc in omega arith
    cut kind.Unsat some e (inl f) = let r : first_answer_line kind.Unsat ++ following ≡ [] = sym e ∙ f in cc
    cut kind.Unsat some e (inr (inl f)) = let g : s_unsatisfiable ++ following ≡ s_satisfiable = sym e ∙ f in let r : ◌≡◌ {A = ℕ} 85 83 = cc in omega arith
    cut kind.Unsat some e (inr (inr f)) = some (append_cancel_left s_unsatisfiable following [] (sym e ∙ f))
    cut kind.Unknown some e (inl f) = let r : first_answer_line kind.Unknown ++ following ≡ [] = sym e ∙ f in cc
    cut kind.Unknown some e (inr (inl f)) = let g : s_unknown ++ following ≡ s_satisfiable = sym e ∙ f in let r : ◌≡◌ {A = ℕ} 85 83 = cc in omega arith
    cut kind.Unknown some e (inr (inr f)) = let g : s_unknown ++ following ≡ s_unsatisfiable = sym e ∙ f in let r : ◌≡◌ {A = ℕ} 75 83 = cc in omega arith
no_line k bytes following OutOfMemory e none = (k, following, (e, none))

-- the bytes are no prefix of a second line if those after the head are no prefix of literals
pub starts_no_list : (k : AnswerKind) (head bytes following : List ℕ) → IsSecondLineHead k head → bytes ≡ head ++ following → CannotBeginLiterals k following → CannotBeginSecondLine k bytes
starts_no_list k head bytes following h e none ls more o f =
    none ls more o (append_cancel_left head (literals_text ls) (following ++ more) (sym (line_text k head ls h) ∙ f ∙ ap (λ t. t ++ more) e ∙ append_assoc head following more))

-- the bytes are no prefix of a second line if neither they nor the head is a prefix of the other
pub starts_no_head : (k : AnswerKind) (head bytes : List ℕ) → IsSecondLineHead k head → ((tail : List ℕ) → head ≡ bytes ++ tail → ⊥) → ((tail : List ℕ) → bytes ≡ head ++ tail → ⊥) → CannotBeginSecondLine k bytes
starts_no_head k head bytes h short long ls more o f = go head bytes (literals_text ls) more short long (sym (line_text k head ls h) ∙ f)
  where
    go : (xs ys x y : List ℕ) → ((tail : List ℕ) → xs ≡ ys ++ tail → ⊥) → ((tail : List ℕ) → ys ≡ xs ++ tail → ⊥) → xs ++ x ≡ ys ++ y → ⊥
    go [] ys x y short long e = long ys refl
    go (a ∷ xs) [] x y short long e = short (a ∷ xs) refl
    go (a ∷ xs) (b ∷ ys) x y short long e =
        let same : a ≡ b = cc in
        let next : xs ++ x ≡ ys ++ y = cc in
        go xs ys x y (λ tail f. short tail (ap (λ c. c ∷ xs) same ∙ ap (λ t. b ∷ t) f)) (λ tail f. long tail (ap (λ c. c ∷ ys) (sym same) ∙ ap (λ t. a ∷ t) f)) next
