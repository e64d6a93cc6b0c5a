-- Correct answers are empty or end with LF. So answers that are correct whatever could follow were read to their end.
use Rattle.std.proofs.Common.{ℕ, ◌≡◌, ◌<◌, ◌∙◌, ◌⊎◌, true, List, [], ◌∷◌, ◌++◌, codes, decimal, refl, sym, ap, subst, arith, inl, inr, ⊎_elim, append_assoc, append-nil, true≢false}
use Rattle.std.proofs.lemmas.Bool.{cases_lt, cases_Bool}
use Rattle.std.proofs.lemmas.List.{append_cancel_left}
use Rattle.sat_base.specs.device.Device.{Reader, CouldStillGive, GaveEnough, GaveAll}
use Rattle.sat_base.proofs.lemmas.device.Given.{enough_as}
use Rattle.sat_base.specs.script.Script.{Literal}
use Rattle.sat_base.specs.script.ScriptState.{Refusal, PastLimit, WitnessName}
use Rattle.sat_checker.specs.matching.Expected.{Outcome, Sat, Unsat, Unknown}
use Rattle.certify.specs.answers.AnswersText.{literals_line, refusal_line, outcome_lines, event_lines}
use Rattle.certify.specs.answers.Events.{Event, Refused, Asked, MalformedAt, events_in}
use Rattle.certify.specs.confirm.VerdictPromises.{AreRightAnswers, GaveRightAnswers}

-- THE LAST BYTE

abbrev EndsInLf : List ℕ → Type 0
EndsInLf t = (x : List ℕ) × (t ≡ x ++ codes "\n")

abbrev IsLined : List ℕ → Type 0
IsLined t = (t ≡ []) ⊎ EndsInLf t

after : (x t : List ℕ) → EndsInLf t → EndsInLf (x ++ t)
after x t h = (x ++ h.0, ap (λ (u : List ℕ). x ++ u) h.1 ∙ sym (append_assoc x h.0 (codes "\n")))

before : (x t : List ℕ) → EndsInLf x → IsLined t → IsLined (x ++ t)
before x t h (inl e) = inr (h.0, ap (λ (u : List ℕ). x ++ u) e ∙ append-nil x ∙ h.1)
before x t h (inr k) = inr (after x t k)

literals_end : (ls : List Literal) → EndsInLf (literals_line ls)
literals_end [] = (codes "0", refl)
literals_end (l ∷ ls) = after _ _ (after (codes " ") (literals_line ls) (literals_end ls))

outcome_ends : (o : Outcome) → EndsInLf (outcome_lines o)
outcome_ends (Sat line) = after (codes "s SATISFIABLE\nv ") (literals_line line) (literals_end line)
outcome_ends (Unsat core) = after (codes "s UNSATISFIABLE\nf ") (literals_line core) (literals_end core)
outcome_ends Unknown = (codes "s UNKNOWN", refl)

refusal_ends : (k : ℕ) (r : Refusal) → EndsInLf (refusal_line k r)
refusal_ends k PastLimit = after (codes "c refused ") (decimal k ++ codes " limit\n") (after (decimal k) (codes " limit\n") (codes " limit", refl))
refusal_ends k (WitnessName name) =
    after (codes "c refused ") (decimal k ++ (codes " witness " ++ (decimal name ++ codes "\n")))
    (after (decimal k) (codes " witness " ++ (decimal name ++ codes "\n"))
    (after (codes " witness ") (decimal name ++ codes "\n") (after (decimal name) (codes "\n") ([], refl))))

malformed_lined : (k : ℕ) (t : List ℕ) → IsLined t → IsLined (codes "c malformed " ++ (decimal k ++ (codes "\n" ++ t)))
malformed_lined k t (inl e) =
    inr (subst (λ (t : List ℕ). EndsInLf (codes "c malformed " ++ (decimal k ++ (codes "\n" ++ t)))) (sym e)
    (after (codes "c malformed ") (decimal k ++ codes "\n") (after (decimal k) (codes "\n") ([], refl))))
malformed_lined k t (inr h) =
    inr (after (codes "c malformed ") (decimal k ++ (codes "\n" ++ t)) (after (decimal k) (codes "\n" ++ t) (after (codes "\n") t h)))

events_lined : (es : List Event) (os : List Outcome) → IsLined (event_lines es os)
events_lined [] os = inl refl
events_lined (Refused k r ∷ es) os = before (refusal_line k r) (event_lines es os) (refusal_ends k r) (events_lined es os)
events_lined (MalformedAt k ∷ es) [] = malformed_lined k (event_lines es []) (events_lined es [])
events_lined (MalformedAt k ∷ es) (o ∷ os) = malformed_lined k (event_lines es (o ∷ os)) (events_lined es (o ∷ os))
events_lined (Asked state ls ∷ es) [] = events_lined es []
events_lined (Asked state ls ∷ es) (o ∷ os) = before (outcome_lines o) (event_lines es os) (outcome_ends o) (events_lined es os)

lined : (script answers : List ℕ) → AreRightAnswers script answers → IsLined answers
lined script answers h = subst IsLined (sym h.lines) (events_lined (events_in script) h.outcomes)

abbrev last : List ℕ → ℕ
last [] = 10
last (b ∷ []) = b
last (b ∷ c ∷ bs) = last (c ∷ bs)

last_is : (x : List ℕ) (b : ℕ) → last (x ++ b ∷ []) ≡ b
last_is [] b = refl
last_is (a ∷ []) b = refl
last_is (a ∷ c ∷ x) b = last_is (c ∷ x) b

lined_last : (t : List ℕ) → IsLined t → last t ≡ 10
lined_last t (inl e) = ap last e
lined_last t (inr h) = ap last h.1 ∙ last_is h.0 10

not_both : (b : ℕ) → b ≡ 0 → b ≡ 10 → ⊥
not_both b p q = omega arith

-- right answers followed by a zero byte are not right
no_more : (script a : List ℕ) → AreRightAnswers script (a ++ 0 ∷ []) → ⊥
no_more script a h =
    not_both (last (a ++ 0 ∷ [])) (last_is a 0) (lined_last (a ++ 0 ∷ []) (lined script (a ++ 0 ∷ []) h))

-- READERS

-- nothing can always follow
nothing : (old new : Reader) → CouldStillGive old new []
nothing old new = λ c e. refl

-- the end of the answers was seen
seen_end : (script : List ℕ) (old new : Reader) (h : GaveEnough old new (AreRightAnswers script)) → (old.calls < new.calls) × (new.ended ≡ true)
seen_end script old new h = ⊎_elim
    (λ called. ⊎_elim
    (λ ended. (called, ended))
    (λ unseen. absurd (no_more script h.text (h.holds (0 ∷ []) (λ c e. absurd (true≢false (sym e ∙ unseen))))))
    (cases_Bool new.ended))
    (λ few. absurd (no_more script h.text (h.holds (0 ∷ []) (λ c e. absurd (omega arith)))))
    (cases_lt old.calls new.calls)

all : (script : List ℕ) (old new : Reader) (h : GaveEnough old new (AreRightAnswers script)) → GaveAll old new h.text
all script old new h =
    let end = seen_end script old new h in
    record { gave = h.front.gave; ends = end.1; known_bytes = h.front.known_bytes; over = h.over end.0 end.1; called = end.0; few = h.few; loans = h.front.loans }

one_text : (old new : Reader) (a b : List ℕ) → new.given ≡ old.given ++ a → new.given ≡ old.given ++ b → a ≡ b
one_text old new a b p q = append_cancel_left old.given a b (sym p ∙ q)

right_at : (script : List ℕ) (old new : Reader) (a : List ℕ) → new.given ≡ old.given ++ a → GaveEnough old new (AreRightAnswers script) → AreRightAnswers script a
right_at script old new a p h =
    subst (AreRightAnswers script) (append-nil h.text ∙ one_text old new h.text a h.front.gave p) (h.holds [] (nothing old new))

abbrev Inner : Reader × Reader → List ℕ → Type 0
Inner answers s = GaveEnough answers.0 answers.1 (AreRightAnswers s)

-- answers that are correct whatever could follow were read to their end, and are one text
pub gave_right_answers : (script answers : Reader × Reader) → GaveEnough script.0 script.1 (Inner answers) → GaveRightAnswers script answers
gave_right_answers script answers h =
    let first = h.holds [] (nothing script.0 script.1) in (
      first.text,
      all (h.text ++ []) answers.0 answers.1 first,
      enough_as script.0 script.1 (Inner answers) (λ s. AreRightAnswers s first.text) (λ s k. right_at s answers.0 answers.1 first.text first.front.gave k) h,
    )
