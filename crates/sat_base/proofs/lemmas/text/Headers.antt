-- Header lines, word by word.
use Rattle.std.proofs.Common.{◌≡◌, ℕ, List, [], ◌∷◌, Bool, true, false, cond, Option, Some, None, refl, ap, ◌∙◌}
use Rattle.std.specs.Prelude.{◌&&◌, codes}
use Rattle.sat_base.specs.text.Text.{digits, same_bytes, header_of_numbers, header_of_words, Token, Wrong}
use Rattle.sat_base.specs.text.Position.{HeaderStage, Begun, Named, Format, Vars, Both, stage_with_number, stage_after, token_of_stage, after_word, stage_token}

pub stage_nil : (stage : HeaderStage) → stage_token stage [] ≡ token_of_stage stage
unfolding stage_token
stage_nil stage = refl

pub stage_cons : (stage : HeaderStage) (w : List ℕ) (ws : List (List ℕ)) → stage_token stage (w ∷ ws) ≡ after_word (stage_after stage w) (λ s. stage_token s ws)
unfolding stage_token
stage_cons stage w ws = refl

-- LINES OF OTHER THAN FOUR WORDS
abbrev Fails : HeaderStage → List (List ℕ) → Type 0
Fails stage ws = stage_token stage ws ≡ Wrong

if_fails : (b : Bool) (s : HeaderStage) (more : HeaderStage → Token) → more s ≡ Wrong → after_word (cond b (Some s) None) more ≡ Wrong
if_fails true s more h = h
if_fails false s more h = refl

value_fails : (o : Option ℕ) (stage : ℕ → HeaderStage) (more : HeaderStage → Token) → ((n : ℕ) → more (stage n) ≡ Wrong) → after_word (stage_with_number stage o) more ≡ Wrong
value_fails None stage more h = refl
value_fails (Some n) stage more h = h n

begun_fails : (w : List ℕ) (ws : List (List ℕ)) → Fails Named ws → Fails Begun (w ∷ ws)
begun_fails w ws h = stage_cons Begun w ws ∙ if_fails (same_bytes w (codes "p")) Named (λ s. stage_token s ws) h

named_fails : (w : List ℕ) (ws : List (List ℕ)) → Fails Format ws → Fails Named (w ∷ ws)
named_fails w ws h = stage_cons Named w ws ∙ if_fails (same_bytes w (codes "cnf")) Format (λ s. stage_token s ws) h

format_fails : (w : List ℕ) (ws : List (List ℕ)) → ((v : ℕ) → Fails (Vars v) ws) → Fails Format (w ∷ ws)
format_fails w ws h = stage_cons Format w ws ∙ value_fails (digits 0 w) Vars (λ s. stage_token s ws) h

vars_fails : (v : ℕ) (w : List ℕ) (ws : List (List ℕ)) → ((c : ℕ) → Fails (Both v c) ws) → Fails (Vars v) (w ∷ ws)
vars_fails v w ws h = stage_cons (Vars v) w ws ∙ value_fails (digits 0 w) (Both v) (λ s. stage_token s ws) h

-- LINES OF FOUR WORDS
if_goes : (b : Bool) (s : HeaderStage) (more : HeaderStage → Token) → after_word (cond b (Some s) None) more ≡ cond b (more s) Wrong
if_goes true s more = refl
if_goes false s more = refl

one_number : (v : ℕ) (c : Option ℕ) → after_word (stage_with_number (Both v) c) (λ s. stage_token s []) ≡ header_of_numbers (Some v) c
one_number v None = refl
one_number v (Some c) = stage_nil (Both v c)

two_numbers : (v : Option ℕ) (c : List ℕ) → after_word (stage_with_number Vars v) (λ s. stage_token s (c ∷ [])) ≡ header_of_numbers v (digits 0 c)
two_numbers None c = refl
two_numbers (Some v) c = stage_cons (Vars v) c [] ∙ one_number v (digits 0 c)

both_names : (p cnf : Bool) (t : Token) → cond p (cond cnf t Wrong) Wrong ≡ cond (p && cnf) t Wrong
both_names true cnf t = refl
both_names false cnf t = refl

four_words : (p cnf v c : List ℕ) → stage_token Begun (p ∷ cnf ∷ v ∷ c ∷ []) ≡ header_of_words (p ∷ cnf ∷ v ∷ c ∷ [])
four_words p cnf v c =
    let is_p = same_bytes p (codes "p") in
    let is_cnf = same_bytes cnf (codes "cnf") in
    let numbers : stage_token Format (v ∷ c ∷ []) ≡ header_of_numbers (digits 0 v) (digits 0 c) = stage_cons Format v (c ∷ []) ∙ two_numbers (digits 0 v) c in
    let named : stage_token Named (cnf ∷ v ∷ c ∷ []) ≡ cond is_cnf (header_of_numbers (digits 0 v) (digits 0 c)) Wrong =
    stage_cons Named cnf (v ∷ c ∷ []) ∙ if_goes is_cnf Format (λ s. stage_token s (v ∷ c ∷ [])) ∙ ap (λ (t : Token). cond is_cnf t Wrong) numbers in
    stage_cons Begun p (cnf ∷ v ∷ c ∷ []) ∙ if_goes is_p Named (λ s. stage_token s (cnf ∷ v ∷ c ∷ [])) ∙ ap (λ (t : Token). cond is_p t Wrong) named
    ∙ both_names is_p is_cnf (header_of_numbers (digits 0 v) (digits 0 c))

-- a header line means the same as its words, read one by one
pub header_in_is : (ws : List (List ℕ)) → stage_token Begun ws ≡ header_of_words ws
header_in_is [] = stage_nil Begun
header_in_is (p ∷ []) = begun_fails p [] (stage_nil Named)
header_in_is (p ∷ cnf ∷ []) = begun_fails p (cnf ∷ []) (named_fails cnf [] (stage_nil Format))
header_in_is (p ∷ cnf ∷ v ∷ []) = begun_fails p (cnf ∷ v ∷ []) (named_fails cnf (v ∷ []) (format_fails v [] (λ n. stage_nil (Vars n))))
header_in_is (p ∷ cnf ∷ v ∷ c ∷ []) = four_words p cnf v c
header_in_is (p ∷ cnf ∷ v ∷ c ∷ w ∷ ws) =
    begun_fails p (cnf ∷ v ∷ c ∷ w ∷ ws)
    (named_fails cnf (v ∷ c ∷ w ∷ ws) (format_fails v (c ∷ w ∷ ws) (λ n. vars_fails n c (w ∷ ws) (λ m. stage_cons (Both n m) w ws))))
