-- Different outcomes give different texts.
use Rattle.std.proofs.Common.{ℕ, ◌+◌, ◌^◌, ◌<◌, ◌≤◌, ◌≡◌, Bool, true, false, cond, List, [], ◌∷◌, ◌++◌, Option, Some, None, refl, sym, ◌∙◌, ap, subst, arith, append_assoc, decimal, is_some}
use Rattle.std.proofs.lemmas.List.{append_cancel_left}
use Rattle.std.proofs.lemmas.Fmt.{decimal_is_IsNumeral}
use Rattle.std.specs.Str.Parse.{AllDigits, digits_value}
use Rattle.std.specs.Char.{digit_value}
use Rattle.std.specs.List.{AllByRecursion}
use Rattle.sat_base.specs.values.Literals.{var_limit}
use Rattle.sat_base.specs.script.Script.{Literal, Command, Clause, Ask, Hide, Witness, Sample, ScriptEnding, names_of}
use Rattle.sat_base.specs.script.ScriptState.{ScriptState, Refusal, refusal_of, state_after_accepted, accepted_commands, initial_state, with_names, new_names, introduce, introduce_all, with_name}
use Rattle.certify.specs.answers.Answers.{literal_text, literals_text, outcome_text, answers_from, answer_to_command, outcomes_left}
use Rattle.sat_checker.specs.matching.Expected.{Outcome, Sat, Unsat, Unknown}
use Rattle.certify.specs.confirm.Matches.{OneOutcomePerAsk}
use Rattle.certify.specs.laws.Laws.{HasPrintableNames, TextsDetermineOutcomes, AskKeepsClauses}

-- `Plain bytes` holds if no byte is a space or LF.
abbrev pub Plain : List ℕ → Type 0
Plain = AllByRecursion (λ c. (c ≡ 32 → ⊥) × (c ≡ 10 → ⊥))

pub plain_digits : (ds : List ℕ) → AllDigits 10 ds → Plain ds
plain_digits [] d = tt
plain_digits (c ∷ cs) d = (((λ e. space (subst (λ c. digit_value c < 10) e d.0)), (λ e. line (subst (λ c. digit_value c < 10) e d.0))), plain_digits cs d.1)
  where
    space : digit_value 32 < 10 → ⊥
    space h = omega arith

    line : digit_value 10 < 10 → ⊥
    line h = omega arith

-- a text determines the word before its first space
pub at_space : (ds es x y : List ℕ) → Plain ds → Plain es → ds ++ (32 ∷ x) ≡ es ++ (32 ∷ y) → (ds ≡ es) × (x ≡ y)
at_space [] [] x y p q e = (refl, cc)
at_space [] (c ∷ cs) x y p q e = absurd (q.0.0 (let r : c ≡ 32 = cc in r))
at_space (d ∷ ds) [] x y p q e = absurd (p.0.0 (let r : d ≡ 32 = cc in r))
at_space (d ∷ ds) (c ∷ cs) x y p q e =
    let h : d ≡ c = cc in
    let t : ds ++ (32 ∷ x) ≡ cs ++ (32 ∷ y) = cc in
    let r = at_space ds cs x y p.1 q.1 t in
    (pair d c ds cs h r.0, r.1)
  where
    pair : (d c : ℕ) (ds cs : List ℕ) → d ≡ c → ds ≡ cs → (d ∷ ds) ≡ (c ∷ cs)
    pair d c ds cs h t = cc

-- `0` and LF are no word before a space
pub not_end : (ds x y : List ℕ) → Plain ds → 48 ∷ 10 ∷ x ≡ ds ++ (32 ∷ y) → ⊥
not_end [] x y p e = let r : ◌≡◌ {A = ℕ} 48 32 = cc in omega arith
not_end (d ∷ []) x y p e = let r : ◌≡◌ {A = ℕ} 10 32 = cc in omega arith
not_end (d ∷ c ∷ ds) x y p e = p.1.0.1 (let r : c ≡ 10 = cc in r)

pub small : (n : ℕ) → n ≤ var_limit → n < 2 ^ 64
small n h = omega arith

pub numeral : (n : ℕ) → n ≤ var_limit → AllDigits 10 (decimal n) × (digits_value 10 (decimal n) ≡ n)
numeral n h = let p = decimal_is_IsNumeral n (small n h) in (p.0.1, p.1)

pub plain_word : (l : Literal) → l.name ≤ var_limit → Plain (literal_text l)
plain_word l h = go l.positive
  where
    go : (b : Bool) → Plain (cond b [] (45 ∷ []) ++ decimal l.name)
    go true = plain_digits (decimal l.name) (numeral l.name h).0
    go false = (((λ e. omega arith), (λ e. omega arith)), plain_digits (decimal l.name) (numeral l.name h).0)

same_number : (m n : ℕ) → m ≤ var_limit → n ≤ var_limit → decimal m ≡ decimal n → m ≡ n
same_number m n h k e = sym (numeral m h).1 ∙ ap (digits_value 10) e ∙ (numeral n k).1

no_minus : (n : ℕ) (ds : List ℕ) → n ≤ var_limit → decimal n ≡ 45 ∷ ds → ⊥
no_minus n ds h e = go (subst (AllDigits 10) e (numeral n h).0).0
  where
    go : digit_value 45 < 10 → ⊥
    go h = omega arith

same_word : (l m : Literal) → l.name ≤ var_limit → m.name ≤ var_limit → literal_text l ≡ literal_text m → l ≡ m
same_word l m h k e = go l.positive m.positive l.name m.name h k e
  where
    go : (s t : Bool) (x y : ℕ) → x ≤ var_limit → y ≤ var_limit → cond s [] (45 ∷ []) ++ decimal x ≡ cond t [] (45 ∷ []) ++ decimal y → (let z : Literal = record { name = x; positive = s } in z) ≡ record { name = y; positive = t }
    go true true x y h k e = ap (λ n. record { name = n; positive = true }) (same_number x y h k e)
    go true false x y h k e = absurd (no_minus x (decimal y) h e)
    go false true x y h k e = absurd (no_minus y (decimal x) k (sym e))
    go false false x y h k e = ap (λ n. record { name = n; positive = false }) (same_number x y h k (let r : decimal x ≡ decimal y = cc in r))

-- different literals have different texts
pub same_literals : (ls ks : List Literal) (x y : List ℕ) → AllByRecursion (λ l. l.name ≤ var_limit) ls → AllByRecursion (λ l. l.name ≤ var_limit) ks → literals_text ls ++ x ≡ literals_text ks ++ y → (ls ≡ ks) × (x ≡ y)
same_literals [] [] x y h k e = (refl, cc)
same_literals [] (m ∷ ks) x y h k e = absurd (not_end (literal_text m) x (literals_text ks ++ y) (plain_word m k.0) (e ∙ append_assoc (literal_text m) (32 ∷ literals_text ks) y))
same_literals (l ∷ ls) [] x y h k e = absurd (not_end (literal_text l) y (literals_text ls ++ x) (plain_word l h.0) (sym e ∙ append_assoc (literal_text l) (32 ∷ literals_text ls) x))
same_literals (l ∷ ls) (m ∷ ks) x y h k e =
    let p = at_space (literal_text l) (literal_text m) (literals_text ls ++ x) (literals_text ks ++ y) (plain_word l h.0) (plain_word m k.0)
    (sym (append_assoc (literal_text l) (32 ∷ literals_text ls) x) ∙ e ∙ append_assoc (literal_text m) (32 ∷ literals_text ks) y) in
    let r = same_literals ls ks x y h.1 k.1 p.1 in
    (pair l m ls ks (same_word l m h.0 k.0 p.0) r.0, r.1)
  where
    pair : (l m : Literal) (ls ks : List Literal) → l ≡ m → ls ≡ ks → (l ∷ ls) ≡ (m ∷ ks)
    pair l m ls ks h t = cc

pub same_outcome : (v w : Outcome) (x y : List ℕ) → HasPrintableNames v → HasPrintableNames w → outcome_text v ++ x ≡ outcome_text w ++ y → (v ≡ w) × (x ≡ y)
same_outcome (Sat a) (Sat b) x y h k e = let p = same_literals a b x y h k (let r : literals_text a ++ x ≡ literals_text b ++ y = cc in r) in (ap Sat p.0, p.1)
same_outcome (Unsat a) (Unsat b) x y h k e = let p = same_literals a b x y h k (let r : literals_text a ++ x ≡ literals_text b ++ y = cc in r) in (ap Unsat p.0, p.1)
same_outcome Unknown Unknown x y h k e = (refl, cc)
same_outcome (Sat a) (Unsat b) x y h k e = let r : ◌≡◌ {A = ℕ} 83 85 = cc in absurd (omega arith)
same_outcome (Unsat a) (Sat b) x y h k e = let r : ◌≡◌ {A = ℕ} 85 83 = cc in absurd (omega arith)
same_outcome (Sat a) Unknown x y h k e = let r : ◌≡◌ {A = ℕ} 83 85 = cc in absurd (omega arith)
same_outcome Unknown (Sat b) x y h k e = let r : ◌≡◌ {A = ℕ} 85 83 = cc in absurd (omega arith)
same_outcome (Unsat a) Unknown x y h k e = let r : ◌≡◌ {A = ℕ} 83 75 = cc in absurd (omega arith)
same_outcome Unknown (Unsat b) x y h k e = let r : ◌≡◌ {A = ℕ} 75 83 = cc in absurd (omega arith)

same_outcomes : (commands : List Command) (n : ℕ) (j : ScriptState) (ending : ScriptEnding) (vs ws : List Outcome) → OneOutcomePerAsk (accepted_commands j commands) vs → OneOutcomePerAsk (accepted_commands j commands) ws → AllByRecursion HasPrintableNames vs → AllByRecursion HasPrintableNames ws → answers_from n j commands ending vs ≡ answers_from n j commands ending ws → vs ≡ ws
same_outcomes [] n j ending [] [] o u p q e = refl
same_outcomes [] n j ending [] (w ∷ ws) o u p q e = absurd u
same_outcomes [] n j ending (v ∷ vs) ws o u p q e = absurd o
same_outcomes (command ∷ commands) n j ending vs ws o u p q e =
    go command (refusal_of j command) (same_outcomes commands (n + 1) j ending) (same_outcomes commands (n + 1) (state_after_accepted command j) ending) vs ws o u p q e
  where
    go : (command : Command) (r : Option Refusal) → ((vs ws : List Outcome) → OneOutcomePerAsk (accepted_commands j commands) vs → OneOutcomePerAsk (accepted_commands j commands) ws → AllByRecursion HasPrintableNames vs → AllByRecursion HasPrintableNames ws → answers_from (n + 1) j commands ending vs ≡ answers_from (n + 1) j commands ending ws → vs ≡ ws)
        → ((vs ws : List Outcome) → OneOutcomePerAsk (accepted_commands (state_after_accepted command j) commands) vs → OneOutcomePerAsk (accepted_commands (state_after_accepted command j) commands) ws → AllByRecursion HasPrintableNames vs → AllByRecursion HasPrintableNames ws → answers_from (n + 1) (state_after_accepted command j) commands ending vs ≡ answers_from (n + 1) (state_after_accepted command j) commands ending ws → vs ≡ ws)
        → (vs ws : List Outcome)
        → OneOutcomePerAsk (cond (is_some r) (accepted_commands j commands) (command ∷ accepted_commands (state_after_accepted command j) commands)) vs
        → OneOutcomePerAsk (cond (is_some r) (accepted_commands j commands) (command ∷ accepted_commands (state_after_accepted command j) commands)) ws
        → AllByRecursion HasPrintableNames vs → AllByRecursion HasPrintableNames ws
        → answer_to_command n r command vs ++ answers_from (n + 1) (cond (is_some r) j (state_after_accepted command j)) commands ending (outcomes_left r command vs)
        ≡ answer_to_command n r command ws ++ answers_from (n + 1) (cond (is_some r) j (state_after_accepted command j)) commands ending (outcomes_left r command ws)
        → vs ≡ ws
    go command (Some r) same next vs ws o u p q e = same vs ws o u p q (append_cancel_left (answer_to_command n (Some r) command vs) (answers_from (n + 1) j commands ending vs) (answers_from (n + 1) j commands ending ws) e)
    go (Ask ls) None same next [] ws o u p q e = absurd o
    go (Ask ls) None same next (v ∷ vs) [] o u p q e = absurd u
    go (Ask ls) None same next (v ∷ vs) (w ∷ ws) o u p q e =
        let r = same_outcome v w (answers_from (n + 1) (state_after_accepted (Ask ls) j) commands ending vs) (answers_from (n + 1) (state_after_accepted (Ask ls) j) commands ending ws) p.0 q.0 e in
        pair v w vs ws r.0 (next vs ws o u p.1 q.1 r.1)
      where
        pair : (v w : Outcome) (vs ws : List Outcome) → v ≡ w → vs ≡ ws → (v ∷ vs) ≡ (w ∷ ws)
        pair v w vs ws h t = cc
    go (Clause ls) None same next vs ws o u p q e = next vs ws o u p q e
    go (Hide names) None same next vs ws o u p q e = next vs ws o u p q e
    go (Witness names) None same next vs ws o u p q e = next vs ws o u p q e
    go (Sample names) None same next vs ws o u p q e = next vs ws o u p q e

pub texts_report : TextsDetermineOutcomes
texts_report commands ending vs ws = same_outcomes commands 1 initial_state ending vs ws

-- introducing names does not change the clauses
names_leave : (names : List ℕ) (j : ScriptState) → (with_names names j).clauses ≡ j.clauses
names_leave [] j = refl
names_leave (name ∷ names) j = names_leave names (with_name name j)

brought_leave : (names : List ℕ) (j : ScriptState) → (introduce_all names j).clauses ≡ j.clauses
brought_leave [] j = refl
brought_leave (name ∷ names) j = brought_leave names (introduce name j) ∙ names_leave (new_names name j) j

pub ask_leaves : AskKeepsClauses
ask_leaves j ls = brought_leave (names_of ls) j
