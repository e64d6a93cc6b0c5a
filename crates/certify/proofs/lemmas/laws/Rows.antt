-- Worked rows, by computing.
use Rattle.std.proofs.Common.{ℕ, ◌+◌, ◌*◌, ◌≤◌, ◌<◌, ◌≡◌, Bool, true, false, not, ◌||◌, cond, eqb, Some, List, [], ◌∷◌, ◌++◌, length, refl, sym, ◌∙◌, ap, arith, inl, inr}
use Rattle.std.proofs.lemmas.Bool.{true≢false}
use Rattle.std.specs.Fmt.{digits}
use Rattle.std.specs.List.{AllByRecursion}
use Rattle.sat_base.specs.values.Literals.{var_limit}
use Rattle.sat_base.specs.script.Script.{Literal, Clean, names_of}
use Rattle.sat_base.specs.steps.Formats.{Items}
use Rattle.sat_base.specs.steps.Numbers.{SpellsNumber, SpellsNumberBelow}
use Rattle.sat_base.specs.steps.Steps.{Step, UserVarName, AddClause, Model, Assumptions, End}
use Rattle.sat_base.specs.steps.StepText.{SpellsLiterals, SpellsStep, SpellsSteps}
use Rattle.sat_checker.specs.Stored.{Sample, initial_variable, is_known}
use Rattle.sat_checker.specs.Accepts.{CanGetName, ready_after}
use Rattle.certify.specs.answers.Answers.{answers_text, outcome_text}
use Rattle.sat_checker.specs.matching.Expected.{Outcome, Sat, Unsat, Unknown, FitsExpected, NewName, new_name, adds, opens, shows, closes, finish}
use Rattle.sat_checker.specs.matching.Checking.{CheckerRules}
use Rattle.certify.specs.confirm.Matches.{met, cut, ordered, OneOutcomePerAsk, StepsMatch}
use Rattle.sat_checker.specs.matching.ProofChecking.{checker_rules}
use Rattle.certify.specs.laws.Rows.{AskAloneText, clause_and_ask, clause_and_ask_text, ClauseAndAskText, ClauseAndAskExpected, ClauseAndAskRight, ClauseAndAskSteps, ClauseAndAskMatches, TwoUnitsRight, TwoUnitsSteps, TwoUnitsMatches, EmptyMatches, HiddenAndBackState, HiddenAndBackExpected, HiddenAtOnceState, WitnessRefusedText, LeftmostRefuses, WitnessRefusesAsk, MalformedText, EmptyText, NameOnOldVariable, EndAloneDoesNotMatch, NoAnswers, AnswersTwice, pos, neg}
use Rattle.certify.proofs.lemmas.confirm.NextStep.{taken, skipped, fits_new}
use Rattle.certify.proofs.lemmas.laws.ExpectedOutcomes.{matching_right}
use Rattle.sat_checker.proofs.lemmas.matching.CheckerIsSound.{the_checking_sound}
use Rattle.certify.proofs.lemmas.laws.DistinctTexts.{same_outcome}

pub ask_alone_text : AskAloneText
ask_alone_text = refl

pub empty_text : EmptyText
empty_text = refl

pub clause_and_ask_says : ClauseAndAskText
unfolding digits
clause_and_ask_says = refl

pub clause_and_ask_expected : ClauseAndAskExpected
clause_and_ask_expected = refl

pub clause_and_ask_right : ClauseAndAskRight
clause_and_ask_right = (
  record {
    names = refl;
    valuation = λ x. cond (eqb x 1) true false;
    agrees = (refl, (refl, tt));
    clauses = (refl, tt);
    asked = tt;
  },
  tt,
)

-- the names in the row are new, and their variables have no names yet
some_differs : (m n : ℕ) → Some m ≡ Some n → m ≡ n
some_differs m n e = cc

first_name : CanGetName (ready_after []) 0 0
first_name = record { free = λ w e. absurd (cc); nameless = refl; not_hidden = λ e. absurd (cc) }

second_name : CanGetName (ready_after (UserVarName 0 (Some 0) ∷ [])) 1 1
second_name = record { free = λ w e. taken_by w (eqb w 0) e; nameless = refl; not_hidden = λ e. absurd (cc) }
  where
    taken_by : (w : ℕ) (b : Bool) → (cond b (record { known = true; mode = Sample; name = Some 0 }) initial_variable).name ≡ Some 1 → ⊥
    taken_by w true e = let d = some_differs 0 1 e in omega arith
    taken_by w false e = cc

pub clause_and_ask_steps : ClauseAndAskSteps
clause_and_ask_steps = record {
  one_each = tt;
  in_form = (tt, tt);
  meets = ordered refl (new_name refl refl) first_name (ordered refl (new_name refl refl) second_name
      (ordered refl (adds (((0, record { variable = 0; named = refl; is = refl }, inl refl), ((2, record { variable = 1; named = refl; is = refl }, inr (inl refl)), tt)), ((pos 1, record { variable = 0; named = refl; is = refl }, inl refl), ((pos 2, record { variable = 1; named = refl; is = refl }, inr (inl refl)), tt)))) (inr (refl, (refl, tt)))
      (ordered refl (opens (tt, tt)) tt
      (ordered refl (shows {line = neg 1 ∷ pos 2 ∷ []} refl ((1, record { variable = 0; named = refl; is = refl }, inl refl), ((2, record { variable = 1; named = refl; is = refl }, inr (inl refl)), tt)) tt) (record { consistent = refl; apart = (refl, (refl, tt)); units = tt; clauses = (inr refl, tt) })
      (ordered refl closes tt (ordered refl finish tt (met refl)))))));
}

-- a number below 128 is encoded as one byte
small : (n : ℕ) → n < 128 → SpellsNumber n (n ∷ [])
small n h = (h, refl)

name_spelt : (v : ℕ) → v < 127 → SpellsStep (UserVarName v (Some v)) (2 ∷ v ∷ (v + 1) ∷ [])
name_spelt v h = (v ∷ (v + 1) ∷ [], refl, (v ∷ [], (v + 1) ∷ [], (small v (omega arith), omega arith), (small (v + 1) (omega arith), omega arith), refl))

items_spelt : (ls : List ℕ) → AllByRecursion (λ l. l < 128) ls → Items (SpellsNumberBelow (2 * var_limit)) ls ls
items_spelt [] h = refl
items_spelt (l ∷ ls) h = let x = h.0 in (l ∷ [], ls, (small l x, omega arith), items_spelt ls h.1, refl)

literals_spelt : (ls : List ℕ) → AllByRecursion (λ l. l < 128) ls → length ls < 128 → SpellsLiterals ls (length ls ∷ ls)
literals_spelt ls h n = (length ls ∷ [], ls, (small (length ls) n, omega arith), items_spelt ls h, refl)

clause_spelt : (c : List ℕ) → AllByRecursion (λ l. l < 128) c → length c < 128 → SpellsStep (AddClause c) (5 ∷ length c ∷ c)
clause_spelt c h n = (length c ∷ c, refl, literals_spelt c h n)

model_spelt : (c : List ℕ) → AllByRecursion (λ l. l < 128) c → length c < 128 → SpellsStep (Model c) (10 ∷ length c ∷ c)
model_spelt c h n = (length c ∷ c, refl, literals_spelt c h n)

assumed_spelt : (c : List ℕ) → AllByRecursion (λ l. l < 128) c → length c < 128 → SpellsStep (Assumptions c) (11 ∷ length c ∷ c)
assumed_spelt c h n = (length c ∷ c, refl, literals_spelt c h n)

end_spelt : SpellsSteps (End ∷ []) (13 ∷ [])
end_spelt = (13 ∷ [], [], ([], refl, refl), refl, refl)

pub clause_and_ask_matches : ClauseAndAskMatches
clause_and_ask_matches rest = record {
  outcomes = Sat (neg 1 ∷ pos 2 ∷ []) ∷ [];
  steps = UserVarName 0 (Some 0) ∷ UserVarName 1 (Some 1) ∷ AddClause (0 ∷ 2 ∷ []) ∷ Assumptions [] ∷ Model (1 ∷ 2 ∷ []) ∷ Assumptions [] ∷ End ∷ [];
  text = 2 ∷ 0 ∷ 1 ∷ 2 ∷ 1 ∷ 2 ∷ 5 ∷ 2 ∷ 0 ∷ 2 ∷ 11 ∷ 0 ∷ 10 ∷ 2 ∷ 1 ∷ 2 ∷ 11 ∷ 0 ∷ 13 ∷ [];
  rest = rest;
  answered = sym clause_and_ask_says;
  begins = refl;
  spelt = (
    2 ∷ 0 ∷ 1 ∷ [],
    _,
    name_spelt 0 (omega arith),
    (
      2 ∷ 1 ∷ 2 ∷ [],
      _,
      name_spelt 1 (omega arith),
      (
        5 ∷ 2 ∷ 0 ∷ 2 ∷ [],
        _,
        clause_spelt (0 ∷ 2 ∷ []) (omega arith, (omega arith, tt)) (omega arith),
        (11 ∷ 0 ∷ [], _, assumed_spelt [] tt (omega arith), (10 ∷ 2 ∷ 1 ∷ 2 ∷ [], _, model_spelt (1 ∷ 2 ∷ []) (omega arith, (omega arith, tt)) (omega arith), (11 ∷ 0 ∷ [], _, assumed_spelt [] tt (omega arith), end_spelt, refl), refl), refl),
        refl,
      ),
      refl,
    ),
    refl,
  );
  match = clause_and_ask_steps;
}

pub two_units_right : TwoUnitsRight
two_units_right = (record { order = tt; among = tt; none = λ a t h. no (a 0) h.0 h.1.0 }, tt)
  where
    no : (b : Bool) → (not b || false) ≡ true → (b || false) ≡ true → ⊥
    no true x y = true≢false (sym x)
    no false x y = true≢false (sym y)

pub two_units_steps : TwoUnitsSteps
two_units_steps = record {
  one_each = tt;
  in_form = (tt, tt);
  meets = ordered refl (new_name refl refl) first_name
      (ordered refl (adds (((0, record { variable = 0; named = refl; is = refl }, inl refl), tt), ((pos 1, record { variable = 0; named = refl; is = refl }, inl refl), tt))) (inr (refl, tt))
      (ordered refl (adds (((1, record { variable = 0; named = refl; is = refl }, inl refl), tt), ((neg 1, record { variable = 0; named = refl; is = refl }, inl refl), tt))) (inr (refl, tt))
      (cut refl (refl, (refl, (tt, (tt, tt)))))));
}

pub two_units_matches : TwoUnitsMatches
two_units_matches rest = record {
  outcomes = Unsat [] ∷ [];
  steps = UserVarName 0 (Some 0) ∷ AddClause (0 ∷ []) ∷ AddClause (1 ∷ []) ∷ [];
  text = 2 ∷ 0 ∷ 1 ∷ 5 ∷ 1 ∷ 0 ∷ 5 ∷ 1 ∷ 1 ∷ [];
  rest = rest;
  answered = refl;
  begins = refl;
  spelt = (2 ∷ 0 ∷ 1 ∷ [], _, name_spelt 0 (omega arith), (5 ∷ 1 ∷ 0 ∷ [], _, clause_spelt (0 ∷ []) (omega arith, tt) (omega arith), (5 ∷ 1 ∷ 1 ∷ [], [], clause_spelt (1 ∷ []) (omega arith, tt) (omega arith), refl, refl), refl), refl);
  match = two_units_steps;
}

pub empty_matches : EmptyMatches
empty_matches rest = record {
  outcomes = [];
  steps = End ∷ [];
  text = 13 ∷ [];
  rest = rest;
  answered = refl;
  begins = refl;
  spelt = end_spelt;
  match = record { one_each = tt; in_form = tt; meets = ordered refl finish tt (met refl) };
}

pub hidden_and_back_state : HiddenAndBackState
hidden_and_back_state = refl

pub hidden_and_back_expected : HiddenAndBackExpected
hidden_and_back_expected = refl

pub hidden_at_once_state : HiddenAtOnceState
hidden_at_once_state = refl

pub witness_refused_text : WitnessRefusedText
unfolding digits
witness_refused_text = refl

pub leftmost_refuses : LeftmostRefuses
leftmost_refuses = refl

pub witness_refuses_ask : WitnessRefusesAsk
witness_refuses_ask = refl

pub malformed_text : MalformedText
unfolding digits
malformed_text = refl

pub name_on_old_variable : NameOnOldVariable
name_on_old_variable accepts unsat [] m = m.one_each
name_on_old_variable accepts unsat (o ∷ os) m =
    let k : CheckerRules = record { Accepts = λ earlier step. accepts earlier step ≡ true; unsat = unsat; knows = λ earlier v. is_known v (ready_after earlier) } in
    let one = taken k refl m.meets in
    let two = taken k refl one.2 in
    let three = taken k refl two.2 in
    let four = skipped k refl three.2 in
    let five = taken k refl four.1 in
    true≢false (fits_new k _ five.0).1

pub end_alone : EndAloneDoesNotMatch
end_alone [] m = m.one_each
end_alone (o ∷ os) m = no (taken checker_rules refl m.meets).0
  where
    no : FitsExpected (checker_rules.knows []) [] (NewName 1) End → ⊥
    no f = elim f [ ]

no_text : (o : Outcome) → [] ≡ outcome_text o ++ [] → ⊥
no_text (Sat line) e = absurd cc
no_text (Unsat core) e = absurd cc
no_text Unknown e = absurd cc

pub no_answers : NoAnswers
no_answers certificate m = go m.outcomes m.match.one_each m.answered
  where
    go : (os : List Outcome) → OneOutcomePerAsk clause_and_ask os → [] ≡ answers_text clause_and_ask Clean os → ⊥
    go [] o e = o
    go (o ∷ []) u e = no_text o e
    go (o ∷ p ∷ os) u e = u

outcome_says : outcome_text (Sat (neg 1 ∷ pos 2 ∷ [])) ≡ clause_and_ask_text
unfolding digits
outcome_says = refl

not_twice : (o : Outcome) (steps : List Step) → StepsMatch checker_rules clause_and_ask (o ∷ []) steps → clause_and_ask_text ++ clause_and_ask_text ≡ outcome_text o ++ [] → ⊥
not_twice (Sat line) steps m e =
    let r = (matching_right checker_rules the_checking_sound clause_and_ask (Sat line ∷ []) steps m).0 in
    let texts_same : outcome_text (Sat (neg 1 ∷ pos 2 ∷ [])) ++ clause_and_ask_text ≡ outcome_text (Sat line) ++ [] = ap (λ x. x ++ clause_and_ask_text) outcome_says ∙ e in
    let p = same_outcome (Sat (neg 1 ∷ pos 2 ∷ [])) (Sat line) clause_and_ask_text [] (omega arith, (omega arith, tt)) (prints line r.names) texts_same in
    absurd (let q = p.1 in cc)
  where
    prints : (ls : List Literal) → names_of ls ≡ 1 ∷ 2 ∷ [] → AllByRecursion (λ l. l.name ≤ var_limit) ls
    prints [] n = tt
    prints (l ∷ []) n = let x : l.name ≡ 1 = cc in (omega arith, tt)
    prints (l ∷ k ∷ []) n = let x : l.name ≡ 1 = cc in let y : k.name ≡ 2 = cc in (omega arith, (omega arith, tt))
    prints (l ∷ k ∷ h ∷ ls) n = absurd cc
not_twice (Unsat core) steps m e = let r : ◌≡◌ {A = ℕ} 83 85 = cc in omega arith
not_twice Unknown steps m e = let r : ◌≡◌ {A = ℕ} 83 85 = cc in omega arith

pub answers_twice : AnswersTwice
answers_twice certificate m = go m.outcomes m.match m.answered
  where
    go : (os : List Outcome) → StepsMatch checker_rules clause_and_ask os m.steps → clause_and_ask_text ++ clause_and_ask_text ≡ answers_text clause_and_ask Clean os → ⊥
    go [] s e = s.one_each
    go (o ∷ []) s e = not_twice o m.steps s e
    go (o ∷ p ∷ os) s e = s.one_each
