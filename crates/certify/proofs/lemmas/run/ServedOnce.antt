-- One command is served.
use Rattle.std.proofs.Common.{ℕ, ◌+◌, ◌≡◌, Some, None, List, [], ◌∷◌, refl, sym, ap, subst}
use Rattle.sat_base.specs.script.Script.{Literal, Command, Ask, ScriptEnding}
use Rattle.sat_base.specs.script.ScriptState.{ScriptState, Refusal, state_after_accepted, accepted_commands, refusal_of}
use Rattle.sat_base.specs.steps.Steps.{Step}
use Rattle.sat_checker.specs.matching.Expected.{Outcome}
use Rattle.sat_checker.specs.matching.ProofChecking.{checker_rules}
use Rattle.certify.specs.answers.Answers.{answers_from, refused_line, outcome_text}
use Rattle.certify.specs.answers.RightAnswers.{OutcomeIsRight, OutcomesAreRight}
use Rattle.certify.specs.run.FinishedRun.{answer_kind, AreWithinBudget, RoundsAreBounded, SpendsWithinBudget, identities_given}
use Rattle.certify.specs.run.Serving.{RunPlace, Serves, place_after}
use Rattle.certify.specs.run.Stretches.{MakesAskSteps, IsNoAsk, ServesCommands, IsCommandStep, MakesExpectedSteps, due_for_command, made_ask, made_one}
use Rattle.certify.specs.declared.summary.AskReport.{AskReport}

-- A REFUSED COMMAND

pub accepted_refused : (j : ScriptState) (c : Command) (r : Refusal) (cs : List Command) → refusal_of j c ≡ Some r → accepted_commands j (c ∷ cs) ≡ accepted_commands j cs
accepted_refused j c r cs e = rw e refl

pub serves_refused : (budget : ℕ) (a : RunPlace) (c : Command) (r : Refusal) → refusal_of a.judge c ≡ Some r → Serves budget a (record a { number = a.number + 1 }) (c ∷ []) (refused_line a.number r) [] 1
serves_refused budget a c r e = record {
  outcomes = [];
  right = λ left rest x. subst (λ cs. OutcomesAreRight a.judge cs rest) (sym (accepted_refused a.judge c r left e)) x;
  says = λ left ending rest. rw e refl;
  refuses = λ left. rw e refl;
  kinds = refl;
  spent = λ left rest x. subst (λ cs. AreWithinBudget budget a.rounds (identities_given a.judge cs) rest) (sym (accepted_refused a.judge c r left e)) x;
  follows = λ to left rest counts x. subst (λ cs. ServesCommands a.judge a.steps to cs rest counts) (sym (accepted_refused a.judge c r left e)) x;
}

-- A COMMAND THAT IS NO ASK

pub accepted_next : (j : ScriptState) (c : Command) (cs : List Command) → refusal_of j c ≡ None → accepted_commands j (c ∷ cs) ≡ c ∷ accepted_commands (state_after_accepted c j) cs
accepted_next j c cs e = rw e refl

says_none : (k : ℕ) (j : ScriptState) (c : Command) (cs : List Command) (ending : ScriptEnding) (os : List Outcome) → IsNoAsk c → refusal_of j c ≡ None → answers_from k j (c ∷ cs) ending os ≡ answers_from (k + 1) (state_after_accepted c j) cs ending os
says_none k j (Ask ls) cs ending os h e = absurd h
says_none k j x cs ending os h e = rw e refl

right_next : (j : ScriptState) (c : Command) (cs : List Command) (os : List Outcome) → IsNoAsk c → OutcomesAreRight (state_after_accepted c j) cs os → OutcomesAreRight j (c ∷ cs) os
right_next j (Ask ls) cs os h x = absurd h
right_next j e cs os h x = x

given_next : (j : ScriptState) (c : Command) (cs : List Command) → IsNoAsk c → identities_given j (c ∷ cs) ≡ identities_given (state_after_accepted c j) cs
given_next j (Ask ls) cs h = absurd h
given_next j e cs h = refl

pub serves_plain : (budget : ℕ) (a : RunPlace) (c : Command) (steps : List Step) → IsNoAsk c → refusal_of a.judge c ≡ None → MakesExpectedSteps (IsCommandStep c) a.steps steps (due_for_command (checker_rules.unsat a.steps) c a.judge)
    → Serves budget a (place_after a c steps a.rounds) (c ∷ []) [] [] 0
serves_plain budget a c steps h e stretch = record {
  outcomes = [];
  right = λ left rest x. subst (λ cs. OutcomesAreRight a.judge cs rest) (sym (accepted_next a.judge c left e)) (right_next a.judge c (accepted_commands (state_after_accepted c a.judge) left) rest h x);
  says = λ left ending rest. says_none a.number a.judge c left ending rest h e;
  refuses = λ left. rw e refl;
  kinds = refl;
  spent = λ left rest x.
      subst (λ cs. AreWithinBudget budget a.rounds (identities_given a.judge cs) rest) (sym (accepted_next a.judge c left e))
      (subst (λ ns. AreWithinBudget budget a.rounds ns rest) (sym (given_next a.judge c (accepted_commands (state_after_accepted c a.judge) left) h)) x);
  follows = λ to left rest counts x.
      subst (λ cs. ServesCommands a.judge a.steps to cs rest counts) (sym (accepted_next a.judge c left e)) (made_one steps h stretch x);
}

-- AN ASK

pub serves_ask : (budget : ℕ) (a : RunPlace) (ls : List Literal) (o : Outcome) (report : AskReport) (steps : List Step) → refusal_of a.judge (Ask ls) ≡ None
    → OutcomeIsRight (state_after_accepted (Ask ls) a.judge) ls o → report.answer ≡ answer_kind o → SpendsWithinBudget budget a.rounds report
    → RoundsAreBounded (state_after_accepted (Ask ls) a.judge).identity_count budget a.rounds report → MakesAskSteps a.judge ls o report.steps a.steps steps
    → Serves budget a (place_after a (Ask ls) steps (a.rounds + report.steps)) (Ask ls ∷ []) (outcome_text o) (report ∷ []) 0
serves_ask budget a ls o report steps e right kind spent bounded made = record {
  outcomes = o ∷ [];
  right = λ left rest x. subst (λ cs. OutcomesAreRight a.judge cs (o ∷ rest)) (sym (accepted_next a.judge (Ask ls) left e)) (right, x);
  says = λ left ending rest. rw e refl;
  refuses = λ left. rw e refl;
  kinds = ap (λ k. k ∷ []) kind;
  spent = λ left rest x.
      subst (λ cs. AreWithinBudget budget a.rounds (identities_given a.judge cs) (report ∷ rest)) (sym (accepted_next a.judge (Ask ls) left e)) (spent, bounded, x);
  follows = λ to left rest counts x.
      subst (λ cs. ServesCommands a.judge a.steps to cs (o ∷ rest) (report.steps ∷ counts)) (sym (accepted_next a.judge (Ask ls) left e)) (made_ask steps made x);
}
