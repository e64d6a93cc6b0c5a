-- Commands that are served one after another.
use Rattle.std.proofs.Common.{ℕ, ◌+◌, ◌≡◌, ◌∙◌, List, [], ◌++◌, map, refl, sym, ap, subst, arith, append_assoc}
use Rattle.std.proofs.lemmas.List.{map-append}
use Rattle.sat_base.specs.script.Script.{Command}
use Rattle.sat_base.specs.script.ScriptState.{accepted_commands}
use Rattle.sat_checker.specs.matching.Expected.{Outcome}
use Rattle.certify.specs.answers.Answers.{answers_from}
use Rattle.certify.specs.answers.RightAnswers.{OutcomesAreRight}
use Rattle.certify.specs.run.FinishedRun.{refused_count, answer_kind, AreWithinBudget, rounds_of_asks, identities_given}
use Rattle.certify.specs.run.Serving.{RunPlace, Serves}
use Rattle.certify.specs.run.Stretches.{ServesCommands}
use Rattle.certify.specs.declared.summary.AskReport.{AskReport}

pub serves_none : (budget : ℕ) (a : RunPlace) → Serves budget a a [] [] [] 0
serves_none budget a = record {
  outcomes = [];
  right = λ left rest x. x;
  says = λ left ending rest. refl;
  refuses = λ left. omega arith;
  kinds = refl;
  spent = λ left rest x. x;
  follows = λ to left rest counts m. m;
}

pub serves_then : (budget : ℕ) (a b c : RunPlace) (xs ys : List Command) (s t : List ℕ) (rs qs : List AskReport) (k l : ℕ)
    → Serves budget a b xs s rs k → Serves budget b c ys t qs l → Serves budget a c (xs ++ ys) (s ++ t) (rs ++ qs) (k + l)
serves_then budget a b c xs ys s t rs qs k l f g = record {
  outcomes = f.outcomes ++ g.outcomes;
  right = λ left rest x.
      let P : List Command → List Outcome → Type 0 = λ cs os. OutcomesAreRight a.judge (accepted_commands a.judge cs) os in
      subst (λ cs. P cs ((f.outcomes ++ g.outcomes) ++ rest)) (sym (append_assoc xs ys left))
      (subst (λ os. P (xs ++ (ys ++ left)) os) (sym (append_assoc f.outcomes g.outcomes rest)) (f.right (ys ++ left) (g.outcomes ++ rest) (g.right left rest x)));
  says = λ left ending rest.
      ap (λ cs. answers_from a.number a.judge cs ending ((f.outcomes ++ g.outcomes) ++ rest)) (append_assoc xs ys left)
      ∙ ap (λ os. answers_from a.number a.judge (xs ++ (ys ++ left)) ending os) (append_assoc f.outcomes g.outcomes rest)
      ∙ f.says (ys ++ left) ending (g.outcomes ++ rest) ∙ ap (λ u. s ++ u) (g.says left ending rest) ∙ sym (append_assoc s t (answers_from c.number c.judge left ending rest));
  refuses = λ left.
      let e = f.refuses (ys ++ left) in let d = g.refuses left in
      ap (refused_count a.judge) (append_assoc xs ys left) ∙ (let x : refused_count a.judge (xs ++ (ys ++ left)) ≡ k + l + refused_count c.judge left = omega arith in x);
  kinds = map-append (λ (r : AskReport). r.answer) rs qs ∙ ap (λ ks. ks ++ map (λ (r : AskReport). r.answer) qs) f.kinds ∙ ap (λ ks. map answer_kind f.outcomes ++ ks) g.kinds ∙ sym (map-append answer_kind f.outcomes g.outcomes);
  spent = λ left rest x.
      let P : List Command → List AskReport → Type 0 = λ cs ps. AreWithinBudget budget a.rounds (identities_given a.judge (accepted_commands a.judge cs)) ps in
      subst (λ cs. P cs ((rs ++ qs) ++ rest)) (sym (append_assoc xs ys left))
      (subst (λ ps. P (xs ++ (ys ++ left)) ps) (sym (append_assoc rs qs rest)) (f.spent (ys ++ left) (qs ++ rest) (g.spent left rest x)));
  follows = λ to left rest counts x.
      let P : List Command → List Outcome → List ℕ → Type 0 = λ cs os ns. ServesCommands a.judge a.steps to (accepted_commands a.judge cs) os ns in
      let whole = f.follows to (ys ++ left) (g.outcomes ++ rest) (rounds_of_asks qs ++ counts) (g.follows to left rest counts x) in
      let n : rounds_of_asks rs ++ (rounds_of_asks qs ++ counts) ≡ rounds_of_asks (rs ++ qs) ++ counts = sym (append_assoc (rounds_of_asks rs) (rounds_of_asks qs) counts) ∙ ap (λ ns. ns ++ counts) (sym (map-append (λ (r : AskReport). r.steps) rs qs)) in
      subst (λ cs. P cs ((f.outcomes ++ g.outcomes) ++ rest) (rounds_of_asks (rs ++ qs) ++ counts)) (sym (append_assoc xs ys left))
      (subst (λ os. P (xs ++ (ys ++ left)) os (rounds_of_asks (rs ++ qs) ++ counts)) (sym (append_assoc f.outcomes g.outcomes rest))
      (subst (λ ns. P (xs ++ (ys ++ left)) (f.outcomes ++ (g.outcomes ++ rest)) ns) n whole));
}
