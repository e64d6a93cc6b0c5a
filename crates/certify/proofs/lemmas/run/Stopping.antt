-- What a run that failed has written of the answers.
use Rattle.std.proofs.Common.{ℕ, ◌+◌, ◌*◌, ◌≡◌, ◌∙◌, Option, Some, None, List, [], ◌∷◌, ◌++◌, map, length, Err, append_assoc, refl, sym, ap, subst, arith}
use Rattle.std.proofs.lemmas.List.{append-nil, map-append}
use Rattle.std.proofs.lemmas.Nat.{pow_pos}
use Rattle.std.specs.Io.KnownBytes.{Appends, Keeps}
use Rattle.sat_base.specs.device.Device.{Writer, FlushesOnce, WriterAccepts, WriterFails}
use Rattle.sat_base.specs.script.Script.{Literal, Command, Clause, Ask, Hide, Witness, Sample, Malformed}
use Rattle.sat_base.specs.script.Language.{Reading, prepend_commands}
use Rattle.sat_base.specs.script.ScriptState.{ScriptState, Refusal, state_after_accepted, accepted_commands, refusal_of}
use Rattle.sat_base.proofs.lemmas.device.Known.{appends_none, appends_more}
use Rattle.sat_base.specs.steps.Steps.{Step}
use Rattle.sat_checker.specs.matching.Expected.{Outcome, Unknown}
use Rattle.certify.specs.answers.Answers.{answers_from, malformed_line, outcome_text, refused_line}
use Rattle.certify.specs.answers.RightAnswers.{OutcomesAreRight, OutcomeIsRight}
use Rattle.certify.specs.declared.summary.Answer.TheVariants as kind
use Rattle.certify.specs.declared.summary.AskReport.{AskReport}
use Rattle.certify.specs.run.FinishedRun.{AreWithinBudget, RoundsAreBounded, SpendsWithinBudget, answer_kind, identities_given, rounds_of_asks}
use Rattle.certify.specs.run.Stopping.{StopsServing}
use Rattle.certify.specs.run.Stretches.{MakesAskSteps, ServesCommands, ServesFirst, made_ask, made_none}
use Rattle.certify.specs.run.Unfinished.{AreWithinBudgetSoFar, AreAnswersPrefix, ReceivedBytes}
use Rattle.certify.specs.run.Serving.{RunPlace, Serves}
use Rattle.certify.specs.run.ServedScript.{ServesTo}
use Rattle.certify.proofs.lemmas.run.ServedOnce.{accepted_next, accepted_refused}

-- UNKNOWN IS CORRECT

abbrev unknowns : List Command → List Outcome
unknowns [] = []
unknowns (Ask ls ∷ commands) = Unknown ∷ unknowns commands
unknowns (Clause ls ∷ commands) = unknowns commands
unknowns (Hide names ∷ commands) = unknowns commands
unknowns (Witness names ∷ commands) = unknowns commands
unknowns (Sample names ∷ commands) = unknowns commands

unknowns_right : (j : ScriptState) (commands : List Command) → OutcomesAreRight j commands (unknowns commands)
unknowns_right j [] = tt
unknowns_right j (Ask ls ∷ commands) = (tt, unknowns_right (state_after_accepted (Ask ls) j) commands)
unknowns_right j (Clause ls ∷ commands) = unknowns_right (state_after_accepted (Clause ls) j) commands
unknowns_right j (Hide names ∷ commands) = unknowns_right (state_after_accepted (Hide names) j) commands
unknowns_right j (Witness names ∷ commands) = unknowns_right (state_after_accepted (Witness names) j) commands
unknowns_right j (Sample names ∷ commands) = unknowns_right (state_after_accepted (Sample names) j) commands

-- ROUNDS OF THE FIRST ASKS

-- bounds for all asks are bounds for the first ones
spent_first : (budget before : ℕ) (ns : List ℕ) (rs qs : List AskReport) → AreWithinBudget budget before ns (rs ++ qs) → AreWithinBudgetSoFar budget before ns rs
spent_first budget before ns [] qs h = tt
spent_first budget before [] (r ∷ rs) qs h = h
spent_first budget before (n ∷ ns) (r ∷ rs) qs h = (h.0, h.1, spent_first budget (before + r.steps) ns rs qs h.2)

not_unknown : kind.Sat ≡ kind.Unknown → ⊥
not_unknown e = cc

-- a report within the bounds of any ask
abbrev quick : AskReport
quick = record { answer = kind.Sat; steps = 0 }

quick_spent : (budget before : ℕ) → SpendsWithinBudget budget before quick
quick_spent budget before = record { within = omega arith; unknown = λ e. absurd (not_unknown e) }

quick_bounded : (n budget before : ℕ) → RoundsAreBounded n budget before quick
quick_bounded n budget before = record { few = pow_pos (2 * n + 3); answered = λ le. not_unknown }

-- there are reports within the bounds of the other asks
padded : (budget before : ℕ) (ns : List ℕ) (rs : List AskReport) → AreWithinBudgetSoFar budget before ns rs → (qs : List AskReport) × AreWithinBudget budget before ns (rs ++ qs)
padded budget before [] [] h = ([], tt)
padded budget before (n ∷ ns) [] h = let k = padded budget (before + 0) ns [] tt in (quick ∷ k.0, (quick_spent budget before, quick_bounded n budget before, k.1))
padded budget before [] (r ∷ rs) h = absurd h
padded budget before (n ∷ ns) (r ∷ rs) h = let k = padded budget (before + r.steps) ns rs h.2 in (k.0, (h.0, h.1, k.1))

-- PREFIXES OF ANSWERS

module _ (budget before n : ℕ) (j : ScriptState) where
  abbrev begins_none : (script : Reading) → AreAnswersPrefix budget before n j script []
  begins_none script = record {
    answered = [];
    later = unknowns (accepted_commands j script.0);
    right = unknowns_right j (accepted_commands j script.0);
    begins = λ others e. (answers_from n j script.0 script.1 others, refl);
    reports = [];
    kinds = refl;
    spent = tt;
  }

  abbrev begins_less : (script : Reading) (text bytes more : List ℕ) → text ≡ bytes ++ more → AreAnswersPrefix budget before n j script text → AreAnswersPrefix budget before n j script bytes
  begins_less script text bytes more e h = record {
    answered = h.answered;
    later = h.later;
    right = h.right;
    begins = λ others f. let k = h.begins others f in (more ++ k.0, k.1 ∙ ap (λ (z : List ℕ). z ++ k.0) e ∙ append_assoc bytes more k.0);
    reports = h.reports;
    kinds = h.kinds;
    spent = h.spent;
  }

  -- the answer to an ask, which is correct, is a prefix of correct answers
  abbrev begins_ask : (ls : List Literal) (o : Outcome) (report : AskReport) (left : Reading) → refusal_of j (Ask ls) ≡ None → OutcomeIsRight (state_after_accepted (Ask ls) j) ls o → report.answer ≡ answer_kind o → SpendsWithinBudget budget before report
      → RoundsAreBounded (state_after_accepted (Ask ls) j).identity_count budget before report → AreAnswersPrefix budget before n j (prepend_commands (Ask ls ∷ []) left) (outcome_text o)
  begins_ask ls o report left e right same spends bounded =
      let later = accepted_commands (state_after_accepted (Ask ls) j) left.0 in
      record {
        answered = o ∷ [];
        later = unknowns later;
        right = subst (λ cs. OutcomesAreRight j cs (o ∷ unknowns later)) (sym (accepted_next j (Ask ls) left.0 e)) (right, unknowns_right (state_after_accepted (Ask ls) j) later);
        begins = λ others e2. (answers_from (n + 1) (state_after_accepted (Ask ls) j) left.0 left.1 others, rw e refl);
        reports = report ∷ [];
        kinds = ap (λ k. k ∷ []) same;
        spent = subst (λ cs. AreWithinBudgetSoFar budget before (identities_given j cs) (report ∷ [])) (sym (accepted_next j (Ask ls) left.0 e)) (spends, bounded, tt);
      }

  abbrev begins_refused : (c : Command) (r : Refusal) (left : Reading) → refusal_of j c ≡ Some r → AreAnswersPrefix budget before n j (prepend_commands (c ∷ []) left) (refused_line n r)
  begins_refused c r left e =
      let later = accepted_commands j left.0 in
      record {
        answered = [];
        later = unknowns later;
        right = subst (λ cs. OutcomesAreRight j cs (unknowns later)) (sym (accepted_refused j c r left.0 e)) (unknowns_right j later);
        begins = λ others same. (answers_from (n + 1) j left.0 left.1 others, rw e refl);
        reports = [];
        kinds = refl;
        spent = tt;
      }

  abbrev begins_malformed : AreAnswersPrefix budget before n j ([], Malformed) (malformed_line n)
  begins_malformed = record {
    answered = [];
    later = [];
    right = tt;
    begins = λ others e. ([], sym (append-nil (malformed_line n)));
    reports = [];
    kinds = refl;
    spent = tt;
  }

-- the answers to earlier commands, and then a prefix of those to the later ones
abbrev begins_later : (budget : ℕ) (a b : RunPlace) (cs : List Command) (script : Reading) (text bytes : List ℕ) (rs : List AskReport) (k : ℕ)
    → Serves budget a b cs text rs k → AreAnswersPrefix budget b.rounds b.number b.judge script bytes → AreAnswersPrefix budget a.rounds a.number a.judge (prepend_commands cs script) (text ++ bytes)
begins_later budget a b cs script text bytes rs k f g =
    let whole = padded budget b.rounds (identities_given b.judge (accepted_commands b.judge script.0)) g.reports g.spent in
    let given = identities_given a.judge (accepted_commands a.judge (cs ++ script.0)) in
    let spent = f.spent script.0 (g.reports ++ whole.0) whole.1 in
    record {
      answered = f.outcomes ++ g.answered;
      later = g.later;
      right = subst (OutcomesAreRight a.judge (accepted_commands a.judge (cs ++ script.0))) (sym (append_assoc f.outcomes g.answered g.later)) (f.right script.0 (g.answered ++ g.later) g.right);
      begins = λ others e.
          let h = g.begins others e in
          (h.0, ap (answers_from a.number a.judge (cs ++ script.0) script.1) (append_assoc f.outcomes g.answered others) ∙ f.says script.0 script.1 (g.answered ++ others) ∙ ap (λ u. text ++ u) h.1 ∙ sym (append_assoc text bytes h.0));
      reports = rs ++ g.reports;
      kinds =
          map-append (λ (r : AskReport). r.answer) rs g.reports ∙ ap (λ ks. ks ++ map (λ (r : AskReport). r.answer) g.reports) f.kinds ∙ ap (λ ks. map answer_kind f.outcomes ++ ks) g.kinds
          ∙ sym (map-append answer_kind f.outcomes g.answered);
      spent = spent_first budget a.rounds given (rs ++ g.reports) whole.0 (subst (AreWithinBudget budget a.rounds given) (sym (append_assoc rs g.reports whole.0)) spent);
    }

none_left : (others : List Outcome) → length others ≡ 0 → others ≡ []
none_left [] e = refl
none_left (o ∷ os) e = absurd (cc)

-- the answers to the complete script
abbrev begins_whole : (budget : ℕ) (a : RunPlace) (script : Reading) (to : List Step) (text : List ℕ) (rs : List AskReport) (k : ℕ) → ServesTo budget a script to text rs k → AreAnswersPrefix budget a.rounds a.number a.judge script (text ++ [])
begins_whole budget a script to text rs k f = record {
  answered = f.outcomes;
  later = [];
  right = subst (OutcomesAreRight a.judge (accepted_commands a.judge script.0)) (sym (append-nil f.outcomes)) f.right;
  begins = λ others e.
      let same = ap (λ os. f.outcomes ++ os) (none_left others e) ∙ append-nil f.outcomes in
      ([], ap (answers_from a.number a.judge script.0 script.1) same ∙ f.says ∙ sym (append-nil text) ∙ sym (append-nil (text ++ [])));
  reports = rs;
  kinds = f.kinds;
  spent = spent_first budget a.rounds (identities_given a.judge (accepted_commands a.judge script.0)) rs [] (subst (AreWithinBudget budget a.rounds (identities_given a.judge (accepted_commands a.judge script.0))) (sym (append-nil rs)) f.spent);
}

-- WHAT A WRITER RECEIVED

pub bytes_none : (w : Writer) → ReceivedBytes w w []
bytes_none w = record { taken = sym (append-nil w.taken); known_bytes = appends_none w.contents }

pub bytes_taken : (u v : Writer) (text : List ℕ) → WriterAccepts u v text → ReceivedBytes u v text
bytes_taken u v text t = record { taken = t.taken; known_bytes = t.known_bytes }

pub bytes_broken : (u v : Writer) (text : List ℕ) → (b : WriterFails u v text) → ReceivedBytes u v b.front
bytes_broken u v text b = record { taken = b.taken; known_bytes = b.known_bytes }

pub bytes_later : (u v w : Writer) (text bytes : List ℕ) → WriterAccepts u v text → ReceivedBytes v w bytes → ReceivedBytes u w (text ++ bytes)
bytes_later u v w text bytes t b = record {
  taken = b.taken ∙ ap (λ (z : List ℕ). z ++ bytes) t.taken ∙ append_assoc u.taken text bytes;
  known_bytes = appends_more u.contents v.contents w.contents text bytes t.known_bytes b.known_bytes;
}

-- HOW FAR COMMANDS WERE SERVED

-- none was served, or only refused ones
first_none : (j : ScriptState) (commands : List Command) (from to later : List Step) → to ≡ later ++ from → ServesFirst j commands from to [] []
first_none j commands from to later e = record { first = []; left = commands; whole = refl; mid = from; later = later; steps = e; serves = made_none }

-- an ask was served, and nothing after it
first_ask : (j : ScriptState) (ls : List Literal) (o : Outcome) (n : ℕ) (left : List Command) (from to : List Step) → refusal_of j (Ask ls) ≡ None → MakesAskSteps j ls o n from to → ServesFirst j (Ask ls ∷ left) from to (o ∷ []) (n ∷ [])
first_ask j ls o n left from to e made = record {
  first = Ask ls ∷ [];
  left = left;
  whole = refl;
  mid = to;
  later = [];
  steps = refl;
  serves = subst (λ cs. ServesCommands j from to cs (o ∷ []) (n ∷ [])) (sym (accepted_next j (Ask ls) [] e)) (made_ask to made made_none);
}

-- some commands were served, and then others
first_later : (budget : ℕ) (a b : RunPlace) (cs commands : List Command) (to : List Step) (text : List ℕ) (rs qs : List AskReport) (os : List Outcome) (k : ℕ)
    → (f : Serves budget a b cs text rs k) → ServesFirst b.judge commands b.steps to os (rounds_of_asks qs) → ServesFirst a.judge (cs ++ commands) a.steps to (f.outcomes ++ os) (rounds_of_asks (rs ++ qs))
first_later budget a b cs commands to text rs qs os k f g = record {
  first = cs ++ g.first;
  left = g.left;
  whole = ap (λ (xs : List Command). cs ++ xs) g.whole ∙ sym (append_assoc cs g.first g.left);
  mid = g.mid;
  later = g.later;
  steps = g.steps;
  serves =
      subst (ServesCommands a.judge a.steps g.mid (accepted_commands a.judge (cs ++ g.first)) (f.outcomes ++ os)) (sym (map-append (λ (r : AskReport). r.steps) rs qs))
      (f.follows g.mid g.first os (rounds_of_asks qs) g.serves);
}

-- PREFIXES THAT A WRITER RECEIVED

module _ (budget : ℕ) (a : RunPlace) (to : List Step) where
  -- a prefix of a text was written
  stops_broken : (script : Reading) (u v : Writer) (text : List ℕ) (h : AreAnswersPrefix budget a.rounds a.number a.judge script text) → ServesFirst a.judge script.0 a.steps to h.answered (rounds_of_asks h.reports) → WriterFails u v text
      → StopsServing budget a script to u v
  stops_broken script u v text h s b = record { took = record { bytes = b.front; took = bytes_broken u v text b; front = begins_less budget a.rounds a.number a.judge script text b.front b.following b.whole h }; serves = s }

  module _ (later : List Step) (more : to ≡ later ++ a.steps) where
    -- nothing was written
    pub stops_none : (script : Reading) (w : Writer) → StopsServing budget a script to w w
    stops_none script w = record { took = record { bytes = []; took = bytes_none w; front = begins_none budget a.rounds a.number a.judge script }; serves = first_none a.judge script.0 a.steps to later more }

    -- a part of the line of a refusal was written
    pub stops_refused : (c : Command) (r : Refusal) (left : Reading) (u v : Writer) → refusal_of a.judge c ≡ Some r → WriterFails u v (refused_line a.number r) → StopsServing budget a (prepend_commands (c ∷ []) left) to u v
    stops_refused c r left u v e b = stops_broken (prepend_commands (c ∷ []) left) u v (refused_line a.number r) (begins_refused budget a.rounds a.number a.judge c r left e) (first_none a.judge (c ∷ left.0) a.steps to later more) b

    -- a part of the last line for a malformed text was written
    pub stops_malformed : (u v : Writer) → WriterFails u v (malformed_line a.number) → StopsServing budget a ([], Malformed) to u v
    stops_malformed u v b = stops_broken ([], Malformed) u v (malformed_line a.number) (begins_malformed budget a.rounds a.number a.judge) (first_none a.judge [] a.steps to later more) b

  -- a part of the answer to an ask was written, after the ask was closed
  pub stops_cut : (ls : List Literal) (o : Outcome) (report : AskReport) (left : Reading) (u v : Writer) → refusal_of a.judge (Ask ls) ≡ None → OutcomeIsRight (state_after_accepted (Ask ls) a.judge) ls o → report.answer ≡ answer_kind o
      → SpendsWithinBudget budget a.rounds report → RoundsAreBounded (state_after_accepted (Ask ls) a.judge).identity_count budget a.rounds report → MakesAskSteps a.judge ls o report.steps a.steps to → WriterFails u v (outcome_text o)
      → StopsServing budget a (prepend_commands (Ask ls ∷ []) left) to u v
  stops_cut ls o report left u v e right same spends bounded made b =
      stops_broken (prepend_commands (Ask ls ∷ []) left) u v (outcome_text o) (begins_ask budget a.rounds a.number a.judge ls o report left e right same spends bounded) (first_ask a.judge ls o report.steps left.0 a.steps to e made) b

-- a prefix was written after the answers to commands that were served
pub stops_later : (budget : ℕ) (a b : RunPlace) (cs : List Command) (script : Reading) (to : List Step) (text : List ℕ) (rs : List AskReport) (k : ℕ) (u v w : Writer)
    → Serves budget a b cs text rs k → WriterAccepts u v text → StopsServing budget b script to v w → StopsServing budget a (prepend_commands cs script) to u w
stops_later budget a b cs script to text rs k u v w f t g = record {
  took = record {
    bytes = text ++ g.took.bytes;
    took = bytes_later u v w text g.took.bytes t g.took.took;
    front = begins_later budget a b cs script text g.took.bytes rs k f g.took.front;
  };
  serves = first_later budget a b cs script.0 to text rs g.took.front.reports g.took.front.answered k f g.serves;
}

-- only the answers to commands that were served were written
pub stops_served : (budget : ℕ) (a b : RunPlace) (cs : List Command) (script : Reading) (text : List ℕ) (rs : List AskReport) (k : ℕ) (u v : Writer)
    → Serves budget a b cs text rs k → WriterAccepts u v text → StopsServing budget a (prepend_commands cs script) b.steps u v
stops_served budget a b cs script text rs k u v f t = stops_later budget a b cs script b.steps text rs k u v v f t (stops_none budget b b.steps [] refl script v)

-- the answers to the complete script were written, and nothing more
pub stops_whole : (budget : ℕ) (a : RunPlace) (script : Reading) (to : List Step) (text : List ℕ) (rs : List AskReport) (k : ℕ) (u v w : Writer)
    → ServesTo budget a script to text rs k → WriterAccepts u v text → ReceivedBytes v w [] → StopsServing budget a script to u w
stops_whole budget a script to text rs k u v w f t b = record {
  took = record { bytes = text ++ []; took = bytes_later u v w text [] t b; front = begins_whole budget a script to text rs k f };
  serves = record { first = script.0; left = []; whole = sym (append-nil script.0); mid = to; later = []; steps = refl; serves = f.follows };
}

-- the number of the next command can be another one, if the answers do not depend on it
pub stops_as : (budget : ℕ) (a : RunPlace) (number : ℕ) (script : Reading) (to : List Step) (u v : Writer)
    → ((others : List Outcome) → answers_from number a.judge script.0 script.1 others ≡ answers_from a.number a.judge script.0 script.1 others) → StopsServing budget a script to u v
    → StopsServing budget (record a { number = number }) script to u v
stops_as budget a number script to u v same h =
    let f = h.took.front in
    record {
      took = record {
        bytes = h.took.bytes;
        took = h.took.took;
        front = record {
          answered = f.answered;
          later = f.later;
          right = f.right;
          begins = λ others e. let k = f.begins others e in (k.0, same (f.answered ++ others) ∙ k.1);
          reports = f.reports;
          kinds = f.kinds;
          spent = f.spent;
        };
      };
      serves = h.serves;
    }

keeps_appends : (a b : Option (List ℕ)) → Keeps a b → Appends a b []
keeps_appends None b k = tt
keeps_appends (Some x) None k = absurd k
keeps_appends (Some x) (Some y) k = k ∙ sym (append-nil x)

-- a flush that fails adds no bytes
pub bytes_flushed : {E : Type 0} (e : E) (u v : Writer) → FlushesOnce {E = E} (Err e) u v → ReceivedBytes u v []
bytes_flushed e u v f = record { taken = f.taken ∙ sym (append-nil u.taken); known_bytes = keeps_appends u.contents v.contents f.known_bytes }
