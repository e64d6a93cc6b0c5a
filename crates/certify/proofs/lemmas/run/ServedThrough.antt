-- Serving a script whose commands are read as they are needed.
use Rattle.std.proofs.Common.{ℕ, ◌+◌, ◌≡◌, ◌∙◌, true, false, Option, Some, None, List, [], ◌∷◌, ◌++◌, map, length, length-append, Result, Ok, Err, OnOk, IfOk, refl, sym, ap, subst, arith, append_assoc, append-nil}
use Rattle.std.proofs.lemmas.List.{map-append}
use Rattle.sat_base.specs.declared.device.whole.ReadError.{ReadError}
use Rattle.sat_base.specs.declared.device.whole.ReadError.TheVariants as errors
use Rattle.sat_base.specs.device.Device.{Writer, WriterAccepts}
use Rattle.sat_base.specs.device.Reading.{Source, AtEnd}
use Rattle.sat_base.specs.script.Script.{Command, Ask, ScriptEnding, Clean, Malformed}
use Rattle.sat_base.specs.script.Language.{Reading, prepend_commands}
use Rattle.sat_base.specs.script.ScriptState.{ScriptState, state_after_accepted, accepted_commands, after_command}
use Rattle.sat_base.specs.steps.Steps.{Step}
use Rattle.sat_base.proofs.lemmas.device.Writes as writes
use Rattle.sat_checker.specs.matching.Expected.{Outcome}
use Rattle.sat_solver.specs.facade.Calls.{HasFullStore, MakesSteps}
use Rattle.sat_solver.specs.facade.Recording.{FailsWhileWriting}
use Rattle.sat_solver.proofs.lemmas.facade.Steps.{breaks_later, makes_more, makes_none}
use Rattle.certify.specs.Devices.{NoWriterCallFailed, OneWriterCallFailed}
use Rattle.certify.specs.answers.Answers.{answers_from, ending_text, malformed_line}
use Rattle.certify.specs.confirm.Streams.{CanBeTotal, rest_in}
use Rattle.certify.specs.declared.fault.RunFault.{RunFault}
use Rattle.certify.specs.declared.fault.RunFault.TheVariants as fault
use Rattle.certify.specs.declared.script.ScriptEnd.{ScriptEnd}
use Rattle.certify.specs.declared.script.ScriptEnd.TheVariants as ends
use Rattle.certify.specs.declared.script.reader.ScriptReader.{ScriptReader}
use Rattle.certify.specs.declared.script.stream.Next.TheVariants as next
use Rattle.certify.specs.declared.run.session.RunState.{RunState}
use Rattle.certify.specs.declared.summary.AskReport.{AskReport}
use Rattle.certify.specs.script.LastPiece.{ConsumesSomeOrEnds, ConsumesSome as TookOf}
use Rattle.certify.specs.script.Commands.{HasWholeCommand, ReaderMeans, ReaderMeansIf, ReachesCommand, end_reading, end_reading_if}
use Rattle.certify.specs.script.Streaming.{ReachesNext, NextCommandResult}
use Rattle.certify.specs.run.FinishedRun.{malformed_at, answer_kind, rounds_of_asks}
use Rattle.certify.specs.run.Stopping.{StopsServing}
use Rattle.certify.specs.run.Unfinished.{ExceedsLimit}
use Rattle.certify.specs.run.SolverCalls.{ByWriteFault, IsCaused, IsReadySolver}
use Rattle.certify.specs.run.Serving.{RunPlace, Serves}
use Rattle.certify.specs.run.BetweenCommands.{CommandCarriedOut, IsCausedByScript, RunInvariant, HasStateBetweenCommands, CommandServed, StopsInCommand, StopsInScript, WritesBoth, place_before_latest, run_place}
use Rattle.certify.specs.run.Stretches.{ServesCommands, made_none}
use Rattle.certify.specs.run.ServedScript.{ServesScript, RunFails, ServesUpTo, ServedAll, ServesTo, ServesWholeScript, run_fault}
use Rattle.certify.proofs.lemmas.confirm.Streams.{all_over, covers_fault, nothing_after, taken_front}
use Rattle.certify.proofs.lemmas.confirm.Joining.{covers_took, failed_then, took_none as took_nothing, took_open, took_passed, took_then}
use Rattle.certify.proofs.lemmas.run.CallFaults.{caused_map}
use Rattle.certify.proofs.lemmas.run.Caused.{after_both, caused_all, exceeds_later}
use Rattle.certify.proofs.lemmas.run.Served.{serves_none, serves_then}
use Rattle.certify.proofs.lemmas.run.Stopping.{stops_as, stops_later, stops_none}
use Rattle.certify.specs.run.RunSolver.{Solver}

-- PLACES

-- the end of a script is served by its last line, if it has one
pub to_end : (budget : ℕ) (a : RunPlace) (ending : ScriptEnding) → ServesTo budget a ([], ending) a.steps (ending_text a.number ending) [] 0
to_end budget a ending = record {
  outcomes = [];
  right = tt;
  says = refl;
  refuses = refl;
  kinds = refl;
  spent = tt;
  follows = made_none;
}

pub to_then : (budget : ℕ) (a b : RunPlace) (cs : List Command) (script : Reading) (to : List Step) (s t : List ℕ) (rs qs : List AskReport) (k l : ℕ)
    → Serves budget a b cs s rs k → ServesTo budget b script to t qs l → ServesTo budget a (prepend_commands cs script) to (s ++ t) (rs ++ qs) (k + l)
to_then budget a b cs script to s t rs qs k l f g = record {
  outcomes = f.outcomes ++ g.outcomes;
  right = f.right script.0 g.outcomes g.right;
  says = f.says script.0 script.1 g.outcomes ∙ ap (λ u. s ++ u) g.says;
  refuses = f.refuses script.0 ∙ ap (λ (n : ℕ). k + n) g.refuses;
  kinds = map-append (λ (r : AskReport). r.answer) rs qs ∙ ap (λ ks. ks ++ map (λ (r : AskReport). r.answer) qs) f.kinds ∙ ap (λ ks. map answer_kind f.outcomes ++ ks) g.kinds ∙ sym (map-append answer_kind f.outcomes g.outcomes);
  spent = f.spent script.0 qs g.spent;
  follows =
      subst (λ ns. ServesCommands a.judge a.steps to (accepted_commands a.judge (cs ++ script.0)) (f.outcomes ++ g.outcomes) ns) (sym (map-append (λ (r : AskReport). r.steps) rs qs))
      (f.follows to script.0 g.outcomes (rounds_of_asks qs) g.follows);
}

-- FAULTS OF PARTS

-- a fault of a part of a run, after parts that succeeded
pub fails_then : (e : RunFault) (a b : Source) (p q r : Solver) (u v w : Writer) → ConsumesSomeOrEnds a b → NoWriterCallFailed u v → MakesSteps p q
    → ByWriteFault e (OneWriterCallFailed v w × MakesSteps q r) (NoWriterCallFailed v w × FailsWhileWriting q r) (NoWriterCallFailed v w × MakesSteps q r) → RunFails e a b p r u w
fails_then fault.ScriptRead a b p q r u v w k n t h = absurd h
fails_then fault.AnswersWrite a b p q r u v w k n t h = (k, one_later u v w n h.0, makes_more p q r t h.1)
  where
    one_later : (u v w : Writer) → NoWriterCallFailed u v → OneWriterCallFailed v w → OneWriterCallFailed u w
    one_later u v w n h = (omega (arith, n.0, h.0), h.1, h.2 ∙ n.1)
fails_then fault.CertificateWrite a b p q r u v w k n t h = (k, (h.0.0 ∙ n.0, h.0.1 ∙ n.1), breaks_later p q r t h.1)
fails_then e a b p q r u v w k n t h = (k, (h.0.0 ∙ n.0, h.0.1 ∙ n.1), makes_more p q r t h.1)

-- a part of a run, after one that succeeded
pub both_then : {B : Type 0} (r : Result B RunFault) (p q s : Solver) (u v w : Writer) → NoWriterCallFailed u v × MakesSteps p q → WritesBoth r v w q s → WritesBoth r u w p s
both_then (Err fault.ScriptRead) p q s u v w f g = absurd g
both_then (Err fault.AnswersWrite) p q s u v w f g = ((let n = f.0.0 in let m = g.0.0 in omega arith, g.0.1, g.0.2 ∙ f.0.1), makes_more p q s f.1 g.1)
both_then (Err fault.CertificateWrite) p q s u v w f g = ((g.0.0 ∙ f.0.0, g.0.1 ∙ f.0.1), breaks_later p q s f.1 g.1)
both_then e p q s u v w f g = ((g.0.0 ∙ f.0.0, g.0.1 ∙ f.0.1), makes_more p q s f.1 g.1)

-- the answer to the ask that a header adds does not depend on its number
unnumbered : (j : ScriptState) (k l : ℕ) (os : List Outcome) → answers_from k j (Ask [] ∷ []) Clean os ≡ answers_from l j (Ask [] ∷ []) Clean os
unnumbered j k l [] = refl
unnumbered j k l (o ∷ os) = refl

-- STATES OF A RUN

module _ {C : Type 0} where
  pub served_none : (j : ScriptState) (s : RunState C) (w : Writer) → HasStateBetweenCommands s j → ServedAll j [] s s w w
  served_none j s w at = record {
    judge = j;
    at = at;
    judges = refl;
    took = makes_none s.solver;
    counted = omega arith;
    budget = refl;
    text = [];
    written = writes.took_none w;
    reports = [];
    asks = sym (append-nil s.asks.items);
    refused = 0;
    refusals = omega arith;
    serves = serves_none s.budget (run_place s j);
  }

  -- one more command was served
  pub served_more : (j : ScriptState) (cs : List Command) (c : Command) (a b d : RunState C) (u v w : Writer) → ServedAll j cs a b u v → CommandServed b d c v w → ServedAll j (cs ++ c ∷ []) a d u w
  served_more j cs c a b d u v w f g =
      let h = g.serves f.judge f.at in
      let l = length-append cs (c ∷ []) in
      let m = f.counted in let n = g.commands in
      let p = f.refusals in let q = g.refusals in
      record {
        judge = after_command c f.judge;
        at = h.0;
        judges = ap (after_command c) f.judges ∙ sym (after_both cs (c ∷ []) j);
        took = makes_more a.solver b.solver d.solver f.took g.took;
        counted = omega arith;
        budget = g.budget ∙ f.budget;
        text = f.text ++ g.text;
        written = writes.took_more u v w f.text g.text f.written g.written;
        reports = f.reports ++ g.reports;
        asks = g.asks ∙ ap (λ rs. rs ++ g.reports) f.asks ∙ append_assoc a.asks.items f.reports g.reports;
        refused = f.refused + g.refused;
        refusals = omega arith;
        serves = serves_then a.budget (run_place a j) (run_place b f.judge) (run_place d (after_command c f.judge)) cs (c ∷ []) f.text g.text f.reports g.reports f.refused g.refused f.serves
            (subst (λ n. Serves n (run_place b f.judge) (run_place d (after_command c f.judge)) (c ∷ []) g.text g.reports g.refused) f.budget h.1);
      }

  -- commands were served, and then the rest of the script
  pub served_whole : (j : ScriptState) (cs : List Command) (script : Reading) (k : ℕ) (at : Option ℕ) (a b d : RunState C) (u v w : Writer) → (f : ServedAll j cs a b u v) → ServesWholeScript f.judge script k at b d v w → ServesWholeScript j (prepend_commands cs script) (length cs + k) at a d u w
  served_whole j cs script k at a b d u v w f g =
      let m = f.counted in let n = g.counted in
      let p = f.refusals in let q = g.refusals in
      let l = length-append cs script.0 in
      let e : b.commands + length script.0 + 1 ≡ a.commands + length (cs ++ script.0) + 1 = omega arith in
      record {
        took = makes_more a.solver b.solver d.solver f.took g.took;
        counted = omega arith;
        ends = g.ends ∙ ap (λ (i : ℕ). malformed_at i script.1) e;
        text = f.text ++ g.text;
        written = writes.took_more u v w f.text g.text f.written g.written;
        reports = f.reports ++ g.reports;
        asks = g.asks ∙ ap (λ rs. rs ++ g.reports) f.asks ∙ append_assoc a.asks.items f.reports g.reports;
        refused = f.refused + g.refused;
        refusals = omega arith;
        serves = to_then a.budget (run_place a j) (run_place b f.judge) cs script d.solver.steps f.text g.text f.reports g.reports f.refused g.refused f.serves
            (subst (λ n. ServesTo n (run_place b f.judge) script d.solver.steps g.text g.reports g.refused) f.budget g.serves);
      }

  -- the last command was served
  pub served_last : (j : ScriptState) (c : Command) (script : Reading) (at : Option ℕ) (a b d : RunState C) (u v w : Writer) → HasStateBetweenCommands a j → CommandServed a b c u v → ((i : ScriptState) → HasStateBetweenCommands b i → ServesWholeScript i script 0 at b d v w) → ServesWholeScript j (prepend_commands (c ∷ []) script) 1 at a d u w
  served_last j c script at a b d u v w is f g =
      let h : ServedAll j (c ∷ []) a b u v = served_more j [] c a a b u u v (served_none j a u is) f in
      served_whole j (c ∷ []) script 0 at a b d u v w h (g h.judge h.at)

  pub served_last_if : (j : ScriptState) (c : Command) (script : Reading) (r : Result (Option ℕ) RunFault) (a b d : RunState C) (u v w : Writer) → HasStateBetweenCommands a j → CommandServed a b c u v → ((i : ScriptState) → HasStateBetweenCommands b i → IfOk r (λ at. ServesWholeScript i script 0 at b d v w)) → IfOk r (λ at. ServesWholeScript j (prepend_commands (c ∷ []) script) 1 at a d u w)
  served_last_if j c script (Ok at) a b d u v w is f g = served_last j c script at a b d u v w is f g
  served_last_if j c script (Err e) a b d u v w is f g = tt

  -- THE END

  -- nothing is written at a clean end
  pub ends_clean : (j : ScriptState) (s : RunState C) (w : Writer) → ServesWholeScript j ([], Clean) 0 None s s w w
  ends_clean j s w = record {
    took = makes_none s.solver;
    counted = omega arith;
    ends = refl;
    text = [];
    written = writes.took_none w;
    reports = [];
    asks = sym (append-nil s.asks.items);
    refused = 0;
    refusals = omega arith;
    serves = to_end s.budget (run_place s j) Clean;
  }

  -- the last line is written at a malformed end
  pub ends_malformed : (j : ScriptState) (a b : RunState C) (u v : Writer) (number : ℕ) → number ≡ a.commands + 1 → b.solver ≡ a.solver → b.commands ≡ a.commands → b.refused ≡ a.refused → b.asks ≡ a.asks → WriterAccepts u v (malformed_line number) → ServesWholeScript j ([], Malformed) 0 (Some number) a b u v
  ends_malformed j a b u v number e solver commands refused asks written = record {
    took = subst (λ x. MakesSteps a.solver x) (sym solver) (makes_none a.solver);
    counted = omega (arith, commands);
    ends = ap Some (let x : number ≡ a.commands + 0 + 1 = omega (arith, e) in x);
    text = malformed_line (a.commands + 1);
    written = subst (λ n. WriterAccepts u v (malformed_line n)) e written;
    reports = [];
    asks = ap (λ (rs : _). rs.items) asks ∙ sym (append-nil a.asks.items);
    refused = 0;
    refusals = omega (arith, refused);
    serves = subst (λ x. ServesTo a.budget (run_place a j) ([], Malformed) x.steps (malformed_line (a.commands + 1)) [] 0) (sym solver) (to_end a.budget (run_place a j) Malformed);
  }

  -- a fault within the ask of a header leaves a prefix of correct answers
  pub asked_stops : {T : Type 0} (r : Result T RunFault) (a b : RunState C) (u v : Writer) → StopsInCommand r a b (Ask []) ([], Clean) u v → StopsInScript r a b (Ask [] ∷ [], Clean) u v
  asked_stops (Ok x) a b u v h = tt
  asked_stops (Err e) a b u v h = λ j at.
      stops_as a.budget (place_before_latest a j) (a.commands + 1) (Ask [] ∷ [], Clean) b.solver.steps u v (unnumbered j (a.commands + 1) a.commands) (h j at.live at.means refl)

  -- the ask of a header ends the script
  pub ends_asked : (j : ScriptState) (a b : RunState C) (u v : Writer) → HasStateBetweenCommands a j → CommandCarriedOut a b (Ask []) u v → ServesWholeScript j (Ask [] ∷ [], Clean) 0 None a b u v
  ends_asked j a b u v at h =
      let k = h.serves j at.live at.means refl in
      let place = run_place b (state_after_accepted (Ask []) j) in
      let s : ServesTo a.budget (place_before_latest a j) (Ask [] ∷ [], Clean) b.solver.steps (h.text ++ []) (h.reports ++ []) 0 = to_then a.budget (place_before_latest a j) place (Ask [] ∷ []) ([], Clean) b.solver.steps h.text [] h.reports [] 0 0 k.2 (to_end a.budget place Clean) in
      let c = h.commands in let r = h.refused in
      let t : ServesTo a.budget (place_before_latest a j) (Ask [] ∷ [], Clean) b.solver.steps h.text h.reports 0 =
      subst (λ rs. ServesTo a.budget (place_before_latest a j) (Ask [] ∷ [], Clean) b.solver.steps h.text rs 0) (append-nil h.reports)
      (subst (λ t. ServesTo a.budget (place_before_latest a j) (Ask [] ∷ [], Clean) b.solver.steps t (h.reports ++ []) 0) (append-nil h.text) s) in
      record {
        took = h.took;
        counted = omega arith;
        ends = refl;
        text = h.text;
        written = h.written;
        reports = h.reports;
        asks = h.asks;
        refused = 0;
        refusals = omega arith;
        serves = record {
          outcomes = t.outcomes;
          right = t.right;
          says = unnumbered j (a.commands + 1) a.commands t.outcomes ∙ t.says;
          refuses = t.refuses;
          kinds = t.kinds;
          spent = t.spent;
          follows = t.follows;
        };
      }

  -- FAULTS

  -- a fault after one command was served
  pub stops_following : {T : Type 0} (r : Result T RunFault) (c : Command) (script : Reading) (a b d : RunState C) (u v w : Writer) → CommandServed a b c u v → StopsInScript r b d script v w → StopsInScript r a d (prepend_commands (c ∷ []) script) u w
  stops_following (Ok x) c script a b d u v w f g = tt
  stops_following (Err e) c script a b d u v w f g = λ j at.
      let h = f.serves j at in
      stops_later a.budget (run_place a j) (run_place b (after_command c j)) (c ∷ []) script d.solver.steps f.text f.reports f.refused u v w h.1 f.written
      (subst (λ budget. StopsServing budget (run_place b (after_command c j)) script d.solver.steps v w) f.budget (g (after_command c j) h.0))

-- READING ON

pub through_none : {C : Type 0} (j : ScriptState) (text counted : List ℕ → Reading) (a : Source) (reader : ScriptReader) (s : RunState C) (w : Writer) → ReaderMeans reader text → ReaderMeansIf false reader counted → RunInvariant s → HasStateBetweenCommands s j
    → ServesUpTo j text counted a a reader s s w w
through_none j text counted a reader s w m n g at = record {
  commands = [];
  left = text;
  means = m;
  plain = counted;
  counts = n;
  took = took_nothing a;
  reads = λ total k. refl;
  holds = λ total k. omega arith;
  goes_on = g;
  served = served_none j s w at;
}

module _ {C : Type 0} (j : ScriptState) (text counted : List ℕ → Reading) (a b : Source) (reader after_reader : ScriptReader) (old mid : RunState C) (u v : Writer) (through : ServesUpTo j text counted a b reader old mid u v) (script_open : AtEnd a → ⊥) where
  mid_open : AtEnd b → ⊥
  mid_open = took_open a b script_open through.took

  none_failed : NoWriterCallFailed u v
  none_failed = (through.served.written.failures, through.served.written.loans)

  -- a prefix of correct answers, after those to the commands that were served
  following : (c : Source) (new : RunState C) (script : List ℕ → Reading) (w : Writer) → ((total : List ℕ) → CanBeTotal c total → CanBeTotal b total) → ((total : List ℕ) → CanBeTotal c total → through.left (rest_in total b) ≡ script total)
      → ((total : List ℕ) → CanBeTotal c total → StopsServing mid.budget (run_place mid through.served.judge) (script total) new.solver.steps v w)
      → (total : List ℕ) → CanBeTotal c total → StopsServing old.budget (run_place old j) (text (rest_in total a)) new.solver.steps u w
  following c new script w back is front total k =
      let f = through.served in
      subst (λ s. StopsServing old.budget (run_place old j) s new.solver.steps u w) (sym (through.reads total (back total k) ∙ ap (prepend_commands through.commands) (is total k)))
      (stops_later old.budget (run_place old j) (run_place mid f.judge) through.commands (script total) new.solver.steps f.text f.reports f.refused u v w f.serves f.written
      (subst (λ budget. StopsServing budget (run_place mid f.judge) (script total) new.solver.steps v w) f.budget (front total k)))

  served_so_far : (c : Source) → ((total : List ℕ) → CanBeTotal c total → CanBeTotal b total) → (total : List ℕ) → CanBeTotal c total → StopsServing old.budget (run_place old j) (text (rest_in total a)) mid.solver.steps u v
  served_so_far c back = following c mid (λ total. through.left (rest_in total b)) v back (λ total k. refl) (λ total k. stops_none mid.budget (run_place mid through.served.judge) mid.solver.steps [] refl (through.left (rest_in total b)) v)

  -- why no further command was served, except for device and allocation failures
  caused : (e : RunFault) (c : Source) (new : RunState C) (script : List ℕ → Reading) → ((total : List ℕ) → CanBeTotal c total → CanBeTotal b total) → ((total : List ℕ) → CanBeTotal c total → through.left (rest_in total b) ≡ script total)
      → IsCaused e (HasFullStore new.solver) ((total : List ℕ) (i : ScriptState) → HasStateBetweenCommands mid i → ExceedsLimit mid.commands i (script total) new.solver.steps) → IsCaused e (HasFullStore new.solver) ((total : List ℕ) → CanBeTotal c total → ExceedsLimit old.commands j (text (rest_in total a)) new.solver.steps)
  caused e c new script back is h =
      let f = through.served in
      caused_map e (HasFullStore new.solver) ((total : List ℕ) (i : ScriptState) → HasStateBetweenCommands mid i → ExceedsLimit mid.commands i (script total) new.solver.steps) (HasFullStore new.solver) ((total : List ℕ) → CanBeTotal c total → ExceedsLimit old.commands j (text (rest_in total a)) new.solver.steps) (λ x. x)
      (λ k total y. subst (λ s. ExceedsLimit old.commands j s new.solver.steps) (sym (through.reads total (back total y) ∙ ap (prepend_commands through.commands) (is total y)))
      (exceeds_later old.commands mid.commands through.commands (script total) j new.solver.steps f.counted (subst (λ i. ExceedsLimit mid.commands i (script total) new.solver.steps) f.judges (k total f.judge f.at)))) h

  -- the script cannot be read any further
  pub unread : (e : ReadError) (c : Source) → NextCommandResult (Err e) b c reader after_reader → ServesScript j text counted (Err (run_fault e)) a c old mid u v
  unread errors.Failed c f = ((failed_then a b c through.took f, none_failed, through.served.took), served_so_far c (λ total k. covers_fault b c f.0 total mid_open f.1 k), tt)
  unread errors.OutOfMemory c f = ((took_passed true a c (took_then true a b c through.took f), none_failed, through.served.took), served_so_far c (λ total k. covers_took true b c total mid_open f k), tt)

  -- the end
  module _ (c : Source) (new : RunState C) (w : Writer) (took : TookOf false b c) (left plain : Reading) (is : (total : List ℕ) → CanBeTotal c total → through.left (rest_in total b) ≡ left) (is_plain : (total : List ℕ) → CanBeTotal c total → through.plain (rest_in total b) ≡ plain) where
    whole : (r : Result (Option ℕ) RunFault) → OnOk r (IsReadySolver new.solver) → IfOk r (λ at. ServesWholeScript through.served.judge left (length plain.0) at mid new v w) → WritesBoth r v w mid.solver new.solver → StopsInScript r mid new left v w → IsCausedByScript r mid new left → ServesScript j text counted r a c old new u w
    whole (Ok at) ready serves both front cause = (
      took_then false a b c through.took took,
      ready,
      λ total k.
          let before = covers_took false b c total mid_open took k in
          let script : text (rest_in total a) ≡ prepend_commands through.commands left = through.reads total before ∙ ap (prepend_commands through.commands) (is total k) in
          let count : length (counted (rest_in total a)).0 ≡ length through.commands + length plain.0 = through.holds total before ∙ ap (λ (z : Reading). length through.commands + length z.0) (is_plain total k) in
          subst (λ (z : Reading). ServesWholeScript j z (length (counted (rest_in total a)).0) at old new u w) (sym script)
          (subst (λ (n : ℕ). ServesWholeScript j (prepend_commands through.commands left) n at old new u w) (sym count) (served_whole j through.commands left (length plain.0) at old mid new u v w through.served serves)),
    )
    whole (Err e) ready serves both front cause = (
      fails_then e a c old.solver mid.solver new.solver u v w (took_passed false a c (took_then false a b c through.took took)) none_failed through.served.took both,
      following c new (λ total. left) w (λ total k. covers_took false b c total mid_open took k) is (λ total k. front through.served.judge through.served.at),
      caused e c new (λ total. left) (λ total k. covers_took false b c total mid_open took k) is (caused_map e (HasFullStore new.solver) ((i : ScriptState) → HasStateBetweenCommands mid i → ExceedsLimit mid.commands i left new.solver.steps) (HasFullStore new.solver) (List ℕ → (i : ScriptState) → HasStateBetweenCommands mid i → ExceedsLimit mid.commands i left new.solver.steps) (λ x. x) (λ k total. k) cause),
    )

  no_commands : (e : ScriptEnd) → length (end_reading_if false e).0 ≡ 0
  no_commands ends.Clean = refl
  no_commands ends.Asked = refl
  no_commands ends.Malformed = refl

  pub ends_so : (c : Source) (new : RunState C) (w : Writer) (e : ScriptEnd) (r : Result (Option ℕ) RunFault) → ReachesNext (next.End e) b c reader after_reader → OnOk r (IsReadySolver new.solver)
      → ((i : ScriptState) → HasStateBetweenCommands mid i → IfOk r (λ at. ServesWholeScript i (end_reading e) 0 at mid new v w)) → WritesBoth r v w mid.solver new.solver → StopsInScript r mid new (end_reading e) v w → IsCausedByScript r mid new (end_reading e) → ServesScript j text counted r a c old new u w
  ends_so c new w e r came ready serves both front cause =
      whole c new w came.0 (end_reading e) (end_reading_if false e) (came.1 true through.left through.means) (came.1 false through.plain through.counts) r ready
      (subst (λ (n : ℕ). IfOk r (λ at. ServesWholeScript through.served.judge (end_reading e) n at mid new v w)) (sym (no_commands e)) (serves through.served.judge through.served.at)) both front cause

  pub ends_last : (c : Source) (new : RunState C) (w : Writer) (e : ScriptEnd) (r : Result (Option ℕ) RunFault) → ReachesNext (next.Last e) b c reader after_reader → OnOk r (IsReadySolver new.solver)
      → ((x : Command) → HasWholeCommand after_reader x → (i : ScriptState) → HasStateBetweenCommands mid i → IfOk r (λ at. ServesWholeScript i (prepend_commands (x ∷ []) (end_reading e)) 1 at mid new v w)) → WritesBoth r v w mid.solver new.solver
      → ((x : Command) → HasWholeCommand after_reader x → StopsInScript r mid new (prepend_commands (x ∷ []) (end_reading e)) v w)
      → ((x : Command) → HasWholeCommand after_reader x → IsCausedByScript r mid new (prepend_commands (x ∷ []) (end_reading e))) → ServesScript j text counted r a c old new u w
  ends_last c new w e r came ready serves both front cause =
      let k = came.2 true through.left through.means in
      let n = came.2 false through.plain through.counts in
      let none = no_commands e in
      let one : length (n.0 ∷ (end_reading_if false e).0) ≡ 1 = omega arith in
      whole c new w ((came.0, came.1.0), λ h. all_over c came.1.1) (prepend_commands (k.0 ∷ []) (end_reading e)) (prepend_commands (n.0 ∷ []) (end_reading_if false e))
      (λ total x. ap through.left (nothing_after b c came.0 total came.1 x) ∙ k.2) (λ total x. ap through.plain (nothing_after b c came.0 total came.1 x) ∙ n.2) r ready
      (subst (λ (i : ℕ). IfOk r (λ at. ServesWholeScript through.served.judge (prepend_commands (k.0 ∷ []) (end_reading e)) i at mid new v w)) (sym one) (serves k.0 k.1 through.served.judge through.served.at)) both (front k.0 k.1) (cause k.0 k.1)

  -- a command
  module _ (c : Source) (new : RunState C) (w : Writer) (came : ReachesNext next.Command b c reader after_reader) where
    reaches : ReachesCommand true through.left came.0 after_reader
    reaches = came.3 true through.left through.means

    plainly : ReachesCommand false through.plain came.0 after_reader
    plainly = came.3 false through.plain through.counts

    took : TookOf true b c
    took = (came.0, came.1)

    pub one_more : ((x : Command) → HasWholeCommand after_reader x → CommandServed mid new x v w) → ServesUpTo j text counted a c after_reader old new u w
    one_more serves =
        let cs = through.commands in
        let x = reaches.command in
        let s = serves x reaches.whole in
        record {
          commands = cs ++ x ∷ [];
          left = reaches.after;
          means = reaches.valid;
          plain = plainly.after;
          counts = plainly.valid;
          took = took_then true a b c through.took took;
          reads = λ total k.
              let before = covers_took true b c total mid_open took k in
              through.reads total before ∙ ap (prepend_commands cs) (ap through.left (taken_front 0 b c came.0 total came.1 k) ∙ reaches.reads (rest_in total c))
              ∙ onto-onto cs (x ∷ []) (reaches.after (rest_in total c));
          holds = λ total k.
              let before = covers_took true b c total mid_open took k in
              let h = through.holds total before in
              let e = ap (λ (z : Reading). length z.0) (ap through.plain (taken_front 0 b c came.0 total came.1 k) ∙ plainly.reads (rest_in total c)) in
              let l = length-append cs (x ∷ []) in
              omega arith;
          goes_on = s.goes_on;
          served = served_more j cs x old mid new u v w through.served s;
        }
      where
        onto-onto : (xs ys : List Command) (r : Reading) → prepend_commands xs (prepend_commands ys r) ≡ prepend_commands (xs ++ ys) r
        onto-onto xs ys r = ap (λ (zs : List Command). (zs, r.1)) (sym (append_assoc xs ys r.0))

    pub stops : (e : RunFault) → WritesBoth {T = Unit {0}} (Err e) v w mid.solver new.solver → ((x : Command) → HasWholeCommand after_reader x → (left : Reading) → StopsInScript {T = Unit {0}} (Err e) mid new (prepend_commands (x ∷ []) left) v w)
        → ((x : Command) → HasWholeCommand after_reader x → (left : Reading) → IsCausedByScript {T = Unit {0}} (Err e) mid new (prepend_commands (x ∷ []) left))
        → ServesScript j text counted (Err e) a c old new u w
    stops e both front cause = (
      fails_then e a c old.solver mid.solver new.solver u v w (took_passed true a c (took_then true a b c through.took took)) none_failed through.served.took both,
      following c new (λ total. prepend_commands (reaches.command ∷ []) (reaches.after (rest_in total c))) w (λ total k. covers_took true b c total mid_open took k)
          (λ total k. ap through.left (taken_front 0 b c came.0 total came.1 k) ∙ reaches.reads (rest_in total c))
          (λ total k. front reaches.command reaches.whole (reaches.after (rest_in total c)) through.served.judge through.served.at),
      caused e c new (λ total. prepend_commands (reaches.command ∷ []) (reaches.after (rest_in total c))) (λ total k. covers_took true b c total mid_open took k)
          (λ total k. ap through.left (taken_front 0 b c came.0 total came.1 k) ∙ reaches.reads (rest_in total c))
          (caused_map e (HasFullStore new.solver) ((left : Reading) (i : ScriptState) → HasStateBetweenCommands mid i → ExceedsLimit mid.commands i (prepend_commands (reaches.command ∷ []) left) new.solver.steps) (HasFullStore new.solver)
          ((total : List ℕ) (i : ScriptState) → HasStateBetweenCommands mid i → ExceedsLimit mid.commands i (prepend_commands (reaches.command ∷ []) (reaches.after (rest_in total c))) new.solver.steps) (λ x. x) (λ k total. k (reaches.after (rest_in total c)))
          (caused_all e (HasFullStore new.solver) Reading (λ left. (i : ScriptState) → HasStateBetweenCommands mid i → ExceedsLimit mid.commands i (prepend_commands (reaches.command ∷ []) left) new.solver.steps) ([], Clean) (cause reaches.command reaches.whole))),
    )
