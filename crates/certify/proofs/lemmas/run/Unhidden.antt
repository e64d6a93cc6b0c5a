-- The steps of a run end with its only `End`. If its commands hide no name, no step deletes a variable.
use Rattle.std.proofs.Common.{ℕ, ◌≡◌, ◌≢◌, Bool, true, false, ◌||◌, cond, eqb, List, [], ◌∷◌, ◌++◌, map, None, Some, refl, sym, ◌∙◌, ap, subst}
use Rattle.std.specs.List.{AllByRecursion}
use Rattle.sat_base.specs.values.Literals.{variable, negated}
use Rattle.sat_base.specs.script.Script.{Literal, Command, Clause, Ask, Hide, Witness, Sample, names_of}
use Rattle.sat_base.specs.script.ScriptState.{ScriptState, NameMode, Sampled, Witnessed, new_names, introduce, without_name, with_mode, state_after_accepted}
use Rattle.sat_base.specs.steps.Steps.{Redundant, Step, SolverVarName, UserVarName, DeleteVar, ChangeSamplingMode, AddClause, AtClause, UnitClauses, DeleteClause, ChangeHashBits, Model, Assumptions, FailedAssumptions, End}
use Rattle.sat_checker.specs.LiteralSets.{is_among, is_tautology, canonical}
use Rattle.sat_checker.specs.Stored.{Variable}
use Rattle.sat_checker.specs.Stored as stored
use Rattle.sat_checker.specs.Laws.{has_delete_var}
use Rattle.sat_checker.specs.matching.Checking.{CheckerRules, is_ordered}
use Rattle.sat_checker.specs.matching.Expected.{Outcome, Sat, Unsat, Unknown, Expected, NewName, NoName, Adds, Opens, Finish, FitsExpected, new_name, no_name, adds, opens, shows, fails, closes, finish, steps_introducing, steps_hiding, steps_setting_mode}
use Rattle.sat_checker.specs.matching.ProofChecking.{checker_rules}
use Rattle.sat_checker.specs.matching.Traces.{HasTrace, no_step, silent, visible}
use Rattle.sat_solver.specs.session.Session.{Session, with_unit_added, session_after, AreAllowedSteps}
use Rattle.sat_solver.proofs.lemmas.session.Changes.{with_facts, with_sorted, with_live_clause, knowing, changed, session_if}
use Rattle.sat_solver.specs.proof.Widths.{narrowed}
use Rattle.sat_solver.specs.proof.Counting.{TruncatesHashes, none_made, ask_begun, one_made, width_change, counting_after}
use Rattle.sat_solver.specs.declared.proof.hash_bits.Counting.{Counting}
use Rattle.certify.specs.run.Hiding.{HidesNothing}
use Rattle.certify.specs.run.Stretches.{due_for_command, showing_if, ServesCommands, made_none, made_one, made_ask}

-- STEPS THAT ARE NO END, AND REMOVE NO NAME UNLESS HIDING IS ALLOWED
abbrev IsPlain : Bool → Step → Type 0
IsPlain hides (UserVarName v None) = hides ≡ true
IsPlain hides End = ⊥
IsPlain hides step = Unit {0}

abbrev ArePlain : Bool → List Step → Type 0
ArePlain hides = AllByRecursion (IsPlain hides)

-- `Spares hides e` holds if the expected step is no end, and removes no name unless hiding is allowed.
abbrev Spares : Bool → Expected → Type 0
Spares hides (NoName name) = hides ≡ true
Spares hides Finish = ⊥
Spares hides e = Unit {0}

abbrev AllSpare : Bool → List Expected → Type 0
AllSpare hides = AllByRecursion (Spares hides)

-- `Allows hides command` holds if the command hides no name, unless hiding is allowed.
abbrev Allows : Bool → Command → Type 0
Allows hides (Hide (name ∷ names)) = hides ≡ true
Allows hides command = Unit {0}

all_allowed : (cs : List Command) → AllByRecursion (Allows true) cs
all_allowed [] = tt
all_allowed (Clause ls ∷ cs) = (tt, all_allowed cs)
all_allowed (Ask ls ∷ cs) = (tt, all_allowed cs)
all_allowed (Hide [] ∷ cs) = (tt, all_allowed cs)
all_allowed (Hide (name ∷ names) ∷ cs) = (refl, all_allowed cs)
all_allowed (Witness names ∷ cs) = (tt, all_allowed cs)
all_allowed (Sample names ∷ cs) = (tt, all_allowed cs)

none_allowed : (cs : List Command) → AllByRecursion HidesNothing cs → AllByRecursion (Allows false) cs
none_allowed [] h = tt
none_allowed (Clause ls ∷ cs) h = (tt, none_allowed cs h.1)
none_allowed (Ask ls ∷ cs) h = (tt, none_allowed cs h.1)
none_allowed (Hide [] ∷ cs) h = (tt, none_allowed cs h.1)
none_allowed (Hide (name ∷ names) ∷ cs) h = absurd h.0
none_allowed (Witness names ∷ cs) h = (tt, none_allowed cs h.1)
none_allowed (Sample names ∷ cs) h = (tt, none_allowed cs h.1)

module _ (hides : Bool) where
  unordered_plain : (step : Step) → is_ordered step ≡ false → IsPlain hides step
  unordered_plain (UserVarName v None) e = absurd (let d : true ≡ false = e in cc)
  unordered_plain End e = absurd (let d : true ≡ false = e in cc)
  unordered_plain step e = tt

  fits_plain : {knows : ℕ → Bool} {earlier : List Step} {e : Expected} {step : Step} → FitsExpected knows earlier e step → Spares hides e → IsPlain hides step
  fits_plain (new_name i k) s = tt
  fits_plain (no_name v) s = s
  fits_plain (adds c) s = tt
  fits_plain (opens c) s = tt
  fits_plain (shows n c a) s = tt
  fits_plain (fails c) s = tt
  fits_plain closes s = tt
  fits_plain finish s = absurd s

  makes_plain : {k : CheckerRules} {s t : List Step} {es : List Expected} → HasTrace k s t es → AllSpare hides es → ArePlain hides s → ArePlain hides t
  makes_plain no_step a p = p
  makes_plain (silent {step = step} o m) a p = makes_plain m a (unordered_plain step o, p)
  makes_plain (visible f m) a p = makes_plain m a.1 (fits_plain f a.0, p)

  both_spare : (xs ys : List Expected) → AllSpare hides xs → AllSpare hides ys → AllSpare hides (xs ++ ys)
  both_spare [] ys a b = b
  both_spare (x ∷ xs) ys a b = (a.0, both_spare xs ys a.1 b)

  new_spare : (names : List ℕ) → AllSpare hides (map NewName names)
  new_spare [] = tt
  new_spare (name ∷ names) = (tt, new_spare names)

  bringing_spares : (names : List ℕ) (j : ScriptState) → AllSpare hides (steps_introducing names j)
  bringing_spares [] j = tt
  bringing_spares (name ∷ names) j = both_spare (map NewName (new_names name j)) (steps_introducing names (introduce name j)) (new_spare (new_names name j)) (bringing_spares names (introduce name j))

  hiding_spares : hides ≡ true → (names : List ℕ) (j : ScriptState) → AllSpare hides (steps_hiding names j)
  hiding_spares h [] j = tt
  hiding_spares h (name ∷ names) j =
      both_spare (map NewName (new_names name j)) (NoName name ∷ steps_hiding names (without_name name (introduce name j))) (new_spare (new_names name j)) (h, hiding_spares h names (without_name name (introduce name j)))

  setting_spares : (mode : NameMode) (names : List ℕ) (j : ScriptState) → AllSpare hides (steps_setting_mode mode names j)
  setting_spares mode [] j = tt
  setting_spares mode (name ∷ names) j = both_spare (map NewName (new_names name j)) (steps_setting_mode mode names (with_mode mode name (introduce name j))) (new_spare (new_names name j)) (setting_spares mode names (with_mode mode name (introduce name j)))

  due_spares : (unsat : Bool) (c : Command) (j : ScriptState) → Allows hides c → AllSpare hides (due_for_command unsat c j)
  due_spares true (Clause ls) j h = both_spare (steps_introducing (names_of ls) j) [] (bringing_spares (names_of ls) j) tt
  due_spares false (Clause ls) j h = both_spare (steps_introducing (names_of ls) j) (Adds ls ∷ []) (bringing_spares (names_of ls) j) (tt, tt)
  due_spares unsat (Ask ls) j h = tt
  due_spares unsat (Hide []) j h = tt
  due_spares unsat (Hide (name ∷ names)) j h = hiding_spares h (name ∷ names) j
  due_spares unsat (Witness names) j h = setting_spares Witnessed names j
  due_spares unsat (Sample names) j h = setting_spares Sampled names j

  showing_spares : (unsat : Bool) (j : ScriptState) (ls : List Literal) (o : Outcome) → AllSpare hides (showing_if unsat j ls o)
  showing_spares true j ls o = tt
  showing_spares false j ls (Sat line) = (tt, tt)
  showing_spares false j ls (Unsat core) = (tt, tt)
  showing_spares false j ls Unknown = tt

  made_plain : {j : ScriptState} {s t : List Step} {cs : List Command} {os : List Outcome} {counts : List ℕ} → ServesCommands j s t cs os counts → AllByRecursion (Allows hides) cs → ArePlain hides s → ArePlain hides t
  made_plain made_none h p = p
  made_plain {j} {s} (made_one {c = c} mid n stretch more) h p = made_plain more h.1 (makes_plain stretch.due (due_spares (checker_rules.unsat s) c j h.0) p)
  made_plain {j} {s} (made_ask {ls = ls} {o = o} mid a more) h p =
      let opened = makes_plain a.opens.due (both_spare (steps_introducing (names_of ls) j) (Opens ls o ∷ []) (bringing_spares (names_of ls) j) (tt, tt)) p in
      let shown = makes_plain a.searches.due (showing_spares (checker_rules.unsat a.shown) (state_after_accepted (Ask ls) j) ls o) opened in
      made_plain more h.1 (makes_plain a.closes.due (tt, tt) shown)

-- NO VARIABLE IS HIDDEN
abbrev NoneHidden : Session → Type 0
NoneHidden s = (v : ℕ) → (s.variables v).mode ≢ stored.Hide

fact_variables : (l : ℕ) (s : Session) → (with_unit_added l s).variables ≡ s.variables
fact_variables l s = go (s.units l) (s.units (negated l))
  where
    go : (a b : Bool) → (session_if a s (session_if b (record s { unsat = true }) (record s { units = λ m. eqb l m || s.units m }))).variables ≡ s.variables
    go true b = refl
    go false true = refl
    go false false = refl

facts_variables : (ls : List ℕ) (s : Session) → (with_facts ls s).variables ≡ s.variables
facts_variables [] s = refl
facts_variables (l ∷ ls) s = facts_variables ls (with_unit_added l s) ∙ fact_variables l s

sorted_variables : (r : Bool) (ls : List ℕ) (s : Session) → (with_sorted r ls s).variables ≡ s.variables
sorted_variables r [] s = refl
sorted_variables r (l ∷ []) s = fact_variables l s
sorted_variables r (l ∷ m ∷ ls) s = refl

clause_variables : (r : Bool) (c : List ℕ) (s : Session) → (with_live_clause r c s).variables ≡ s.variables
clause_variables r c s = go (is_tautology c)
  where
    go : (b : Bool) → (session_if b s (with_sorted r (canonical c) s)).variables ≡ s.variables
    go true = refl
    go false = sorted_variables r (canonical c) s

knowing_none : (vs : List ℕ) (s : Session) → NoneHidden s → NoneHidden (knowing vs s)
knowing_none vs s h v = go (is_among vs v)
  where
    go : (b : Bool) → (cond b (record (s.variables v) { known = true }) (s.variables v)).mode ≢ stored.Hide
    go true = h v
    go false = h v

same_none : (s t : Session) → t.variables ≡ s.variables → NoneHidden s → NoneHidden t
same_none s t e h v = subst (λ f. (f v).mode ≢ stored.Hide) (sym e) (h v)

put_none : (v : ℕ) (x : Variable) (s : Session) → x.mode ≢ stored.Hide → NoneHidden s → (w : ℕ) → (cond (eqb w v) x (s.variables w)).mode ≢ stored.Hide
put_none v x s n h w = go (eqb w v)
  where
    go : (b : Bool) → (cond b x (s.variables w)).mode ≢ stored.Hide
    go true = n
    go false = h w

changed_none : (step : Step) (s : Session) → IsPlain false step → NoneHidden s → NoneHidden (changed step s)
changed_none (SolverVarName v (Some name)) s p h = knowing_none (v ∷ []) s h
changed_none (UserVarName v (Some name)) s p h = put_none v (record (s.variables v) { known = true; name = Some name }) s (h v) h
changed_none (UserVarName v None) s p h = absurd (let d : false ≡ true = p in cc)
changed_none (DeleteVar v) s p h = put_none v stored.initial_variable s (λ e. cc) h
changed_none (ChangeSamplingMode v true) s p h = put_none v (record (s.variables v) { mode = stored.Sample }) s (λ e. cc) h
changed_none (ChangeSamplingMode v false) s p h = put_none v (record (s.variables v) { mode = stored.Witness }) s (λ e. cc) h
changed_none (AddClause c) s p h = go s.unsat
  where
    k : Session
    k = knowing (map variable c) s

    go : (b : Bool) → NoneHidden (session_if b s (with_live_clause false c (knowing (map variable c) s)))
    go true = h
    go false = same_none (knowing (map variable c) s) (with_live_clause false c (knowing (map variable c) s)) (clause_variables false c (knowing (map variable c) s)) (knowing_none (map variable c) s h)
changed_none (AtClause r c hs) s p h = same_none (knowing (map variable c) s) (with_live_clause r c (knowing (map variable c) s)) (clause_variables r c (knowing (map variable c) s)) (knowing_none (map variable c) s h)
changed_none (UnitClauses us) s p h =
    let ls : List ℕ = map (λ u. u.0) us in
    same_none (knowing (map variable ls) s) (with_facts ls (knowing (map variable ls) s)) (facts_variables ls (knowing (map variable ls) s)) (knowing_none (map variable ls) s h)
changed_none (DeleteClause c Redundant) s p h = h
changed_none (Model ls) s p h = knowing_none (map variable ls) s h
changed_none (Assumptions ls) s p h = knowing_none (map variable ls) s h
changed_none step s p h = h

none_hidden : (steps : List Step) → ArePlain false steps → NoneHidden (session_after steps)
none_hidden [] p = λ v e. cc
none_hidden (step ∷ steps) p = changed_none step (session_after steps) p.0 (none_hidden steps p.1)

-- NO VARIABLE IS DELETED
none_deleted : (steps : List Step) → AreAllowedSteps steps → ArePlain false steps → has_delete_var steps ≡ false
none_deleted [] m p = refl
none_deleted (SolverVarName v name ∷ steps) m p = none_deleted steps m.0 p.1
none_deleted (UserVarName v name ∷ steps) m p = none_deleted steps m.0 p.1
none_deleted (DeleteVar v ∷ steps) m p = absurd (none_hidden steps p.1 v m.1.hidden)
none_deleted (ChangeSamplingMode v sample ∷ steps) m p = none_deleted steps m.0 p.1
none_deleted (AddClause c ∷ steps) m p = none_deleted steps m.0 p.1
none_deleted (AtClause r c hs ∷ steps) m p = none_deleted steps m.0 p.1
none_deleted (UnitClauses us ∷ steps) m p = none_deleted steps m.0 p.1
none_deleted (DeleteClause c proof ∷ steps) m p = none_deleted steps m.0 p.1
none_deleted (ChangeHashBits bits ∷ steps) m p = none_deleted steps m.0 p.1
none_deleted (Model ls ∷ steps) m p = none_deleted steps m.0 p.1
none_deleted (Assumptions ls ∷ steps) m p = none_deleted steps m.0 p.1
none_deleted (FailedAssumptions core hs ∷ steps) m p = none_deleted steps m.0 p.1
none_deleted (End ∷ steps) m p = none_deleted steps m.0 p.1

-- WHAT IS WRITTEN FOR STEPS
change_delete : (before now : ℕ) (steps : List Step) → has_delete_var (width_change before now ++ steps) ≡ has_delete_var steps
change_delete before now steps = go (eqb before now)
  where
    go : (b : Bool) → has_delete_var (cond b [] (ChangeHashBits now ∷ []) ++ steps) ≡ has_delete_var steps
    go true = refl
    go false = refl

narrowed_delete : (bits : ℕ) (step : Step) (made written : List Step) → has_delete_var written ≡ has_delete_var made → has_delete_var (narrowed bits step ∷ written) ≡ has_delete_var (step ∷ made)
narrowed_delete bits (DeleteVar v) made written e = refl
narrowed_delete bits step made written e = e

cuts_delete : {c d : Counting} {made written : List Step} → TruncatesHashes c made written d → has_delete_var written ≡ has_delete_var made
cuts_delete none_made = refl
cuts_delete (ask_begun k) = cuts_delete k
cuts_delete (one_made {d = d} {made = made} {written = written} step keeps k) =
    narrowed_delete (counting_after step d).bits step made (width_change d.bits (counting_after step d).bits ++ written) (change_delete d.bits (counting_after step d).bits written ∙ cuts_delete k)

-- `GoOn steps` holds if none of the steps is an `End`.
abbrev GoOn : List Step → Type 0
GoOn = AllByRecursion (λ step. step ≢ End)

plain_goes_on : (steps : List Step) → ArePlain true steps → GoOn steps
plain_goes_on [] p = tt
plain_goes_on (step ∷ steps) p = ((λ e. subst (IsPlain true) e p.0), plain_goes_on steps p.1)

reported_goes_on : (before now : ℕ) (steps : List Step) → GoOn steps → GoOn (width_change before now ++ steps)
reported_goes_on before now steps h = go (eqb before now)
  where
    go : (b : Bool) → GoOn (cond b [] (ChangeHashBits now ∷ []) ++ steps)
    go true = h
    go false = ((λ e. cc), h)

narrowed_goes_on : (bits : ℕ) (step : Step) → step ≢ End → narrowed bits step ≢ End
narrowed_goes_on bits End n e = n refl
narrowed_goes_on bits step n e = cc

cuts_go_on : {c d : Counting} {made written : List Step} → TruncatesHashes c made written d → GoOn made → GoOn written
cuts_go_on none_made h = tt
cuts_go_on (ask_begun k) h = cuts_go_on k h
cuts_go_on (one_made {d = d} {written = written} step keeps k) h =
    (narrowed_goes_on (counting_after step d).bits step h.0, reported_goes_on d.bits (counting_after step d).bits written (cuts_go_on k h.1))

-- `EndsWith steps` holds if the last step is an `End`, and no other step is.
pub record EndsWith (steps : List Step) : Type 0 where
  pub before : List Step
  pub last : steps ≡ End ∷ before
  pub goes_on : AllByRecursion (λ step. step ≢ End) before

cuts_end : {c d : Counting} {all written : List Step} → TruncatesHashes c all written d → (made : List Step) → all ≡ End ∷ made → GoOn made → EndsWith written
cuts_end none_made made e h = absurd cc
cuts_end (ask_begun k) made e h = cuts_end k made e h
cuts_end (one_made {d = d} {made = earlier} {written = written} step keeps k) made e h =
    let is : step ≡ End = cc in
    let rest : earlier ≡ made = cc in
    record {
      before = width_change d.bits (counting_after step d).bits ++ written;
      last = ap (λ x. narrowed (counting_after step d).bits x ∷ (width_change d.bits (counting_after step d).bits ++ written)) is;
      goes_on = reported_goes_on d.bits (counting_after step d).bits written (cuts_go_on k (subst GoOn (sym rest) h));
    }

module _ {j : ScriptState} {all written : List Step} {cs : List Command} {os : List Outcome} {counts : List ℕ} {c d : Counting} (follows : ServesCommands j [] all cs os counts) (cuts : TruncatesHashes c (End ∷ all) written d) where
  pub none_deletes : AllByRecursion HidesNothing cs → AreAllowedSteps all → has_delete_var written ≡ false
  none_deletes hides may = cuts_delete cuts ∙ none_deleted all may (made_plain false follows (none_allowed cs hides) tt)

  pub run_ends : EndsWith written
  run_ends = cuts_end cuts all refl (plain_goes_on all (made_plain true follows (all_allowed cs) tt))
