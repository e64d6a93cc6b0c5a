-- What the asks of a run derived is in the certificate.
use Rattle.std.proofs.Common.{ℕ, ◌+◌, ◌*◌, ◌≡◌, ◌∙◌, Bool, true, false, List, [], ◌∷◌, ◌++◌, map, refl, sym, ap, subst, append_assoc, append-nil, arith}
use Rattle.std.proofs.lemmas.Bool.{true≢false}
use Rattle.std.proofs.lemmas.List.{append_cancel_right}
use Rattle.std.specs.List.{AllByRecursion}
use Rattle.std.specs.Prelude.{nat_eq, if◌then◌else◌}
use Rattle.sat_base.specs.script.Script.{Literal, Command, Clause, Ask, Hide, Witness, Sample, names_of}
use Rattle.sat_base.specs.script.ScriptState.{ScriptState, NameMode, Sampled, Witnessed, state_after_accepted, introduce, new_names, with_mode, without_name}
use Rattle.sat_base.specs.steps.Steps.{Step, SolverVarName, UserVarName, DeleteVar, ChangeSamplingMode, AddClause, AtClause, UnitClauses, DeleteClause, ChangeHashBits, Model, Assumptions, FailedAssumptions, End}
use Rattle.sat_checker.specs.matching.Checking.{CheckerRules, is_ordered}
use Rattle.sat_checker.specs.matching.Expected as expecting
use Rattle.sat_checker.specs.matching.Expected.{Outcome, Sat, Unsat, Unknown, Expected, NewName, NoName, Adds, Opens, Shows, Fails, Closes, Finish, FitsExpected, steps_introducing, steps_hiding, steps_setting_mode}
use Rattle.sat_checker.specs.matching.ProofChecking.{checker_rules}
use Rattle.sat_checker.specs.matching.Traces.{HasTrace, no_step, silent, visible}
use Rattle.sat_solver.specs.declared.proof.hash_bits.Counting.{Counting}
use Rattle.sat_solver.specs.proof.Counting.{TruncatesHashes, none_made, ask_begun, one_made, counting_after}
use Rattle.sat_solver.specs.proof.Widths.{narrowed}
use Rattle.sat_solver.specs.variables.NamingSteps.{IsLiteralsStep}
use Rattle.sat_solver.specs.schedule.Solving as made
use Rattle.sat_solver.specs.session.AllowedSteps.{EachIsAllowed}
use Rattle.certify.specs.run.Empowering.{CountsEmpoweringFor, AreUnordered}
use Rattle.certify.specs.run.Learning.{assumption_count, AskLearns, EachAskLearns}
use Rattle.certify.specs.run.Stretches.{IsNoAsk, MakesExpectedSteps, MakesAskSteps, LearnsEachRound, ServesCommands, ServesFirst, due_for_command, made_none, made_one, made_ask, showing_if}
use Rattle.certify.proofs.lemmas.run.Between.{IsAside, index_aside, width_aside, AreAside, Head, Split, Timed, append_unordered, asides_never, asides_still, asides_unordered, asides_unsat, after_asides, cut_unsat, head_cut, split, timed}

-- STEPS AFTER STEPS
abbrev Ext : List Step → List Step → Type 0
Ext from to = (steps : List Step) × (to ≡ steps ++ from)

onward : {a b c : List Step} → Ext a b → Ext b c → Ext a c
onward {a} {b} {c} x y = (y.0 ++ x.0, y.1 ∙ ap (λ (s : List Step). y.0 ++ s) x.1 ∙ sym (append_assoc y.0 x.0 a))

ext_of : {IsAllowedStep : List Step → Step → Type 0} {from to : List Step} {es : List Expected} → MakesExpectedSteps IsAllowedStep from to es → Ext from to
ext_of s = (s.comes.steps, s.comes.following)

extends : {j : ScriptState} {s t : List Step} {cs : List Command} {os : List Outcome} {ns : List ℕ} → ServesCommands j s t cs os ns → Ext s t
extends made_none = ([], refl)
extends (made_one mid i st rest) = onward (ext_of st) (extends rest)
extends (made_ask mid a rest) = onward (onward (onward (ext_of a.opens) (ext_of a.searches)) (ext_of a.closes)) (extends rest)

-- THE LAST EXPECTED STEP

none_more : {A : Type 0} (es : List Expected) (e : Expected) → ◌≡◌ {A = List Expected} [] (es ++ e ∷ []) → A
none_more [] e h = absurd (cc)
none_more (x ∷ xs) e h = absurd (cc)

first_is : (a b : Expected) (xs ys : List Expected) → ◌≡◌ {A = List Expected} (a ∷ xs) (b ∷ ys) → a ≡ b
first_is a b xs ys h = cc

rest_is : (a b : Expected) (xs ys : List Expected) → ◌≡◌ {A = List Expected} (a ∷ xs) (b ∷ ys) → xs ≡ ys
rest_is a b xs ys h = cc

not_none : (y : Expected) (ys : List Expected) → ◌≡◌ {A = List Expected} (y ∷ ys) [] → ⊥
not_none y ys h = cc

quiet_between : {k : CheckerRules} {s t : List Step} {es : List Expected} → HasTrace k s t es → es ≡ [] → (steps : List Step) × (t ≡ steps ++ s) × AreUnordered steps
quiet_between no_step e = ([], refl, tt)
quiet_between (silent {s = s} {step = step} n m) e =
    let h = quiet_between m e in
    (h.0 ++ (step ∷ []), h.1 ∙ sym (append_assoc h.0 (step ∷ []) s), append_unordered h.0 (step ∷ []) h.2 (n, tt))
quiet_between (visible {e = x} {es = xs} f m) e = absurd (cc)

-- the place of the last expected step, after the other expected steps
record LastDue (k : CheckerRules) (s t : List Step) (fs : List Expected) (e : Expected) : Type 0 where
  front : List Step
  step : Step
  following : List Step
  whole : t ≡ following ++ (step ∷ (front ++ s))
  fits : FitsExpected (k.knows (front ++ s)) (front ++ s) e step
  unordered : AreUnordered following
  alone : fs ≡ [] → AreUnordered front

last_due : {k : CheckerRules} {s t : List Step} {es : List Expected} → HasTrace k s t es → (fs : List Expected) (e : Expected) → es ≡ fs ++ (e ∷ []) → LastDue k s t fs e
last_due no_step fs e h = none_more fs e h
last_due {k} (silent {s = s} {step = step} n m) fs e h =
    let d = last_due m fs e h in
    let place = sym (append_assoc d.front (step ∷ []) s) in
    record {
      front = d.front ++ (step ∷ []);
      step = d.step;
      following = d.following;
      whole = d.whole ∙ ap (λ (v : List Step). d.following ++ (d.step ∷ v)) place;
      fits = subst (λ (v : List Step). FitsExpected (k.knows v) v e d.step) place d.fits;
      unordered = d.unordered;
      alone = λ z. append_unordered d.front (step ∷ []) (d.alone z) (n, tt);
    }
last_due {k} (visible {s = s} {step = step} {e = x} {es = xs} f m) [] e h =
    let q = quiet_between m (rest_is x e xs [] h) in
    record {
      front = [];
      step = step;
      following = q.0;
      whole = q.1;
      fits = subst (λ (y : Expected). FitsExpected (k.knows s) s y step) (first_is x e xs [] h) f;
      unordered = q.2;
      alone = λ z. tt;
    }
last_due {k} (visible {s = s} {step = step} {e = x} {es = xs} f m) (y ∷ fs) e h =
    let d = last_due m fs e (rest_is x y xs (fs ++ (e ∷ [])) h) in
    let place = sym (append_assoc d.front (step ∷ []) s) in
    record {
      front = d.front ++ (step ∷ []);
      step = d.step;
      following = d.following;
      whole = d.whole ∙ ap (λ (v : List Step). d.following ++ (d.step ∷ v)) place;
      fits = subst (λ (v : List Step). FitsExpected (k.knows v) v e d.step) place d.fits;
      unordered = d.unordered;
      alone = λ z. absurd (not_none y fs z);
    }

opening : {knows : ℕ → Bool} {earlier : List Step} {ls : List Literal} {o : Outcome} {step : Step} → FitsExpected knows earlier (Opens ls o) step → (c : List ℕ) × (step ≡ Assumptions c)
opening (expecting.opens {c = c} h) = (c, refl)

closing : {knows : ℕ → Bool} {earlier : List Step} {step : Step} → FitsExpected knows earlier Closes step → step ≡ Assumptions []
closing expecting.closes = refl

-- OTHER STEPS AT BOTH ENDS OF AN ASK

-- `ComesThere IsAllowedStep steps` holds if each of these steps is allowed at some place.
abbrev ComesThere : (List Step → Step → Type 0) → List Step → Type 0
ComesThere IsAllowedStep = AllByRecursion (λ step. (earlier : List Step) × IsAllowedStep earlier step)

first_come : (IsAllowedStep : List Step → Step → Type 0) (earlier xs ys : List Step) → EachIsAllowed IsAllowedStep earlier (xs ++ ys) → ComesThere IsAllowedStep xs
first_come IsAllowedStep earlier [] ys h = tt
first_come IsAllowedStep earlier (x ∷ xs) ys h = (((xs ++ ys) ++ earlier, h.1), first_come IsAllowedStep earlier xs ys h.0)

later_come : (IsAllowedStep : List Step → Step → Type 0) (earlier xs ys : List Step) → EachIsAllowed IsAllowedStep earlier (xs ++ ys) → EachIsAllowed IsAllowedStep earlier ys
later_come IsAllowedStep earlier [] ys h = h
later_come IsAllowedStep earlier (x ∷ xs) ys h = later_come IsAllowedStep earlier xs ys h.0

aside_one : (names : List ℕ) (earlier : List Step) (step : Step) → IsLiteralsStep names earlier step → is_ordered step ≡ false → IsAside step
aside_one names earlier (SolverVarName v index) m n = index_aside
aside_one names earlier (ChangeHashBits bits) m n = width_aside
aside_one names earlier (DeleteVar v) m n = absurd (true≢false (sym m))
aside_one names earlier (ChangeSamplingMode v sample) m n = absurd (true≢false (sym m))
aside_one names earlier (AtClause r c hs) m n = absurd (true≢false (sym m))
aside_one names earlier (UnitClauses us) m n = absurd (true≢false (sym m))
aside_one names earlier (DeleteClause c proof) m n = absurd (true≢false (sym m))
aside_one names earlier step m n = absurd (true≢false n)

aside_each : (names : List ℕ) (xs : List Step) → ComesThere (IsLiteralsStep names) xs → AreUnordered xs → AreAside xs
aside_each names [] h u = tt
aside_each names (x ∷ xs) h u = (aside_one names h.0.0 x h.0.1 u.0, aside_each names xs h.1 u.1)

-- the steps before and after the last expected step
module _ (names : List ℕ) (from to : List Step) (es : List Expected) (st : MakesExpectedSteps (IsLiteralsStep names) from to es) (fs : List Expected) (e : Expected) (d : LastDue checker_rules from to fs e) where
  steps_are : st.comes.steps ≡ d.following ++ (d.step ∷ d.front)
  steps_are = append_cancel_right st.comes.steps (d.following ++ (d.step ∷ d.front)) from (sym st.comes.following ∙ d.whole ∙ sym (append_assoc d.following (d.step ∷ d.front) from))

  each : EachIsAllowed (IsLiteralsStep names) from (d.following ++ (d.step ∷ d.front))
  each = subst (EachIsAllowed (IsLiteralsStep names) from) steps_are st.comes.each

  after_aside : AreAside d.following
  after_aside = aside_each names d.following (first_come (IsLiteralsStep names) from d.following (d.step ∷ d.front) each) d.unordered

  front_each : EachIsAllowed (IsLiteralsStep names) from (d.front ++ [])
  front_each = subst (EachIsAllowed (IsLiteralsStep names) from) (sym (append-nil d.front)) (later_come (IsLiteralsStep names) from d.following (d.step ∷ d.front) each).0

  front_aside : fs ≡ [] → AreAside d.front
  front_aside z = aside_each names d.front (first_come (IsLiteralsStep names) from d.front [] front_each) (d.alone z)

shows_none : (b : Bool) (j : ScriptState) (ls : List Literal) → showing_if b j ls Unknown ≡ []
shows_none true j ls = refl
shows_none false j ls = refl

-- HOW OFTEN ASSUMPTIONS ARE SET

-- how often these expected steps set assumptions
abbrev due_times : List Expected → ℕ
due_times [] = 0
due_times (Opens ls o ∷ es) = due_times es + 1
due_times (Closes ∷ es) = due_times es + 1
due_times (e ∷ es) = due_times es

unordered_times : (step : Step) (earlier : List Step) → is_ordered step ≡ false → assumption_count (step ∷ earlier) ≡ assumption_count earlier
unordered_times (Assumptions ls) s e = absurd (let d : true ≡ false = e in cc)
unordered_times step s e = refl

fits_times : {knows : ℕ → Bool} {earlier : List Step} {e : Expected} {step : Step} (es : List Expected) → FitsExpected knows earlier e step → assumption_count (step ∷ earlier) + due_times es ≡ assumption_count earlier + due_times (e ∷ es)
fits_times es (expecting.new_name i k) = refl
fits_times es (expecting.no_name v) = refl
fits_times es (expecting.adds c) = refl
fits_times es (expecting.opens c) = omega arith
fits_times es (expecting.shows n c a) = refl
fits_times es (expecting.fails c) = refl
fits_times es expecting.closes = omega arith
fits_times es expecting.finish = refl

makes_times : {k : CheckerRules} {s t : List Step} {es : List Expected} → HasTrace k s t es → assumption_count t ≡ assumption_count s + due_times es
makes_times no_step = omega arith
makes_times (silent {s = s} {step = step} {es = es} n m) = makes_times m ∙ ap (λ (k : ℕ). k + due_times es) (unordered_times step s n)
makes_times (visible {es = es} f m) = makes_times m ∙ fits_times es f

both_times : (xs ys : List Expected) → due_times (xs ++ ys) ≡ due_times xs + due_times ys
both_times [] ys = omega arith
both_times (NewName name ∷ xs) ys = both_times xs ys
both_times (NoName name ∷ xs) ys = both_times xs ys
both_times (Adds ls ∷ xs) ys = both_times xs ys
both_times (Opens ls o ∷ xs) ys = let h = both_times xs ys in omega (arith, h)
both_times (Shows names ask line ∷ xs) ys = both_times xs ys
both_times (Fails ask core ∷ xs) ys = both_times xs ys
both_times (Closes ∷ xs) ys = let h = both_times xs ys in omega (arith, h)
both_times (Finish ∷ xs) ys = both_times xs ys

-- expected steps that set no assumptions do not count
after_none : (xs ys : List Expected) → due_times xs ≡ 0 → due_times (xs ++ ys) ≡ due_times ys
after_none xs ys e = let h = both_times xs ys in omega (arith, h, e)

new_times : (names : List ℕ) → due_times (map NewName names) ≡ 0
new_times [] = refl
new_times (name ∷ names) = new_times names

bringing_times : (names : List ℕ) (j : ScriptState) → due_times (steps_introducing names j) ≡ 0
bringing_times [] j = refl
bringing_times (name ∷ names) j = after_none (map NewName (new_names name j)) (steps_introducing names (introduce name j)) (new_times (new_names name j)) ∙ bringing_times names (introduce name j)

hiding_times : (names : List ℕ) (j : ScriptState) → due_times (steps_hiding names j) ≡ 0
hiding_times [] j = refl
hiding_times (name ∷ names) j =
    after_none (map NewName (new_names name j)) (NoName name ∷ steps_hiding names (without_name name (introduce name j))) (new_times (new_names name j)) ∙ hiding_times names (without_name name (introduce name j))

setting_times : (mode : NameMode) (names : List ℕ) (j : ScriptState) → due_times (steps_setting_mode mode names j) ≡ 0
setting_times mode [] j = refl
setting_times mode (name ∷ names) j =
    after_none (map NewName (new_names name j)) (steps_setting_mode mode names (with_mode mode name (introduce name j))) (new_times (new_names name j)) ∙ setting_times mode names (with_mode mode name (introduce name j))

-- a command that is no ask sets no assumptions
due_none : (unsat : Bool) (c : Command) (j : ScriptState) → IsNoAsk c → due_times (due_for_command unsat c j) ≡ 0
due_none true (Clause ls) j h = after_none (steps_introducing (names_of ls) j) [] (bringing_times (names_of ls) j)
due_none false (Clause ls) j h = after_none (steps_introducing (names_of ls) j) (Adds ls ∷ []) (bringing_times (names_of ls) j)
due_none unsat (Ask ls) j h = absurd h
due_none unsat (Hide names) j h = hiding_times names j
due_none unsat (Witness names) j h = setting_times Witnessed names j
due_none unsat (Sample names) j h = setting_times Sampled names j

shown_none : (unsat : Bool) (j : ScriptState) (ls : List Literal) (o : Outcome) → due_times (showing_if unsat j ls o) ≡ 0
shown_none true j ls o = refl
shown_none false j ls (Sat line) = refl
shown_none false j ls (Unsat core) = refl
shown_none false j ls Unknown = refl

-- changes of the width set no assumptions
change_times : (same : Bool) (now : ℕ) (w : List Step) → assumption_count ((if same then [] else ChangeHashBits now ∷ []) ++ w) ≡ assumption_count w
change_times true now w = refl
change_times false now w = refl

narrowed_times : (bits : ℕ) (step : Step) (made written : List Step) → assumption_count written ≡ assumption_count made → assumption_count (narrowed bits step ∷ written) ≡ assumption_count (step ∷ made)
narrowed_times bits (Assumptions ls) m w e = ap (λ (k : ℕ). k + 1) e
narrowed_times bits step m w e = e

-- the written steps set assumptions as often as the steps that were made
cut_times : {c d : Counting} {m w : List Step} → TruncatesHashes c m w d → assumption_count w ≡ assumption_count m
cut_times none_made = refl
cut_times (ask_begun p) = cut_times p
cut_times (one_made {d = d} {made = m} {written = w} step k p) =
    let now = (counting_after step d).bits in
    narrowed_times now step m ((if nat_eq d.bits now then [] else ChangeHashBits now ∷ []) ++ w) (change_times (nat_eq d.bits now) now w ∙ cut_times p)

-- the assumptions of two lists of steps add up
both_assumed : (xs ys : List Step) → assumption_count (xs ++ ys) ≡ assumption_count xs + assumption_count ys
both_assumed [] ys = omega arith
both_assumed (SolverVarName v name ∷ xs) ys = both_assumed xs ys
both_assumed (UserVarName v name ∷ xs) ys = both_assumed xs ys
both_assumed (DeleteVar v ∷ xs) ys = both_assumed xs ys
both_assumed (ChangeSamplingMode v sample ∷ xs) ys = both_assumed xs ys
both_assumed (AddClause c ∷ xs) ys = both_assumed xs ys
both_assumed (AtClause r c hs ∷ xs) ys = both_assumed xs ys
both_assumed (UnitClauses us ∷ xs) ys = both_assumed xs ys
both_assumed (DeleteClause c proof ∷ xs) ys = both_assumed xs ys
both_assumed (ChangeHashBits bits ∷ xs) ys = both_assumed xs ys
both_assumed (Model ls ∷ xs) ys = both_assumed xs ys
both_assumed (Assumptions ls ∷ xs) ys = let h = both_assumed xs ys in omega (arith, h)
both_assumed (FailedAssumptions core hs ∷ xs) ys = both_assumed xs ys
both_assumed (End ∷ xs) ys = both_assumed xs ys

aside_times : {step : Step} (earlier : List Step) → IsAside step → assumption_count (step ∷ earlier) ≡ assumption_count earlier
aside_times earlier index_aside = refl
aside_times earlier width_aside = refl

asides_times : (xs earlier : List Step) → AreAside xs → assumption_count (xs ++ earlier) ≡ assumption_count earlier
asides_times [] earlier h = refl
asides_times (x ∷ xs) earlier h = aside_times (xs ++ earlier) h.0 ∙ asides_times xs earlier h.1

-- WHAT AN ASK LEARNED

-- the steps of an ask, as they were made
record MadeAsk (from to : List Step) (o : Outcome) (rounds : ℕ) : Type 0 where
  before : List Step
  ask : List ℕ
  middle : List Step
  following : List Step
  whole : to ≡ following ++ (Assumptions [] ∷ (middle ++ (Assumptions ask ∷ before)))
  opened_at : assumption_count before ≡ assumption_count from
  closed_at : assumption_count to ≡ assumption_count (middle ++ (Assumptions ask ∷ before)) + 1
  learned : ℕ
  times : made.CountsEmpowering (Assumptions ask ∷ before) middle learned
  counts : LearnsEachRound (checker_rules.unsat (Assumptions ask ∷ before)) o rounds learned
  unordered : o ≡ Unknown → AreUnordered middle

module _ (j : ScriptState) (ls : List Literal) (o : Outcome) (n : ℕ) (from to : List Step) (a : MakesAskSteps j ls o n from to) where
  first : LastDue checker_rules from a.opened (steps_introducing (names_of ls) j) (Opens ls o)
  first = last_due a.opens.due (steps_introducing (names_of ls) j) (Opens ls o) refl

  last : LastDue checker_rules a.shown to [] Closes
  last = last_due a.closes.due [] Closes refl

  abbrev asked : List ℕ
  asked = (opening first.fits).0

  abbrev start : List Step
  start = Assumptions asked ∷ (first.front ++ from)

  opened_is : a.opened ≡ first.following ++ start
  opened_is = first.whole ∙ ap (λ (s : Step). first.following ++ (s ∷ (first.front ++ from))) (opening first.fits).1

  first_aside : AreAside first.following
  first_aside = after_aside (names_of ls) from a.opened (steps_introducing (names_of ls) j ++ (Opens ls o ∷ [])) a.opens (steps_introducing (names_of ls) j) (Opens ls o) first

  last_following : AreAside last.following
  last_following = after_aside [] a.shown to (Closes ∷ []) a.closes [] Closes last

  last_front : AreAside last.front
  last_front = front_aside [] a.shown to (Closes ∷ []) a.closes [] Closes last refl

  abbrev found : List Step
  found = a.learns.times.steps

  shown_is : last.front ++ a.shown ≡ (last.front ++ (found ++ first.following)) ++ start
  shown_is =
      ap (λ (v : List Step). last.front ++ v) (a.learns.times.following ∙ ap (λ (v : List Step). found ++ v) opened_is ∙ sym (append_assoc found first.following start))
      ∙ sym (append_assoc last.front (found ++ first.following) start)

  to_is : to ≡ last.following ++ (Assumptions [] ∷ ((last.front ++ (found ++ first.following)) ++ start))
  to_is = last.whole ∙ ap (λ (s : Step). last.following ++ (s ∷ (last.front ++ a.shown))) (closing last.fits) ∙ ap (λ (v : List Step). last.following ++ (Assumptions [] ∷ v)) shown_is

  opened_times : assumption_count (first.front ++ from) ≡ assumption_count from
  opened_times =
      let h : assumption_count a.opened ≡ assumption_count from + 1 = makes_times a.opens.due ∙ ap (λ (k : ℕ). assumption_count from + k) (after_none (steps_introducing (names_of ls) j) (Opens ls o ∷ []) (bringing_times (names_of ls) j)) in
      let e = ap assumption_count opened_is in
      let f : assumption_count (first.following ++ start) ≡ assumption_count (first.front ++ from) + 1 = asides_times first.following start first_aside in
      omega (arith, h, e, f)

  closed_times : assumption_count to ≡ assumption_count ((last.front ++ (found ++ first.following)) ++ start) + 1
  closed_times = ap assumption_count to_is ∙ asides_times last.following (Assumptions [] ∷ ((last.front ++ (found ++ first.following)) ++ start)) last_following

  found_unordered : o ≡ Unknown → AreUnordered found
  found_unordered e =
      let none : showing_if (checker_rules.unsat a.shown) (state_after_accepted (Ask ls) j) ls o ≡ [] =
      ap (showing_if (checker_rules.unsat a.shown) (state_after_accepted (Ask ls) j) ls) e ∙ shows_none (checker_rules.unsat a.shown) (state_after_accepted (Ask ls) j) ls in
      let q = quiet_between a.searches.due none in
      subst AreUnordered (append_cancel_right q.0 found a.opened (sym q.1 ∙ a.learns.times.following)) q.2

  made_ask_is : MadeAsk from to o n
  made_ask_is = record {
    before = first.front ++ from;
    ask = asked;
    middle = last.front ++ (found ++ first.following);
    following = last.following;
    whole = to_is;
    opened_at = opened_times;
    closed_at = closed_times;
    learned = a.learns.learned;
    times = asides_still start last.front (found ++ first.following) a.learns.learned last_front
        (after_asides start first.following found a.learns.learned first_aside (subst (λ (v : List Step). made.CountsEmpowering v found a.learns.learned) opened_is a.learns.times.times));
    counts = subst (λ (b : Bool). LearnsEachRound b o n a.learns.learned) (ap (λ (v : List Step). checker_rules.unsat v) opened_is ∙ asides_unsat first.following start first_aside) a.learns.counts;
    unordered = λ e. append_unordered last.front (found ++ first.following) (asides_unordered last.front last_front)
        (append_unordered found first.following (found_unordered e) (asides_unordered first.following first_aside));
  }

  ask_closed : assumption_count to ≡ assumption_count from + 2
  ask_closed =
      let opened : assumption_count a.opened ≡ assumption_count from + 1 = makes_times a.opens.due ∙ ap (λ (k : ℕ). assumption_count from + k) (after_none (steps_introducing (names_of ls) j) (Opens ls o ∷ []) (bringing_times (names_of ls) j)) in
      let shown = makes_times a.searches.due in
      let none = shown_none (checker_rules.unsat a.shown) (state_after_accepted (Ask ls) j) ls o in
      let closed : assumption_count to ≡ assumption_count a.shown + 1 = makes_times a.closes.due in
      omega (arith, opened, shown, none, closed)

-- the steps of an ask, as they were written
module _ {c d : Counting} {whole steps : List Step} (p : TruncatesHashes c whole steps d) (asks n : ℕ) (o : Outcome) (from to : List Step) (m : MadeAsk from to o n)
    (ext : Ext to whole) (at : assumption_count from ≡ 2 * asks) (shut : assumption_count to ≡ assumption_count from + 2) where
  abbrev opened : List Step
  opened = Assumptions m.ask ∷ m.before

  abbrev later : List Step
  later = ext.0 ++ m.following

  made_is : whole ≡ later ++ (Assumptions [] ∷ (m.middle ++ opened))
  made_is = ext.1 ∙ ap (λ (v : List Step). ext.0 ++ v) m.whole ∙ sym (append_assoc ext.0 m.following (Assumptions [] ∷ (m.middle ++ opened)))

  cut : Split c (Assumptions [] ∷ (m.middle ++ opened)) steps
  cut = split p later (Assumptions [] ∷ (m.middle ++ opened)) made_is

  closed_head : Head c (Assumptions []) (m.middle ++ opened) cut.back
  closed_head = head_cut cut.cuts (Assumptions []) (m.middle ++ opened) refl

  between : Timed c opened closed_head.back m.middle m.learned
  between = timed closed_head.cuts m.middle opened m.learned refl m.times

  opened_head : Head c (Assumptions m.ask) m.before between.before
  opened_head = head_cut between.cuts (Assumptions m.ask) m.before refl

  abbrev before_is : List Step
  before_is = opened_head.widths ++ opened_head.back

  abbrev middle_is : List Step
  middle_is = closed_head.widths ++ between.middle

  whole_is : steps ≡ cut.front ++ (Assumptions [] ∷ (middle_is ++ (Assumptions m.ask ∷ before_is)))
  whole_is =
      let inner : closed_head.widths ++ closed_head.back ≡ middle_is ++ (Assumptions m.ask ∷ before_is) =
      ap (λ (v : List Step). closed_head.widths ++ v) (between.whole ∙ ap (λ (v : List Step). between.middle ++ v) opened_head.whole) ∙ sym (append_assoc closed_head.widths between.middle (Assumptions m.ask ∷ before_is)) in
      cut.whole ∙ ap (λ (v : List Step). cut.front ++ v) (closed_head.whole ∙ ap (λ (v : List Step). Assumptions [] ∷ v) inner)

  opened_same : assumption_count between.before ≡ assumption_count from + 1
  opened_same = let e : assumption_count between.before ≡ assumption_count m.before + 1 = cut_times between.cuts in let f = m.opened_at in omega (arith, e, f)

  place_is : assumption_count before_is ≡ 2 * asks
  place_is = let e : assumption_count between.before ≡ assumption_count before_is + 1 = ap assumption_count opened_head.whole in let f = opened_same in omega (arith, e, f, at)

  only_is : assumption_count middle_is ≡ 0
  only_is =
      let all = cut_times closed_head.cuts in
      let parts = ap assumption_count between.whole ∙ both_assumed between.middle between.before in
      let head_times = asides_times closed_head.widths between.middle closed_head.aside in
      let f = opened_same in let closed = m.closed_at in
      omega (arith, all, parts, head_times, f, closed, shut)

  learns_in : AskLearns steps asks o n
  learns_in = record {
    before = before_is;
    ask = m.ask;
    middle = middle_is;
    following = cut.front;
    whole = whole_is;
    place = place_is;
    only = only_is;
    learned = m.learned;
    times = asides_never (Assumptions m.ask ∷ before_is) closed_head.widths between.middle m.learned closed_head.aside
        (subst (λ (v : List Step). CountsEmpoweringFor v between.middle m.learned) opened_head.whole between.times);
    counts = subst (λ (b : Bool). LearnsEachRound b o n m.learned) (sym (ap (λ (v : List Step). checker_rules.unsat v) (sym opened_head.whole) ∙ cut_unsat between.cuts)) m.counts;
    unordered = λ e. append_unordered closed_head.widths between.middle (asides_unordered closed_head.widths closed_head.aside) (between.unordered (m.unordered e));
  }

each_learns : (c d : Counting) {j : ScriptState} {s t : List Step} {cs : List Command} {os : List Outcome} {ns : List ℕ} (asks : ℕ) (whole steps : List Step)
    → ServesCommands j s t cs os ns → assumption_count s ≡ 2 * asks → Ext t whole → TruncatesHashes c whole steps d → EachAskLearns steps asks os ns
each_learns c d asks whole steps made_none before ext p = tt
each_learns c d {j = j} {s = s} asks whole steps (made_one {c = command} mid i st rest) before ext p =
    let here = makes_times st.due in
    let none = due_none (checker_rules.unsat s) command j i in
    each_learns c d asks whole steps rest (omega (arith, here, none, before)) ext p
each_learns c d {j = j} {s = s} asks whole steps (made_ask {ls = ls} {o = o} {n = n} mid a rest) before ext p =
    let closed = ask_closed j ls o n s mid a in (
      learns_in p asks n o s mid (made_ask_is j ls o n s mid a) (onward (extends rest) ext) before closed,
      each_learns c d (asks + 1) whole steps rest (omega (arith, closed, before)) ext p,
    )

-- `EachAskLearns` holds for the asks of a run
pub asks_learn : {j : ScriptState} {made steps : List Step} {commands : List Command} {outcomes : List Outcome} {counts : List ℕ} (c d : Counting)
    → ServesCommands j [] made commands outcomes counts → TruncatesHashes c (End ∷ made) steps d → EachAskLearns steps 0 outcomes counts
asks_learn {made = made} {steps = steps} c d m p = each_learns c d 0 (End ∷ made) steps m refl (End ∷ [], refl) p

-- `EachAskLearns` holds for the asks that were served, whatever steps were made after them
pub first_learn : {j : ScriptState} {made steps : List Step} {commands : List Command} {outcomes : List Outcome} {counts : List ℕ} (c d : Counting)
    → ServesFirst j commands [] made outcomes counts → TruncatesHashes c made steps d → EachAskLearns steps 0 outcomes counts
first_learn {made = made} {steps = steps} c d f p = each_learns c d 0 made steps f.serves refl (f.later, f.steps) p
