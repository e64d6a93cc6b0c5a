-- What the steps that a solver made certify is certified by the steps as they were written.
use Rattle.std.proofs.Common.{ℕ, ◌≡◌, ◌∙◌, Bool, true, false, eqb, Option, Some, None, List, [], ◌∷◌, ◌++◌, length, length-append, refl, sym, ap, subst, arith, append_assoc}
use Rattle.std.proofs.lemmas.Bool.{eqb-true}
use mathlib.Core.Path.{fun_ext}
use Rattle.sat_base.specs.steps.Steps.{Step, SolverVarName, UserVarName, ChangeHashBits}
use Rattle.sat_checker.specs.matching.Checking.{is_ordered, variable_named}
use Rattle.sat_checker.specs.matching.Expected.{Outcome, Expected, Opens, Closes, FitsExpected, new_name, no_name, adds, opens, shows, fails, closes, finish, EachHasItsLiteral, IsSameLiteralSet}
use Rattle.sat_checker.specs.matching.ProofChecking.{checker_rules}
use Rattle.sat_solver.specs.proof.Counting.{nothing_counted, counting_after, width_change, written_for, TruncatesHashes, none_made, ask_begun, one_made}
use Rattle.sat_solver.specs.session.Session.{AreAllowedSteps}
use Rattle.sat_solver.specs.proof.Widths.{IsNarrowedTo, none_yet, width_changes, one_more, KeepsWidth, IsAllowedAtWidth, narrowed}
use Rattle.sat_solver.proofs.lemmas.session.Narrowing.{widths_are_free}
use Rattle.sat_solver.proofs.lemmas.session.StepLemmas.{sessions_are_accepted}
use Rattle.certify.specs.run.Certifies.{Certifies, complete, left_out, other, ordered, asked, answered, HasRecordedUnsat, CanHaveStep}
use Rattle.certify.proofs.lemmas.run.Recorded.{recorded_at}

-- STEP BY STEP

-- `Narrows made written width all_made all_written` holds if the steps `made` so far, and what was written for them at
-- this width, continue to all steps and all that was written.
data Narrows : List Step → List Step → ℕ → List Step → List Step → Type 0 where
  all_narrowed : {made written : List Step} {width : ℕ} → Narrows made written width made written
  same_width : {e w made written : List Step} {width : ℕ} (step : Step) → KeepsWidth step → Narrows (step ∷ e) (narrowed width step ∷ w) width made written → Narrows e w width made written
  new_width : {e w made written : List Step} {width : ℕ} (bits : ℕ) (step : Step) → KeepsWidth step → Narrows (step ∷ e) (narrowed bits step ∷ ChangeHashBits bits ∷ w) bits made written → Narrows e w width made written

one_narrowed : {e w made written : List Step} (before now : ℕ) (step : Step) → KeepsWidth step → (equal : Bool) → eqb before now ≡ equal → Narrows (step ∷ e) (written_for before now step ++ w) now made written → Narrows e w before made written
one_narrowed {e} {w} {made} {written} before now step k true same n =
    subst (λ b. Narrows e w b made written) (sym (eqb-true before now same)) (same_width step k (subst (λ (t : List Step). Narrows (step ∷ e) (narrowed now step ∷ (t ++ w)) now made written) (none before now same) n))
  where
    none : (before now : ℕ) → eqb before now ≡ true → width_change before now ≡ []
    none before now e = rw e refl
one_narrowed {e} {w} {made} {written} before now step k false same n =
    new_width now step k (subst (λ (t : List Step). Narrows (step ∷ e) (narrowed now step ∷ (t ++ w)) now made written) (some before now same) n)
  where
    some : (before now : ℕ) → eqb before now ≡ false → width_change before now ≡ ChangeHashBits now ∷ []
    some before now e = rw e refl

narrows : {c d : _} {e w made written : List Step} → c ≡ nothing_counted → TruncatesHashes c e w d → Narrows e w d.bits made written → Narrows [] [] 64 made written
narrows {made = made} {written = written} s none_made n = subst (λ x. Narrows [] [] x.bits made written) s n
narrows s (ask_begun p) n = narrows s p n
narrows s (one_made {d = d} step k p) n = narrows s p (one_narrowed d.bits (counting_after step d).bits step k (eqb d.bits (counting_after step d).bits) refl n)

-- THE NEXT STEP

pub certified_front : {all : List Step} {current : Option Outcome} {earlier : List Step} {es : List Expected} {counts : List ℕ} → Certifies checker_rules all current earlier es counts → (later : List Step) × (all ≡ later ++ earlier)
certified_front complete = ([], refl)
certified_front (left_out m r c) = certified_front c
certified_front (other {earlier = earlier} {step = step} q c) = let h = certified_front c in (h.0 ++ step ∷ [], h.1 ∙ sym (append_assoc h.0 (step ∷ []) earlier))
certified_front (ordered {earlier = earlier} {step = step} m f c) = let h = certified_front c in (h.0 ++ step ∷ [], h.1 ∙ sym (append_assoc h.0 (step ∷ []) earlier))
certified_front (asked {earlier = earlier} {step = step} k f c) = let h = certified_front c in (h.0 ++ step ∷ [], h.1 ∙ sym (append_assoc h.0 (step ∷ []) earlier))
certified_front (answered {earlier = earlier} {step = step} k f c) = let h = certified_front c in (h.0 ++ step ∷ [], h.1 ∙ sym (append_assoc h.0 (step ∷ []) earlier))

narrowed_front : {e w made written : List Step} {width : ℕ} → Narrows e w width made written → (later : List Step) × (made ≡ later ++ e)
narrowed_front all_narrowed = ([], refl)
narrowed_front (same_width {e = e} step k n) = let h = narrowed_front n in (h.0 ++ step ∷ [], h.1 ∙ sym (append_assoc h.0 (step ∷ []) e))
narrowed_front (new_width {e = e} bits step k n) = let h = narrowed_front n in (h.0 ++ step ∷ [], h.1 ∙ sym (append_assoc h.0 (step ∷ []) e))

pub too_long : (xs : List Step) (s : Step) (e : List Step) → e ≡ xs ++ s ∷ e → ⊥
too_long xs s e h = let l : length e ≡ length (xs ++ s ∷ e) = ap length h in let m = length-append xs (s ∷ e) in omega arith

head_same : (s t : Step) (e f : List Step) → ◌≡◌ {A = List Step} (s ∷ e) (t ∷ f) → s ≡ t
head_same s t e f h = cc

tail_same : (s t : Step) (e f : List Step) → ◌≡◌ {A = List Step} (s ∷ e) (t ∷ f) → e ≡ f
tail_same s t e f h = cc

pub next_same : (xs ys : List Step) (s t : Step) (e : List Step) → xs ++ s ∷ e ≡ ys ++ t ∷ e → s ≡ t
next_same [] [] s t e h = head_same s t e e h
next_same [] (y ∷ ys) s t e h = absurd (too_long ys t e (tail_same s y e (ys ++ t ∷ e) h))
next_same (x ∷ xs) [] s t e h = absurd (too_long xs s e (sym (tail_same x t (xs ++ s ∷ e) e h)))
next_same (x ∷ xs) (y ∷ ys) s t e h = next_same xs ys s t e (tail_same x y (xs ++ s ∷ e) (ys ++ t ∷ e) h)

-- WHAT A CHECKER SEES

quiet_narrowed : (bits : ℕ) (step : Step) → is_ordered (narrowed bits step) ≡ is_ordered step
quiet_narrowed bits (SolverVarName v s) = refl
quiet_narrowed bits step = refl

-- the variables of names after one more step
variable_narrowed : (bits : ℕ) (step : Step) (w e : List Step) (name : ℕ) → variable_named w name ≡ variable_named e name → variable_named (narrowed bits step ∷ w) name ≡ variable_named (step ∷ e) name
variable_narrowed bits (UserVarName v (Some i)) w e name h = rw h refl
variable_narrowed bits (UserVarName v None) w e name h = rw h refl
variable_narrowed bits step w e name h = h

variable_written : {e w : List Step} {width : ℕ} → IsNarrowedTo e w width → (name : ℕ) → variable_named w name ≡ variable_named e name
variable_written none_yet name = refl
variable_written (width_changes bits p) name = variable_written p name
variable_written (one_more {wide = e} {written = w} {width = width} step k p) name = variable_narrowed width step w e name (variable_written p name)

-- a checker sees the same after the written steps
module _ (e w : List Step) (width : ℕ) (p : IsNarrowedTo e w width) (may : AreAllowedSteps e) where
  at : IsAllowedAtWidth e w width
  at = widths_are_free e w width p may

  pub unsat_same : checker_rules.unsat w ≡ checker_rules.unsat e
  unsat_same = (sessions_are_accepted w at.may).1.unsat ∙ ap (λ s. s.unsat) at.session ∙ sym (sessions_are_accepted e may).1.unsat

  knows_same : checker_rules.knows w ≡ checker_rules.knows e
  knows_same = fun_ext (λ v.
      ap (λ f. (f v).known) (sessions_are_accepted w at.may).1.variables ∙ ap (λ s. (s.variables v).known) at.session ∙ sym (ap (λ f. (f v).known) (sessions_are_accepted e may).1.variables))

  names_same : variable_named w ≡ variable_named e
  names_same = fun_ext (variable_written p)

  -- unsat is recorded after the written steps if it is after the steps that were made
  pub recorded_same : HasRecordedUnsat checker_rules e → HasRecordedUnsat checker_rules w
  recorded_same r = recorded_at w at.may (unsat_same ∙ r.recorded)

  pub stands_same : (x : Expected) → CanHaveStep (checker_rules.unsat e) x → CanHaveStep (checker_rules.unsat w) x
  stands_same x = subst (λ b. CanHaveStep b x) (sym unsat_same)

  known_not : (v : ℕ) → checker_rules.knows e v ≡ false → checker_rules.knows w v ≡ false
  known_not v h = ap (λ f. f v) knows_same ∙ h

  set_same : (ls : _) (c : List ℕ) → IsSameLiteralSet (variable_named e) ls c → IsSameLiteralSet (variable_named w) ls c
  set_same ls c = subst (λ f. IsSameLiteralSet f ls c) (sym names_same)

  -- a step that fits an expected one fits it as written
  pub fits_same : (bits : ℕ) (x : Expected) (step : Step) → FitsExpected (checker_rules.knows e) e x step → FitsExpected (checker_rules.knows w) w x (narrowed bits step)
  fits_same bits x step (new_name {v = v} h k) = new_name h (known_not v k)
  fits_same bits x step (no_name {name = name} h) = no_name (ap (λ f. f name) names_same ∙ h)
  fits_same bits x step (adds {ls = ls} {c = c} h) = adds (set_same ls c h)
  fits_same bits x step (opens {ls = ls} {c = c} h) = opens (set_same ls c h)
  fits_same bits x step (shows {line = line} {c = c} h k m) = shows h (subst (λ f. EachHasItsLiteral f line c) (sym names_same) k) m
  fits_same bits x step (fails {core = core} {c = c} h) = fails (set_same core c h)
  fits_same bits x step closes = closes
  fits_same bits x step finish = finish

-- ALL STEPS

may_front : {e w made written : List Step} {width : ℕ} → Narrows e w width made written → AreAllowedSteps made → AreAllowedSteps e
may_front all_narrowed m = m
may_front (same_width step k n) m = (may_front n m).0
may_front (new_width bits step k n) m = (may_front n m).0

-- what is written for the next step, and how the steps continue
record Turned (e w made written : List Step) (width : ℕ) (step : Step) : Type 0 where
  now : ℕ
  widths : List Step
  skips_widths : (es : List Expected) (x : Expected) (current : Option Outcome) (counts : List ℕ) → Certifies checker_rules written current (widths ++ w) (x ∷ es) counts → Certifies checker_rules written current w (x ∷ es) counts
  before : IsNarrowedTo e (widths ++ w) now
  next : Narrows (step ∷ e) (narrowed now step ∷ (widths ++ w)) now made written
  following : IsNarrowedTo (step ∷ e) (narrowed now step ∷ (widths ++ w)) now

turned_to : {e w made written : List Step} {width : ℕ} (step : Step) (later : List Step) → made ≡ later ++ step ∷ e → IsNarrowedTo e w width → Narrows e w width made written → Turned e w made written width step
turned_to {e} {w} {made} {written} {width} step later h p all_narrowed = absurd (too_long later step e h)
turned_to {e} {w} {made} {written} {width} step later h p (same_width other_step k n) =
    let f = narrowed_front n in
    let same : other_step ≡ step = next_same f.0 later other_step step e (sym f.1 ∙ h) in
    subst (λ s. Turned e w made written width s) same record {
      now = width;
      widths = [];
      skips_widths = λ es x current counts c. c;
      before = p;
      next = n;
      following = one_more other_step k p;
    }
turned_to {e} {w} {made} {written} {width} step later h p (new_width bits other_step k n) =
    let f = narrowed_front n in
    let same : other_step ≡ step = next_same f.0 later other_step step e (sym f.1 ∙ h) in
    subst (λ s. Turned e w made written width s) same record {
      now = bits;
      widths = ChangeHashBits bits ∷ [];
      skips_widths = λ es x current counts c. other refl c;
      before = width_changes bits p;
      next = n;
      following = one_more other_step k (width_changes bits p);
    }

at_end : {e all w written : List Step} {width : ℕ} → e ≡ all → Narrows e w width all written → w ≡ written
at_end same all_narrowed = refl
at_end {e} same (same_width step k n) = let f = narrowed_front n in absurd (too_long f.0 step e (same ∙ f.1))
at_end {e} same (new_width bits step k n) = let f = narrowed_front n in absurd (too_long f.0 step e (same ∙ f.1))

transferred : {made written : List Step} (may : AreAllowedSteps made) {current : Option Outcome} {e w : List Step} {width : ℕ} {es : List Expected} {counts : List ℕ} → IsNarrowedTo e w width → Narrows e w width made written → Certifies checker_rules made current e es counts → Certifies checker_rules written current w es counts
transferred {made} {written} may p n complete = subst (λ w. Certifies checker_rules written None w [] []) (sym (at_end refl n)) complete
transferred may {e = e} {w = w} {width = width} p n (left_out m r c) = left_out m (recorded_same e w width p (may_front n may) r) (transferred may p n c)
transferred may {current = current} {e = e} {w = w} {width = width} {counts = counts} p n (other {step = step} {e = x} {es = es} q c) =
    let f = certified_front c in
    let t = turned_to step f.0 f.1 p n in
    t.skips_widths es x current counts (other (quiet_narrowed t.now step ∙ q) (transferred may t.following t.next c))
transferred may {current = current} {e = e} {w = w} {width = width} {counts = counts} p n (ordered {step = step} {e = x} {es = es} m s c) =
    let f = certified_front c in
    let t = turned_to step f.0 f.1 p n in
    let may_here = may_front n may in
    t.skips_widths es x current counts (ordered (stands_same e (t.widths ++ w) t.now t.before may_here x m) (fits_same e (t.widths ++ w) t.now t.before may_here t.now x step s) (transferred may t.following t.next c))
transferred may {e = e} {w = w} {width = width} p n (asked {step = step} {ask = ask} {o = o} {n = rounds} {es = es} {counts = counts} k s c) =
    let f = certified_front c in
    let t = turned_to step f.0 f.1 p n in
    let may_here = may_front n may in
    t.skips_widths es (Opens ask o) None (rounds ∷ counts) (asked (λ u. k (sym (unsat_same e (t.widths ++ w) t.now t.before may_here) ∙ u)) (fits_same e (t.widths ++ w) t.now t.before may_here t.now (Opens ask o) step s) (transferred may t.following t.next c))
transferred may {e = e} {w = w} {width = width} p n (answered {step = step} {o = o} {es = es} {counts = counts} k s c) =
    let f = certified_front c in
    let t = turned_to step f.0 f.1 p n in
    let may_here = may_front n may in
    t.skips_widths es Closes (Some o) counts (answered (λ u. k (sym (unsat_same e (t.widths ++ w) t.now t.before may_here) ∙ u)) (fits_same e (t.widths ++ w) t.now t.before may_here t.now Closes step s) (transferred may t.following t.next c))

-- the written steps certify what the steps that were made do
pub written_certifies : (made written : List Step) (c : _) (es : List Expected) (counts : List ℕ) → TruncatesHashes nothing_counted made written c → AreAllowedSteps made → Certifies checker_rules made None [] es counts → Certifies checker_rules written None [] es counts
written_certifies made written c es counts p may h = transferred may none_yet (narrows refl p all_narrowed) h
