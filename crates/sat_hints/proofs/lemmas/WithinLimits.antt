-- The lines that accepted steps announce are within the limits of the grammar.
use Rattle.std.proofs.Common.{ℕ, ◌*◌, ◌-◌, ◌^◌, ◌<◌, ◌≤◌, ◌≡◌, Bool, true, false, not, ◌&&◌, cond, eqb, List, [], ◌∷◌, ◌++◌, Option, None, Some, refl, sym, ◌∙◌, subst, arith}
use Rattle.std.specs.List.{AllByRecursion}
use Rattle.sat_base.specs.values.Literals.{var_limit}
use Rattle.sat_base.specs.steps.Formats.{Items, Both}
use Rattle.sat_base.specs.steps.Steps.{Redundant, Simplified, Satisfied, Step, UserVarName, DeleteVar, ChangeSamplingMode, AddClause, AtClause, UnitClauses, DeleteClause, Model, Assumptions, FailedAssumptions}
use Rattle.sat_base.specs.steps.StepText as text
use Rattle.sat_base.specs.steps.StepText.{SpellsFields, SpellsStep, SpellsSteps}
use Rattle.sat_checker.specs.LiteralSets.{is_tautology, canonical}
use Rattle.sat_checker.specs.Stored.{StoredClause, Mode, Stored}
use Rattle.sat_checker.specs.Storing.{clause_with, with_unit}
use Rattle.sat_checker.specs.Accepts.{stored_after, ready_after}
use Rattle.sat_checker.specs.announcements.Needed.{satisfying_unit, propagations}
use Rattle.sat_checker.specs.announcements.Announcements as notices
use Rattle.sat_checker.specs.announcements.Announcements.{Announcement, is_sample, has_witness_mode, announced_mode_change, announced_name_change, announced_name, id_of_set, announced_input_set, announced_input, is_only_redundant, announced_derived_set, announced_derived, announced_derived_units, redundant_deletion, irredundant_deletion, option_to_list, last_id, announced, delayed_empty_clause, delayed_announcement, Notice, notices_of, notices_after, all_notices_after}
use Rattle.sat_checker.proofs.lemmas.sets.Members.{canonical_each}
use Rattle.sat_hints.specs.Lines.{Line, Input, Derived, Removed, Core, Fresh, AreLiteralCodes, AreVariables, LinesAreWithinLimits}
use Rattle.sat_hints.specs.Hints.{and_clauses, clause_under, clauses_under, least_id, IsHintDerivation}
use Rattle.sat_hints.specs.Conversion.{announced_line, with_line, announced_lines, lines_of_steps}
use Rattle.sat_hints.specs.Limits.{StepIsWithinLimits}
use Rattle.sat_hints.proofs.lemmas.Mirrored.{lines_by, reported_lines, lines-append, under_below}

-- LITERALS
abbrev FitsLine : Line → Type 0
FitsLine (Input id clause) = AreLiteralCodes clause
FitsLine (Derived id clause ids) = AreLiteralCodes clause
FitsLine (Removed id) = Unit {0}
FitsLine (Core core ids) = AreLiteralCodes core
FitsLine (Fresh v) = AreVariables (v ∷ [])

abbrev FitsIf : Option Line → Type 0
FitsIf None = Unit {0}
FitsIf (Some line) = FitsLine line

abbrev FitReported : List Announcement → Type 0
FitReported = AllByRecursion (λ a. FitsIf (announced_line a))

with_fits : (o : Option Line) (lines : List Line) → FitsIf o → AllByRecursion FitsLine lines → AllByRecursion FitsLine (with_line o lines)
with_fits None lines h k = k
with_fits (Some line) lines h k = (h, k)

by_fits : (xs : List Announcement) (lines : List Line) → FitReported xs → AllByRecursion FitsLine lines → AllByRecursion FitsLine (lines_by xs lines)
by_fits [] lines h k = k
by_fits (a ∷ xs) lines h k = by_fits xs (with_line (announced_line a) lines) h.1 (with_fits (announced_line a) lines h.0 k)

both_fit : (xs ys : List Announcement) → FitReported xs → FitReported ys → FitReported (xs ++ ys)
both_fit [] ys h k = k
both_fit (x ∷ xs) ys h k = (h.0, both_fit xs ys h.1 k)

set_fits : (clause : List ℕ) → AreLiteralCodes clause → AreLiteralCodes (canonical clause)
set_fits clause h = canonical_each (λ l. l < 2 * var_limit) clause h

derived_fit : (r : Bool) (c hs : List ℕ) (f : Stored) → AreLiteralCodes c → FitReported (announced_derived r c hs f)
derived_fit r c hs f h = go (is_tautology c) (id_of_set (canonical c) f)
  where
    more : (b : Bool) (id : ℕ) → FitReported (cond b (notices.MakeIrredundant id (canonical c) ∷ []) [])
    more true id = (tt, tt)
    more false id = tt

    go : (b : Bool) (x : Option ℕ) → FitReported (cond b [] (announced_derived_set r (canonical c) (propagations f c hs) f x))
    go true x = tt
    go false None = (set_fits c h, tt)
    go false (Some id) = more (not r && is_only_redundant (clause_with (canonical c) f.clauses)) id

units_fit : (us : List (ℕ × ℕ)) (f : Stored) → AllByRecursion (λ u. u.0 < 2 * var_limit) us → FitReported (announced_derived_units us f)
units_fit [] f h = tt
units_fit (u ∷ us) f h = both_fit (announced_derived false (u.0 ∷ []) (u.1 ∷ []) f) (announced_derived_units us (with_unit u.0 f)) (derived_fit false (u.0 ∷ []) (u.1 ∷ []) f (h.0, tt)) (units_fit us (with_unit u.0 f) h.1)

input_fit : (c : List ℕ) (f : Stored) → AreLiteralCodes c → FitReported (announced_input c f)
input_fit c f h = go (is_tautology c) (id_of_set (canonical c) f)
  where
    go : (b : Bool) (x : Option ℕ) → FitReported (cond b (notices.TautologicalClause f.next_id (canonical c) ∷ []) (announced_input_set f.next_id (canonical c) x))
    go true x = (tt, tt)
    go false None = (set_fits c h, tt)
    go false (Some id) = (tt, tt)

redundant_fit : (x : Option StoredClause) → FitReported (redundant_deletion x)
redundant_fit None = tt
redundant_fit (Some s) = go (eqb s.irredundant 0 && eqb s.redundant 1)
  where
    go : (b : Bool) → FitReported (cond b (notices.DeleteClause s.id s.literals ∷ []) [])
    go true = (tt, tt)
    go false = tt

irredundant_fit : (ids : List ℕ) (x : Option StoredClause) → FitReported (irredundant_deletion ids x)
irredundant_fit ids None = tt
irredundant_fit ids (Some s) = go (eqb s.irredundant 1) (Rattle.std.specs.Prelude.nat_lt 0 s.redundant)
  where
    go : (b k : Bool) → FitReported (cond b (notices.DeleteAtClause s.id k s.literals ids ∷ []) [])
    go true true = (tt, tt)
    go true false = (tt, tt)
    go false k = tt

mode_fit : (v : ℕ) (sampling : Bool) (mode : Mode) (name : Option ℕ) → FitReported (announced_mode_change v sampling mode name)
mode_fit v sampling mode None = tt
mode_fit v sampling mode (Some name) = go (cond sampling (is_sample mode) (has_witness_mode mode))
  where
    go : (b : Bool) → FitReported (cond b [] (notices.UserVar v (Some (record { name = name; sampling = sampling; is_new = false })) ∷ []))
    go true = tt
    go false = (tt, tt)

step_fits : (step : Step) (f : Stored) → StepIsWithinLimits step → FitReported (announced f step)
step_fits (UserVarName v (Some name)) f h = (tt, tt)
step_fits (UserVarName v None) f h = (tt, tt)
step_fits (DeleteVar v) f h = ((h, tt), tt)
step_fits (ChangeSamplingMode v sampling) f h = mode_fit v sampling (f.variables v).mode (f.variables v).name
step_fits (AddClause c) f h = go f.unsat
  where
    go : (b : Bool) → FitReported (cond b [] (announced_input c f))
    go true = tt
    go false = input_fit c f h
step_fits (AtClause r c hs) f h = derived_fit r c hs f h
step_fits (UnitClauses us) f h = units_fit us f h
step_fits (DeleteClause c Redundant) f h = redundant_fit (clause_with (canonical c) f.clauses)
step_fits (DeleteClause c Satisfied) f h = irredundant_fit (option_to_list (satisfying_unit (canonical c) f.units)) (clause_with (canonical c) f.clauses)
step_fits (DeleteClause c Simplified) f h = irredundant_fit (option_to_list (last_id f.last)) (clause_with (canonical c) f.clauses)
step_fits (Model ls) f h = (tt, tt)
step_fits (Assumptions ls) f h = (tt, tt)
step_fits (FailedAssumptions core hs) f h = (set_fits core h, tt)
step_fits step f h = tt

delayed_fit : (f : Stored) → FitReported (delayed_announcement f)
delayed_fit f = go f.conflict
  where
    go : (x : Option (ℕ × ℕ)) → FitReported (delayed_empty_clause f.next_id x)
    go None = tt
    go (Some units) = (tt, tt)

reported_fit : (steps : List Step) → AllByRecursion StepIsWithinLimits steps → AllByRecursion FitsLine (announced_lines (notices_after steps) [])
reported_fit [] h = tt
reported_fit (step ∷ earlier) h =
    subst (AllByRecursion FitsLine) (sym (lines-append (all_notices_after earlier) (notices_of (ready_after earlier) (announced (ready_after earlier) step)) [] ∙ reported_lines (ready_after earlier) (announced (ready_after earlier) step) (lines_of_steps earlier)))
    (by_fits (announced (ready_after earlier) step) (lines_of_steps earlier) (step_fits step (ready_after earlier) h.0)
    (subst (AllByRecursion FitsLine) (sym (lines-append (notices_after earlier) (notices_of (stored_after earlier) (delayed_announcement (stored_after earlier))) [] ∙ reported_lines (stored_after earlier) (delayed_announcement (stored_after earlier)) (announced_lines (notices_after earlier) [])))
    (by_fits (delayed_announcement (stored_after earlier)) (announced_lines (notices_after earlier) []) (delayed_fit (stored_after earlier)) (reported_fit earlier h.1))))

lines_fit : (steps : List Step) → AllByRecursion StepIsWithinLimits steps → AllByRecursion FitsLine (lines_of_steps steps)
lines_fit steps h =
    subst (AllByRecursion FitsLine) (sym (lines-append (notices_after steps) (notices_of (stored_after steps) (delayed_announcement (stored_after steps))) [] ∙ reported_lines (stored_after steps) (delayed_announcement (stored_after steps)) (announced_lines (notices_after steps) [])))
    (by_fits (delayed_announcement (stored_after steps)) (announced_lines (notices_after steps) []) (delayed_fit (stored_after steps)) (reported_fit steps h))

-- IDS
-- ids that a line names are present, so they are below the next id
named_below : (ids : List ℕ) (lines : List Line) (cs : List (List ℕ)) (n : ℕ) → IsHintDerivation lines → least_id lines ≤ n → clauses_under ids lines ≡ Some cs → AllByRecursion (λ id. id < n) ids
named_below [] lines cs n d l e = tt
named_below (id ∷ ids) lines cs n d l e = go (λ ds. named_below ids lines ds n d l) (clause_under id lines) refl (clauses_under ids lines) refl e
  where
    go : ((ds : List (List ℕ)) → clauses_under ids lines ≡ Some ds → AllByRecursion (λ i. i < n) ids) → (c : Option (List ℕ)) → clause_under id lines ≡ c → (ds : Option (List (List ℕ))) → clauses_under ids lines ≡ ds → and_clauses c ds ≡ Some cs → AllByRecursion (λ i. i < n) (id ∷ ids)
    go ih None h ds k f = absurd cc
    go ih (Some c) h None k f = absurd cc
    go ih (Some c) h (Some ds) k f = ((let b = under_below lines d id c h in omega (arith, b, l)), ih ds k)

lines_within : (lines : List Line) → IsHintDerivation lines → least_id lines ≤ 2 ^ 64 - 1 → AllByRecursion FitsLine lines → LinesAreWithinLimits lines
lines_within [] d l h = tt
lines_within (Input id clause ∷ lines) d l h =
    let o = d.1.in_order in
    (((omega (arith, l), tt), h.0), lines_within lines d.0 (omega (arith, o, l)) h.1)
lines_within (Derived id clause ids ∷ lines) d l h =
    let o = d.1.in_order in
    (((omega (arith, l), tt), h.0, named_below ids lines d.1.clauses (2 ^ 64 - 1) d.0 (omega (arith, o, l)) d.1.present), lines_within lines d.0 (omega (arith, o, l)) h.1)
lines_within (Removed id ∷ lines) d l h = (named_below (id ∷ []) lines d.1.clauses (2 ^ 64 - 1) d.0 l d.1.present, lines_within lines d.0 l h.1)
lines_within (Core core ids ∷ lines) d l h = ((h.0, named_below ids lines d.1.clauses (2 ^ 64 - 1) d.0 l d.1.present), lines_within lines d.0 l h.1)
lines_within (Fresh v ∷ lines) d l h = (h.0, lines_within lines d.0 l h.1)

-- the lines of accepted steps that fit are within their limits
pub all_within : (steps : List Step) → IsHintDerivation (lines_of_steps steps) → least_id (lines_of_steps steps) ≤ (ready_after steps).next_id → (ready_after steps).next_id < 2 ^ 64 → AllByRecursion StepIsWithinLimits steps → LinesAreWithinLimits (lines_of_steps steps)
all_within steps d l n h = lines_within (lines_of_steps steps) d (omega (arith, l, n)) (lines_fit steps h)

-- STEPS THAT WERE READ
items_each : {A : Type 0} (F : A → List ℕ → Type 0) (P : A → Type 0) → ((x : A) (bytes : List ℕ) → F x bytes → P x) → (xs : List A) (bytes : List ℕ) → Items F xs bytes → AllByRecursion P xs
items_each F P w [] bytes h = tt
items_each F P w (x ∷ xs) bytes h = (w x h.0 h.2, items_each F P w xs h.1 h.3)

literals_read : (ls : List ℕ) (bytes : List ℕ) → text.SpellsLiterals ls bytes → AreLiteralCodes ls
literals_read ls bytes h = items_each text.SpellsLiteral (λ l. l < 2 * var_limit) (λ l b k. k.1) ls h.1 h.3

units_read : (us : List (ℕ × ℕ)) (bytes : List ℕ) → text.SpellsHashedLiterals us bytes → AllByRecursion (λ u. u.0 < 2 * var_limit) us
units_read us bytes h = items_each (Both text.SpellsLiteral text.SpellsHash) (λ u. u.0 < 2 * var_limit) (λ u b k. k.2.1) us h.1 h.3

fields_fit : (step : Step) (bytes : List ℕ) → SpellsFields step bytes → StepIsWithinLimits step
fields_fit (DeleteVar v) bytes h = h.1
fields_fit (AddClause c) bytes h = literals_read c bytes h
fields_fit (AtClause r c hs) bytes h = literals_read c h.3.0 h.3.2
fields_fit (UnitClauses us) bytes h = units_read us bytes h
fields_fit (FailedAssumptions core hs) bytes h = literals_read core h.0 h.2
fields_fit step bytes h = tt

-- steps that are read from bytes fit
pub read_fit : (steps : List Step) (bytes : List ℕ) → SpellsSteps steps bytes → AllByRecursion StepIsWithinLimits steps
read_fit steps bytes h = items_each SpellsStep StepIsWithinLimits (λ step b k. fields_fit step k.0 k.2) steps bytes h
