-- Allowed steps give a DRAT derivation.
use Rattle.std.proofs.Common.{ℕ, ◌+◌, ◌<◌, ◌≤◌, ◌≡◌, ◌⊎◌, inl, inr, Bool, true, false, ◌||◌, ◌&&◌, not, cond, eqb, List, [], ◌∷◌, map, None, refl, sym, ap, subst, arith}
use Rattle.std.specs.List.{AllByRecursion, list_any}
use Rattle.std.specs.Cmp.Lexicographic.{same_text}
use Rattle.std.proofs.lemmas.Bool.{or_cases, or_left, or_right, and_parts, eqb-true, eq-eqb, true≢false}
use Rattle.sat_base.specs.values.Literals.{variable, negated}
use Rattle.sat_base.specs.steps.Steps.{Redundant, Simplified, Satisfied, Step, SolverVarName, UserVarName, DeleteVar, AddClause, AtClause, UnitClauses, DeleteClause}
use Rattle.sat_checker.specs.LiteralSets.{is_among, is_tautology, canonical, same_literals}
use Rattle.sat_checker.proofs.lemmas.propagation.Soundness.{negated-negated}
use Rattle.sat_solver.specs.proof.Drat.{multiplicity, without_set, clauses_after_lines, clauses_after_step, present_clauses, RefutesByUnits, DratLinesAreCorrect, IsDratDerivation, DratIsCorrect}
use Rattle.sat_solver.specs.proof.DratText.{unit_lines, drat_lines}
use Rattle.sat_checker.specs.Contents.{plus_one_if, minus_one_if, same_flag}
use Rattle.sat_solver.specs.session.Session.{Session, empty_session, with_unit_added, after, session_after, AreLiveByHash, rup_assumptions, CanDerive, by_unit, by_clauses, CanWriteUnits, IsAllowedStep, AreAllowedSteps}
use Rattle.sat_solver.proofs.lemmas.session.Changes.{with_live, without_live, with_facts, with_sorted, with_live_clause, knowing_literals, session_if}
use Rattle.sat_solver.proofs.lemmas.session.DratLemmas.{times_after, times_itself, times_left, times_less, refutes_one, refutes_unit, leads_refute, units_first, negations, leads_within, units_in, units_there, units_are}

-- the clause has two or more literals
abbrev pub IsLong : List ℕ → Type 0
IsLong [] = ⊥
IsLong (l ∷ []) = ⊥
IsLong (l ∷ m ∷ ls) = Unit {0}

-- the empty clause is present, or two units that contradict each other
abbrev pub Conflict : List (List ℕ) → Type 0
Conflict ps = (0 < multiplicity [] ps) ⊎ ((l : ℕ) × (0 < multiplicity (l ∷ []) ps) × (0 < multiplicity (negated l ∷ []) ps))

-- all live clauses and units of the session are present
pub record Kept (s : Session) (ps : List (List ℕ)) : Type 0 where
  pub counts : (set : List ℕ) → s.live false set + s.live true set ≤ multiplicity set ps
  pub long : (r : Bool) (set : List ℕ) → 0 < s.live r set → IsLong set
  pub units : (l : ℕ) → s.units l ≡ true → 0 < multiplicity (l ∷ []) ps
  pub unsat : s.unsat ≡ true → Conflict ps

-- ONE CLAUSE MORE

still : (set c : List ℕ) (ps : List (List ℕ)) → 0 < multiplicity set ps → 0 < multiplicity set (c ∷ ps)
still set c ps h = let e = times_after set c ps in omega (arith, e, h)

here : (c : List ℕ) (ps : List (List ℕ)) → 0 < multiplicity c (c ∷ ps)
here c ps = let e = times_itself c ps in omega (arith, e)

conflict_more : (c : List ℕ) (ps : List (List ℕ)) → Conflict ps → Conflict (c ∷ ps)
conflict_more c ps (inl h) = inl (still [] c ps h)
conflict_more c ps (inr h) = inr (h.0, still (h.0 ∷ []) c ps h.1, still (negated h.0 ∷ []) c ps h.2)

kept_more : (s : Session) (c : List ℕ) (ps : List (List ℕ)) → Kept s ps → Kept s (c ∷ ps)
kept_more s c ps k = record {
  counts = λ set. (let a = k.counts set in let e = times_after set c ps in omega (arith, a, e));
  long = k.long;
  units = λ l e. still (l ∷ []) c ps (k.units l e);
  unsat = λ e. conflict_more c ps (k.unsat e);
}

-- a unit is added
fact_kept : (l : ℕ) (s : Session) (ps : List (List ℕ)) → Kept s ps → Kept (with_unit_added l s) ((l ∷ []) ∷ ps)
fact_kept l s ps k = go (s.units l) (s.units (negated l)) refl
  where
    wider : Kept s ((l ∷ []) ∷ ps)
    wider = kept_more s (l ∷ []) ps k

    units : ℕ → Bool
    units = λ m. eqb l m || s.units m

    there : (m : ℕ) → (eqb l m || s.units m) ≡ true → 0 < multiplicity (m ∷ []) ((l ∷ []) ∷ ps)
    there m e = elim (or_cases (eqb l m) (s.units m) e) [ inl t ↦ subst (λ x. 0 < multiplicity (x ∷ []) ((l ∷ []) ∷ ps)) (eqb-true l m t) (here (l ∷ []) ps) | inr t ↦ wider.units m t ]

    go : (b d : Bool) → s.units (negated l) ≡ d → Kept (session_if b s (session_if d (record s { unsat = true }) (record s { units = units }))) ((l ∷ []) ∷ ps)
    go true d e = wider
    go false true e = record { counts = wider.counts; long = wider.long; units = wider.units; unsat = λ _. inr (l, here (l ∷ []) ps, wider.units (negated l) e) }
    go false false e = record { counts = wider.counts; long = wider.long; units = there; unsat = wider.unsat }

-- a clause is counted on one of the two sides
add_one : (r b : Bool) (x y t : ℕ) → x + y ≤ t → plus_one_if (same_flag r false && b) x + plus_one_if (same_flag r true && b) y ≤ plus_one_if b t
add_one true true x y t h = omega (arith, h)
add_one true false x y t h = h
add_one false true x y t h = omega (arith, h)
add_one false false x y t h = h

long_added : (set other : List ℕ) (n : ℕ) (a : Bool) → IsLong set → (0 < n → IsLong other) → (b : Bool) → same_literals set other ≡ b → 0 < plus_one_if (a && b) n → IsLong other
long_added set other n true i f true e h = subst IsLong (same_text set other (sym e)) i
long_added set other n true i f false e h = f h
long_added set other n false i f true e h = f h
long_added set other n false i f false e h = f h

live_kept : (r : Bool) (set : List ℕ) (s : Session) (ps : List (List ℕ)) → IsLong set → Kept s ps → Kept (with_live r set s) (set ∷ ps)
live_kept r set s ps i k = record {
  counts = λ other. add_one r (same_literals set other) (s.live false other) (s.live true other) (multiplicity other ps) (k.counts other);
  long = λ side other h. long_added set other (s.live side other) (same_flag r side) i (k.long side other) (same_literals set other) refl h;
  units = λ l e. still (l ∷ []) set ps (k.units l e);
  unsat = λ e. conflict_more set ps (k.unsat e);
}

sorted_kept : (r : Bool) (set : List ℕ) (s : Session) (ps : List (List ℕ)) → Kept s ps → Kept (with_sorted r set s) (set ∷ ps)
sorted_kept r [] s ps k = let w = kept_more s [] ps k in record { counts = w.counts; long = w.long; units = w.units; unsat = λ _. inl (here [] ps) }
sorted_kept r (l ∷ []) s ps k = fact_kept l s ps k
sorted_kept r (l ∷ m ∷ ls) s ps k = live_kept r (l ∷ m ∷ ls) s ps tt k

clause_kept : (r : Bool) (clause : List ℕ) (s : Session) (ps : List (List ℕ)) → Kept s ps → Kept (with_live_clause r clause s) (canonical clause ∷ ps)
clause_kept r clause s ps k = go (is_tautology clause)
  where
    go : (b : Bool) → Kept (session_if b s (with_sorted r (canonical clause) s)) (canonical clause ∷ ps)
    go true = kept_more s (canonical clause) ps k
    go false = sorted_kept r (canonical clause) s ps k

units_kept : (us : List (ℕ × ℕ)) (s : Session) (ps : List (List ℕ)) → Kept s ps → Kept (with_facts (map (λ u. u.0) us) s) (clauses_after_lines (unit_lines us) ps)
units_kept [] s ps k = k
units_kept (u ∷ us) s ps k = units_kept us (with_unit_added u.0 s) ((u.0 ∷ []) ∷ ps) (fact_kept u.0 s ps k)

-- ONE CLAUSE LESS

-- a clause of two or more literals differs from one with fewer
apart : (out set : List ℕ) → IsLong out → (IsLong set → ⊥) → same_literals out set ≡ false
apart out set i n = go (same_literals out set) refl
  where
    go : (b : Bool) → same_literals out set ≡ b → b ≡ false
    go true e = absurd (n (subst IsLong (same_text out set (sym e)) i))
    go false e = refl

short_left : (out set : List ℕ) (ps : List (List ℕ)) → IsLong out → (IsLong set → ⊥) → 0 < multiplicity set ps → 0 < multiplicity set (without_set out ps)
short_left out set ps i n h = let e = times_left set out ps (apart out set i n) in omega (arith, e, h)

take_one : (r : Bool) (x y t u : ℕ) → 0 < cond r y x → x + y ≤ t → t ≤ u + 1 → minus_one_if (same_flag r false && true) x + minus_one_if (same_flag r true && true) y ≤ u
take_one true x y t u p h k = omega (arith, p, h, k)
take_one false x y t u p h k = omega (arith, p, h, k)

take_none : (r : Bool) (x y u : ℕ) → x + y ≤ u → minus_one_if (same_flag r false && false) x + minus_one_if (same_flag r true && false) y ≤ u
take_none true x y u h = h
take_none false x y u h = h

less_some : (b : Bool) (n : ℕ) → 0 < minus_one_if b n → 0 < n
less_some true n h = omega (arith, h)
less_some false n h = h

side_is : (r : Bool) (f : Bool → ℕ) → f r ≡ cond r (f true) (f false)
side_is true f = refl
side_is false f = refl

without_kept : (r : Bool) (out : List ℕ) (s : Session) (ps : List (List ℕ)) → 0 < s.live r out → Kept s ps → Kept (without_live r out s) (without_set out ps)
without_kept r out s ps p k = record {
  counts = λ other. counts other (same_literals out other) refl;
  long = λ side other h. k.long side other (less_some (same_flag r side && same_literals out other) (s.live side other) h);
  units = λ l e. short_left out (l ∷ []) ps i (λ x. x) (k.units l e);
  unsat = λ e. conflict (k.unsat e);
}
  where
    i : IsLong out
    i = k.long r out p

    conflict : Conflict ps → Conflict (without_set out ps)
    conflict (inl h) = inl (short_left out [] ps i (λ x. x) h)
    conflict (inr h) = inr (h.0, short_left out (h.0 ∷ []) ps i (λ x. x) h.1, short_left out (negated h.0 ∷ []) ps i (λ x. x) h.2)

    counts : (other : List ℕ) (b : Bool) → same_literals out other ≡ b → minus_one_if (same_flag r false && b) (s.live false other) + minus_one_if (same_flag r true && b) (s.live true other) ≤ multiplicity other (without_set out ps)
    counts other true e =
        take_one r (s.live false other) (s.live true other) (multiplicity other ps) (multiplicity other (without_set out ps))
        (subst (λ n. 0 < n) (side_is r (λ side. s.live side other)) (subst (λ x. 0 < s.live r x) (same_text out other (sym e)) p)) (k.counts other) (times_less other out ps)
    counts other false e =
        take_none r (s.live false other) (s.live true other) (multiplicity other (without_set out ps)) (let a = k.counts other in let t = times_left other out ps e in omega (arith, a, t))

-- DERIVATIONS

among_negated : (clause : List ℕ) (l : ℕ) → is_among clause l ≡ true → is_among (map negated clause) (negated l) ≡ true
among_negated [] l e = absurd (true≢false (sym e))
among_negated (x ∷ xs) l e = elim (or_cases (eqb x l) (is_among xs l) e) [
  | inl t ↦ or_left (eqb (negated x) (negated l)) (is_among (map negated xs) (negated l)) (eq-eqb (negated x) (negated l) (ap negated (eqb-true x l t)))
  | inr t ↦ or_right (eqb (negated x) (negated l)) (is_among (map negated xs) (negated l)) (among_negated xs l t)
]

-- if a clause contains a present unit, its negation is refuted
unit_refutes : (ps : List (List ℕ)) (q : ℕ → Bool) → ((l : ℕ) → q l ≡ true → 0 < multiplicity (l ∷ []) ps) → (known ls : List ℕ) → ((l : ℕ) → is_among ls l ≡ true → is_among known (negated l) ≡ true) → list_any q ls ≡ true → RefutesByUnits ps known
unit_refutes ps q p known [] f e = absurd (true≢false (sym e))
unit_refutes ps q p known (l ∷ ls) f e = elim (or_cases (q l) (list_any q ls) e) [
  | inl t ↦ refutes_one ps known (l ∷ []) (p l t) (f l (or_left (eqb l l) (is_among ls l) (eq-eqb l l refl)), tt)
  | inr t ↦ unit_refutes ps q p known ls (λ m a. f m (or_right (eqb l m) (is_among ls m) a)) t
]

named_present : (s : Session) (ps : List (List ℕ)) → Kept s ps → (named : List (List ℕ)) (hashes : List ℕ) → AreLiveByHash s named hashes → AllByRecursion (λ c. 0 < multiplicity (canonical c) ps) named
named_present s ps k [] hashes n = tt
named_present s ps k (c ∷ cs) [] n = absurd n
named_present s ps k (c ∷ cs) (h ∷ hs) n = ((let a = k.counts (canonical c) in let b = n.0.counted in omega (arith, a, b)), named_present s ps k cs hs n.2)

-- the negation of a clause that may be derived is refuted
derive_refutes : (s : Session) (ps : List (List ℕ)) (clause hashes : List ℕ) → Kept s ps → CanDerive s clause hashes → RefutesByUnits ps (map negated clause)
derive_refutes s ps clause hashes k (by_unit t) = unit_refutes ps s.units k.units (map negated clause) clause (among_negated clause) t
derive_refutes s ps clause hashes k (by_clauses named n lead) =
    units_first ps us (map negated clause) (is_among (map negated clause)) (units_are s.units (λ u. 0 < multiplicity (u ∷ []) ps) k.units (negations named)) (λ l a. a)
    (λ known h. leads_refute ps named known (λ l. is_among us l || is_among (map negated clause) l) (named_present s ps k named hashes n) h (leads_within named (rup_assumptions s clause) (λ l. is_among us l || is_among (map negated clause) l) within lead))
  where
    us : List ℕ
    us = units_in s.units (negations named)

    within : (l : ℕ) → is_among (negations named) l ≡ true → rup_assumptions s clause l ≡ true → (is_among us l || is_among (map negated clause) l) ≡ true
    within l a d = elim (or_cases (is_among (map negated clause) l) (s.units l) d) [
      | inl t ↦ or_right (is_among us l) (is_among (map negated clause) l) t
      | inr t ↦ or_left (is_among us l) (is_among (map negated clause) l) (units_there s.units (negations named) l a t)
    ]

unit_lines_right : (us : List (ℕ × ℕ)) (s : Session) (ps : List (List ℕ)) → Kept s ps → CanWriteUnits s us → DratLinesAreCorrect (unit_lines us) ps
unit_lines_right [] s ps k m = tt
unit_lines_right (u ∷ us) s ps k m = (derive_refutes s ps (u.0 ∷ []) (u.1 ∷ []) k m.0, unit_lines_right us (with_unit_added u.0 s) ((u.0 ∷ []) ∷ ps) (fact_kept u.0 s ps k) m.1)

-- STEPS

-- live clauses, units and unsat are unchanged
moved : (s t : Session) (ps : List (List ℕ)) → t.live ≡ s.live → t.units ≡ s.units → t.unsat ≡ s.unsat → Kept s ps → Kept t ps
moved s t ps a b c k = record {
  counts = λ set. subst (λ f. f false set + f true set ≤ multiplicity set ps) (sym a) (k.counts set);
  long = λ r set. subst (λ f. 0 < f r set → IsLong set) (sym a) (k.long r set);
  units = λ l. subst (λ f. f l ≡ true → 0 < multiplicity (l ∷ []) ps) (sym b) (k.units l);
  unsat = subst (λ u. u ≡ true → Conflict ps) (sym c) k.unsat;
}

step_kept : (step : Step) (s : Session) (ps : List (List ℕ)) → Kept s ps → IsAllowedStep s step → Kept (after step s) (clauses_after_step step ps)
step_kept (SolverVarName v None) s ps k m = moved s (after (SolverVarName v None) s) ps refl refl refl k
step_kept (UserVarName v None) s ps k m = moved s (after (UserVarName v None) s) ps refl refl refl k
step_kept (DeleteVar v) s ps k m = record { counts = k.counts; long = k.long; units = λ l e. k.units l (and_parts (s.units l) (not (eqb (variable l) v)) e).0; unsat = k.unsat }
step_kept (AddClause clause) s ps k m = go s.unsat
  where
    known : Session
    known = knowing_literals clause s

    rest : Session → Session
    rest t = record t { last = None }

    go : (b : Bool) → Kept (rest (session_if b s (with_live_clause false clause known))) (canonical clause ∷ ps)
    go true = let w = kept_more s (canonical clause) ps k in record { counts = w.counts; long = w.long; units = w.units; unsat = w.unsat }
    go false = let w = clause_kept false clause known ps (moved s known ps refl refl refl k) in record { counts = w.counts; long = w.long; units = w.units; unsat = w.unsat }
step_kept (AtClause r clause hashes) s ps k m =
    let known : Session = knowing_literals clause s in
    let w = clause_kept r clause known ps (moved s known ps refl refl refl k) in
    record { counts = w.counts; long = w.long; units = w.units; unsat = w.unsat }
step_kept (UnitClauses us) s ps k m =
    let known : Session = knowing_literals (map (λ u. u.0) us) s in
    let w = units_kept us known ps (moved s known ps refl refl refl k) in
    record { counts = w.counts; long = w.long; units = w.units; unsat = w.unsat }
step_kept (DeleteClause clause Redundant) s ps k m = let w = without_kept true (canonical clause) s ps m k in record { counts = w.counts; long = w.long; units = w.units; unsat = w.unsat }
step_kept (DeleteClause clause Simplified) s ps k m = let w = without_kept false (canonical clause) s ps m.0 k in record { counts = w.counts; long = w.long; units = w.units; unsat = w.unsat }
step_kept (DeleteClause clause Satisfied) s ps k m = let w = without_kept false (canonical clause) s ps m.0 k in record { counts = w.counts; long = w.long; units = w.units; unsat = w.unsat }
step_kept step s ps k m = moved s (after step s) ps refl refl refl k

-- a clause that may be deleted is present
present_of : (r : Bool) (set : List ℕ) (s : Session) (ps : List (List ℕ)) → Kept s ps → 0 < s.live r set → 0 < multiplicity set ps
present_of true set s ps k h = let a = k.counts set in omega (arith, a, h)
present_of false set s ps k h = let a = k.counts set in omega (arith, a, h)

step_lines_right : (step : Step) (s : Session) (ps : List (List ℕ)) → Kept s ps → IsAllowedStep s step → DratLinesAreCorrect (drat_lines step) ps
step_lines_right (AtClause r clause hashes) s ps k m = (derive_refutes s ps clause hashes k m, tt)
step_lines_right (UnitClauses us) s ps k m = unit_lines_right us s ps k m
step_lines_right (DeleteClause clause Redundant) s ps k m = (present_of true (canonical clause) s ps k m, tt)
step_lines_right (DeleteClause clause Simplified) s ps k m = (present_of false (canonical clause) s ps k m.0, tt)
step_lines_right (DeleteClause clause Satisfied) s ps k m = (present_of false (canonical clause) s ps k m.0, tt)
step_lines_right step s ps k m = tt

none_false : {A : Type 0} → false ≡ true → A
none_false e = absurd (true≢false (sym e))

kept_nothing : Kept empty_session []
kept_nothing = record { counts = λ set. omega arith; long = λ r set h. absurd (none h); units = λ l e. none_false e; unsat = λ e. none_false e }
  where
    none : 0 < 0 → ⊥
    none h = omega (arith, h)

both : (steps : List Step) → AreAllowedSteps steps → Kept (session_after steps) (present_clauses steps) × IsDratDerivation steps
both [] m = (kept_nothing, tt)
both (step ∷ earlier) m =
    let ih = both earlier m.0 in
    (step_kept step (session_after earlier) (present_clauses earlier) ih.0 m.1, (ih.1, step_lines_right step (session_after earlier) (present_clauses earlier) ih.0 m.1))

-- once unsat is recorded, the present clauses are refuted without assumptions
conflict_refutes : (ps : List (List ℕ)) → Conflict ps → RefutesByUnits ps []
conflict_refutes ps (inl h) = refutes_one ps [] [] h tt
conflict_refutes ps (inr h) =
    refutes_unit ps [] (h.0 ∷ []) h.0 h.1 (record { within = or_left (eqb h.0 h.0) false (eq-eqb h.0 h.0 refl); not_true = refl; not_false = refl; others = (inl refl, tt) })
    (refutes_one ps (h.0 ∷ []) (negated h.0 ∷ []) h.2 (or_left (eqb h.0 (negated (negated h.0))) false (eq-eqb h.0 (negated (negated h.0)) (sym (negated-negated h.0))), tt))

pub drat_is_right : DratIsCorrect
drat_is_right steps m = let b = both steps m in (b.1, λ e. conflict_refutes (present_clauses steps) (b.0.unsat e))
