-- The lines that accepted steps announce are a derivation.
use Rattle.std.proofs.Common.{ℕ, ◌+◌, ◌-◌, ◌<◌, ◌≤◌, ◌≡◌, ◌⊎◌, inl, inr, Bool, true, false, not, ◌&&◌, ◌||◌, cond, eqb, nat_lt, List, [], ◌∷◌, ◌++◌, map, filter, max, length, Option, None, Some, refl, sym, ◌∙◌, ap, subst, arith}
use Rattle.std.proofs.lemmas.Bool.{eqb-true, eqb-false, eq-eqb, ne_eqb, lt-ltb, le-ltb, or_parts, true≢false}
use Rattle.std.specs.List.{AllByRecursion, list_any}
use Rattle.sat_base.specs.values.Literals.{variable, negated}
use Rattle.sat_base.specs.steps.Steps.{Redundant, Simplified, Satisfied, Step, SolverVarName, UserVarName, DeleteVar, ChangeSamplingMode, AddClause, AtClause, UnitClauses, DeleteClause, Model, FailedAssumptions}
use Rattle.sat_checker.specs.LiteralSets.{is_among, mentions, is_tautology, canonical, same_literals}
use Rattle.sat_checker.specs.Propagation.{UnitInTurn}
use Rattle.sat_checker.specs.Stored.{StoredClause, StoredUnit, Mode, Stored, is_unit}
use Rattle.sat_checker.specs.Storing.{clause_with, irredundant_count, redundant_count, without_count, unless_removed, without_clause, with_unit, with_units, with_contradiction, with_new_unit, with_sorted_set, with_canonical, with_stored, with_input, with_known, with_literals_known, last_clause_or, with_conflict_settled, settled_by, without_variable}
use Rattle.sat_checker.specs.Accepts.{UnitsPassInTurn, CanBeDeleted, Accepts, AcceptsAll, effect, stored_after, ready_after}
use Rattle.sat_checker.specs.Invariants.{AreDistinctSets, IsProperClause, StoredInvariantHolds}
use Rattle.sat_checker.specs.announcements.Needed.{satisfying_unit, propagations}
use Rattle.sat_checker.specs.announcements.Announcements.{Announcement, is_sample, has_witness_mode, announced_mode_change, id_of_set, announced_input_set, announced_input, is_only_redundant, announced_derived_set, announced_derived, announced_derived_units, redundant_deletion, irredundant_deletion, option_to_list, last_id, announced, delayed_empty_clause, delayed_announcement, Notice, notices_of, notices_after, all_notices_after}
use Rattle.sat_checker.specs.announcements.Promises.{IsOneOf, FollowsByPropagation, PropagationsInTurn, TautologiesNeedNoIds}
use Rattle.sat_checker.proofs.lemmas.propagation.Soundness.{negated-negated}
use Rattle.sat_checker.proofs.lemmas.propagation.Members.{same_runs}
use Rattle.sat_checker.proofs.lemmas.sets.Canonical.{canonical_among, canonical_increasing, canonical_tautology, both_signs, tautology_from}
use Rattle.sat_checker.proofs.lemmas.sets.Rising.{canonical_stays}
use Rattle.sat_checker.proofs.lemmas.meaning.Clauses.{same, same_from}
use Rattle.sat_hints.specs.Lines.{Line, Input, Derived, Removed, Core, Fresh}
use Rattle.sat_hints.specs.Hints.{and_clauses, is_unit_of_variable, unless_unit_of_variable, clause_under, clauses_under, is_long, FollowsLines}
use Rattle.sat_hints.specs.Conversion.{removal_line, with_line, announced_lines, lines_of_steps}
use Rattle.sat_hints.proofs.lemmas.Sound.{still}
use Rattle.sat_hints.proofs.lemmas.Mirrored.{lines_by, reported_lines, lines-append, by-append, each_more, one_each, IsUnder, HasAccepted, Mirrors, aside, NewLine, new_input, empty_new, set_same, set_new}

-- CLAUSES THAT A STEP RELIES ON ARE PRESENT
module _ (f : Stored) (lines : List Line) (m : Mirrors f lines) where
  under_clauses : (cs : List StoredClause) → AllByRecursion (λ c. IsOneOf c f.clauses) cs → clauses_under (map (λ c. c.id) cs) lines ≡ Some (map (λ c. c.literals) cs)
  under_clauses [] h = refl
  under_clauses (c ∷ cs) h =
      ap (λ o. and_clauses o (clauses_under (map (λ d. d.id) cs) lines)) (one_each (λ (d : StoredClause). IsUnder lines d.id d.literals) c f.clauses m.clauses h.0) ∙ ap (and_clauses (Some c.literals)) (under_clauses cs h.1)

  under_units : (us : List StoredUnit) → AllByRecursion (λ u. IsOneOf u f.units) us → (rest : List ℕ) (cs : List (List ℕ)) → clauses_under rest lines ≡ Some cs → clauses_under (map (λ u. u.id) us ++ rest) lines ≡ Some (map (λ u. u.literal ∷ []) us ++ cs)
  under_units [] h rest cs e = e
  under_units (u ∷ us) h rest cs e =
      ap (λ o. and_clauses o (clauses_under (map (λ w. w.id) us ++ rest) lines)) (one_each (λ (w : StoredUnit). IsUnder lines w.id (w.literal ∷ [])) u f.units m.units h.0) ∙ ap (and_clauses (Some (u.literal ∷ []))) (under_units us h.1 rest cs e)

  -- the clauses on which a step rests are present, under the ids that it names
  pub rests_present : (clause ids : List ℕ) → (r : FollowsByPropagation f clause ids) → clauses_under ids lines ≡ Some (map (λ u. u.literal ∷ []) r.units ++ map (λ c. c.literals) r.clauses)
  rests_present clause ids r = ap (λ is. clauses_under is lines) r.are ∙ under_units r.units r.units_stored (map (λ c. c.id) r.clauses) (map (λ c. c.literals) r.clauses) (under_clauses r.clauses r.clauses_stored)

negated_is : (x l : ℕ) → eqb (negated x) l ≡ eqb x (negated l)
negated_is x l = go (eqb (negated x) l) refl
  where
    go : (b : Bool) → eqb (negated x) l ≡ b → b ≡ eqb x (negated l)
    go true e = let k = eqb-true (negated x) l e in sym (eq-eqb x (negated l) (sym (negated-negated x) ∙ ap negated k))
    go false e = let k = eqb-false (negated x) l e in sym (ne_eqb x (negated l) (λ s. k (ap negated s ∙ negated-negated l)))

among_negated : (ls : List ℕ) (l : ℕ) → is_among (map negated ls) l ≡ is_among ls (negated l)
among_negated [] l = refl
among_negated (x ∷ xs) l = ap (λ b. b || is_among (map negated xs) l) (negated_is x l) ∙ ap (λ b. eqb x (negated l) || b) (among_negated xs l)

denied_same : (clause : List ℕ) (l : ℕ) → is_among (map negated clause) l ≡ is_among (map negated (canonical clause)) l
denied_same clause l = among_negated clause l ∙ sym (canonical_among clause (negated l)) ∙ sym (among_negated (canonical clause) l)

core_same : (core : List ℕ) (l : ℕ) → is_among (map negated (map negated core)) l ≡ is_among (canonical core) l
core_same core l = among_negated (map negated core) l ∙ among_negated core (negated l) ∙ ap (is_among core) (negated-negated l) ∙ sym (canonical_among core l)

set_of : (clause : List ℕ) → canonical (canonical clause) ≡ canonical clause
set_of clause = canonical_stays (canonical clause) (canonical_increasing clause)

new_derived : (f : Stored) (lines : List Line) (clause ids : List ℕ) → Mirrors f lines → FollowsByPropagation f clause ids → NewLine (Derived f.next_id (canonical clause) ids) f.next_id (canonical clause) lines
new_derived f lines clause ids m r = record {
  follows = record {
    in_order = m.least;
    clauses = map (λ u. u.literal ∷ []) r.units ++ map (λ c. c.literals) r.clauses;
    present = rests_present f lines m clause ids r;
    conflict = inr (same_runs (map (λ u. u.literal ∷ []) r.units ++ map (λ c. c.literals) r.clauses) (map negated clause) (map negated (canonical clause)) (denied_same clause) r.conflict);
    unused = λ u. u;
  };
  before = m.least;
  under = λ id. ap (λ x. cond (eqb id f.next_id) (Some x) (clause_under id lines)) (set_of clause);
  least = refl;
}

-- CLAUSES THAT ARE ADDED
-- a clause that is already stored has no line
abbrev line_unless : Option ℕ → Line → List Line → List Line
line_unless None line lines = line ∷ lines
line_unless (Some id) line lines = lines

set_mirrors : (r : Bool) (set : List ℕ) (g : Stored) (lines : List Line) (line : Line) (x : Option ℕ) → id_of_set set g ≡ x → (x ≡ None → NewLine line g.next_id set lines) → Mirrors g lines → Mirrors (with_sorted_set r set g) (line_unless x line lines)
set_mirrors r set g lines line None e new m = set_new r set g lines line e (new refl) m
set_mirrors r set g lines line (Some id) e new m = set_same r set g lines id e m

canonical_mirrors : (r : Bool) (set : List ℕ) (g : Stored) (lines : List Line) → Mirrors (with_sorted_set r set g) lines → Mirrors (with_canonical r set g) lines
canonical_mirrors true set g lines m = m
canonical_mirrors false set g lines m = aside (with_sorted_set false set g) (record (with_sorted_set false set g) { last = last_clause_or g.next_id set (with_sorted_set false set g) g.last }) lines refl refl refl (omega arith) m

known_set : (ls vs : List ℕ) (f : Stored) → id_of_set ls (with_known vs f) ≡ id_of_set ls f
known_set [] vs f = refl
known_set (l ∷ []) vs f = refl
known_set (l ∷ m ∷ ls) vs f = refl

known_mirrors : (vs : List ℕ) (f : Stored) (lines : List Line) → Mirrors f lines → Mirrors (with_known vs f) lines
known_mirrors vs f lines m = aside f (with_known vs f) lines refl refl refl (omega arith) m

module _ (r : Bool) (c : List ℕ) (f : Stored) (vs : List ℕ) (lines : List Line) (m : Mirrors f lines) where
  stored_mirrors : (line : Line) → (b : Bool) → is_tautology c ≡ b → (id_of_set (canonical c) f ≡ None → b ≡ false → NewLine line f.next_id (canonical c) lines)
      → Mirrors (cond b (with_known vs f) (with_canonical r (canonical c) (with_known vs f))) (cond b lines (line_unless (id_of_set (canonical c) f) line lines))
  stored_mirrors line true e new = known_mirrors vs f lines m
  stored_mirrors line false e new =
      canonical_mirrors r (canonical c) (with_known vs f) (line_unless (id_of_set (canonical c) f) line lines)
      (set_mirrors r (canonical c) (with_known vs f) lines line (id_of_set (canonical c) f) (known_set (canonical c) vs f) (λ n. new n refl) (known_mirrors vs f lines m))

-- a derived clause
derived_lines_set : (r : Bool) (set ids : List ℕ) (f : Stored) (lines : List Line) (x : Option ℕ) → lines_by (announced_derived_set r set ids f x) lines ≡ line_unless x (Derived f.next_id set ids) lines
derived_lines_set r set ids f lines None = refl
derived_lines_set r set ids f lines (Some id) = go (not r && is_only_redundant (clause_with set f.clauses))
  where
    go : (b : Bool) → lines_by (cond b (Rattle.sat_checker.specs.announcements.Announcements.MakeIrredundant id set ∷ []) []) lines ≡ lines
    go true = refl
    go false = refl

derived_lines : (r : Bool) (c hs : List ℕ) (f : Stored) (lines : List Line) → lines_by (announced_derived r c hs f) lines ≡ cond (is_tautology c) lines (line_unless (id_of_set (canonical c) f) (Derived f.next_id (canonical c) (propagations f c hs)) lines)
derived_lines r c hs f lines = go (is_tautology c)
  where
    go : (b : Bool) → lines_by (cond b [] (announced_derived_set r (canonical c) (propagations f c hs) f (id_of_set (canonical c) f))) lines ≡ cond b lines (line_unless (id_of_set (canonical c) f) (Derived f.next_id (canonical c) (propagations f c hs)) lines)
    go true = refl
    go false = derived_lines_set r (canonical c) (propagations f c hs) f lines (id_of_set (canonical c) f)

-- an input clause
input_lines : (c : List ℕ) (f : Stored) (lines : List Line) → lines_by (announced_input c f) lines ≡ cond (is_tautology c) lines (line_unless (id_of_set (canonical c) f) (Input f.next_id (canonical c)) lines)
input_lines c f lines = go (is_tautology c) (id_of_set (canonical c) f)
  where
    go : (b : Bool) (x : Option ℕ) → lines_by (cond b (Rattle.sat_checker.specs.announcements.Announcements.TautologicalClause f.next_id (canonical c) ∷ []) (announced_input_set f.next_id (canonical c) x)) lines ≡ cond b lines (line_unless x (Input f.next_id (canonical c)) lines)
    go true x = refl
    go false None = refl
    go false (Some id) = refl

at_most : (x y : ℕ) → x ≤ max x y
at_most x y = omega arith

input_mirrors : (c : List ℕ) (f : Stored) (vs : List ℕ) (lines : List Line) → Mirrors f lines → Mirrors (with_input c (with_known vs f)) (lines_by (announced_input c f) lines)
input_mirrors c f vs lines m =
    subst (Mirrors (with_input c (with_known vs f))) (sym (input_lines c f lines))
    (aside (with_stored false c (with_known vs f)) (with_input c (with_known vs f)) (cond (is_tautology c) lines (line_unless (id_of_set (canonical c) f) (Input f.next_id (canonical c)) lines)) refl refl refl (at_most (with_stored false c (with_known vs f)).next_id (f.next_id + 1))
    (stored_mirrors false c f vs lines m (Input f.next_id (canonical c)) (is_tautology c) refl (λ n t. new_input f.next_id (canonical c) lines (set_of c) m.least)))

derived_mirrors : (r : Bool) (c hs : List ℕ) (f : Stored) (vs : List ℕ) (lines : List Line) → (is_tautology c ≡ false → FollowsByPropagation f c (propagations f c hs)) → Mirrors f lines → Mirrors (with_stored r c (with_known vs f)) (lines_by (announced_derived r c hs f) lines)
derived_mirrors r c hs f vs lines rests m =
    subst (Mirrors (with_stored r c (with_known vs f))) (sym (derived_lines r c hs f lines))
    (stored_mirrors r c f vs lines m (Derived f.next_id (canonical c) (propagations f c hs)) (is_tautology c) refl (λ n t. new_derived f lines c (propagations f c hs) m (rests t)))

-- units of a list, one after another
known_unit : (vs : List ℕ) (l : ℕ) (f : Stored) → with_unit l (with_known vs f) ≡ with_known vs (with_unit l f)
known_unit vs l f = go (is_unit f l) (is_unit f (negated l))
  where
    go : (b d : Bool) → cond b (with_known vs f) (cond d (with_contradiction l (with_known vs f)) (with_new_unit l (with_known vs f))) ≡ with_known vs (cond b f (cond d (with_contradiction l f) (with_new_unit l f)))
    go true d = refl
    go false true = refl
    go false false = refl

known_units : (vs ls : List ℕ) (f : Stored) → with_units ls (with_known vs f) ≡ with_known vs (with_units ls f)
known_units vs [] f = refl
known_units vs (l ∷ ls) f = ap (with_units ls) (known_unit vs l f) ∙ known_units vs ls (with_unit l f)

units_more : (front : List ℕ) (l : ℕ) (f : Stored) → with_units (front ++ l ∷ []) f ≡ with_unit l (with_units front f)
units_more [] l f = refl
units_more (x ∷ front) l f = units_more front l (with_unit x f)

unit_lines : (l h : ℕ) (f : Stored) (lines : List Line) → lines_by (announced_derived false (l ∷ []) (h ∷ []) f) lines ≡ line_unless (id_of_set (l ∷ []) f) (Derived f.next_id (l ∷ []) (propagations f (l ∷ []) (h ∷ []))) lines
unit_lines l h f lines = derived_lines false (l ∷ []) (h ∷ []) f lines

module _ (in_turn : PropagationsInTurn) (steps : List Step) (ok : AcceptsAll steps) where
  abbrev following : List ℕ → Stored
  following front = with_units front (ready_after steps)

  units_mirrors : (us : List (ℕ × ℕ)) (front : List ℕ) (lines : List Line) → UnitsPassInTurn (following front) us → Mirrors (following front) lines → Mirrors (with_units (map (λ u. u.0) us) (following front)) (lines_by (announced_derived_units us (following front)) lines)
  units_mirrors [] front lines p m = m
  units_mirrors (u ∷ us) front lines p m =
      let f : Stored = following front in
      let rests : FollowsByPropagation f (u.0 ∷ []) (propagations f (u.0 ∷ []) (u.1 ∷ [])) = in_turn steps front (u.0 ∷ []) (u.1 ∷ []) ok p.0 refl in
      let new : NewLine (Derived f.next_id (u.0 ∷ []) (propagations f (u.0 ∷ []) (u.1 ∷ []))) f.next_id (u.0 ∷ []) lines = new_derived f lines (u.0 ∷ []) (propagations f (u.0 ∷ []) (u.1 ∷ [])) m rests in
      let option_to_list : Mirrors (with_unit u.0 f) (lines_by (announced_derived false (u.0 ∷ []) (u.1 ∷ []) f) lines)
      = subst (Mirrors (with_unit u.0 f)) (sym (unit_lines u.0 u.1 f lines)) (set_mirrors false (u.0 ∷ []) f lines (Derived f.next_id (u.0 ∷ []) (propagations f (u.0 ∷ []) (u.1 ∷ []))) (id_of_set (u.0 ∷ []) f) refl (λ n. new) m) in
      let next : following (front ++ u.0 ∷ []) ≡ with_unit u.0 f = units_more front u.0 (ready_after steps) in
      let more = units_mirrors us (front ++ u.0 ∷ []) (lines_by (announced_derived false (u.0 ∷ []) (u.1 ∷ []) f) lines) (subst (λ g. UnitsPassInTurn g us) (sym next) p.1) (subst (λ g. Mirrors g (lines_by (announced_derived false (u.0 ∷ []) (u.1 ∷ []) f) lines)) (sym next) option_to_list) in
      subst (Mirrors (with_units (map (λ w. w.0) us) (with_unit u.0 f))) (sym (by-append (announced_derived false (u.0 ∷ []) (u.1 ∷ []) f) (announced_derived_units us (with_unit u.0 f)) lines))
      (subst (λ g. Mirrors (with_units (map (λ w. w.0) us) g) (lines_by (announced_derived_units us g) (lines_by (announced_derived false (u.0 ∷ []) (u.1 ∷ []) f) lines))) next more)

-- THE EMPTY CLAUSE OF A UNIT CONFLICT
two_units : (l : ℕ) → UnitInTurn [] ((l ∷ []) ∷ (negated l ∷ []) ∷ [])
two_units l = (
  l,
  record { within = ap (λ b. b || false) (eq-eqb l l refl); not_true = refl; not_false = refl; others = (inl refl, tt) },
  (ap (λ b. b || false) (eq-eqb l (negated (negated l)) (sym (negated-negated l))), tt),
)

settled_mirrors : (f : Stored) (lines : List Line) (x : Option (ℕ × ℕ)) → f.conflict ≡ x → Mirrors f lines → Mirrors (settled_by x f) (lines_by (delayed_empty_clause f.next_id x) lines)
settled_mirrors f lines None e m = m
settled_mirrors f lines (Some ids) e m =
    let k = m.conflict ids e in
    let line : Line = Derived f.next_id [] (ids.0 ∷ ids.1 ∷ []) in
    let new : NewLine line f.next_id [] lines = record {
      follows = record {
        in_order = m.least;
        clauses = (k.0 ∷ []) ∷ (negated k.0 ∷ []) ∷ [];
        present = ap (λ o. and_clauses o (and_clauses (clause_under ids.1 lines) (Some []))) k.1 ∙ ap (λ o. and_clauses (Some (k.0 ∷ [])) (and_clauses o (Some []))) k.2;
        conflict = inr (two_units k.0);
        unused = λ u. u;
      };
      before = m.least;
      under = λ id. refl;
      least = refl;
    } in
    let n = empty_new line [] f lines new m refl (record f { next_id = f.next_id + 1 }) refl refl refl refl in
    record { derivation = n.derivation; clauses = n.clauses; units = n.units; long = n.long; least = n.least; conflict = λ i s. absurd cc }

-- CLAUSES THAT ARE REMOVED
abbrev gone_then : Bool → StoredClause → Bool
gone_then r s = eqb (without_count r s).irredundant 0 && eqb (without_count r s).redundant 0

-- a clause without a count gets a `Removed` line
abbrev line_taken : Bool → Option StoredClause → List Line → List Line
line_taken r None lines = lines
line_taken r (Some s) lines = cond (gone_then r s) (Removed s.id ∷ lines) lines

absent_same : (r : Bool) (ls : List ℕ) (cs : List StoredClause) → clause_with ls cs ≡ None → without_clause r ls cs ≡ cs
absent_same r ls [] e = refl
absent_same r ls (c ∷ cs) e = go (absent_same r ls cs) (same_literals c.literals ls) e
  where
    go : (clause_with ls cs ≡ None → without_clause r ls cs ≡ cs) → (b : Bool) → cond b (Some c) (clause_with ls cs) ≡ None → cond b (unless_removed (without_count r c) ++ cs) (c ∷ without_clause r ls cs) ≡ c ∷ cs
    go ih true k = absurd cc
    go ih false k = ap (λ xs. c ∷ xs) (ih k)

record IsFirst (ls : List ℕ) (s : StoredClause) (cs : List StoredClause) : Type 0 where
  stored : IsOneOf s cs
  literals_are : s.literals ≡ ls

is_first : (ls : List ℕ) (s : StoredClause) (cs : List StoredClause) → clause_with ls cs ≡ Some s → IsFirst ls s cs
is_first ls s [] e = absurd cc
is_first ls s (c ∷ cs) e = go (is_first ls s cs) (same_literals c.literals ls) refl e
  where
    go : (clause_with ls cs ≡ Some s → IsFirst ls s cs) → (b : Bool) → same_literals c.literals ls ≡ b → cond b (Some c) (clause_with ls cs) ≡ Some s → IsFirst ls s (c ∷ cs)
    go ih true t k = let f : c ≡ s = cc in record { stored = inl (sym f); literals_are = ap (λ (x : StoredClause). x.literals) (sym f) ∙ same c.literals ls t }
    go ih false t k = let x = ih k in record { stored = inr x.stored; literals_are = x.literals_are }

-- a clause that is not removed has one fewer count
module _ (P : ℕ → List ℕ → Type 0) where
  abbrev Each : List StoredClause → Type 0
  Each = AllByRecursion (λ c. P c.id c.literals)

  each_less : (r : Bool) (c : StoredClause) → P c.id c.literals → P (without_count r c).id (without_count r c).literals
  each_less true c h = h
  each_less false c h = h

  each_unless : (b : Bool) (c : StoredClause) (cs : List StoredClause) → P c.id c.literals → Each cs → Each (cond b [] (c ∷ []) ++ cs)
  each_unless true c cs i h = h
  each_unless false c cs i h = (i, h)

  each_without : (r : Bool) (ls : List ℕ) (cs : List StoredClause) → Each cs → Each (without_clause r ls cs)
  each_without r ls [] h = tt
  each_without r ls (c ∷ cs) h = go (each_without r ls cs h.1) (same_literals c.literals ls)
    where
      go : Each (without_clause r ls cs) → (b : Bool) → Each (cond b (unless_removed (without_count r c) ++ cs) (c ∷ without_clause r ls cs))
      go ih true = each_unless (gone_then r c) (without_count r c) cs (each_less r c h.0) h.1
      go ih false = (h.0, ih)

same_in : (r : Bool) (c : StoredClause) (id : ℕ) (d : List ℕ) (cs : List StoredClause) → c.id ≡ id → c.literals ≡ d → HasAccepted id d (without_count r c ∷ cs)
same_in true c id d cs i e = record { clause = without_count true c; stored = inl refl; id_is = i; literals_are = e }
same_in false c id d cs i e = record { clause = without_count false c; stored = inl refl; id_is = i; literals_are = e }

stands_later : (id : ℕ) (d : List ℕ) (c : StoredClause) (cs : List StoredClause) → HasAccepted id d cs → HasAccepted id d (c ∷ cs)
stands_later id d c cs s = record { clause = s.clause; stored = inr s.stored; id_is = s.id_is; literals_are = s.literals_are }

stands_left : (r : Bool) (ls : List ℕ) (id : ℕ) (d : List ℕ) (s : StoredClause) (cs : List StoredClause) → clause_with ls cs ≡ Some s → gone_then r s ≡ false → (t : StoredClause) → IsOneOf t cs → t.id ≡ id → t.literals ≡ d → HasAccepted id d (without_clause r ls cs)
stands_left r ls id d s [] e g t h i w = absurd h
stands_left r ls id d s (c ∷ cs) e g t h i w = go (λ k l. stands_left r ls id d s cs k g t l i w) (same_literals c.literals ls) e h
  where
    left : (b : Bool) → b ≡ false → (t ≡ c) ⊎ IsOneOf t cs → HasAccepted id d (cond b [] (without_count r c ∷ []) ++ cs)
    left true z k = absurd (true≢false z)
    left false z (inl k) = same_in r c id d cs (ap (λ (x : StoredClause). x.id) (sym k) ∙ i) (ap (λ (x : StoredClause). x.literals) (sym k) ∙ w)
    left false z (inr k) = record { clause = t; stored = inr k; id_is = i; literals_are = w }

    go : (clause_with ls cs ≡ Some s → IsOneOf t cs → HasAccepted id d (without_clause r ls cs)) → (b : Bool) → cond b (Some c) (clause_with ls cs) ≡ Some s → (t ≡ c) ⊎ IsOneOf t cs → HasAccepted id d (cond b (unless_removed (without_count r c) ++ cs) (c ∷ without_clause r ls cs))
    go ih true k l = let f : c ≡ s = cc in left (gone_then r c) (ap (gone_then r) f ∙ g) l
    go ih false k (inl l) = record { clause = c; stored = inl refl; id_is = ap (λ (x : StoredClause). x.id) (sym l) ∙ i; literals_are = ap (λ (x : StoredClause). x.literals) (sym l) ∙ w }
    go ih false k (inr l) = stands_later id d c (without_clause r ls cs) (ih k l)

-- if a clause is removed, the others are unchanged
stands_other : (r : Bool) (ls : List ℕ) (id : ℕ) (d : List ℕ) (s : StoredClause) (cs : List StoredClause) → clause_with ls cs ≡ Some s → (id ≡ s.id → ⊥) → (t : StoredClause) → IsOneOf t cs → t.id ≡ id → t.literals ≡ d → HasAccepted id d (without_clause r ls cs)
stands_other r ls id d s [] e g t h i w = absurd h
stands_other r ls id d s (c ∷ cs) e g t h i w = go (λ k l. stands_other r ls id d s cs k g t l i w) (same_literals c.literals ls) e h
  where
    after_it : (b : Bool) → IsOneOf t cs → HasAccepted id d (cond b [] (without_count r c ∷ []) ++ cs)
    after_it true k = record { clause = t; stored = k; id_is = i; literals_are = w }
    after_it false k = record { clause = t; stored = inr k; id_is = i; literals_are = w }

    go : (clause_with ls cs ≡ Some s → IsOneOf t cs → HasAccepted id d (without_clause r ls cs)) → (b : Bool) → cond b (Some c) (clause_with ls cs) ≡ Some s → (t ≡ c) ⊎ IsOneOf t cs → HasAccepted id d (cond b (unless_removed (without_count r c) ++ cs) (c ∷ without_clause r ls cs))
    go ih true k (inl l) = absurd (let f : c ≡ s = cc in g (sym i ∙ ap (λ (x : StoredClause). x.id) (l ∙ f)))
    go ih true k (inr l) = after_it (gone_then r c) l
    go ih false k (inl l) = record { clause = c; stored = inl refl; id_is = ap (λ (x : StoredClause). x.id) (sym l) ∙ i; literals_are = ap (λ (x : StoredClause). x.literals) (sym l) ∙ w }
    go ih false k (inr l) = stands_later id d c (without_clause r ls cs) (ih k l)

-- no other stored clause has its literals
others_apart : (ls : List ℕ) (cs : List StoredClause) → clause_with ls cs ≡ None → AllByRecursion (λ c. c.literals ≡ ls → ⊥) cs
others_apart ls [] e = tt
others_apart ls (c ∷ cs) e = go (others_apart ls cs) (same_literals c.literals ls) refl e
  where
    go : (clause_with ls cs ≡ None → AllByRecursion (λ d. d.literals ≡ ls → ⊥) cs) → (b : Bool) → same_literals c.literals ls ≡ b → cond b (Some c) (clause_with ls cs) ≡ None → AllByRecursion (λ d. d.literals ≡ ls → ⊥) (c ∷ cs)
    go ih true t k = absurd cc
    go ih false t k = ((λ f. true≢false (sym (same_from c.literals ls f) ∙ t)), ih k)

left_apart : (r : Bool) (ls : List ℕ) (s : StoredClause) (cs : List StoredClause) → AreDistinctSets cs → clause_with ls cs ≡ Some s → gone_then r s ≡ true → AllByRecursion (λ c. c.literals ≡ ls → ⊥) (without_clause r ls cs)
left_apart r ls s [] o e g = tt
left_apart r ls s (c ∷ cs) o e g = go (λ k. left_apart r ls s cs o.1 k g) (same_literals c.literals ls) refl e
  where
    all_gone : (b : Bool) → b ≡ true → c.literals ≡ ls → AllByRecursion (λ d. d.literals ≡ ls → ⊥) (cond b [] (without_count r c ∷ []) ++ cs)
    all_gone true z f = others_apart ls cs (ap (λ x. clause_with x cs) (sym f) ∙ o.0)
    all_gone false z f = absurd (true≢false (sym z))

    go : (clause_with ls cs ≡ Some s → AllByRecursion (λ d. d.literals ≡ ls → ⊥) (without_clause r ls cs)) → (b : Bool) → same_literals c.literals ls ≡ b → cond b (Some c) (clause_with ls cs) ≡ Some s → AllByRecursion (λ d. d.literals ≡ ls → ⊥) (cond b (unless_removed (without_count r c) ++ cs) (c ∷ without_clause r ls cs))
    go ih true t k = let f : c ≡ s = cc in all_gone (gone_then r c) (ap (gone_then r) f ∙ g) (same c.literals ls t)
    go ih false t k = ((λ f. true≢false (sym (same_from c.literals ls f) ∙ t)), ih k)

both_each : (P Q : StoredClause → Type 0) (cs : List StoredClause) → AllByRecursion P cs → AllByRecursion Q cs → AllByRecursion (λ c. P c × Q c) cs
both_each P Q [] h k = tt
both_each P Q (c ∷ cs) h k = ((h.0, k.0), both_each P Q cs h.1 k.1)

proper_long : (ls : List ℕ) → 2 ≤ length ls → is_long ls ≡ true
proper_long [] h = absurd (omega arith)
proper_long (l ∷ []) h = absurd (omega arith)
proper_long (l ∷ m ∷ ls) h = refl

module _ (r : Bool) (ls : List ℕ) (f : Stored) (lines : List Line) (once : AreDistinctSets f.clauses) (proper : AllByRecursion (λ c. is_long c.literals ≡ true) f.clauses) (none : f.conflict ≡ None) (m : Mirrors f lines) where
  abbrev less : Stored
  less = record f { clauses = without_clause r ls f.clauses }

  stays : (s : StoredClause) → clause_with ls f.clauses ≡ Some s → gone_then r s ≡ false → Mirrors less lines
  stays s e g = record {
    derivation = m.derivation;
    clauses = each_without (IsUnder lines) r ls f.clauses m.clauses;
    units = m.units;
    long = λ id c u l. let k = m.long id c u l in stands_left r ls id c s f.clauses e g k.clause k.stored k.id_is k.literals_are;
    least = m.least;
    conflict = m.conflict;
  }

  gone_kept : (s : StoredClause) (id : ℕ) (c : List ℕ) → (id ≡ s.id → ⊥) → IsUnder lines id c → IsUnder (Removed s.id ∷ lines) id c
  gone_kept s id c n u = ap (λ b. cond b None (clause_under id lines)) (ne_eqb id s.id n) ∙ u

  gone_back : (s : StoredClause) (id : ℕ) (c : List ℕ) → IsUnder (Removed s.id ∷ lines) id c → (id ≡ s.id → ⊥) × IsUnder lines id c
  gone_back s id c u = go (eqb id s.id) refl u
    where
      go : (b : Bool) → eqb id s.id ≡ b → cond b None (clause_under id lines) ≡ Some c → (id ≡ s.id → ⊥) × IsUnder lines id c
      go true e k = absurd cc
      go false e k = (eqb-false id s.id e, k)

  one_clause : (id : ℕ) (c d : List ℕ) → IsUnder lines id c → IsUnder lines id d → c ≡ d
  one_clause id c d u w = let e : Some c ≡ Some d = sym u ∙ w in cc

  goes : (s : StoredClause) → clause_with ls f.clauses ≡ Some s → gone_then r s ≡ true → Mirrors less (Removed s.id ∷ lines)
  goes s e g =
      let first = is_first ls s f.clauses e in
      let under : IsUnder lines s.id s.literals = one_each (λ (c : StoredClause). IsUnder lines c.id c.literals) s f.clauses m.clauses first.stored in
      let long_one : is_long s.literals ≡ true = one_each (λ (c : StoredClause). is_long c.literals ≡ true) s f.clauses proper first.stored in
      record {
        derivation = (m.derivation, record { in_order = tt; clauses = s.literals ∷ []; present = ap (λ o. and_clauses o (Some [])) under; conflict = tt; unused = λ u. u });
        clauses = each_more (λ (c : StoredClause). IsUnder lines c.id c.literals × (c.literals ≡ ls → ⊥)) (λ (c : StoredClause). IsUnder (Removed s.id ∷ lines) c.id c.literals)
            (λ c h. gone_kept s c.id c.literals (λ same_id. h.1 (one_clause c.id c.literals s.literals h.0 (subst (λ i. IsUnder lines i s.literals) (sym same_id) under) ∙ first.literals_are)) h.0)
            (without_clause r ls f.clauses)
            (both_each (λ c. IsUnder lines c.id c.literals) (λ c. c.literals ≡ ls → ⊥) (without_clause r ls f.clauses) (each_without (IsUnder lines) r ls f.clauses m.clauses) (left_apart r ls s f.clauses once e g));
        units = each_more (λ (u : StoredUnit). IsUnder lines u.id (u.literal ∷ [])) (λ (u : StoredUnit). IsUnder (Removed s.id ∷ lines) u.id (u.literal ∷ []))
            (λ u h. gone_kept s u.id (u.literal ∷ []) (λ same_id. true≢false (sym long_one ∙ ap is_long (sym (one_clause u.id (u.literal ∷ []) s.literals h (subst (λ i. IsUnder lines i s.literals) (sym same_id) under))))) h) f.units m.units;
        long = λ id c u l. let b = gone_back s id c u in let k = m.long id c b.1 l in stands_other r ls id c s f.clauses e b.0 k.clause k.stored k.id_is k.literals_are;
        least = m.least;
        conflict = λ ids k. absurd (let x : ◌≡◌ {A = Option (ℕ × ℕ)} None (Some ids) = sym none ∙ k in cc);
      }

  taken_mirrors : (x : Option StoredClause) → clause_with ls f.clauses ≡ x → Mirrors less (line_taken r x lines)
  taken_mirrors None e = aside f less lines (absent_same r ls f.clauses e) refl refl (omega arith) m
  taken_mirrors (Some s) e = go (gone_then r s) refl
    where
      go : (b : Bool) → gone_then r s ≡ b → Mirrors less (cond b (Removed s.id ∷ lines) lines)
      go true g = goes s e g
      go false g = stays s e g

-- the announcement of a deletion
one_less : (n : ℕ) → 0 < n → eqb n 1 ≡ eqb (n - 1) 0
one_less n h = go (eqb n 1) refl
  where
    go : (b : Bool) → eqb n 1 ≡ b → b ≡ eqb (n - 1) 0
    go true e = let k = eqb-true n 1 e in sym (eq-eqb (n - 1) 0 (omega (arith, k)))
    go false e = let k = eqb-false n 1 e in sym (ne_eqb (n - 1) 0 (λ z. k (omega (arith, z, h))))

some_left : (n : ℕ) → nat_lt 0 n ≡ not (eqb n 0)
some_left n = go (eqb n 0) refl
  where
    go : (b : Bool) → eqb n 0 ≡ b → nat_lt 0 n ≡ not b
    go true e = let k = eqb-true n 0 e in le-ltb 0 n (omega (arith, k))
    go false e = let k = eqb-false n 0 e in lt-ltb 0 n (omega (arith, k))

redundant_lines : (x : Option StoredClause) (lines : List Line) → 0 < redundant_count x → lines_by (redundant_deletion x) lines ≡ line_taken true x lines
redundant_lines None lines h = refl
redundant_lines (Some s) lines h = ap (λ b. lines_by (cond (eqb s.irredundant 0 && b) (Rattle.sat_checker.specs.announcements.Announcements.DeleteClause s.id s.literals ∷ []) []) lines) (one_less s.redundant h) ∙ go (gone_then true s)
  where
    go : (b : Bool) → lines_by (cond b (Rattle.sat_checker.specs.announcements.Announcements.DeleteClause s.id s.literals ∷ []) []) lines ≡ cond b (Removed s.id ∷ lines) lines
    go true = refl
    go false = refl

irredundant_lines : (ids : List ℕ) (x : Option StoredClause) (lines : List Line) → 0 < irredundant_count x → lines_by (irredundant_deletion ids x) lines ≡ line_taken false x lines
irredundant_lines ids None lines h = refl
irredundant_lines ids (Some s) lines h = go (eqb s.irredundant 1) (one_less s.irredundant h) (eqb s.redundant 0) (nat_lt 0 s.redundant) (some_left s.redundant)
  where
    go : (b : Bool) → b ≡ eqb (s.irredundant - 1) 0 → (z k : Bool) → k ≡ not z → lines_by (cond b (Rattle.sat_checker.specs.announcements.Announcements.DeleteAtClause s.id k s.literals ids ∷ []) []) lines ≡ cond (eqb (s.irredundant - 1) 0 && z) (Removed s.id ∷ lines) lines
    go true e true k t = ap (λ x. with_line (removal_line x s.id) lines) t ∙ ap (λ b. cond (b && true) (Removed s.id ∷ lines) lines) e
    go true e false k t = ap (λ x. with_line (removal_line x s.id) lines) t ∙ ap (λ b. cond (b && false) (Removed s.id ∷ lines) lines) e
    go false e z k t = ap (λ b. cond (b && z) (Removed s.id ∷ lines) lines) e

-- DELETED VARIABLES
not_in_one : (v : ℕ) (s : StoredClause) (cs : List StoredClause) → list_any (λ c. mentions c.literals v) cs ≡ false → IsOneOf s cs → mentions s.literals v ≡ false
not_in_one v s [] e h = absurd h
not_in_one v s (c ∷ cs) e h =
    let p = or_parts (mentions c.literals v) (list_any (λ d. mentions d.literals v) cs) e in
    elim h [ inl k ↦ ap (λ (d : StoredClause). mentions d.literals v) k ∙ p.0 | inr k ↦ not_in_one v s cs p.1 k ]

long_no_unit : (v : ℕ) (c : List ℕ) → is_long c ≡ true → is_unit_of_variable v c ≡ false
long_no_unit v [] e = refl
long_no_unit v (l ∷ []) e = absurd cc
long_no_unit v (l ∷ m ∷ ls) e = refl

fresh_kept : (v id : ℕ) (c : List ℕ) (lines : List Line) → is_unit_of_variable v c ≡ false → IsUnder lines id c → IsUnder (Fresh v ∷ lines) id c
fresh_kept v id c lines n u = ap (unless_unit_of_variable v) u ∙ ap (λ b. cond b None (Some c)) n

units_left : (v : ℕ) (lines : List Line) (us : List StoredUnit) → AllByRecursion (λ u. IsUnder lines u.id (u.literal ∷ [])) us → AllByRecursion (λ u. IsUnder (Fresh v ∷ lines) u.id (u.literal ∷ [])) (filter (λ u. not (eqb (variable u.literal) v)) us)
units_left v lines [] h = tt
units_left v lines (u ∷ us) h = go (units_left v lines us h.1) (eqb (variable u.literal) v) refl
  where
    go : AllByRecursion (λ w. IsUnder (Fresh v ∷ lines) w.id (w.literal ∷ [])) (filter (λ w. not (eqb (variable w.literal) v)) us) → (b : Bool) → eqb (variable u.literal) v ≡ b
        → AllByRecursion (λ w. IsUnder (Fresh v ∷ lines) w.id (w.literal ∷ [])) (cond (not b) (u ∷ filter (λ w. not (eqb (variable w.literal) v)) us) (filter (λ w. not (eqb (variable w.literal) v)) us))
    go ih true e = ih
    go ih false e = (fresh_kept v u.id (u.literal ∷ []) lines e h.0, ih)

deleted_mirrors : (v : ℕ) (f : Stored) (lines : List Line) → AllByRecursion (λ c. is_long c.literals ≡ true) f.clauses → f.conflict ≡ None → CanBeDeleted f v → Mirrors f lines → Mirrors (without_variable v f) (Fresh v ∷ lines)
deleted_mirrors v f lines proper none may m = record {
  derivation = (
    m.derivation,
    record {
      in_order = tt;
      clauses = [];
      present = refl;
      conflict = tt;
      unused = λ u. let s = m.long u.id u.clause u.present u.long in true≢false (sym u.within ∙ ap (λ c. mentions c v) (sym s.literals_are) ∙ not_in_one v s.clause f.clauses may.unused s.stored);
    },
  );
  clauses = each_more (λ (c : StoredClause). IsUnder lines c.id c.literals × (is_long c.literals ≡ true)) (λ (c : StoredClause). IsUnder (Fresh v ∷ lines) c.id c.literals)
      (λ c h. fresh_kept v c.id c.literals lines (long_no_unit v c.literals h.1) h.0) f.clauses (both_each (λ c. IsUnder lines c.id c.literals) (λ c. is_long c.literals ≡ true) f.clauses m.clauses proper);
  units = units_left v lines f.units m.units;
  long = λ id c u l. m.long id c (still v (clause_under id lines) c u).0 l;
  least = m.least;
  conflict = λ ids k. absurd (let x : ◌≡◌ {A = Option (ℕ × ℕ)} None (Some ids) = sym none ∙ k in cc);
}

-- CORES
denied_core : (core : List ℕ) → is_tautology (map negated core) ≡ true → is_tautology (canonical core) ≡ true
denied_core core t =
    let s = both_signs (map negated core) t in
    canonical_tautology core ∙ tautology_from core (negated s.literal) (sym (among_negated core s.literal) ∙ s.within) (sym (among_negated core (negated s.literal)) ∙ s.negation)

core_mirrors : (f : Stored) (lines : List Line) (core hs : List ℕ) → (is_tautology (map negated core) ≡ true → propagations f (map negated core) hs ≡ []) → (is_tautology (map negated core) ≡ false → FollowsByPropagation f (map negated core) (propagations f (map negated core) hs)) → Mirrors f lines → Mirrors f (Core (canonical core) (propagations f (map negated core) hs) ∷ lines)
core_mirrors f lines core hs nothing rests m = record {
  derivation = (m.derivation, go (is_tautology (map negated core)) refl);
  clauses = m.clauses;
  units = m.units;
  long = m.long;
  least = m.least;
  conflict = m.conflict;
}
  where
    ids : List ℕ
    ids = propagations f (map negated core) hs

    go : (b : Bool) → is_tautology (map negated core) ≡ b → FollowsLines lines (Core (canonical core) ids)
    go true t = record { in_order = tt; clauses = []; present = ap (λ is. clauses_under is lines) (nothing t); conflict = inl (denied_core core t); unused = λ u. u }
    go false t =
        let r = rests t in
        record {
          in_order = tt;
          clauses = map (λ u. u.literal ∷ []) r.units ++ map (λ c. c.literals) r.clauses;
          present = rests_present f lines m (map negated core) ids r;
          conflict = inr (same_runs (map (λ u. u.literal ∷ []) r.units ++ map (λ c. c.literals) r.clauses) (map negated (map negated core)) (canonical core) (core_same core) r.conflict);
          unused = λ u. u;
        }

-- EVERY STEP
all_long : (cs : List StoredClause) → AllByRecursion IsProperClause (map (λ c. c.literals) cs) → AllByRecursion (λ c. is_long c.literals ≡ true) cs
all_long [] h = tt
all_long (c ∷ cs) h = (proper_long c.literals h.0.two, all_long cs h.1)

one_from_all : (f : Stored) → AllByRecursion IsProperClause (map (λ c. c.literals) f.clauses) → AllByRecursion (λ c. is_long c.literals ≡ true) f.clauses
one_from_all f h = all_long f.clauses h

-- the lines announced up to a step, and by it
lines_next : (step : Step) (earlier : List Step) → announced_lines (notices_after (step ∷ earlier)) [] ≡ lines_by (announced (ready_after earlier) step) (lines_of_steps earlier)
lines_next step earlier =
    lines-append (all_notices_after earlier) (notices_of (ready_after earlier) (announced (ready_after earlier) step)) [] ∙ reported_lines (ready_after earlier) (announced (ready_after earlier) step) (lines_of_steps earlier)

settled_has_none : (f : Stored) → (with_conflict_settled f).conflict ≡ None
settled_has_none f = go f.conflict refl
  where
    go : (x : Option (ℕ × ℕ)) → f.conflict ≡ x → (settled_by x f).conflict ≡ None
    go None e = e
    go (Some ids) e = refl

module _ (tidy : StoredInvariantHolds) (in_turn : PropagationsInTurn) (nothing : TautologiesNeedNoIds) (earlier : List Step) (ok : AcceptsAll earlier) (lines : List Line) (m : Mirrors (ready_after earlier) lines) where
  abbrev before : Stored
  before = ready_after earlier

  longs : AllByRecursion (λ c. is_long c.literals ≡ true) before.clauses
  longs = one_from_all before (tidy earlier ok).proper

  once : AreDistinctSets before.clauses
  once = (tidy earlier ok).once

  settled_now : before.conflict ≡ None
  settled_now = settled_has_none (stored_after earlier)

  step_mirrors : (step : Step) → Accepts before step → Mirrors (effect step before) (lines_by (announced before step) lines)
  step_mirrors (SolverVarName v None) a = aside before (effect (SolverVarName v None) before) lines refl refl refl (omega arith) m
  step_mirrors (UserVarName v (Some name)) a = aside before (effect (UserVarName v (Some name)) before) lines refl refl refl (omega arith) m
  step_mirrors (DeleteVar v) a = deleted_mirrors v before lines longs settled_now a m
  step_mirrors (ChangeSamplingMode v sample) a = mode_mirrors (before.variables v).mode (before.variables v).name
    where
      mode_mirrors : (mode : Mode) (name : Option ℕ) → Mirrors (effect (ChangeSamplingMode v sample) before) (lines_by (announced_mode_change v sample mode name) lines)
      mode_mirrors mode None = aside before (effect (ChangeSamplingMode v sample) before) lines refl refl refl (omega arith) m
      mode_mirrors mode (Some name) = changed_mode (cond sample (is_sample mode) (has_witness_mode mode))
        where
          changed_mode : (b : Bool) → Mirrors (effect (ChangeSamplingMode v sample) before) (lines_by (cond b [] (Rattle.sat_checker.specs.announcements.Announcements.UserVar v (Some (record { name = name; sampling = sample; is_new = false })) ∷ [])) lines)
          changed_mode true = aside before (effect (ChangeSamplingMode v sample) before) lines refl refl refl (omega arith) m
          changed_mode false = aside before (effect (ChangeSamplingMode v sample) before) lines refl refl refl (omega arith) m
  step_mirrors (AddClause c) a = go before.unsat
    where
      go : (b : Bool) → Mirrors (cond b before (with_input c (with_literals_known c before))) (lines_by (cond b [] (announced_input c before)) lines)
      go true = m
      go false = input_mirrors c before (map variable c) lines m
  step_mirrors (AtClause r c hs) a = derived_mirrors r c hs before (map variable c) lines (λ t. in_turn earlier [] c hs ok a t) m
  step_mirrors (UnitClauses us) a =
      let ls : List ℕ = map (λ u. u.0) us in
      subst (λ g. Mirrors g (lines_by (announced_derived_units us before) lines)) (sym (known_units (map variable ls) ls before))
      (known_mirrors (map variable ls) (with_units ls before) (lines_by (announced_derived_units us before) lines) (units_mirrors in_turn earlier ok us [] lines a m))
  step_mirrors (DeleteClause c Redundant) a =
      subst (Mirrors (effect (DeleteClause c Redundant) before)) (sym (redundant_lines (clause_with (canonical c) before.clauses) lines a))
      (taken_mirrors true (canonical c) before lines once longs settled_now m (clause_with (canonical c) before.clauses) refl)
  step_mirrors (DeleteClause c Satisfied) a =
      subst (Mirrors (effect (DeleteClause c Satisfied) before)) (sym (irredundant_lines (option_to_list (satisfying_unit (canonical c) before.units)) (clause_with (canonical c) before.clauses) lines a.0))
      (taken_mirrors false (canonical c) before lines once longs settled_now m (clause_with (canonical c) before.clauses) refl)
  step_mirrors (DeleteClause c Simplified) a =
      subst (Mirrors (effect (DeleteClause c Simplified) before)) (sym (irredundant_lines (option_to_list (last_id before.last)) (clause_with (canonical c) before.clauses) lines a.0))
      (taken_mirrors false (canonical c) before lines once longs settled_now m (clause_with (canonical c) before.clauses) refl)
  step_mirrors (Model ls) a = known_mirrors (map variable ls) before lines m
  step_mirrors (FailedAssumptions core hs) a = core_mirrors before lines core hs (nothing before (map negated core) hs) (λ t. in_turn earlier [] (map negated core) hs ok a.1 t) m
  step_mirrors step a = aside before (effect step before) lines refl refl refl (omega arith) m

module _ (tidy : StoredInvariantHolds) (in_turn : PropagationsInTurn) (nothing : TautologiesNeedNoIds) where
  settled_after : (steps : List Step) → Mirrors (stored_after steps) (announced_lines (notices_after steps) []) → Mirrors (ready_after steps) (lines_of_steps steps)
  settled_after steps m =
      subst (Mirrors (ready_after steps)) (sym (lines-append (notices_after steps) (notices_of (stored_after steps) (delayed_announcement (stored_after steps))) [] ∙ reported_lines (stored_after steps) (delayed_announcement (stored_after steps)) (announced_lines (notices_after steps) [])))
      (settled_mirrors (stored_after steps) (announced_lines (notices_after steps) []) (stored_after steps).conflict refl m)

  reported_mirrors : (steps : List Step) → AcceptsAll steps → Mirrors (stored_after steps) (announced_lines (notices_after steps) [])
  reported_mirrors [] ok = record { derivation = tt; clauses = tt; units = tt; long = λ id c u l. absurd cc; least = omega arith; conflict = λ ids e. absurd cc }
  reported_mirrors (step ∷ earlier) ok =
      let ready = settled_after earlier (reported_mirrors earlier ok.0) in
      let next = step_mirrors tidy in_turn nothing earlier ok.0 (lines_of_steps earlier) ready step ok.1 in
      subst (Mirrors (stored_after (step ∷ earlier))) (sym (lines_next step earlier)) next

  pub all_mirrors : (steps : List Step) → AcceptsAll steps → Mirrors (ready_after steps) (lines_of_steps steps)
  all_mirrors steps ok = settled_after steps (reported_mirrors steps ok)
