-- Every variable of a stored clause, of a unit or of an assumption is known.
use Rattle.std.proofs.Common.{ℕ, ◌≡◌, Bool, true, false, not, cond, eqb, List, [], ◌∷◌, map, filter, Option, None, Some, refl, sym, ◌∙◌, ap, subst, inl, inr}
use Rattle.std.proofs.lemmas.Bool.{or_cases, or_left, or_right, or_parts, eqb-true, eq-eqb}
use Rattle.std.specs.List.{AllByRecursion, list_any}
use Rattle.sat_base.specs.values.Literals.{variable}
use Rattle.sat_base.specs.steps.Steps.{Redundant, Simplified, Satisfied, Step, SolverVarName, UserVarName, DeleteVar, AddClause, AtClause, UnitClauses, DeleteClause, ChangeHashBits, Model, Assumptions, FailedAssumptions, End}
use Rattle.sat_checker.specs.LiteralSets.{is_among, mentions, canonical}
use Rattle.sat_checker.specs.Stored.{StoredClause, StoredUnit, initial_variable, Stored, unit_literals, long_clauses, is_known}
use Rattle.sat_checker.specs.Storing.{settled_by, with_conflict_settled, with_stored, with_input, with_units, with_literals_known, without_variable}
use Rattle.sat_checker.specs.Accepts.{CanBeDeleted, Accepts, AcceptsAll, effect, stored_after, ready_after}
use Rattle.sat_checker.specs.Invariants.{VariablesAreKnown}
use Rattle.sat_checker.proofs.lemmas.sets.Members.{canonical_each, each_member, each_weaker}
use Rattle.sat_checker.proofs.lemmas.meaning.Clauses.{literals_of}
use Rattle.sat_checker.proofs.lemmas.meaning.Names.{stored_same, units_same, known_stays}
use Rattle.sat_checker.proofs.lemmas.invariants.Each.{each_without, each_units, each_stored, units_units, units_stored}

-- the variables of these clauses, units and assumptions are known
pub record Knows (known : ℕ → Bool) (clauses : List (List ℕ)) (units assumed : List ℕ) : Type 0 where
  pub clauses_known : AllByRecursion (AllByRecursion (λ l. known (variable l) ≡ true)) clauses
  pub units_known : AllByRecursion (λ l. known (variable l) ≡ true) units
  pub assumed_known : AllByRecursion (λ l. known (variable l) ≡ true) assumed

abbrev pub known_in : Stored → ℕ → Bool
known_in f v = (f.variables v).known

abbrev pub KnowsAll : Stored → Type 0
KnowsAll f = Knows (known_in f) (long_clauses f) (unit_literals f) f.assumed

-- `Knows` still holds if more variables are known
knows_more : (p q : ℕ → Bool) (clauses : List (List ℕ)) (units assumed : List ℕ) → ((v : ℕ) → p v ≡ true → q v ≡ true) → Knows p clauses units assumed → Knows q clauses units assumed
knows_more p q clauses units assumed w k = record {
  clauses_known = each_weaker (AllByRecursion (λ l. p (variable l) ≡ true)) (AllByRecursion (λ l. q (variable l) ≡ true)) (λ c h. lits c h) clauses k.clauses_known;
  units_known = lits units k.units_known;
  assumed_known = lits assumed k.assumed_known;
}
  where
    lits : (ls : List ℕ) → AllByRecursion (λ l. p (variable l) ≡ true) ls → AllByRecursion (λ l. q (variable l) ≡ true) ls
    lits ls h = each_weaker (λ l. p (variable l) ≡ true) (λ l. q (variable l) ≡ true) (λ l e. w (variable l) e) ls h

variable_among : (ls : List ℕ) (l : ℕ) → is_among ls l ≡ true → is_among (map variable ls) (variable l) ≡ true
variable_among [] l h = h
variable_among (m ∷ ms) l h = elim (or_cases (eqb m l) (is_among ms l) h) [
  | inl e ↦ or_left (eqb (variable m) (variable l)) (is_among (map variable ms) (variable l)) (eq-eqb (variable m) (variable l) (ap variable (eqb-true m l e)))
  | inr k ↦ or_right (eqb (variable m) (variable l)) (is_among (map variable ms) (variable l)) (variable_among ms l k)
]

-- the variables of these literals are known once they are made known
learned : (f : Stored) (ls : List ℕ) → VariablesAreKnown (with_literals_known ls f) ls
learned f ls = each_member (λ l. is_known (variable l) (with_literals_known ls f) ≡ true) ls
    (λ l k. ap (λ b. (cond b (record (f.variables (variable l)) { known = true }) (f.variables (variable l))).known) (variable_among ls l k))

known_more : (f : Stored) (ls : List ℕ) (v : ℕ) → is_known v f ≡ true → is_known v (with_literals_known ls f) ≡ true
known_more f ls v h = go (is_among (map variable ls) v)
  where
    go : (b : Bool) → (cond b (record (f.variables v) { known = true }) (f.variables v)).known ≡ true
    go true = refl
    go false = h

-- `Knows` holds for every state with the same variables
knows_same : (f g : Stored) (clauses : List (List ℕ)) (units assumed : List ℕ) → g.variables ≡ f.variables → Knows (known_in f) clauses units assumed → Knows (known_in g) clauses units assumed
knows_same f g clauses units assumed e k = knows_more (known_in f) (known_in g) clauses units assumed (λ v h. ap (λ x. (x v).known) e ∙ h) k

knows_learned : (f : Stored) (ls : List ℕ) → KnowsAll f → KnowsAll (with_literals_known ls f)
knows_learned f ls k = knows_more (known_in f) (known_in (with_literals_known ls f)) (long_clauses f) (unit_literals f) f.assumed (known_more f ls) k

-- `KnowsAll` still holds after a clause with known variables is stored
knows_stored : (f : Stored) (r : Bool) (clause : List ℕ) → KnowsAll f → VariablesAreKnown f clause → KnowsAll (with_stored r clause f)
knows_stored f r clause k known =
    let s = stored_same r clause f in
    let set : VariablesAreKnown f (canonical clause) = canonical_each (λ l. is_known (variable l) f ≡ true) clause known in
    knows_same f (with_stored r clause f) (long_clauses (with_stored r clause f)) (unit_literals (with_stored r clause f)) (with_stored r clause f).assumed s.variables (record {
      clauses_known = each_stored (VariablesAreKnown f) r clause f k.clauses_known (λ e n. set);
      units_known = units_stored (λ l. is_known (variable l) f ≡ true) r clause f k.units_known set;
      assumed_known = subst (VariablesAreKnown f) (sym s.assumed) k.assumed_known;
    })

knows_units : (f : Stored) (ls : List ℕ) → KnowsAll f → VariablesAreKnown f ls → KnowsAll (with_units ls f)
knows_units f ls k known =
    let s = units_same ls f in
    knows_same f (with_units ls f) (long_clauses (with_units ls f)) (unit_literals (with_units ls f)) (with_units ls f).assumed s.variables (record {
      clauses_known = each_units (VariablesAreKnown f) ls f k.clauses_known;
      units_known = units_units (λ l. is_known (variable l) f ≡ true) ls f k.units_known known;
      assumed_known = subst (VariablesAreKnown f) (sym s.assumed) k.assumed_known;
    })

-- a variable that nothing mentions may be deleted
module _ (f : Stored) (v : ℕ) where
  still : (w : ℕ) → eqb w v ≡ false → is_known w f ≡ true → is_known w (without_variable v f) ≡ true
  still w e h = ap (λ b. (cond b initial_variable (f.variables w)).known) e ∙ h

  literals_still : (ls : List ℕ) → mentions ls v ≡ false → VariablesAreKnown f ls → VariablesAreKnown (without_variable v f) ls
  literals_still [] n h = tt
  literals_still (l ∷ ls) n h = let p = or_parts (eqb (variable l) v) (mentions ls v) n in (still (variable l) p.0 h.0, literals_still ls p.1 h.1)

  clauses_still : (cs : List StoredClause) → list_any (λ c. mentions c.literals v) cs ≡ false → AllByRecursion (VariablesAreKnown f) (literals_of cs) → AllByRecursion (VariablesAreKnown (without_variable v f)) (literals_of cs)
  clauses_still [] n h = tt
  clauses_still (c ∷ cs) n h =
      let p = or_parts (mentions c.literals v) (list_any (λ d. mentions d.literals v) cs) n in (literals_still c.literals p.0 h.0, clauses_still cs p.1 h.1)

  units_still : (us : List StoredUnit) → VariablesAreKnown f (map (λ u. u.literal) us) → VariablesAreKnown (without_variable v f) (map (λ u. u.literal) (filter (λ u. not (eqb (variable u.literal) v)) us))
  units_still [] h = tt
  units_still (u ∷ us) h = go (units_still us h.1) (eqb (variable u.literal) v) refl
    where
      go : VariablesAreKnown (without_variable v f) (map (λ w. w.literal) (filter (λ w. not (eqb (variable w.literal) v)) us)) → (b : Bool) → eqb (variable u.literal) v ≡ b
          → VariablesAreKnown (without_variable v f) (map (λ w. w.literal) (cond (not b) (u ∷ filter (λ w. not (eqb (variable w.literal) v)) us) (filter (λ w. not (eqb (variable w.literal) v)) us)))
      go ih true e = ih
      go ih false e = (still (variable u.literal) e h.0, ih)

  knows_deleted : CanBeDeleted f v → KnowsAll f → KnowsAll (without_variable v f)
  knows_deleted m k = record {
    clauses_known = clauses_still f.clauses m.unused k.clauses_known;
    units_known = units_still f.units k.units_known;
    assumed_known = literals_still f.assumed m.not_assumed k.assumed_known;
  }

module _ (f : Stored) (k : KnowsAll f) where
  -- `Knows` still holds after a step that deletes no variable
  stays : (step : Step) → ((v : ℕ) → step ≡ DeleteVar v → ⊥) → Knows (known_in (effect step f)) (long_clauses f) (unit_literals f) f.assumed
  stays step n = knows_more (known_in f) (known_in (effect step f)) (long_clauses f) (unit_literals f) f.assumed (λ v h. elim (known_stays f step v h) [ inl e ↦ e | inr d ↦ absurd (n v d) ]) k

  knows_effect : (step : Step) → Accepts f step → KnowsAll (effect step f)
  knows_effect (SolverVarName v None) a = stays (SolverVarName v None) (λ w e. absurd cc)
  knows_effect (UserVarName v (Some name)) a = stays (UserVarName v (Some name)) (λ w e. absurd cc)
  knows_effect (DeleteVar v) a = knows_deleted f v a k
  knows_effect (AddClause clause) a = go f.unsat
    where
      put : KnowsAll (with_stored false clause (with_literals_known clause f)) → KnowsAll (with_input clause (with_literals_known clause f))
      put h = record { clauses_known = h.clauses_known; units_known = h.units_known; assumed_known = h.assumed_known }

      go : (b : Bool) → KnowsAll (cond b f (with_input clause (with_literals_known clause f)))
      go true = k
      go false = put (knows_stored (with_literals_known clause f) false clause (knows_learned f clause k) (learned f clause))
  knows_effect (AtClause r clause hashes) a = knows_stored (with_literals_known clause f) r clause (knows_learned f clause k) (learned f clause)
  knows_effect (UnitClauses us) a = let ls : List ℕ = map (λ u. u.0) us in knows_units (with_literals_known ls f) ls (knows_learned f ls k) (learned f ls)
  knows_effect (DeleteClause clause Redundant) a = record { clauses_known = each_without (VariablesAreKnown f) true (canonical clause) f.clauses k.clauses_known; units_known = k.units_known; assumed_known = k.assumed_known }
  knows_effect (DeleteClause clause Simplified) a = record { clauses_known = each_without (VariablesAreKnown f) false (canonical clause) f.clauses k.clauses_known; units_known = k.units_known; assumed_known = k.assumed_known }
  knows_effect (DeleteClause clause Satisfied) a = record { clauses_known = each_without (VariablesAreKnown f) false (canonical clause) f.clauses k.clauses_known; units_known = k.units_known; assumed_known = k.assumed_known }
  knows_effect (ChangeHashBits bits) a = record { clauses_known = k.clauses_known; units_known = k.units_known; assumed_known = k.assumed_known }
  knows_effect (Model ls) a = knows_learned f ls k
  knows_effect (Assumptions ls) a = let m = knows_learned f ls k in record { clauses_known = m.clauses_known; units_known = m.units_known; assumed_known = learned f ls }
  knows_effect (FailedAssumptions core hashes) a = k
  knows_effect End a = record { clauses_known = k.clauses_known; units_known = k.units_known; assumed_known = k.assumed_known }
  knows_effect step a = stays step (λ w e. absurd cc)

knows_settled : (f : Stored) → KnowsAll f → KnowsAll (with_conflict_settled f)
knows_settled f k = go f.conflict
  where
    go : (o : Option (ℕ × ℕ)) → KnowsAll (settled_by o f)
    go None = k
    go (Some units) = record { clauses_known = k.clauses_known; units_known = k.units_known; assumed_known = k.assumed_known }

pub all_known : (steps : List Step) → AcceptsAll steps → KnowsAll (ready_after steps)
all_known [] ok = record { clauses_known = tt; units_known = tt; assumed_known = tt }
all_known (step ∷ earlier) ok = knows_settled (stored_after (step ∷ earlier)) (knows_effect (ready_after earlier) (all_known earlier ok.0) step ok.1)
