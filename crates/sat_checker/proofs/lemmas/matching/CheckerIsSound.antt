-- The checker of proofs guarantees what matching requires of a checker.
use Rattle.std.proofs.Common.{ℕ, ◌+◌, ◌-◌, ◌≡◌, Bool, true, false, cond, eqb, List, [], ◌∷◌, map, Option, Some, None, refl, sym, ◌∙◌, ap, subst, arith, ◌⊎◌, inl, inr}
use Rattle.std.proofs.lemmas.Bool.{or_cases, true≢false, eqb-true, eq-eqb}
use Rattle.std.specs.List.{AllByRecursion}
use Rattle.sat_base.specs.values.Literals.{variable}
use Rattle.sat_base.specs.script.Script.{Among}
use Rattle.sat_base.specs.steps.Steps.{Redundant, Step, SolverVarName, UserVarName, DeleteVar, ChangeSamplingMode, AddClause, AtClause, UnitClauses, DeleteClause, Model, Assumptions}
use Rattle.sat_checker.specs.Accepts.{Accepts, AcceptsAll, effect, stored_after, ready_after}
use Rattle.sat_checker.specs.LiteralSets.{is_among}
use Rattle.sat_checker.specs.Stored.{Stored, Variable, Sample, Witness, Hide, initial_variable, is_known}
use Rattle.sat_checker.specs.Storing.{with_conflict_settled, with_stored, with_input, with_units, with_literals_known}
use Rattle.sat_checker.proofs.lemmas.meaning.Answers.{unsat_means_none, models_extend, cores_fail, cores_assumed}
use Rattle.sat_checker.proofs.lemmas.meaning.Names.{SameVariables, stored_same, units_same, settled_same, named_is_known, known_stays}
use Rattle.sat_checker.specs.matching.Checking.{is_variable, variable_named, latest_assumptions, AreAcceptedBy, IsSound}
use Rattle.sat_checker.specs.matching.ProofChecking.{checker_rules}

pub all_accepted : (steps : List Step) → AreAcceptedBy checker_rules steps → AcceptsAll steps
all_accepted [] h = tt
all_accepted (step ∷ earlier) h = (all_accepted earlier h.0, h.1)

-- THE ASSUMPTIONS

assumed_by : (step : Step) (f : Stored) (earlier : List Step) → f.assumed ≡ latest_assumptions earlier → (effect step f).assumed ≡ latest_assumptions (step ∷ earlier)
assumed_by (SolverVarName v None) f es e = e
assumed_by (UserVarName v (Some n)) f es e = e
assumed_by (AddClause c) f es e = go f.unsat
  where
    go : (b : Bool) → (cond b f (with_input c (with_literals_known c f))).assumed ≡ latest_assumptions es
    go true = e
    go false = (stored_same false c (with_literals_known c f)).assumed ∙ e
assumed_by (AtClause r c hs) f es e = (stored_same r c (with_literals_known c f)).assumed ∙ e
assumed_by (UnitClauses us) f es e = let ls : List ℕ = map (λ u. u.0) us in (units_same ls (with_literals_known ls f)).assumed ∙ e
assumed_by (DeleteClause c Redundant) f es e = e
assumed_by (Assumptions ls) f es e = refl
assumed_by step f es e = e

assumed_after : (steps : List Step) → (ready_after steps).assumed ≡ latest_assumptions steps
assumed_after [] = refl
assumed_after (step ∷ earlier) = (settled_same (stored_after (step ∷ earlier))).assumed ∙ assumed_by step (ready_after earlier) earlier (assumed_after earlier)

is_there : (ls : List ℕ) (l : ℕ) → is_among ls l ≡ true → Among l ls
is_there [] l e = absurd (true≢false (sym e))
is_there (x ∷ xs) l e = elim (or_cases (eqb x l) (is_among xs l) e) [ inl s ↦ inl (sym (eqb-true x l s)) | inr m ↦ inr (is_there xs l m) ]

each_there : (ks ls ms : List ℕ) → ks ≡ ms → AllByRecursion (λ l. is_among ks l ≡ true) ls → AllByRecursion (λ l. Among l ms) ls
each_there ks [] ms e h = tt
each_there ks (l ∷ ls) ms e h = (subst (Among l) e (is_there ks l h.0), each_there ks ls ms e h.1)

-- THE NAMES OF VARIABLES

-- every name that the steps gave and did not remove is the name of its variable
abbrev Named : (ℕ → Variable) → (ℕ → Option ℕ) → Type 0
Named variables named = (v name : ℕ) → named name ≡ Some v → (variables v).name ≡ Some (name - 1)

some_same : (v w : ℕ) → Some v ≡ Some w → v ≡ w
some_same v w e = cc

none_some : (n : ℕ) → None ≡ Some n → ⊥
none_some n e = cc

named_known : (variables : ℕ → Variable) (named : ℕ → Option ℕ) (vs : List ℕ) → Named variables named → Named (λ v. cond (is_among vs v) (record (variables v) { known = true }) (variables v)) named
named_known variables named vs h v name e = go (is_among vs v)
  where
    go : (b : Bool) → (cond b (record (variables v) { known = true }) (variables v)).name ≡ Some (name - 1)
    go true = h v name e
    go false = h v name e

named_same : (f g : Stored) (named : ℕ → Option ℕ) → SameVariables f g → Named f.variables named → Named g.variables named
named_same f g named s h = subst (λ vs. Named vs named) (sym s.variables) h

-- a variable's other data may be set if its name stays the same
named_set : (variables : ℕ → Variable) (named : ℕ → Option ℕ) (w : ℕ) (x : Variable) → x.name ≡ (variables w).name → Named variables named → Named (λ v. cond (eqb v w) x (variables v)) named
named_set variables named w x k h v name e = go (eqb v w) refl
  where
    go : (b : Bool) → eqb v w ≡ b → (cond b x (variables v)).name ≡ Some (name - 1)
    go true m = k ∙ ap (λ u. (variables u).name) (sym (eqb-true v w m)) ∙ h v name e
    go false m = h v name e

-- the data of a variable that has no name may be set
named_without : (variables : ℕ → Variable) (named : ℕ → Option ℕ) (w : ℕ) (x : Variable) → ((name : ℕ) → named name ≡ Some w → ⊥) → Named variables named → Named (λ v. cond (eqb v w) x (variables v)) named
named_without variables named w x none h v name e = go (eqb v w) refl
  where
    go : (b : Bool) → eqb v w ≡ b → (cond b x (variables v)).name ≡ Some (name - 1)
    go true m = absurd (none name (e ∙ ap Some (eqb-true v w m)))
    go false m = h v name e

-- a variable that has no name got none from the steps, or lost it again
never_named : (variables : ℕ → Variable) (named : ℕ → Option ℕ) (w : ℕ) → Named variables named → (variables w).name ≡ None → (name : ℕ) → named name ≡ Some w → ⊥
never_named variables named w h none name e = none_some (name - 1) (sym none ∙ h w name e)

names_by : (step : Step) (f : Stored) (earlier : List Step) → Accepts f step → Named f.variables (variable_named earlier) → Named (effect step f).variables (variable_named (step ∷ earlier))
names_by (SolverVarName v (Some n)) f es a h = named_known f.variables (variable_named es) (v ∷ []) h
names_by (UserVarName w (Some n)) f es a h = λ v name e. by_name v name (eqb (n + 1) name) refl e
  where
    by_name : (v name : ℕ) (b : Bool) → eqb (n + 1) name ≡ b → cond b (Some w) (variable_named es name) ≡ Some v → (cond (eqb v w) (record (f.variables w) { known = true; name = Some n }) (f.variables v)).name ≡ Some (name - 1)
    by_name v name true m e =
        let same : eqb v w ≡ true = eq-eqb v w (sym (some_same w v e)) in
        let k = eqb-true (n + 1) name m in
        let is : n ≡ name - 1 = omega arith in
        ap (λ b. (cond b (record (f.variables w) { known = true; name = Some n }) (f.variables v)).name) same ∙ ap Some is
    by_name v name false m e = named_without f.variables (variable_named es) w (record (f.variables w) { known = true; name = Some n }) (never_named f.variables (variable_named es) w h a.nameless) h v name e
names_by (UserVarName w None) f es a h = λ v name e. by_name v name (is_variable w (variable_named es name)) refl e
  where
    at_variable : (o : Option ℕ) (v : ℕ) → o ≡ Some v → is_variable w o ≡ false → eqb v w ≡ false
    at_variable None v e k = absurd (none_some v e)
    at_variable (Some u) v e k = subst (λ x. eqb x w ≡ false) (some_same u v e) k

    by_name : (v name : ℕ) (b : Bool) → is_variable w (variable_named es name) ≡ b → cond b None (variable_named es name) ≡ Some v → (cond (eqb v w) (record (f.variables w) { mode = Hide; name = None }) (f.variables v)).name ≡ Some (name - 1)
    by_name v name true m e = absurd (none_some v e)
    by_name v name false m e =
        let other : eqb v w ≡ false = at_variable (variable_named es name) v e m in
        ap (λ b. (cond b (record (f.variables w) { mode = Hide; name = None }) (f.variables v)).name) other ∙ h v name e
names_by (DeleteVar w) f es a h = named_without f.variables (variable_named es) w initial_variable (never_named f.variables (variable_named es) w h a.nameless) h
names_by (ChangeSamplingMode w s) f es a h = named_set f.variables (variable_named es) w (record (f.variables w) { mode = cond s Sample Witness }) refl h
names_by (AddClause c) f es a h = go f.unsat
  where
    go : (b : Bool) → Named (cond b f (with_input c (with_literals_known c f))).variables (variable_named es)
    go true = h
    go false = named_same (with_literals_known c f) (with_stored false c (with_literals_known c f)) (variable_named es) (stored_same false c (with_literals_known c f)) (named_known f.variables (variable_named es) (map variable c) h)
names_by (AtClause r c hs) f es a h = named_same (with_literals_known c f) (with_stored r c (with_literals_known c f)) (variable_named es) (stored_same r c (with_literals_known c f)) (named_known f.variables (variable_named es) (map variable c) h)
names_by (UnitClauses us) f es a h =
    let ls : List ℕ = map (λ u. u.0) us in named_same (with_literals_known ls f) (with_units ls (with_literals_known ls f)) (variable_named es) (units_same ls (with_literals_known ls f)) (named_known f.variables (variable_named es) (map variable ls) h)
names_by (DeleteClause c Redundant) f es a h = h
names_by (Model ls) f es a h = named_known f.variables (variable_named es) (map variable ls) h
names_by (Assumptions ls) f es a h = named_known f.variables (variable_named es) (map variable ls) h
names_by step f es a h = h

names_after : (steps : List Step) → AcceptsAll steps → Named (ready_after steps).variables (variable_named steps)
names_after [] ok = λ v name e. absurd (none_some v e)
names_after (step ∷ earlier) ok =
    named_same (stored_after (step ∷ earlier)) (ready_after (step ∷ earlier)) (variable_named (step ∷ earlier)) (settled_same (stored_after (step ∷ earlier)))
    (names_by step (ready_after earlier) earlier ok.1 (names_after earlier ok.0))

-- THE KNOWN VARIABLES

known_ready : (f : Stored) (v : ℕ) → is_known v f ≡ true → is_known v (with_conflict_settled f) ≡ true
known_ready f v h = ap (λ k. (k v).known) (settled_same f).variables ∙ h

stays_known : (earlier : List Step) (step : Step) (v : ℕ) → is_known v (ready_after earlier) ≡ true → (is_known v (ready_after (step ∷ earlier)) ≡ true) ⊎ (step ≡ DeleteVar v)
stays_known earlier step v h = elim (known_stays (ready_after earlier) step v h) [ inl k ↦ inl (known_ready (stored_after (step ∷ earlier)) v k) | inr d ↦ inr d ]

pub the_checking_sound : IsSound checker_rules
the_checking_sound = record {
  none_left = λ earlier a acc u h. unsat_means_none earlier a (all_accepted earlier acc) u h;
  model = λ earlier ls acc m.
      let e = models_extend earlier ls (all_accepted earlier acc) m in
      (e.1.0, e.0 e.1.0 e.1.1 e.1.2, e.1.1);
  core = λ earlier ls hashes a acc m h t. cores_fail earlier ls hashes a (all_accepted earlier acc) m h t;
  among = λ earlier ls hashes acc m. each_there (ready_after earlier).assumed ls (latest_assumptions earlier) (assumed_after earlier) (cores_assumed (ready_after earlier) ls hashes m);
  names = λ earlier v index m. known_ready (stored_after (UserVarName v (Some index) ∷ earlier)) v (named_is_known (ready_after earlier) v index);
  keeps = λ earlier step v m h. stays_known earlier step v h;
  nameless = λ earlier v name acc m e. never_named (ready_after earlier).variables (variable_named earlier) v (names_after earlier (all_accepted earlier acc)) m.nameless name e;
}
