-- Which variables are known and which have names, after accepted steps.
use Rattle.std.proofs.Common.{ℕ, ◌≡◌, Bool, true, false, cond, eqb, List, [], ◌∷◌, map, Option, None, Some, refl, sym, ◌∙◌, ap, subst, ◌⊎◌, inl, inr}
use Rattle.std.proofs.lemmas.Bool.{both_ways, true≢false, eqb-true, eq-eqb}
use Rattle.sat_base.specs.values.Literals.{variable, negated}
use Rattle.sat_base.specs.steps.Steps.{Redundant, Step, SolverVarName, UserVarName, DeleteVar, ChangeSamplingMode, AddClause, AtClause, UnitClauses, DeleteClause, Model, Assumptions}
use Rattle.sat_checker.specs.LiteralSets.{is_among, is_tautology, canonical}
use Rattle.sat_checker.specs.Stored.{Stored, Variable, Sample, Witness, Hide, initial_variable, is_known, is_unit}
use Rattle.sat_checker.specs.Storing.{with_sorted_set, with_canonical, with_stored, with_input, with_unit, with_contradiction, with_new_unit, with_units, with_conflict_settled, settled_by, with_known, with_literals_known}
use Rattle.sat_checker.specs.Accepts.{Accepts, AcceptsAll, effect, stored_after, ready_after}
pub use Rattle.sat_checker.specs.Invariants.{SameVariables}
use Rattle.sat_checker.specs.Laws.{NamedIsKnown, KnownUntilDeleted, DeletedIsNameless, NamesDistinct, UnknownHasInitialData, has_delete_var, DeletionIsRecorded}

-- STORING DOES NOT CHANGE VARIABLES

pub unit_same : (l : ℕ) (f : Stored) → SameVariables f (with_unit l f)
unit_same l f = go (is_unit f l) (is_unit f (negated l))
  where
    go : (b d : Bool) → SameVariables f (cond b f (cond d (with_contradiction l f) (with_new_unit l f)))
    go true d = record { variables = refl; deleted = refl; assumed = refl }
    go false true = record { variables = refl; deleted = refl; assumed = refl }
    go false false = record { variables = refl; deleted = refl; assumed = refl }

set_same : (r : Bool) (ls : List ℕ) (f : Stored) → SameVariables f (with_sorted_set r ls f)
set_same r [] f = record { variables = refl; deleted = refl; assumed = refl }
set_same r (l ∷ []) f = unit_same l f
set_same r (l ∷ m ∷ ls) f = record { variables = refl; deleted = refl; assumed = refl }

canonical_same : (r : Bool) (ls : List ℕ) (f : Stored) → SameVariables f (with_canonical r ls f)
canonical_same true ls f = set_same true ls f
canonical_same false ls f = let s = set_same false ls f in record { variables = s.variables; deleted = s.deleted; assumed = s.assumed }

pub stored_same : (r : Bool) (c : List ℕ) (f : Stored) → SameVariables f (with_stored r c f)
stored_same r c f = go (is_tautology c)
  where
    go : (b : Bool) → SameVariables f (cond b f (with_canonical r (canonical c) f))
    go true = record { variables = refl; deleted = refl; assumed = refl }
    go false = canonical_same r (canonical c) f

pub units_same : (ls : List ℕ) (f : Stored) → SameVariables f (with_units ls f)
units_same [] f = record { variables = refl; deleted = refl; assumed = refl }
units_same (l ∷ ls) f = let s = unit_same l f in let t = units_same ls (with_unit l f) in record { variables = t.variables ∙ s.variables; deleted = t.deleted ∙ s.deleted; assumed = t.assumed ∙ s.assumed }

pub settled_same : (f : Stored) → SameVariables f (with_conflict_settled f)
settled_same f = go f.conflict
  where
    go : (x : Option (ℕ × ℕ)) → SameVariables f (settled_by x f)
    go None = record { variables = refl; deleted = refl; assumed = refl }
    go (Some units) = record { variables = refl; deleted = refl; assumed = refl }

itself : (n : ℕ) → eqb n n ≡ true
itself n = eq-eqb n n refl

pub named_is_known : NamedIsKnown
named_is_known f v name = ap (λ b. (cond b (record (f.variables v) { known = true; name = Some name }) (f.variables v)).known) (itself v)

known_more : (f : Stored) (vs : List ℕ) (v : ℕ) → is_known v f ≡ true → is_known v (with_known vs f) ≡ true
known_more f vs v h = go (is_among vs v)
  where
    go : (b : Bool) → (cond b (record (f.variables v) { known = true }) (f.variables v)).known ≡ true
    go true = refl
    go false = h

known_same : (f g : Stored) (v : ℕ) → SameVariables f g → is_known v f ≡ true → is_known v g ≡ true
known_same f g v s h = ap (λ k. (k v).known) s.variables ∙ h

known_set : (f : Stored) (x : Variable) (v w : ℕ) → x.known ≡ true → is_known w f ≡ true → (cond (eqb w v) x (f.variables w)).known ≡ true
known_set f x v w k h = go (eqb w v)
  where
    go : (b : Bool) → (cond b x (f.variables w)).known ≡ true
    go true = k
    go false = h

-- a variable is still known after a change that does not make it unknown
known_kept : (f : Stored) (x : Variable) (v w : ℕ) → x.known ≡ (f.variables v).known → is_known w f ≡ true → (cond (eqb w v) x (f.variables w)).known ≡ true
known_kept f x v w k h = go (eqb w v) refl
  where
    go : (b : Bool) → eqb w v ≡ b → (cond b x (f.variables w)).known ≡ true
    go true e = k ∙ ap (λ n. (f.variables n).known) (sym (eqb-true w v e)) ∙ h
    go false e = h

pub known_stays : KnownUntilDeleted
known_stays f (SolverVarName w (Some n)) v h = inl (known_more f (w ∷ []) v h)
known_stays f (UserVarName w (Some n)) v h = inl (known_set f (record (f.variables w) { known = true; name = Some n }) w v refl h)
known_stays f (UserVarName w None) v h = inl (known_kept f (record (f.variables w) { mode = Hide; name = None }) w v refl h)
known_stays f (DeleteVar w) v h = go (eqb v w) refl
  where
    go : (b : Bool) → eqb v w ≡ b → ((cond b initial_variable (f.variables v)).known ≡ true) ⊎ (DeleteVar w ≡ DeleteVar v)
    go true e = inr (ap DeleteVar (sym (eqb-true v w e)))
    go false e = inl h
known_stays f (ChangeSamplingMode w s) v h = inl (known_kept f (record (f.variables w) { mode = cond s Sample Witness }) w v refl h)
known_stays f (AddClause c) v h = inl (go f.unsat)
  where
    go : (b : Bool) → is_known v (cond b f (with_input c (with_literals_known c f))) ≡ true
    go true = h
    go false = known_same (with_literals_known c f) (with_stored false c (with_literals_known c f)) v (stored_same false c (with_literals_known c f)) (known_more f (map variable c) v h)
known_stays f (AtClause r c hs) v h = inl (known_same (with_literals_known c f) (with_stored r c (with_literals_known c f)) v (stored_same r c (with_literals_known c f)) (known_more f (map variable c) v h))
known_stays f (UnitClauses us) v h =
    let ls : List ℕ = map (λ u. u.0) us in inl (known_same (with_literals_known ls f) (with_units ls (with_literals_known ls f)) v (units_same ls (with_literals_known ls f)) (known_more f (map variable ls) v h))
known_stays f (DeleteClause c Redundant) v h = inl h
known_stays f (Model ls) v h = inl (known_more f (map variable ls) v h)
known_stays f (Assumptions ls) v h = inl (known_more f (map variable ls) v h)
known_stays f step v h = inl h

pub deleted_is_nameless : DeletedIsNameless
deleted_is_nameless f v h = h.nameless

-- no two variables have the same name, and a variable that is not known has its initial data
pub record AreTidy (variables : ℕ → Variable) : Type 0 where
  pub apart : (v w name : ℕ) → (variables v).name ≡ Some name → (variables w).name ≡ Some name → v ≡ w
  pub unknowns : (v : ℕ) → (variables v).known ≡ false → variables v ≡ initial_variable

module _ (variables : ℕ → Variable) (tidy : AreTidy variables) where
  -- a variable may be set to data with a name that no other variable has
  tidy_set : (v : ℕ) (x : Variable) → ((name w : ℕ) → x.name ≡ Some name → (variables w).name ≡ Some name → v ≡ w) → (x.known ≡ false → x ≡ initial_variable) → AreTidy (λ w. cond (eqb w v) x (variables w))
  tidy_set v x alone first = record { apart = λ p q name. by_two p q name (eqb p v) refl (eqb q v) refl; unknowns = λ w. by_one w (eqb w v) }
    where
      by_two : (p q name : ℕ) → (b : Bool) → eqb p v ≡ b → (d : Bool) → eqb q v ≡ d → (cond b x (variables p)).name ≡ Some name → (cond d x (variables q)).name ≡ Some name → p ≡ q
      by_two p q name true e true g m n = eqb-true p v e ∙ sym (eqb-true q v g)
      by_two p q name true e false g m n = eqb-true p v e ∙ alone name q m n
      by_two p q name false e true g m n = sym (alone name p n m) ∙ sym (eqb-true q v g)
      by_two p q name false e false g m n = tidy.apart p q name m n

      by_one : (w : ℕ) (b : Bool) → (cond b x (variables w)).known ≡ false → cond b x (variables w) ≡ initial_variable
      by_one w true k = first k
      by_one w false k = tidy.unknowns w k

  tidy_known : (vs : List ℕ) → AreTidy (λ v. cond (is_among vs v) (record (variables v) { known = true }) (variables v))
  tidy_known vs = record { apart = λ p q name m n. tidy.apart p q name (kept p (is_among vs p) name m) (kept q (is_among vs q) name n); unknowns = λ w. by_one w (is_among vs w) }
    where
      kept : (w : ℕ) (b : Bool) (name : ℕ) → (cond b (record (variables w) { known = true }) (variables w)).name ≡ Some name → (variables w).name ≡ Some name
      kept w true name m = m
      kept w false name m = m

      by_one : (w : ℕ) (b : Bool) → (cond b (record (variables w) { known = true }) (variables w)).known ≡ false → cond b (record (variables w) { known = true }) (variables w) ≡ initial_variable
      by_one w true k = absurd (true≢false k)
      by_one w false k = tidy.unknowns w k

  tidy_nameless : (v : ℕ) (x : Variable) → x.name ≡ None → (x.known ≡ false → x ≡ initial_variable) → AreTidy (λ w. cond (eqb w v) x (variables w))
  tidy_nameless v x n first = tidy_set v x (λ name w m k. absurd (let e : None ≡ Some name = sym n ∙ m in none_some name e)) first
    where
      none_some : (name : ℕ) → None ≡ Some name → ⊥
      none_some name e = cc

tidy_same : (f g : Stored) → SameVariables f g → AreTidy f.variables → AreTidy g.variables
tidy_same f g s t = subst AreTidy (sym s.variables) t

pub tidy_effect : (step : Step) (f : Stored) → Accepts f step → AreTidy f.variables → AreTidy (effect step f).variables
tidy_effect (SolverVarName v (Some n)) f a t = tidy_known f.variables t (v ∷ [])
tidy_effect (UserVarName v (Some n)) f a t =
    tidy_set f.variables t v (record (f.variables v) { known = true; name = Some n }) (λ name w m k. absurd (let e : n ≡ name = cc in a.free w (subst (λ x. (f.variables w).name ≡ Some x) (sym e) k))) (λ k. absurd (true≢false k))
tidy_effect (UserVarName v None) f a t =
    tidy_nameless f.variables t v (record (f.variables v) { mode = Hide; name = None }) refl (λ k. absurd (a (ap (λ x. x.name) (t.unknowns v k))))
tidy_effect (DeleteVar v) f a t = tidy_nameless f.variables t v initial_variable refl (λ k. refl)
tidy_effect (ChangeSamplingMode v s) f a t =
    tidy_set f.variables t v (record (f.variables v) { mode = cond s Sample Witness }) (λ name w m k. t.apart v w name m k) (λ k. absurd (both_ways (f.variables v).known k a))
tidy_effect (AddClause c) f a t = go f.unsat
  where
    go : (b : Bool) → AreTidy (cond b f (with_input c (with_literals_known c f))).variables
    go true = t
    go false = tidy_same (with_literals_known c f) (with_stored false c (with_literals_known c f)) (stored_same false c (with_literals_known c f)) (tidy_known f.variables t (map variable c))
tidy_effect (AtClause r c hs) f a t = tidy_same (with_literals_known c f) (with_stored r c (with_literals_known c f)) (stored_same r c (with_literals_known c f)) (tidy_known f.variables t (map variable c))
tidy_effect (UnitClauses us) f a t =
    let ls : List ℕ = map (λ u. u.0) us in tidy_same (with_literals_known ls f) (with_units ls (with_literals_known ls f)) (units_same ls (with_literals_known ls f)) (tidy_known f.variables t (map variable ls))
tidy_effect (DeleteClause c Redundant) f a t = t
tidy_effect (Model ls) f a t = tidy_known f.variables t (map variable ls)
tidy_effect (Assumptions ls) f a t = tidy_known f.variables t (map variable ls)
tidy_effect step f a t = t

tidy_ready : (f : Stored) → AreTidy f.variables → AreTidy (with_conflict_settled f).variables
tidy_ready f t = tidy_same f (with_conflict_settled f) (settled_same f) t

pub tidy : (steps : List Step) → AcceptsAll steps → AreTidy (ready_after steps).variables
tidy [] ok = record { apart = λ v w name m n. absurd (none_some name m); unknowns = λ v k. refl }
  where
    none_some : (name : ℕ) → None ≡ Some name → ⊥
    none_some name e = cc
tidy (step ∷ earlier) ok = tidy_ready (stored_after (step ∷ earlier)) (tidy_effect step (ready_after earlier) ok.1 (tidy earlier ok.0))

pub names_apart : NamesDistinct
names_apart steps v w name ok m n = (tidy steps ok).apart v w name m n

pub unknown_is_unknown : UnknownHasInitialData
unknown_is_unknown steps v ok k = (tidy steps ok).unknowns v k

deleted_effect : (step : Step) (f : Stored) (earlier : List Step) → f.var_deleted ≡ has_delete_var earlier → (effect step f).var_deleted ≡ has_delete_var (step ∷ earlier)
deleted_effect (SolverVarName v None) f es e = e
deleted_effect (UserVarName v (Some n)) f es e = e
deleted_effect (DeleteVar v) f es e = refl
deleted_effect (AddClause c) f es e = go f.unsat
  where
    go : (b : Bool) → (cond b f (with_input c (with_literals_known c f))).var_deleted ≡ has_delete_var es
    go true = e
    go false = (stored_same false c (with_literals_known c f)).deleted ∙ e
deleted_effect (AtClause r c hs) f es e = (stored_same r c (with_literals_known c f)).deleted ∙ e
deleted_effect (UnitClauses us) f es e = let ls : List ℕ = map (λ u. u.0) us in (units_same ls (with_literals_known ls f)).deleted ∙ e
deleted_effect (DeleteClause c Redundant) f es e = e
deleted_effect step f es e = e

pub deletion_is_seen : DeletionIsRecorded
deletion_is_seen [] = refl
deletion_is_seen (step ∷ earlier) = (settled_same (stored_after (step ∷ earlier))).deleted ∙ deleted_effect step (ready_after earlier) earlier (deletion_is_seen earlier)
