-- How steps change the contents of what is stored.
use Rattle.std.proofs.Common.{ℕ, ◌≡◌, Bool, true, false, not, ◌&&◌, ◌||◌, cond, eqb, List, [], ◌∷◌, ◌++◌, map, filter, refl, sym, ◌∙◌, ap, Option, None, Some}
use Rattle.std.proofs.lemmas.Bool.{eqb-true}
use Rattle.sat_base.specs.values.Literals.{variable, negated}
use Rattle.sat_base.specs.steps.Steps.{Redundant, Simplified, Satisfied, Step, SolverVarName, UserVarName, DeleteVar, AddClause, AtClause, UnitClauses, DeleteClause}
use Rattle.sat_checker.specs.LiteralSets.{is_among, is_tautology, canonical}
use Rattle.sat_checker.specs.Stored.{StoredUnit, initial_variable, Stored, is_unit}
use Rattle.sat_checker.specs.Storing.{with_contradiction, with_new_unit, with_unit, with_units, settled_by, with_conflict_settled, with_sorted_set, with_canonical, with_stored, with_input, with_literals_known}
use Rattle.sat_checker.specs.Accepts.{effect}
use Rattle.sat_checker.specs.Contents.{ProofState, Contents, stored_state, contents, with_unit_in_state, with_units_in_state, with_set_in_state, with_clause_in_state, with_literals_known_in_state, contents_after}
use Rattle.sat_checker.specs.Invariants.{AreDistinctSets, EffectChangesContents, SettlingKeepsContents}
use Rattle.sat_checker.proofs.lemmas.contents.Counts.{count_more, count_less}

among_push : (us : List StoredUnit) (id l m : ℕ) → is_among (map (λ u. u.literal) (us ++ (record { id = id; literal = l }) ∷ [])) m ≡ (eqb l m || is_among (map (λ u. u.literal) us) m)
among_push [] id l m = refl
among_push (u ∷ us) id l m = ap (λ b. eqb u.literal m || b) (among_push us id l m) ∙ turn (eqb u.literal m) (eqb l m) (is_among (map (λ u. u.literal) us) m)
  where
    turn : (x y z : Bool) → x || (y || z) ≡ y || (x || z)
    turn true true z = refl
    turn true false z = refl
    turn false y z = refl

-- a change of the proof state only
abbrev pub onto : (ProofState → ProofState) → Contents → Contents
onto change c = record c { state = change c.state }

pub view_unit : (l : ℕ) (f : Stored) → contents (with_unit l f) ≡ onto (with_unit_in_state l) (contents f)
view_unit l f = go (is_unit f l) (is_unit f (negated l))
  where
    units : is_unit (with_new_unit l f) ≡ (λ m. eqb l m || is_unit f m)
    units = λ i. λ m. among_push f.units f.next_id l m i

    go : (b d : Bool) → contents (cond b f (cond d (with_contradiction l f) (with_new_unit l f))) ≡ onto (λ s. cond b s (cond d (record s { unsat = true }) (record s { units = λ m. eqb l m || is_unit f m }))) (contents f)
    go true d = refl
    go false true = refl
    go false false = ap (λ us. onto (λ s. record s { units = us }) (contents f)) units

pub view_units : (ls : List ℕ) (f : Stored) → contents (with_units ls f) ≡ onto (with_units_in_state ls) (contents f)
view_units [] f = refl
view_units (l ∷ ls) f = view_units ls (with_unit l f) ∙ ap (onto (with_units_in_state ls)) (view_unit l f)

view_set : (r : Bool) (set : List ℕ) (f : Stored) → contents (with_sorted_set r set f) ≡ onto (with_set_in_state r set) (contents f)
view_set r [] f = refl
view_set r (l ∷ []) f = view_unit l f
view_set r (l ∷ m ∷ ls) f = λ i. onto (λ s. record s { counts = λ q other. count_more r q f.next_id (l ∷ m ∷ ls) other f.clauses i }) (contents f)

-- storing a clause changes the contents as `with_clause_in_state` says
view_stored : (r : Bool) (clause : List ℕ) (f : Stored) → contents (with_stored r clause f) ≡ onto (with_clause_in_state r clause) (contents f)
view_stored true clause f = go (is_tautology clause)
  where
    go : (b : Bool) → contents (cond b f (with_canonical true (canonical clause) f)) ≡ onto (λ s. cond b s (with_set_in_state true (canonical clause) s)) (contents f)
    go true = refl
    go false = view_set true (canonical clause) f
view_stored false clause f = go (is_tautology clause)
  where
    go : (b : Bool) → contents (cond b f (with_canonical false (canonical clause) f)) ≡ onto (λ s. cond b s (with_set_in_state false (canonical clause) s)) (contents f)
    go true = refl
    go false = view_set false (canonical clause) f

among_left : (us : List StoredUnit) (v m : ℕ) → is_among (map (λ u. u.literal) (filter (λ u. not (eqb (variable u.literal) v)) us)) m ≡ (is_among (map (λ u. u.literal) us) m && not (eqb (variable m) v))
among_left [] v m = refl
among_left (u ∷ us) v m = go (eqb (variable u.literal) v) refl (eqb u.literal m) refl (among_left us v m)
  where
    gone : (x : Bool) → x && false ≡ false
    gone true = refl
    gone false = refl

    moved : eqb u.literal m ≡ true → eqb (variable u.literal) v ≡ eqb (variable m) v
    moved y = ap (λ l. eqb (variable l) v) (eqb-true u.literal m y)

    go : (b : Bool) → eqb (variable u.literal) v ≡ b → (d : Bool) → eqb u.literal m ≡ d → is_among (map (λ w. w.literal) (filter (λ w. not (eqb (variable w.literal) v)) us)) m ≡ (is_among (map (λ w. w.literal) us) m && not (eqb (variable m) v))
        → is_among (map (λ w. w.literal) (cond (not b) (u ∷ filter (λ w. not (eqb (variable w.literal) v)) us) (filter (λ w. not (eqb (variable w.literal) v)) us))) m ≡ ((d || is_among (map (λ w. w.literal) us) m) && not (eqb (variable m) v))
    go true x true y ih =
        let e : eqb (variable m) v ≡ true = sym (moved y) ∙ x in
        ih ∙ ap (λ b. is_among (map (λ w. w.literal) us) m && not b) e ∙ gone (is_among (map (λ w. w.literal) us) m) ∙ sym (ap (λ b. not b) e)
    go true x false y ih = ih
    go false x true y ih =
        let e : eqb (variable m) v ≡ false = sym (moved y) ∙ x in
        ap (λ b. b || is_among (map (λ w. w.literal) (filter (λ w. not (eqb (variable w.literal) v)) us)) m) y ∙ sym (ap (λ b. not b) e)
    go false x false y ih = ap (λ b. b || is_among (map (λ w. w.literal) (filter (λ w. not (eqb (variable w.literal) v)) us)) m) y ∙ ih

view_changed : (step : Step) (f : Stored) → AreDistinctSets f.clauses → contents (effect step f) ≡ contents_after step (contents f)
view_changed (SolverVarName v None) f h = refl
view_changed (UserVarName v (Some name)) f h = refl
view_changed (DeleteVar v) f h = λ i. record { state = record (stored_state f) { variables = λ w. cond (eqb w v) initial_variable (f.variables w); units = λ m. among_left f.units v m i }; ended = f.ended; var_deleted = true }
view_changed (AddClause clause) f h = go f.unsat
  where
    go : (b : Bool) → contents (cond b f (with_input clause (with_literals_known clause f))) ≡ onto (λ s. cond b s (with_clause_in_state false clause (with_literals_known_in_state clause s))) (contents f)
    go true = refl
    go false = view_stored false clause (with_literals_known clause f)
view_changed (AtClause r clause hashes) f h = view_stored r clause (with_literals_known clause f)
view_changed (UnitClauses us) f h = let ls : List ℕ = map (λ u. u.0) us in view_units ls (with_literals_known ls f)
view_changed (DeleteClause clause Redundant) f h = λ i. onto (λ s. record s { counts = λ q other. count_less true q (canonical clause) other f.clauses h i }) (contents f)
view_changed (DeleteClause clause Simplified) f h = λ i. onto (λ s. record s { counts = λ q other. count_less false q (canonical clause) other f.clauses h i }) (contents f)
view_changed (DeleteClause clause Satisfied) f h = λ i. onto (λ s. record s { counts = λ q other. count_less false q (canonical clause) other f.clauses h i }) (contents f)
view_changed step f h = refl

pub view_settled : (f : Stored) → contents (with_conflict_settled f) ≡ contents f
view_settled f = go f.conflict
  where
    go : (o : Option (ℕ × ℕ)) → contents (settled_by o f) ≡ contents f
    go None = refl
    go (Some units) = refl

pub contents_follow : EffectChangesContents
contents_follow f step h = view_changed step f h

pub contents_are_settled : SettlingKeepsContents
contents_are_settled f = view_settled f
