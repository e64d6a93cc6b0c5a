-- What the checker's state represents after a step.
use Rattle.std.proofs.Common.{ℕ, ◌≡◌, Bool, false, cond, List, [], ◌∷◌, Option, None, Some, refl, sym, ◌∙◌, ap, subst, Result, Err}
use Rattle.std.specs.List.{AllByRecursion}
use Rattle.sat_base.specs.values.Literals.{variable}
use Rattle.sat_base.specs.steps.Steps.{SolverVarName, AddClause, DeleteClause, Deletion, Redundant, Satisfied, Simplified}
use Rattle.sat_checker.specs.LiteralSets.{canonical, is_subset_of}
use Rattle.sat_checker.specs.Stored.{Stored, Variable, Sample, mode_of}
use Rattle.sat_checker.specs.Storing.{with_conflict_settled, with_stored, with_input, with_literals_known, with_solver_name, with_known}
use Rattle.sat_checker.specs.Accepts.{effect, IsStrictSubset}
use Rattle.sat_checker.specs.Counters.{CountersExhausted}
use Rattle.sat_checker.specs.inner.FormulaView.{RepresentsFormula, rehashed_in, DecidesChange, ChangeResult}
use Rattle.sat_checker.specs.inner.StateView.{RepresentsStored, with_added_clause}
use Rattle.sat_checker.specs.inner.VariablesView.{StoresVariables, AreSampling}
use Rattle.sat_checker.specs.declared.store.StoreError.{StoreError}
use Rattle.sat_checker.specs.declared.store.StoreError.TheVariants.{OutOfMemory, CounterEnd}
use Rattle.sat_checker.specs.declared.state.CheckerState.{CheckerState}
use Rattle.sat_checker.specs.declared.variables.Variables.{Variables}
use Rattle.sat_checker.proofs.lemmas.sets.Canonical.{canonical_among}
use Rattle.sat_checker.proofs.lemmas.state.Refiled.{loosened}
use Rattle.sat_checker.proofs.lemmas.state.Scanning.{same_part}
use Rattle.sat_checker.proofs.lemmas.meaning.Names.{SameVariables, stored_same, settled_same}

-- an error is passed on
pub decides_err : {T : Type 0} (first : Result T StoreError) (result : Result Bool StoreError) (d e : StoreError) → first ≡ Err e → result ≡ Err d → d ≡ e → (K A L : Type 0) (g h : Stored) → A → (CountersExhausted g → CountersExhausted h) → ChangeResult first K g → DecidesChange result A L h
decides_err {T = T} first result d e a b s K A L g h p w t = subst (λ x. DecidesChange x A L h) (sym (b ∙ ap Err s)) (go e (subst (λ x. ChangeResult x K g) a t))
  where
    go : (e : StoreError) → ChangeResult {T = T} (Err e) K g → DecidesChange (Err e) A L h
    go OutOfMemory t = p
    go CounterEnd t = (p, w t)

pub sampling_kept : (vs : Variables) (f : Stored) (ls : List ℕ) → StoresVariables vs f.variables → AreSampling vs ls → AllByRecursion (λ l. mode_of (variable l) f ≡ Sample) ls
sampling_kept vs f [] k h = tt
sampling_kept vs f (l ∷ ls) k h = (sym (ap (λ (x : Variable). x.mode) (k.each (variable l))) ∙ h.0, sampling_kept vs f ls k h.1)

-- an error means the same, whatever is claimed about what is stored
pub fails_then : (e : StoreError) (K L : Type 0) (g : Stored) → ChangeResult {T = Unit {0}} (Err e) K g → ChangeResult {T = Unit {0}} (Err e) L g
fails_then OutOfMemory K L g k = tt
fails_then CounterEnd K L g k = k

-- the state after a derived clause
pub derived : (new : CheckerState) (f : Stored) (r : Bool) (c : List ℕ) → RepresentsFormula new.formula (with_stored r c (with_literals_known c f)) → StoresVariables new.variables (with_literals_known c f).variables → new.assumed ≡ canonical f.assumed
    → RepresentsStored new (with_stored r c (with_literals_known c f))
derived new f r c F V a = let s = stored_same r c (with_literals_known c f) in record { formula = loosened new.formula (with_stored r c (with_literals_known c f)) F; variables = subst (StoresVariables new.variables) (sym s.variables) V; assumed = a ∙ ap canonical (sym s.assumed) }

-- the state after an input clause
pub input_kept : (new : CheckerState) (f : Stored) (c : List ℕ) → RepresentsFormula new.formula (with_input c (with_literals_known c f)) → StoresVariables new.variables (with_literals_known c f).variables → new.assumed ≡ canonical f.assumed → RepresentsStored new (with_added_clause c f)
input_kept new f c F V a =
    let s = stored_same false c (with_literals_known c f) in record { formula = loosened new.formula (with_input c (with_literals_known c f)) F; variables = subst (StoresVariables new.variables) (sym s.variables) V; assumed = a ∙ ap canonical (sym s.assumed) }

pub added : (new : CheckerState) (f : Stored) (c : List ℕ) → f.unsat ≡ false → RepresentsStored new (with_added_clause c f) → RepresentsStored new (effect (AddClause c) f)
added new f c e k = subst (λ b. RepresentsStored new (cond b f (with_added_clause c f))) (sym e) k

pub added_spent : (f : Stored) (c : List ℕ) → f.unsat ≡ false → CountersExhausted (with_added_clause c f) → CountersExhausted (effect (AddClause c) f)
added_spent f c e k = subst (λ b. CountersExhausted (cond b f (with_added_clause c f))) (sym e) k

-- the state after a solver name is set or removed
pub renamed : (new : CheckerState) (f : Stored) (v : ℕ) (name : Option ℕ) (n : ℕ) → name ≡ Some n → RepresentsFormula (rehashed_in new.formula) (with_solver_name v (Some n) f) → StoresVariables new.variables (with_known (v ∷ []) f).variables → new.assumed ≡ canonical f.assumed
    → RepresentsStored new (effect (SolverVarName v name) f)
renamed new f v name n e F V a = subst (λ o. RepresentsStored new (effect (SolverVarName v o) f)) (sym e) (record { formula = F; variables = V; assumed = a })

pub unnamed : (new : CheckerState) (f : Stored) (v : ℕ) (name : Option ℕ) → name ≡ None → RepresentsFormula (rehashed_in new.formula) (with_solver_name v None f) → StoresVariables new.variables f.variables → new.assumed ≡ canonical f.assumed → RepresentsStored new (effect (SolverVarName v name) f)
unnamed new f v name e F V a = subst (λ o. RepresentsStored new (effect (SolverVarName v o) f)) (sym e) (record { formula = F; variables = V; assumed = a })

-- a strict part of a clause is a strict part of its sorted literals
pub strict_on : (o : Option (List ℕ)) (c ls : List ℕ) → ls ≡ canonical c → IsStrictSubset o c → IsStrictSubset o ls
strict_on None c ls e h = h
strict_on (Some ms) c ls e h = subst (IsStrictSubset (Some ms)) (sym e) (same_part ms c ms (canonical c) (λ l. refl) (canonical_among c) ∙ h.0, same_part c ms (canonical c) ms (canonical_among c) (λ l. refl) ∙ h.1)

pub strict_back : (o : Option (List ℕ)) (c ls : List ℕ) → ls ≡ canonical c → IsStrictSubset o ls → IsStrictSubset o c
strict_back None c ls e h = h
strict_back (Some ms) c ls e h =
    let k = subst (IsStrictSubset (Some ms)) e h in (sym (same_part ms c ms (canonical c) (λ l. refl) (canonical_among c)) ∙ k.0, sym (same_part c ms (canonical c) ms (canonical_among c) (λ l. refl)) ∙ k.1)

-- whether a core is among the assumptions
pub within_assumed : (b : Bool) (core assumed whole : List ℕ) → whole ≡ canonical assumed → b ≡ is_subset_of core whole → b ≡ is_subset_of core assumed
within_assumed b core assumed whole w e = e ∙ ap (is_subset_of core) w ∙ same_part core assumed core (canonical assumed) (λ l. refl) (canonical_among assumed)

-- a deletion changes only clauses
pub deletion_same : (f : Stored) (c : List ℕ) (p : Deletion) → SameVariables f (effect (DeleteClause c p) f)
deletion_same f c Redundant = record { variables = refl; deleted = refl; assumed = refl }
deletion_same f c Satisfied = record { variables = refl; deleted = refl; assumed = refl }
deletion_same f c Simplified = record { variables = refl; deleted = refl; assumed = refl }

pub deleted_kept : (old new : CheckerState) (f : Stored) (c : List ℕ) (p : Deletion) → RepresentsStored old f → RepresentsFormula new.formula (effect (DeleteClause c p) f) → new.variables ≡ old.variables → new.assumed ≡ old.assumed → RepresentsStored new (effect (DeleteClause c p) f)
deleted_kept old new f c p k F v a = let s = deletion_same f c p in record {
  formula = loosened new.formula (effect (DeleteClause c p) f) F;
  variables = subst (λ vs. StoresVariables vs (effect (DeleteClause c p) f).variables) (sym v) (subst (StoresVariables old.variables) (sym s.variables) k.variables);
  assumed = a ∙ k.assumed ∙ ap canonical (sym s.assumed);
}

-- the state after a unit conflict is settled
pub settled_kept : (old new : CheckerState) (f : Stored) → RepresentsStored old f → RepresentsFormula (rehashed_in new.formula) (with_conflict_settled f) → new.variables ≡ old.variables → new.assumed ≡ old.assumed → RepresentsStored new (with_conflict_settled f)
settled_kept old new f k F v a = let s = settled_same f in record {
  formula = F;
  variables = subst (λ vs. StoresVariables vs (with_conflict_settled f).variables) (sym v) (subst (StoresVariables old.variables) (sym s.variables) k.variables);
  assumed = a ∙ k.assumed ∙ ap canonical (sym s.assumed);
}
