-- Steps that do not change the width have the same effect at every width.
use Rattle.std.proofs.Common.{ℕ, ◌≡◌, ◌∙◌, Bool, true, false, List, [], ◌∷◌, map, refl, ap, Some, None}
use Rattle.std.specs.Prelude.{if◌then◌else◌}
use Rattle.sat_base.specs.values.Literals.{negated}
use Rattle.sat_base.specs.steps.Steps.{Redundant, Step, SolverVarName, UserVarName, AddClause, AtClause, UnitClauses, DeleteClause, ChangeHashBits}
use Rattle.sat_checker.specs.LiteralSets.{is_tautology, canonical}
use Rattle.sat_checker.specs.Contents.{ProofState, with_unit_in_state, with_units_in_state, with_set_in_state, with_clause_in_state, with_literals_known_in_state, state_after}
use Rattle.sat_solver.specs.proof.Widths.{kept_bits, narrowed, KeepsWidth}

-- the state at another width
abbrev pub wide : ℕ → ProofState → ProofState
wide x c = record c { width = x }

either_wide : (b : Bool) (x : ℕ) (p q r s : ProofState) → p ≡ wide x r → q ≡ wide x s → (if b then p else q) ≡ wide x (if b then r else s)
either_wide true x p q r s e f = e
either_wide false x p q r s e f = f

pub fact_wide : (l x : ℕ) (c : ProofState) → with_unit_in_state l (wide x c) ≡ wide x (with_unit_in_state l c)
fact_wide l x c = either_wide (c.units l) x _ _ c _ refl (either_wide (c.units (negated l)) x _ _ (record c { unsat = true }) _ refl refl)

facts_wide : (ls : List ℕ) (x : ℕ) (c : ProofState) → with_units_in_state ls (wide x c) ≡ wide x (with_units_in_state ls c)
facts_wide [] x c = refl
facts_wide (l ∷ ls) x c = ap (with_units_in_state ls) (fact_wide l x c) ∙ facts_wide ls x (with_unit_in_state l c)

set_wide : (r : Bool) (set : List ℕ) (x : ℕ) (c : ProofState) → with_set_in_state r set (wide x c) ≡ wide x (with_set_in_state r set c)
set_wide r [] x c = refl
set_wide r (l ∷ []) x c = fact_wide l x c
set_wide r (l ∷ m ∷ ls) x c = refl

clause_wide : (r : Bool) (clause : List ℕ) (x : ℕ) (c : ProofState) → with_clause_in_state r clause (wide x c) ≡ wide x (with_clause_in_state r clause c)
clause_wide r clause x c = either_wide (is_tautology clause) x _ _ c _ refl (set_wide r (canonical clause) x c)

step_wide : (step : Step) (x : ℕ) (c : ProofState) → KeepsWidth step → state_after step (wide x c) ≡ wide x (state_after step c)
step_wide (SolverVarName v None) x c k = refl
step_wide (UserVarName v (Some name)) x c k = refl
step_wide (AddClause clause) x c k = either_wide c.unsat x _ _ c _ refl (clause_wide false clause x (with_literals_known_in_state clause c))
step_wide (AtClause r clause hashes) x c k = clause_wide r clause x (with_literals_known_in_state clause c)
step_wide (UnitClauses us) x c k = facts_wide (map (λ (u : ℕ × ℕ). u.0) us) x (with_literals_known_in_state (map (λ (u : ℕ × ℕ). u.0) us) c)
step_wide (DeleteClause clause Redundant) x c k = refl
step_wide (ChangeHashBits bits) x c k = absurd k
step_wide step x c k = refl

-- these changes preserve the width
pub fact_width : (l : ℕ) (c : ProofState) → (with_unit_in_state l c).width ≡ c.width
fact_width l c = ap (λ (d : ProofState). d.width) (fact_wide l c.width c)

pub step_width : (step : Step) (c : ProofState) → KeepsWidth step → (state_after step c).width ≡ c.width
step_width step c k = ap (λ (d : ProofState). d.width) (step_wide step c.width c k)

-- truncating hashes does not change the effect of a step
narrowed_same : (w : ℕ) (step : Step) (c : ProofState) → state_after (narrowed w step) c ≡ state_after step c
narrowed_same w (SolverVarName v None) c = refl
narrowed_same w (UserVarName v (Some name)) c = refl
narrowed_same w (UnitClauses us) c = ap (λ (ls : List ℕ). with_units_in_state ls (with_literals_known_in_state ls c)) (firsts us)
  where
    firsts : (us : List (ℕ × ℕ)) → map (λ (u : ℕ × ℕ). u.0) (map (λ (u : ℕ × ℕ). (u.0, kept_bits w u.1)) us) ≡ map (λ (u : ℕ × ℕ). u.0) us
    firsts [] = refl
    firsts (u ∷ us) = ap (λ (ls : List ℕ). u.0 ∷ ls) (firsts us)
narrowed_same w (DeleteClause clause Redundant) c = refl
narrowed_same w step c = refl

pub after_wide : (w : ℕ) (step : Step) (x : ℕ) (c : ProofState) → KeepsWidth step → state_after (narrowed w step) (wide x c) ≡ wide x (state_after step c)
after_wide w step x c k = narrowed_same w step (wide x c) ∙ step_wide step x c k
