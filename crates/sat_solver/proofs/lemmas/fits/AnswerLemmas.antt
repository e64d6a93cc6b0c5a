-- Steps that change neither clauses nor units: names, modes, assumptions and answers.
use Rattle.std.proofs.Common.{ℕ, ◌<◌, length, get_or, ◌≡◌, Bool, true, List, map, refl, ◌∙◌, ap, subst, Some, None}
use Rattle.sat_base.specs.steps.Steps.{Step, UserVarName, ChangeSamplingMode, Model, Assumptions, FailedAssumptions, End}
use Rattle.std.specs.List.{Contains}
use Rattle.sat_checker.specs.LiteralSets.{is_among, is_subset_of}
use Rattle.sat_checker.proofs.lemmas.sets.Canonical.{among_from_contains}
use Rattle.sat_checker.proofs.lemmas.sets.Subsets.{all_true}
use Rattle.sat_parts.specs.prop.State.{PropagationState}
use Rattle.sat_solver.specs.session.Session.{Session, after}
use Rattle.sat_solver.specs.session.LiveClauses.{LiveClause, with_var}
use Rattle.sat_solver.specs.session.SolverClauses.{solver_clauses}
use Rattle.sat_solver.specs.session.Matching.{is_redundant, SessionMatches}
use Rattle.sat_solver.specs.session.Listed.{MatchesClauseList, SameFacts, ChangesNoClause}
use Rattle.sat_solver.proofs.lemmas.fits.UsableLemmas.{among_place}
use Rattle.sat_solver.proofs.lemmas.fits.ListedLemmas.{listed, fits_listed, listed_stays}
use Rattle.sat_solver.proofs.lemmas.fits.SetLemmas.{part_mapped}

-- these steps leave clauses, units and solver names unchanged
rests : (step : Step) (s : Session) → ChangesNoClause step → SameFacts s (after step s) × (((r : Bool) (set : List ℕ) → (after step s).live r set ≡ s.live r set) × ((after step s).solver_names ≡ s.solver_names))
rests (UserVarName v (Some name)) s h = (record { names = λ w. refl; units = λ l. refl; unsat = refl; width = refl }, (λ r set. refl, refl))
rests (UserVarName v None) s h = (record { names = λ w. refl; units = λ l. refl; unsat = refl; width = refl }, (λ r set. refl, refl))
rests (ChangeSamplingMode v sample) s h = (record { names = λ w. refl; units = λ l. refl; unsat = refl; width = refl }, (λ r set. refl, refl))
rests (Model ls) s h = (record { names = λ w. refl; units = λ l. refl; unsat = refl; width = refl }, (λ r set. refl, refl))
rests (Assumptions ls) s h = (record { names = λ w. refl; units = λ l. refl; unsat = refl; width = refl }, (λ r set. refl, refl))
rests (FailedAssumptions core hashes) s h = (record { names = λ w. refl; units = λ l. refl; unsat = refl; width = refl }, (λ r set. refl, refl))
rests End s h = (record { names = λ w. refl; units = λ l. refl; unsat = refl; width = refl }, (λ r set. refl, refl))
rests step s h = absurd h

module _ (st : PropagationState) (s : Session) (global : ℕ → ℕ) (step : Step) (quiet : ChangesNoClause step) where
  pub listed_rests : (cs : List LiveClause) → MatchesClauseList cs st s global → MatchesClauseList cs st (after step s) global
  listed_rests cs h = let x = rests step s quiet in listed_stays cs st s (after step s) global h x.0 x.1.1 x.1.0

  pub fits_rests : (words live : List ℕ) (implied : List (List ℕ)) → SessionMatches words live implied st s global → SessionMatches words live implied st (after step s) global
  fits_rests words live implied fits =
      fits_listed words live implied st (after step s) global (listed_rests (solver_clauses (is_redundant words) words live implied) (listed words live implied st s global fits)) fits.paired

-- a part of the assumptions of the search is, over proof variables, a part of the session's
pub assumed_part : (s : Session) (global : ℕ → ℕ) (core assumed : List ℕ) → s.assumed ≡ map (with_var global) assumed → is_subset_of core assumed ≡ true → is_subset_of (map (with_var global) core) s.assumed ≡ true
assumed_part s global core assumed e p = ap (is_subset_of (map (with_var global) core)) e ∙ part_mapped (with_var global) core assumed p

-- a list is a part of another if that one contains all its literals
pub part_from : (core ls : List ℕ) → ((k : ℕ) → k < length core → Contains ls (get_or core k 0)) → is_subset_of core ls ≡ true
part_from core ls h = all_true (is_among ls) core (λ l t.
    let p = among_place core l t in
    subst (λ m. is_among ls m ≡ true) p.1.1 (among_from_contains ls (get_or core p.0 0) (h p.0 p.1.0)))
