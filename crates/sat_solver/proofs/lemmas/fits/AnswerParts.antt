-- Names, modes, assumptions and answers are written for the struct of parts.
use Rattle.std.proofs.Common.{ℕ, ◌<◌, ◌≡◌, true, List, [], ◌∷◌, ◌++◌, map, length, get_or}
use Rattle.sat_base.specs.values.Hashes.{hash_of}
use Rattle.sat_base.specs.steps.Steps.{Step, FailedAssumptions}
use Rattle.sat_checker.specs.LiteralSets.{is_among, is_subset_of}
use Rattle.sat_checker.specs.Propagation.{UnitInTurn}
use Rattle.sat_parts.specs.clause.Db.{live_refs}
use Rattle.sat_parts.specs.prop.Values.{IsFalseLit}
use Rattle.sat_parts.specs.prop.State.{level}
use Rattle.sat_solver.specs.session.Session.{Session, after, IsAllowedStep}
use Rattle.sat_solver.specs.session.LiveClauses.{with_var}
use Rattle.sat_solver.specs.analyze_conflict.Marks.{IsReasoned}
use Rattle.sat_solver.specs.analyze_conflict.Derivation.{clause_of, AreLevelZeroLits}
use Rattle.sat_parts.specs.declared.parts.SearchState.{SearchState}
use Rattle.sat_parts.specs.parts.Whole.{state, SearchStateInvariant}
use Rattle.sat_solver.specs.session.Matching.{SessionMatchesParts}
use Rattle.sat_solver.specs.session.Listed.{ChangesNoClause}
use Rattle.sat_solver.proofs.lemmas.fits.AnswerLemmas.{fits_rests}
use Rattle.sat_solver.proofs.lemmas.fits.CoreLemmas.{core_may, core_bottom_may}

module _ (p : SearchState) (s : Session) (global : ℕ → ℕ) (fits : SessionMatchesParts p s global) where
  abbrev live : List ℕ
  live = live_refs p.clauses p.db.refs

  pub parts_rests : (step : Step) → ChangesNoClause step → SessionMatchesParts p (after step s) global
  parts_rests step quiet = fits_rests (state p) s global step quiet p.clauses live p.binary.implied fits

  module _ (holds : SearchStateInvariant p) where
    -- a core may be written if the reasons of the used literals are unit in turn under it, and the last one is
    -- falsified
    pub parts_core_may : (core used assumed : List ℕ) → s.assumed ≡ map (with_var global) assumed → is_subset_of core assumed ≡ true → ((k : ℕ) → k < length used → IsReasoned (state p) 0 (get_or used k 0)) →
        ((units : List ℕ) → AreLevelZeroLits (state p) units → UnitInTurn (core ++ units) (map (clause_of p.clauses (state p)) used)) →
        IsAllowedStep s (FailedAssumptions (map (with_var global) core) (map (λ l. hash_of (clause_of p.clauses (state p) l)) used))
    parts_core_may = core_may p.clauses live p.binary.implied (state p) s global fits holds.below.propagation.agrees holds.below.propagation.clauses holds.units holds.below.reasons

    -- an assumption that is false at level 0 is a core by itself
    pub parts_bottom_may : (failed : ℕ) (assumed hashes : List ℕ) → s.assumed ≡ map (with_var global) assumed → is_among assumed failed ≡ true → IsFalseLit p.assignment.current failed → level (state p) failed ≡ 0 →
        IsAllowedStep s (FailedAssumptions (with_var global failed ∷ []) hashes)
    parts_bottom_may = core_bottom_may p.clauses live p.binary.implied (state p) s global fits holds.below.propagation.agrees holds.below.propagation.clauses holds.units holds.below.reasons
