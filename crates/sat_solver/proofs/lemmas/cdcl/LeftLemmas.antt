-- The parts of a search after units were written and taken off the trail.
use Rattle.std.proofs.Common.{ℕ, ◌≡◌, ◌<◌, ◌+◌, ◌∙◌, List, [], ◌∷◌, length, get_or, refl, sym, ap, subst, arith}
use Rattle.sat_base.specs.steps.Steps.{UnitClauses}
use Rattle.sat_parts.specs.clause.Db.{live_refs}
use Rattle.sat_parts.specs.declared.parts.SearchState.{SearchState}
use Rattle.sat_parts.specs.parts.Round.{UnitsHaveNoReason, LevelZeroInvariant}
use Rattle.sat_parts.specs.prop.State.{PropagationState}
use Rattle.sat_parts.specs.parts.Assumed.{AreConsideredUpTo}
use Rattle.sat_parts.specs.parts.Whole.{state, SearchStateInvariant, SearchStateInvariantBelow, IsFullyPropagated}
use Rattle.sat_parts.specs.parts.Frame.{SameClauses, ClearsUnits}
use Rattle.sat_parts.specs.parts.Words.{TrailWordExtends}
use Rattle.sat_parts.proofs.lemmas.parts.WordSteps.{extends_refl}
use Rattle.sat_solver.specs.session.Session.{Session, after}
use Rattle.sat_solver.specs.session.TrailUnits.{written_units}
use Rattle.sat_solver.specs.session.Matching.{SessionMatchesParts, TrueLitsHaveIndices}
use Rattle.sat_solver.specs.session.Units.{MatchesWithUnits}
use Rattle.sat_solver.specs.session.WritingUnits.{IsReadyForUnits}
use Rattle.sat_solver.proofs.lemmas.fits.StepLemmas.{starts_none}
use Rattle.sat_solver.proofs.lemmas.fits.UnitLemmas.{units_written, fits_cleared}
use Rattle.sat_solver.specs.unit_simplify.AfterUnits.{LevelZeroLitsAreUnits, TakesUnitsOff}

pub none_left : {A : Type 0} (xs : List A) → length xs ≡ 0 → xs ≡ []
none_left [] e = refl
none_left (x ∷ xs) e = absurd (omega arith)

-- if no unit has to be written, the session already has all units
fits_quiet : (words live : List ℕ) (implied : List (List ℕ)) (p : SearchState) (s : Session) (global : ℕ → ℕ) → MatchesWithUnits words live implied (state p) (after (UnitClauses []) s) global → MatchesWithUnits words live implied (state p) s global
fits_quiet words live implied p s global h = record {
  fits = record {
    clauses = record { named = h.fits.clauses.named; once = h.fits.clauses.once; counts = h.fits.clauses.counts };
    paired = h.fits.paired;
    known = h.fits.known;
    sound = h.fits.sound;
    consistent = h.fits.consistent;
    width = h.fits.width;
  };
  all = h.all;
}

module _ (p : SearchState) (s : Session) (global : ℕ → ℕ) (orderly : IsReadyForUnits p) (bottom : length p.trail.starts ≡ 0) (fits : SessionMatchesParts p s global) (names : TrueLitsHaveIndices p.assignment.current s global) where
  pub units_step : LevelZeroLitsAreUnits p (after (UnitClauses (written_units p.clauses (state p) 64 global p.trail.lits)) s) global
  units_step = units_written p.clauses (live_refs p.clauses p.db.refs) p.binary.implied (state p) s global fits names orderly.agrees orderly.clauses orderly.turns bottom

  pub units_none : written_units p.clauses (state p) 64 global p.trail.lits ≡ [] → LevelZeroLitsAreUnits p s global
  units_none none =
      fits_quiet p.clauses (live_refs p.clauses p.db.refs) p.binary.implied p s global (subst (λ us. LevelZeroLitsAreUnits p (after (UnitClauses us) s) global) none units_step)

-- assumptions visited at level 0 stay visited when units are taken off the trail
placed_cleared : (ls below : List ℕ) (place : ℕ) (s s' : PropagationState) → length s.trail.starts ≡ 0 → s'.trail.starts ≡ [] → ClearsUnits s s' → AreConsideredUpTo ls below place s → AreConsideredUpTo ls below place s'
placed_cleared ls below place s s' bottom none clears x =
    let flat : length s'.trail.starts ≡ 0 = ap (λ (xs : List ℕ). length xs) none in
    record {
      levels = omega (arith, x.levels);
      within = x.within;
      low_within = x.low_within;
      passed = λ k b. (let p = x.passed k b in let q = clears.bottom (get_or ls k 0) p.0 (omega (arith, p.1, x.levels)) in (q.0, omega (arith, q.1)));
      low_passed = λ j k b d. absurd (omega (arith, x.levels));
      begun = λ j b. absurd (omega (arith, x.levels));
      all = λ lt. absurd (omega arith);
    }

-- above level 0 nothing changes
pub settled_above : (p : SearchState) (s : Session) (global : ℕ → ℕ) → 0 < length p.trail.starts → SearchStateInvariantBelow (length p.trail.starts + 1) p → IsFullyPropagated p → UnitsHaveNoReason (state p) × LevelZeroInvariant p.trail → SessionMatchesParts p s global → TakesUnitsOff p p s global
settled_above p s global above h done units fits = record {
  valid = record { holds = record { below = h; units = units.0; base = units.1 }; fits = fits };
  done = done;
  starts = refl;
  empty = λ e. absurd (let n : length p.trail.starts ≡ 0 = ap (λ (xs : List ℕ). length xs) e in omega arith);
  word = extends_refl p;
  size = refl;
  placed = λ a x. x;
}

-- at level 0 units were taken off the trail
pub settled_bottom : (p q : SearchState) (s : Session) (global : ℕ → ℕ) → LevelZeroLitsAreUnits p s global → length p.trail.starts ≡ 0 → SearchStateInvariant q → IsFullyPropagated q → q.trail.starts ≡ [] → q.trail.lits ≡ [] → SameClauses p q → ClearsUnits (state p) (state q) → TrailWordExtends p q → TakesUnitsOff p q s global
settled_bottom p q s global all bottom holds done none empty same clears word = record {
  valid = record { holds = holds; fits = rw (same.0, same.1, same.2) (fits_cleared p.clauses (live_refs p.clauses p.db.refs) p.binary.implied (state p) (state q) s global clears all) };
  done = done;
  starts = none ∙ sym (starts_none p bottom);
  empty = λ e. empty;
  word = word;
  size = clears.size;
  placed = λ a x. placed_cleared a.lits.items a.below.items a.place (state p) (state q) bottom none clears x;
}
