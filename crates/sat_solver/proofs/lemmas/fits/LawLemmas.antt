-- Proofs of the laws in `session.FitLaws`.
use Rattle.std.proofs.Common.{ℕ, ◌<◌, List, length, refl, sym, subst, arith, inl, inr, Bool, Option}
use Rattle.std.proofs.lemmas.Bool.{true≢false}
use Rattle.sat_base.specs.values.Literals.{variable}
use Rattle.sat_parts.proofs.lemmas.prop.RoomLemmas.{below_from_value}
use Rattle.sat_parts.specs.prop.ReasonLits.{conflict_lits}
use Rattle.sat_solver.proofs.lemmas.analyze_conflict.Advancing.{learned_advances}
use Rattle.sat_parts.specs.parts.Whole.{state}
use Rattle.sat_solver.specs.session.MatchingLaws.{ModelIsAllowed, LearnedIsNew, EmptyMatches}
use Rattle.sat_solver.proofs.lemmas.fits.ModelLemmas as models

pub model_may : ModelIsAllowed
model_may p s global ls fits names holds lits all modelled = models.model_may p s global fits names holds.below.propagation.ranges.room ls lits all modelled

pub learned_is_new : LearnedIsNew
learned_is_new p e w back units picked reached refuted learns u st r = learned_advances p.clauses p.db.refs p.watchlists p.binary.implied (state p) (conflict_lits p.clauses e) w back units picked reached refuted.0.propagation learns u st r

pub nothing_fits : EmptyMatches
nothing_fits words st global none empty = record {
  clauses = record { named = λ c k. absurd k; once = λ c k. absurd k; counts = λ r set. refl };
  paired = record { back = λ a b c. (let n : c.0 < 0 = c.1 in absurd (omega arith)); apart = λ a b c e. (let n : c.0 < 0 = c.1 in omega arith) };
  known = λ l u. elim u [
    | inl r ↦ (let n : variable l < 0 = subst (λ (xs : List (Option Bool)). variable l < length xs) none (below_from_value st.values (variable l) _ r.holds) in absurd (omega arith))
    | inr b ↦ (let n : b.place < 0 = subst (λ (xs : List ℕ). b.place < length xs) empty b.within in absurd (omega arith))
  ];
  sound = λ l n e. absurd (true≢false (sym e));
  consistent = refl;
  width = refl;
}
