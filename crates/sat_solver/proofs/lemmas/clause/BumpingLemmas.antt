-- Raising activities leaves the rest of the search unchanged.
use Rattle.std.proofs.Common.{ℕ, zero, suc, ◌+◌, ◌<◌, ◌≤◌, ◌≡◌, List, [], ◌∷◌, ◌++◌, length, drop, get_or, refl, sym, ap, subst, arith}
use Rattle.std.proofs.lemmas.List.{at_drop_more}
use Rattle.sat_store.specs.heap.Vsids.{Queue, bumped}
use Rattle.sat_base.specs.steps.Steps.{Step}
use Rattle.sat_parts.specs.prop.TrailWord.{Letter, D, P, IsLowerWord}
use Rattle.sat_solver.specs.session.Session.{Session}
use Rattle.sat_parts.specs.declared.parts.SearchState.{SearchState}
use Rattle.sat_parts.specs.parts.Frame.{SameClauses, SameState}
use Rattle.sat_parts.specs.parts.Whole.{state, SearchStateInvariant}
use Rattle.sat_parts.specs.parts.Words.{TrailWordExtends, TrailWordIncreases}
use Rattle.sat_parts.proofs.lemmas.parts.LoadFrames.{carries_same}
use Rattle.sat_solver.proofs.lemmas.fits.LearnedLemmas.{fits_undone}
use Rattle.sat_solver.specs.declared.context.Search.{Search}
use Rattle.sat_solver.specs.clause.Activity.{all_bumped, BumpEffect}
use Rattle.sat_solver.specs.cdcl.Joint.{global_in, SearchInvariant}
use Rattle.sat_solver.specs.cdcl.Learning.{LearnEffect}
use Rattle.sat_solver.specs.unit_simplify.AfterUnits.{SameSize}
use Rattle.sat_solver.proofs.lemmas.clause.ReducingLemmas.{still, still_moved}
use Rattle.sat_solver.proofs.lemmas.cdcl.TurnLemmas.{moved_trans, leaves_refl}
use Rattle.sat_parts.proofs.lemmas.parts.WordSteps.{goes_trans}

same_state : (p p' : SearchState) → SameState p p' → state p' ≡ state p
same_state p p' x = rw (x.0, x.1, x.2) refl

pub bumped_same : (s : Session) (c c' : Search) → SearchInvariant s c → c'.globals ≡ c.globals → c'.assumptions ≡ c.assumptions → c'.analysis ≡ c.analysis → c'.flags ≡ c.flags →
    SearchStateInvariant c'.parts → SameClauses c.parts c'.parts → SameState c.parts c'.parts → TrailWordExtends c.parts c'.parts → BumpEffect s c c'
bumped_same s c c' search globals assumptions analysis flags holds clauses states word =
    let size : SameSize c.parts c'.parts = ap (λ a. length a.current) states.0 in
    record {
      search = still s s c c' search globals assumptions analysis flags (leaves_refl s) holds (fits_undone c.parts c'.parts s (global_in c) clauses (carries_same c.parts c'.parts states) search.valid.fits) size word (rw (same_state c.parts c'.parts states) search.ready.placed);
      moved = still_moved s s c c' search globals assumptions analysis flags size;
      word = word;
    }

-- a word stays lower when the higher one is extended
below_more : (u v z : List Letter) → IsLowerWord u v → IsLowerWord u (v ++ z)
below_more [] [] z h = absurd h
below_more [] (y ∷ v) z h = tt
below_more (x ∷ u) [] z h = absurd h
below_more (D ∷ u) (P ∷ v) z h = tt
below_more (P ∷ u) (D ∷ v) z h = absurd h
below_more (D ∷ u) (D ∷ v) z h = below_more u v z h
below_more (P ∷ u) (P ∷ v) z h = below_more u v z h

rises_on : (p q r : SearchState) → TrailWordIncreases p q → TrailWordExtends q r → TrailWordIncreases p r
rises_on p q r x y = λ am. (
  goes_trans am (state p) p.vsids (state q) q.vsids (state r) r.vsids (x am).0 (y am).0,
  λ w h. let v = (x am).1 w h in let u = (y am).1 v.0 v.1.0 in (u.0, (u.1.0, subst (λ z. IsLowerWord w z) (sym u.1.1.1) (below_more w v.0 u.1.1.0 v.1.1))),
)

-- what holds after learning a clause still holds after activities were raised
pub learned_on : (earlier steps : List Step) (s : Session) (a b c : Search) → LearnEffect earlier steps s a b → BumpEffect s b c → LearnEffect earlier steps s a c
learned_on earlier steps s a b c x y = record {
  search = y.search;
  moved = moved_trans a b c x.moved y.moved;
  rises = rises_on a.parts b.parts c.parts x.rises y.word;
  last = x.last;
}

-- VARIABLES, ONE AFTER ANOTHER

pub bumped_next : (vs : List ℕ) (i : ℕ) (q : Queue) → i < length vs → all_bumped (drop i vs) q ≡ all_bumped (drop (i + 1) vs) (bumped (get_or vs i 0) q)
bumped_next vs i q lt = at_drop_more (λ us. all_bumped us q) vs i 0 lt

pub bumped_last : (vs : List ℕ) (i : ℕ) (q : Queue) → length vs ≤ i → all_bumped (drop i vs) q ≡ q
bumped_last [] zero q le = refl
bumped_last [] (suc i) q le = refl
bumped_last (v ∷ vs) zero q le = absurd (omega arith)
bumped_last (v ∷ vs) (suc i) q le = bumped_last vs i q (omega arith)
