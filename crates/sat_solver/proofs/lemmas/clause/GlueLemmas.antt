-- Every level of a learned clause's literals has a flag.
use Rattle.std.proofs.Common.{ℕ, zero, suc, ◌+◌, ◌-◌, ◌*◌, ◌<◌, ◌≤◌, ◌≡◌, List, [], ◌∷◌, length, get_or, refl, sym, ap, subst, arith, inl, inr}
use Rattle.std.proofs.lemmas.Bool.{cases_eq}
use Rattle.sat_base.specs.values.Literals.{variable}
use Rattle.sat_parts.specs.declared.prop.graph.Conflict.{Conflict}
use Rattle.sat_parts.specs.prop.ReasonLits.{conflict_lits}
use Rattle.sat_parts.specs.prop.Graphs.{node_of}
use Rattle.sat_parts.specs.prop.State.{PropagationState}
use Rattle.sat_parts.specs.prop.TrailWord.{LevelsBeginWithDecisions, letters}
use Rattle.sat_parts.proofs.lemmas.prop.RoomLemmas.{below_from_value}
use Rattle.sat_solver.specs.analyze_conflict.AnalysisState.{AnalysisState}
use Rattle.sat_solver.specs.analyze_conflict.Derivation.{AnalysisResult}
use Rattle.sat_parts.specs.declared.parts.SearchState.{SearchState}
use Rattle.sat_parts.specs.parts.Words.{trail_letters}
use Rattle.sat_parts.specs.parts.Whole.{state, SearchStateInvariant, HasConflict}
use Rattle.sat_parts.proofs.lemmas.parts.WordSteps.{word_begins, word_fits}

letters_counted : (starts ls : List ℕ) (at : ℕ) → length (letters starts ls at) ≡ length ls
letters_counted starts [] at = refl
letters_counted starts (l ∷ ls) at = ap suc (letters_counted starts ls (at + 1))

-- `starts[k]` is at least k
ladder : (s : PropagationState) → LevelsBeginWithDecisions s → (k : ℕ) → k < length s.trail.starts → k ≤ get_or s.trail.starts k 0
ladder s x zero b = omega arith
ladder s x (suc k) b = omega (arith, ladder s x k (omega arith), x.strict k (suc k) (omega arith) b)

levels_few : (p : SearchState) → (n : ℕ) → LevelsBeginWithDecisions (state p) → length p.trail.lits ≤ n → length p.trail.starts ≤ n
levels_few p n x le = elim (cases_eq (length p.trail.starts) 0) [
  | inl e ↦ omega arith
  | inr d ↦ omega (arith, ladder (state p) x (length p.trail.starts - 1) (omega arith), x.begun (length p.trail.starts - 1) (omega arith))
]

-- there are at most as many levels as variables
pub starts_few : (p : SearchState) → SearchStateInvariant p → length p.trail.starts ≤ length p.assignment.current
starts_few p h =
    let fits : length (trail_letters p.trail) ≤ length p.assignment.current = word_fits [] (state p) p.vsids (trail_letters p.trail) h.below.propagation.agrees (word_begins [] p) in
    levels_few p (length p.assignment.current) h.below.levelled (omega (arith, fits, letters_counted p.trail.starts p.trail.lits 0))

-- the same when a clause is falsified
starts_refuted : (p : SearchState) (e : Conflict) → HasConflict p e → length p.trail.starts ≤ length p.assignment.current
starts_refuted p e refuted =
    let fits : length (trail_letters p.trail) ≤ length p.assignment.current = word_fits [] (state p) p.vsids (trail_letters p.trail) refuted.0.propagation.agrees (word_begins [] p) in
    levels_few p (length p.assignment.current) refuted.0.levelled (omega (arith, fits, letters_counted p.trail.starts p.trail.lits 0))

-- every level up to the current one has a flag
pub levels_below : (p : SearchState) (e : Conflict) (count : ℕ) → HasConflict p e → 0 < length p.assignment.current → 2 * length p.assignment.current ≤ count → (level : ℕ) → level ≤ length p.trail.starts → level < count
levels_below p e count refuted some le level low = omega (arith, starts_refuted p e refuted)

pub levels_flagged : (p : SearchState) (e : Conflict) (w : AnalysisState) (back count : ℕ) → HasConflict p e → AnalysisResult p.clauses (state p) (conflict_lits p.clauses e) w back → 2 * length p.assignment.current ≤ count →
    (k : ℕ) → k < length w.clause → (node_of p.graph (variable (get_or w.clause k 0))).level < count
levels_flagged p e w back count refuted learns le k lt =
    let there : variable (get_or w.clause k 0) < length p.assignment.current = below_from_value p.assignment.current (variable (get_or w.clause k 0)) _ (learns.asserting.fails k lt) in
    let few : length p.trail.starts ≤ length p.assignment.current = starts_refuted p e refuted in
    elim (cases_eq k 0) [
      | inl z ↦ subst (λ j. (node_of p.graph (variable (get_or w.clause j 0))).level < count) (sym z) (omega (arith, learns.asserting.top, few, there))
      | inr d ↦ omega (arith, learns.asserting.lower k (omega arith) lt, few, there)
    ]
