-- At level 0 clauses are removed along with their steps.
use Rattle.std.proofs.Common.{ℕ, zero, suc, ◌+◌, ◌*◌, ◌≡◌, ◌<◌, ◌∙◌, ◌⊎◌, Bool, true, false, ltb, List, [], ◌∷◌, map, length, get_or, refl, sym, ap, subst, arith, Ok}
use Rattle.sat_base.specs.values.Literals.{variable, negated}
use Rattle.sat_base.specs.steps.Steps.{DeleteClause, Satisfied}
use Rattle.sat_parts.specs.prop.Binaries.{implied_by}
use Rattle.sat_base.specs.device.Device.{Writer}
use Rattle.sat_base.specs.steps.Steps.{Step}
use Rattle.sat_checker.specs.declared.processing.ProofProcessor.{Ghosts}
use Rattle.sat_solver.specs.session.Session.{Session, after, IsAllowedStep, session_after}
use Rattle.sat_solver.specs.proof.ProofView.{steps_of, session_of}
use Rattle.sat_solver.specs.declared.proof.Proof.{Proof}
use Rattle.sat_solver.specs.cdcl.StepEffects.{EmitsStepsWith}
use Rattle.sat_solver.proofs.lemmas.cdcl.AskedLemmas.{leaves_after, kinds_of}
use Rattle.sat_solver.specs.session.LiveClauses.{with_var}
use Rattle.sat_solver.specs.session.SolverClauses.{pair, is_open_clause}
use Rattle.sat_parts.specs.parts.Frame.{RemovesBinaries}
use Rattle.sat_parts.specs.parts.Whole.{SearchStateInvariant}
use Rattle.sat_parts.specs.parts.Words.{TrailWordExtends}
use Rattle.sat_solver.proofs.lemmas.fits.FramedParts.{fits_removed, same_state}
use Rattle.sat_solver.proofs.lemmas.fits.RemovedParts.{parts_removal_begins, parts_removal_goes_on, parts_removal_passes, parts_removal_deletes}
use Rattle.sat_parts.proofs.lemmas.parts.WordSteps.{extends_refl, extends_after}
use Rattle.sat_solver.specs.declared.context.Search.{Search}
use Rattle.sat_solver.specs.declared.context.Scratch.{Scratch}
use Rattle.sat_solver.specs.cdcl.Joint.{assumed_indices, global_in, SearchInvariant, SameAssumedAndNames}
use Rattle.sat_solver.proofs.lemmas.cdcl.TurnLemmas.{moved_refl, moved_trans}
use Rattle.sat_solver.proofs.lemmas.clause.ReducingLemmas.{still, still_moved}
use Rattle.sat_solver.specs.unit_simplify.EmptyTrail.{HasEmptyTrail, CanRemovePairs, LeavesPairs, IsStrengthened}

pub strengthened_refl : (s : Session) (c : Search) → SearchInvariant s c → IsStrengthened s c c
strengthened_refl s c h = record { search = h; moved = moved_refl c; word = extends_refl c.parts (assumed_indices c); state = (refl, refl, refl); refs = refl }

pub strengthened_trans : (s t : Session) (a b c : Search) → IsStrengthened s a b → IsStrengthened t b c → IsStrengthened t a c
strengthened_trans s t a b c x y = record {
  search = y.search;
  moved = moved_trans a b c x.moved y.moved;
  word = extends_after (assumed_indices a) a.parts b.parts c.parts x.word (rw x.moved.lits at y.word);
  state = (y.state.0 ∙ x.state.0, y.state.1 ∙ x.state.1, y.state.2 ∙ x.state.2);
  refs = y.refs ∙ x.refs;
}

pub flat_on : (a b : Search) (s : Session) → IsStrengthened s a b → HasEmptyTrail a.parts → HasEmptyTrail b.parts
flat_on a b s x f = record { bottom = ap (λ t. t.starts) x.state.2 ∙ f.bottom; empty = ap (λ t. t.lits) x.state.2 ∙ f.empty }

pub may_remove : (s : Session) (c : Search) → SearchInvariant s c → HasEmptyTrail c.parts → CanRemovePairs c
may_remove s c h flat = record { holds = h.valid.holds; flat = flat; paired = h.valid.fits.paired; names = h.ready.free.names }

-- steps of a search leave assumptions and names unchanged
pub goes_leaves : {A W L full : Type 0} {learns : Bool} {G : Ghosts L} (seen : W → Writer) (x : A) (p q : Proof W L G) (P : A → List Step → Type 0) → EmitsStepsWith full learns seen (Ok x) p q P → SameAssumedAndNames (session_of p) (session_of q)
goes_leaves seen x p q P h = subst (λ ss. SameAssumedAndNames (session_of p) (session_after ss)) (sym h.went.history) (leaves_after h.steps (steps_of p) (kinds_of (session_of p).solver_names h.steps h.searched))

pub may_scratch : (c : Search) (x : Scratch) → CanRemovePairs c → CanRemovePairs (record c { scratch = x })
may_scratch c x m = record { holds = m.holds; flat = m.flat; paired = m.paired; names = m.names }

-- BINARY CLAUSES

-- the clause at position k of list l
pub record PairAt (c : Search) (l k a b : ℕ) : Type 0 where
  pub first : a ≡ negated l
  pub second : b ≡ get_or (implied_by c.parts.binary.implied l) k 0

module _ (s : Session) (c : Search) (may : CanRemovePairs c) where
  pub pairs_begin : SearchInvariant s c → LeavesPairs s c 0 0
  pairs_begin h = parts_removal_begins c.parts (global_in c) may.holds may.paired may.flat.bottom may.flat.empty s h.valid.fits

  pub pairs_go_on : (l : ℕ) → l < length c.parts.binary.implied → LeavesPairs s c l (length (implied_by c.parts.binary.implied l)) → LeavesPairs s c (l + 1) 0
  pairs_go_on = parts_removal_goes_on c.parts (global_in c) may.holds may.paired may.flat.bottom may.flat.empty s

  module _ (l k : ℕ) (lt : k < length (implied_by c.parts.binary.implied l)) (h : LeavesPairs s c l k) (a b : ℕ) (at : PairAt c l k a b) where
    abbrev m : ℕ
    m = get_or (implied_by c.parts.binary.implied l) k 0

    pub pair_passes : (ltb a b ≡ false) ⊎ (is_open_clause c.parts.assignment.current (pair a b) ≡ true) → LeavesPairs s c l (k + 1)
    pair_passes x =
        parts_removal_passes c.parts (global_in c) may.holds may.paired may.flat.bottom may.flat.empty s l k lt h
        (subst (λ u. (ltb u m ≡ false) ⊎ (is_open_clause c.parts.assignment.current (pair u m) ≡ true)) at.first (subst (λ u. (ltb a u ≡ false) ⊎ (is_open_clause c.parts.assignment.current (pair a u) ≡ true)) at.second x))

    deleted : negated l < m → is_open_clause c.parts.assignment.current (pair (negated l) m) ≡ false →
        IsAllowedStep s (DeleteClause (map (with_var (global_in c)) (negated l ∷ m ∷ [])) Satisfied) × LeavesPairs (after (DeleteClause (map (with_var (global_in c)) (negated l ∷ m ∷ [])) Satisfied) s) c l (k + 1)
    deleted = parts_removal_deletes c.parts (global_in c) may.holds may.paired may.flat.bottom may.flat.empty s l k lt h

    pub pair_deletes : a < b → is_open_clause c.parts.assignment.current (pair a b) ≡ false →
        IsAllowedStep s (DeleteClause (map (with_var (global_in c)) (a ∷ b ∷ [])) Satisfied) × LeavesPairs (after (DeleteClause (map (with_var (global_in c)) (a ∷ b ∷ [])) Satisfied) s) c l (k + 1)
    pair_deletes = rw (at.first, at.second) deleted

    -- the second variable of the clause exists
    pub second_there : variable b < length c.parts.assignment.current
    second_there = (let x : m < 2 * length c.parts.assignment.current = may.holds.below.propagation.ranges.below l k lt in omega (arith, at.second))

    pub pair_there : l < length c.parts.binary.implied → (i : ℕ) → i < length (a ∷ b ∷ []) → variable (get_or (a ∷ b ∷ []) i 0) < length c.globals.items
    pair_there there zero less =
        let room : length c.parts.binary.implied ≡ 2 * length c.parts.assignment.current = may.holds.below.propagation.ranges.room in
        omega (arith, may.names, at.first)
    pair_there there (suc zero) less = omega (arith, may.names, second_there)
    pair_there there (suc (suc i)) less = absurd (omega arith)

-- then the clauses are removed
pub pairs_removed : (s s' : Session) (c c' : Search) → SearchInvariant s c → HasEmptyTrail c.parts → SameAssumedAndNames s s' → LeavesPairs s' c (length c.parts.binary.implied) 0 → c'.globals ≡ c.globals → c'.assumptions ≡ c.assumptions → c'.analysis ≡ c.analysis → c'.flags ≡ c.flags →
    SearchStateInvariant c'.parts → RemovesBinaries c.parts c'.parts → TrailWordExtends c.parts c'.parts → IsStrengthened s' c c'
pairs_removed s s' c c' h flat leaves left globals assumptions analysis flags holds r word =
    let size : length c'.parts.assignment.current ≡ length c.parts.assignment.current = ap (λ a. length a.current) r.state.0 in
    record {
      search = still s s' c c' h globals assumptions analysis flags leaves holds (fits_removed c.parts c'.parts s' (global_in c) h.valid.holds h.valid.fits.paired flat.bottom flat.empty left r) size word (rw (same_state c.parts c'.parts r.state) h.ready.placed);
      moved = still_moved s s' c c' h globals assumptions analysis flags size;
      word = word (assumed_indices c);
      state = r.state;
      refs = ap (λ d. d.refs) r.db;
    }
