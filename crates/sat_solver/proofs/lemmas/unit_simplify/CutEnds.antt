-- A long clause is strengthened.
use Rattle.std.proofs.Common.{ℕ, ◌≡◌, ◌∙◌, Bool, Result, Ok, Err, List, [], ◌∷◌, map, take, sym, ap, subst}
use Rattle.std.specs.List.{Contains}
use Rattle.sat_base.specs.device.Device.{Writer}
use Rattle.sat_base.specs.steps.Steps.{Step, Simplified}
use Rattle.sat_base.specs.values.Hashes.{hash_of}
use Rattle.sat_store.specs.clause.Buffer.{lits_at}
use Rattle.sat_checker.specs.declared.processing.ProofProcessor.{Ghosts}
use Rattle.sat_parts.specs.clause.Db.{live_refs}
use Rattle.sat_solver.specs.session.LiveClauses.{with_var}
use Rattle.sat_solver.specs.proof.ProofView.{steps_of, session_of}
use Rattle.sat_solver.specs.session.Session.{session_after}
use Rattle.sat_solver.specs.declared.proof.Proof.{Proof}
use Rattle.sat_solver.specs.declared.error.SolverError.{SolverError}
use Rattle.sat_parts.specs.declared.parts.SearchState.{SearchState}
use Rattle.sat_solver.specs.session.Matching.{is_redundant, SessionMatchesParts}
use Rattle.sat_solver.proofs.lemmas.fits.FramedParts.{BothParts}
use Rattle.sat_parts.proofs.lemmas.parts.WordSteps.{extends_trans}
use Rattle.sat_parts.specs.parts.Words.{TrailWordExtends}
use Rattle.sat_parts.specs.parts.Frame.{SameState}
use Rattle.sat_solver.specs.cdcl.StepEffects.{HaveIndices, EmitsSteps}
use Rattle.sat_solver.specs.cdcl.Joint.{global_in, SearchInvariant, SameAssumedAndNames}
use Rattle.sat_solver.specs.declared.context.Search.{Search}
use Rattle.sat_solver.proofs.lemmas.cdcl.GoingLemmas.{goes_on, goes_failing}
use Rattle.sat_solver.specs.unit_simplify.StrengtheningSteps.{deleted_step, derived_step, CanStrengthen}
use Rattle.sat_solver.specs.unit_simplify.Strengthening.{StrengtheningEffect, PreparesStrengthening}
use Rattle.sat_solver.specs.unit_simplify.EmptyTrail.{HasEmptyTrail, IsStrengthened, StrengthensClause}
use Rattle.sat_solver.specs.unit_simplify.ClauseStatus.{HasFalse}
use Rattle.sat_solver.proofs.lemmas.unit_simplify.CutLemmas.{cut_goes, fewer_open, part_named}
use Rattle.sat_solver.proofs.lemmas.unit_simplify.StrengthenSearchLemmas.{goes_leaves}
use Rattle.sat_solver.proofs.lemmas.unit_simplify.StrengthenClauseLemmas.{strengthens_cut}
use Rattle.sat_solver.proofs.lemmas.unit_simplify.TrueLemmas.{strengthened_by}

-- the open literals of the clause at o were gathered in m, and replace the clause in d
module _ {W L : Type 0} {G : Ghosts L} (seen : W → Writer) (p : Proof W L G) (c m : Search) (o len : ℕ) (h : SearchInvariant (session_of p) c) (flat : HasEmptyTrail c.parts) (there : Contains (live_refs c.parts.clauses c.parts.db.refs) o) (has : HasFalse c.parts o)
    (same : m ≡ record c { parts = m.parts; scratch = m.scratch }) (left : List ℕ) (n : PreparesStrengthening c m left o len) (q : SearchState) (r : StrengtheningEffect m.parts q o len) (b : Bool) (side : is_redundant m.parts.clauses o ≡ b) where
  abbrev part : List ℕ
  part = map (with_var (global_in c)) (take len (lits_at m.parts.clauses o))

  abbrev clause : List ℕ
  clause = map (with_var (global_in c)) (lits_at c.parts.clauses o)

  abbrev hashes : List ℕ
  hashes = hash_of (lits_at c.parts.clauses o) ∷ []

  abbrev first : Step
  first = derived_step b part hashes

  abbrev second : Step
  second = deleted_step b Simplified clause

  both : BothParts m.parts q (session_of p) (global_in c) first second
  both = cut_goes (steps_of p) c m.parts o len h flat there n.gathers n.some n.within (fewer_open c.parts m.parts o len there n.gathers has) q r.puts b side

  pub cut_named : HaveIndices (session_of p).solver_names left
  cut_named = rw n.part (part_named (steps_of p) c m.parts o len h flat there n.gathers n.some n.within (fewer_open c.parts m.parts o len there n.gathers has))

  pub cut_may : CanStrengthen (session_of p) b left m.scratch.hashes.items m.scratch.clause.items
  cut_may = rw (n.part, n.hashes, n.clause) (record { derive = both.derive; delete = both.delete })

  module _ (z : Proof W L G) where
    abbrev d : Search
    d = record m { parts = q }

    abbrev Wrote : Type 0
    Wrote = steps_of z ≡ deleted_step b Simplified m.scratch.clause.items ∷ derived_step b left m.scratch.hashes.items ∷ steps_of p

    fits : Wrote → SessionMatchesParts q (session_of z) (global_in c)
    fits w = subst (λ ss. SessionMatchesParts q (session_after ss) (global_in c)) (sym w) (rw (n.part, n.clause) both.fits)

    state : SameState c.parts q
    state = (r.state.0 ∙ n.gathers.same.0.0, r.state.1 ∙ n.gathers.same.0.1, r.state.2 ∙ n.gathers.same.0.2)

    word : TrailWordExtends c.parts q
    word = extends_trans c.parts m.parts q n.gathers.word r.word

    strengthened : SameAssumedAndNames (session_of p) (session_of z) → Wrote → IsStrengthened (session_of z) c d
    strengthened leaves w =
        strengthened_by (session_of p) (session_of z) c d h (ap (λ s. s.globals) same) (ap (λ s. s.assumptions) same) (ap (λ s. s.analysis) same) (ap (λ s. s.flags) same) leaves r.holds (fits w) state word
        (r.refs ∙ ap (λ x. x.refs) n.gathers.db)

    pub cut_ends : (x : Result (Unit {0}) SolverError) → EmitsSteps seen x p z (λ _ _. Wrote) → EmitsSteps seen x p z (λ _ _. StrengthensClause (session_of z) c d o)
    cut_ends (Ok v) g = goes_on seen v v p z (λ _ _. Wrote) (λ _ _. StrengthensClause (session_of z) c d o) (λ steps w. strengthens_cut (session_of z) c d m.parts o len (strengthened (goes_leaves seen v p z (λ _ _. Wrote) g) w) there n.within n.gathers r) g
    cut_ends (Err e) g = goes_failing seen e p z (λ _ _. Wrote) (λ _ _. StrengthensClause (session_of z) c d o) g
