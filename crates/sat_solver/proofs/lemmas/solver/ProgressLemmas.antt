-- The counts that a solver reports.
use Rattle.std.proofs.Common.{ℕ, suc, ◌+◌, ◌≡◌, ◌∙◌, Bool, cond, List, get_or, Option, refl, sym, ap, arith}
use Rattle.sat_store.specs.clause.Header.{tier_index}
use Rattle.sat_store.specs.declared.clause.tier.Tier.{Tier}
use Rattle.sat_checker.specs.declared.processing.ProofProcessor.{Ghosts}
use Rattle.sat_solver.specs.declared.variables.Variables.{Variables}
use Rattle.sat_solver.specs.declared.solver.Engine.{Engine}
use Rattle.sat_solver.specs.declared.state.SatState.{SatState}
use Rattle.sat_solver.specs.declared.state.SatState.TheVariants as states
use Rattle.sat_parts.specs.declared.parts.SearchState.{SearchState}
use Rattle.sat_solver.specs.variables.Counting.{count_to}
use Rattle.sat_solver.proofs.lemmas.variables.Counts.{count_suc}
use Rattle.sat_parts.specs.parts.Whole.{SearchStateInvariant}
use Rattle.sat_solver.specs.solver.Progressing.{is_unassigned_at, live_count_of_tier, EngineIsOngoing}
use Rattle.sat_solver.specs.solver.Whole.{HoldsInState}

-- if the search continues, its parts satisfy their invariant
pub parts_hold : {W L : Type 0} {G : Ghosts L} (s : Engine W L G) → EngineIsOngoing s → SearchStateInvariant s.context.search.parts
parts_hold s h = go s.state refl (h.solver h.going).says
  where
    go : (st : SatState) → s.state ≡ st → HoldsInState st s.context s.names s.asked s.assumed.items s.reported.failed_core.items → SearchStateInvariant s.context.search.parts
    go states.Unknown e x = x.joined.sound.search.valid.holds
    go states.Sat e x = x.0.joined.sound.search.valid.holds
    go states.UnsatUnderAssumptions e x = x.0.joined.sound.search.valid.holds
    go states.Unsat e x = absurd (h.left e)

-- one more index was visited
pub counted_next : (n : Variables) (values : List (Option Bool)) (x count next : ℕ) (open_there : Bool) → count ≡ count_to x (is_unassigned_at n values) → open_there ≡ is_unassigned_at n values x → next ≡ count + cond open_there 1 0 → next ≡ count_to (x + 1) (is_unassigned_at n values)
counted_next n values x count next b c e s =
    s ∙ ap (λ k. k + cond b 1 0) c ∙ ap (λ t. count_to x (is_unassigned_at n values) + cond t 1 0) e ∙ sym (count_suc x (is_unassigned_at n values))
    ∙ ap (λ k. count_to k (is_unassigned_at n values)) (let q : suc x ≡ x + 1 = omega arith in q)

-- the count of a tier is the number of its live clauses
pub tier_count : (p : SearchState) → SearchStateInvariant p → (tier : Tier) (r : ℕ) → r ≡ get_or p.db.counts (tier_index tier) 0 → r ≡ live_count_of_tier p tier
tier_count p h tier r e = e ∙ h.below.db_matches.counts tier
