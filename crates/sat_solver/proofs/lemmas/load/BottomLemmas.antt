-- A search at level 0.
use Rattle.std.proofs.Common.{ℕ, zero, suc, ◌≡◌, ◌≢◌, ◌∙◌, true, false, eqb, Option, Some, List, [], ◌∷◌, refl, sym, subst, arith, inl, inr, ◌<◌, length, get_or}
use Rattle.std.proofs.lemmas.Bool.{cases_Bool, or_cases, or_left, or_right, eqb-true, eq-eqb, true≢false}
use Rattle.std.specs.List.{Contains}
use Rattle.sat_base.specs.values.Literals.{variable}
use Rattle.sat_checker.specs.LiteralSets.{mentions}
use Rattle.sat_solver.specs.session.LiveClauses.{AreMapped}
use Rattle.sat_base.specs.steps.Steps.{Assumptions as Asks}
use Rattle.sat_parts.specs.prop.State.{PropagationState}
use Rattle.sat_parts.specs.declared.parts.SearchState.{SearchState}
use Rattle.sat_parts.specs.declared.parts.assumptions.Assumptions.{Assumptions}
use Rattle.sat_parts.specs.parts.Assumed.{PlacesAreCorrect, HaveVariablesIn, variables_of_lits}
use Rattle.sat_parts.specs.parts.Frame.{SameClauses, AddsNoUnit}
use Rattle.sat_parts.specs.parts.Whole.{state, SearchStateInvariant}
use Rattle.sat_parts.specs.parts.Words.{KeepsRemovedAndIdleForAll}
use Rattle.sat_solver.proofs.lemmas.fits.AnswerParts.{parts_rests}
use Rattle.sat_solver.proofs.lemmas.fits.LearnedLemmas.{fits_undone}
use Rattle.sat_solver.specs.declared.context.Search.{Search}
use Rattle.sat_solver.specs.cdcl.Joint.{global_in, assumed_indices, SameVarsAndAssumptions}
use Rattle.sat_solver.proofs.lemmas.cdcl.TurnLemmas.{ready_moved, free_moved, leaves_refl}
use Rattle.sat_solver.specs.load.Restart.{FullyRestarted}
use Rattle.sat_solver.specs.assumptions.Setting.{ReplacesAssumed}

pub fully_restarted : (c : Search) (p : SearchState) (a : Assumptions) → p.trail.starts ≡ [] → SearchStateInvariant p → SameClauses c.parts p → AddsNoUnit (state c.parts) (state p) → KeepsRemovedAndIdleForAll c.parts p → PlacesAreCorrect a (state p) → a.lits ≡ c.assumptions.lits →
    FullyRestarted c (record c { parts = p; assumptions = a })
fully_restarted c p a bottom holds same carries stay placed lits =
    let c' : Search = record c { parts = p; assumptions = a } in
    let moved : SameVarsAndAssumptions c c' = record { globals = refl; lits = lits; size = carries.size } in
    record {
      bottom = bottom;
      holds = holds;
      same = same;
      carries = carries;
      stay = stay;
      placed = placed;
      moved = moved;
      rest = refl;
      free = λ f. free_moved c c' f moved refl refl;
      search = λ s x. record {
        valid = record { holds = holds; fits = fits_undone c.parts p s (global_in c) same carries x.valid.fits };
        ready = ready_moved s s c c' x.ready (leaves_refl s) moved (stay (assumed_indices c)) placed (free_moved c c' x.ready.free moved refl refl);
      };
    }

-- a variable of literals with solver names has its own solver name
pub mention_named : (global : ℕ → ℕ) (names : ℕ → Option ℕ) (ls : List ℕ) (v : ℕ) → AreMapped global names ls → mentions ls v ≡ true → names (global v) ≡ Some v
mention_named global names [] v h t = absurd (true≢false (sym t))
mention_named global names (l ∷ ls) v h t = elim (or_cases (eqb (variable l) v) (mentions ls v) t) [
  | inl e ↦ subst (λ w. names (global w) ≡ Some w) (eqb-true (variable l) v e) h.0
  | inr k ↦ mention_named global names ls v h.1 k
]

-- a variable that isn't mentioned differs from those of all literals
pub mention_not : (ls : List ℕ) (v : ℕ) → mentions ls v ≡ false → (k : ℕ) → k < length ls → variable (get_or ls k 0) ≢ v
mention_not [] v out k lt = absurd (let less : k < 0 = lt in omega arith)
mention_not (l ∷ ls) v out zero lt = λ e. true≢false (sym (or_left (eqb (variable l) v) (mentions ls v) (eq-eqb (variable l) v e)) ∙ out)
mention_not (l ∷ ls) v out (suc k) lt = elim (cases_Bool (mentions ls v)) [
  | inl t ↦ absurd (true≢false (sym (or_right (eqb (variable l) v) (mentions ls v) t) ∙ out))
  | inr f ↦ mention_not ls v f k (omega arith)
]

pub variables_mention : (ls : List ℕ) (v : ℕ) → Contains (variables_of_lits ls) v → mentions ls v ≡ true
variables_mention [] v c = absurd (let lt : c.0 < 0 = c.1 in omega arith)
variables_mention (l ∷ ls) v (zero, lt, e) = or_left (eqb (variable l) v) (mentions ls v) (eq-eqb (variable l) v e)
variables_mention (l ∷ ls) v (suc k, lt, e) = or_right (eqb (variable l) v) (mentions ls v) (variables_mention ls v (k, omega arith, e))

-- other assumptions replace the current ones
pub assumed : (c : Search) (a : Assumptions) → c.parts.trail.starts ≡ [] → HaveVariablesIn a.lits.items c.parts → ((s : PropagationState) → s.trail.starts ≡ [] → PlacesAreCorrect a s) → ReplacesAssumed a.lits.items c (record c { assumptions = a })
assumed c a bottom there placed = record {
  lits = refl;
  same = refl;
  search = λ s x named. record {
    valid = record { holds = x.valid.holds; fits = parts_rests c.parts s (global_in c) x.valid.fits (Asks _) tt };
    ready = record {
      free = record { names = x.ready.free.names; size = x.ready.free.size; clear = x.ready.free.clear; flags_size = x.ready.free.flags_size; flags_clear = x.ready.free.flags_clear };
      placed = placed (state c.parts) bottom;
      there = there;
      asked = refl;
      used = λ v lt. elim (x.ready.used v lt) [
        | inl own ↦ inl own
        | inr idle ↦ elim (cases_Bool (mentions a.lits.items v)) [
          | inl t ↦ inl (mention_named (global_in c) s.solver_names a.lits.items v named t)
          | inr f ↦ inr (idle.0, idle.1, λ k. true≢false (sym (variables_mention a.lits.items v k) ∙ f))
        ]
      ];
    };
  };
}
