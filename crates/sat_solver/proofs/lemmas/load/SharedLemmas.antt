-- The indices that a call gives to names are those that the search takes.
use Rattle.std.proofs.Common.{ℕ, zero, suc, ◌*◌, ◌/◌, ◌%◌, ◌+◌, ◌≡◌, ◌<◌, ◌∙◌, inl, inr, Option, Some, None, List, [], ◌∷◌, map, length, get_or, refl, sym, ap, subst, arith}
use Rattle.std.specs.List.{AllByRecursion}
use Rattle.sat_base.specs.values.Literals.{variable, mk_lit}
use Rattle.sat_solver.proofs.lemmas.variables.MapLemmas.{some_within}
use Rattle.sat_solver.specs.session.Session.{Session}
use Rattle.sat_solver.specs.session.LiveClauses.{with_var, AreMapped}
use Rattle.sat_solver.specs.variables.Variables.{VariablesInvariant, NamesMatchSteps, solver_of, global_at, indices_used}
use Rattle.sat_solver.specs.load.Literals as adding
use Rattle.sat_solver.specs.variables.Search.{KeepsSearch, IsGiven, HasGiven, GivesIndices}
use Rattle.sat_solver.specs.declared.variables.solver_vars.Given.{Given}
use Rattle.sat_solver.specs.declared.variables.Variables.{Variables}
use Rattle.sat_solver.specs.declared.context.Search.{Search}
use Rattle.sat_solver.specs.cdcl.Joint.{global_in, SearchInvariant}
use Rattle.sat_solver.specs.variables.Initialized.{AreVacant, IsGivenTo, GivesIndicesInSession, GivesSearchIndices}
use Rattle.sat_solver.specs.variables.Shared.{SharesIndices}
use Rattle.sat_solver.proofs.lemmas.load.GivenLemmas.{are_vacant}
use Rattle.sat_solver.proofs.lemmas.load.IndexLemmas.{given_or_not}

none_some : {x : ℕ} {o : Option ℕ} → o ≡ None → o ≡ Some x → ⊥
none_some e f = cc

module _ (old new : Variables) (s t : Session) (gs : List Given) (tidy : VariablesInvariant old) (tidy' : VariablesInvariant new) (said : NamesMatchSteps old s) (names : (v : ℕ) → t.solver_names v ≡ solver_of new v) (gives : GivesIndices old new s gs) (keeps : KeepsSearch s t) where
  given_to : (g : Given) → IsGiven old new s g → IsGivenTo new.globals.items s t g
  given_to g i =
      let its : get_or new.globals.items g.solver 0 ≡ i.variable = tidy'.globals g.solver i.variable i.taken in
      record {
        without = ap s.solver_names its ∙ said.solver_names i.variable ∙ i.without;
        free = λ v e. none_some i.free (tidy.solvers.back v g.solver (sym (said.solver_names v) ∙ e));
        named = ap t.solver_names its ∙ names i.variable ∙ tidy'.solvers.forth i.variable g.solver i.taken;
        unit = λ b. ap (λ v. s.units (mk_lit v b)) its ∙ i.unit b;
      }

  all_given : (ks : List Given) → AllByRecursion (IsGiven old new s) ks → AllByRecursion (IsGivenTo new.globals.items s t) ks
  all_given [] h = tt
  all_given (k ∷ ks) h = (given_to k h.0, all_given ks h.1)

  all_below : (ks : List Given) → AllByRecursion (IsGiven old new s) ks → AllByRecursion (λ g. g.solver < length new.globals.items) ks
  all_below [] h = tt
  all_below (k ∷ ks) h = ((let lt : k.solver < indices_used new = some_within new.solver_from_global.bwd k.solver h.0.variable h.0.taken in omega (arith, tidy'.globals_count)), all_below ks h.1)

  module _ (c : Search) (shares : SharesIndices old c) where
    -- the session before and after the steps is as the search requires, so that it may take the indices
    pub gives_names : GivesIndicesInSession new.globals.items gs (length c.globals.items) s t
    gives_names = record {
      keeps = keeps;
      each = all_given gs gives.each;
      stays = λ v x e. names v ∙ gives.stays v x (sym (said.solver_names v) ∙ e);
      others = λ v x e. elim (gives.others v x (sym (names v) ∙ e)) [ inl o ↦ inl (said.solver_names v ∙ o) | inr h ↦ inr h ];
      below = λ v x e. shares.below x v (tidy.solvers.back v x (sym (said.solver_names v) ∙ e));
    }

    pub given_vacant : SearchInvariant s c → AreVacant c.parts (length new.globals.items) gs
    given_vacant h = are_vacant new.globals.items s t c (length new.globals.items) gs h (all_given gs gives.each) (all_below gs gives.each) gives.apart

    -- then search and names share the indices
    pub shares_given : (c' : Search) → GivesSearchIndices new.globals.items gs c c' → SharesIndices new c'
    shares_given c' a = record { size = a.size; few = (let k = tidy'.globals_count in let u = gives.used in let f = shares.few in let le = a.few (omega arith) in omega arith); below = below; same = same }
      where
        has_below : (ks : List Given) (x : ℕ) → AllByRecursion (λ g. g.solver < length c'.globals.items) ks → HasGiven ks x → x < length c'.globals.items
        has_below [] x h k = absurd k
        has_below (g ∷ ks) x h (inl e) = subst (λ z. z < length c'.globals.items) e h.0
        has_below (g ∷ ks) x h (inr k) = has_below ks x h.1 k

        below : (x v : ℕ) → global_at new x ≡ Some v → x < length c'.globals.items
        below x v e = elim (gives.others v x (tidy'.solvers.forth v x e)) [
          | inl o ↦ (let lt : x < length c.globals.items = shares.below x v (tidy.solvers.back v x o) in omega (arith, a.more))
          | inr h ↦ has_below gs x a.there h
        ]

        same : (x v : ℕ) → global_at new x ≡ Some v → get_or c'.globals.items x 0 ≡ v
        same x v e = elim (given_or_not gs x) [
          | inl h ↦ a.named x h ∙ tidy'.globals x v e
          | inr out ↦ elim (gives.others v x (tidy'.solvers.forth v x e)) [
            | inl o ↦ a.others x (shares.below x v (tidy.solvers.back v x o)) out ∙ shares.same x v (tidy.solvers.back v x o)
            | inr h ↦ absurd (out h)
          ]
        ]

-- LITERALS OVER INDICES

-- every literal is over the index of a proof variable
abbrev pub AreOver : Variables → List ℕ → Type 0
AreOver n = AllByRecursion (λ l. (v : ℕ) × (global_at n (variable l) ≡ Some v))

pub over_below : (n : Variables) (c : Search) (ls : List ℕ) → SharesIndices n c → AreOver n ls → (k : ℕ) → k < length ls → variable (get_or ls k 0) < length c.parts.assignment.current
over_below n c [] shares h k lt = absurd (omega arith)
over_below n c (l ∷ ls) shares h zero lt = (let below : variable l < length c.globals.items = shares.below (variable l) h.0.0 h.0.1 in omega (arith, shares.size))
over_below n c (l ∷ ls) shares h (suc k) lt = over_below n c ls shares h.1 k (omega arith)

pub over_named : (n : Variables) (c : Search) (t : Session) (ls : List ℕ) → VariablesInvariant n → ((v : ℕ) → t.solver_names v ≡ solver_of n v) → SharesIndices n c → AreOver n ls → AreMapped (global_in c) t.solver_names ls
over_named n c t [] tidy names shares h = tt
over_named n c t (l ∷ ls) tidy names shares h =
    (ap t.solver_names (shares.same (variable l) h.0.0 h.0.1) ∙ names h.0.0 ∙ tidy.solvers.forth h.0.0 (variable l) h.0.1, over_named n c t ls tidy names shares h.1)

-- names and search map these literals to the same proof variables
pub over_same : (n : Variables) (c : Search) (ls : List ℕ) → VariablesInvariant n → SharesIndices n c → AreOver n ls → map (with_var (adding.global_with_index n)) ls ≡ map (with_var (global_in c)) ls
over_same n c [] tidy shares h = refl
over_same n c (l ∷ ls) tidy shares h =
    let e : adding.global_with_index n (l / 2) ≡ global_in c (l / 2) = tidy.globals (l / 2) h.0.0 h.0.1 ∙ sym (shares.same (l / 2) h.0.0 h.0.1) in
    ap (λ v. (2 * v + l % 2) ∷ map (with_var (adding.global_with_index n)) ls) e ∙ ap (λ ms. with_var (global_in c) l ∷ ms) (over_same n c ls tidy shares h.1)
