-- The true literals of a complete search may be written as a model.
use Rattle.std.proofs.Common.{ℕ, suc, ◌+◌, ◌-◌, ◌*◌, ◌/◌, ◌%◌, ◌≤◌, ◌≡◌, ◌∙◌, Bool, true, false, eqb, Option, None, Some, List, [], ◌∷◌, map, get_or, sym, ap, arith, inl, inr}
use Rattle.std.proofs.lemmas.Bool.{cases_eq, or_cases, or_left, or_right, eq-eqb, eqb-true, true≢false, false_from_ne_true}
use Rattle.std.proofs.lemmas.Option.{none-some}
use Rattle.sat_base.specs.values.Literals.{variable, is_positive, mk_lit}
use Rattle.sat_base.specs.steps.Steps.{Model}
use Rattle.sat_checker.specs.LiteralSets.{is_among}
use Rattle.sat_checker.specs.SortedSets.{NoRepeats}
use Rattle.sat_solver.specs.session.LiveClauses.{with_var}
use Rattle.sat_solver.specs.session.Session.{Session, IsAllowedStep}
use Rattle.sat_parts.proofs.lemmas.parts.AnswerLemmas.{is_modelled}
use Rattle.sat_solver.specs.session.Units.{AreTrueLits}
use Rattle.sat_solver.proofs.lemmas.fits.CodeLemmas.{coded_by}
use Rattle.sat_solver.proofs.lemmas.fits.LawLemmas.{model_may}
use Rattle.sat_solver.specs.declared.context.Search.{Search}
use Rattle.sat_solver.specs.cdcl.Joint.{global_in, SearchInvariant}
use Rattle.sat_solver.specs.cdcl.Showing.{true_lits}
use Rattle.sat_solver.specs.cdcl.Iterations.{IsComplete}
use Rattle.sat_solver.proofs.lemmas.cdcl.TurnLemmas.{ready_names}

coded_variable : (v : ℕ) (b : Bool) → variable (mk_lit v b) ≡ v
coded_variable v true = omega arith
coded_variable v false = omega arith

coded_sign : (v : ℕ) (b : Bool) → is_positive (mk_lit v b) ≡ b
coded_sign v true = (let e : (2 * v + 0) % 2 ≡ 0 = omega arith in ap (λ r. eqb r 0) e)
coded_sign v false = (let e : (2 * v + 1) % 2 ≡ 1 = omega arith in ap (λ r. eqb r 0) e)

coded_back : (v l : ℕ) (b : Bool) → variable l ≡ v → b ≡ is_positive l → mk_lit v b ≡ l
coded_back v l b e f =
    ap (λ w. mk_lit w b) (sym e) ∙ ap (λ c. mk_lit (variable l) c) f ∙ coded_by (λ w. w) l ∙ (let z : 2 * (l / 2) + l % 2 ≡ l = omega arith in z)

further : (v l : ℕ) (x : Option Bool) (xs : List (Option Bool)) → v + 1 ≤ variable l → get_or (x ∷ xs) (variable l - v) None ≡ get_or xs (variable l - (v + 1)) None
further v l x xs le = (let e : variable l - v ≡ suc (variable l - (v + 1)) = omega arith in ap (λ k. get_or (x ∷ xs) k None) e)

record IsValued (v : ℕ) (values : List (Option Bool)) (l : ℕ) : Type 0 where
  above : v ≤ variable l
  value : get_or values (variable l - v) None ≡ Some (is_positive l)

later : (v l : ℕ) (x : Option Bool) (xs : List (Option Bool)) → IsValued (v + 1) xs l → IsValued v (x ∷ xs) l
later v l x xs y = record { above = (let a = y.above in omega arith); value = further v l x xs y.above ∙ y.value }

only : (v : ℕ) (values : List (Option Bool)) (l : ℕ) → is_among (true_lits v values) l ≡ true → IsValued v values l
only v [] l h = absurd (true≢false (sym h))
only v (None ∷ xs) l h = later v l None xs (only (v + 1) xs l h)
only v (Some b ∷ xs) l h = elim (or_cases (eqb (mk_lit v b) l) (is_among (true_lits (v + 1) xs) l) h) [
  | inl e ↦
      let same : mk_lit v b ≡ l = eqb-true (mk_lit v b) l e in
      let var : variable l ≡ v = ap variable (sym same) ∙ coded_variable v b in
      let zero_place : variable l - v ≡ 0 = omega arith in
      record {
        above = omega arith;
        value = ap (λ k. get_or (Some b ∷ xs) k None) zero_place ∙ ap Some (sym (coded_sign v b) ∙ ap is_positive same);
      }
  | inr k ↦ later v l (Some b) xs (only (v + 1) xs l k)
]

here : (v l : ℕ) (x : Option Bool) (xs : List (Option Bool)) → variable l ≡ v → get_or (x ∷ xs) (variable l - v) None ≡ Some (is_positive l) → x ≡ Some (is_positive l)
here v l x xs e h = (let z : variable l - v ≡ 0 = omega arith in sym (ap (λ k. get_or (x ∷ xs) k None) z) ∙ h)

all : (v : ℕ) (values : List (Option Bool)) (l : ℕ) → IsValued v values l → is_among (true_lits v values) l ≡ true
all v [] l y = (let n : None ≡ Some (is_positive l) = y.value in absurd (none-some (is_positive l) n))
all v (None ∷ xs) l y = elim (cases_eq (variable l) v) [
  | inl e ↦ (let n : None ≡ Some (is_positive l) = here v l None xs e y.value in absurd (none-some (is_positive l) n))
  | inr n ↦ (let a = y.above in let le : v + 1 ≤ variable l = omega arith in all (v + 1) xs l (record { above = le; value = sym (further v l None xs le) ∙ y.value }))
]
all v (Some b ∷ xs) l y = elim (cases_eq (variable l) v) [
  | inl e ↦
      let q : Some b ≡ Some (is_positive l) = here v l (Some b) xs e y.value in
      let p : b ≡ is_positive l = cc in
      or_left (eqb (mk_lit v b) l) (is_among (true_lits (v + 1) xs) l) (eq-eqb (mk_lit v b) l (coded_back v l b e p))
  | inr n ↦
      let a = y.above in
      let le : v + 1 ≤ variable l = omega arith in
      or_right (eqb (mk_lit v b) l) (is_among (true_lits (v + 1) xs) l) (all (v + 1) xs l (record { above = le; value = sym (further v l (Some b) xs le) ∙ y.value }))
]

once : (v : ℕ) (values : List (Option Bool)) → NoRepeats (true_lits v values)
once v [] = tt
once v (None ∷ xs) = once (v + 1) xs
once v (Some b ∷ xs) = (
  false_from_ne_true (is_among (true_lits (v + 1) xs) (mk_lit v b)) (λ t. let y = only (v + 1) xs (mk_lit v b) t in let a = y.above in let e = coded_variable v b in omega arith),
  once (v + 1) xs,
)

pub are_true_lits : (values : List (Option Bool)) → AreTrueLits values (true_lits 0 values)
are_true_lits values = record {
  only = λ l t. let y = only 0 values l t in let z : variable l - 0 ≡ variable l = omega arith in sym (ap (λ k. get_or values k None) z) ∙ y.value;
  all = λ l t. all 0 values l (record { above = omega arith; value = (let z : variable l - 0 ≡ variable l = omega arith in ap (λ k. get_or values k None) z ∙ t) });
  once = once 0 values;
}

-- the true literals may be written as a model
pub complete_may : (s : Session) (c : Search) → SearchInvariant s c → IsComplete c.assumptions.lits.items c.parts → IsAllowedStep s (Model (map (with_var (global_in c)) (true_lits 0 c.parts.assignment.current)))
complete_may s c search complete =
    model_may c.parts s (global_in c) (true_lits 0 c.parts.assignment.current) search.valid.fits (ready_names s c search.ready) search.valid.holds (are_true_lits c.parts.assignment.current) complete.all
    (is_modelled c.parts search.valid.holds complete.done complete.all)
