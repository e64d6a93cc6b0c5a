-- A model of all variables of the proof may be written.
use Rattle.std.proofs.Common.{ℕ, zero, suc, ◌+◌, ◌*◌, ◌/◌, ◌%◌, ◌<◌, ◌≡◌, ◌∙◌, Bool, true, false, cond, eqb, ◌||◌, Option, None, Some, List, [], ◌∷◌, ◌++◌, map, get_or, refl, sym, ap, subst, arith, inl, inr}
use Rattle.std.specs.List.{list_any}
use Rattle.std.proofs.lemmas.List.{append-nil}
use Rattle.std.proofs.lemmas.Bool.{cases_eq, or_cases, or_left, or_right, eq-eqb, eqb-true, true≢false, false_from_ne_true}
use Rattle.sat_base.specs.values.Literals.{variable, is_positive, mk_lit, negated}
use Rattle.sat_base.specs.steps.Steps.{Model}
use Rattle.sat_checker.specs.LiteralSets.{is_among, mentions}
use Rattle.sat_checker.specs.Accepts.{VariablesDistinct}
use Rattle.sat_checker.proofs.lemmas.sets.Order.{among-append}
use Rattle.sat_solver.specs.session.LiveClauses.{with_var}
use Rattle.sat_solver.specs.session.Session.{Session, IsAllowedStep, CanWriteModel}
use Rattle.sat_solver.specs.declared.context.Search.{Search}
use Rattle.sat_solver.specs.cdcl.Joint.{global_in, SearchInvariant}
use Rattle.sat_solver.specs.cdcl.Showing.{true_lits}
use Rattle.sat_solver.specs.cdcl.Iterations.{IsComplete}
use Rattle.sat_solver.proofs.lemmas.cdcl.ShowingLemmas.{are_true_lits, complete_may}
use Rattle.sat_solver.proofs.lemmas.fits.CodeLemmas.{coded_by}
use Rattle.sat_solver.proofs.lemmas.variables.ModeChanges.{live_within}
use Rattle.sat_solver.proofs.lemmas.cdcl.TurnLemmas.{ready_names}
use Rattle.sat_solver.specs.variables.Variables.{VariablesInvariant, NamesMatchSteps, data_at, solver_of, variables_used, is_unit_value}
use Rattle.sat_solver.specs.variables.Shared.{SharesIndices}
use Rattle.sat_solver.specs.Models.{has_true_value, value_by, value_in, literal_in, model_to}
use Rattle.sat_solver.specs.declared.variables.Variables.{Variables}
use Rattle.sat_solver.proofs.lemmas.variables.ModelSteps.{model_zero, model_next}
use Rattle.sat_parts.proofs.lemmas.parts.ValueLemmas.{coded_variable}

-- the literal is that of a variable in use, below the count, with its value
pub record IsShown (n : Variables) (values : List (Option Bool)) (count l : ℕ) : Type 0 where
  pub below : variable l < count
  pub live : (data_at n (variable l)).deleted ≡ false
  pub value : l ≡ mk_lit (variable l) (value_in n values (variable l))

pub coded_sign : (v : ℕ) (b : Bool) → is_positive (mk_lit v b) ≡ b
coded_sign v true = (let e : (2 * v + 0) % 2 ≡ 0 = omega arith in ap (λ r. eqb r 0) e)
coded_sign v false = (let e : (2 * v + 1) % 2 ≡ 1 = omega arith in ap (λ r. eqb r 0) e)

pub coded_back : (l : ℕ) → mk_lit (variable l) (is_positive l) ≡ l
coded_back l = coded_by (λ w. w) l ∙ (let z : 2 * (l / 2) + l % 2 ≡ l = omega arith in z)

negated_variable : (l : ℕ) → variable (negated l) ≡ variable l
negated_variable l = elim (cases_eq (l % 2) 0) [
  | inl z ↦ omega arith
  | inr k ↦ omega arith
]

-- the only literal of a list of at most one
pub only_lit : (gone : Bool) (v l : ℕ) (b : Bool) → is_among (cond gone [] (mk_lit v b ∷ [])) l ≡ true → (gone ≡ false) × (mk_lit v b ≡ l)
only_lit true v l b h = absurd (true≢false (sym h))
only_lit false v l b h = elim (or_cases (eqb (mk_lit v b) l) false h) [
  | inl e ↦ (refl, eqb-true (mk_lit v b) l e)
  | inr k ↦ absurd (true≢false (sym k))
]

pub has_lit : (gone : Bool) (v : ℕ) (b : Bool) → gone ≡ false → is_among (cond gone [] (mk_lit v b ∷ [])) (mk_lit v b) ≡ true
has_lit true v b e = absurd (true≢false e)
has_lit false v b e = or_left (eqb (mk_lit v b) (mk_lit v b)) false (eq-eqb (mk_lit v b) (mk_lit v b) refl)

module _ (n : Variables) (values : List (Option Bool)) where
  grown : (count : ℕ) → model_to n values (suc count) ≡ model_to n values count ++ literal_in n values count
  grown count = (let q : suc count ≡ count + 1 = omega arith in ap (model_to n values) q) ∙ sym (model_next n values count (model_to n values count) (model_to n values count ++ literal_in n values count) refl refl)

  pub model_only : (count l : ℕ) → is_among (model_to n values count) l ≡ true → IsShown n values count l
  model_only zero l h = absurd (true≢false (sym (sym (ap (λ xs. is_among xs l) (model_zero n values)) ∙ h)))
  model_only (suc count) l h = elim (or_cases (is_among (model_to n values count) l) (is_among (literal_in n values count) l) (sym (among-append (model_to n values count) (literal_in n values count) l) ∙ sym (ap (λ xs. is_among xs l) (grown count)) ∙ h)) [
    | inl k ↦ (let y = model_only count l k in record { below = (let b = y.below in omega arith); live = y.live; value = y.value })
    | inr k ↦ (
        let p = only_lit (data_at n count).deleted count l (value_in n values count) k in
        let same : variable l ≡ count = ap variable (sym p.1) ∙ coded_variable count (value_in n values count) in
        record {
          below = omega arith;
          live = ap (λ v. (data_at n v).deleted) same ∙ p.0;
          value = sym p.1 ∙ ap (λ v. mk_lit v (value_in n values v)) (sym same);
        }
        )
  ]

  pub model_all : (count v : ℕ) → v < count → (data_at n v).deleted ≡ false → is_among (model_to n values count) (mk_lit v (value_in n values v)) ≡ true
  model_all zero v lt live = absurd (omega arith)
  model_all (suc count) v lt live =
      ap (λ xs. is_among xs (mk_lit v (value_in n values v))) (grown count)
      ∙ among-append (model_to n values count) (literal_in n values count) (mk_lit v (value_in n values v))
      ∙ elim (cases_eq v count) [
        | inl e ↦ or_right (is_among (model_to n values count) (mk_lit v (value_in n values v))) (is_among (literal_in n values count) (mk_lit v (value_in n values v)))
            (subst (λ w. is_among (literal_in n values w) (mk_lit v (value_in n values v)) ≡ true) e (has_lit (data_at n v).deleted v (value_in n values v) live))
        | inr k ↦ or_left (is_among (model_to n values count) (mk_lit v (value_in n values v))) (is_among (literal_in n values count) (mk_lit v (value_in n values v)))
            (model_all count v (omega arith) live)
      ]

mentioned : (ls : List ℕ) (v : ℕ) → mentions ls v ≡ true → (l : ℕ) × (is_among ls l ≡ true) × (variable l ≡ v)
mentioned [] v h = absurd (true≢false (sym h))
mentioned (x ∷ ls) v h = elim (or_cases (eqb (variable x) v) (mentions ls v) h) [
  | inl e ↦ (x, or_left (eqb x x) (is_among ls x) (eq-eqb x x refl), eqb-true (variable x) v e)
  | inr k ↦ (let m = mentioned ls v k in (m.0, or_right (eqb x m.0) (is_among ls m.0) m.1, m.2))
]

-- a literal of a new variable is appended
apart_more : (ls : List ℕ) (y : ℕ) → VariablesDistinct ls → mentions ls (variable y) ≡ false → VariablesDistinct (ls ++ y ∷ [])
apart_more [] y h k = (refl, tt)
apart_more (x ∷ ls) y h k = (
  false_from_ne_true (mentions (ls ++ y ∷ []) (variable x)) (λ t.
      let m = mentioned (ls ++ y ∷ []) (variable x) t in
      elim (or_cases (is_among ls m.0) (is_among (y ∷ []) m.0) (sym (among-append ls (y ∷ []) m.0) ∙ m.1)) [
        | inl a ↦ true≢false (sym (has_mention ls m.0 (variable x) a m.2) ∙ h.0)
        | inr b ↦ elim (or_cases (eqb y m.0) false b) [
          | inl e ↦ (
              let same : variable x ≡ variable y = sym m.2 ∙ ap variable (sym (eqb-true y m.0 e)) in
              true≢false (sym (or_left (eqb (variable x) (variable y)) (mentions ls (variable y)) (eq-eqb (variable x) (variable y) same)) ∙ k)
              )
          | inr z ↦ absurd (true≢false (sym z))
        ]
      ]),
  apart_more ls y h.1 (no_right (eqb (variable x) (variable y)) (mentions ls (variable y)) k),
)
  where
    has_mention : (ls : List ℕ) (l v : ℕ) → is_among ls l ≡ true → variable l ≡ v → mentions ls v ≡ true
    has_mention [] l v h e = absurd (true≢false (sym h))
    has_mention (x ∷ ls) l v h e = elim (or_cases (eqb x l) (is_among ls l) h) [
      | inl s ↦ or_left (eqb (variable x) v) (mentions ls v) (eq-eqb (variable x) v (ap variable (eqb-true x l s) ∙ e))
      | inr k ↦ or_right (eqb (variable x) v) (mentions ls v) (has_mention ls l v k e)
    ]

    no_right : (a b : Bool) → (a || b) ≡ false → b ≡ false
    no_right true b h = absurd (true≢false h)
    no_right false b h = h

apart_lit : (gone : Bool) (ls : List ℕ) (v : ℕ) (b : Bool) → VariablesDistinct ls → mentions ls v ≡ false → VariablesDistinct (ls ++ cond gone [] (mk_lit v b ∷ []))
apart_lit true ls v b h k = subst VariablesDistinct (sym (append-nil ls)) h
apart_lit false ls v b h k = apart_more ls (mk_lit v b) h (ap (mentions ls) (coded_variable v b) ∙ k)

module _ (n : Variables) (values : List (Option Bool)) where
  pub model_apart : (count : ℕ) → VariablesDistinct (model_to n values count)
  model_apart zero = subst VariablesDistinct (sym (model_zero n values)) tt
  model_apart (suc count) = subst VariablesDistinct (sym (grown n values count)) (apart_lit (data_at n count).deleted (model_to n values count) count (value_in n values count) (model_apart count)
      (false_from_ne_true (mentions (model_to n values count) count) (λ t.
      let m = mentioned (model_to n values count) count t in
      let y = model_only n values count m.0 m.1 in
      let b = y.below in let e = m.2 in omega arith)))

any_more : (xs ys set : List ℕ) → ((l : ℕ) → is_among xs l ≡ true → is_among ys l ≡ true) → list_any (is_among xs) set ≡ true → list_any (is_among ys) set ≡ true
any_more xs ys [] more h = absurd (true≢false (sym h))
any_more xs ys (l ∷ set) more h = elim (or_cases (is_among xs l) (list_any (is_among xs) set) h) [
  | inl a ↦ or_left (is_among ys l) (list_any (is_among ys) set) (more l a)
  | inr k ↦ or_right (is_among ys l) (list_any (is_among ys) set) (any_more xs ys set more k)
]

mapped_back : (f : ℕ → ℕ) (ls : List ℕ) (y : ℕ) → is_among (map f ls) y ≡ true → (l : ℕ) × (is_among ls l ≡ true) × (f l ≡ y)
mapped_back f [] y h = absurd (true≢false (sym h))
mapped_back f (l ∷ ls) y h = elim (or_cases (eqb (f l) y) (is_among (map f ls) y) h) [
  | inl e ↦ (l, or_left (eqb l l) (is_among ls l) (eq-eqb l l refl), eqb-true (f l) y e)
  | inr k ↦ (let m = mapped_back f ls y k in (m.0, or_right (eqb l m.0) (is_among ls m.0) m.1, m.2))
]

unit_value : (unit : Option Bool) (b : Bool) → is_unit_value unit b ≡ true → has_true_value unit ≡ b
unit_value None b h = absurd (true≢false (sym h))
unit_value (Some value) true h = h
unit_value (Some true) false h = absurd (true≢false (sym h))
unit_value (Some false) false h = refl

other_sign : (l : ℕ) → negated l ≡ l → ⊥
other_sign l e = elim (cases_eq (l % 2) 0) [
  | inl z ↦ omega arith
  | inr k ↦ omega arith
]

module _ (n : Variables) (s : Session) (c : Search) (tidy : VariablesInvariant n) (said : NamesMatchSteps n s) (search : SearchInvariant s c) (shares : SharesIndices n c) where
  abbrev pub values : List (Option Bool)
  values = c.parts.assignment.current

  global_is : (v x : ℕ) → solver_of n v ≡ Some x → global_in c x ≡ v
  global_is v x e = shares.same x v (tidy.solvers.back v x e)

  -- the proof literal of an index is that of its variable
  searched : (v x : ℕ) (b : Bool) → solver_of n v ≡ Some x → with_var (global_in c) (mk_lit x b) ≡ mk_lit v b
  searched v x b e =
      sym (coded_by (global_in c) (mk_lit x b))
      ∙ ap (λ w. mk_lit (global_in c w) (is_positive (mk_lit x b))) (coded_variable x b)
      ∙ ap (λ w. mk_lit w (is_positive (mk_lit x b))) (global_is v x e)
      ∙ ap (mk_lit v) (coded_sign x b)

  -- the value of a unit's variable is the one that makes the unit true
  unit_shown : (v : ℕ) (b : Bool) (o : Option ℕ) → solver_of n v ≡ o → s.units (mk_lit v b) ≡ true → value_in n values v ≡ b
  unit_shown v b None e u = ap (λ o. value_by o values (data_at n v).unit) e ∙ unit_value (data_at n v).unit b (sym (said.units v e b) ∙ u)
  unit_shown v b (Some x) e u =
      let same = searched v x b e in
      let name : s.solver_names (global_in c (variable (mk_lit x b))) ≡ Some (variable (mk_lit x b)) =
      ap (λ w. s.solver_names (global_in c w)) (coded_variable x b) ∙ ap s.solver_names (global_is v x e) ∙ said.solver_names v ∙ e ∙ ap Some (sym (coded_variable x b)) in
      let y = search.valid.fits.sound (mk_lit x b) name (ap s.units same ∙ u) in
      ap (λ o. value_by o values (data_at n v).unit) e
      ∙ ap (λ w. has_true_value (get_or values w None)) (sym (coded_variable x b))
      ∙ ap has_true_value y.0
      ∙ coded_sign x b

  units_shown : (count l : ℕ) → s.units l ≡ true → is_among (model_to n values count) (negated l) ≡ false
  units_shown count l u = false_from_ne_true (is_among (model_to n values count) (negated l)) (λ t.
      let y = model_only n values count (negated l) t in
      let var : variable (negated l) ≡ variable l = negated_variable l in
      let whole : mk_lit (variable l) (is_positive l) ≡ l = coded_back l in
      let value = unit_shown (variable l) (is_positive l) (solver_of n (variable l)) refl (ap s.units whole ∙ u) in
      other_sign l (y.value ∙ ap (λ v. mk_lit v (value_in n values v)) var ∙ ap (mk_lit (variable l)) value ∙ whole))

  shown_lit : (l : ℕ) → is_among (map (with_var (global_in c)) (true_lits 0 values)) l ≡ true → is_among (model_to n values (variables_used n)) l ≡ true
  shown_lit l h =
      let m = mapped_back (with_var (global_in c)) (true_lits 0 values) l h in
      let is_true_lit = (are_true_lits values).only m.0 m.1 in
      let v = global_in c (variable m.0) in
      let index : solver_of n v ≡ Some (variable m.0) = sym (said.solver_names v) ∙ ready_names s c search.ready m.0 is_true_lit in
      let live = tidy.indexed v (variable m.0) index in
      let value : value_in n values v ≡ is_positive m.0 = ap (λ o. value_by o values (data_at n v).unit) index ∙ ap has_true_value is_true_lit in
      let lit : mk_lit v (value_in n values v) ≡ l = ap (mk_lit v) value ∙ coded_by (global_in c) m.0 ∙ m.2 in
      subst (λ k. is_among (model_to n values (variables_used n)) k ≡ true) lit (model_all n values (variables_used n) v (live_within n v live) live)

  pub shown_may : IsComplete c.assumptions.lits.items c.parts → IsAllowedStep s (Model (model_to n values (variables_used n)))
  shown_may complete =
      let base : CanWriteModel s (map (with_var (global_in c)) (true_lits 0 values)) = complete_may s c search complete in
      record {
        consistent = base.consistent;
        apart = model_apart n values (variables_used n);
        units = units_shown (variables_used n);
        clauses = λ set lt. any_more (map (with_var (global_in c)) (true_lits 0 values)) (model_to n values (variables_used n)) set shown_lit (base.clauses set lt);
      }
