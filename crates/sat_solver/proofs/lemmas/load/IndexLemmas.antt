-- Indices are taken, one after another.
use Rattle.std.proofs.Common.{ℕ, zero, suc, ◌≤◌, ◌+◌, ◌*◌, ◌%◌, eqb, drop, ◌≡◌, ◌≢◌, ◌<◌, ◌∙◌, ◌⊎◌, inl, inr, Bool, true, false, Some, None, List, [], ◌∷◌, set, length, get_or, refl, sym, ap, subst, arith, get_or-set_same, length-set}
use Rattle.std.proofs.lemmas.Bool.{cases_eq}
use Rattle.std.proofs.lemmas.List.{get_or-set_other}
use Rattle.std.specs.List.{AllByRecursion}
use Rattle.sat_base.specs.values.Literals.{mk_lit, variable, is_positive}
use Rattle.sat_store.specs.heap.Vsids.{is_available}
use Rattle.sat_parts.specs.prop.Values.{value_of, IsTrueLit, with_true_lit}
use Rattle.sat_parts.specs.prop.State.{level}
use Rattle.sat_parts.proofs.lemmas.prop.StateLemmas.{lit_from_parts}
use Rattle.sat_parts.specs.declared.parts.SearchState.{SearchState}
use Rattle.sat_parts.specs.parts.Whole.{state, SearchStateInvariant}
use Rattle.sat_parts.specs.parts.Frame.{SameClauses, SameState, GainsUnit, IsUnitLit}
use Rattle.sat_solver.specs.variables.Search.{HasGiven}
use Rattle.sat_solver.specs.declared.variables.solver_vars.Given.{Given}
use Rattle.sat_solver.specs.variables.Initialized.{GivesLit, IsVacant, ActivatesIndices, SetsVariablesOfIndices}

pub given_or_not : (gs : List Given) (v : ℕ) → HasGiven gs v ⊎ (HasGiven gs v → ⊥)
given_or_not [] v = inr (λ x. x)
given_or_not (g ∷ gs) v = elim (cases_eq g.solver v) [
  | inl e ↦ inl (inl e)
  | inr n ↦ elim (given_or_not gs v) [ inl k ↦ inl (inr k) | inr m ↦ inr (λ x. elim x [ inl e ↦ n e | inr k ↦ m k ]) ]
]

pub lit_given : (gs : List Given) (l : ℕ) → GivesLit gs l → HasGiven gs (variable l)
lit_given [] l h = h
lit_given (g ∷ gs) l (inl e) = inl e.0
lit_given (g ∷ gs) l (inr k) = inr (lit_given gs l k)

not_given : (gs : List Given) (x v : ℕ) → AllByRecursion (λ h. h.solver ≢ x) gs → x ≡ v → HasGiven gs v → ⊥
not_given [] x v apart e h = h
not_given (g ∷ gs) x v apart e (inl f) = apart.0 (f ∙ sym e)
not_given (g ∷ gs) x v apart e (inr k) = not_given gs x v apart.1 e k

none_other : (g : Given) (v : ℕ) → g.solver ≢ v → HasGiven (g ∷ []) v → ⊥
none_other g v n (inl e) = n e
none_other g v n (inr k) = k

pub takes_none : (p : SearchState) → SearchStateInvariant p → p.trail.starts ≡ [] → ActivatesIndices [] p p
takes_none p holds bottom = record {
  holds = holds;
  bottom = bottom;
  same = (refl, refl, refl);
  size = refl;
  values = λ v n. refl;
  picks = λ v n. refl;
  ready = λ v h none. absurd h;
  units = λ l u. inl u;
  kept = λ l t z. (t, z);
  its = λ l h. absurd h;
}

pub takes_cons : (g : Given) (gs : List Given) (p m q : SearchState) → AllByRecursion (λ h. h.solver ≢ g.solver) gs → ActivatesIndices (g ∷ []) p m → ActivatesIndices gs m q → ActivatesIndices (g ∷ gs) p q
takes_cons g gs p m q apart x y = record {
  holds = y.holds;
  bottom = y.bottom;
  same = (y.same.0 ∙ x.same.0, y.same.1 ∙ x.same.1, y.same.2 ∙ x.same.2);
  size = y.size ∙ x.size;
  values = λ v out. y.values v (λ k. out (inr k)) ∙ x.values v (λ k. elim k [ inl e ↦ out (inl e) | inr z ↦ z ]);
  picks = λ v out. y.picks v (λ k. out (inr k)) ∙ x.picks v (λ k. elim k [ inl e ↦ out (inl e) | inr z ↦ z ]);
  ready = λ v h none. elim h [
    | inl e ↦
        let out : HasGiven gs v → ⊥ = not_given gs g.solver v apart e in
        y.picks v out ∙ x.ready v (inl e) (sym (y.values v out) ∙ none)
    | inr k ↦ y.ready v k none
  ];
  units = λ l u. elim (y.units l u) [
    | inl o ↦ elim (x.units l o) [ inl w ↦ inl w | inr k ↦ elim k [ inl e ↦ inr (inl e) | inr z ↦ absurd z ] ]
    | inr k ↦ inr (inr k)
  ];
  kept = λ l t z. (let w = x.kept l t z in y.kept l w.0 w.1);
  its = λ l h. elim h [ inl e ↦ (let w = x.its l (inl e) in y.kept l w.0 w.1) | inr k ↦ y.its l k ];
}

-- the other indices are still vacant
pub vacant_on : (g : Given) (gs : List Given) (p m : SearchState) (count : ℕ) → AllByRecursion (λ h. h.solver ≢ g.solver) gs → ActivatesIndices (g ∷ []) p m → AllByRecursion (IsVacant p count) gs → AllByRecursion (IsVacant m count) gs
vacant_on g [] p m count apart x h = tt
vacant_on g (k ∷ ks) p m count apart x h =
    let out : HasGiven (g ∷ []) k.solver → ⊥ = none_other g k.solver (λ e. apart.0 (sym e)) in
    (record { below = h.0.below; open_value = x.values k.solver out ∙ h.0.open_value; unpicked = x.picks k.solver out ∙ h.0.unpicked }, vacant_on g ks p m count apart.1 x h.1)

module _ (p m p' : SearchState) (g : Given) (bottom : p.trail.starts ≡ []) (vacant : IsVacant p (length p.assignment.current) g) (same : SameClauses p m × SameState p m) (picks : m.vsids.available ≡ p.vsids.available) (room : length p.vsids.available ≡ length p.assignment.current) (holds : SearchStateInvariant p') where
  may_before : (v : ℕ) → is_available m.vsids v ≡ is_available p.vsids v
  may_before v = ap (λ (xs : List Bool). get_or xs v false) picks

  same_state : state m ≡ state p
  same_state = rw (same.1.0, same.1.1, same.1.2) refl

  -- an index is taken together with its unit
  pub takes_restored : (l : ℕ) → variable l ≡ g.solver → g.unit ≡ Some (is_positive l) → SameClauses m p' → GainsUnit l (state m) (state p') → p'.assignment ≡ with_true_lit l m.assignment → p'.vsids ≡ m.vsids → p'.trail ≡ m.trail → ActivatesIndices (g ∷ []) p p'
  takes_restored l var unit clauses gains values queue trail =
      let its : (k : ℕ) → variable l ≡ variable k → is_positive l ≡ is_positive k → k ≡ l = λ k e b. lit_from_parts k l (sym e) (sym b) in
      record {
        holds = holds;
        bottom = ap (λ t. t.starts) (trail ∙ same.1.2) ∙ bottom;
        same = (clauses.0 ∙ same.0.0, clauses.1 ∙ same.0.1, clauses.2 ∙ same.0.2);
        size = gains.size ∙ ap (λ a. length a.current) same.1.0;
        values = λ v out. ap (λ a. value_of a.current v) values ∙ get_or-set_other m.assignment.current (variable l) v (Some (is_positive l)) None (λ e. out (inl (sym (e ∙ var)))) ∙ ap (λ a. value_of a.current v) same.1.0;
        picks = λ v out. ap (λ q. is_available q v) queue ∙ may_before v;
        ready = λ v h n. elim h [
          | inl e ↦ absurd (none_some (is_positive l) (sym n ∙ ap (value_of p'.assignment.current) (sym (var ∙ e)) ∙ gains.holds.0))
          | inr z ↦ absurd z
        ];
        units = λ k u. elim (gains.units k u) [
          | inl o ↦ inl (subst (λ s. IsUnitLit s k) same_state o)
          | inr e ↦ inr (inl (sym var ∙ ap (λ z. variable z) (sym e), unit ∙ ap (λ z. Some (is_positive z)) (sym e)))
        ];
        kept = λ k t z. gains.bottom k (subst (λ s. IsTrueLit s.values k) (sym same_state) t) (subst (λ s. level s k ≡ 0) (sym same_state) z);
        its = λ k h. elim h [
          | inl e ↦
              let b : is_positive l ≡ is_positive k = some_same (is_positive l) (is_positive k) (sym unit ∙ e.1) in
              subst (λ z. IsTrueLit p'.assignment.current z × (level (state p') z ≡ 0)) (sym (its k (var ∙ e.0) b)) gains.holds
          | inr z ↦ absurd z
        ];
      }
    where
      none_some : (b : Bool) → None ≡ Some b → ⊥
      none_some b e = cc

      some_same : (x y : Bool) → Some x ≡ Some y → x ≡ y
      some_same x y e = cc

-- NAMES OF INDICES

pub renames_none : (globals xs : List ℕ) → SetsVariablesOfIndices [] globals xs xs
renames_none globals xs = record { size = refl; named = λ v h. absurd h; others = λ v n. refl }

pub renames_cons : (g : Given) (gs : List Given) (globals xs ys : List ℕ) → g.solver < length xs → AllByRecursion (λ h. h.solver ≢ g.solver) gs → SetsVariablesOfIndices gs globals (set xs g.solver (get_or globals g.solver 0)) ys → SetsVariablesOfIndices (g ∷ gs) globals xs ys
renames_cons g gs globals xs ys lt apart r = record {
  size = r.size ∙ length-set xs g.solver (get_or globals g.solver 0);
  named = λ v h. elim h [
    | inl e ↦
        r.others v (not_given gs g.solver v apart e) ∙ subst (λ u. get_or (set xs g.solver (get_or globals g.solver 0)) u 0 ≡ get_or globals u 0) e (get_or-set_same xs g.solver (get_or globals g.solver 0) 0 lt)
    | inr k ↦ r.named v k
  ];
  others = λ v out. r.others v (λ k. out (inr k)) ∙ get_or-set_other xs g.solver v (get_or globals g.solver 0) 0 (λ e. out (inl (sym e)));
}

-- LITERALS OF A VARIABLE

pub coded_variable : (v : ℕ) (b : Bool) → variable (mk_lit v b) ≡ v
coded_variable v true = omega arith
coded_variable v false = omega arith

pub coded_sign : (v : ℕ) (b : Bool) → is_positive (mk_lit v b) ≡ b
coded_sign v true = (let e : (2 * v + 0) % 2 ≡ 0 = omega arith in ap (λ r. eqb r 0) e)
coded_sign v false = (let e : (2 * v + 1) % 2 ≡ 1 = omega arith in ap (λ r. eqb r 0) e)

-- THE REST OF A LIST

pub drop_next : (gs : List Given) (i : ℕ) (g : Given) → i < length gs → get_or gs i g ≡ g → drop i gs ≡ g ∷ drop (i + 1) gs
drop_next [] i g lt e = absurd (omega arith)
drop_next (h ∷ hs) zero g lt e = ap (λ x. x ∷ hs) e
drop_next (h ∷ hs) (suc i) g lt e = drop_next hs i g (omega arith) e ∙ ap (λ n. g ∷ drop n (h ∷ hs)) (let q : suc (i + 1) ≡ suc i + 1 = omega arith in q)

pub drop_end : (gs : List Given) (i : ℕ) → length gs ≤ i → drop i gs ≡ []
drop_end [] zero le = refl
drop_end [] (suc i) le = refl
drop_end (h ∷ hs) zero le = absurd (omega arith)
drop_end (h ∷ hs) (suc i) le = drop_end hs i (omega arith)

pub set_size : (xs : List ℕ) (i x : ℕ) → length (set xs i x) ≡ length xs
set_size xs i x = length-set xs i x
