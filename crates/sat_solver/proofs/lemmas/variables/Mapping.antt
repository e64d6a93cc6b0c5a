-- Literals mapped to other variables.
use Rattle.std.proofs.Common.{ℕ, suc, ◌+◌, ◌*◌, ◌%◌, ◌<◌, ◌≡◌, ◌++◌, ◌∷◌, [], List, length, get_or, map, drop, cond, eqb, sym, ◌∙◌, ap, arith, append_assoc, drop-cons, inl, inr}
use Rattle.std.proofs.lemmas.Bool.{cases_eq}
use Rattle.sat_base.specs.values.Literals.{variable, is_positive, mk_lit}
use Rattle.sat_solver.specs.session.LiveClauses.{with_var}

pub map_next : (f : ℕ → ℕ) (i : ℕ) (items xs : List ℕ) → i < length xs → (items ++ f (get_or xs i 0) ∷ []) ++ map f (drop (i + 1) xs) ≡ items ++ map f (drop i xs)
map_next f i items xs n =
    let e : i + 1 ≡ suc i = omega arith in
    rw (e, drop-cons xs i 0 n) (append_assoc items (f (get_or xs i 0) ∷ []) (map f (drop (suc i) xs)))

-- the literal of this proof variable with the same sign
pub coded_by : (global : ℕ → ℕ) (l : ℕ) → mk_lit (global (variable l)) (is_positive l) ≡ with_var global l
coded_by global l = elim (cases_eq (l % 2) 0) [
  | inl e ↦ ap (λ b. 2 * global (variable l) + cond b 0 1) (ap (λ r. eqb r 0) e) ∙ ap (λ r. 2 * global (variable l) + r) (sym e)
  | inr n ↦ (let e : l % 2 ≡ 1 = omega arith in ap (λ b. 2 * global (variable l) + cond b 0 1) (ap (λ r. eqb r 0) e) ∙ ap (λ r. 2 * global (variable l) + r) (sym e))
]
