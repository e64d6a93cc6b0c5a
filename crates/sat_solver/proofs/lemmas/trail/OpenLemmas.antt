-- Binary clauses with an assigned variable are removed, in the order of their lists.
use Rattle.std.proofs.Common.{ℕ, suc, ◌+◌, ◌<◌, ◌≡◌, Bool, true, false, ◌&&◌, cond, ltb, List, [], ◌∷◌, ◌++◌, length, get_or, refl, sym, ◌∙◌, ap, arith, inl, inr, Option}
use Rattle.std.proofs.lemmas.Bool.{cases_Bool}
use Rattle.std.proofs.lemmas.List.Elements.{filter-append}
use Rattle.std.specs.List.{filter}
use Rattle.sat_base.specs.values.Literals.{variable, negated}
use Rattle.sat_parts.specs.prop.Values.{is_unassigned_var}
use Rattle.sat_parts.specs.prop.Binaries.{Binaries, unassigned_among, RemovesAssigned}
use Rattle.sat_solver.specs.session.LiveClauses.{LiveClause}
use Rattle.sat_solver.specs.session.SolverClauses.{pair, binaries_of, binaries_from, binaries, is_open_clause}

pub pairs_both : (a : ℕ) (xs ys : List ℕ) → binaries_of a (xs ++ ys) ≡ binaries_of a xs ++ binaries_of a ys
pairs_both a [] ys = refl
pairs_both a (x ∷ xs) ys = go (ltb a x) (pairs_both a xs ys)
  where
    go : (b : Bool) → binaries_of a (xs ++ ys) ≡ binaries_of a xs ++ binaries_of a ys → cond b (pair a x ∷ binaries_of a (xs ++ ys)) (binaries_of a (xs ++ ys)) ≡ cond b (pair a x ∷ binaries_of a xs) (binaries_of a xs) ++ binaries_of a ys
    go true ih = ap (λ cs. pair a x ∷ cs) ih
    go false ih = ih

module _ (values : List (Option Bool)) where
  abbrev opens : List LiveClause → List LiveClause
  opens = filter (is_open_clause values)

  abbrev unset : ℕ → Bool
  unset l = is_unassigned_var values (variable l)

  -- WHAT IS LEFT OF ONE LIST

  opens_if : (a m : ℕ) (ms : List ℕ) → unset a ≡ true → (b : Bool) → opens (cond b (pair a m ∷ binaries_of a ms) (binaries_of a ms)) ≡ cond b (cond (unset m) (pair a m ∷ opens (binaries_of a ms)) (opens (binaries_of a ms))) (opens (binaries_of a ms))
  opens_if a m ms u true = ap (λ x. cond (x && (unset m && true)) (pair a m ∷ opens (binaries_of a ms)) (opens (binaries_of a ms))) u ∙ go (unset m)
    where
      go : (y : Bool) → cond (y && true) (pair a m ∷ opens (binaries_of a ms)) (opens (binaries_of a ms)) ≡ cond y (pair a m ∷ opens (binaries_of a ms)) (opens (binaries_of a ms))
      go true = refl
      go false = refl
  opens_if a m ms u false = refl

  pairs_if : (a m : ℕ) (ms : List ℕ) (y : Bool) → binaries_of a (cond y (m ∷ ms) ms) ≡ cond (ltb a m) (cond y (pair a m ∷ binaries_of a ms) (binaries_of a ms)) (binaries_of a ms)
  pairs_if a m ms true = refl
  pairs_if a m ms false = go (ltb a m)
    where
      go : (b : Bool) → binaries_of a ms ≡ cond b (binaries_of a ms) (binaries_of a ms)
      go true = refl
      go false = refl

  -- literal a has no value
  opens_open : (a : ℕ) (ms : List ℕ) → unset a ≡ true → binaries_of a (filter unset ms) ≡ opens (binaries_of a ms)
  opens_open a [] u = refl
  opens_open a (m ∷ ms) u =
      let ih : binaries_of a (filter unset ms) ≡ opens (binaries_of a ms) = opens_open a ms u in
      pairs_if a m (filter unset ms) (unset m)
      ∙ ap (λ cs. cond (ltb a m) (cond (unset m) (pair a m ∷ cs) cs) cs) ih
      ∙ sym (opens_if a m ms u (ltb a m))

  -- literal a has a value
  opens_set : (a : ℕ) (ms : List ℕ) → unset a ≡ false → [] ≡ opens (binaries_of a ms)
  opens_set a [] u = refl
  opens_set a (m ∷ ms) u = go (ltb a m) (opens_set a ms u)
    where
      go : (b : Bool) → [] ≡ opens (binaries_of a ms) → [] ≡ opens (cond b (pair a m ∷ binaries_of a ms) (binaries_of a ms))
      go true ih = ih ∙ sym (ap (λ x. cond (x && (unset m && true)) (pair a m ∷ opens (binaries_of a ms)) (opens (binaries_of a ms))) u)
      go false ih = ih

  opens_of : (l : ℕ) (ms : List ℕ) → binaries_of (negated l) (unassigned_among values (variable l) ms) ≡ opens (binaries_of (negated l) ms)
  opens_of l ms =
      let same : unset (negated l) ≡ is_unassigned_var values (variable l) = (let e : variable (negated l) ≡ variable l = omega arith in ap (is_unassigned_var values) e) in
      elim (cases_Bool (is_unassigned_var values (variable l))) [
        | inl t ↦ ap (λ b. binaries_of (negated l) (cond b (filter unset ms) [])) t ∙ opens_open (negated l) ms (same ∙ t)
        | inr f ↦ ap (λ b. binaries_of (negated l) (cond b (filter unset ms) [])) f ∙ opens_set (negated l) ms (same ∙ f)
      ]

  opens_from : (l : ℕ) (old new : List (List ℕ)) → length new ≡ length old → ((i : ℕ) → i < length old → get_or new i [] ≡ unassigned_among values (variable (l + i)) (get_or old i [])) → binaries_from l new ≡ opens (binaries_from l old)
  opens_from l [] [] n h = refl
  opens_from l [] (ms ∷ new) n h = absurd (omega arith)
  opens_from l (ms ∷ old) [] n h = absurd (omega arith)
  opens_from l (ms ∷ old) (ks ∷ new) n h =
      let z : l + 0 ≡ l = omega arith in
      let here : ks ≡ unassigned_among values (variable l) ms = h 0 (omega arith) ∙ ap (λ k. unassigned_among values (variable k) ms) z in
      let rest : binaries_from (l + 1) new ≡ opens (binaries_from (l + 1) old) = opens_from (l + 1) old new (omega arith) (λ i lt. (let y : l + suc i ≡ l + 1 + i = omega arith in h (suc i) (omega arith) ∙ ap (λ k. unassigned_among values (variable k) (get_or old i [])) y)) in
      ap (λ xs. binaries_of (negated l) xs ++ binaries_from (l + 1) new) here ∙ ap (λ cs. cs ++ binaries_from (l + 1) new) (opens_of l ms) ∙ ap (λ cs. opens (binaries_of (negated l) ms) ++ cs) rest
      ∙ sym (filter-append (is_open_clause values) (binaries_of (negated l) ms) (binaries_from (l + 1) old))

  -- the clauses that `remove_assigned` leaves
  pub binaries_open : (x y : Binaries) → RemovesAssigned values x y → binaries y.implied ≡ opens (binaries x.implied)
  binaries_open x y h = opens_from 0 x.implied y.implied h.size (λ i lt. (let z : 0 + i ≡ i = omega arith in h.implied i ∙ ap (λ k. unassigned_among values (variable k) (get_or x.implied i [])) (sym z)))
