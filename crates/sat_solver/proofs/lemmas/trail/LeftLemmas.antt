-- The binary clauses that are left while the lists of implied literals are visited.
use Rattle.std.proofs.Common.{ℕ, zero, suc, ◌+◌, ◌<◌, ◌≤◌, ◌≡◌, Bool, true, false, cond, ltb, List, [], ◌∷◌, ◌++◌, take, drop, drop-cons, length, get_or, refl, sym, ◌∙◌, ap, arith, inl, inr, Option, append_assoc}
use Rattle.std.proofs.lemmas.Bool.{cases_lt}
use Rattle.std.proofs.lemmas.List.{append-nil, get_or_past, length-take-le}
use Rattle.std.proofs.lemmas.List.Elements.{filter-append}
use Rattle.std.proofs.Math.Seq.{take-suc, take-length}
use Rattle.std.specs.List.{filter}
use Rattle.sat_base.specs.values.Literals.{negated}
use Rattle.sat_parts.specs.prop.Binaries.{implied_by}
use Rattle.sat_solver.specs.session.LiveClauses.{LiveClause}
use Rattle.sat_solver.specs.session.SolverClauses.{pair, binaries_of, binaries_from, binaries, InsertsClause, is_open_clause, binaries_left}
use Rattle.sat_solver.proofs.lemmas.trail.OpenLemmas.{pairs_both}

nothing_left : {X : Type 0} → (xs : List X) (n : ℕ) → length xs ≤ n → drop n xs ≡ []
nothing_left [] zero h = refl
nothing_left [] (suc n) h = refl
nothing_left (x ∷ xs) zero h = absurd (omega arith)
nothing_left (x ∷ xs) (suc n) h = nothing_left xs n (omega arith)

from_both : (l : ℕ) (xs ys : List (List ℕ)) → binaries_from l (xs ++ ys) ≡ binaries_from l xs ++ binaries_from (l + length xs) ys
from_both l [] ys = (let z : l + 0 ≡ l = omega arith in ap (λ k. binaries_from k ys) (sym z))
from_both l (ms ∷ xs) ys =
    let z : l + 1 + length xs ≡ l + suc (length xs) = omega arith in
    ap (λ cs. binaries_of (negated l) ms ++ cs) (from_both (l + 1) xs ys) ∙ sym (append_assoc (binaries_of (negated l) ms) (binaries_from (l + 1) xs) (binaries_from (l + 1 + length xs) ys))
    ∙ ap (λ k. (binaries_of (negated l) ms ++ binaries_from (l + 1) xs) ++ binaries_from k ys) z

-- the clauses from one list on are those of this list and of the lists after it
from_here : (implied : List (List ℕ)) (l : ℕ) → binaries_from l (drop l implied) ≡ binaries_of (negated l) (implied_by implied l) ++ binaries_from (l + 1) (drop (l + 1) implied)
from_here implied l = elim (cases_lt l (length implied)) [
  | inl lt ↦ ap (binaries_from l) (drop-cons implied l [] lt) ∙ (let z : suc l ≡ l + 1 = omega arith in ap (λ n. binaries_of (negated l) (implied_by implied l) ++ binaries_from (l + 1) (drop n implied)) z)
  | inr ge ↦
      ap (binaries_from l) (nothing_left implied l ge)
      ∙ sym (ap (λ ms. binaries_of (negated l) ms ++ binaries_from (l + 1) (drop (l + 1) implied)) (get_or_past implied l [] ge) ∙ ap (binaries_from (l + 1)) (nothing_left implied (l + 1) (omega arith)))
]

module _ (values : List (Option Bool)) (implied : List (List ℕ)) where
  abbrev opens : List LiveClause → List LiveClause
  opens = filter (is_open_clause values)

  -- at first all clauses are left
  pub left_start : binaries_left values implied 0 0 ≡ binaries implied
  left_start = sym (from_here implied 0)

  -- all literals of a list were visited
  pub left_list : (l : ℕ) → l < length implied → binaries_left values implied l (length (implied_by implied l)) ≡ binaries_left values implied (l + 1) 0
  left_list l lt =
      let ms : List ℕ = implied_by implied l in
      let a : ℕ = negated l in
      let before : List LiveClause = opens (binaries_from 0 (take l implied)) in
      let following : List LiveClause = binaries_from (l + 1) (drop (l + 1) implied) in
      let size : 0 + length (take l implied) ≡ l = (let e : length (take l implied) ≡ l = length-take-le l implied (omega arith) in omega arith) in
      let s : suc l ≡ l + 1 = omega arith in
      let more : binaries_from 0 (take (l + 1) implied) ≡ binaries_from 0 (take l implied) ++ binaries_of (negated l) (implied_by implied l) =
      ap (λ n. binaries_from 0 (take n implied)) (sym s) ∙ ap (binaries_from 0) (take-suc implied l [] lt) ∙ from_both 0 (take l implied) (ms ∷ [])
      ∙ ap (λ k. binaries_from 0 (take l implied) ++ (binaries_of (negated k) ms ++ [])) size ∙ ap (λ cs. binaries_from 0 (take l implied) ++ cs) (append-nil (binaries_of a ms)) in
      ap (λ xs. before ++ (opens (binaries_of a xs) ++ (binaries_of a (drop (length ms) ms) ++ following))) (take-length ms)
      ∙ ap (λ xs. before ++ (opens (binaries_of a ms) ++ (binaries_of a xs ++ following))) (nothing_left ms (length ms) (omega arith))
      ∙ sym (append_assoc before (opens (binaries_of a ms)) following)
      ∙ ap (λ cs. cs ++ following) (sym (filter-append (is_open_clause values) (binaries_from 0 (take l implied)) (binaries_of a ms)))
      ∙ ap (λ cs. opens cs ++ following) (sym more)
      ∙ ap (λ cs. opens (binaries_from 0 (take (l + 1) implied)) ++ cs) (from_here implied (l + 1))

  -- in the end only clauses without assigned variables are left
  pub left_end : binaries_left values implied (length implied) 0 ≡ opens (binaries implied)
  left_end =
      let n : ℕ = length implied in
      let gone : binaries_of (negated (length implied)) (implied_by implied (length implied)) ++ binaries_from (length implied + 1) (drop (length implied + 1) implied) ≡ [] =
      sym (from_here implied n) ∙ ap (binaries_from n) (nothing_left implied n (omega arith)) in
      ap (λ xs. opens (binaries_from 0 xs) ++ (binaries_of (negated n) (implied_by implied n) ++ binaries_from (n + 1) (drop (n + 1) implied))) (take-length implied)
      ∙ ap (λ cs. opens (binaries implied) ++ cs) gone ∙ append-nil (opens (binaries implied))

  -- A LITERAL OF A LIST

  module _ (l k : ℕ) (lt : k < length (implied_by implied l)) where
    abbrev m : ℕ
    m = get_or (implied_by implied l) k 0

    abbrev a : ℕ
    a = negated l

    abbrev one : List LiveClause
    one = binaries_of a (m ∷ [])

    abbrev before : List LiveClause
    before = opens (binaries_from 0 (take l implied))

    abbrev first : List LiveClause
    first = opens (binaries_of a (take k (implied_by implied l)))

    abbrev following : List LiveClause
    following = binaries_of a (drop (k + 1) (implied_by implied l)) ++ binaries_from (l + 1) (drop (l + 1) implied)

    -- the clauses before and after this literal is visited
    left_with : binaries_left values implied l k ≡ before ++ (first ++ (one ++ following))
    left_with =
        let ms : List ℕ = implied_by implied l in
        let s : suc k ≡ k + 1 = omega arith in
        ap (λ xs. before ++ (first ++ (binaries_of a xs ++ binaries_from (l + 1) (drop (l + 1) implied)))) (drop-cons ms k 0 lt ∙ ap (λ n. m ∷ drop n ms) s)
        ∙ ap (λ cs. before ++ (first ++ (cs ++ binaries_from (l + 1) (drop (l + 1) implied)))) (pairs_both a (m ∷ []) (drop (k + 1) ms))
        ∙ ap (λ cs. before ++ (first ++ cs)) (append_assoc one (binaries_of a (drop (k + 1) ms)) (binaries_from (l + 1) (drop (l + 1) implied)))

    left_next : binaries_left values implied l (k + 1) ≡ before ++ (first ++ (opens one ++ following))
    left_next =
        let ms : List ℕ = implied_by implied l in
        let s : k + 1 ≡ suc k = omega arith in
        ap (λ xs. before ++ (opens (binaries_of a xs) ++ following)) (ap (λ n. take n ms) s ∙ take-suc ms k 0 lt)
        ∙ ap (λ cs. before ++ (opens cs ++ following)) (pairs_both a (take k ms) (m ∷ []))
        ∙ ap (λ cs. before ++ (cs ++ following)) (filter-append (is_open_clause values) (binaries_of a (take k ms)) one)
        ∙ ap (λ cs. before ++ cs) (append_assoc first (opens one) following)

    -- the clause is visited in its other list
    pub left_other : ltb a m ≡ false → binaries_left values implied l k ≡ binaries_left values implied l (k + 1)
    left_other e =
        let none : binaries_of a (m ∷ []) ≡ [] = ap (λ b. cond b (pair a m ∷ []) []) e in
        left_with ∙ ap (λ cs. before ++ (first ++ (cs ++ following))) none ∙ sym (ap (λ cs. before ++ (first ++ (opens cs ++ following))) none) ∙ sym left_next

    -- the clause stays
    pub left_open : ltb a m ≡ true → is_open_clause values (pair a m) ≡ true → binaries_left values implied l k ≡ binaries_left values implied l (k + 1)
    left_open e u =
        let its : binaries_of a (m ∷ []) ≡ pair a m ∷ [] = ap (λ b. cond b (pair a m ∷ []) []) e in
        let same : opens (pair a m ∷ []) ≡ pair a m ∷ [] = ap (λ b. cond b (pair a m ∷ []) []) u in
        left_with ∙ ap (λ cs. before ++ (first ++ (cs ++ following))) (its ∙ sym same ∙ sym (ap opens its)) ∙ sym left_next

    -- the clause is removed
    pub left_set : ltb a m ≡ true → is_open_clause values (pair a m) ≡ false → InsertsClause (binaries_left values implied l (k + 1)) (binaries_left values implied l k) (pair a m)
    left_set e u =
        let its : binaries_of a (m ∷ []) ≡ pair a m ∷ [] = ap (λ b. cond b (pair a m ∷ []) []) e in
        let same : opens one ≡ [] = ap opens its ∙ ap (λ b. cond b (pair a m ∷ []) []) u in
        record {
          before = before ++ first;
          following = following;
          was = left_next ∙ ap (λ cs. before ++ (first ++ (cs ++ following))) same ∙ sym (append_assoc before first following);
          is = left_with ∙ ap (λ cs. before ++ (first ++ (cs ++ following))) its ∙ sym (append_assoc before first (pair a m ∷ following));
        }
