-- The open literals of a clause, counted one after another.
use Rattle.std.proofs.Common.{ℕ, ◌+◌, ◌*◌, ◌%◌, ◌^◌, ◌<◌, ◌≤◌, ◌≡◌, Bool, true, false, not, cond, List, [], ◌∷◌, ◌++◌, length, length-append, take, get_or, refl, sym, ◌∙◌, ap, arith}
use Rattle.std.proofs.lemmas.List.{append-nil}
use Rattle.std.proofs.lemmas.List.Elements.{filter_more}
use Rattle.sat_base.specs.values.Literals.{var_limit, negated}
use Rattle.sat_checker.specs.LiteralSets.{is_among}
use Rattle.sat_checker.specs.ClauseStates.{not_false}

-- That the literals before a place that are not false are counted. If there is only one, `codes` is its code.
pub record CountsOpen (assumed clause : List ℕ) (place number codes : ℕ) : Type 0 where
  pub count : number ≡ length (not_false assumed (take place clause))
  pub few : number ≤ place
  pub none : number ≡ 0 → codes ≡ 0
  pub one : number ≡ 1 → (not_false assumed (take place clause) ≡ codes ∷ []) × (codes < 2 * var_limit)

no_items : (xs : List ℕ) → 0 ≡ length xs → xs ≡ []
no_items [] e = refl
no_items (x ∷ xs) e = absurd (omega arith)

module _ (assumed clause : List ℕ) (place : ℕ) (inside : place < length clause) where
  next_open : (b : Bool) → b ≡ not (is_among assumed (negated (get_or clause place 0))) → not_false assumed (take (place + 1) clause) ≡ not_false assumed (take place clause) ++ cond b (get_or clause place 0 ∷ []) []
  next_open b e = filter_more (λ l. not (is_among assumed (negated l))) clause place 0 inside ∙ ap (λ t. not_false assumed (take place clause) ++ cond t (get_or clause place 0 ∷ []) []) (sym e)

  pub CountsOpen-next : (number codes more sum : ℕ) (b : Bool) → get_or clause place 0 < 2 * var_limit → codes < 2 ^ 64 → b ≡ not (is_among assumed (negated (get_or clause place 0)))
      → more ≡ number + cond b 1 0 → sum ≡ (codes + cond b (get_or clause place 0) 0) % 2 ^ 64 → CountsOpen assumed clause place number codes → CountsOpen assumed clause (place + 1) more sum
  CountsOpen-next number codes more sum true fits small e m s h =
      let step = next_open true e in
      let n : length (not_false assumed (take place clause) ++ get_or clause place 0 ∷ []) ≡ length (not_false assumed (take place clause)) + 1 = length-append (not_false assumed (take place clause)) (get_or clause place 0 ∷ []) in
      record {
        count = omega (arith, h.count, ap length step, n);
        few = omega (arith, h.few);
        none = λ z. absurd (omega arith);
        one = λ z.
            let o : number ≡ 0 = omega arith in
            let c : codes ≡ 0 = h.none o in
            let is : get_or clause place 0 ≡ sum = omega arith in
            let empty = no_items (not_false assumed (take place clause)) (sym o ∙ h.count) in (
              step ∙ ap (λ xs. xs ++ get_or clause place 0 ∷ []) empty ∙ ap (λ l. l ∷ []) is,
              omega arith,
            );
      }
  CountsOpen-next number codes more sum false fits small e m s h =
      let same = next_open false e ∙ append-nil (not_false assumed (take place clause)) in
      let n : more ≡ number = omega arith in
      let c : sum ≡ codes = omega arith in
      record {
        count = n ∙ h.count ∙ ap length (sym same);
        few = omega (arith, h.few);
        none = λ z. c ∙ h.none (sym n ∙ z);
        one = λ z. let o = h.one (sym n ∙ z) in (same ∙ o.0 ∙ ap (λ l. l ∷ []) (sym c), omega (arith, o.1));
      }

pub CountsOpen-first : (assumed clause : List ℕ) → CountsOpen assumed clause 0 0 0
CountsOpen-first assumed clause = record { count = refl; few = omega arith; none = λ z. refl; one = λ z. absurd (omega arith) }
