-- Clauses over search variables, mapped to proof variables.
use Rattle.std.proofs.Common.{ℕ, ◌+◌, ◌-◌, ◌*◌, ◌/◌, ◌%◌, ◌≡◌, Bool, true, false, ◌||◌, eqb, List, [], ◌∷◌, map, refl, sym, ◌∙◌, ap, subst, arith, ◌⊎◌, inl, inr, Option, Some}
use Rattle.std.proofs.lemmas.Bool.{or_cases, or_left, or_right, or_parts, or_from, eqb-true, eqb-false, eq-eqb, ne_eqb, true≢false}
use Rattle.std.specs.List.{AllByRecursion}
use Rattle.sat_base.specs.values.Literals.{variable, negated}
use Rattle.sat_checker.specs.LiteralSets.{is_among}
use Rattle.sat_checker.specs.SortedSets.{NoRepeats}
use Rattle.sat_checker.specs.ConflictPropagation.{PropagatesToConflict}
use Rattle.sat_solver.specs.session.Session.{Session, rup_assumptions}
use Rattle.sat_solver.specs.session.LiveClauses.{with_var, AreMapped}

-- mapping commutes with negation
pub negated_mapped : (global : ℕ → ℕ) (l : ℕ) → with_var global (negated l) ≡ negated (with_var global l)
negated_mapped global l =
    let half : negated l / 2 ≡ l / 2 = omega arith in
    let other : (2 * global (l / 2) + l % 2) / 2 ≡ global (l / 2) = omega arith in
    let sign : (2 * global (l / 2) + l % 2) % 2 ≡ l % 2 = omega arith in
    let flip : negated l % 2 ≡ 1 - l % 2 = omega arith in
    ap (λ v. 2 * global v + negated l % 2) half ∙ ap (λ b. 2 * global (l / 2) + b) flip ∙ sym (ap (λ v. 2 * v + (1 - (2 * global (l / 2) + l % 2) % 2)) other ∙ ap (λ b. 2 * global (l / 2) + (1 - b)) sign)

-- the image of a member is among the images
pub among_mapped : (w : ℕ → ℕ) (ls : List ℕ) (l : ℕ) → is_among ls l ≡ true → is_among (map w ls) (w l) ≡ true
among_mapped w [] l h = absurd (true≢false (sym h))
among_mapped w (x ∷ xs) l h = elim (or_cases (eqb x l) (is_among xs l) h) [
  | inl e ↦ or_left (eqb (w x) (w l)) (is_among (map w xs) (w l)) (eq-eqb (w x) (w l) (ap w (eqb-true x l e)))
  | inr k ↦ or_right (eqb (w x) (w l)) (is_among (map w xs) (w l)) (among_mapped w xs l k)
]

module _ (global : ℕ → ℕ) where
  -- if p holds for a literal, q holds for its image
  abbrev pub Carries : (ℕ → Bool) → (ℕ → Bool) → Type 0
  Carries p q = (l : ℕ) → p l ≡ true → q (with_var global l) ≡ true

  -- if all literals of a clause are false, so are those of its image
  all_mapped : (p q : ℕ → Bool) → Carries p q → (c : List ℕ) → AllByRecursion (λ l. p (negated l) ≡ true) c → AllByRecursion (λ l. q (negated l) ≡ true) (map (with_var global) c)
  all_mapped p q m [] h = tt
  all_mapped p q m (l ∷ ls) h = (subst (λ x. q x ≡ true) (negated_mapped global l) (m (negated l) h.0), all_mapped p q m ls h.1)

  -- the same for all literals but one
  others_mapped : (p q : ℕ → Bool) (o : ℕ) → Carries p q → (c : List ℕ) → AllByRecursion (λ l. (l ≡ o) ⊎ (p (negated l) ≡ true)) c → AllByRecursion (λ l. (l ≡ with_var global o) ⊎ (q (negated l) ≡ true)) (map (with_var global) c)
  others_mapped p q o m [] h = tt
  others_mapped p q o m (l ∷ ls) h = (elim h.0 [ inl e ↦ inl (ap (with_var global) e) | inr k ↦ inr (subst (λ x. q x ≡ true) (negated_mapped global l) (m (negated l) k)) ], others_mapped p q o m ls h.1)

  -- clauses that lead to a conflict still do when mapped, even if two variables have the same image
  pub leads_mapped : (cs : List (List ℕ)) (p q : ℕ → Bool) → Carries p q → PropagatesToConflict p cs → PropagatesToConflict q (map (map (with_var global)) cs)
  leads_mapped [] p q m h = h
  leads_mapped (c ∷ []) p q m h = all_mapped p q m c h
  leads_mapped (c ∷ d ∷ cs) p q m h =
      let o : ℕ = with_var global h.0 in (
        o,
        others_mapped p q h.0 m c h.1,
        among_mapped (with_var global) c h.0 h.2,
        leads_mapped (d ∷ cs) (λ l. eqb h.0 l || p l) (λ l. eqb o l || q l) (λ l k. elim (or_cases (eqb h.0 l) (p l) k) [
          | inl e ↦ or_left (eqb o (with_var global l)) (q (with_var global l)) (eq-eqb o (with_var global l) (ap (with_var global) (eqb-true h.0 l e)))
          | inr t ↦ or_right (eqb o (with_var global l)) (q (with_var global l)) (m l t)
        ]) h.3,
      )

  -- the negations of a clause and the units are mapped
  pub denied_mapped : (s : Session) (clause : List ℕ) (known : ℕ → Bool) → Carries known s.units → Carries (λ l. is_among (map negated clause) l || known l) (rup_assumptions s (map (with_var global) clause))
  denied_mapped s clause known m l h = elim (or_cases (is_among (map negated clause) l) (known l) h) [
    | inl k ↦ or_left (is_among (map negated (map (with_var global) clause)) (with_var global l)) (s.units (with_var global l)) (go clause k)
    | inr t ↦ or_right (is_among (map negated (map (with_var global) clause)) (with_var global l)) (s.units (with_var global l)) (m l t)
  ]
    where
      go : (ls : List ℕ) → is_among (map negated ls) l ≡ true → is_among (map negated (map (with_var global) ls)) (with_var global l) ≡ true
      go [] k = absurd (true≢false (sym k))
      go (x ∷ xs) k = elim (or_cases (eqb (negated x) l) (is_among (map negated xs) l) k) [
        | inl e ↦ or_left (eqb (negated (with_var global x)) (with_var global l)) (is_among (map negated (map (with_var global) xs)) (with_var global l)) (eq-eqb (negated (with_var global x)) (with_var global l) (sym (negated_mapped global x) ∙ ap (with_var global) (eqb-true (negated x) l e)))
        | inr r ↦ or_right (eqb (negated (with_var global x)) (with_var global l)) (is_among (map negated (map (with_var global) xs)) (with_var global l)) (go xs r)
      ]

  -- Different literals have different images if every variable is the solver name of its image.
  module _ (names : ℕ → Option ℕ) where
    pub apart : (l m : ℕ) → names (global (variable l)) ≡ Some (variable l) → names (global (variable m)) ≡ Some (variable m) → with_var global l ≡ with_var global m → l ≡ m
    apart l m e f k =
        let half : (2 * global (l / 2) + l % 2) / 2 ≡ global (l / 2) = omega arith in
        let half' : (2 * global (m / 2) + m % 2) / 2 ≡ global (m / 2) = omega arith in
        let sign : (2 * global (l / 2) + l % 2) % 2 ≡ l % 2 = omega arith in
        let sign' : (2 * global (m / 2) + m % 2) % 2 ≡ m % 2 = omega arith in
        let g : global (l / 2) ≡ global (m / 2) = sym half ∙ ap (λ x. x / 2) k ∙ half' in
        let s : l % 2 ≡ m % 2 = sym sign ∙ ap (λ x. x % 2) k ∙ sign' in
        let v : Some (variable l) ≡ Some (variable m) = sym e ∙ ap names g ∙ f in
        let w : l / 2 ≡ m / 2 = cc in
        omega arith

    -- a literal that is not in a clause is not in it once both are mapped
    pub not_among : (l : ℕ) (ms : List ℕ) → names (global (variable l)) ≡ Some (variable l) → AreMapped global names ms → is_among ms l ≡ false → is_among (map (with_var global) ms) (with_var global l) ≡ false
    not_among l [] e h n = refl
    not_among l (m ∷ ms) e h n =
        let p = or_parts (eqb m l) (is_among ms l) n in
        or_from (eqb (with_var global m) (with_var global l)) (is_among (map (with_var global) ms) (with_var global l))
        (ne_eqb (with_var global m) (with_var global l) (λ k. eqb-false m l p.0 (apart m l h.0 e k)))
        (not_among l ms e h.1 p.1)

    -- different literals stay different
    pub once_mapped : (ls : List ℕ) → AreMapped global names ls → NoRepeats ls → NoRepeats (map (with_var global) ls)
    once_mapped [] h n = tt
    once_mapped (l ∷ ls) h n = (not_among l ls h.0 h.1 n.0, once_mapped ls h.1 n.1)
