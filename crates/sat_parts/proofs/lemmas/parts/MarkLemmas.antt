-- Marking the variables that occur in clauses.
use Rattle.std.proofs.Common.{ℕ, ◌≡◌, ◌+◌, ◌<◌, ◌⊎◌, inl, inr, Bool, true, false, List, [], length, get_or, sym, ap, ◌∙◌, subst, arith}
use Rattle.std.proofs.lemmas.Bool.{cases_lt, cases_Bool, true≢false}
use Rattle.std.proofs.lemmas.List.{get_or_past}
use Rattle.sat_parts.specs.clause.Db.{live_refs, is_live}
use Rattle.sat_parts.specs.clause.Stored.{size_of}
use Rattle.sat_parts.specs.prop.Binaries.{implied_by}
use Rattle.sat_parts.proofs.lemmas.clause.ListLemmas.{place_in, at_place}
use Rattle.sat_parts.specs.parts.Round.{IsInNoClause}
use Rattle.sat_parts.specs.parts.Using.{MarksExactly, OccursInClauseLits, OccursInLongClauses, OccursInBinaryClauses}
use Rattle.sat_parts.proofs.lemmas.parts.ReduceLemmas.{filter_in, in_filter}

-- two passes mark the variables that either of them marks
pub marks_more : (a b c : List Bool) (P Q R : ℕ → Type 0) → MarksExactly a b P → MarksExactly b c Q → ((v : ℕ) → P v → R v) → ((v : ℕ) → Q v → R v) → ((v : ℕ) → R v → P v ⊎ Q v) → MarksExactly a c R
marks_more a b c P Q R x y p q r = record {
  size = y.size ∙ x.size;
  kept = λ v t. y.kept v (x.kept v t);
  all = λ v z. elim (r v z) [ inl w ↦ y.kept v (x.all v w) | inr w ↦ y.all v w ];
  only = λ v t. elim (y.only v t) [ inl w ↦ elim (x.only v w) [ inl u ↦ inl u | inr u ↦ inr (p v u) ] | inr w ↦ inr (q v w) ];
}

pub marks_same : (a b : List Bool) (P R : ℕ → Type 0) → MarksExactly a b P → ((v : ℕ) → P v → R v) → ((v : ℕ) → R v → P v) → MarksExactly a b R
marks_same a b P R x p r = record { size = x.size; kept = x.kept; all = λ v z. x.all v (r v z); only = λ v t. elim (x.only v t) [ inl u ↦ inl u | inr u ↦ inr (p v u) ] }

-- one more clause, live or deleted
pub long_more : (a b c : List Bool) (words refs : List ℕ) (n o : ℕ) → MarksExactly a b (OccursInLongClauses words refs n) → get_or refs n 0 ≡ o → is_live words o ≡ true → MarksExactly b c (OccursInClauseLits words o (size_of words o)) → MarksExactly a c (OccursInLongClauses words refs (n + 1))
long_more a b c words refs n o x e live y = marks_more a b c (OccursInLongClauses words refs n) (OccursInClauseLits words o (size_of words o)) (OccursInLongClauses words refs (n + 1)) x y
    (λ v z. (z.0, (omega (arith, z.1.0), z.1.1, z.1.2)))
    (λ v z. (n, (omega arith, subst (λ p. is_live words p ≡ true) (sym e) live, subst (λ p. OccursInClauseLits words p (size_of words p) v) (sym e) z)))
    (λ v z. elim (cases_lt z.0 n) [
      | inl lt ↦ inl (z.0, (lt, z.1.1, z.1.2))
      | inr ge ↦ inr (subst (λ p. OccursInClauseLits words p (size_of words p) v) (ap (λ k. get_or refs k 0) (let q : z.0 ≡ n = omega (arith, z.1.0) in q) ∙ e) z.1.2)
    ])

-- a deleted clause has no variable to mark
pub long_skip : (a b : List Bool) (words refs : List ℕ) (n o : ℕ) → MarksExactly a b (OccursInLongClauses words refs n) → get_or refs n 0 ≡ o → is_live words o ≡ false → MarksExactly a b (OccursInLongClauses words refs (n + 1))
long_skip a b words refs n o x e dead = marks_same a b (OccursInLongClauses words refs n) (OccursInLongClauses words refs (n + 1)) x
    (λ v z. (z.0, (omega (arith, z.1.0), z.1.1, z.1.2)))
    (λ v z. elim (cases_lt z.0 n) [
      | inl lt ↦ (z.0, (lt, z.1.1, z.1.2))
      | inr ge ↦ absurd (true≢false (sym z.1.1 ∙ ap (λ k. is_live words (get_or refs k 0)) (let q : z.0 ≡ n = omega (arith, z.1.0) in q) ∙ ap (λ p. is_live words p) e ∙ dead))
    ])

-- a variable is unmarked exactly if it is in no clause
pub unmarked : (a b c : List Bool) (words refs : List ℕ) (implied : List (List ℕ)) (v : ℕ) → MarksExactly a b (OccursInLongClauses words refs (length refs)) → MarksExactly b c (OccursInBinaryClauses implied (length implied)) → get_or c v false ≡ false → IsInNoClause words (live_refs words refs) implied v
unmarked a b c words refs implied v x y off = record {
  long = λ o k live lt e.
      let p = filter_in (is_live words) refs o live in
      let at : get_or refs p.0.0 0 ≡ o = at_place refs o p.0 in
      true≢false (sym (y.kept v (x.all v (p.0.0, (p.0.1, subst (λ z. is_live words z ≡ true) (sym at) p.1, subst (λ z. OccursInClauseLits words z (size_of words z) v) (sym at) (k, (lt, e)))))) ∙ off);
  binary = λ l k lt.
      let within : l < length implied = elim (cases_lt l (length implied)) [
        | inl b ↦ b
        | inr past ↦ absurd (let e : length (implied_by implied l) ≡ 0 = ap (λ (xs : List ℕ). length xs) (get_or_past implied l [] past) in omega arith)
      ] in
      (λ e. true≢false (sym (y.all v (l, (within, omega arith, inl e))) ∙ off), λ e. true≢false (sym (y.all v (l, (within, omega arith, inr (k, (lt, e))))) ∙ off));
}

pub marked_none : (a b c : List Bool) (words refs : List ℕ) (implied : List (List ℕ)) (v : ℕ) → get_or a v false ≡ false → MarksExactly a b (OccursInLongClauses words refs (length refs)) → MarksExactly b c (OccursInBinaryClauses implied (length implied)) → IsInNoClause words (live_refs words refs) implied v → get_or c v false ≡ false
marked_none a b c words refs implied v none x y unused = elim (cases_Bool (get_or c v false)) [
  | inr off ↦ off
  | inl on ↦ elim (y.only v on) [
    | inr p ↦ elim p.1.2 [
      | inl e ↦ absurd ((unused.binary p.0 0 p.1.1).0 e)
      | inr z ↦ absurd ((unused.binary p.0 z.0 z.1.0).1 z.1.1)
    ]
    | inl was ↦ elim (x.only v was) [
      | inl first ↦ absurd (true≢false (sym first ∙ none))
      | inr p ↦ absurd (unused.long (get_or refs p.0 0) p.1.2.0 (in_filter (is_live words) refs (get_or refs p.0 0) (place_in refs p.0 p.1.0) p.1.1) p.1.2.1.0 p.1.2.1.1)
    ]
  ]
]
