-- Which clauses pass depends on which literals are units, not on their order, and only on those in the clauses.
use Rattle.std.proofs.Common.{ℕ, ◌≡◌, ◌||◌, true, eqb, List, [], ◌∷◌, ◌++◌, map, sym, ◌∙◌, ap, refl, ◌⊎◌, inl, inr}
use Rattle.std.specs.List.{AllByRecursion, list_any}
use Rattle.sat_base.specs.values.Literals.{negated}
use Rattle.sat_checker.specs.LiteralSets.{is_among}
use Rattle.sat_checker.specs.Propagation.{IsFalsified, UnitInTurn, PassesCheck, tautology, unit_true, conflict}
use Rattle.sat_checker.proofs.lemmas.sets.Members.{each_at}
use Rattle.sat_checker.proofs.lemmas.sets.Order.{among-append}

-- If two lists of units agree on the literals of the clauses and their negations,
-- the same clauses are unit in turn.
module _ (Of : ℕ → Type 0) where
  abbrev pub SameOf : List ℕ → List ℕ → Type 0
  SameOf us vs = (l : ℕ) → Of l → is_among us l ≡ is_among vs l

  abbrev pub AreOf : List ℕ → Type 0
  AreOf = AllByRecursion (λ l. Of l × Of (negated l))

  same_falsified : (us vs clause : List ℕ) → SameOf us vs → AreOf clause → IsFalsified us clause → IsFalsified vs clause
  same_falsified us vs [] same are h = tt
  same_falsified us vs (l ∷ ls) same are h = (sym (same (negated l) are.0.1) ∙ h.0, same_falsified us vs ls same are.1 h.1)

  same_others : (us vs clause : List ℕ) (o : ℕ) → SameOf us vs → AreOf clause → AllByRecursion (λ l. (l ≡ o) ⊎ (is_among us (negated l) ≡ true)) clause → AllByRecursion (λ l. (l ≡ o) ⊎ (is_among vs (negated l) ≡ true)) clause
  same_others us vs [] o same are h = tt
  same_others us vs (l ∷ ls) o same are h = (elim h.0 [ inl e ↦ inl e | inr k ↦ inr (sym (same (negated l) are.0.1) ∙ k) ], same_others us vs ls o same are.1 h.1)

  pub same_runs_of : (picked : List (List ℕ)) (us vs : List ℕ) → SameOf us vs → AllByRecursion AreOf picked → UnitInTurn us picked → UnitInTurn vs picked
  same_runs_of [] us vs same are h = h
  same_runs_of (c ∷ []) us vs same are h = same_falsified us vs c same are.0 h
  same_runs_of (c ∷ d ∷ ds) us vs same are h =
      let both : Of h.0 × Of (negated h.0) = each_at (λ l. Of l × Of (negated l)) c h.0 are.0 h.1.within in (
        h.0,
        record {
          within = h.1.within;
          not_true = sym (same h.0 both.0) ∙ h.1.not_true;
          not_false = sym (same (negated h.0) both.1) ∙ h.1.not_false;
          others = same_others us vs c h.0 same are.0 h.1.others;
        },
        same_runs_of (d ∷ ds) (h.0 ∷ us) (h.0 ∷ vs) (λ l of. ap (λ b. eqb h.0 l || b) (same l of)) are.1 h.2,
      )

-- if two lists of units have the same members, the same clauses pass
abbrev SameMembers : List ℕ → List ℕ → Type 0
SameMembers us vs = (l : ℕ) → is_among us l ≡ is_among vs l

abbrev Any : ℕ → Type 0
Any l = Unit {0}

any_clause : (clause : List ℕ) → AreOf Any clause
any_clause [] = tt
any_clause (l ∷ ls) = ((tt, tt), any_clause ls)

any_clauses : (picked : List (List ℕ)) → AllByRecursion (AreOf Any) picked
any_clauses [] = tt
any_clauses (c ∷ cs) = (any_clause c, any_clauses cs)

pub same_runs : (picked : List (List ℕ)) (us vs : List ℕ) → SameMembers us vs → UnitInTurn us picked → UnitInTurn vs picked
same_runs picked us vs same h = same_runs_of Any picked us vs (λ l of. same l) (any_clauses picked) h

pub same_any : (us vs clause : List ℕ) → SameMembers us vs → list_any (is_among us) clause ≡ list_any (is_among vs) clause
same_any us vs [] same = refl
same_any us vs (l ∷ ls) same = ap (λ b. b || list_any (is_among us) ls) (same l) ∙ ap (λ b. is_among vs l || b) (same_any us vs ls same)

pub same_passes : (us vs clause : List ℕ) (buckets : List (List (List ℕ))) → SameMembers us vs → PassesCheck us clause buckets → PassesCheck vs clause buckets
same_passes us vs clause buckets same (tautology t) = tautology t
same_passes us vs clause buckets same (unit_true t) = unit_true (sym (same_any us vs clause same) ∙ t)
same_passes us vs clause buckets same (conflict k) =
    let front : SameMembers (map negated clause ++ us) (map negated clause ++ vs) = λ l.
    among-append (map negated clause) us l ∙ ap (λ b. is_among (map negated clause) l || b) (same l) ∙ sym (among-append (map negated clause) vs l) in
    conflict (record { first = k.first; rest = k.rest; picked = k.picked; split = k.split; none_empty = k.none_empty; chosen = k.chosen; conflict = same_runs k.picked (map negated clause ++ us) (map negated clause ++ vs) front k.conflict })
