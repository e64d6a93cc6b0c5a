-- Clauses that lead to a conflict include some that are unit in turn, the last falsified.
use Rattle.std.proofs.Common.{ℕ, ◌≡◌, Bool, true, false, ◌||◌, eqb, List, [], ◌∷◌, map, refl, sym, ◌∙◌, ap, subst, ◌⊎◌, inl, inr}
use Rattle.std.proofs.lemmas.Bool.{or_cases, or_left, or_right, eqb-true}
use Rattle.std.specs.List.{AllByRecursion}
use Rattle.sat_base.specs.values.Literals.{negated}
use Rattle.sat_checker.specs.LiteralSets.{is_among, canonical}
use Rattle.sat_checker.specs.Propagation.{IsFalsified, UnitInTurn, IsSubsequence}
use Rattle.sat_checker.specs.ConflictPropagation.{PropagatesToConflict, UnitInTurnPropagates, UnitInTurnConflicts, PropagatesOnMore}
use Rattle.sat_checker.proofs.lemmas.sets.Canonical.{canonical_among}
use Rattle.sat_checker.proofs.lemmas.sets.Members.{canonical_each}
use Rattle.sat_checker.proofs.lemmas.propagation.Soundness.{conflict_never}

pub longer : (xs : List (List ℕ)) (y : List ℕ) (ys : List (List ℕ)) → IsSubsequence xs ys → IsSubsequence xs (y ∷ ys)
longer [] y ys h = tt
longer (x ∷ xs) y ys h = inr h

pub record Picked (assumed : List ℕ) (clauses : List (List ℕ)) : Type 0 where
  pub picked : List (List ℕ)
  pub chosen : IsSubsequence picked clauses
  pub conflict : UnitInTurn assumed picked

abbrev pub HoldsAs : (ℕ → Bool) → List ℕ → Type 0
HoldsAs holds assumed = (l : ℕ) → holds l ≡ is_among assumed l

falsified_by : (holds : ℕ → Bool) (assumed c : List ℕ) → HoldsAs holds assumed → AllByRecursion (λ l. holds (negated l) ≡ true) c → IsFalsified assumed c
falsified_by holds assumed [] same h = tt
falsified_by holds assumed (l ∷ ls) same h = (sym (same (negated l)) ∙ h.0, falsified_by holds assumed ls same h.1)

others_by : (holds : ℕ → Bool) (assumed c : List ℕ) (o : ℕ) → HoldsAs holds assumed → AllByRecursion (λ l. (l ≡ o) ⊎ (holds (negated l) ≡ true)) c → AllByRecursion (λ l. (l ≡ o) ⊎ (is_among assumed (negated l) ≡ true)) c
others_by holds assumed [] o same h = tt
others_by holds assumed (l ∷ ls) o same h = (elim h.0 [ inl e ↦ inl e | inr k ↦ inr (sym (same (negated l)) ∙ k) ], others_by holds assumed ls o same h.1)

-- if the open literal is false as well, all literals of the clause are
all_false : (holds : ℕ → Bool) (assumed c : List ℕ) (o : ℕ) → HoldsAs holds assumed → is_among assumed (negated o) ≡ true → AllByRecursion (λ l. (l ≡ o) ⊎ (holds (negated l) ≡ true)) c → IsFalsified assumed c
all_false holds assumed [] o same f h = tt
all_false holds assumed (l ∷ ls) o same f h =
    (elim h.0 [ inl e ↦ subst (λ x. is_among assumed (negated x) ≡ true) (sym e) f | inr k ↦ sym (same (negated l)) ∙ k ], all_false holds assumed ls o same f h.1)

unit_first : (assumed c : List ℕ) (o : ℕ) (rest : List (List ℕ)) → is_among c o ≡ true → is_among assumed o ≡ false → is_among assumed (negated o) ≡ false → AllByRecursion (λ l. (l ≡ o) ⊎ (is_among assumed (negated l) ≡ true)) c
    → Picked (o ∷ assumed) rest → Picked assumed (c ∷ rest)
unit_first assumed c o rest w t f others r = go r.picked r.chosen r.conflict
  where
    go : (picked : List (List ℕ)) → IsSubsequence picked rest → UnitInTurn (o ∷ assumed) picked → Picked assumed (c ∷ rest)
    go [] s k = absurd k
    go (d ∷ ds) s k = record { picked = c ∷ d ∷ ds; chosen = inl (refl, s); conflict = (o, record { within = w; not_true = t; not_false = f; others = others }, k) }

-- The picked clauses are unit in turn: those whose open literal has no value, up to the first falsified clause.
pub picked_from : (cs : List (List ℕ)) (holds : ℕ → Bool) (assumed : List ℕ) → HoldsAs holds assumed → PropagatesToConflict holds cs → Picked assumed cs
picked_from [] holds assumed same h = absurd h
picked_from (c ∷ []) holds assumed same h = record { picked = c ∷ []; chosen = inl (refl, tt); conflict = falsified_by holds assumed c same h }
picked_from (c ∷ d ∷ cs) holds assumed same h = go (picked_from (d ∷ cs)) (is_among assumed h.0) refl (is_among assumed (negated h.0)) refl
  where
    Rest : Type 0
    Rest = (holds : ℕ → Bool) (assumed : List ℕ) → HoldsAs holds assumed → PropagatesToConflict holds (d ∷ cs) → Picked assumed (d ∷ cs)

    already : is_among assumed h.0 ≡ true → HoldsAs (λ l. eqb h.0 l || holds l) assumed
    already t l = pick (eqb h.0 l) refl
      where
        pick : (b : Bool) → eqb h.0 l ≡ b → b || holds l ≡ is_among assumed l
        pick true e = sym (subst (λ x. is_among assumed x ≡ true) (eqb-true h.0 l e) t)
        pick false e = same l

    skip : Picked assumed (d ∷ cs) → Picked assumed (c ∷ d ∷ cs)
    skip r = record { picked = r.picked; chosen = longer r.picked c (d ∷ cs) r.chosen; conflict = r.conflict }

    go : ((holds : ℕ → Bool) (assumed : List ℕ) → HoldsAs holds assumed → PropagatesToConflict holds (d ∷ cs) → Picked assumed (d ∷ cs)) → (b : Bool) → is_among assumed h.0 ≡ b → (e : Bool) → is_among assumed (negated h.0) ≡ e → Picked assumed (c ∷ d ∷ cs)
    go ih true t e f = skip (ih (λ l. eqb h.0 l || holds l) assumed (already t) h.3)
    go ih false t true f = record { picked = c ∷ []; chosen = inl (refl, tt); conflict = all_false holds assumed c h.0 same f h.1 }
    go ih false t false f = unit_first assumed c h.0 (d ∷ cs) h.2 t f (others_by holds assumed c h.0 same h.1) (ih (λ l. eqb h.0 l || holds l) (h.0 ∷ assumed) (λ l. ap (λ b. eqb h.0 l || b) (same l)) h.3)

pub sorted_lead : (cs : List (List ℕ)) (holds : ℕ → Bool) → PropagatesToConflict holds cs → PropagatesToConflict holds (map canonical cs)
sorted_lead [] holds h = h
sorted_lead (c ∷ []) holds h = canonical_each (λ l. holds (negated l) ≡ true) c h
sorted_lead (c ∷ d ∷ cs) holds h =
    (h.0, canonical_each (λ l. (l ≡ h.0) ⊎ (holds (negated l) ≡ true)) c h.1, canonical_among c h.0 ∙ h.2, sorted_lead (d ∷ cs) (λ l. eqb h.0 l || holds l) h.3)

-- clauses that are unit in turn lead to a conflict
pub turns_lead : UnitInTurnPropagates
turns_lead assumed [] h = h
turns_lead assumed (c ∷ []) h = h
turns_lead assumed (c ∷ d ∷ cs) h = (h.0, h.1.others, h.1.within, turns_lead (h.0 ∷ assumed) (d ∷ cs) h.2)

pub turns_conflict : UnitInTurnConflicts
turns_conflict a assumed clauses u t h = conflict_never a assumed clauses t h u

-- MORE ASSUMED LITERALS

all_more : (p q : ℕ → Bool) → ((l : ℕ) → p l ≡ true → q l ≡ true) → (c : List ℕ) → AllByRecursion (λ l. p (negated l) ≡ true) c → AllByRecursion (λ l. q (negated l) ≡ true) c
all_more p q m [] h = tt
all_more p q m (l ∷ ls) h = (m (negated l) h.0, all_more p q m ls h.1)

others_more : (p q : ℕ → Bool) (o : ℕ) → ((l : ℕ) → p l ≡ true → q l ≡ true) → (c : List ℕ) → AllByRecursion (λ l. (l ≡ o) ⊎ (p (negated l) ≡ true)) c → AllByRecursion (λ l. (l ≡ o) ⊎ (q (negated l) ≡ true)) c
others_more p q o m [] h = tt
others_more p q o m (l ∷ ls) h = (elim h.0 [ inl e ↦ inl e | inr k ↦ inr (m (negated l) k) ], others_more p q o m ls h.1)

pub leads_on_more : PropagatesOnMore
leads_on_more [] p q m h = h
leads_on_more (c ∷ []) p q m h = all_more p q m c h
leads_on_more (c ∷ d ∷ cs) p q m h = (
  h.0,
  others_more p q h.0 m c h.1,
  h.2,
  leads_on_more (d ∷ cs) (λ l. eqb h.0 l || p l) (λ l. eqb h.0 l || q l) (λ l k. elim (or_cases (eqb h.0 l) (p l) k) [ inl e ↦ or_left (eqb h.0 l) (q l) e | inr t ↦ or_right (eqb h.0 l) (q l) (m l t) ]) h.3,
)
