-- A reader gives too few bytes to exhaust the checker's ids and counts.
use Rattle.std.proofs.Common.{ℕ, ◌+◌, ◌^◌, ◌<◌, ◌≤◌, ◌≡◌, ◌⊎◌, ◌∙◌, List, [], ◌∷◌, ◌++◌, length, length-append, append_assoc, Option, None, Some, inl, inr, refl, sym, ap, subst, arith}
use Rattle.std.proofs.lemmas.List.{append-nil}
use Rattle.sat_base.specs.steps.Steps.{Step}
use Rattle.sat_base.specs.steps.StepText.{SpellsStep, SpellsSteps}
use Rattle.sat_checker.specs.Accepts.{effect, stored_after, ready_after}
use Rattle.sat_checker.specs.ProofView.{most_bytes, steps_after}
use Rattle.sat_checker.specs.Counters.{CountersExhausted, ExhaustsCounters}
use Rattle.sat_checker.specs.Stored.{Stored}
use Rattle.sat_checker.specs.Storing.{clause_with, irredundant_count, redundant_count, with_conflict_settled, settled_by}
use Rattle.sat_checker.proofs.lemmas.checker.Proofs.{taken_one}
use Rattle.sat_checker.proofs.lemmas.invariants.FewBytes.{ids_within_bytes, none_is_spent}
use Rattle.certify.specs.confirm.FedSteps.{ReachesCounterEnd, exhausted_settling, exhausted_at_step, exhausted_later}

-- settling a pending unit conflict does not change the stored clauses
settled_clauses : (f : Stored) → (with_conflict_settled f).clauses ≡ f.clauses
settled_clauses f = go f.conflict
  where
    go : (o : Option (ℕ × ℕ)) → (settled_by o f).clauses ≡ f.clauses
    go None = refl
    go (Some units) = refl

spent_before : (f : Stored) (n : ℕ) → (with_conflict_settled f).next_id ≤ n → n ≤ most_bytes → CountersExhausted (with_conflict_settled f) → CountersExhausted f
spent_before f n i l spent = elim spent [
  | inl h ↦ absurd (let e : most_bytes < 2 ^ 64 = omega arith in omega arith)
  | inr h ↦ inr (record {
    literals = h.literals;
    past = subst (λ cs. (2 ^ 64 ≤ irredundant_count (clause_with h.literals cs)) ⊎ (2 ^ 64 ≤ redundant_count (clause_with h.literals cs))) (settled_clauses f) h.past;
  })
]

spells_one : (steps : List Step) (text : List ℕ) (step : Step) (following : List ℕ) → SpellsSteps steps text → SpellsStep step following → SpellsSteps (steps ++ step ∷ []) (text ++ following)
spells_one [] text step following s h = (following, [], h, refl, ap (λ z. z ++ following) s ∙ sym (append-nil following))
spells_one (x ∷ xs) text step following s h = (s.0, s.1 ++ following, s.2, spells_one xs s.1 step following s.3 h, ap (λ z. z ++ following) s.4 ∙ append_assoc s.0 s.1 following)

longer : (text step rest bytes : List ℕ) → bytes ≡ step ++ rest → length text + length bytes ≤ most_bytes → length (text ++ step) + length rest ≤ most_bytes
longer text step rest bytes e l =
    let a : length (text ++ step) ≡ length text + length step = length-append text step in
    let b : length bytes ≡ length step + length rest = ap length e ∙ length-append step rest in
    omega arith

none_spent : (earlier done : List Step) (text bytes : List ℕ) → steps_after done [] ≡ earlier → SpellsSteps done text → length text + length bytes ≤ most_bytes → (CountersExhausted (ready_after earlier) → ⊥) → ReachesCounterEnd earlier bytes → ⊥
none_spent earlier done text bytes e s l low (exhausted_settling h) = low h
none_spent earlier done text bytes e s l low (exhausted_at_step step following rest cut spelt h) =
    let few : length (text ++ following) ≤ most_bytes = let k = longer text following rest bytes cut l in omega arith in
    none_is_spent done step (text ++ following) (spells_one done text step following s spelt) few (subst (λ z. ExhaustsCounters step (stored_after z)) (sym e) h)
none_spent earlier done text bytes e s l low (exhausted_later step following rest cut spelt accepts h) =
    let more = spells_one done text step following s spelt in
    let k = longer text following rest bytes cut l in
    let few : length (text ++ following) ≤ most_bytes = omega arith in
    let whole : steps_after (done ++ step ∷ []) [] ≡ step ∷ earlier = taken_one done step [] ∙ ap (λ z. step ∷ z) e in
    let ids : (ready_after (step ∷ earlier)).next_id ≤ length (text ++ following) = subst (λ z. (ready_after z).next_id ≤ length (text ++ following)) whole (ids_within_bytes (done ++ step ∷ []) (text ++ following) more) in
    none_spent (step ∷ earlier) (done ++ step ∷ []) (text ++ following) rest whole more k
    (λ spent. none_is_spent done step (text ++ following) more few
    (subst (λ z. ExhaustsCounters step (stored_after z)) (sym e) (inr (accepts, spent_before (effect step (ready_after earlier)) (length (text ++ following)) ids few spent)))) h

-- bytes of at most this number cannot exhaust the counters
pub nothing_spent : (bytes : List ℕ) → length bytes ≤ most_bytes → ReachesCounterEnd [] bytes → ⊥
nothing_spent bytes l = none_spent [] [] [] bytes refl refl (let k : length bytes ≤ most_bytes = l in omega arith) none_begun
  where
    none_begun : CountersExhausted (ready_after []) → ⊥
    none_begun spent = elim spent [
      | inl h ↦ absurd (omega arith)
      | inr h ↦ elim h.past [ inl k ↦ absurd (omega arith) | inr k ↦ absurd (omega arith) ]
    ]
