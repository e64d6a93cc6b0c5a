-- A step has at least one byte for every id that it assigns and every count that it raises.
use Rattle.std.proofs.Common.{ℕ, ◌+◌, ◌^◌, ◌<◌, ◌≤◌, ◌≡◌, Bool, true, false, ◌&&◌, cond, eqb, is_some, max, List, [], ◌∷◌, ◌++◌, map, length, length-append, Option, None, Some, inl, inr, refl, sym, ◌∙◌, ap, subst, arith}
use Rattle.std.specs.List.{AllByRecursion}
use Rattle.sat_base.specs.values.Literals.{negated}
use Rattle.sat_base.specs.steps.Formats.{Items}
use Rattle.sat_base.specs.steps.Numbers.{SpellsNumber}
use Rattle.sat_base.specs.steps.Steps.{Redundant, Simplified, Satisfied, Step, SolverVarName, UserVarName, AddClause, AtClause, UnitClauses, DeleteClause}
use Rattle.sat_base.specs.steps.StepText.{SpellsLiteral, SpellsHash, SpellsLiterals, SpellsFields, SpellsStep, SpellsSteps, tag_of}
use Rattle.sat_checker.specs.LiteralSets.{is_tautology, canonical, same_literals}
use Rattle.sat_checker.specs.Stored.{StoredClause, Stored, is_unit}
use Rattle.sat_checker.specs.Storing.{with_count, with_stored_clause, clause_with, irredundant_count, redundant_count, without_count, unless_removed, without_clause, with_unit, with_units, with_contradiction, with_new_unit, settled_by, with_conflict_settled, with_sorted_set, with_canonical, with_stored, with_input, with_literals_known}
use Rattle.sat_checker.specs.Accepts.{effect, stored_after}
use Rattle.sat_checker.specs.ProofView.{most_bytes, steps_after}
use Rattle.sat_checker.specs.Counters.{CountersExhausted}
use Rattle.sat_checker.specs.FewBytes.{IdsWithinBytes, CountersNeverExhausted}
use Rattle.sat_checker.proofs.lemmas.checker.Proofs.{taken_one}

-- IDS
unit_more : (l : ℕ) (f : Stored) → (with_unit l f).next_id ≤ f.next_id + 1
unit_more l f = go (is_unit f l) (is_unit f (negated l))
  where
    go : (b d : Bool) → (cond b f (cond d (with_contradiction l f) (with_new_unit l f))).next_id ≤ f.next_id + 1
    go true d = omega arith
    go false true = omega arith
    go false false = omega arith

units_more : (ls : List ℕ) (f : Stored) → (with_units ls f).next_id ≤ f.next_id + length ls
units_more [] f = omega arith
units_more (l ∷ ls) f = let a = unit_more l f in let b = units_more ls (with_unit l f) in omega arith

set_more : (r : Bool) (ls : List ℕ) (f : Stored) → (with_sorted_set r ls f).next_id ≤ f.next_id + 1
set_more r [] f = omega arith
set_more r (l ∷ []) f = unit_more l f
set_more r (l ∷ m ∷ ls) f = go (is_some (clause_with (l ∷ m ∷ ls) f.clauses))
  where
    go : (b : Bool) → cond b f.next_id (f.next_id + 1) ≤ f.next_id + 1
    go true = omega arith
    go false = omega arith

canonical_more : (r : Bool) (ls : List ℕ) (f : Stored) → (with_canonical r ls f).next_id ≤ f.next_id + 1
canonical_more true ls f = set_more true ls f
canonical_more false ls f = set_more false ls f

stored_more : (r : Bool) (c : List ℕ) (f : Stored) → (with_stored r c f).next_id ≤ f.next_id + 1
stored_more r c f = go (is_tautology c)
  where
    go : (b : Bool) → (cond b f (with_canonical r (canonical c) f)).next_id ≤ f.next_id + 1
    go true = omega arith
    go false = canonical_more r (canonical c) f

input_more : (c : List ℕ) (f : Stored) → (with_input c f).next_id ≤ f.next_id + 1
input_more c f = let a = stored_more false c f in at (with_stored false c f).next_id f.next_id a
  where
    at : (m n : ℕ) → m ≤ n + 1 → max m (n + 1) ≤ n + 1
    at m n h = omega arith

-- the largest number of ids that a step assigns, without the id of a unit conflict pending after it
abbrev ids_by : Step → ℕ
ids_by (AddClause clause) = 1
ids_by (AtClause redundant clause hashes) = 1
ids_by (UnitClauses us) = length us
ids_by step = 0

none_more : (n : ℕ) → n ≤ n + 0
none_more n = omega arith

abbrev first_of : List (ℕ × ℕ) → List ℕ
first_of us = map (λ u. u.0) us

as_long : (us : List (ℕ × ℕ)) → length (first_of us) ≡ length us
as_long [] = refl
as_long (u ∷ us) = let e = as_long us in omega arith

effect_more : (step : Step) (f : Stored) → (effect step f).next_id ≤ f.next_id + ids_by step
effect_more (SolverVarName v None) f = none_more f.next_id
effect_more (UserVarName v (Some name)) f = none_more f.next_id
effect_more (AddClause clause) f = go f.unsat
  where
    go : (b : Bool) → (cond b f (with_input clause (with_literals_known clause f))).next_id ≤ f.next_id + 1
    go true = omega arith
    go false = input_more clause (with_literals_known clause f)
effect_more (AtClause r clause hashes) f = stored_more r clause (with_literals_known clause f)
effect_more (UnitClauses us) f =
    subst (λ n. (with_units (first_of us) (with_literals_known (first_of us) f)).next_id ≤ f.next_id + n) (as_long us)
    (units_more (first_of us) (with_literals_known (first_of us) f))
effect_more (DeleteClause clause Redundant) f = none_more f.next_id
effect_more step f = none_more f.next_id

settled_more : (f : Stored) → (with_conflict_settled f).next_id ≤ f.next_id + 1
settled_more f = go f.conflict
  where
    go : (o : Option (ℕ × ℕ)) → (settled_by o f).next_id ≤ f.next_id + 1
    go None = omega arith
    go (Some units) = omega arith

settled_least : (f : Stored) → f.next_id ≤ (with_conflict_settled f).next_id
settled_least f = go f.conflict
  where
    go : (o : Option (ℕ × ℕ)) → f.next_id ≤ (settled_by o f).next_id
    go None = omega arith
    go (Some units) = omega arith

settled_clauses : (f : Stored) → (with_conflict_settled f).clauses ≡ f.clauses
settled_clauses f = go f.conflict
  where
    go : (o : Option (ℕ × ℕ)) → (settled_by o f).clauses ≡ f.clauses
    go None = refl
    go (Some units) = refl

-- COUNTS
abbrev CountsWithin : ℕ → List StoredClause → Type 0
CountsWithin n = AllByRecursion (λ c. (c.irredundant ≤ n) × (c.redundant ≤ n))

within_more : (n m : ℕ) (cs : List StoredClause) → n ≤ m → CountsWithin n cs → CountsWithin m cs
within_more n m [] l h = tt
within_more n m (c ∷ cs) l h = ((let a = h.0.0 in omega arith, let a = h.0.1 in omega arith), within_more n m cs l h.1)

within_with : (r : Bool) (id : ℕ) (ls : List ℕ) (cs : List StoredClause) (n : ℕ) → CountsWithin n cs → CountsWithin (n + 1) (with_stored_clause r id ls cs)
within_with true id ls [] n h = ((omega arith, omega arith), tt)
within_with false id ls [] n h = ((omega arith, omega arith), tt)
within_with r id ls (c ∷ cs) n h = go r (within_with r id ls cs n h.1) (same_literals c.literals ls)
  where
    go : (r : Bool) → CountsWithin (n + 1) (with_stored_clause r id ls cs) → (b : Bool) → CountsWithin (n + 1) (cond b (with_count r c ∷ cs) (c ∷ with_stored_clause r id ls cs))
    go true ih true = ((let a = h.0.0 in omega arith, let a = h.0.1 in omega arith), within_more n (n + 1) cs (omega arith) h.1)
    go false ih true = ((let a = h.0.0 in omega arith, let a = h.0.1 in omega arith), within_more n (n + 1) cs (omega arith) h.1)
    go r ih false = ((let a = h.0.0 in omega arith, let a = h.0.1 in omega arith), ih)

within_without : (r : Bool) (ls : List ℕ) (cs : List StoredClause) (n : ℕ) → CountsWithin n cs → CountsWithin n (without_clause r ls cs)
within_without r ls [] n h = tt
within_without r ls (c ∷ cs) n h = go r (within_without r ls cs n h.1) (same_literals c.literals ls)
  where
    left_over : (r b : Bool) → CountsWithin n (cond b [] (without_count r c ∷ []) ++ cs)
    left_over r true = h.1
    left_over true false = ((h.0.0, let a = h.0.1 in omega arith), h.1)
    left_over false false = ((let a = h.0.0 in omega arith, h.0.1), h.1)

    go : (r : Bool) → CountsWithin n (without_clause r ls cs) → (b : Bool) → CountsWithin n (cond b (unless_removed (without_count r c) ++ cs) (c ∷ without_clause r ls cs))
    go r ih true = left_over r (eqb (without_count r c).irredundant 0 && eqb (without_count r c).redundant 0)
    go r ih false = (h.0, ih)

module _ (n : ℕ) where
  still : (f : Stored) → CountsWithin n f.clauses → CountsWithin (n + 1) f.clauses
  still f h = within_more n (n + 1) f.clauses (omega arith) h

  within_unit : (m l : ℕ) (f : Stored) → CountsWithin m f.clauses → CountsWithin m (with_unit l f).clauses
  within_unit m l f h = go (is_unit f l) (is_unit f (negated l))
    where
      go : (b d : Bool) → CountsWithin m (cond b f (cond d (with_contradiction l f) (with_new_unit l f))).clauses
      go true d = h
      go false true = h
      go false false = h

  within_units : (m : ℕ) (ls : List ℕ) (f : Stored) → CountsWithin m f.clauses → CountsWithin m (with_units ls f).clauses
  within_units m [] f h = h
  within_units m (l ∷ ls) f h = within_units m ls (with_unit l f) (within_unit m l f h)

  within_set : (r : Bool) (set : List ℕ) (f : Stored) → CountsWithin n f.clauses → CountsWithin (n + 1) (with_sorted_set r set f).clauses
  within_set r [] f h = still f h
  within_set r (l ∷ []) f h = within_unit (n + 1) l f (still f h)
  within_set r (l ∷ m ∷ ls) f h = within_with r f.next_id (l ∷ m ∷ ls) f.clauses n h

  within_canonical : (r : Bool) (set : List ℕ) (f : Stored) → CountsWithin n f.clauses → CountsWithin (n + 1) (with_canonical r set f).clauses
  within_canonical true set f h = within_set true set f h
  within_canonical false set f h = within_set false set f h

  within_stored : (r : Bool) (clause : List ℕ) (f : Stored) → CountsWithin n f.clauses → CountsWithin (n + 1) (with_stored r clause f).clauses
  within_stored r clause f h = go (is_tautology clause)
    where
      go : (b : Bool) → CountsWithin (n + 1) (cond b f (with_canonical r (canonical clause) f)).clauses
      go true = still f h
      go false = within_canonical r (canonical clause) f h

  within_less : (r : Bool) (set : List ℕ) (f : Stored) → CountsWithin n f.clauses → CountsWithin (n + 1) (without_clause r set f.clauses)
  within_less r set f h = within_more n (n + 1) (without_clause r set f.clauses) (omega arith) (within_without r set f.clauses n h)

  within_effect : (step : Step) (f : Stored) → CountsWithin n f.clauses → CountsWithin (n + 1) (effect step f).clauses
  within_effect (SolverVarName v None) f h = still f h
  within_effect (UserVarName v (Some name)) f h = still f h
  within_effect (AddClause clause) f h = go f.unsat
    where
      go : (b : Bool) → CountsWithin (n + 1) (cond b f (with_input clause (with_literals_known clause f))).clauses
      go true = still f h
      go false = within_stored false clause (with_literals_known clause f) h
  within_effect (AtClause r clause hashes) f h = within_stored r clause (with_literals_known clause f) h
  within_effect (UnitClauses us) f h = within_units (n + 1) (first_of us) (with_literals_known (first_of us) f) (still f h)
  within_effect (DeleteClause clause Redundant) f h = within_less true (canonical clause) f h
  within_effect (DeleteClause clause Simplified) f h = within_less false (canonical clause) f h
  within_effect (DeleteClause clause Satisfied) f h = within_less false (canonical clause) f h
  within_effect step f h = still f h

irredundant_within : (n : ℕ) (ls : List ℕ) (cs : List StoredClause) → CountsWithin n cs → irredundant_count (clause_with ls cs) ≤ n
irredundant_within n ls [] h = omega arith
irredundant_within n ls (c ∷ cs) h = go (same_literals c.literals ls) (irredundant_within n ls cs h.1)
  where
    go : (b : Bool) → irredundant_count (clause_with ls cs) ≤ n → irredundant_count (cond b (Some c) (clause_with ls cs)) ≤ n
    go true ih = h.0.0
    go false ih = ih

redundant_within : (n : ℕ) (ls : List ℕ) (cs : List StoredClause) → CountsWithin n cs → redundant_count (clause_with ls cs) ≤ n
redundant_within n ls [] h = omega arith
redundant_within n ls (c ∷ cs) h = go (same_literals c.literals ls) (redundant_within n ls cs h.1)
  where
    go : (b : Bool) → redundant_count (clause_with ls cs) ≤ n → redundant_count (cond b (Some c) (clause_with ls cs)) ≤ n
    go true ih = h.0.1
    go false ih = ih

-- BYTES
number_takes : (n : ℕ) (bytes : List ℕ) → SpellsNumber n bytes → 1 ≤ length bytes
number_takes n [] h = absurd h
number_takes n (b ∷ bs) h = omega arith

pair_takes : (u : ℕ × ℕ) (bytes : List ℕ) → (a : List ℕ) × (b : List ℕ) × SpellsLiteral u.0 a × SpellsHash u.1 b × (bytes ≡ a ++ b) → 1 ≤ length bytes
pair_takes u bytes h = let a = number_takes u.0 h.0 h.2.0 in let e : length bytes ≡ length h.0 + length h.1 = ap length h.4 ∙ length-append h.0 h.1 in omega arith

units_take : (us : List (ℕ × ℕ)) (bytes : List ℕ) → Items (λ u b. (c : List ℕ) × (d : List ℕ) × SpellsLiteral u.0 c × SpellsHash u.1 d × (b ≡ c ++ d)) us bytes → length us ≤ length bytes
units_take [] bytes h = omega arith
units_take (u ∷ us) bytes h =
    let a = pair_takes u h.0 h.2 in
    let b = units_take us h.1 h.3 in
    let e : length bytes ≡ length h.0 + length h.1 = ap length h.4 ∙ length-append h.0 h.1 in
    omega arith

list_takes : (ls fields : List ℕ) → SpellsLiterals ls fields → 1 ≤ length fields
list_takes ls fields h = let a = number_takes (length ls) h.0 h.2.0 in let e : length fields ≡ length h.0 + length h.1 = ap length h.4 ∙ length-append h.0 h.1 in omega arith

none_needed : (fields : List ℕ) → 0 ≤ length fields
none_needed fields = omega arith

fields_take : (step : Step) (fields : List ℕ) → SpellsFields step fields → ids_by step ≤ length fields
fields_take (AddClause clause) fields h = list_takes clause fields h
fields_take (AtClause r clause hashes) fields h =
    let rest = h.3 in
    let a = list_takes clause rest.0 rest.2 in
    let d : length h.1 ≡ length rest.0 + length rest.1 = ap length rest.4 ∙ length-append rest.0 rest.1 in
    let e : length fields ≡ length h.0 + length h.1 = ap length h.4 ∙ length-append h.0 h.1 in
    omega arith
fields_take (UnitClauses us) fields h =
    let a = units_take us h.1 h.3 in
    let e : length fields ≡ length h.0 + length h.1 = ap length h.4 ∙ length-append h.0 h.1 in
    omega arith
fields_take step fields h = none_needed fields

step_takes : (step : Step) (bytes : List ℕ) → SpellsStep step bytes → ids_by step + 1 ≤ length bytes
step_takes step bytes h = let a = fields_take step h.0 h.2 in let e : length bytes ≡ length h.0 + 1 = ap length h.1 ∙ one_more (tag_of step) h.0 in omega arith
  where
    one_more : (b : ℕ) (bs : List ℕ) → length (b ∷ bs) ≡ length bs + 1
    one_more b bs = omega arith

-- STEPS AND THEIR BYTES
record Within (f : Stored) (n : ℕ) : Type 0 where
  ids : (with_conflict_settled f).next_id ≤ n
  counts : CountsWithin n f.clauses

one_within : (step : Step) (f : Stored) (bytes : List ℕ) (n : ℕ) → SpellsStep step bytes → Within f n → Within (effect step (with_conflict_settled f)) (n + length bytes)
one_within step f bytes n s w =
    let t = step_takes step bytes s in
    let a = effect_more step (with_conflict_settled f) in
    let b = settled_more (effect step (with_conflict_settled f)) in
    let i = w.ids in
    record {
      ids = omega arith;
      counts = within_more (n + 1) (n + length bytes) (effect step (with_conflict_settled f)).clauses (omega arith)
          (within_effect n step (with_conflict_settled f) (subst (CountsWithin n) (sym (settled_clauses f)) w.counts));
    }

all_within : (steps earlier : List Step) (text : List ℕ) (n : ℕ) → SpellsSteps steps text → Within (stored_after earlier) n → Within (stored_after (steps_after steps earlier)) (n + length text)
all_within [] earlier text n s w = subst (Within (stored_after earlier)) (none n (length text) (ap length s)) w
  where
    none : (n m : ℕ) → m ≡ 0 → n ≡ n + m
    none n m e = omega arith
all_within (step ∷ steps) earlier text n s w =
    subst (Within (stored_after (steps_after steps (step ∷ earlier)))) (sum n (length s.0) (length s.1) ∙ ap (λ m. n + m) (sym (ap length s.4 ∙ length-append s.0 s.1)))
    (all_within steps (step ∷ earlier) s.1 (n + length s.0) s.3 (one_within step (stored_after earlier) s.0 n s.2 w))
  where
    sum : (a b c : ℕ) → a + b + c ≡ a + (b + c)
    sum a b c = omega arith

within_bytes : (steps : List Step) (text : List ℕ) → SpellsSteps steps text → Within (stored_after (steps_after steps [])) (length text)
within_bytes steps text s = subst (Within (stored_after (steps_after steps []))) (none_before (length text)) (all_within steps [] text 0 s (record { ids = omega arith; counts = tt }))
  where
    none_before : (n : ℕ) → 0 + n ≡ n
    none_before n = omega arith

not_spent : (f : Stored) (n : ℕ) → f.next_id ≤ n → CountsWithin n f.clauses → n ≤ most_bytes → CountersExhausted f → ⊥
not_spent f n i c l spent = elim spent [
  | inl h ↦ absurd (let e : most_bytes < 2 ^ 64 = omega arith in omega arith)
  | inr h ↦ elim h.past [
    | inl k ↦ absurd (let e : most_bytes < 2 ^ 64 = omega arith in let a = irredundant_within n h.literals f.clauses c in omega arith)
    | inr k ↦ absurd (let e : most_bytes < 2 ^ 64 = omega arith in let a = redundant_within n h.literals f.clauses c in omega arith)
  ]
]

pub ids_within_bytes : IdsWithinBytes
ids_within_bytes steps text s = (within_bytes steps text s).ids

-- the bytes of the first steps
record Front (steps : List Step) (text : List ℕ) : Type 0 where
  bytes : List ℕ
  spelt : SpellsSteps steps bytes
  shorter : length bytes ≤ length text

front_of : (steps others : List Step) (text : List ℕ) → SpellsSteps (steps ++ others) text → Front steps text
front_of [] others text s = record { bytes = []; spelt = refl; shorter = omega arith }
front_of (step ∷ steps) others text s =
    let k = front_of steps others s.1 s.3 in
    let e : length text ≡ length s.0 + length s.1 = ap length s.4 ∙ length-append s.0 s.1 in
    let d : length (s.0 ++ k.bytes) ≡ length s.0 + length k.bytes = length-append s.0 k.bytes in
    let l = k.shorter in
    record { bytes = s.0 ++ k.bytes; spelt = (s.0, k.bytes, s.2, k.spelt, refl); shorter = omega arith }

pub none_is_spent : CountersNeverExhausted
none_is_spent steps step text s l spent = elim spent [
  | inl h ↦ (
      let k = front_of steps (step ∷ []) text s in
      let w = within_bytes steps k.bytes k.spelt in
      let f : Stored = stored_after (steps_after steps []) in
      not_spent (with_conflict_settled f) (length k.bytes) w.ids (subst (CountsWithin (length k.bytes)) (sym (settled_clauses f)) w.counts) (let e = k.shorter in omega arith) h
      )
  | inr h ↦ (
      let g : Stored = effect step (with_conflict_settled (stored_after (steps_after steps []))) in
      let w : Within g (length text) = subst (λ z. Within (stored_after z) (length text)) (taken_one steps step []) (within_bytes (steps ++ step ∷ []) text s) in
      not_spent g (length text) (let i = w.ids in let a = settled_least g in omega arith) w.counts l h.1
      )
]
