-- A bound on the looks of steps at the beginning of a text, by the length of the text.
use Rattle.std.proofs.Common.{ℕ, ◌+◌, ◌*◌, ◌≤◌, ◌≡◌, ◌==◌, ◌&&◌, ◌^◌, Bool, true, false, Option, None, Some, List, [], ◌∷◌, ◌++◌, length, map, if◌then◌else◌, refl, subst, ap, ◌∙◌, arith}
use Rattle.std.proofs.lemmas.List.{append-nil, length-append}
use Rattle.std.proofs.Math.Nat.{mul-le-mul_left, mul-one, pow-succ', pow-zero}
use Rattle.std.specs.Prelude.{nat_lt}
use Rattle.sat_base.specs.device.Device.{Reader, GavePrefix, CouldStillGive}
use Rattle.sat_base.specs.values.Literals.{negated}
use Rattle.sat_base.specs.steps.Formats.{Format, Items, ListOf, Both}
use Rattle.sat_base.specs.steps.Numbers.{SpellsNumber, SpellsNumberBelow}
use Rattle.sat_base.specs.steps.Steps.{Redundant, Simplified, Satisfied, Step, SolverVarName, UserVarName, AddClause, AtClause, UnitClauses, DeleteClause, FailedAssumptions}
use Rattle.sat_base.specs.steps.StepText.{tag_of, SpellsLiteral, SpellsHash, SpellsLiterals, SpellsHashes, SpellsHashedLiterals, SpellsFields, SpellsStep}
use Rattle.sat_checker.specs.Accepts.{effect, ready_after}
use Rattle.sat_checker.specs.LiteralSets.{with_literal, canonical, same_literals, is_tautology}
use Rattle.sat_checker.specs.Looks.{total_length, stored_literal_count, hash_count}
use Rattle.sat_checker.specs.Stored.{StoredClause, Stored, is_unit}
use Rattle.sat_checker.specs.Storing.{with_count, new_clause, with_stored_clause, without_count, unless_removed, without_clause, with_unit, with_contradiction, with_new_unit, with_units, settled_by, with_conflict_settled, with_sorted_set, with_canonical, with_stored, with_input, with_literals_known}
use Rattle.certify.specs.confirm.VerdictPromises.{LooksAreBounded}
use Rattle.certify.specs.confirm.FedSteps.{StepsAccountForLooks, same_looks, looks_of_last, looks_of_accepted}

-- A TEXT IS AT LEAST AS LONG AS ITS ITEMS

-- `HasByte F` holds if every text of the format has at least one byte.
abbrev HasByte : {A : Type 0} → Format A → Type 0
HasByte {A} F = (x : A) (bytes : List ℕ) → F x bytes → 1 ≤ length bytes

number_has : (n : ℕ) (bytes : List ℕ) → SpellsNumber n bytes → 1 ≤ length bytes
number_has n [] h = absurd h
number_has n (b ∷ bs) h = omega arith

below_has : (limit : ℕ) → HasByte (SpellsNumberBelow limit)
below_has limit n bytes h = number_has n bytes h.0

pair_has : {A B : Type 0} (F : Format A) (G : Format B) → HasByte F → HasByte (Both F G)
pair_has {A} {B} F G h x bytes p =
    let one = h x.0 p.0 p.2 in
    let joined : length bytes ≡ length p.0 + length p.1 = ap length p.4 ∙ length-append p.0 p.1 in
    omega (arith, one, joined)

items_fit : {A : Type 0} (F : Format A) → HasByte F → (xs : List A) (bytes : List ℕ) → Items F xs bytes → length xs ≤ length bytes
items_fit {A} F h [] bytes e = omega arith
items_fit {A} F h (x ∷ xs) bytes p =
    let one = h x p.0 p.2 in
    let rest = items_fit F h xs p.1 p.3 in
    let joined : length bytes ≡ length p.0 + length p.1 = ap length p.4 ∙ length-append p.0 p.1 in
    omega (arith, one, rest, joined)

list_fits : {A : Type 0} (C : Format ℕ) (F : Format A) → HasByte F → (xs : List A) (bytes : List ℕ) → ListOf C F xs bytes → length xs ≤ length bytes
list_fits {A} C F h xs bytes p =
    let rest = items_fit F h xs p.1 p.3 in
    let joined : length bytes ≡ length p.0 + length p.1 = ap length p.4 ∙ length-append p.0 p.1 in
    omega (arith, rest, joined)

literals_fit : (ls bytes : List ℕ) → SpellsLiterals ls bytes → length ls ≤ length bytes
literals_fit ls bytes p = list_fits (SpellsNumberBelow (2 ^ 64)) SpellsLiteral (below_has _) ls bytes p

hashes_fit : (hs bytes : List ℕ) → SpellsHashes hs bytes → length hs ≤ length bytes
hashes_fit hs bytes p = list_fits (SpellsNumberBelow (2 ^ 64)) SpellsHash (below_has _) hs bytes p

units_fit : (us : List (ℕ × ℕ)) (bytes : List ℕ) → SpellsHashedLiterals us bytes → length us ≤ length bytes
units_fit us bytes p = list_fits (SpellsNumberBelow (2 ^ 64)) (Both SpellsLiteral SpellsHash) (pair_has SpellsLiteral SpellsHash (below_has _)) us bytes p

both_fit : (ls hs bytes : List ℕ) → Both SpellsLiterals SpellsHashes (ls, hs) bytes → length ls + length hs ≤ length bytes
both_fit ls hs bytes p =
    let one = literals_fit ls p.0 p.2 in
    let two = hashes_fit hs p.1 p.3 in
    let joined : length bytes ≡ length p.0 + length p.1 = ap length p.4 ∙ length-append p.0 p.1 in
    omega (arith, one, two, joined)

-- the number of literals of the clause that a step may store
abbrev clause_size : Step → ℕ
clause_size (AddClause clause) = length clause
clause_size (AtClause redundant clause hashes) = length clause
clause_size step = 0

fields_fit : (step : Step) (bytes : List ℕ) → SpellsFields step bytes → clause_size step + hash_count step ≤ length bytes
fields_fit (AddClause clause) bytes p = let one = literals_fit clause bytes p in omega (arith, one)
fields_fit (AtClause redundant clause hashes) bytes p =
    let one = both_fit clause hashes p.1 p.3 in
    let joined : length bytes ≡ length p.0 + length p.1 = ap length p.4 ∙ length-append p.0 p.1 in
    omega (arith, one, joined)
fields_fit (UnitClauses us) bytes p = let one = units_fit us bytes p in omega (arith, one)
fields_fit (FailedAssumptions core hashes) bytes p =
    let two = hashes_fit hashes p.1 p.3 in
    let joined : length bytes ≡ length p.0 + length p.1 = ap length p.4 ∙ length-append p.0 p.1 in
    omega (arith, two, joined)
fields_fit step bytes p = omega arith

step_fits : (step : Step) (text : List ℕ) → SpellsStep step text → clause_size step + hash_count step + 1 ≤ length text
step_fits step text p = let one = fields_fit step p.0 p.2 in let e : length text ≡ length (tag_of step ∷ p.0) = ap length p.1 in omega (arith, one, e)

-- A STEP STORES AT MOST ONE CLAUSE

abbrev literals_in : List StoredClause → ℕ
literals_in cs = total_length (map (λ (c : StoredClause). c.literals) cs)

counted_kept : (redundant : Bool) (c : StoredClause) → (with_count redundant c).literals ≡ c.literals
counted_kept true c = refl
counted_kept false c = refl

uncounted_kept : (redundant : Bool) (c : StoredClause) → (without_count redundant c).literals ≡ c.literals
uncounted_kept true c = refl
uncounted_kept false c = refl

clause_grows : (redundant : Bool) (id : ℕ) (ls : List ℕ) (cs : List StoredClause) → literals_in (with_stored_clause redundant id ls cs) ≤ literals_in cs + length ls
clause_grows redundant id ls [] =
    let e : length (new_clause redundant id ls).literals ≡ length ls = ap length (counted_kept redundant (record { id = id; literals = ls; irredundant = 0; redundant = 0 })) in
    omega (arith, e)
clause_grows redundant id ls (c ∷ cs) = by_same (clause_grows redundant id ls cs) (same_literals c.literals ls)
  where
    by_same : literals_in (with_stored_clause redundant id ls cs) ≤ literals_in cs + length ls → (same : Bool) → literals_in (if same then with_count redundant c ∷ cs else c ∷ with_stored_clause redundant id ls cs) ≤ literals_in (c ∷ cs) + length ls
    by_same rest true = let e : length (with_count redundant c).literals ≡ length c.literals = ap length (counted_kept redundant c) in omega (arith, e)
    by_same rest false = omega (arith, rest)

clause_goes : (redundant : Bool) (ls : List ℕ) (cs : List StoredClause) → literals_in (without_clause redundant ls cs) ≤ literals_in cs
clause_goes redundant ls [] = omega arith
clause_goes redundant ls (c ∷ cs) = by_same (clause_goes redundant ls cs) (same_literals c.literals ls)
  where
    by_gone : (gone : Bool) → literals_in ((if gone then [] else without_count redundant c ∷ []) ++ cs) ≤ literals_in (c ∷ cs)
    by_gone true = omega arith
    by_gone false = let e : length (without_count redundant c).literals ≡ length c.literals = ap length (uncounted_kept redundant c) in omega (arith, e)

    by_same : literals_in (without_clause redundant ls cs) ≤ literals_in cs → (same : Bool) → literals_in (if same then unless_removed (without_count redundant c) ++ cs else c ∷ without_clause redundant ls cs) ≤ literals_in (c ∷ cs)
    by_same rest true = let d : StoredClause = without_count redundant c in by_gone (d.irredundant == 0 && d.redundant == 0)
    by_same rest false = omega (arith, rest)

unit_keeps : (l : ℕ) (f : Stored) → (with_unit l f).clauses ≡ f.clauses
unit_keeps l f = by_same (is_unit f l)
  where
    by_other : (other : Bool) → (if other then with_contradiction l f else with_new_unit l f).clauses ≡ f.clauses
    by_other true = refl
    by_other false = refl

    by_same : (same : Bool) → (if same then f else (if is_unit f (negated l) then with_contradiction l f else with_new_unit l f)).clauses ≡ f.clauses
    by_same true = refl
    by_same false = by_other (is_unit f (negated l))

units_keep : (ls : List ℕ) (f : Stored) → (with_units ls f).clauses ≡ f.clauses
units_keep [] f = refl
units_keep (l ∷ ls) f = units_keep ls (with_unit l f) ∙ unit_keeps l f

settled_keeps : (f : Stored) → (with_conflict_settled f).clauses ≡ f.clauses
settled_keeps f = by_conflict f.conflict
  where
    by_conflict : (conflict : Option (ℕ × ℕ)) → (settled_by conflict f).clauses ≡ f.clauses
    by_conflict None = refl
    by_conflict (Some units) = refl

placed_shorter : (l : ℕ) (ls : List ℕ) → length (with_literal l ls) ≤ length ls + 1
placed_shorter l [] = omega arith
placed_shorter l (m ∷ ms) = by_less (placed_shorter l ms) (nat_lt l m)
  where
    by_equal : length (with_literal l ms) ≤ length ms + 1 → (equal : Bool) → length (if equal then m ∷ ms else m ∷ with_literal l ms) ≤ length (m ∷ ms) + 1
    by_equal rest true = omega arith
    by_equal rest false = omega (arith, rest)

    by_less : length (with_literal l ms) ≤ length ms + 1 → (less : Bool) → length (if less then l ∷ m ∷ ms else (if l == m then m ∷ ms else m ∷ with_literal l ms)) ≤ length (m ∷ ms) + 1
    by_less rest true = omega arith
    by_less rest false = by_equal rest (l == m)

set_shorter : (ls : List ℕ) → length (canonical ls) ≤ length ls
set_shorter [] = omega arith
set_shorter (l ∷ ls) = let rest = set_shorter ls in let one = placed_shorter l (canonical ls) in omega (arith, rest, one)

set_grows : (redundant : Bool) (ls : List ℕ) (f : Stored) → literals_in (with_sorted_set redundant ls f).clauses ≤ literals_in f.clauses + length ls
set_grows redundant [] f = omega arith
set_grows redundant (l ∷ []) f = let e : literals_in (with_unit l f).clauses ≡ literals_in f.clauses = ap literals_in (unit_keeps l f) in omega (arith, e)
set_grows redundant (l ∷ m ∷ ls) f = clause_grows redundant f.next_id (l ∷ m ∷ ls) f.clauses

stored_grows : (redundant : Bool) (clause : List ℕ) (f : Stored) → literals_in (with_stored redundant clause f).clauses ≤ literals_in f.clauses + length clause
stored_grows redundant clause f = by_both (is_tautology clause)
  where
    by_redundant : (r : Bool) → literals_in (with_canonical r (canonical clause) f).clauses ≤ literals_in f.clauses + length clause
    by_redundant true = let grown = set_grows true (canonical clause) f in let short = set_shorter clause in omega (arith, grown, short)
    by_redundant false = let grown = set_grows false (canonical clause) f in let short = set_shorter clause in omega (arith, grown, short)

    by_both : (both : Bool) → literals_in (if both then f else with_canonical redundant (canonical clause) f).clauses ≤ literals_in f.clauses + length clause
    by_both true = omega arith
    by_both false = by_redundant redundant

effect_grows : (step : Step) (f : Stored) → literals_in (effect step f).clauses ≤ literals_in f.clauses + clause_size step
effect_grows (SolverVarName v None) f = omega arith
effect_grows (UserVarName v (Some name)) f = omega arith
effect_grows (AddClause clause) f = by_unsat f.unsat
  where
    by_unsat : (unsat : Bool) → literals_in (if unsat then f else with_input clause (with_literals_known clause f)).clauses ≤ literals_in f.clauses + length clause
    by_unsat true = omega arith
    by_unsat false = stored_grows false clause (with_literals_known clause f)
effect_grows (AtClause redundant clause hashes) f = stored_grows redundant clause (with_literals_known clause f)
effect_grows (UnitClauses us) f =
    let ls : List ℕ = map (λ (u : ℕ × ℕ). u.0) us in
    let e : literals_in (with_units ls (with_literals_known ls f)).clauses ≡ literals_in f.clauses = ap literals_in (units_keep ls (with_literals_known ls f)) in
    omega (arith, e)
effect_grows (DeleteClause clause Redundant) f = let less = clause_goes true (canonical clause) f.clauses in omega (arith, less)
effect_grows (DeleteClause clause Simplified) f = let less = clause_goes false (canonical clause) f.clauses in omega (arith, less)
effect_grows (DeleteClause clause Satisfied) f = let less = clause_goes false (canonical clause) f.clauses in omega (arith, less)
effect_grows step f = omega arith

step_grows : (step : Step) (earlier : List Step) → stored_literal_count (ready_after (step ∷ earlier)) ≤ stored_literal_count (ready_after earlier) + clause_size step
step_grows step earlier =
    let f : Stored = ready_after earlier in
    let grown = effect_grows step f in
    let e : stored_literal_count (with_conflict_settled (effect step f)) ≡ literals_in (effect step f).clauses = ap literals_in (settled_keeps (effect step f)) in
    omega (arith, grown, e)

-- THE BOUND ON LOOKS

-- a bound for one step, by its bytes and the stored literals
step_looks : (hashes size count bytes : ℕ) → hashes + 1 ≤ size → (5 + 2 * hashes) * count ≤ 7 * (size * (count + bytes))
step_looks hashes size count bytes h =
    let wide : count * (5 + 2 * hashes) ≤ count * (7 * size) = mul-le-mul_left count (let k : 5 + 2 * hashes ≤ 7 * size = omega (arith, h) in k) in
    omega (arith, wide)

-- the bounds for a step and for the rest of the bytes add up
two_looks : (size rest count grown : ℕ) → grown ≤ count + size → 7 * (size * (count + (size + rest))) + 7 * ((grown + rest) * rest) ≤ 7 * ((count + (size + rest)) * (size + rest))
two_looks size rest count grown h =
    let more : rest * (grown + rest) ≤ rest * (count + (size + rest)) = mul-le-mul_left rest (let k : grown + rest ≤ count + (size + rest) = omega (arith, h) in k) in
    omega (arith, more)

looks_within : (earlier : List Step) (bytes : List ℕ) (from to : ℕ) → StepsAccountForLooks earlier bytes from to
    → to ≤ from + 7 * ((stored_literal_count (ready_after earlier) + length bytes) * length bytes)
looks_within earlier bytes from to (same_looks) = omega arith
looks_within earlier bytes from to (looks_of_last step text rest e spelt most) =
    let count = stored_literal_count (ready_after earlier) in
    let fits = step_fits step text spelt in
    let one = step_looks (hash_count step) (length text) count (length text + length rest) (let k : hash_count step + 1 ≤ length text = omega (arith, fits) in k) in
    let two = two_looks (length text) (length rest) count count (omega arith) in
    let joined : length bytes ≡ length text + length rest = ap length e ∙ length-append text rest in
    rw joined (omega (arith, one, two, most))
looks_within earlier bytes from to (looks_of_accepted step text rest between e spelt accepted most reach) =
    let count = stored_literal_count (ready_after earlier) in
    let fits = step_fits step text spelt in
    let grown = step_grows step earlier in
    let following = looks_within (step ∷ earlier) rest between to reach in
    let one = step_looks (hash_count step) (length text) count (length text + length rest) (let k : hash_count step + 1 ≤ length text = omega (arith, fits) in k) in
    let two = two_looks (length text) (length rest) count (stored_literal_count (ready_after (step ∷ earlier))) (omega (arith, grown, fits)) in
    let joined : length bytes ≡ length text + length rest = ap length e ∙ length-append text rest in
    rw joined (omega (arith, one, two, most, following))

square : (n : ℕ) → n ^ 2 ≡ n * n
square n = pow-succ' n 1 ∙ ap (λ (k : ℕ). n * k) (pow-succ' n 0 ∙ ap (λ (k : ℕ). n * k) (pow-zero n) ∙ mul-one n)

-- a text of n bytes takes at most 16 (n + 1)^2 looks
looks_bounded : (bytes : List ℕ) (from to : ℕ) → StepsAccountForLooks [] bytes from to → to ≤ from + 16 * (length bytes + 1) ^ 2
looks_bounded bytes from to reach =
    let n = length bytes in
    let most : to ≤ from + 7 * ((0 + n) * n) = looks_within [] bytes from to reach in
    let whole : (n + 1) ^ 2 ≡ (n + 1) * (n + 1) = square (n + 1) in
    omega (arith, most, whole)

-- the looks of steps in the text that a reader gave are bounded
pub takes_looks : (old new : Reader) (text : List ℕ) (from to : ℕ) → GavePrefix old new text → from ≤ to
    → ((rest : List ℕ) → CouldStillGive old new rest → StepsAccountForLooks [] (text ++ rest) from to) → LooksAreBounded old new from to
takes_looks old new text from to front rises reached = record {
  text = text;
  front = front;
  rises = rises;
  bound = looks_bounded text from to (subst (λ (bytes : List ℕ). StepsAccountForLooks [] bytes from to) (append-nil text) (reached [] (λ _ _. refl)));
  reached = reached;
}
