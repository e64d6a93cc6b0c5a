-- A step has one spelling: the bytes that are written for it.
use Rattle.std.proofs.Common.{◌≡◌, ℕ, suc, zero, ◌+◌, ◌*◌, ◌/◌, ◌%◌, ◌^◌, ◌<◌, ◌≤◌, Bool, true, false, Option, None, Some, List, [], ◌∷◌, ◌++◌, length, sym, ap, ap₂, subst, ◌∙◌, arith}
use Rattle.std.proofs.Math.Nat.{pow-succ'}
use Rattle.sat_base.specs.values.Literals.{var_limit}
use Rattle.sat_base.specs.steps.Formats.{Format, Both, Items, ListOf}
use Rattle.sat_base.specs.steps.Numbers.{SpellsNumber, SpellsNumberBelow}
use Rattle.sat_base.specs.steps.Steps.{Deletion, Redundant, Simplified, Satisfied, Step, SolverVarName, UserVarName, DeleteVar, ChangeSamplingMode, AddClause, AtClause, UnitClauses, DeleteClause, ChangeHashBits, Model, Assumptions, FailedAssumptions, End}
use Rattle.sat_base.specs.steps.StepText.{tag_of, SpellsVariable, SpellsOptionalVariable, SpellsLiteral, SpellsHash, SpellsFlag, SpellsDeletion, SpellsLiterals, SpellsHashes, SpellsHashedLiterals, SpellsFields, SpellsStep}
use Rattle.sat_base.specs.steps.StepBytes.{groups_of_seven_bits, number_bytes, optional_bytes, flag_bytes, deletion_bytes, numbers_bytes, pairs_bytes, list_bytes, units_bytes, fields_bytes, step_bytes}
use Rattle.sat_base.proofs.lemmas.steps.NumberBytes.{groups_last, groups_on}

less : (p n : ℕ) → n < 128 * p → n / 128 < p
less p n f = omega arith

fits_less : (k n : ℕ) → n < 128 ^ (suc k + 1) → n / 128 < 128 ^ (k + 1)
fits_less k n f = let e : suc k + 1 ≡ suc (k + 1) = omega arith in let g : n < 128 * 128 ^ (k + 1) = subst (λ (z : ℕ). n < z) (ap (λ (j : ℕ). 128 ^ j) e ∙ pow-succ' 128 (k + 1)) f in less (128 ^ (k + 1)) n g

-- a number with at most k groups before the last has one spelling
number_is : (k n : ℕ) (text : List ℕ) → n < 128 ^ (k + 1) → SpellsNumber n text → text ≡ groups_of_seven_bits k n
number_is k n [] f h = absurd h
number_is k n (b ∷ []) f h = ap (λ (x : ℕ). x ∷ []) (sym h.1) ∙ sym (groups_last k n (omega (arith, h.0, h.1)))
number_is zero n (b ∷ c ∷ bs) f h = absurd (let g : n < 128 = f in omega (arith, h.0, h.3, h.4))
number_is (suc k) n (b ∷ c ∷ bs) f h =
    let high : h.2 ≡ n / 128 = omega (arith, h.0, h.1, h.4) in
    let low : b ≡ n % 128 + 128 = omega (arith, h.0, h.1, h.4) in
    let rest : c ∷ bs ≡ groups_of_seven_bits k (n / 128) = number_is k (n / 128) (c ∷ bs) (fits_less k n f) (subst (λ (m : ℕ). SpellsNumber m (c ∷ bs)) high h.5) in
    ap₂ ◌∷◌ low rest ∙ sym (groups_on k n (omega (arith, h.0, h.3, h.4)))

below_is : (limit n : ℕ) (text : List ℕ) → limit ≤ 2 ^ 64 → SpellsNumberBelow limit n text → text ≡ number_bytes n
below_is limit n text l h = number_is 9 n text (omega (arith, h.1)) h.0

optional_is : (v : Option ℕ) (text : List ℕ) → SpellsOptionalVariable v text → text ≡ optional_bytes v
optional_is None text h = below_is (var_limit + 1) 0 text (omega arith) h
optional_is (Some v) text h = below_is (var_limit + 1) (v + 1) text (omega arith) h

flag_is : (f : Bool) (text : List ℕ) → SpellsFlag f text → text ≡ flag_bytes f
flag_is false text h = below_is 2 0 text (omega arith) h
flag_is true text h = below_is 2 1 text (omega arith) h

deletion_is : (d : Deletion) (text : List ℕ) → SpellsDeletion d text → text ≡ deletion_bytes d
deletion_is Redundant text h = below_is 3 0 text (omega arith) h
deletion_is Simplified text h = below_is 3 1 text (omega arith) h
deletion_is Satisfied text h = below_is 3 2 text (omega arith) h

both_is : {A B : Type 0} (F : Format A) (G : Format B) (x : A) (y : B) (s t text : List ℕ) → ((a : List ℕ) → F x a → a ≡ s) → ((b : List ℕ) → G y b → b ≡ t) → Both F G (x, y) text → text ≡ s ++ t
both_is F G x y s t text f g h = h.4 ∙ ap₂ ◌++◌ (f h.0 h.2) (g h.1 h.3)

items_are : (limit : ℕ) (ns : List ℕ) (text : List ℕ) → limit ≤ 2 ^ 64 → Items (SpellsNumberBelow limit) ns text → text ≡ numbers_bytes ns
items_are limit [] text l h = h
items_are limit (n ∷ ns) text l h = h.4 ∙ ap₂ ◌++◌ (below_is limit n h.0 l h.2) (items_are limit ns h.1 l h.3)

list_is : (limit : ℕ) (ns text : List ℕ) → limit ≤ 2 ^ 64 → ListOf (SpellsNumberBelow (2 ^ 64)) (SpellsNumberBelow limit) ns text → text ≡ list_bytes ns
list_is limit ns text l h = h.4 ∙ ap₂ ◌++◌ (below_is (2 ^ 64) (length ns) h.0 (omega arith) h.2) (items_are limit ns h.1 l h.3)

pair_is : (p : ℕ × ℕ) (text : List ℕ) → Both SpellsLiteral SpellsHash p text → text ≡ number_bytes p.0 ++ number_bytes p.1
pair_is p text h = h.4 ∙ ap₂ ◌++◌ (below_is (2 * var_limit) p.0 h.0 (omega arith) h.2) (below_is (2 ^ 64) p.1 h.1 (omega arith) h.3)

pairs_are : (ps : List (ℕ × ℕ)) (text : List ℕ) → Items (Both SpellsLiteral SpellsHash) ps text → text ≡ pairs_bytes ps
pairs_are [] text h = h
pairs_are (p ∷ ps) text h = h.4 ∙ ap₂ ◌++◌ (pair_is p h.0 h.2) (pairs_are ps h.1 h.3)

units_are : (ps : List (ℕ × ℕ)) (text : List ℕ) → SpellsHashedLiterals ps text → text ≡ units_bytes ps
units_are ps text h = h.4 ∙ ap₂ ◌++◌ (below_is (2 ^ 64) (length ps) h.0 (omega arith) h.2) (pairs_are ps h.1 h.3)

literals_are : (ls text : List ℕ) → SpellsLiterals ls text → text ≡ list_bytes ls
literals_are ls text h = list_is (2 * var_limit) ls text (omega arith) h

hashes_are : (hs text : List ℕ) → SpellsHashes hs text → text ≡ list_bytes hs
hashes_are hs text h = list_is (2 ^ 64) hs text (omega arith) h

variable_is : (v : ℕ) (text : List ℕ) → SpellsVariable v text → text ≡ number_bytes v
variable_is v text h = below_is var_limit v text (omega arith) h

fields_are : (step : Step) (text : List ℕ) → SpellsFields step text → text ≡ fields_bytes step
fields_are (SolverVarName global solver) text h = both_is SpellsVariable SpellsOptionalVariable global solver _ _ text (variable_is global) (optional_is solver) h
fields_are (UserVarName global user) text h = both_is SpellsVariable SpellsOptionalVariable global user _ _ text (variable_is global) (optional_is user) h
fields_are (DeleteVar v) text h = variable_is v text h
fields_are (ChangeSamplingMode v sample) text h = both_is SpellsVariable SpellsFlag v sample _ _ text (variable_is v) (flag_is sample) h
fields_are (AddClause clause) text h = literals_are clause text h
fields_are (AtClause redundant clause hashes) text h =
    both_is SpellsFlag (Both SpellsLiterals SpellsHashes) redundant (clause, hashes) _ _ text (flag_is redundant) (λ b k. both_is SpellsLiterals SpellsHashes clause hashes _ _ b (literals_are clause) (hashes_are hashes) k) h
fields_are (UnitClauses units) text h = units_are units text h
fields_are (DeleteClause clause proof) text h = both_is SpellsLiterals SpellsDeletion clause proof _ _ text (literals_are clause) (deletion_is proof) h
fields_are (ChangeHashBits bits) text h = below_is 65 bits text (omega arith) h
fields_are (Model assignment) text h = literals_are assignment text h
fields_are (Assumptions assumptions) text h = literals_are assumptions text h
fields_are (FailedAssumptions core hashes) text h = both_is SpellsLiterals SpellsHashes core hashes _ _ text (literals_are core) (hashes_are hashes) h
fields_are End text h = h

pub spelling_is : (step : Step) (text : List ℕ) → SpellsStep step text → text ≡ step_bytes step
spelling_is step text h = h.1 ∙ ap (λ (z : List ℕ). tag_of step ∷ z) (fields_are step h.0 h.2)

pub one_spelling : (step : Step) (a b : List ℕ) → SpellsStep step a → SpellsStep step b → a ≡ b
one_spelling step a b h k = spelling_is step a h ∙ sym (spelling_is step b k)
