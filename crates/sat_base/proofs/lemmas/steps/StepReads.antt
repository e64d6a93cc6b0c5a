-- Steps, and the values that they are made of.
use Rattle.std.proofs.Common.{◌≡◌, ℕ, ◌+◌, ◌*◌, ◌^◌, zero, suc, Bool, true, false, Option, Some, None, List, [], ◌∷◌, ◌++◌, length, Result, Ok, Err, append_assoc, refl, sym, ap, subst, ◌∙◌, arith}
use Rattle.sat_base.specs.declared.steps.error.StepError.{StepError}
use Rattle.sat_base.specs.declared.steps.error.StepError.TheVariants as errors
use Rattle.sat_base.specs.steps.Formats.{Format, Both, Items, ListOf, IsUniquelyDecodable}
use Rattle.sat_base.specs.values.Literals.{var_limit}
use Rattle.sat_base.specs.steps.Numbers.{SpellsNumberBelow}
use Rattle.sat_base.specs.steps.Steps.{Deletion, Redundant, Simplified, Satisfied, Step, SolverVarName, UserVarName, DeleteVar, ChangeSamplingMode, AddClause, AtClause, UnitClauses, DeleteClause, ChangeHashBits, Model, Assumptions, FailedAssumptions, End}
use Rattle.sat_base.specs.steps.StepText.{SpellsVariable, SpellsOptionalVariable, SpellsLiteral, SpellsHash, SpellsFlag, SpellsWidth, SpellsDeletion, SpellsLiterals, SpellsHashes, SpellsHashedLiterals, tag_of, SpellsFields, SpellsStep, SpellsSteps}
use Rattle.sat_base.specs.steps.Kinds.{is_tag}
use Rattle.sat_base.specs.device.Reading.{Source, ConsumesBytes, ReadsValue, AnswersStepRead, SpellsFieldsOfTag, ConsumesNextByte}
use Rattle.sat_base.proofs.lemmas.steps.Formats.{HasText, cancel, one_then}
use Rattle.sat_base.proofs.lemmas.steps.Numbers.{one_below, some_below}
use Rattle.sat_base.proofs.lemmas.device.ReadLemmas.{passes_more, faults_later}
use Rattle.sat_base.proofs.lemmas.steps.FormatReads.{reads_as}
use Rattle.sat_base.proofs.lemmas.steps.TagForms.{form_one, solver_form, user_form, variable_form, mode_form, clause_form, at_form, units_form, deletion_form, width_form, model_form, assumptions_form, failed_form}

-- UNIQUE DECODING
pub one_items : {A : Type 0} (F : Format A) → IsUniquelyDecodable F → (xs ys : List A) (a b s t : List ℕ) → Items F xs a → Items F ys b → length xs ≡ length ys → a ++ s ≡ b ++ t → (a ≡ b) × (xs ≡ ys)
one_items F one [] [] a b s t h k n e = (h ∙ sym k, refl)
one_items F one [] (y ∷ ys) a b s t h k n e = absurd (omega arith)
one_items F one (x ∷ xs) [] a b s t h k n e = absurd (omega arith)
one_items {A} F one (x ∷ xs) (y ∷ ys) a b s t h k n e =
    let u : h.0 ++ (h.1 ++ s) ≡ k.0 ++ (k.1 ++ t) = sym (append_assoc h.0 h.1 s) ∙ ap (λ (z : List ℕ). z ++ s) (sym h.4) ∙ e ∙ ap (λ (z : List ℕ). z ++ t) k.4 ∙ append_assoc k.0 k.1 t in
    let p = one x y h.0 k.0 (h.1 ++ s) (k.1 ++ t) h.2 k.2 u in
    let v : h.1 ++ s ≡ k.1 ++ t = cancel h.0 (h.1 ++ s) (k.1 ++ t) (u ∙ ap (λ (z : List ℕ). z ++ (k.1 ++ t)) (sym p.0)) in
    let q = one_items F one xs ys h.1 k.1 s t h.3 k.3 (omega arith) v in
    (h.4 ∙ ap (λ (z : List ℕ). z ++ h.1) p.0 ∙ ap (λ (z : List ℕ). k.0 ++ z) q.0 ∙ sym k.4, ap (λ (z : A). z ∷ xs) p.1 ∙ ap (λ (z : List A). y ∷ z) q.1)

pub one_list : {A : Type 0} (C : Format ℕ) (F : Format A) → IsUniquelyDecodable C → IsUniquelyDecodable F → IsUniquelyDecodable (ListOf C F)
one_list C F count one xs ys a b s t h k e =
    let u : h.0 ++ (h.1 ++ s) ≡ k.0 ++ (k.1 ++ t) = sym (append_assoc h.0 h.1 s) ∙ ap (λ (z : List ℕ). z ++ s) (sym h.4) ∙ e ∙ ap (λ (z : List ℕ). z ++ t) k.4 ∙ append_assoc k.0 k.1 t in
    let p = count (length xs) (length ys) h.0 k.0 (h.1 ++ s) (k.1 ++ t) h.2 k.2 u in
    let v : h.1 ++ s ≡ k.1 ++ t = cancel h.0 (h.1 ++ s) (k.1 ++ t) (u ∙ ap (λ (z : List ℕ). z ++ (k.1 ++ t)) (sym p.0)) in
    let q = one_items F one xs ys h.1 k.1 s t h.3 k.3 p.1 v in
    (h.4 ∙ ap (λ (z : List ℕ). z ++ h.1) p.0 ∙ ap (λ (z : List ℕ). k.0 ++ z) q.0 ∙ sym k.4, q.1)

pub one_literals : IsUniquelyDecodable SpellsLiterals
one_literals = one_list (SpellsNumberBelow (2 ^ 64)) SpellsLiteral (one_below (2 ^ 64)) (one_below (2 * var_limit))

pub one_hashes : IsUniquelyDecodable SpellsHashes
one_hashes = one_list (SpellsNumberBelow (2 ^ 64)) SpellsHash (one_below (2 ^ 64)) (one_below (2 ^ 64))

pub one_both : {A B : Type 0} (F : Format A) (G : Format B) → IsUniquelyDecodable F → IsUniquelyDecodable G → IsUniquelyDecodable (Both F G)
one_both F G one two = one_then F (λ _. G) one (λ _. two)

pub one_unit : IsUniquelyDecodable (Both SpellsLiteral SpellsHash)
one_unit = one_both SpellsLiteral SpellsHash (one_below (2 * var_limit)) (one_below (2 ^ 64))

pub one_units : IsUniquelyDecodable SpellsHashedLiterals
one_units = one_list (SpellsNumberBelow (2 ^ 64)) (Both SpellsLiteral SpellsHash) (one_below (2 ^ 64)) one_unit

pub one_optional : IsUniquelyDecodable SpellsOptionalVariable
one_optional None None a b s t h k e = ((one_below (var_limit + 1) 0 0 a b s t h k e).0, refl)
one_optional None (Some w) a b s t h k e = let p = one_below (var_limit + 1) 0 (w + 1) a b s t h k e in absurd (omega (arith, p.1))
one_optional (Some v) None a b s t h k e = let p = one_below (var_limit + 1) (v + 1) 0 a b s t h k e in absurd (omega (arith, p.1))
one_optional (Some v) (Some w) a b s t h k e = let p = one_below (var_limit + 1) (v + 1) (w + 1) a b s t h k e in (p.0, ap Some (omega (arith, p.1)))

pub one_flag : IsUniquelyDecodable SpellsFlag
one_flag false false a b s t h k e = ((one_below 2 0 0 a b s t h k e).0, refl)
one_flag false true a b s t h k e = let p = one_below 2 0 1 a b s t h k e in absurd (omega (arith, p.1))
one_flag true false a b s t h k e = let p = one_below 2 1 0 a b s t h k e in absurd (omega (arith, p.1))
one_flag true true a b s t h k e = ((one_below 2 1 1 a b s t h k e).0, refl)

-- the number that encodes a deletion proof
abbrev pub deletion_code : Deletion → ℕ
deletion_code Redundant = 0
deletion_code Simplified = 1
deletion_code Satisfied = 2

deletion_below : (d : Deletion) (t : List ℕ) → SpellsDeletion d t → SpellsNumberBelow 3 (deletion_code d) t
deletion_below Redundant t h = h
deletion_below Simplified t h = h
deletion_below Satisfied t h = h

abbrev deletion_at : ℕ → Deletion
deletion_at zero = Redundant
deletion_at (suc zero) = Simplified
deletion_at (suc (suc n)) = Satisfied

deletion_is : (d : Deletion) → deletion_at (deletion_code d) ≡ d
deletion_is Redundant = refl
deletion_is Simplified = refl
deletion_is Satisfied = refl

pub one_deletion : IsUniquelyDecodable SpellsDeletion
one_deletion x y a b s t h k e = let p = one_below 3 (deletion_code x) (deletion_code y) a b s t (deletion_below x a h) (deletion_below y b k) e in (p.0, sym (deletion_is x) ∙ ap deletion_at p.1 ∙ deletion_is y)

-- FORMATS HAVE TEXTS
pub some_list : {A : Type 0} (F : Format A) → HasText (ListOf (SpellsNumberBelow (2 ^ 64)) F)
some_list F = ([], 0 ∷ [], (0 ∷ [], [], ((omega arith, refl), omega arith), refl, refl))

pub some_optional : HasText SpellsOptionalVariable
some_optional = (None, 0 ∷ [], ((omega arith, refl), omega arith))

pub some_flag : HasText SpellsFlag
some_flag = (false, 0 ∷ [], ((omega arith, refl), omega arith))

pub some_deletion : HasText SpellsDeletion
some_deletion = (Redundant, 0 ∷ [], ((omega arith, refl), omega arith))

pub some_both : {A B : Type 0} (F : Format A) (G : Format B) → HasText F → HasText G → HasText (Both F G)
some_both F G t u = ((t.0, u.0), t.1 ++ u.1, (t.1, u.1, t.2, u.2, refl))

pub some_unit : HasText (Both SpellsLiteral SpellsHash)
some_unit = some_both SpellsLiteral SpellsHash (some_below (2 * var_limit) (omega arith)) (some_below (2 ^ 64) (omega arith))

pub some_lists : HasText (Both SpellsLiterals SpellsHashes)
some_lists = some_both SpellsLiterals SpellsHashes (some_list SpellsLiteral) (some_list SpellsHash)

-- OPTIONAL VARIABLES, FLAGS AND DELETION PROOFS
abbrev optional_at : ℕ → Option ℕ
optional_at zero = None
optional_at (suc n) = Some n

optional_to : (n : ℕ) (t : List ℕ) → SpellsNumberBelow (var_limit + 1) n t → SpellsOptionalVariable (optional_at n) t
optional_to zero t h = h
optional_to (suc n) t h = let e : suc n ≡ n + 1 = omega arith in subst (λ (k : ℕ). SpellsNumberBelow (var_limit + 1) k t) e h

optional_back : (o : Option ℕ) (t : List ℕ) → SpellsOptionalVariable o t → (n : ℕ) × SpellsNumberBelow (var_limit + 1) n t
optional_back None t h = (0, h)
optional_back (Some v) t h = (v + 1, h)

pub optional_fails : (e : StepError) (old new : Source) → ReadsValue (SpellsNumberBelow (var_limit + 1)) (Err e) old new → ReadsValue SpellsOptionalVariable (Err e) old new
optional_fails e old new h = reads_as (SpellsNumberBelow (var_limit + 1)) SpellsOptionalVariable optional_at optional_to optional_back (Err e) old new h

pub optional_none : (n : ℕ) (old new : Source) → n ≡ 0 → ReadsValue (SpellsNumberBelow (var_limit + 1)) (Ok n) old new → ReadsValue SpellsOptionalVariable (Ok None) old new
optional_none n old new e h = (h.0, h.1, subst (λ (k : ℕ). SpellsNumberBelow (var_limit + 1) k h.0) e h.2)

pub optional_some : (n v : ℕ) (old new : Source) → n ≡ v + 1 → ReadsValue (SpellsNumberBelow (var_limit + 1)) (Ok n) old new → ReadsValue SpellsOptionalVariable (Ok (Some v)) old new
optional_some n v old new e h = (h.0, h.1, subst (λ (k : ℕ). SpellsNumberBelow (var_limit + 1) k h.0) e h.2)

abbrev flag_at : ℕ → Bool
flag_at zero = false
flag_at (suc n) = true

flag_to : (n : ℕ) (t : List ℕ) → SpellsNumberBelow 2 n t → SpellsFlag (flag_at n) t
flag_to zero t h = h
flag_to (suc n) t h = let e : suc n ≡ 1 = omega (arith, h.1) in subst (λ (k : ℕ). SpellsNumberBelow 2 k t) e h

flag_back : (f : Bool) (t : List ℕ) → SpellsFlag f t → (n : ℕ) × SpellsNumberBelow 2 n t
flag_back false t h = (0, h)
flag_back true t h = (1, h)

pub flag_fails : (e : StepError) (old new : Source) → ReadsValue (SpellsNumberBelow 2) (Err e) old new → ReadsValue SpellsFlag (Err e) old new
flag_fails e old new h = reads_as (SpellsNumberBelow 2) SpellsFlag flag_at flag_to flag_back (Err e) old new h

pub flag_false : (n : ℕ) (old new : Source) → n ≡ 0 → ReadsValue (SpellsNumberBelow 2) (Ok n) old new → ReadsValue SpellsFlag (Ok false) old new
flag_false n old new e h = (h.0, h.1, subst (λ (k : ℕ). SpellsNumberBelow 2 k h.0) e h.2)

pub flag_true : (n : ℕ) (old new : Source) → (n ≡ 0 → ⊥) → ReadsValue (SpellsNumberBelow 2) (Ok n) old new → ReadsValue SpellsFlag (Ok true) old new
flag_true n old new e h = let d : n ≡ 1 = omega (arith, h.2.1) in (h.0, h.1, subst (λ (k : ℕ). SpellsNumberBelow 2 k h.0) d h.2)

deletion_to : (n : ℕ) (t : List ℕ) → SpellsNumberBelow 3 n t → SpellsDeletion (deletion_at n) t
deletion_to zero t h = h
deletion_to (suc zero) t h = h
deletion_to (suc (suc n)) t h = let e : suc (suc n) ≡ 2 = omega (arith, h.1) in subst (λ (k : ℕ). SpellsNumberBelow 3 k t) e h

deletion_back : (d : Deletion) (t : List ℕ) → SpellsDeletion d t → (n : ℕ) × SpellsNumberBelow 3 n t
deletion_back d t h = (deletion_code d, deletion_below d t h)

pub deletion_fails : (e : StepError) (old new : Source) → ReadsValue (SpellsNumberBelow 3) (Err e) old new → ReadsValue SpellsDeletion (Err e) old new
deletion_fails e old new h = reads_as (SpellsNumberBelow 3) SpellsDeletion deletion_at deletion_to deletion_back (Err e) old new h

pub deletion_redundant : (n : ℕ) (old new : Source) → n ≡ 0 → ReadsValue (SpellsNumberBelow 3) (Ok n) old new → ReadsValue SpellsDeletion (Ok Redundant) old new
deletion_redundant n old new e h = (h.0, h.1, subst (λ (k : ℕ). SpellsNumberBelow 3 k h.0) e h.2)

pub deletion_simplified : (n : ℕ) (old new : Source) → n ≡ 1 → ReadsValue (SpellsNumberBelow 3) (Ok n) old new → ReadsValue SpellsDeletion (Ok Simplified) old new
deletion_simplified n old new e h = (h.0, h.1, subst (λ (k : ℕ). SpellsNumberBelow 3 k h.0) e h.2)

pub deletion_satisfied : (n : ℕ) (old new : Source) → (n ≡ 0 → ⊥) → (n ≡ 1 → ⊥) → ReadsValue (SpellsNumberBelow 3) (Ok n) old new → ReadsValue SpellsDeletion (Ok Satisfied) old new
deletion_satisfied n old new d e h = let f : n ≡ 2 = omega (arith, h.2.1) in (h.0, h.1, subst (λ (k : ℕ). SpellsNumberBelow 3 k h.0) f h.2)

-- THE TAG AND THE FIELDS
spelled : (tag : ℕ) (step : Step) (b : List ℕ) → SpellsFieldsOfTag tag step b → SpellsStep step (tag ∷ b)
spelled tag step b h = (b, ap (λ (n : ℕ). n ∷ b) (sym h.0), h.1)

following : (tag : ℕ) (step : Step) (b : List ℕ) → SpellsStep step (tag ∷ b) → SpellsFieldsOfTag tag step b
following tag step b h = let e : tag ≡ tag_of step = let d = h.1 in cc in let f : h.0 ≡ b = let d = h.1 in cc in (sym e, subst (SpellsFields step) f h.2)

pub answers_after : (tag : ℕ) (old mid new : Source) (r : Result Step StepError) → ConsumesBytes old mid (tag ∷ []) → ReadsValue (SpellsFieldsOfTag tag) r mid new → AnswersStepRead r old new
answers_after tag old mid new (Ok step) p r = (tag ∷ r.0, passes_more old mid new (tag ∷ []) r.0 p r.1, spelled tag step r.0 r.2)
answers_after tag old mid new (Err errors.Cut) p r = (tag, r.0, (passes_more old mid new (tag ∷ []) r.0 p r.1.0, r.1.1), (r.2.0, r.2.1, r.2.2, spelled tag r.2.0 (r.0 ++ r.2.1 ∷ r.2.2) r.2.3))
answers_after tag old mid new (Err errors.BadByte) p r = (tag ∷ r.0, r.1, passes_more old mid new (tag ∷ []) (r.0 ++ r.1 ∷ []) p r.2, (r.3.0, r.3.1, r.3.2, spelled tag r.3.0 (r.0 ++ r.3.1 ∷ r.3.2) r.3.3), λ o. r.4 (o.0, o.1, following tag o.0 ((r.0 ++ r.1 ∷ []) ++ o.1) o.2))
answers_after tag old mid new (Err errors.Read) p r = (tag ∷ r.0, faults_later old mid new (tag ∷ []) r.0 p r.1, (r.2.0, r.2.1, r.2.2, spelled tag r.2.0 (r.0 ++ r.2.1 ∷ r.2.2) r.2.3))
answers_after tag old mid new (Err errors.OutOfMemory) p r = (tag, r.0, (passes_more old mid new (tag ∷ []) r.0 p r.1.0, r.1.1), (r.2.0, r.2.1, r.2.2, spelled tag r.2.0 (r.0 ++ r.2.1 ∷ r.2.2) r.2.3))
answers_after tag old mid new (Err errors.Ends) p r = absurd r
answers_after tag old mid new (Err errors.HasFailed) p r = absurd r

-- the byte that was consumed
pub some_byte : (byte : ℕ) (o : Option ℕ) (old new : Source) → o ≡ Some byte → ConsumesNextByte (Ok o) old new → ConsumesBytes old new (byte ∷ [])
some_byte byte o old new e h = subst (λ (z : Option ℕ). ConsumesNextByte (Ok z) old new) e h

-- an unknown tag
known : (step : Step) → is_tag (tag_of step) ≡ true
known (SolverVarName v u) = refl
known step = refl

no_step : (step : Step) (tag : ℕ) (b : List ℕ) → is_tag tag ≡ false → SpellsFieldsOfTag tag step b → ⊥
no_step step tag b n h = let e : is_tag tag ≡ true = ap is_tag (sym h.0) ∙ known step in cc

pub unknown_tag : (tag : ℕ) (old new : Source) → is_tag tag ≡ false → ConsumesBytes old new (tag ∷ []) → AnswersStepRead (Err errors.BadByte) old new
unknown_tag tag old new n p = ([], tag, p, (End, 13, [], ([], refl, refl)), λ o. no_step o.0 tag o.1 n (following tag o.0 o.1 o.2))

-- no step's text is a prefix of another's, and every text has one step
one_variables : IsUniquelyDecodable (Both SpellsVariable SpellsOptionalVariable)
one_variables = one_both SpellsVariable SpellsOptionalVariable (one_below var_limit) one_optional

one_lists : IsUniquelyDecodable (Both SpellsLiterals SpellsHashes)
one_lists = one_both SpellsLiterals SpellsHashes one_literals one_hashes

end_one : (x y : Step) (a b : List ℕ) → SpellsFieldsOfTag 13 x a → SpellsFieldsOfTag 13 y b → (a ≡ b) × (x ≡ y)
end_one End End a b h k = (h.1 ∙ sym k.1, refl)
end_one End _ a b h k = absurd (omega (arith, k.0))
end_one _ y a b h k = absurd (omega (arith, h.0))

after_one : (step : Step) → IsUniquelyDecodable (SpellsFieldsOfTag (tag_of step))
after_one (SolverVarName v u) = form_one 1 (Both SpellsVariable SpellsOptionalVariable) (λ x. SolverVarName x.0 x.1) solver_form one_variables
after_one (UserVarName v u) = form_one 2 (Both SpellsVariable SpellsOptionalVariable) (λ x. UserVarName x.0 x.1) user_form one_variables
after_one (DeleteVar v) = form_one 3 SpellsVariable DeleteVar variable_form (one_below var_limit)
after_one (ChangeSamplingMode v f) = form_one 4 (Both SpellsVariable SpellsFlag) (λ x. ChangeSamplingMode x.0 x.1) mode_form (one_both SpellsVariable SpellsFlag (one_below var_limit) one_flag)
after_one (AddClause c) = form_one 5 SpellsLiterals AddClause clause_form one_literals
after_one (AtClause f c hs) = form_one 6 (Both SpellsFlag (Both SpellsLiterals SpellsHashes)) (λ x. AtClause x.0 x.1.0 x.1.1) at_form (one_both SpellsFlag (Both SpellsLiterals SpellsHashes) one_flag one_lists)
after_one (UnitClauses us) = form_one 7 SpellsHashedLiterals UnitClauses units_form one_units
after_one (DeleteClause c d) = form_one 8 (Both SpellsLiterals SpellsDeletion) (λ x. DeleteClause x.0 x.1) deletion_form (one_both SpellsLiterals SpellsDeletion one_literals one_deletion)
after_one (ChangeHashBits n) = form_one 9 SpellsWidth ChangeHashBits width_form (one_below 65)
after_one (Model c) = form_one 10 SpellsLiterals Model model_form one_literals
after_one (Assumptions c) = form_one 11 SpellsLiterals Assumptions assumptions_form one_literals
after_one (FailedAssumptions c hs) = form_one 12 (Both SpellsLiterals SpellsHashes) (λ x. FailedAssumptions x.0 x.1) failed_form one_lists
after_one End = λ x y a b s t h k e. end_one x y a b h k

fields_one : (x y : Step) (a b s t : List ℕ) → tag_of x ≡ tag_of y → SpellsFields x a → SpellsFields y b → a ++ s ≡ b ++ t → (a ≡ b) × (x ≡ y)
fields_one x y a b s t g h k e = after_one x x y a b s t (refl, h) (sym g, k) e

pub one_step : IsUniquelyDecodable SpellsStep
one_step x y a b s t h k e =
    let f : tag_of x ∷ (h.0 ++ s) ≡ tag_of y ∷ (k.0 ++ t) = ap (λ (z : List ℕ). z ++ s) (sym h.1) ∙ e ∙ ap (λ (z : List ℕ). z ++ t) k.1 in
    let g : tag_of x ≡ tag_of y = cc in
    let p = fields_one x y h.0 k.0 s t g h.2 k.2 (let q : h.0 ++ s ≡ k.0 ++ t = cc in q) in
    (h.1 ∙ ap (λ (z : List ℕ). tag_of x ∷ z) p.0 ∙ ap (λ (n : ℕ). n ∷ k.0) g ∙ sym k.1, p.1)

-- a text spells at most one list of steps
pub one_reading : (xs ys : List Step) (text : List ℕ) → SpellsSteps xs text → SpellsSteps ys text → xs ≡ ys
one_reading [] [] text h k = refl
one_reading [] (y ∷ ys) text h k = let e : [] ≡ tag_of y ∷ (k.2.0 ++ k.1) = sym h ∙ k.4 ∙ ap (λ (z : List ℕ). z ++ k.1) k.2.1 in cc
one_reading (x ∷ xs) [] text h k = let e : [] ≡ tag_of x ∷ (h.2.0 ++ h.1) = sym k ∙ h.4 ∙ ap (λ (z : List ℕ). z ++ h.1) h.2.1 in cc
one_reading (x ∷ xs) (y ∷ ys) text h k =
    let u : h.0 ++ h.1 ≡ k.0 ++ k.1 = sym h.4 ∙ k.4 in
    let p = one_step x y h.0 k.0 h.1 k.1 h.2 k.2 u in
    let v : h.1 ≡ k.1 = cancel h.0 h.1 k.1 (u ∙ ap (λ (z : List ℕ). z ++ k.1) (sym p.0)) in
    let q = one_reading xs ys h.1 h.3 (subst (SpellsSteps ys) (sym v) k.3) in
    ap (λ (z : Step). z ∷ xs) p.1 ∙ ap (λ (z : List Step). y ∷ z) q

-- an error before the first byte
pub answers_at_once : (e : StepError) (old new : Source) → ConsumesNextByte (Err e) old new → AnswersStepRead (Err e) old new
answers_at_once errors.Read old new f = ([], f, (End, 13, [], ([], refl, refl)))
answers_at_once e old new f = absurd f
