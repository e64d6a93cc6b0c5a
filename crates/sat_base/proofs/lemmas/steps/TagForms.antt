-- The fields after every tag. A new tag needs its `.._back` and `.._form`, and a line in `after_one`
-- and in `known` of `StepReads`.
use Rattle.std.proofs.Common.{◌≡◌, ℕ, Bool, Option, List, [], Result, Ok, Err, refl, sym, ap, ◌∙◌, arith}
use Rattle.sat_base.specs.declared.steps.error.StepError.{StepError}
use Rattle.sat_base.specs.steps.Formats.{Format, Both, IsUniquelyDecodable}
use Rattle.sat_base.specs.steps.Steps.{Deletion, Step, SolverVarName, UserVarName, DeleteVar, ChangeSamplingMode, AddClause, AtClause, UnitClauses, DeleteClause, ChangeHashBits, Model, Assumptions, FailedAssumptions, End}
use Rattle.sat_base.specs.steps.StepText.{SpellsVariable, SpellsOptionalVariable, SpellsFlag, SpellsWidth, SpellsDeletion, SpellsLiterals, SpellsHashes, SpellsHashedLiterals}
use Rattle.sat_base.specs.device.Reading.{Source, ReadsValue, SpellsFieldsOfTag, map_result}
use Rattle.sat_base.proofs.lemmas.device.ReadLemmas.{passes_none}
use Rattle.sat_base.proofs.lemmas.steps.FormatReads.{reads_as, stops_at}

-- `TagForm tag H f` holds if the fields after a tag have the texts of format H, whose values `f` maps to steps.
pub record TagForm {A : Type 0} (tag : ℕ) (H : Format A) (f : A → Step) : Type 0 where
  pub to : (x : A) (t : List ℕ) → H x t → SpellsFieldsOfTag tag (f x) t
  pub back : (s : Step) (t : List ℕ) → SpellsFieldsOfTag tag s t → (x : A) × H x t × (f x ≡ s)

-- reading the value after a tag reads the fields of its step
pub form_read : {A : Type 0} (tag : ℕ) (H : Format A) (f : A → Step) → TagForm tag H f → (r : Result A StepError) (old new : Source) → ReadsValue H r old new → ReadsValue (SpellsFieldsOfTag tag) (map_result f r) old new
form_read tag H f k r old new h = reads_as H (SpellsFieldsOfTag tag) f k.to (λ s t b. let p = k.back s t b in (p.0, p.1)) r old new h

pub form_one : {A : Type 0} (tag : ℕ) (H : Format A) (f : A → Step) → TagForm tag H f → IsUniquelyDecodable H → IsUniquelyDecodable (SpellsFieldsOfTag tag)
form_one tag H f k one x y a b s t h i e =
    let p = k.back x a h in
    let q = k.back y b i in
    let r = one p.0 q.0 a b s t p.1 q.1 e in
    (r.0, sym p.2 ∙ ap f r.1 ∙ q.2)

-- an error in the fields after a tag that was compared with `t`
pub stops_following : {A X : Type 0} (t tag : ℕ) (H : Format A) (f : A → Step) → TagForm t H f → (g : X → Step) (r : Result X StepError) (d e : StepError) (old new : Source) → r ≡ Err d → d ≡ e → tag ≡ t → ReadsValue H (Err e) old new → ReadsValue (SpellsFieldsOfTag tag) (map_result g r) old new
stops_following t tag H f k g r d e old new p q i h = stops_at SpellsFieldsOfTag t tag g r d e old new p q i (form_read t H f k (Err e) old new h)

solver_back : (s : Step) (t : List ℕ) → SpellsFieldsOfTag 1 s t → (x : ℕ × Option ℕ) × Both SpellsVariable SpellsOptionalVariable x t × (SolverVarName x.0 x.1 ≡ s)
solver_back (SolverVarName v u) t h = ((v, u), h.1, refl)
solver_back _ t h = absurd (omega (arith, h.0))

pub solver_form : TagForm 1 (Both SpellsVariable SpellsOptionalVariable) (λ x. SolverVarName x.0 x.1)
solver_form = record { to = λ x t h. (refl, h); back = solver_back }

user_back : (s : Step) (t : List ℕ) → SpellsFieldsOfTag 2 s t → (x : ℕ × Option ℕ) × Both SpellsVariable SpellsOptionalVariable x t × (UserVarName x.0 x.1 ≡ s)
user_back (UserVarName v u) t h = ((v, u), h.1, refl)
user_back _ t h = absurd (omega (arith, h.0))

pub user_form : TagForm 2 (Both SpellsVariable SpellsOptionalVariable) (λ x. UserVarName x.0 x.1)
user_form = record { to = λ x t h. (refl, h); back = user_back }

variable_back : (s : Step) (t : List ℕ) → SpellsFieldsOfTag 3 s t → (x : ℕ) × SpellsVariable x t × (DeleteVar x ≡ s)
variable_back (DeleteVar v) t h = (v, h.1, refl)
variable_back _ t h = absurd (omega (arith, h.0))

pub variable_form : TagForm 3 SpellsVariable DeleteVar
variable_form = record { to = λ x t h. (refl, h); back = variable_back }

mode_back : (s : Step) (t : List ℕ) → SpellsFieldsOfTag 4 s t → (x : ℕ × Bool) × Both SpellsVariable SpellsFlag x t × (ChangeSamplingMode x.0 x.1 ≡ s)
mode_back (ChangeSamplingMode v f) t h = ((v, f), h.1, refl)
mode_back _ t h = absurd (omega (arith, h.0))

pub mode_form : TagForm 4 (Both SpellsVariable SpellsFlag) (λ x. ChangeSamplingMode x.0 x.1)
mode_form = record { to = λ x t h. (refl, h); back = mode_back }

clause_back : (s : Step) (t : List ℕ) → SpellsFieldsOfTag 5 s t → (x : List ℕ) × SpellsLiterals x t × (AddClause x ≡ s)
clause_back (AddClause c) t h = (c, h.1, refl)
clause_back _ t h = absurd (omega (arith, h.0))

pub clause_form : TagForm 5 SpellsLiterals AddClause
clause_form = record { to = λ x t h. (refl, h); back = clause_back }

at_back : (s : Step) (t : List ℕ) → SpellsFieldsOfTag 6 s t → (x : Bool × (List ℕ × List ℕ)) × Both SpellsFlag (Both SpellsLiterals SpellsHashes) x t × (AtClause x.0 x.1.0 x.1.1 ≡ s)
at_back (AtClause f c hs) t h = ((f, (c, hs)), h.1, refl)
at_back _ t h = absurd (omega (arith, h.0))

pub at_form : TagForm 6 (Both SpellsFlag (Both SpellsLiterals SpellsHashes)) (λ x. AtClause x.0 x.1.0 x.1.1)
at_form = record { to = λ x t h. (refl, h); back = at_back }

units_back : (s : Step) (t : List ℕ) → SpellsFieldsOfTag 7 s t → (x : List (ℕ × ℕ)) × SpellsHashedLiterals x t × (UnitClauses x ≡ s)
units_back (UnitClauses us) t h = (us, h.1, refl)
units_back _ t h = absurd (omega (arith, h.0))

pub units_form : TagForm 7 SpellsHashedLiterals UnitClauses
units_form = record { to = λ x t h. (refl, h); back = units_back }

deletion_back : (s : Step) (t : List ℕ) → SpellsFieldsOfTag 8 s t → (x : List ℕ × Deletion) × Both SpellsLiterals SpellsDeletion x t × (DeleteClause x.0 x.1 ≡ s)
deletion_back (DeleteClause c d) t h = ((c, d), h.1, refl)
deletion_back _ t h = absurd (omega (arith, h.0))

pub deletion_form : TagForm 8 (Both SpellsLiterals SpellsDeletion) (λ x. DeleteClause x.0 x.1)
deletion_form = record { to = λ x t h. (refl, h); back = deletion_back }

width_back : (s : Step) (t : List ℕ) → SpellsFieldsOfTag 9 s t → (x : ℕ) × SpellsWidth x t × (ChangeHashBits x ≡ s)
width_back (ChangeHashBits n) t h = (n, h.1, refl)
width_back _ t h = absurd (omega (arith, h.0))

pub width_form : TagForm 9 SpellsWidth ChangeHashBits
width_form = record { to = λ x t h. (refl, h); back = width_back }

model_back : (s : Step) (t : List ℕ) → SpellsFieldsOfTag 10 s t → (x : List ℕ) × SpellsLiterals x t × (Model x ≡ s)
model_back (Model c) t h = (c, h.1, refl)
model_back _ t h = absurd (omega (arith, h.0))

pub model_form : TagForm 10 SpellsLiterals Model
model_form = record { to = λ x t h. (refl, h); back = model_back }

assumptions_back : (s : Step) (t : List ℕ) → SpellsFieldsOfTag 11 s t → (x : List ℕ) × SpellsLiterals x t × (Assumptions x ≡ s)
assumptions_back (Assumptions c) t h = (c, h.1, refl)
assumptions_back _ t h = absurd (omega (arith, h.0))

pub assumptions_form : TagForm 11 SpellsLiterals Assumptions
assumptions_form = record { to = λ x t h. (refl, h); back = assumptions_back }

failed_back : (s : Step) (t : List ℕ) → SpellsFieldsOfTag 12 s t → (x : List ℕ × List ℕ) × Both SpellsLiterals SpellsHashes x t × (FailedAssumptions x.0 x.1 ≡ s)
failed_back (FailedAssumptions c hs) t h = ((c, hs), h.1, refl)
failed_back _ t h = absurd (omega (arith, h.0))

pub failed_form : TagForm 12 (Both SpellsLiterals SpellsHashes) (λ x. FailedAssumptions x.0 x.1)
failed_form = record { to = λ x t h. (refl, h); back = failed_back }

pub end_read : (tag : ℕ) (s : Source) → 13 ≡ tag → ReadsValue (SpellsFieldsOfTag tag) (Ok End) s s
end_read tag s e = ([], passes_none s, (e, refl))
