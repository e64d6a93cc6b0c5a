-- A step read through an input that lends its reader and the bytes read ahead.
use Rattle.std.proofs.Common.{◌≡◌, ℕ, List, [], ◌∷◌, Result, Ok, Err, refl, sym, subst, ◌∙◌}
use Rattle.sat_base.specs.declared.device.ahead.Ahead.{Ahead}
use Rattle.sat_base.specs.declared.device.input.Input.{Input}
use Rattle.sat_base.specs.declared.steps.error.StepError.{StepError}
use Rattle.sat_base.specs.declared.steps.error.StepError.TheVariants as errors
use Rattle.sat_base.specs.device.Device.{Reader}
use Rattle.sat_base.specs.device.Reading.{Source, ConsumesWithReads, ConsumesAndFails, IsFullyConsumed, AnswersStepRead, source, source_of, with_borrows}
use Rattle.sat_base.specs.steps.Steps.{Step}

same_names : (r : Result Step StepError) (s t : Source) → AnswersStepRead r s t → t.names ≡ s.names
same_names (Ok step) s t h = h.1.names
same_names (Err errors.Ends) s t h = h.0.names
same_names (Err errors.Cut) s t h = h.2.0.names
same_names (Err errors.BadByte) s t h = h.2.names
same_names (Err errors.Read) s t h = h.1.names
same_names (Err errors.OutOfMemory) s t h = h.2.0.names
same_names (Err errors.HasFailed) s t h = absurd h

passes_named : {n : ℕ} (ns : List ℕ) (s t : Source) (text : List ℕ) → ConsumesWithReads n s t text → ConsumesWithReads n (with_borrows ns s) (with_borrows ns t) text
passes_named ns s t text p = record { fresh = p.fresh; gave = p.gave; flows = p.flows; bytes = p.bytes; failures = p.failures; calls = p.calls; room = p.room; few = p.few; loans = p.loans; names = refl; going = p.going }

faults_named : (ns : List ℕ) (s t : Source) (text : List ℕ) → ConsumesAndFails s t text → ConsumesAndFails (with_borrows ns s) (with_borrows ns t) text
faults_named ns s t text f = record { fresh = f.fresh; gave = f.gave; flows = f.flows; none = f.none; bytes = f.bytes; cause = f.cause; calls = f.calls; room = f.room; few = f.few; loans = f.loans; names = refl }

taken_named : (ns : List ℕ) (t : Source) → IsFullyConsumed t → IsFullyConsumed (with_borrows ns t)
taken_named ns t a = record { read = a.read; ended = a.ended; waiting = a.waiting; over = a.over }

answers_named : (ns : List ℕ) (r : Result Step StepError) (s t : Source) → AnswersStepRead r s t → AnswersStepRead r (with_borrows ns s) (with_borrows ns t)
answers_named ns (Ok step) s t h = (h.0, passes_named ns s t h.0 h.1, h.2)
answers_named ns (Err errors.Ends) s t h = (passes_named ns s t [] h.0, taken_named ns t h.1)
answers_named ns (Err errors.Cut) s t h = (h.0, h.1, (passes_named ns s t (h.0 ∷ h.1) h.2.0, taken_named ns t h.2.1), h.3)
answers_named ns (Err errors.BadByte) s t h = (h.0, h.1, passes_named ns s t _ h.2, h.3, h.4)
answers_named ns (Err errors.Read) s t h = (h.0, faults_named ns s t h.0 h.1, h.2)
answers_named ns (Err errors.OutOfMemory) s t h = (h.0, h.1, (passes_named ns s t (h.0 ∷ h.1) h.2.0, h.2.1), h.3)
answers_named ns (Err errors.HasFailed) s t h = absurd h

name_first : (a b c d : ℕ) → ◌≡◌ {A = List ℕ} (a ∷ b ∷ []) (c ∷ d ∷ []) → c ≡ a
name_first a b c d e = cc

name_second : (a b c d : ℕ) → ◌≡◌ {A = List ℕ} (a ∷ b ∷ []) (c ∷ d ∷ []) → d ≡ b
name_second a b c d e = cc

-- the result of a read through the loans, stated for the reader and the buffered bytes themselves
pub lent_answers : {R : Type 0} (seen : R → Reader) (r s : R) (a b : Ahead) (first last : Input R) (r_name a_name : ℕ) (answer : Result Step StepError)
    → first.reader.ghost_name ≡ r_name → first.ahead.ghost_name ≡ a_name → first.reader.now ≡ r → first.ahead.now ≡ a
    → (r_name ≡ last.reader.ghost_name → s ≡ last.reader.now) → (a_name ≡ last.ahead.ghost_name → b ≡ last.ahead.now)
    → AnswersStepRead answer (source_of seen first) (source_of seen last) → AnswersStepRead answer (source seen r a) (source seen s b)
lent_answers {R} seen r s a b first last r_name a_name answer e f g h back_r back_a w =
    let names = same_names answer (source_of seen first) (source_of seen last) w in
    let sr : s ≡ last.reader.now = back_r (sym e ∙ name_first last.reader.ghost_name last.ahead.ghost_name first.reader.ghost_name first.ahead.ghost_name names) in
    let sa : b ≡ last.ahead.now = back_a (sym f ∙ name_second last.reader.ghost_name last.ahead.ghost_name first.reader.ghost_name first.ahead.ghost_name names) in
    let bare : AnswersStepRead answer (source seen first.reader.now first.ahead.now) (source seen last.reader.now last.ahead.now) = answers_named [] answer (source_of seen first) (source_of seen last) w in
    subst (λ (x : R). AnswersStepRead answer (source seen x a) (source seen s b)) g
    (subst (λ (x : Ahead). AnswersStepRead answer (source seen first.reader.now x) (source seen s b)) h
    (subst (λ (x : R). AnswersStepRead answer (source seen first.reader.now first.ahead.now) (source seen x b)) (sym sr)
    (subst (λ (x : Ahead). AnswersStepRead answer (source seen first.reader.now first.ahead.now) (source seen last.reader.now x)) (sym sa) bare)))
