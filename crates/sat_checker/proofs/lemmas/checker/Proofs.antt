-- The result of reading and checking a proof, step by step.
use Rattle.std.proofs.Common.{ℕ, ◌+◌, ◌-◌, ◌*◌, ◌<◌, ◌≤◌, ◌≡◌, Bool, true, false, List, [], ◌∷◌, ◌++◌, length, length-append, append_assoc, Option, Some, None, Result, Ok, Err, inl, inr, refl, sym, ap, subst, ◌∙◌, arith}
use Rattle.std.specs.Prelude.{◌≢◌}
use Rattle.std.proofs.lemmas.Bool.{true≢false}
use Rattle.std.proofs.lemmas.List.{append-nil}
use Rattle.std.specs.Bool.{MatchBool}
use Rattle.std.specs.List.{AllByRecursion}
use Rattle.std.specs.Io.KnownBytes.{Consumes, IsAtEnd, prepend_known}
use Rattle.sat_base.specs.declared.steps.error.StepError.{StepError}
use Rattle.sat_base.specs.declared.steps.error.StepError.TheVariants as unread_by
use Rattle.sat_base.specs.declared.steps.reader.StepReader.{StepReader}
use Rattle.sat_base.specs.declared.steps.reader.Buffers.{Buffers}
use Rattle.sat_base.specs.device.Device.{Reader, HasFoundEnd, ReadFails, max_reads, max_read_size}
use Rattle.sat_base.specs.device.Reading.{Source, ConsumesWithReads, ConsumesBytes, ConsumesAndFails, IsFullyConsumed, AtEnd, with_result_value, new_source}
use Rattle.sat_base.specs.steps.Formats.{Format, Items, IsProperPrefix}
use Rattle.sat_base.specs.steps.StepReading.{reader_source, AnswersUnlessFailed, AdvanceEffect}
use Rattle.sat_base.specs.steps.StepReading as reading
use Rattle.sat_base.specs.steps.Steps.{Step, End}
use Rattle.sat_base.specs.steps.StepText.{tag_of, SpellsStep, SpellsSteps}
use Rattle.sat_base.proofs.lemmas.device.ReadLemmas.{passes_none, passes_more, faults_later}
use Rattle.sat_checker.specs.Accepts.{ready_after}
use Rattle.sat_checker.specs.Looks.{most_looks}
use Rattle.sat_checker.specs.CheckerView.{CheckerView, checker_has_failed, looks_of, HasNoPendingConflict, HasAccepted, FailsBeforeStep, StepResultAfter}
use Rattle.sat_checker.specs.inner.DimacsPieces.{with_failed_flag}
use Rattle.sat_checker.specs.ProofView.{steps_after, most_bytes, most_looks_after, GaveSteps, StopsWithinStep, ReadsProofPart, HasAcceptedUnfailed, FoundNoEnd, ProofResultAfter}
use Rattle.sat_checker.specs.inner.ProofSteps.{CountsReads, CheckerAtSource, at_source, ConsumesStep, NextStepResultAfter, AcceptsStepsBeforeEnd, read_error, is_step_out_of_memory, bytes_left}
use Rattle.sat_checker.specs.announcements.Announcements.{Notice}
use Rattle.sat_checker.specs.declared.processing.ProcessingError.{ProcessingError}
use Rattle.sat_checker.proofs.lemmas.listeners.Heard.{heard_some}
use Rattle.sat_checker.proofs.lemmas.listeners.Settling.{none_pending, end_settled}
use Rattle.sat_checker.specs.declared.error.CheckerError.{CheckerError}
use Rattle.sat_checker.specs.declared.error.CheckerError.TheVariants as errors

-- NO STEP READ YET

live_none : IsProperPrefix SpellsStep []
live_none = (End, 13, [], ([], refl, refl))

-- STEPS READ ONE BY ONE

items_one : {A : Type 0} (F : Format A) (xs : List A) (x : A) (a b : List ℕ) → Items F xs a → F x b → Items F (xs ++ x ∷ []) (a ++ b)
items_one F [] x a b h k = (b, [], k, refl, ap (λ (z : List ℕ). z ++ b) h ∙ sym (append-nil b))
items_one F (y ∷ ys) x a b h k = (h.0, h.1 ++ b, h.2, items_one F ys x h.1 b h.3 k, ap (λ (z : List ℕ). z ++ b) h.4 ∙ append_assoc h.0 h.1 b)

all_one : {A : Type 0} (P : A → Type 0) (xs : List A) (x : A) → AllByRecursion P xs → P x → AllByRecursion P (xs ++ x ∷ [])
all_one P [] x h k = (k, tt)
all_one P (y ∷ ys) x h k = (h.0, all_one P ys x h.1 k)

pub taken_one : (xs : List Step) (x : Step) (earlier : List Step) → steps_after (xs ++ x ∷ []) earlier ≡ x ∷ steps_after xs earlier
taken_one [] x earlier = refl
taken_one (y ∷ ys) x earlier = taken_one ys x (y ∷ earlier)

pub looks_one : (xs : List Step) (x : Step) (earlier : List Step) → most_looks_after (xs ++ x ∷ []) earlier ≡ most_looks_after xs earlier + most_looks (ready_after (steps_after xs earlier)) x
looks_one [] x earlier = added (most_looks (ready_after earlier) x)
  where
    added : (n : ℕ) → n + 0 ≡ 0 + n
    added n = omega arith
looks_one (y ∷ ys) x earlier = apart (most_looks (ready_after earlier) y) (most_looks_after (ys ++ x ∷ []) (y ∷ earlier)) (most_looks_after ys (y ∷ earlier)) (most_looks (ready_after (steps_after ys (y ∷ earlier))) x) (looks_one ys x (y ∷ earlier))
  where
    apart : (a b c d : ℕ) → b ≡ c + d → a + b ≡ a + c + d
    apart a b c d e = omega arith

pub looks_more : (a b c m n k : ℕ) → b ≤ a + m → c ≤ b + n → k ≡ m + n → c ≤ a + k
looks_more a b c m n k h l e = omega arith

-- the loop terminates: every step consumes at least one byte
less_left : (m a b ls lt lx lf : ℕ) → lf + 4096 * a ≤ 4096 * b → ls + lf ≡ lx + lt → 0 < lx → b ≤ m → 4096 * (m - b) + lt < 4096 * (m - a) + ls
less_left m a b ls lt lx lf h e k n = omega arith

flowed : (ws fs xs vs : List ℕ) → ws ++ fs ≡ xs ++ vs → length ws + length fs ≡ length xs + length vs
flowed ws fs xs vs e = sym (length-append ws fs) ∙ ap length e ∙ length-append xs vs

some_byte : (step : Step) (text : List ℕ) → SpellsStep step text → 0 < length text
some_byte step text h = let e : length text ≡ length h.0 + 1 = ap length h.1 ∙ more (tag_of step) h.0 in omega arith
  where
    more : (b : ℕ) (bs : List ℕ) → length (b ∷ bs) ≡ length bs + 1
    more b bs = omega arith

pub step_takes : (s t : Source) (step : Step) (text : List ℕ) → ConsumesBytes s t text → SpellsStep step text → t.reads ≤ max_reads → bytes_left t < bytes_left s
step_takes s t step text p h k = less_left max_reads s.reads t.reads (length s.waiting) (length t.waiting) (length text) (length p.fresh) p.room (flowed s.waiting p.fresh text t.waiting p.flows) (some_byte step text h) k

pub none_read : (s : Source) → s ≡ new_source s.reader → s.reads ≤ max_reads
none_read s e = let z : s.reads ≡ 0 = ap (λ (t : Source). t.reads) e in small s.reads max_reads z
  where
    small : (n m : ℕ) → n ≡ 0 → n ≤ m
    small n m e = omega arith

pub ended : (b : Bool) (x : Step) → b ≡ true → MatchBool b (x ≡ End) (x ≢ End) → x ≡ End
ended true x e h = h
ended false x e h = absurd (let g : ◌≡◌ {A = Bool} true false = sym e in cc)

pub not_ended : (b : Bool) (x : Step) → b ≡ false → MatchBool b (x ≡ End) (x ≢ End) → x ≢ End
not_ended false x e h = h
not_ended true x e h = absurd (let g : ◌≡◌ {A = Bool} true false = e in cc)

-- READS OF THE SOURCE

pub calls_of : (r : Result Step StepError) (s t : Source) → AnswersUnlessFailed r s t → CountsReads s t
calls_of (Ok step) s t a = a.1.calls
calls_of (Err unread_by.Ends) s t a = a.0.calls
calls_of (Err unread_by.Cut) s t a = a.2.0.calls
calls_of (Err unread_by.BadByte) s t a = a.2.calls
calls_of (Err unread_by.Read) s t a = a.1.calls
calls_of (Err unread_by.OutOfMemory) s t a = a.2.0.calls
calls_of (Err unread_by.HasFailed) s t a = rw a (omega arith)

-- if memory runs out while a step is read, the source is at its end only if it was before
pub starved_going : (e : StepError) (s t : Source) → read_error e ≡ errors.OutOfMemory → AnswersUnlessFailed (Err e) s t → AtEnd t → AtEnd s
starved_going unread_by.OutOfMemory s t h a = a.2.0.going refl
starved_going e s t h a = let k : read_error e ≡ errors.OutOfMemory = h in absurd cc

-- a `?` returns the error of its call
pub same_error : {A B : Type 0} (r : Result A CheckerError) (y e x : CheckerError) → r ≡ Err y → y ≡ e → r ≡ Err x → ◌≡◌ {A = Result B CheckerError} (Err e) (Err x)
same_error {A} r y e x p q h =
    let g : ◌≡◌ {A = Result A CheckerError} (Err y) (Err x) = sym p ∙ h in
    let k : y ≡ x = cc in ap Err (sym q ∙ k)

pub error_of_err : {A : Type 0} {x y : CheckerError} → ◌≡◌ {A = Result A CheckerError} (Err x) (Err y) → x ≡ y
error_of_err e = cc

-- a source from which nothing was read is not at its end
pub fresh_unended : (s : Source) → s ≡ new_source s.reader → AtEnd s → ⊥
fresh_unended s e h = let z : s.reads ≡ 0 = ap (λ (t : Source). t.reads) e in let k : 0 < s.reads = h.0 in absurd (omega arith)

-- the bytes given after the steps are those of the step that was not read completely, if no others are pending
pub stops_within : (tag : ℕ) (more ws : List ℕ) → ws ≡ [] → IsProperPrefix SpellsStep (tag ∷ more) → StopsWithinStep ((tag ∷ more) ++ ws)
stops_within tag more ws e h =
    let d : tag ∷ more ≡ (tag ∷ more) ++ ws = sym (append-nil (tag ∷ more)) ∙ ap (λ (z : List ℕ). (tag ∷ more) ++ z) (sym e) in
    record { some = omega arith; front = subst (IsProperPrefix SpellsStep) d h }

pub fresh_counts : (s : Source) → CountsReads s s
fresh_counts s = refl

pub counts_more : (s t u : Source) → CountsReads s t → CountsReads t u → CountsReads s u
counts_more s t u h k = omega (arith, h, k)

pub none_found : (s t : Source) → s ≡ new_source s.reader → CountsReads s t → (AtEnd t → ⊥) → FoundNoEnd s.reader t.reader
none_found s t e c n = λ h k. n (let z : s.reads ≡ 0 = ap (λ (x : Source). x.reads) e in omega (arith, z, c, h), k)

-- THE READER'S BYTES

known_front : (a b : Option (List ℕ)) (ws text : List ℕ) → Consumes (prepend_known [] a) (prepend_known ws b) text → Consumes a b (text ++ ws)
known_front None b ws text h = tt
known_front (Some x) None ws text h = absurd h
known_front (Some x) (Some y) ws text h = h ∙ sym (append_assoc text ws y)

few_of : (n rc tc tr m : ℕ) (rg tg fresh : List ℕ) → n ≤ 1 → tc + 0 ≡ rc + tr → tr ≤ 0 + length fresh + n → tg ≡ rg ++ fresh → tc + length rg ≤ rc + length tg + 1
few_of n rc tc tr m rg tg fresh h e k g = let l : length tg ≡ length rg + length fresh = ap length g ∙ length-append rg fresh in omega arith

few_calls : (rc tc tr m : ℕ) → tc + 0 ≡ rc + tr → tr ≤ m → tc ≤ rc + m
few_calls rc tc tr m e h = omega arith

few_bytes : (r : ℕ) (fresh bytes : List ℕ) → length fresh + max_read_size * 0 ≤ max_read_size * r → r ≤ max_reads → fresh ≡ bytes → length bytes ≤ most_bytes
few_bytes r fresh bytes h k e = let l : length fresh ≡ length bytes = ap length e in omega arith

gave_steps : (n : ℕ) (r : Reader) (t : Source) (steps : List Step) (text more : List ℕ) → n ≤ 1 → t.reads ≤ max_reads → ConsumesWithReads n (new_source r) t (text ++ more) → SpellsSteps steps text → GaveSteps r t.reader steps (more ++ t.waiting)
gave_steps n r t steps text more h b p spelt =
    let fresh : p.fresh ≡ text ++ (more ++ t.waiting) = p.flows ∙ append_assoc text more t.waiting in
    record {
      text = text;
      spelt = spelt;
      front = record {
        gave = p.gave ∙ ap (λ (z : List ℕ). r.given ++ z) fresh;
        known_bytes = subst (Consumes r.to_come t.reader.to_come) (append_assoc text more t.waiting) (known_front r.to_come t.reader.to_come t.waiting (text ++ more) p.bytes);
        loans = p.loans;
      };
      few = few_of n r.calls t.reader.calls t.reads 0 r.given t.reader.given p.fresh h p.calls p.few p.gave;
      reads = few_calls r.calls t.reader.calls t.reads max_reads p.calls b;
      bytes = few_bytes t.reads p.fresh (text ++ (more ++ t.waiting)) p.room b fresh;
    }

faulted_steps : (r : Reader) (t : Source) (steps : List Step) (text more : List ℕ) → t.reads ≤ max_reads → ConsumesAndFails (new_source r) t (text ++ more) → SpellsSteps steps text → GaveSteps r t.reader steps more
faulted_steps r t steps text more b p spelt = record {
  text = text;
  spelt = spelt;
  front = record {
    gave = p.gave ∙ ap (λ (z : List ℕ). r.given ++ z) p.flows;
    known_bytes = subst (Consumes r.to_come t.reader.to_come) (append-nil (text ++ more)) (known_front r.to_come t.reader.to_come [] (text ++ more) (subst (λ (z : List ℕ). Consumes (prepend_known [] r.to_come) (prepend_known z t.reader.to_come) (text ++ more)) p.none p.bytes));
    loans = p.loans;
  };
  few = few_of 1 r.calls t.reader.calls t.reads 0 r.given t.reader.given p.fresh (omega arith) p.calls p.few p.gave;
  reads = few_calls r.calls t.reader.calls t.reads max_reads p.calls b;
  bytes = few_bytes t.reads p.fresh (text ++ more) p.room b p.flows;
}

read_out : (rc tc tr m : ℕ) → tc + 0 ≡ rc + tr → m ≤ tr → tr ≤ m → tc ≡ rc + m
read_out rc tc tr m e h k = omega arith

read_fails : (r : Reader) (t : Source) (text : List ℕ) → t.reads ≤ max_reads → ConsumesAndFails (new_source r) t text → ReadFails r t.reader
read_fails r t text b p = (
  elim p.cause [ inl h ↦ inl (h.0, h.1) | inr h ↦ inr (h.0, read_out r.calls t.reader.calls t.reads max_reads p.calls h.1 b) ],
  few_of 1 r.calls t.reader.calls t.reads 0 r.given t.reader.given p.fresh (omega arith) p.calls p.few p.gave,
)

from_start : (P : Source → Type 0) (s : Source) → s ≡ new_source s.reader → P s → P (new_source s.reader)
from_start P s e h = subst P e h

looks_still : (a b c m n : ℕ) → b ≤ a + m → c ≡ b → n ≡ m → c ≤ a + n
looks_still a b c m n h e f = omega arith

none_following : (xs earlier : List Step) → most_looks_after (xs ++ []) earlier ≡ most_looks_after xs earlier
none_following xs earlier = ap (λ (z : List Step). most_looks_after z earlier) (append-nil xs)

live_still : (more waiting : List ℕ) → waiting ≡ [] → IsProperPrefix SpellsStep more → IsProperPrefix SpellsStep (more ++ waiting)
live_still more waiting e h = subst (IsProperPrefix SpellsStep) (sym (ap (λ (z : List ℕ). more ++ z) e ∙ append-nil more)) h

none_waits : (known : Option (List ℕ)) (ws : List ℕ) → ws ≡ [] → IsAtEnd (prepend_known ws known) → IsAtEnd known
none_waits None ws e h = tt
none_waits (Some xs) ws e h = sym (ap (λ (z : List ℕ). z ++ xs) e) ∙ h

module _ {L : Type 0} (Receives : L → Notice → Result Unit ProcessingError → L → Type 0) (before : List Notice) (begun : L) where
  -- clearing the flag of a checker that has not failed changes nothing
  unfailed : (c : CheckerView L) (steps : List Step) → checker_has_failed c ≡ false → HasAccepted Receives before begun c steps → HasAcceptedUnfailed Receives before begun (with_failed_flag false c) steps
  unfailed c steps h s = (record { kernel = record { accepted = s.kernel.accepted; records = s.kernel.records; variables = s.kernel.variables; kept = λ e. s.kernel.kept h }; heard = λ e. s.heard h }, refl)

  pub failed_now : (c : CheckerView L) (steps : List Step) → checker_has_failed c ≡ false → HasAccepted Receives before begun c steps → FailsBeforeStep Receives before begun (with_failed_flag true c) steps
  failed_now c steps h s = record {
    fails = record {
      valid = record { kernel = record { accepted = s.kernel.accepted; records = s.kernel.records; variables = s.kernel.variables; kept = λ e. absurd (true≢false e) }; heard = λ e. absurd (true≢false e) };
      failed = refl;
    };
    heard = heard_some Receives c.kernel.state.formula.status.conflict steps before begun c.listeners (s.heard h);
  }

  pub unread_answer : {R : Type 0} (seen : R → Reader) (c : CheckerView L) (s t : StepReader R Buffers) (e : StepError) (step : Step) (earlier : List Step)
      → checker_has_failed c ≡ false → reading.has_reader_failed s ≡ false → AdvanceEffect seen s t (with_result_value step (Err e)) → HasAccepted Receives before begun c earlier
      → NextStepResultAfter Receives before begun (Err (read_error e)) (at_source c (reader_source seen s)) (at_source (with_failed_flag (is_step_out_of_memory e) c) (reader_source seen t)) earlier
  unread_answer seen c s t unread_by.Ends step earlier h k n valid = ([], n.answer, live_none, record { goes_on = unfailed c earlier h valid; looks = refl })
  unread_answer seen c s t unread_by.Cut step earlier h k n valid = let a = n.answer in (a.0 ∷ a.1, a.2, a.3, record { goes_on = unfailed c earlier h valid; looks = refl })
  unread_answer seen c s t unread_by.BadByte step earlier h k n valid = let a = n.answer in (a.0, a.1, a.2, a.3, a.4, record { goes_on = unfailed c earlier h valid; looks = refl })
  unread_answer seen c s t unread_by.Read step earlier h k n valid = let a = n.answer in (a.0, a.1, a.2, record { goes_on = unfailed c earlier h valid; looks = refl })
  unread_answer seen c s t unread_by.OutOfMemory step earlier h k n valid =
      let a = n.answer in inl (record { tag = a.0; more = a.1; passes = a.2.0; none = a.2.1; begins = a.3; looks = refl }, failed_now c earlier h valid)
  unread_answer seen c s t unread_by.HasFailed step earlier h k n valid = absurd (true≢false (sym n.was ∙ k))

  tried_looks : (a b c : CheckerAtSource L) (earlier xs : List Step) (x : Step) → AcceptsStepsBeforeEnd Receives before begun a b earlier xs → ConsumesStep b c (steps_after xs earlier) x → looks_of c.checker ≤ looks_of a.checker + most_looks_after (xs ++ x ∷ []) earlier
  tried_looks a b c earlier xs x p t = looks_more (looks_of a.checker) (looks_of b.checker) (looks_of c.checker) _ _ _ p.looks t.looks (looks_one xs x earlier)

  pub passed_none : (a : CheckerAtSource L) (earlier : List Step) → checker_has_failed a.checker ≡ false → HasAccepted Receives before begun a.checker earlier → AcceptsStepsBeforeEnd Receives before begun a a earlier []
  passed_none a earlier h s = record { text = []; passes = passes_none a.source; spelt = refl; unended = tt; goes_on = (s, h); looks = omega arith }

  pub passed_one : (a b c : CheckerAtSource L) (earlier xs : List Step) (x : Step) → AcceptsStepsBeforeEnd Receives before begun a b earlier xs → ConsumesStep b c (steps_after xs earlier) x → (x ≢ End) → HasAcceptedUnfailed Receives before begun c.checker (x ∷ steps_after xs earlier) → AcceptsStepsBeforeEnd Receives before begun a c earlier (xs ++ x ∷ [])
  passed_one a b c earlier xs x p t n g = record {
    text = p.text ++ t.text;
    passes = passes_more a.source b.source c.source p.text t.text p.passes t.passes;
    spelt = items_one SpellsStep xs x p.text t.text p.spelt t.spelt;
    unended = all_one (λ step. step ≢ End) xs x p.unended n;
    goes_on = subst (HasAcceptedUnfailed Receives before begun c.checker) (sym (taken_one xs x earlier)) g;
    looks = tried_looks a b c earlier xs x p t;
  }

  -- the steps before the last one, the last one, and the bytes after it were read
  went_tried : (a b c : CheckerAtSource L) (earlier xs : List Step) (x : Step) → a.source ≡ new_source a.source.reader → checker_has_failed a.checker ≡ false → c.source.reads ≤ max_reads
      → AcceptsStepsBeforeEnd Receives before begun a b earlier xs → ConsumesStep b c (steps_after xs earlier) x → ReadsProofPart a.checker c.checker a.source.reader c.source.reader earlier xs (x ∷ []) ([] ++ c.source.waiting)
  went_tried a b c earlier xs x e h k p t =
      let both : ConsumesBytes a.source c.source (p.text ++ t.text) = passes_more a.source b.source c.source p.text t.text p.passes t.passes in
      record {
        well = h;
        steps = gave_steps 0 a.source.reader c.source (xs ++ x ∷ []) (p.text ++ t.text) [] (omega arith) k
            (subst (ConsumesWithReads 0 (new_source a.source.reader) c.source) (sym (append-nil (p.text ++ t.text))) (from_start (λ s. ConsumesBytes s c.source (p.text ++ t.text)) a.source e both))
            (items_one SpellsStep xs x p.text t.text p.spelt t.spelt);
        unended = p.unended;
        looks = tried_looks a b c earlier xs x p t;
      }

  -- the steps and bytes that form no complete step were read
  went_waiting : (n : ℕ) (a b c : CheckerAtSource L) (earlier xs : List Step) (more : List ℕ) → n ≤ 1 → a.source ≡ new_source a.source.reader → checker_has_failed a.checker ≡ false → c.source.reads ≤ max_reads
      → looks_of c.checker ≡ looks_of b.checker → AcceptsStepsBeforeEnd Receives before begun a b earlier xs → ConsumesWithReads n b.source c.source more → ReadsProofPart a.checker c.checker a.source.reader c.source.reader earlier xs [] (more ++ c.source.waiting)
  went_waiting n a b c earlier xs more m e h k l p w = record {
    well = h;
    steps = gave_steps n a.source.reader c.source (xs ++ []) p.text more m k
        (from_start (λ s. ConsumesWithReads n s c.source (p.text ++ more)) a.source e (passes_more a.source b.source c.source p.text more p.passes w))
        (subst (λ (z : List Step). SpellsSteps z p.text) (sym (append-nil xs)) p.spelt);
    unended = p.unended;
    looks = looks_still (looks_of a.checker) (looks_of b.checker) (looks_of c.checker) _ _ p.looks l (none_following xs earlier);
  }

  went_faulted : (a b c : CheckerAtSource L) (earlier xs : List Step) (more : List ℕ) → a.source ≡ new_source a.source.reader → checker_has_failed a.checker ≡ false → c.source.reads ≤ max_reads
      → looks_of c.checker ≡ looks_of b.checker → AcceptsStepsBeforeEnd Receives before begun a b earlier xs → ConsumesAndFails b.source c.source more → ReadsProofPart a.checker c.checker a.source.reader c.source.reader earlier xs [] more
  went_faulted a b c earlier xs more e h k l p w = record {
    well = h;
    steps = faulted_steps a.source.reader c.source (xs ++ []) p.text more k
        (from_start (λ s. ConsumesAndFails s c.source (p.text ++ more)) a.source e (faults_later a.source b.source c.source p.text more p.passes w))
        (subst (λ (z : List Step). SpellsSteps z p.text) (sym (append-nil xs)) p.spelt);
    unended = p.unended;
    looks = looks_still (looks_of a.checker) (looks_of b.checker) (looks_of c.checker) _ _ p.looks l (none_following xs earlier);
  }

  -- no read failed
  kept_by : (n : ℕ) (a b c : CheckerAtSource L) (earlier xs : List Step) (more : List ℕ) → AcceptsStepsBeforeEnd Receives before begun a b earlier xs → ConsumesWithReads n b.source c.source more → c.source.reader.failures ≡ a.source.reader.failures
  kept_by n a b c earlier xs more p w = w.failures ∙ p.passes.failures

  -- the result if an error follows accepted steps
  pub stops : (a b c : CheckerAtSource L) (e : CheckerError) (earlier xs : List Step) → a.source ≡ new_source a.source.reader → checker_has_failed a.checker ≡ false → c.source.reads ≤ max_reads
      → AcceptsStepsBeforeEnd Receives before begun a b earlier xs → NextStepResultAfter Receives before begun (Err e) b c (steps_after xs earlier) → ProofResultAfter Receives before begun (Err e) a.checker c.checker a.source.reader c.source.reader earlier
  stops a b c errors.CheckFailed earlier xs e h k p s =
      (xs, s.0, [] ++ c.source.waiting, went_tried a b c earlier xs s.0 e h k p s.1, kept_by 0 a b c earlier xs _ p s.1.passes, s.2, s.3)
  stops a b c errors.CounterEnd earlier xs e h k p s =
      (xs, s.0, [] ++ c.source.waiting, went_tried a b c earlier xs s.0 e h k p s.1, kept_by 0 a b c earlier xs _ p s.1.passes, s.2, s.3)
  stops a b c (errors.ProofProcessorError cause) earlier xs e h k p s =
      (xs, s.0, [] ++ c.source.waiting, went_tried a b c earlier xs s.0 e h k p s.1, kept_by 0 a b c earlier xs _ p s.1.passes, s.2)
  stops a b c errors.OutOfMemory earlier xs e h k p s =
      elim s [
        | inl w ↦ (
          xs,
          (w.0.tag ∷ w.0.more) ++ c.source.waiting,
          kept_by 0 a b c earlier xs _ p w.0.passes,
          inl (
            went_waiting 0 a b c earlier xs (w.0.tag ∷ w.0.more) (omega arith) e h k w.0.looks p w.0.passes,
            stops_within w.0.tag w.0.more c.source.waiting w.0.none w.0.begins,
            w.1,
          ),
        )
        | inr t ↦ (xs, [] ++ c.source.waiting, kept_by 0 a b c earlier xs _ p t.1.passes, inr (t.0, went_tried a b c earlier xs t.0 e h k p t.1, t.2))
      ]
  stops a b c errors.ProofIncomplete earlier xs e h k p s = (
    xs,
    s.0 ++ c.source.waiting,
    went_waiting 1 a b c earlier xs s.0 (omega arith) e h k s.3.looks p s.1.0,
    kept_by 1 a b c earlier xs s.0 p s.1.0,
    over c.source s.1.1,
    live_still s.0 c.source.waiting s.1.1.waiting s.2,
    s.3.goes_on,
  )
    where
      over : (s : Source) → IsFullyConsumed s → HasFoundEnd s.reader
      over s t = record { ends = t.ended; over = none_waits s.reader.to_come s.waiting t.waiting t.over }
  stops a b c errors.ParseError earlier xs e h k p s = (
    xs,
    (s.0 ++ s.1 ∷ []) ++ c.source.waiting,
    went_waiting 0 a b c earlier xs (s.0 ++ s.1 ∷ []) (omega arith) e h k s.5.looks p s.2,
    kept_by 0 a b c earlier xs _ p s.2,
    record { front = s.0; byte = s.1; following = c.source.waiting; whole = append_assoc s.0 (s.1 ∷ []) c.source.waiting; live = s.3; shut = s.4 },
    s.5.goes_on,
  )
  stops a b c errors.IoError earlier xs e h k p s = (
    xs,
    s.0,
    went_faulted a b c earlier xs s.0 e h k s.3.looks p s.1,
    read_fails a.source.reader c.source (p.text ++ s.0) k (from_start (λ z. ConsumesAndFails z c.source (p.text ++ s.0)) a.source e (faults_later a.source b.source c.source p.text s.0 p.passes s.1)),
    s.2,
    s.3.goes_on,
  )
  stops a b c errors.HasFailed earlier xs e h k p s = absurd s

  -- no unit conflict is pending after an end
  settled_end : (steps : List Step) (c : CheckerView L) → checker_has_failed c ≡ false → HasAccepted Receives before begun c (End ∷ steps) → HasNoPendingConflict c
  settled_end steps c h s = let k = s.kernel.kept h in none_pending c.kernel (End ∷ steps) k (end_settled steps)

  -- the result if the end follows accepted steps
  pub finishes : (a b c : CheckerAtSource L) (earlier xs : List Step) (x : Step) → a.source ≡ new_source a.source.reader → checker_has_failed a.checker ≡ false → c.source.reads ≤ max_reads
      → AcceptsStepsBeforeEnd Receives before begun a b earlier xs → ConsumesStep b c (steps_after xs earlier) x → x ≡ End → HasAcceptedUnfailed Receives before begun c.checker (x ∷ steps_after xs earlier) → ProofResultAfter Receives before begun (Ok tt) a.checker c.checker a.source.reader c.source.reader earlier
  finishes a b c earlier xs x e h k p t is g =
      let on : HasAcceptedUnfailed Receives before begun c.checker (End ∷ steps_after xs earlier) = subst (λ (z : Step). HasAcceptedUnfailed Receives before begun c.checker (z ∷ steps_after xs earlier)) is g in (
        xs,
        [] ++ c.source.waiting,
        subst (λ (z : Step). ReadsProofPart a.checker c.checker a.source.reader c.source.reader earlier xs (z ∷ []) ([] ++ c.source.waiting)) is (went_tried a b c earlier xs x e h k p t),
        kept_by 0 a b c earlier xs _ p t.passes,
        on,
        settled_end (steps_after xs earlier) c.checker on.1 on.0,
      )

  -- the result if a step was read and not accepted
  pub step_stops : (a b : CheckerAtSource L) (e : CheckerError) (earlier : List Step) (x : Step) → checker_has_failed a.checker ≡ false → ConsumesStep a b earlier x → StepResultAfter Receives before begun (Err e) a.checker x b.checker earlier → NextStepResultAfter Receives before begun (Err e) a b earlier
  step_stops a b errors.CheckFailed earlier x h t k = (x, t, k.1, k.2)
  step_stops a b errors.CounterEnd earlier x h t k = (x, t, k.1, k.2)
  step_stops a b errors.OutOfMemory earlier x h t k = inr (x, t, k.1)
  step_stops a b (errors.ProofProcessorError cause) earlier x h t k = (x, t, k.1)
  step_stops a b errors.HasFailed earlier x h t k = absurd (true≢false (sym k.0 ∙ h))
  step_stops a b e earlier x h t k = absurd k
