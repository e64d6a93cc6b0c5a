-- The certificate of accepted steps, and what is read from it.
use Rattle.std.proofs.Common.{ℕ, ◌≡◌, List, [], ◌∷◌, ◌++◌, refl, sym, ◌∙◌, ap, subst, append_assoc}
use Rattle.std.specs.Prelude.{◌≢◌}
use Rattle.std.specs.List.{AllByRecursion}
use Rattle.sat_base.specs.steps.Steps.{Step, End}
use Rattle.sat_base.specs.steps.StepText.{SpellsStep, SpellsSteps}
use Rattle.sat_base.proofs.lemmas.steps.StepReads.{one_step}
use Rattle.sat_checker.specs.Accepts.{Accepts, AcceptsAll, ready_after}
use Rattle.sat_checker.specs.ProofView.{steps_after}

-- STEPS THAT WERE ACCEPTED
accepted_before : (steps earlier : List Step) → AcceptsAll (steps_after steps earlier) → AcceptsAll earlier
accepted_before [] earlier ok = ok
accepted_before (s ∷ ss) earlier ok = (accepted_before ss (s ∷ earlier) ok).0

-- a step of an accepted list is accepted after the steps before it
pub accepted_at : (front : List Step) (step : Step) (following earlier : List Step) → AcceptsAll (steps_after (front ++ step ∷ following) earlier) → Accepts (ready_after (steps_after front earlier)) step
accepted_at [] step following earlier ok = (accepted_before following (step ∷ earlier) ok).1
accepted_at (s ∷ ss) step following earlier ok = accepted_at ss step following (s ∷ earlier) ok

-- the steps of two lists are taken in order
pub taken_append : (xs ys earlier : List Step) → steps_after (xs ++ ys) earlier ≡ steps_after ys (steps_after xs earlier)
taken_append [] ys earlier = refl
taken_append (x ∷ xs) ys earlier = taken_append xs ys (x ∷ earlier)

-- STEPS THAT WERE READ
-- that `bytes` are the text of the steps after those read so far, and then `more`
pub record Left (steps read : List Step) (bytes more : List ℕ) : Type 0 where
  pub tail : List Step
  pub all : steps ≡ read ++ tail
  pub text : List ℕ
  pub spelt : SpellsSteps (tail ++ End ∷ []) text
  pub is : bytes ≡ text ++ more

front_off : (a s t : List ℕ) → a ++ s ≡ a ++ t → s ≡ t
front_off [] s t e = e
front_off (x ∷ xs) s t e = front_off xs s t (let k : xs ++ s ≡ xs ++ t = cc in k)

-- the bytes after the steps that were read are the text of the certificate's other steps
pub left_of : (read steps : List Step) (a t bytes more : List ℕ) → SpellsSteps read a → SpellsSteps (steps ++ End ∷ []) t → AllByRecursion (λ step. step ≢ End) read → a ++ bytes ≡ t ++ more → Left steps read bytes more
left_of [] steps a t bytes more r s u e = record { tail = steps; all = refl; text = t; spelt = s; is = subst (λ x. x ++ bytes ≡ t ++ more) r e }
left_of (p ∷ ps) [] a t bytes more r s u e =
    let same = one_step p End r.0 s.0 (r.1 ++ bytes) (s.1 ++ more) r.2 s.2 (sym (append_assoc r.0 r.1 bytes) ∙ ap (λ x. x ++ bytes) (sym r.4) ∙ e ∙ ap (λ x. x ++ more) s.4 ∙ append_assoc s.0 s.1 more) in
    absurd (u.0 same.1)
left_of (p ∷ ps) (q ∷ qs) a t bytes more r s u e =
    let w : r.0 ++ (r.1 ++ bytes) ≡ s.0 ++ (s.1 ++ more) = sym (append_assoc r.0 r.1 bytes) ∙ ap (λ x. x ++ bytes) (sym r.4) ∙ e ∙ ap (λ x. x ++ more) s.4 ∙ append_assoc s.0 s.1 more in
    let same = one_step p q r.0 s.0 (r.1 ++ bytes) (s.1 ++ more) r.2 s.2 w in
    let following : r.1 ++ bytes ≡ s.1 ++ more = front_off s.0 (r.1 ++ bytes) (s.1 ++ more) (subst (λ x. x ++ (r.1 ++ bytes) ≡ s.0 ++ (s.1 ++ more)) same.0 w) in
    let k = left_of ps qs r.1 s.1 bytes more r.3 s.3 u.1 following in
    record { tail = k.tail; all = ap (λ x. x ∷ qs) (sym same.1) ∙ ap (λ xs. p ∷ xs) k.all; text = k.text; spelt = k.spelt; is = k.is }

-- `Next tail text` holds if the text begins with that of the first of the steps `tail` and an end.
pub record Next (tail : List Step) (text : List ℕ) : Type 0 where
  pub step : Step
  pub following : List Step
  pub all : tail ++ End ∷ [] ≡ step ∷ following
  pub bytes : List ℕ
  pub others : List ℕ
  pub spelt : SpellsStep step bytes
  pub is : text ≡ bytes ++ others

pub next_of : (tail : List Step) (text : List ℕ) → SpellsSteps (tail ++ End ∷ []) text → Next tail text
next_of [] text s = record { step = End; following = []; all = refl; bytes = s.0; others = s.1; spelt = s.2; is = s.4 }
next_of (t ∷ ts) text s = record { step = t; following = ts ++ End ∷ []; all = refl; bytes = s.0; others = s.1; spelt = s.2; is = s.4 }

-- if the next step is the end, no other step is left
pub none_left : (steps read tail following : List Step) → steps ≡ read ++ tail → AllByRecursion (λ step. step ≢ End) steps → tail ++ End ∷ [] ≡ End ∷ following → tail ≡ []
none_left steps read [] following a u e = refl
none_left steps read (t ∷ ts) following a u e = let f : t ≡ End = cc in absurd (last_of read t ts (subst (AllByRecursion (λ step. step ≢ End)) a u) f)
  where
    last_of : (xs : List Step) (t : Step) (ts : List Step) → AllByRecursion (λ step. step ≢ End) (xs ++ t ∷ ts) → t ≢ End
    last_of [] t ts h = h.0
    last_of (x ∷ xs) t ts h = last_of xs t ts h.1

-- `Cut front last text` holds if the text spells the steps `front`, and then the steps `last`.
pub record Cut (front last : List Step) (text : List ℕ) : Type 0 where
  pub first : List ℕ
  pub second : List ℕ
  pub of_front : SpellsSteps front first
  pub of_last : SpellsSteps last second
  pub whole : text ≡ first ++ second

-- the text of two lists of steps is the texts of both
pub cut_at : (front last : List Step) (text : List ℕ) → SpellsSteps (front ++ last) text → Cut front last text
cut_at [] last text s = record { first = []; second = text; of_front = refl; of_last = s; whole = refl }
cut_at (p ∷ ps) last text s =
    let k = cut_at ps last s.1 s.3 in
    record { first = s.0 ++ k.first; second = k.second; of_front = (s.0, k.first, s.2, k.of_front, refl); of_last = k.of_last; whole = s.4 ∙ ap (λ x. s.0 ++ x) k.whole ∙ sym (append_assoc s.0 k.first k.second) }
