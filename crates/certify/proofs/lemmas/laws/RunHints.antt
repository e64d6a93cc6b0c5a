-- The certificate of a finished run has a hint text.
use Rattle.std.proofs.Common.{ℕ, ◌≡◌, ◌≢◌, List, [], ◌∷◌, ◌++◌, reverse, Result, Ok, Err, length, refl, sym, ◌∙◌, ap, subst, append_assoc}
use Rattle.std.proofs.lemmas.Grind.{reverse_onto}
use Rattle.std.proofs.lemmas.List.{append-nil, append_cancel_left, reverse-reverse}
use Rattle.std.specs.List.{AllByRecursion}
use Rattle.sat_base.specs.device.Device.{Reader, Writer, WriterAccepts}
use Rattle.sat_base.specs.steps.Steps.{Step, End}
use Rattle.sat_base.specs.steps.StepText.{SpellsSteps}
use Rattle.sat_checker.specs.Accepts.{AcceptsAll}
use Rattle.sat_checker.specs.ProofView.{steps_after}
use Rattle.sat_hints.specs.Checks.{IsProof}
use Rattle.sat_base.specs.text.Tokenizing.{capped}
use Rattle.sat_hints.specs.Conversion.{hint_text, lines_of_steps}
use Rattle.sat_hints.specs.Converts.{Converts}
use Rattle.sat_hints.specs.Hints.{derives_empty, core_count}
use Rattle.sat_hints.specs.Laws.{IsCertificate, WritesTextOrFault}
use Rattle.sat_hints.specs.declared.error.HintError.{HintError}
use Rattle.sat_hints.specs.declared.error.HintError.TheVariants.{Refused, HasDeleteVar}
use Rattle.sat_hints.proofs.lemmas.Converted.{accepted_converts}
use Rattle.certify.specs.laws.HintTexts.{HasHints, RunsHaveHints}
use Rattle.certify.proofs.lemmas.run.Unhidden.{EndsWith, run_ends}

-- STEPS IN THE ORDER IN WHICH THEY ARE WRITTEN
taken_is : (xs earlier : List Step) → steps_after xs earlier ≡ reverse xs ++ earlier
taken_is [] earlier = refl
taken_is (x ∷ xs) earlier = taken_is xs (x ∷ earlier) ∙ sym (append_assoc (reverse xs) (x ∷ []) earlier) ∙ ap (λ ys. ys ++ earlier) (sym (reverse_onto xs x []))

taken_back : (steps : List Step) → steps_after (reverse steps) [] ≡ steps
taken_back steps = taken_is (reverse steps) [] ∙ append-nil (reverse (reverse steps)) ∙ reverse-reverse steps

abbrev GoOn : List Step → Type 0
GoOn = AllByRecursion (λ step. step ≢ End)

each_both : (xs ys : List Step) → GoOn xs → GoOn ys → GoOn (xs ++ ys)
each_both [] ys h k = k
each_both (x ∷ xs) ys h k = (h.0, each_both xs ys h.1 k)

each_reversed : (xs : List Step) → GoOn xs → GoOn (reverse xs)
each_reversed [] h = tt
each_reversed (x ∷ xs) h = subst GoOn (sym (reverse_onto xs x [])) (each_both (reverse xs) (x ∷ []) (each_reversed xs h.1) (h.0, tt))

certificate_of : (before : List Step) (text : List ℕ) → SpellsSteps (reverse (End ∷ before)) text → AcceptsAll (End ∷ before) → GoOn before → IsCertificate (reverse before) text
certificate_of before text s ok u = record {
  spelt = subst (λ xs. SpellsSteps xs text) (reverse_onto before End []) s;
  unended = each_reversed before u;
  accepted = subst (λ xs. AcceptsAll (End ∷ xs)) (sym (taken_back before)) ok;
}

-- what a writer received is one text
one_text : (old new : Writer) (s t : List ℕ) → WriterAccepts old new s → WriterAccepts old new t → s ≡ t
one_text old new s t a b = append_cancel_left old.taken s t (sym a.taken ∙ b.taken)

-- THE RESULT
is_hinted : (steps written : List Step) (result : Result (Unit {0}) HintError) (from to : Reader) (old new : Writer) → End ∷ steps_after written [] ≡ steps → Converts result from to old new → WritesTextOrFault result written old new
    → HasHints result steps old new
is_hinted steps written (Ok x) from to old new e c t =
    let all : List Step = End ∷ steps_after c.0 [] in
    let took : WriterAccepts old new (hint_text steps) = subst (λ s. WriterAccepts old new (hint_text s)) e t in
    let proof : IsProof (hint_text all) (derives_empty (lines_of_steps all)) (capped (core_count (lines_of_steps all))) (capped (length (lines_of_steps all))) = c.3 in (
      took,
      record {
        empty = derives_empty (lines_of_steps all);
        cores = capped (core_count (lines_of_steps all));
        lines = capped (length (lines_of_steps all));
        proof = subst (λ s. IsProof s (derives_empty (lines_of_steps all)) (capped (core_count (lines_of_steps all))) (capped (length (lines_of_steps all)))) (one_text old new (hint_text all) (hint_text steps) c.4 took) proof;
      },
    )
is_hinted steps written (Err HasDeleteVar) from to old new e c t = t
is_hinted steps written (Err (Refused error)) from to old new e c t = t
is_hinted steps written (Err z) from to old new e c t = tt

pub runs_have_hints : RunsHaveHints
runs_have_hints budget summary text answered certified more result from to old new b text_is c =
    let ends : EndsWith b.steps = run_ends b.follows b.cuts in
    let spelt = subst (λ xs. SpellsSteps (reverse xs) certified) ends.last b.certificate in
    let certificate : IsCertificate (reverse ends.before) certified = certificate_of ends.before certified spelt (subst AcceptsAll ends.last b.accepted) ends.goes_on in
    is_hinted b.steps (reverse ends.before) result from to old new (ap (λ xs. End ∷ xs) (taken_back ends.before) ∙ sym ends.last) c
    (accepted_converts (reverse ends.before) certified more result from to old new certificate text_is c)
