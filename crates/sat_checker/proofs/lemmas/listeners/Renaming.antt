-- Literals are translated to the user's names, one by one.
use Rattle.std.proofs.Common.{ℕ, ◌+◌, ◌<◌, ◌≤◌, ◌≡◌, List, [], ◌∷◌, ◌++◌, length, drop, get_or, Some, None, sym, ◌∙◌, ap}
use Rattle.std.proofs.lemmas.List.{append_assoc, append-nil, drop_more, drop_all}
use Rattle.sat_base.specs.values.Literals.{variable, mk_lit, is_positive}
use Rattle.sat_checker.specs.Stored.{Variable}
use Rattle.sat_checker.specs.announcements.Transcripts.{user_from_proof_var, prepend_named, in_user_names}
use Rattle.sat_checker.proofs.lemmas.sets.Hashing.{sign_of}

module _ (variables : ℕ → Variable) (literals had all : List ℕ) (i : ℕ) (so_far : had ++ in_user_names variables (drop i literals) ≡ all) where
  -- the literal at i is next
  module _ (inside : i < length literals) (l : ℕ) (is : l ≡ get_or literals i l) where
    next : in_user_names variables (drop i literals) ≡ prepend_named l (user_from_proof_var variables (variable l)) (in_user_names variables (drop (i + 1) literals))
    next = ap (in_user_names variables) (drop_more literals i l inside) ∙ ap (λ x. in_user_names variables (x ∷ drop (i + 1) literals)) (sym is)

    pub renamed : (name m : ℕ) (new : List ℕ) → user_from_proof_var variables (variable l) ≡ Some name → m ≡ mk_lit name (is_positive l) → new ≡ had ++ m ∷ [] → new ++ in_user_names variables (drop (i + 1) literals) ≡ all
    renamed name m new n e pushed =
        ap (λ xs. xs ++ in_user_names variables (drop (i + 1) literals)) pushed ∙ append_assoc had (m ∷ []) (in_user_names variables (drop (i + 1) literals))
        ∙ ap (λ x. had ++ x ∷ in_user_names variables (drop (i + 1) literals)) (e ∙ sign_of l name)
        ∙ ap (λ o. had ++ prepend_named l o (in_user_names variables (drop (i + 1) literals))) (sym n) ∙ ap (λ xs. had ++ xs) (sym next) ∙ so_far

    pub nameless : (new : List ℕ) → user_from_proof_var variables (variable l) ≡ None → new ≡ had → new ++ in_user_names variables (drop (i + 1) literals) ≡ all
    nameless new n same =
        ap (λ xs. xs ++ in_user_names variables (drop (i + 1) literals)) same ∙ ap (λ o. had ++ prepend_named l o (in_user_names variables (drop (i + 1) literals))) (sym n) ∙ ap (λ xs. had ++ xs) (sym next) ∙ so_far

  pub all_renamed : length literals ≤ i → had ≡ all
  all_renamed l = sym (append-nil had) ∙ ap (λ ls. had ++ in_user_names variables ls) (sym (drop_all i literals l)) ∙ so_far
