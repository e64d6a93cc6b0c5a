-- A model is built literal by literal.
use Rattle.std.proofs.Common.{ℕ, suc, ◌+◌, ◌≡◌, ◌++◌, ◌∷◌, [], Bool, true, false, cond, Option, Some, None, List, refl, sym, ◌∙◌, ap, arith}
use Rattle.std.proofs.lemmas.List.{append-nil}
use Rattle.sat_base.specs.values.Literals.{mk_lit}
use Rattle.sat_solver.specs.variables.Variables.{data_at, global_of}
use Rattle.sat_solver.specs.Models.{value_in, literal_in, model_to, name_literal, named_to}
use Rattle.sat_solver.specs.declared.variables.Variables.{Variables}

pub model_zero : (n : Variables) (values : List (Option Bool)) → model_to n values 0 ≡ []
unfolding model_to
model_zero n values = refl

model_suc : (n : Variables) (values : List (Option Bool)) (v : ℕ) → model_to n values (suc v) ≡ model_to n values v ++ literal_in n values v
unfolding model_to
model_suc n values v = refl

pub model_next : (n : Variables) (values : List (Option Bool)) (v : ℕ) (items next : List ℕ) → items ≡ model_to n values v → next ≡ items ++ literal_in n values v → next ≡ model_to n values (v + 1)
model_next n values v items next e f = f ∙ ap (λ xs. xs ++ literal_in n values v) e ∙ sym (model_suc n values v) ∙ ap (model_to n values) (let q : suc v ≡ v + 1 = omega arith in q)

pub named_zero : (n : Variables) (values : List (Option Bool)) → named_to n values 0 ≡ []
unfolding named_to
named_zero n values = refl

named_suc : (n : Variables) (values : List (Option Bool)) (u : ℕ) → named_to n values (suc u) ≡ named_to n values u ++ name_literal n values u (global_of n u)
unfolding named_to
named_suc n values u = refl

pub named_next : (n : Variables) (values : List (Option Bool)) (u : ℕ) (items next : List ℕ) → items ≡ named_to n values u → next ≡ items ++ name_literal n values u (global_of n u) → next ≡ named_to n values (u + 1)
named_next n values u items next e f = f ∙ ap (λ xs. xs ++ name_literal n values u (global_of n u)) e ∙ sym (named_suc n values u) ∙ ap (named_to n values) (let q : suc u ≡ u + 1 = omega arith in q)

-- a variable that isn't in use adds nothing
pub none_for : (n : Variables) (values : List (Option Bool)) (v : ℕ) (items : List ℕ) → (data_at n v).deleted ≡ true → items ≡ items ++ literal_in n values v
none_for n values v items e = sym (ap (λ b. items ++ cond b [] (mk_lit v (value_in n values v) ∷ [])) e ∙ append-nil items)

pub one_for : (n : Variables) (values : List (Option Bool)) (v : ℕ) (items next : List ℕ) → (data_at n v).deleted ≡ false → next ≡ items ++ mk_lit v (value_in n values v) ∷ [] → next ≡ items ++ literal_in n values v
one_for n values v items next e f = f ∙ sym (ap (λ b. items ++ cond b [] (mk_lit v (value_in n values v) ∷ [])) e)

pub none_named : (n : Variables) (values : List (Option Bool)) (u : ℕ) (items : List ℕ) → global_of n u ≡ None → items ≡ items ++ name_literal n values u (global_of n u)
none_named n values u items e = sym (ap (λ o. items ++ name_literal n values u o) e ∙ append-nil items)

pub one_named : (n : Variables) (values : List (Option Bool)) (u v : ℕ) (items next : List ℕ) → global_of n u ≡ Some v → next ≡ items ++ mk_lit u (value_in n values v) ∷ [] → next ≡ items ++ name_literal n values u (global_of n u)
one_named n values u v items next e f = f ∙ sym (ap (λ o. items ++ name_literal n values u o) e)
