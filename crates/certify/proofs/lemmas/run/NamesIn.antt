-- The names of literals, as scripts and as solvers read them.
use Rattle.std.proofs.Common.{ℕ, ◌+◌, ◌≡◌, List, [], ◌∷◌, refl, ap}
use Rattle.sat_base.specs.values.Literals.{variable}
use Rattle.sat_base.specs.script.Script.{names_of}
use Rattle.sat_solver.specs.variables.Refusing.{names_in}
use Rattle.certify.specs.answers.AnswerForms.{named_literals}

pub names_same : (user : List ℕ) → names_of (named_literals user) ≡ names_in user
names_same [] = refl
names_same (l ∷ ls) = ap (λ xs. (variable l + 1) ∷ xs) (names_same ls)
