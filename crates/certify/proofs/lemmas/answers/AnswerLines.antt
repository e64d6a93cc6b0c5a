-- The lines of an answer.
use Rattle.std.proofs.Common.{ℕ, ◌≤◌, ◌≡◌, List, ◌∷◌, [], ◌++◌, refl, ◌∙◌, append_assoc, arith}
use Rattle.std.proofs.lemmas.List.{append_cancel_left}
use Rattle.std.specs.List.{AllByRecursion}
use Rattle.sat_base.specs.values.Literals.{var_limit}
use Rattle.sat_base.specs.script.Script.{Literal}
use Rattle.certify.specs.answers.Answers.{outcome_text, s_satisfiable, s_unsatisfiable, s_unknown, v_line, f_line}
use Rattle.sat_checker.specs.matching.Expected.{Outcome, Sat, Unsat, Unknown}
use Rattle.certify.specs.answers.AnswerForms.{HaveNames, IsPrintable}
use Rattle.certify.specs.laws.Laws.{HasPrintableNames}
use Rattle.certify.specs.answers.AnswerReading.{first_answer_line, second_line, outcome_of}
use Rattle.certify.specs.declared.answers.read.AnswerKind.{AnswerKind}
use Rattle.certify.specs.declared.answers.read.AnswerKind.TheVariants as kind

-- the kind and literals of an outcome, and its lines at the beginning of the bytes
pub record Lines (o : Outcome) (tail bytes : List ℕ) : Type 0 where
  pub kind : AnswerKind
  pub line : List Literal
  pub is : outcome_of kind line ≡ o
  pub text : bytes ≡ first_answer_line kind ++ (second_line o ++ tail)

-- the lines of an outcome at the beginning of bytes
pub lines_of : (o : Outcome) (tail bytes : List ℕ) → bytes ≡ outcome_text o ++ tail → Lines o tail bytes
lines_of (Sat line) tail bytes e = record { kind = kind.Sat; line = line; is = refl; text = e ∙ append_assoc s_satisfiable (v_line line) tail }
lines_of (Unsat core) tail bytes e = record { kind = kind.Unsat; line = core; is = refl; text = e ∙ append_assoc s_unsatisfiable (f_line core) tail }
lines_of Unknown tail bytes e = record { kind = kind.Unknown; line = []; is = refl; text = e }

-- a text begins with the first line of at most one kind of answer
pub same_kind : (k m : AnswerKind) (x y : List ℕ) → first_answer_line k ++ x ≡ first_answer_line m ++ y → (k ≡ m) × (x ≡ y)
same_kind kind.Sat kind.Sat x y e = (refl, append_cancel_left s_satisfiable x y e)
same_kind kind.Unsat kind.Unsat x y e = (refl, append_cancel_left s_unsatisfiable x y e)
same_kind kind.Unknown kind.Unknown x y e = (refl, append_cancel_left s_unknown x y e)
same_kind kind.Sat kind.Unsat x y e = let r : ◌≡◌ {A = ℕ} 83 85 = cc in absurd (omega arith)
same_kind kind.Sat kind.Unknown x y e = let r : ◌≡◌ {A = ℕ} 83 85 = cc in absurd (omega arith)
same_kind kind.Unsat kind.Sat x y e = let r : ◌≡◌ {A = ℕ} 85 83 = cc in absurd (omega arith)
same_kind kind.Unsat kind.Unknown x y e = let r : ◌≡◌ {A = ℕ} 83 75 = cc in absurd (omega arith)
same_kind kind.Unknown kind.Sat x y e = let r : ◌≡◌ {A = ℕ} 85 83 = cc in absurd (omega arith)
same_kind kind.Unknown kind.Unsat x y e = let r : ◌≡◌ {A = ℕ} 75 83 = cc in absurd (omega arith)

-- the names of an outcome in form are within the limit
pub printed : (o : Outcome) → IsPrintable o → HasPrintableNames o
printed (Sat line) h = all_low line h.0
  where
    all_low : (ls : List Literal) → HaveNames ls → AllByRecursion (λ l. l.name ≤ var_limit) ls
    all_low [] h = tt
    all_low (l ∷ ls) h = (h.0.1, all_low ls h.1)
printed (Unsat core) h = all_low core h.0
  where
    all_low : (ls : List Literal) → HaveNames ls → AllByRecursion (λ l. l.name ≤ var_limit) ls
    all_low [] h = tt
    all_low (l ∷ ls) h = (h.0.1, all_low ls h.1)
printed Unknown h = tt
