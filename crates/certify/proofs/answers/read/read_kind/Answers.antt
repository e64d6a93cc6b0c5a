use Rattle.std.proofs.Common.{ℕ, ◌≡◌, ◌++◌, List, length, ap, arith}
use Rattle.std.proofs.lemmas.Grind.{common_steps}
use Rattle.certify.specs.answers.Answers.{s_satisfiable, s_unsatisfiable, s_unknown}
use Rattle.certify.specs.answers.AnswerReading.{first_answer_line}
use Rattle.certify.specs.declared.answers.read.AnswerKind.{AnswerKind}
use Rattle.certify.specs.declared.answers.read.AnswerKind.TheVariants as kind
use Rattle.certify.proofs.answers.read.read_kind.Goals as goal

none : (bytes : List ℕ) → ((tail : List ℕ) → bytes ≡ s_satisfiable ++ tail → ⊥) → ((tail : List ℕ) → bytes ≡ s_unsatisfiable ++ tail → ⊥) → ((tail : List ℕ) → bytes ≡ s_unknown ++ tail → ⊥)
    → (k : AnswerKind) (tail : List ℕ) → bytes ≡ first_answer_line k ++ tail → ⊥
none bytes s u n kind.Sat = s
none bytes s u n kind.Unsat = u
none bytes s u n kind.Unknown = n

pub returns-in-None : goal.returns-in-None
returns-in-None c = ((λ e. absurd (grind (arith, common_steps, c.is_empty.ensures, c.if-is_empty.false, ap length e))), none c.args.bytes.now c.in_default.ensures c.in_default-take_text.ensures c.in-None.ensures)
