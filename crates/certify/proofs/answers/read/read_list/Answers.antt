use Rattle.std.proofs.Common.{ℕ, ◌≡◌, ◌≢◌, ◌++◌, [], List, Option, Some, None, Result, Ok, Err, Bor, MatchOption, MatchResult, length, ap, sym, subst, ◌∙◌, arith}
use Rattle.std.proofs.lemmas.Grind.{common_steps}
use Rattle.std.proofs.lemmas.Result.{err_from_is_err_and}
use Rattle.std.specs.Option.{ok_or}
use Rattle.sat_base.specs.script.Script.{Literal}
use Rattle.certify.specs.answers.Answers.{literals_text}
use Rattle.certify.specs.answers.AnswerForms.{IsPrintable, named_literals}
use Rattle.certify.specs.answers.AnswerReading.{IsSecondLineHead, WhyNoSecondLine, WhyNoLiterals, outcome_of, second_line}
use Rattle.certify.specs.declared.answers.read.AnswerKind.{AnswerKind}
use Rattle.certify.specs.declared.answers.read.AnswerFault.{AnswerFault}
use Rattle.certify.specs.declared.answers.read.AnswerFault.TheVariants.{Text}
use Rattle.certify.proofs.lemmas.answers.LinesByKind.{line_read, no_head, no_list}
use Rattle.certify.proofs.answers.read.read_list.Goals as goal

-- what was found of the line's head
without : (k : AnswerKind) (head bytes : List ℕ) (r : Option (Bor (List ℕ))) (fault : AnswerFault) → IsSecondLineHead k head → bytes ≢ []
    → MatchOption r ((tail : List ℕ) → bytes ≡ head ++ tail → ⊥) (λ x. bytes ≡ head ++ x.now) → ◌≡◌ {A = Result (Bor (List ℕ)) AnswerFault} (Err fault) (ok_or r Text) → WhyNoSecondLine k bytes fault
without k head bytes None fault h some found e = let f : fault ≡ Text = cc in subst (WhyNoSecondLine k bytes) (sym f) (no_head k head bytes h some found)
without k head bytes (Some x) fault h some found e = absurd cc

within : (head bytes : List ℕ) (r : Option (Bor (List ℕ))) (following : Bor (List ℕ))
    → MatchOption r ((tail : List ℕ) → bytes ≡ head ++ tail → ⊥) (λ x. bytes ≡ head ++ x.now) → ◌≡◌ {A = Result (Bor (List ℕ)) AnswerFault} (Ok following) (ok_or r Text) → bytes ≡ head ++ following.now
within head bytes None following found e = absurd cc
within head bytes (Some x) following found e = let f : x ≡ following = cc in found ∙ ap (λ b. head ++ b.now) f

-- what was read after it
listed : (k : AnswerKind) (head bytes following : List ℕ) (ls : List Literal) (r : Result (Bor (List ℕ)) AnswerFault) → IsSecondLineHead k head → bytes ≢ [] → bytes ≡ head ++ following
    → MatchResult r (λ rest. IsPrintable (outcome_of k ls) × (following ≡ literals_text ls ++ rest.now)) (WhyNoLiterals k following)
    → MatchResult r (λ rest. IsPrintable (outcome_of k ls) × (bytes ≡ second_line (outcome_of k ls) ++ rest.now)) (WhyNoSecondLine k bytes)
listed k head bytes following ls (Ok rest) h some e r = (r.0, line_read k head bytes following ls rest.now h e r.1)
listed k head bytes following ls (Err fault) h some e r = no_list k head bytes following fault h some e r

pub returns-in_err-following : goal.returns-in_err-following
returns-in_err-following c =
    let some : c.args.bytes.now ≢ [] = λ e. absurd (grind (arith, common_steps, c.is_empty.ensures, c.if-is_empty.false, ap length e)) in
    let p = err_from_is_err_and c.from_residual.result c.from_residual.ensures.1 in
    rw (p.1, p.2) (without c.args.kind c.args.head.now c.args.bytes.now c.take_text.result c.in_err-following.field-0.0 c.requires some c.take_text.ensures c.in_err-following.ensures.value)

pub returns : goal.returns
returns c =
    let some : c.args.bytes.now ≢ [] = λ e. absurd (grind (arith, common_steps, c.is_empty.ensures, c.if-is_empty.false, ap length e)) in
    let e = within c.args.head.now c.args.bytes.now c.take_text.result c.in_ok-following.following c.take_text.ensures c.in_ok-following.ensures.value in
    listed c.args.kind c.args.head.now c.args.bytes.now c.in_ok-following.following.now (named_literals c.read_literals.new.line.items) c.read_literals.result c.requires some e c.read_literals.ensures
