use Rattle.std.proofs.Common.{ℕ, ◌<◌, ◌≤◌, ◌≡◌, ◌++◌, ◌∷◌, List, Option, Some, None, Bor, MatchOption, MatchResult, subst}
use Rattle.std.proofs.lemmas.Result.{err_from_is_err_and}
use Rattle.std.specs.Option.{ok_or}
use Rattle.certify.specs.answers.Answers.{literals_text}
use Rattle.certify.specs.answers.AnswerForms.{HaveNames, IsPrintable, named_literals}
use Rattle.certify.specs.answers.AnswerReading.{HasSecondLine, BeginsNoLiteral, WhyNoLiterals, outcome_of}
use Rattle.certify.specs.declared.answers.read.AnswerKind.{AnswerKind}
use Rattle.certify.specs.declared.answers.read.AnswerFault.TheVariants.{Text}
use Rattle.certify.proofs.lemmas.answers.LinesByKind.{line_literals}
use Rattle.certify.proofs.lemmas.answers.LiteralsInOrder.{ReadInOrder, in_form, no_room, one_in_order, out_of_order}
use Rattle.certify.proofs.lemmas.answers.LiteralsOfLines.{all_read, not_read}
use Rattle.certify.proofs.answers.read.read_literals.Goals as goal

ended : (k : AnswerKind) (bytes line rest : List ℕ) (least : ℕ) → HasSecondLine k → ReadInOrder k bytes line rest least → BeginsNoLiteral rest → (r : Option (Bor (List ℕ)))
    → MatchOption r ((tail : List ℕ) → rest ≡ 48 ∷ 10 ∷ tail → ⊥) (λ x. rest ≡ 48 ∷ 10 ∷ x.now)
    → MatchResult (ok_or r Text) (λ x. IsPrintable (outcome_of k (named_literals line)) × (bytes ≡ literals_text (named_literals line) ++ x.now)) (WhyNoLiterals k bytes)
ended k bytes line rest least d i none None h = λ ls tail o e. not_read bytes line rest i.read none ls tail (h tail) (subst HaveNames (line_literals k ls d) o.0) e
ended k bytes line rest least d i none (Some x) h = (in_form k bytes line rest least d i, (all_read bytes line rest x.now i.read h).1)

pub returns-then-place-least : goal.returns-then-place-least
returns-then-place-least c =
    out_of_order c.args.kind c.args.bytes.now c.loop-found.line.items c.loop-found.rest.now c.in-Some.found.1.now c.in-Some.found.0 c.loop-found.least c.requires c.loop-found.invariant c.in-Some.ensures.0 c.in-Some.ensures.1
    (subst (λ p. p < c.loop-found.least) c.literal_sort_key-place.ensures.value c.if-place-least.true)

pub returns-in_err-push : goal.returns-in_err-push
returns-in_err-push c =
    let p = err_from_is_err_and c.from_residual.result c.from_residual.ensures.1 in
    let n = no_room c.args.kind c.args.bytes.now c.loop-found.line.items c.loop-found.rest.now c.in-Some.found.1.now c.in-Some.found.0 c.loop-found.least c.requires c.loop-found.invariant c.in-Some.ensures.0 c.in-Some.ensures.1
    (subst (λ p. c.loop-found.least ≤ p) c.literal_sort_key-place.ensures.value c.if-place-least.false) in
    rw (p.1, p.2) n

pub loop-found-preserved : goal.loop-found-preserved
loop-found-preserved c =
    let r = one_in_order c.args.kind c.args.bytes.now c.loop-found.line.items c.loop-found.rest.now c.in-Some.found.1.now c.in-Some.found.0 c.loop-found.least c.loop-found.invariant c.in-Some.ensures.0 c.in-Some.ensures.1
    (subst (λ p. c.loop-found.least ≤ p) c.literal_sort_key-place.ensures.value c.if-place-least.false) in
    rw (c.in_ok-push.ensures.items, c.literal_sort_key-place.ensures.value) r

pub returns : goal.returns
returns c = rw c.ok_or.ensures.value (ended c.args.kind c.args.bytes.now c.loop-found.line.items c.loop-found.rest.now c.loop-found.least c.requires c.loop-found.invariant c.in_default.ensures c.take_text.result c.take_text.ensures)
