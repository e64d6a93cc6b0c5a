use Rattle.std.proofs.Common.{◌++◌, true, List, ℕ, ◌∙◌, ap, subst}
use Rattle.certify.specs.answers.Answers.{refused_line}
use Rattle.certify.specs.confirm.Lines.{ReadsDueLine}
use Rattle.certify.specs.confirm.CallResults.{AnswersCall}
use Rattle.certify.specs.refusals.Names.{refusal_of_code}
use Rattle.certify.specs.confirm.Lines.{answers_source}
use Rattle.certify.proofs.confirm.answers.Answers.refuse.Goals as goal

pub returns : goal.returns
returns g c =
    let A = g.A.CountedRead.seen in
    subst (λ (t : List ℕ). AnswersCall true c.take_due.result (answers_source A c.args.answers.now c.args.self.now) (answers_source A c.take_due.new.answers c.take_due.new.self) (λ before following. ReadsDueLine before following t))
    (c.in_ok-push_refused.ensures.text ∙ ap (λ (xs : List ℕ). xs ++ refused_line c.args.number (refusal_of_code c.args.refusal)) c.clear.ensures.items) c.take_due.ensures
