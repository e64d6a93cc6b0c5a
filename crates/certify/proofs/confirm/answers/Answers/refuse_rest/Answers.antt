use Rattle.std.proofs.Common.{◌++◌, true, List, ℕ, sym, ◌∙◌, ap, subst, arith}
use Rattle.certify.specs.answers.Answers.{malformed_line}
use Rattle.certify.specs.confirm.Lines.{ReadsDueLine}
use Rattle.certify.specs.confirm.CallResults.{AnswersCall}
use Rattle.certify.specs.confirm.Lines.{IsOneLine, answers_source}
use Rattle.certify.proofs.lemmas.confirm.Lines.{malformed_is_line}
use Rattle.certify.proofs.confirm.answers.Answers.refuse_rest.Goals as goal

pub take_due-requires-clause-line : goal.take_due-requires-clause-line
take_due-requires-clause-line g c = subst IsOneLine (sym (c.in_ok-push_malformed.ensures ∙ ap (λ (xs : List ℕ). xs ++ malformed_line c.args.number) c.clear.ensures.items)) (malformed_is_line c.args.number (omega arith))

pub returns : goal.returns
returns g c =
    let A = g.A.CountedRead.seen in
    subst (λ (t : List ℕ). AnswersCall true c.take_due.result (answers_source A c.args.answers.now c.args.self.now) (answers_source A c.take_due.new.answers c.take_due.new.self) (λ before following. ReadsDueLine before following t))
    (c.in_ok-push_malformed.ensures ∙ ap (λ (xs : List ℕ). xs ++ malformed_line c.args.number) c.clear.ensures.items) c.take_due.ensures
