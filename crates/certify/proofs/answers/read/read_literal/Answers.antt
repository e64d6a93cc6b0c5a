use Rattle.std.proofs.lemmas.Grind.{common_steps}
use Rattle.std.proofs.Common.{ℕ, List, ◌-◌, ◌<◌, Bool, eqb, length, take, drop, get_or, refl, arith}
use Rattle.certify.specs.answers.AnswerReading.{BeginsNoLiteral}
use Rattle.certify.proofs.lemmas.answers.NamesAndWords.{SkipsSign, sign_skipped, no_literal_after, literal_begins}
use Rattle.certify.proofs.answers.read.read_literal.Goals as goal
use Rattle.certify.proofs.answers.read.read_literal.Goals.{After-from}

module _ (c : After-from) where
  abbrev negative : Bool
  negative = eqb (get_or c.args.bytes.now 0 0) 45

  abbrev rest : List ℕ
  rest = take (length c.args.bytes.now - c.from.result) (drop c.from.result c.args.bytes.now)

  skipped : SkipsSign c.args.bytes.now rest negative
  skipped =
      let some : 0 < length c.args.bytes.now = grind (arith, common_steps) in
      sign_skipped c.args.bytes.now rest negative c.from.result some refl (λ e. rw e at c.from.ensures) (λ e. rw e at c.from.ensures) refl

pub returns-in_err-name : goal.returns-in_err-name
returns-in_err-name c =
    let x = (goal.at.returns-in_err-name c).After-from in
    let none : BeginsNoLiteral c.args.bytes.now = no_literal_after c.args.bytes.now (rest x) (negative x) (skipped x) c.in_err-name.ensures in
    rw c.from_residual.ensures none

pub returns : goal.returns
returns c =
    let x = (goal.at.returns c).After-from in
    literal_begins c.args.bytes.now (rest x) c.in_ok-name.rest.now (negative x) c.in_ok-name.name c.from_index.result (skipped x) c.in_ok-name.ensures c.from_index.ensures
