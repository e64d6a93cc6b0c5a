use Rattle.sat_base.specs.dimacs.DimacsText.{number_text}
use Rattle.sat_hints.specs.inner.LineReading.{IsLiteralCode}
use Rattle.sat_base.specs.text.NumberWords.{BeginsWithNoWord}
use Rattle.sat_hints.proofs.lemmas.Words.{no_negative_word}
use Rattle.sat_hints.proofs.numbers.read_literal.Goals as goal

pub returns-in_err-index-in-Some : goal.returns-in_err-index-in-Some
returns-in_err-index-in-Some c =
    let none : BeginsWithNoWord number_text IsLiteralCode c.args.bytes.now = no_negative_word c.args.bytes.now c.in-Some.following.now c.in-Some.ensures c.in_err-index-in-Some.ensures in
    rw c.from_residual.ensures none
