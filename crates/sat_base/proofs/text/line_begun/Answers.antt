use Rattle.std.proofs.Common.{arith}
use Rattle.std.proofs.lemmas.Bool.Decides.{nat_tests}
use Rattle.sat_base.proofs.lemmas.text.Places.{moves_comment, moves_end, moves_header, moves_late_header, moves_word}
use Rattle.sat_base.proofs.text.line_begun.Goals as goal

pub returns-then-byte-eq99 : goal.returns-then-byte-eq99
returns-then-byte-eq99 c = rw c.if-byte-eq99.true (moves_comment c.args.may)

pub returns-then-byte-eq37 : goal.returns-then-byte-eq37
returns-then-byte-eq37 c = rw c.if-byte-eq37.true (moves_end c.args.may)

pub returns-then-byte-ne112 : goal.returns-then-byte-ne112
returns-then-byte-ne112 c =
    moves_word c.args.may c.word_begun.result c.args.byte c.requires (grind (arith, nat_tests)) (grind (arith, nat_tests)) (grind (arith, nat_tests)) c.word_begun.ensures

pub returns-then-may : goal.returns-then-may
returns-then-may c = rw c.if-byte-ne112.false (moves_header c.args.may c.if-may.true)

pub returns-else-may : goal.returns-else-may
returns-else-may c = rw c.if-byte-ne112.false (moves_late_header c.args.may c.if-may.false)
