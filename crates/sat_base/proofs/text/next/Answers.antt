use Rattle.sat_base.proofs.lemmas.text.Places.{moves_fresh, moves_between, moves_in_comment, moves_letter, moves_bad, moves_spoilt, moves_over}
use Rattle.sat_base.proofs.text.next.Goals as goal

pub returns-in-Between : goal.returns-in-Between
returns-in-Between c = rw c.in-Between.is (moves_between c.word_begun.result c.args.byte c.requires c.word_begun.ensures)

pub returns-in-Comment : goal.returns-in-Comment
returns-in-Comment c = rw c.in-Comment.is (moves_in_comment c.in-Comment.may c.args.byte c.requires)

pub returns-in-Letter : goal.returns-in-Letter
returns-in-Letter c = rw c.in-Letter.is (moves_letter c.in-Letter.field-0 c.args.byte c.requires)

pub returns-in-Bad : goal.returns-in-Bad
returns-in-Bad c = rw c.in-Bad.is (moves_bad c.args.byte c.requires)

pub returns-in-WrongHeader : goal.returns-in-WrongHeader
returns-in-WrongHeader c = rw c.in-WrongHeader.is (moves_spoilt c.args.byte c.requires)

pub returns-in-Over : goal.returns-in-Over
returns-in-Over c = rw c.in-Over.is (moves_over c.args.byte)

pub returns-in-Fresh : goal.returns-in-Fresh
returns-in-Fresh c = rw c.in-Fresh.is (moves_fresh c.in-Fresh.may c.line_begun.result c.args.byte c.requires c.line_begun.ensures)
