use Rattle.sat_base.proofs.lemmas.dimacs.WrittenIsRead.{written_is_read}
use Rattle.sat_base.proofs.law_dimacs.written_dimacs_is_read.Goals as goal

pub returns : goal.returns
returns c = written_is_read
