use Rattle.std.proofs.Common.{refl}
use Rattle.sat_base.proofs.lemmas.dimacs.Feeding.{first_parser}
use Rattle.sat_base.proofs.dimacs.parser.Parser.new.Goals as goal

pub returns-clause-parser : goal.returns-clause-parser
returns-clause-parser c =
    first_parser _ c.new-3.ensures.0 c.new-3.ensures.1 c.new-2.ensures.formula c.new-2.ensures.unfinished c.new-2.ensures.count c.new-2.ensures.header refl c.new.ensures
