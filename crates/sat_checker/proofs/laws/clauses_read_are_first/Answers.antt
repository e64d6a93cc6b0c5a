use Rattle.sat_checker.proofs.lemmas.checker.Prefixes.{settled_first, read_first}
use Rattle.sat_checker.proofs.laws.clauses_read_are_first.Goals as goal

pub returns : goal.returns
returns c = record { ended = settled_first; read = read_first }
