use Rattle.std.proofs.Common.{◌++◌, map}
use Rattle.sat_base.specs.values.Literals.{negated}
use Rattle.sat_checker.specs.announcements.Needed.{conflict_causes}
use Rattle.sat_checker.specs.inner.Reasons.{clauses_by_hashes}
use Rattle.sat_checker.proofs.formula.Formula.note_propagations.Goals as goal

pub list-requires-clause-explained : goal.list-requires-clause-explained
list-requires-clause-explained c = λ whole. (conflict_causes (map negated c.args.clause.now ++ map (λ u. u.literal) c.args.self.now.units.units) (clauses_by_hashes (c.requires.explained whole).0 c.args.self.now.store.clauses), (c.requires.explained whole).1)
