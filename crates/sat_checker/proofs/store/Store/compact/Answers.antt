use Rattle.std.proofs.Common.{arith}
use Rattle.sat_checker.proofs.lemmas.store.Keeping.{length_same}
use Rattle.sat_checker.proofs.lemmas.store.Dropping.{keeps_dropped, ids_dropped}
use Rattle.sat_checker.proofs.store.Store.compact.Goals as goal

pub returns-clause-kept : goal.returns-clause-kept
returns-clause-kept c = λ f k. keeps_dropped c.args.self.now c.compact.new.self f c.compact.ensures.left k

pub returns-clause-ids : goal.returns-clause-ids
returns-clause-ids c = ids_dropped c.args.self.now.clauses c.compact.new.self c.compact.ensures.left

pub returns-clause-looks : goal.returns-clause-looks
returns-clause-looks c = record {
  rise = c.compact.ensures.looks.rise;
  most = λ f k. let same = length_same c.args.self.now f k in omega (arith, c.compact.ensures.looks.most);
}
