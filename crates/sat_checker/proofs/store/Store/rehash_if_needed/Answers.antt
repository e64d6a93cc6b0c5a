use Rattle.std.proofs.Common.{arith}
use Rattle.sat_checker.proofs.lemmas.store.Rehashing.{looks_anew}
use Rattle.std.proofs.lemmas.Grind.{common_steps}
use Rattle.sat_checker.proofs.store.Store.rehash_if_needed.Goals as goal

pub returns-clause-looks : goal.returns-clause-looks
returns-clause-looks c = record {
  rise = grind (arith, common_steps);
  most = looks_anew c.args.self.now c.args.looks.now c.rehash.new.looks c.rehash.ensures.looks.most;
}
