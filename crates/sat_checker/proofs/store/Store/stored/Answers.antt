use Rattle.std.proofs.Common.{arith}
use Rattle.sat_checker.proofs.lemmas.store.Storing.{is_there, looks_one}
use Rattle.sat_checker.proofs.lemmas.store.Looking.{none_found, one_found}
use Rattle.std.proofs.lemmas.Grind.{common_steps}
use Rattle.sat_checker.proofs.store.Store.stored.Goals as goal

pub returns-in_default-clause-found : goal.returns-in_default-clause-found
returns-in_default-clause-found c = λ f k. none_found c.args.self.now f k c.args.literals.now c.clause_hash-hash.result c.clause_hash-hash.ensures c.in_default.ensures.found

pub returns-in_default-clause-looks : goal.returns-in_default-clause-looks
returns-in_default-clause-looks c = record {
  rise = grind (arith, common_steps);
  most = looks_one c.args.self.now c.clause_hash-hash.result c.args.looks.now c.find.new.looks c.find.ensures.looks.most;
}

pub id-requires : goal.id-requires
id-requires c = (is_there c.args.self.now.clauses c.args.literals.now c.clause_hash-hash.result c.in-Some.place c.in-Some.ensures.found).inside

pub count-requires : goal.count-requires
count-requires c = (is_there c.args.self.now.clauses c.args.literals.now c.clause_hash-hash.result c.in-Some.place c.in-Some.ensures.found).inside

pub count-requires-2 : goal.count-requires-2
count-requires-2 c = (is_there c.args.self.now.clauses c.args.literals.now c.clause_hash-hash.result c.in-Some.place c.in-Some.ensures.found).inside

pub returns-clause-found : goal.returns-clause-found
returns-clause-found c = λ f k.
    one_found c.args.self.now f k c.args.literals.now c.clause_hash-hash.result c.clause_hash-hash.ensures c.in-Some.place c.in-Some.ensures.found c.id.result c.count.result c.count-2.result c.id.ensures c.count.ensures c.count-2.ensures

pub returns-clause-looks : goal.returns-clause-looks
returns-clause-looks c = record {
  rise = grind (arith, common_steps);
  most = looks_one c.args.self.now c.clause_hash-hash.result c.args.looks.now c.find.new.looks c.find.ensures.looks.most;
}
