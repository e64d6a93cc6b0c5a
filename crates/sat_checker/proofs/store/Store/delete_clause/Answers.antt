use Rattle.std.proofs.Common.{arith, ap, ◌∙◌}
use Rattle.sat_checker.proofs.lemmas.store.Storing.{is_there, looks_one, count_there, count_none, deleted_one}
use Rattle.sat_checker.specs.inner.OccurrenceView.{times_in}
use Rattle.sat_checker.specs.inner.SlotView.{slot_ids, places_of}
use Rattle.sat_checker.proofs.lemmas.store.Looking.{literals_there}
use Rattle.sat_checker.proofs.lemmas.store.Ids.{ids_taken}
use Rattle.std.proofs.lemmas.Grind.{common_steps}
use Rattle.sat_checker.proofs.store.Store.delete_clause.Goals as goal

pub returns-in_default-clause-deleted : goal.returns-in_default-clause-deleted
returns-in_default-clause-deleted c = grind (arith, common_steps, count_none)

pub returns-in_default-clause-looks : goal.returns-in_default-clause-looks
returns-in_default-clause-looks c = record {
  rise = grind (arith, common_steps);
  most = looks_one c.args.self.now c.clause_hash-hash.result c.args.looks.now c.find.new.looks c.find.ensures.looks.most;
}

pub count-requires : goal.count-requires
count-requires c = (is_there c.args.self.now.clauses c.args.literals.now c.clause_hash-hash.result c.in-Some.place c.in-Some.ensures.found).inside

pub returns-then-count-eq0-clause-deleted : goal.returns-then-count-eq0-clause-deleted
returns-then-count-eq0-clause-deleted c = grind (arith, common_steps, count_there)

pub returns-then-count-eq0-clause-looks : goal.returns-then-count-eq0-clause-looks
returns-then-count-eq0-clause-looks c = record {
  rise = grind (arith, common_steps);
  most = looks_one c.args.self.now c.clause_hash-hash.result c.args.looks.now c.find.new.looks c.find.ensures.looks.most;
}

pub returns-clause-deleted : goal.returns-clause-deleted
returns-clause-deleted c = grind (arith, common_steps, count_there, deleted_one)

pub returns-clause-ids : goal.returns-clause-ids
returns-clause-ids c = ap slot_ids c.take_count.ensures ∙ ids_taken c.args.redundant c.in-Some.place c.args.self.now.clauses

pub returns-clause-looks : goal.returns-clause-looks
returns-clause-looks c = record {
  rise = grind (arith, common_steps);
  most = looks_one c.args.self.now c.clause_hash-hash.result c.args.looks.now c.find.new.looks c.find.ensures.looks.most;
}

pub take_count-requires-clause-literals : goal.take_count-requires-clause-literals
take_count-requires-clause-literals c = λ l. ap (times_in l) (literals_there c.args.self.now.clauses c.args.literals.now c.in-Some.place (places_of c.clause_hash-hash.result c.args.self.now.clauses) c.in-Some.ensures.found)
