use Rattle.std.proofs.lemmas.Grind.{common_steps}
use Rattle.std.proofs.Common.{false, sym, ◌∙◌, arith}
use Rattle.sat_checker.specs.Looks.{stored_literal_count}
use Rattle.sat_checker.specs.inner.LookCounts.{LooksOver}
use Rattle.sat_checker.specs.inner.StoreView.{RepresentsClauses}
use Rattle.sat_checker.proofs.lemmas.store.Storing.{IsThere, is_there, inside_more, looks_one, count_there, count_none, stored_again, stored_new}
use Rattle.sat_checker.proofs.lemmas.store.Ids.{placed_again}
use Rattle.sat_checker.proofs.store.Store.store_clause.Goals as goal
use Rattle.sat_checker.proofs.store.Store.store_clause.Goals.{After-find, In-Some}

module _ (c : After-find) where
  looked : LooksOver (RepresentsClauses c.args.self.now) stored_literal_count c.args.looks.now c.find.new.looks
  looked = record { rise = c.find.ensures.looks.rise; most = looks_one c.args.self.now c.clause_hash-hash.result c.args.looks.now c.find.new.looks c.find.ensures.looks.most }

module _ (c : In-Some) where
  found : IsThere c.args.self.now.clauses c.in-Some.place
  found = is_there c.args.self.now.clauses c.args.literals.now c.clause_hash-hash.result c.in-Some.place c.in-Some.ensures.found

pub returns-in_err-push-clause-looks : goal.returns-in_err-push-clause-looks
returns-in_err-push-clause-looks c = looked (goal.at.returns-in_err-push-clause-looks c).After-find

pub returns-in_default-clause-ok : goal.returns-in_default-clause-ok
returns-in_default-clause-ok c = λ f k.
    stored_new c.args.self.now f k c.args.literals.now c.clause_hash-hash.result c.clause_hash-hash.ensures c.in_default.ensures.found c.args.redundant c.args.id c.push.new.self c.in_ok-push.ensures

pub returns-in_default-clause-looks : goal.returns-in_default-clause-looks
returns-in_default-clause-looks c = looked (goal.at.returns-in_default-clause-looks c).After-find

pub count-requires : goal.count-requires
count-requires c = (found (goal.at.count-requires c).In-Some).inside

pub returns-then-count-clause-full : goal.returns-then-count-clause-full
returns-then-count-clause-full c = grind (arith, common_steps, count_there)

pub returns-then-count-clause-looks : goal.returns-then-count-clause-looks
returns-then-count-clause-looks c = looked (goal.at.returns-then-count-clause-looks c).After-find

pub add_count-requires-clause-inside : goal.add_count-requires-clause-inside
add_count-requires-clause-inside c = (found (goal.at.add_count-requires-clause-inside c).In-Some).inside

pub add_count-requires-clause-there : goal.add_count-requires-clause-there
add_count-requires-clause-there c = (found (goal.at.add_count-requires-clause-there c).In-Some).there

pub id-requires : goal.id-requires
id-requires c = inside_more c.args.redundant c.in-Some.place c.args.self.now.clauses c.add_count.new.self (found (goal.at.id-requires c).In-Some).inside c.add_count.ensures

pub returns-clause-ok : goal.returns-clause-ok
returns-clause-ok c = λ f k.
    stored_again c.args.self.now f k c.args.literals.now c.clause_hash-hash.result c.clause_hash-hash.ensures c.in-Some.place c.in-Some.ensures.found c.args.redundant c.args.id c.id.result c.add_count.new.self c.add_count.ensures c.id.ensures

pub returns-clause-placed : goal.returns-clause-placed
returns-clause-placed c =
    placed_again c.args.self.now.clauses c.add_count.new.self c.args.redundant c.in-Some.place c.args.id c.add_count.ensures

pub returns-clause-looks : goal.returns-clause-looks
returns-clause-looks c = looked (goal.at.returns-clause-looks c).After-find

pub count-irredundant-requires : goal.count-irredundant-requires
count-irredundant-requires c = (found (goal.at.count-irredundant-requires c).In-Some).inside

pub returns-in_default-clause-counted : goal.returns-in_default-clause-counted
returns-in_default-clause-counted c = λ f k. count_none c.args.self.now f k c.args.literals.now c.clause_hash-hash.result c.clause_hash-hash.ensures c.in_default.ensures.found false

pub returns-clause-counted : goal.returns-clause-counted
returns-clause-counted c = λ f k.
    count_there c.args.self.now f k c.args.literals.now c.clause_hash-hash.result c.clause_hash-hash.ensures c.in-Some.place c.in-Some.ensures.found false ∙ sym c.count-irredundant.ensures
