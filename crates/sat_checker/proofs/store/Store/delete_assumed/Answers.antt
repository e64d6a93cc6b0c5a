use Rattle.std.proofs.Common.{◌≡◌, true, sym, ap, subst, ◌∙◌, arith}
use Rattle.sat_checker.specs.LiteralSets.{canonical, same_literals}
use Rattle.sat_checker.specs.Looks.{stored_literal_count}
use Rattle.sat_checker.specs.inner.LookCounts.{LooksOver}
use Rattle.sat_checker.specs.inner.Marks.{IsIncreasing}
use Rattle.sat_checker.specs.inner.SlotView.{slot_ids, literals_at}
use Rattle.sat_checker.specs.inner.StoreView.{RepresentsClauses}
use Rattle.sat_checker.proofs.lemmas.state.Living.{at_place}
use Rattle.sat_checker.proofs.lemmas.store.Assumed.{times_assumed, first_filed, first_length, count_of_first, deleted_first}
use Rattle.sat_checker.proofs.lemmas.store.Ids.{ids_taken}
use Rattle.sat_checker.proofs.lemmas.store.Storing.{looks_one}
use Rattle.sat_checker.proofs.store.Store.delete_assumed.Goals as goal
use Rattle.sat_checker.proofs.store.Store.delete_assumed.Goals.{After-literals, After-has_just_assumed}

-- one clause was looked at
module _ (c : After-literals) where
  looked : LooksOver (RepresentsClauses c.args.self.now) stored_literal_count c.args.looks.now c.literals.new.looks
  looked = record {
    rise = omega (arith, c.literals.ensures.looks);
    most = looks_one c.args.self.now c.clause_hash-hash.result c.args.looks.now c.literals.new.looks (omega (arith, c.literals.ensures.looks, first_length c.args.self.now.clauses c.clause_hash-hash.result c.in-Some.place c.in-Some.ensures));
  }

-- its literals are the assumed ones
module _ (c : After-has_just_assumed) (e : c.has_just_assumed.result ≡ true) where
  same : same_literals (literals_at c.args.self.now.clauses c.in-Some.place) (canonical c.args.assigned.now.literals) ≡ true
  same = ap (λ ls. same_literals ls (canonical c.args.assigned.now.literals)) (sym c.literals.ensures.lent) ∙ sym c.has_just_assumed.ensures ∙ e

pub literals-requires : goal.literals-requires
literals-requires c = (first_filed c.args.self.now.clauses c.clause_hash-hash.result c.in-Some.place c.in-Some.ensures).inside

pub has_just_assumed-requires : goal.has_just_assumed-requires
has_just_assumed-requires c =
    subst IsIncreasing (sym c.literals.ensures.lent) (at_place c.args.self.now.clauses c.in-Some.place c.len-count.ensures.increasing (first_filed c.args.self.now.clauses c.clause_hash-hash.result c.in-Some.place c.in-Some.ensures).inside)

pub returns-then-not-has_just_assumed-clause-looks : goal.returns-then-not-has_just_assumed-clause-looks
returns-then-not-has_just_assumed-clause-looks c = looked (goal.at.returns-then-not-has_just_assumed-clause-looks c).After-literals

pub count-requires : goal.count-requires
count-requires c = (first_filed c.args.self.now.clauses c.clause_hash-hash.result c.in-Some.place c.in-Some.ensures).inside

pub returns-then-count-eq0-clause-looks : goal.returns-then-count-eq0-clause-looks
returns-then-count-eq0-clause-looks c = looked (goal.at.returns-then-count-eq0-clause-looks c).After-literals

pub take_count-requires-clause-literals : goal.take_count-requires-clause-literals
take_count-requires-clause-literals c = λ l.
    times_assumed l c.literals-literals.result.now c.args.assigned.now.literals (literals_at c.args.self.now.clauses c.in-Some.place) c.literals-literals.ensures.lent c.literals-literals.ensures.once
    (at_place c.args.self.now.clauses c.in-Some.place c.len-count.ensures.increasing (first_filed c.args.self.now.clauses c.clause_hash-hash.result c.in-Some.place c.in-Some.ensures).inside)
    (same (goal.at.take_count-requires-clause-literals c).After-has_just_assumed c.if-not-has_just_assumed.false)

pub returns-clause-deleted : goal.returns-clause-deleted
returns-clause-deleted c = λ f k.
    let e = same (goal.at.returns-clause-deleted c).After-has_just_assumed c.if-not-has_just_assumed.false in
    let set = canonical c.args.assigned.now.literals in
    let there = count_of_first c.args.self.now set c.clause_hash-hash.result c.in-Some.place c.in-Some.ensures e f k true in (
      omega (arith, there, c.count.ensures, c.if-count-eq0.false),
      deleted_first c.args.self.now set c.clause_hash-hash.result c.in-Some.place c.in-Some.ensures e f k true c.take_count.new.self c.take_count.ensures,
    )

pub returns-clause-ids : goal.returns-clause-ids
returns-clause-ids c = ap slot_ids c.take_count.ensures ∙ ids_taken true c.in-Some.place c.args.self.now.clauses

pub returns-clause-looks : goal.returns-clause-looks
returns-clause-looks c = looked (goal.at.returns-clause-looks c).After-literals
