use Rattle.std.proofs.Common.{arith}
use Rattle.std.proofs.lemmas.Grind.{common_steps}
use Rattle.std.proofs.Common.{map, reverse, ap, ◌++◌, ◌∙◌, Result, Ok, Err, OnOk}
use Rattle.sat_base.specs.values.Literals.{negated}
use Rattle.sat_checker.proofs.lemmas.announcements.Marking.{none_left}
use Rattle.sat_checker.proofs.lemmas.announcements.Listing.{clauses_alone, denied_same, marked_anew}
use Rattle.sat_checker.proofs.rup.propagations.Propagations.list_conflict.Goals as goal

on_ok : {A E : Type 0} (r : Result A E) (P Q : Type 0) → (P → Q) → OnOk r P → OnOk r Q
on_ok (Ok x) P Q w h = w h
on_ok (Err e) P Q w h = tt

pub returns-clause-listed : goal.returns-clause-listed
returns-clause-listed c = grind (arith, common_steps, none_left, denied_same, marked_anew, on_ok)

pub returns-then-not-has_unit-clause-listed : goal.returns-then-not-has_unit-clause-listed
returns-then-not-has_unit-clause-listed c =
    on_ok c.list_clauses.result _ _
    (λ listed. λ whole e i.
    let followed = c.in_ok-follow_all.ensures.followed whole e in
    clauses_alone (map negated c.args.clause.now) c.follow_all.new.self.marked.literals c.follow_all.new.self.ids.items c.list_clauses.new.ids.items whole c.args.units.now.units followed.marked (c.has_unit.ensures c.if-not-has_unit.true) followed.ids
    (listed ∙ ap (λ xs. xs ++ reverse c.follow_all.new.self.ids.items) c.requires.empty))
    c.list_clauses.ensures
