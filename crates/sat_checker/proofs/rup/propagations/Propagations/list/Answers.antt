use Rattle.std.proofs.Common.{◌++◌, map, Result, Ok, Err, OnOk, sym, ◌∙◌, ap, subst, arith}
use Rattle.sat_base.specs.values.Literals.{negated}
use Rattle.sat_checker.specs.Stored.{StoredUnit, unit_literals}
use Rattle.sat_checker.specs.announcements.Needed.{conflict_causes, conflict_ids, satisfying_unit}
use Rattle.sat_checker.specs.inner.Marks.{IsIncreasing}
use Rattle.sat_checker.specs.inner.Reasons.{clauses_by_hashes}
use Rattle.sat_checker.proofs.lemmas.sets.Canonical.{canonical_increasing}
use Rattle.sat_checker.proofs.lemmas.store.Keeping.{named_same}
use Rattle.sat_checker.proofs.lemmas.announcements.Cases.{reached_conflict, none_of_signs, unit_of_literals, ids_of_conflict}
use Rattle.std.proofs.lemmas.Grind.{common_steps}
use Rattle.sat_checker.proofs.rup.propagations.Propagations.list.Goals as goal

on_ok : {A E : Type 0} (r : Result A E) (P Q : Type 0) → (P → Q) → OnOk r P → OnOk r Q
on_ok (Ok x) P Q w h = w h
on_ok (Err e) P Q w h = tt

pub has_both_signs-requires : goal.has_both_signs-requires
has_both_signs-requires c = subst IsIncreasing (sym c.requires.canonical) (canonical_increasing c.args.clause.now)

-- both signs of a variable
pub returns-then-has_both_signs-clause-listed : goal.returns-then-has_both_signs-clause-listed
returns-then-has_both_signs-clause-listed c = λ f hashes k e x i.
    c.clear.ensures.items ∙ sym (none_of_signs c.args.clause.now c.args.literals.now c.requires.canonical f hashes (sym c.has_both_signs.ensures ∙ c.if-has_both_signs.true))

-- a unit that is true
pub returns-in-Some-clause-listed : goal.returns-in-Some-clause-listed
returns-in-Some-clause-listed c = grind (arith, common_steps, unit_of_literals)

pub list_conflict-requires-clause-there : goal.list_conflict-requires-clause-there
list_conflict-requires-clause-there c =
    (reached_conflict c.args.clause.now c.args.literals.now c.requires.canonical c.args.units.now.units c.has_both_signs.result _ c.has_both_signs.ensures c.if-has_both_signs.false (sym c.true_id.ensures ∙ c.in_default.is) (c.requires.explained (sym c.is_lost.ensures ∙ c.if-is_lost.false)).1).there

pub list_conflict-requires-clause-reached : goal.list_conflict-requires-clause-reached
list_conflict-requires-clause-reached c =
    (reached_conflict c.args.clause.now c.args.literals.now c.requires.canonical c.args.units.now.units c.has_both_signs.result _ c.has_both_signs.ensures c.if-has_both_signs.false (sym c.true_id.ensures ∙ c.in_default.is) (c.requires.explained (sym c.is_lost.ensures ∙ c.if-is_lost.false)).1).reached

pub returns-clause-listed : goal.returns-clause-listed
returns-clause-listed c = on_ok c.list_conflict.result _ _
    (λ lists f hashes k e x i.
    let none = sym c.true_id.ensures ∙ c.in_default.is in
    let explained = reached_conflict c.args.clause.now c.args.literals.now c.requires.canonical c.args.units.now.units c.has_both_signs.result _ c.has_both_signs.ensures c.if-has_both_signs.false none (x (sym c.is_lost.ensures ∙ c.if-is_lost.false)) in
    let denied = map negated c.args.clause.now in
    let noted = clauses_by_hashes hashes c.args.store.now.clauses in
    lists (conflict_causes (denied ++ map (λ u. u.literal) c.args.units.now.units) noted) explained (subst (λ us. IsIncreasing (map (λ (u : StoredUnit). u.id) us)) (sym e) i)
    ∙ ap (conflict_ids denied (conflict_causes (denied ++ map (λ u. u.literal) c.args.units.now.units) noted)) e
    ∙ ap (λ us. conflict_ids denied (conflict_causes (denied ++ map (λ (u : StoredUnit). u.literal) us) noted) f.units) e
    ∙ ap (λ cs. conflict_ids denied (conflict_causes (denied ++ unit_literals f) cs) f.units) (named_same c.args.store.now f k hashes)
    ∙ sym (ids_of_conflict c.args.clause.now c.args.literals.now c.requires.canonical f hashes (sym c.has_both_signs.ensures ∙ c.if-has_both_signs.false) (ap (satisfying_unit c.args.literals.now) (sym e) ∙ none)))
    c.list_conflict.ensures.listed
