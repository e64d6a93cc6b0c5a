use Rattle.std.proofs.Common.{◌++◌, ◌∷◌, [], ◌∙◌, sym, ap, subst}
use Rattle.sat_checker.specs.Stored.{StoredUnit}
use Rattle.sat_checker.specs.inner.AssumedRoom.{LiteralsAndRoom}
use Rattle.sat_checker.specs.inner.UnitView.{UnitsAndRoom, UnitsInvariant}
use Rattle.sat_checker.proofs.lemmas.store.Units.{among_units, units_more}
use Rattle.sat_checker.proofs.units.Units.push.Goals as goal

pub invariant_of-self : goal.invariant_of-self
invariant_of-self c =
    let us = c.self.invariant in record { assumed = us.assumed; once = us.once; numbered = λ l. c.make_room.ensures.same l ∙ us.numbered l; placed = us.placed }

pub invariant_of-self-2 : goal.invariant_of-self-2
invariant_of-self-2 c =
    let us = c.self.inside.order.units in
    let unit : StoredUnit = record { id = c.args.id; literal = c.args.lit } in
    subst (λ ws. UnitsInvariant ws c.put.new.self c.put-2.new.self c.assume.new.self.literals)
    (sym (c.and-self-inside.ensures ∙ ap (λ l. us ++ (record { id = c.args.id; literal = l }) ∷ []) c.code.ensures.value))
    (units_more us unit c.self.inside.ids c.make_room.new.self c.put.new.self c.self.inside.places c.make_room-2.new.self c.put-2.new.self c.self.inside.assigned.literals c.assume.new.self.literals c.len-place.result
    c.self.invariant (among_units us c.args.self.now.units c.self.inside.ids c.self.inside.places c.self.inside.assigned.literals (ap (λ (w : UnitsAndRoom). w.units) c.self.view_is) c.self.invariant c.args.lit ∙ c.requires.new)
    c.in_ok-make_room.ensures.same c.put.ensures c.in_ok-make_room-2.ensures.same c.put-2.ensures (ap (λ (t : LiteralsAndRoom). t.literals) c.in_ok-assume.ensures.ok) c.len-place.ensures)
