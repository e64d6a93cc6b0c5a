use Rattle.std.proofs.Common.{ℕ, ◌≡◌, ◌∙◌, false, map, ap}
use Rattle.sat_checker.specs.LiteralSets.{is_among}
use Rattle.sat_checker.specs.Stored.{StoredUnit}
use Rattle.sat_checker.specs.inner.Reasons.{ExplainsCheck}
use Rattle.sat_checker.specs.inner.AssumedRoom.{LiteralsAndRoom, signed}
use Rattle.sat_checker.specs.inner.UnitView.{UnitsAndRoom}
use Rattle.sat_checker.proofs.lemmas.announcements.Listing.{explained_units}
use Rattle.sat_checker.proofs.lemmas.store.Keeping.{checked, short_checked, under_premise}
use Rattle.sat_checker.proofs.lemmas.store.Units.{among_units, checked_units, short_units}
use Rattle.sat_checker.proofs.units.Units.check_clause.Goals as goal

pub returns-clause-exact : goal.returns-clause-exact
returns-clause-exact c =
    let same = λ (l : ℕ). ap (λ (t : LiteralsAndRoom). is_among t.literals l) c.allow.ensures
    ∙ among_units c.self.inside.order.units c.args.self.now.units c.self.inside.ids c.self.inside.places c.self.inside.assigned.literals (ap (λ (w : UnitsAndRoom). w.units) c.self.view_is) c.self.invariant l in
    checked_units c.check_clause_with_hashes-answer.result c.args.store.now c.args.self.now.units c.args.self.now.room c.allow.new.self.room c.allow.new.self.literals (signed c.args.negate c.args.literals.now) c.args.hashes.now same
    (ap (λ (t : LiteralsAndRoom). t.room) c.allow.ensures ∙ ap (λ (w : UnitsAndRoom). w.room) c.self.view_is)
    (checked c.check_clause_with_hashes-answer.result c.args.store.now c.allow.new.self.room c.allow.new.self.literals (signed c.args.negate c.args.literals.now) c.args.hashes.now c.check_clause_with_hashes-answer.ensures.exact)

pub returns-clause-short : goal.returns-clause-short
returns-clause-short c =
    short_units c.check_clause_with_hashes-answer.result c.args.store.now c.args.self.now.room c.allow.new.self.room (ap (λ (t : LiteralsAndRoom). t.room) c.allow.ensures ∙ ap (λ (w : UnitsAndRoom). w.room) c.self.view_is)
    (short_checked c.check_clause_with_hashes-answer.result c.args.store.now c.allow.new.self.room c.check_clause_with_hashes-answer.ensures.short)

pub returns-clause-explained : goal.returns-clause-explained
returns-clause-explained c =
    let same = λ (l : ℕ). ap (λ (t : LiteralsAndRoom). is_among t.literals l) c.allow.ensures
    ∙ among_units c.self.inside.order.units c.args.self.now.units c.self.inside.ids c.self.inside.places c.self.inside.assigned.literals (ap (λ (w : UnitsAndRoom). w.units) c.self.view_is) c.self.invariant l in
    let clause = signed c.args.negate c.args.literals.now in
    let notes = c.check_clause_with_hashes-answer.new.passed in
    under_premise c.check_clause_with_hashes-answer.result (notes.lost ≡ false) (ExplainsCheck c.args.store.now.clauses notes c.allow.new.self.literals clause c.args.hashes.now)
    (ExplainsCheck c.args.store.now.clauses notes (map (λ (u : StoredUnit). u.literal) c.args.self.now.units) clause c.args.hashes.now)
    (explained_units c.check_clause_with_hashes-answer.result c.args.store.now.clauses notes c.args.self.now.units c.allow.new.self.literals clause c.args.hashes.now same) c.check_clause_with_hashes-answer.ensures.explained
