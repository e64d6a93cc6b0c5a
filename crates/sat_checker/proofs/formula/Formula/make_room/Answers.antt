use Rattle.std.proofs.Common.{ℕ, ◌+◌, ◌∷◌, drop, sym, ap, subst, ◌∙◌}
use Rattle.std.proofs.lemmas.List.{drop_more, drop_all}
use Rattle.std.specs.List.{list_any}
use Rattle.sat_base.specs.values.Literals.{negated}
use Rattle.sat_checker.specs.LiteralSets.{is_among}
use Rattle.sat_checker.specs.inner.AssumedRoom.{HasClauseRoom}
use Rattle.sat_checker.specs.inner.SlotView.{live_clauses}
use Rattle.sat_checker.specs.declared.store.Store.{Store}
use Rattle.sat_checker.proofs.lemmas.sets.Rooms.{stays_further}
use Rattle.sat_checker.proofs.lemmas.state.Rooms.{stored_literal}
use Rattle.sat_checker.proofs.formula.Formula.make_room.Goals as goal

pub loop-lit-preserved-then-have_literal : goal.loop-lit-preserved-then-have_literal
loop-lit-preserved-then-have_literal c =
    let x = c.lit-item.result in
    let i : ℕ = c.loop-lit.lit-index in
    let split = drop_more c.args.literals.now i x c.loop-lit-test.true ∙ ap (λ y. y ∷ drop (i + 1) c.args.literals.now) (sym c.lit-item.is) in
    let among = ap (λ (s : Store). list_any (λ d. is_among d.literals c.lit-item.result) (live_clauses s.clauses)) (sym c.loop-lit.invariant.rest.store) ∙ c.have_literal.ensures c.if-have_literal.true in
    record {
      units = λ f k room stays h.
          let there = stored_literal c.args.self.now.units.room x f.clauses k.room (ap (list_any (λ d. is_among d.literals c.lit-item.result)) (sym k.clauses.clauses) ∙ among) in
          c.loop-lit.invariant.units f k room stays (subst (HasClauseRoom room) (sym split) ((stays x (c.loop-lit.invariant.rest.room x there.0), stays (negated x) (c.loop-lit.invariant.rest.room (negated x) there.1)), h));
      marks = λ f k room stays h.
          let there = stored_literal c.args.self.now.marks.room x f.clauses k.marks (ap (list_any (λ d. is_among d.literals c.lit-item.result)) (sym k.clauses.clauses) ∙ among) in
          c.loop-lit.invariant.marks f k room stays (subst (HasClauseRoom room) (sym split) ((stays x (c.loop-lit.invariant.rest.marks x there.0), stays (negated x) (c.loop-lit.invariant.rest.marks (negated x) there.1)), h));
      rest = c.loop-lit.invariant.rest;
    }

pub loop-lit-preserved : goal.loop-lit-preserved
loop-lit-preserved c =
    let x = c.lit-item.result in
    let i : ℕ = c.loop-lit.lit-index in
    let old = c.loop-lit.self in
    let new = c.make_new_room.new.self in
    let beside = c.make_new_room.ensures.rest in
    let was = c.loop-lit.invariant.rest in
    let room = c.in_ok-make_new_room.ensures.room in
    let split = drop_more c.args.literals.now i x c.loop-lit-test.true ∙ ap (λ y. y ∷ drop (i + 1) c.args.literals.now) (sym c.lit-item.is) in
    record {
      units = λ f k all stays h.
          c.loop-lit.invariant.units f k all (stays_further old.units.room new.units.room all beside.room stays) (subst (HasClauseRoom all) (sym split) ((stays x room.0.0.0, stays (negated x) room.0.0.1), h));
      marks = λ f k all stays h.
          c.loop-lit.invariant.marks f k all (stays_further old.marks.room new.marks.room all beside.marks stays) (subst (HasClauseRoom all) (sym split) ((stays x room.1.0.0, stays (negated x) room.1.0.1), h));
      rest = record {
        store = beside.store ∙ was.store;
        status = beside.status ∙ was.status;
        units = beside.units ∙ was.units;
        room = stays_further c.args.self.now.units.room old.units.room new.units.room was.room beside.room;
        marks = stays_further c.args.self.now.marks.room old.marks.room new.marks.room was.marks beside.marks;
      };
    }

pub returns-clause-room : goal.returns-clause-room
returns-clause-room c = λ f k.
    let over = drop_all c.loop-lit.lit-index c.args.literals.now c.loop-lit-test.false in (
      c.loop-lit.invariant.units f k c.loop-lit.self.units.room (λ l h. h) (subst (HasClauseRoom c.loop-lit.self.units.room) (sym over) tt),
      c.loop-lit.invariant.marks f k c.loop-lit.self.marks.room (λ l h. h) (subst (HasClauseRoom c.loop-lit.self.marks.room) (sym over) tt),
    )
