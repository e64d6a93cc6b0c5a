use Rattle.std.proofs.Common.{◌∙◌, ap, Ok, Err}
use Rattle.std.proofs.lemmas.Result.{err_from_is_err_and}
use Rattle.sat_checker.proofs.lemmas.formula.Storing.{long_stored, long_refused}
use Rattle.sat_checker.proofs.lemmas.state.Checks.{kept_beside}
use Rattle.sat_checker.proofs.formula.Formula.store_long.Goals as goal

pub returns-in_err-placed-clause-stored : goal.returns-in_err-placed-clause-stored
returns-in_err-placed-clause-stored c = λ f k.
    let p = err_from_is_err_and c.from_residual-in_err-placed.result c.from_residual-in_err-placed.ensures.1 in
    let kept = kept_beside c.args.self.now c.make_room.new.self f c.make_room.ensures.rest k in
    long_refused c.from_residual-in_err-placed.result p.0 c.in_err-placed.field-0.0 p.1 p.2 _ c.make_room.new.self f c.args.redundant c.args.literals.now c.requires.long kept (λ e. c.store_clause.ensures.full (c.in_err-placed.was ∙ ap Err e) f kept.clauses)

pub returns-in-Ok-clause-stored : goal.returns-in-Ok-clause-stored
returns-in-Ok-clause-stored c = λ f k.
    let kept = kept_beside c.args.self.now c.make_room.new.self f c.make_room.ensures.rest k in
    long_stored {T = Unit} (Ok tt) c.make_room.new.self c.store_clause.new.self c.note_last.new.self c.take_id_if.new.self f c.args.redundant c.args.literals.now c.in_ok-placed.placed c.requires.long kept (c.in_ok-make_room.ensures.room f k) (c.in_ok-placed.ensures.ok f kept.clauses) c.in_ok-placed.ensures.placed
    c.note_last.ensures c.in-Ok.ensures
