use Rattle.std.proofs.Common.{◌∙◌, sym}
use Rattle.sat_base.specs.steps.StepViews.{deletion_of}
use Rattle.sat_checker.proofs.lemmas.state.InRoom.{refused, no_room, within_room}
use Rattle.sat_checker.proofs.lemmas.state.Checks.{kept_beside}
use Rattle.sat_checker.proofs.formula.Formula.may_delete_in_room.Goals as goal

pub returns-then-not-have_room-clause-exact : goal.returns-then-not-have_room-clause-exact
returns-then-not-have_room-clause-exact c = λ f k. refused f c.args.clause.now (deletion_of c.args.proof) (no_room c.args.self.now.marks.room c.args.clause.now f.clauses (sym c.if-not-have_room.ensures) k.marks)

pub may_delete_marked-requires : goal.may_delete_marked-requires
may_delete_marked-requires c = λ l. c.mark_in_room.ensures.marked l ∙ within_room c.args.self.now.marks.room c.args.clause.now l (sym c.if-not-have_room.ensures)

pub returns-clause-exact : goal.returns-clause-exact
returns-clause-exact c = λ f k. c.may_delete_marked.ensures.exact f (kept_beside c.args.self.now c.mark_in_room.new.self f c.mark_in_room.ensures.rest k)

pub returns-clause-looks : goal.returns-clause-looks
returns-clause-looks c = record { rise = c.may_delete_marked.ensures.looks.rise; most = λ f k. c.may_delete_marked.ensures.looks.most f (kept_beside c.args.self.now c.mark_in_room.new.self f c.mark_in_room.ensures.rest k) }
