use Rattle.std.proofs.Common.{ap, sym, ◌∙◌, is_some, arith}
use Rattle.sat_store.specs.variables.Maps.{target}
use Rattle.sat_solver.proofs.lemmas.variables.RoomLemmas.{says_never, says_hidden, fits_used}
use Rattle.sat_solver.proofs.variables.room.has_room_for.Goals as goal

pub returns-then-index-used : goal.returns-then-index-used
returns-then-index-used c = says_never c.args.variables.now c.args.user c.index-then-index-used.result c.name_count-used.result c.unused_count-left.result
    (let a = c.if-index-used.true in let i = c.index.ensures.value in let u = c.name_count-used.ensures in omega arith) c.index-then-index-used.ensures.value c.name_count-used.ensures c.unused_count-left.ensures

pub returns-then-is_some : goal.returns-then-is_some
returns-then-is_some c = fits_used c.args.variables.now c.args.user c.requires (let a = c.if-index-used.false in let i = c.index.ensures.value in let u = c.name_count-used.ensures in omega arith)
    (ap is_some (sym (c.get.ensures ∙ ap (λ m. target m c.args.user) c.fwd.ensures.map)) ∙ sym c.is_some.ensures ∙ c.if-is_some.true)

pub returns : goal.returns
returns c = says_hidden c.args.variables.now c.args.user c.unused_count-left.result (let a = c.if-index-used.false in let i = c.index.ensures.value in let u = c.name_count-used.ensures in omega arith)
    (ap is_some (sym (c.get.ensures ∙ ap (λ m. target m c.args.user) c.fwd.ensures.map)) ∙ sym c.is_some.ensures ∙ c.if-is_some.false) c.unused_count-left.ensures
