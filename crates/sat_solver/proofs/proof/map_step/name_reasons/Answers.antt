use Rattle.std.proofs.Common.{◌≡◌, ◌∙◌, ap, sym, get_or, arith}
use Rattle.std.proofs.lemmas.List.{get_or_read}
use Rattle.sat_parts.specs.prop.State.{node}
use Rattle.sat_parts.specs.parts.Whole.{state}
use Rattle.sat_solver.proofs.proof.map_step.name_reasons.Goals as goal

pub reason_hash-requires-clause-clause : goal.reason_hash-requires-clause-clause
reason_hash-requires-clause-clause c = λ o e.
    let at : c.lit-item.result ≡ get_or c.args.used.now c.loop-lit.lit-index 0 = get_or_read c.args.used.now c.loop-lit.lit-index c.lit-item.result (omega arith) c.lit-item.is 0 in
    c.requires.clause c.loop-lit.lit-index o (omega arith) (ap (λ l. (node (state c.args.parts.now) l).reason) (sym at) ∙ e)
