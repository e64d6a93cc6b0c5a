use Rattle.std.proofs.Common.{[], ◌∷◌, ◌+◌, drop}
use Rattle.std.proofs.lemmas.Result.{err_from_is_err_and}
use Rattle.sat_base.specs.dimacs.DimacsText.{clause_line, number_text}
use Rattle.sat_base.proofs.lemmas.device.Sending.{of_more, of_same, of_break, of_end}
use Rattle.sat_base.proofs.lemmas.dimacs.TextWrites.{next_literal, last_literal}
use Rattle.sat_base.proofs.device.output.Output.put_clause.Goals as goal

pub loop-lit-preserved : goal.loop-lit-preserved
loop-lit-preserved g c =
    let x = c.lit-item.result in
    of_more _ (32 ∷ []) _ _ _ _ (of_more _ (number_text x) _ _ _ _ (of_same _ _ _ _ _ (next_literal c.args.lits.now c.loop-lit.lit-index x x c.loop-lit-test.true c.lit-item.is) c.loop-lit.invariant) c.in_ok-put_literal.ensures) c.in_ok-put.ensures

pub returns-in_err-put_literal : goal.returns-in_err-put_literal
returns-in_err-put_literal g c =
    let x = c.lit-item.result in
    rw (err_from_is_err_and c.from_residual.result c.from_residual.ensures.1).1
    (of_break (clause_line c.args.lits.now) (number_text x) _ _ _ _ (of_same _ _ _ _ _ (next_literal c.args.lits.now c.loop-lit.lit-index x x c.loop-lit-test.true c.lit-item.is) c.loop-lit.invariant) c.in_err-put_literal.ensures)

pub returns-in_err-put : goal.returns-in_err-put
returns-in_err-put g c =
    let x = c.lit-item.result in
    rw (err_from_is_err_and c.from_residual-in_err-put.result c.from_residual-in_err-put.ensures.1).1
    (of_break (clause_line c.args.lits.now) (32 ∷ []) _ _ _ _
    (of_more _ (number_text x) (32 ∷ clause_line (drop (c.loop-lit.lit-index + 1) c.args.lits.now)) _ _ _ (of_same _ _ _ _ _ (next_literal c.args.lits.now c.loop-lit.lit-index x x c.loop-lit-test.true c.lit-item.is) c.loop-lit.invariant) c.in_ok-put_literal.ensures) c.in_err-put.ensures)

pub returns : goal.returns
returns g c = of_end (clause_line c.args.lits.now) (48 ∷ 10 ∷ []) _ _ _ c.put_all.result (of_same _ _ _ _ _ (last_literal c.args.lits.now c.loop-lit.lit-index c.loop-lit-test.false) c.loop-lit.invariant) c.put_all.ensures
