use Rattle.std.proofs.Common.{◌++◌, take, arith}
use Rattle.std.proofs.lemmas.Result.{err_from_is_err_and}
use Rattle.sat_base.proofs.lemmas.dimacs.FaultsFound.{found_within}
use Rattle.sat_base.proofs.dimacs.faults.take_bytes.Goals as goal

pub returns-in_err-take_byte : goal.returns-in_err-take_byte
returns-in_err-take_byte c text h =
    let p = err_from_is_err_and c.from_residual.result c.from_residual.ensures.1 in
    let i = c.loop-byte.byte-index in
    let xs = c.args.bytes.now in
    rw (p.1, p.2) (found_within c.in_err-take_byte.field-0.0 text xs i _ _ (omega arith) (c.in_err-take_byte.ensures (text ++ take i xs) (c.loop-byte.invariant text h)))
