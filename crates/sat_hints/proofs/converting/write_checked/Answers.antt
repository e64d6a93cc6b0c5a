use Rattle.std.proofs.Common.{[], Err, ap, refl}
use Rattle.sat_checker.specs.listeners.Receiving.{call_listeners}
use Rattle.sat_hints.proofs.lemmas.Written.{errs_written, ok_written}
use Rattle.sat_hints.proofs.converting.write_checked.Goals as goal

pub returns-in-Err : goal.returns-in-Err
returns-in-Err g c =
    let begun = call_listeners c.args.lines.now c.args.checker.now.processing in
    let k = c.in-Err.ensures.proof [] begun [] (record { kernel = c.requires.valid; heard = λ _. ([], rw c.requires.settled refl, refl) }) in
    rw c.hint_error.ensures (errs_written g.W.CountedWrite.seen _ _ begun c.requires.well c.requires.listeners c.in-Err.error _ _ _ _ c.requires.goes_on (λ h. c.in-Err.ensures.unended (ap Err h)) k)

pub returns-in-Ok : goal.returns-in-Ok
returns-in-Ok g c =
    let begun = call_listeners c.args.lines.now c.args.checker.now.processing in
    let k = c.in-Ok.ensures.proof [] begun [] (record { kernel = c.requires.valid; heard = λ _. ([], rw c.requires.settled refl, refl) }) in
    ok_written g.W.CountedWrite.seen _ _ begun c.requires.well c.requires.listeners _ _ _ _ k
