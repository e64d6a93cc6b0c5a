use Rattle.std.proofs.Common.{◌+◌, ◌∷◌, [], take, drop, get_or, arith}
use Rattle.std.proofs.lemmas.Result.{err_from_is_err_and}
use Rattle.sat_base.specs.dimacs.ParserPlaces.{progress_of}
use Rattle.sat_base.proofs.lemmas.dimacs.Feeding.{feeds_err, sound_text, split_at}
use Rattle.sat_base.proofs.dimacs.parser.Parser.feed.Goals as goal

pub returns-in_err-push-clause-answer : goal.returns-in_err-push-clause-answer
returns-in_err-push-clause-answer c =
    let p = err_from_is_err_and c.from_residual.result c.from_residual.ensures.1 in
    let i = c.loop-byte.byte-index in
    let xs = c.args.piece.now in
    rw (p.1, p.2) (feeds_err c.in_err-push.field-0.0 (take i xs) (get_or xs i 0 ∷ []) (drop (i + 1) xs) xs (progress_of c.args.self.now) (progress_of c.loop-byte.self) (progress_of c.push.new.self) (split_at xs i (omega arith)) c.if-self.false c.loop-byte.invariant.fed c.in_err-push.ensures.answer)

pub returns-clause-sound : goal.returns-clause-sound
returns-clause-sound c = sound_text c.loop-byte.self (c.loop-byte.invariant.parser.goes c.loop-byte.invariant.goes)
