use Rattle.std.proofs.Common.{arith}
use Rattle.std.proofs.lemmas.Grind.{common_steps}
use Rattle.std.proofs.Common.{[], ◌∷◌, ◌+◌, decimal, ap, ◌∙◌, ℕ}
use Rattle.std.proofs.lemmas.Result.{err_from_is_err_and}
use Rattle.sat_base.specs.device.Sink.{sink_of}
use Rattle.sat_base.specs.dimacs.DimacsText.{number_text}
use Rattle.sat_base.proofs.lemmas.device.Sending.{stops_same, sends_same, sends_more}
use Rattle.sat_base.proofs.lemmas.dimacs.TextWrites.{negative_text}
use Rattle.sat_base.proofs.device.output.Output.put_literal.Goals as goal

pub returns-in_err-put : goal.returns-in_err-put
returns-in_err-put g c =
    let S = g.W.CountedWrite.seen in
    let p = err_from_is_err_and c.from_residual.result c.from_residual.ensures.1 in
    rw p.1 (stops_same (sink_of S g.P.Room.waiting c.args.self.now) (sink_of S g.P.Room.waiting c.put.new.self) (45 ∷ []) (decimal (c.index.result + 1)) (number_text c.args.lit) (ap (λ (n : ℕ). 45 ∷ decimal (n + 1)) c.index.ensures.value ∙ negative_text c.args.lit c.is_positive.result c.is_positive.ensures c.if-is_positive.false) c.in_err-put.ensures)

pub returns : goal.returns
returns g c = grind (arith, common_steps, sends_same, sends_more, negative_text)
