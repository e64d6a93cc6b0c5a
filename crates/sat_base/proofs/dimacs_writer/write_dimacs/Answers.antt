use Rattle.std.proofs.Common.{◌∙◌}
use Rattle.sat_base.specs.dimacs.DimacsText.{dimacs_text}
use Rattle.sat_base.specs.device.Waiting.{waiting_in}
use Rattle.sat_base.proofs.lemmas.device.KeptErrors.{puts_alike}
use Rattle.sat_base.proofs.lemmas.device.Sending.{lent_out}
use Rattle.sat_base.proofs.dimacs_writer.write_dimacs.Goals as goal

pub returns : goal.returns
returns g c =
    puts_alike c.give_error-result.result c.write_formula-written.result (dimacs_text c.args.formula.now) _ _ c.give_error-result.ensures.alike
    (lent_out g.W.CountedWrite.seen waiting_in c.args.writer.now _ c.into_writer-writer.result c.new-output.result c.write_formula-written.new.self _ (dimacs_text c.args.formula.now) c.write_formula-written.result c.writer-1.given.1 c.new-output.ensures (c.into_writer-writer.ensures ∙ c.give_error-result.ensures.writer) c.write_formula-written.ensures.sends c.write_formula-written.ensures.none)
