use Rattle.std.proofs.Common.{◌∙◌, ap, refl, sym}
use Rattle.sat_base.specs.device.Counting.{new_writer}
use Rattle.certify.proofs.program.opened.make.Goals as goal

pub returns-in-Ok : goal.returns-in-Ok
returns-in-Ok g c = record {
  at = refl;
  unwritten = c.new.ensures.writer g.R.File.Write.contents ∙ ap (λ d. new_writer (g.R.File.Write.contents d)) (sym c.new.ensures.device);
}
