use Rattle.std.proofs.Common.{◌∙◌, ap, refl, sym}
use Rattle.sat_base.specs.device.Counting.{new_reader}
use Rattle.certify.proofs.program.opened.open.Goals as goal

pub returns-in-Ok : goal.returns-in-Ok
returns-in-Ok g c = record {
  at = refl;
  unread = c.new.ensures.reader g.R.File.Read.remaining ∙ ap (λ d. new_reader (g.R.File.Read.remaining d)) (sym c.new.ensures.device);
}
