use Rattle.std.proofs.Common.{refl}
use Rattle.sat_hints.proofs.lemmas.Listed.{loses}
use Rattle.sat_hints.proofs.present.Present.take_out.Goals as goal

pub returns : goal.returns
returns c = loses c.args.self.now _ c.args.place c.requires.store c.requires.within refl refl refl
