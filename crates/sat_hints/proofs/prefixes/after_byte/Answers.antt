use Rattle.std.proofs.Common.{◌∷◌, [], Some, subst, sym}
use Rattle.sat_hints.specs.inner.Prefixes.{ReachesPlace}
use Rattle.sat_hints.specs.declared.prefixes.Place.TheVariants.{Letter}
use Rattle.sat_hints.proofs.lemmas.Reaching.{reaches_letter}
use Rattle.sat_hints.proofs.prefixes.after_byte.Goals as goal

pub returns-in-Letter-clause-reaches : goal.returns-in-Letter-clause-reaches
returns-in-Letter-clause-reaches c = rw (c.in-Letter.is, c.following_letter.ensures) (reaches_letter c.args.byte)
